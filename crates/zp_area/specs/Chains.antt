-- Blocks that are added and removed one after another: what a split leaves, and what a join does (Knowlton 1965). The largest block has
-- order m.
use Rattle.std.specs.Prelude.{ℕ, suc, zero, ◌+◌, ◌-◌, ◌^◌, ◌≡◌, ◌<◌, cond, ltb}
use Rattle.zp_model.specs.declared.state.State.TheVariants.{Free}
use Rattle.zp_model.specs.Block.{IsBuddy}
use Rattle.zp_model.specs.Rows.{state_at}
use Rattle.zp_area.specs.Blocks.{Blocks, added, removed}

-- with d high halves of blocks at h, the last of order k: those of orders k + d - 1 down to k, in this order
abbrev pub halves_added : ℕ → Blocks → ℕ → ℕ → ℕ → Blocks
halves_added m a h k zero = a
halves_added m a h k (suc d) = halves_added m (added m a (h + 2 ^ (k + d)) (k + d)) h k d

-- without the block (h, o), and with the high halves that splitting it down to order k leaves: its low part of order k is in no block
abbrev pub split_off : ℕ → Blocks → ℕ → ℕ → ℕ → Blocks
split_off m a h o k = halves_added m (removed m a h o) h k (o - k)

-- with what is left of the block (h, o), which is not in the set, when its n lowest pages have left it. Where none has, that is the block. Where its low half
-- had more pages than have left, it is the high half, which comes first, and what is left of the low one; and else what is left of the high one
abbrev pub rest_added : ℕ → Blocks → ℕ → ℕ → ℕ → Blocks
rest_added m a h zero zero = added m a h zero
rest_added m a h zero (suc n) = a
rest_added m a h (suc o) zero = added m a h (suc o)
rest_added m a h (suc o) (suc n) =
    cond (ltb (suc n) (2 ^ o)) (rest_added m (added m a (h + 2 ^ o) o) h o (suc n)) (rest_added m a (h + 2 ^ o) o (suc n - 2 ^ o))

-- without the block (h, o), and with what is left of it when its n lowest pages have left
abbrev pub pages_split_off : ℕ → Blocks → ℕ → ℕ → ℕ → Blocks
pages_split_off m a h o n = rest_added m (removed m a h o) h o n

-- the block (b, j) has the free buddy c, and d is the head of their double
pub record IsJoinable (m : ℕ) (a : Blocks) (b j c d : ℕ) : Type 0 where
  pub order : j < m
  pub buddy : IsBuddy b j c d
  pub free : state_at a.rows.states c ≡ Free j

-- n is a with the block (b, j), which is joined with free buddies so many times, and then has none: each buddy leaves the set, and what
-- the block has grown to is added
abbrev pub IsJoinedUp : ℕ → ℕ → Blocks → ℕ → ℕ → Blocks → Type 0
IsJoinedUp zero m a b j n = (n ≡ added m a b j) × ((c d : ℕ) → IsJoinable m a b j c d → ⊥)
IsJoinedUp (suc i) m a b j n = (c : ℕ) × (d : ℕ) × IsJoinable m a b j c d × IsJoinedUp i m (removed m a c j) d (j + 1) n
