-- Requests for runs, block by block: a run is taken by the blocks of its cut, and given back by the blocks that it was lent in.
use Rattle.std.specs.Prelude.{ℕ, ◌+◌, ◌-◌, ◌^◌, ◌≡◌, ◌≤◌, true, List, [], ◌∷◌, Some}
use Rattle.zp_model.specs.declared.migrate_type.MigrateType.{MigrateType}
use Rattle.zp_model.specs.Area.{kind_at}
use Rattle.zp_model.specs.Books.{own}
use Rattle.zp_model.specs.Lawful.{IsLawful}
use Rattle.zp_model.specs.PageblockType.{noted_type}
use Rattle.zp_model.specs.Runs.{block_around, cut, give_run, hand_out_run, is_lent_run, run_freed, run_taken}
use Rattle.zp_model.specs.Take.{leave}
use Rattle.zp_model.specs.Zone.{PlainZone, Holding, hand_out, take_back}

-- blocks leave the free pages and go out in w's name, one after the other, each with its type by its head
abbrev pub take_blocks : PlainZone → ℕ → (ℕ → MigrateType) → List (ℕ × ℕ) → PlainZone
take_blocks z w kind [] = z
take_blocks z w kind (b ∷ bs) = take_blocks (hand_out (record z { area = leave z.area b.0 b.1 }) w b.0 b.1 (kind b.0)) w kind bs

-- a run is taken by the blocks of its cut, in rising order, each with its pageblock's type
abbrev pub RunsTakenByCut : Type 0
RunsTakenByCut =
    (z : PlainZone) (w h n : ℕ) → IsLawful z →
    take_blocks z w (λ g. noted_type (kind_at z.area.largest z.area.kinds g)) (cut z.area.largest h n) ≡ run_taken z w h n

-- the n pages from page h on, of the block (g, x) that is out, become free: the block is out no more, and what it has before and behind them is, for its type
abbrev pub part_freed : PlainZone → ℕ → ℕ → Holding → ℕ → ℕ → PlainZone
part_freed z w g x h n =
    hand_out_run (hand_out_run (take_back (record z { area = give_run z.area h n }) g) w (λ f. x.kind) g (h - g)) w (λ f. x.kind) (h + n) (g + 2 ^ x.order - (h + n))

-- a run that lies in one block is freed so
abbrev pub RunsFreedInBlock : Type 0
RunsFreedInBlock =
    (z : PlainZone) (w h n : ℕ) (b : ℕ × Holding) → IsLawful z → 1 ≤ n → block_around z w h ≡ Some b → h + n ≤ b.0 + 2 ^ b.1.order →
    run_freed z w h n ≡ part_freed z w b.0 b.1 h n

-- and a longer one in two parts, the lower one first, where a block ends between them: so block by block
abbrev pub RunsFreedInParts : Type 0
RunsFreedInParts =
    (z : PlainZone) (w h n k : ℕ) (b : ℕ × Holding) → IsLawful z → 1 ≤ n → 1 ≤ k → is_lent_run z w h (n + k) ≡ true → block_around z w (h + n - 1) ≡ Some b →
    b.0 + 2 ^ b.1.order ≡ h + n → run_freed (run_freed z w h n) w (h + n) k ≡ run_freed z w h (n + k)

-- what is out in w's name when it gives back a run is told by what was out in w's name alone
abbrev pub FreedRunsTellTheirPart : Type 0
FreedRunsTellTheirPart =
    (z : PlainZone) (w h n : ℕ) → own w (run_freed z w h n).out ≡ (run_freed (record z { out = own w z.out }) w h n).out
