-- Splitting and joining leave the order of the largest block as it is.
use Rattle.std.proofs.Common.{ℕ, zero, suc, ◌+◌, ◌^◌, ◌≡◌, refl, ap}
use Rattle.zp_area.specs.Blocks.{Blocks, added, removed}
use Rattle.zp_area.specs.Chains.{halves_added, IsJoinedUp}

pub largest-halves : (m : ℕ) (a : Blocks) (h k d : ℕ) → (halves_added m a h k d).largest ≡ a.largest
largest-halves m a h k zero = refl
largest-halves m a h k (suc d) = largest-halves m (added m a (h + 2 ^ (k + d)) (k + d)) h k d

pub largest-joined : (i m : ℕ) (a : Blocks) (b j : ℕ) (n : Blocks) → IsJoinedUp i m a b j n → n.largest ≡ a.largest
largest-joined zero m a b j n x = ap (λ (q : Blocks). q.largest) x.0
largest-joined (suc i) m a b j n x = largest-joined i m (removed m a x.0 j) x.1 (j + 1) n x.3
