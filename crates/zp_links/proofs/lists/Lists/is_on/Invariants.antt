use Rattle.std.proofs.Common.{◌≡◌, ◌<◌, ℕ, slice_get}
use Rattle.zp_model.specs.Rows.{list_at}
use Rattle.zp_links.specs.Linked.{At}
use Rattle.zp_links.proofs.lists.Lists.is_on.Given as goal

abbrev pub invariant-loop-place : goal.invariant-loop-place
invariant-loop-place l =
    (l.next ≡ slice_get (list_at l.self.lists l.list) l._place) × ((k : ℕ) → k < l._place → At l.self.lists l.list k l.at → ⊥)
