use Rattle.std.proofs.Common.{ℕ, ◌≡◌, ◌≤◌, inl, inr, ap, sym, ◌∙◌, Option, None, Some, IfSome}
use Rattle.std.proofs.lemmas.Bool.{cases_lt, false≢true}
use Rattle.zp_model.specs.declared.pageblock_type.PageblockType.{PageblockType}
use Rattle.zp_model.specs.Area.{kind_at, list_number}
use Rattle.zp_model.specs.BlockSet.{Starts}
use Rattle.zp_model.specs.Rows.{IsOn, stands_in}
use Rattle.zp_area.specs.Blocks.{Blocks, block_set, free_lists}
use Rattle.zp_area.specs.OneSet.{IsOneSet}
use Rattle.zp_area.specs.KeptSets.{set_of}
use Rattle.zp_area.proofs.Claimable.{list_past}
use Rattle.zp_area.proofs.Listing.{listed_starts}
use Rattle.zp_area.proofs.area.FreeArea.after.Goals.{After-after}
use Rattle.zp_area.proofs.area.FreeArea.after.Goals as goal

-- a free list on which a page stands is of an order that a block can have
order_within : (m : ℕ) (a : Blocks) (o h : ℕ) (t : PageblockType) → IsOneSet m a → IsOn (free_lists m a) (list_number o t) h → o ≤ m
order_within m a o h t x on = elim (cases_lt m o) [
  | inl past ↦ absurd (false≢true (ap (stands_in h) (sym (list_past m a x o t past)) ∙ on))
  | inr within ↦ within
]

-- and the page after it heads a block of the order, in a pageblock of the type
held : (m : ℕ) (a : Blocks) (o : ℕ) (t : PageblockType) (r : Option ℕ) → IsOneSet m a → o ≤ m → IfSome r (IsOn a.rows.lists (list_number o t)) →
    IfSome r (λ h. Starts (block_set a) h o × (kind_at m a.kinds h ≡ t))
held m a o t None x le on = tt
held m a o t (Some h) x le on = listed_starts m a h o t x le on

starts_of : (m : ℕ) (a : Blocks) (o : ℕ) (t : PageblockType) (r : Option ℕ) → IfSome r (λ h. Starts (block_set a) h o × (kind_at m a.kinds h ≡ t)) → IfSome r (λ h. Starts (block_set a) h o)
starts_of m a o t None w = tt
starts_of m a o t (Some h) w = w.0

typed_of : (m : ℕ) (a : Blocks) (o : ℕ) (t : PageblockType) (r : Option ℕ) → IfSome r (λ h. Starts (block_set a) h o × (kind_at m a.kinds h ≡ t)) → IfSome r (λ h. t ≡ kind_at m a.kinds h)
typed_of m a o t None w = tt
typed_of m a o t (Some h) w = sym w.1

found : (c : After-after) → IfSome c.after.result (λ h. Starts (block_set (set_of c.self.inside.blocks)) h c.args.order × (kind_at c.self.inside.blocks.largest c.self.inside.blocks.kinds.items h ≡ c.args.kind))
found c =
    let a : Blocks = set_of c.self.inside.blocks in
    held c.self.inside.blocks.largest a c.args.order c.args.kind c.after.result c.self.invariant.kept.one
    (order_within c.self.inside.blocks.largest a c.args.order c.args.at c.args.kind c.self.invariant.kept.one (rw (← c.self.view_is) at c.requires))
    (rw c.list_of.ensures.number at c.after.ensures.on)

pub returns-clause-starts : goal.returns-clause-starts
returns-clause-starts c = rw (← c.self.view_is) (starts_of c.self.inside.blocks.largest (set_of c.self.inside.blocks) c.args.order c.args.kind c.after.result (found (goal.at.returns-clause-starts c).After-after))

pub returns-clause-typed : goal.returns-clause-typed
returns-clause-typed c = rw (← c.self.view_is) (typed_of c.self.inside.blocks.largest (set_of c.self.inside.blocks) c.args.order c.args.kind c.after.result (found (goal.at.returns-clause-typed c).After-after))
