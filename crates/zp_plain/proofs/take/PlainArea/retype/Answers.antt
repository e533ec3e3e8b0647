use Rattle.std.proofs.Common.{◌≡◌, length, set, ◌∙◌, ap, sym, subst, length-set}
use Rattle.zp_model.specs.Area.{Area}
use Rattle.zp_model.specs.Take.{retype}
use Rattle.zp_plain.specs.Sound.{IsSoundArea}
use Rattle.zp_plain.proofs.SoundAreas.{table_of, settled_as, sound_retype}
use Rattle.zp_plain.proofs.take.PlainArea.retype.Goals as goal

pub settle-requires : goal.settle-requires
settle-requires c =
    table_of _ _ _ c.self.invariant (ap length c.deref.ensures.value)
    (ap length c.deref-2.ensures.value ∙ length-set c.self.inside.kinds.items c.args.pageblock c.args.kind)

after : (c : goal.After-settle) →
    (let a : Area = record { largest = c.self.inside.largest; free = c.self.inside.free.items; kinds = set c.self.inside.kinds.items c.args.pageblock c.args.kind; lists = c.settle.new.lists.items } in a)
    ≡ retype (record { largest = c.self.inside.largest; free = c.self.inside.free.items; kinds = c.self.inside.kinds.items; lists = c.self.inside.lists.items }) c.args.pageblock c.args.kind
unfolding retype
after c = settled_as c.self.inside.largest _ _ _ _ _ _ c.deref.ensures.value c.deref-2.ensures.value c.settle.ensures

pub returns : goal.returns
returns c = after c ∙ ap (λ a. retype a c.args.pageblock c.args.kind) c.self.view_is

pub invariant_of-self : goal.invariant_of-self
invariant_of-self c = subst IsSoundArea (sym (after c)) (sound_retype _ c.args.pageblock c.args.kind c.self.invariant)
