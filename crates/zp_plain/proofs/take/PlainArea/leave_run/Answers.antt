use Rattle.std.proofs.Common.{◌≡◌, length, ◌∙◌, ap, sym, subst}
use Rattle.zp_model.specs.Area.{Area}
use Rattle.zp_model.specs.Runs.{leave_run}
use Rattle.zp_model.proofs.RunParts.{length-without_pages}
use Rattle.zp_plain.specs.Sound.{IsSoundArea}
use Rattle.zp_plain.proofs.SoundAreas.{table_of, settled_as, sound_leave_run}
use Rattle.zp_plain.proofs.take.PlainArea.leave_run.Goals as goal

pub settle-requires : goal.settle-requires
settle-requires c =
    table_of _ _ _ c.self.invariant (ap length (c.deref.ensures.value ∙ c.remove_pages.ensures) ∙ length-without_pages c.self.inside.free.items c.args.first c.args.pages)
    (ap length c.deref-2.ensures.value)

after : (c : goal.After-settle) →
    (let a : Area = record { largest = c.self.inside.largest; free = c.remove_pages.new.set.items; kinds = c.self.inside.kinds.items; lists = c.settle.new.lists.items } in a)
    ≡ leave_run (record { largest = c.self.inside.largest; free = c.self.inside.free.items; kinds = c.self.inside.kinds.items; lists = c.self.inside.lists.items }) c.args.first c.args.pages
unfolding leave_run
after c = rw c.remove_pages.ensures (settled_as c.self.inside.largest _ _ _ _ _ _ (c.deref.ensures.value ∙ c.remove_pages.ensures) c.deref-2.ensures.value c.settle.ensures)

pub returns-clause-after : goal.returns-clause-after
returns-clause-after c = after c ∙ ap (λ a. leave_run a c.args.first c.args.pages) c.self.view_is

pub invariant_of-self : goal.invariant_of-self
invariant_of-self c = subst IsSoundArea (sym (after c)) (sound_leave_run _ c.args.first c.args.pages c.self.invariant)
