use Rattle.std.proofs.Common.{◌≡◌, ◌+◌, ◌-◌, ◌<◌, true, false, ap, arith, sym, ◌∙◌}
use Rattle.zp_model.specs.Frames.{Frames}
use Rattle.zp_model.specs.Mark.{is_above}
use Rattle.zp_model.specs.Zone.{workers_of}
use Rattle.zp_zone.specs.Kept.{plain_of}
use Rattle.zp_zone.proofs.BlockSteps.{alloc_below, alloc_none, chosen_none, passes_by}
use Rattle.zp_zone.proofs.RunFrames.{IsRunOff, frames_run, held_run, part_off, part_room, run_kept, run_left}
use Rattle.zp_zone.proofs.RunSteps.{run_lawful}
use Rattle.zp_zone.proofs.untied_zone.UntiedZone.alloc_part.Goals as goal

-- no page is left above the mark
pub returns-then-room-eq0-clause-refused : goal.returns-then-room-eq0-clause-refused
returns-then-room-eq0-clause-refused c =
    let f = c.self.inside.buddy in
    let below = passes_by f c.self.inside.base c.self.inside.min c.available_pages.result 0 c.args.mark false c.available_pages.ensures (sym (c.room_above-room.ensures.none c.if-room-eq0.true)) in
    rw (← c.self.view_is) (alloc_below (plain_of f c.self.inside.base c.self.inside.min) c.args.worker 0 c.args.kind c.args.mark below)

-- the test passes, and no block is chosen
pub returns-in_default-clause-refused : goal.returns-in_default-clause-refused
returns-in_default-clause-refused c =
    let f = c.self.inside.buddy in
    let all : c.available_pages.result - 0 ≡ c.available_pages.result = omega arith in
    let test = ap (λ n. is_above c.self.inside.min n 0 c.args.mark) (sym all) ∙ c.room_above-room.ensures.some 0 (omega (arith, c.if-room-eq0.false)) in
    let above = passes_by f c.self.inside.base c.self.inside.min c.available_pages.result 0 c.args.mark true c.available_pages.ensures (sym test) in
    rw (← c.self.view_is)
    (alloc_none (plain_of f c.self.inside.base c.self.inside.min) c.args.worker 0 c.args.kind c.args.mark above (chosen_none f.area 0 c.args.kind (sym c.in_default.ensures.none.0)))

-- the run is out
off : (c : goal.After-new) → IsRunOff (c.self.inside.buddy).sides c.in-Some.run'.0 c.in-Some.run'.1
off c = part_off c.self.inside.buddy c.take_run.new.self c.args.kind c.in-Some.run'.1 c.in-Some.run'.0 c.in-Some.ensures.after c.in-Some.ensures.clear

held : (c : goal.After-new) → c.hold_run.new.self ≡ frames_run c.self.inside.buddy c.args.worker c.args.kind c.in-Some.run'.0 c.in-Some.run'.1
held c = held_run c.self.inside.buddy c.take_run.new.self c.hold_run.new.self c.args.worker c.args.kind c.in-Some.run'.0 c.in-Some.run'.1 c.zero.result c.in-Some.ensures.after c.zero.ensures c.hold_run.ensures.after

pub invariant_of-self-2 : goal.invariant_of-self-2
invariant_of-self-2 c =
    let workers : c.args.worker < workers_of (plain_of c.self.inside.buddy c.self.inside.base c.self.inside.min) = rw (← c.self.view_is) at c.requires.worker in
    rw (held c) (run_kept c.self.inside.buddy c.self.inside.base c.self.inside.min c.args.worker c.args.kind c.in-Some.run'.0 c.in-Some.run'.1 (record { framed = c.pages-pages.ensures.framed; lawful = c.self.invariant.lawful }) (off c) c.self.inside.name c.self.invariant
    (run_lawful c.in-Some.run'.1 (plain_of c.self.inside.buddy c.self.inside.base c.self.inside.min) c.args.worker c.args.kind c.in-Some.run'.0 c.self.invariant.lawful workers c.in-Some.ensures.answers))

pub returns-clause-got : goal.returns-clause-got
returns-clause-got c =
    let f = c.self.inside.buddy in
    rw (← c.self.view_is) (record {
      place = c.in-Some.run'.0;
      at = c.new.ensures ∙ ap (λ n. c.self.inside.base + n) c.number.ensures.same;
      answers = c.in-Some.ensures.answers;
      marked = λ i lt. ap (λ n. is_above c.self.inside.min (n - i) 0 c.args.mark) (sym c.available_pages.ensures) ∙ c.room_above-room.ensures.some i (omega (arith, c.min.ensures, c.in-Some.ensures.most));
      after =
          ap (λ (q : Frames). plain_of q c.self.inside.base c.self.inside.min) (held c)
          ∙ run_left f c.self.inside.base c.self.inside.min c.args.worker c.args.kind c.in-Some.run'.0 c.in-Some.run'.1 (record { framed = c.pages-pages.ensures.framed; lawful = c.self.invariant.lawful }) (off c);
      lawful = c.self.invariant.lawful;
    })

pub returns-clause-within : goal.returns-clause-within
returns-clause-within c =
    let x = c.in-Some.ensures in
    omega (arith, c.new.ensures, c.number.ensures.same, part_room c.self.inside.buddy c.take_run.new.self c.args.kind c.in-Some.run'.1 c.in-Some.run'.0 c.pages-pages.ensures.framed x.after x.clear, c.self.invariant.pages, c.self.invariant.based)
