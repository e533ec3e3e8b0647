use Rattle.std.proofs.Common.{◌≡◌, ◌==◌, All, List, length, take, sym, ap, subst, ◌∙◌, arith}
use Rattle.std.proofs.lemmas.List.{length-map, length-take}
use Rattle.std.proofs.lemmas.List.Sums.{count_by-le-length}
use Rattle.zp_trace.specs.declared.line.Call.{Call}
use Rattle.zp_trace.specs.declared.line.CommandLine.{CommandLine as Line}
use Rattle.zp_trace.proofs.CommandLines.{each_command}
use Rattle.zp_trace.proofs.HeaderLines.{header_is}
use Rattle.zp_office.specs.Desks.{HasSlotBelow}
use Rattle.zp_office.specs.Scripts.{NamesBelow, calls_of, names_of, script_of, scripted}
use Rattle.zp_office.proofs.Bound.{few_commands, labelled, slots_fit}
use Rattle.zp_office.proofs.Declared.{names_there}
use Rattle.zp_office.proofs.Makings.{script_count, script_is, script_more}
use Rattle.zp_office.proofs.script.script_of.Goals as goal

pub push_reserved-requires : goal.push_reserved-requires
push_reserved-requires c =
    omega (arith, ap length c.loop-call.invariant.script, length-map (take c.loop-call.call-index c.deref-call-items.result.now) (scripted (names_of c.as_slice-zones.result.now) c.deref-call-items.result.now), length-take c.loop-call.call-index c.deref-call-items.result.now, c.loop-call.script.ok.0, c.loop-call.invariant.room, c.loop-call-test.true)

pub loop-call-preserved : goal.loop-call-preserved
loop-call-preserved c =
    record {
      script =
          c.push_reserved.ensures.items
          ∙ script_more (names_of c.as_slice-zones.result.now) c.deref-call-items.result.now c.deref.result.now c.loop-call.call-index c.call-item.result c.loop-call.script.items c.scripted.result c.loop-call-test.true (c.deref.ensures.value ∙ sym c.deref-call-items.ensures.value) c.call-item.is c.loop-call.invariant.script (c.scripted.ensures ∙ ap (λ (cs : List Call). scripted (names_of c.as_slice-zones.result.now) cs c.call-item.result) c.in_ok-slots.ensures);
      room = omega (arith, c.loop-call.invariant.room, c.push_reserved.ensures.capacity);
    }

pub returns : goal.returns
returns c =
    let t = c.args.trace.now in
    let s = c.loop-call.script.items in
    let is : s ≡ script_of t c.args.worker =
    script_is t c.args.worker c.as_slice-zones.result.now c.as_slice.result.now c.deref-call-items.result.now c.loop-call.call-index s c.as_slice-zones.ensures.same c.as_slice.ensures (c.deref-call-items.ensures.value ∙ c.in_ok-calls.ensures) c.loop-call-test.false c.loop-call.invariant.script in
    let count = ap length is ∙ script_count t c.args.worker in
    let calls = calls_of t.commands c.args.worker in
    let many : length s ≡ length calls = ap length is ∙ length-map calls (scripted (names_of t.header.zones) calls) in
    record {
      script = is;
      count = count;
      few = omega (arith, count, count_by-le-length (λ (x : Line). x.worker == c.args.worker) t.commands, few_commands t.header t.commands (omega (arith, (header_is t.header t.commands c.requires).few)) c.requires);
      slots =
          subst (λ n. All (HasSlotBelow n) s) (sym many)
          (subst (λ l. All (HasSlotBelow (length calls)) l) (sym is) (slots_fit (names_of t.header.zones) t.commands c.args.worker (labelled t.header t.commands c.requires)));
      names =
          subst (λ l. All (NamesBelow (length t.header.zones) t.header.workers) l) (sym is) (names_there t.header t.commands c.args.worker calls (each_command t.header t.commands c.requires));
    }
