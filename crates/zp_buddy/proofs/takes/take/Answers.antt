use Rattle.std.proofs.Common.{false, ap, length, refl, sym, ◌∙◌}
use Rattle.zp_model.specs.Choose.{choose}
use Rattle.zp_model.specs.Take.{taken}
use Rattle.zp_buddy.specs.declared.choice.Choice.{Choice}
use Rattle.zp_buddy.proofs.Choosing.{own_fronts}
use Rattle.zp_buddy.proofs.FirstTaken.{first_largest, first_left, first_own}
use Rattle.zp_buddy.proofs.takes.take.Goals as goal

pub returns-in-Some : goal.returns-in-Some
unfolding choose taken
returns-in-Some c =
    let f = c.in-Some.ensures.some in
    let x = f.1 in
    let y = first_left c.args.kind x c.requires in
    let chosen : Choice = record { block = record { head = c.in-Some.head; order = f.0; kind = c.args.kind }; claims = false } in (
      chosen,
      refl,
      record {
        chosen = rw (first_own c.args.kind x) refl;
        block = record { enough = x.enough; starts = x.starts; typed = x.typed };
        largest = first_largest c.args.kind x;
        sound = y.sound;
        pages = y.pages;
        typed = ap length y.kinds;
        after = y.after;
      },
    )

pub take_foreign-requires-clause-own : goal.take_foreign-requires-clause-own
take_foreign-requires-clause-own c =
    let none = c.in_default.ensures.none in
    rw none.1 (sym (own_fronts c.args.area.now.largest c.args.area.now c.args.order c.args.kind) ∙ none.0)

pub returns : goal.returns
returns c = rw (← c.in_default.ensures.none.1) c.take_foreign.ensures
