use Rattle.std.proofs.Common.{arith, inl, refl, subst, sym, ◌∙◌}
use Rattle.zp_gate.specs.GatedRows.{HasNoWorkers}
use Rattle.zonealloc.proofs.Answering.{none_is}
use Rattle.zonealloc.proofs.rows.zonealloc_unmake.Goals as goal

pub returns : goal.returns
returns c = record {
  done = λ z. (c.row_of.ensures.empty, (c.in-Some.held.row.value, c.in-Some.ensures.some, subst HasNoWorkers c.deref.ensures (c.has_worker.ensures c.if-has_worker.false)));
  unchanged = λ n. absurd (omega (arith, n));
  empty = (λ is. absurd (omega (arith, is)), λ none. absurd (none_is (sym c.in-Some.ensures.some ∙ none)));
  codes = inl refl;
}

pub end_row-requires : goal.end_row-requires
end_row-requires c = subst HasNoWorkers c.deref.ensures (c.has_worker.ensures c.if-has_worker.false)
