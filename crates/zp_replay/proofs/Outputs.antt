-- The parts of the output one after another: the report of the office that has carried out its commands in order.
use Rattle.std.proofs.Common.{ℕ, ◌+◌, ◌≡◌, ◌<◌, List, length, get_or, sym, ap, ◌∙◌, arith}
use Rattle.std.specs.List.{range_with_len}
use Rattle.std.proofs.lemmas.List.FromFn.{get_or-range_with_len, get_or-map-range_with_len, length-map-range_with_len}
use Rattle.zp_share.specs.declared.gathering.Totals.{Totals}
use Rattle.zp_share.specs.Commands.{zone_at}
use Rattle.zp_share.specs.Gathering.{gathered, totals_of, owns_at}
use Rattle.zp_share.specs.Crews.{CrewState}
use Rattle.zp_trace.specs.declared.trace.Trace.{Trace}
use Rattle.zp_trace.specs.declared.line.CommandLine.{CommandLine}
use Rattle.zp_office.specs.Offices.{OfficeState, workers_in}
use Rattle.zp_replay.specs.Output.{output, report}
use Rattle.zp_replay.specs.Serving.{IsServedInOrder}

-- the totals of each zone, read at its number
pub gathered_here : (c : CrewState) (ts : List Totals) (i : ℕ) (d : Totals) → ts ≡ gathered c.zones c.shares → i < length c.zones →
    get_or ts i d ≡ totals_of (zone_at c.zones i).plain (owns_at c.shares i)
gathered_here c ts i d e lt =
    ap (λ (xs : List Totals). get_or xs i d) e ∙ get_or-map-range_with_len (λ j. totals_of (zone_at c.zones j).plain (owns_at c.shares j)) 0 (length c.zones) i i d lt (omega arith)

-- there are as many as zones
pub length-gathered : (c : CrewState) (ts : List Totals) → ts ≡ gathered c.zones c.shares → length ts ≡ length c.zones
length-gathered c ts e = ap length e ∙ length-map-range_with_len (λ j. totals_of (zone_at c.zones j).plain (owns_at c.shares j)) 0 (length c.zones)

-- the numbers of the zones, read at each
pub number_here : (n i : ℕ) → i < n → i ≡ get_or (range_with_len 0 n) i i
number_here n i lt =
    let zero : 0 + i ≡ i = omega arith in
    sym (get_or-range_with_len 0 n i i lt ∙ zero)

pub output_is : (t : Trace) (o : OfficeState) (cs : List CommandLine) → cs ≡ t.commands → IsServedInOrder t o → report o (workers_in cs) ≡ output t
unfolding output
output_is t o cs same served = ap (λ (ds : List CommandLine). report o (workers_in ds)) same ∙ ap (λ (x : OfficeState). report x (workers_in t.commands)) served
