use Rattle.std.proofs.Common.{◌≡◌}
use Rattle.zp_table.specs.Packed.{Fits, IsPacked, unpacked, wide}
use Rattle.zp_table.proofs.Packing.{packed_is, put_together}
use Rattle.zp_table.proofs.packed_entry.PackedEntry.new.Goals.{After-with_link-word-2}
use Rattle.zp_table.proofs.packed_entry.PackedEntry.new.Goals as goal

made : (c : After-with_link-word-2) → IsPacked wide c.with_link-word-2.result × (unpacked wide c.with_link-word-2.result ≡ c.args.entry)
made c =
    let fits : Fits wide c.args.entry = record { state = c.packed_state.ensures.fits; back = c.with_link-word-2.ensures.fits; forward = c.with_link-word.ensures.fits } in
    packed_is c.args.entry c.with_link-word-2.result fits
    (rw (c.with_link-word-2.ensures.same, c.with_field-word.ensures, c.with_link-word.ensures.same, c.packed_state.ensures.same) (put_together c.args.entry fits.state))

pub invariant_of-result : goal.invariant_of-result
invariant_of-result c = (made (goal.at.invariant_of-result c).After-with_link-word-2).0

pub returns : goal.returns
returns c = (made (goal.at.returns c).After-with_link-word-2).1
