use Rattle.std.proofs.Common.{ℕ, ◌≤◌, ◌+◌, ◌-◌, List, length, take, drop, sym, ◌∙◌, arith, length-drop, Option, subst}
use Rattle.std.proofs.Math.Seq.{take-add}
use Rattle.std.proofs.lemmas.List.{take_rest}
use Rattle.zp_streams.specs.Streams.{IsWritten, Takes}
use Rattle.zp_streams.proofs.Written.{written-same, written-then}
use Rattle.zp_streams.proofs.streams.write_pieces.Goals as goal

-- the piece that the code lends is the rest of the bytes
rest_taken : (bytes : List ℕ) (at n : ℕ) (old new : Option (List ℕ)) → Takes (take (length bytes - at) (drop at bytes)) n old new → at ≤ length bytes →
    (at + n ≤ length bytes) × IsWritten old new (take n (drop at bytes))
rest_taken bytes at n old new x le =
    let P : List ℕ → Type 0 = λ p. Takes p n old new in
    let y : Takes (drop at bytes) n old new = subst P (take_rest bytes at) x in
    let w : n ≤ length (drop at bytes) = y.within in
    (omega (arith, length-drop at bytes), y.written)

pub pieces-preserved : goal.pieces-preserved
pieces-preserved g c =
    let i = c.pieces.invariant in
    let r = rest_taken _ _ _ _ _ c.in-Ok.ensures.taken i.inside in
    record {
      inside = r.0;
      written = written-same _ _ _ _ (sym (take-add c.pieces.at c.in-Ok.count c.args.bytes.now)) (written-then _ _ _ _ _ i.written r.1);
      calm = c.in-Ok.ensures.calm ∙ i.calm;
    }
