use Rattle.zp_pictures.proofs.Pieces.{piece_begun, piece_more, piece_within}
use Rattle.zp_pictures.proofs.output.write_text.Goals as goal

pub returns-in-Err-clause-begun : goal.returns-in-Err-clause-begun
returns-in-Err-clause-begun g c = piece_begun _ _ _ _ _ c.pieces.invariant.written c.in-Err.ensures.begun

pub pieces-preserved : goal.pieces-preserved
pieces-preserved g c = record {
  inside = piece_within c.args.text.now c.pieces.at c.in-Ok.count c.pieces.invariant.inside c.in-Ok.ensures.within;
  written = piece_more c.args.text.now c.pieces.at c.in-Ok.count _ _ _ c.pieces.invariant.written c.in-Ok.ensures.ok;
}
