use Rattle.zp_model.specs.declared.request.Request.{Request}
use Rattle.zp_share.specs.Shares.{key_of}
use Rattle.zp_gate.specs.Boards.{IsTiedTo}
use Rattle.zp_gate.specs.GatedZones.{AreSections, IsOneShare, IsWrittenTo, each_is, page_of}
use Rattle.zp_gate.proofs.gated_zone.GatedZone.alloc_many.Given as goal

abbrev pub invariant-loop-count : goal.invariant-loop-count
invariant-loop-count l = record {
  tied : IsTiedTo l.fn.board l.self.board;
  one : IsOneShare (key_of l.self.zone) l.share;
  made : AreSections (each_is (Request.Alloc l.fn.order l.fn.kind l.fn.mark)) (page_of l.pages) l.count l.fn.self l.self l.fn.share l.share;
  written : IsWrittenTo l.count l.fn.pages l.pages;
}
