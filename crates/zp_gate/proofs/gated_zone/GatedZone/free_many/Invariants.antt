use Rattle.zp_share.specs.Shares.{key_of}
use Rattle.zp_gate.specs.Boards.{IsTiedTo}
use Rattle.zp_gate.specs.GatedZones.{AreSections, IsOneShare, free_of, freed_of}
use Rattle.zp_gate.proofs.gated_zone.GatedZone.free_many.Given as goal

abbrev pub invariant-loop-count : goal.invariant-loop-count
invariant-loop-count l = record {
  tied : IsTiedTo l.fn.board l.self.board;
  one : IsOneShare (key_of l.self.zone) l.share;
  made : AreSections (free_of l.fn.pages l.fn.orders) freed_of l.count l.fn.self l.self l.fn.share l.share;
}
