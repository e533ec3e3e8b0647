use Rattle.std.proofs.Common.{length, rules}
use Rattle.std.proofs.lemmas.Result.{IfOk-weaker}
use Rattle.zp_gate.specs.GatedZones.{free_of, freed_of}
use Rattle.zp_gate.proofs.Keeping.{made_at}
use Rattle.zp_gate.proofs.gated_worker.GatedWorker.free_many.Goals as goal

pub returns-clause-made : goal.returns-clause-made
returns-clause-made c =
    IfOk-weaker c.free_many.result _ _ (λ granted made.
    made_at c.args.zone (free_of c.args.pages.now c.args.orders.now) freed_of (length c.args.pages.now) granted c.args.self.now _ c.index_mut.result.now c.free_many.new.self c.requires.zone
    (search rules) (search rules) made)
    c.free_many.ensures.made
