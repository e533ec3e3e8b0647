use Rattle.std.proofs.Common.{length, rules}
use Rattle.std.proofs.lemmas.Result.{IfOk-weaker}
use Rattle.zp_model.specs.declared.request.Request.{Request}
use Rattle.zp_gate.specs.GatedZones.{each_is, page_of}
use Rattle.zp_gate.proofs.Keeping.{made_at}
use Rattle.zp_gate.proofs.gated_worker.GatedWorker.alloc_many.Goals as goal

pub returns-clause-made : goal.returns-clause-made
returns-clause-made c =
    IfOk-weaker c.alloc_many.result _ _ (λ granted made.
    made_at c.args.zone (each_is (Request.Alloc c.args.order c.args.kind c.args.mark)) (page_of c.alloc_many.new.pages) (length c.args.pages.now) granted c.args.self.now _ c.index_mut.result.now c.alloc_many.new.self c.requires
    (search rules) (search rules) made)
    c.alloc_many.ensures.made
