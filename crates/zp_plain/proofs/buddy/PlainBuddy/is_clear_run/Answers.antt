use Rattle.std.proofs.Common.{◌↔◌, IsTrue, subst}
use Rattle.zp_model.specs.Frames.{Frames}
use Rattle.zp_plain.specs.Clear.{IsClearRun}
use Rattle.zp_plain.proofs.buddy.PlainBuddy.is_clear_run.Goals as goal

pub returns : goal.returns
returns c =
    let told = rw (c.marks.ensures.marks, c.deref.ensures.value) at c.is_clear_run.ensures in
    let P : Frames → Type 0 = λ f. IsTrue c.is_clear_run.result ↔ IsClearRun f.area.free f.sides c.args.at c.args.pages in
    subst P c.self.view_is told
