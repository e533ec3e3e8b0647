use Rattle.std.proofs.Common.{◌∙◌, ap}
use Rattle.zp_model.specs.declared.constants.TheConstants.{LARGEST_ORDER}
use Rattle.zp_model.specs.Runs.{fitting_order}
use Rattle.zp_kernel.proofs.frame_table.splitting.first_order.Goals as goal

pub returns : goal.returns
returns c =
    c.fitting_order.ensures
    ∙ ap (λ m. fitting_order m c.at.result c.args.pages) c.usual.ensures
    ∙ ap (λ h. fitting_order LARGEST_ORDER h c.args.pages) c.at.ensures
