use Rattle.std.proofs.Common.{ap, ◌∙◌, ◌∷◌, []}
use Rattle.std.specs.List.{repeat}
use Rattle.zp_buddyinfo.proofs.ZoneTexts.{heads_written}
use Rattle.zp_buddyinfo.proofs.report.push_column_heads.Goals as goal

pub returns : goal.returns
returns c =
    heads_written c.args.style _ _ _ _ _ (c.as_str.ensures.value ∙ c.in_ok-repeat.ensures.bytes ∙ ap (λ n. repeat n (32 ∷ [])) c.from.ensures) c.in_ok-push_str.ensures.bytes c.in_ok-push_str-2.ensures.bytes c.in_ok-push_str-3.ensures.bytes
