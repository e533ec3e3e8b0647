use Rattle.std.proofs.Common.{ap, ◌∙◌, ◌*◌}
use Rattle.zp_buddyinfo.proofs.ZoneTexts.{head_written}
use Rattle.zp_buddyinfo.proofs.report.push_head.Goals as goal

pub returns : goal.returns
returns c =
    head_written c.args.page c.args.node c.args.zone.now c.args.free c.args.largest _ _ _ _ _ _ _ _ _ _ _ _ _ _ _ c.from.ensures c.from-2.ensures (ap (λ n. n * c.from-4.result) c.from-3.ensures ∙ ap (λ n. c.args.page * n) c.from-4.ensures) c.in_ok-push_str.ensures.bytes c.in_ok-push_number.ensures c.in_ok-push_str-2.ensures.bytes c.in_ok-push_str-3.ensures.bytes c.in_ok-push_str-4.ensures.bytes c.in_ok-push_number-2.ensures c.in_ok-push_str-5.ensures.bytes c.in_ok-push_number-3.ensures c.in_ok-push_str-6.ensures.bytes c.in_ok-push_largest.ensures c.in_ok-push_str-7.ensures.bytes
