use Rattle.zp_buddyinfo.proofs.ZoneTexts.{figures_written}
use Rattle.zp_buddyinfo.proofs.report.push_figures.Goals as goal

pub returns : goal.returns
returns c =
    figures_written c.args.style c.args.order c.args.count c.args.unusable c.args.fragmentation _ _ _ _ _ _ _ _ _ _ _ c.above.ensures c.in_ok-push_count.ensures c.in_ok-push_count-2.ensures c.in_ok-push_unusable.ensures c.in_ok-push_str.ensures.bytes c.in_ok-push_bar.ensures c.in_ok-push_right_fragmentation.ensures c.in_ok-push_str-2.ensures.bytes c.in_ok-push_bar-2.ensures c.in_ok-push_str-3.ensures.bytes
