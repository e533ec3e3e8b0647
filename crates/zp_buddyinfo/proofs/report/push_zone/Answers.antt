use Rattle.std.proofs.Common.{refl}
use Rattle.zp_buddyinfo.proofs.ZoneTexts.{zone_written}
use Rattle.zp_buddyinfo.proofs.report.push_zone.Goals as goal

pub returns : goal.returns
returns c =
    zone_written c.args.page c.args.style c.args.row.now _ _ _ _ _ _ _ refl c.free_pages-free.ensures.pages c.largest-largest.ensures.largest c.in_ok-push_head.ensures c.in_ok-push_column_heads.ensures c.in_ok-push_orders.ensures
