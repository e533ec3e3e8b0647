use Rattle.std.proofs.Common.{◌≡◌, List, length, take, Some}
use Rattle.std.specs.List.{AllZip}
use Rattle.zp_zone.specs.NamedZone.{NamedZone}
use Rattle.zp_share.specs.Readings.{CoversOwn}
use Rattle.zp_share.specs.Shares.{IsShareOf, IsSameShare, ties_of}
use Rattle.zp_office.specs.Desks.{IsAnswerTo, IsDeskLeft, after_commands, desk_world}
use Rattle.zp_office.proofs.working.work.Given as goal

-- the commands before this one are carried out
abbrev pub invariant-loop-at : goal.invariant-loop-at
invariant-loop-at g l = record {
  keys : g.Z.Zones.keys l.zones ≡ g.Z.Zones.keys l.fn.zones;
  fits : IsShareOf (g.Z.Zones.keys l.zones) l.desk.share;
  same : IsSameShare l.fn.desk.share l.desk.share;
  ties : ties_of l.desk.share ≡ ties_of l.fn.desk.share;
  script : l.desk.script ≡ l.fn.desk.script;
  count : length l.desk.replies ≡ l.at;
  answers : AllZip (IsAnswerTo (length l.fn.desk.share.zones)) (take l.at l.fn.desk.script) l.desk.replies;
  read : CoversOwn (g.Z.Zones.covers l.fn.zones) (g.Z.Zones.covers l.zones) l.fn.desk.share l.desk.share;
  told : (rows : List NamedZone) → g.Z.Zones.told l.fn.zones ≡ Some rows →
      IsDeskLeft (after_commands (desk_world rows l.fn.desk) (take l.at l.fn.desk.script)) (g.Z.Zones.told l.zones) l.desk;
}
