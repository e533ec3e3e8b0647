-- The zones that are planned, and their workers' shares, before the first event.
use Rattle.std.specs.Prelude.{ℕ, ◌≡◌, List, map}
use Rattle.std.specs.FinMap.{empty}
use Rattle.std.specs.List.{range_with_len}
use Rattle.zp_zone.specs.NamedZone.{NamedZone}
use Rattle.zp_share.specs.PlainShares.{PlainShare}
use Rattle.zp_crew.specs.Opening as crew
use Rattle.zp_crew.specs.Opening.{PlainConfig, opened_zone}
use Rattle.zp_kernel.specs.Counts.{none_counted}
use Rattle.zp_kernel.specs.Events.{PlainKernel}
use Rattle.zp_capture.specs.Limits.{AreLimitsOf}
use Rattle.zp_capture.specs.declared.opening.ZoneSettings.{ZoneSettings}
use Rattle.zp_capture.specs.declared.plan.ZonePlan.{ZonePlan}

-- what the zone that is planned is made with
abbrev pub planned_config : ZoneSettings → ZonePlan → PlainConfig
planned_config m p = record { name = p.name; base = p.base; pages = p.pages; min = p.min; largest = m.largest }

-- the zone that is planned, with nothing out
abbrev pub planned_zone : ZoneSettings → ZonePlan → NamedZone
planned_zone m p = opened_zone m.workers (planned_config m p)

-- worker w's share of the zones that are planned, before its first request
abbrev pub opening_share : ZoneSettings → List ZonePlan → ℕ → PlainShare
opening_share m plans w = crew.opening_share m.lists.batch m.lists.high_len (map (planned_config m) plans) w

-- the zones that are planned, with all their pages free: no frame holds a block, and nothing was counted
pub record IsOpenedBy (m : ZoneSettings) (plans : List ZonePlan) (k : PlainKernel) : Type 0 where
  pub largest : k.setting.largest ≡ m.largest
  pub limits : AreLimitsOf plans k.setting.limits
  pub zones : k.state.crew.zones ≡ map (planned_zone m) plans
  pub shares : k.state.crew.shares ≡ map (opening_share m plans) (range_with_len 0 m.workers)
  pub frames : k.state.frames ≡ empty
  pub counts : k.state.counts ≡ none_counted
