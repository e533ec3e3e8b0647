-- The zones that a header declares, and their workers' shares, before the first command.
use Rattle.std.specs.Prelude.{ℕ, map}
use Rattle.std.specs.List.{range_with_len}
use Rattle.zp_trace.specs.declared.line.ZoneLine.{ZoneLine}
use Rattle.zp_trace.specs.declared.trace.Header.{Header}
use Rattle.zp_trace.specs.Grammar.{declared_largest}
use Rattle.zp_zone.specs.NamedZone.{NamedZone}
use Rattle.zp_share.specs.Crews.{CrewState}
use Rattle.zp_share.specs.PlainShares.{PlainShare}
use Rattle.zp_crew.specs.Opening as crew
use Rattle.zp_crew.specs.Opening.{PlainConfig, opened_zone}

-- what the zone that a line declares is made with
abbrev pub declared_config : ZoneLine → PlainConfig
declared_config z = record { name = z.name; base = z.base; pages = z.pages; min = z.min; largest = declared_largest z }

-- the zone that a zone line declares, for so many workers, with nothing out
abbrev pub declared_zone : ℕ → ZoneLine → NamedZone
declared_zone workers z = opened_zone workers (declared_config z)

-- worker w's share of the zones that a header declares, before its first command
abbrev pub opening_share : Header → ℕ → PlainShare
opening_share h w = crew.opening_share h.batch h.high (map declared_config h.zones) w

abbrev pub opened_crew : Header → CrewState
opened_crew h = record { zones = map (declared_zone h.workers) h.zones; shares = map (opening_share h) (range_with_len 0 h.workers) }
