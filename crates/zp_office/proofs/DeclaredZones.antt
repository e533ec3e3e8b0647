-- The zones that a header declares, and what they are made with.
use Rattle.std.proofs.Common.{ℕ, ◌≡◌, sym, ap, ◌∙◌, arith, List, length, map, get_or, All}
use Rattle.std.proofs.lemmas.List.{length-map}
use Rattle.std.proofs.lemmas.List.Elements.{All-map}
use Rattle.zp_trace.specs.declared.line.ZoneLine.{ZoneLine}
use Rattle.zp_trace.specs.declared.trace.Header.{Header}
use Rattle.zp_trace.specs.Grammar.{IsHeader, IsZoneLine}
use Rattle.zp_zone.specs.Seats.{ZoneState}
use Rattle.zp_share.specs.Shares.{named_zone}
use Rattle.zp_crew.specs.Opening.{CanBeMade}
use Rattle.zp_office.specs.Opening.{declared_config, declared_zone}

-- how many zones there are
pub zones_count : (n : ℕ) (lines : List ZoneLine) (zs : List ZoneState) → map named_zone zs ≡ map (declared_zone n) lines → length zs ≡ length lines
zones_count n lines zs e = sym (length-map zs named_zone) ∙ ap length e ∙ length-map lines (declared_zone n)

-- each of them can be made
pub all_can : (h : Header) → IsHeader h → All (CanBeMade h.workers) (map declared_config h.zones)
all_can h is = All-map (CanBeMade h.workers) declared_config h.zones (λ k d lt. can (get_or h.zones k d) (is.zones k d lt))
  where
    can : (z : ZoneLine) → IsZoneLine z → CanBeMade h.workers (declared_config z)
    can z x = record { name = x.0; base = (x.1.0, omega (arith, x.1.1)); pages = (x.2.0, omega (arith, x.2.1)); mark = x.3; workers = is.workers }
