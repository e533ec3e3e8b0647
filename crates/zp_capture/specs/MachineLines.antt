-- What the lines of a capture that are no page events tell of the machine: its zones, by the lines of /proc/zoneinfo, and its CPUs.
use Rattle.std.specs.Prelude.{ℕ, ◌≡◌, ◌+◌, ◌++◌, ◌⊎◌, ◌↔◌, Bool, true, false, List, [], ◌∷◌, Option, None, Some, IsTrue, codes, max, min}
use Rattle.zp_model.specs.Naming.{IsName}
use Rattle.zp_events.specs.Words.{words_of}
use Rattle.zp_events.specs.ZoneLines.{IsLabelled, IsZoneHead}
use Rattle.zp_capture.specs.declared.zone_info.MemoryZone.{MemoryZone}

-- the zones that are told whole, and the one of which the next lines tell
pub record ToldZones : Type 0 where
  pub zones : List MemoryZone
  pub next : Option MemoryZone

-- the line has this label and this number
abbrev pub Says : List ℕ → List ℕ → ℕ → Type 0
Says line label n = IsLabelled (words_of line) label n

abbrev pub SaysNone : List ℕ → List ℕ → Type 0
SaysNone line label = (n : ℕ) → Says line label n → ⊥

-- a zone with this node and this name, where that is a name, and with nothing else that is told
abbrev pub IsBegun : ℕ → List ℕ → Option MemoryZone → Type 0
IsBegun node name None = IsName name → ⊥
IsBegun node name (Some z) = IsName name × (z ≡ record { node = node; name = name; start = 0; spanned = 0; min = 0 })

-- a line between a zone's heading and its first frame tells its least mark, or its pages, or nothing of it
abbrev pub IsToldOf : MemoryZone → List ℕ → MemoryZone → Type 0
IsToldOf z line y =
    ((n : ℕ) × Says line (codes "min") n × (y ≡ record z { min = n }))
    ⊎ (((n : ℕ) × Says line (codes "spanned") n × (y ≡ record z { spanned = n })) ⊎ (SaysNone line (codes "min") × SaysNone line (codes "spanned") × (y ≡ z)))

-- a line that is no heading, where lines tell of this zone: it ends with its first frame
abbrev pub IsNextTold : Option MemoryZone → List MemoryZone → List ℕ → ToldZones → Type 0
IsNextTold None zones line u = u ≡ record { zones = zones; next = None }
IsNextTold (Some z) zones line u =
    ((n : ℕ) × Says line (codes "start_pfn:") n × (u ≡ record { zones = zones ++ record z { start = n } ∷ []; next = None }))
    ⊎ (SaysNone line (codes "start_pfn:") × (y : MemoryZone) × IsToldOf z line y × (u ≡ record { zones = zones; next = Some y }))

-- a line more of the zones: a heading, of which the next lines tell then, or another
abbrev pub IsZoneTold : ToldZones → List ℕ → ToldZones → Type 0
IsZoneTold t line u =
    ((node : ℕ) × (name : List ℕ) × (z : Option MemoryZone) × IsZoneHead (words_of line) node name × IsBegun node name z × (u ≡ record { zones = t.zones; next = z }))
    ⊎ (((node : ℕ) (name : List ℕ) → IsZoneHead (words_of line) node name → ⊥) × IsNextTold t.next t.zones line u)

-- what is told of the machine; behind the line that begins the last part, what the kernel had when the events were over, nothing is
pub record Told : Type 0 where
  pub zones : ToldZones
  pub cpus : ℕ
  pub is_afterwards : Bool

abbrev pub nothing_told : Told
nothing_told = record { zones = record { zones = []; next = None }; cpus = 0; is_afterwards = false }

-- the line begins a part of the capture
pub record BeginsPart (line : List ℕ) : Type 0 where
  pub name : List ℕ
  pub written : line ≡ codes "== " ++ name

-- there are as many CPUs as the highest number of one says, and one more
abbrev pub cpus_with : ℕ → ℕ → ℕ
cpus_with cpus n = max cpus (min (n + 1) 4_294_967_295)

-- a line within a part: one of a CPU, or of zones
abbrev pub IsToldWithin : Bool → Told → List ℕ → Told → Type 0
IsToldWithin true t line u = u ≡ t
IsToldWithin false t line u =
    ((n : ℕ) × Says line (codes "cpu:") n × (u ≡ record t { cpus = cpus_with t.cpus n }))
    ⊎ (SaysNone line (codes "cpu:") × (v : ToldZones) × IsZoneTold t.zones line v × (u ≡ record t { zones = v }))

-- one line more
abbrev pub IsNoted : Told → List ℕ → Told → Type 0
IsNoted t line u =
    (BeginsPart line × (last : Bool) × (IsTrue last ↔ (line ≡ codes "== buddyinfo after")) × (u ≡ record t { is_afterwards = last }))
    ⊎ ((BeginsPart line → ⊥) × IsToldWithin t.is_afterwards t line u)
