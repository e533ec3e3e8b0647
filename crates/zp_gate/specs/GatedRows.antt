-- What is known of the zones of a row (this profile).
use Rattle.std.specs.Prelude.{ℕ, ◌≡◌, ◌<◌, ◌⊎◌, ◌↔◌, Bool, true, IsSome, List, All, length, slice_index_or, take}
use Rattle.zp_model.specs.declared.refused.Refused.{Refused}
use Rattle.zp_model.specs.declared.refused.Refused.TheVariants.{Memory}
use Rattle.zp_zone.specs.Making.{IsRefusedWithin, IsWideGood, Wanted, wanted}
use Rattle.zp_zone.specs.declared.config.TheConstants.{WIDE}
use Rattle.zp_zone.specs.declared.config.ZoneConfig.{ZoneConfig}
use Rattle.zp_share.specs.Shares.{ZoneKey, no_tie}
use Rattle.zp_share.specs.declared.gathering.Totals.{Totals}
use Rattle.zp_gate.specs.declared.try_lock.TryLock.{TryLock}
use Rattle.zp_gate.specs.declared.visit_view.VisitView.{VisitView}
use Rattle.zp_gate.specs.GatedZones.{GateKey, no_gate}
use Rattle.zp_gate.specs.Visits.{HasGathered}

-- of each zone, the lowest first, what never changes
abbrev pub RowState : Type 0
RowState = List GateKey

-- what never changes behind a lock
abbrev pub lock_key : TryLock → GateKey
lock_key l = l.table.shared.key

abbrev pub key_at : RowState → ℕ → GateKey
key_at r i = slice_index_or r i no_gate

-- the zone's key there, whatever its tie
abbrev pub untied : GateKey → ZoneKey
untied k = record k.zone { tie = no_tie }

-- each zone of the row has a board, or none has
abbrev pub HaveBoards : Bool → RowState → Type 0
HaveBoards boards r = All (λ (k : GateKey). IsSome k.board ↔ (boards ≡ true)) r

-- that of a zone which is made with this config for so many workers
abbrev pub key_for : ℕ → ZoneConfig → ZoneKey
key_for n c = record { tie = no_tie; name = c.name.now; base = c.base; pages = c.pages; min = c.min; largest = c.largest; workers = n }

-- the zone with this key was visited, and had the shares of all its workers
abbrev pub HasNoWorker : GateKey → Type 0
HasNoWorker k = (t : Totals) × (v : VisitView) × HasGathered k t v

-- and so each zone of the row
abbrev pub HasNoWorkers : RowState → Type 0
HasNoWorkers r = (i : ℕ) → i < length r → HasNoWorker (key_at r i)

-- what is wanted by a config, of so many workers
abbrev pub wanted_by : ℕ → ZoneConfig → Wanted
wanted_by n c = wanted c.name.now c.base c.pages c.min n

-- a zone can be made so
abbrev pub IsGoodConfig : ℕ → ZoneConfig → Type 0
IsGoodConfig n c = IsWideGood (wanted_by n c)

-- the refusal is that of the first config by which no zone can be made
pub record IsOfFirstConfig (n : ℕ) (configs : List ZoneConfig) (e : Refused) : Type 0 where
  pub i : ℕ
  pub config : ZoneConfig
  pub before : All (IsGoodConfig n) (take i configs)
  pub at : (i < length configs) × ((none : ZoneConfig) → slice_index_or configs i none ≡ config)
  pub refused : IsRefusedWithin WIDE (wanted_by n config) e

-- why no row was opened: a config, or want of memory
abbrev pub IsWhyNoRow : ℕ → List ZoneConfig → Refused → Type 0
IsWhyNoRow n configs e = (e ≡ Memory) ⊎ IsOfFirstConfig n configs e
