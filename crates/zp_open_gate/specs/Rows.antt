-- What is known of the zones of a row (this profile).
use Rattle.std.specs.Prelude.{ℕ, ◌≡◌, ◌<◌, ◌≤◌, ◌+◌, ◌⊎◌, List, [], All, length, slice_index_or, take}
use Rattle.zp_model.specs.Area.{pageblocks_of}
use Rattle.zp_model.specs.declared.refused.Refused.{Refused}
use Rattle.zp_model.specs.declared.refused.Refused.TheVariants.{Memory}
use Rattle.zp_zone.specs.Making.{IsRefusedWithin, IsWideGood, Wanted, wanted}
use Rattle.zp_zone.specs.declared.config.TheConstants.{WIDE}
use Rattle.zp_zone.specs.declared.config.ZoneConfig.{ZoneConfig}
use Rattle.zp_open_gate.specs.declared.room_key.RoomKey.{RoomKey}
use Rattle.zp_open_gate.specs.declared.try_lock.TryLock.{TryLock}

-- of each zone, the lowest first, what never changes
abbrev pub RowState : Type 0
RowState = List RoomKey

-- what never changes behind a lock
abbrev pub lock_key : TryLock → RoomKey
lock_key l = l.table.shared.key

-- past the end of a row there is nothing
abbrev pub no_room : RoomKey
no_room = record { name = []; base = 0; pages = 0; min = 0; largest = 0 }

abbrev pub key_at : RowState → ℕ → RoomKey
key_at r i = slice_index_or r i no_room

-- the row has a zone at this place
abbrev pub HasZone : RowState → ℕ → Type 0
HasZone r i = i < length r

-- the zone with this key has this page, by its absolute number; and the pageblock of this number
abbrev pub HasPage : RoomKey → ℕ → Type 0
HasPage k p = (k.base ≤ p) × (p < k.base + k.pages)

abbrev pub HasPageblock : RoomKey → ℕ → Type 0
HasPageblock k n = n < pageblocks_of k.largest k.pages

-- that of a zone which is made with this config
abbrev pub key_for : ZoneConfig → RoomKey
key_for c = record { name = c.name.now; base = c.base; pages = c.pages; min = c.min; largest = c.largest }

-- what is wanted by a config, of one worker
abbrev pub wanted_by : ZoneConfig → Wanted
wanted_by c = wanted c.name.now c.base c.pages c.min 1

-- a zone can be made so
abbrev pub IsGoodConfig : ZoneConfig → Type 0
IsGoodConfig c = IsWideGood (wanted_by c)

-- the refusal is that of the first config by which no zone can be made
pub record IsOfFirstConfig (configs : List ZoneConfig) (e : Refused) : Type 0 where
  pub i : ℕ
  pub config : ZoneConfig
  pub before : All IsGoodConfig (take i configs)
  pub at : (i < length configs) × ((none : ZoneConfig) → slice_index_or configs i none ≡ config)
  pub refused : IsRefusedWithin WIDE (wanted_by config) e

-- why no row was opened: a config, or want of memory
abbrev pub IsWhyNoRow : List ZoneConfig → Refused → Type 0
IsWhyNoRow configs e = (e ≡ Memory) ⊎ IsOfFirstConfig configs e
