-- The zones of some configs, and their workers' shares, before the first request (this profile).
use Rattle.std.specs.Prelude.{ℕ, ◌≡◌, ◌<◌, ◌⊎◌, List, [], All, length, map, slice_index_or, take}
use Rattle.zp_model.specs.declared.refused.Refused.{Refused}
use Rattle.zp_model.specs.declared.refused.Refused.TheVariants.{Memory}
use Rattle.zp_model.specs.Zone.{zone_opening}
use Rattle.zp_zone.specs.declared.config.TheConstants.{WIDE}
use Rattle.zp_zone.specs.declared.config.ZoneConfig.{ZoneConfig}
use Rattle.zp_zone.specs.Making.{Wanted, IsRefusedWithin, IsWideGood, wanted}
use Rattle.zp_zone.specs.NamedZone.{NamedZone}
use Rattle.zp_zone.specs.Seats.{ZoneState, SeatState, IsUnused, books, seats_of}
use Rattle.zp_share.specs.PlainShares.{PlainShare, opening_own}

-- what a zone is made with
pub record PlainConfig : Type 0 where
  pub name : List ℕ
  pub base : ℕ
  pub pages : ℕ
  pub min : ℕ
  pub largest : ℕ

abbrev pub plain_config : ZoneConfig → PlainConfig
plain_config c = record { name = c.name.now; base = c.base; pages = c.pages; min = c.min; largest = c.largest }

-- past the last config there is none
abbrev pub no_config : PlainConfig
no_config = record { name = []; base = 0; pages = 0; min = 0; largest = 0 }

-- the zone of a config for so many workers, with nothing out
abbrev pub opened_zone : ℕ → PlainConfig → NamedZone
opened_zone workers c = record { name = c.name; plain = zone_opening c.largest c.base c.pages c.min workers }

-- worker w's share of the zones of these configs, before its first request
abbrev pub opening_share : ℕ → ℕ → List PlainConfig → ℕ → PlainShare
opening_share batch high configs w = record { batch = batch; high_len = high; zones = map (λ (c : PlainConfig). opening_own w c.base c.pages) configs }

-- these are the seats of so many workers in each of the zones, in order, with which no request was made
pub record AreSeatsOf (workers : ℕ) (zones : List ZoneState) (rows : List (List SeatState)) : Type 0 where
  pub seats : rows ≡ map (λ (z : ZoneState). seats_of z.tie (books z) workers) zones
  pub unused : All (λ (row : List SeatState). All IsUnused row) rows

abbrev pub wanted_of : ℕ → PlainConfig → Wanted
wanted_of workers c = wanted c.name c.base c.pages c.min workers

-- a zone can be made of it for so many workers
abbrev pub CanBeMade : ℕ → PlainConfig → Type 0
CanBeMade workers c = IsWideGood (wanted_of workers c)

-- of all configs before one a zone can be made, and of that one none, for this reason
pub record IsFirstWrong (workers : ℕ) (configs : List PlainConfig) (r : Refused) : Type 0 where
  pub place : ℕ
  pub there : place < length configs
  pub before : All (CanBeMade workers) (take place configs)
  pub why : IsRefusedWithin WIDE (wanted_of workers (slice_index_or configs place no_config)) r

-- why no crew was made: the first config of which no zone can be made, or want of memory
abbrev pub IsWhyNone : ℕ → List PlainConfig → Refused → Type 0
IsWhyNone workers configs r = (r ≡ Memory) ⊎ IsFirstWrong workers configs r
