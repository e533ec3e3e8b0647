-- What is known of a zone that C describes (this profile).
use Rattle.std.specs.Prelude.{ℕ, ◌≡◌, ◌<◌, ◌≤◌, ◌+◌, ◌⊎◌, List, All, IsUtf8, length, slice_index_or, take}
use Rattle.zp_model.specs.Bounds.{IsLargest}
use Rattle.zp_model.specs.declared.constants.TheConstants.{LONGEST_NAME}
use Rattle.zp_zone.specs.Making.{IsWideGood, Wanted, wanted}
use Rattle.zp_share.specs.Shares.{ZoneKey, no_tie}
use Rattle.zonealloc.specs.declared.zone_spec.ZoneSpec.{ZoneSpec}

-- the key of the zone for so many workers, whatever its tie
abbrev pub spec_key : ℕ → ZoneSpec → ZoneKey
spec_key n z = record { tie = no_tie; name = take z.name_len z.name; base = z.base; pages = z.pages; min = z.min; largest = z.largest; workers = n }

-- each zone begins at the end of the one before it, or above that
abbrev pub AreApart : List ZoneSpec → Type 0
AreApart zones = (i : ℕ) (none : ZoneSpec) → i + 1 < length zones → (slice_index_or zones i none).base + (slice_index_or zones i none).pages ≤ (slice_index_or zones (i + 1) none).base

-- the name is as long as is said, and text
abbrev pub IsText : ZoneSpec → Type 0
IsText z = (z.name_len ≤ LONGEST_NAME) × IsUtf8 (take z.name_len z.name)

-- a zone can be wanted so; the rest its making tests
abbrev pub IsConfig : ZoneSpec → Type 0
IsConfig z = IsText z × IsLargest z.largest

-- why it cannot, by its number: 1 for the name, or else 40 for the largest order
abbrev pub IsNoConfig : ZoneSpec → ℕ → Type 0
IsNoConfig z code = ((code ≡ 1) × ¬ IsText z) ⊎ ((code ≡ 40) × IsText z × ¬ IsLargest z.largest)

-- a zone as its making wants it, of so many workers
abbrev pub wanted_zone : ℕ → ZoneSpec → Wanted
wanted_zone workers z = wanted (take z.name_len z.name) z.base z.pages z.min workers

abbrev pub IsGoodZone : ℕ → ZoneSpec → Type 0
IsGoodZone workers z = IsWideGood (wanted_zone workers z)

-- the number is that of the first zone of which something is wrong
pub record IsOfFirst (good : ZoneSpec → Type 0) (bad : ZoneSpec → ℕ → Type 0) (zones : List ZoneSpec) (code : ℕ) : Type 0 where
  pub i : ℕ
  pub zone : ZoneSpec
  pub before : All good (take i zones)
  pub at : (i < length zones) × ((none : ZoneSpec) → slice_index_or zones i none ≡ zone)
  pub number : bad zone code
