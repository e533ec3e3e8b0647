-- Why a row is not opened, by why a zone of it is not made.
use Rattle.std.proofs.Common.{ℕ, ◌≡◌, ◌<◌, List, All, length, slice_index_or, take, refl, inl, inr}
use Rattle.zp_model.specs.declared.refused.Refused.{Refused}
use Rattle.zp_model.specs.declared.refused.Refused.TheVariants as refusal
use Rattle.zp_zone.specs.Making.{IsRefusedWithin, IsWideWhy}
use Rattle.zp_zone.specs.declared.config.TheConstants.{WIDE}
use Rattle.zp_zone.specs.declared.config.ZoneConfig.{ZoneConfig}
use Rattle.zp_open_gate.specs.Rows.{IsGoodConfig, IsWhyNoRow, wanted_by}

module _ (configs : List ZoneConfig) (i : ℕ) (config : ZoneConfig) (before : All IsGoodConfig (take i configs)) (at : (i < length configs) × ((none : ZoneConfig) → slice_index_or configs i none ≡ config)) where
  first : (e : Refused) → IsRefusedWithin WIDE (wanted_by config) e → IsWhyNoRow configs e
  first e x = inr (record { i = i; config = config; before = before; at = at; refused = x })

  pub why_no_row : (e : Refused) → IsWideWhy (wanted_by config) e → IsWhyNoRow configs e
  why_no_row refusal.Memory x = inl refl
  why_no_row e x = first e x
