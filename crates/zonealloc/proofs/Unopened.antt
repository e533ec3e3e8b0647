-- Why the zones that C describes come to no row, by why their configs come to none.
use Rattle.std.proofs.Common.{ℕ, ◌≡◌, ◌<◌, ◌∙◌, List, [], ◌∷◌, All, ap, arith, inl, inr, length, map, refl, slice_index_or, subst, sym}
use Rattle.std.proofs.lemmas.List.{get_or_default, get_or-map, get_or-take, length-map, length-take-le}
use Rattle.zp_model.specs.declared.refused.Refused.{Refused}
use Rattle.zp_model.specs.Refused.{refused_number}
use Rattle.zp_zone.specs.Making.{IsRefusedWithin, IsWideGood, Wanted}
use Rattle.zp_zone.specs.declared.config.TheConstants.{WIDE}
use Rattle.zp_zone.specs.declared.config.ZoneConfig.{ZoneConfig}
use Rattle.zp_gate.specs.GatedRows.{IsOfFirstConfig, IsWhyNoRow, wanted_by}
use Rattle.zonealloc.specs.declared.zone_spec.ZoneSpec.{ZoneSpec}
use Rattle.zonealloc.specs.Rows.{IsUnopened}
use Rattle.zonealloc.specs.Zones.{IsConfig, wanted_zone}

module _ (n : ℕ) (configs : List ZoneConfig) (z : ZoneSpec) (zs : List ZoneSpec) (same : map (wanted_by n) configs ≡ map (wanted_zone n) (z ∷ zs)) where
  many : length configs ≡ length (z ∷ zs)
  many = sym (length-map configs (wanted_by n)) ∙ ap length same ∙ length-map (z ∷ zs) (wanted_zone n)

  -- each zone is wanted as its config says
  wanted_at : (k : ℕ) (c : ZoneConfig) → k < length configs → wanted_by n (slice_index_or configs k c) ≡ wanted_zone n (slice_index_or (z ∷ zs) k z)
  wanted_at k c lt =
      let e = wanted_zone n z in
      sym (get_or-map (wanted_by n) configs k c e lt) ∙ ap (λ (ws : List Wanted). slice_index_or ws k e) same ∙ get_or-map (wanted_zone n) (z ∷ zs) k z e (let l = many in omega (arith, l, lt))

  of_first : (e : Refused) → All IsConfig (z ∷ zs) → IsOfFirstConfig n configs e → IsUnopened (z ∷ zs) n (refused_number e)
  of_first e good x =
      let i = x.i in let lt = x.at.0 in let l = many in
      inr (inr (
        good,
        record {
          i = i;
          zone = slice_index_or (z ∷ zs) i z;
          before = λ k d below.
              let long = length-take-le i (z ∷ zs) (omega (arith, l, lt)) in
              let less : k < i = omega (arith, below, long) in
              let there = x.before k x.config (let shorter = length-take-le i configs (omega (arith, lt)) in omega (arith, shorter, less)) in
              subst IsWideGood
              (ap (wanted_by n) (get_or-take i configs k x.config less) ∙ wanted_at k x.config (omega (arith, less, lt)) ∙ ap (wanted_zone n) (get_or_default (z ∷ zs) k z d (omega (arith, less, lt, l)) ∙ sym (get_or-take i (z ∷ zs) k d less))) there;
          at = (omega (arith, lt, l), λ none. get_or_default (z ∷ zs) i none z (omega (arith, lt, l)));
          number = (e, refl, subst (λ (w : Wanted). IsRefusedWithin WIDE w e) (ap (wanted_by n) (sym (x.at.1 x.config)) ∙ wanted_at i x.config lt) x.refused);
        },
      ))

pub unopened : (n : ℕ) (configs : List ZoneConfig) (zones : List ZoneSpec) (e : Refused) → map (wanted_by n) configs ≡ map (wanted_zone n) zones → All IsConfig zones → IsWhyNoRow n configs e → IsUnopened zones n (refused_number e)
unopened n configs zones e same good (inl memory) = inl (ap refused_number memory)
unopened n configs [] e same good (inr x) = absurd (let l = sym (length-map configs (wanted_by n)) ∙ ap length same in omega (arith, l, x.at.0))
unopened n configs (z ∷ zs) e same good (inr x) = of_first n configs z zs same e good x
