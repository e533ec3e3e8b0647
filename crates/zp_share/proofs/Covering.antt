-- What requests and moves on lists leave of the readings of a row: each zone with which sections were made is read no older than they are.
use Rattle.std.proofs.Common.{ℕ, ◌≡◌, ◌⊎◌, inl, inr, Bool, true, false, List, [], ◌∷◌, cond, refl, sym, ◌∙◌, ap, subst}
use Rattle.std.proofs.lemmas.Bool.{cases_eq}
use Rattle.zp_model.specs.declared.migrate_type.MigrateType.{MigrateType}
use Rattle.zp_model.specs.declared.request.Request.{Request}
use Rattle.zp_model.specs.declared.request.Reply.{Reply}
use Rattle.zp_share.specs.PlainShares.{PlainZoneShare, list_of, taken, taken_at}
use Rattle.zp_share.specs.ZoneShares.{ZoneShareState, answered, plain_share}
use Rattle.zp_share.specs.Shares.{ShareState, is_section, noted_at, sections_at, share_at, with_zone_share}
use Rattle.zp_share.specs.Readings.{CoversOwn}
use Rattle.zp_share.proofs.Carrying.{elsewhere, noted_one}

-- where no section was made, all is covered that was
pub covers_kept : (b : ℕ → ℕ → Type 0) (s u : ShareState) → ((i : ℕ) → sections_at u i ≡ sections_at s i) → CoversOwn b b s u
covers_kept b s u e = record { still = λ i n c. c; own = λ i. inl (e i) }

pub covers_same : (b : ℕ → ℕ → Type 0) (s u : ShareState) → u ≡ s → CoversOwn b b s u
covers_same b s u e = covers_kept b s u (λ i. ap (λ v. sections_at v i) e)

-- one request after which its zone's readings cover it
pub covers_one : (b a : ℕ → ℕ → Type 0) (i : ℕ) (r : Request) (q : Reply) (s u : ShareState) → u ≡ noted_at i r q s → (is_section q ≡ true → a i (sections_at u i)) → ((j n : ℕ) → b j n → a j n) →
    CoversOwn b a s u
covers_one b a i r q s u e own still = record { still = still; own = λ j. go j (is_section q) refl }
  where
    go : (j : ℕ) (c : Bool) → is_section q ≡ c → (sections_at u j ≡ sections_at s j) ⊎ a j (sections_at u j)
    go j false f = inl (ap (λ v. sections_at v j) (e ∙ ap (λ c. cond c (with_zone_share i (answered r q (share_at s i)) s) s) f))
    go j true f =
        elim (cases_eq j i) [
          | inl same ↦ inr (subst (λ k. a k (sections_at u k)) (sym same) (own f))
          | inr other ↦
              inl
              (ap (λ v. sections_at v j) (e ∙ noted_one s i r q)
              ∙ ap (λ (x : ZoneShareState). x.sections.made) (elsewhere s i j (cond (is_section q) (answered r q (share_at s i)) (share_at s i)) other))
        ]

-- one command after the other
pub covers_then : (b m a : ℕ → ℕ → Type 0) (s v u : ShareState) → CoversOwn b m s v → CoversOwn m a v u → CoversOwn b a s u
covers_then b m a s v u x y = record {
  still = λ i n c. y.still i n (x.still i n c);
  own = λ i.
      elim (y.own i) [
        | inr now ↦ inr now
        | inl same ↦ elim (x.own i) [ inl before ↦ inl (same ∙ before) | inr then ↦ inr (subst (a i) (sym same) (y.still i (sections_at v i) then)) ]
      ];
}

-- a move on lists makes no section
sections_moved : (v u : ShareState) (i : ℕ) → u ≡ with_zone_share i (share_at u i) v → (plain_share (share_at u i)).sections ≡ (plain_share (share_at v i)).sections → (j : ℕ) →
    sections_at u j ≡ sections_at v j
sections_moved v u i e same j =
    elim (cases_eq j i) [
      | inl at ↦ ap (λ k. sections_at u k) at ∙ (λ k. (same k).made) ∙ sym (ap (λ k. sections_at v k) at)
      | inr other ↦ ap (λ w. sections_at w j) e ∙ ap (λ (x : ZoneShareState). x.sections.made) (elsewhere v i j (share_at u i) other)
    ]

sections-taken : (t : MigrateType) (x : PlainZoneShare) (on : List ℕ) → (taken_at t on x).sections ≡ x.sections
sections-taken t x [] = refl
sections-taken t x (p ∷ ps) = refl

pub covers_taken : (b : ℕ → ℕ → Type 0) (v u : ShareState) (i : ℕ) (t : MigrateType) → u ≡ with_zone_share i (share_at u i) v → plain_share (share_at u i) ≡ taken t (plain_share (share_at v i)) →
    CoversOwn b b v u
covers_taken b v u i t e f =
    covers_kept b v u
    (sections_moved v u i e
    (ap (λ (x : PlainZoneShare). x.sections) f ∙ sections-taken t (plain_share (share_at v i)) (list_of (plain_share (share_at v i)) t)))
