-- Pages that all get one use.
use Rattle.std.proofs.Common.{ℕ, inl, inr, Some, ◌-◌, ◌≡◌, ◌≤◌, ◌<◌, refl, sym, ◌∙◌, ap, subst, arith, true, List, [], ◌∷◌, ◌++◌, length, get_or, take, map, cond, ◌+◌, All}
use Rattle.std.specs.Prelude.{slice_set}
use Rattle.std.proofs.lemmas.Bool.Decides.{nat_tests, eqb_tells}
use Rattle.std.proofs.lemmas.Grind.{common_steps}
use Rattle.std.proofs.lemmas.List.{get_or_past, map-set, length-set, take_more}
use Rattle.std.proofs.lemmas.List.Elements.{All-get_or}
use Rattle.zp_model.specs.declared.migrate_type.MigrateType.{MigrateType}
use Rattle.zp_model.specs.Rows.{stands_in}
use Rattle.zp_share.specs.PlainShares.{lent_kind}
use Rattle.zp_model.specs.Books.{with_pages, without_pages}
use Rattle.zp_model.proofs.Settles.{stands_first, stands_later}
use Rattle.zp_share.specs.declared.page_use.PageUse.{PageUse}
use Rattle.zp_share.specs.declared.page_use.PageUse.TheVariants.{Away, Lent, Cached}
use Rattle.zp_share.specs.PageUses.{UsesState, IsPlace, use_at, use_of, held, all_as}

abbrev pub IsIn : ℕ → List PageUse → ℕ → Type 0
IsIn base us p = let u : UsesState = record { base = base; uses = us } in IsPlace u p

-- the use of a page that is set, and of another
pub use-set : (base p : ℕ) (u : PageUse) (us : List PageUse) → IsIn base us p → use_of base (slice_set us (p - base) u) p ≡ u
use-set base p u us i = grind (arith, nat_tests, common_steps)

pub use-set_other : (base p q : ℕ) (u : PageUse) (us : List PageUse) → base ≤ p → (q ≡ p → ⊥) → use_of base (slice_set us (p - base) u) q ≡ use_of base us q
use-set_other base p q u us le ne = grind (arith, nat_tests, common_steps)

-- a page with a use is one of the zone
pub in_by_use : (base p : ℕ) (us : List PageUse) → (use_of base us p ≡ Away → ⊥) → IsIn base us p
in_by_use base p us ne = record { from = grind (arith, nat_tests); below = grind (arith, nat_tests, get_or_past us (p - base) Away) }

pub in_at : (base p : ℕ) (us : List PageUse) → IsIn base us p → use_at us (p - base) ≡ use_of base us p
in_at base p us i = grind (arith, nat_tests)

pub length-all_as : (base : ℕ) (u : PageUse) (ps : List ℕ) (us : List PageUse) → length (all_as base u ps us) ≡ length us
length-all_as base u [] us = refl
length-all_as base u (p ∷ ps) us = length-all_as base u ps (slice_set us (p - base) u) ∙ length-set us (p - base) u

pub in-all_as : (base q : ℕ) (u : PageUse) (ps : List ℕ) (us : List PageUse) → IsIn base us q → IsIn base (all_as base u ps us) q
in-all_as base q u ps us i = record { from = i.from; below = subst (λ n. q - base < n) (sym (length-all_as base u ps us)) i.below }

pub all_as-push : (base p : ℕ) (u : PageUse) (ps : List ℕ) (us : List PageUse) → all_as base u (ps ++ p ∷ []) us ≡ slice_set (all_as base u ps us) (p - base) u
all_as-push base p u [] us = refl
all_as-push base p u (q ∷ ps) us = all_as-push base p u ps (slice_set us (q - base) u)

-- the pages named have the use, and the others what they had
pub use-all_as : (base q : ℕ) (u : PageUse) (ps : List ℕ) (us : List PageUse) → ((p : ℕ) → stands_in p ps ≡ true → IsIn base us p) →
    use_of base (all_as base u ps us) q ≡ cond (stands_in q ps) u (use_of base us q)
use-all_as base q u [] us f = refl
use-all_as base q u (p ∷ ps) us f =
    let i : IsIn base us p = f p (stands_first p ps) in
    use-all_as base q u ps (slice_set us (p - base) u)
    (λ x e. let j : IsIn base us x = f x (stands_later x p ps e) in record { from = j.from; below = subst (λ n. x - base < n) (sym (length-set us (p - base) u)) j.below })
    ∙ grind (arith, nat_tests, use-set base p u us i, use-set_other base p q u us i.from)

-- the blocks that the uses stand for
pub held-cached : (base w : ℕ) (t : MigrateType) (ps : List ℕ) (us : List PageUse) →
    with_pages base (record { order = 0; kind = t; worker = w }) ps (map (held w) us) ≡ map (held w) (all_as base (Cached t) ps us)
held-cached base w t [] us = refl
held-cached base w t (p ∷ ps) us =
    ap (with_pages base (record { order = 0; kind = t; worker = w }) ps) (sym (map-set (held w) us (p - base) (Cached t)))
    ∙ held-cached base w t ps (slice_set us (p - base) (Cached t))

pub held-away : (base w : ℕ) (ps : List ℕ) (us : List PageUse) → without_pages base ps (map (held w) us) ≡ map (held w) (all_as base Away ps us)
held-away base w [] us = refl
held-away base w (p ∷ ps) us =
    ap (without_pages base ps) (sym (map-set (held w) us (p - base) Away)) ∙ held-away base w ps (slice_set us (p - base) Away)

-- one page more gets the use
abbrev pub with_all : UsesState → PageUse → List ℕ → UsesState
with_all o u ps = record o { uses = all_as o.base u ps o.uses }

pub set_in : (o m : UsesState) (u : PageUse) (i p : ℕ) (ps : List ℕ) → All (IsPlace o) ps → i < length ps → p ≡ get_or ps i p → m ≡ with_all o u (take i ps) → IsPlace m p
set_in o m u i p ps a lt at e =
    let here : IsPlace o p = subst (λ x. IsPlace o x) (sym at) (All-get_or (IsPlace o) ps i p lt a) in
    subst (λ x. IsPlace x p) (sym e) (in-all_as o.base p u (take i ps) o.uses here)

pub one_more_use : (o m n : UsesState) (u : PageUse) (i p : ℕ) (ps : List ℕ) → i < length ps → p ≡ get_or ps i p → m ≡ with_all o u (take i ps) →
    n ≡ record m { uses = slice_set m.uses (p - m.base) u } → n ≡ with_all o u (take (i + 1) ps)
one_more_use o m n u i p ps lt at e f =
    let grown : take (i + 1) ps ≡ take i ps ++ p ∷ [] = take_more ps i p lt ∙ ap (λ x. take i ps ++ x ∷ []) (sym at) in
    f
    ∙ ap (λ (x : UsesState). let y : UsesState = record x { uses = slice_set x.uses (p - x.base) u } in y) e
    ∙ sym (ap (with_all o u) grown ∙ ap (λ us. let y : UsesState = record o { uses = us } in y) (all_as-push o.base p u (take i ps) o.uses))

-- a page whose block of some order has a type is lent with that order and it
pub lent_use : (u : PageUse) (k : ℕ) (t : MigrateType) → lent_kind u k ≡ Some t → u ≡ Lent k t
lent_use Away k t e = absurd cc
lent_use (Cached s) k t e = absurd cc
lent_use (Lent j s) k t e = elim (eqb_tells j k) [ inl w ↦ let same = rw w.0 at e in cc | inr w ↦ let none = rw w.0 at e in absurd cc ]
