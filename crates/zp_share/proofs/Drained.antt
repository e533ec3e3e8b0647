-- Lists of pages that were given back, one after another, and the sections that it took.
use Rattle.std.proofs.Common.{ℕ, ◌+◌, ◌*◌, ◌-◌, ◌≡◌, ◌≢◌, ◌<◌, ◌≤◌, ◌⊎◌, inl, inr, refl, sym, ◌∙◌, ap, subst, arith, List, [], ◌∷◌, length, take, Result, Ok, Err}
use Rattle.std.proofs.lemmas.Bool.{cases_eq, cases_lt}
use Rattle.std.proofs.lemmas.List.{get_or-set_same, get_or-set_other, length-reverse, length-take-le}
use Rattle.std.specs.Prelude.{OnErr, OnOk, reverse}
use Rattle.zp_model.specs.declared.constants.TheConstants.{TYPES}
use Rattle.zp_model.specs.declared.migrate_type.MigrateType.{MigrateType}
use Rattle.zp_model.specs.declared.migrate_type.MigrateType.TheVariants.{Unmovable, Reclaimable, Movable}
use Rattle.zp_model.specs.declared.refused.Refused.{Refused}
use Rattle.zp_model.specs.declared.request.Request.TheVariants.{Drain}
use Rattle.zp_model.specs.declared.request.Reply.TheVariants as reply
use Rattle.zp_model.specs.MigrateType.{type_number}
use Rattle.zp_share.specs.PlainShares.{back, without_back}
use Rattle.zp_share.specs.ZoneShares.{ZoneShareState, IsShare, answered, cached_of}
use Rattle.zp_share.specs.Shares.{ShareState, AreDrained, DrainsOnce, IsDrainedTill, emptied_lists, list_place, noted_at, share_at, was_emptied}
use Rattle.zp_share.proofs.Lending.{noted_here, noted_elsewhere}
use Rattle.zp_share.proofs.Listing.{number_in}
use Rattle.zp_share.proofs.Closing.{listing}

-- a list has its place alone
place_one : (i j : ℕ) (t w : MigrateType) → list_place i t ≡ list_place j w → (i ≡ j) × (t ≡ w)
place_one i j Unmovable Unmovable e = (omega (arith, e), refl)
place_one i j Reclaimable Reclaimable e = (omega (arith, e), refl)
place_one i j Movable Movable e = (omega (arith, e), refl)
place_one i j Unmovable Reclaimable e = absurd (omega (arith, e))
place_one i j Unmovable Movable e = absurd (omega (arith, e))
place_one i j Reclaimable Unmovable e = absurd (omega (arith, e))
place_one i j Reclaimable Movable e = absurd (omega (arith, e))
place_one i j Movable Unmovable e = absurd (omega (arith, e))
place_one i j Movable Reclaimable e = absurd (omega (arith, e))

number_of_one : (t w : MigrateType) → (w ≡ t → ⊥) → type_number w ≢ type_number t
number_of_one t w ne e = ne (go w t e)
  where
    go : (w t : MigrateType) → type_number w ≡ type_number t → w ≡ t
    go w t e = grind (arith, e)

differs_ur : Unmovable ≡ Reclaimable → ⊥
differs_ur e = cc

differs_um : Unmovable ≡ Movable → ⊥
differs_um e = cc

differs_rm : Reclaimable ≡ Movable → ⊥
differs_rm e = cc

-- one list was given back, and no other changed
drained_at : (s u : ShareState) (i : ℕ) (t : MigrateType) → cached_of (share_at u i) t ≡ [] →
    ((j : ℕ) (w : MigrateType) → (j ≡ i → w ≡ t → ⊥) → cached_of (share_at u j) w ≡ cached_of (share_at s j) w) → AreDrained (list_place i t) (list_place i t + 1) s u
drained_at s u i t none others = record {
  emptied = λ j w lo hi.
      let one = place_one j i w t (omega (arith, lo, hi)) in
      ap (λ k. cached_of (share_at u k) w) one.0 ∙ ap (cached_of (share_at u i)) one.1 ∙ none;
  others = λ j w out. others j w (λ e f. outside out (ap (λ k. list_place k w) e ∙ ap (list_place i) f));
}
  where
    outside : {p : ℕ} → (p < list_place i t) ⊎ (list_place i t + 1 ≤ p) → p ≡ list_place i t → ⊥
    outside (inl lt) e = omega (arith, lt, e)
    outside (inr le) e = omega (arith, le, e)

-- lists and then those after them
pub drained_then : (n m o p : ℕ) (s v u : ShareState) → n ≤ m → m ≡ o → o ≤ p → AreDrained n m s v → AreDrained o p v u → AreDrained n p s u
drained_then n m o p s v u le same more x y = record {
  emptied = λ i t lo hi. go i t (cases_lt (list_place i t) m) lo hi;
  others = λ i t out. after i t out;
}
  where
    go : (i : ℕ) (t : MigrateType) → (list_place i t < m) ⊎ (m ≤ list_place i t) → n ≤ list_place i t → list_place i t < p → cached_of (share_at u i) t ≡ []
    go i t (inl lt) lo hi = y.others i t (inl (omega (arith, lt, same))) ∙ x.emptied i t lo lt
    go i t (inr ge) lo hi = y.emptied i t (omega (arith, ge, same)) hi

    after : (i : ℕ) (t : MigrateType) → (list_place i t < n) ⊎ (p ≤ list_place i t) → cached_of (share_at u i) t ≡ cached_of (share_at s i) t
    after i t (inl lt) = y.others i t (inl (omega (arith, lt, le, same))) ∙ x.others i t (inl lt)
    after i t (inr ge) = y.others i t (inr ge) ∙ x.others i t (inr (omega (arith, ge, more, same)))

pub till_then : (n m o : ℕ) (s v u : ShareState) → n ≤ m → m ≡ o → AreDrained n m s v → IsDrainedTill o v u → IsDrainedTill n s u
till_then n m o s v u le same x y = record {
  zone = y.zone;
  kind = y.kind;
  pages = subst (λ l. 1 ≤ length l) (x.others y.zone y.kind (inr (omega (arith, same, y.from)))) y.pages;
  from = omega (arith, le, same, y.from);
  drained = drained_then n m o (list_place y.zone y.kind) s v u le same y.from x y.drained;
}

-- whether a list had pages and has none, over lists that are given back one after another
same_none : (l : List ℕ) → was_emptied l l ≡ 0
same_none [] = refl
same_none (p ∷ ps) = refl

none_after : (x y : List ℕ) → y ≡ x → was_emptied x [] ≡ was_emptied x y + was_emptied y []
none_after x y e = subst (λ w. was_emptied x [] ≡ was_emptied x w + was_emptied w []) (sym e) (go x)
  where
    go : (l : List ℕ) → was_emptied l [] ≡ was_emptied l l + was_emptied l []
    go [] = refl
    go (p ∷ ps) = refl

emptied_then : (x y z : List ℕ) → (y ≡ []) ⊎ (y ≡ x) → (z ≡ []) ⊎ (z ≡ y) → was_emptied x z ≡ was_emptied x y + was_emptied y z
emptied_then x y z a (inr b) =
    subst (λ w. was_emptied x w ≡ was_emptied x y + was_emptied y w) (sym b) (let zero_now = same_none y in omega (arith, zero_now))
emptied_then x y z (inl a) (inl b) =
    subst (λ w. was_emptied x w ≡ was_emptied x y + was_emptied y w) (sym b)
    (subst (λ w. was_emptied x [] ≡ was_emptied x w + was_emptied w []) (sym a) (omega arith))
emptied_then x y z (inr a) (inl b) = subst (λ w. was_emptied x w ≡ was_emptied x y + was_emptied y w) (sym b) (none_after x y a)

-- a list is as it was, or empty
either : (n m : ℕ) (s u : ShareState) → AreDrained n m s u → (i : ℕ) (t : MigrateType) → (cached_of (share_at u i) t ≡ []) ⊎ (cached_of (share_at u i) t ≡ cached_of (share_at s i) t)
either n m s u x i t = go (cases_lt (list_place i t) n) (cases_lt (list_place i t) m)
  where
    go : (list_place i t < n) ⊎ (n ≤ list_place i t) → (list_place i t < m) ⊎ (m ≤ list_place i t) → (cached_of (share_at u i) t ≡ []) ⊎ (cached_of (share_at u i) t ≡ cached_of (share_at s i) t)
    go (inl lt) b = inr (x.others i t (inl lt))
    go (inr ge) (inl lt) = inl (x.emptied i t ge lt)
    go (inr ge) (inr more) = inr (x.others i t (inr more))

emptied_lists_then : (n m o p : ℕ) (s v u : ShareState) → AreDrained n m s v → AreDrained o p v u → (i : ℕ) → emptied_lists i s u ≡ emptied_lists i s v + emptied_lists i v u
emptied_lists_then n m o p s v u x y i =
    let one = λ (t : MigrateType). emptied_then (cached_of (share_at s i) t) (cached_of (share_at v i) t) (cached_of (share_at u i) t) (either n m s v x i t) (either o p v u y i t) in
    omega (arith, one Unmovable, one Reclaimable, one Movable)

pub once_then : (n m o p : ℕ) (s v u : ShareState) → AreDrained n m s v → AreDrained o p v u → DrainsOnce s v → DrainsOnce v u → DrainsOnce s u
once_then n m o p s v u x y f g i = omega (arith, f i, g i, emptied_lists_then n m o p s v u x y i)

-- nothing was asked
kept : (i : ℕ) (t : MigrateType) (s u : ShareState) → cached_of (share_at u i) t ≡ cached_of (share_at s i) t → was_emptied (cached_of (share_at s i) t) (cached_of (share_at u i) t) ≡ 0
kept i t s u e = ap (was_emptied (cached_of (share_at s i) t)) e ∙ same_none (cached_of (share_at s i) t)

gone : (i : ℕ) (t : MigrateType) (s u : ShareState) → 1 ≤ length (cached_of (share_at s i) t) → cached_of (share_at u i) t ≡ [] → was_emptied (cached_of (share_at s i) t) (cached_of (share_at u i) t) ≡ 1
gone i t s u some none = ap (was_emptied (cached_of (share_at s i) t)) none ∙ go (cached_of (share_at s i) t) some
  where
    go : (l : List ℕ) → 1 ≤ length l → was_emptied l [] ≡ 1
    go [] le = absurd (omega (arith, le))
    go (p ∷ ps) le = refl

-- a whole list was given back by one section
pub record IsOneDrained (s u : ShareState) (i : ℕ) (t : MigrateType) : Type 0 where
  pub drained : AreDrained (list_place i t) (list_place i t + 1) s u
  pub once : DrainsOnce s u

pub one_drained : (s u : ShareState) (i n : ℕ) (t : MigrateType) → i < length s.zones → IsShare (share_at s i) → n ≢ 0 → n ≡ length (cached_of (share_at s i) t) →
    u ≡ noted_at i (Drain t (back n (cached_of (share_at s i) t))) reply.Drained s → IsOneDrained s u i t
one_drained s u i n t lt whole ne len is = record { drained = drained_at s u i t none others; once = once }
  where
    z : ZoneShareState
    z = share_at s i

    now : share_at u i ≡ answered (Drain t (back n (cached_of z t))) reply.Drained z
    now = noted_here s u i (Drain t (back n (cached_of z t))) reply.Drained lt is

    whole_back : (l : List ℕ) → n ≡ length l → without_back (length (back n l)) l ≡ []
    whole_back l e =
        let all : length (back n l) ≡ length l = length-take-le n (reverse l) (omega (arith, e, length-reverse l)) ∙ e in
        ap (λ k. take k l) (let nought : length l - length (back n l) ≡ 0 = omega (arith, all) in nought)

    none : cached_of (share_at u i) t ≡ []
    none =
        ap (λ x. cached_of x t) now
        ∙ get_or-set_same z.cached (type_number t) (without_back (length (back n (cached_of z t))) (cached_of z t)) [] (number_in z.seat.part.base z.uses z.cached t (listing z whole))
        ∙ whole_back (cached_of z t) len

    beside : (w : MigrateType) → (w ≡ t → ⊥) → cached_of (share_at u i) w ≡ cached_of z w
    beside w other =
        ap (λ x. cached_of x w) now
        ∙ get_or-set_other z.cached (type_number t) (type_number w) (without_back (length (back n (cached_of z t))) (cached_of z t)) [] (number_of_one t w other)

    others : (j : ℕ) (w : MigrateType) → (j ≡ i → w ≡ t → ⊥) → cached_of (share_at u j) w ≡ cached_of (share_at s j) w
    others j w other =
        elim (cases_eq j i) [
          | inl same ↦ ap (λ k. cached_of (share_at u k) w) same ∙ beside w (other same) ∙ sym (ap (λ k. cached_of (share_at s k) w) same)
          | inr ne ↦ ap (λ x. cached_of x w) (noted_elsewhere s u i j (Drain t (back n (cached_of z t))) reply.Drained ne is)
        ]

    made : (share_at u i).sections.made ≡ z.sections.made + 1
    made = ap (λ (x : ZoneShareState). x.sections.made) now

    count : (w : MigrateType) → t ≡ w → emptied_lists i s u ≡ 1
    count Unmovable e =
        let a = gone i t s u (omega (arith, ne, len)) none in
        let at = subst (λ w. was_emptied (cached_of (share_at s i) w) (cached_of (share_at u i) w) ≡ 1) e a in
        omega (arith, at, kept i Reclaimable s u (beside Reclaimable (λ f. differs_ur (sym (f ∙ e)))), kept i Movable s u (beside Movable (λ f. differs_um (sym (f ∙ e)))))
    count Reclaimable e =
        let a = gone i t s u (omega (arith, ne, len)) none in
        let at = subst (λ w. was_emptied (cached_of (share_at s i) w) (cached_of (share_at u i) w) ≡ 1) e a in
        omega (arith, at, kept i Unmovable s u (beside Unmovable (λ f. differs_ur (f ∙ e))), kept i Movable s u (beside Movable (λ f. differs_rm (sym (f ∙ e)))))
    count Movable e =
        let a = gone i t s u (omega (arith, ne, len)) none in
        let at = subst (λ w. was_emptied (cached_of (share_at s i) w) (cached_of (share_at u i) w) ≡ 1) e a in
        omega (arith, at, kept i Unmovable s u (beside Unmovable (λ f. differs_um (f ∙ e))), kept i Reclaimable s u (beside Reclaimable (λ f. differs_rm (f ∙ e))))

    once : DrainsOnce s u
    once j =
        elim (cases_eq j i) [
          | inl same ↦
              subst (λ k. (share_at u k).sections.made ≡ (share_at s k).sections.made + emptied_lists k s u) (sym same) (let one = count t refl in omega (arith, made, one))
          | inr ne ↦
              let there = noted_elsewhere s u i j (Drain t (back n (cached_of z t))) reply.Drained ne is in
              let same : (w : MigrateType) → was_emptied (cached_of (share_at s j) w) (cached_of (share_at u j) w) ≡ 0 = λ w. kept j w s u (ap (λ x. cached_of x w) there) in
              let before : (share_at u j).sections.made ≡ (share_at s j).sections.made = ap (λ (x : ZoneShareState). x.sections.made) there in
              omega (arith, same Unmovable, same Reclaimable, same Movable, before)
        ]

-- the three lists of a zone, one after another
pub drained_two : (i : ℕ) (s v w : ShareState) → AreDrained (list_place i Unmovable) (list_place i Unmovable + 1) s v → AreDrained (list_place i Reclaimable) (list_place i Reclaimable + 1) v w →
    AreDrained (list_place i Unmovable) (list_place i Reclaimable + 1) s w
drained_two i s v w x y =
    drained_then (list_place i Unmovable) (list_place i Unmovable + 1) (list_place i Reclaimable) (list_place i Reclaimable + 1) s v w (omega arith) (omega arith) (omega arith) x y

from_zone : (i : ℕ) → list_place i Unmovable ≡ i * TYPES
from_zone i = omega arith

pub till_second : (i : ℕ) (s v u : ShareState) → AreDrained (list_place i Unmovable) (list_place i Unmovable + 1) s v → IsDrainedTill (list_place i Reclaimable) v u → IsDrainedTill (i * TYPES) s u
till_second i s v u x y =
    subst (λ n. IsDrainedTill n s u) (from_zone i) (till_then (list_place i Unmovable) (list_place i Unmovable + 1) (list_place i Reclaimable) s v u (omega arith) (omega arith) x y)

pub till_third : (i : ℕ) (s v w u : ShareState) → AreDrained (list_place i Unmovable) (list_place i Unmovable + 1) s v → AreDrained (list_place i Reclaimable) (list_place i Reclaimable + 1) v w →
    IsDrainedTill (list_place i Movable) w u → IsDrainedTill (i * TYPES) s u
till_third i s v w u x y z =
    subst (λ n. IsDrainedTill n s u) (from_zone i)
    (till_then (list_place i Unmovable) (list_place i Reclaimable + 1) (list_place i Movable) s w u (omega arith) (omega arith) (drained_two i s v w x y) z)

pub once_second : (i m : ℕ) (s v u : ShareState) → AreDrained (list_place i Unmovable) (list_place i Unmovable + 1) s v → AreDrained (list_place i Reclaimable) m v u → DrainsOnce s v → DrainsOnce v u → DrainsOnce s u
once_second i m s v u x y f g = once_then (list_place i Unmovable) (list_place i Unmovable + 1) (list_place i Reclaimable) m s v u x y f g

pub once_third : (i m : ℕ) (s v w u : ShareState) → AreDrained (list_place i Unmovable) (list_place i Unmovable + 1) s v → AreDrained (list_place i Reclaimable) (list_place i Reclaimable + 1) v w →
    AreDrained (list_place i Movable) m w u → DrainsOnce s v → DrainsOnce v w → DrainsOnce w u → DrainsOnce s u
once_third i m s v w u x y z f g h =
    once_then (list_place i Unmovable) (list_place i Reclaimable + 1) (list_place i Movable) m s w u (drained_two i s v w x y) z (once_second i (list_place i Reclaimable + 1) s v w x y f g) h

-- what holds anyhow holds of a refusal; and of either answer what holds of it
pub on_err : {A : Type 0} → (r : Result A Refused) (P : Type 0) → P → OnErr r P
on_err (Ok a) P p = tt
on_err (Err e) P p = p

pub by_answer : {A : Type 0} → (r : Result A Refused) (P Q R : Type 0) → OnOk r P → OnErr r Q → (P → R) → (Q → R) → R
by_answer (Ok a) P Q R p q f g = f p
by_answer (Err e) P Q R p q f g = g q
