-- The pages that a refill has got: one page more, and what it is in the end.
use Rattle.std.proofs.Common.{ℕ, suc, ◌+◌, ◌-◌, ◌≡◌, ◌≤◌, ◌<◌, ◌==◌, inl, inr, refl, sym, ◌∙◌, ap, arith, true, false, List, [], ◌∷◌, ◌++◌, All, length, not, Some, None}
use Rattle.std.proofs.lemmas.Bool.{and_parts, and_from, or_parts, both_ways, false_from_ne_true, false≢true, eq-eqb}
use Rattle.std.proofs.lemmas.List.{length-append}
use Rattle.std.proofs.lemmas.List.Elements.{All-nil, All-head, All-tail, All-push, All-weaker}
use Rattle.zp_model.specs.declared.migrate_type.MigrateType.{MigrateType}
use Rattle.zp_model.specs.declared.mark.Mark.{Mark}
use Rattle.zp_model.specs.declared.refused.Refused.{Refused}
use Rattle.zp_model.specs.declared.request.Reply.{Reply}
use Rattle.zp_model.specs.Rows.{stands_in}
use Rattle.zp_model.specs.Zone.{PlainZone}
use Rattle.zp_model.specs.Step.{Outcome, alloc, refill, refill_end, refuse, page_of}
use Rattle.zp_model.specs.Run.{is_out, is_distinct}
use Rattle.zp_model.proofs.RowLists.{end_others}
use Rattle.zp_model.proofs.Settles.{stands_cases}
use Rattle.zp_zone.specs.NamedZone.{NamedZone, KeepsOut, IsFresh, AreOut}

-- a zone with its name is known by its parts
pub zone_is : (Z Y : NamedZone) (y : PlainZone) → Y.name ≡ Z.name → Y.plain ≡ y → Y ≡ record Z { plain = y }
zone_is Z Y y e f = λ i. record { name = e i; plain = f i }

-- what follows the next request of a refill, when it is answered so
abbrev next : Outcome → ℕ → MigrateType → Mark → List ℕ → ℕ → Reply → Outcome
next o w t m got n r = elim (page_of r) as (λ x. Outcome) [ Some p ↦ refill o.zone w t m (got ++ p ∷ []) n | None ↦ refill_end got o ]

-- one request more, with so many left
refill-more : (z : PlainZone) (w : ℕ) (t : MigrateType) (m : Mark) (got : List ℕ) (k n p : ℕ) → k ≡ suc n → Reply.Page p ≡ (alloc z w 0 t m).reply →
    refill z w t m got k ≡ refill (alloc z w 0 t m).zone w t m (got ++ p ∷ []) n
refill-more z w t m got k n p s e = rw s (ap (next (alloc z w 0 t m) w t m got n) (sym e))

refill-stopped : (z : PlainZone) (w : ℕ) (t : MigrateType) (m : Mark) (got : List ℕ) (k n : ℕ) (r : Refused) → k ≡ suc n → Reply.Refused r ≡ (alloc z w 0 t m).reply →
    refill z w t m got k ≡ refill_end got (alloc z w 0 t m)
refill-stopped z w t m got k n r s e = rw s (ap (next (alloc z w 0 t m) w t m got n) (sym e))

-- a refill that gets no page is answered as its first request
pub none_got : (z : PlainZone) (w : ℕ) (t : MigrateType) (m : Mark) (count : ℕ) (r : Refused) → 1 ≤ count → alloc z w 0 t m ≡ refuse z r →
    refill z w t m [] count ≡ refuse z r
none_got z w t m count r some e = refill-stopped z w t m [] count (count - 1) r (omega arith) (ap (λ (o : Outcome). o.reply) (sym e)) ∙ e

-- a page that is not out is none of those that are
stands-to : (P : ℕ → Type 0) (p : ℕ) (xs : List ℕ) → All P xs → stands_in p xs ≡ true → P p
stands-to P p [] a e = absurd (false≢true e)
stands-to P p (x ∷ xs) a e =
    elim (stands_cases p x xs e) [ inl same ↦ rw same (All-head P x xs a) | inr later ↦ stands-to P p xs (All-tail P x xs a) later ]

fresh-apart : (z : PlainZone) (w p : ℕ) (pages : List ℕ) → AreOut z w pages → IsFresh z p → stands_in p pages ≡ false
fresh-apart z w p pages a f = false_from_ne_true _ (λ e. both_ways _ (f w 0) (stands-to (λ q. is_out z w q 0 ≡ true) p pages a e))

distinct-push : (p : ℕ) (xs : List ℕ) → is_distinct xs ≡ true → stands_in p xs ≡ false → is_distinct (xs ++ p ∷ []) ≡ true
distinct-push p [] d s = refl
distinct-push p (x ∷ xs) d s =
    let a = and_parts _ _ d in
    let b = or_parts _ _ s in
    and_from (not (stands_in x (xs ++ p ∷ []))) _ (rw (end_others x p xs (λ e. both_ways (p == x) b.0 (eq-eqb p x (sym e)))) a.0) (distinct-push p xs a.1 b.1)

-- worker w got these pages of a refill of the zone `before`, which is z now
pub record IsGot (before z : PlainZone) (w : ℕ) (t : MigrateType) (m : Mark) (count : ℕ) (pages : List ℕ) : Type 0 where
  pub rest : refill before w t m [] count ≡ refill z w t m pages (count - length pages)
  pub within : length pages ≤ count
  pub out : AreOut z w pages
  pub distinct : is_distinct pages ≡ true
  pub fresh : All (IsFresh before) pages
  pub kept : KeepsOut before z

-- z gave worker w the page p, and is y now
pub record IsGiven (z y : PlainZone) (w : ℕ) (t : MigrateType) (m : Mark) (p : ℕ) : Type 0 where
  pub reply : Reply.Page p ≡ (alloc z w 0 t m).reply
  pub zone : y ≡ (alloc z w 0 t m).zone
  pub out : is_out y w p 0 ≡ true
  pub fresh : IsFresh z p
  pub kept : KeepsOut z y

pub got_none : (z : PlainZone) (w : ℕ) (t : MigrateType) (m : Mark) (count : ℕ) → IsGot z z w t m count []
got_none z w t m count =
    let all : count ≡ count - 0 = omega arith in
    record {
      rest = ap (refill z w t m []) all;
      within = omega arith;
      out = All-nil (λ q. is_out z w q 0 ≡ true);
      distinct = refl;
      fresh = All-nil (IsFresh z);
      kept = λ v q j e. e;
    }

pub got_more : (before z y : PlainZone) (w : ℕ) (t : MigrateType) (m : Mark) (count p : ℕ) (pages : List ℕ) → IsGot before z w t m count pages → length pages < count →
    IsGiven z y w t m p → IsGot before y w t m count (pages ++ p ∷ [])
got_more before z y w t m count p pages x lt g =
    let n : length (pages ++ p ∷ []) ≡ length pages + 1 = length-append pages (p ∷ []) in
    let left : count - length (pages ++ p ∷ []) ≡ count - length pages - 1 = omega arith in
    record {
      rest =
          x.rest ∙ refill-more z w t m pages (count - length pages) (count - length pages - 1) p (omega arith) g.reply
          ∙ (λ i. refill (sym g.zone i) w t m (pages ++ p ∷ []) (sym left i));
      within = omega arith;
      out = All-push (λ q. is_out y w q 0 ≡ true) pages p (All-weaker (λ q. is_out z w q 0 ≡ true) (λ q. is_out y w q 0 ≡ true) (λ q e. g.kept w q 0 e) pages x.out) g.out;
      distinct = distinct-push p pages x.distinct (fresh-apart z w p pages x.out g.fresh);
      fresh = All-push (IsFresh before) pages p x.fresh (λ v j. false_from_ne_true _ (λ e. both_ways _ (g.fresh v j) (x.kept v p j e)));
      kept = λ v q j e. g.kept v q j (x.kept v q j e);
    }

-- the refill is at its end: it has all the pages, or is stopped
pub got_all : (before z : PlainZone) (w : ℕ) (t : MigrateType) (m : Mark) (count : ℕ) (pages : List ℕ) → IsGot before z w t m count pages → count ≤ length pages →
    refill before w t m [] count ≡ record { reply = Reply.Pages pages; zone = z }
got_all before z w t m count pages x le =
    let none : count - length pages ≡ 0 = omega arith in
    x.rest ∙ ap (λ q. refill z w t m pages q) none

pub got_stopped : (before z : PlainZone) (w : ℕ) (t : MigrateType) (m : Mark) (count : ℕ) (r : Refused) (pages : List ℕ) → IsGot before z w t m count pages → 0 < length pages → length pages < count →
    alloc z w 0 t m ≡ refuse z r → refill before w t m [] count ≡ record { reply = Reply.Pages pages; zone = z }
got_stopped before z w t m count r pages x some lt e =
    x.rest ∙ refill-stopped z w t m pages (count - length pages) (count - length pages - 1) r (omega arith) (ap (λ (o : Outcome). o.reply) (sym e)) ∙ ap (refill_end pages) e ∙ end pages some
  where
    end : (got : List ℕ) → 0 < length got → refill_end got (refuse z r) ≡ record { reply = Reply.Pages got; zone = z }
    end [] some = absurd (omega arith)
    end (p ∷ ps) some = refl
