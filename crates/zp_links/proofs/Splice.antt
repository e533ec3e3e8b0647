-- What pushing and removing do to the lists that the links spell.
use Rattle.std.proofs.Common.{ℕ, zero, suc, ◌+◌, ◌≡◌, ◌≤◌, ◌<◌, ◌≢◌, ◌⊎◌, inl, inr, sym, ◌∙◌, ap, arith, List, [], length, set, get_or-set_same, get_or-set_other, length-set, Option, Some, None, slice_get}
use Rattle.std.proofs.lemmas.Bool.{cases_eq, cases_lt}
use Rattle.std.proofs.lemmas.List.{length-map, ext_get_or, get_or_past}
use Rattle.std.proofs.lemmas.Option.{slice_get_within}
use Rattle.std.proofs.Math.ListN.{get_or-map}
use Rattle.zp_model.specs.declared.constants.TheConstants.{MAX_PAGES}
use Rattle.zp_model.specs.Rows.{list_at, without_page}
use Rattle.zp_table.specs.declared.entry.PageEntry.{PageEntry}
use Rattle.zp_links.specs.declared.ends.Ends.{Ends}
use Rattle.zp_links.specs.Linked.{back_at, forward_at, end_if, At, StandsNowhere, before, walk, spelled, ends_at, no_ends, IsLinked}
use Rattle.zp_links.proofs.Places.{put, up, up_is, places, get_up, put_at, length-put, after_put, before_put, next_up, next_put, previous_up, previous_put, fronts, backs, walk_is, StandOnce, short, put_back}

-- the lists that a linked table and its ends spell are the lists
pub spelled_is : (t : List PageEntry) (es : List Ends) (ls : List (List ℕ)) → IsLinked t es ls → spelled t es ≡ ls
spelled_is t es ls x =
    ext_get_or [] (spelled t es) ls (length-map es (λ (e : Ends). walk e.len t e.first) ∙ sym x.rows) (λ r below.
    get_or-map (λ (e : Ends). walk e.len t e.first) es r no_ends
    ∙ rw (x.count r) (walk_is (list_at ls r) t (ends_at es r).first (x.front r) (x.after r)))

-- the table and the ends of one list spell it
pub record RowLinked (t : List PageEntry) (e : Ends) (xs : List ℕ) : Type 0 where
  pub front : e.first ≡ slice_get xs 0
  pub back : e.last ≡ before xs (length xs)
  pub count : e.len ≡ length xs
  pub inside : (k p : ℕ) → slice_get xs k ≡ Some p → p < length t
  pub after : (k p : ℕ) → slice_get xs k ≡ Some p → forward_at t p ≡ slice_get xs (suc k)
  pub first : (k p : ℕ) → slice_get xs k ≡ Some p → back_at t p ≡ before xs k
  pub once : StandOnce xs

pub row_of : (t : List PageEntry) (es : List Ends) (ls : List (List ℕ)) → IsLinked t es ls → (r : ℕ) → RowLinked t (ends_at es r) (list_at ls r)
row_of t es ls x r = record {
  front = x.front r;
  back = x.back r;
  count = x.count r;
  inside = x.inside r;
  after = x.after r;
  first = x.first r;
  once = λ j k q a b. (x.apart r j r k q a b).1;
}

pub at_within : (ls : List (List ℕ)) (r k p : ℕ) → At ls r k p → r < length ls
at_within ls r k p e = elim (cases_lt r (length ls)) [ inl lt ↦ lt | inr past ↦ let n = rw (get_or_past ls r [] past) at e in absurd cc ]

-- no list is longer than the table
pub count_small : (t : List PageEntry) (es : List Ends) (ls : List (List ℕ)) → IsLinked t es ls → (r : ℕ) → (ends_at es r).len ≤ MAX_PAGES
count_small t es ls x r = omega (arith, x.pages, x.count r, short (list_at ls r) (length t) (row_of t es ls x r).once (x.inside r))

-- page p between b and f, or no longer: its new links, the forward link of b and the back link of f, each of which stands for an end of the list where it is missing
pub record IsSpliced (p : ℕ) (b f back forward forward_b back_f : Option ℕ) (t t' : List PageEntry) (e e' : Ends) : Type 0 where
  pub table : length t' ≡ length t
  pub here : p < length t
  pub links : (back_at t' p ≡ back) × (forward_at t' p ≡ forward)
  pub next : (q : ℕ) → q ≢ p → f ≡ Some q → back_at t' q ≡ back_f
  pub backs : (q : ℕ) → q ≢ p → (f ≡ Some q → ⊥) → back_at t' q ≡ back_at t q
  pub previous : (q : ℕ) → q ≢ p → b ≡ Some q → forward_at t' q ≡ forward_b
  pub forwards : (q : ℕ) → q ≢ p → (b ≡ Some q → ⊥) → forward_at t' q ≡ forward_at t q
  pub ends : (e'.first ≡ end_if b forward_b e.first) × (e'.last ≡ end_if f back_f e.last)

-- the page before place i stands at no other place
before_once : (xs : List ℕ) → StandOnce xs → (i q k : ℕ) → slice_get xs k ≡ Some q → before xs i ≡ Some q → suc k ≡ i
before_once xs once zero q k a b = absurd cc
before_once xs once (suc j) q k a b = let same : k ≡ j = once k j q a b in omega arith

-- where a page of the longer list stood
found : (xs : List ℕ) (i p k q : ℕ) → i ≤ length xs → slice_get (put xs i p) k ≡ Some q → ((k ≡ i) × (q ≡ p)) ⊎ ((j : ℕ) × (k ≡ up i j) × (slice_get xs j ≡ Some q))
found xs i p k q l a = elim (places i k) [
  | inl w ↦ let here = put_at xs i p l in inl (w, cc)
  | inr w ↦ let there = get_up xs i p w.0 l in inr (w.0, w.1, cc)
]

module _ (xs : List ℕ) (i p : ℕ) (t t' : List PageEntry) (e e' : Ends) (l : i ≤ length xs) where
  -- a page put in
  pub inserted : RowLinked t e xs → IsSpliced p (before xs i) (slice_get xs i) (before xs i) (slice_get xs i) (Some p) (Some p) t t' e e' → e'.len ≡ e.len + 1 →
      ((k : ℕ) → slice_get xs k ≡ Some p → ⊥) → RowLinked t' e' (put xs i p)
  inserted x y n none =
      let other : (j q : ℕ) → slice_get xs j ≡ Some q → q ≢ p = λ j q a same. none j (rw same at a) in
      record {
        front = y.ends.0 ∙ rw x.front (fronts xs i p l).0;
        back = y.ends.1 ∙ rw x.back (backs xs i p l).0;
        count = omega (arith, n, x.count, length-put xs i p);
        inside = λ k q a. elim (found xs i p k q l a) [ inl w ↦ omega (arith, y.here, y.table) | inr w ↦ omega (arith, x.inside w.0 q w.2, y.table) ];
        after = λ k q a. elim (found xs i p k q l a) [
          | inl w ↦ rw (w.1, w.0) (y.links.1 ∙ sym (after_put xs i p l))
          | inr w ↦ rw w.1 (elim (cases_eq (suc w.0) i) [
            | inl at ↦ y.previous q (other w.0 q w.2) (rw (← at) w.2) ∙ sym (next_put xs i p w.0 l at)
            | inr off ↦ y.forwards q (other w.0 q w.2) (λ b. off (before_once xs x.once i q w.0 w.2 b)) ∙ x.after w.0 q w.2 ∙ sym (next_up xs i p w.0 l off)
          ])
        ];
        first = λ k q a. elim (found xs i p k q l a) [
          | inl w ↦ rw (w.1, w.0) (y.links.0 ∙ sym (before_put xs i p l))
          | inr w ↦ rw w.1 (elim (cases_eq w.0 i) [
            | inl at ↦ y.next q (other w.0 q w.2) (rw (← at) w.2) ∙ sym (previous_put xs i p w.0 l at)
            | inr off ↦ y.backs q (other w.0 q w.2) (λ b. off (x.once w.0 i q w.2 b)) ∙ x.first w.0 q w.2 ∙ sym (previous_up xs i p w.0 l off)
          ])
        ];
        once = λ j k q a b. elim (found xs i p j q l a) [
          | inl v ↦ elim (found xs i p k q l b) [ inl w ↦ omega arith | inr w ↦ absurd (other w.0 q w.2 v.1) ]
          | inr v ↦ elim (found xs i p k q l b) [ inl w ↦ absurd (other v.0 q v.2 w.1) | inr w ↦ let same = x.once v.0 w.0 q v.2 w.2 in cc ]
        ];
      }

  -- the page at place i taken out
  pub removed : RowLinked t e (put xs i p) → IsSpliced p (before xs i) (slice_get xs i) None None (slice_get xs i) (before xs i) t t' e e' → e'.len + 1 ≡ e.len → RowLinked t' e' xs
  removed x y n =
      let there : (j q : ℕ) → slice_get xs j ≡ Some q → slice_get (put xs i p) (up i j) ≡ Some q = λ j q a. get_up xs i p j l ∙ a in
      let once : StandOnce xs = λ j k q a b. let same = x.once (up i j) (up i k) q (there j q a) (there k q b) in omega (arith, up_is i j, up_is i k) in
      let other : (j q : ℕ) → slice_get xs j ≡ Some q → q ≢ p = λ j q a same. let at = x.once (up i j) i p (rw same at (there j q a)) (put_at xs i p l) in omega (arith, up_is i j) in
      record {
        front = y.ends.0 ∙ rw x.front (fronts xs i p l).1;
        back = y.ends.1 ∙ rw x.back (backs xs i p l).1;
        count = omega (arith, n, x.count, length-put xs i p);
        inside = λ k q a. omega (arith, x.inside (up i k) q (there k q a), y.table);
        after = λ k q a. elim (cases_eq (suc k) i) [
          | inl at ↦ rw at (y.previous q (other k q a) (rw (← at) a))
          | inr off ↦ y.forwards q (other k q a) (λ b. off (before_once xs once i q k a b)) ∙ x.after (up i k) q (there k q a) ∙ next_up xs i p k l off
        ];
        first = λ k q a. elim (cases_eq k i) [
          | inl at ↦ rw at (y.next q (other k q a) (rw (← at) a))
          | inr off ↦ y.backs q (other k q a) (λ b. off (once k i q a b)) ∙ x.first (up i k) q (there k q a) ∙ previous_up xs i p k l off
        ];
        once = once;
      }

-- a row of lists is linked where each list is, and none shares a page with another
linked : (t : List PageEntry) (es : List Ends) (ls : List (List ℕ)) → length ls ≡ length es → length t ≤ MAX_PAGES → ((r : ℕ) → RowLinked t (ends_at es r) (list_at ls r)) →
    ((r k r' k' p : ℕ) → At ls r k p → At ls r' k' p → r ≡ r') → ((p : ℕ) → StandsNowhere ls p → (back_at t p ≡ None) × (forward_at t p ≡ None)) → IsLinked t es ls
linked t es ls n m x a l = record {
  rows = n;
  pages = m;
  front = λ r. (x r).front;
  back = λ r. (x r).back;
  count = λ r. (x r).count;
  inside = λ r. (x r).inside;
  after = λ r. (x r).after;
  first = λ r. (x r).first;
  apart = λ r k r' k' p e f. let same : r' ≡ r = sym (a r k r' k' p e f) in (sym same, (x r).once k k' p e (rw same at f));
  loose = l;
}

-- what changes list r by page p alone: the pages of the new list stood on the old one, and those of the old one stay, all but p
pub record IsChanged (r p : ℕ) (ys : List ℕ) (t t' : List PageEntry) (e' : Ends) (ls : List (List ℕ)) : Type 0 where
  pub table : length t' ≡ length t
  pub list : r < length ls
  pub here : RowLinked t' e' ys
  pub lone : (r' k : ℕ) → At ls r' k p → r' ≡ r
  pub same : (q : ℕ) → q ≢ p → ((k : ℕ) → At ls r k q → ⊥) → (back_at t' q ≡ back_at t q) × (forward_at t' q ≡ forward_at t q)
  pub was : (k q : ℕ) → slice_get ys k ≡ Some q → (q ≡ p) ⊎ ((j : ℕ) × At ls r j q)
  pub stays : (k q : ℕ) → q ≢ p → At ls r k q → (j : ℕ) × (slice_get ys j ≡ Some q)
  pub off : ((k : ℕ) → slice_get ys k ≡ Some p → ⊥) → (back_at t' p ≡ None) × (forward_at t' p ≡ None)

module _ (r p : ℕ) (ys : List ℕ) (t t' : List PageEntry) (es : List Ends) (d : Ends) (ls : List (List ℕ)) (x : IsLinked t es ls) (y : IsChanged r p ys t t' d ls) where
  row_other : (r' : ℕ) → r' ≢ r → list_at (set ls r ys) r' ≡ list_at ls r'
  row_other r' ne = get_or-set_other ls r r' ys [] ne

  -- what stands on a list after the change
  stood : (r' k q : ℕ) → At (set ls r ys) r' k q → ((r' ≡ r) × (slice_get ys k ≡ Some q)) ⊎ ((r' ≢ r) × At ls r' k q)
  stood r' k q e = elim (cases_eq r' r) [
    | inl s ↦ inl (s, rw (s, get_or-set_same ls r ys [] y.list) at e)
    | inr ne ↦ inr (ne, rw (row_other r' ne) at e)
  ]

  far : (r' k q k' : ℕ) → r' ≢ r → At ls r' k q → slice_get ys k' ≡ Some q → ⊥
  far r' k q k' ne e f = elim (y.was k' q f) [ inl s ↦ ne (y.lone r' k (rw s at e)) | inr w ↦ ne (x.apart r' k r w.0 q e w.1).0 ]

  kept : (r' k q : ℕ) → r' ≢ r → At ls r' k q → (back_at t' q ≡ back_at t q) × (forward_at t' q ≡ forward_at t q)
  kept r' k q ne e = y.same q (λ s. ne (y.lone r' k (rw s at e))) (λ j f. ne (x.apart r' k r j q e f).0)

  rows : (r' : ℕ) → RowLinked t' (ends_at (set es r d) r') (list_at (set ls r ys) r')
  rows r' = elim (cases_eq r' r) [
    | inl s ↦ rw (s, get_or-set_same ls r ys [] y.list, get_or-set_same es r d no_ends (omega (arith, y.list, x.rows))) y.here
    | inr ne ↦ rw (row_other r' ne, get_or-set_other es r r' d no_ends ne) (record {
      front = x.front r';
      back = x.back r';
      count = x.count r';
      once = (row_of t es ls x r').once;
      inside = λ k q e. omega (arith, x.inside r' k q e, y.table);
      after = λ k q e. (kept r' k q ne e).1 ∙ x.after r' k q e;
      first = λ k q e. (kept r' k q ne e).0 ∙ x.first r' k q e;
    })
  ]

  apart : (r1 k1 r2 k2 q : ℕ) → At (set ls r ys) r1 k1 q → At (set ls r ys) r2 k2 q → r1 ≡ r2
  apart r1 k1 r2 k2 q e f = elim (stood r1 k1 q e) [
    | inl a ↦ elim (stood r2 k2 q f) [ inl b ↦ a.0 ∙ sym b.0 | inr b ↦ absurd (far r2 k2 q k1 b.0 b.1 a.1) ]
    | inr a ↦ elim (stood r2 k2 q f) [ inl b ↦ absurd (far r1 k1 q k2 a.0 a.1 b.1) | inr b ↦ (x.apart r1 k1 r2 k2 q a.1 b.1).0 ]
  ]

  -- then the links and the ends spell the new row
  pub changed : IsLinked t' (set es r d) (set ls r ys)
  changed = linked t' (set es r d) (set ls r ys) (length-set ls r ys ∙ x.rows ∙ sym (length-set es r d)) (omega (arith, x.pages, y.table)) rows apart (λ q none.
      let none_here : (k : ℕ) → slice_get ys k ≡ Some q → ⊥ = λ k e. none r k (rw (get_or-set_same ls r ys [] y.list) e) in
      elim (cases_eq q p) [
        | inl s ↦ rw s (y.off (rw s at none_here))
        | inr ne ↦
            let old : StandsNowhere ls q = λ r' k e. elim (cases_eq r' r) [
              | inl s ↦ let v = y.stays k q ne (rw s at e) in none_here v.0 v.1
              | inr off ↦ none r' k (rw (row_other r' off) e)
            ] in
            let same = y.same q ne (old r) in
            (same.0 ∙ (x.loose q old).0, same.1 ∙ (x.loose q old).1)
      ])

-- the neighbours at place i stand on the list
near : (xs : List ℕ) (i q : ℕ) → ((k : ℕ) → slice_get xs k ≡ Some q → ⊥) → (before xs i ≡ Some q → ⊥) × (slice_get xs i ≡ Some q → ⊥)
near xs zero q none = (λ b. absurd cc, none 0)
near xs (suc i) q none = (none i, none (suc i))

pub put_in : (r i p : ℕ) (t t' : List PageEntry) (es : List Ends) (d : Ends) (ls : List (List ℕ)) → IsLinked t es ls → r < length ls → i ≤ length (list_at ls r) → StandsNowhere ls p →
    IsSpliced p (before (list_at ls r) i) (slice_get (list_at ls r) i) (before (list_at ls r) i) (slice_get (list_at ls r) i) (Some p) (Some p) t t' (ends_at es r) d → d.len ≡ (ends_at es r).len + 1 →
    IsLinked t' (set es r d) (set ls r (put (list_at ls r) i p))
put_in r i p t t' es d ls x list l none y n =
    let xs = list_at ls r in
    changed r p (put xs i p) t t' es d ls x (record {
      table = y.table;
      list = list;
      here = inserted xs i p t t' (ends_at es r) d l (row_of t es ls x r) y n (none r);
      lone = λ r' k e. absurd (none r' k e);
      same = λ q ne off. (y.backs q ne (near xs i q off).1, y.forwards q ne (near xs i q off).0);
      was = λ k q a. elim (found xs i p k q l a) [ inl w ↦ inl w.1 | inr w ↦ inr (w.0, w.2) ];
      stays = λ k q ne e. (up i k, get_up xs i p k l ∙ e);
      off = λ off. absurd (off i (put_at xs i p l));
    })

pub taken_out : (r i p : ℕ) (t t' : List PageEntry) (es : List Ends) (d : Ends) (ls : List (List ℕ)) → IsLinked t es ls → At ls r i p →
    IsSpliced p (back_at t p) (forward_at t p) None None (forward_at t p) (back_at t p) t t' (ends_at es r) d → d.len + 1 ≡ (ends_at es r).len →
    IsLinked t' (set es r d) (set ls r (without_page p (list_at ls r)))
taken_out r i p t t' es d ls x at y n =
    let xs = without_page p (list_at ls r) in
    let e : list_at ls r ≡ put xs i p = put_back p (list_at ls r) i at (λ k f. (x.apart r k r i p f at).1) in
    let l : i ≤ length xs = omega (arith, slice_get_within (list_at ls r) i p at, length-put xs i p, ap (λ (zs : List ℕ). length zs) e) in
    let o : RowLinked t (ends_at es r) (put xs i p) = rw e at (row_of t es ls x r) in
    let here : slice_get (put xs i p) i ≡ Some p = put_at xs i p l in
    let z = rw (o.first i p here ∙ before_put xs i p l, o.after i p here ∙ after_put xs i p l) at y in
    let there : (k q : ℕ) → slice_get xs k ≡ Some q → At ls r (up i k) q = λ k q a. rw e (get_up xs i p k l ∙ a) in
    changed r p xs t t' es d ls x (record {
      table = y.table;
      list = at_within ls r i p at;
      here = removed xs i p t t' (ends_at es r) d l o z n;
      lone = λ r' k f. (x.apart r' k r i p f at).0;
      same = λ q ne off. let v = near xs i q (λ k a. off (up i k) (there k q a)) in (z.backs q ne v.1, z.forwards q ne v.0);
      was = λ k q a. inr (up i k, there k q a);
      stays = λ k q ne f. elim (found xs i p k q l (rw e at f)) [ inl w ↦ absurd (ne w.1) | inr w ↦ (w.0, w.2) ];
      off = λ off. y.links;
    })
