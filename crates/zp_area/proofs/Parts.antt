-- The blocks of a set that pass a test of their heads, and the others left out.
use Rattle.std.proofs.Common.{ℕ, zero, suc, ◌+◌, ◌-◌, ◌^◌, ◌≡◌, ◌≢◌, ◌≤◌, ◌<◌, inl, inr, refl, sym, ◌∙◌, ap, arith, Bool, true, false, cond, List, length, map, get_or, set, get_or-set_same, get_or-set_other, length-set, Option, None, Some}
use Rattle.std.specs.List.{range_with_len}
use Rattle.std.proofs.lemmas.Nat.{pow_pos}
use Rattle.std.proofs.lemmas.Bool.{cases_eq, cases_lt, both_ways}
use Rattle.std.proofs.lemmas.List.{ext_get_or, get_or_past}
use Rattle.std.proofs.lemmas.List.FromFn.{get_or-map-range_with_len, length-map-range_with_len}
use Rattle.zp_model.specs.Block.{head}
use Rattle.zp_model.specs.BlockSet.{Starts}
use Rattle.zp_model.proofs.Heads.{head_le, lt_head}
use Rattle.zp_laws.proofs.Choosing.{none_either}
use Rattle.zp_tree.specs.Blocks.{IsApart, IsBlockSet, buddy, high_halves, joined_set, split_set, with_block, without_block, without_buddies}
use Rattle.zp_tree.proofs.Apart.{uncovered-from, uncovered-to}
use Rattle.zp_tree.proofs.BlockSets.{same_page}

abbrev pub part : (ℕ → Bool) → List (Option ℕ) → List (Option ℕ)
part out s = map (λ h. cond (out h) None (get_or s h None)) (range_with_len 0 (length s))

pub part-length : (out : ℕ → Bool) (s : List (Option ℕ)) → length (part out s) ≡ length s
part-length out s = length-map-range_with_len (λ h. cond (out h) None (get_or s h None)) 0 (length s)

pub part-at : (out : ℕ → Bool) (s : List (Option ℕ)) (h : ℕ) → get_or (part out s) h None ≡ cond (out h) None (get_or s h None)
part-at out s h = elim (cases_lt h (length s)) [
  | inl lt ↦ get_or-map-range_with_len (λ h. cond (out h) None (get_or s h None)) 0 (length s) h h None lt (omega arith)
  | inr ge ↦
      get_or_past (part out s) h None (omega (arith, part-length out s))
      ∙ sym (none_either (out h) (get_or s h None) (get_or_past s h None ge))
]

some_out : (b : Bool) (o : Option ℕ) (k : ℕ) → cond b None o ≡ Some k → (o ≡ Some k) × (b ≡ false)
some_out true o k e = absurd cc
some_out false o k e = (e, refl)

pub part-to : (out : ℕ → Bool) (s : List (Option ℕ)) (h k : ℕ) → Starts (part out s) h k → Starts s h k × (out h ≡ false)
part-to out s h k st = some_out (out h) (get_or s h None) k (sym (part-at out s h) ∙ st)

pub part-from : (out : ℕ → Bool) (s : List (Option ℕ)) (h k : ℕ) → Starts s h k → out h ≡ false → Starts (part out s) h k
part-from out s h k st e = part-at out s h ∙ rw e st

-- a part of a set that shares no page shares none
pub part_blocks : (m : ℕ) (out : ℕ → Bool) (s : List (Option ℕ)) → IsBlockSet m s → IsBlockSet m (part out s)
part_blocks m out s x = record {
  block = λ h k st. rw (part-length out s) (x.block h k (part-to out s h k st).0);
  apart = λ h k g j i st su u v. x.apart h k g j i (part-to out s h k st).0 (part-to out s g j su).0 u v;
}

-- a run that is apart from a set is apart from a part of it
pub part_apart : (out : ℕ → Bool) (s : List (Option ℕ)) (h k : ℕ) → IsApart s h k → IsApart (part out s) h k
part_apart out s h k a i from to =
    uncovered-from (part out s) i (λ o lt st. uncovered-to s i o (a i from to) (omega (arith, lt, part-length out s)) (part-to out s (head i o) o st).0)

-- and so is a block of the set that is left out
pub part_apart_out : (m : ℕ) (out : ℕ → Bool) (s : List (Option ℕ)) (h k : ℕ) → IsBlockSet m s → Starts s h k → out h ≡ true → IsApart (part out s) h k
part_apart_out m out s h k x st e i from to =
    uncovered-from (part out s) i (λ o lt y.
    let w = part-to out s (head i o) o y in
    let same : head i o ≡ h = same_page m s (head i o) o h k i x w.0 st (head_le i o) (lt_head i o) from to in
    both_ways (out h) (rw same at w.1) e)

-- parts of sets that have the same heads where they are not left out
pub part_same : (o p : ℕ → Bool) (s z : List (Option ℕ)) → length z ≡ length s → ((h : ℕ) → h < length s → cond (o h) None (get_or s h None) ≡ cond (p h) None (get_or z h None)) → part o s ≡ part p z
part_same o p s z len f =
    ext_get_or None (part o s) (part p z) (part-length o s ∙ sym (part-length p z ∙ len))
    (λ h lt. part-at o s h ∙ f h (omega (arith, lt, part-length o s)) ∙ sym (part-at p z h))

one_cond : (b c : Bool) (o : Option ℕ) → ((k : ℕ) → o ≡ Some k → b ≡ c) → cond b None o ≡ cond c None o
one_cond b c None f = none_either b None refl ∙ sym (none_either c None refl)
one_cond b c (Some k) f = rw (f k refl) refl

-- another test that says the same of each head
pub part_outs : (o p : ℕ → Bool) (s : List (Option ℕ)) → ((h k : ℕ) → Starts s h k → o h ≡ p h) → part o s ≡ part p s
part_outs o p s f = part_same o p s s refl (λ h lt. one_cond (o h) (p h) (get_or s h None) (λ k e. f h k e))

-- one block more, and one less
module _ (out : ℕ → Bool) (s : List (Option ℕ)) (h : ℕ) where
  set_at : (o : Option ℕ) (g : ℕ) → g ≢ h → cond (out g) None (get_or (set s h o) g None) ≡ get_or (set (part out s) h o) g None
  set_at o g ne =
      ap (λ x. cond (out g) None x) (get_or-set_other s h g o None ne)
      ∙ sym (part-at out s g)
      ∙ sym (get_or-set_other (part out s) h g o None ne)

  here_at : (o : Option ℕ) → (cond (out h) None o ≡ o) → h < length s → cond (out h) None (get_or (set s h o) h None) ≡ get_or (set (part out s) h o) h None
  here_at o e lt =
      ap (λ x. cond (out h) None x) (get_or-set_same s h o None lt)
      ∙ e
      ∙ sym (get_or-set_same (part out s) h o None (omega (arith, lt, part-length out s)))

  set_part : (o : Option ℕ) → (cond (out h) None o ≡ o) → part out (set s h o) ≡ set (part out s) h o
  set_part o e =
      ext_get_or None (part out (set s h o)) (set (part out s) h o)
      (part-length out (set s h o) ∙ length-set s h o ∙ sym (length-set (part out s) h o ∙ part-length out s))
      (λ g lt. part-at out (set s h o) g ∙ elim (cases_eq g h) [
        | inl same ↦ rw same (here_at o e (omega (arith, lt, same, part-length out (set s h o), length-set s h o)))
        | inr ne ↦ set_at o g ne
      ])

  pub part-with : (k : ℕ) → out h ≡ false → part out (with_block s h k) ≡ with_block (part out s) h k
  part-with k e = set_part (Some k) (rw e refl)

  pub part-without : part out (without_block s h) ≡ without_block (part out s) h
  part-without = set_part None (none_either (out h) None refl)

-- the part with a block that was left out, and without one that is left out from now on; no other head's test changes
module _ (o p : ℕ → Bool) (s : List (Option ℕ)) (h k : ℕ) (st : Starts s h k) (others : (g j : ℕ) → Starts s g j → g ≢ h → o g ≡ p g) where
  entry : (g : ℕ) → g ≢ h → cond (o g) None (get_or s g None) ≡ cond (p g) None (get_or s g None)
  entry g ne = one_cond (o g) (p g) (get_or s g None) (λ j e. others g j e ne)

  below : h < length s
  below = elim (cases_lt h (length s)) [ inl lt ↦ lt | inr ge ↦ let e = get_or_past s h None ge in absurd cc ]

  pub part_comes : p h ≡ false → with_block (part o s) h k ≡ part p s
  part_comes e =
      ext_get_or None (with_block (part o s) h k) (part p s) (length-set (part o s) h (Some k) ∙ part-length o s ∙ sym (part-length p s))
      (λ g lt. elim (cases_eq g h) [
        | inl same ↦ rw same (get_or-set_same (part o s) h (Some k) None (omega (arith, below, part-length o s)) ∙ sym (part-at p s h ∙ rw e st))
        | inr ne ↦ get_or-set_other (part o s) h g (Some k) None ne ∙ part-at o s g ∙ entry g ne ∙ sym (part-at p s g)
      ])

  pub part_goes : p h ≡ true → without_block (part o s) h ≡ part p s
  part_goes e =
      ext_get_or None (without_block (part o s) h) (part p s) (length-set (part o s) h None ∙ part-length o s ∙ sym (part-length p s))
      (λ g lt. elim (cases_eq g h) [
        | inl same ↦ rw same (get_or-set_same (part o s) h None None (omega (arith, below, part-length o s)) ∙ sym (part-at p s h ∙ rw e refl))
        | inr ne ↦ get_or-set_other (part o s) h g None None ne ∙ part-at o s g ∙ entry g ne ∙ sym (part-at p s g)
      ])

-- splits and joins of blocks that are not left out
part-halves : (out : ℕ → Bool) (d : ℕ) (s : List (Option ℕ)) (h k : ℕ) → ((i : ℕ) → h ≤ i → i < h + 2 ^ (k + d) → out i ≡ false) →
    part out (high_halves s h k d) ≡ high_halves (part out s) h k d
part-halves out zero s h k e = refl
part-halves out (suc d) s h k e =
    let up : k + suc d ≡ suc (k + d) = omega arith in
    let double : 2 ^ (k + suc d) ≡ 2 ^ (k + d) + 2 ^ (k + d) = ap (λ n. 2 ^ n) up ∙ omega arith in
    let pos : 0 < 2 ^ (k + d) = pow_pos (k + d) in
    part-halves out d (with_block s (h + 2 ^ (k + d)) (k + d)) h k (λ i lo hi. e i lo (omega (arith, double)))
    ∙ ap (λ q. high_halves q h k d) (part-with out s (h + 2 ^ (k + d)) (k + d) (e (h + 2 ^ (k + d)) (omega arith) (omega (arith, double, pos))))

pub part-split : (out : ℕ → Bool) (s : List (Option ℕ)) (h o k : ℕ) → k ≤ o → ((i : ℕ) → h ≤ i → i < h + 2 ^ o → out i ≡ false) →
    part out (split_set s h o k) ≡ split_set (part out s) h o k
part-split out s h o k le e =
    let up : k + (o - k) ≡ o = omega arith in
    part-halves out (o - k) (without_block s h) h k (λ i lo hi. e i lo (rw up at hi)) ∙ ap (λ q. high_halves q h k (o - k)) (part-without out s h)

part-buddies : (out : ℕ → Bool) (s : List (Option ℕ)) (h k d : ℕ) → part out (without_buddies s h k d) ≡ without_buddies (part out s) h k d
part-buddies out s h k zero = refl
part-buddies out s h k (suc d) =
    part-without out (without_buddies s h k d) (buddy h (k + d)) ∙ ap (λ q. without_block q (buddy h (k + d))) (part-buddies out s h k d)

pub part-joined : (out : ℕ → Bool) (s : List (Option ℕ)) (h k o : ℕ) → out (head h o) ≡ false → part out (joined_set s h k o) ≡ joined_set (part out s) h k o
part-joined out s h k o e =
    part-with out (without_buddies s h k (o - k)) (head h o) o e ∙ ap (λ q. with_block q (head h o) o) (part-buddies out s h k (o - k))
