-- The slots of labels: the places of the first calls that bind them, one call after another.
use Rattle.std.proofs.Common.{ℕ, ◌≡◌, ◌+◌, Bool, true, false, cond, inl, inr, List, [], ◌∷◌, ◌++◌, length, Option, Some, None, refl, sym, ap, ◌∙◌, arith}
use Rattle.std.specs.BTreeMap.{BTreeMap, Updates, get}
use Rattle.std.specs.List.{position, position_from}
use Rattle.std.specs.Option.{is_some}
use Rattle.std.specs.Ordering.{is_eq, nat_cmp}
use Rattle.std.specs.Str.{bytes_eq}
use Rattle.std.proofs.lemmas.Bool.{cases_lt}
use Rattle.std.proofs.lemmas.Bool.Decides.{nat_tests}
use Rattle.std.proofs.lemmas.Iterator.Adapters.{position_from-zero}
use Rattle.std.proofs.lemmas.List.Sums.{fails_before_first, position_or_len_is}
use Rattle.std.proofs.lemmas.Slice.Eq.{bytes_eq-Decides}
use Rattle.zp_model.specs.Naming.{IsName}
use Rattle.zp_trace.specs.declared.line.Call.{Call}
use Rattle.zp_trace.specs.declared.line.Call.TheVariants.{Info}
use Rattle.zp_trace.specs.Grammar.{bound_label}
use Rattle.zp_trace.specs.LabelKeys.{label_key}
use Rattle.zp_trace.proofs.DistinctLabels.{key_tells}
use Rattle.zp_office.specs.Scripts.{binds, is_label, slot_of}
use Rattle.zp_office.specs.Slots.{AreSlotsOf}

-- the first of two, where it is there
abbrev pub first_of_two : Option ℕ → Option ℕ → Option ℕ
first_of_two (Some k) o = Some k
first_of_two None o = o

from_last : {X : Type 0} (p : X → Bool) (i : ℕ) (xs : List X) (y : X) → position_from p i (xs ++ y ∷ []) ≡ first_of_two (position_from p i xs) (cond (p y) (Some (i + length xs)) None)
from_last p i [] y = ap (λ n. cond (p y) (Some n) None) (omega arith)
from_last {X} p i (x ∷ xs) y = either (p x) (from_last p (i + 1) xs y)
  where
    rest : Option ℕ
    rest = position_from p (i + 1) xs

    either : (b : Bool) → position_from p (i + 1) (xs ++ y ∷ []) ≡ first_of_two rest (cond (p y) (Some (i + 1 + length xs)) None) →
        cond b (Some i) (position_from p (i + 1) (xs ++ y ∷ [])) ≡ first_of_two (cond b (Some i) rest) (cond (p y) (Some (i + length (x ∷ xs))) None)
    either true e = refl
    either false e = e ∙ ap (λ n. first_of_two rest (cond (p y) (Some n) None)) (omega arith)

-- the first place with one element more
place_more : {X : Type 0} (p : X → Bool) (xs : List X) (y : X) → position p (xs ++ y ∷ []) ≡ first_of_two (position p xs) (cond (p y) (Some (length xs)) None)
place_more p xs y =
    position_from-zero p (xs ++ y ∷ [])
    ∙ from_last p 0 xs y
    ∙ ap (λ n. first_of_two (position_from p 0 xs) (cond (p y) (Some n) None)) (omega arith)
    ∙ ap (λ o. first_of_two o (cond (p y) (Some (length xs)) None)) (sym (position_from-zero p xs))

first_alone : (o : Option ℕ) → o ≡ first_of_two o None
first_alone None = refl
first_alone (Some k) = refl

first_there : (o w : Option ℕ) → is_some o ≡ true → o ≡ first_of_two o w
first_there None w there = absurd cc
first_there (Some k) w there = refl

not_there : (o : Option ℕ) → is_some o ≡ false → o ≡ None
not_there None e = refl
not_there (Some k) e = absurd cc

-- a call that binds a label for the first time
pub slots_more : (calls : List Call) (c : Call) (label : List ℕ) (slots more : BTreeMap ℕ ℕ) (key slot : ℕ) → key ≡ label_key label → slot ≡ length calls → IsName label →
    bound_label c ≡ Some label → is_some (get nat_cmp slots key) ≡ false → Updates nat_cmp slots more key (Some slot) → AreSlotsOf calls slots → AreSlotsOf (calls ++ c ∷ []) more
slots_more calls c label slots more key slot its last is e new noted bound other are =
    noted.0 (label_key other)
    ∙ ap (λ k. cond (is_eq (nat_cmp k (label_key other))) (Some slot) (get nat_cmp slots (label_key other))) its
    ∙ ap (λ t. cond t (Some slot) (get nat_cmp slots (label_key other))) (key_tells label other is are)
    ∙ ap (λ n. cond (bytes_eq label other) (Some n) (get nat_cmp slots (label_key other))) last
    ∙ either (bytes_eq label other) (bytes_eq-Decides label other).0
    ∙ ap (λ t. first_of_two (position (binds other) calls) (cond t (Some (length calls)) None)) (ap (is_label other) (sym e))
    ∙ sym (place_more (binds other) calls c)
  where
    either : (t : Bool) → (t ≡ true → label ≡ other) →
        cond t (Some (length calls)) (get nat_cmp slots (label_key other)) ≡ first_of_two (position (binds other) calls) (cond t (Some (length calls)) None)
    either true same =
        ap (λ o. first_of_two o (Some (length calls))) (sym (not_there (get nat_cmp slots key) new) ∙ ap (get nat_cmp slots) (its ∙ ap label_key (same refl)) ∙ bound other are)
    either false same = bound other are ∙ first_alone (position (binds other) calls)

-- a call that binds one again
pub slots_kept : (calls : List Call) (c : Call) (label : List ℕ) (slots : BTreeMap ℕ ℕ) (key : ℕ) → key ≡ label_key label → IsName label → bound_label c ≡ Some label →
    is_some (get nat_cmp slots key) ≡ true → AreSlotsOf calls slots → AreSlotsOf (calls ++ c ∷ []) slots
slots_kept calls c label slots key its is e there bound other are =
    bound other are
    ∙ either (bytes_eq label other) (bytes_eq-Decides label other).0
    ∙ ap (λ t. first_of_two (position (binds other) calls) (cond t (Some (length calls)) None)) (ap (is_label other) (sym e))
    ∙ sym (place_more (binds other) calls c)
  where
    either : (t : Bool) → (t ≡ true → label ≡ other) → position (binds other) calls ≡ first_of_two (position (binds other) calls) (cond t (Some (length calls)) None)
    either true same =
        first_there (position (binds other) calls) (Some (length calls)) (ap is_some (sym (bound other are) ∙ ap (get nat_cmp slots) (sym (its ∙ ap label_key (same refl)))) ∙ there)
    either false same = first_alone (position (binds other) calls)

-- where no call binds the label, the slot is how many they are
pub slot_nowhere : (calls : List Call) (label : List ℕ) → position (binds label) calls ≡ None → length calls ≡ slot_of calls label
slot_nowhere calls label none =
    elim (cases_lt (slot_of calls label) (length calls)) [
      | inl less ↦ absurd (grind (arith, nat_tests, none, less))
      | inr ge ↦ sym (position_or_len_is (binds label) calls (length calls) Info (omega arith) (λ k lt. fails_before_first (binds label) calls k Info (omega arith)) (λ lt. absurd (omega arith)))
    ]
