-- A line begins in one way at most.
use Rattle.std.proofs.Common.{ℕ, ◌≡◌, ◌≢◌, inl, inr, List, [], ◌∷◌, ◌++◌, length, drop, codes, refl, sym, ap, subst, ◌∙◌, arith}
use Rattle.std.specs.List.{AllByRecursion}
use Rattle.std.specs.Str.Parse.{AllDigits}
use Rattle.std.proofs.lemmas.Bool.{cases_lt}
use Rattle.std.proofs.lemmas.Str.Parse.{digit_from_value}
use Rattle.zp_events.specs.declared.event.EventName.{EventName}
use Rattle.zp_events.specs.declared.event.EventName.TheVariants.{Alloc, Free, Fallback}
use Rattle.zp_events.specs.Numbers.{IsSmall}
use Rattle.zp_events.specs.Lines.{IsMark, IsLastMark, name_text, IsNamed, IsSpacedName, NamesEventAt, IsBeginning}

-- what stands before the first such byte, and what stands after it
pub first_unique : (c : ℕ) (a b x y : List ℕ) → AllByRecursion (λ n. n ≢ c) a → AllByRecursion (λ n. n ≢ c) b → a ++ c ∷ x ≡ b ++ c ∷ y → (a ≡ b) × (x ≡ y)
first_unique c [] [] x y p q e = (refl, cc)
first_unique c [] (n ∷ b) x y p q e = absurd (q.0 cc)
first_unique c (m ∷ a) [] x y p q e = absurd (p.0 cc)
first_unique c (m ∷ a) (n ∷ b) x y p q e =
    let same : m ≡ n = cc in
    let rest : a ++ c ∷ x ≡ b ++ c ∷ y = cc in
    let r = first_unique c a b x y p.1 q.1 rest in
    let front : a ≡ b = r.0 in
    (cc, r.1)

-- a text that has no such byte does not part at one
pub has_byte : (c : ℕ) (a x : List ℕ) → AllByRecursion (λ n. n ≢ c) (a ++ c ∷ x) → ⊥
has_byte c [] x h = h.0 refl
has_byte c (n ∷ a) x h = has_byte c a x h.1

-- a digit is no bracket
pub no_bracket : (word : List ℕ) → AllDigits 10 word → AllByRecursion (λ b. b ≢ 93) word
no_bracket [] h = tt
no_bracket (d ∷ word) h = (omega (arith, (digit_from_value d h.0).1), no_bracket word h.1)

pub small_no_bracket : (word : List ℕ) (n : ℕ) → IsSmall word n → AllByRecursion (λ b. b ≢ 93) word
small_no_bracket word n is = no_bracket word is.number.digits

-- a word is one number at most
pub same_small : (word : List ℕ) (m n : ℕ) → IsSmall word m → IsSmall word n → m ≡ n
same_small word m n a b = a.number.value ∙ sym b.number.value

pub same_mark : (text : List ℕ) (c d : ℕ) (r s : List ℕ) → IsMark text c r → IsMark text d s → (c ≡ d) × (r ≡ s)
same_mark text c d r s m n =
    let whole : codes " [" ++ (m.number ++ (codes "] " ++ r)) ≡ codes " [" ++ (n.number ++ (codes "] " ++ s)) = sym m.written ∙ n.written in
    let behind : m.number ++ 93 ∷ (32 ∷ r) ≡ n.number ++ 93 ∷ (32 ∷ s) = cc in
    let both = first_unique 93 m.number n.number (32 ∷ r) (32 ∷ s) (small_no_bracket m.number c m.number_is) (small_no_bracket n.number d n.number_is) behind in
    let number = subst (λ word. IsSmall word c) both.0 m.number_is in
    let rest : 32 ∷ r ≡ 32 ∷ s = both.1 in
    (same_small n.number c d number n.number_is, cc)

pub same_last : (text : List ℕ) (c d : ℕ) (r s : List ℕ) → IsLastMark text c r → IsLastMark text d s → (c ≡ d) × (r ≡ s)
same_last text c d r s m n =
    elim (cases_lt m.place n.place) [
      | inl below ↦ absurd (m.last n.place d s below n.mark)
      | inr above ↦ elim (cases_lt n.place m.place) [
        | inl below ↦ absurd (n.last m.place c r below m.mark)
        | inr other ↦
            let same : m.place ≡ n.place = omega arith in
            same_mark (drop n.place text) c d r s (subst (λ k. IsMark (drop k text) c r) same m.mark) n.mark
      ]
    ]

pub same_name : (text : List ℕ) (m n : EventName) (r s : List ℕ) → text ≡ name_text m ++ r → text ≡ name_text n ++ s → (m ≡ n) × (r ≡ s)
same_name text Alloc Alloc r s e f = (refl, cc)
same_name text Alloc Free r s e f = let m : ℕ = 97 in let n : ℕ = 102 in let h : m ≡ n = cc in absurd (omega (arith, h))
same_name text Alloc Fallback r s e f = let m : ℕ = 58 in let n : ℕ = 95 in let h : m ≡ n = cc in absurd (omega (arith, h))
same_name text Free Alloc r s e f = let m : ℕ = 102 in let n : ℕ = 97 in let h : m ≡ n = cc in absurd (omega (arith, h))
same_name text Free Free r s e f = (refl, cc)
same_name text Free Fallback r s e f = let m : ℕ = 102 in let n : ℕ = 97 in let h : m ≡ n = cc in absurd (omega (arith, h))
same_name text Fallback Alloc r s e f = let m : ℕ = 95 in let n : ℕ = 58 in let h : m ≡ n = cc in absurd (omega (arith, h))
same_name text Fallback Free r s e f = let m : ℕ = 97 in let n : ℕ = 102 in let h : m ≡ n = cc in absurd (omega (arith, h))
same_name text Fallback Fallback r s e f = (refl, cc)

-- no event's name begins as the subsystem's does
pub not_subsystem : (name : EventName) (text rest more : List ℕ) → text ≡ name_text name ++ rest → text ≡ codes "kmem:" ++ more → ⊥
not_subsystem Alloc text rest more e f = let m : ℕ = 109 in let n : ℕ = 107 in let h : m ≡ n = cc in omega (arith, h)
not_subsystem Free text rest more e f = let m : ℕ = 109 in let n : ℕ = 107 in let h : m ≡ n = cc in omega (arith, h)
not_subsystem Fallback text rest more e f = let m : ℕ = 109 in let n : ℕ = 107 in let h : m ≡ n = cc in omega (arith, h)

behind_subsystem : (text a b : List ℕ) → text ≡ codes "kmem:" ++ a → text ≡ codes "kmem:" ++ b → a ≡ b
behind_subsystem text a b e f = cc

pub same_named : (text : List ℕ) (m n : EventName) (r s : List ℕ) → IsNamed text m r → IsNamed text n s → (m ≡ n) × (r ≡ s)
same_named text m n r s (inl e) (inl f) = same_name text m n r s e f
same_named text m n r s (inl e) (inr f) = absurd (not_subsystem m text r (name_text n ++ s) e f)
same_named text m n r s (inr e) (inl f) = absurd (not_subsystem n text s (name_text m ++ r) f e)
same_named text m n r s (inr e) (inr f) =
    same_name (name_text m ++ r) m n r s refl (behind_subsystem text (name_text m ++ r) (name_text n ++ s) e f)

-- no name begins with a space
pub no_space : (name : EventName) (text rest more : List ℕ) → IsNamed text name rest → text ≡ 32 ∷ more → ⊥
no_space Alloc text rest more (inl e) f = let m : ℕ = 109 in let n : ℕ = 32 in let h : m ≡ n = cc in omega (arith, h)
no_space Free text rest more (inl e) f = let m : ℕ = 109 in let n : ℕ = 32 in let h : m ≡ n = cc in omega (arith, h)
no_space Fallback text rest more (inl e) f = let m : ℕ = 109 in let n : ℕ = 32 in let h : m ≡ n = cc in omega (arith, h)
no_space name text rest more (inr e) f = let m : ℕ = 107 in let n : ℕ = 32 in let h : m ≡ n = cc in omega (arith, h)

-- what stands behind the spaces at the front of a text
pub same_behind_spaces : (a b x y : List ℕ) → AllByRecursion (λ n. n ≡ 32) a → AllByRecursion (λ n. n ≡ 32) b →
    ((r : List ℕ) → x ≡ 32 ∷ r → ⊥) → ((r : List ℕ) → y ≡ 32 ∷ r → ⊥) → a ++ x ≡ b ++ y → x ≡ y
same_behind_spaces [] [] x y p q no_x no_y e = e
same_behind_spaces [] (n ∷ b) x y p q no_x no_y e = absurd (no_x (b ++ y) (e ∙ ap (λ (h : ℕ). h ∷ (b ++ y)) q.0))
same_behind_spaces (m ∷ a) [] x y p q no_x no_y e = absurd (no_y (a ++ x) (sym e ∙ ap (λ (h : ℕ). h ∷ (a ++ x)) p.0))
same_behind_spaces (m ∷ a) (n ∷ b) x y p q no_x no_y e =
    let rest : a ++ x ≡ b ++ y = cc in
    same_behind_spaces a b x y p.1 q.1 no_x no_y rest

pub same_spaced : (text : List ℕ) (m n : EventName) (r s : List ℕ) → IsSpacedName text m r → IsSpacedName text n s → (m ≡ n) × (r ≡ s)
same_spaced text m n r s a b =
    let named : a.named ≡ b.named =
    same_behind_spaces a.spaces b.spaces a.named b.named a.only_spaces b.only_spaces
    (λ q e. no_space m a.named r q a.name_is e) (λ q e. no_space n b.named s q b.name_is e) (sym a.written ∙ b.written)
    in
    same_named b.named m n r s (subst (λ t. IsNamed t m r) named a.name_is) b.name_is

-- of two texts that are the same the fronts of one length are
pub same_front : (a b x y : List ℕ) → length a ≡ length b → a ++ x ≡ b ++ y → (a ≡ b) × (x ≡ y)
same_front [] [] x y l e = (refl, e)
same_front [] (n ∷ b) x y l e = absurd (omega arith)
same_front (m ∷ a) [] x y l e = absurd (omega arith)
same_front (m ∷ a) (n ∷ b) x y l e =
    let head : m ≡ n = cc in
    let rest : a ++ x ≡ b ++ y = cc in
    let r = same_front a b x y (omega arith) rest in
    let front : a ≡ b = r.0 in
    (cc, r.1)

pub same_at : (line : List ℕ) (k c d : ℕ) (m n : EventName) (r s : List ℕ) → NamesEventAt line k c m r → NamesEventAt line k d n s → (c ≡ d) × (m ≡ n) × (r ≡ s)
same_at line k c d m n r s a b =
    let size : length a.before ≡ length b.before = sym a.place_is ∙ b.place_is in
    let parts = same_front a.before b.before (58 ∷ a.behind) (58 ∷ b.behind) size (sym a.written ∙ b.written) in
    let tail : 58 ∷ a.behind ≡ 58 ∷ b.behind = parts.1 in
    let behind : a.behind ≡ b.behind = cc in
    let mark = same_last b.before c d a.time b.time (subst (λ t. IsLastMark t c a.time) parts.0 a.mark) b.mark in
    let name = same_spaced b.behind m n r s (subst (λ t. IsSpacedName t m r) behind a.named) b.named in
    (mark.0, name.0, name.1)

pub same_beginning : (line : List ℕ) (c d : ℕ) (m n : EventName) (r s : List ℕ) → IsBeginning line c m r → IsBeginning line d n s → (c ≡ d) × (m ≡ n) × (r ≡ s)
same_beginning line c d m n r s a b =
    elim (cases_lt a.place b.place) [
      | inl below ↦ absurd (b.first a.place c m r below a.here)
      | inr above ↦ elim (cases_lt b.place a.place) [
        | inl below ↦ absurd (a.first b.place d n s below b.here)
        | inr other ↦
            let same : a.place ≡ b.place = omega arith in
            same_at line b.place c d m n r s (subst (λ k. NamesEventAt line k c m r) same a.here) b.here
      ]
    ]
