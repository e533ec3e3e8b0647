-- The first place of a byte.
use Rattle.std.proofs.Common.{ℕ, zero, suc, ◌≡◌, ◌≢◌, ◌<◌, List, [], ◌∷◌, length, get_or, Option, None, Some, IfSome, IfNone, true, eq-eqb, refl, ap, arith}
use Rattle.std.specs.List.{AllByRecursion}
use Rattle.std.proofs.lemmas.Bool.Decides.{nat_tests}
use Rattle.memchr.specs.Find.{IsFirstByte, is_byte}
use Rattle.zp_events.specs.Words.{IsFirstPlace}

first_place : (byte : ℕ) (bytes : List ℕ) (at : ℕ) → at < length bytes → get_or bytes at 0 ≡ byte → ((k : ℕ) → k < at → get_or bytes k 0 ≢ byte) → IsFirstPlace bytes byte at
first_place byte [] at inside is before = absurd (omega arith)
first_place byte (b ∷ bytes) zero inside is before = record { front = []; rest = bytes; written = ap (λ (n : ℕ). n ∷ bytes) is; place_is = refl; none = tt }
first_place byte (b ∷ bytes) (suc n) inside is before =
    let r = first_place byte bytes n (omega arith) is (λ k less. before (suc k) (omega arith)) in
    record { front = b ∷ r.front; rest = r.rest; written = ap (λ (t : List ℕ). b ∷ t) r.written; place_is = omega (arith, r.place_is); none = (before 0 (omega arith), r.none) }

no_place : (byte : ℕ) (bytes : List ℕ) → ((k : ℕ) → k < length bytes → get_or bytes k 0 ≢ byte) → AllByRecursion (λ b. b ≢ byte) bytes
no_place byte [] before = tt
no_place byte (b ∷ bytes) before = (before 0 (omega arith), no_place byte bytes (λ k less. before (suc k) (omega arith)))

is_the_byte : (b byte : ℕ) → is_byte byte b ≡ true → b ≡ byte
is_the_byte b byte h = grind (arith, nat_tests)

the_byte_is : (b byte : ℕ) → b ≡ byte → is_byte byte b ≡ true
the_byte_is b byte h = eq-eqb b byte h

pub some_place : (byte : ℕ) (bytes : List ℕ) (r : Option ℕ) → IsFirstByte (is_byte byte) bytes r → IfSome r (λ place. IsFirstPlace bytes byte place)
some_place byte bytes None h = tt
some_place byte bytes (Some k) h =
    first_place byte bytes k h.0.high (is_the_byte (get_or bytes k 0) byte h.1) (λ j less is. h.0.before j (omega arith) less (the_byte_is (get_or bytes j 0) byte is))

pub none_place : (byte : ℕ) (bytes : List ℕ) (r : Option ℕ) → IsFirstByte (is_byte byte) bytes r → IfNone r (AllByRecursion (λ b. b ≢ byte) bytes)
none_place byte bytes None h = no_place byte bytes (λ j less is. h j (omega arith) less (the_byte_is (get_or bytes j 0) byte is))
none_place byte bytes (Some k) h = tt
