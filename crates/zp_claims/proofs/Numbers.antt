-- The codes of what is noted of pageblocks, and how many pageblocks have each.
use Rattle.std.proofs.Common.{ℕ, zero, suc, ◌+◌, ◌-◌, ◌*◌, ◌/◌, ◌%◌, ◌≡◌, ◌≤◌, ◌<◌, ◌==◌, ◌↔◌, not, inl, inr, refl, sym, ◌∙◌, ap, arith, cond, List, [], ◌∷◌, length, map, get_or, set, replicate, Option, None, Some}
use Rattle.std.specs.List.{count_by, sum_by}
use Rattle.std.specs.Option.{is_some}
use Rattle.std.proofs.Math.ListN.{get_or-map}
use Rattle.std.proofs.lemmas.Bool.{eqb-true, eq-eqb, cases_eq, cases_lt, false_from_ne_true}
use Rattle.std.proofs.lemmas.List.{get_or_past, get_or-set_same, get_or-set_other, length-set, length-replicate, set-get_or, length-map}
use Rattle.std.proofs.lemmas.List.Folds.{sum_by-replicate}
use Rattle.std.proofs.lemmas.List.Sums.{sum_by-cons, sum_by-set, get_or-le-sum_by, count_by-le-length}
use Rattle.zp_model.specs.declared.constants.TheConstants.{MAX_PAGES, ORDERS}
use Rattle.zp_model.specs.declared.migrate_type.MigrateType.{MigrateType}
use Rattle.zp_model.specs.declared.migrate_type.MigrateType.TheVariants.{Unmovable, Reclaimable, Movable}
use Rattle.zp_model.specs.MigrateType.{type_number, types_count}
use Rattle.zp_model.proofs.TypeNumbers.{type_number_below}
use Rattle.zp_claims.specs.declared.claim.Claim.{Claim}
use Rattle.zp_claims.specs.declared.code.TheConstants.{CODES}
use Rattle.zp_claims.specs.Codes.{claim_number, IsNumbered, claim_of, code_of, type_of}
use Rattle.zp_claims.specs.Noted.{noted_at}

-- a code and what it says
type-of_number : (t : MigrateType) → type_of (type_number t) ≡ t
type-of_number Unmovable = refl
type-of_number Reclaimable = refl
type-of_number Movable = refl

number-of_type : (n : ℕ) → n < types_count → type_number (type_of n) ≡ n
number-of_type zero lt = refl
number-of_type (suc zero) lt = refl
number-of_type (suc (suc n)) lt = omega arith

claim-of_number : (r o : ℕ) (t : MigrateType) → r ≡ claim_number o t → claim_of (suc r) ≡ Some (record { kind = t; order = o })
claim-of_number r o t e =
    let k : r % types_count ≡ type_number t = omega (arith, type_number_below t) in
    let j : r / types_count ≡ o = omega (arith, type_number_below t) in
    let f : type_of (r % types_count) ≡ t = ap type_of k ∙ type-of_number t in
    rw (f, j) refl

pub claim-of_code : (x : Option Claim) → claim_of (code_of x) ≡ x
claim-of_code None = refl
claim-of_code (Some c) =
    let e : code_of (Some c) ≡ suc (claim_number c.order c.kind) = omega arith in
    ap claim_of e ∙ claim-of_number (claim_number c.order c.kind) c.order c.kind refl

pub code-of_claim : (d : ℕ) → code_of (claim_of d) ≡ d
code-of_claim zero = refl
code-of_claim (suc r) =
    let n : type_number (type_of (r % types_count)) ≡ r % types_count = number-of_type (r % types_count) (omega arith) in
    omega arith

-- what is noted of a pageblock is what its code says
pub noted-code : (codes : List ℕ) (b : ℕ) → noted_at (map claim_of codes) b ≡ claim_of (get_or codes b 0)
noted-code codes b = get_or-map claim_of codes b 0

some-code : (d : ℕ) → is_some (claim_of d) ≡ not (d == 0)
some-code zero = refl
some-code (suc r) = ap not (sym (false_from_ne_true (suc r == 0) (λ e. omega (arith, eqb-true (suc r) 0 e))))

-- where its code is not 0 something is noted of a pageblock, and only there
pub some-noted : (codes : List ℕ) (b : ℕ) → is_some (noted_at (map claim_of codes) b) ≡ not (get_or codes b 0 == 0)
some-noted codes b = ap is_some (noted-code codes b) ∙ some-code (get_or codes b 0)

-- a pageblock of the table has a code
pub code-within : (codes : List ℕ) (s : List (Option Claim)) (b : ℕ) → map claim_of codes ≡ s → b < length s → b < length codes
code-within codes s b e lt = omega (arith, length-map codes claim_of, ap length e, lt)

-- with another code of one pageblock
pub noted-set : (codes : List ℕ) (b code : ℕ) → map claim_of (set codes b code) ≡ set (map claim_of codes) b (claim_of code)
noted-set [] b code = refl
noted-set (d ∷ ds) zero code = refl
noted-set (d ∷ ds) (suc b) code = ap (λ l. claim_of d ∷ l) (noted-set ds b code)

-- where nothing is noted
pub none-noted : (n : ℕ) → map claim_of (replicate n 0) ≡ replicate n None
none-noted zero = refl
none-noted (suc n) = ap (λ l. None ∷ l) (none-noted n)

one-code : (c d n : ℕ) → count_by (λ x. x == c) (replicate n d) ≡ n * cond (d == c) 1 0
one-code c d n = sum_by-replicate (λ x. cond (x == c) 1 0) n d

-- no number in a table of zeros
pub zero-code : (n b : ℕ) → get_or (replicate {A = ℕ} n 0) b 0 ≡ zero
zero-code zero b = refl
zero-code (suc n) zero = refl
zero-code (suc n) (suc b) = zero-code n b

-- 1 where a code is c
abbrev one_if : ℕ → ℕ → ℕ
one_if c d = cond (d == c) 1 0

one-same : (c d : ℕ) → d ≡ c → one_if c d ≡ 1
one-same c d e = rw (eq-eqb d c e)

one-other : (c d : ℕ) → (d ≡ c → ⊥) → one_if c d ≡ 0
one-other c d ne = rw (false_from_ne_true (d == c) (λ t. ne (eqb-true d c t)))

pub numbered-none : (n : ℕ) (ns : List ℕ) → n ≤ MAX_PAGES → length ns ≡ CODES → ((c : ℕ) → get_or ns c 0 ≡ zero) → IsNumbered (replicate n 0) (set ns 0 n)
numbered-none n ns le long zeros = record {
  short = omega (arith, length-replicate {A = ℕ} n 0);
  known = λ b. omega (arith, zero-code n b);
  each = λ c lt. elim (cases_eq c 0) [
    | inl e ↦ omega (arith, e, ap (λ i. get_or (set ns 0 n) i 0) e, get_or-set_same ns 0 n 0 (omega arith), one-code c 0 n, ap (λ y. n * y) (one-same c 0 (sym e)))
    | inr ne ↦ omega (arith, get_or-set_other ns 0 c n 0 ne, zeros c, one-code c 0 n, ap (λ y. n * y) (one-other c 0 (λ e. ne (sym e))))
  ];
}

-- the code of a pageblock is counted
pub counted-here : (codes ns : List ℕ) (b : ℕ) → IsNumbered codes ns → b < length codes → 1 ≤ get_or ns (get_or codes b 0) 0
counted-here codes ns b x lt =
    let c : ℕ = get_or codes b 0 in
    let one : one_if c c ≡ 1 = one-same c c refl in
    let le : one_if c (get_or codes b 0) ≤ sum_by (one_if c) codes = get_or-le-sum_by (one_if c) codes b 0 lt in
    omega (arith, x.each c (x.known b))

-- and where a code is counted, some pageblock has it
pub place-counted : (codes : List ℕ) (c : ℕ) → 1 ≤ count_by (λ d. d == c) codes → (b : ℕ) × (b < length codes) × (get_or codes b 0 ≡ c)
place-counted [] c le = absurd (omega arith)
place-counted (d ∷ ds) c le = elim (cases_eq d c) [
  | inl e ↦ (0, omega arith, e)
  | inr ne ↦ let r : (b : ℕ) × (b < length ds) × (get_or ds b 0 ≡ c) = place-counted ds c (omega (arith, sum_by-cons (one_if c) d ds, one-other c d ne)) in
      (suc r.0, omega (arith, r.1), r.2)
]

module _ (codes ns : List ℕ) (x : IsNumbered codes ns) where
  pub number-le : (c : ℕ) → c < CODES → get_or ns c 0 ≤ MAX_PAGES
  number-le c lt = omega (arith, x.each c lt, count_by-le-length (λ d. d == c) codes, x.short)

  -- a number is above 0 exactly where a pageblock is noted so
  pub number-tells : (c : Claim) → code_of (Some c) < CODES → (1 ≤ get_or ns (code_of (Some c)) 0) ↔ ((b : ℕ) × (noted_at (map claim_of codes) b ≡ Some c))
  number-tells c lt = (
    λ le. let r : (b : ℕ) × (b < length codes) × (get_or codes b 0 ≡ code_of (Some c)) = place-counted codes (code_of (Some c)) (omega (arith, x.each (code_of (Some c)) lt)) in
        (r.0, noted-code codes r.0 ∙ ap claim_of r.2 ∙ claim-of_code (Some c)),
    λ r. let e : get_or codes r.0 0 ≡ code_of (Some c) = sym (code-of_claim (get_or codes r.0 0)) ∙ ap code_of (sym (noted-code codes r.0) ∙ r.1) in
        rw (← e) (counted-here codes ns r.0 x (within r.0 e)),
  )
    where
      within : (b : ℕ) → get_or codes b 0 ≡ code_of (Some c) → b < length codes
      within b e = elim (cases_lt b (length codes)) [
        | inl inside ↦ inside
        | inr past ↦ absurd (omega (arith, e, get_or_past codes b 0 past))
      ]

  -- a pageblock that is noted has an order that is known
  pub order-known : (b : ℕ) (c : Claim) → noted_at (map claim_of codes) b ≡ Some c → c.order < ORDERS
  order-known b c e =
      let f : get_or codes b 0 ≡ code_of (Some c) = sym (code-of_claim (get_or codes b 0)) ∙ ap code_of (sym (noted-code codes b) ∙ e) in
      omega (arith, x.known b, f)

-- where its code says what is noted already, a table stays as it is
pub noted-same : (codes : List ℕ) (b : ℕ) (x : Option Claim) → get_or codes b 0 ≡ code_of x → map claim_of codes ≡ set (map claim_of codes) b x
noted-same codes b x e =
    let f : noted_at (map claim_of codes) b ≡ x = noted-code codes b ∙ ap claim_of e ∙ claim-of_code x in
    sym (ap (λ y. set (map claim_of codes) b y) (sym f) ∙ set-get_or (map claim_of codes) b None)

-- one pageblock has another code, and the numbers have one less of the old one and one more of the new one
module _ (codes ns : List ℕ) (b code : ℕ) (x : IsNumbered codes ns) (long : length ns ≡ CODES) (lt : b < length codes) (fits : code < CODES) where
  abbrev old : ℕ
  old = get_or codes b 0

  abbrev lessened : List ℕ
  lessened = set ns old (get_or ns old 0 - 1)

  less : (c : ℕ) → get_or lessened c 0 + one_if c old ≡ get_or ns c 0
  less c = elim (cases_eq old c) [
    | inl e ↦ omega (arith, one-same c old e, counted-here codes ns b x lt, ap (λ j. get_or lessened j 0) e, ap (λ j. get_or ns j 0) e, get_or-set_same ns old (get_or ns old 0 - 1) 0 (omega (arith, x.known b)))
    | inr ne ↦ omega (arith, one-other c old ne, get_or-set_other ns old c (get_or ns old 0 - 1) 0 (λ e. ne (sym e)))
  ]

  abbrev numbers : List ℕ
  numbers = set lessened code (get_or lessened code 0 + 1)

  more : (c : ℕ) → get_or numbers c 0 ≡ get_or lessened c 0 + one_if c code
  more c = elim (cases_eq code c) [
    | inl e ↦ omega (arith, one-same c code e, ap (λ j. get_or numbers j 0) e, ap (λ j. get_or lessened j 0) e, get_or-set_same lessened code (get_or lessened code 0 + 1) 0 (omega (arith, length-set ns old (get_or ns old 0 - 1))))
    | inr ne ↦ omega (arith, one-other c code ne, get_or-set_other lessened code c (get_or lessened code 0 + 1) 0 (λ e. ne (sym e)))
  ]

  pub numbered-set : IsNumbered (set codes b code) numbers
  numbered-set = record {
    short = omega (arith, length-set codes b code, x.short);
    known = λ i. elim (cases_eq i b) [
      | inl same ↦ rw same (omega (arith, get_or-set_same codes b code 0 lt))
      | inr ne ↦ omega (arith, get_or-set_other codes b i code 0 ne, x.known i)
    ];
    each = λ c below. omega (arith, more c, less c, x.each c below, sum_by-set (one_if c) codes b code 0 lt);
  }

  -- and no number grows past the pages of a zone
  pub lessened-fits : get_or lessened code 0 ≤ MAX_PAGES
  lessened-fits = omega (arith, less code, number-le codes ns x code fits)
