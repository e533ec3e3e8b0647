-- The pages of a drain that are left: one page less, and what it leaves in the end.
use Rattle.std.proofs.Common.{ℕ, ◌-◌, ◌≡◌, ◌≤◌, ◌==◌, inl, inr, sym, ◌∙◌, ap, true, false, List, [], ◌∷◌, All, set, Option, None}
use Rattle.std.proofs.lemmas.Bool.{cases_eq, and_parts, and_right, or_parts, both_ways, not-true, eq-eqb}
use Rattle.std.specs.Prelude.{leb, ◌&&◌}
use Rattle.std.proofs.lemmas.List.{get_or-set_other}
use Rattle.std.proofs.lemmas.List.Elements.{All-nil, All-cons, All-head, All-tail, All-weaker}
use Rattle.zp_model.specs.Rows.{stands_in}
use Rattle.zp_model.specs.Zone.{PlainZone, Holding, holding_at, is_of}
use Rattle.zp_model.specs.Step.{freed, drained}
use Rattle.zp_model.specs.Run.{is_out, is_distinct}
use Rattle.zp_laws.proofs.Held.{out-to}
use Rattle.zp_laws.proofs.StaysOut.{none_left_at, freed-gone, freed-kept}
use Rattle.zp_zone.specs.NamedZone.{KeepsOutBut, KeepsOutBeside, IsFresh, AreOut}

-- of a drain of the zone `before`, which is z now, these pages are left
pub record IsLeft (before z : PlainZone) (w : ℕ) (all pages : List ℕ) : Type 0 where
  pub rest : drained before all ≡ drained z pages
  pub out : AreOut z w pages
  pub distinct : is_distinct pages ≡ true

others_out : (z y : PlainZone) (w p : ℕ) (pages : List ℕ) → AreOut z w pages → stands_in p pages ≡ false → KeepsOutBut p z y → AreOut y w pages
others_out z y w p [] a s k = All-nil (λ q. is_out y w q 0 ≡ true)
others_out z y w p (x ∷ xs) a s k =
    let b = or_parts _ _ s in
    let Z : ℕ → Type 0 = λ q. is_out z w q 0 ≡ true in
    let Y : ℕ → Type 0 = λ q. is_out y w q 0 ≡ true in
    All-cons Y x xs (k w x 0 (λ same. both_ways (p == x) b.0 (eq-eqb p x (sym same))) (All-head Z x xs a)) (others_out z y w p xs (All-tail Z x xs a) b.1 k)

pub left_next : (before z y : PlainZone) (w : ℕ) (all : List ℕ) (p : ℕ) (ps : List ℕ) → IsLeft before z w all (p ∷ ps) → y ≡ freed z (p - z.base) 0 → KeepsOutBut p z y → IsLeft before y w all ps
left_next before z y w all p ps x e k =
    let d = and_parts _ _ x.distinct in
    record {
      rest = x.rest ∙ ap (λ q. drained q ps) (sym e);
      out = others_out z y w p ps (All-tail (λ q. is_out z w q 0 ≡ true) p ps x.out) (not-true _ d.0) k;
      distinct = d.1;
    }

-- where no block is out, none is when another comes back
freed-fresh : (z : PlainZone) (h k q : ℕ) → IsFresh z q → IsFresh (freed z h k) q
freed-fresh z h k q f w j =
    elim (cases_eq (q - z.base) h) [
      | inl same ↦ and_right _ _ (ap (λ n. is_of w j (holding_at (set z.out h None) n)) same ∙ ap (is_of w j) (none_left_at z.out h))
      | inr other ↦ ap (λ (o : Option Holding). leb z.base q && is_of w j o) (get_or-set_other z.out h (q - z.base) None None other) ∙ f w j
    ]

drained-fresh : (z : PlainZone) (ps : List ℕ) (q : ℕ) → IsFresh z q → IsFresh (drained z ps) q
drained-fresh z [] q f = f
drained-fresh z (p ∷ ps) q f = drained-fresh (freed z (p - z.base) 0) ps q (freed-fresh z (p - z.base) 0 q f)

-- what a drain leaves: no block is out at its pages, and the others are
pub drained-gone : (z : PlainZone) (ps : List ℕ) → All (IsFresh (drained z ps)) ps
drained-gone z [] = All-nil (IsFresh z)
drained-gone z (p ∷ ps) =
    let y : PlainZone = freed z (p - z.base) 0 in
    All-cons (IsFresh (drained y ps)) p ps (drained-fresh y ps p (λ w j. freed-gone z p 0 w j)) (drained-gone y ps)

based-kept : (z : PlainZone) (ps : List ℕ) → All (λ p. z.base ≤ p) ps → KeepsOutBeside ps z (drained z ps)
based-kept z [] b w q j s e = e
based-kept z (p ∷ ps) b w q j s e =
    let a = or_parts _ _ s in
    let P : ℕ → Type 0 = λ x. z.base ≤ x in
    based-kept (freed z (p - z.base) 0) ps (All-tail P p ps b) w q j a.1
    (freed-kept z p 0 (All-head P p ps b) w q j (λ same. both_ways (q == p) a.0 (eq-eqb q p same)) e)

pub drained-kept : (z : PlainZone) (w : ℕ) (ps : List ℕ) → AreOut z w ps → KeepsOutBeside ps z (drained z ps)
drained-kept z w ps a = based-kept z ps (All-weaker (λ q. is_out z w q 0 ≡ true) (λ q. z.base ≤ q) (λ q e. (out-to z w q 0 e).0) ps a)
