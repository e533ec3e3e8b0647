-- A worker's part of the books tells which blocks are out in its name.
use Rattle.std.proofs.Common.{ℕ, ◌-◌, ◌≡◌, ◌≢◌, refl, sym, ◌∙◌, ap, arith, true, cond, List, Option, Some, None, eq-eqb, ne_eqb}
use Rattle.std.specs.Prelude.{slice_set}
use Rattle.std.proofs.Math.Seq.{map-set_same}
use Rattle.std.proofs.lemmas.List.{map-set}
use Rattle.std.proofs.Math.ListN.{get_or-map}
use Rattle.zp_model.specs.Zone.{Holding, holding_at, is_of}
use Rattle.zp_model.specs.Run.{is_out}
use Rattle.zp_model.specs.Books.{Books, Part, only, own, part, has_block}

pub own-at : (w h : ℕ) (out : List (Option Holding)) → holding_at (own w out) h ≡ only w (holding_at out h)
own-at w h out = get_or-map (only w) out h None

-- whether a holding is the worker's, its part tells as the zone does
pub is_of-only : (w k : ℕ) (o : Option Holding) → is_of w k (only w o) ≡ is_of w k o
is_of-only w k o = grind arith

pub has-is_out : (w p k : ℕ) (b : Books) → has_block w (part w b) p k ≡ is_out b.plain w p k
has-is_out w p k b = rw (own-at w (p - b.plain.base) b.plain.out, is_of-only w k (holding_at b.plain.out (p - b.plain.base)))

-- what is in a part that agrees with the books is out in the worker's name
pub out_by : (w p k : ℕ) (b : Books) (s : Part) → s ≡ part w b → has_block w s p k ≡ true → is_out b.plain w p k ≡ true
out_by w p k b s e o = sym (has-is_out w p k b) ∙ rw e at o

-- a holding is its own worker's, and no other's
only_same : (x : Holding) → only x.worker (Some x) ≡ Some x
only_same x = ap (λ b. cond b (Some x) None) (eq-eqb x.worker x.worker refl)

pub only_other : (u : ℕ) (x : Holding) → u ≢ x.worker → only u (Some x) ≡ None
only_other u x ne = ap (λ b. cond b (Some x) None) (ne_eqb x.worker u (λ e. ne (sym e)))

-- a worker's own block goes out
pub own_set : (x : Holding) (out : List (Option Holding)) (h : ℕ) → own x.worker (slice_set out h (Some x)) ≡ slice_set (own x.worker out) h (Some x)
own_set x out h = map-set (only x.worker) out h (Some x) ∙ ap (λ o. slice_set (own x.worker out) h o) (only_same x)

-- the holding at a page becomes another, and neither is u's
pub own_other : (u : ℕ) (out : List (Option Holding)) (h : ℕ) (v : Option Holding) → only u v ≡ None → only u (holding_at out h) ≡ None → own u (slice_set out h v) ≡ own u out
own_other u out h v a b = map-set_same (only u) out h v None (a ∙ sym b)

-- another's block goes out where none was
pub own-taken : (u h : ℕ) (out : List (Option Holding)) (x : Holding) → u ≢ x.worker → holding_at out h ≡ None → own u (slice_set out h (Some x)) ≡ own u out
own-taken u h out x ne none = own_other u out h (Some x) (only_other u x ne) (ap (only u) none)
