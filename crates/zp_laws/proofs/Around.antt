-- The block out in a worker's name around a page.
use Rattle.std.proofs.Common.{ℕ, suc, zero, ◌+◌, ◌-◌, ◌≡◌, ◌<◌, inl, inr, refl, sym, ◌∙◌, ap, arith, true, List, Option, Some, None}
use Rattle.std.specs.Prelude.{slice_set}
use Rattle.std.specs.List.{range_with_len}
use Rattle.std.specs.Option.{is_some, option_or}
use Rattle.std.proofs.lemmas.Bool.{and_from, cases_Bool, cases_eq, eq-eqb, false≢true}
use Rattle.std.proofs.lemmas.List.{get_or-set_other}
use Rattle.std.proofs.lemmas.Option.{none-some, same_Some}
use Rattle.zp_model.specs.Block.{head, in_run, IsBlock}
use Rattle.zp_model.specs.BlockSet.{first_of}
use Rattle.zp_model.specs.Lawful.{IsLawful}
use Rattle.zp_model.specs.Runs.{block_around, block_of}
use Rattle.zp_model.specs.Zone.{PlainZone, Holding, holding_at, holds, pages_of}
use Rattle.zp_model.proofs.FirstFound.{first_some}
use Rattle.zp_model.proofs.Heads.{head_le, lt_head, head_of}
use Rattle.zp_model.proofs.Pages.{in_run-to, in_run-from}
use Rattle.zp_laws.proofs.Counting.{one_if}
use Rattle.zp_laws.proofs.HandedOut.{held_below, out-has, times_out-less}
use Rattle.zp_laws.proofs.Held.{IsHolding, held-to}
use Rattle.zp_laws.proofs.Keeping.{block-inside, one_place}

-- b, a head and what is noted of it, is a block out in w's name that has page i
pub record IsAround (out : List (Option Holding)) (w i : ℕ) (b : ℕ × Holding) : Type 0 where
  pub at : holding_at out b.0 ≡ Some b.1
  pub worker : b.1.worker ≡ w
  pub page : in_run b.0 b.1.order i ≡ true

-- what some place gives that is the first to give an answer
first_at : {Y : Type 0} → (f : ℕ → Option Y) (a n : ℕ) (y : Y) → first_of f (range_with_len a n) ≡ Some y → (i : ℕ) × (f i ≡ Some y)
first_at f a zero y e = absurd (none-some y e)
first_at {Y} f a (suc n) y e = go (f a) refl e (first_at f (a + 1) n y)
  where
    go : (o : Option Y) → f a ≡ o → option_or o (first_of f (range_with_len (a + 1) n)) ≡ Some y →
        (first_of f (range_with_len (a + 1) n) ≡ Some y → (i : ℕ) × (f i ≡ Some y)) → (i : ℕ) × (f i ≡ Some y)
    go None q e more = more e
    go (Some x) q e more = (a, q ∙ e)

of-to : (z : PlainZone) (w h k : ℕ) (b : ℕ × Holding) → block_of z w h k ≡ Some b → (b.0 ≡ h) × (b.1.order ≡ k) × (holding_at z.out h ≡ Some b.1) × (b.1.worker ≡ w)
of-to z w h k b e = elim (cases_Bool (holds z w h k)) [
  | inr n ↦ absurd (none-some b (rw n at e))
  | inl t ↦
      let x : IsHolding z w h k = held-to z w h k t in
      let same : (h, x.holding) ≡ b = same_Some (h, x.holding) b (rw (t, x.at) at e) in
      (ap (λ (c : ℕ × Holding). c.0) (sym same), ap (λ (c : ℕ × Holding). c.1.order) (sym same) ∙ x.order, x.at ∙ ap (λ (c : ℕ × Holding). Some c.1) same, ap (λ (c : ℕ × Holding). c.1.worker) (sym same) ∙ x.worker)
]

around_of : (z : PlainZone) (w i k : ℕ) (b : ℕ × Holding) → block_of z w (head i k) k ≡ Some b → IsAround z.out w i b
around_of z w i k b e =
    let y = of-to z w (head i k) k b e in
    record {
      at = rw y.0 y.2;
      worker = y.3;
      page = in_run-from b.0 b.1.order i (rw y.0 (head_le i k)) (rw (y.0, y.1) (lt_head i k));
    }

pub around-to : (z : PlainZone) (w i : ℕ) (b : ℕ × Holding) → block_around z w i ≡ Some b → IsAround z.out w i b
around-to z w i b e = let x = first_at (λ k. block_of z w (head i k) k) 0 (z.area.largest + 1 - 0) b e in around_of z w i x.0 b x.1

pub some_around : (z : PlainZone) (w i : ℕ) → is_some (block_around z w i) ≡ true → (b : ℕ × Holding) × (block_around z w i ≡ Some b)
some_around z w i e = go (block_around z w i) refl e
  where
    go : (o : Option (ℕ × Holding)) → block_around z w i ≡ o → is_some o ≡ true → (b : ℕ × Holding) × (block_around z w i ≡ Some b)
    go None q e = absurd (false≢true e)
    go (Some b) q e = (b, q)

module _ (z : PlainZone) (l : IsLawful z) where
  -- two blocks out that have a page are one
  pub out_apart : (g f i : ℕ) (x y : Holding) → holding_at z.out g ≡ Some x → holding_at z.out f ≡ Some y → in_run g x.order i ≡ true → in_run f y.order i ≡ true → g ≡ f
  out_apart g f i x y a b r s = elim (cases_eq g f) [
    | inl same ↦ same
    | inr other ↦
        let inside = block-inside z.area.largest (pages_of z) g x.order i (l.out g x a).0 r in
        let rest : List (Option Holding) = slice_set z.out g None in
        let still : holding_at rest f ≡ Some y = get_or-set_other z.out g f None None (λ e. other (sym e)) ∙ b in
        let one : one_if (in_run g x.order i) ≡ 1 = ap one_if r in
        absurd (omega (arith, times_out-less z.out g i x (held_below z.out g x a) a, out-has rest f i y still s, one_place z l i inside.2))
  ]

  pub around-from : (w i : ℕ) (b : ℕ × Holding) → IsAround z.out w i b → block_around z w i ≡ Some b
  around-from w i b x =
      let h : ℕ = b.0 in
      let k : ℕ = b.1.order in
      let block : IsBlock z.area.largest (pages_of z) h k = (l.out h b.1 x.at).0 in
      let r = in_run-to h k i x.page in
      let at : head i k ≡ h = head_of h i k block.aligned r.0 r.1 in
      let f : ℕ → Option (ℕ × Holding) = λ j. block_of z w (head i j) j in
      let yes : holds z w h k ≡ true = rw x.at (and_from _ _ (eq-eqb k k refl) (eq-eqb b.1.worker w x.worker)) in
      let here : f k ≡ Some b = rw (at, yes, x.at) refl in
      first_some f 0 (z.area.largest + 1 - 0) k b (omega arith) (omega (arith, block.order)) here (λ j lo lt. below j lt (f j) refl)
    where
      below : (j : ℕ) → j < b.1.order → (o : Option (ℕ × Holding)) → block_of z w (head i j) j ≡ o → block_of z w (head i j) j ≡ None
      below j lt None q = q
      below j lt (Some c) q =
          let y = of-to z w (head i j) j c q in
          let page : in_run (head i j) c.1.order i ≡ true = in_run-from (head i j) c.1.order i (head_le i j) (rw y.1 (lt_head i j)) in
          let same : head i j ≡ b.0 = out_apart (head i j) b.0 i c.1 b.1 y.2 x.at page x.page in
          let one : c.1 ≡ b.1 = same_Some c.1 b.1 (sym y.2 ∙ ap (holding_at z.out) same ∙ x.at) in
          let k : c.1.order ≡ b.1.order = ap (λ (v : Holding). v.order) one in
          absurd (omega (arith, y.1))
