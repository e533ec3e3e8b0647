-- A run lies in a worker's part of the books where it is lent to the worker in the zone.
use Rattle.std.proofs.Common.{ℕ, ◌-◌, ◌≡◌, ◌<◌, refl, sym, ◌∙◌, ap, arith, true}
use Rattle.std.specs.Option.{is_some}
use Rattle.std.proofs.lemmas.Bool.{and_from, and_parts, eq-eqb}
use Rattle.zp_model.specs.Block.{head, IsBlock}
use Rattle.zp_model.specs.Books.{Books, has_page, has_run, own, part}
use Rattle.zp_model.specs.Lawful.{IsLawful}
use Rattle.zp_model.specs.Runs.{block_around, is_lent_run, may_free_run}
use Rattle.zp_model.specs.Zone.{Holding, holding_at, is_of, pages_of}
use Rattle.zp_model.proofs.Covers.{some_below-decides}
use Rattle.zp_model.proofs.Heads.{head_le, head_of, lt_head, lt_pow}
use Rattle.zp_model.proofs.LowestRun.{all-from, all-to}
use Rattle.zp_model.proofs.Pages.{in_run-from, in_run-to}
use Rattle.zp_laws.proofs.Around.{IsAround, around-from, around-to, some_around}
use Rattle.zp_laws.proofs.BooksOut.{is_of-only, own-at}
use Rattle.zp_laws.proofs.BooksShape.{length-own}
use Rattle.zp_laws.proofs.Counting.{same_tests}
use Rattle.zp_laws.proofs.Held.{IsHolding, held-to}

module _ (w : ℕ) (b : Books) (l : IsLawful b.plain) where
  -- a part tells of each order whether the block around a page is of it
  told : (i k : ℕ) → is_of w k (holding_at (own w b.plain.out) (head i k)) ≡ is_of w k (holding_at b.plain.out (head i k))
  told i k = ap (is_of w k) (own-at w (head i k) b.plain.out) ∙ is_of-only w k (holding_at b.plain.out (head i k))

  around_page : (i : ℕ) → has_page w (part w b) i ≡ true → (c : ℕ × Holding) × IsAround b.plain.out w i c
  around_page i e =
      let k = (some_below-decides (λ k. is_of w k (holding_at (own w b.plain.out) (head i k))) _).0 e in
      let x : IsHolding b.plain w (head i k.0) k.0 = held-to b.plain w (head i k.0) k.0 (sym (told i k.0) ∙ k.2) in
      ((head i k.0, x.holding), record { at = x.at; worker = x.worker; page = rw x.order (in_run-from (head i k.0) k.0 i (head_le i k.0) (lt_head i k.0)) })

  page_around : (i : ℕ) (c : ℕ × Holding) → IsAround b.plain.out w i c → has_page w (part w b) i ≡ true
  page_around i c x =
      let k : ℕ = c.1.order in
      let block : IsBlock b.plain.area.largest (pages_of b.plain) c.0 k = (l.out c.0 c.1 x.at).0 in
      let r = in_run-to c.0 k i x.page in
      let at : head i k ≡ c.0 = head_of c.0 i k block.aligned r.0 r.1 in
      let room : k < _ = omega (arith, lt_pow k, block.inside, l.places, length-own w b.plain.out) in
      let yes : is_of w k (holding_at b.plain.out (head i k)) ≡ true = rw (at, x.at) (and_from _ _ (eq-eqb k k refl) (eq-eqb c.1.worker w x.worker)) in
      (some_below-decides (λ k. is_of w k (holding_at (own w b.plain.out) (head i k))) _).1 (k, room, told i k ∙ yes)

  run_lent : (p n : ℕ) → has_run w (part w b) p n ≡ true → may_free_run b.plain w p n ≡ true
  unfolding has_run is_lent_run
  run_lent p n e =
      let a = and_parts _ _ e in
      and_from _ _ a.0 (all-from (λ i. is_some (block_around b.plain w i)) (p - b.plain.base) n (λ i lo hi.
      let c = around_page i (all-to (has_page w (part w b)) (p - b.plain.base) n a.1 i lo hi) in
      ap is_some (around-from b.plain l w i c.0 c.1)))

  lent_run : (p n : ℕ) → may_free_run b.plain w p n ≡ true → has_run w (part w b) p n ≡ true
  unfolding has_run is_lent_run
  lent_run p n e =
      let a = and_parts _ _ e in
      and_from _ _ a.0 (all-from (has_page w (part w b)) (p - b.plain.base) n (λ i lo hi.
      let c = some_around b.plain w i (all-to (λ i. is_some (block_around b.plain w i)) (p - b.plain.base) n a.1 i lo hi) in
      page_around i c.0 (around-to b.plain w i c.0 c.1)))

  pub run-lent : (p n : ℕ) → has_run w (part w b) p n ≡ may_free_run b.plain w p n
  run-lent p n = same_tests _ _ (run_lent p n) (lent_run p n)
