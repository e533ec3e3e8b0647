use Rattle.std.proofs.Common.{ℕ, ◌≡◌, ◌≤◌, ◌<◌, ◌+◌, ◌-◌, ◌^◌, ◌⊎◌, inl, inr, refl, true, length, length-set, ap, ◌∙◌, arith}
use Rattle.std.proofs.Math.Nat.{add-mod_right, zero-mod}
use Rattle.std.proofs.lemmas.Bool.{cases_lt}
use Rattle.zp_model.specs.Block.{is_max}
use Rattle.zp_model.proofs.Heads.{two, aligned_down}
use Rattle.zp_buddy.specs.Opened.{all_pages}
use Rattle.zp_buddy.proofs.OpenedPages.{fits_max, opened_added, opened_clear}
use Rattle.zp_buddy.proofs.opening.add_all_pages.Goals as goal

pub heads-init : goal.heads-init
heads-init c = record {
  largest = refl;
  opened = c.requires.bare;
  table = refl;
  kinds = refl;
  inside = omega arith;
  order = omega arith;
  aligned = zero-mod (2 ^ c.order-order.result);
  bound = inl (c.order-order.ensures ∙ c.largest.ensures);
  rest = λ i lo hi. opened_clear c.args.area.now.largest _ _ _ c.requires.bare i hi;
}

pub add-requires-clause-block : goal.add-requires-clause-block
add-requires-clause-block c =
    let i = c.heads.invariant in
    let len : length c.heads.area.rows.states ≡ length c.args.area.now.rows.states = i.opened.pages in
    rw (c.at.ensures, i.largest) (record {
      order = omega arith;
      aligned = aligned_down c.fitting-order.result c.heads.order c.heads.at c.fitting-order.ensures.within i.aligned;
      inside = omega arith;
    })

pub add-requires-clause-clear : goal.add-requires-clause-clear
add-requires-clause-clear c = rw c.heads.invariant.largest (λ p lo hi. c.heads.invariant.rest p (omega arith) (omega arith) p (omega arith) (omega arith))

pub heads-preserved : goal.heads-preserved
heads-preserved c =
    let i = c.heads.invariant in
    let k : ℕ = c.fitting-order.result in
    let n : ℕ = length c.args.area.now.rows.states in
    let within : c.fitting-order.result ≤ c.heads.order = c.fitting-order.ensures.within in
    let m : c.pages-at.result ≡ 2 ^ c.fitting-order.result = c.pages-at.ensures.pages in
    let most : (c.fitting-order.result ≡ c.heads.order) ⊎ (length c.args.area.now.rows.states - c.heads.at < 2 ^ (c.fitting-order.result + 1)) =
    elim (cases_lt c.fitting-order.result c.heads.order) [ inl lt ↦ inr (omega (arith, c.fitting-order.ensures.largest lt)) | inr ge ↦ inl (omega arith) ] in
    let x : is_max c.args.area.now.largest (all_pages n) c.heads.at k ≡ true = fits_max c.args.area.now.largest n c.heads.at c.heads.order k i.aligned i.order i.bound within (omega arith) most in
    record {
      largest = rw c.add.ensures.after i.largest;
      opened = rw (c.add.ensures.after, c.at.ensures, m, i.largest)
          (opened_added c.args.area.now.largest n c.heads.at k c.heads.area i.opened (omega arith) x (omega (arith, i.table, c.requires.table)) (i.kinds ∙ c.requires.movable));
      table = rw c.add.ensures.after (length-set _ _ _ ∙ i.table);
      kinds = rw c.add.ensures.after i.kinds;
      inside = omega arith;
      order = omega arith;
      aligned = rw m (add-mod_right c.heads.at (2 ^ k) ∙ aligned_down k c.heads.order c.heads.at within i.aligned);
      bound = elim most [
        | inl same ↦ elim i.bound [ inl top ↦ inl (omega arith) | inr less ↦ absurd (omega (arith, ap (λ q. 2 ^ q) same)) ]
        | inr less ↦ inr (omega (arith, two k))
      ];
      rest = λ q lo hi. rw i.largest at (c.add.ensures.still_clear q 0 (rw i.largest (i.rest q (omega arith) hi)) (inr (omega arith)));
    }
