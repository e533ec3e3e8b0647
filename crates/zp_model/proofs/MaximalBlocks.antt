-- Maximal blocks, in the words of the definitions: they are unique, cover each page once, and are what is noted of pages as free.
use Rattle.std.proofs.Common.{ℕ, ◌+◌, ◌-◌, ◌^◌, ◌≡◌, ◌≤◌, ◌<◌, ◌↔◌, inl, inr, sym, ◌∙◌, arith, true, Bool, List, length, get_or, Some, None}
use Rattle.std.specs.List.{find}
use Rattle.std.proofs.lemmas.Bool.{cases_lt}
use Rattle.std.proofs.lemmas.List.{get_or_past}
use Rattle.std.proofs.lemmas.Nat.{pow_pos}
use Rattle.std.proofs.lemmas.Option.{none-some}
use Rattle.std.proofs.lemmas.List.FromFn.{get_or-map-range_with_len, length-map-range_with_len}
use Rattle.zp_model.specs.declared.state.State.{State}
use Rattle.zp_model.specs.declared.state.State.TheVariants.{Tail}
use Rattle.zp_model.specs.Block.{head, has, is_max}
use Rattle.zp_model.specs.BlockSet.{Starts, cover, max_blocks, orders_from}
use Rattle.zp_model.specs.Frames.{restate, restated}
use Rattle.zp_model.specs.Laws.{EachPageInOneBlock, UnjoinedAreMaximal}
use Rattle.zp_model.specs.Rows.{state_at}
use Rattle.zp_model.proofs.FirstFound.{find-passes, find_only}
use Rattle.zp_model.proofs.Heads.{lt_pow, head_le, lt_head, head_of}
use Rattle.zp_model.proofs.Normal.{IsNormal, maximal_from, maximal_to}
use Rattle.zp_model.proofs.Pages.{In, in_run-to, in_run-from, is_max-to, is_max-from}
use Rattle.zp_model.proofs.Maximal.{max-normal, maximal-covers, maximal-apart}
use Rattle.zp_model.proofs.Covers.{cover-to, cover-from, has_below}

-- a set of disjoint blocks with no two buddies is the set of the maximal blocks of its pages
pub max-unique : (m : ℕ) (S : ℕ → ℕ → Type 0) (u : List Bool) → IsNormal m S (In u) → (h k : ℕ) → S h k ↔ (is_max m u h k ≡ true)
max-unique m S u z h k =
    (λ s. is_max-from m u h k (maximal_from m S (In u) z h k s), λ e. maximal_to m S (In u) z h k (is_max-to m u h k e))

pub each_page_in_one_block : EachPageInOneBlock
each_page_in_one_block m u i x =
    let c = maximal-covers m u i x in
    let h = head i c.0 in (
      h,
      c.0,
      (is_max-from m u h c.0 c.1, in_run-from h c.0 i (head_le i c.0) (lt_head i c.0)),
      λ g j y.
          let r = in_run-to g j i y.1 in
          maximal-apart m (In u) g j h c.0 i (is_max-to m u g j y.0) c.1 r.0 r.1 (head_le i c.0) (lt_head i c.0),
    )

pub unjoined_are_maximal : UnjoinedAreMaximal
unjoined_are_maximal m s x h k = max-unique m (Starts s) (cover s) unjoined-normal h k
  where
    unjoined-normal : IsNormal m (Starts s) (In (cover s))
    unjoined-normal = record {
      order = x.order;
      aligned = x.aligned;
      apart = λ h k g j i a b p q r t.
          let e : h ≡ g = x.apart h k g j i a b (in_run-from h k i p q) (in_run-from g j i r t) in
          let c : Starts s g k = rw e at a in
          let d : Some k ≡ Some j = sym c ∙ b in
          (e, cc);
      unjoined = x.buddies;
      covers = cover-to s;
      inside = λ h k a i p q.
          let room : h + 2 ^ k ≤ length s = x.inside h k a in
          cover-from s i k (omega arith) (omega (arith, lt_pow k)) (rw (head_of h i k (x.aligned h k a) p q) a);
    }

-- the order of the maximal block that starts at a page, and what is noted of each page by it
module _ (m : ℕ) (u : List Bool) where
  -- the head of a maximal block is in the set
  pub max_has : (h k : ℕ) → is_max m u h k ≡ true → has u h ≡ true
  max_has h k e = (is_max-to m u h k e).inside h (omega arith) (omega (arith, pow_pos k))

  pub one_order : (h k j : ℕ) → is_max m u h k ≡ true → is_max m u h j ≡ true → j ≡ k
  one_order h k j a b =
      (maximal-apart m (In u) h j h k h (is_max-to m u h j b) (is_max-to m u h k a) (omega arith) (omega (arith, pow_pos j)) (omega arith) (omega (arith, pow_pos k))).1

  pub length-max : length (max_blocks m u) ≡ length u
  unfolding max_blocks
  length-max = length-map-range_with_len _ 0 (length u)

  pub max_block : (h : ℕ) → h < length u → get_or (max_blocks m u) h None ≡ find (is_max m u h) (orders_from m 0)
  unfolding max_blocks
  max_block h lt = get_or-map-range_with_len (λ g. find (is_max m u g) (orders_from m 0)) 0 (length u) h h None lt (omega arith)

  pub max_block_some : (h k : ℕ) → h < length u → is_max m u h k ≡ true → get_or (max_blocks m u) h None ≡ Some k
  max_block_some h k lt e =
      max_block h lt
      ∙ find_only (is_max m u h) 0 (m + 1 - 0) k (omega arith) (omega (arith, (is_max-to m u h k e).order)) e (λ i f. one_order h k i e f)

  pub length-restated : (s : List State) → length (restated m u s) ≡ length s
  unfolding restated
  length-restated s = length-map-range_with_len (λ h. restate (get_or (max_blocks m u) h None) (state_at s h)) 0 (length s)

  pub state-restated : (s : List State) (g : ℕ) → g < length s → state_at (restated m u s) g ≡ restate (get_or (max_blocks m u) g None) (state_at s g)
  unfolding restated
  state-restated s g lt = get_or-map-range_with_len (λ h. restate (get_or (max_blocks m u) h None) (state_at s h)) 0 (length s) g g Tail lt (omega arith)

-- what the block set of the maximal blocks says of a page
pub max_blocks-to : (m : ℕ) (u : List Bool) (h j : ℕ) → get_or (max_blocks m u) h None ≡ Some j → is_max m u h j ≡ true
max_blocks-to m u h j e =
    elim (cases_lt h (length u)) [
      | inl lt ↦ (find-passes (is_max m u h) (orders_from m 0) j (sym (max_block m u h lt) ∙ e)).0
      | inr ge ↦ absurd (none-some j (sym (get_or_past (max_blocks m u) h None (omega (arith, length-max m u))) ∙ e))
    ]

-- so it is disjoint and unjoined, and has the set's pages
pub max_blocks-normal : (m : ℕ) (u : List Bool) → IsNormal m (Starts (max_blocks m u)) (In u)
max_blocks-normal m u =
    let z = max-normal m u in
    record {
      order = λ h k s. z.order h k (max_blocks-to m u h k s);
      aligned = λ h k s. z.aligned h k (max_blocks-to m u h k s);
      apart = λ h k g j i s t. z.apart h k g j i (max_blocks-to m u h k s) (max_blocks-to m u g j t);
      unjoined = λ h k lt al s t. z.unjoined h k lt al (max_blocks-to m u h k s) (max_blocks-to m u (h + 2 ^ k) k t);
      covers = λ i e. let c = z.covers i e in (c.0, max_block_some m u (head i c.0) c.0 (has_below u (head i c.0) (max_has m u (head i c.0) c.0 c.1)) c.1);
      inside = λ h k s. z.inside h k (max_blocks-to m u h k s);
    }
