-- What a page's note says of the pages from it on, where no free block begins before the page and goes past it.
use Rattle.std.proofs.Common.{ℕ, ◌+◌, ◌-◌, ◌^◌, ◌≡◌, ◌≤◌, ◌<◌, ◌&&◌, not, inl, inr, refl, sym, ◌∙◌, ap, arith, true, false, List, [], ◌∷◌, length, get_or, All, eq-eqb}
use Rattle.std.proofs.Math.ListN.{get_or-map}
use Rattle.std.proofs.lemmas.Bool.{cases_lt, false≢true, false_from_ne_true}
use Rattle.std.proofs.lemmas.List.{get_or_past, length-map}
use Rattle.std.proofs.lemmas.List.Elements.{All-head, All-tail}
use Rattle.std.proofs.lemmas.List.FromFn.{get_or-map-range_with_len}
use Rattle.std.proofs.lemmas.Nat.{pow_pos}
use Rattle.zp_model.specs.declared.migrate_type.MigrateType.{MigrateType}
use Rattle.zp_model.specs.declared.pageblock_type.PageblockType.TheVariants.{Movable}
use Rattle.zp_model.specs.declared.state.State.{State}
use Rattle.zp_model.specs.declared.state.State.TheVariants.{Tail, Free, Out, Posted}
use Rattle.zp_model.specs.Area.{available, is_isolated, kind_at}
use Rattle.zp_model.specs.Block.{IsBlock, has, in_run, is_max}
use Rattle.zp_model.specs.Frames.{Frames}
use Rattle.zp_model.specs.PageblockType.{is_isolate}
use Rattle.zp_model.specs.Rows.{list_at, stands_in, state_at}
use Rattle.zp_model.specs.Zone.{Holding, PlainZone, PostedBlock}
use Rattle.zp_model.proofs.Covers.{has_below}
use Rattle.zp_model.proofs.Heads.{number_around}
use Rattle.zp_model.proofs.Normal.{IsMaximal}
use Rattle.zp_model.proofs.Pages.{In, in_run-from, is_max-to}
use Rattle.zp_model.proofs.Settles.{stands_cases}
use Rattle.zp_laws.proofs.Counting.{one_if}
use Rattle.zp_laws.proofs.HandedOut.{count_posted}
use Rattle.zp_laws.proofs.Held.{IsHolding, held-not_free, held_block}
use Rattle.zp_laws.proofs.Keeping.{AllPosted, count-front, one_place, posted-has}
use Rattle.zp_zone.specs.Kept.{IsPostedAside, holding_of, plain_of, posted_block}
use Rattle.zp_zone.specs.Lowest.{IsPassed, serves}
use Rattle.zp_zone.proofs.BlockSteps.{IsAsked}
use Rattle.zp_zone.proofs.LowestRuns.{used_passed}
use Rattle.zp_zone.proofs.Noted.{blocks_at, posted-head, posted_at, posted_of}

-- a free page serves where its pageblock is not isolated
serves_open : (z : PlainZone) (i : ℕ) → has z.area.free i ≡ true → serves z i ≡ not (is_isolated z.area.largest z.area.kinds i)
unfolding available
serves_open z i e =
    get_or-map-range_with_len (λ h. has z.area.free h && not (is_isolated z.area.largest z.area.kinds h)) 0 (length z.area.free) i i false (has_below z.area.free i e) (omega arith) ∙ rw e refl

-- a free block lies in one pageblock
pub free_passed : (z : PlainZone) (h k : ℕ) → is_max z.area.largest z.area.free h k ≡ true → IsPassed z h (2 ^ k) (not (is_isolate (kind_at z.area.largest z.area.kinds h)))
free_passed z h k e =
    let x : IsMaximal z.area.largest (In z.area.free) h k = is_max-to z.area.largest z.area.free h k e in
    record {
      some = pow_pos k;
      inside = omega (arith, pow_pos k, has_below z.area.free (h + 2 ^ k - 1) (x.inside (h + 2 ^ k - 1) (omega (arith, pow_pos k)) (omega (arith, pow_pos k))));
      alike = λ i lo hi.
          serves_open z i (x.inside i lo hi)
          ∙ ap (λ b. not (is_isolate (get_or z.area.kinds b Movable))) (number_around h i k z.area.largest x.order x.aligned lo hi);
    }

-- a block whose head stands on a list of posted ones is one of the zone, and counts for each of its pages
standing_all : (P : PostedBlock → Type 0) (s : List State) (xs : List ℕ) (h : ℕ) → All P (blocks_at s xs) → stands_in h xs ≡ true → P (posted_block h (state_at s h))
standing_all P s [] h all e = absurd (false≢true e)
standing_all P s (x ∷ xs) h all e = elim (stands_cases h x xs e) [
  | inl same ↦ rw same (All-head P (posted_block x (state_at s x)) (blocks_at s xs) all)
  | inr later ↦ standing_all P s xs h (All-tail P (posted_block x (state_at s x)) (blocks_at s xs) all) later
]

standing_counts : (s : List State) (xs : List ℕ) (h i : ℕ) → in_run h (posted_block h (state_at s h)).order i ≡ true → stands_in h xs ≡ true → 1 ≤ count_posted (blocks_at s xs) i
standing_counts s [] h i r e = absurd (false≢true e)
standing_counts s (x ∷ xs) h i r e =
    let f = count-front (posted_block x (state_at s x)) (blocks_at s xs) i in
    elim (stands_cases h x xs e) [
      | inl same ↦
          let in_it : in_run (posted_block x (state_at s x)).head (posted_block x (state_at s x)).order i ≡ true =
          rw (posted-head x (state_at s x)) (rw same at r) in
          let one : one_if (in_run (posted_block x (state_at s x)).head (posted_block x (state_at s x)).order i) ≡ 1 = ap one_if in_it in
          omega (arith, f, one)
      | inr later ↦ omega (arith, f, standing_counts s xs h i r later)
    ]

module _ (f : Frames) (base min h : ℕ) (x : IsAsked f base min) where
  -- a free block
  pub passed_free : (k : ℕ) → state_at f.states h ≡ Free k → IsPassed (plain_of f base min) h (2 ^ k) (not (is_isolate (kind_at f.area.largest f.area.kinds h)))
  passed_free k e = free_passed (plain_of f base min) h k ((x.framed.noted h k).0 e)

  -- a block out
  pub passed_out : (k w : ℕ) (t : MigrateType) → state_at f.states h ≡ Out k t w → IsPassed (plain_of f base min) h (2 ^ k) false
  passed_out k w t e =
      let y : Holding = record { order = k; kind = t; worker = w } in
      let held : IsHolding (plain_of f base min) w h k = record { holding = y; at = get_or-map holding_of f.states h Tail ∙ ap holding_of e; order = refl; worker = refl } in
      used_passed (plain_of f base min) h (2 ^ k) (pow_pos k) (held_block (plain_of f base min) w h k x.lawful held).inside
      (λ i lo hi. held-not_free (plain_of f base min) w h k i x.lawful held (in_run-from h k i lo hi))

  -- a posted block
  pub passed_posted : (k w : ℕ) (t : MigrateType) → IsPostedAside f.sides f.states → state_at f.states h ≡ Posted k t w → IsPassed (plain_of f base min) h (2 ^ k) false
  passed_posted k w t aside e =
      let z : PlainZone = plain_of f base min in
      let stands : stands_in h (list_at f.sides w) ≡ true = aside w h ∙ rw e (eq-eqb w w refl) in
      let order : (posted_block h (state_at f.states h)).order ≡ k = rw e refl in
      let head : (posted_block h (state_at f.states h)).head ≡ h = posted-head h (state_at f.states h) in
      let blocks : AllPosted f.area.largest (length f.area.free) (blocks_at f.states (list_at f.sides w)) = rw (posted_at f base min w) at (x.lawful.posted w) in
      let block = standing_all (λ (p : PostedBlock). IsBlock f.area.largest (length f.area.free) p.head p.order) f.states (list_at f.sides w) h blocks stands in
      let inside : h + 2 ^ k ≤ length f.area.free = rw (head, order) at block.inside in
      used_passed z h (2 ^ k) (pow_pos k) inside (λ i lo hi. false_from_ne_true _ (λ full.
      let counted = standing_counts f.states (list_at f.sides w) h i (rw order (in_run-from h k i lo hi)) stands in
      let times = posted-has (posted_of f.states f.sides) w i (on_some w stands) in
      let here : count_posted (get_or (posted_of f.states f.sides) w []) i ≡ count_posted (blocks_at f.states (list_at f.sides w)) i =
      ap (λ (ps : List PostedBlock). count_posted ps i) (posted_at f base min w) in
      let free : one_if (has f.area.free i) ≡ 1 = ap one_if full in
      omega (arith, counted, times, here, free, one_place z x.lawful i (omega arith))))
    where
      on_some : (w : ℕ) → stands_in h (list_at f.sides w) ≡ true → w < length (posted_of f.states f.sides)
      on_some w e = elim (cases_lt w (length f.sides)) [
        | inl lt ↦ omega (arith, length-map f.sides (λ (ps : List ℕ). blocks_at f.states ps))
        | inr ge ↦ absurd (false≢true (rw (get_or_past f.sides w [] ge) at e))
      ]

  -- a free block is as large as is noted of it
  pub free_whole : (k j : ℕ) → state_at f.states h ≡ Free k → is_max f.area.largest f.area.free h j ≡ true → 2 ^ k ≡ 2 ^ j
  free_whole k j e m = same (sym e ∙ (x.framed.noted h j).1 m)
    where
      same : Free k ≡ Free j → 2 ^ k ≡ 2 ^ j
      same q = cc

  -- and no other note is that of one
  pub heads_none : (s : State) → state_at f.states h ≡ s → ((k : ℕ) → s ≡ Free k → ⊥) → (j : ℕ) → is_max f.area.largest f.area.free h j ≡ true → ⊥
  heads_none s e other j m = other j (sym e ∙ (x.framed.noted h j).1 m)
