-- Parts of a block that has left come back, block by block of their cut: none joins another, as the buddy of each has a page that is taken.
use Rattle.std.proofs.Common.{ℕ, ◌+◌, ◌-◌, ◌%◌, ◌^◌, ◌≡◌, ◌≢◌, ◌≤◌, ◌<◌, ◌⊎◌, inl, inr, refl, sym, ◌∙◌, ap, subst, arith, false, List, [], length, get_or-set_same, get_or-set_other}
use Rattle.std.proofs.Math.Nat.{add-mod_right, pow-le-pow_right}
use Rattle.std.proofs.lemmas.Nat.{pow_pos}
use Rattle.std.proofs.lemmas.Bool.{both_ways, cases_eq, cases_lt, false≢true, false_from_ne_true}
use Rattle.std.proofs.lemmas.List.{set-set}
use Rattle.zp_model.specs.declared.state.State.{State}
use Rattle.zp_model.specs.declared.state.State.TheVariants.{Tail, Free}
use Rattle.zp_model.specs.Block.{has, head, IsBlock, IsBuddy}
use Rattle.zp_model.specs.BlockSet.{cover}
use Rattle.zp_model.specs.Area.{Area}
use Rattle.zp_model.specs.Frames.{Frames, IsClear}
use Rattle.zp_model.specs.Rows.{state_at}
use Rattle.zp_model.specs.Runs.{fitting_order, give_run, with_pages}
use Rattle.zp_model.proofs.Cuts.{fitting}
use Rattle.zp_model.proofs.Heads.{two, aligned_down, half, head_aligned, head_le, head_of, head_room, head_self, lt_head}
use Rattle.zp_model.proofs.RunGiven.{give_block, give_more, given_in_parts, listed}
use Rattle.zp_model.proofs.RunParts.{with_pages-to}
use Rattle.zp_laws.proofs.Areas.{free-give_run}
use Rattle.zp_area.specs.Blocks.{Blocks, block_set, added, noted}
use Rattle.zp_area.specs.Chains.{IsJoinable}
use Rattle.zp_area.specs.Given.{IsClearRun}
use Rattle.zp_area.proofs.NotedBlocks.{starts-from}
use Rattle.zp_buddy.specs.Choices.{area_in, frames_in}
use Rattle.zp_buddy.specs.Parts.{IsGivenBack, MayComeBefore, MayComeBehind}
use Rattle.zp_buddy.specs.Runs.{AreClear}
use Rattle.zp_buddy.specs.Sound.{IsSound}
use Rattle.zp_buddy.proofs.Framed.{clear_is}
use Rattle.zp_buddy.proofs.JoinBlocks.{IsGiven, back_noted, given_joined, joining_none}
use Rattle.zp_buddy.proofs.Runs.{sound_listed}
use Rattle.zp_buddy.proofs.Settled.{length-pages}

-- a block comes back alone where its buddy has a page that is not free
module _ (m : ℕ) (b : Blocks) (c k p : ℕ) (x : IsSound m b.rows.states b.kinds b.rows.lists) (clear : IsClear (frames_in m b) c k)
    (taken : has (cover (block_set b)) p ≡ false) (beside : (e f : ℕ) → IsBuddy c k e f → (e ≤ p) × (p < e + 2 ^ k)) where
  alone : (e f : ℕ) → IsJoinable m (noted b c Tail) c k e f → ⊥
  alone e f q =
      let lies = beside e f q.buddy in
      let ne : e ≢ c = λ s. elim q.buddy.halves [ inl w ↦ omega (arith, w.0, w.1, pow_pos k) | inr w ↦ omega (arith, w.0, w.1, pow_pos k) ] in
      let was : state_at b.rows.states e ≡ Free k = sym (get_or-set_other b.rows.states c e Tail Tail ne) ∙ q.free in
      false≢true (sym taken ∙ x.normal.inside e k (starts-from b.rows.states e k was) p lies.0 lies.1)

  comes_alone : IsGiven m c k b (added m b c k)
  comes_alone =
      let same : added m (noted b c Tail) c k ≡ added m b c k =
      ap (λ (s : List State). let v : Blocks = record (added m b c k) { rows = record (added m b c k).rows { states = s } } in v) (set-set b.rows.states c Tail (Free k)) in
      given_joined 0 m c k c k b (noted b c Tail) (added m b c k) x clear (joining_none m c k (noted b c Tail) (back_noted m c k b x clear)) (sym same, alone)

-- nothing has come back yet
pub back_none : (a : Blocks) (h n : ℕ) → IsSound a.largest a.rows.states a.kinds a.rows.lists → IsGivenBack a a h (h - h)
back_none a h n x =
    let none : h - h ≡ 0 = omega arith in
    rw none (record {
      largest = refl;
      sound = x;
      pages = refl;
      kinds = refl;
      area = given_in_parts (area_in a.largest a) h [] (sound_listed a.largest a x) (λ i lo hi. absurd (omega arith));
      sides = refl;
      noted = λ i. inl refl;
    })

-- after n of the pages, the block behind them comes back
module _ (a y : Blocks) (h n all c k p : ℕ) (x : IsSound a.largest a.rows.states a.kinds a.rows.lists) (b : IsGivenBack a y h n)
    (clear : AreClear (frames_in a.largest a) h all) (here : c ≡ h + n) (room : n + 2 ^ k ≤ all) (low : k ≤ a.largest) (aligned : c % 2 ^ k ≡ 0)
    (taken : has (cover (block_set a)) p ≡ false) (out : h ≤ p → p < h + n → ⊥) (beside : (e f : ℕ) → IsBuddy c k e f → (e ≤ p) × (p < e + 2 ^ k)) where
  abbrev m : ℕ
  m = a.largest

  -- which pages are free now
  free_now : cover (block_set y) ≡ with_pages (cover (block_set a)) h n
  free_now = ap (λ (r : Area). r.free) b.area ∙ free-give_run (area_in m a) h n

  not_yet : (i : ℕ) → has (cover (block_set a)) i ≡ false → (h ≤ i → i < h + n → ⊥) → has (cover (block_set y)) i ≡ false
  not_yet i off apart = false_from_ne_true (has (cover (block_set y)) i) (λ e. elim (with_pages-to (cover (block_set a)) h n i (rw free_now at e)) [
    | inl old ↦ both_ways (has (cover (block_set a)) i) off old
    | inr new ↦ apart new.0 new.1
  ])

  -- so the block is clear
  now_clear : IsClear (frames_in m y) c k
  now_clear = record {
    block = record { order = low; aligned = aligned; inside = omega (arith, here, room, clear.inside, length-pages a.rows.states, length-pages y.rows.states, b.pages) };
    free = λ i lo hi. not_yet i (clear.free i (omega (arith, here)) (omega (arith, here, room))) (λ q r. omega (arith, here));
    aside = λ r i lo hi. rw b.sides (clear.aside r i (omega (arith, here)) (omega (arith, here, room)));
  }

  comes : IsGiven m c k y (added m y c k)
  comes = comes_alone m y c k p b.sound now_clear (not_yet p taken out) beside

  gives : area_in m (added m y c k) ≡ give_run (area_in m a) h (n + 2 ^ k)
  gives =
      ap (λ (f : Frames). f.area) comes.after
      ∙ give_block (area_in m y) c k
      ∙ ap (λ (r : Area). give_run r c (2 ^ k)) b.area
      ∙ ap (λ g. give_run (give_run (area_in m a) h n) g (2 ^ k)) here
      ∙ give_more (area_in m a) h n (2 ^ k) (listed (area_in m a) (sound_listed m a x)) (λ i lo hi. clear.free i lo (omega (arith, room)))

  now_noted : (i : ℕ) → (state_at (added m y c k).rows.states i ≡ state_at a.rows.states i) ⊎ ((h ≤ i) × (i < h + (n + 2 ^ k)) × (j : ℕ) × (state_at (added m y c k).rows.states i ≡ Free j))
  now_noted i = elim (cases_eq i c) [
    | inl same ↦ inr (
      omega (arith, here),
      omega (arith, here, pow_pos k),
      k,
      rw same (get_or-set_same y.rows.states c (Free k) Tail (omega (arith, here, room, clear.inside, length-pages a.rows.states, b.pages, pow_pos k))),
    )
    | inr ne ↦
        let stays : state_at (added m y c k).rows.states i ≡ state_at y.rows.states i = get_or-set_other y.rows.states c i (Free k) Tail ne in
        elim (b.noted i) [ inl old ↦ inl (stays ∙ old) | inr new ↦ inr (new.0, omega (arith, new.1), new.2, stays ∙ new.3) ]
  ]

  pub back_more : IsGivenBack a (added m y c k) h (n + 2 ^ k)
  back_more = record {
    largest = b.largest;
    sound = comes.sound;
    pages = comes.pages ∙ b.pages;
    kinds = comes.kinds ∙ b.kinds;
    area = gives;
    sides = ap (λ (f : Frames). f.sides) comes.after ∙ b.sides;
    noted = now_noted;
  }

-- of the pages from h up to page p, those before page n have come back: n begins the aligned run of some order around p
pub record IsBackBefore (a y : Blocks) (h p n : ℕ) : Type 0 where
  pub from : h ≤ n
  pub to : n ≤ p
  pub back : IsGivenBack a y h (n - h)
  pub level : ℕ
  pub within : level ≤ a.largest
  pub at : n ≡ head p level

pub before_begins : (a : Blocks) (h p : ℕ) → IsSound a.largest a.rows.states a.kinds a.rows.lists → MayComeBefore a h p → IsBackBefore a a h p h
before_begins a h p x y = record {
  from = omega arith;
  to = omega (arith, y.from, head_le p y.order);
  back = back_none a h 0 x;
  level = y.order;
  within = y.within;
  at = y.from;
}

module _ {a y : Blocks} {h p n : ℕ} (x : IsSound a.largest a.rows.states a.kinds a.rows.lists) (z : MayComeBefore a h p) (b : IsBackBefore a y h p n) (more : n < p) where
  abbrev next_order : ℕ
  next_order = fitting_order a.largest n (p - n)

  low : next_order < b.level
  low = elim (cases_lt next_order b.level) [
    | inl lt ↦ lt
    | inr ge ↦
        let wide : 2 ^ b.level ≤ 2 ^ next_order = pow-le-pow_right (omega arith) ge in
        absurd (omega (arith, (fitting a.largest n (p - n) (omega arith)).inside, b.at, lt_head p b.level, wide))
  ]

  aligned_double : n % 2 ^ (next_order + 1) ≡ 0
  aligned_double = aligned_down (next_order + 1) b.level n (omega (arith, low)) (ap (λ i. i % 2 ^ b.level) b.at ∙ head_aligned p b.level)

  short : p < n + 2 ^ (next_order + 1)
  short = elim (cases_lt p (n + 2 ^ (next_order + 1))) [
    | inl lt ↦ lt
    | inr ge ↦ absurd (omega (arith, (fitting a.largest n (p - n) (omega arith)).greatest (next_order + 1) (omega (arith, low, b.within)) aligned_double (omega arith)))
  ]

  room : n + 2 ^ next_order ≤ p
  room = omega (arith, (fitting a.largest n (p - n) (omega arith)).inside)

  beside : (e f : ℕ) → IsBuddy n next_order e f → (e ≤ p) × (p < e + 2 ^ next_order)
  beside e f q = elim q.halves [
    | inl w ↦ (omega (arith, w.0, w.1, room), omega (arith, w.0, w.1, short, two next_order))
    | inr w ↦
        let same : n ≡ f = sym (head_self n (next_order + 1) aligned_double) ∙ head_of f n (next_order + 1) q.double (omega (arith, w.1)) (omega (arith, w.1, two next_order, pow_pos next_order)) in
        absurd (omega (arith, same, w.1, pow_pos next_order))
  ]

  -- the block may be added, and ends no later than the pages do
  pub before_may : IsBlock a.largest (length y.rows.states) n next_order × IsClearRun a.largest y.rows.states y.rows.lists n next_order
  before_may =
      let f = fitting a.largest n (p - n) (omega arith) in
      (clear_is a.largest y n next_order).0
      (now_clear a y h (n - h) (p - h) n next_order p x b.back z.clear (omega (arith, b.from)) (omega (arith, b.from, room)) f.order f.aligned z.taken (λ q r. omega (arith, b.from)) beside)

  pub before_room : n + 2 ^ next_order ≤ p
  before_room = room

  goes_before : IsBackBefore a (added a.largest y n next_order) h p (n + 2 ^ next_order)
  goes_before =
      let f = fitting a.largest n (p - n) (omega arith) in
      let size : n + 2 ^ next_order - h ≡ n - h + 2 ^ next_order = omega (arith, b.from) in
      record {
        from = omega (arith, b.from);
        to = room;
        back = rw size (back_more a y h (n - h) (p - h) n next_order p x b.back z.clear (omega (arith, b.from)) (omega (arith, b.from, room)) f.order f.aligned z.taken (λ q r. omega (arith, b.from)) beside);
        level = next_order;
        within = f.order;
        at = sym (head_of (n + 2 ^ next_order) p next_order (add-mod_right n (2 ^ next_order) ∙ f.aligned) room (omega (arith, short, two next_order)));
      }

  pub before_goes : (q : ℕ) → q ≡ a.largest → IsBackBefore a (added q y n next_order) h p (n + 2 ^ next_order)
  before_goes q e = subst (λ r. IsBackBefore a (added r y n next_order) h p (n + 2 ^ next_order)) (sym e) goes_before

-- of the pages from h up to page e, those before page n have come back: n ends the aligned run of some order around the page before h
pub record IsBackBehind (a y : Blocks) (z : ℕ) (o h e n : ℕ) : Type 0 where
  pub from : h ≤ n
  pub to : n ≤ e
  pub back : IsGivenBack a y h (n - h)
  pub level : ℕ
  pub within : level ≤ o
  pub at : n ≡ head z level + 2 ^ level

pub behind_begins : (a : Blocks) (h e : ℕ) → IsSound a.largest a.rows.states a.kinds a.rows.lists → (y : MayComeBehind a h e) → IsBackBehind a a y.last y.order h e h
behind_begins a h e x y = record {
  from = omega arith;
  to = omega (arith, y.to, y.next, lt_head y.last y.order);
  back = back_none a h 0 x;
  level = 0;
  within = omega arith;
  at = omega (arith, y.next, head_self y.last 0 (omega arith));
}

module _ {a y : Blocks} {h e n : ℕ} (x : IsSound a.largest a.rows.states a.kinds a.rows.lists) (z : MayComeBehind a h e) (b : IsBackBehind a y z.last z.order h e n) (more : n < e) where
  abbrev rest_order : ℕ
  rest_order = fitting_order a.largest n (e - n)

  abbrev fits : n % 2 ^ rest_order ≡ 0
  fits = (fitting a.largest n (e - n) (omega arith)).aligned

  room_behind : n + 2 ^ rest_order ≤ e
  room_behind = omega (arith, (fitting a.largest n (e - n) (omega arith)).inside)

  begins : head z.last z.order + 2 ^ z.order ≡ e
  begins = sym z.to

  aligned_level : n % 2 ^ b.level ≡ 0
  aligned_level = ap (λ i. i % 2 ^ b.level) b.at ∙ add-mod_right (head z.last b.level) (2 ^ b.level) ∙ head_aligned z.last b.level

  -- the page is past the first of the block that has left, so the block is the one around it
  around : head n z.order ≡ head z.last z.order
  around = head_of (head z.last z.order) n z.order (head_aligned z.last z.order) (omega (arith, head_le z.last z.order, z.next, b.from)) (omega (arith, begins))

  below : rest_order < z.order
  below = elim (cases_lt rest_order z.order) [
    | inl lt ↦ lt
    | inr ge ↦
        let wide : 2 ^ z.order ≤ 2 ^ rest_order = pow-le-pow_right (omega arith) ge in
        absurd (omega (arith, room_behind, begins, head_le z.last z.order, z.next, b.from, wide))
  ]

  -- one of a smaller order ends before the end of the block
  whole : (j : ℕ) → j ≤ z.order → n % 2 ^ j ≡ 0 → n + 2 ^ j ≤ e
  whole j le al = omega (arith, head_room n j z.order le al, around, begins)

  level_le : b.level ≤ rest_order
  level_le = (fitting a.largest n (e - n) (omega arith)).greatest b.level (omega (arith, b.within, z.within)) aligned_level (omega (arith, whole b.level b.within aligned_level))

  high : n ≡ head n (rest_order + 1) + 2 ^ rest_order
  high = elim (half n rest_order fits) [
    | inr e ↦ e
    | inl whole_double ↦
        let al : n % 2 ^ (rest_order + 1) ≡ 0 = ap (λ i. i % 2 ^ (rest_order + 1)) whole_double ∙ head_aligned n (rest_order + 1) in
        absurd (omega (arith, (fitting a.largest n (e - n) (omega arith)).greatest (rest_order + 1) (omega (arith, below, z.within)) al (omega (arith, whole (rest_order + 1) (omega (arith, below)) al))))
  ]

  reaches : head n (rest_order + 1) ≤ z.last
  reaches = let wide : 2 ^ b.level ≤ 2 ^ rest_order = pow-le-pow_right (omega arith) level_le in omega (arith, high, b.at, head_le z.last b.level, wide)

  beside_behind : (c f : ℕ) → IsBuddy n rest_order c f → (c ≤ z.last) × (z.last < c + 2 ^ rest_order)
  beside_behind c f q =
      let double : f ≡ head n (rest_order + 1) = elim q.halves [
        | inl w ↦ sym (head_of f n (rest_order + 1) q.double (omega (arith, w.0)) (omega (arith, w.0, two rest_order, pow_pos rest_order)))
        | inr w ↦ sym (head_of f n (rest_order + 1) q.double (omega (arith, w.1)) (omega (arith, w.1, two rest_order, pow_pos rest_order)))
      ] in
      elim q.halves [
        | inl w ↦ absurd (omega (arith, w.0, double, high, pow_pos rest_order))
        | inr w ↦ (omega (arith, w.0, double, reaches), omega (arith, w.1, z.next, b.from, w.0))
      ]

  pub behind_may : IsBlock a.largest (length y.rows.states) n rest_order × IsClearRun a.largest y.rows.states y.rows.lists n rest_order
  behind_may =
      (clear_is a.largest y n rest_order).0
      (now_clear a y h (n - h) (e - h) n rest_order z.last x b.back z.clear (omega (arith, b.from)) (omega (arith, b.from, room_behind)) (omega (arith, below, z.within)) fits z.taken (λ q r. omega (arith, z.next)) beside_behind)

  pub behind_room : n + 2 ^ rest_order ≤ e
  behind_room = room_behind

  goes_behind : IsBackBehind a (added a.largest y n rest_order) z.last z.order h e (n + 2 ^ rest_order)
  goes_behind =
      let size : n + 2 ^ rest_order - h ≡ n - h + 2 ^ rest_order = omega (arith, b.from) in
      record {
        from = omega (arith, b.from);
        to = room_behind;
        back = rw size (back_more a y h (n - h) (e - h) n rest_order z.last x b.back z.clear (omega (arith, b.from)) (omega (arith, b.from, room_behind)) (omega (arith, below, z.within)) fits z.taken (λ q r. omega (arith, z.next)) beside_behind);
        level = rest_order + 1;
        within = omega (arith, below);
        at =
            let same : head z.last (rest_order + 1) ≡ head n (rest_order + 1) =
            head_of (head n (rest_order + 1)) z.last (rest_order + 1) (head_aligned n (rest_order + 1)) reaches (omega (arith, high, z.next, b.from, two rest_order)) in
            omega (arith, same, high, two rest_order);
      }

  pub behind_goes : (q : ℕ) → q ≡ a.largest → IsBackBehind a (added q y n rest_order) z.last z.order h e (n + 2 ^ rest_order)
  behind_goes q same = subst (λ r. IsBackBehind a (added r y n rest_order) z.last z.order h e (n + 2 ^ rest_order)) (sym same) goes_behind
