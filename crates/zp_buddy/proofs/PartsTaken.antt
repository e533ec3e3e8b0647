-- Pages that are taken out of the free blocks in which they lie.
use Rattle.std.proofs.Common.{ℕ, ◌+◌, ◌-◌, ◌^◌, ◌≡◌, ◌≤◌, ◌<◌, ◌⊎◌, inl, inr, refl, sym, ◌∙◌, ap, subst, arith, Bool, List, [], Some, false, true, length, max, min}
use Rattle.std.proofs.lemmas.Bool.{both_ways, cases_eq, cases_lt, false_from_ne_true}
use Rattle.std.proofs.lemmas.List.{get_or-drop}
use Rattle.std.proofs.Math.Bool.{and-false}
use Rattle.zp_model.specs.declared.migrate_type.MigrateType.{MigrateType}
use Rattle.zp_model.specs.declared.pageblock_type.PageblockType.{PageblockType}
use Rattle.zp_model.specs.declared.pageblock_type.PageblockType.TheVariants as of
use Rattle.zp_model.specs.Block.{has, head, IsBlock}
use Rattle.zp_model.specs.BlockSet.{Starts, cover}
use Rattle.zp_model.specs.Area.{Area, lists_count}
use Rattle.zp_model.specs.Frames.{Frames, restated, with_area}
use Rattle.zp_model.specs.PageblockType.{migrate_type, pageblock_type}
use Rattle.zp_model.specs.Rows.{list_at, stands_in, state_at}
use Rattle.zp_model.specs.Runs.{give_run, has_pages, leave_run, without_pages}
use Rattle.zp_model.specs.Take.{leave}
use Rattle.zp_model.proofs.Heads.{head_aligned, head_head, head_le, head_of, head_room, head_self, lt_head}
use Rattle.zp_model.proofs.LowestRun.{has_pages-from, has_pages-to}
use Rattle.zp_model.proofs.Pages.{In}
use Rattle.zp_model.proofs.RunGiven.{leave_block, leave_more, left_in_parts, listed}
use Rattle.zp_model.proofs.RunParts.{with_pages-to, without_pages-from, without_pages-to}
use Rattle.zp_laws.proofs.Areas.{free-give_run, free-leave, free-leave_run}
use Rattle.zp_laws.proofs.Counting.{has-without_any, in_run-yes}
use Rattle.zp_area.specs.Blocks.{Blocks, block_set}
use Rattle.zp_buddy.specs.Choices.{area_in, frames_in}
use Rattle.zp_buddy.specs.Parts.{IsGivenBack, IsLeftBetween, IsLeftRun, MayComeBefore, MayComeBehind}
use Rattle.zp_buddy.specs.Runs.{AreClear}
use Rattle.zp_buddy.specs.Sound.{IsSound}
use Rattle.zp_buddy.proofs.ClippedBlocks.{left_clipped}
use Rattle.zp_buddy.proofs.Runs.{sound_listed}
use Rattle.zp_buddy.proofs.Settled.{IsRestated, length-pages, restated_all, restated_same, starts_block}
use Rattle.zp_buddy.proofs.SplitBlocks.{IsLeft}
use Rattle.zp_buddy.proofs.TakenTowards.{IsTakenTowards}

-- pages (x, n) of the run of order k around page x, which lies in the block of order o around it: the run leaves a, which is b then
module _ (a b : Blocks) (x n k o : ℕ) (s : IsSound a.largest a.rows.states a.kinds a.rows.lists) (st : Starts (block_set a) (head x o) o) (down : k ≤ o) (some : 0 < n)
    (within : x + n ≤ head x k + 2 ^ k) (largest : b.largest ≡ a.largest) (gone : IsTakenTowards a.largest a (head x k) k o b) where
  abbrev m : ℕ
  m = a.largest

  abbrev g : ℕ
  g = head x k

  left : IsLeft m g k a b
  left = gone.left

  -- the block in which the run lies
  abbrev f : ℕ
  f = head x o

  around : head g o ≡ f
  around = head_head x k o down

  room : g + 2 ^ k ≤ f + 2 ^ o
  room = omega (arith, around, head_room g k o down (head_aligned x k))

  from : f ≤ g
  from = omega (arith, around, head_le g o)

  block : IsBlock m (length a.rows.states) f o
  block = starts_block m a f o s st

  full : (i : ℕ) → g ≤ i → i < g + 2 ^ k → In (cover (block_set a)) i
  full i lo hi = s.normal.inside f o st i (omega (arith, from)) (omega (arith, room))

  pub sound_left : IsSound m b.rows.states b.kinds b.rows.lists
  sound_left = left.sound

  no_page : (i : ℕ) → g ≤ i → i < g + 2 ^ k → has (cover (block_set b)) i ≡ false
  no_page i lo hi =
      ap (λ (f : Frames). has f.area.free i) left.after
      ∙ ap (λ u. has u i) (free-leave (area_in m a) g k)
      ∙ has-without_any (cover (block_set a)) g k i
      ∙ rw (in_run-yes g k i lo hi) (and-false _)

  no_side : (r i : ℕ) → g ≤ i → i < g + 2 ^ k → stands_in i (list_at (frames_in m b).sides r) ≡ false
  no_side r i lo hi = rw (ap (λ (f : Frames). f.sides) left.after) (false_from_ne_true _ (λ on.
      s.aside (lists_count m + r) i (omega arith) (rw (get_or-drop (lists_count m) a.rows.lists r []) at on) (full i lo hi)))

  now_clear : (h l : ℕ) → g ≤ h → h + l ≤ g + 2 ^ k → AreClear (frames_in m b) h l
  now_clear h l lo hi = record {
    inside = omega (arith, length-pages b.rows.states, left.pages, block.inside, room);
    free = λ i p q. no_page i (omega arith) (omega arith);
    aside = λ r i p q. no_side r i (omega arith) (omega arith);
  }

  pub may_before : MayComeBefore b g x
  may_before = record {
    clear = subst (λ q. AreClear (frames_in q b) g (x - g)) (sym largest) (now_clear g (x - g) (omega arith) (omega (arith, head_le x k, lt_head x k)));
    order = k;
    within = omega (arith, block.order, largest);
    from = refl;
    taken = no_page x (head_le x k) (lt_head x k);
  }

  module _ (c : Blocks) (back : IsGivenBack b c g (x - g)) where
    low : c.largest ≡ m
    low = back.largest ∙ largest

    area_back : area_in m c ≡ give_run (area_in m b) g (x - g)
    area_back = subst (λ q. area_in q c ≡ give_run (area_in q b) g (x - g)) largest back.area

    sides_back : (frames_in m c).sides ≡ (frames_in m b).sides
    sides_back = subst (λ q. (frames_in q c).sides ≡ (frames_in q b).sides) largest back.sides

    still_out : (i : ℕ) → x ≤ i → i < g + 2 ^ k → has (cover (block_set c)) i ≡ false
    still_out i lo hi = false_from_ne_true (has (cover (block_set c)) i) (λ e.
        elim (with_pages-to (cover (block_set b)) g (x - g) i (rw (ap (λ (r : Area). r.free) area_back ∙ free-give_run (area_in m b) g (x - g)) at e)) [
          | inl old ↦ both_ways (has (cover (block_set b)) i) (no_page i (omega (arith, head_le x k)) hi) old
          | inr new ↦ absurd (omega (arith, new.1, head_le x k))
        ])

    pub may_behind : MayComeBehind c (x + n) (g + 2 ^ k)
    may_behind = record {
      clear = subst (λ q. AreClear (frames_in q c) (x + n) (g + 2 ^ k - (x + n))) (sym low) (record {
        inside = omega (arith, length-pages c.rows.states, back.pages, left.pages, block.inside, room);
        free = λ i p q. still_out i (omega arith) (omega arith);
        aside = λ r i p q. rw sides_back (no_side r i (omega (arith, head_le x k)) (omega arith));
      });
      last = x + n - 1;
      next = omega arith;
      order = k;
      within = omega (arith, block.order, low);
      to = let same : head (x + n - 1) k ≡ g = head_of g (x + n - 1) k (head_aligned x k) (omega (arith, head_le x k)) (omega arith) in omega (arith, same);
      taken = still_out (x + n - 1) (omega arith) (omega arith);
    }

    module _ (d : Blocks) (behind : IsGivenBack c d (x + n) (g + 2 ^ k - (x + n))) where
      abbrev rest : ℕ
      rest = g + 2 ^ k - (x + n)

      area : area_in m d ≡ leave_run (area_in m a) x n
      area =
          subst (λ q. area_in q d ≡ give_run (area_in q c) (x + n) rest) low behind.area
          ∙ ap (λ (r : Area). give_run r (x + n) rest) area_back
          ∙ ap (λ (f : Frames). give_run (give_run f.area g (x - g)) (x + n) rest) left.after
          ∙ left_clipped (area_in m a) g k x n (listed (area_in m a) (sound_listed m a s)) (omega (arith, block.order)) (head_aligned x k) full (head_le x k) some within

      -- what is noted of a page
      noted_first : (i : ℕ) → IsRestated (state_at a.rows.states i) (state_at c.rows.states i)
      noted_first i = elim (back.noted i) [ inl old ↦ rw old (gone.restates i) | inr new ↦ rw new.3 refl ]

      noted_last : (i : ℕ) → IsRestated (state_at a.rows.states i) (state_at d.rows.states i)
      noted_last i = elim (behind.noted i) [ inl old ↦ rw old (noted_first i) | inr new ↦ rw new.3 refl ]

      same_outside : (i : ℕ) → (i < f) ⊎ (f + 2 ^ o ≤ i) → state_at d.rows.states i ≡ state_at a.rows.states i
      same_outside i out =
          let off : (g ≤ i → i < g + 2 ^ k → ⊥) = λ p q. elim out [ inl lo ↦ omega (arith, from) | inr hi ↦ omega (arith, room) ] in
          elim (behind.noted i) [
            | inr new ↦ absurd (off (omega (arith, new.0, head_le x k)) (omega (arith, new.1)))
            | inl last ↦ elim (back.noted i) [
              | inr new ↦ absurd (off (omega (arith, new.0)) (omega (arith, new.1, head_le x k)))
              | inl first ↦ last ∙ first ∙ gone.outside i (elim out [ inl lo ↦ inl (omega (arith, around)) | inr hi ↦ inr (omega (arith, around)) ])
            ]
          ]

      pub left_between : IsLeftBetween a d x n f (f + 2 ^ o)
      left_between = record {
        largest = behind.largest ∙ low;
        sound = subst (λ q. IsSound q d.rows.states d.kinds d.rows.lists) low behind.sound;
        pages = behind.pages ∙ back.pages ∙ left.pages;
        kinds = behind.kinds ∙ back.kinds ∙ left.kinds;
        area = area;
        sides = subst (λ q. (frames_in q d).sides ≡ (frames_in q c).sides) low behind.sides ∙ sides_back ∙ ap (λ (f : Frames). f.sides) left.after;
        noted = noted_last;
        outside = same_outside;
      }

-- an area that has been left so
pub left_run : (a y : Blocks) (h n b e : ℕ) → IsLeftBetween a y h n b e → IsLeftRun a y h n
left_run a y h n b e x =
    let m : ℕ = a.largest in
    let r : Area = leave_run (area_in m a) h n in
    let states : y.rows.states ≡ restated r.largest r.free a.rows.states =
    restated_all m a.rows.states y.rows.states x.sound.normal x.pages x.noted ∙ ap (λ (q : Area). restated q.largest q.free a.rows.states) x.area in
    record {
      largest = x.largest;
      sound = x.sound;
      pages = x.pages;
      kinds = x.kinds;
      after = λ i. record { area = x.area i; states = states i; sides = x.sides i };
    }

-- from page h up to page n the pages of a have left, whose last is not free before h: where pages are to go, nothing else is noted of them
pub record IsTakingOn (a y : Blocks) (h e n : ℕ) : Type 0 where
  pub from : h ≤ n
  pub to : n ≤ e
  pub left : (z : ℕ) × IsLeftBetween a y h (n - h) h z
  pub ahead : n < e → (i : ℕ) → n ≤ i → state_at y.rows.states i ≡ state_at a.rows.states i

-- the pages of a that are taken, and the page before them is not free
pub record AreBehind (a : Blocks) (h e : ℕ) : Type 0 where
  pub some : 0 < h
  pub inside : e ≤ length a.rows.states
  pub full : has_pages (cover (block_set a)) h (e - h) ≡ true
  pub before : has (cover (block_set a)) (h - 1) ≡ false
  pub sound : IsSound a.largest a.rows.states a.kinds a.rows.lists

pub taking_begins : (a : Blocks) (h e : ℕ) → h ≤ e → AreBehind a h e → IsTakingOn a a h e h
taking_begins a h e le x =
    let none : h - h ≡ 0 = omega arith in
    record {
      from = omega arith;
      to = le;
      left = (
        h,
        record {
          largest = refl;
          sound = x.sound;
          pages = refl;
          kinds = refl;
          area = left_in_parts (area_in a.largest a) h [] (sound_listed a.largest a x.sound) ∙ ap (leave_run (area_in a.largest a) h) (sym none);
          sides = refl;
          noted = λ i. restated_same _;
          outside = λ i out. refl;
        },
      );
      ahead = λ lt i lo. refl;
    }

module _ {a y : Blocks} {h e n : ℕ} (x : AreBehind a h e) (t : IsTakingOn a y h e n) (more : n < e) where
  abbrev left_now : IsLeftBetween a y h (n - h) h t.left.0
  left_now = t.left.1

  free_now : cover (block_set y) ≡ without_pages (cover (block_set a)) h (n - h)
  free_now = ap (λ (r : Area). r.free) left_now.area ∙ free-leave_run (area_in a.largest a) h (n - h)

  -- the next page is free, and the one before it is not
  next_free : In (cover (block_set y)) n
  next_free =
      rw free_now (without_pages-from (cover (block_set a)) h (n - h) n (has_pages-to (cover (block_set a)) h (e - h) x.full n t.from (omega (arith, t.from))) (λ p q. omega (arith, t.from)))

  last_out : In (cover (block_set y)) (n - 1) → ⊥
  last_out w =
      let z = without_pages-to (cover (block_set a)) h (n - h) (n - 1) (rw free_now at w) in
      elim (cases_eq n h) [
        | inl same ↦ both_ways (has (cover (block_set a)) (h - 1)) x.before (rw same at z.0)
        | inr ne ↦ z.1 (omega (arith, t.from)) (omega (arith, t.from))
      ]

  -- so it heads a free block
  pub next_heads : (o : ℕ) × Starts (block_set y) n o
  next_heads =
      let c = left_now.sound.normal.covers n next_free in
      let lo = head_le n c.0 in
      elim (cases_eq (head n c.0) n) [
        | inl same ↦ (c.0, rw same at c.1)
        | inr ne ↦ absurd (last_out (left_now.sound.normal.inside (head n c.0) c.0 c.1 (n - 1) (omega (arith, lo)) (omega (arith, lt_head n c.0))))
      ]

  module _ (o : ℕ) (st : Starts (block_set y) n o) where
    pub next_sound : IsSound y.largest y.rows.states y.kinds y.rows.lists
    next_sound = subst (λ q. IsSound q y.rows.states y.kinds y.rows.lists) (sym left_now.largest) left_now.sound

    pub next_around : head n o ≡ n
    next_around = head_self n o (left_now.sound.normal.aligned n o st)

    -- the next pages leave
    pub taking_goes : (w : Blocks) (k : ℕ) → k ≡ min (2 ^ o) (e - n) → IsLeftBetween y w n k (head n o) (head n o + 2 ^ o) → IsTakingOn a w h e (n + k)
    taking_goes w k size z =
        let m : ℕ = a.largest in
        let all : n - h + k ≡ n + k - h = omega (arith, t.from) in
        let here : h + (n - h) ≡ n = omega (arith, t.from) in
        let area : area_in m w ≡ leave_run (area_in m a) h (n + k - h) =
        subst (λ q. area_in q w ≡ leave_run (area_in q y) n k) left_now.largest z.area
        ∙ ap (λ (r : Area). leave_run r n k) left_now.area
        ∙ ap (λ i. leave_run (leave_run (area_in m a) h (n - h)) i k) (sym here)
        ∙ leave_more (area_in m a) h (n - h) k (listed (area_in m a) (sound_listed m a x.sound))
        ∙ ap (leave_run (area_in m a) h) all in
        let same : (i : ℕ) → (i < n) ⊎ (n + 2 ^ o ≤ i) → state_at w.rows.states i ≡ state_at y.rows.states i = λ i out. z.outside i (rw next_around out) in
        record {
          from = omega (arith, t.from);
          to = omega (arith, size);
          left = (
            max t.left.0 (n + 2 ^ o),
            record {
              largest = z.largest ∙ left_now.largest;
              sound = subst (λ q. IsSound q w.rows.states w.kinds w.rows.lists) left_now.largest z.sound;
              pages = z.pages ∙ left_now.pages;
              kinds = z.kinds ∙ left_now.kinds;
              area = area;
              sides = subst (λ q. (frames_in q w).sides ≡ (frames_in q y).sides) left_now.largest z.sides ∙ left_now.sides;
              noted = λ i. elim (cases_lt i n) [
                | inl lo ↦ subst (λ q. IsRestated (state_at a.rows.states i) q) (sym (same i (inl lo))) (left_now.noted i)
                | inr hi ↦ subst (λ q. IsRestated q (state_at w.rows.states i)) (t.ahead more i hi) (z.noted i)
              ];
              outside = λ i out. elim out [
                | inl lo ↦ same i (inl (omega (arith, t.from))) ∙ left_now.outside i (inl lo)
                | inr hi ↦ same i (inr (omega arith)) ∙ left_now.outside i (inr (omega arith))
              ];
            },
          );
          ahead = λ lt i lo. same i (inr (omega (arith, size))) ∙ t.ahead more i (omega arith);
        }

-- where pages up to page z have left, those from there on leave
pub left_on : (a y w : Blocks) (h n k g z e : ℕ) → IsSound a.largest a.rows.states a.kinds a.rows.lists → g ≤ z → z ≡ h + n → IsLeftBetween a y h n g z → IsLeftBetween y w z k z e →
    IsLeftBetween a w h (n + k) g (max z e)
left_on a y w h n k g z e s from here p q =
    let m : ℕ = a.largest in
    record {
      largest = q.largest ∙ p.largest;
      sound = subst (λ r. IsSound r w.rows.states w.kinds w.rows.lists) p.largest q.sound;
      pages = q.pages ∙ p.pages;
      kinds = q.kinds ∙ p.kinds;
      area =
          subst (λ r. area_in r w ≡ leave_run (area_in r y) z k) p.largest q.area
          ∙ ap (λ (r : Area). leave_run r z k) p.area
          ∙ ap (λ i. leave_run (leave_run (area_in m a) h n) i k) here
          ∙ leave_more (area_in m a) h n k (listed (area_in m a) (sound_listed m a s));
      sides = subst (λ r. (frames_in r w).sides ≡ (frames_in r y).sides) p.largest q.sides ∙ p.sides;
      noted = λ i. elim (cases_lt i z) [
        | inl lo ↦ subst (λ r. IsRestated (state_at a.rows.states i) r) (sym (q.outside i (inl lo))) (p.noted i)
        | inr hi ↦ subst (λ r. IsRestated r (state_at w.rows.states i)) (p.outside i (inr hi)) (q.noted i)
      ];
      outside = λ i out. elim out [
        | inl lo ↦ q.outside i (inl (omega arith)) ∙ p.outside i (inl lo)
        | inr hi ↦ q.outside i (inr (omega arith)) ∙ p.outside i (inr (omega arith))
      ];
    }

-- the pages that have left are not free, and those behind them stay as they were
module _ (a y : Blocks) (h n g z : ℕ) (x : IsLeftBetween a y h n g z) where
  free_after : cover (block_set y) ≡ without_pages (cover (block_set a)) h n
  free_after = ap (λ (r : Area). r.free) x.area ∙ free-leave_run (area_in a.largest a) h n

  pub none_left : (i : ℕ) → h ≤ i → i < h + n → has (cover (block_set y)) i ≡ false
  none_left i lo hi = false_from_ne_true _ (λ w. (without_pages-to (cover (block_set a)) h n i (rw free_after at w)).1 lo hi)

  pub free_behind : (e k : ℕ) → h + n ≤ e → has_pages (cover (block_set a)) e k ≡ true → has_pages (cover (block_set y)) e k ≡ true
  free_behind e k le full = has_pages-from (cover (block_set y)) e k (λ i lo hi.
      rw free_after (without_pages-from (cover (block_set a)) h n i (has_pages-to (cover (block_set a)) e k full i lo hi) (λ p q. omega arith)))

-- a run of which the pages before page z are free is free where those from there on are
module _ (u : List Bool) (h n z k : ℕ) (from : h ≤ z) (size : z + k ≡ h + n) where
  pub both_free : ((i : ℕ) → h ≤ i → i < z → In u i) → has_pages u z k ≡ true → has_pages u h n ≡ true
  both_free first full = has_pages-from u h n (λ i lo hi. elim (cases_lt i z) [ inl near ↦ first i lo near | inr far ↦ has_pages-to u z k full i far (omega arith) ])

  pub behind_free : has_pages u h n ≡ true → has_pages u z k ≡ true
  behind_free full = has_pages-from u z k (λ i lo hi. has_pages-to u h n full i (omega arith) (omega arith))

-- a low part of a free block that has left is a run
pub low_left : (a y : Blocks) (h k n : ℕ) → 2 ^ k ≡ n → y.largest ≡ a.largest → IsLeft a.largest h k a y → IsLeftRun a y h n
low_left a y h k n size largest x = record {
  largest = largest;
  sound = x.sound;
  pages = x.pages;
  kinds = x.kinds;
  after = x.after ∙ ap (with_area (frames_in a.largest a)) (leave_block (area_in a.largest a) h k ∙ ap (leave_run (area_in a.largest a) h) size);
}

-- and pages that have left so, as many as a block has, are a low part
pub left_low : (a y : Blocks) (h k n b e : ℕ) → 2 ^ k ≡ n → IsLeftBetween a y h n b e → frames_in a.largest y ≡ with_area (frames_in a.largest a) (leave (area_in a.largest a) h k)
left_low a y h k n b e size x =
    (left_run a y h n b e x).after ∙ ap (with_area (frames_in a.largest a)) (sym (leave_block (area_in a.largest a) h k ∙ ap (leave_run (area_in a.largest a) h) size))

-- the type of a pageblock whose migrate type it is
pub type_from : (k : PageblockType) (t : MigrateType) → migrate_type k ≡ Some t → pageblock_type t ≡ k
type_from of.Unmovable t e = grind arith
type_from of.Reclaimable t e = grind arith
type_from of.Movable t e = grind arith
type_from of.Isolate t e = absurd cc
