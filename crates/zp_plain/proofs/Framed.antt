-- Notes that are restated say what is free, and frames stay framed; which blocks are clear, before and after.
use Rattle.std.proofs.Common.{ℕ, ◌+◌, ◌≡◌, ◌≤◌, ◌<◌, ◌↔◌, refl, sym, ◌∙◌, ap, arith, inl, inr, Bool, true, false, List, length, get_or, Option, Some, None, ◌^◌, set, get_or-set_same, get_or-set_other, length-set}
use Rattle.std.proofs.lemmas.Nat.{pow_pos}
use Rattle.std.proofs.lemmas.Bool.{cases_lt, false_from_ne_true, both_ways, cases_eq}
use Rattle.std.proofs.lemmas.List.{get_or_past}
use Rattle.std.proofs.lemmas.List.FromFn.{fill_by_all}
use Rattle.zp_model.specs.declared.pageblock_type.PageblockType.{PageblockType}
use Rattle.zp_model.specs.declared.state.State.{State}
use Rattle.zp_model.specs.declared.state.State.TheVariants.{Tail, Free}
use Rattle.zp_model.specs.Block.{has, is_max, without, with_run}
use Rattle.zp_model.specs.BlockSet.{max_blocks}
use Rattle.zp_model.specs.Rows.{state_at, list_at, stands_in}
use Rattle.zp_model.specs.Area.{Area, pageblocks_of}
use Rattle.zp_model.specs.Frames.{Frames, IsFramed, restate, restated, with_area, IsClear, given, IsNote}
use Rattle.zp_model.proofs.Covers.{has_below, length-without, without-decides, length-with, with-decides}
use Rattle.zp_laws.proofs.Choosing.{max_blocks-to, found_block, found_free}
use Rattle.zp_model.proofs.MaximalBlocks.{length-restated, max_block_some, max_has, state-restated}
use Rattle.zp_model.specs.Take.{give, retype}
use Rattle.zp_laws.specs.Found.{IsFound}
use Rattle.zp_model.specs.Runs.{give_run, leave_run}
use Rattle.zp_model.proofs.RunParts.{length-with_pages, length-without_pages, with_pages-to, without_pages-to}
use Rattle.zp_laws.proofs.Areas.{free-give, kinds-give, largest-give, free-give_run, kinds-give_run, largest-give_run, free-leave_run, kinds-leave_run, largest-leave_run, free-retype, kinds-retype, largest-retype}
use Rattle.zp_plain.specs.Clear.{IsClearRun}

restate_free : (o : Option ℕ) (s : State) (k : ℕ) → restate o s ≡ Free k → o ≡ Some k
restate_free (Some j) s k e = let d : Free j ≡ Free k = e in cc
restate_free None Tail k e = cc
restate_free None s k e = cc

-- notes that are restated by an area's marks are those of the frames with that area
pub written : (a b : Area) (m : ℕ) (u : List Bool) (ss es : List State) (xs : List (List ℕ)) → es ≡ restated m u ss → u ≡ a.free → a.largest ≡ m → a ≡ b →
    (let f : Frames = record { area = a; states = es; sides = xs } in f) ≡ with_area (record { area = b; states = ss; sides = xs }) b
written a b m u ss es xs e f l g = rw (e, f, ← l, g) refl

-- the frames with an area of the same pages and pageblocks, no further page of which is free
pub framed_with : (f : Frames) (a : Area) → length a.free ≡ length f.states → length a.kinds ≡ pageblocks_of a.largest (length f.states) →
    ((r p : ℕ) → stands_in p (list_at f.sides r) ≡ true → has a.free p ≡ false) → IsFramed (with_area f a)
framed_with f a n t b =
    let len = length-restated a.largest a.free f.states in
    record {
      pages = n ∙ sym len;
      typed = rw len t;
      noted = λ g k. (
        λ e. elim (cases_lt g (length f.states)) [
          | inl lt ↦ max_blocks-to a.largest a.free g k (restate_free _ _ k (sym (state-restated a.largest a.free f.states g lt) ∙ e))
          | inr ge ↦ let past = get_or_past (restated a.largest a.free f.states) g Tail (omega (arith, len)) in absurd cc
        ],
        λ e.
            let lt = has_below a.free g (max_has a.largest a.free g k e) in
            state-restated a.largest a.free f.states g (omega arith) ∙ ap (λ o. restate o (state_at f.states g)) (max_block_some a.largest a.free g k lt e),
      );
      beside = b;
    }

-- the note of a page that says what is free is restated as it is
pub block_noted : (m : ℕ) (u : List Bool) (g : ℕ) (s : State) → g < length u → ((k : ℕ) → (s ≡ Free k) ↔ (is_max m u g k ≡ true)) → s ≡ restate (get_or (max_blocks m u) g None) s
block_noted m u g s lt x = go s (get_or (max_blocks m u) g None) refl x
  where
    go : (s : State) (o : Option ℕ) → get_or (max_blocks m u) g None ≡ o → ((k : ℕ) → (s ≡ Free k) ↔ (is_max m u g k ≡ true)) → s ≡ restate o s
    go s (Some j) e x = (x j).1 (max_blocks-to m u g j e)
    go (Free k) None e x = let some = max_block_some m u g k lt ((x k).0 refl) in absurd cc
    go s None e x = refl

-- a page of the run is not in the set without it, and a page that was not in the set is not there either
gone : (u : List Bool) (h k i : ℕ) → h ≤ i → i < h + 2 ^ k → has (without u h k) i ≡ false
gone u h k i lo hi = false_from_ne_true _ (λ e. ((without-decides u h k i (omega (arith, has_below (without u h k) i e, length-without u h k))).0 e).1 lo hi)

absent : (u : List Bool) (h k i : ℕ) → has u i ≡ false → has (without u h k) i ≡ false
absent u h k i none = false_from_ne_true _ (λ e. both_ways _ none ((without-decides u h k i (omega (arith, has_below (without u h k) i e, length-without u h k))).0 e).0)

-- a free block that leaves is clear, where another area has all its pages but those
pub clear_left : (f : Frames) (a : Area) (h k : ℕ) → IsFramed f → IsFound f.area.largest f.area.free k h → a.largest ≡ f.area.largest →
    a.free ≡ without f.area.free h k → IsClear (with_area f a) h k
clear_left f a h k x found top free = record {
  block = rw (top, free, length-without) (found_block f.area.largest f.area.free k h found);
  free = λ i lo hi. rw free (gone f.area.free h k i lo hi);
  aside = λ r i lo hi. false_from_ne_true _ (λ on. both_ways _ (x.beside r i on) (found_free f.area.largest f.area.free k h found i lo hi));
}

-- and each block that was clear before still is
pub clear_kept : (f : Frames) (a : Area) (h k g j : ℕ) → a.largest ≡ f.area.largest → a.free ≡ without f.area.free h k → IsClear f g j → IsClear (with_area f a) g j
clear_kept f a h k g j top free x = record { block = rw (top, free, length-without) x.block; free = λ i lo hi. rw free (absent f.area.free h k i (x.free i lo hi)); aside = x.aside }

-- a clear block starts at a page of the zone that is not free
pub clear_head : (f : Frames) (h k : ℕ) → length f.area.free ≡ length f.states → IsClear f h k → (h < length f.states) × (has f.area.free h ≡ false)
clear_head f h k n x = (omega (arith, x.block.inside, pow_pos k), x.free h (omega arith) (omega (arith, pow_pos k)))

pub kept_given : (f : Frames) (h k : ℕ) → IsFramed f → IsClear f h k → IsFramed (given f h k)
kept_given f h k x y =
    let w : length (set f.states h Tail) ≡ length f.states = length-set f.states h Tail in
    framed_with (record f { states = set f.states h Tail }) (give f.area h k) (rw (free-give f.area h k, length-with, w) x.pages) (rw (kinds-give f.area h k, largest-give f.area h k, w) x.typed) (λ r p e.
    rw (free-give f.area h k) (false_from_ne_true _ (λ t. elim ((with-decides f.area.free h k p (omega (arith, has_below (with_run f.area.free h k) p t, length-with f.area.free h k))).0 t) [
      | inl old ↦ both_ways _ (x.beside r p e) old
      | inr run ↦ both_ways _ (y.aside r p run.0 run.1) e
    ])))

-- a block leaves, and another area has all the free pages but those
pub kept_left : (f : Frames) (a : Area) (h k : ℕ) → IsFramed f → a.largest ≡ f.area.largest → a.free ≡ without f.area.free h k →
    length a.kinds ≡ length f.area.kinds → IsFramed (with_area f a)
kept_left f a h k x top free kinds =
    framed_with f a (rw (free, length-without) x.pages) (rw (kinds, top) x.typed) (λ r p e. rw free (false_from_ne_true _ (λ t.
    both_ways _ (x.beside r p e) ((without-decides f.area.free h k p (omega (arith, has_below (without f.area.free h k) p t, length-without f.area.free h k))).0 t).0)))

-- a run of pages leaves, and one of clear pages comes
pub kept_left_run : (f : Frames) (h n : ℕ) → IsFramed f → IsFramed (with_area f (leave_run f.area h n))
kept_left_run f h n x =
    framed_with f (leave_run f.area h n) (rw (free-leave_run f.area h n, length-without_pages) x.pages) (rw (kinds-leave_run f.area h n, largest-leave_run f.area h n) x.typed)
    (λ r p e. rw (free-leave_run f.area h n) (false_from_ne_true _ (λ t. both_ways _ (x.beside r p e) (without_pages-to f.area.free h n p t).0)))

pub kept_given_run : (f : Frames) (h n : ℕ) → IsFramed f → IsClearRun f.area.free f.sides h n → IsFramed (with_area f (give_run f.area h n))
kept_given_run f h n x clear =
    framed_with f (give_run f.area h n) (rw (free-give_run f.area h n, length-with_pages) x.pages) (rw (kinds-give_run f.area h n, largest-give_run f.area h n) x.typed) (λ r p e.
    rw (free-give_run f.area h n) (false_from_ne_true _ (λ t. elim (with_pages-to f.area.free h n p t) [
      | inl old ↦ both_ways _ (x.beside r p e) old
      | inr run ↦ both_ways _ ((clear p run.0 run.1).1 r) e
    ])))

-- a pageblock gets another type
pub kept_retyped : (f : Frames) (b : ℕ) (t : PageblockType) → IsFramed f → IsFramed (with_area f (retype f.area b t))
kept_retyped f b t x =
    framed_with f (retype f.area b t) (rw (free-retype f.area b t) x.pages)
    (rw (largest-retype f.area b t) (ap length (kinds-retype f.area b t) ∙ length-set f.area.kinds b t ∙ x.typed)) (λ r p e. rw (free-retype f.area b t) (x.beside r p e))

-- frames g are frames f without the free block of order k at h, which is clear now, as each block is that was
pub record IsWithout (f g : Frames) (h k : ℕ) : Type 0 where
  pub framed : IsFramed g
  pub clear : IsClear g h k
  pub kept : (i j : ℕ) → IsClear f i j → IsClear g i j
  pub head : (h < length g.states) × (has g.area.free h ≡ false)

pub left_without : (f g : Frames) (a : Area) (h k : ℕ) → IsFramed f → IsFound f.area.largest f.area.free k h → a.largest ≡ f.area.largest → a.free ≡ without f.area.free h k →
    length a.kinds ≡ length f.area.kinds → g ≡ with_area f a → IsWithout f g h k
left_without f g a h k x found top free kinds e =
    let framed = kept_left f a h k x top free kinds in
    let clear = clear_left f a h k x found top free in
    rw e (record { framed = framed; clear = clear; kept = λ i j. clear_kept f a h k i j top free; head = clear_head (with_area f a) h k framed.pages clear })

-- frames whose notes say what is free are restated as they are
pub restated_same : (f : Frames) → IsFramed f → f ≡ with_area f f.area
unfolding restated
restated_same f x =
    let e : f.states ≡ restated f.area.largest f.area.free f.states =
    fill_by_all (λ h. restate (get_or (max_blocks f.area.largest f.area.free) h None) (state_at f.states h)) f.states (length f.states) Tail refl
    (λ g lt. block_noted f.area.largest f.area.free g (state_at f.states g) (omega (arith, x.pages)) (λ k. x.noted g k)) in
    ap (λ (q : List State). let y : Frames = record f { states = q } in y) e

-- a note of a page that is not free
pub kept_held : (f : Frames) (h : ℕ) (s : State) → IsFramed f → h < length f.states → has f.area.free h ≡ false → IsNote s → IsFramed (record f { states = set f.states h s })
kept_held f h s x lt u note =
    let w : length (set f.states h s) ≡ length f.states = length-set f.states h s in
    record {
      pages = x.pages ∙ sym w;
      typed = rw w x.typed;
      noted = λ g k. elim (cases_eq g h) [
        | inl same ↦ rw (same, get_or-set_same f.states h s Tail lt) (λ e. absurd (not_free s k note e), λ m. absurd (both_ways _ u (max_has f.area.largest f.area.free h k m)))
        | inr ne ↦ rw (get_or-set_other f.states h g s Tail ne) (x.noted g k)
      ];
      beside = x.beside;
    }
  where
    not_free : (s : State) (k : ℕ) → IsNote s → s ≡ Free k → ⊥
    not_free (Free j) k note e = note
    not_free s k note e = cc
