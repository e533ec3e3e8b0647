-- The blocks outside isolated pageblocks, with one block more or less, split, joined, and of another type.
use Rattle.std.proofs.Common.{ℕ, zero, suc, ◌+◌, ◌-◌, ◌/◌, ◌≡◌, ◌≤◌, ◌<◌, inl, inr, refl, sym, ◌∙◌, ap, arith, Bool, true, false, cond, List, length, get_or, set, get_or-set_same, get_or-set_other, length-set, Option, None, Some}
use Rattle.std.specs.List.{slice_index_or}
use Rattle.std.proofs.lemmas.Bool.{cases_eq, cases_Bool, false≢true}
use Rattle.zp_model.specs.declared.pageblock_type.PageblockType.{PageblockType}
use Rattle.zp_model.specs.declared.pageblock_type.PageblockType.TheVariants.{Movable}
use Rattle.zp_model.specs.PageblockType.{is_isolate}
use Rattle.zp_model.specs.Block.{IsBlock, head}
use Rattle.zp_model.specs.BlockSet.{Starts}
use Rattle.zp_model.specs.Area.{available_blocks, is_isolated, kind_at, pageblock_pages}
use Rattle.zp_model.proofs.Heads.{number_around}
use Rattle.zp_tree.specs.Blocks.{HasBuddies, IsApart, IsBlockSet, buddy, joined_set, split_set, with_block, without_block, without_buddies}
use Rattle.zp_tree.proofs.BuddyPlaces.{buddy_around, head_around}
use Rattle.zp_area.proofs.Parts.{part, part-at, part-length, part-to, part-from, part_blocks, part_apart, part-with, part-without, part-split, part-joined, part_outs, part_same}

module _ (m : ℕ) (kinds : List PageblockType) where
  pub available_part : (s : List (Option ℕ)) → available_blocks m kinds s ≡ part (is_isolated m kinds) s
  unfolding available_blocks
  available_part s = refl

  pub available-at : (s : List (Option ℕ)) (h : ℕ) → get_or (available_blocks m kinds s) h None ≡ cond (is_isolated m kinds h) None (get_or s h None)
  available-at s h = rw (available_part s) (part-at (is_isolated m kinds) s h)

  pub available-length : (s : List (Option ℕ)) → length (available_blocks m kinds s) ≡ length s
  available-length s = rw (available_part s) (part-length (is_isolated m kinds) s)

  pub available-to : (s : List (Option ℕ)) (h k : ℕ) → Starts (available_blocks m kinds s) h k → Starts s h k × (is_isolated m kinds h ≡ false)
  available-to s h k st = part-to (is_isolated m kinds) s h k (rw (available_part s) at st)

  pub available-from : (s : List (Option ℕ)) (h k : ℕ) → Starts s h k → is_isolated m kinds h ≡ false → Starts (available_blocks m kinds s) h k
  available-from s h k st e = rw (available_part s) (part-from (is_isolated m kinds) s h k st e)

  pub available_set : (s : List (Option ℕ)) → IsBlockSet m s → IsBlockSet m (available_blocks m kinds s)
  available_set s x = rw (available_part s) (part_blocks m (is_isolated m kinds) s x)

  pub available_apart : (s : List (Option ℕ)) (h k : ℕ) → IsApart s h k → IsApart (available_blocks m kinds s) h k
  available_apart s h k a = rw (available_part s) (part_apart (is_isolated m kinds) s h k a)

  -- a page of the pageblock of a page whose pageblock has this type
  pub isolated_there : (h i : ℕ) (b : Bool) → i / pageblock_pages m ≡ h / pageblock_pages m → is_isolated m kinds h ≡ b → is_isolated m kinds i ≡ b
  isolated_there h i b e f = ap (λ q. is_isolate (slice_index_or kinds q Movable)) e ∙ f

  -- what changes in an isolated pageblock alone
  pub available_same : (s z : List (Option ℕ)) → length z ≡ length s → ((h : ℕ) → is_isolated m kinds h ≡ false → get_or z h None ≡ get_or s h None) →
      available_blocks m kinds z ≡ available_blocks m kinds s
  available_same s z len f =
      rw (available_part s, available_part z) (part_same (is_isolated m kinds) (is_isolated m kinds) z s (sym len) (λ h lt. elim (cases_Bool (is_isolated m kinds h)) [
        | inl is ↦ rw is refl
        | inr not ↦ rw not (f h not)
      ]))

  -- a block that comes
  pub available-with : (s : List (Option ℕ)) (h k : ℕ) → is_isolated m kinds h ≡ false → available_blocks m kinds (with_block s h k) ≡ with_block (available_blocks m kinds s) h k
  available-with s h k e = rw (available_part s, available_part (with_block s h k)) (part-with (is_isolated m kinds) s h k e)

  -- a block that goes
  pub available-without : (s : List (Option ℕ)) (h : ℕ) → available_blocks m kinds (without_block s h) ≡ without_block (available_blocks m kinds s) h
  available-without s h = rw (available_part s, available_part (without_block s h)) (part-without (is_isolated m kinds) s h)

  -- a block that is split
  pub available-split : (s : List (Option ℕ)) (h o k : ℕ) → k ≤ o → IsBlock m (length s) h o → is_isolated m kinds h ≡ false →
      available_blocks m kinds (split_set s h o k) ≡ split_set (available_blocks m kinds s) h o k
  available-split s h o k le block e =
      rw (available_part s, available_part (split_set s h o k)) (part-split (is_isolated m kinds) s h o k le
      (λ i lo hi. isolated_there h i false (number_around h i o m block.order block.aligned lo hi) e))

  -- a block that joins with its buddies
  pub available-joined : (s : List (Option ℕ)) (h k o : ℕ) → o ≤ m → is_isolated m kinds h ≡ false →
      available_blocks m kinds (joined_set s h k o) ≡ joined_set (available_blocks m kinds s) h k o
  available-joined s h k o le e =
      rw (available_part s, available_part (joined_set s h k o)) (part-joined (is_isolated m kinds) s h k o (isolated_there h (head h o) false (head_around h o m le) e))

  pub available_buddies : (s : List (Option ℕ)) (h k o : ℕ) → o ≤ m → is_isolated m kinds h ≡ false → HasBuddies s h k o → HasBuddies (available_blocks m kinds s) h k o
  available_buddies s h k o le e x j from to =
      available-from s (buddy h j) j (x j from to) (isolated_there h (buddy h j) false (buddy_around h j m (omega arith)) e)

  -- a block that comes to a pageblock of this type, in the words of the code
  pub told_with : (s : List (Option ℕ)) (h k : ℕ) (t : PageblockType) → t ≡ kind_at m kinds h → h < length s →
      cond (is_isolate t) (available_blocks m kinds s) (with_block (available_blocks m kinds s) h k) ≡ available_blocks m kinds (with_block s h k)
  told_with s h k t e lt = elim (cases_Bool (is_isolate t)) [
    | inl is ↦ rw is (sym (available_same s (with_block s h k) (length-set s h (Some k)) (λ g shown.
        get_or-set_other s h g (Some k) None (λ same. false≢true (sym shown ∙ ap (is_isolated m kinds) same ∙ ap is_isolate (sym e) ∙ is)))))
    | inr not ↦ rw not (sym (available-with s h k (ap is_isolate (sym e) ∙ not)))
  ]

  -- buddies of an isolated pageblock go unseen
  isolated_buddies : (s : List (Option ℕ)) (h k d : ℕ) → k + d ≤ m → is_isolated m kinds h ≡ true → available_blocks m kinds (without_buddies s h k d) ≡ available_blocks m kinds s
  isolated_buddies s h k zero le e = refl
  isolated_buddies s h k (suc d) le e =
      let z : List (Option ℕ) = without_buddies s h k d in
      available_same z (without_block z (buddy h (k + d))) (length-set z (buddy h (k + d)) None)
      (λ g shown. get_or-set_other z (buddy h (k + d)) g None None (λ same.
      false≢true (sym shown ∙ ap (is_isolated m kinds) same ∙ isolated_there h (buddy h (k + d)) true (buddy_around h (k + d) m (omega arith)) e)))
      ∙ isolated_buddies s h k d (omega arith) e

  pub told_joined : (s : List (Option ℕ)) (h k o : ℕ) (t : PageblockType) → t ≡ kind_at m kinds h → o ≤ m → k ≤ o → HasBuddies s h k o →
      cond (is_isolate t) (available_blocks m kinds s) (joined_set (available_blocks m kinds s) h k o) ≡ available_blocks m kinds (joined_set s h k o)
  told_joined s h k o t e le up x = elim (cases_Bool (is_isolate t)) [
    | inl is ↦
        let here : is_isolated m kinds h ≡ true = ap is_isolate (sym e) ∙ is in
        let z : List (Option ℕ) = without_buddies s h k (o - k) in
        rw is (sym (available_same z (with_block z (head h o) o) (length-set z (head h o) (Some o))
        (λ g shown. get_or-set_other z (head h o) g (Some o) None (λ same.
        false≢true (sym shown ∙ ap (is_isolated m kinds) same ∙ isolated_there h (head h o) true (head_around h o m le) here)))
        ∙ isolated_buddies s h k (o - k) (omega arith) here))
    | inr not ↦ rw not (sym (available-joined s h k o le (ap is_isolate (sym e) ∙ not)))
  ]

-- a type that is isolated as the old one was, or is not as that was not, leaves the same blocks outside
pub available_turned : (m b : ℕ) (kinds : List PageblockType) (t : PageblockType) (s : List (Option ℕ)) → b < length kinds →
    is_isolate (slice_index_or kinds b Movable) ≡ is_isolate t → available_blocks m kinds s ≡ available_blocks m (set kinds b t) s
available_turned m b kinds t s lt e =
    rw (available_part m kinds s, available_part m (set kinds b t) s) (part_outs (is_isolated m kinds) (is_isolated m (set kinds b t)) s (λ h k st.
    elim (cases_eq (h / pageblock_pages m) b) [
      | inl same ↦ ap (λ q. is_isolate (slice_index_or kinds q Movable)) same ∙ e ∙ ap is_isolate (sym (get_or-set_same kinds b t Movable lt)) ∙ ap (λ q. is_isolate (slice_index_or (set kinds b t) q Movable)) (sym same)
      | inr ne ↦ ap is_isolate (sym (get_or-set_other kinds b (h / pageblock_pages m) t Movable ne))
    ]))
