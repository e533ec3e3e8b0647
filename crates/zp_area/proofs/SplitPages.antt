-- A block of which so many pages leave: what is left of it, part by part.
use Rattle.std.proofs.Common.{ℕ, suc, zero, ◌+◌, ◌-◌, ◌/◌, ◌%◌, ◌^◌, ◌≡◌, ◌≤◌, ◌<◌, ltb, true, false, inl, inr, refl, sym, ◌∙◌, ap, subst, arith, List, length, set, get_or, get_or-set_same, length-set, Option, None, Some}
use Rattle.std.specs.List.{slice_index}
use Rattle.std.proofs.Math.Nat.{add-mod_right, pow-le-pow_right}
use Rattle.std.proofs.lemmas.Nat.{pow_pos}
use Rattle.std.proofs.lemmas.List.{map-set, set-get_or, set-set}
use Rattle.std.proofs.lemmas.Bool.{cases_lt}
use Rattle.std.proofs.lemmas.Bool.Decides.{nat_tests}
use Rattle.zp_model.specs.declared.pageblock_type.PageblockType.{PageblockType}
use Rattle.zp_model.specs.declared.state.State.TheVariants.{Tail}
use Rattle.zp_model.specs.PageblockType.{is_isolate}
use Rattle.zp_model.specs.Block.{IsBlock}
use Rattle.zp_model.specs.BlockSet.{Starts}
use Rattle.zp_model.specs.Area.{available_blocks, is_isolated, kind_at, pageblock_pages}
use Rattle.zp_model.proofs.Heads.{two, aligned_down, number_around}
use Rattle.zp_tree.specs.Blocks.{high_halves, split_set, with_block, without_block}
use Rattle.zp_area.specs.Available.{choosable}
use Rattle.zp_area.specs.NotedBlocks.{free_order}
use Rattle.zp_area.specs.Blocks.{Blocks, block_set, added, removed}
use Rattle.zp_area.specs.Chains.{halves_added, pages_split_off, rest_added}
use Rattle.zp_area.specs.OneSet.{IsKept, IsOneSet}
use Rattle.zp_area.proofs.Adding.{IsComing, added_set, coming_new, kept_added}
use Rattle.zp_area.proofs.Halves.{halves_coming, high_coming, high_kind, high_number, kinds-halves, low_coming}
use Rattle.zp_area.proofs.AvailableBlocks.{available-from, available-split}
use Rattle.zp_area.proofs.Keeping.{blocks_length}
use Rattle.zp_area.proofs.OneBlock.{head_below, new_none, with-here}
use Rattle.zp_area.proofs.OnePageblock.{changed_added, changed_again, changed_not, changed_removed}
use Rattle.zp_area.proofs.Removing.{clear_removed, kept_removed, one_removed}
use Rattle.zp_area.proofs.Scattered.{IsChangedIn}
use Rattle.zp_area.proofs.Splitting.{halves_set}

-- of halves that are added the last one is the lowest
pub halves-last : (d m : ℕ) (a : Blocks) (h k : ℕ) → halves_added m a h k (suc d) ≡ added m (halves_added m a h (k + 1) d) (h + 2 ^ k) k
halves-last zero m a h k = let here : k + 0 ≡ k = omega arith in ap (λ j. added m a (h + 2 ^ j) j) here
halves-last (suc d) m a h k =
    let up : k + suc d ≡ k + 1 + d = omega arith in
    halves-last d m (added m a (h + 2 ^ (k + suc d)) (k + suc d)) h k
    ∙ ap (λ j. added m (halves_added m (added m a (h + 2 ^ j) j) h (k + 1) d) (h + 2 ^ k) k) up

high_halves-last : (d : ℕ) (s : List (Option ℕ)) (h k : ℕ) → high_halves s h k (suc d) ≡ with_block (high_halves s h (k + 1) d) (h + 2 ^ k) k
high_halves-last zero s h k = let here : k + 0 ≡ k = omega arith in ap (λ j. with_block s (h + 2 ^ j) j) here
high_halves-last (suc d) s h k =
    let up : k + suc d ≡ k + 1 + d = omega arith in
    high_halves-last d (with_block s (h + 2 ^ (k + suc d)) (k + suc d)) h k
    ∙ ap (λ j. with_block (high_halves (with_block s (h + 2 ^ j) j) h (k + 1) d) (h + 2 ^ k) k) up

-- what is left of a block that no page leaves, and of one that all of them leave
pub rest_none : (m : ℕ) (a : Blocks) (h o : ℕ) → rest_added m a h o 0 ≡ added m a h o
rest_none m a h zero = refl
rest_none m a h (suc o) = refl

-- pages that leave the low half alone, and ones with which it leaves whole
pub rest_low : (m : ℕ) (a : Blocks) (h o n : ℕ) → 0 < n → n < 2 ^ o → rest_added m a h (suc o) n ≡ rest_added m (added m a (h + 2 ^ o) o) h o n
rest_low m a h o zero some lt = absurd (omega arith)
rest_low m a h o (suc n) some lt =
    let test : ltb (suc n) (2 ^ o) ≡ true = grind (arith, nat_tests) in
    rw test refl

pub rest_high : (m : ℕ) (a : Blocks) (h o n : ℕ) → 2 ^ o ≤ n → rest_added m a h (suc o) n ≡ rest_added m a (h + 2 ^ o) o (n - 2 ^ o)
rest_high m a h o zero le = absurd (omega (arith, pow_pos o))
rest_high m a h o (suc n) le =
    let test : ltb (suc n) (2 ^ o) ≡ false = grind (arith, nat_tests) in
    rw test refl

pub rest_whole : (o m : ℕ) (a : Blocks) (h : ℕ) → rest_added m a h o (2 ^ o) ≡ a
rest_whole zero m a h = refl
rest_whole (suc o) m a h =
    let double : 2 ^ suc o ≡ 2 ^ o + 2 ^ o = omega arith in
    let rest : 2 ^ suc o - 2 ^ o ≡ 2 ^ o = omega arith in
    rest_high m a h o (2 ^ suc o) (omega arith) ∙ ap (rest_added m a (h + 2 ^ o) o) rest ∙ rest_whole o m a (h + 2 ^ o)

-- the greatest part of the pages leaves first: the halves above it come, and the other pages leave its high neighbour
rest_part_by : (d m : ℕ) (a : Blocks) (h k n : ℕ) → 2 ^ k ≤ n → n < 2 ^ (k + 1) →
    rest_added m a h (suc (k + d)) n ≡ rest_added m (halves_added m a h (k + 1) d) (h + 2 ^ k) k (n - 2 ^ k)
rest_part_by zero m a h k n le lt = let here : k + 0 ≡ k = omega arith in ap (λ j. rest_added m a h (suc j) n) here ∙ rest_high m a h k n le
rest_part_by (suc d) m a h k n le lt =
    let up : k + suc d ≡ suc (k + d) = omega arith in
    let top : suc (k + d) ≡ k + 1 + d = omega arith in
    let less : 2 ^ (k + 1) ≤ 2 ^ (k + suc d) = pow-le-pow_right (omega arith) (omega arith) in
    rest_low m a h (k + suc d) n (omega (arith, pow_pos k)) (omega arith)
    ∙ ap (λ j. rest_added m (added m a (h + 2 ^ j) j) h j n) up
    ∙ rest_part_by d m (added m a (h + 2 ^ suc (k + d)) (suc (k + d))) h k n le lt
    ∙ ap (λ j. rest_added m (halves_added m (added m a (h + 2 ^ j) j) h (k + 1) d) (h + 2 ^ k) k (n - 2 ^ k)) top

pub rest_part : (m : ℕ) (a : Blocks) (h o k n : ℕ) → k < o → 2 ^ k ≤ n → n < 2 ^ (k + 1) →
    rest_added m a h o n ≡ rest_added m (halves_added m a h (k + 1) (o - (k + 1))) (h + 2 ^ k) k (n - 2 ^ k)
rest_part m a h o k n below le lt =
    let all : o ≡ suc (k + (o - (k + 1))) = omega arith in
    ap (λ j. rest_added m a h j n) all ∙ rest_part_by (o - (k + 1)) m a h k n le lt

-- a block that has left the set may come
pub removed_coming : (m : ℕ) (a : Blocks) (h o : ℕ) → IsOneSet m a → Starts (block_set a) h o → IsComing m (removed m a h o) h o
removed_coming m a h o x st = record {
  one = one_removed m a h o x st;
  block = rw (length-set a.rows.states h Tail, ← blocks_length a.rows.states) (x.blocks.block h o st);
  clear = clear_removed m a h o x st;
}

-- the pages of what is left are counted
pub kept_rest : (o m : ℕ) (a : Blocks) (free_in : List ℕ) (h n : ℕ) → n ≤ 2 ^ o → IsComing m a h o → h / pageblock_pages m < length free_in → IsKept m a free_in →
    IsKept m (rest_added m a h o n) (set free_in (h / pageblock_pages m) (slice_index free_in (h / pageblock_pages m) + (2 ^ o - n)))
kept_rest zero m a free_in h zero le x lt y = (kept_added x free_in y).kept
kept_rest zero m a free_in h (suc n) le x lt y =
    let p : ℕ = h / pageblock_pages m in
    let same : slice_index free_in p + (1 - suc n) ≡ slice_index free_in p = omega arith in
    rw (same, set-get_or free_in p 0) y
kept_rest (suc o) m a free_in h zero le x lt y = let all : 2 ^ suc o - 0 ≡ 2 ^ suc o = omega arith in rw all (kept_added x free_in y).kept
kept_rest (suc o) m a free_in h (suc n) le x' lt y =
    let p : ℕ = h / pageblock_pages m in
    let v : ℕ = slice_index free_in (h / pageblock_pages m) in
    let up : suc o ≡ o + 1 = omega arith in
    let double : 2 ^ suc o ≡ 2 ^ o + 2 ^ o = omega arith in
    let x : IsComing m a h (o + 1) = rw up at x' in
    elim (cases_lt (suc n) (2 ^ o)) [
      | inl low ↦
          let was : List ℕ = set free_in p (v + 2 ^ o) in
          let z : IsKept m (added m a (h + 2 ^ o) o) was = subst (λ q. IsKept m (added m a (h + 2 ^ o) o) (set free_in q (slice_index free_in q + 2 ^ o))) (high_number o x) (kept_added (high_coming o x) free_in y).kept in
          let had : slice_index was p ≡ v + 2 ^ o = get_or-set_same free_in p (v + 2 ^ o) 0 lt in
          let count : slice_index was p + (2 ^ o - suc n) ≡ v + (2 ^ suc o - suc n) = omega (arith, had) in
          let there : p < length was = omega (arith, length-set free_in p (v + 2 ^ o)) in
          let w = kept_rest o m (added m a (h + 2 ^ o) o) was h (suc n) (omega arith) (low_coming o x) there z in
          rw (rest_low m a h o (suc n) (omega arith) low) (rw (count, set-set free_in p (v + 2 ^ o) (v + (2 ^ suc o - suc n))) at w)
      | inr high ↦
          let there : (h + 2 ^ o) / pageblock_pages m < length free_in = rw (high_number o x) lt in
          let count : 2 ^ o - (suc n - 2 ^ o) ≡ 2 ^ suc o - suc n = omega arith in
          let w = kept_rest o m a free_in (h + 2 ^ o) (suc n - 2 ^ o) (omega arith) (high_coming o x) there y in
          rw (rest_high m a h o (suc n) high) (rw (high_number o x, count) at w)
    ]

-- what is left lies in the block's pageblock
changed_rest : (o m b : ℕ) (a : Blocks) (h n : ℕ) → o ≤ m → h % 2 ^ o ≡ 0 → h / pageblock_pages m ≡ b → IsChangedIn m b a (rest_added m a h o n)
changed_rest zero m b a h zero le al e = changed_added m b a h zero e
changed_rest zero m b a h (suc n) le al e = changed_not m b a
changed_rest (suc o) m b a h zero le al e = changed_added m b a h (suc o) e
changed_rest (suc o) m b a h (suc n) le al e =
    let up : suc o ≡ o + 1 = omega arith in
    let aligned : h % 2 ^ (o + 1) ≡ 0 = rw (← up) al in
    let low_aligned : h % 2 ^ o ≡ 0 = aligned_down o (o + 1) h (omega arith) aligned in
    let half : (h + 2 ^ o) / pageblock_pages m ≡ h / pageblock_pages m = number_around h (h + 2 ^ o) (o + 1) m (omega arith) aligned (omega arith) (omega (arith, two o, pow_pos o)) in
    elim (cases_lt (suc n) (2 ^ o)) [
      | inl low ↦
          rw (rest_low m a h o (suc n) (omega arith) low)
          (changed_again m b a (added m a (h + 2 ^ o) o) (rest_added m (added m a (h + 2 ^ o) o) h o (suc n)) (changed_added m b a (h + 2 ^ o) o (half ∙ e))
          (changed_rest o m b (added m a (h + 2 ^ o) o) h (suc n) (omega arith) low_aligned e))
      | inr high ↦
          rw (rest_high m a h o (suc n) high)
          (changed_rest o m b a (h + 2 ^ o) (suc n - 2 ^ o) (omega arith) (add-mod_right h (2 ^ o) ∙ low_aligned) (half ∙ e))
    ]

pub changed_pages : (m b : ℕ) (a : Blocks) (h o n : ℕ) → IsOneSet m a → Starts (block_set a) h o → h / pageblock_pages m ≡ b → IsChangedIn m b a (pages_split_off m a h o n)
changed_pages m b a h o n x st e =
    let block = x.blocks.block h o st in
    changed_again m b a (removed m a h o) (pages_split_off m a h o n) (changed_removed m b a h o e) (changed_rest o m b (removed m a h o) h n block.order block.aligned e)

-- the tree has the block whose pages leave until all have left
pub no_block : (o : Option ℕ) → ((k : ℕ) → o ≡ Some k → ⊥) → o ≡ None
no_block None f = refl
no_block (Some k) f = absurd (f k refl)

pub told_first : (m : ℕ) (a : Blocks) (h o : ℕ) → Starts (block_set a) h o → with_block (block_set (removed m a h o)) h o ≡ block_set a
told_first m a h o st =
    let s : List (Option ℕ) = block_set a in
    ap (λ t. with_block t h o) (map-set free_order a.rows.states h Tail) ∙ set-set s h None (Some o) ∙ ap (set s h) (sym st) ∙ set-get_or s h None

module _ {m : ℕ} {a : Blocks} {h j : ℕ} (x : IsComing m a h j) (shown : is_isolated m a.kinds h ≡ false) where
  pub told_starts : Starts (available_blocks m a.kinds (with_block (block_set a) h j)) h j
  told_starts = available-from m a.kinds (with_block (block_set a) h j) h j (with-here (block_set a) h j (head_below m _ h j (coming_new x).block)) shown

  pub told_part : (k : ℕ) → k < j →
      split_set (available_blocks m a.kinds (with_block (block_set a) h j)) h j k ≡ available_blocks m a.kinds (with_block (block_set (halves_added m a h (k + 1) (j - (k + 1)))) (h + 2 ^ k) k)
  told_part k lt =
      let s : List (Option ℕ) = block_set a in
      let t : List (Option ℕ) = with_block s h j in
      let block : IsBlock m (length t) h j = rw (length-set s h (Some j)) (coming_new x).block in
      let none : get_or s h None ≡ None = no_block (get_or s h None) (new_none m s h j x.one.blocks (coming_new x)) in
      let back : without_block t h ≡ s = set-set s h (Some j) None ∙ ap (set s h) (sym none) ∙ set-get_or s h None in
      let steps : j - k ≡ suc (j - (k + 1)) = omega arith in
      sym (available-split m a.kinds t h j k (omega arith) block shown)
      ∙ ap (available_blocks m a.kinds) (ap (λ q. high_halves q h k (j - k)) back ∙ ap (high_halves s h k) steps ∙ high_halves-last (j - (k + 1)) s h k
      ∙ ap (λ q. with_block q (h + 2 ^ k) k) (sym (halves_set (j - (k + 1)) m a h (k + 1))))

-- so many pages of a block have left, and its pageblock has as many less
pub kept_pages : (m : ℕ) (a : Blocks) (free_in : List ℕ) (h o n : ℕ) → IsKept m a free_in → Starts (block_set a) h o → n ≤ 2 ^ o → h / pageblock_pages m < length free_in →
    (n ≤ slice_index free_in (h / pageblock_pages m)) × IsKept m (pages_split_off m a h o n) (set free_in (h / pageblock_pages m) (slice_index free_in (h / pageblock_pages m) - n))
kept_pages m a free_in h o n x st le lt =
    let p : ℕ = h / pageblock_pages m in
    let v : ℕ = slice_index free_in (h / pageblock_pages m) in
    let y = kept_removed m a h o x.one st free_in x in
    let was : List ℕ = set free_in p (v - 2 ^ o) in
    let had : slice_index was p ≡ v - 2 ^ o = get_or-set_same free_in p (v - 2 ^ o) 0 lt in
    let count : slice_index was p + (2 ^ o - n) ≡ v - n = omega (arith, had, y.most) in
    let there : p < length was = omega (arith, length-set free_in p (v - 2 ^ o)) in
    (omega (arith, y.most), rw (count, set-set free_in p (v - 2 ^ o) (v - n)) at (kept_rest o m (removed m a h o) was h n le (removed_coming m a h o x.one st) there y.kept))

-- the n lowest pages of the block (h, o) of a, in a pageblock of type t, leave in parts: those so far leave b, and (g, k), which is in no set but for the tree, is the block of
-- the next part, of which so many pages are still to leave
pub record IsParting (m : ℕ) (a b : Blocks) (tree : List (Option ℕ)) (t : PageblockType) (h o n g k left : ℕ) : Type 0 where
  pub coming : IsComing m b g k
  pub typed : t ≡ kind_at m b.kinds g
  pub less : left < 2 ^ k
  pub told : tree ≡ available_blocks m b.kinds (with_block (block_set b) g k)
  pub after : rest_added m b g k left ≡ pages_split_off m a h o n

pub parting_begins : (m : ℕ) (a : Blocks) (tree : List (Option ℕ)) (t : PageblockType) (h o n : ℕ) → IsOneSet m a → Starts (block_set a) h o → t ≡ kind_at m a.kinds h → n < 2 ^ o → tree ≡ choosable m a →
    IsParting m a (removed m a h o) tree t h o n h o n
parting_begins m a tree t h o n one st typed less told = record {
  coming = removed_coming m a h o one st;
  typed = typed;
  less = less;
  told = told ∙ ap (available_blocks m a.kinds) (sym (told_first m a h o st));
  after = refl;
}

module _ {m : ℕ} {a b : Blocks} {tree : List (Option ℕ)} {t : PageblockType} {h o n g k left : ℕ} (x : IsParting m a b tree t h o n g k left) where
  parting_shown : is_isolate t ≡ false → is_isolated m b.kinds g ≡ false
  parting_shown not_isolate = ap is_isolate (sym x.typed) ∙ not_isolate

  -- the block is one of the tree
  pub parting_starts : is_isolate t ≡ false → Starts tree g k
  parting_starts not_isolate = rw x.told (told_starts x.coming (parting_shown not_isolate))

  pub part_below : (j : ℕ) → 2 ^ j ≤ left → j < k
  part_below j le = elim (cases_lt j k) [
    | inl lt ↦ lt
    | inr ge ↦ let more : 2 ^ k ≤ 2 ^ j = pow-le-pow_right (omega arith) ge in absurd (omega (arith, x.less))
  ]

  pub parting_goes : (j : ℕ) → is_isolate t ≡ false → 2 ^ j ≤ left → left < 2 ^ (j + 1) →
      IsParting m a (halves_added m b g (j + 1) (k - (j + 1))) (split_set tree g k j) t h o n (g + 2 ^ j) j (left - 2 ^ j)
  parting_goes j not_isolate le lt =
      let below : j < k = part_below j le in
      let d : ℕ = k - (j + 1) in
      let all : k ≡ j + 1 + (k - (j + 1)) = omega arith in
      let low : IsComing m (halves_added m b g (j + 1) (k - (j + 1))) g (j + 1) = halves_coming d m b g (j + 1) (rw all at x.coming) in
      let kinds = kinds-halves (k - (j + 1)) m b g (j + 1) in
      record {
        coming = high_coming j low;
        typed = high_kind j low t (rw kinds x.typed);
        less = omega (arith, two j);
        told = rw kinds (ap (λ s. split_set s g k j) x.told ∙ told_part x.coming (parting_shown not_isolate) j below);
        after = sym (rest_part m b g k j left below le lt) ∙ x.after;
      }

-- no page is still to leave, and the block comes
pub parting_ends : (m : ℕ) (a b : Blocks) (tree : List (Option ℕ)) (t : PageblockType) (h o n g k : ℕ) → IsParting m a b tree t h o n g k 0 →
    (added m b g k ≡ pages_split_off m a h o n) × (tree ≡ choosable m (added m b g k))
parting_ends m a b tree t h o n g k x =
    (sym (rest_none m b g k) ∙ x.after, x.told ∙ ap (available_blocks m b.kinds) (sym (added_set x.coming)))
