-- What the tree has while a pageblock gets another type, block by block.
use Rattle.std.proofs.Common.{ℕ, ◌+◌, ◌*◌, ◌^◌, ◌≡◌, ◌≢◌, ◌≤◌, ◌<◌, inl, inr, refl, sym, ◌∙◌, ap, arith, Bool, true, false, not, cond, min, List, length, set, Option, None, Some}
use Rattle.std.proofs.lemmas.Nat.{pow_pos}
use Rattle.std.proofs.lemmas.Bool.{cases_lt, cases_Bool}
use Rattle.zp_model.specs.declared.pageblock_type.PageblockType.{PageblockType}
use Rattle.zp_model.specs.declared.state.State.{State}
use Rattle.zp_model.specs.declared.state.State.TheVariants.{Tail, Free, Out, Posted}
use Rattle.zp_model.specs.PageblockType.{is_isolate}
use Rattle.zp_model.specs.BlockSet.{Starts}
use Rattle.zp_model.specs.Rows.{state_at}
use Rattle.zp_model.specs.Area.{available_blocks, kind_at, pageblock_pages}
use Rattle.zp_tree.specs.Blocks.{IsApart, IsBlockSet, with_block, without_block}
use Rattle.zp_area.specs.NotedBlocks.{blocks_of, free_order}
use Rattle.zp_area.specs.Available.{retold}
use Rattle.zp_area.specs.Moved.{pages_seen}
use Rattle.zp_area.proofs.AvailableBlocks.{available_part}
use Rattle.zp_area.proofs.NotedBlocks.{block_at, starts-from}
use Rattle.zp_area.proofs.OneBlock.{around_same, head_below}
use Rattle.zp_area.proofs.Parts.{part, part-from, part_apart_out, part_comes, part_goes, part_outs}
use Rattle.zp_area.proofs.Relisting.{kind_while, while-in, while-out}
use Rattle.zp_area.proofs.Retyping.{kinds_now}

-- whether page h is left out of the tree, where the pages from page a up to page i have type t already
abbrev pub out_while : ℕ → List PageblockType → ℕ → ℕ → PageblockType → ℕ → Bool
out_while m kinds a i t h = is_isolate (kind_while m kinds a i t h)

-- the tree then
abbrev pub told_while : ℕ → List PageblockType → ℕ → ℕ → PageblockType → List (Option ℕ) → List (Option ℕ)
told_while m kinds a i t s = part (out_while m kinds a i t) s

module _ (m a : ℕ) (t : PageblockType) (kinds : List PageblockType) (states : List State) (x : IsBlockSet m (blocks_of states)) where
  -- before the first page the tree is as it was
  pub told_first : told_while m kinds a a t (blocks_of states) ≡ available_blocks m kinds (blocks_of states)
  told_first =
      part_outs (out_while m kinds a a t) (λ h. is_isolate (kind_at m kinds h)) (blocks_of states) (λ h k st. ap is_isolate (while-out m kinds a a t h (λ lo hi. omega arith)))
      ∙ sym (available_part m kinds (blocks_of states))

  module _ (i : ℕ) (from : a ≤ i) (other : is_isolate t ≡ not (is_isolate (kind_at m kinds i))) where
    before : out_while m kinds a i t i ≡ is_isolate (kind_at m kinds i)
    before = ap is_isolate (while-out m kinds a i t i (λ lo hi. omega arith))

    turned : (b c : Bool) → b ≡ not c → (b ≡ true → c ≡ false) × (b ≡ false → c ≡ true)
    turned b c e = (λ f. grind arith, λ f. grind arith)

    -- a block at page i is in the tree where the pageblock is about to be isolated
    pub told_held : (k : ℕ) → is_isolate t ≡ true → state_at states i ≡ Free k → Starts (told_while m kinds a i t (blocks_of states)) i k
    told_held k e f = part-from (out_while m kinds a i t) (blocks_of states) i k (starts-from states i k f) (before ∙ (turned _ _ other).0 e)

    -- and apart from it where it is about to be released
    pub told_apart : (k : ℕ) → is_isolate t ≡ false → state_at states i ≡ Free k → IsApart (told_while m kinds a i t (blocks_of states)) i k
    told_apart k e f = part_apart_out m (out_while m kinds a i t) (blocks_of states) i k x (starts-from states i k f) (before ∙ (turned _ _ other).1 e)

    module _ (j : ℕ) (lt : i < j) (le : j ≤ i + pages_seen (state_at states i)) where
      after_now : out_while m kinds a j t i ≡ is_isolate t
      after_now = ap is_isolate (while-in m kinds a j t i from lt)

      -- no other head's test changes
      others : (n : ℕ) → j ≤ i + n → ((g k : ℕ) → Starts (blocks_of states) g k → i ≤ g → g < i + n → g ≡ i) → (g k : ℕ) → Starts (blocks_of states) g k → g ≢ i →
          out_while m kinds a i t g ≡ out_while m kinds a j t g
      others n more only g k st ne = ap is_isolate (elim (cases_lt g i) [
        | inl below ↦ elim (cases_lt g a) [
          | inl under ↦ while-out m kinds a i t g (λ lo hi. omega arith) ∙ sym (while-out m kinds a j t g (λ lo hi. omega arith))
          | inr over ↦ while-in m kinds a i t g over below ∙ sym (while-in m kinds a j t g over (omega arith))
        ]
        | inr ge ↦ elim (cases_lt g (i + n)) [
          | inl within ↦ absurd (ne (only g k st ge within))
          | inr past ↦ while-out m kinds a i t g (λ lo hi. omega arith) ∙ sym (while-out m kinds a j t g (λ lo hi. omega arith))
        ]
      ])

      -- where a block starts at page i, no other starts among its pages
      in_block : (o : ℕ) → Starts (blocks_of states) i o → (g k : ℕ) → Starts (blocks_of states) g k → i ≤ g → g < i + 2 ^ o → g ≡ i
      in_block o st g k su lo hi =
          around_same m (blocks_of states) g g k i o x (record { starts = su; from = omega arith; to = omega (arith, pow_pos k) }) (record { starts = st; from = lo; to = hi })

      -- where none does, page i itself is left
      none_at : free_order (state_at states i) ≡ None → (g k : ℕ) → Starts (blocks_of states) g k → i ≤ g → g < i + 1 → g ≡ i
      none_at e g k st lo hi = omega arith

      same_now : free_order (state_at states i) ≡ None → pages_seen (state_at states i) ≡ 1 → told_while m kinds a i t (blocks_of states) ≡ told_while m kinds a j t (blocks_of states)
      same_now e one =
          part_outs (out_while m kinds a i t) (out_while m kinds a j t) (blocks_of states) (λ g k st.
          others 1 (omega arith) (none_at e) g k st (λ same. let f : Some k ≡ None = sym (rw same at st) ∙ block_at states i ∙ e in absurd cc))

      pub told_next : retold (told_while m kinds a i t (blocks_of states)) i (is_isolate t) (state_at states i) ≡ told_while m kinds a j t (blocks_of states)
      told_next = go (state_at states i) refl
        where
          block : (k : ℕ) → state_at states i ≡ Free k →
              cond (is_isolate t) (without_block (told_while m kinds a i t (blocks_of states)) i) (with_block (told_while m kinds a i t (blocks_of states)) i k) ≡ told_while m kinds a j t (blocks_of states)
          block k e =
              let st : Starts (blocks_of states) i k = starts-from states i k e in
              let seen : pages_seen (state_at states i) ≡ 2 ^ k = ap pages_seen e in
              let rest = others (2 ^ k) (omega arith) (in_block k st) in
              elim (cases_Bool (is_isolate t)) [
                | inl is ↦ rw is (part_goes (out_while m kinds a i t) (out_while m kinds a j t) (blocks_of states) i k st rest (after_now ∙ is))
                | inr not ↦ rw not (part_comes (out_while m kinds a i t) (out_while m kinds a j t) (blocks_of states) i k st rest (after_now ∙ not))
              ]

          go : (p : State) → state_at states i ≡ p → retold (told_while m kinds a i t (blocks_of states)) i (is_isolate t) p ≡ told_while m kinds a j t (blocks_of states)
          go (Free k) e = block k e
          go Tail e = same_now (ap free_order e) (ap pages_seen e)
          go (Out k u w) e = same_now (ap free_order e) (ap pages_seen e)
          go (Posted k u w) e = same_now (ap free_order e) (ap pages_seen e)

-- when all pages of pageblock b have been looked at, the tree is of the new types
pub told_last : (m b : ℕ) (t : PageblockType) (kinds : List PageblockType) (states : List State) → IsBlockSet m (blocks_of states) → b < length kinds → length (blocks_of states) ≡ length states →
    told_while m kinds (b * pageblock_pages m) (min (length states) (b * pageblock_pages m + pageblock_pages m)) t (blocks_of states) ≡ available_blocks m (set kinds b t) (blocks_of states)
told_last m b t kinds states x lt len =
    part_outs _ (λ h. is_isolate (kind_at m (set kinds b t) h)) (blocks_of states)
    (λ h k st. ap is_isolate (kinds_now m b (length states) t kinds lt h (omega (arith, len, head_below m _ h k (x.block h k st)))))
    ∙ sym (available_part m (set kinds b t) (blocks_of states))
