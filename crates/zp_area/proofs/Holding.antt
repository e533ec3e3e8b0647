-- Another note of a page that is in no block leaves the set as it was.
use Rattle.std.proofs.Common.{ℕ, zero, suc, ◌+◌, ◌≤◌, ◌<◌, ◌-◌, ◌/◌, ◌≡◌, inl, inr, refl, sym, ◌∙◌, arith, false, List, [], length-set, Option, None, Some}
use Rattle.std.proofs.lemmas.Nat.{pow_pos}
use Rattle.std.proofs.lemmas.Bool.{both_ways, cases_lt, false_from_ne_true, false≢true}
use Rattle.std.proofs.lemmas.List.{get_or-drop}
use Rattle.std.proofs.Math.Seq.{map-set_same}
use Rattle.zp_model.specs.declared.state.State.{State}
use Rattle.zp_model.specs.declared.state.State.TheVariants.{Tail}
use Rattle.zp_model.specs.Block.{has}
use Rattle.zp_model.specs.BlockSet.{Starts, cover}
use Rattle.zp_model.specs.Area.{lists_count}
use Rattle.zp_model.specs.PageblockType.{pageblock_types}
use Rattle.zp_model.specs.Rows.{IsLoose, state_at}
use Rattle.zp_model.specs.Frames.{IsNote}
use Rattle.zp_area.specs.Given.{IsClearPage, IsClearRun}
use Rattle.zp_area.specs.NotedBlocks.{free_order}
use Rattle.zp_area.proofs.NotedBlocks.{block_at}
use Rattle.zp_area.specs.Blocks.{Blocks, block_set, noted, noted_run}
use Rattle.zp_area.specs.OneSet.{IsOneSet, IsKept}
use Rattle.zp_area.proofs.OneBlock.{around_covered}

-- a note is of no free block
note_none : (s : State) → IsNote s → free_order s ≡ None
note_none s n = grind arith

-- (h, s) is a page that is in no block, and a note
pub record IsHolding (m : ℕ) (a : Blocks) (h : ℕ) (s : State) : Type 0 where
  pub one : IsOneSet m a
  pub used : has (cover (block_set a)) h ≡ false
  pub note : IsNote s

-- the set stays
pub noted_set : (m : ℕ) (a : Blocks) (h : ℕ) (s : State) → IsHolding m a h s → block_set (noted a h s) ≡ block_set a
noted_set m a h s x =
    map-set_same free_order a.rows.states h s Tail (note_none s x.note ∙ sym (off (free_order (state_at a.rows.states h)) refl))
  where
    off : (o : Option ℕ) → free_order (state_at a.rows.states h) ≡ o → o ≡ None
    off None e = refl
    off (Some k) e =
        let st : Starts (block_set a) h k = block_at a.rows.states h ∙ e in
        absurd (false≢true (sym x.used ∙ around_covered m (block_set a) h h k x.one.blocks (record { starts = st; from = omega arith; to = omega (arith, pow_pos k) })))

one_noted : (m : ℕ) (a : Blocks) (h : ℕ) (s : State) → IsOneSet m a → IsHolding m a h s → IsOneSet m (noted a h s)
one_noted m a h s one y =
    let e : block_set (noted a h s) ≡ block_set a = noted_set m a h s y in
    record {
      pages = rw (length-set a.rows.states h s) one.pages;
      table = one.table;
      typed = rw (length-set a.rows.states h s) one.typed;
      blocks = rw e one.blocks;
      listed = λ r lt. rw e (one.listed r lt);
      aside = λ r p ge on. rw e (one.aside r p ge on);
    }

pub kept_noted : (m : ℕ) (a : Blocks) (free_in : List ℕ) (h : ℕ) (s : State) → IsKept m a free_in → IsHolding m a h s →
    IsKept m (noted a h s) free_in
kept_noted m a free_in h s x y =
    let e : block_set (noted a h s) ≡ block_set a = noted_set m a h s y in
    record {
      one = one_noted m a h s x.one y;
      few = x.few;
      each = record { blocks = rw (length-set a.rows.states h s) x.each.blocks; each = λ b. rw e (x.each.each b) };
    }

-- a note changes nothing of what is clear
pub clear_noted : (m : ℕ) (a : Blocks) (h : ℕ) (s : State) → IsHolding m a h s → (g j : ℕ) → IsClearRun m a.rows.states a.rows.lists g j →
    IsClearRun m (noted a h s).rows.states (noted a h s).rows.lists g j
clear_noted m a h s x g j clear i lo hi = (rw (noted_set m a h s x) (clear i lo hi).0, (clear i lo hi).1)

-- no page of the run is in a block
abbrev pub IsUnusedRun : Blocks → ℕ → ℕ → Type 0
IsUnusedRun a h n = (i : ℕ) → h ≤ i → i < h + n → has (cover (block_set a)) i ≡ false

-- notes of a run, page by page: what each of them keeps all of them keep
pub by_pages : (P : Blocks → Type 0) (s : State) → IsNote s → ((a : Blocks) (h : ℕ) → P a → IsHolding a.largest a h s → P (noted a h s)) →
    (n : ℕ) (a : Blocks) (h : ℕ) → P a → IsOneSet a.largest a → IsUnusedRun a h n → P (noted_run a h n s)
by_pages P s note step zero a h p one used = p
by_pages P s note step (suc n) a h p one used =
    let x : IsHolding a.largest a h s = record { one = one; used = used h (omega arith) (omega arith); note = note } in
    by_pages P s note step n (noted a h s) (h + 1) (step a h p x) (one_noted a.largest a h s one x) (λ i lo hi. rw (noted_set a.largest a h s x) (used i (omega arith) (omega arith)))

-- a clear page stands on no list
pub clear_loose : (m : ℕ) (a : Blocks) (i : ℕ) → IsOneSet m a → IsClearPage m a.rows.states a.rows.lists i → IsLoose a.rows.lists i
clear_loose m a i one clear r =
    false_from_ne_true _ (λ on. elim (cases_lt r (lists_count m)) [
      | inl below ↦
          let k : ℕ = r / pageblock_types in
          let st : Starts (block_set a) i k = ((one.listed r below).to i on).0 in
          false≢true (sym clear.0 ∙ around_covered m (block_set a) i i k one.blocks (record { starts = st; from = omega arith; to = omega (arith, pow_pos k) }))
      | inr ge ↦
          let back : lists_count m + (r - lists_count m) ≡ r = omega arith in
          both_ways _ (clear.1 (r - lists_count m)) (rw (get_or-drop (lists_count m) a.rows.lists (r - lists_count m) [], back) on)
    ])
