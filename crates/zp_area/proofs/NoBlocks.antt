-- What is kept beside a set of no block.
use Rattle.std.proofs.Common.{ℕ, zero, suc, ◌+◌, ◌*◌, ◌/◌, ◌^◌, ◌≡◌, ◌≤◌, ◌<◌, refl, sym, ◌∙◌, ap, arith, true, List, [], ◌∷◌, length, replicate, Option, None}
use Rattle.std.specs.List.{IsDistinct}
use Rattle.std.proofs.lemmas.Bool.{false≢true, false_from_ne_true}
use Rattle.std.proofs.lemmas.List.{length-replicate}
use Rattle.zp_model.specs.declared.constants.TheConstants.{MAX_PAGES}
use Rattle.zp_model.specs.declared.pageblock_type.PageblockType.{PageblockType}
use Rattle.zp_model.specs.declared.state.State.TheVariants.{Tail}
use Rattle.zp_model.specs.PageblockType.{pageblock_types}
use Rattle.zp_model.specs.Block.{has}
use Rattle.zp_model.specs.BlockSet.{cover}
use Rattle.zp_model.specs.Rows.{Rows}
use Rattle.zp_model.specs.Area.{pageblock_pages, lists_count, pageblocks_of, size_in}
use Rattle.zp_model.proofs.RowLists.{replicated}
use Rattle.zp_table.specs.declared.entry.PageEntry.{PageEntry}
use Rattle.zp_table.specs.Entries.{blank}
use Rattle.zp_tree.proofs.BlockSets.{no_start}
use Rattle.zp_links.specs.Linked.{states_of}
use Rattle.zp_area.specs.NotedBlocks.{blocks_of}
use Rattle.zp_laws.proofs.Counting.{count-none}
use Rattle.zp_area.specs.Blocks.{Blocks, block_set, no_blocks}
use Rattle.zp_area.specs.OneSet.{IsKept}
use Rattle.zp_area.proofs.OneBlock.{covered_around}

pub tails_free : (n : ℕ) → blocks_of (replicate n Tail) ≡ replicate n None
tails_free zero = refl
tails_free (suc n) = ap (λ (q : List (Option ℕ)). None ∷ q) (tails_free n)

pub kept_empty : (m n side : ℕ) → n ≤ MAX_PAGES → side < 2 ^ 32 → IsKept m (no_blocks m n side) (replicate (pageblocks_of m n) 0)
unfolding IsDistinct size_in
kept_empty m n side le lt =
    let e : block_set (no_blocks m n side) ≡ replicate n None = tails_free n in
    let lists : length (no_blocks m n side).rows.lists ≡ lists_count m + side = length-replicate (lists_count m + side) [] in
    let none : (i : ℕ) → has (cover (replicate n None)) i ≡ true → ⊥ = λ i on. let w = covered_around (replicate n None) i on in no_start n w.0 w.1 w.2.starts in
    record {
      one = record {
        pages = rw (length-replicate n Tail) le;
        table = omega arith;
        typed = length-replicate (pageblocks_of m n) _ ∙ ap (pageblocks_of m) (sym (length-replicate n Tail));
        blocks = rw e (record { block = λ h k st. absurd (no_start n h k st); apart = λ h k g j i st su u v. absurd (no_start n h k st) });
        listed = λ r lt. rw (e, replicated {X = List ℕ} (lists_count m + side) r [])
            (record { distinct = tt; to = λ h on. absurd (false≢true on); from = λ h w. absurd (no_start n h (r / pageblock_types) w.0) });
        aside = λ r p ge on. absurd (false≢true (rw (replicated {X = List ℕ} (lists_count m + side) r []) at on));
      };
      few = omega arith;
      each = record {
        blocks = length-replicate (pageblocks_of m n) 0 ∙ ap (pageblocks_of m) (sym (length-replicate n Tail));
        each = λ b. replicated (pageblocks_of m n) b 0
            ∙ sym (rw e (count-none (has (cover (replicate n None))) (b * pageblock_pages m) (pageblock_pages m) (λ i lo hi. false_from_ne_true _ (none i))));
      };
    }

states_of-blank : (n : ℕ) → states_of (replicate n blank) ≡ replicate n Tail
states_of-blank zero = refl
states_of-blank (suc n) = ap (λ ss. Tail ∷ ss) (states_of-blank n)

-- the area of a blank table, of empty lists over it and of these types, in the words of the code
pub blank_area : (m n side d : ℕ) (t : List PageEntry) (w : Rows) (kinds : List PageblockType) → t ≡ replicate n blank → d ≡ lists_count m + side →
    w ≡ record { lists = replicate d []; states = states_of t } → kinds ≡ (no_blocks m n side).kinds →
    (let a : Blocks = record { largest = m; rows = w; kinds = kinds } in a) ≡ no_blocks m n side
blank_area m n side d t w kinds et em ew ek = rw (ew, ek, et, em, states_of-blank n)
