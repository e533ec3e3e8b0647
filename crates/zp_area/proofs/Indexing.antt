-- What is kept beside a set of blocks and noted of its pageblocks: of no block, when one pageblock has changed, and what the code reads of it.
use Rattle.std.proofs.Common.{ℕ, ◌+◌, ◌*◌, ◌/◌, ◌^◌, ◌≡◌, ◌≤◌, ◌<◌, refl, sym, ◌∙◌, ap, arith, Bool, false, List, length, replicate, Option, Some, None}
use Rattle.std.specs.List.{slice_index_or}
use Rattle.std.proofs.lemmas.List.{ext_get_or, length-replicate}
use Rattle.zp_model.specs.declared.constants.TheConstants.{MAX_PAGES}
use Rattle.zp_model.specs.declared.pageblock_type.PageblockType.{PageblockType}
use Rattle.zp_model.specs.declared.pageblock_type.PageblockType.TheVariants.{Movable}
use Rattle.zp_model.specs.declared.migrate_type.MigrateType.{MigrateType}
use Rattle.zp_model.specs.PageblockType.{is_isolate, migrate_type}
use Rattle.zp_model.specs.declared.state.State.{State}
use Rattle.zp_model.specs.BlockSet.{Starts, cover, largest_in}
use Rattle.zp_model.specs.Block.{IsBlock, size}
use Rattle.zp_model.specs.Rows.{Rows}
use Rattle.zp_model.specs.Area.{available, available_blocks, pageblock_pages, pageblocks_of, size_in}
use Rattle.zp_laws.proofs.Choosing.{none_either}
use Rattle.zp_tree.proofs.BlockSets.{no_start}
use Rattle.zp_claims.specs.declared.claim.Claim.{Claim}
use Rattle.zp_area.specs.Blocks.{Blocks, block_set, no_blocks, noted}
use Rattle.zp_area.specs.OneSet.{IsKept, IsOneSet}
use Rattle.zp_area.specs.Claims.{IsClaimed, IsClaimedBut, IsIndexed, IsPageblock, claim_of, scattered}
use Rattle.zp_area.specs.Available.{choosable, isolated_sum}
use Rattle.zp_area.proofs.AvailableBlocks.{available-at, available-length, available_set}
use Rattle.zp_area.proofs.IsolatedPages.{available_beside, sum_none}
use Rattle.std.proofs.lemmas.List.Sums.{count_by-le-length}
use Rattle.zp_model.proofs.Covers.{length-cover}
use Rattle.zp_model.proofs.RowLists.{replicated}
use Rattle.zp_area.proofs.Holding.{IsHolding, kept_noted, noted_set}
use Rattle.zp_area.proofs.Keeping.{blocks_length, starts_inside, typed_there}
use Rattle.zp_area.proofs.LargestInside.{inside_held}
use Rattle.zp_area.proofs.NoBlocks.{kept_empty, tails_free}
use Rattle.zp_area.proofs.Scattered.{IsChangedIn, claimed_but, size_in_same}

-- a free area of these lists and types
abbrev pub blocks_in : ℕ → Rows → List PageblockType → Blocks
blocks_in m w kinds = record { largest = m; rows = w; kinds = kinds }

-- after a change of one pageblock the notes of the others stand
pub others_stand : (m b : ℕ) (w v : Rows) (ks js : List PageblockType) (tree now : List (Option ℕ)) (free_in numbers : List ℕ) (isolated : ℕ) (claims : List (Option Claim)) (marks : List Bool) →
    IsIndexed (blocks_in m w ks) tree free_in isolated claims marks → IsKept m (blocks_in m v js) numbers → now ≡ choosable m (blocks_in m v js) →
    IsChangedIn m b (blocks_in m w ks) (blocks_in m v js) → IsClaimedBut b m now js claims marks
others_stand m b w v ks js tree now free_in numbers isolated claims marks x kept told change =
    rw told (claimed_but m b (blocks_in m w ks) (blocks_in m v js) claims marks x.claimed x.kept.one.blocks kept.one.blocks change)

-- and where all are noted, all is of one set
pub indexed_anew : (m : ℕ) (v : Rows) (js : List PageblockType) (now : List (Option ℕ)) (numbers : List ℕ) (isolated : ℕ) (claims : List (Option Claim)) (marks : List Bool) →
    IsKept m (blocks_in m v js) numbers → now ≡ choosable m (blocks_in m v js) → isolated ≡ isolated_sum js numbers → IsClaimed m now js claims marks →
    IsIndexed (blocks_in m v js) now numbers isolated claims marks
indexed_anew m v js now numbers isolated claims marks kept told apart x = record { kept = kept; told = told; claimed = rw told at x; apart = apart }

-- a pageblock that is not isolated has all its blocks among those that can be chosen
pub size_open : (m : ℕ) (a : Blocks) (b : ℕ) → IsOneSet m a → is_isolate (slice_index_or a.kinds b Movable) ≡ false → size_in m (cover (choosable m a)) b ≡ size_in m (cover (block_set a)) b
size_open m a b one shown =
    size_in_same m b (block_set a) (choosable m a) one.blocks (available_set m a.kinds (block_set a) one.blocks)
    (λ h e. available-at m a.kinds (block_set a) h ∙ rw (ap (λ q. is_isolate (slice_index_or a.kinds q Movable)) e ∙ shown) refl)

-- what the code reads of a pageblock is of the set
pub pageblock_kept : (m b : ℕ) (a : Blocks) (tree : List (Option ℕ)) (free_in : List ℕ) → IsKept m a free_in → tree ≡ choosable m a → b < length a.kinds → IsPageblock m tree a.kinds free_in b
pageblock_kept m b a tree free_in x told lt = record {
  typed = lt;
  counted = omega (arith, x.each.blocks, x.one.typed);
  starts = omega (arith, starts_inside m a b x.one lt, x.one.pages);
  free = λ shown. x.each.each b ∙ rw told (sym (size_open m a b x.one shown));
}

-- the pageblock of a block has a type
pub started_there : (m : ℕ) (a : Blocks) (h k : ℕ) → IsOneSet m a → Starts (block_set a) h k → h / pageblock_pages m < length a.kinds
started_there m a h k one st =
    let block : IsBlock m (length a.rows.states) h k = rw (← blocks_length a.rows.states) (one.blocks.block h k st) in
    typed_there m a h k one block

-- nothing is noted where there is no block
none_largest : (n a r : ℕ) (o : Option ℕ) → largest_in (replicate n None) a r ≡ o → o ≡ None
none_largest n a r None e = refl
none_largest n a r (Some k) e = let w = inside_held (replicate n None) a r k e in absurd (no_start n w.0 k w.1)

nothing : (m : ℕ) (enough : Bool) (t : Option MigrateType) → scattered m enough t None ≡ None
nothing m enough None = refl
nothing m enough (Some t) = refl

none_scattered : (m n b : ℕ) (kinds : List PageblockType) → claim_of m (replicate n None) kinds b ≡ None
none_scattered m n b kinds = rw (none_largest n (b * pageblock_pages m) m _ refl) (nothing m _ (migrate_type (slice_index_or kinds b Movable)))

none_choosable : (m n side : ℕ) → choosable m (no_blocks m n side) ≡ replicate n None
none_choosable m n side =
    ap (available_blocks m (no_blocks m n side).kinds) (tails_free n)
    ∙ ext_get_or None _ _ (available-length m (no_blocks m n side).kinds (replicate n None)) (λ h lt.
    available-at m (no_blocks m n side).kinds (replicate n None) h ∙ none_either _ _ (replicated {X = Option ℕ} n h None) ∙ sym (replicated {X = Option ℕ} n h None))

pub indexed_empty : (m n side : ℕ) → n ≤ MAX_PAGES → side < 2 ^ 32 →
    IsIndexed (no_blocks m n side) (replicate n None) (replicate (pageblocks_of m n) 0) 0 (replicate (pageblocks_of m n) None) (replicate (pageblocks_of m n) false)
indexed_empty m n side le lt = record {
  kept = kept_empty m n side le lt;
  told = sym (none_choosable m n side);
  apart = sym (sum_none (no_blocks m n side).kinds (replicate (pageblocks_of m n) 0) (λ b. ap is_isolate (replicated (pageblocks_of m n) b Movable)));
  claimed = record {
    blocks = length-replicate {A = Option Claim} (pageblocks_of m n) None ∙ sym (length-replicate (pageblocks_of m n) _);
    marked = length-replicate (pageblocks_of m n) false ∙ sym (length-replicate (pageblocks_of m n) _);
    each = λ b fresh. replicated {X = Option Claim} (pageblocks_of m n) b None ∙ sym (rw (none_choosable m n side) (none_scattered m n b (no_blocks m n side).kinds));
  };
}

-- a note of a page that is in no block changes nothing
pub indexed_noted : (a : Blocks) (tree : List (Option ℕ)) (free_in : List ℕ) (isolated : ℕ) (claims : List (Option Claim)) (marks : List Bool) (h : ℕ) (s : State) → IsIndexed a tree free_in isolated claims marks →
    IsHolding a.largest a h s → IsIndexed (noted a h s) tree free_in isolated claims marks
indexed_noted a tree free_in isolated claims marks h s x y =
    let e : block_set (noted a h s) ≡ block_set a = noted_set a.largest a h s y in
    record {
      kept = kept_noted a.largest a free_in h s x.kept y;
      told = rw e x.told;
      apart = x.apart;
      claimed = record { blocks = x.claimed.blocks; marked = x.claimed.marked; each = λ b fresh. rw e (x.claimed.each b fresh) };
    }

-- the free pages are those that are available and the isolated ones, which are no more than the pages
pub isolated_beside : (m : ℕ) (a : Blocks) (free_in : List ℕ) → IsKept m a free_in →
    size (available m a.kinds (cover (block_set a))) + isolated_sum a.kinds free_in ≡ size (cover (block_set a))
isolated_beside m a free_in x =
    let pages : length (cover (block_set a)) ≡ length a.rows.states = length-cover (block_set a) ∙ blocks_length a.rows.states in
    available_beside m a.kinds (cover (block_set a)) free_in (x.one.typed ∙ ap (pageblocks_of m) (sym pages)) (x.each.blocks ∙ sym x.one.typed) x.each.each

pub isolated_most : (m : ℕ) (a : Blocks) (free_in : List ℕ) → IsKept m a free_in → isolated_sum a.kinds free_in ≤ MAX_PAGES
unfolding size
isolated_most m a free_in x =
    let pages : length (cover (block_set a)) ≡ length a.rows.states = length-cover (block_set a) ∙ blocks_length a.rows.states in
    omega (arith, isolated_beside m a free_in x, count_by-le-length (λ b. b) (cover (block_set a)), pages, x.one.pages)
