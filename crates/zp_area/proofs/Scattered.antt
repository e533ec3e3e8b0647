-- What is to be noted of a pageblock is told by its own blocks and its type.
use Rattle.std.proofs.Common.{ℕ, zero, suc, ◌+◌, ◌*◌, ◌/◌, ◌^◌, ◌≡◌, ◌≢◌, ◌≤◌, ◌<◌, refl, sym, ◌∙◌, ap, arith, leb, cond, map, Bool, List, ◌∷◌, length, get_or, Option, None}
use Rattle.std.specs.List.{range_with_len, slice_index_or}
use Rattle.zp_model.specs.declared.pageblock_type.PageblockType.{PageblockType}
use Rattle.zp_model.specs.declared.pageblock_type.PageblockType.TheVariants.{Movable}
use Rattle.zp_model.specs.Block.{has}
use Rattle.zp_model.specs.BlockSet.{block_if, cover, greatest, largest_in, order_of}
use Rattle.zp_model.specs.Area.{is_isolated, pageblock_pages, size_in}
use Rattle.zp_model.proofs.Heads.{number_around, number_within}
use Rattle.zp_model.proofs.Pages.{In}
use Rattle.zp_laws.proofs.Counting.{one_if, same_tests, sums-same}
use Rattle.zp_tree.specs.Blocks.{IsBlockSet}
use Rattle.zp_claims.specs.declared.claim.Claim.{Claim}
use Rattle.zp_area.specs.Blocks.{Blocks, block_set}
use Rattle.zp_area.specs.Available.{choosable}
use Rattle.zp_area.proofs.AvailableBlocks.{available-at, available_set}
use Rattle.zp_model.specs.PageblockType.{is_isolate}
use Rattle.zp_area.specs.Claims.{IsClaimed, IsClaimedBut, claim_of}
use Rattle.zp_area.proofs.OneBlock.{around_covered, covered_around}

-- the sets have the same blocks in pageblock b
abbrev pub IsSameIn : ℕ → ℕ → List (Option ℕ) → List (Option ℕ) → Type 0
IsSameIn m b s z = (h : ℕ) → h / pageblock_pages m ≡ b → get_or z h None ≡ get_or s h None

covered_same : (m b : ℕ) (s z : List (Option ℕ)) (i : ℕ) → IsBlockSet m s → IsBlockSet m z → IsSameIn m b s z → i / pageblock_pages m ≡ b → In (cover s) i → In (cover z) i
covered_same m b s z i x y same here e =
    let w = covered_around s i e in
    let block = x.block w.0 w.1 w.2.starts in
    let there : w.0 / pageblock_pages m ≡ b = sym (number_around w.0 i w.1 m block.order block.aligned w.2.from w.2.to) ∙ here in
    around_covered m z i w.0 w.1 y (record { starts = same w.0 there ∙ w.2.starts; from = w.2.from; to = w.2.to })

-- so they have as many pages there
pub size_in_same : (m b : ℕ) (s z : List (Option ℕ)) → IsBlockSet m s → IsBlockSet m z → IsSameIn m b s z → size_in m (cover z) b ≡ size_in m (cover s) b
unfolding size_in
size_in_same m b s z x y same =
    sums-same (λ i. one_if (has (cover z) i)) (λ i. one_if (has (cover s) i)) (b * pageblock_pages m) (pageblock_pages m) (λ i lo hi.
    let here : i / pageblock_pages m ≡ b = number_within b m i lo hi in
    ap one_if (same_tests (has (cover z) i) (has (cover s) i) (covered_same m b z s i y x (λ h e. sym (same h e)) here) (covered_same m b s z i x y same here)))

maps_same : {X : Type 0} (f g : ℕ → X) (a n : ℕ) → ((i : ℕ) → a ≤ i → i < a + n → f i ≡ g i) → map f (range_with_len a n) ≡ map g (range_with_len a n)
maps_same f g a zero e = refl
maps_same {X} f g a (suc n) e =
    ap (λ (x : X). x ∷ map f (range_with_len (a + 1) n)) (e a (omega arith) (omega arith))
    ∙ ap (λ (xs : List X). g a ∷ xs) (maps_same f g (a + 1) n (λ i p q. e i (omega arith) (omega arith)))

-- and the same largest block
pub largest_in_same : (m b : ℕ) (s z : List (Option ℕ)) → IsSameIn m b s z → largest_in z (b * pageblock_pages m) m ≡ largest_in s (b * pageblock_pages m) m
unfolding largest_in
largest_in_same m b s z same =
    let first : ℕ = b * pageblock_pages m in
    ap greatest (maps_same _ _ first (pageblock_pages m) (λ h lo hi.
    ap (λ (o : Option ℕ). order_of (block_if (λ g j. leb (g + 2 ^ j) (b * pageblock_pages m + 2 ^ m)) h o)) (same h (number_within b m h lo hi))))

pub claim_same : (m b : ℕ) (s z : List (Option ℕ)) (kinds now : List PageblockType) → IsBlockSet m s → IsBlockSet m z → IsSameIn m b s z →
    slice_index_or now b Movable ≡ slice_index_or kinds b Movable → claim_of m z now b ≡ claim_of m s kinds b
claim_same m b s z kinds now x y same e = rw (size_in_same m b s z x y same, largest_in_same m b s z same, e) refl

-- z is a but for the blocks and the type of pageblock b
pub record IsChangedIn (m b : ℕ) (a z : Blocks) : Type 0 where
  pub typed : length z.kinds ≡ length a.kinds
  pub kinds : (c : ℕ) → c ≢ b → slice_index_or z.kinds c Movable ≡ slice_index_or a.kinds c Movable
  pub heads : (h : ℕ) → h / pageblock_pages m ≢ b → get_or (block_set z) h None ≡ get_or (block_set a) h None

-- where one pageblock has changed, each other one is noted as before
pub claimed_but : (m b : ℕ) (a z : Blocks) (claims : List (Option Claim)) (marks : List Bool) → IsClaimed m (choosable m a) a.kinds claims marks → IsBlockSet m (block_set a) → IsBlockSet m (block_set z) →
    IsChangedIn m b a z → IsClaimedBut b m (choosable m z) z.kinds claims marks
claimed_but m b a z claims marks x old new change = record {
  blocks = x.blocks ∙ sym change.typed;
  marked = x.marked ∙ sym change.typed;
  each = λ c ne fresh. x.each c fresh
      ∙ sym (claim_same m c (choosable m a) (choosable m z) a.kinds z.kinds (available_set m a.kinds (block_set a) old) (available_set m z.kinds (block_set z) new)
      (λ h e.
      available-at m z.kinds (block_set z) h
      ∙ ap (λ t. cond (is_isolate t) None (get_or (block_set z) h None)) (ap (λ q. slice_index_or z.kinds q Movable) e ∙ change.kinds c ne ∙ sym (ap (λ q. slice_index_or a.kinds q Movable) e))
      ∙ ap (λ o. cond (is_isolated m a.kinds h) None o) (change.heads h (λ here. ne (sym e ∙ here)))
      ∙ sym (available-at m a.kinds (block_set a) h)) (change.kinds c ne));
}
