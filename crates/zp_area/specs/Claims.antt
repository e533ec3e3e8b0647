-- The pageblocks that may be claimed, the largest order by which one may be, and what is noted of each pageblock for this (this profile). The
-- largest block has order m.
use Rattle.std.specs.Prelude.{ℕ, ◌+◌, ◌*◌, ◌/◌, ◌≡◌, ◌≢◌, ◌≤◌, ◌<◌, ◌&&◌, leb, ltb, cond, Bool, true, false, List, length, slice_index, slice_index_or, Option, None, Some}
use Rattle.zp_model.specs.declared.constants.TheConstants.{MAX_PAGES}
use Rattle.zp_model.specs.declared.migrate_type.MigrateType.{MigrateType}
use Rattle.zp_model.specs.declared.pageblock_type.PageblockType.{PageblockType}
use Rattle.zp_model.specs.declared.pageblock_type.PageblockType.TheVariants.{Movable}
use Rattle.zp_model.specs.PageblockType.{is_isolate, migrate_type, pageblock_type}
use Rattle.zp_model.specs.BlockSet.{Starts, cover, largest_in}
use Rattle.zp_model.specs.Area.{kind_at, pageblock_pages, size_in}
use Rattle.zp_model.specs.Choose.{claim_pages}
use Rattle.zp_claims.specs.declared.claim.Claim.{Claim}
use Rattle.zp_claims.specs.Noted.{noted_at}
use Rattle.zp_claims.specs.Stale.{is_marked}
use Rattle.zp_area.specs.Blocks.{Blocks, block_set}
use Rattle.zp_area.specs.Available.{choosable, isolated_sum}
use Rattle.zp_area.specs.OneSet.{IsKept}

-- whether half of the pages of page h's pageblock are free
abbrev pub is_half_free : ℕ → Blocks → ℕ → Bool
is_half_free m a h = leb (claim_pages m) (size_in m (cover (block_set a)) (h / pageblock_pages m))

-- a pageblock's type is another migrate type than t
abbrev pub IsOtherType : MigrateType → PageblockType → Type 0
IsOtherType t s = (f : MigrateType) × (s ≡ pageblock_type f) × (f ≢ t)

-- a block of order j starts at h, in a pageblock of another migrate type than t that has the free pages that a claim needs
pub record IsInClaimable (m : ℕ) (a : Blocks) (t : MigrateType) (h j : ℕ) : Type 0 where
  pub starts : Starts (block_set a) h j
  pub other : IsOtherType t (kind_at m a.kinds h)
  pub enough : is_half_free m a h ≡ true

-- the largest order of such a block, where there is one
abbrev pub IsLargestClaimable : ℕ → Blocks → MigrateType → Option ℕ → Type 0
IsLargestClaimable m a t None = (h j : ℕ) → IsInClaimable m a t h j → ⊥
IsLargestClaimable m a t (Some o) = ((h : ℕ) × IsInClaimable m a t h o) × ((h j : ℕ) → IsInClaimable m a t h j → j ≤ o)

-- what is noted of a pageblock of migrate type t, where it has one, by whether half of its pages are free and by its largest block: where half are, and no block has half of
-- its pages, the type and the largest order. A block of half of the pages is found in front of the lists.
abbrev pub scattered : ℕ → Bool → Option MigrateType → Option ℕ → Option Claim
scattered m enough None o = None
scattered m enough (Some t) None = None
scattered m enough (Some t) (Some o) = cond (enough && ltb (o + 1) m) (Some (record { kind = t; order = o })) None

abbrev pub claim_of : ℕ → List (Option ℕ) → List PageblockType → ℕ → Option Claim
claim_of m s kinds b =
    scattered m (leb (claim_pages m) (size_in m (cover s) b)) (migrate_type (slice_index_or kinds b Movable)) (largest_in s (b * pageblock_pages m) m)

-- this is noted of each pageblock that is not marked as one that has changed since
pub record IsClaimed (m : ℕ) (s : List (Option ℕ)) (kinds : List PageblockType) (claims : List (Option Claim)) (marks : List Bool) : Type 0 where
  pub blocks : length claims ≡ length kinds
  pub marked : length marks ≡ length kinds
  pub each : (b : ℕ) → is_marked marks b ≡ false → noted_at claims b ≡ claim_of m s kinds b

-- and so of each but pageblock p, which has changed
pub record IsClaimedBut (p m : ℕ) (s : List (Option ℕ)) (kinds : List PageblockType) (claims : List (Option Claim)) (marks : List Bool) : Type 0 where
  pub blocks : length claims ≡ length kinds
  pub marked : length marks ≡ length kinds
  pub each : (b : ℕ) → b ≢ p → is_marked marks b ≡ false → noted_at claims b ≡ claim_of m s kinds b

-- all that is kept beside a set of blocks is of this set
pub record IsIndexed (a : Blocks) (tree : List (Option ℕ)) (free_in : List ℕ) (isolated : ℕ) (claims : List (Option Claim)) (marks : List Bool) : Type 0 where
  pub kept : IsKept a.largest a free_in
  -- the tree and what is noted for claims are of the blocks outside isolated pageblocks
  pub told : tree ≡ choosable a.largest a
  pub claimed : IsClaimed a.largest (choosable a.largest a) a.kinds claims marks
  -- the free pages of the others are counted
  pub apart : isolated ≡ isolated_sum a.kinds free_in

-- b is the number of a pageblock, and of its free pages there is the number, those of the set where it is not isolated
pub record IsPageblock (m : ℕ) (s : List (Option ℕ)) (kinds : List PageblockType) (free_in : List ℕ) (b : ℕ) : Type 0 where
  pub typed : b < length kinds
  pub counted : b < length free_in
  pub starts : b * pageblock_pages m < MAX_PAGES
  pub free : is_isolate (slice_index_or kinds b Movable) ≡ false → slice_index free_in b ≡ size_in m (cover s) b
