-- Which free block a request takes: own, claim, borrow or none (this profile's four steps).
use Rattle.std.specs.Prelude.{ℕ, ◌-◌, ◌/◌, ◌^◌, ◌&&◌, ◌||◌, not, Bool, true, false, leb, Option, None, Some, reverse}
use Rattle.std.specs.List.{find}
use Rattle.std.specs.Option.{option_map, option_or}
use Rattle.zp_model.specs.declared.migrate_type.MigrateType.{MigrateType}
use Rattle.zp_model.specs.declared.migrate_type.MigrateType.TheVariants.{Movable}
use Rattle.zp_model.specs.declared.origin.Origin.{Origin}
use Rattle.zp_model.specs.declared.origin.Origin.TheVariants.{Own, Claimed, Borrowed}
use Rattle.zp_model.specs.BlockSet.{first_of, orders_from}
use Rattle.zp_model.specs.MigrateType.{foreign, same_type}
use Rattle.zp_model.specs.PageblockType.{pageblock_type}
use Rattle.zp_model.specs.Rows.{front}
use Rattle.zp_model.specs.Area.{Area, pageblock_pages, free_list, size_in}

-- a chosen block's head, and whether its pageblock is claimed
pub record Chosen : Type 0 where
  pub head : ℕ
  pub claims : Bool

-- the block that starts at the head that was found, where one was
abbrev pub chosen_at : Bool → Option ℕ → Option Chosen
chosen_at claims None = None
chosen_at claims (Some h) = Some (record { head = h; claims = claims })

-- own lists, the least order first: the front block
unfoldable pub own : Area → ℕ → MigrateType → Option ℕ
own a k t = first_of (λ o. front (free_list a o (pageblock_type t))) (orders_from a.largest k)

-- the least order of a free block that a Movable request may claim a pageblock by
abbrev pub least_movable_claim : ℕ → ℕ
least_movable_claim m = m / 2

-- the free pages that a pageblock has to have for a claim, half of its pages
abbrev pub claim_pages : ℕ → ℕ
claim_pages m = 2 ^ (m - 1)

-- whether the block of order o at h may be claimed for type t
abbrev pub is_claimable : Area → MigrateType → ℕ → ℕ → Bool
is_claimable a t o h =
    (leb (least_movable_claim a.largest) o || not (same_type t Movable))
    && leb (claim_pages a.largest) (size_in a.largest a.free (h / pageblock_pages a.largest))

-- foreign lists, the largest order first: the first block that may be claimed
unfoldable pub claim : Area → ℕ → MigrateType → Option ℕ
claim a k t = first_of (λ o. first_of (λ f. find (is_claimable a t o) (free_list a o (pageblock_type f))) (foreign t)) (reverse (orders_from a.largest k))

-- foreign lists, the least order first: the front block
unfoldable pub borrow : Area → ℕ → MigrateType → Option ℕ
borrow a k t = first_of (λ o. first_of (λ f. front (free_list a o (pageblock_type f))) (foreign t)) (orders_from a.largest k)

unfoldable pub choose : Area → ℕ → MigrateType → Option Chosen
choose a k t =
    option_or (chosen_at false (own a k t)) (option_or (chosen_at true (claim a k t)) (chosen_at false (borrow a k t)))

-- where the block comes from, which such a request takes
unfoldable pub origin : Area → ℕ → MigrateType → Option Origin
origin a k t =
    option_or (option_map (λ _. Own) (own a k t)) (option_or (option_map (λ _. Claimed) (claim a k t)) (option_map (λ _. Borrowed) (borrow a k t)))
