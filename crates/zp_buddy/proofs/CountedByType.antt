-- What a sound area says of its free blocks by order and type: they are as many as the list of both is long.
use Rattle.std.proofs.Common.{ℕ, ◌/◌, ◌≡◌, ◌≤◌, ◌<◌, arith, true, length}
use Rattle.std.proofs.lemmas.Bool.{and_parts, false_from_ne_true}
use Rattle.zp_model.specs.declared.pageblock_type.PageblockType.{PageblockType}
use Rattle.zp_model.specs.PageblockType.{pageblock_types}
use Rattle.zp_model.specs.BlockSet.{cover}
use Rattle.zp_model.specs.Area.{belongs, list_number}
use Rattle.zp_model.specs.Info.{blocks_of_type}
use Rattle.zp_model.proofs.Pages.{is_max-to}
use Rattle.zp_model.proofs.TypeNumbers.{list_number_below}
use Rattle.zp_laws.proofs.Counting.{count-none}
use Rattle.zp_laws.proofs.CountedByType.{listed_counted}
use Rattle.zp_area.specs.Blocks.{Blocks, block_set, free_list_of}
use Rattle.zp_area.proofs.Listing.{number_parts}
use Rattle.zp_buddy.specs.Choices.{area_in}
use Rattle.zp_buddy.specs.Sound.{IsSound}
use Rattle.zp_buddy.proofs.Runs.{sound_listed}

pub count_typed : (m : ℕ) (a : Blocks) (t : PageblockType) (k : ℕ) → IsSound m a.rows.states a.kinds a.rows.lists → k ≤ m → length (free_list_of m a k t) ≡ blocks_of_type m (cover (block_set a)) a.kinds t k
unfolding blocks_of_type
count_typed m a t k x le = listed_counted (area_in m a) (list_number k t) (sound_listed m a x) (list_number_below m k t le)

-- none is above the largest order
pub count_typed_above : (m : ℕ) (a : Blocks) (t : PageblockType) (k : ℕ) → m < k → blocks_of_type m (cover (block_set a)) a.kinds t k ≡ 0
unfolding blocks_of_type belongs
count_typed_above m a t k lt =
    count-none (belongs m (cover (block_set a)) a.kinds (list_number k t)) 0 (length (cover (block_set a))) (λ h lo hi. false_from_ne_true _ (λ e. above h e))
  where
    above : (h : ℕ) → belongs m (cover (block_set a)) a.kinds (list_number k t) h ≡ true → ⊥
    above h e =
        let x = is_max-to m (cover (block_set a)) h (list_number k t / pageblock_types) (and_parts _ _ e).0 in
        omega (arith, x.order, (number_parts k t).0)
