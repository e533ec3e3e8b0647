-- A pageblock that gets another type, where the blocks are the maximal ones.
use Rattle.std.proofs.Common.{ℕ, ◌/◌, ◌%◌, ◌≡◌, ◌==◌, refl, sym, ◌∙◌, ap, Bool, not, ◌&&◌, List, ◌++◌, length, set, length-set, get_or, None}
use Rattle.std.specs.List.{filter}
use Rattle.std.proofs.lemmas.Bool.{eq-eqb}
use Rattle.zp_model.specs.declared.pageblock_type.PageblockType.{PageblockType}
use Rattle.zp_model.specs.Block.{is_max}
use Rattle.zp_model.specs.BlockSet.{Starts, cover, is_order}
use Rattle.zp_model.specs.Frames.{with_area}
use Rattle.zp_model.specs.PageblockType.{pageblock_type_number, pageblock_types}
use Rattle.zp_model.specs.Rows.{stands_in}
use Rattle.zp_model.specs.Area.{belongs, falling, kind_at, settled}
use Rattle.zp_model.specs.Take.{retype}
use Rattle.zp_model.proofs.Covers.{length-cover}
use Rattle.zp_model.proofs.MaximalBlocks.{max-unique}
use Rattle.zp_laws.proofs.Counting.{same_tests}
use Rattle.zp_area.specs.Blocks.{Blocks, block_set}
use Rattle.zp_area.specs.Retyped.{is_to_stand, relisted, retyped}
use Rattle.zp_area.proofs.Retyping.{free-relisted, aside-relisted, length-relisted}
use Rattle.zp_buddy.specs.Choices.{frames_in}
use Rattle.zp_buddy.specs.Held.{IsHeld}
use Rattle.zp_buddy.specs.Sound.{IsSound}
use Rattle.zp_buddy.proofs.Settled.{IsSettled, restated_same, settled_frames, settled_sound}
use Rattle.zp_model.proofs.Pages.{is_order-to}

-- whether a block of this order starts at a page, and whether a maximal one does
pub starts_maximal : (m : ℕ) (a : Blocks) (k h : ℕ) → IsSound m a.rows.states a.kinds a.rows.lists → is_order k (get_or (block_set a) h None) ≡ is_max m (cover (block_set a)) h k
starts_maximal m a k h x =
    let u = max-unique m (Starts (block_set a)) (cover (block_set a)) x.normal h k in
    same_tests _ _ (λ e. u.0 (is_order-to k _ e)) (λ e. ap (is_order k) (u.1 e) ∙ eq-eqb k k refl)

-- what is to stand on a list belongs on it
relisted_settled : (m : ℕ) (a : Blocks) (kinds : List PageblockType) (r : ℕ) (old : List ℕ) → IsSound m a.rows.states a.kinds a.rows.lists →
    relisted m (block_set a) kinds r old ≡ settled m (cover (block_set a)) kinds r old
unfolding relisted settled belongs
relisted_settled m a kinds r old x =
    let s = block_set a in
    let same : (λ (h : ℕ). is_to_stand m s kinds r h) ≡ (λ (h : ℕ). belongs m (cover s) kinds r h) =
    λ i h. starts_maximal m a (r / pageblock_types) h x i && (pageblock_type_number (kind_at m kinds h) == r % pageblock_types) in
    ap (λ n. filter (λ h. is_to_stand m s kinds r h && not (stands_in h old)) (falling n) ++ filter (is_to_stand m s kinds r) old) (sym (length-cover s))
    ∙ ap (λ (p : ℕ → Bool). filter (λ h. p h && not (stands_in h old)) (falling (length (cover s))) ++ filter p old) same

-- the lists under the new type are settled
retyped_settles : (m : ℕ) (a : Blocks) (b : ℕ) (t : PageblockType) → IsSound m a.rows.states a.kinds a.rows.lists →
    IsSettled m (cover (block_set a)) a.rows.states a.rows.states (set a.kinds b t) a.rows.lists (retyped m a b t).rows.lists
retyped_settles m a b t x =
    let kinds : List PageblockType = set a.kinds b t in
    record {
      normal = x.normal;
      free = refl;
      restates = λ g. restated_same _;
      distinct = λ r lt. (x.listed r lt).distinct;
      settles = λ r lt. sym (free-relisted m a kinds r lt ∙ relisted_settled m a kinds r _ x);
      stays = λ r ge. aside-relisted m a kinds r ge;
      aside = x.aside;
      most = x.pages;
      enough = x.table;
      pages = refl;
      table = length-relisted m a kinds x.table;
    }

pub retyped_frames : (m : ℕ) (a : Blocks) (b : ℕ) (t : PageblockType) → IsSound m a.rows.states a.kinds a.rows.lists →
    frames_in m (retyped m a b t) ≡ with_area (frames_in m a) (retype (frames_in m a).area b t)
unfolding retype
retyped_frames m a b t x = settled_frames (retyped_settles m a b t x)

-- so the area is sound and held still
pub held_retyped : (m : ℕ) (a : Blocks) (b : ℕ) (t : PageblockType) (free : ℕ) → IsHeld m a free → IsHeld m (retyped m a b t) free
held_retyped m a b t free x = record {
  sound = settled_sound (retyped_settles m a b t x.sound);
  typed = length-set a.kinds b t ∙ x.typed;
  counted = x.counted;
}
