-- What noting and listing the pages of a zone as free has come to.
use Rattle.std.specs.Prelude.{ℕ, ◌≡◌, ◌≤◌, ◌<◌, ◌↔◌, ◌⊎◌, Bool, true, List, [], length, replicate, filter}
use Rattle.zp_model.specs.declared.pageblock_type.PageblockType.{PageblockType}
use Rattle.zp_model.specs.declared.pageblock_type.PageblockType.TheVariants.{Movable}
use Rattle.zp_model.specs.declared.state.State.{State}
use Rattle.zp_model.specs.declared.state.State.TheVariants.{Tail, Free}
use Rattle.zp_model.specs.Block.{is_max}
use Rattle.zp_model.specs.Rows.{list_at, state_at}
use Rattle.zp_model.specs.Area.{lists_count, pageblocks_of, belongs, falling}

-- all pages of a zone of n pages
abbrev pub all_pages : ℕ → List Bool
all_pages n = replicate n true

abbrev pub all_movable : ℕ → ℕ → List PageblockType
all_movable m n = replicate (pageblocks_of m n) Movable

-- of n pages, the maximal blocks that start below page a are noted as free and listed, and nothing else is
pub record IsOpenedTo (m n a : ℕ) (s : List State) (l : List (List ℕ)) : Type 0 where
  pub heads : (g k : ℕ) → g < a → (is_max m (all_pages n) g k ≡ true) ↔ (state_at s g ≡ Free k)
  pub others : (g : ℕ) → ((k : ℕ) × (state_at s g ≡ Free k)) ⊎ (state_at s g ≡ Tail)
  pub tails : (g : ℕ) → a ≤ g → state_at s g ≡ Tail
  pub listed : (r : ℕ) → r < lists_count m → list_at l r ≡ filter (belongs m (all_pages n) (all_movable m n) r) (falling a)
  pub aside : (r : ℕ) → lists_count m ≤ r → list_at l r ≡ []
  pub pages : length s ≡ n
