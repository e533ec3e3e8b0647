-- The state of a page of a zone: what the zone notes of its block, and whether its worker has it lent or in a list.
use Rattle.std.specs.Prelude.{ℕ, ◌≡◌, ◌+◌, ◌<◌, ◌≤◌, Bool, true, cond, List, [], length, slice_get, Option, None, Some}
use Rattle.zp_model.specs.declared.constants.TheConstants.{BASE_LIMIT}
use Rattle.zp_model.specs.declared.state.State.{State}
use Rattle.zp_model.specs.declared.state.State.TheVariants as noted
use Rattle.zp_model.specs.Block.{in_run}
use Rattle.zp_model.specs.Zone.{PlainZone, pages_of}
use Rattle.zp_zone.specs.NamedZone.{IsPageOf}
use Rattle.zp_view.specs.declared.states.PageBlock.{PageBlock}
use Rattle.zp_view.specs.declared.page_state.PageState.{PageState}
use Rattle.zp_view.specs.declared.page_state.PageState.TheVariants as state
use Rattle.zp_view.specs.Blocks.{LiesInBlock}

-- whether a worker has the block at an absolute page, of an order, lent: what is out to a worker and not lent to it is in one of its lists
abbrev pub Lending : Type 0
Lending = ℕ → ℕ → ℕ → Bool

-- the state of the pages of a block, by what is noted at its first page
abbrev pub IsStateOf : Lending → ℕ → State → PageState → Type 0
IsStateOf lent first noted.Tail s = ⊥
IsStateOf lent first (noted.Free k) s = s ≡ state.Free k
IsStateOf lent first (noted.Out k t w) s = s ≡ cond (lent w first k) (state.Out w) (state.Cached w)
IsStateOf lent first (noted.Posted k t w) s = s ≡ state.Posted w

-- absolute page p of the zone is in this state: that of the block that it lies in
pub record IsPageState (lent : Lending) (z : PlainZone) (p : ℕ) (s : PageState) : Type 0 where
  pub first : ℕ
  pub noted : State
  pub lies : LiesInBlock z p first noted
  pub state : IsStateOf lent first noted s

-- the order of the block that is noted, where one is
abbrev pub order_noted : State → Option ℕ
order_noted noted.Tail = None
order_noted (noted.Free k) = Some k
order_noted (noted.Out k t w) = Some k
order_noted (noted.Posted k t w) = Some k

-- absolute page p of the zone lies in this block
pub record IsPageBlock (lent : Lending) (z : PlainZone) (p : ℕ) (b : PageBlock) : Type 0 where
  pub noted : State
  pub lies : LiesInBlock z p b.first noted
  pub order : order_noted noted ≡ Some b.order
  pub state : IsStateOf lent b.first noted b.state

-- all its pages do
abbrev pub IsWhole : Lending → PlainZone → PageBlock → Type 0
IsWhole lent z b = (p : ℕ) → in_run b.first b.order p ≡ true → IsPageBlock lent z p b

-- the row has the states of the pages from p on, in order
abbrev pub AreStatesFrom : Lending → PlainZone → ℕ → List PageState → Type 0
AreStatesFrom lent z p row = (k : ℕ) (s : PageState) → slice_get row k ≡ Some s → IsPageState lent z (p + k) s

-- as many as the zone has pages, up to the first that is none of its own, and none where page p lies above the base of each zone
pub record IsRowFrom (lent : Lending) (z : PlainZone) (p : ℕ) (row : List PageState) : Type 0 where
  pub states : AreStatesFrom lent z p row
  pub few : length row ≤ pages_of z
  pub ends : p ≤ BASE_LIMIT → length row < pages_of z → IsPageOf z (p + length row) → ⊥
  pub high : BASE_LIMIT < p → row ≡ []

-- the row has the state of each page of the zone, in order
pub record IsRowOf (lent : Lending) (z : PlainZone) (row : List PageState) : Type 0 where
  pub pages : length row ≡ pages_of z
  pub states : AreStatesFrom lent z z.base row
