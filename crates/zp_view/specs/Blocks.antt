-- The block that has a page of a zone: a free one, one that is out, or a posted one.
use Rattle.std.specs.Prelude.{ℕ, ◌≡◌, ◌≤◌, ◌-◌, Bool, true, false}
use Rattle.zp_model.specs.declared.state.State.{State}
use Rattle.zp_model.specs.declared.state.State.TheVariants.{Tail, Free, Out, Posted}
use Rattle.zp_model.specs.Block.{in_run}
use Rattle.zp_model.specs.Described.{IsNoted}
use Rattle.zp_model.specs.Zone.{PlainZone}

-- whether the block that is noted at its first page has this page; where none is noted, none has it
abbrev pub reaches : State → ℕ → ℕ → Bool
reaches Tail first page = false
reaches (Free k) first page = in_run first k page
reaches (Out k t w) first page = in_run first k page
reaches (Posted k t w) first page = in_run first k page

-- the absolute page lies in the block that begins at another, which is what is noted there
pub record LiesInBlock (z : PlainZone) (page first : ℕ) (state : State) : Type 0 where
  pub from : z.base ≤ first
  pub noted : IsNoted z (first - z.base) state
  pub reached : reaches state first page ≡ true
