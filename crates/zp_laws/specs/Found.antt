-- A free block that is large enough.
use Rattle.std.specs.Prelude.{ℕ, ◌≤◌, ◌≡◌, Bool, true, List}
use Rattle.zp_model.specs.Block.{is_max}

-- at page h starts a maximal block of the set, of order k or more, where no block has an order above m
pub record IsFound (m : ℕ) (free : List Bool) (k h : ℕ) : Type 0 where
  pub order : ℕ
  pub enough : k ≤ order
  pub maximal : is_max m free h order ≡ true
