-- What a worker's commands leave of a row's readings (this profile).
use Rattle.std.specs.Prelude.{ℕ, ◌≡◌, ◌⊎◌}
use Rattle.zp_share.specs.Shares.{ShareState, sections_at}

-- Before and after some commands, `covers i n` says of a row that its readings of zone i cover n of the worker's sections with it: how, the row
-- says. What was covered is so still; and where sections were made with a zone, they are all covered
pub record CoversOwn (before after : ℕ → ℕ → Type 0) (s u : ShareState) : Type 0 where
  pub still : (i n : ℕ) → before i n → after i n
  pub own : (i : ℕ) → (sections_at u i ≡ sections_at s i) ⊎ after i (sections_at u i)
