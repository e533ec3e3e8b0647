-- What a change of one page leaves of where the others stand (this profile).
use Rattle.std.specs.Prelude.{ℕ, ◌≡◌, ◌≢◌, List}
use Rattle.zp_model.specs.Rows.{list_at, stands_in}

-- each page but p stands where it stood
abbrev pub StandAsBefore : ℕ → List (List ℕ) → List (List ℕ) → Type 0
StandAsBefore p before after = (r q : ℕ) → q ≢ p → stands_in q (list_at after r) ≡ stands_in q (list_at before r)
