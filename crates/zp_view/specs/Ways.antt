-- What stands in the way of a block: which run of a zone's pages has the fewest in use, and whose these are.
use Rattle.std.specs.Prelude.{ℕ, ◌≡◌, ◌≤◌, ◌<◌, ◌+◌, ◌%◌, ◌^◌, ◌==◌, Bool, true, false, List, length, take, drop}
use Rattle.std.specs.List.{count_by}
use Rattle.zp_view.specs.declared.page_state.PageState.{PageState}
use Rattle.zp_view.specs.declared.page_state.PageState.TheVariants.{Free, Out, Posted, Cached}

-- whether a page of this state is in use: out to a worker, in a worker's list, or posted
abbrev pub is_used : PageState → Bool
is_used (Free k) = false
is_used (Out w) = true
is_used (Posted w) = true
is_used (Cached w) = true

-- whether the page is lent to worker w, lies in a list of w's, or is posted to w
abbrev pub is_out_to : ℕ → PageState → Bool
is_out_to w (Out v) = v == w
is_out_to w s = false

abbrev pub is_cached_by : ℕ → PageState → Bool
is_cached_by w (Cached v) = v == w
is_cached_by w s = false

abbrev pub is_posted_to : ℕ → PageState → Bool
is_posted_to w (Posted v) = v == w
is_posted_to w s = false

-- the pages of the run of order k from place a on, in a row of a zone's pages
abbrev pub run_at : List PageState → ℕ → ℕ → List PageState
run_at row k a = take (2 ^ k) (drop a row)

-- how many pages of that run are in use
abbrev pub used_in : List PageState → ℕ → ℕ → ℕ
used_in row k a = count_by is_used (run_at row k a)

-- place a begins an aligned run of order k of the row
pub record IsRun (row : List PageState) (k a : ℕ) : Type 0 where
  pub aligned : a % 2 ^ k ≡ 0
  pub inside : a + 2 ^ k ≤ length row

-- such a run has no fewer pages in use than the one at a, and more where it lies before that
pub record IsNoBetter (row : List PageState) (k a b : ℕ) : Type 0 where
  pub fewest : used_in row k a ≤ used_in row k b
  pub lowest : b < a → used_in row k a < used_in row k b

-- of the aligned runs of order k the one at place a has the fewest pages in use, and is the lowest of those
pub record IsLeastUsed (row : List PageState) (k a : ℕ) : Type 0 where
  pub run : IsRun row k a
  pub least : (b : ℕ) → IsRun row k b → IsNoBetter row k a b
