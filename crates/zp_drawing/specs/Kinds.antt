-- What a picture tells apart of pages, and its place among all: the order is this profile's.
use Rattle.std.specs.Prelude.{ℕ, ◌≤◌, ◌<◌, ◌+◌, min}
use Rattle.zp_model.specs.declared.constants.TheConstants.{LARGEST_ORDER, MAX_WORKERS}
use Rattle.zp_view.specs.declared.page_state.PageState.{PageState}
use Rattle.zp_view.specs.declared.page_state.PageState.TheVariants as state
use Rattle.zp_drawing.specs.declared.cells.Kind.{Kind}
use Rattle.zp_drawing.specs.declared.cells.Kind.TheVariants.{Free, Out, Cached, Posted}

-- the kind of the pages in a state
abbrev pub kind_of : PageState → Kind
kind_of (state.Free k) = Free k
kind_of (state.Out w) = Out w
kind_of (state.Cached w) = Cached w
kind_of (state.Posted w) = Posted

-- free pages by order, of which there are 11; behind them those out to each of 32 workers, those in the lists of each, and posted ones
abbrev pub kind_number : Kind → ℕ
kind_number (Free k) = min k 10
kind_number (Out w) = 11 + min w 31
kind_number (Cached w) = 43 + min w 31
kind_number Posted = 75

-- whether there is an order or a worker of this number
abbrev pub Occurs : Kind → Type 0
Occurs (Free k) = k ≤ LARGEST_ORDER
Occurs (Out w) = w < MAX_WORKERS
Occurs (Cached w) = w < MAX_WORKERS
Occurs Posted = Unit {0}
