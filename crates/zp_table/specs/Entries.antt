-- A table of page entries, and what each set leaves of it.
use Rattle.std.specs.Prelude.{ℕ, ◌≡◌, ◌<◌, List, length, Option, None, slice_index_or, slice_set}
use Rattle.zp_model.specs.declared.state.State.{State}
use Rattle.zp_model.specs.declared.state.State.TheVariants.{Tail}
use Rattle.zp_table.specs.declared.entry.PageEntry.{PageEntry}

-- the entry of a page that heads no block and stands on no list
abbrev pub blank : PageEntry
blank = record { state = Tail; back = None; forward = None }

abbrev pub entry_at : List PageEntry → ℕ → PageEntry
entry_at t p = slice_index_or t p blank

-- no page has a link
abbrev pub IsUnlinked : List PageEntry → Type 0
IsUnlinked t = (p : ℕ) → p < length t → ((entry_at t p).back ≡ None) × ((entry_at t p).forward ≡ None)

-- the table with another entry of page p
abbrev pub with_entry_at : List PageEntry → ℕ → PageEntry → List PageEntry
with_entry_at t p e = slice_set t p e

-- the table with another state, or other links, in the entry of page p
abbrev pub with_state_at : List PageEntry → ℕ → State → List PageEntry
with_state_at t p s = slice_set t p (record (entry_at t p) { state = s })

abbrev pub with_links_at : List PageEntry → ℕ → Option ℕ → Option ℕ → List PageEntry
with_links_at t p b f = slice_set t p (record (entry_at t p) { back = b; forward = f })

abbrev pub with_back_at : List PageEntry → ℕ → Option ℕ → List PageEntry
with_back_at t p b = slice_set t p (record (entry_at t p) { back = b })

abbrev pub with_forward_at : List PageEntry → ℕ → Option ℕ → List PageEntry
with_forward_at t p f = slice_set t p (record (entry_at t p) { forward = f })
