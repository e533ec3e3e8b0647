-- Moving the free block at a page to the list of another type.
use Rattle.std.specs.Prelude.{ℕ, ◌∷◌, ◌^◌}
use Rattle.zp_model.specs.declared.pageblock_type.PageblockType.{PageblockType}
use Rattle.zp_model.specs.declared.state.State.{State}
use Rattle.zp_model.specs.declared.state.State.TheVariants.{Tail, Free, Out, Posted}
use Rattle.zp_model.specs.Rows.{Rows, list_at, with_list, without_page}
use Rattle.zp_model.specs.Area.{list_number}

-- page h goes from list q to the front of list r
abbrev pub put_first : Rows → ℕ → ℕ → ℕ → Rows
put_first w h q r =
    let v : Rows = with_list w q (without_page h (list_at w.lists q)) in
    with_list v r (h ∷ list_at v.lists r)

-- where page h heads a free block, it goes from the list of type f to the front of that of type t
abbrev pub moved : Rows → ℕ → PageblockType → PageblockType → State → Rows
moved w h f t (Free k) = put_first w h (list_number k f) (list_number k t)
moved w h f t Tail = w
moved w h f t (Out k u p) = w
moved w h f t (Posted k u p) = w

-- how many pages are seen at a page in this state: those of the free block that it heads, or this one
abbrev pub pages_seen : State → ℕ
pages_seen (Free k) = 2 ^ k
pages_seen Tail = 1
pages_seen (Out k u p) = 1
pages_seen (Posted k u p) = 1
