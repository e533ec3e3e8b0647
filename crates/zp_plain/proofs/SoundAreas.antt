-- Areas that are opened, changed and settled are sound.
use Rattle.std.proofs.Common.{ℕ, ◌≡◌, ◌≤◌, refl, sym, ◌∙◌, ap, arith, Bool, List, length, length-set, ◌==◌, true, [], replicate}
use Rattle.zp_plain.specs.declared.room.TheConstants.{PLAIN_PAGES}
use Rattle.zp_model.specs.declared.pageblock_type.PageblockType.{PageblockType}
use Rattle.zp_model.specs.Area.{Area, pageblocks_of, settle, lists_count, opening}
use Rattle.zp_model.specs.Runs.{give_run, leave_run}
use Rattle.zp_model.specs.Take.{retype}
use Rattle.zp_model.specs.Lawful.{IsListedArea}
use Rattle.zp_model.proofs.RunParts.{length-with_pages, length-without_pages}
use Rattle.zp_laws.proofs.Settling.{belongs_below, opening_lists}
use Rattle.zp_laws.proofs.Areas.{free-give_run, kinds-give_run, lists-give_run, free-leave_run, kinds-leave_run, lists-leave_run, free-retype, kinds-retype, lists-retype, largest-give_run, largest-leave_run, largest-retype}
use Rattle.zp_plain.specs.Sound.{IsSoundArea, IsTable}
use Rattle.std.specs.List.{IsDistinct}
use Rattle.std.proofs.lemmas.Bool.{false≢true}
use Rattle.std.proofs.lemmas.List.{length-replicate}
use Rattle.zp_model.specs.declared.pageblock_type.PageblockType.TheVariants.{Movable}
use Rattle.zp_model.specs.declared.state.State.TheVariants.{Tail}
use Rattle.zp_model.specs.Rows.{list_at, stands_in}
use Rattle.zp_model.proofs.RowLists.{replicated}
use Rattle.zp_model.specs.Frames.{IsFramed, with_area}
use Rattle.zp_laws.proofs.Opening.{free-opening, largest-opening, kinds-opening}
use Rattle.zp_plain.proofs.Framed.{framed_with}

-- as many marks and types as before, over the lists of a sound area
pub table_of : (u : List Bool) (ks : List PageblockType) (a : Area) → IsSoundArea a → length u ≡ length a.free → length ks ≡ length a.kinds → IsTable a.largest u ks a.lists
table_of u ks a x n m = record {
  small = omega (arith, x.small);
  typed = rw (m, n) x.typed;
  table = x.lists.table;
  distinct = x.lists.distinct;
  inside = λ r p lt e. omega (arith, belongs_below a.largest a.free a.kinds r p (sym (x.lists.held r p lt) ∙ e));
}

-- the fields after a settling are the settled area
pub settled_as : (m : ℕ) (u v : List Bool) (ks js : List PageblockType) (ls xs : List (List ℕ)) → v ≡ u → js ≡ ks → xs ≡ (settle (record { largest = m; free = v; kinds = js; lists = ls })).lists →
    (let a : Area = record { largest = m; free = u; kinds = ks; lists = xs } in a) ≡ settle (record { largest = m; free = u; kinds = ks; lists = ls })
unfolding settle
settled_as m u v ks js ls xs e f g = rw (g, e, f) refl

sound_as : (a b : Area) → IsSoundArea a → b.largest ≡ a.largest → length b.free ≡ length a.free → length b.kinds ≡ length a.kinds → IsListedArea b → IsSoundArea b
sound_as a b x top n m l = record { small = omega (arith, x.small); typed = rw (m, top, n) x.typed; lists = l }

pub sound_give_run : (a : Area) (h n : ℕ) → IsSoundArea a → IsSoundArea (give_run a h n)
sound_give_run a h n x =
    sound_as a (give_run a h n) x (largest-give_run a h n) (ap length (free-give_run a h n) ∙ length-with_pages a.free h n) (ap length (kinds-give_run a h n)) (lists-give_run a h n x.lists)

pub sound_leave_run : (a : Area) (h n : ℕ) → IsSoundArea a → IsSoundArea (leave_run a h n)
sound_leave_run a h n x =
    sound_as a (leave_run a h n) x (largest-leave_run a h n) (ap length (free-leave_run a h n) ∙ length-without_pages a.free h n) (ap length (kinds-leave_run a h n)) (lists-leave_run a h n x.lists)

pub sound_retype : (a : Area) (b : ℕ) (t : PageblockType) → IsSoundArea a → IsSoundArea (retype a b t)
sound_retype a b t x =
    sound_as a (retype a b t) x (largest-retype a b t) (ap length (free-retype a b t)) (ap length (kinds-retype a b t) ∙ length-set a.kinds b t) (lists-retype a b t x.lists)

none_on : (n r p : ℕ) → stands_in p (list_at (replicate n []) r) ≡ true → ⊥
none_on n r p e = false≢true (rw (replicated {X = List ℕ} n r []) at e)

distinct-nil : IsDistinct (λ x y. x == y) []
unfolding IsDistinct
distinct-nil = tt

pub table_none : (m pages : ℕ) → pages ≤ PLAIN_PAGES → IsTable m (replicate pages true) (replicate (pageblocks_of m pages) Movable) (replicate (lists_count m) [])
table_none m pages le = record {
  small = omega (arith, length-replicate pages true);
  typed = rw (length-replicate (pageblocks_of m pages) Movable, length-replicate pages true) refl;
  table = length-replicate {A = List ℕ} (lists_count m) [];
  distinct = λ r lt. rw (replicated {X = List ℕ} (lists_count m) r []) distinct-nil;
  inside = λ r p lt e. absurd (none_on (lists_count m) r p e);
}

pub sound_opening : (m pages : ℕ) → pages ≤ PLAIN_PAGES → IsSoundArea (opening m pages)
sound_opening m pages le =
    let n : length (opening m pages).free ≡ pages = ap length (free-opening m pages) ∙ length-replicate pages true in
    record { small = omega arith; typed = rw (kinds-opening m pages, largest-opening m pages, n) (length-replicate (pageblocks_of m pages) Movable); lists = opening_lists m pages }

-- the frames of the opening, whose notes are restated
pub framed_opening : (m pages side : ℕ) → IsFramed (with_area (record { area = opening m pages; states = replicate pages Tail; sides = replicate side [] }) (opening m pages))
framed_opening m pages side =
    framed_with (record { area = opening m pages; states = replicate pages Tail; sides = replicate side [] }) (opening m pages)
    (rw (free-opening m pages) (length-replicate pages true ∙ sym (length-replicate pages Tail)))
    (rw (kinds-opening m pages, largest-opening m pages, length-replicate pages Tail) (length-replicate (pageblocks_of m pages) Movable)) (λ r p e. absurd (none_on side r p e))
