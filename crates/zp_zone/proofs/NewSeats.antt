-- The seats that a zone is made with: they are its own, and no request was made with them.
use Rattle.std.proofs.Common.{ℕ, ◌≡◌, refl, sym, ◌∙◌, ap, List, All, length, get_or, replicate, None}
use Rattle.std.specs.List.{range_with_len}
use Rattle.std.proofs.Math.ListN.{get_or-map}
use Rattle.std.proofs.lemmas.List.{length-map, length-replicate, get_or_default}
use Rattle.std.proofs.lemmas.List.FromFn.{length-range_with_len}
use Rattle.atomic_table.specs.Seated.{TableId}
use Rattle.zp_model.specs.Zone.{zone_opening}
use Rattle.zp_model.specs.Books.{Books, only, part, opened}
use Rattle.zp_laws.proofs.BooksShape.{length-own}
use Rattle.zp_zone.proofs.OpeningZone.{map-replicate}
use Rattle.zp_zone.specs.Seats.{SeatState, IsUnused, seats_of}

-- worker w's seat
abbrev seat_of : TableId → Books → ℕ → SeatState
seat_of t b w = record { tie = t; worker = w; part = part w b }

-- what holds of each worker's seat holds of all of them
all_seats : (P : SeatState → Type 0) (t : TableId) (b : Books) (n : ℕ) → ((w : ℕ) → P (seat_of t b w)) → All P (seats_of t b n)
all_seats P t b n f k d lt =
    let m : length (seats_of t b n) ≡ n = length-map (range_with_len 0 n) (seat_of t b) ∙ length-range_with_len 0 n in
    let at : get_or (seats_of t b n) k d ≡ seat_of t b (get_or (range_with_len 0 n) k 0) =
    get_or_default (seats_of t b n) k d (seat_of t b 0) lt ∙ get_or-map (seat_of t b) (range_with_len 0 n) k 0 in
    rw at (f (get_or (range_with_len 0 n) k 0))

-- all are of one tie
pub seats_fit : (t u : TableId) (seats : List SeatState) (b : Books) (n : ℕ) → t ≡ u → seats ≡ seats_of t b n → All (λ (s : SeatState). s.tie ≡ u) seats
seats_fit t u seats b n same e = rw e (all_seats (λ s. s.tie ≡ u) t b n (λ w. same))

pub seats_unused : (t : TableId) (seats : List SeatState) (m base pages min workers n : ℕ) (b : Books) → b ≡ opened (zone_opening m base pages min workers) → seats ≡ seats_of t b n → All IsUnused seats
seats_unused t seats m base pages min workers n b f e =
    let none : (w : ℕ) → IsUnused (seat_of t (opened (zone_opening m base pages min workers)) w) = λ w. record {
      blocks = map-replicate (only w) None pages ∙ ap (λ (q : ℕ). replicate q None) (sym (length-own w (replicate pages None) ∙ length-replicate pages None));
      entries = refl;
    } in
    rw e (all_seats IsUnused t b n (rw f none))
