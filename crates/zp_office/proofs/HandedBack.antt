-- Zones that were shared and came back: their keys, the room of their journals, and the shares of the desks.
use Rattle.std.proofs.Common.{ℕ, ◌≡◌, ◌∙◌, List, [], ◌∷◌, All, length, map, refl, ap₂}
use Rattle.std.specs.Prelude.{replicate}
use Rattle.std.specs.List.{AllZip}
use Rattle.std.proofs.lemmas.List.Elements.{All-head, All-tail}
use Rattle.zp_counts.specs.CountBoards.{BoardState}
use Rattle.zp_share.specs.Shares.{ZoneKey, IsShareOf}
use Rattle.zp_shared.specs.Rows.{OpenedState, opened_board}
use Rattle.zp_shared.proofs.Places.{zip_all}
use Rattle.zp_office.specs.Desks.{DeskState, IsReady, IsWorked}

-- the boards of opened zones have the room that was asked for
pub rooms_same : (os : List OpenedState) (capacity : ℕ) → All (λ (o : OpenedState). o.board.capacity ≡ capacity) os → map (λ (b : BoardState). b.capacity) (map opened_board os) ≡ replicate (length os) capacity
rooms_same [] capacity all = refl
rooms_same (o ∷ os) capacity all =
    ap₂ (λ n l. n ∷ l) (All-head (λ (x : OpenedState). x.board.capacity ≡ capacity) o os all) (rooms_same os capacity (All-tail (λ (x : OpenedState). x.board.capacity ≡ capacity) o os all))

-- the shares of desks that were worked are of the same row
pub worked_fit : (keys : List ZoneKey) (ds es : List DeskState) → All (IsReady keys) ds → AllZip IsWorked ds es → All (λ (d : DeskState). IsShareOf keys d.share) es
worked_fit keys ds es ready zip = zip_all (IsReady keys) (λ (d : DeskState). IsShareOf keys d.share) IsWorked (λ d e r w. w.ties ∙ r.fits) ds es ready zip
