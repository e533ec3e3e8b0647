-- A row of desks from its first one on, when their workers run, and their rows of readers.
use Rattle.std.proofs.Common.{◌≡◌, zero, suc, List, [], ◌∷◌, length, map, refl, sym, subst, All, arith}
use Rattle.std.specs.Global.{Vec}
use Rattle.std.specs.List.{AllZip}
use Rattle.zp_counts.specs.CountBoards.{BoardState}
use Rattle.zp_counts.specs.CountBoards.{CountsSeen}
use Rattle.zp_share.specs.Shares.{ZoneKey}
use Rattle.zp_shared.specs.Rows.{AreKept, AreReaders, OpenedState, opened_board, opened_key}
use Rattle.zp_shared.proofs.Opening.{zip_from_all}
use Rattle.zp_shared.proofs.Readers.{kept_same}
use Rattle.std.specs.Prelude.{Result, Ok, Err}
use Rattle.zp_model.specs.declared.refused.Refused.{Refused}
use Rattle.zp_model.specs.declared.refused.Refused.TheVariants.{NoThread}
use Rattle.zp_office.specs.Desks.{DeskState, IsWorked}
use Rattle.zp_office.specs.Runs.{IsLentTo, IsRun, IsStopped}

pub all_front : {X : Type 0} (P : X → Type 0) (xs : List X) (x : X) (rest : List X) → All P xs → xs ≡ x ∷ rest → P x
all_front P xs x rest h is = subst (λ ys. All P ys) is h zero x (omega arith)

pub all_back : {X : Type 0} (P : X → Type 0) (xs : List X) (x : X) (rest : List X) → All P xs → xs ≡ x ∷ rest → All P rest
all_back P xs x rest h is = λ k d lt. subst (λ ys. All P ys) is h (suc k) d (omega arith)

-- no worker has begun
pub none_ran : (d e : DeskState) (ds es : List DeskState) → e ≡ d → es ≡ ds → IsRun (Err NoThread) (d ∷ ds) (e ∷ es)
none_ran d e ds es same sames =
    subst (λ f. IsRun (Err NoThread) (d ∷ ds) (f ∷ es)) (sym same)
    (subst (λ fs. IsRun (Err NoThread) (d ∷ ds) (d ∷ fs)) (sym sames) (tt, refl, (zero, (omega arith, tt, refl))))

stopped_later : (d e : DeskState) (ds es : List DeskState) → IsWorked d e → IsStopped ds es → IsStopped (d ∷ ds) (e ∷ es)
stopped_later d e ds es a s = (suc s.0, (omega (arith, s.1.0), (a, s.1.1), s.1.2))

-- the first worker has done its work beside the rest
pub one_more_ran : (r : Result (Unit {0}) Refused) (d e : DeskState) (ds es : List DeskState) → IsWorked d e → IsRun r ds es → IsRun r (d ∷ ds) (e ∷ es)
one_more_ran (Ok u) d e ds es a h = ((a, h.0), tt, tt)
one_more_ran (Err x) d e ds es a h = (tt, h.1, stopped_later d e ds es a h.2)

-- each worker has a row of readers, where there are as many rows as desks
pub rows_lent : (os now : List OpenedState) (rows lent : List (Vec CountsSeen)) (ds : List DeskState) → now ≡ os → lent ≡ rows →
    All (AreReaders (map opened_key os) (map opened_board os)) rows → length rows ≡ length ds → AllZip (IsLentTo (map opened_key now) (map opened_board now)) lent ds
rows_lent os now rows lent ds same same_rows fit many =
    subst (λ l. AllZip (IsLentTo (map opened_key l) (map opened_board l)) lent ds) (sym same)
    (subst (λ l. AllZip (IsLentTo (map opened_key os) (map opened_board os)) l ds) (sym same_rows)
    (zip_from_all (AreReaders (map opened_key os) (map opened_board os)) rows ds fit many))

-- rows of readers that are as they were are kept
pub rows_kept : (keys : List ZoneKey) (boards : List BoardState) (rows : List (Vec CountsSeen)) (ds : List DeskState) → AllZip (IsLentTo keys boards) rows ds
    → AllZip (AreKept keys boards) rows rows
rows_kept keys boards [] ds fit = tt
rows_kept keys boards (v ∷ rows) (d ∷ ds) fit = (kept_same keys boards v.items v.items refl fit.0, rows_kept keys boards rows ds fit.1)
rows_kept keys boards (v ∷ rows) [] fit = absurd fit

pub rows_kept_same : (keys : List ZoneKey) (boards : List BoardState) (vs ws : List (Vec CountsSeen)) (ds : List DeskState) → ws ≡ vs → AllZip (IsLentTo keys boards) vs ds
    → AllZip (AreKept keys boards) vs ws
rows_kept_same keys boards vs ws ds e fit = subst (AllZip (AreKept keys boards) vs) (sym e) (rows_kept keys boards vs ds fit)
