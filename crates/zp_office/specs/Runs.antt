-- What becomes of a row of desks whose workers run in threads, and of their readers (this profile).
use Rattle.std.specs.Prelude.{ℕ, ◌≡◌, ◌<◌, List, All, Some, length, slice_get, take, drop, Result, OnOk, OnErr, IfErr}
use Rattle.std.specs.Global.{Vec}
use Rattle.std.specs.List.{AllZip}
use Rattle.zp_model.specs.declared.refused.Refused.{Refused}
use Rattle.zp_model.specs.declared.refused.Refused.TheVariants.{NoThread}
use Rattle.zp_counts.specs.CountBoards.{BoardState}
use Rattle.zp_counts.specs.CountBoards.{CountsSeen}
use Rattle.zp_zone.specs.Seats.{ZoneState}
use Rattle.zp_share.specs.ZoneShares.{SharesIn}
use Rattle.zp_share.specs.Shares.{ZoneKey, share_at}
use Rattle.zp_office.specs.Desks.{DeskState, IsWorked}
use Rattle.zp_shared.specs.Rows.{AreReaders}

-- the first k workers, which are not all, carried out their scripts, and the other desks are as they were
abbrev pub IsStoppedAt : ℕ → List DeskState → List DeskState → Type 0
IsStoppedAt k ds es = (k < length ds) × AllZip IsWorked (take k ds) (take k es) × (drop k es ≡ drop k ds)

-- so it is for some k
abbrev pub IsStopped : List DeskState → List DeskState → Type 0
IsStopped ds es = (k : ℕ) × IsStoppedAt k ds es

-- all of them carried out their scripts, or one of them had no thread
abbrev pub IsRun : Result (Unit {0}) Refused → List DeskState → List DeskState → Type 0
IsRun r ds es = OnOk r (AllZip IsWorked ds es) × IfErr r (λ e. e ≡ NoThread) × OnErr r (IsStopped ds es)

-- the worker at this desk has a reader of each zone
abbrev pub IsLentTo : List ZoneKey → List BoardState → Vec CountsSeen → DeskState → Type 0
IsLentTo keys boards rs d = AreReaders keys boards rs

-- the desk's share agrees with each of the zones: the blocks out in its worker's name are what the share has, and the entries of its
-- worker are the share's sections
abbrev pub HaveShare : List ZoneState → DeskState → Type 0
HaveShare zs d = (i : ℕ) (z : ZoneState) → slice_get zs i ≡ Some z → SharesIn z (share_at d.share i)

abbrev pub HaveShares : List ZoneState → List DeskState → Type 0
HaveShares zs ds = All (HaveShare zs) ds
