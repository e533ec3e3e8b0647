-- What a seat needs for a request, whatever is asked, and what the zone's reply gives it (this profile).
use Rattle.std.specs.Prelude.{ℕ, ◌≡◌, ◌<◌, ◌≤◌, List, IsTrue, All, length}
use Rattle.zp_model.specs.declared.constants.TheConstants.{MAX_BATCH}
use Rattle.zp_model.specs.declared.request.Request.{Request}
use Rattle.zp_model.specs.declared.request.Reply.{Reply}
use Rattle.zp_model.specs.Run.{is_distinct}
use Rattle.zp_model.specs.Runs.{may_alloc_run}
use Rattle.zp_zone.specs.Seats.{SeatState, AreNewTo, HasPages, IsNewTo, has, has_run}

-- the seat may ask a zone of so many workers: it has each block that it names
abbrev pub MaySeatAsk : ℕ → Request → SeatState → Type 0
MaySeatAsk n (Request.Alloc k t m) s = Unit {0}
MaySeatAsk n (Request.AllocLow k) s = Unit {0}
MaySeatAsk n (Request.Free p k) s = IsTrue (has s p k)
MaySeatAsk n (Request.Post p k to) s = IsTrue (has s p k) × (to < n)
MaySeatAsk n Request.Collect s = Unit {0}
MaySeatAsk n (Request.Refill t m c) s = (1 ≤ c) × (c ≤ MAX_BATCH)
MaySeatAsk n (Request.Drain t ps) s = HasPages s ps × IsTrue (is_distinct ps)
MaySeatAsk n (Request.Isolate p) s = Unit {0}
MaySeatAsk n (Request.Release p t) s = Unit {0}
MaySeatAsk n (Request.AllocRun c a m) s = IsTrue (may_alloc_run c a)
MaySeatAsk n (Request.AllocRunAt p c) s = Unit {0}
MaySeatAsk n (Request.FreeRun p c) s = IsTrue (has_run s p c)

-- a block answered is the seat's, and was not before
pub record IsGivenBlock (p k : ℕ) (a b : SeatState) : Type 0 where
  pub has : IsTrue (has b p k)
  pub fresh : IsNewTo a p

pub record AreGivenPages (n : ℕ) (ps : List ℕ) (a b : SeatState) : Type 0 where
  pub some : 1 ≤ length ps
  pub most : length ps ≤ n
  pub has : HasPages b ps
  pub distinct : IsTrue (is_distinct ps)
  pub fresh : All (IsNewTo a) ps

-- a run answered is the seat's, and no block of the seat started there before
pub record IsGivenRun (p n : ℕ) (a b : SeatState) : Type 0 where
  pub has : IsTrue (has_run b p n)
  pub fresh : AreNewTo a p n

-- what the reply to a request gives the seat; there are no replies but these
abbrev pub IsGiven : Request → Reply → SeatState → SeatState → Type 0
IsGiven (Request.Alloc k t m) (Reply.Page p) a b = IsGivenBlock p k a b
IsGiven (Request.Alloc k t m) (Reply.Refused e) a b = Unit {0}
IsGiven (Request.AllocLow k) (Reply.Block x) a b = (x.order ≡ k) × IsGivenBlock x.page x.order a b
IsGiven (Request.AllocLow k) (Reply.Refused e) a b = Unit {0}
IsGiven (Request.Free p k) Reply.Freed a b = Unit {0}
IsGiven (Request.Post p k to) Reply.Posted a b = Unit {0}
IsGiven Request.Collect (Reply.Block x) a b = IsGivenBlock x.page x.order a b
IsGiven Request.Collect (Reply.Refused e) a b = Unit {0}
IsGiven (Request.Refill t m n) (Reply.Pages ps) a b = AreGivenPages n ps a b
IsGiven (Request.Refill t m n) (Reply.Refused e) a b = Unit {0}
IsGiven (Request.Drain t ps) Reply.Drained a b = Unit {0}
IsGiven (Request.Isolate p) Reply.Isolated a b = Unit {0}
IsGiven (Request.Isolate p) (Reply.Refused e) a b = Unit {0}
IsGiven (Request.Release p t) Reply.Released a b = Unit {0}
IsGiven (Request.Release p t) (Reply.Refused e) a b = Unit {0}
IsGiven (Request.AllocRun n k m) (Reply.Page p) a b = IsGivenRun p n a b
IsGiven (Request.AllocRun n k m) (Reply.Refused e) a b = Unit {0}
IsGiven (Request.AllocRunAt q n) (Reply.Page p) a b = IsGivenRun p n a b
IsGiven (Request.AllocRunAt q n) (Reply.Refused e) a b = Unit {0}
IsGiven (Request.FreeRun p n) Reply.Freed a b = Unit {0}
IsGiven r q a b = ⊥
