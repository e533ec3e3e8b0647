-- What the seat has is out in its worker's name, where it agrees with the zone.
use Rattle.std.proofs.Common.{ℕ, IsTrue, subst}
use Rattle.zp_model.specs.Books as part_of
use Rattle.zp_model.specs.Books.{Part, has_block}
use Rattle.zp_model.specs.Lawful.{IsLawful}
use Rattle.zp_model.specs.Run.{is_out}
use Rattle.zp_model.specs.Runs.{may_free_run}
use Rattle.zp_laws.proofs.BooksOut.{has-is_out}
use Rattle.zp_laws.proofs.RunsHeld.{run-lent}
use Rattle.zp_zone.specs.Seats.{Agrees, SeatState, ZoneState, books, has, has_run}

pub block_is_out : (z : ZoneState) (s : SeatState) (p k : ℕ) → Agrees z s → IsTrue (has s p k) → IsTrue (is_out z.plain s.worker p k)
block_is_out z s p k agrees h =
    subst IsTrue (has-is_out s.worker p k (books z)) (subst (λ (x : Part). IsTrue (has_block s.worker x p k)) agrees h)

pub run_is_out : (z : ZoneState) (s : SeatState) (p n : ℕ) → IsLawful z.plain → Agrees z s → IsTrue (has_run s p n) → IsTrue (may_free_run z.plain s.worker p n)
run_is_out z s p n l agrees h =
    subst IsTrue (run-lent s.worker (books z) l p n) (subst (λ (x : Part). IsTrue (part_of.has_run s.worker x p n)) agrees h)
