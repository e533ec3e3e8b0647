-- A request of a seat, in the books that the zone and its seats share: what is other workers' stays, what the seat gets is said by
-- request and reply, and the seat tells of its blocks what the zone tells.
use Rattle.std.proofs.Common.{ℕ, ◌≡◌, ◌<◌, refl, sym, ◌∙◌, ap, true, List, All}
use Rattle.std.proofs.lemmas.Bool.{and_from, le-leb, lt-ltb}
use Rattle.std.proofs.lemmas.List.Sums.{list_all-from_AllPass}
use Rattle.std.proofs.lemmas.List.Elements.{All-weaker}
use Rattle.zp_model.specs.declared.constants.TheConstants.{MAX_BATCH}
use Rattle.std.specs.Prelude.{IfOk, IsTrue, Result, Ok, Err}
use Rattle.zp_model.specs.declared.refused.Refused.{Refused}
use Rattle.zp_model.specs.declared.request.Request.{Request}
use Rattle.zp_model.specs.declared.request.Request.TheVariants.{Alloc, AllocLow, Free, Post, Collect, Refill, Drain, Isolate, Release, AllocRun, AllocRunAt, FreeRun}
use Rattle.zp_model.specs.Zone.{PlainZone, workers_of}
use Rattle.zp_model.specs.Runs.{may_free_run}
use Rattle.zp_model.specs.Step.{step}
use Rattle.zp_model.specs.Run.{IsDefined, may_ask, is_out}
use Rattle.zp_model.specs.Lawful.{IsLawful}
use Rattle.zp_model.specs.Books.{Books, Part, part, has_block, has_run, entered, noted_in}
use Rattle.zp_laws.proofs.BooksOwn.{request_noted}
use Rattle.zp_laws.proofs.BooksOut.{has-is_out}
use Rattle.zp_laws.proofs.Histories.{history_more}
use Rattle.zp_laws.proofs.RunsHeld.{run-lent}
use Rattle.zp_laws.proofs.Sameness.{step-same}
use Rattle.zp_tie.specs.Ties.{Kept, Held}
use Rattle.zp_zone.specs.NamedZone.{AreFresh, KeepsLentBut, KeepsOut, KeepsOutBeside, IsFresh, AreOut}
use Rattle.zp_zone.specs.Asking.{IsGivenRun, MaySeatAsk}
use Rattle.zp_zone.specs.Seats.{SeatState, KeepsBooks, replied_in, has, HasPages, AreNewTo, IsNewTo, KeepsPagesBut, KeepsBlocks, KeepsBlocksBeside}

-- a block is the seat's where it is out in its worker's name
pub has_out : (s : SeatState) (b : Books) (p k : ℕ) → s.part ≡ part s.worker b → has s p k ≡ is_out b.plain s.worker p k
has_out s b p k a = ap (λ x. has_block s.worker x p k) a ∙ has-is_out s.worker p k b

pages_out : (s : SeatState) (b : Books) (ps : List ℕ) → s.part ≡ part s.worker b → HasPages s ps → AreOut b.plain s.worker ps
pages_out s b ps a h = All-weaker (λ p. has s p 0 ≡ true) (λ p. is_out b.plain s.worker p 0 ≡ true) (λ p o. sym (has_out s b p 0 a) ∙ o) ps h

-- what a seat may ask by what it has, its worker may ask of the zone
may_enter : (s : SeatState) (b : Books) (r : Request) → IsLawful b.plain → s.part ≡ part s.worker b → MaySeatAsk (workers_of b.plain) r s → may_ask b.plain s.worker r ≡ true
may_enter s b (Alloc k t m) l a h = refl
may_enter s b (AllocLow k) l a h = refl
may_enter s b (Free p k) l a h = sym (has_out s b p k a) ∙ h
may_enter s b (Post p k to) l a h = and_from _ _ (sym (has_out s b p k a) ∙ h.0) (lt-ltb to (workers_of b.plain) h.1)
may_enter s b Collect l a h = refl
may_enter s b (Refill t m n) l a h = and_from _ _ (le-leb 1 n h.0) (le-leb n MAX_BATCH h.1)
may_enter s b (Drain t ps) l a h = and_from _ _ (list_all-from_AllPass (λ p. is_out b.plain s.worker p 0) ps (pages_out s b ps a h.0)) h.1
may_enter s b (Isolate p) l a h = refl
may_enter s b (Release p t) l a h = refl
may_enter s b (AllocRun n k m) l a h = h
may_enter s b (AllocRunAt p n) l a h = refl
may_enter s b (FreeRun p n) l a h = sym (run-lent s.worker b l p n) ∙ ap (λ x. has_run s.worker x p n) (sym a) ∙ h

-- a request that a seat may make is defined, where its token and the books agree
pub entering : (s : SeatState) (t : Held Part) (k : Kept Books) (z : PlainZone) (r : Request) → IsLawful z → s.worker ≡ t.worker → s.part ≡ t.mine → k.whole.plain ≡ z → KeepsBooks k → MaySeatAsk (workers_of z) r s →
    t.worker < k.dealt → t.mine ≡ part t.worker k.whole → IsDefined k.whole.plain t.worker r
entering s t k z r l e f g books may lt agree =
    rw (← e) (rw (e, ← books.0) lt, may_enter s k.whole r (rw g l) (f ∙ agree ∙ ap (λ w. part w k.whole) (sym e)) (rw g may))

-- the books are kept when it is entered
pub books_after : (k j : Kept Books) (w : ℕ) (r : Request) → KeepsBooks k → IsDefined k.whole.plain w r → j ≡ record k { whole = entered w r k.whole } → KeepsBooks j
books_after k j w r books d e = rw e (books.0 ∙ sym (step-same k.whole.plain w r).workers, history_more k.whole.plain k.whole.entries w r books.1 d)

-- the seat then has what request and reply say
pub seat_after : (s : SeatState) (t u : Held Part) (v : ℕ) (k : Kept Books) (z : PlainZone) (r : Request) → (let x : SeatState = record { tie = t.tie; worker = v; part = t.mine } in x) ≡ s → t.worker ≡ v → k.whole.plain ≡ z →
    t.mine ≡ part t.worker k.whole → IsDefined k.whole.plain t.worker r → u ≡ record t { mine = part t.worker (entered t.worker r k.whole) } →
    (let x : SeatState = record { tie = u.tie; worker = v; part = u.mine } in x) ≡ replied_in z r (step z s.worker r).reply s
seat_after s t u v k z r view e f agree d g =
    let mine : u.mine ≡ noted_in z v r (step z v r).reply t.mine =
    ap (λ (x : Held Part). x.mine) g ∙ request_noted t.worker r k.whole d.1 ∙ (λ i. noted_in (f i) (e i) r (step (f i) (e i) r).reply (sym agree i)) in
    (λ i. let x : SeatState = record { tie = ap (λ (y : Held Part). y.tie) g i; worker = v; part = mine i } in x) ∙ ap (λ x. replied_in z r (step z x.worker r).reply x) view

-- what the seat has is what is out in its worker's name in the zone, where they agree
pub has_in : (s : SeatState) (k : Kept Books) (z : PlainZone) (p o : ℕ) → s.part ≡ part s.worker k.whole → k.whole.plain ≡ z → has s p o ≡ is_out z s.worker p o
has_in s k z p o a e = has_out s k.whole p o a ∙ ap (λ x. is_out x s.worker p o) e

-- a request by which blocks out stay out leaves the seat's own
pub blocks_stay : (s t : SeatState) (k j : Kept Books) (y z : PlainZone) → (s.part ≡ part s.worker k.whole) × (t.part ≡ part t.worker j.whole) → t.worker ≡ s.worker → k.whole.plain ≡ y → j.whole.plain ≡ z →
    KeepsOut y z → KeepsBlocks s t
blocks_stay s t k j y z a w e f stay p o h = has_in t j z p o a.1 f ∙ ap (λ v. is_out z v p o) w ∙ stay s.worker p o (sym (has_in s k y p o a.0 e) ∙ h)

pub blocks_stay_beside : (pages : List ℕ) (s t : SeatState) (k j : Kept Books) (y z : PlainZone) → (s.part ≡ part s.worker k.whole) × (t.part ≡ part t.worker j.whole) → t.worker ≡ s.worker → k.whole.plain ≡ y → j.whole.plain ≡ z →
    KeepsOutBeside pages y z → KeepsBlocksBeside pages s t
blocks_stay_beside pages s t k j y z a w e f stay p o ne h = has_in t j z p o a.1 f ∙ ap (λ v. is_out z v p o) w ∙ stay s.worker p o ne (sym (has_in s k y p o a.0 e) ∙ h)

-- where no block out starts, none of the seat does
pub all_new : (t : SeatState) (j : Kept Books) (z : PlainZone) (ps : List ℕ) → t.part ≡ part t.worker j.whole → j.whole.plain ≡ z → All (IsFresh z) ps → All (IsNewTo t) ps
all_new t j z ps a e = All-weaker (IsFresh z) (IsNewTo t) (λ p fresh o. has_in t j z p o a e ∙ fresh t.worker o) ps

-- a run that is lent to its worker is the seat's, where they agree
pub run_in : (s : SeatState) (k : Kept Books) (z : PlainZone) (p n : ℕ) → s.part ≡ part s.worker k.whole → k.whole.plain ≡ z → IsLawful z → may_free_run z s.worker p n ≡ has_run s.worker s.part p n
run_in s k z p n a e l =
    sym (ap (λ x. may_free_run x s.worker p n) e) ∙ sym (run-lent s.worker k.whole (rw e l) p n) ∙ ap (λ x. has_run s.worker x p n) (sym a)

-- a run that goes out, where no block out started before, is given to the seat
pub given_run : (p n : ℕ) (s t : SeatState) (k j : Kept Books) (y z : PlainZone) → (s.part ≡ part s.worker k.whole) × (t.part ≡ part t.worker j.whole) → t.worker ≡ s.worker → k.whole.plain ≡ y → j.whole.plain ≡ z →
    IsLawful z → may_free_run z s.worker p n ≡ true → AreFresh y p n → IsGivenRun p n s t
given_run p n s t k j y z a w e f l lent fresh = record {
  has = sym (run_in t j z p n a.1 f l) ∙ ap (λ v. may_free_run z v p n) w ∙ lent;
  fresh = λ q r o. has_in s k y q o a.0 e ∙ fresh q r s.worker o;
}

pub given_run_if : (n v : ℕ) (got : Result ℕ Refused) (s t : SeatState) (k j : Kept Books) (y z : PlainZone) → (s.part ≡ part s.worker k.whole) × (t.part ≡ part t.worker j.whole) → t.worker ≡ s.worker → k.whole.plain ≡ y →
    j.whole.plain ≡ z → v ≡ s.worker → IsLawful z → IfOk got (λ p. IsTrue (may_free_run z v p n)) → IfOk got (λ p. AreFresh y p n) → IfOk got (λ p. IsGivenRun p n s t)
given_run_if n v (Ok p) s t k j y z a w e f x l lent fresh = given_run p n s t k j y z a w e f l (sym (ap (λ u. may_free_run z u p n) x) ∙ lent) fresh
given_run_if n v (Err r) s t k j y z a w e f x l lent fresh = tt

-- no block of the seat starts where none out does
pub run_new : (p n : ℕ) (t : SeatState) (j : Kept Books) (z : PlainZone) → t.part ≡ part t.worker j.whole → j.whole.plain ≡ z → AreFresh z p n → AreNewTo t p n
run_new p n t j z a f fresh q r o = has_in t j z q o a f ∙ fresh q r t.worker o

-- the pages that stay lent to its worker stay the seat's
pub pages_stay_but : (p n : ℕ) (s t : SeatState) (k j : Kept Books) (y z : PlainZone) → (s.part ≡ part s.worker k.whole) × (t.part ≡ part t.worker j.whole) → t.worker ≡ s.worker → k.whole.plain ≡ y → j.whole.plain ≡ z →
    IsLawful y → IsLawful z → KeepsLentBut s.worker p n y z → KeepsPagesBut p n s t
pages_stay_but p n s t k j y z a w e f l m stay q out h =
    sym (run_in t j z q 1 a.1 f m) ∙ ap (λ v. may_free_run z v q 1) w ∙ stay q out (run_in s k y q 1 a.0 e l ∙ h)
