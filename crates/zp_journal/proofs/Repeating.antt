-- An entry that is repeated, and the zone's seats after it.
use Rattle.std.proofs.Common.{ℕ, ◌≡◌, ◌<◌, ◌≤◌, ◌↔◌, inl, inr, IsTrue, Bool, true, false, List, All, Option, None, Some, length, map, set, get_or, refl, sym, ◌∙◌, ap, subst, arith}
use Rattle.std.specs.List.{range_with_len}
use Rattle.std.proofs.Math.Seq.{map-set_same}
use Rattle.std.proofs.lemmas.List.{length-map, get_or-map, map-id}
use Rattle.std.proofs.lemmas.List.Elements.{All-set, All-weaker, All-get_or}
use Rattle.std.proofs.lemmas.List.FromFn.{length-range_with_len, get_or-range_with_len}
use Rattle.std.proofs.lemmas.Simd.{map-map}
use Rattle.zp_model.specs.declared.entry.Answered.{Answered}
use Rattle.zp_model.specs.Entries.{Entry, reply_of}
use Rattle.zp_model.specs.declared.request.Request.{Request}
use Rattle.zp_model.specs.Zone.{PlainZone, workers_of}
use Rattle.zp_model.specs.Step.{step}
use Rattle.zp_model.specs.Run.{may_ask, IsDefined}
use Rattle.zp_laws.proofs.Sameness.{step-same}
use Rattle.zp_zone.specs.Seats.{ZoneState, SeatState, IsSeatOf, asked, books, seats_of}
use Rattle.zp_journal.specs.Asking.{AreSeatsOf, IsSeatStill, IsAskedWith, IsAnsweredWith, IsRepeated, IsTried}
use Rattle.zp_journal.proofs.SameReply.{same_without_list}

-- there are as many seats as the zone has workers
pub seats_count : (z : ZoneState) (seats : List SeatState) → AreSeatsOf z seats → length seats ≡ workers_of z.plain
seats_count z seats a = sym (length-map seats (λ (s : SeatState). s.worker)) ∙ ap length a.workers ∙ length-range_with_len 0 (workers_of z.plain)

-- the seat at a worker's place is the worker's
pub seat_there : (z : ZoneState) (seats : List SeatState) (i w : ℕ) (s : SeatState) → AreSeatsOf z seats → i < length seats → i ≡ w → (get_or seats i s).worker ≡ w
seat_there z seats i w s a lt e =
    sym (get_or-map (λ (x : SeatState). x.worker) seats i s s.worker lt)
    ∙ ap (λ ws. get_or ws i s.worker) a.workers
    ∙ get_or-range_with_len 0 (workers_of z.plain) i s.worker (omega (arith, seats_count z seats a, lt))
    ∙ omega arith

-- what may not be asked is not legal, and leaves the zone as it was
undefined : (z y : ZoneState) (e : Entry) → (IsDefined z.plain e.worker e.request → ⊥) → y ≡ z → IsRepeated z e false y
undefined z y e never same = (λ l. never l.0, record { made = λ d. absurd (never d); kept = λ _. same })

-- an entry of a worker that the zone does not have is not legal
pub no_worker : (z : ZoneState) (seats : List SeatState) (e : Entry) → AreSeatsOf z seats → length seats ≤ e.worker → IsRepeated z e false z
no_worker z seats e a le = undefined z z e (λ d. let lt : e.worker < workers_of z.plain = d.0 in omega (arith, seats_count z seats a)) refl

-- asking keeps a zone's tie, and how many workers it has
left_same : (z y : ZoneState) → y ≡ z → (y.tie ≡ z.tie) × (workers_of y.plain ≡ workers_of z.plain)
left_same z y a = (ap (λ (x : ZoneState). x.tie) a, ap (λ (x : ZoneState). workers_of x.plain) a)

asked_same : (z y : ZoneState) (w : ℕ) (r : Request) → y ≡ asked w r z → (y.tie ≡ z.tie) × (workers_of y.plain ≡ workers_of z.plain)
asked_same z y w r a = (ap (λ (x : ZoneState). x.tie) a, ap (λ (x : ZoneState). workers_of x.plain) a ∙ (step-same z.plain w r).workers)

answered_same : (z y : ZoneState) (w : ℕ) (r : Request) (ps : List ℕ) (o : Option Answered) → IsAnsweredWith z w r ps o y → (y.tie ≡ z.tie) × (workers_of y.plain ≡ workers_of z.plain)
answered_same z y w r ps None (inl a) = left_same z y a.1
answered_same z y w r ps None (inr a) = asked_same z y w r a.after
answered_same z y w r ps (Some q) a = asked_same z y w r a.after

-- the zone's seats are its seats still, when one of them was asked with
pub seats_after : (z y : ZoneState) (seats : List SeatState) (i : ℕ) (s t : SeatState) (r : Request) (ps : List ℕ) (o : Option Answered) → AreSeatsOf z seats → i < length seats →
    IsAnsweredWith z (get_or seats i s).worker r ps o y → IsSeatStill (get_or seats i s) t → AreSeatsOf y (set seats i t)
seats_after z y seats i s t r ps o a lt answered still =
    let same : (y.tie ≡ z.tie) × (workers_of y.plain ≡ workers_of z.plain) = answered_same z y (get_or seats i s).worker r ps o answered in
    record {
      ties =
          All-weaker (IsSeatOf z) (IsSeatOf y) (λ x g. g ∙ sym same.0) (set seats i t)
          (All-set (IsSeatOf z) seats i t (still.tie ∙ All-get_or (IsSeatOf z) seats i s lt a.ties) a.ties);
      workers =
          map-set_same (λ (x : SeatState). x.worker) seats i t s still.worker
          ∙ a.workers ∙ ap (range_with_len 0) (sym same.1);
    }

-- what was asked once was tried
asked_tried : (z y : ZoneState) (w : ℕ) (e : Entry) → w ≡ e.worker → IsDefined z.plain w e.request → y ≡ asked w e.request z → IsTried z e y
asked_tried z y w e f may after =
    record { made = λ _. after ∙ ap (λ v. asked v e.request z) f; kept = λ never. absurd (never (subst (λ v. IsDefined z.plain v e.request) f may)) }

-- what nobody answers is not legal
pub not_answered : (z y : ZoneState) (w : ℕ) (e : Entry) (ps : List ℕ) (b : Answered) → w ≡ e.worker → reply_of b ps ≡ e.reply → IsAnsweredWith z w e.request ps None y → IsRepeated z e false y
not_answered z y w e ps b f q (inl a) =
    undefined z y e (λ d. let may : may_ask z.plain w e.request ≡ true = ap (λ v. may_ask z.plain v e.request) f ∙ d.1 in let no : may_ask z.plain w e.request ≡ false = a.0 in cc) a.1
not_answered z y w e ps b f q (inr a) = (
  λ l. a.reply b (q ∙ sym l.1 ∙ sym (ap (λ v. (step z.plain v e.request).reply) f)),
  asked_tried z y w e f a.may a.after,
)

-- the seats of a zone as it was made
pub seats_made : (z : ZoneState) (seats : List SeatState) (n : ℕ) → All (IsSeatOf z) seats → seats ≡ seats_of z.tie (books z) n → workers_of z.plain ≡ n → AreSeatsOf z seats
seats_made z seats n fits e f =
    record {
      ties = fits;
      workers = ap (map (λ (s : SeatState). s.worker)) e ∙ map-map (λ (s : SeatState). s.worker) _ (range_with_len 0 n) ∙ map-id (range_with_len 0 n) ∙ ap (range_with_len 0) (sym f);
    }

-- what is answered is compared with the entry's reply
pub answered_alike : (z y : ZoneState) (w : ℕ) (e : Entry) (ps : List ℕ) (q b : Answered) (same : Bool) → w ≡ e.worker → reply_of b ps ≡ e.reply →
    IsAskedWith z w e.request ps (Some q) y → IsTrue same ↔ (q ≡ b) → IsRepeated z e same y
answered_alike z y w e ps q b true f r a same =
    let step_is : e.reply ≡ (step z.plain e.worker e.request).reply =
    sym r ∙ ap (λ x. reply_of x ps) (sym (same.0 refl)) ∙ a.reply ∙ ap (λ v. (step z.plain v e.request).reply) f in (
      (subst (λ v. IsDefined z.plain v e.request) f a.may, sym step_is),
      a.after ∙ ap (λ v. asked v e.request z) f,
    )
answered_alike z y w e ps q b false f r a same = (
  λ l. let yes : IsTrue false = same.1 (same_without_list q b ps (a.reply ∙ ap (λ v. (step z.plain v e.request).reply) f ∙ l.1 ∙ sym r)) in cc,
  asked_tried z y w e f a.may a.after,
)

-- the seats of a zone of n workers, when it was opened so
pub seats_opened : (z : ZoneState) (made : List SeatState) (o : PlainZone) (n : ℕ) → All (IsSeatOf z) made → made ≡ seats_of z.tie (books z) n → z.plain ≡ o →
    workers_of o ≡ n → AreSeatsOf z made
seats_opened z made o n fits are opened workers = seats_made z made n fits are (ap workers_of opened ∙ workers)
