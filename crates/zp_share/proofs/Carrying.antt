-- A share in which what it has of one zone is another, and commands of a worker one after the other over a row of zones that are known.
use Rattle.std.proofs.Common.{ℕ, ◌≡◌, ◌≢◌, ◌<◌, inl, inr, refl, sym, ◌∙◌, ap, subst, List, length, Option, Some, Result, Ok, Err, Bool, true, false, cond}
use Rattle.std.proofs.Math.ListN.{get_or-map}
use Rattle.std.proofs.Math.Seq.{map-set_same}
use Rattle.std.proofs.lemmas.Bool.{cases_eq}
use Rattle.std.proofs.lemmas.List.{map-set, set-get_or, get_or-set_same, get_or-set_other}
use Rattle.zp_model.specs.declared.refused.Refused.{Refused}
use Rattle.zp_model.specs.declared.request.Request.{Request}
use Rattle.zp_model.specs.declared.request.Reply.{Reply}
use Rattle.zp_model.specs.Zone.{PlainZone}
use Rattle.zp_zone.specs.NamedZone.{NamedZone}
use Rattle.zp_zone.specs.Seats.{SeatState}
use Rattle.zp_share.specs.PlainShares.{PlainZoneShare, PlainShare, own_at, with_own}
use Rattle.zp_share.specs.ZoneShares.{ZoneShareState, is_lent, answered, answered_in, plain_share, opening_share}
use Rattle.zp_share.specs.Commands.{World, Done, done, told_as, and_then}
use Rattle.zp_share.specs.Shares.{ShareState, HasSameLent, HasSameLentBut, ZoneKey, IsKeyedBy, IsNotedAt, IsShareOf, IsDone, share_at, with_zone_share, is_section, noted_at, noted_in, no_seat, plain, world, ties_of}

-- what the share has of the zone that changes, and of another
pub here : (s : ShareState) (i : ℕ) (x : ZoneShareState) → i < length s.zones → share_at (with_zone_share i x s) i ≡ x
here s i x lt = get_or-set_same s.zones i x (opening_share no_seat 0) lt

pub elsewhere : (s : ShareState) (i j : ℕ) (x : ZoneShareState) → j ≢ i → share_at (with_zone_share i x s) j ≡ share_at s j
elsewhere s i j x ne = get_or-set_other s.zones i j x (opening_share no_seat 0) ne

-- what holds of the one, and of what the share had of the others, holds of what it has of each zone
pub at_place : (s : ShareState) (i j : ℕ) (x : ZoneShareState) (P : ZoneShareState → Type 0) → i < length s.zones → (j ≡ i → P x) → (j ≢ i → P (share_at s j)) → P (share_at (with_zone_share i x s) j)
at_place s i j x P lt f g =
    elim (cases_eq j i) [
      | inl e ↦ subst P (sym (ap (share_at (with_zone_share i x s)) e ∙ here s i x lt)) (f e)
      | inr ne ↦ subst P (sym (elsewhere s i j x ne)) (g ne)
    ]

-- what holds page by page of the zone that changes holds of the share
pub same_lent : (s : ShareState) (i : ℕ) (x : ZoneShareState) → i < length s.zones → ((p k : ℕ) → is_lent x p k ≡ is_lent (share_at s i) p k) → HasSameLent s (with_zone_share i x s)
same_lent s i x lt f j p k =
    at_place s i j x (λ z. is_lent z p k ≡ is_lent (share_at s j) p k) lt (λ e. f p k ∙ ap (λ n. is_lent (share_at s n) p k) (sym e)) (λ ne. refl)

pub same_lent_but : (s : ShareState) (i q : ℕ) (x : ZoneShareState) → i < length s.zones → ((p k : ℕ) → p ≢ q → is_lent x p k ≡ is_lent (share_at s i) p k) →
    HasSameLentBut i q s (with_zone_share i x s)
same_lent_but s i q x lt f j p k ne =
    at_place s i j x (λ z. is_lent z p k ≡ is_lent (share_at s j) p k) lt (λ e. f p k (ne e) ∙ ap (λ n. is_lent (share_at s n) p k) (sym e)) (λ other. refl)

-- nothing changes where it is what it was, and so a request leaves what it leaves of its zone alone
pub put_back : (s : ShareState) (i : ℕ) → with_zone_share i (share_at s i) s ≡ s
put_back s i = rw (set-get_or {A = ZoneShareState}) refl

one_or_same : (s : ShareState) (i : ℕ) (x : ZoneShareState) (b : Bool) → cond b (with_zone_share i x s) s ≡ with_zone_share i (cond b x (share_at s i)) s
one_or_same s i x true = refl
one_or_same s i x false = sym (put_back s i)

pub noted_one : (s : ShareState) (i : ℕ) (r : Request) (q : Reply) → noted_at i r q s ≡ with_zone_share i (cond (is_section q) (answered r q (share_at s i)) (share_at s i)) s
noted_one s i r q = one_or_same s i (answered r q (share_at s i)) (is_section q)

pub noted_one_in : (z : PlainZone) (s : ShareState) (i : ℕ) (r : Request) (q : Reply) →
    noted_in z i r q s ≡ with_zone_share i (cond (is_section q) (answered_in z r q (share_at s i)) (share_at s i)) s
noted_one_in z s i r q = one_or_same s i (answered_in z r q (share_at s i)) (is_section q)

-- so it is noted
pub noted_by : (z : PlainZone) (k : ZoneKey) (i : ℕ) (r : Request) (q : Reply) (s t : ShareState) → IsKeyedBy k z → t ≡ noted_in z i r q s → IsNotedAt k i r q s t
noted_by z k i (Request.AllocRun n a m) q s t x e = (z, x, e)
noted_by z k i (Request.AllocRunAt p n) q s t x e = (z, x, e)
noted_by z k i (Request.FreeRun p n) q s t x e = (z, x, e)
noted_by z k i r q s t x e = e

-- what the plain share has of a zone is what the share has there, made plain
pub own-plain : (s : ShareState) (i : ℕ) → own_at (plain s) i ≡ plain_share (share_at s i)
own-plain s i = get_or-map plain_share s.zones i (opening_share no_seat 0)

pub plain-with : (i : ℕ) (b : ZoneShareState) (s : ShareState) → plain (with_zone_share i b s) ≡ with_own i (plain_share b) (plain s)
plain-with i b s = ap (λ l. let p : PlainShare = record { batch = s.batch; high_len = s.high_len; zones = l } in p) (map-set plain_share s.zones i b)

-- a move on the lists of one zone is the same move of the plain share
pub moved : (s u : ShareState) (i : ℕ) (f : PlainZoneShare → PlainZoneShare) → u ≡ with_zone_share i (share_at u i) s →
    plain_share (share_at u i) ≡ f (plain_share (share_at s i)) → plain u ≡ with_own i (f (own_at (plain s) i)) (plain s)
moved s u i f e g = ap plain e ∙ plain-with i (share_at u i) s ∙ ap (λ x. with_own i x (plain s)) (g ∙ ap f (sym (own-plain s i)))

-- a move that keeps the seat keeps what the share is of
pub moved_fits : (keys : List ZoneKey) (s u : ShareState) (i : ℕ) → IsShareOf keys s → u ≡ with_zone_share i (share_at u i) s → (share_at u i).seat ≡ (share_at s i).seat → IsShareOf keys u
moved_fits keys s u i x e g =
    ap ties_of e ∙ map-set_same (λ (z : ZoneShareState). z.seat.tie) s.zones i (share_at u i) (opening_share no_seat 0) (ap (λ (t : SeatState). t.tie) g) ∙ x

-- what follows a command that was not refused goes on from what that left
pub then_ok : {A B : Type 0} → (d : Done (Result A Refused)) (f : A → World → Done (Result B Refused)) (a : A) (r : Result A Refused) (mid : Option (List NamedZone)) (m : ShareState)
    (b : Result B Refused) (last : Option (List NamedZone)) (u : ShareState) → IsDone d r mid m → r ≡ Ok a →
    ((rows : List NamedZone) → mid ≡ Some rows → IsDone (f a (world rows m)) b last u) → IsDone (and_then d f) b last u
then_ok d f a r mid m b last u x e g =
    let on : and_then d f ≡ f a (world d.world.zones m) =
    ap (λ q. and_then (done q d.world) f) (sym x.answer ∙ e) ∙ ap (λ p. let w : World = record { zones = d.world.zones; share = p } in f a w) (sym x.share) in
    subst (λ y. IsDone y b last u) (sym on) (g d.world.zones x.zones)

-- a command that was refused is the last
pub then_err : {A B : Type 0} → (d : Done (Result A Refused)) (f : A → World → Done (Result B Refused)) (e : Refused) (r : Result A Refused) (mid : Option (List NamedZone)) (m : ShareState) →
    IsDone d r mid m → r ≡ Err e → IsDone (and_then d f) (Err e) mid m
then_err {A} {B} d f e r mid m x q =
    let on : and_then d f ≡ done (Err e) d.world = ap (λ q. and_then (done q d.world) f) (sym x.answer ∙ q) in
    subst (λ (y : Done (Result B Refused)). IsDone y (Err e) mid m) (sym on) (record { answer = refl; zones = x.zones; share = x.share })

-- the same, answered in other words
pub told_as_is : {A B : Type 0} → (f : A → B) (d : Done A) (a : A) (b : B) (mid : Option (List NamedZone)) (m : ShareState) → IsDone d a mid m → b ≡ f a → IsDone (told_as f d) b mid m
told_as_is f d a b mid m x e = record { answer = e ∙ ap f x.answer; zones = x.zones; share = x.share }
