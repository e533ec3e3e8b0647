-- The zones and desks of an office after a turn of one worker.
use Rattle.std.proofs.Common.{ℕ, ◌≡◌, ◌<◌, sym, ◌∙◌, ap, subst, arith, List, length, map, get_or, set, Some, All}
use Rattle.std.specs.List.{range_with_len}
use Rattle.std.proofs.Math.Seq.{map-set_same}
use Rattle.std.proofs.lemmas.List.{length-map, length-set, map-set, get_or-map as get_or-there}
use Rattle.std.proofs.lemmas.List.Elements.{All-set}
use Rattle.zp_model.specs.Zone.{workers_of}
use Rattle.zp_zone.specs.NamedZone.{NamedZone}
use Rattle.zp_zone.specs.Seats.{ZoneState}
use Rattle.zp_share.specs.Shares.{IsShareOf, key_of, named_zone}
use Rattle.zp_share.proofs.Crews.{keys-length, keys-workers}
use Rattle.zp_office.specs.Desks.{DeskState, DeskWorld, PlainDesk, IsDeskLeft, IsNextAnswered, IsScriptFor, after_command, desk_world, next_of, plain_desk}
use Rattle.zp_office.specs.Offices.{OfficeState, AreDesksOf, desk_of, next_at, next_done, office_of}

-- worker w's desk s, which stands at place n, has become u, and the zones have become others with the same keys
pub record IsTurn (zones new : List ZoneState) (desks : List DeskState) (n w : ℕ) (s d u : DeskState) (before : OfficeState) : Type 0 where
  pub view : office_of zones desks ≡ before
  pub are : AreDesksOf zones desks
  pub place : n ≡ w
  pub there : w < length before.desks
  pub desk : s ≡ get_or desks n d
  pub keys : map key_of new ≡ map key_of zones
  pub fits : IsShareOf (map key_of new) u.share
  pub answered : IsNextAnswered s u

-- a worker's place is one of the desks'
pub there_in : (zones : List ZoneState) (desks : List DeskState) (n w : ℕ) (before : OfficeState) → office_of zones desks ≡ before → n ≡ w → w < length before.desks → n < length desks
there_in zones desks n w before view place there =
    omega (arith, ap (λ (o : OfficeState). length o.desks) view, length-map desks plain_desk)

-- the desks after a turn are those of the zones after it
pub desks_after : (zones new : List ZoneState) (desks : List DeskState) (n w : ℕ) (s d u : DeskState) (before : OfficeState) → IsTurn zones new desks n w s d u before →
    AreDesksOf new (set desks n u)
desks_after zones new desks n w s d u before x =
    let lt : n < length desks = there_in zones desks n w before x.view x.place x.there in
    let names : IsScriptFor (map key_of zones) u.script =
    subst (IsScriptFor (map key_of zones)) (sym (x.answered.script ∙ ap (λ (t : DeskState). t.script) x.desk)) (x.are.scripts n d lt) in
    record {
      few = omega (arith, keys-length zones new x.keys, x.are.few);
      fit =
          subst (λ ks. All (λ (t : DeskState). IsShareOf ks t.share) (set desks n u)) (sym x.keys)
          (All-set (λ (t : DeskState). IsShareOf (map key_of zones) t.share) desks n u (subst (λ ks. IsShareOf ks u.share) x.keys x.fits) x.are.fit);
      scripts =
          subst (λ ks. All (λ (t : DeskState). IsScriptFor ks t.script) (set desks n u)) (sym x.keys)
          (All-set (λ (t : DeskState). IsScriptFor (map key_of zones) t.script) desks n u names x.are.scripts);
      workers =
          map-set_same (λ (t : DeskState). t.share.worker) desks n u d (x.answered.same.worker ∙ ap (λ (t : DeskState). t.share.worker) x.desk)
          ∙ x.are.workers
          ∙ ap (λ m. range_with_len 0 m) (sym (length-set desks n u));
      crew = subst (λ m. All (λ (z : ZoneState). workers_of z.plain ≡ m) new) (sym (length-set desks n u)) (keys-workers zones new (length desks) x.keys x.are.crew);
    }

-- the desk that stands at a place
desk_there : (zones : List ZoneState) (desks : List DeskState) (n : ℕ) (s d : DeskState) → n < length desks → s ≡ get_or desks n d →
    plain_desk s ≡ desk_of (office_of zones desks) n
desk_there zones desks n s d lt e = ap plain_desk e ∙ sym (get_or-there plain_desk desks n d _ lt)

-- and has a command left, where the office says so of its worker
pub next_there : (zones : List ZoneState) (desks : List DeskState) (n w : ℕ) (s d : DeskState) (before : OfficeState) → office_of zones desks ≡ before → n ≡ w → w < length before.desks →
    s ≡ get_or desks n d → length (desk_of before w).replies < length (desk_of before w).script → length s.replies < length s.script
next_there zones desks n w s d before view place there is left =
    let here : plain_desk s ≡ desk_of before w =
    desk_there zones desks n s d (there_in zones desks n w before view place there) is ∙ ap (desk_of (office_of zones desks)) place ∙ ap (λ (o : OfficeState). desk_of o w) view in
    subst (λ (p : PlainDesk). length p.replies < length p.script) (sym here) left

-- the office after a turn is what the next command of the worker's script makes of it
done_there : (zones new : List ZoneState) (desks : List DeskState) (n : ℕ) (s d u : DeskState) → n < length desks → s ≡ get_or desks n d →
    IsDeskLeft (after_command (desk_world (map named_zone zones) s) (next_of s)) (Some (map named_zone new)) u → office_of new (set desks n u) ≡ next_done n (office_of zones desks)
done_there zones new desks n s d u lt e x =
    let turn : PlainDesk → DeskWorld =
    λ p. after_command (let v : DeskWorld = record { zones = map named_zone zones; desk = p } in v) (next_at p) in
    let same : turn (plain_desk s) ≡ turn (desk_of (office_of zones desks) n) = ap turn (desk_there zones desks n s d lt e) in
    left_is (map named_zone new) (turn (desk_of (office_of zones desks) n)).zones (map plain_desk desks) (map plain_desk (set desks n u)) n (plain_desk u) (turn (desk_of (office_of zones desks) n)).desk
    (x.zones ∙ ap (λ (v : DeskWorld). Some v.zones) same) (map-set plain_desk desks n u) (x.desk ∙ ap (λ (v : DeskWorld). v.desk) same)
  where
    left_is : (zs ys : List NamedZone) (ps qs : List PlainDesk) (n : ℕ) (p q : PlainDesk) → Some zs ≡ Some ys → qs ≡ set ps n p → p ≡ q →
        let a : OfficeState = record { zones = zs; desks = qs } in
        let b : OfficeState = record { zones = ys; desks = set ps n q } in
        a ≡ b
    left_is zs ys ps qs n p q e f g = cc

pub done_after : (zones new : List ZoneState) (desks : List DeskState) (n w : ℕ) (s d u : DeskState) (before : OfficeState) → IsTurn zones new desks n w s d u before →
    IsDeskLeft (after_command (desk_world (map named_zone zones) s) (next_of s)) (Some (map named_zone new)) u → office_of new (set desks n u) ≡ next_done w before
done_after zones new desks n w s d u before x done =
    done_there zones new desks n s d u (there_in zones desks n w before x.view x.place x.there) x.desk done
    ∙ ap (λ v. next_done v (office_of zones desks)) x.place
    ∙ ap (next_done w) x.view
