-- A request to the zone at a place of a row that tells its zones: what the row and the share are after it, and that this is what the row's command says.
use Rattle.std.proofs.Common.{ℕ, ◌≡◌, ◌<◌, ◌==◌, sym, ◌∙◌, ap, subst, arith, List, length, map, get_or, Option, None, Some}
use Rattle.std.specs.Prelude.{slice_set}
use Rattle.std.proofs.Math.Seq.{map-set_same}
use Rattle.std.proofs.lemmas.List.{length-map, map-set, set-get_or, get_or-map}
use Rattle.zp_model.specs.declared.refused.Refused.{Refused}
use Rattle.zp_model.specs.declared.request.Request.{Request}
use Rattle.zp_model.specs.declared.request.Reply.{Reply}
use Rattle.zp_model.specs.Step.{step}
use Rattle.zp_model.specs.Zone.{PlainZone}
use Rattle.zp_laws.specs.FreePages.{IsSameZone}
use Rattle.zp_laws.proofs.Sameness.{step-same}
use Rattle.zp_zone.specs.NamedZone.{NamedZone}
use Rattle.zp_zone.specs.Seats.{ZoneState, IsSeatOf}
use Rattle.zp_share.specs.declared.sections_made.TheConstants.{LAST_SECTION}
use Rattle.zp_share.specs.PlainShares.{PlainZoneShare, lends_for, refusal_of, share_after_in, own_at, with_own}
use Rattle.zp_share.specs.ZoneShares.{ZoneShareState, plain_share, opening_share}
use Rattle.zp_share.specs.Commands.{no_zone, zone_at, section, section_as}
use Rattle.zp_share.specs.Shares.{ShareState, ZoneKey, IsAskedAt, IsDone, IsShareOf, key_of, named_zone, no_key, no_seat, no_tie, plain, share_at, ties_of, with_zone_share, world}
use Rattle.zp_share.specs.Sections.{ComesOf, IsAsked}
use Rattle.zp_share.proofs.Carrying.{noted_by, noted_one_in, own-plain, plain-with, put_back}
use Rattle.zp_share.proofs.Tried.{not_lent_alone, tried}

-- the zones of a share are as many as the row's
pub as_many : (zs : List ZoneState) (s : ShareState) → IsShareOf (map key_of zs) s → length s.zones ≡ length zs
as_many zs s x =
    sym (length-map s.zones (λ (v : ZoneShareState). v.seat.tie)) ∙ ap length x ∙ length-map (map key_of zs) (λ (k : ZoneKey). k.tie) ∙ length-map zs key_of

-- the zone at a place is that of the share's seat there
pub seat_at : (zs : List ZoneState) (i : ℕ) (s : ShareState) (d : ZoneState) → i < length zs → IsShareOf (map key_of zs) s → IsSeatOf (get_or zs i d) (share_at s i).seat
seat_at zs i s d lt x =
    sym (get_or-map (λ (v : ZoneShareState). v.seat.tie) s.zones i (opening_share no_seat 0) no_tie (subst (λ n. i < n) (sym (as_many zs s x)) lt))
    ∙ ap (λ l. get_or l i no_tie) x
    ∙ get_or-map (λ (k : ZoneKey). k.tie) (map key_of zs) i (key_of d) no_tie (subst (λ n. i < n) (sym (length-map zs key_of)) lt)
    ∙ ap (λ (k : ZoneKey). k.tie) (get_or-map key_of zs i d (key_of d) lt)

-- a share turns to the zone at a place of its row, with which the zone and what the share has of it alone become others
pub record IsCall (zs : List ZoneState) (s t : ShareState) (i : ℕ) (z : ZoneState) : Type 0 where
  pub fits : IsShareOf (map key_of zs) s
  pub place : i < length s.zones
  pub zone : z ≡ get_or zs i z
  pub others : t ≡ with_zone_share i (share_at t i) s

-- a zone that is the same but for what is free, out and posted has the same key
pub same-key : (z : ZoneState) (y : PlainZone) → IsSameZone z.plain y → key_of (record z { plain = y }) ≡ key_of z
same-key z y kept = λ i.
    record { tie = z.tie; name = z.name; base = kept.base i; pages = kept.pages i; min = kept.min i; largest = kept.largest i; workers = kept.workers i }

-- whatever comes of the request, the zone's key stays
key-kept : (e : Option Refused) (r : Request) (q : Reply) (z y : ZoneState) (a b : ZoneShareState) → ComesOf e r q z y a b → key_of y ≡ key_of z
key-kept (Some e) r q z y a b x = ap key_of x.1.zone
key-kept None r q z y a b x =
    let kept = step-same z.plain a.seat.worker r in
    ap key_of x.zone ∙ same-key z (step z.plain a.seat.worker r).zone kept

-- where nothing changed, the answer and the zones are those of a refusal; and a section is the step of the zone at its place
comes_told : (e : Option Refused) (r : Request) (q : Reply) (zs : List ZoneState) (s t : ShareState) (i : ℕ) (z y : ZoneState) → IsCall zs s t i z →
    ComesOf e r q z y (share_at s i) (share_at t i) → IsDone (section_as e (world (map named_zone zs) s) i r) q (Some (map named_zone (slice_set zs i y))) t
comes_told (Some e) r q zs s t i z y c x = record {
  answer = x.0;
  zones = ap (λ l. Some (map named_zone l)) (ap (slice_set zs i) (x.1.zone ∙ c.zone) ∙ set-get_or zs i z);
  share = ap plain (c.others ∙ ap (λ v. with_zone_share i v s) x.1.share ∙ put_back s i);
}
comes_told None r q zs s t i z y c x =
    let n : named_zone z ≡ zone_at (map named_zone zs) i = ap named_zone c.zone ∙ sym (get_or-map named_zone zs i z no_zone (omega (arith, c.place, as_many zs s c.fits))) in
    let o : plain_share (share_at s i) ≡ own_at (plain s) i = sym (own-plain s i) in
    record {
      answer = x.reply ∙ (λ j. (step (n j).plain (o j).worker r).reply);
      zones =
          ap Some (map-set named_zone zs i y ∙ ap (λ v. slice_set (map named_zone zs) i (named_zone v)) x.zone)
          ∙ (λ j. Some (slice_set (map named_zone zs) i (record (n j) { plain = (step (n j).plain (o j).worker r).zone })));
      share =
          ap plain c.others
          ∙ plain-with i (share_at t i) s
          ∙ ap (λ v. with_own i (plain_share v) (plain s)) x.share
          ∙ ap (λ v. with_own i (share_after_in z.plain r v (plain_share (share_at s i))) (plain s)) x.reply
          ∙ (λ j. with_own i (share_after_in (n j).plain r (step (n j).plain (o j).worker r).reply (o j)) (plain s));
    }

-- what comes of a request is the section, over the zones that the row tells
told_section : (r : Request) (q : Reply) (zs : List ZoneState) (s t : ShareState) (i : ℕ) (z y : ZoneState) → IsCall zs s t i z →
    ComesOf (refusal_of r (plain_share (share_at s i))) r q z y (share_at s i) (share_at t i) → (rows : List NamedZone) → Some (map named_zone zs) ≡ Some rows →
    IsDone (section (world rows s) i r) q (Some (map named_zone (slice_set zs i y))) t
told_section r q zs s t i z y c x rows e =
    let told : map named_zone zs ≡ rows = cc in
    subst (λ l. IsDone (section (world l s) i r) q (Some (map named_zone (slice_set zs i y))) t) told
    (subst (λ (o : PlainZoneShare). IsDone (section_as (refusal_of r o) (world (map named_zone zs) s) i r) q (Some (map named_zone (slice_set zs i y))) t) (sym (own-plain s i))
    (comes_told (refusal_of r (plain_share (share_at s i))) r q zs s t i z y c x))

-- all that comes of a request to the zone at a place of a row that tells its zones
pub asked_at : (r : Request) (q : Reply) (zs : List ZoneState) (s t : ShareState) (i : ℕ) (z y : ZoneState) → IsCall zs s t i z → IsAsked r q z y (share_at s i) (share_at t i) →
    IsAskedAt i r q (map key_of zs) (map key_of (slice_set zs i y)) (Some (map named_zone zs)) (Some (map named_zone (slice_set zs i y))) s t
asked_at r q zs s t i z y c x =
    let own = plain_share (share_at s i) in
    let key : key_of z ≡ get_or (map key_of zs) i no_key = ap key_of c.zone ∙ sym (get_or-map key_of zs i z no_key (omega (arith, c.place, as_many zs s c.fits))) in
    let same : map key_of (slice_set zs i y) ≡ map key_of zs = map-set_same key_of zs i y z (key-kept _ r q z y (share_at s i) (share_at t i) x.made ∙ ap key_of c.zone) in
    record {
      keys = same;
      fits = ap ties_of c.others
          ∙ map-set_same (λ (v : ZoneShareState). v.seat.tie) s.zones i (share_at t i) (opening_share no_seat 0) x.same.tie
          ∙ c.fits
          ∙ ap (map (λ (k : ZoneKey). k.tie)) (sym same);
      share =
          noted_by z.plain (get_or (map key_of zs) i no_key) i r q s t (record { base = ap (λ (k : ZoneKey). k.base) key; largest = ap (λ (k : ZoneKey). k.largest) key })
          (c.others
          ∙ ap (λ v. with_zone_share i v s) (tried (lends_for r own) (own.sections.made == LAST_SECTION) r q z y (share_at s i) (share_at t i) x.made)
          ∙ sym (noted_one_in z.plain s i r q));
      reply = x.reply;
      not_lent = not_lent_alone (lends_for r own) (own.sections.made == LAST_SECTION) r q z y (share_at s i) (share_at t i) x.made;
      told = told_section r q zs s t i z y c x.made;
    }
