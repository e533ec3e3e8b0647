-- The office of a trace, when its commands were carried out.
use Rattle.std.proofs.Common.{ℕ, zero, suc, ◌≡◌, ◌<◌, ◌∙◌, refl, sym, ap, ap₂, subst, arith, List, [], ◌∷◌, length, map, get_or, All, Result, Ok, Err, IfOk}
use Rattle.std.specs.List.{AllZip}
use Rattle.std.proofs.lemmas.List.{length-map, length-set}
use Rattle.std.proofs.lemmas.List.FromFn.{get_or-map-range_with_len, length-map-range_with_len}
use Rattle.std.proofs.lemmas.Simd.{map-map}
use Rattle.zp_trace.specs.declared.trace.Trace.{Trace}
use Rattle.zp_zone.specs.NamedZone.{NamedZone}
use Rattle.zp_zone.specs.Seats.{ZoneState}
use Rattle.zp_share.specs.ZoneShares.{ZoneShareState}
use Rattle.zp_shared.proofs.Places.{zip_length}
use Rattle.zp_share.specs.Shares.{ZoneKey, key_of, named_zone}
use Rattle.zp_office.specs.Desks.{DeskState, PlainDesk, IsAnswerTo, plain_desk}
use Rattle.zp_laws.proofs.Histories.{opening-opening}
use Rattle.zp_trace.specs.declared.line.ZoneLine.{ZoneLine}
use Rattle.zp_trace.specs.Grammar.{declared_largest}
use Rattle.zp_office.specs.Opening.{declared_zone}
use Rattle.zp_office.specs.Offices.{OfficeState, AreDesksOf, desk_of, in_order, next_done, no_desk, opened_desk, opened_office}
use Rattle.zp_replay.specs.Serving.{HasLists, IsDeskServed, IsOfficeServed, IsServed, as_made}

pub if_ok : {T E : Type 0} (P Q : T → Type 0) (r : Result T E) → ((x : T) → P x → Q x) → IfOk r P → IfOk r Q
if_ok P Q (Ok x) f p = f x p
if_ok P Q (Err e) f p = p

-- as many desks as before
pub order_length : (o : OfficeState) (ws : List ℕ) → length (in_order o ws).desks ≡ length o.desks
order_length o [] = refl
order_length o (w ∷ ws) = order_length (next_done w o) ws ∙ length-set o.desks w _

pub opened_length : (t : Trace) → length (opened_office t).desks ≡ t.header.workers
opened_length t = length-map-range_with_len (opened_desk t) 0 t.header.workers

-- a desk's script was carried out, over n zones
abbrev IsPlainServed : ℕ → PlainDesk → PlainDesk → Type 0
IsPlainServed n d e = (e.script ≡ d.script) × AllZip (IsAnswerTo n) d.script e.replies × HasLists d.share.batch d.share.high_len e.share

plain_served : (n : ℕ) (ds : List DeskState) (es : List PlainDesk) → All (λ (d : DeskState). length d.share.zones ≡ n) ds → AllZip IsDeskServed ds es → AllZip (IsPlainServed n) (map plain_desk ds) es
plain_served n [] [] all zip = zip
plain_served n [] (e ∷ es) all zip = absurd zip
plain_served n (d ∷ ds) [] all zip = absurd zip
plain_served n (d ∷ ds) (e ∷ es) all zip =
    let here : length d.share.zones ≡ n = all zero d (omega arith) in
    ((zip.0.script, subst (λ m. AllZip (IsAnswerTo m) d.script e.replies) here zip.0.answers, zip.0.lists), plain_served n ds es (λ k x lt. all (suc k) x (omega (arith, lt))) zip.1)

zip_get : {X Y : Type 0} (R : X → Y → Type 0) (xs : List X) (ys : List Y) (i : ℕ) (a : X) (b : Y) → AllZip R xs ys → i < length xs → R (get_or xs i a) (get_or ys i b)
zip_get R [] ys i a b zip lt = absurd (omega (arith, lt))
zip_get R (x ∷ xs) [] i a b zip lt = absurd zip
zip_get R (x ∷ xs) (y ∷ ys) zero a b zip lt = zip.0
zip_get R (x ∷ xs) (y ∷ ys) (suc i) a b zip lt = zip_get R xs ys i a b zip.1 (omega (arith, lt))

-- each share has as many places as there are zones
places : (zs : List ZoneState) (ds : List DeskState) → AreDesksOf zs ds → All (λ (d : DeskState). length d.share.zones ≡ length zs) ds
places zs ds are k d lt =
    let x = get_or ds k d in
    sym (length-map x.share.zones (λ (z : ZoneShareState). z.seat.tie))
    ∙ ap length (are.fit k d lt)
    ∙ length-map (map key_of zs) (λ (y : ZoneKey). y.tie)
    ∙ length-map zs key_of

-- the zones of an opened office are as they were made
pub opened_made : (n : ℕ) (lines : List ZoneLine) → map as_made (map (declared_zone n) lines) ≡ map (declared_zone n) lines
opened_made n [] = refl
opened_made n (l ∷ lines) =
    let here : as_made (declared_zone n l) ≡ declared_zone n l = λ i. record { name = l.name; plain = opening-opening (declared_largest l) l.base l.pages l.min n i } in
    ap₂ (λ z zs. z ∷ zs) here (opened_made n lines)

pub served_is : (t : Trace) (zs : List ZoneState) (ds : List DeskState) (o : OfficeState) → map named_zone zs ≡ (opened_office t).zones → map plain_desk ds ≡ (opened_office t).desks → AreDesksOf zs ds → IsOfficeServed zs ds o →
    IsServed t o
served_is t zs ds o zones desks are s =
    let zones_are : map as_made o.zones ≡ (opened_office t).zones =
    s.zones ∙ sym (map-map as_made named_zone zs) ∙ ap (map as_made) zones ∙ opened_made t.header.workers t.header.zones in
    let many : length zs ≡ length o.zones =
    sym (length-map zs (λ (z : ZoneState). as_made (named_zone z))) ∙ ap length (sym s.zones) ∙ length-map o.zones as_made in
    let zip : AllZip (IsPlainServed (length o.zones)) (opened_office t).desks o.desks =
    subst (λ (ps : List PlainDesk). AllZip (IsPlainServed (length o.zones)) ps o.desks) desks
    (subst (λ n. AllZip (IsPlainServed n) (map plain_desk ds) o.desks) many (plain_served (length zs) ds o.desks (places zs ds are) s.desks)) in
    let one : (w : ℕ) → w < t.header.workers → IsPlainServed (length o.zones) (opened_desk t w) (desk_of o w) =
    λ w lt.
    subst (λ (d : PlainDesk). IsPlainServed (length o.zones) d (desk_of o w)) (get_or-map-range_with_len (opened_desk t) 0 t.header.workers w w no_desk lt (omega arith))
    (zip_get (IsPlainServed (length o.zones)) (opened_office t).desks o.desks w no_desk no_desk zip (omega (arith, lt, opened_length t))) in
    record {
      zones = zones_are;
      workers = zip_length (IsPlainServed (length o.zones)) (opened_office t).desks o.desks zip ∙ opened_length t;
      lists = λ w lt. (one w lt).2;
      scripts = λ w lt. (one w lt).0;
      answers = λ w lt. (one w lt).1;
    }
