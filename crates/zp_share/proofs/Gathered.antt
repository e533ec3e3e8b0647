-- What the shares of a row of zones have of one zone, as contracts see it, is what their workers have there.
use Rattle.std.proofs.Common.{ℕ, ◌+◌, ◌≡◌, ◌≤◌, ◌<◌, ◌==◌, sym, ◌∙◌, ap, subst, arith, List, [], ◌∷◌, ◌++◌, length, map, get_or, take, All}
use Rattle.std.specs.List.{range_with_len, sum_by}
use Rattle.std.proofs.lemmas.List.{get_or-map}
use Rattle.std.proofs.lemmas.List.Sums.{sum_by_more_le}
use Rattle.std.proofs.lemmas.List.FromFn.{map-range_with_len_more}
use Rattle.std.proofs.lemmas.List.Elements.{All-map}
use Rattle.zp_model.specs.Lawful.{IsLawful}
use Rattle.zp_laws.proofs.Counting.{one_if, sums_within}
use Rattle.zp_zone.specs.Seats.{ZoneState, IsSeatOf}
use Rattle.zp_share.specs.declared.gathering.Totals.{Totals}
use Rattle.zp_share.specs.PlainShares.{PlainZoneShare, PlainShare, no_own, own_at}
use Rattle.zp_share.specs.Commands.{no_zone, zone_at}
use Rattle.zp_share.specs.ZoneShares.{plain_share, opening_share}
use Rattle.zp_share.specs.Shares.{ShareState, IsShareOf, key_of, named_zone, no_seat, plain, share_at}
use Rattle.zp_share.specs.Gathering.{AddsUp, IsCrewOf, IsOneOf, owns_at}
use Rattle.zp_share.proofs.Closing.{listing}
use Rattle.zp_share.proofs.Owners.{sum-map, IsOwnIn, adds_up}
use Rattle.zp_share.proofs.Telling.{seat_at}

-- what a share has of a zone, without what ties it to the zone
pub own-is : (s : ShareState) (place : ℕ) → place < length s.zones → own_at (plain s) place ≡ plain_share (share_at s place)
own-is s place lt = get_or-map plain_share s.zones place (opening_share no_seat 0) no_own lt

-- a sum over what shares have of a zone is a sum over the shares
pub sum-owns : (f : PlainZoneShare → ℕ) (place : ℕ) (xs : List ShareState) → sum_by f (owns_at (map plain xs) place) ≡ sum_by (λ s. f (own_at (plain s) place)) xs
sum-owns f place xs = sum-map f (λ (s : PlainShare). own_at s place) (map plain xs) ∙ sum-map (λ (s : PlainShare). f (own_at s place)) plain xs

-- those of the first shares and of one more are no more than those of all
pub sum-owns_le : (f : PlainZoneShare → ℕ) (place i : ℕ) (xs : List ShareState) (d : ShareState) → i < length xs → place < length (get_or xs i d).zones →
    sum_by f (owns_at (map plain (take i xs)) place) + f (plain_share (share_at (get_or xs i d) place)) ≤ sum_by f (owns_at (map plain xs) place)
sum-owns_le f place i xs d lt in_row =
    let a = sum-owns f place xs in
    let b = sum-owns f place (take i xs) in
    let c = sum_by_more_le (λ (s : ShareState). f (own_at (plain s) place)) xs i d lt in
    let e = ap f (own-is (get_or xs i d) place in_row) in
    omega (arith, a, b, c, e)

-- a share that agrees with a zone has there what is out in its worker's name
one_own : (z : ZoneState) (place : ℕ) (s : ShareState) → place < length s.zones → IsOneOf z place s → IsOwnIn z.plain.out (own_at (plain s) place)
one_own z place s lt x =
    let own : IsOwnIn z.plain.out (plain_share (share_at s place)) = record { blocks = x.agrees.blocks; listing = listing (share_at s place) x.whole } in
    subst (λ o. IsOwnIn z.plain.out o) (sym (own-is s place lt)) own

each_own : (z : ZoneState) (place : ℕ) (ss : List ShareState) → All (λ (s : ShareState). place < length s.zones) ss → All (IsOneOf z place) ss → All (IsOwnIn z.plain.out) (owns_at (map plain ss) place)
each_own z place ss in_row agree =
    All-map (IsOwnIn z.plain.out) (λ s. own_at s place) (map plain ss)
    (All-map (λ s. IsOwnIn z.plain.out (own_at s place)) plain ss (λ k d far. one_own z place (get_or ss k d) (in_row k d far) (agree k d far)))

-- with the shares of all its workers, each page of a zone lies in one place
pub gathered_once : (z : ZoneState) (place : ℕ) (ss : List ShareState) → IsLawful z.plain → All (λ (s : ShareState). place < length s.zones) ss → IsCrewOf ss z → All (IsOneOf z place) ss →
    AddsUp z.plain (owns_at (map plain ss) place)
gathered_once z place ss lawful in_row crew agree =
    adds_up z.plain (owns_at (map plain ss) place) lawful
    (λ w lt. sum-owns (λ (o : PlainZoneShare). one_if (o.worker == w)) place ss
    ∙ sums_within (λ (s : ShareState). one_if ((own_at (plain s) place).worker == w)) (λ s. one_if (s.worker == w)) ss
    (λ k d far. ap (λ (o : PlainZoneShare). one_if (o.worker == w)) (own-is (get_or ss k d) place (in_row k d far)) ∙ ap (λ v. one_if (v == w)) (agree k d far).worker)
    ∙ crew w lt)
    (each_own z place ss in_row agree)

-- totals whose numbers are the same
pub same_totals : (t u : Totals) → t.free ≡ u.free → t.posted ≡ u.posted → t.cached ≡ u.cached → t.lent ≡ u.lent → t ≡ u
same_totals t u free posted cached lent = λ i. let v : Totals = record { free = free i; posted = posted i; cached = cached i; lent = lent i } in v

-- the zone at a place, without its tie and its entries
pub named-is : (zs : List ZoneState) (i : ℕ) (d : ZoneState) → i < length zs → (zone_at (map named_zone zs) i).plain ≡ (get_or zs i d).plain
named-is zs i d lt = ap (λ z. z.plain) (get_or-map named_zone zs i d no_zone lt)

pub all_fitted : (zs : List ZoneState) (ss : List ShareState) (i : ℕ) (d : ZoneState) → i < length zs → All (IsShareOf (map key_of zs)) ss →
    All (λ (s : ShareState). IsSeatOf (get_or zs i d) (share_at s i).seat) ss
all_fitted zs ss i d lt x k e far = seat_at zs i (get_or ss k e) d lt (x k e far)

-- the totals of one zone more
pub totals_more : (f : ℕ → Totals) (n : ℕ) (ts : List Totals) (t : Totals) → ts ≡ map f (range_with_len 0 n) → t ≡ f n → ts ++ t ∷ [] ≡ map f (range_with_len 0 (n + 1))
totals_more f n ts t e et = ap (λ l. l ++ t ∷ []) e ∙ ap (λ v. map f (range_with_len 0 n) ++ v ∷ []) et ∙ sym (map-range_with_len_more f 0 n n (omega arith))
