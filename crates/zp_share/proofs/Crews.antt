-- The workers of a row of zones, and their shares.
use Rattle.std.proofs.Common.{ℕ, zero, suc, zero-add, ◌+◌, ◌≡◌, ◌≤◌, ◌<◌, ◌==◌, inl, inr, sym, ◌∙◌, ap, subst, arith, List, length, map, get_or, All}
use Rattle.std.specs.List.{range_with_len, count_by}
use Rattle.std.proofs.Math.ListN.{get_or-map}
use Rattle.std.proofs.lemmas.Bool.{cases_eq, eq-eqb, ne_eqb}
use Rattle.std.proofs.lemmas.List.{length-map, get_or-map as get_or-there}
use Rattle.std.proofs.lemmas.List.Elements.{All-map}
use Rattle.std.proofs.lemmas.List.FromFn.{get_or-range_with_len}
use Rattle.std.proofs.lemmas.List.Sums.{sum_by-cons}
use Rattle.zp_model.specs.Zone.{workers_of}
use Rattle.zp_laws.proofs.Counting.{count-none, one_if}
use Rattle.zp_zone.specs.Seats.{ZoneState}
use Rattle.zp_share.specs.Crews.{AreSharesOf}
use Rattle.zp_share.specs.Gathering.{IsCrewOf}
use Rattle.zp_share.specs.Shares.{ShareState, ZoneKey, IsShareOf, HasWorkerAt, key_of, no_key, workers_at}
use Rattle.zp_share.specs.ZoneShares.{ZoneShareState}
use Rattle.zp_share.proofs.Owners.{sum-map}

-- zones with the same keys are as many
pub keys-length : (zones new : List ZoneState) → map key_of new ≡ map key_of zones → length new ≡ length zones
keys-length zones new e = sym (length-map new key_of) ∙ ap length e ∙ length-map zones key_of

-- and have the same numbers of workers
pub keys-workers : (zones new : List ZoneState) (n : ℕ) → map key_of new ≡ map key_of zones → All (λ (z : ZoneState). workers_of z.plain ≡ n) zones →
    All (λ (z : ZoneState). workers_of z.plain ≡ n) new
keys-workers zones new n e are k d lt =
    ap (λ (x : ZoneKey). x.workers) (sym (get_or-map key_of new k d))
    ∙ ap (λ (xs : List ZoneKey). (get_or xs k (key_of d)).workers) e
    ∙ ap (λ (x : ZoneKey). x.workers) (get_or-map key_of zones k d)
    ∙ are k d (omega (arith, keys-length zones new e))

-- a share has as many places as there are zones
pub places : (zones : List ZoneState) (s : ShareState) → IsShareOf (map key_of zones) s → length s.zones ≡ length zones
places zones s fits =
    sym (length-map s.zones (λ (x : ZoneShareState). x.seat.tie)) ∙ ap length fits ∙ length-map (map key_of zones) (λ (k : ZoneKey). k.tie) ∙ length-map zones key_of

-- each share is one of the zones
pub fits_there : (zones : List ZoneState) (shares : List ShareState) (n : ℕ) (s d : ShareState) → AreSharesOf zones shares → n < length shares → s ≡ get_or shares n d →
    IsShareOf (map key_of zones) s
fits_there zones shares n s d are lt e = subst (IsShareOf (map key_of zones)) (sym e) (are.fit n d lt)

-- a share's worker is the number of its place
pub worker_at : (zones : List ZoneState) (shares : List ShareState) (n : ℕ) (s d : ShareState) → AreSharesOf zones shares → n < length shares → s ≡ get_or shares n d → s.worker ≡ n
worker_at zones shares n s d are lt e =
    ap (λ (t : ShareState). t.worker) e
    ∙ sym (get_or-there (λ (t : ShareState). t.worker) shares n d 0 lt)
    ∙ ap (λ l. get_or l n 0) are.workers
    ∙ get_or-range_with_len 0 (length shares) n 0 lt
    ∙ zero-add n

-- each zone has each of the workers
pub worker_there : (zones : List ZoneState) (shares : List ShareState) (i w : ℕ) → AreSharesOf zones shares → i < length zones → w < length shares →
    HasWorkerAt (map key_of zones) i w
worker_there zones shares i w are lt below =
    let all : All (λ (k : ZoneKey). k.workers ≡ length shares) (map key_of zones) = All-map (λ (k : ZoneKey). k.workers ≡ length shares) key_of zones are.crew in
    let here : workers_at (map key_of zones) i ≡ length shares = all i no_key (omega (arith, length-map zones key_of)) in
    omega (arith, here, below)

-- a number of a range stands there once
count-one : (w a n : ℕ) → a ≤ w → w < a + n → count_by (λ v. v == w) (range_with_len a n) ≡ 1
count-one w a zero lo hi = absurd (omega arith)
count-one w a (suc n) lo hi =
    let x = sum_by-cons (λ v. one_if (v == w)) a (range_with_len (a + 1) n) in
    elim (cases_eq a w) [
      | inl same ↦
          let rest : count_by (λ v. v == w) (range_with_len (a + 1) n) ≡ 0 = count-none (λ v. v == w) (a + 1) n (λ i lo hi. ne_eqb i w (λ e. omega arith)) in
          let e : one_if (a == w) ≡ 1 = ap one_if (eq-eqb a w same) in
          omega (arith, x)
      | inr ne ↦
          let rest : count_by (λ v. v == w) (range_with_len (a + 1) n) ≡ 1 = count-one w (a + 1) n (omega arith) (omega arith) in
          let e : one_if (a == w) ≡ 0 = ap one_if (ne_eqb a w ne) in
          omega (arith, x)
    ]

-- each worker of each zone has one of the shares
pub crew_there : (zones : List ZoneState) (shares : List ShareState) → AreSharesOf zones shares → All (IsCrewOf shares) zones
crew_there zones shares are k d lt w below =
    sym (sum-map (λ v. one_if (v == w)) (λ (s : ShareState). s.worker) shares)
    ∙ ap (λ l. count_by (λ v. v == w) l) are.workers
    ∙ count-one w 0 (length shares) (omega arith) (omega (arith, are.crew k d lt))
