-- The keys of a row's zones while it is made.
use Rattle.std.proofs.Common.{ℕ, ◌≡◌, ◌<◌, ◌+◌, ◌++◌, ◌∷◌, ◌∙◌, List, [], All, ap, length, map, replicate, slice_index_or, sym, take, true}
use Rattle.std.proofs.lemmas.List.{length-replicate, map_more, map_push}
use Rattle.std.proofs.lemmas.List.Elements.{All-map}
use Rattle.std.specs.Arc.{arc_value}
use Rattle.std.specs.List.{range_with_len}
use Rattle.atomic_table.specs.Seated.{TableId}
use Rattle.zp_model.specs.Area.{opening}
use Rattle.zp_model.specs.Books.{Books, part}
use Rattle.zp_model.specs.Zone.{PostedBlock, zone_opening}
use Rattle.zp_laws.proofs.Opening.{free-opening, largest-opening}
use Rattle.zp_zone.specs.Seats.{SeatState, ZoneState, seats_of}
use Rattle.zp_share.specs.Shares.{ZoneKey, key_of}
use Rattle.zp_gate.specs.declared.opening.OpenedZone.{OpenedZone}
use Rattle.zp_gate.specs.GatedZones.{GateKey, IsSeatBy}
use Rattle.zp_gate.specs.GatedRows.{lock_key}

abbrev pub key_in : OpenedZone → GateKey
key_in z = lock_key (arc_value z.lock)

-- what is the same of two lists so far is so with one value more of each
pub same_next : {A B K : Type 0} (f : A → K) (g : B → K) (xs now : List A) (a : A) (bs : List B) (i : ℕ) (d : B) → i < length bs → now ≡ xs ++ a ∷ [] → map f xs ≡ map g (take i bs) → f a ≡ g (slice_index_or bs i d) →
    map f now ≡ map g (take (i + 1) bs)
same_next f g xs now a bs i d lt is same here =
    ap (map f) is ∙ map_push f xs a ∙ ap (λ ks. ks ++ f a ∷ []) same ∙ ap (λ k. map g (take i bs) ++ k ∷ []) here ∙ sym (map_more g bs i d lt)

-- a zone that was opened has the key that it was made with
pub opening_key : (z : ZoneState) (t : TableId) (name : List ℕ) (m base pages min workers : ℕ) → z ≡ record { tie = t; name = name; plain = zone_opening m base pages min workers; entries = [] } →
    key_of z ≡ record { tie = t; name = name; base = base; pages = pages; min = min; largest = m; workers = workers }
opening_key z t name m base pages min workers is =
    let many : length (opening m pages).free ≡ pages = ap length (free-opening m pages) ∙ length-replicate pages true in
    let crew : length (replicate {A = List PostedBlock} workers []) ≡ workers = length-replicate {A = List PostedBlock} workers [] in
    ap key_of is ∙ (λ i. record { tie = t; name = name; base = base; pages = many i; min = min; largest = largest-opening m pages i; workers = crew i })

-- the seats of a zone are of its key
pub seats_by : (t : TableId) (b : Books) (n : ℕ) (k : ZoneKey) → t ≡ k.tie → b.plain.base ≡ k.base → All (IsSeatBy k) (seats_of t b n)
seats_by t b n k tie base = All-map (IsSeatBy k) (λ w. let s : SeatState = record { tie = t; worker = w; part = part w b } in s) (range_with_len 0 n) (λ i d lt. (tie, base))
