-- The making of a crew: zones of some configs, their seats, and the shares of their workers.
use Rattle.std.proofs.Common.{ℕ, ◌≡◌, ◌<◌, ◌≤◌, ◌+◌, ◌++◌, ◌∷◌, List, [], All, None, Option, refl, sym, ◌∙◌, ap, ap₂, subst, arith, length, map, take, drop, get_or}
use Rattle.std.specs.List.{range_with_len}
use Rattle.std.proofs.lemmas.List.{map_push, map_more, map-id, drop_more, drop-drop, length-map, length-take, length-drop, length-replicate, get_or-map, get_or-drop, get_or_at}
use Rattle.std.proofs.lemmas.List.Elements.{All-map}
use Rattle.std.proofs.lemmas.List.FromFn.{get_or-map-range_with_len, length-map-range_with_len, map-range_with_len_more}
use Rattle.std.proofs.lemmas.Simd.{map-map}
use Rattle.zp_model.specs.Books.{part, only}
use Rattle.zp_model.specs.Zone.{Holding, PostedBlock, workers_of}
use Rattle.zp_zone.specs.NamedZone.{NamedZone}
use Rattle.zp_zone.specs.Seats.{ZoneState, SeatState, IsUnused, books, seats_of}
use Rattle.zp_share.specs.PlainShares.{PlainShare, opening_own}
use Rattle.zp_share.specs.ZoneShares.{ZoneShareState, plain_share}
use Rattle.zp_share.specs.ZoneShares as of_zone
use Rattle.zp_share.specs.Shares.{ShareState, ZoneKey, IsShareOf, key_of, named_zone, no_seat, plain}
use Rattle.zp_share.specs.Crews.{AreSharesOf}
use Rattle.zp_crew.specs.Opening.{AreSeatsOf, PlainConfig, no_config, opened_zone, opening_share}

-- one element more, made from the next one of a list
pub made_more : {X Y : Type 0} (f : X → Y) (xs : List X) (i : ℕ) (d : X) (ys : List Y) (y : Y) → i < length xs → ys ≡ map f (take i xs) → y ≡ f (get_or xs i d) →
    ys ++ y ∷ [] ≡ map f (take (i + 1) xs)
made_more f xs i d ys y lt e is = ap (λ l. l ++ y ∷ []) e ∙ ap (λ v. map f (take i xs) ++ v ∷ []) is ∙ sym (map_more f xs i d lt)

-- what is made of the elements, where two makings are alike
alike : {X Y : Type 0} (f g : X → Y) → ((x : X) → f x ≡ g x) → (xs : List X) → map f xs ≡ map g xs
alike f g h [] = refl
alike f g h (x ∷ xs) = ap₂ (λ y ys. y ∷ ys) (h x) (alike f g h xs)

-- an element that was not written yet is as it was
pub unwritten : {X : Type 0} (f : X → X) (xs ys : List X) (i : ℕ) (x : X) → i < length xs → ys ≡ map f (take i xs) ++ drop i xs → x ≡ get_or ys i x → x ≡ get_or xs i x
unwritten f xs ys i x lt h is =
    let front = map f (take i xs) in
    let long : length front ≡ i = length-map (take i xs) f ∙ omega (arith, length-take i xs) in
    is ∙ ap (λ l. get_or l i x) (h ∙ ap (λ l. front ++ l) (drop_more xs i x lt)) ∙ get_or_at front _ _ x i long

-- as many were made as there were elements so far
pub made_count : {X Y Z : Type 0} (f : X → Y) (g : Z → Y) (xs : List X) (i : ℕ) (zs : List Z) → i < length xs → map g zs ≡ map f (take i xs) → length zs ≡ i
made_count f g xs i zs lt e = sym (length-map zs g) ∙ ap length e ∙ length-map (take i xs) f ∙ omega (arith, length-take i xs)

-- the zone of one config more
pub zones_more : (n : ℕ) (configs : List PlainConfig) (i : ℕ) (c : PlainConfig) (zs : List ZoneState) (z : ZoneState) → i < length configs →
    map named_zone zs ≡ map (opened_zone n) (take i configs) → named_zone z ≡ opened_zone n c → c ≡ get_or configs i c →
    map named_zone (zs ++ z ∷ []) ≡ map (opened_zone n) (take (i + 1) configs)
zones_more n configs i c zs z lt e f is =
    map_push named_zone zs z ∙ made_more (opened_zone n) configs i c (map named_zone zs) (named_zone z) lt e (f ∙ ap (opened_zone n) is)

-- the seats of n workers in a zone; those that are left when w workers have theirs; and worker w's
abbrev pub seats_in : ℕ → ZoneState → List SeatState
seats_in n z = seats_of z.tie (books z) n

abbrev pub seats_left : ℕ → ℕ → ZoneState → List SeatState
seats_left n w z = drop w (seats_in n z)

abbrev pub seat_in : ℕ → ZoneState → SeatState
seat_in w z = record { tie = z.tie; worker = w; part = part w (books z) }

-- the seats of one zone more
pub seats_more : (n : ℕ) (zs : List ZoneState) (z : ZoneState) (rows : List (List SeatState)) (row : List SeatState) → rows ≡ map (seats_in n) zs → row ≡ seats_in n z →
    rows ++ row ∷ [] ≡ map (seats_in n) (zs ++ z ∷ [])
seats_more n zs z rows row e f = ap (λ l. l ++ row ∷ []) e ∙ ap (λ r. map (seats_in n) zs ++ r ∷ []) f ∙ sym (map_push (seats_in n) zs z)

-- the seat in front of those that are left is the next worker's
front_seat : (n w : ℕ) (z : ZoneState) → w < n → get_or (seats_left n w z) 0 no_seat ≡ seat_in w z
front_seat n w z lt =
    get_or-drop w (seats_in n z) 0 no_seat ∙ get_or-map-range_with_len (λ v. seat_in v z) 0 n (w + 0) w no_seat (omega arith) (omega arith)

-- each row has a seat, while a worker has none
pub left_some : (n w : ℕ) (zs : List ZoneState) (rows : List (List SeatState)) → w < n → rows ≡ map (seats_left n w) zs → All (λ (row : List SeatState). 1 ≤ length row) rows
left_some n w zs rows lt e =
    subst (λ l. All (λ (row : List SeatState). 1 ≤ length row) l) (sym e)
    (All-map (λ (row : List SeatState). 1 ≤ length row) (seats_left n w) zs (λ k d at. some (get_or zs k d)))
  where
    some : (z : ZoneState) → 1 ≤ length (seats_left n w z)
    some z = omega (arith, lt, length-drop w (seats_in n z), length-map-range_with_len (λ v. seat_in v z) 0 n)

-- the front seats of all rows are the next worker's
pub fronts_are : (n w : ℕ) (zs : List ZoneState) (rows : List (List SeatState)) (own : List SeatState) → w < n → rows ≡ map (seats_left n w) zs →
    own ≡ map (λ (crew : List SeatState). get_or crew 0 no_seat) rows → own ≡ map (seat_in w) zs
fronts_are n w zs rows own lt e f =
    let front : List SeatState → SeatState = λ crew. get_or crew 0 no_seat in
    f ∙ ap (map front) e ∙ map-map front (seats_left n w) zs ∙ alike (λ z. front (seats_left n w z)) (seat_in w) (λ z. front_seat n w z lt) zs

-- the rows without their front seats
pub rests_are : (n w : ℕ) (zs : List ZoneState) (rows left : List (List SeatState)) → rows ≡ map (seats_left n w) zs → left ≡ map (λ (row : List SeatState). drop 1 row) rows →
    left ≡ map (seats_left n (w + 1)) zs
rests_are n w zs rows left e f =
    let rest : List SeatState → List SeatState = λ row. drop 1 row in
    f ∙ ap (map rest) e ∙ map-map rest (seats_left n w) zs
    ∙ alike (λ z. rest (seats_left n w z)) (seats_left n (w + 1)) (λ z. drop-drop 1 w (seats_in n z)) zs

-- how many zones there are
pub zones_count : (n : ℕ) (configs : List PlainConfig) (zs : List ZoneState) → map named_zone zs ≡ map (opened_zone n) configs → length zs ≡ length configs
zones_count n configs zs e = sym (length-map zs named_zone) ∙ ap length e ∙ length-map configs (opened_zone n)

-- a worker's seats are as many as the zones
pub own_count : (w : ℕ) (zs : List ZoneState) (own : List SeatState) → own ≡ map (seat_in w) zs → length own ≡ length zs
own_count w zs own e = ap length e ∙ length-map zs (seat_in w)

-- the first of them is the worker's
pub first_is : (w : ℕ) (zs : List ZoneState) (own : List SeatState) → 1 ≤ length own → own ≡ map (seat_in w) zs → (get_or own 0 no_seat).worker ≡ w
first_is w zs own some e = ap (λ l. (get_or l 0 no_seat).worker) e ∙ at zs (omega (arith, some, own_count w zs own e))
  where
    at : (xs : List ZoneState) → 1 ≤ length xs → (get_or (map (seat_in w) xs) 0 no_seat).worker ≡ w
    at [] le = absurd (omega arith)
    at (x ∷ xs) le = refl

-- and so are all
pub all_are : (w : ℕ) (zs : List ZoneState) (own : List SeatState) → 1 ≤ length own → own ≡ map (seat_in w) zs →
    All (λ (s : SeatState). s.worker ≡ (get_or own 0 no_seat).worker) own
all_are w zs own some e =
    let first = first_is w zs own some e in
    subst (λ v. All (λ (s : SeatState). s.worker ≡ v) own) (sym first)
    (subst (λ l. All (λ (s : SeatState). s.worker ≡ w) l) (sym e) (All-map (λ (s : SeatState). s.worker ≡ w) (seat_in w) zs (λ k d lt. refl)))

-- no request was made with them
pub all_unused : (n w : ℕ) (zs : List ZoneState) (rows : List (List SeatState)) (own : List SeatState) → w < n → AreSeatsOf n zs rows → own ≡ map (seat_in w) zs → All IsUnused own
all_unused n w zs rows own lt are e =
    subst (λ l. All IsUnused l) (sym e) (All-map IsUnused (seat_in w) zs one)
  where
    row_at : (k : ℕ) (d : ZoneState) → k < length zs → get_or rows k [] ≡ seats_in n (get_or zs k d)
    row_at k d at = ap (λ l. get_or l k []) are.seats ∙ get_or-map (seats_in n) zs k d [] at

    unused_row : (k : ℕ) (d : ZoneState) → k < length zs → All IsUnused (seats_in n (get_or zs k d))
    unused_row k d at =
        subst (λ l. All IsUnused l) (row_at k d at) (are.unused k [] (omega (arith, at, ap length are.seats, length-map zs (seats_in n))))

    one : (k : ℕ) (d : ZoneState) → k < length zs → IsUnused (seat_in w (get_or zs k d))
    one k d at =
        let z = get_or zs k d in
        subst IsUnused (get_or-map-range_with_len (λ v. seat_in v z) 0 n w w no_seat lt (omega arith))
        (unused_row k d at w no_seat (omega (arith, lt, length-map-range_with_len (λ v. seat_in v z) 0 n)))

-- a share made of a worker's seats
abbrev pub share_of : ℕ → ℕ → List SeatState → ShareState
share_of batch high own = record {
  worker = (get_or own 0 no_seat).worker;
  batch = batch;
  high_len = high;
  zones = map (λ (t : SeatState). of_zone.opening_share t (length t.part.blocks)) own;
}

-- without what ties it to the zones it is the worker's opening share
pub opened_as : (n : ℕ) (configs : List PlainConfig) (w : ℕ) (zs : List ZoneState) (own : List SeatState) (b g : ℕ) (s : ShareState) →
    map named_zone zs ≡ map (opened_zone n) configs → own ≡ map (seat_in w) zs → s ≡ share_of b g own → plain s ≡ opening_share b g configs w
opened_as n configs w zs own b g s e f es =
    ap plain es ∙ ap (λ parts. let p : PlainShare = record { batch = b; high_len = g; zones = parts } in p) parts
  where
    each : (z : ZoneState) → plain_share (of_zone.opening_share (seat_in w z) (length (seat_in w z).part.blocks)) ≡ opening_own w z.plain.base (length z.plain.out)
    each z = ap (opening_own w z.plain.base) (length-map z.plain.out (only w))

    config : (c : PlainConfig) → opening_own w (opened_zone n c).plain.base (length (opened_zone n c).plain.out) ≡ opening_own w c.base c.pages
    config c = ap (opening_own w c.base) (length-replicate c.pages (let o : Option Holding = None in o))

    parts : map plain_share (map (λ (t : SeatState). of_zone.opening_share t (length t.part.blocks)) own) ≡ map (λ (c : PlainConfig). opening_own w c.base c.pages) configs
    parts =
        map-map plain_share (λ (t : SeatState). of_zone.opening_share t (length t.part.blocks)) own
        ∙ ap (map (λ (t : SeatState). plain_share (of_zone.opening_share t (length t.part.blocks)))) f
        ∙ map-map (λ (t : SeatState). plain_share (of_zone.opening_share t (length t.part.blocks))) (seat_in w) zs
        ∙ alike (λ (z : ZoneState). plain_share (of_zone.opening_share (seat_in w z) (length (seat_in w z).part.blocks))) (λ (z : ZoneState). opening_own w z.plain.base (length z.plain.out)) each zs
        ∙ sym (map-map (λ (y : NamedZone). opening_own w y.plain.base (length y.plain.out)) named_zone zs)
        ∙ ap (map (λ (y : NamedZone). opening_own w y.plain.base (length y.plain.out))) e
        ∙ map-map (λ (y : NamedZone). opening_own w y.plain.base (length y.plain.out)) (opened_zone n) configs
        ∙ alike (λ (c : PlainConfig). opening_own w (opened_zone n c).plain.base (length (opened_zone n c).plain.out)) (λ (c : PlainConfig). opening_own w c.base c.pages) config configs

-- it is one of these zones
pub opened_fits : (w : ℕ) (zs : List ZoneState) (own : List SeatState) (b g : ℕ) (s : ShareState) → own ≡ map (seat_in w) zs → s ≡ share_of b g own → IsShareOf (map key_of zs) s
opened_fits w zs own b g s f es =
    ap (λ (x : ShareState). map (λ (z : ZoneShareState). z.seat.tie) x.zones) es
    ∙ map-map (λ (z : ZoneShareState). z.seat.tie) (λ (t : SeatState). of_zone.opening_share t (length t.part.blocks)) own
    ∙ ap (map (λ (t : SeatState). t.tie)) f
    ∙ map-map (λ (t : SeatState). t.tie) (seat_in w) zs
    ∙ sym (map-map (λ (k : ZoneKey). k.tie) key_of zs)

-- and the worker's
pub opened_worker : (w : ℕ) (zs : List ZoneState) (own : List SeatState) (b g : ℕ) (s : ShareState) → 1 ≤ length own → own ≡ map (seat_in w) zs → s ≡ share_of b g own →
    s.worker ≡ w
opened_worker w zs own b g s some f es = ap (λ (x : ShareState). x.worker) es ∙ first_is w zs own some f

-- the shares of the workers so far, with the next one's
pub shares_more : (opening : ℕ → PlainShare) (w : ℕ) (ss : List ShareState) (s : ShareState) → map plain ss ≡ map opening (range_with_len 0 w) → plain s ≡ opening w →
    map plain (ss ++ s ∷ []) ≡ map opening (range_with_len 0 (w + 1))
shares_more opening w ss s e f =
    map_push plain ss s ∙ ap (λ l. l ++ plain s ∷ []) e ∙ ap (λ v. map opening (range_with_len 0 w) ++ v ∷ []) f
    ∙ sym (map-range_with_len_more opening 0 w w (omega arith))

-- their workers are all before the next, in order
pub workers_more : (w : ℕ) (ss : List ShareState) (s : ShareState) → map (λ (x : ShareState). x.worker) ss ≡ range_with_len 0 w → s.worker ≡ w →
    map (λ (x : ShareState). x.worker) (ss ++ s ∷ []) ≡ range_with_len 0 (w + 1)
workers_more w ss s e f =
    map_push (λ (x : ShareState). x.worker) ss s
    ∙ ap₂ (λ l v. l ++ v ∷ []) (e ∙ sym (map-id (range_with_len 0 w))) f
    ∙ sym (map-range_with_len_more (λ v. v) 0 w w (omega arith))
    ∙ map-id (range_with_len 0 (w + 1))

-- there are as many shares as workers so far
pub shares_count : (w : ℕ) (ss : List ShareState) (opening : ℕ → PlainShare) → map plain ss ≡ map opening (range_with_len 0 w) → length ss ≡ w
shares_count w ss opening e = sym (length-map ss plain) ∙ ap length e ∙ length-map-range_with_len opening 0 w

-- when each worker has a share, they are the crew of the zones
pub crew_is : (n : ℕ) (configs : List PlainConfig) (zs : List ZoneState) (ss : List ShareState) (opening : ℕ → PlainShare) → map named_zone zs ≡ map (opened_zone n) configs →
    map plain ss ≡ map opening (range_with_len 0 n) → map (λ (x : ShareState). x.worker) ss ≡ range_with_len 0 n → All (IsShareOf (map key_of zs)) ss → AreSharesOf zs ss
crew_is n configs zs ss opening e f g fit =
    let count : length ss ≡ n = shares_count n ss opening f in
    record { fit = fit; workers = g ∙ ap (range_with_len 0) (sym count); crew = λ k d lt. each k d lt ∙ sym count }
  where
    empty : List PostedBlock
    empty = []

    each : (k : ℕ) (d : ZoneState) → k < length zs → workers_of (get_or zs k d).plain ≡ n
    each k d lt =
        let y : NamedZone = opened_zone n no_config in
        ap (λ (x : NamedZone). workers_of x.plain) (sym (get_or-map named_zone zs k d y lt) ∙ ap (λ l. get_or l k y) e ∙ get_or-map (opened_zone n) configs k no_config y (omega (arith, lt, zones_count n configs zs e)))
        ∙ length-replicate n empty
