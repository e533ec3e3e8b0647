-- Rows of readers: whose boards they read, and what they have seen.
use Rattle.std.proofs.Common.{ℕ, zero, suc, ◌≡◌, ◌≢◌, ◌<◌, ◌≤◌, ◌+◌, ◌⊎◌, inl, inr, Some, All, List, [], ◌∷◌, ◌++◌, length, length-append, map, get_or, slice_index_or, slice_set, refl, sym, ap, ap₂, subst, ◌∙◌, arith, append_assoc, append-nil}
use Rattle.std.specs.List.{slice_get}
use Rattle.std.proofs.Math.Seq.{get_or-append_seam}
use Rattle.std.proofs.lemmas.Bool.{cases_lt}
use Rattle.std.proofs.lemmas.Option.{get_or_from_slice_get, slice_get-get_or, slice_get_within}
use Rattle.std.proofs.lemmas.List.Elements.{All-cons, All-head, All-tail}
use Rattle.std.proofs.lemmas.List.{get_or-map, get_or_append_left, length-map}
use Rattle.std.proofs.lemmas.List.FromFn.{get_or-range_with_len}
use mathlib.Core.List.{IsPrefix}
use Rattle.zp_model.specs.declared.counts.Counts.{Counts}
use Rattle.zp_counts.specs.CountBoards.{BoardState}
use Rattle.zp_counts.specs.declared.reading.Reading.{Reading}
use Rattle.zp_counts.specs.CountBoards.{CountsSeen, IsReadingOf}
use Rattle.zp_shared.proofs.Publishing.{taken_published}
use Rattle.zp_zone.specs.Seats.{ZoneState}
use Rattle.zp_shared.proofs.Places.{zip_all}
use Rattle.zp_share.specs.Shares.{ZoneKey}
use Rattle.std.specs.Global.{Vec}
use Rattle.std.specs.List.{AllZip}
use Rattle.zp_shared.specs.Rows.{GuardedZone, IsRowOf, AreKept, AreReaders, AreReadersOf, HaveReadAll, HaveReadAt, HaveReadZone, HaveReadZones, HaveSeen, IsCountsOf, IsPublished, board_at, no_board, no_reader, seen_at, seen_by}

-- at each place of a row stands that place
pub place_at : (keys : List ZoneKey) (places : List ℕ) (i d : ℕ) → IsRowOf keys places → i < length keys → slice_index_or places i d ≡ i
place_at keys places i d row lt =
    let z : 0 + i ≡ i = omega arith in
    ap (λ l. slice_index_or l i d) row ∙ get_or-range_with_len 0 (length keys) i d lt ∙ z

-- there are as many readers as zones
pub readers_length : (keys : List ZoneKey) (boards : List BoardState) (rs : List CountsSeen) → AreReadersOf keys boards rs → length rs ≡ length keys
readers_length keys boards rs fit =
    sym (length-map rs (λ (r : CountsSeen). r.tie)) ∙ ap length fit.1 ∙ length-map boards (λ (b : BoardState). b.tie) ∙ fit.0

-- each reads the board of its place
pub reader_tie : (keys : List ZoneKey) (boards : List BoardState) (rs : List CountsSeen) (i : ℕ) (d : CountsSeen) → AreReadersOf keys boards rs → i < length keys
    → (slice_index_or rs i d).tie ≡ (board_at boards i).tie
reader_tie keys boards rs i d fit lt =
    let many = readers_length keys boards rs fit in
    let here : i < length rs = omega (arith, many, lt) in
    let there : i < length boards = omega (arith, fit.0, lt) in
    sym (get_or-map (λ (r : CountsSeen). r.tie) rs i d d.tie here)
    ∙ ap (λ l. slice_index_or l i d.tie) fit.1
    ∙ get_or-map (λ (b : BoardState). b.tie) boards i no_board d.tie there

-- the ties stay where a reader of the same board is put at a place
ties_set : (rs : List CountsSeen) (k : ℕ) (s d : CountsSeen) → s.tie ≡ (slice_index_or rs k d).tie → map (λ (r : CountsSeen). r.tie) (slice_set rs k s) ≡ map (λ (r : CountsSeen). r.tie) rs
ties_set [] k s d e = refl
ties_set (r ∷ rs) zero s d e = ap (λ t. t ∷ map (λ (v : CountsSeen). v.tie) rs) e
ties_set (r ∷ rs) (suc k) s d e = ap (λ l. r.tie ∷ l) (ties_set rs k s d e)

-- they stay the readers of the row where a reader of the same board is put at a place
pub readers_set : (keys : List ZoneKey) (boards : List BoardState) (rs : List CountsSeen) (k : ℕ) (s d : CountsSeen) → AreReadersOf keys boards rs → s.tie ≡ (slice_index_or rs k d).tie
    → AreReadersOf keys boards (slice_set rs k s)
readers_set keys boards rs k s d fit e = (fit.0, ties_set rs k s d e ∙ fit.1)

prefix_self : (cs : List Counts) → IsPrefix cs cs
prefix_self cs = ([], append-nil cs)

-- what begins with all that was seen, begins with all that was seen before
prefix_trans : (xs ys zs : List Counts) → IsPrefix xs ys → IsPrefix ys zs → IsPrefix xs zs
prefix_trans xs ys zs p q = (p.0 ++ q.0, sym (append_assoc xs p.0 q.0) ∙ ap (λ l. l ++ q.0) p.1 ∙ q.1)

-- readers have seen what they have seen
pub seen_same : (seen : List (List Counts)) → HaveSeen seen seen
seen_same seen i = prefix_self (seen_at seen i)

-- so it is under another name of what they have seen
pub seen_named : (before after : List (List Counts)) → after ≡ before → HaveSeen before after
seen_named before after e = subst (HaveSeen before) (sym e) (seen_same before)

-- at each place, what is seen begins with what was seen
pub seen_put : (rs : List CountsSeen) (k : ℕ) (s d : CountsSeen) → IsPrefix (slice_index_or rs k d).seen s.seen → HaveSeen (seen_by rs) (seen_by (slice_set rs k s))
seen_put [] k s d h i = prefix_self (seen_at [] i)
seen_put (r ∷ rs) zero s d h zero = h
seen_put (r ∷ rs) zero s d h (suc i) = prefix_self (seen_at (seen_by rs) i)
seen_put (r ∷ rs) (suc k) s d h zero = prefix_self r.seen
seen_put (r ∷ rs) (suc k) s d h (suc i) = seen_put rs k s d h i

-- and each reader knows of as many as it knew of, or more
pub known_put : (rs : List CountsSeen) (k : ℕ) (s d : CountsSeen) → (slice_index_or rs k d).known ≤ s.known → (i : ℕ) →
    (slice_index_or rs i no_reader).known ≤ (slice_index_or (slice_set rs k s) i no_reader).known
known_put [] k s d h i = omega arith
known_put (r ∷ rs) zero s d h zero = h
known_put (r ∷ rs) zero s d h (suc i) = omega arith
known_put (r ∷ rs) (suc k) s d h zero = omega arith
known_put (r ∷ rs) (suc k) s d h (suc i) = known_put rs k s d h i

-- all that was seen is seen still where a reader that has seen more is put at a place
pub seen_set : (before : List (List Counts)) (rs : List CountsSeen) (k : ℕ) (s d : CountsSeen) → HaveSeen before (seen_by rs) → IsPrefix (slice_index_or rs k d).seen s.seen
    → HaveSeen before (seen_by (slice_set rs k s))
seen_set before rs k s d h more i =
    prefix_trans (seen_at before i) (seen_at (seen_by rs) i) (seen_at (seen_by (slice_set rs k s)) i) (h i) (seen_put rs k s d more i)

-- what is seen at a place is what the reader there has seen
pub seen_by_at : (rs : List CountsSeen) (k : ℕ) (d : CountsSeen) → k < length rs → seen_at (seen_by rs) k ≡ (slice_index_or rs k d).seen
seen_by_at [] k d lt = absurd (omega (arith, lt))
seen_by_at (r ∷ rs) zero d lt = refl
seen_by_at (r ∷ rs) (suc k) d lt = seen_by_at rs k d (omega (arith, lt))

-- the reader that is put at a place is there, and at the others is what was there
pub seen_here : (rs : List CountsSeen) (k : ℕ) (s : CountsSeen) → k < length rs → seen_at (seen_by (slice_set rs k s)) k ≡ s.seen
seen_here [] k s lt = absurd (omega (arith, lt))
seen_here (r ∷ rs) zero s lt = refl
seen_here (r ∷ rs) (suc k) s lt = seen_here rs k s (omega (arith, lt))

pub seen_beside : (rs : List CountsSeen) (k i : ℕ) (s : CountsSeen) → i ≢ k → seen_at (seen_by (slice_set rs k s)) i ≡ seen_at (seen_by rs) i
seen_beside [] k i s other = refl
seen_beside (r ∷ rs) zero zero s other = absurd (other refl)
seen_beside (r ∷ rs) zero (suc i) s other = refl
seen_beside (r ∷ rs) (suc k) zero s other = refl
seen_beside (r ∷ rs) (suc k) (suc i) s other = seen_beside rs k i s (λ same. other (ap suc same))

-- readers that are as they were are kept
pub kept_same : (keys : List ZoneKey) (boards : List BoardState) (rs ss : List CountsSeen) → ss ≡ rs → AreReadersOf keys boards rs
    → AreReadersOf keys boards ss × HaveSeen (seen_by rs) (seen_by ss)
kept_same keys boards rs ss e fit = (subst (AreReadersOf keys boards) (sym e) fit, seen_named (seen_by rs) (seen_by ss) (ap seen_by e))

-- the reader of the guarded zone's place in a row has read the zone's board
abbrev pub HasReadRow : List ZoneKey → List BoardState → GuardedZone → Vec CountsSeen → Vec CountsSeen → Type 0
HasReadRow keys boards g rs ss = HaveReadAt g.place g.zone rs ss × AreKept keys boards rs ss

-- two relations of two lists, place by place
pub zip_both : {A : Type 0} (P Q : A → A → Type 0) (xs ys : List A) → AllZip (λ x y. P x y × Q x y) xs ys → AllZip P xs ys × AllZip Q xs ys
zip_both P Q [] [] zip = (tt, tt)
zip_both P Q [] (y ∷ ys) zip = absurd zip
zip_both P Q (x ∷ xs) [] zip = absurd zip
zip_both P Q (x ∷ xs) (y ∷ ys) zip = let rest = zip_both P Q xs ys zip.1 in ((zip.0.0, rest.0), (zip.0.1, rest.1))

-- rows of readers that are as they were are kept
pub rows_same : (keys : List ZoneKey) (boards : List BoardState) (rows : List (Vec CountsSeen)) → All (AreReaders keys boards) rows → AllZip (AreKept keys boards) rows rows
rows_same keys boards [] fit = tt
rows_same keys boards (v ∷ rows) fit =
    (kept_same keys boards v.items v.items refl (All-head (AreReaders keys boards) v rows fit), rows_same keys boards rows (All-tail (AreReaders keys boards) v rows fit))

-- readers that are kept are readers of the row
pub rows_fit : (keys : List ZoneKey) (boards : List BoardState) (rows new : List (Vec CountsSeen)) → AllZip (AreKept keys boards) rows new → All (AreReaders keys boards) new
rows_fit keys boards rows new kept = zip_all (λ v. Unit {0}) (AreReaders keys boards) (AreKept keys boards) (λ v w u k. k.0) rows new (λ k d lt. tt) kept

kept_trans : (keys : List ZoneKey) (boards : List BoardState) (u v w : Vec CountsSeen) → AreKept keys boards u v → AreKept keys boards v w → AreKept keys boards u w
kept_trans keys boards u v w a b =
    (b.0, λ i. prefix_trans (seen_at (seen_by u.items) i) (seen_at (seen_by v.items) i) (seen_at (seen_by w.items) i) (a.1 i) (b.1 i))

-- and are kept where they are kept further
pub rows_trans : (keys : List ZoneKey) (boards : List BoardState) (us vs ws : List (Vec CountsSeen)) → AllZip (AreKept keys boards) us vs → AllZip (AreKept keys boards) vs ws → AllZip (AreKept keys boards) us ws
rows_trans keys boards [] [] [] a b = tt
rows_trans keys boards [] [] (w ∷ ws) a b = absurd b
rows_trans keys boards [] (v ∷ vs) ws a b = absurd a
rows_trans keys boards (u ∷ us) [] ws a b = absurd a
rows_trans keys boards (u ∷ us) (v ∷ vs) [] a b = absurd b
rows_trans keys boards (u ∷ us) (v ∷ vs) (w ∷ ws) a b = (kept_trans keys boards u v w a.0 b.0, rows_trans keys boards us vs ws a.1 b.1)

-- the readers of a row have read one zone more, the next one
read_more : (zs : List ZoneState) (z : ZoneState) (y : ℕ) (rs ss : Vec CountsSeen) → y ≡ length zs → HaveReadZones zs rs → HaveReadAt y z rs ss → HaveReadZones (zs ++ z ∷ []) ss
read_more zs z y rs ss at was read i v is = go (cases_lt i (length zs))
  where
    go : (i < length zs) ⊎ (length zs ≤ i) → IsPublished v (seen_at (seen_by ss.items) i)
    go (inl lt) =
        let there : slice_get zs i ≡ Some v = slice_get-get_or zs i v lt ∙ ap Some (sym (get_or_append_left zs (z ∷ []) v i lt) ∙ get_or_from_slice_get (zs ++ z ∷ []) i v v is) in
        let other : i ≢ y = omega arith in
        subst (IsPublished v) (sym (read.others i other)) (was i v there)
    go (inr le) =
        let inside : i < length (zs ++ z ∷ []) = slice_get_within (zs ++ z ∷ []) i v is in
        let here : i ≡ length zs = omega (arith, inside, le, length-append zs (z ∷ [])) in
        let one : z ≡ v = sym (get_or-append_seam zs z [] v) ∙ ap (λ k. get_or (zs ++ z ∷ []) k v) (sym here) ∙ get_or_from_slice_get (zs ++ z ∷ []) i v v is in
        let place : y ≡ i = omega arith in
        subst (λ k. IsPublished v (seen_at (seen_by ss.items) k)) place (subst (λ (x : ZoneState). IsPublished x (seen_at (seen_by ss.items) y)) one read.here)

pub rows_read_more : (zs : List ZoneState) (z : ZoneState) (y : ℕ) (rows new : List (Vec CountsSeen)) → y ≡ length zs → All (HaveReadZones zs) rows → AllZip (HaveReadAt y z) rows new →
    All (HaveReadZones (zs ++ z ∷ [])) new
rows_read_more zs z y rows new at all zip = zip_all (HaveReadZones zs) (HaveReadZones (zs ++ z ∷ [])) (HaveReadAt y z) (λ v w was read. read_more zs z y v w at was read) rows new all zip

-- no zone was read yet
pub none_read : (rows : List (Vec CountsSeen)) → All (HaveReadZones []) rows
none_read rows = λ k d lt i v is. let bad : i < 0 = slice_get_within {A = ZoneState} [] i v is in absurd (omega arith)

-- one reader more has read them
pub read_all_more : (cs : List Counts) (r s : CountsSeen) (old new : List CountsSeen) → IsPrefix r.seen cs → r.known ≤ length cs → s ≡ record r { seen = cs; known = length cs; looks = [] } → HaveReadAll cs old new → HaveReadAll cs (r ∷ old) (s ∷ new)
read_all_more cs r s old new before known after rest = record {
  before = All-cons (λ (x : CountsSeen). IsPrefix x.seen cs) r old before rest.before;
  known = All-cons (λ (x : CountsSeen). x.known ≤ length cs) r old known rest.known;
  after = ap₂ (λ x l. x ∷ l) after rest.after;
}

-- what these readers took are counts of the zone
pub taken_read : (z : ZoneState) (old new : List CountsSeen) (r : Reading) → HaveReadZone z old new → All (λ (s : CountsSeen). IsReadingOf s.seen r → IsCountsOf z r) old
taken_read z old new r h = λ k d lt taken. taken_published z (get_or old k d).seen h.0 r h.1 (h.2.before k d lt) taken
