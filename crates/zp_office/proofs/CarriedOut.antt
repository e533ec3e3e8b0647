-- What a command leaves at a desk: the counts of a row of zones, and slots that keep blocks of the row.
use Rattle.std.proofs.Common.{ℕ, zero, suc, ◌+◌, ◌≡◌, ◌≢◌, ◌≤◌, ◌∙◌, refl, sym, ap, ap₂, arith, List, [], ◌∷◌, ◌++◌, length, map, ◌<◌, All, Some}
use Rattle.std.specs.List.{range_with_len}
use Rattle.std.proofs.lemmas.List.{length-map}
use Rattle.std.proofs.lemmas.List.FromFn.{map-range_with_len_more}
use Rattle.zp_model.specs.declared.counts.Counts.{Counts}
use Rattle.zp_zone.specs.NamedZone.{NamedZone}
use Rattle.zp_share.specs.ZoneShares.{plain_share, ZoneShareState}
use Rattle.zp_share.specs.Shares.{ShareState, world, ZoneKey, IsShareOf}
use Rattle.zp_share.specs.Commands.{counts_at}
use Rattle.zp_office.specs.Desks.{counts_in, Slots, IsInRow}
use Rattle.std.specs.Prelude.{slice_set}
use Rattle.std.proofs.lemmas.List.Elements.{All-set}
use Rattle.zp_share.specs.declared.commands.Lent.{Lent}

-- one zone more
pub counts-more : (rows : List NamedZone) (cs ds : List Counts) (i : ℕ) (x : Counts) → cs ≡ map (counts_at rows) (range_with_len 0 i) → x ≡ counts_at rows i → ds ≡ cs ++ x ∷ [] →
    ds ≡ map (counts_at rows) (range_with_len 0 (i + 1))
counts-more rows cs ds i x e f g =
    g
    ∙ ap (λ l. l ++ x ∷ []) e
    ∙ ap (λ v. map (counts_at rows) (range_with_len 0 i) ++ v ∷ []) f
    ∙ sym (map-range_with_len_more (counts_at rows) 0 i i (omega arith))

same_below : (f h : ℕ → Counts) (a n : ℕ) → ((i : ℕ) → i < a + n → f i ≡ h i) → map f (range_with_len a n) ≡ map h (range_with_len a n)
same_below f h a zero same = refl
same_below f h a (suc n) same = ap₂ (λ x l. x ∷ l) (same a (omega arith)) (same_below f h (a + 1) n (λ i lt. same i (omega arith)))

-- what is shown of one zone more, where nothing else that is shown changed
pub shown-more : (f h : ℕ → Counts) (cs : List Counts) (i : ℕ) (x : Counts) → cs ≡ map f (range_with_len 0 i) → ((j : ℕ) → j ≢ i → h j ≡ f j) → x ≡ h i →
    cs ++ x ∷ [] ≡ map h (range_with_len 0 (i + 1))
shown-more f h cs i x before others here =
    ap (λ l. l ++ x ∷ []) (before ∙ same_below f h 0 i (λ j lt. let other : j ≢ i = omega arith in sym (others j other)))
    ∙ ap (λ v. map h (range_with_len 0 i) ++ v ∷ []) here
    ∙ sym (map-range_with_len_more h 0 i i (omega arith))

-- as many as the share has places
pub counts-all : (rows : List NamedZone) (s : ShareState) (cs : List Counts) (n i : ℕ) → n ≡ length s.zones → n ≤ i → i ≤ n → cs ≡ map (counts_at rows) (range_with_len 0 i) →
    cs ≡ counts_in (world rows s)
counts-all rows s cs n i len from to e =
    e ∙ ap (λ k. map (counts_at rows) (range_with_len 0 k)) (let all : i ≡ length (map plain_share s.zones) = omega (arith, length-map s.zones plain_share, len, from, to) in all)

-- a slot gets a block of zone i of the share's row
pub kept-set : (keys : List ZoneKey) (s : ShareState) (slots : Slots) (slot i : ℕ) (l : Lent) → IsShareOf keys s → i < length keys → l.zone ≡ i → All (IsInRow (length s.zones)) slots →
    All (IsInRow (length s.zones)) (slice_set slots slot (Some l))
kept-set keys s slots slot i l fits lt e all =
    let many : length s.zones ≡ length keys =
    sym (length-map s.zones (λ (v : ZoneShareState). v.seat.tie)) ∙ ap length fits ∙ length-map keys (λ (k : ZoneKey). k.tie) in
    let here : l.zone < length s.zones = omega (arith, many, lt, e) in
    All-set (IsInRow (length s.zones)) slots slot (Some l) here all
