-- What is published of a zone behind a lock, once the zone was asked.
use Rattle.std.proofs.Common.{ℕ, ◌≡◌, ◌==◌, ◌<◌, ◌≤◌, ◌+◌, ◌++◌, ◌⊎◌, inl, inr, Bool, true, false, List, [], ◌∷◌, length, length-append, get_or, refl, sym, take, ◌∙◌, ap, subst, arith}
use Rattle.std.specs.Prelude.{Option, Some, None, IsTrue, ◌↔◌, ltb, cond}
use Rattle.std.specs.List.{slice_get}
use Rattle.std.proofs.Math.Seq.{get_or-append_seam}
use Rattle.std.proofs.lemmas.Bool.{cases_lt, le-ltb, ltb-false, ltb-true}
use Rattle.std.proofs.lemmas.List.{get_or_append_left, take-append-le, take_all}
use Rattle.std.proofs.lemmas.Option.{get_or_from_slice_get, slice_get-get_or, slice_get_within}
use Rattle.zp_model.specs.declared.counts.Counts.{Counts}
use Rattle.zp_model.specs.declared.request.Request.{Request}
use Rattle.zp_model.specs.declared.request.Reply.{Reply}
use Rattle.zp_model.specs.Books.{entry_of}
use Rattle.zp_model.specs.Entries.{Entry}
use Rattle.zp_model.specs.Info.{counts_of}
use Rattle.zp_model.specs.Step.{step as stepping}
use Rattle.zp_model.specs.Run.{opening_of, run}
use Rattle.zp_model.specs.Zone.{PlainZone}
use Rattle.zp_laws.proofs.Histories.{opening-step, run_more}
use Rattle.zp_counts.specs.CountBoards.{BoardState, CountsPublished}
use Rattle.zp_zone.specs.Seats.{ZoneState}
use Rattle.zp_share.specs.declared.sections_made.TheConstants.{LAST_SECTION}
use Rattle.zp_share.specs.PlainShares.{lends_for, refusal}
use Rattle.zp_share.specs.Sections.{ComesOf, IsAsked}
use Rattle.zp_share.specs.Shares.{is_section}
use Rattle.zp_share.specs.ZoneShares.{IsSection, ZoneShareState, plain_share}
use Rattle.zp_share.proofs.Tried.{step-section}
use Rattle.zp_gate.specs.declared.publishing.TheConstants.{LAST_PLACE}
use Rattle.zp_gate.specs.Boards.{AreCountsOf, IsBoardOf, IsPublished, IsTiedTo, IsWide, board_after, counts_after, with_counts, zone_counts}

-- the zone was not asked, and stays; or one section was made
comes : (lent full : Bool) (r : Request) (q : Reply) (z y : ZoneState) (a b : ZoneShareState) → ComesOf (refusal lent full) r q z y a b → ((is_section q ≡ false) × (y ≡ z)) ⊎ ((is_section q ≡ true) × IsSection r q z y a b)
comes false full r q z y a b x = inl (ap is_section x.0, x.1.zone)
comes true true r q z y a b x = inl (ap is_section x.0, x.1.zone)
comes true false r q z y a b x = inr (ap is_section x.reply ∙ step-section z.plain a.seat.worker r, x)

came_of : (r : Request) (q : Reply) (z y : ZoneState) (a b : ZoneShareState) → IsAsked r q z y a b → ((is_section q ≡ false) × (y ≡ z)) ⊎ ((is_section q ≡ true) × IsSection r q z y a b)
came_of r q z y a b x = comes (lends_for r (plain_share a)) (a.sections.made == LAST_SECTION) r q z y a b x.made

-- the zone is what its requests made of it
abbrev pub IsMade : ZoneState → Type 0
IsMade z = run (opening_of z.plain) z.entries ≡ z.plain

-- one request more was made of a zone
record IsOneMore (z y : ZoneState) : Type 0 where
  pub entry : Entry
  pub opening : opening_of y.plain ≡ opening_of z.plain
  pub entries : y.entries ≡ z.entries ++ entry ∷ []
  pub made : IsMade y

one_more : (r : Request) (q : Reply) (z y : ZoneState) (a b : ZoneShareState) → IsMade z → IsSection r q z y a b → IsOneMore z y
one_more r q z y a b was made =
    let w = a.seat.worker in
    let e : Entry = entry_of z.plain w r in
    let o = opening_of z.plain in
    let more : y.entries ≡ z.entries ++ e ∷ [] = ap (λ (v : ZoneState). v.entries) made.zone in
    let opened : opening_of y.plain ≡ o = ap (λ (v : ZoneState). opening_of v.plain) made.zone ∙ opening-step z.plain w r in
    record {
      entry = e;
      opening = opened;
      entries = more;
      made =
          ap (λ v. run v y.entries) opened ∙ ap (run o) more ∙ run_more o z.entries e ∙ ap (λ x. (stepping x w r).zone) was ∙ sym (ap (λ (v : ZoneState). v.plain) made.zone);
    }

-- whatever was asked, the zone is what its requests made of it
pub made_stays : (r : Request) (q : Reply) (z y : ZoneState) (a b : ZoneShareState) → IsMade z → IsAsked r q z y a b → IsMade y
made_stays r q z y a b was x = elim (came_of r q z y a b x) [ inl left ↦ subst IsMade (sym left.1) was | inr made ↦ (one_more r q z y a b was made.1).made ]

-- of a zone with one request more the counts before it are the same
before_more : (z y : ZoneState) (n : ℕ) → IsOneMore z y → n ≤ length z.entries → counts_after y n ≡ counts_after z n
before_more z y n more le =
    ap (λ o. let p : PlainZone = run o (take n y.entries) in counts_of p.area.largest p.area.free) more.opening
    ∙ ap (λ es. let p : PlainZone = run (opening_of z.plain) (take n es) in counts_of p.area.largest p.area.free) more.entries
    ∙ ap (λ es. let p : PlainZone = run (opening_of z.plain) es in counts_of p.area.largest p.area.free) (take-append-le n z.entries (more.entry ∷ []) le)

-- and those after all its requests are its own
counts_now : (z : ZoneState) (n : ℕ) → IsMade z → length z.entries ≤ n → counts_after z n ≡ zone_counts z
counts_now z n made le =
    ap (λ es. let p : PlainZone = run (opening_of z.plain) es in counts_of p.area.largest p.area.free) (take_all n z.entries le) ∙ ap (λ (p : PlainZone). counts_of p.area.largest p.area.free) made

kept_more : (z y : ZoneState) (cs : List Counts) → IsOneMore z y → length cs ≤ length z.entries + 1 → AreCountsOf z cs → AreCountsOf y cs
kept_more z y cs more few was n c at =
    let inside : n < length cs = slice_get_within cs n c at in
    let le : n ≤ length z.entries = omega (arith, inside, few) in
    was n c at ∙ sym (before_more z y n more le)

-- what is at the front of a list is at the front of it with one more at its end
front_of : (cs : List Counts) (c d : Counts) (i : ℕ) → i < length cs → slice_get (cs ++ d ∷ []) i ≡ Some c → slice_get cs i ≡ Some c
front_of cs c d i lt e =
    slice_get-get_or cs i c lt ∙ ap Some (sym (get_or_append_left cs (d ∷ []) c i lt) ∙ get_or_from_slice_get (cs ++ d ∷ []) i c c e)

pushed : (z y : ZoneState) (cs : List Counts) → IsOneMore z y → length cs ≡ length z.entries + 1 → AreCountsOf z cs → AreCountsOf y (cs ++ zone_counts y ∷ [])
pushed z y cs more many was n c at = go (cases_lt n (length cs))
  where
    go : (n < length cs) ⊎ (length cs ≤ n) → c ≡ counts_after y n
    go (inl lt) = kept_more z y cs more (omega (arith, many)) was n c (front_of cs c (zone_counts y) n lt at)
    go (inr le) =
        let d = zone_counts y in
        let inside : n < length (cs ++ d ∷ []) = slice_get_within (cs ++ d ∷ []) n c at in
        let here : n ≡ length cs = omega (arith, inside, le, length-append cs (d ∷ [])) in
        let last : c ≡ d = sym (get_or_from_slice_get (cs ++ d ∷ []) n c c at) ∙ ap (λ k. get_or (cs ++ d ∷ []) k c) here ∙ get_or-append_seam cs d [] c in
        let long : length y.entries ≤ n = omega (arith, here, many, ap length more.entries, length-append z.entries (more.entry ∷ [])) in
        last ∙ sym (counts_now y n more.made long)

-- what was published of a zone, and then its counts after one request more, if there was room
published_more : (z y : ZoneState) (cs : List Counts) → IsOneMore z y → IsPublished z cs → IsPublished y (with_counts y cs)
published_more z y cs more was = go (ltb LAST_PLACE (length cs)) refl
  where
    long : length y.entries ≡ length z.entries + 1
    long = omega (arith, ap length more.entries, length-append z.entries (more.entry ∷ []))

    go : (full : Bool) → ltb LAST_PLACE (length cs) ≡ full → IsPublished y (cond full cs (cs ++ zone_counts y ∷ []))
    go true e =
        let over : LAST_PLACE < length cs = ltb-true LAST_PLACE (length cs) e in
        record { many = omega (arith, over, was.many, long); each = kept_more z y cs more (omega (arith, was.many)) was.each }
    go false e =
        let room : length cs ≤ LAST_PLACE = ltb-false LAST_PLACE (length cs) e in
        record { many = omega (arith, room, was.many, long, length-append cs (zone_counts y ∷ [])); each = pushed z y cs more (omega (arith, room, was.many)) was.each }

-- what is published on a board goes on to be of the zone
board_more : (b : Option BoardState) (p : Option CountsPublished) (z y : ZoneState) → IsOneMore z y → IsBoardOf b z p → IsBoardOf b y (board_after true y p)
board_more None None z y more is = tt
board_more (Some b) (Some p) z y more is = (is.0, published_more z y p.published more is.1)
board_more None (Some p) z y more is = is
board_more (Some b) None z y more is = is

board_same : (b : Option BoardState) (p : Option CountsPublished) (z y : ZoneState) → y ≡ z → IsBoardOf b z p → IsBoardOf b y (board_after false y p)
board_same None None z y same is = tt
board_same (Some b) (Some p) z y same is = (is.0, subst (λ (v : ZoneState). IsPublished v p.published) (sym same) is.1)
board_same None (Some p) z y same is = is
board_same (Some b) None z y same is = is

pub board_stays : (b : Option BoardState) (p : Option CountsPublished) (r : Request) (q : Reply) (z y : ZoneState) (s t : ZoneShareState) → IsMade z → IsAsked r q z y s t → IsBoardOf b z p →
    IsBoardOf b y (board_after (is_section q) y p)
board_stays b p r q z y s t was x is = elim (came_of r q z y s t x) [
  | inl left ↦ subst (λ (v : Bool). IsBoardOf b y (board_after v y p)) (sym left.0) (board_same b p z y left.1 is)
  | inr made ↦ subst (λ (v : Bool). IsBoardOf b y (board_after v y p)) (sym made.0) (board_more b p z y (one_more r q z y s t was made.1) is)
]

-- the right to publish goes on to be one for the board
pub tied_stays : (b : Option BoardState) (p : Option CountsPublished) (asked : Bool) (z : ZoneState) → IsTiedTo b p → IsTiedTo b (board_after asked z p)
tied_stays None None asked z is = tt
tied_stays (Some b) (Some p) true z is = is
tied_stays (Some b) (Some p) false z is = is
tied_stays None (Some p) asked z is = is
tied_stays (Some b) None asked z is = is

-- what is published once a zone's counts went on its board, or did not
pub published_on : (b : Option BoardState) (board : BoardState) (p n : CountsPublished) (z : ZoneState) (c : Counts) (full : Bool) → b ≡ Some board → IsTiedTo b (Some p) → IsTrue full ↔ (board.capacity < length p.published) → full ≡ false →
    n.tie ≡ p.tie → n.published ≡ p.published ++ c ∷ [] → c ≡ zone_counts z → n ≡ record p { published = with_counts z p.published }
published_on b board p n z c full is tied when room_left tie more own =
    let wide : IsWide board = (subst (λ (v : Option BoardState). IsTiedTo v (Some p)) is tied).1 in
    let room : length p.published ≤ LAST_PLACE = elim (cases_lt LAST_PLACE (length p.published)) [
      | inl over ↦ absurd (let told : full ≡ true = when.1 (subst (λ (k : ℕ). k < length p.published) (sym wide.0) over) in let bad : false ≡ true = sym room_left ∙ told in cc)
      | inr le ↦ le
    ] in
    let now : n.published ≡ with_counts z p.published =
    more ∙ ap (λ (d : Counts). p.published ++ d ∷ []) own ∙ sym (ap (λ (v : Bool). cond v p.published (p.published ++ zone_counts z ∷ [])) (le-ltb LAST_PLACE (length p.published) room)) in
    λ i. record { tie = tie i; published = now i }
