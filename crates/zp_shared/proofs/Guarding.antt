-- A request of a share to the guarded zone at its place: what the zone, its journal, its board and the share are after it.
use Rattle.std.proofs.Common.{ℕ, ◌≡◌, ◌≢◌, ◌⊎◌, inl, inr, ◌<◌, ◌≤◌, ◌==◌, ◌+◌, ◌++◌, Bool, true, false, leb, refl, sym, ◌∙◌, ap, subst, arith, cond, List, [], ◌∷◌, get_or, length, length-append, None, Some, ◌↔◌}
use Rattle.std.proofs.lemmas.Bool.{eqb-true, leb-false, leb-true}
use Rattle.std.specs.Prelude.{IsTrue}
use Rattle.std.proofs.Math.ListN.{get_or-map}
use Rattle.std.proofs.Math.Seq.{map-set_same}
use Rattle.std.proofs.lemmas.List.{set-get_or, take_all}
use Rattle.std.specs.List.{filter}
use Rattle.zp_model.specs.declared.counts.Counts.{Counts}
use Rattle.zp_model.specs.Entries.{Entry}
use Rattle.zp_model.specs.declared.refused.Refused.TheVariants.{NotLent, JournalFull}
use Rattle.zp_model.specs.declared.request.Request.{Request}
use Rattle.zp_model.specs.declared.request.Reply.{Reply}
use Rattle.zp_model.specs.Books.{entry_of, made_by}
use Rattle.zp_model.specs.Info.{counts_of}
use Rattle.zp_model.specs.Zone.{PlainZone, pages_of, zone_opening}
use Rattle.zp_model.specs.Step.{step}
use Rattle.zp_model.specs.Run.{IsHistory, opening_of, run}
use Rattle.zp_laws.proofs.Histories.{opening-step, run_more}
use Rattle.zp_laws.proofs.Sameness.{step-same}
use Rattle.zp_zone.specs.Seats.{ZoneState, IsSeatOf}
use Rattle.zp_counts.specs.CountBoards.{BoardState}
use Rattle.zp_counts.specs.CountBoards.{CountTie, CountsPublished, HoldsCounts}
use Rattle.zp_model.specs.declared.constants.TheConstants.{NARROW_PAGES}
use Rattle.zp_journal.specs.Journals.{counts_after}
use Rattle.zp_share.specs.declared.sections_made.TheConstants.{LAST_SECTION}
use Rattle.zp_share.specs.PlainShares.{PlainZoneShare, lends_for, refusal, refused_full}
use Rattle.zp_share.specs.Sections.{ComesOf, IsAsked, IsReplyTo}
use Rattle.zp_share.specs.ZoneShares.{ZoneShareState, SharesIn, IsLeft, IsSection, answered_in, opening_share, plain_share}
use Rattle.zp_share.specs.Shares.{ShareState, ZoneKey, IsAskedAt, IsNotedAt, IsShareOf, no_key, no_tie, key_of, ties_of, share_at, with_zone_share, is_section, noted_in, no_seat}
use Rattle.zp_share.proofs.Carrying.{noted_by}
use Rattle.zp_share.proofs.Telling.{same-key}
use Rattle.zp_share.proofs.Tried.{not_lent_alone, step-section}
use Rattle.zp_shared.proofs.Publishing.{counts_more}
use Rattle.zp_shared.specs.Rows.{AreCountsAfter, GuardedZone, IsAskedUnderLock, IsPublished, IsPublishedOnce, board_at, is_journal_full, key_at, zone_counts}

-- the guarded zone is that of the share's seat at its place
pub seat_at : (keys : List ZoneKey) (i : ℕ) (z : ZoneState) (s : ShareState) → key_of z ≡ key_at keys i → IsShareOf keys s → IsSeatOf z (share_at s i).seat
seat_at keys i z s key fits =
    sym (get_or-map (λ (v : ZoneShareState). v.seat.tie) s.zones i (opening_share no_seat 0))
    ∙ ap (λ l. get_or l i no_tie) fits
    ∙ get_or-map (λ (k : ZoneKey). k.tie) keys i no_key
    ∙ sym (ap (λ (k : ZoneKey). k.tie) key)

-- the zone's key stays
key_kept : (r : Request) (q : Reply) (z y : ZoneState) (a b : ZoneShareState) → IsSection r q z y a b → key_of y ≡ key_of z
key_kept r q z y a b made =
    ap key_of made.zone ∙ same-key z (step z.plain a.seat.worker r).zone (step-same z.plain a.seat.worker r)

-- and so where nothing was asked
key_stays : (lent last : Bool) (r : Request) (q : Reply) (z y : ZoneState) (a b : ZoneShareState) → ComesOf (refusal lent last) r q z y a b → key_of y ≡ key_of z
key_stays false last r q z y a b x = ap key_of x.1.zone
key_stays true true r q z y a b x = ap key_of x.1.zone
key_stays true false r q z y a b x = key_kept r q z y a b x

-- the share is one of the row still
share_kept : (keys : List ZoneKey) (r : Request) (q : Reply) (z y : ZoneState) (s t : ShareState) (i : ℕ) → IsShareOf keys s →
    t ≡ with_zone_share i (share_at t i) s → IsSection r q z y (share_at s i) (share_at t i) → IsShareOf keys t
share_kept keys r q z y s t i fits others made =
    ap ties_of others
    ∙ map-set_same (λ (v : ZoneShareState). v.seat.tie) s.zones i (share_at t i) (opening_share no_seat 0) (ap (λ v. v.seat.tie) made.share)
    ∙ fits

-- it has one section more
share_noted : (r : Request) (q : Reply) (z y : ZoneState) (s t : ShareState) (i : ℕ) → t ≡ with_zone_share i (share_at t i) s →
    IsSection r q z y (share_at s i) (share_at t i) → t ≡ noted_in z.plain i r q s
share_noted r q z y s t i others made =
    others
    ∙ ap (λ v. with_zone_share i v s) made.share
    ∙ sym (ap (λ v. cond v (with_zone_share i (answered_in z.plain r q (share_at s i)) s) s) (ap is_section made.reply ∙ step-section z.plain (share_at s i).seat.worker r))

pub filter_few : {X : Type 0} (p : X → Bool) (xs : List X) → length (filter p xs) ≤ length xs
filter_few p [] = omega arith
filter_few p (x ∷ xs) = go (p x) refl (filter_few p xs)
  where
    go : (b : Bool) → p x ≡ b → length (filter p xs) ≤ length xs → length (filter p (x ∷ xs)) ≤ length (x ∷ xs)
    go true e ih = rw e (omega (arith, ih))
    go false e ih = rw e (omega (arith, ih))

-- a share of a zone that has room for an entry more can count a section more
pub few_sections : (z : ZoneState) (s : ZoneShareState) (capacity : ℕ) → SharesIn z s → length z.entries < capacity → capacity ≤ LAST_SECTION → s.sections.made ≢ LAST_SECTION
few_sections z s capacity in_zone room long last =
    let few : length (made_by s.seat.worker z.entries) ≤ length z.entries = filter_few (λ (e : Entry). Rattle.std.specs.Prelude.nat_eq e.worker s.seat.worker) z.entries in
    omega (arith, few, in_zone.sections, room, long, last)

-- what lies under a lock: a place, a zone, what is kept of it, and the right to publish
pub record Parts (X : Type 0) : Type 0 where
  pub place : ℕ
  pub zone : ZoneState
  pub journal : X
  pub publisher : CountsPublished

-- a list with one more at its end is another list
longer : {X : Type 0} (xs ys : List X) (x : X) → ys ≡ xs ++ x ∷ [] → ys ≡ xs → ⊥
longer xs ys x more same = omega (arith, ap length more, ap length same, length-append xs (x ∷ []))

-- the zone's counts are published where an entry was made
counts_published : (g h : GuardedZone) (e : Entry) → h.zone.entries ≡ g.zone.entries ++ e ∷ [] → h.published ≡ g.published ++ zone_counts h.zone ∷ [] → IsPublishedOnce g h
counts_published g h e more published = record {
  left = λ same. absurd (longer g.zone.entries h.zone.entries e more same);
  made = λ d also. published;
}

-- one entry more, and the zone's counts
still_published : (r : Request) (q : Reply) (z y : ZoneState) (a b : ZoneShareState) (cs ds : List Counts) → IsPublished z cs → IsHistory z.plain z.entries → IsSection r q z y a b →
    ds ≡ cs ++ zone_counts y ∷ [] → IsPublished y ds
still_published r q z y a b cs ds was history made published =
    let w = a.seat.worker in
    let e : Entry = entry_of z.plain w r in
    let o = opening_of z.plain in
    let more : y.entries ≡ z.entries ++ e ∷ [] = ap (λ (v : ZoneState). v.entries) made.zone in
    let opened : opening_of y.plain ≡ o = ap (λ (v : ZoneState). opening_of v.plain) made.zone ∙ opening-step z.plain w r in
    let run_is : run o (z.entries ++ e ∷ []) ≡ y.plain =
    run_more o z.entries e ∙ ap (λ x. (step x w r).zone) history.run ∙ sym (ap (λ (v : ZoneState). v.plain) made.zone) in
    let own : zone_counts y ≡ counts_after o (z.entries ++ e ∷ []) (length z.entries + 1) =
    ap (λ (p : PlainZone). counts_of p.area.largest p.area.free)
    (sym (ap (run o) (take_all (length z.entries + 1) (z.entries ++ e ∷ []) (omega (arith, length-append z.entries (e ∷ [])))) ∙ run_is)) in
    record {
      many = omega (arith, was.many, ap length more, ap length published, length-append z.entries (e ∷ []), length-append cs (zone_counts y ∷ []));
      each =
          subst (λ v. AreCountsAfter v y.entries ds) (sym opened)
          (subst (λ es. AreCountsAfter o es ds) (sym more)
          (subst (AreCountsAfter o (z.entries ++ e ∷ [])) (sym published) (counts_more o z.entries e cs (zone_counts y) was.many was.each own)));
    }

-- a request that was a section was made, of a block that is lent
was_made : (lent last full : Bool) (r : Request) (q : Reply) (z y : ZoneState) (a b : ZoneShareState) → ComesOf (refusal lent last) r q z y a b → is_section q ≡ true → full ≡ false →
    IsSection r q z y a b × ComesOf (refusal lent full) r q z y a b
was_made false last full r q z y a b x e f = absurd (let same : false ≡ true = sym (ap is_section x.0) ∙ e in cc)
was_made true true full r q z y a b x e f = absurd (let same : false ≡ true = sym (ap is_section x.0) ∙ e in cc)
was_made true false full r q z y a b x e f = (x, subst (λ v. ComesOf (refusal true v) r q z y a b) (sym f) x)

-- nothing was asked, and all is as it was
unasked : (keys : List ZoneKey) (r : Request) (q : Reply) (g : GuardedZone) (s : ShareState) → key_of g.zone ≡ key_at keys g.place → IsShareOf keys s → is_section q ≡ false →
    IsReplyTo r q (share_at s g.place) (share_at s g.place) →
    ComesOf (refusal (lends_for r (plain_share (share_at s g.place))) (is_journal_full g)) r q g.zone g.zone (share_at s g.place) (share_at s g.place) → IsAskedUnderLock keys r q g g s s
unasked keys r q g s key fits none reply made = record {
  made = made;
  published = record { left = λ e. refl; made = λ e more. absurd (longer g.zone.entries g.zone.entries e more refl) };
  kept =
      record {
        place = refl;
        capacity = refl;
        handed = refl;
        key = key;
        seats = λ x a. a;
        seat = record { tie = refl; worker = refl };
        others = sym (ap (λ l. let u : ShareState = record s { zones = l } in u) (set-get_or s.zones g.place (opening_share no_seat 0)));
        fits = fits;
      };
  share = sym (ap (λ b. cond b (with_zone_share g.place (answered_in g.zone.plain r q (share_at s g.place)) s) s) none);
  reply = reply;
}

-- a request that was refused 20 or 30 leaves the share as it was
unnoted : (k : ZoneKey) (i : ℕ) (r : Request) (q : Reply) (s : ShareState) → is_section q ≡ false → IsNotedAt k i r q s s
unnoted k i r q s none =
    let any : PlainZone = zone_opening 0 0 0 0 0 in
    let z : PlainZone = record any { area = record any.area { largest = k.largest }; base = k.base } in
    noted_by z k i r q s s (record { base = refl; largest = refl }) (sym (ap (λ b. cond b (with_zone_share i (answered_in z r q (share_at s i)) s) s) none))

-- such a refusal is a reply to each request
lent_or_full : (b : Bool) → (cond b JournalFull NotLent ≡ NotLent) ⊎ (cond b JournalFull NotLent ≡ JournalFull)
lent_or_full true = inr refl
lent_or_full false = inl refl

full_reply : (r : Request) (s : PlainZoneShare) (x y : ZoneShareState) → IsReplyTo r (refused_full r s) x y
full_reply (Request.Alloc k t m) s x y = inr (inr refl)
full_reply (Request.AllocLow k) s x y = inr refl
full_reply (Request.Free p k) s x y = lent_or_full (lends_for (Request.Free p k) s)
full_reply (Request.Post p k to) s x y = lent_or_full (lends_for (Request.Post p k to) s)
full_reply Request.Collect s x y = inr refl
full_reply (Request.Refill t m n) s x y = inr (inr refl)
full_reply (Request.Drain t ps) s x y = refl
full_reply (Request.Isolate b) s x y = inr (inr refl)
full_reply (Request.Release b t) s x y = inr (inr refl)
full_reply (Request.AllocRun n a m) s x y = inr (inr refl)
full_reply (Request.AllocRunAt p n) s x y = inr (inr refl)
full_reply (Request.FreeRun p n) s x y = lent_or_full (lends_for (Request.FreeRun p n) s)

pub full_section : (lent : Bool) → is_section (Reply.Refused (cond lent JournalFull NotLent)) ≡ false
full_section true = refl
full_section false = refl

-- a request that was no section, of a share whose sections can be counted, is refused 20
was_left : (lent last : Bool) (r : Request) (q : Reply) (z y : ZoneState) (a b : ZoneShareState) → ComesOf (refusal lent last) r q z y a b → is_section q ≡ false → (last ≡ true → IsLeft z y a b → ⊥) →
    (lent ≡ false) × ((q ≡ Reply.Refused NotLent) × IsLeft z y a b)
was_left false last r q z y a b x e f = (refl, x)
was_left true true r q z y a b x e f = absurd (f refl x.1)
was_left true false r q z y a b x e f = absurd (let same : false ≡ true = sym e ∙ ap is_section x.reply ∙ step-section z.plain a.seat.worker r in cc)

-- a board of these counts is full where a zone with one entry fewer has as many as the board has room for
pub board_full : (b : Bool) (n m many : ℕ) → IsTrue b ↔ (n < many) → many ≡ m + 1 → b ≡ leb n m
board_full b n m many same one = go b (leb n m) refl refl
  where
    go : (x y : Bool) → b ≡ x → leb n m ≡ y → b ≡ leb n m
    go true true e f = e ∙ sym f
    go false false e f = e ∙ sym f
    go true false e f = let lt : n < many = same.0 e in let ge : m < n = leb-false n m f in absurd (omega (arith, lt, ge, one))
    go false true e f = let le : n ≤ m = leb-true n m f in let yes : b ≡ true = same.1 (omega (arith, le, one)) in absurd (let bad : false ≡ true = sym e ∙ yes in cc)

-- how what is kept of a zone is told: for how many entries it has room, where the board has room for so many, what that room may be, how many
-- entries were handed over, and that it is kept of this zone
module _ {X : Type 0} (capacity : X → ℕ → ℕ) (bounds : ℕ → ℕ → Type 0) (handed : X → ℕ) (keeps : ZoneState → X → Type 0) where
  abbrev pub room_of : List BoardState → Parts X → ℕ
  room_of boards p = capacity p.journal (board_at boards p.place).capacity

  abbrev pub guarded_of : List BoardState → Parts X → GuardedZone
  guarded_of boards p = record { place = p.place; capacity = room_of boards p; handed = handed p.journal; zone = p.zone; published = p.publisher.published }

  -- they belong together, and to their place of the row
  abbrev pub AreGuarded : List ZoneKey → List BoardState → Parts X → Type 0
  AreGuarded keys boards p =
      (key_of p.zone ≡ key_at keys p.place)
      × keeps p.zone p.journal
      × (p.publisher.tie ≡ (board_at boards p.place).tie)
      × bounds (board_at boards p.place).capacity (room_of boards p)
      × (length p.zone.entries ≤ room_of boards p)
      × IsPublished p.zone p.publisher.published
      × HoldsCounts (board_at boards p.place).tie (key_at keys p.place).pages

  -- whether there is room, as the board and what is kept tell it
  pub record IsRoomTold (boards : List BoardState) (p : Parts X) (board : BoardState) (board_is_full is_full : Bool) : Type 0 where
    pub board_at_place : board ≡ board_at boards p.place
    pub by_board : IsTrue board_is_full ↔ (board.capacity < length p.publisher.published)
    pub by_kept : (n : ℕ) (z : ZoneState) → keeps z p.journal → board_is_full ≡ leb n (length z.entries) → is_full ≡ leb (capacity p.journal n) (length z.entries)
    pub within : (n : ℕ) → bounds n (capacity p.journal n) → capacity p.journal n ≤ n

  pub told : (boards : List BoardState) (g : GuardedZone) (p : Parts X) (board : BoardState) (b f : Bool) → guarded_of boards p ≡ g → board ≡ board_at boards g.place →
      IsTrue b ↔ (board.capacity < length p.publisher.published) → ((n : ℕ) (z : ZoneState) → keeps z p.journal → b ≡ leb n (length z.entries) → f ≡ leb (capacity p.journal n) (length z.entries)) →
      ((n : ℕ) → bounds n (capacity p.journal n) → capacity p.journal n ≤ n) → IsRoomTold boards p board b f
  told boards g p board b f view at by_board by_kept within = record {
    board_at_place = at ∙ ap (λ (v : GuardedZone). board_at boards v.place) (sym view);
    by_board = by_board;
    by_kept = by_kept;
    within = within;
  }

  pub told_full : (keys : List ZoneKey) (boards : List BoardState) (p : Parts X) (board : BoardState) (b f : Bool) → AreGuarded keys boards p → IsRoomTold boards p board b f →
      f ≡ leb (room_of boards p) (length p.zone.entries)
  told_full keys boards p board b f guarded t =
      let n = (board_at boards p.place).capacity in
      let same = subst (λ (v : BoardState). IsTrue b ↔ (v.capacity < length p.publisher.published)) t.board_at_place t.by_board in
      t.by_kept n p.zone guarded.1 (board_full b n (length p.zone.entries) (length p.publisher.published) same guarded.5.many)

  -- where there is, the zone has fewer entries than its board has room for
  pub has_room : (keys : List ZoneKey) (boards : List BoardState) (p : Parts X) (board : BoardState) (b f : Bool) → AreGuarded keys boards p → IsRoomTold boards p board b f → f ≡ false →
      (length p.zone.entries < room_of boards p) × (room_of boards p ≤ board.capacity)
  has_room keys boards p board b f guarded t free =
      let n = (board_at boards p.place).capacity in
      let room = t.within n guarded.3 in
      let at = ap (λ (v : BoardState). v.capacity) t.board_at_place in (
        leb-false (room_of boards p) (length p.zone.entries) (sym (told_full keys boards p board b f guarded t) ∙ free),
        omega (arith, room, at),
      )

  -- the board has room for the counts of the zone after a request, too
  pub counts_held : (keys : List ZoneKey) (boards : List BoardState) (r : Request) (q : Reply) (p : Parts X) (y : ZoneState) (s t : ShareState) → AreGuarded keys boards p →
      IsAsked r q p.zone y (share_at s p.place) (share_at t p.place) → HoldsCounts p.publisher.tie (pages_of y.plain)
  counts_held keys boards r q p y s t guarded asked packed =
      let own = plain_share (share_at s p.place) in
      let key : key_of y ≡ key_at keys p.place = key_stays (lends_for r own) (own.sections.made == LAST_SECTION) r q p.zone y (share_at s p.place) (share_at t p.place) asked.made ∙ guarded.0 in
      subst (λ (k : ZoneKey). k.pages ≤ NARROW_PAGES) (sym key) (guarded.6 (ap (λ (u : CountTie). u.packed) (sym guarded.2) ∙ packed))

  -- a share turned to the guarded zone at its place, with which the zone, what is kept of it, and what the share has of it alone became
  -- others: one section was made, and kept; then the zone's counts were published
  pub record IsCall (keys : List ZoneKey) (boards : List BoardState) (r : Request) (q : Reply) (p : Parts X) (y : ZoneState) (k : X) (u : CountsPublished) (s t : ShareState) : Type 0 where
    pub guarded : AreGuarded keys boards p
    pub fits : IsShareOf keys s
    pub others : t ≡ with_zone_share p.place (share_at t p.place) s
    pub asked : IsAsked r q p.zone y (share_at s p.place) (share_at t p.place)
    pub is_section : is_section q ≡ true
    pub kept : (z : ZoneState) (e : Entry) → keeps z p.journal → (share_at t p.place).sections.last ≡ Some e → y.entries ≡ z.entries ++ e ∷ [] → keeps y k
    pub room : (e : Entry) → (share_at t p.place).sections.last ≡ Some e → (n : ℕ) → capacity k n ≡ capacity p.journal n
    pub handed_over : (e : Entry) → (share_at t p.place).sections.last ≡ Some e → handed k ≡ handed p.journal
    pub history : IsHistory p.zone.plain p.zone.entries
    pub tie : u.tie ≡ p.publisher.tie
    pub published : u.published ≡ p.publisher.published ++ zone_counts y ∷ []

  -- what is left: the zone, what is kept of it and its board belong to their place still
  pub record IsAfter (keys : List ZoneKey) (boards : List BoardState) (r : Request) (q : Reply) (g : GuardedZone) (n : Parts X) (s t : ShareState) : Type 0 where
    pub guarded : AreGuarded keys boards n
    pub asked : IsAskedUnderLock keys r q g (guarded_of boards n) s t

  pub after : (keys : List ZoneKey) (boards : List BoardState) (r : Request) (q : Reply) (g : GuardedZone) (p : Parts X) (y : ZoneState) (k : X) (u : CountsPublished) (s t : ShareState) →
      IsCall keys boards r q p y k u s t → guarded_of boards p ≡ g → leb (room_of boards p) (length p.zone.entries) ≡ false →
      IsAfter keys boards r q g (record { place = p.place; zone = y; journal = k; publisher = u }) s t
  after keys boards r q g p y k u s t c view free =
      let i = p.place in
      let n : Parts X = record { place = i; zone = y; journal = k; publisher = u } in
      let own = plain_share (share_at s i) in
      let made = was_made (lends_for r own) (own.sections.made == LAST_SECTION) (is_journal_full (guarded_of boards p)) r q p.zone y (share_at s i) (share_at t i) c.asked.made c.is_section free in
      let key : key_of y ≡ key_at keys i = key_kept r q p.zone y (share_at s i) (share_at t i) made.0 ∙ c.guarded.0 in
      let e : Entry = entry_of p.zone.plain (share_at s i).seat.worker r in
      let said : Entry = record { worker = (share_at s i).seat.worker; request = r; reply = q } in
      let same : said ≡ e = ap (λ x. let d : Entry = record { worker = (share_at s i).seat.worker; request = r; reply = x } in d) made.0.reply in
      let last : (share_at t i).sections.last ≡ Some said = ap (λ (v : ZoneShareState). v.sections.last) made.0.share in
      let more : y.entries ≡ p.zone.entries ++ e ∷ [] = ap (λ (v : ZoneState). v.entries) made.0.zone in
      let b = (board_at boards i).capacity in
      let room : capacity k b ≡ capacity p.journal b = c.room said last b in
      let lt : length p.zone.entries < capacity p.journal b = leb-false (capacity p.journal b) (length p.zone.entries) free in
      subst (λ v. IsAfter keys boards r q v n s t) view
      (record {
        guarded = (
          key,
          c.kept p.zone said c.guarded.1 last (more ∙ ap (λ (d : Entry). p.zone.entries ++ d ∷ []) (sym same)),
          c.tie ∙ c.guarded.2,
          subst (bounds b) (sym room) c.guarded.3,
          omega (arith, lt, room, ap length more, length-append p.zone.entries (e ∷ [])),
          still_published r q p.zone y (share_at s i) (share_at t i) p.publisher.published u.published c.guarded.5 c.history made.0 c.published,
          c.guarded.6,
        );
        asked =
            record {
              made = made.1;
              published = counts_published (guarded_of boards p) (guarded_of boards n) e more c.published;
              kept =
                  record {
                    place = refl;
                    capacity = room;
                    handed = c.handed_over said last;
                    key = key;
                    seats = c.asked.seats;
                    seat = c.asked.same;
                    others = c.others;
                    fits = share_kept keys r q p.zone y s t i c.fits c.others made.0;
                  };
              share = share_noted r q p.zone y s t i c.others made.0;
              reply = c.asked.reply;
            };
      })

  pub not_lent_left : (keys : List ZoneKey) (boards : List BoardState) (r : Request) (q : Reply) (g : GuardedZone) (p : Parts X) (y : ZoneState) (s t : ShareState) → AreGuarded keys boards p → IsShareOf keys s →
      guarded_of boards p ≡ g → leb (room_of boards p) (length p.zone.entries) ≡ false → room_of boards p ≤ LAST_SECTION → t ≡ with_zone_share p.place (share_at t p.place) s →
      IsAsked r q p.zone y (share_at s p.place) (share_at t p.place) → is_section q ≡ false → SharesIn y (share_at t p.place) →
      IsAfter keys boards r q g (record p { zone = y }) s t
  not_lent_left keys boards r q g p y s t guarded fits view room long others x none agree =
      let i = p.place in
      let own = plain_share (share_at s i) in
      let few : length p.zone.entries < room_of boards p = leb-false (room_of boards p) (length p.zone.entries) room in
      let countable : (own.sections.made == LAST_SECTION) ≡ true → IsLeft p.zone y (share_at s i) (share_at t i) → ⊥ = λ e l.
      few_sections p.zone (share_at s i) (room_of boards p) (subst (λ v. SharesIn v (share_at s i)) l.zone (subst (SharesIn y) l.share agree))
      few long (eqb-true own.sections.made LAST_SECTION e) in
      let was = was_left (lends_for r own) (own.sections.made == LAST_SECTION) r q p.zone y (share_at s i) (share_at t i) x.made none countable in
      let same : t ≡ s = others ∙ ap (λ v. with_zone_share i v s) was.1.1.share ∙ ap (λ l. let u : ShareState = record s { zones = l } in u) (set-get_or s.zones i (opening_share no_seat 0)) in
      subst (λ v. IsAfter keys boards r q v (record p { zone = y }) s t) view
      (subst (λ v. IsAfter keys boards r q (guarded_of boards p) (record p { zone = v }) s t) (sym was.1.1.zone)
      (subst (λ u. IsAfter keys boards r q (guarded_of boards p) p s u) (sym same)
      (record {
        guarded = guarded;
        asked =
            unasked keys r q (guarded_of boards p) s guarded.0 fits none (subst (λ v. IsReplyTo r q (share_at s i) v) was.1.1.share x.reply)
            (subst (λ b. ComesOf (refusal b (is_journal_full (guarded_of boards p))) r q p.zone p.zone (share_at s i) (share_at s i)) (sym was.0) (was.1.0, record { zone = refl; share = refl }));
      })))

-- a row that has strayed refuses each request so, and tells no zones
pub refused_at : (keys : List ZoneKey) (i : ℕ) (r : Request) (q : Reply) (s : ShareState) → IsShareOf keys s → q ≡ refused_full r (plain_share (share_at s i)) → IsAskedAt i r q keys keys None None s s
refused_at keys i r q s fits is =
    subst (λ v. IsAskedAt i r v keys keys None None s s) (sym is)
    (record {
      keys = refl;
      fits = fits;
      share = unnoted (key_at keys i) i r (refused_full r (plain_share (share_at s i))) s (full_section (lends_for r (plain_share (share_at s i))));
      reply = full_reply r (plain_share (share_at s i)) (share_at s i) (share_at s i);
      not_lent = alone (lends_for r (plain_share (share_at s i)));
      told = λ rows e. absurd (cc);
    })
  where
    alone : (b : Bool) → (Reply.Refused (cond b JournalFull NotLent) ≡ Reply.Refused NotLent) ↔ (b ≡ false)
    alone true = (λ e. absurd cc, λ e. absurd cc)
    alone false = (λ e. refl, λ e. refl)

-- under the lock of a place it says what came of it there
pub viewed : (keys : List ZoneKey) (i : ℕ) (r : Request) (q : Reply) (g h : GuardedZone) (s t : ShareState) → g.place ≡ i → IsAskedUnderLock keys r q g h s t → IsAskedAt i r q keys keys None None s t
viewed keys i r q g h s t at x =
    let key : key_of g.zone ≡ key_at keys g.place =
    sym (key_stays (lends_for r (plain_share (share_at s g.place))) (is_journal_full g) r q g.zone h.zone (share_at s g.place) (share_at t g.place) x.made) ∙ x.kept.key ∙ ap (key_at keys) x.kept.place in
    subst (λ p. IsAskedAt p r q keys keys None None s t) at
    (record {
      keys = refl;
      fits = x.kept.fits;
      share = noted_by g.zone.plain (key_at keys g.place) g.place r q s t (record { base = ap (λ (k : ZoneKey). k.base) key; largest = ap (λ (k : ZoneKey). k.largest) key }) x.share;
      reply = x.reply;
      not_lent = not_lent_alone (lends_for r (plain_share (share_at s g.place))) (is_journal_full g) r q g.zone h.zone (share_at s g.place) (share_at t g.place) x.made;
      told = λ rows e. absurd (cc);
    })
