-- A row of zones that threads share, each behind a lock of its own, under one name: the keys of its zones (this profile).
use Rattle.std.specs.Prelude.{ℕ, ◌≡◌, ◌≢◌, ◌<◌, ◌≤◌, ◌+◌, ◌⊎◌, Bool, true, false, leb, List, [], ◌∷◌, ◌++◌, All, Some, length, map, slice_get, slice_index_or}
use mathlib.Core.List.{IsPrefix}
use Rattle.zp_model.specs.declared.counts.Counts.{Counts}
use Rattle.zp_model.specs.Entries.{Entry}
use Rattle.zp_model.specs.Info.{counts_of}
use Rattle.zp_model.specs.declared.refused.Refused.TheVariants.{NotLent, JournalFull}
use Rattle.zp_model.specs.Zone.{PlainZone}
use Rattle.zp_model.specs.Run.{IsLegal, opening_of}
use Rattle.zp_counts.specs.declared.reading.Reading.{Reading}
use Rattle.zp_counts.specs.CountBoards.{BoardState, CountsSeen, IsFreshRead, last_counts}
use Rattle.zp_journal.specs.Journals.{JournalState, counts_after}
use Rattle.std.specs.Global.{Vec}
use Rattle.std.specs.List.{range_with_len}
use Rattle.zp_model.specs.declared.request.Request.{Request}
use Rattle.zp_model.specs.declared.request.Reply.{Reply}
use Rattle.zp_zone.specs.Seats.{ZoneState, KeepsSeats}
use Rattle.zp_share.specs.PlainShares.{lends_for, refusal}
use Rattle.zp_share.specs.Sections.{ComesOf, IsReplyTo}
use Rattle.zp_share.specs.ZoneShares.{IsSameSeat, plain_share}
use Rattle.zp_share.specs.Shares.{ShareState, ZoneKey, IsShareOf, is_section, key_of, no_key, no_tie, noted_in, opening_by, sections_at, share_at, with_zone_share}

-- how many free blocks of each order the zone has, and how many free pages
abbrev pub zone_counts : ZoneState → Counts
zone_counts z = counts_of z.plain.area.largest z.plain.area.free

-- these are counts of a zone that was opened so: each at its place, the counts after so many of these entries
abbrev pub AreCountsAfter : PlainZone → List Entry → List Counts → Type 0
AreCountsAfter z es cs = (i : ℕ) (c : Counts) → slice_get cs i ≡ Some c → c ≡ counts_after z es i

-- what is published of a zone: its counts at its opening and after each of its entries
pub record IsPublished (z : ZoneState) (cs : List Counts) : Type 0 where
  pub many : length cs ≡ length z.entries + 1
  pub each : AreCountsAfter (opening_of z.plain) z.entries cs

-- a reading is the counts of the zone after as many of its entries as its place says
abbrev pub IsCountsOf : ZoneState → Reading → Type 0
IsCountsOf z r = r.counts ≡ counts_after (opening_of z.plain) z.entries r.place

-- a zone that is opened for threads, with its board
pub record OpenedState : Type 0 where
  pub zone : ZoneState
  pub board : BoardState
  pub published : List Counts
  -- for how many entries there is room in all, and how many were handed over
  pub capacity : ℕ
  pub handed : ℕ

-- its key
abbrev pub opened_key : OpenedState → ZoneKey
opened_key o = key_of o.zone

abbrev pub opened_board : OpenedState → BoardState
opened_board o = o.board

-- a new reader of its board has seen all that is published
abbrev pub opened_reader : OpenedState → CountsSeen
opened_reader o = record { tie = o.board.tie; seen = o.published; known = length o.published; looks = [] }

-- a zone that says its place in the row
pub record GuardedZone : Type 0 where
  pub place : ℕ
  -- for how many entries of the zone there is room in all, and how many were handed over
  pub capacity : ℕ
  pub handed : ℕ
  pub zone : ZoneState
  -- the counts on its board
  pub published : List Counts

-- whether there is no room for an entry more
abbrev pub is_journal_full : GuardedZone → Bool
is_journal_full g = leb g.capacity (length g.zone.entries)

-- the key at a place of the row
abbrev pub key_at : List ZoneKey → ℕ → ZoneKey
key_at keys place = slice_index_or keys place no_key

abbrev pub no_board : BoardState
no_board = record { tie = record { table = no_tie; turns = false; packed = false }; capacity = 0 }

-- the board at a place of the row
abbrev pub board_at : List BoardState → ℕ → BoardState
board_at boards place = slice_index_or boards place no_board

-- each zone of the row has its board, and these are readers of them, one each
abbrev pub AreReadersOf : List ZoneKey → List BoardState → List CountsSeen → Type 0
AreReadersOf keys boards rs = (length boards ≡ length keys) × (map (λ (r : CountsSeen). r.tie) rs ≡ map (λ (b : BoardState). b.tie) boards)

abbrev pub AreReaders : List ZoneKey → List BoardState → Vec CountsSeen → Type 0
AreReaders keys boards rs = AreReadersOf keys boards rs.items

-- what a reader of a row has seen
abbrev pub seen_at : List (List Counts) → ℕ → List Counts
seen_at seen i = slice_index_or seen i []

-- each reader has seen all that it had seen
abbrev pub HaveSeen : List (List Counts) → List (List Counts) → Type 0
HaveSeen before after = (i : ℕ) → IsPrefix (seen_at before i) (seen_at after i)

abbrev pub seen_by : List CountsSeen → List (List Counts)
seen_by rs = map (λ (r : CountsSeen). r.seen) rs

-- a worker's view: its readers, and whether it found a zone under the lock of another place
pub record ViewState : Type 0 where
  pub readers : List CountsSeen
  pub strayed : Bool

-- a reader that has seen nothing
abbrev pub no_reader : CountsSeen
no_reader = record { tie = no_board.tie; seen = []; known = 0; looks = [] }

-- its reader of a place
abbrev pub reader_at : ViewState → ℕ → CountsSeen
reader_at v i = slice_index_or v.readers i no_reader

-- what a view's reading of the counts of place i leaves: its reader there has seen all that it had seen, and what it then sees is fresh; its
-- other readers stay, and so does whether it strayed
pub record IsReadAt (i : ℕ) (before after : ViewState) : Type 0 where
  pub seen : IsPrefix (seen_at (seen_by before.readers) i) (seen_at (seen_by after.readers) i)
  pub fresh : IsFreshRead (reader_at before i) (reader_at after i)
  pub others : (j : ℕ) → j ≢ i → reader_at after j ≡ reader_at before j
  pub unseen : (j : ℕ) → j ≢ i → seen_at (seen_by after.readers) j ≡ seen_at (seen_by before.readers) j
  pub strayed : after.strayed ≡ before.strayed

-- the counts that its reader of a place saw last
abbrev pub shown_at : ViewState → ℕ → Counts
shown_at v i = last_counts (seen_at (seen_by v.readers) i)

-- the readers had seen a beginning of these counts, and knew of no more, and have seen all of them
pub record HaveReadAll (cs : List Counts) (old new : List CountsSeen) : Type 0 where
  pub before : All (λ (r : CountsSeen). IsPrefix r.seen cs) old
  pub known : All (λ (r : CountsSeen). r.known ≤ length cs) old
  pub after : new ≡ map (λ (r : CountsSeen). record r { seen = cs; known = length cs; looks = [] }) old

-- they have seen all that was published of the zone
abbrev pub HaveReadZone : ZoneState → List CountsSeen → List CountsSeen → Type 0
HaveReadZone z old new = (cs : List Counts) × IsPublished z cs × HaveReadAll cs old new

-- the readers are those of the same boards, and have seen all that they had seen
abbrev pub AreKept : List ZoneKey → List BoardState → Vec CountsSeen → Vec CountsSeen → Type 0
AreKept keys boards rs ss = AreReaders keys boards ss × HaveSeen (seen_by rs.items) (seen_by ss.items)

-- the readers of a row have seen all that was published of these zones, place by place
abbrev pub HaveReadZones : List ZoneState → Vec CountsSeen → Type 0
HaveReadZones zs rs = (i : ℕ) (z : ZoneState) → slice_get zs i ≡ Some z → IsPublished z (seen_at (seen_by rs.items) i)

-- the readers have seen all that was published of the zone at a place of the row, and at the others what they had seen
pub record HaveReadAt (i : ℕ) (z : ZoneState) (rs ss : Vec CountsSeen) : Type 0 where
  pub here : IsPublished z (seen_at (seen_by ss.items) i)
  pub others : (j : ℕ) → j ≢ i → seen_at (seen_by ss.items) j ≡ seen_at (seen_by rs.items) j

-- the entries of the journal are a legal list from the opening of the zone with this key
abbrev pub IsLegalBy : ZoneKey → JournalState → Type 0
IsLegalBy k j = IsLegal (opening_by k) j.entries

-- these are the places of the row with these keys: each place once, in order
abbrev pub IsRowOf : List ZoneKey → List ℕ → Type 0
IsRowOf keys places = places ≡ range_with_len 0 (length keys)

-- the zone is that of another place than this one
abbrev pub IsElsewhere : List ZoneKey → ℕ → ZoneState → Type 0
IsElsewhere keys place z = (p : ℕ) × (p ≢ place) × (key_of z ≡ key_at keys p)

-- the zone's counts were published where an entry was made, once, and nothing where none was
pub record IsPublishedOnce (g h : GuardedZone) : Type 0 where
  pub left : h.zone.entries ≡ g.zone.entries → h.published ≡ g.published
  pub made : (e : Entry) → h.zone.entries ≡ g.zone.entries ++ e ∷ [] → h.published ≡ g.published ++ zone_counts h.zone ∷ []

-- whatever was asked: the zone is that of its place still, and the share is one of the row still and has the rest as it was
pub record IsKeptAt (keys : List ZoneKey) (g h : GuardedZone) (s t : ShareState) : Type 0 where
  pub place : h.place ≡ g.place
  pub capacity : h.capacity ≡ g.capacity
  pub handed : h.handed ≡ g.handed
  pub key : key_of h.zone ≡ key_at keys h.place
  pub seats : KeepsSeats g.zone h.zone
  pub seat : IsSameSeat (share_at s g.place) (share_at t g.place)
  pub others : t ≡ with_zone_share g.place (share_at t g.place) s
  pub fits : IsShareOf keys t

-- what a request under the lock comes to: where it is refused 20, or 30 for want of room in the journal, nothing changed; else it is one
-- section of the zone and of what the share has at its place, one entry, and one publishing
pub record IsAskedUnderLock (keys : List ZoneKey) (r : Request) (q : Reply) (g h : GuardedZone) (s t : ShareState) : Type 0 where
  pub made : ComesOf (refusal (lends_for r (plain_share (share_at s g.place))) (is_journal_full g)) r q g.zone h.zone (share_at s g.place) (share_at t g.place)
  pub published : IsPublishedOnce g h
  pub kept : IsKeptAt keys g h s t
  pub share : t ≡ noted_in g.zone.plain g.place r q s
  pub reply : IsReplyTo r q (share_at s g.place) (share_at t g.place)

-- whether a request was refused as the block that it names is not lent
abbrev pub is_not_lent : Reply → Bool
is_not_lent (Reply.Refused NotLent) = true
is_not_lent q = false

-- all that is published of the guarded zone was seen; it has as many entries at most as there is room for, which is as its board has it
pub record IsReadWhole (bounds : ℕ → Type 0) (h : GuardedZone) (cs : List Counts) : Type 0 where
  pub seen : cs ≡ h.published
  pub published : IsPublished h.zone h.published
  pub room : (length h.zone.entries ≤ h.capacity) × bounds h.capacity

-- what a reader has seen when a request was answered so and left the guarded zone like this: all that is published, or as before where no
-- such block was lent
pub record HasReadAfter (bounds : ℕ → Type 0) (q : Reply) (h : GuardedZone) (r s : CountsSeen) : Type 0 where
  pub tie : s.tie ≡ r.tie
  pub before : IsPrefix r.seen s.seen
  pub known : r.known ≤ s.known
  pub left : is_not_lent q ≡ true → s ≡ r
  pub read : is_not_lent q ≡ false → IsReadWhole bounds h s.seen

-- the view's reader of a place has seen more counts than this number, that of a worker's sections there
abbrev pub HasCovered : ViewState → ℕ → ℕ → Type 0
HasCovered v i n = n < length (seen_at (seen_by v.readers) i)

-- the view's reader of a place has seen as much as there is room for, where that is one of these; or the view has strayed
abbrev pub HasSeenAll : (ℕ → Type 0) → ViewState → ℕ → Type 0
HasSeenAll bounds v i = (v.strayed ≡ true) ⊎ ((capacity : ℕ) × bounds capacity × (length (seen_at (seen_by v.readers) i) ≡ capacity + 1))

-- what a worker's view has read when a request to the zone of place i was answered so, where the room for its entries is one of these
pub record IsReadAfter (bounds : ℕ → Type 0) (i : ℕ) (q : Reply) (t : ShareState) (before after : ViewState) : Type 0 where
  -- where it was a section, more than the share has made sections there
  pub own : is_section q ≡ true → HasCovered after i (sections_at t i)
  -- where there was no room, as much as there is room for, unless the zone lay under another's lock
  pub full : q ≡ Reply.Refused JournalFull → HasSeenAll bounds after i
  -- where no such block was lent, nothing
  pub not_lent : q ≡ Reply.Refused NotLent → after.readers ≡ before.readers
  pub seen : HaveSeen (seen_by before.readers) (seen_by after.readers)
  pub known : (j : ℕ) → (reader_at before j).known ≤ (reader_at after j).known
  pub others : (j : ℕ) → j ≢ i → seen_at (seen_by after.readers) j ≡ seen_at (seen_by before.readers) j
  -- it has strayed for good, and does not where a section was made
  pub strayed : before.strayed ≡ true → after.strayed ≡ true
  pub stays : is_section q ≡ true → after.strayed ≡ before.strayed
