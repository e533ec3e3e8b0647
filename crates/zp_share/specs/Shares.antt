-- A worker's share of a row of zones, and what its calls with the zones promise (this profile).
use Rattle.std.specs.Prelude.{ℕ, ◌≡◌, ◌≢◌, ◌<◌, ◌≤◌, ◌+◌, ◌*◌, ◌⊎◌, ◌↔◌, IsTrue, IfOk, IfErr, Bool, true, false, List, [], ◌∷◌, length, map, slice_index_or, slice_set, Option, Some, Result, Ok, Err, cond, leb}
use Rattle.atomic_table.specs.Seated.{TableId}
use Rattle.zp_model.specs.declared.refused.Refused.{Refused}
use Rattle.zp_model.specs.declared.refused.Refused.TheVariants.{NotLent, JournalFull}
use Rattle.zp_model.specs.declared.request.Request.{Request}
use Rattle.zp_model.specs.declared.request.Reply.{Reply}
use Rattle.zp_model.specs.declared.constants.TheConstants.{TYPES}
use Rattle.zp_model.specs.declared.mark.Mark.{Mark}
use Rattle.zp_model.specs.declared.migrate_type.MigrateType.{MigrateType}
use Rattle.zp_model.specs.declared.migrate_type.MigrateType.TheVariants.{Unmovable, Reclaimable, Movable}
use Rattle.zp_model.specs.MigrateType.{type_number}
use Rattle.zp_model.specs.Zone.{PlainZone, pages_of, workers_of, zone_opening}
use Rattle.zp_zone.specs.NamedZone.{NamedZone}
use Rattle.zp_zone.specs.Seats.{ZoneState, SeatState}
use Rattle.zp_share.specs.declared.commands.Lent.{Lent}
use Rattle.zp_share.specs.PlainShares.{PlainShare, back, lends_for, lent_kind, put, taken}
use Rattle.zp_share.specs.Sections.{IsReplyTo}
use Rattle.zp_share.specs.ZoneShares.{ZoneShareState, plain_share, answered, answered_in, opening_share, is_lent, cached_of, use_in}
use Rattle.zp_share.specs.Commands.{World, Done, is_listed, section}

pub record ShareState : Type 0 where
  pub worker : ℕ
  -- how many pages a refill asks for, and how many a list holds at most
  pub batch : ℕ
  pub high_len : ℕ
  -- what it has of each zone, the lowest first
  pub zones : List ZoneShareState

-- past the end of a row there is nothing
abbrev pub no_tie : TableId
no_tie = record { words = 0; slots = 0; views_name = 0; atom = 0; block = 0; offset = 0; slot_names = [] }

abbrev pub no_seat : SeatState
no_seat = record { tie = no_tie; worker = 0; part = record { base = 0; blocks = []; entries = [] } }

-- what the share has of zone i
abbrev pub share_at : ShareState → ℕ → ZoneShareState
share_at s i = slice_index_or s.zones i (opening_share no_seat 0)

abbrev pub with_zone_share : ℕ → ZoneShareState → ShareState → ShareState
with_zone_share i x s = record s { zones = slice_set s.zones i x }

-- the share without what ties it to the zones
abbrev pub plain : ShareState → PlainShare
plain s = record { batch = s.batch; high_len = s.high_len; zones = map plain_share s.zones }

abbrev pub world : List NamedZone → ShareState → World
world zones s = record { zones = zones; share = plain s }

-- what of a zone never changes: its tie, and what it was made with
pub record ZoneKey : Type 0 where
  pub tie : TableId
  pub name : List ℕ
  -- the absolute number of its first page, how many pages it has, its least mark, and the order of its largest block
  pub base : ℕ
  pub pages : ℕ
  pub min : ℕ
  pub largest : ℕ
  pub workers : ℕ

abbrev pub key_of : ZoneState → ZoneKey
key_of z =
    record {
      tie = z.tie;
      name = z.name;
      base = z.plain.base;
      pages = pages_of z.plain;
      min = z.plain.min;
      largest = z.plain.area.largest;
      workers = workers_of z.plain;
    }

-- the zone as it was made
abbrev pub opening_by : ZoneKey → PlainZone
opening_by k = zone_opening k.largest k.base k.pages k.min k.workers

-- the zone without its tie and its entries
abbrev pub named_zone : ZoneState → NamedZone
named_zone z = record { name = z.name; plain = z.plain }

abbrev pub ties_of : ShareState → List TableId
ties_of s = map (λ (z : ZoneShareState). z.seat.tie) s.zones

-- the share is one of the zones with these keys, place by place
abbrev pub IsShareOf : List ZoneKey → ShareState → Type 0
IsShareOf keys s = ties_of s ≡ map (λ (k : ZoneKey). k.tie) keys

-- past the end of a row there is no zone, and no worker
abbrev pub no_key : ZoneKey
no_key = record { tie = no_tie; name = []; base = 0; pages = 0; min = 0; largest = 0; workers = 0 }

abbrev pub workers_at : List ZoneKey → ℕ → ℕ
workers_at keys i = (slice_index_or keys i no_key).workers

-- the zone at place i has this worker
abbrev pub HasWorkerAt : List ZoneKey → ℕ → ℕ → Type 0
HasWorkerAt keys i w = w < workers_at keys i

-- whether an answer is a section: refused 20 or 30 it is none
abbrev pub is_section : Reply → Bool
is_section (Reply.Refused NotLent) = false
is_section (Reply.Refused JournalFull) = false
is_section q = true

-- the share after an answer of zone i: where that is a section, what the share has of the zone is x now, and else all is as it was
abbrev pub with_section : ℕ → Reply → ZoneShareState → ShareState → ShareState
with_section i q x s = cond (is_section q) (with_zone_share i x s) s

-- after a request to zone i for no run that was answered so: one section more, or as it was
abbrev pub noted_at : ℕ → Request → Reply → ShareState → ShareState
noted_at i r q s = with_section i q (answered r q (share_at s i)) s

-- and after any request to it, in the zone z as it was
abbrev pub noted_in : PlainZone → ℕ → Request → Reply → ShareState → ShareState
noted_in z i r q s = with_section i q (answered_in z r q (share_at s i)) s

-- zone z has the first page and the largest order of this key
pub record IsKeyedBy (k : ZoneKey) (z : PlainZone) : Type 0 where
  pub base : z.base ≡ k.base
  pub largest : z.area.largest ≡ k.largest

-- the share after a request to zone i, which has this key, that was answered so. What a run makes of it hangs on the zone's largest order and the types
-- of its pageblocks
abbrev pub IsNotedAt : ZoneKey → ℕ → Request → Reply → ShareState → ShareState → Type 0
IsNotedAt k i (Request.AllocRun n a m) q s t = (z : PlainZone) × IsKeyedBy k z × (t ≡ noted_in z i (Request.AllocRun n a m) q s)
IsNotedAt k i (Request.AllocRunAt p n) q s t = (z : PlainZone) × IsKeyedBy k z × (t ≡ noted_in z i (Request.AllocRunAt p n) q s)
IsNotedAt k i (Request.FreeRun p n) q s t = (z : PlainZone) × IsKeyedBy k z × (t ≡ noted_in z i (Request.FreeRun p n) q s)
IsNotedAt k i r q s t = t ≡ noted_at i r q s

-- what was to be done is what was answered and left; the zones are told here
pub record IsDone {A : Type 0} (d : Done A) (a : A) (rows : Option (List NamedZone)) (s : ShareState) : Type 0 where
  pub answer : a ≡ d.answer
  pub zones : rows ≡ Some d.world.zones
  pub share : plain s ≡ d.world.share

-- what a request to the zone at place i of a row comes to: the row has keys ks and tells the zones zs before, ls and ys after
pub record IsAskedAt (i : ℕ) (r : Request) (q : Reply) (ks ls : List ZoneKey) (zs ys : Option (List NamedZone)) (s t : ShareState) : Type 0 where
  pub keys : ls ≡ ks
  pub fits : IsShareOf ls t
  pub share : IsNotedAt (slice_index_or ks i no_key) i r q s t
  pub reply : IsReplyTo r q (share_at s i) (share_at t i)
  pub not_lent : (q ≡ Reply.Refused NotLent) ↔ (lends_for r (plain_share (share_at s i)) ≡ false)
  pub told : (rows : List NamedZone) → zs ≡ Some rows → IsDone (section (world rows s) i r) q ys t

-- how many sections were made with zone i
abbrev pub sections_at : ShareState → ℕ → ℕ
sections_at s i = (share_at s i).sections.made

-- each block that is lent stays so
abbrev pub KeepsLent : ShareState → ShareState → Type 0
KeepsLent s u = (i p k : ℕ) → IsTrue (is_lent (share_at s i) p k) → IsTrue (is_lent (share_at u i) p k)

-- the same blocks are lent
abbrev pub HasSameLent : ShareState → ShareState → Type 0
HasSameLent s u = (i p k : ℕ) → is_lent (share_at u i) p k ≡ is_lent (share_at s i) p k

-- the same blocks are lent, but for those at page q of zone j
abbrev pub HasSameLentBut : ℕ → ℕ → ShareState → ShareState → Type 0
HasSameLentBut j q s u = (i p k : ℕ) → (i ≡ j → p ≢ q) → is_lent (share_at u i) p k ≡ is_lent (share_at s i) p k

-- no block is lent at page p of zone i
abbrev pub IsNoneLentAt : ℕ → ℕ → ShareState → Type 0
IsNoneLentAt i p s = (k : ℕ) → is_lent (share_at s i) p k ≡ false

-- what is lent after an answer: the block answered, at a page where none was lent, and else the same blocks as before
abbrev pub IsLentBy : Result Lent Refused → ShareState → ShareState → Type 0
IsLentBy (Ok l) s u = IsNoneLentAt l.zone l.page s × HasSameLentBut l.zone l.page s u
IsLentBy (Err e) s u = HasSameLent s u

-- what the share has of a zone after a request to it that was answered so: one section more, or as it was
abbrev pub noted : Request → Reply → ZoneShareState → ZoneShareState
noted r q x = cond (is_section q) (answered r q x) x

-- the request by which a zone is asked for a block of order k for type t: where such blocks come from the worker's lists, a refill
abbrev pub page_request : ShareState → ℕ → MigrateType → Mark → Request
page_request s k t m = cond (is_listed (plain s) k) (Request.Refill t m s.batch) (Request.Alloc k t m)

-- a zone gave page p, and what the share has of it changed so: by one section; or the front of this list of type t was taken, where it was empty
-- after one section that filled it
abbrev pub IsGivenBy : Bool → List ℕ → Request → MigrateType → ℕ → ZoneShareState → ZoneShareState → Type 0
IsGivenBy false on r t p x y = y ≡ answered r (Reply.Page p) x
IsGivenBy true [] r t p x y = (ps : List ℕ) × (plain_share y ≡ taken t (plain_share (answered r (Reply.Pages ps) x)))
IsGivenBy true (q ∷ qs) r t p x y = plain_share y ≡ taken t (plain_share x)

-- the same of zone i, asked for a block of order k for type t to mark m
abbrev pub IsGivenIn : ℕ → MigrateType → Mark → ℕ → ℕ → ShareState → ShareState → Type 0
IsGivenIn k t m i p s u = IsGivenBy (is_listed (plain s) k) (cached_of (share_at s i) t) (page_request s k t m) t p (share_at s i) (share_at u i)

-- zone i was asked, and refused by one section: nothing else changed there
abbrev pub WasRefused : Request → ℕ → ShareState → ShareState → Type 0
WasRefused r i s u = (e : Refused) × ((is_section (Reply.Refused e) ≡ true) × (share_at u i ≡ answered r (Reply.Refused e) (share_at s i)))

-- of the zones from place n down to place j those above it were asked in vain, and none below it was asked
pub record AreAskedTo (r : Request) (j n : ℕ) (s u : ShareState) : Type 0 where
  pub within : j ≤ n
  pub above : (i : ℕ) → j < i → i ≤ n → WasRefused r i s u
  pub below : (i : ℕ) → i < j → share_at u i ≡ share_at s i

-- from place n down zones are asked for a block until one gives it, up to the lowest; a refusal 30 ends the walk, and the zone that answers it
-- is left as it was
abbrev pub AreAskedDown : ℕ → MigrateType → Mark → ℕ → Result Lent Refused → ShareState → ShareState → Type 0
AreAskedDown k t m n (Ok l) s u = AreAskedTo (page_request s k t m) l.zone n s u × IsGivenIn k t m l.zone l.page s u
AreAskedDown k t m n (Err e) s u =
    (j : ℕ) × (AreAskedTo (page_request s k t m) j n s u × ((e ≡ JournalFull) ⊎ (j ≡ 0)) × (share_at u j ≡ noted (page_request s k t m) (Reply.Refused e) (share_at s j)))

-- where zone i alone was asked for a page: what is lent after the answer, and what the share then has of the zone
pub record IsAskedFor (k : ℕ) (t : MigrateType) (m : Mark) (i : ℕ) (r : Result ℕ Refused) (s u : ShareState) : Type 0 where
  pub fresh : IfOk r (λ p. IsNoneLentAt i p s)
  pub others : IfOk r (λ p. HasSameLentBut i p s u)
  pub left : IfErr r (λ e. HasSameLent s u)
  pub given : IfOk r (λ p. IsGivenIn k t m i p s u)
  pub refused : IfErr r (λ e. share_at u i ≡ noted (page_request s k t m) (Reply.Refused e) (share_at s i))
  pub elsewhere : (j : ℕ) → j ≢ i → share_at u j ≡ share_at s j

-- n pages at the back of the list of type t were given back, by one section
abbrev pub drained_back : ℕ → MigrateType → ZoneShareState → ZoneShareState
drained_back n t x = answered (Request.Drain t (back n (cached_of x t))) Reply.Drained x

-- a list that had the most pages, `high`, gave back n of them; a shorter one stayed as it was
abbrev pub with_room : ℕ → ℕ → MigrateType → ZoneShareState → ZoneShareState
with_room n high t x = cond (leb high (length (cached_of x t))) (drained_back n t x) x

-- lent page p came to the front of the list of type t, which made room first; a list that was full with it gave back n pages once more, or stayed
-- as it was where that was refused
pub record IsPutBy (refused : Type 0) (n high : ℕ) (t : MigrateType) (p : ℕ) (x y : ZoneShareState) : Type 0 where
  pub listed : ZoneShareState
  pub put : plain_share listed ≡ put p t (plain_share (with_room n high t x))
  pub seat : listed.seat ≡ (with_room n high t x).seat
  pub rest : (y ≡ with_room n high t listed) ⊎ (refused × (y ≡ listed))

-- what the share has of a zone when the lent block of order k at page p went back there: by one section; or, where such blocks go to lists, to the
-- list of the type that it was lent for, and nothing else changed
abbrev pub IsFreedBy : Bool → Type 0 → ℕ → ℕ → ℕ → ℕ → ZoneShareState → ZoneShareState → Type 0
IsFreedBy false refused n high p k x y = y ≡ answered (Request.Free p k) Reply.Freed x
IsFreedBy true refused n high p k x y = (t : MigrateType) × ((lent_kind (use_in x p) k ≡ Some t) × IsPutBy refused n high t p x y)

-- the same of zone i
abbrev pub IsFreedIn : Type 0 → ℕ → ℕ → ℕ → ShareState → ShareState → Type 0
IsFreedIn refused i p k s u = IsFreedBy (is_listed (plain s) k) refused s.batch s.high_len p k (share_at s i) (share_at u i)

-- the number of a list of pages among all of a share: zone by zone, in the order of the types
abbrev pub list_place : ℕ → MigrateType → ℕ
list_place i t = i * TYPES + type_number t

-- the lists from number n up to below number m are empty, and the others as they were
pub record AreDrained (n m : ℕ) (s u : ShareState) : Type 0 where
  pub emptied : (i : ℕ) (t : MigrateType) → n ≤ list_place i t → list_place i t < m → cached_of (share_at u i) t ≡ []
  pub others : (i : ℕ) (t : MigrateType) → (list_place i t < n) ⊎ (m ≤ list_place i t) → cached_of (share_at u i) t ≡ cached_of (share_at s i) t

-- from number n on the lists before one that has pages are empty; that one and the rest are as they were
pub record IsDrainedTill (n : ℕ) (s u : ShareState) : Type 0 where
  pub zone : ℕ
  pub kind : MigrateType
  pub pages : 1 ≤ length (cached_of (share_at s zone) kind)
  pub from : n ≤ list_place zone kind
  pub drained : AreDrained n (list_place zone kind) s u

-- 1 where a list had pages and has none
abbrev pub was_emptied : List ℕ → List ℕ → ℕ
was_emptied (p ∷ ps) [] = 1
was_emptied before after = 0

-- how many lists of zone i had pages and have none
abbrev pub emptied_lists : ℕ → ShareState → ShareState → ℕ
emptied_lists i s u = emptied Unmovable + emptied Reclaimable + emptied Movable
  where
    emptied : MigrateType → ℕ
    emptied t = was_emptied (cached_of (share_at s i) t) (cached_of (share_at u i) t)

-- with each zone as many sections were made as lists of it were given back
abbrev pub DrainsOnce : ShareState → ShareState → Type 0
DrainsOnce s u = (i : ℕ) → sections_at u i ≡ sections_at s i + emptied_lists i s u

-- no list of the share has a page
abbrev pub HasEmptyLists : ShareState → Type 0
HasEmptyLists s = (i : ℕ) (t : MigrateType) → i < length s.zones → cached_of (share_at s i) t ≡ []

-- the worker, the settings and the number of zones stay
pub record IsSameShare (s u : ShareState) : Type 0 where
  pub worker : u.worker ≡ s.worker
  pub batch : u.batch ≡ s.batch
  pub high_len : u.high_len ≡ s.high_len
  pub places : length u.zones ≡ length s.zones
