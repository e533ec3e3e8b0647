-- What the commands of one worker answer and leave, over a row of zones that are known (this profile). A command is made of
-- sections, each one request to one zone, and of moves on the worker's own lists.
use Rattle.std.specs.Prelude.{ℕ, zero, suc, ◌+◌, ◌==◌, ◌&&◌, Bool, true, false, not, List, [], ◌∷◌, length, slice_index_or, slice_set, Option, None, Some, Result, Ok, Err, cond, leb}
use Rattle.std.specs.List.{range_with_len}
use Rattle.zp_model.specs.declared.counts.Counts.{Counts}
use Rattle.zp_model.specs.Info.{counts_of}
use Rattle.zp_model.specs.declared.mark.Mark.{Mark}
use Rattle.zp_model.specs.declared.migrate_type.MigrateType.{MigrateType}
use Rattle.zp_model.specs.declared.migrate_type.MigrateType.TheVariants.{Unmovable, Reclaimable, Movable}
use Rattle.zp_model.specs.declared.refused.Refused.{Refused}
use Rattle.zp_model.specs.declared.refused.Refused.TheVariants.{NoBlock, NotLent, JournalFull}
use Rattle.zp_model.specs.declared.request.Request.{Request}
use Rattle.zp_model.specs.declared.request.Request.TheVariants.{Alloc, Free, Refill, Drain}
use Rattle.zp_model.specs.declared.request.Reply.{Reply}
use Rattle.zp_model.specs.Zone.{zone_opening}
use Rattle.zp_model.specs.Step.{Outcome, step}
use Rattle.zp_zone.specs.NamedZone.{NamedZone}
use Rattle.zp_share.specs.declared.commands.Lent.{Lent}
use Rattle.zp_share.specs.PlainShares.{PlainZoneShare, PlainShare, refusal_of, used_as, lent_kind, list_of, back, share_after_in, taken, putting, own_at, with_own}

-- a row of zones, the lowest first, and one worker's share of them
pub record World : Type 0 where
  pub zones : List NamedZone
  pub share : PlainShare

-- what is answered, and what is left
pub record Done (A : Type 0) : Type 0 where
  pub answer : A
  pub world : World

abbrev pub done : {A : Type 0} → A → World → Done A
done a w = record { answer = a; world = w }

-- the same, answered in other words
abbrev pub told_as : {A B : Type 0} → (A → B) → Done A → Done B
told_as f d = done (f d.answer) d.world

-- goes on where it was not refused
abbrev pub and_then : {A B : Type 0} → Done (Result A Refused) → (A → World → Done (Result B Refused)) → Done (Result B Refused)
and_then d f = elim d.answer [ Ok a ↦ f a d.world | Err e ↦ done (Err e) d.world ]

-- past the end of a row there is no page
abbrev pub no_zone : NamedZone
no_zone = record { name = []; plain = zone_opening 0 0 0 0 0 }

abbrev pub zone_at : List NamedZone → ℕ → NamedZone
zone_at zones i = slice_index_or zones i no_zone

-- the counts of zone i
abbrev pub counts_at : List NamedZone → ℕ → Counts
counts_at zones i = let z = (zone_at zones i).plain in counts_of z.area.largest z.area.free

-- the row where zone i has become this plain zone
abbrev pub row_with : List NamedZone → ℕ → Outcome → List NamedZone
row_with zones i o = slice_set zones i (record (zone_at zones i) { plain = o.zone })

abbrev pub with_share : ℕ → PlainZoneShare → World → World
with_share i x w = record { zones = w.zones; share = with_own i x w.share }

-- the request is a step of zone i, and the share changes as the reply says
abbrev pub stepped : World → ℕ → Request → Outcome → Done Reply
stepped w i r o =
    done o.reply (record { zones = row_with w.zones i o; share = with_own i (share_after_in (zone_at w.zones i).plain r o.reply (own_at w.share i)) w.share })

-- one section, where it is not refused
abbrev pub section_as : Option Refused → World → ℕ → Request → Done Reply
section_as (Some e) w i r = done (Reply.Refused e) w
section_as None w i r = stepped w i r (step (zone_at w.zones i).plain (own_at w.share i).worker r)

abbrev pub section : World → ℕ → Request → Done Reply
section w i r = section_as (refusal_of r (own_at w.share i)) w i r

-- a zone answers an alloc with a page, or refuses it
abbrev pub page_answer : Reply → Result ℕ Refused
page_answer (Reply.Page p) = Ok p
page_answer (Reply.Refused r) = Err r
page_answer q = Err NoBlock

-- what is asked of a zone is done, or refused
abbrev pub done_answer : Reply → Result (Unit {0}) Refused
done_answer (Reply.Refused r) = Err r
done_answer q = Ok tt

-- whether blocks of order k come from the worker's lists and go there
abbrev pub is_listed : PlainShare → ℕ → Bool
is_listed s k = (k == 0) && not (s.batch == 0)

-- the page in front of a list; a refill that is not refused has got one
abbrev pub front_answer : List ℕ → Result ℕ Refused
front_answer [] = Err NoBlock
front_answer (p ∷ ps) = Ok p

-- the page in front of the list of type t is lent
abbrev pub take_front : World → ℕ → MigrateType → Done (Result ℕ Refused)
take_front w i t = done (front_answer (list_of (own_at w.share i) t)) (with_share i (taken t (own_at w.share i)) w)

-- an empty list is refilled first
abbrev pub alloc_listed : List ℕ → World → ℕ → MigrateType → Mark → Done (Result ℕ Refused)
alloc_listed [] w i t m = and_then (told_as done_answer (section w i (Refill t m w.share.batch))) (λ _ v. take_front v i t)
alloc_listed (p ∷ ps) w i t m = take_front w i t

-- a block of zone i alone
abbrev pub alloc_in : World → ℕ → ℕ → MigrateType → Mark → Done (Result ℕ Refused)
alloc_in w i k t m =
    cond (is_listed w.share k) (alloc_listed (list_of (own_at w.share i) t) w i t m) (told_as page_answer (section w i (Alloc k t m)))

-- whether a lower zone is tried after this answer: not after a refusal 30
abbrev pub goes_down : Result ℕ Refused → Bool
goes_down (Ok p) = false
goes_down (Err JournalFull) = false
goes_down (Err r) = true

abbrev pub lent_in : ℕ → ℕ → Result ℕ Refused → Result Lent Refused
lent_in i k (Ok p) = Ok (record { zone = i; page = p; order = k })
lent_in i k (Err r) = Err r

-- a block of order k for type t, held to mark m, out of zone i or one below it: the first that is not refused, or else the refusal
-- of the last zone tried
abbrev pub alloc_down : ℕ → MigrateType → Mark → ℕ → World → Done (Result Lent Refused)
alloc_down k t m zero w = told_as (lent_in 0 k) (alloc_in w 0 k t m)
alloc_down k t m (suc i) w =
    let d = alloc_in w (suc i) k t m in
    cond (goes_down d.answer) (alloc_down k t m i d.world) (told_as (lent_in (suc i) k) d)

-- n pages from the back of the list of type t are given back
abbrev pub drain_back : World → ℕ → MigrateType → ℕ → Done (Result (Unit {0}) Refused)
drain_back w i t n = told_as done_answer (section w i (Drain t (back n (list_of (own_at w.share i) t))))

-- a list that is at high_len gives back a batch
abbrev pub drain_full : World → ℕ → MigrateType → Done (Result (Unit {0}) Refused)
drain_full w i t = cond (leb w.share.high_len (length (list_of (own_at w.share i) t))) (drain_back w i t w.share.batch) (done (Ok tt) w)

-- page p goes to the front of its list
abbrev pub put_page : World → ℕ → ℕ → Done (Result (Unit {0}) Refused)
put_page w i p = let x = putting (own_at w.share i) p w.share.high_len in done x.answer (with_share i x.share w)

-- a list that is full before gives back a batch, and a refusal there is the answer; one that is full after gives back a batch,
-- and a refusal there is passed over
abbrev pub free_listed : World → ℕ → ℕ → MigrateType → Done (Result (Unit {0}) Refused)
free_listed w i p t = and_then (drain_full w i t) (λ _ v. and_then (put_page v i p) (λ _ u. done (Ok tt) (drain_full u i t).world))

-- a lent block of this type is given back; 20 where none is lent
abbrev pub free_as : Option MigrateType → World → ℕ → ℕ → ℕ → Done (Result (Unit {0}) Refused)
free_as None w i p k = done (Err NotLent) w
free_as (Some t) w i p k = cond (is_listed w.share k) (free_listed w i p t) (told_as done_answer (section w i (Free p k)))

-- the block of order k at page p of zone i is given back: refused 20 where it is not lent with that order
abbrev pub free_in : World → ℕ → ℕ → ℕ → Done (Result (Unit {0}) Refused)
free_in w i p k = free_as (lent_kind (used_as (own_at w.share i) p) k) w i p k

-- a list of n pages is given back whole, where it is not empty: how many pages were given back, with so many before
abbrev pub drain_pages : ℕ → ℕ → World → ℕ → MigrateType → Done (Result ℕ Refused)
drain_pages before zero w i t = done (Ok before) w
drain_pages before (suc n) w i t = and_then (drain_back w i t (suc n)) (λ _ v. done (Ok (before + suc n)) v)

abbrev pub drain_list : ℕ → World → ℕ → MigrateType → Done (Result ℕ Refused)
drain_list before w i t = drain_pages before (length (list_of (own_at w.share i) t)) w i t

-- the lists of one zone
abbrev pub drain_zone : ℕ → World → ℕ → Done (Result ℕ Refused)
drain_zone before w i =
    and_then (drain_list before w i Unmovable) (λ n v. and_then (drain_list n v i Reclaimable) (λ m u. drain_list m u i Movable))

abbrev pub drain_zones : ℕ → World → List ℕ → Done (Result ℕ Refused)
drain_zones before w [] = done (Ok before) w
drain_zones before w (i ∷ is) = and_then (drain_zone before w i) (λ n v. drain_zones n v is)

-- all lists, zone by zone: how many pages were given back
abbrev pub drain_all : World → Done (Result ℕ Refused)
drain_all w = drain_zones 0 w (range_with_len 0 (length w.share.zones))
