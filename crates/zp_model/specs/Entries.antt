-- Entries of a journal: who asked a zone for what, and what was answered; and how an entry keeps them (this profile).
use Rattle.std.specs.Prelude.{ℕ, Bool, true, false, List, Option, None, Some, unwrap_or}
use Rattle.zp_model.specs.declared.entry.Asked.{Asked}
use Rattle.zp_model.specs.declared.entry.Asked.TheVariants as asked
use Rattle.zp_model.specs.declared.entry.Answered.{Answered}
use Rattle.zp_model.specs.declared.entry.Answered.TheVariants as answered
use Rattle.zp_model.specs.declared.request.Request.{Request}
use Rattle.zp_model.specs.declared.request.Request.TheVariants.{Alloc, AllocLow, Free, Post, Collect, Refill, Drain, Isolate, Release, AllocRun, AllocRunAt, FreeRun}
use Rattle.zp_model.specs.declared.request.Reply.{Reply}
use Rattle.zp_model.specs.declared.request.Reply.TheVariants.{Page, Block, Freed, Posted, Pages, Drained, Isolated, Released, Refused}

-- one request that a worker made of a zone, with its reply
pub record Entry : Type 0 where
  pub worker : ℕ
  pub request : Request
  pub reply : Reply

-- the pages that a request gives back, and those that a reply answers, where there are any to be listed
abbrev pub asked_pages : Request → Option (List ℕ)
asked_pages (Drain t ps) = Some ps
asked_pages r = None

abbrev pub answered_pages : Reply → Option (List ℕ)
answered_pages (Pages ps) = Some ps
answered_pages q = None

-- at most one of the two has pages; an entry has room for one list
abbrev pub IsOneList : Option (List ℕ) → Option (List ℕ) → Type 0
IsOneList None b = Unit {0}
IsOneList (Some ps) None = Unit {0}
IsOneList (Some ps) (Some qs) = ⊥

abbrev pub HasOneList : Request → Reply → Type 0
HasOneList r q = IsOneList (asked_pages r) (answered_pages q)

-- that list, or what was there before
abbrev pub pages_of : Request → Reply → List ℕ → List ℕ
pages_of r q ps = unwrap_or (asked_pages r) (unwrap_or (answered_pages q) ps)

-- a request without its list, and with it again
abbrev pub asked_of : Request → Asked
asked_of (Alloc k t m) = asked.Alloc k t m
asked_of (AllocLow k) = asked.AllocLow k
asked_of (Free p k) = asked.Free p k
asked_of (Post p k to) = asked.Post p k to
asked_of Collect = asked.Collect
asked_of (Refill t m n) = asked.Refill t m n
asked_of (Drain t ps) = asked.Drain t
asked_of (Isolate b) = asked.Isolate b
asked_of (Release b t) = asked.Release b t
asked_of (AllocRun n a m) = asked.AllocRun n a m
asked_of (AllocRunAt p n) = asked.AllocRunAt p n
asked_of (FreeRun p n) = asked.FreeRun p n

abbrev pub request_of : Asked → List ℕ → Request
request_of (asked.Alloc k t m) ps = Alloc k t m
request_of (asked.AllocLow k) ps = AllocLow k
request_of (asked.Free p k) ps = Free p k
request_of (asked.Post p k to) ps = Post p k to
request_of asked.Collect ps = Collect
request_of (asked.Refill t m n) ps = Refill t m n
request_of (asked.Drain t) ps = Drain t ps
request_of (asked.Isolate b) ps = Isolate b
request_of (asked.Release b t) ps = Release b t
request_of (asked.AllocRun n a m) ps = AllocRun n a m
request_of (asked.AllocRunAt p n) ps = AllocRunAt p n
request_of (asked.FreeRun p n) ps = FreeRun p n

-- a reply without its list, and with it again
abbrev pub answered_of : Reply → Answered
answered_of (Page p) = answered.Page p
answered_of (Block b) = answered.Block b
answered_of Freed = answered.Freed
answered_of Posted = answered.Posted
answered_of (Pages ps) = answered.Pages
answered_of Drained = answered.Drained
answered_of Isolated = answered.Isolated
answered_of Released = answered.Released
answered_of (Refused r) = answered.Refused r

abbrev pub reply_of : Answered → List ℕ → Reply
reply_of (answered.Page p) ps = Page p
reply_of (answered.Block b) ps = Block b
reply_of answered.Freed ps = Freed
reply_of answered.Posted ps = Posted
reply_of answered.Pages ps = Pages ps
reply_of answered.Drained ps = Drained
reply_of answered.Isolated ps = Isolated
reply_of answered.Released ps = Released
reply_of (answered.Refused r) ps = Refused r

abbrev pub entry_of_parts : ℕ → Asked → Answered → List ℕ → Entry
entry_of_parts w a b ps = record { worker = w; request = request_of a ps; reply = reply_of b ps }

-- whether an entry has a list
abbrev pub has_pages : Asked → Answered → Bool
has_pages (asked.Drain t) b = true
has_pages a answered.Pages = true
has_pages a b = false

-- an entry to be written over
abbrev pub blank_entry : Entry
blank_entry = record { worker = 0; request = Collect; reply = Freed }
