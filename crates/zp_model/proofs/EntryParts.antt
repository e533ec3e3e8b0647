-- An entry that keeps what is asked, what is answered and the one list apart is the entry of the request and the reply.
use Rattle.std.proofs.Common.{ℕ, ◌≡◌, refl, ap, List, Option, Some, None}
use Rattle.std.specs.Prelude.{unwrap_or}
use Rattle.zp_model.specs.declared.request.Request.{Request}
use Rattle.zp_model.specs.declared.request.Reply.{Reply}
use Rattle.zp_model.specs.Entries.{Entry, HasOneList, IsOneList, answered_of, asked_of, asked_pages, entry_of_parts, pages_of, reply_of, request_of}

request_same : (r : Request) (q : Reply) (ps : List ℕ) → request_of (asked_of r) (pages_of r q ps) ≡ r
request_same (Request.Alloc k t m) q ps = refl
request_same (Request.AllocLow k) q ps = refl
request_same (Request.Free p k) q ps = refl
request_same (Request.Post p k to) q ps = refl
request_same Request.Collect q ps = refl
request_same (Request.Refill t m n) q ps = refl
request_same (Request.Drain t xs) q ps = refl
request_same (Request.Isolate b) q ps = refl
request_same (Request.Release b t) q ps = refl
request_same (Request.AllocRun n a m) q ps = refl
request_same (Request.AllocRunAt p n) q ps = refl
request_same (Request.FreeRun p n) q ps = refl

-- a reply's list is the entry's where the request has none
reply_same : (r : Request) (q : Reply) (ps : List ℕ) → HasOneList r q → reply_of (answered_of q) (pages_of r q ps) ≡ q
reply_same r (Reply.Page p) ps one = refl
reply_same r (Reply.Block b) ps one = refl
reply_same r Reply.Freed ps one = refl
reply_same r Reply.Posted ps one = refl
reply_same r (Reply.Pages xs) ps one = ap (λ ys. Reply.Pages ys) (go (asked_pages r) one)
  where
    go : (o : Option (List ℕ)) → IsOneList o (Some xs) → unwrap_or o xs ≡ xs
    go None one = refl
    go (Some ys) one = absurd one
reply_same r Reply.Drained ps one = refl
reply_same r Reply.Isolated ps one = refl
reply_same r Reply.Released ps one = refl
reply_same r (Reply.Refused e) ps one = refl

pub parts_whole : (w : ℕ) (r : Request) (q : Reply) (ps : List ℕ) → HasOneList r q →
    entry_of_parts w (asked_of r) (answered_of q) (pages_of r q ps) ≡ (let e : Entry = record { worker = w; request = r; reply = q } in e)
parts_whole w r q ps one = λ i. record { worker = w; request = request_same r q ps i; reply = reply_same r q ps one i }
