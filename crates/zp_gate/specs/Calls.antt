-- What a worker asks and is given, as requests and replies of the zone (this profile).
use Rattle.std.specs.Prelude.{Result, Ok, Err}
use Rattle.zp_model.specs.declared.refused.Refused.{Refused}
use Rattle.zp_model.specs.declared.request.Request.{Request}
use Rattle.zp_model.specs.declared.request.Reply.{Reply}
use Rattle.zp_gate.specs.declared.call.ZoneCall.{ZoneCall}
use Rattle.zp_gate.specs.declared.call.ZoneCall.TheVariants.{AllocLow, Post, Collect, Isolate, Release, AllocRunAt}
use Rattle.zp_gate.specs.declared.call.Given.{Given}
use Rattle.zp_gate.specs.declared.call.Given.TheVariants.{Block, Done}

abbrev pub request_of : ZoneCall → Request
request_of (AllocLow k) = Request.AllocLow k
request_of (Post p k w) = Request.Post p k w
request_of Collect = Request.Collect
request_of (Isolate n) = Request.Isolate n
request_of (Release n t) = Request.Release n t
request_of (AllocRunAt p n) = Request.AllocRunAt p n

-- the reply that gives this to a call. Of a run at a page no more is given than that it is the caller's: it begins at that page
abbrev pub reply_of : ZoneCall → Given → Reply
reply_of c (Block b) = Reply.Block b
reply_of (Post p k w) Done = Reply.Posted
reply_of (Isolate n) Done = Reply.Isolated
reply_of (Release n t) Done = Reply.Released
reply_of (AllocRunAt p n) Done = Reply.Page p
reply_of c Done = Reply.Drained

-- a call's answer as a reply
abbrev pub answer_of : ZoneCall → Result Given Refused → Reply
answer_of c (Ok g) = reply_of c g
answer_of c (Err e) = Reply.Refused e
