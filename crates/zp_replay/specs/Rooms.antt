-- How many entries the commands of a trace make at most in the journal of one zone (this profile).
use Rattle.std.specs.Prelude.{ℕ, List}
use Rattle.std.specs.List.{sum_by}
use Rattle.zp_trace.specs.declared.line.Call.{Call}
use Rattle.zp_trace.specs.declared.line.Call.TheVariants.{Info, Alloc, Low, Free, Post, Collect, Drain, Isolate, Release}
use Rattle.zp_trace.specs.declared.line.CommandLine.{CommandLine}

-- a drain makes a section for each of the worker's three lists; a free of a page gives back a batch before and after; what else asks a
-- zone makes one
abbrev pub most_entries : Call → ℕ
most_entries Info = 0
most_entries (Alloc label k t zone m) = 1
most_entries (Low label k zone) = 1
most_entries (Free label) = 2
most_entries (Post label to) = 1
most_entries (Collect label zone) = 1
most_entries Drain = 3
most_entries (Isolate zone b) = 1
most_entries (Release zone b t) = 1

abbrev pub room_for : List CommandLine → ℕ
room_for commands = sum_by (λ (c : CommandLine). most_entries c.call) commands
