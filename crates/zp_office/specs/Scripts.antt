-- The script of a worker: the worker's commands of a trace, with slots in place of labels and places in place of zones' names.
use Rattle.std.specs.Prelude.{ℕ, ◌==◌, ◌<◌, Bool, false, List, filter, map, Option, Some, None}
use Rattle.std.specs.List.{position_or_len}
use Rattle.std.specs.Str.{bytes_eq}
use Rattle.zp_trace.specs.declared.line.ZoneLine.{ZoneLine}
use Rattle.zp_trace.specs.declared.line.Call.{Call}
use Rattle.zp_trace.specs.declared.line.Call.TheVariants.{Info, Alloc, Low, Free, Post, Collect, Drain, Isolate, Release}
use Rattle.zp_trace.specs.declared.line.CommandLine as line
use Rattle.zp_trace.specs.declared.trace.Trace.{Trace}
use Rattle.zp_trace.specs.Grammar.{bound_label}
use Rattle.zp_office.specs.declared.command.Command.{Command}
use Rattle.zp_office.specs.declared.command.Command.TheVariants as command

-- the calls of one worker, in order
abbrev pub calls_of : List line.CommandLine → ℕ → List Call
calls_of commands worker = map (λ (c : line.CommandLine). c.call) (filter (λ (c : line.CommandLine). c.worker == worker) commands)

-- whether this is the label
abbrev pub is_label : List ℕ → Option (List ℕ) → Bool
is_label label (Some bound) = bytes_eq bound label
is_label label None = false

-- whether a call binds the label
abbrev pub binds : List ℕ → Call → Bool
binds label call = is_label label (bound_label call)

-- the place of the first of these calls that binds the label
abbrev pub slot_of : List Call → List ℕ → ℕ
slot_of calls label = position_or_len (binds label) calls

-- the place of the zone of this name
abbrev pub number_of : List (List ℕ) → List ℕ → ℕ
number_of names zone = position_or_len (λ n. bytes_eq n zone) names

abbrev pub names_of : List ZoneLine → List (List ℕ)
names_of zones = map (λ (z : ZoneLine). z.name) zones

-- a call of a worker that makes these calls, where the zones have these names
abbrev pub scripted : List (List ℕ) → List Call → Call → Command
scripted names calls Info = command.Info
scripted names calls (Alloc label k t zone m) = command.Alloc (slot_of calls label) k t (number_of names zone) m
scripted names calls (Low label k zone) = command.Low (slot_of calls label) k (number_of names zone)
scripted names calls (Free label) = command.Free (slot_of calls label)
scripted names calls (Post label to) = command.Post (slot_of calls label) to
scripted names calls (Collect label zone) = command.Collect (slot_of calls label) (number_of names zone)
scripted names calls Drain = command.Drain
scripted names calls (Isolate zone b) = command.Isolate (number_of names zone) b
scripted names calls (Release zone b t) = command.Release (number_of names zone) b t

abbrev pub script_of : Trace → ℕ → List Command
script_of t worker =
    let calls = calls_of t.commands worker in
    map (scripted (names_of t.header.zones) calls) calls

-- the zone and the worker that a command names are below these numbers
abbrev pub NamesBelow : ℕ → ℕ → Command → Type 0
NamesBelow zones workers (command.Alloc s k t i m) = i < zones
NamesBelow zones workers (command.Low s k i) = i < zones
NamesBelow zones workers (command.Free s) = Unit {0}
NamesBelow zones workers (command.Post s to) = to < workers
NamesBelow zones workers (command.Collect s i) = i < zones
NamesBelow zones workers command.Drain = Unit {0}
NamesBelow zones workers (command.Isolate i b) = i < zones
NamesBelow zones workers (command.Release i b t) = i < zones
NamesBelow zones workers command.Info = Unit {0}
