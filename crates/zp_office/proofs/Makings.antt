-- The making of a script, call by call.
use Rattle.std.proofs.Common.{ℕ, ◌≡◌, ◌<◌, ◌≤◌, ◌+◌, ◌++◌, ◌∷◌, ◌==◌, List, [], sym, ap, ◌∙◌, length, map, take, filter, get_or}
use Rattle.std.specs.List.{count_by}
use Rattle.std.proofs.lemmas.List.{map_more, take_all, length-map}
use Rattle.std.proofs.lemmas.List.Sums.{length-filter}
use Rattle.zp_trace.specs.declared.line.ZoneLine.{ZoneLine}
use Rattle.zp_trace.specs.declared.line.Call.{Call}
use Rattle.zp_trace.specs.declared.line.CommandLine as line
use Rattle.zp_trace.specs.declared.trace.Trace.{Trace}
use Rattle.zp_office.specs.declared.command.Command.{Command}
use Rattle.zp_office.specs.Scripts.{calls_of, names_of, script_of, scripted}

-- one call more
pub script_more : (names : List (List ℕ)) (calls others : List Call) (i : ℕ) (c : Call) (s : List Command) (x : Command) → i < length calls → others ≡ calls → c ≡ get_or calls i c →
    s ≡ map (scripted names calls) (take i calls) → x ≡ scripted names others c → s ++ x ∷ [] ≡ map (scripted names calls) (take (i + 1) calls)
script_more names calls others i c s x lt same is so_far made =
    ap (λ l. l ++ x ∷ []) so_far
    ∙ ap (λ y. map (scripted names calls) (take i calls) ++ y ∷ []) (made ∙ ap (λ l. scripted names l c) same ∙ ap (scripted names calls) is)
    ∙ sym (map_more (scripted names calls) calls i c lt)

-- all calls
pub script_is : (t : Trace) (worker : ℕ) (zones : List ZoneLine) (commands : List line.CommandLine) (calls : List Call) (i : ℕ) (s : List Command) → zones ≡ t.header.zones →
    commands ≡ t.commands → calls ≡ calls_of commands worker → length calls ≤ i → s ≡ map (scripted (names_of zones) calls) (take i calls) → s ≡ script_of t worker
script_is t worker zones commands calls i s same_zones same_commands are ge so_far =
    so_far
    ∙ ap (map (scripted (names_of zones) calls)) (take_all i calls ge)
    ∙ ap (λ (zs : List ZoneLine). map (scripted (names_of zs) calls) calls) same_zones
    ∙ ap (λ (l : List Call). map (scripted (names_of t.header.zones) l) l) (are ∙ ap (λ (cs : List line.CommandLine). calls_of cs worker) same_commands)

-- as many commands as the worker has
pub script_count : (t : Trace) (worker : ℕ) → length (script_of t worker) ≡ count_by (λ (c : line.CommandLine). c.worker == worker) t.commands
script_count t worker =
    length-map (calls_of t.commands worker) (scripted (names_of t.header.zones) (calls_of t.commands worker))
    ∙ length-map (filter (λ (c : line.CommandLine). c.worker == worker) t.commands) (λ (c : line.CommandLine). c.call)
    ∙ length-filter (λ (c : line.CommandLine). c.worker == worker) t.commands
