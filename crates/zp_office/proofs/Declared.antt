-- The zones and workers that a worker's commands name are there.
use Rattle.std.proofs.Common.{ℕ, ◌≡◌, ◌<◌, ◌==◌, Bool, true, inl, inr, List, All, ap, ◌∙◌, arith, length, map, filter, get_or}
use Rattle.std.specs.Str.{bytes_eq}
use Rattle.std.proofs.lemmas.Bool.{cases_lt, both_ways}
use Rattle.std.proofs.lemmas.List.{length-map, get_or-map}
use Rattle.std.proofs.lemmas.List.Elements.{All-filter, All-map}
use Rattle.std.proofs.lemmas.List.Sums.{fails_before_first}
use Rattle.std.proofs.lemmas.Slice.Eq.{bytes_eq-Decides}
use Rattle.zp_trace.specs.declared.line.ZoneLine.{ZoneLine}
use Rattle.zp_trace.specs.declared.line.Call.{Call}
use Rattle.zp_trace.specs.declared.line.Call.TheVariants.{Info, Alloc, Low, Free, Post, Collect, Drain, Isolate, Release}
use Rattle.zp_trace.specs.declared.line.CommandLine.{CommandLine}
use Rattle.zp_trace.specs.declared.trace.Header.{Header}
use Rattle.zp_trace.specs.Grammar.{IsCallOf, IsCommandOf, IsDeclared}
use Rattle.zp_office.specs.Scripts.{NamesBelow, calls_of, names_of, number_of, scripted}

-- a zone that is declared has a place
number_there : (h : Header) (zone : List ℕ) → IsDeclared h zone → number_of (names_of h.zones) zone < length h.zones
number_there h zone is =
    let names = names_of h.zones in
    let test : List ℕ → Bool = λ n. bytes_eq n zone in
    let len : length names ≡ length h.zones = length-map h.zones (λ (z : ZoneLine). z.name) in
    elim (cases_lt (number_of names zone) (length names)) [
      | inl less ↦ omega (arith, less, len)
      | inr ge ↦
          let z = is.1 in
          let here : test (get_or names is.0 z.name) ≡ true =
          ap test (get_or-map (λ (y : ZoneLine). y.name) h.zones is.0 z z.name is.2)
          ∙ ap (λ (y : ZoneLine). bytes_eq y.name zone) is.3
          ∙ (bytes_eq-Decides z.name zone).1 is.4
          in
          absurd (both_ways _ (fails_before_first test names is.0 z.name (omega (arith, is.2))) here)
    ]

named : (h : Header) (calls : List Call) (call : Call) → IsCallOf h call → NamesBelow (length h.zones) h.workers (scripted (names_of h.zones) calls call)
named h calls Info is = tt
named h calls (Alloc label k t zone m) is = number_there h zone is.2
named h calls (Low label k zone) is = number_there h zone is.2
named h calls (Free label) is = tt
named h calls (Post label to) is = is.1
named h calls (Collect label zone) is = number_there h zone is.1
named h calls Drain is = tt
named h calls (Isolate zone b) is = number_there h zone is.0
named h calls (Release zone b t) is = number_there h zone is.0

pub names_there : (h : Header) (cs : List CommandLine) (worker : ℕ) (calls : List Call) → All (IsCommandOf h) cs →
    All (NamesBelow (length h.zones) h.workers) (map (scripted (names_of h.zones) calls) (calls_of cs worker))
names_there h cs worker calls all =
    All-map (NamesBelow (length h.zones) h.workers) (scripted (names_of h.zones) calls) (calls_of cs worker)
    (All-map (λ (call : Call). NamesBelow (length h.zones) h.workers (scripted (names_of h.zones) calls call)) (λ (c : CommandLine). c.call) (filter own cs)
    (λ k d lt. named h calls (get_or (filter own cs) k d).call (All-filter own (IsCommandOf h) cs all k d lt).1))
  where
    own : CommandLine → Bool
    own c = c.worker == worker
