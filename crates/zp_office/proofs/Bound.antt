-- In a trace each label that a worker names a block by is bound by a call of that worker.
use Rattle.std.proofs.Common.{ℕ, ◌≡◌, ◌<◌, ◌≤◌, ◌==◌, ◌+◌, Bool, true, false, inl, inr, List, [], ◌∷◌, ◌++◌, All, Any, Some, refl, sym, ap, subst, ◌∙◌, arith, length, length-append, map, filter, cond, get_or, append_assoc}
use Rattle.std.specs.List.{position_or_len, AllByRecursion}
use Rattle.std.proofs.lemmas.Bool.{cases_lt, both_ways, eq-eqb, eqb-true}
use Rattle.std.proofs.lemmas.List.{length-map, get_or-map}
use Rattle.std.proofs.lemmas.List.Elements.{All-contains, All-filter, All-from_recursion, All-map, Contains-append_left, filter_passes, recursion_from_All}
use Rattle.std.proofs.lemmas.List.Sums.{fails_before_first}
use Rattle.std.proofs.lemmas.Slice.Eq.{bytes_eq-Decides}
use Rattle.zp_trace.specs.declared.bounds.TheConstants.{MOST_LINES}
use Rattle.zp_trace.specs.declared.line.Call.{Call}
use Rattle.zp_trace.specs.declared.line.Call.TheVariants.{Info, Alloc, Low, Free, Post, Collect, Drain, Isolate, Release}
use Rattle.zp_trace.specs.declared.line.CommandLine.{CommandLine}
use Rattle.zp_trace.specs.declared.trace.Header.{Header}
use Rattle.zp_trace.specs.declared.trace.Trace.{Trace}
use Rattle.zp_trace.specs.Lines.{Line}
use Rattle.zp_trace.specs.Lines as line
use Rattle.zp_trace.specs.Grammar.{Binds, HasLabel, IsBeginning}
use Rattle.zp_trace.proofs.HeaderLines.{lines_with}
use Rattle.zp_trace.proofs.CommandLines.{header_count, lines_count, lines_more, no_commands, same_trace}
use Rattle.zp_office.specs.Desks.{HasSlotBelow}
use Rattle.zp_office.specs.Scripts.{binds, calls_of, is_label, scripted, slot_of}

-- a label that is bound before stays bound
any_more : (P : CommandLine → Type 0) (xs ys : List CommandLine) → Any P xs → Any P (xs ++ ys)
any_more P xs ys a = let m = Contains-append_left xs ys a.1 (a.0, a.2, a.3) in (m.0, a.1, m.1, m.2, a.4)

label_more : (xs ys : List CommandLine) (worker : ℕ) (call : Call) → HasLabel xs worker call → HasLabel (xs ++ ys) worker call
label_more xs ys worker Info has = tt
label_more xs ys worker (Alloc label k t zone m) has = tt
label_more xs ys worker (Low label k zone) has = tt
label_more xs ys worker (Free label) has = any_more (Binds worker label) xs ys has
label_more xs ys worker (Post label to) has = any_more (Binds worker label) xs ys has
label_more xs ys worker (Collect label zone) has = tt
label_more xs ys worker Drain has = tt
label_more xs ys worker (Isolate zone b) has = tt
label_more xs ys worker (Release zone b t) has = tt

-- one command of the lines goes over to those before it
moved : (h : Header) (done cs : List CommandLine) (c : CommandLine) → IsBeginning (lines_with h done ++ map line.CommandLine (c ∷ cs)) →
    IsBeginning (lines_with h (done ++ c ∷ []) ++ map line.CommandLine cs)
moved h done cs c begins =
    subst IsBeginning (sym (ap (λ (ls : List Line). ls ++ map line.CommandLine cs) (lines_more h done c) ∙ append_assoc (lines_with h done) (line.CommandLine c ∷ []) (map line.CommandLine cs))) begins

each_labelled : (h : Header) (all done cs : List CommandLine) → all ≡ done ++ cs → IsBeginning (lines_with h done ++ map line.CommandLine cs) →
    AllByRecursion (λ (c : CommandLine). HasLabel all c.worker c.call) cs
each_labelled h all done [] e begins = tt
each_labelled h all done (c ∷ cs) e begins =
    let next = begins (lines_with h done) (line.CommandLine c) (map line.CommandLine cs) refl in
    let trace = same_trace next.0 (record { header = h; commands = done }) (sym next.1) in
    let has : HasLabel done c.worker c.call = subst (λ (t : Trace). HasLabel t.commands c.worker c.call) trace next.3.1 in
    (subst (λ (xs : List CommandLine). HasLabel xs c.worker c.call) (sym e) (label_more done (c ∷ cs) c.worker c.call has), each_labelled h all (done ++ c ∷ []) cs (e ∙ sym (append_assoc done (c ∷ []) cs)) (moved h done cs c begins))

from_none : (h : Header) (cs : List CommandLine) → IsBeginning (lines_with h cs) → IsBeginning (lines_with h [] ++ map line.CommandLine cs)
from_none h cs begins = subst IsBeginning (ap (λ (ls : List Line). ls ++ map line.CommandLine cs) (no_commands h)) begins

-- each command's label is bound in the trace
pub labelled : (h : Header) (cs : List CommandLine) → IsBeginning (lines_with h cs) → All (λ (c : CommandLine). HasLabel cs c.worker c.call) cs
labelled h cs begins = All-from_recursion (λ (c : CommandLine). HasLabel cs c.worker c.call) cs (each_labelled h cs [] cs refl (from_none h cs begins))

-- a trace has few commands
each_few : (h : Header) (done cs : List CommandLine) → length (lines_with h done) ≤ MOST_LINES → IsBeginning (lines_with h done ++ map line.CommandLine cs) →
    length done + length cs ≤ MOST_LINES
each_few h done [] room begins = omega (arith, lines_count h done, room)
each_few h done (c ∷ cs) room begins =
    let next = begins (lines_with h done) (line.CommandLine c) (map line.CommandLine cs) refl in
    let more : length (lines_with h (done ++ c ∷ [])) ≤ MOST_LINES = omega (arith, next.2, lines_count h done, lines_count h (done ++ c ∷ []), length-append done (c ∷ [])) in
    omega (arith, each_few h (done ++ c ∷ []) cs more (moved h done cs c begins), length-append done (c ∷ []))

pub few_commands : (h : Header) (cs : List CommandLine) → length h.zones + 2 ≤ MOST_LINES → IsBeginning (lines_with h cs) → length cs ≤ MOST_LINES
few_commands h cs room begins =
    omega (arith, each_few h [] cs (omega (arith, room, header_count h, lines_count h [])) (from_none h cs begins))

-- where one passes, the first that does is there
first_below : {X : Type 0} (p : X → Bool) (xs : List X) (k : ℕ) (d : X) → k < length xs → p (get_or xs k d) ≡ true → position_or_len p xs < length xs
first_below p xs k d lt here =
    elim (cases_lt (position_or_len p xs) (length xs)) [ inl less ↦ less | inr ge ↦ absurd (both_ways _ (fails_before_first p xs k d (omega arith)) here) ]

-- what holds of all that are kept holds of each that passes
kept : {X : Type 0} (p : X → Bool) (Q : X → Type 0) (xs : List X) → AllByRecursion Q (filter p xs) → AllByRecursion (λ (x : X). p x ≡ true → Q x) xs
kept p Q [] all = tt
kept {X} p Q (x ∷ xs) all = let both = either (p x) refl all in (both.0, kept p Q xs both.1)
  where
    either : (b : Bool) → p x ≡ b → AllByRecursion Q (cond b (x ∷ filter p xs) (filter p xs)) → (p x ≡ true → Q x) × AllByRecursion Q (filter p xs)
    either true e all = (λ _. all.0, all.1)
    either false e all = (λ t. absurd (both_ways _ e t), all)

label_itself : (label : List ℕ) → is_label label (Some label) ≡ true
label_itself label = (bytes_eq-Decides label label).1 refl

-- a label that some command of a worker binds is bound by one of the worker's calls
pub slot_there : (cs : List CommandLine) (worker : ℕ) (label : List ℕ) → Any (Binds worker label) cs → slot_of (calls_of cs worker) label < length (calls_of cs worker)
slot_there cs worker label a =
    let calls = calls_of cs worker in
    elim (cases_lt (slot_of calls label) (length calls)) [ inl less ↦ less | inr ge ↦ absurd (both_ways _ (unbound ge) bound) ]
  where
    own : CommandLine → Bool
    own c = c.worker == worker

    fs : List CommandLine
    fs = filter own cs

    bound : binds label a.1.call ≡ true
    bound = ap (is_label label) a.4.1 ∙ label_itself label

    unbound : length (calls_of cs worker) ≤ slot_of (calls_of cs worker) label → binds label a.1.call ≡ false
    unbound ge =
        let Q : CommandLine → Type 0 = λ c. binds label c.call ≡ false in
        let all : All Q fs =
        λ k d lt. ap (binds label) (sym (get_or-map (λ (c : CommandLine). c.call) fs k d d.call lt)) ∙ fails_before_first (binds label) (calls_of cs worker) k d.call (omega (arith, lt, ge, length-map fs (λ (c : CommandLine). c.call))) in
        let each : All (λ (c : CommandLine). own c ≡ true → Q c) cs = All-from_recursion (λ (c : CommandLine). own c ≡ true → Q c) cs (kept own Q cs (recursion_from_All Q fs all)) in
        All-contains (λ (c : CommandLine). own c ≡ true → Q c) cs a.1 each (a.0, a.2, a.3) (eq-eqb a.1.worker worker a.4.0)

-- the slot of a call is one of them
slot_fits : (names : List (List ℕ)) (cs : List CommandLine) (worker : ℕ) (call : Call) (k : ℕ) → k < length (calls_of cs worker) → get_or (calls_of cs worker) k call ≡ call →
    HasLabel cs worker call → HasSlotBelow (length (calls_of cs worker)) (scripted names (calls_of cs worker) call)
slot_fits names cs worker Info k lt is has = tt
slot_fits names cs worker (Alloc label o t zone m) k lt is has =
    first_below (binds label) (calls_of cs worker) k (Alloc label o t zone m) lt (ap (binds label) is ∙ label_itself label)
slot_fits names cs worker (Low label o zone) k lt is has =
    first_below (binds label) (calls_of cs worker) k (Low label o zone) lt (ap (binds label) is ∙ label_itself label)
slot_fits names cs worker (Free label) k lt is has = slot_there cs worker label has
slot_fits names cs worker (Post label to) k lt is has = slot_there cs worker label has
slot_fits names cs worker (Collect label zone) k lt is has =
    first_below (binds label) (calls_of cs worker) k (Collect label zone) lt (ap (binds label) is ∙ label_itself label)
slot_fits names cs worker Drain k lt is has = tt
slot_fits names cs worker (Isolate zone b) k lt is has = tt
slot_fits names cs worker (Release zone b t) k lt is has = tt

pub slots_fit : (names : List (List ℕ)) (cs : List CommandLine) (worker : ℕ) → All (λ (c : CommandLine). HasLabel cs c.worker c.call) cs →
    All (HasSlotBelow (length (calls_of cs worker))) (map (scripted names (calls_of cs worker)) (calls_of cs worker))
slots_fit names cs worker all =
    All-map (HasSlotBelow (length calls)) (scripted names calls) calls (All-map (λ (call : Call). HasSlotBelow (length calls) (scripted names calls call)) (λ (c : CommandLine). c.call) fs each)
  where
    own : CommandLine → Bool
    own c = c.worker == worker

    fs : List CommandLine
    fs = filter own cs

    calls : List Call
    calls = calls_of cs worker

    each : All (λ (c : CommandLine). HasSlotBelow (length calls) (scripted names calls c.call)) fs
    each k d lt =
        let c = get_or fs k d in
        let mine : c.worker ≡ worker = eqb-true c.worker worker (filter_passes own cs k d lt) in
        slot_fits names cs worker c.call k (omega (arith, lt, length-map fs (λ (y : CommandLine). y.call))) (get_or-map (λ (y : CommandLine). y.call) fs k d c.call lt)
        (subst (λ v. HasLabel cs v c.call) mine (All-filter own (λ (y : CommandLine). HasLabel cs y.worker y.call) cs all k d lt))
