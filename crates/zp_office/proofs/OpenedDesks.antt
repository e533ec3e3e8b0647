-- The desks of an office before its first command, and the turns that a trace gives its workers.
use Rattle.std.proofs.Common.{ℕ, zero, suc, ◌+◌, ◌≡◌, ◌≤◌, ◌<◌, ◌==◌, refl, sym, ◌∙◌, ap, ap₂, subst, arith, List, [], ◌∷◌, ◌++◌, append_assoc, None, length, map, replicate, get_or, All}
use Rattle.std.specs.List.{range_with_len}
use Rattle.std.proofs.lemmas.Simd.{map-map}
use Rattle.std.proofs.lemmas.List.{length-map, map_push}
use Rattle.std.proofs.lemmas.List.Elements.{All-map}
use Rattle.std.proofs.lemmas.List.FromFn.{get_or-map-range_with_len, length-map-range_with_len}
use Rattle.zp_model.specs.declared.constants.TheConstants.{TRACE_ZONES}
use Rattle.zp_model.specs.Zone.{workers_of}
use Rattle.zp_laws.proofs.Counting.{one_if}
use Rattle.zp_trace.specs.declared.line.CommandLine.{CommandLine as Line}
use Rattle.zp_trace.specs.declared.trace.Trace.{Trace}
use Rattle.zp_trace.specs.Grammar.{IsBeginning, lines_of}
use Rattle.zp_trace.proofs.CommandLines.{each_command}
use Rattle.zp_zone.specs.Seats.{ZoneState}
use Rattle.zp_share.specs.Crews.{AreSharesOf}
use Rattle.zp_share.specs.PlainShares.{PlainShare}
use Rattle.zp_share.specs.Shares.{ShareState, ZoneKey, IsShareOf, key_of, named_zone, plain}
use Rattle.zp_share.proofs.Owners.{sum-map}
use Rattle.zp_office.specs.Desks.{DeskState, PlainDesk, IsScriptFor, plain_desk}
use Rattle.zp_office.specs.Scripts.{calls_of, script_of}
use Rattle.zp_office.proofs.Declared.{names_there}
use Rattle.zp_office.proofs.Makings.{script_count}
use Rattle.zp_office.proofs.Scripts.{script_for}
use Rattle.zp_office.specs.Opening.{declared_zone, opening_share}
use Rattle.zp_office.specs.Offices.{AreDesksOf, HaveCommands, desk_for, desk_of, no_desk, office_of, opened_desk, opened_office, turns, workers_in}
use Rattle.zp_crew.proofs.Seating.{shares_count}
use Rattle.zp_office.proofs.DeclaredZones.{zones_count}

-- one share goes over to those before it
pub share_over : (before rest all after : List ShareState) (s : ShareState) → before ++ rest ≡ all → rest ≡ s ∷ after → (before ++ s ∷ []) ++ after ≡ all
share_over before rest all after s whole next = append_assoc before (s ∷ []) after ∙ ap (λ l. before ++ l) (sym next) ∙ whole

-- the desk of one share more
pub desks_more : (t : Trace) (ss : List ShareState) (s : ShareState) (ds new : List DeskState) (d : DeskState) → ds ≡ map (desk_for t) ss → new ≡ ds ++ d ∷ [] →
    d ≡ desk_for t s → new ≡ map (desk_for t) (ss ++ s ∷ [])
desks_more t ss s ds new d so_far pushed made = pushed ∙ ap₂ (λ xs x. xs ++ x ∷ []) so_far made ∙ sym (map_push (desk_for t) ss s)

-- worker w's desk with this share, before the first command
abbrev desk_with : Trace → PlainShare → ℕ → PlainDesk
desk_with t p w = record { share = p; script = script_of t w; slots = replicate (length (script_of t w)) None; replies = [] }

-- the desks of the shares from worker a on, where these are as the header says
desks_from : (t : Trace) (a n : ℕ) (ss : List ShareState) → map plain ss ≡ map (opening_share t.header) (range_with_len a n) →
    map (λ (s : ShareState). s.worker) ss ≡ range_with_len a n → map plain_desk (map (desk_for t) ss) ≡ map (opened_desk t) (range_with_len a n)
desks_from t a zero [] e f = refl
desks_from t a zero (s ∷ ss) e f = cc
desks_from t a (suc n) [] e f = cc
desks_from t a (suc n) (s ∷ ss) e f =
    let share : plain s ≡ opening_share t.header a = cc in
    let worker : s.worker ≡ a = cc in
    let shares : map plain ss ≡ map (opening_share t.header) (range_with_len (a + 1) n) = cc in
    let workers : map (λ (x : ShareState). x.worker) ss ≡ range_with_len (a + 1) n = cc in
    ap₂ (λ d ds. d ∷ ds) (ap₂ (desk_with t) share worker) (desks_from t (a + 1) n ss shares workers)

pub desks_opened : (t : Trace) (ss : List ShareState) → map plain ss ≡ map (opening_share t.header) (range_with_len 0 t.header.workers) →
    map (λ (s : ShareState). s.worker) ss ≡ range_with_len 0 (length ss) → map plain_desk (map (desk_for t) ss) ≡ map (opened_desk t) (range_with_len 0 t.header.workers)
desks_opened t ss e f =
    desks_from t 0 t.header.workers ss e (f ∙ ap (range_with_len 0) (shares_count t.header.workers ss (opening_share t.header) e))

-- a worker's script names what is in the row of zones that the header declares
script_fits : (t : Trace) (keys : List ZoneKey) (w : ℕ) → IsBeginning (lines_of t) → length keys ≡ length t.header.zones → length keys ≤ TRACE_ZONES →
    All (λ (k : ZoneKey). k.workers ≡ t.header.workers) keys → IsScriptFor keys (script_of t w)
script_fits t keys w begins count few crew =
    script_for keys (length t.header.zones) t.header.workers (script_of t w) count few crew
    (names_there t.header t.commands w (calls_of t.commands w) (each_command t.header t.commands begins))

-- the desks are those of the zones' workers
pub desks_fit : (t : Trace) (zs : List ZoneState) (ss : List ShareState) → IsBeginning (lines_of t) → length zs ≤ TRACE_ZONES →
    map named_zone zs ≡ map (declared_zone t.header.workers) t.header.zones → map plain ss ≡ map (opening_share t.header) (range_with_len 0 t.header.workers) →
    AreSharesOf zs ss → AreDesksOf zs (map (desk_for t) ss)
desks_fit t zs ss begins most declared opened are =
    let keys = map key_of zs in
    let long : length (map (desk_for t) ss) ≡ length ss = length-map ss (desk_for t) in
    let count : length keys ≡ length t.header.zones = length-map zs key_of ∙ zones_count t.header.workers t.header.zones zs declared in
    let few : length keys ≤ TRACE_ZONES = omega (arith, length-map zs key_of, most) in
    let many : length ss ≡ t.header.workers = shares_count t.header.workers ss (opening_share t.header) opened in
    let crew : All (λ (k : ZoneKey). k.workers ≡ t.header.workers) keys =
    All-map (λ (k : ZoneKey). k.workers ≡ t.header.workers) key_of zs (λ k d lt. are.crew k d lt ∙ many) in
    record {
      few = most;
      fit = All-map (λ (d : DeskState). IsShareOf keys d.share) (desk_for t) ss are.fit;
      scripts =
          All-map (λ (d : DeskState). IsScriptFor keys d.script) (desk_for t) ss
          (λ k d lt. script_fits t keys (get_or ss k d).worker begins count few crew);
      workers = map-map (λ (d : DeskState). d.share.worker) (desk_for t) ss ∙ are.workers ∙ ap (range_with_len 0) (sym long);
      crew = subst (λ n. All (λ (z : ZoneState). workers_of z.plain ≡ n) zs) (sym long) are.crew;
    }

-- and none of their commands was carried out
pub desks_unworked : (t : Trace) (ss : List ShareState) → All (λ (d : DeskState). d.replies ≡ []) (map (desk_for t) ss)
desks_unworked t ss = All-map (λ (d : DeskState). d.replies ≡ []) (desk_for t) ss (λ k d lt. refl)

-- each worker has a turn for each command of its script
turns_count : (t : Trace) (w : ℕ) → turns w (workers_in t.commands) ≡ length (script_of t w)
turns_count t w = sum-map (λ v. one_if (v == w)) (λ (c : Line). c.worker) t.commands ∙ sym (script_count t w)

pub turns_there : (t : Trace) → IsBeginning (lines_of t) → HaveCommands (opened_office t) (workers_in t.commands)
turns_there t begins =
    let long : length (opened_office t).desks ≡ t.header.workers = length-map-range_with_len (opened_desk t) 0 t.header.workers in
    record {
      workers =
          subst (λ n. All (λ w. w < n) (workers_in t.commands)) (sym long)
          (All-map (λ w. w < t.header.workers) (λ (c : Line). c.worker) t.commands (λ k d lt. (each_command t.header t.commands begins k d lt).0));
      left = λ w lt. left w (subst (λ n. w < n) long lt);
    }
  where
    left : (w : ℕ) → w < t.header.workers → length (desk_of (opened_office t) w).replies + turns w (workers_in t.commands) ≤ length (desk_of (opened_office t) w).script
    left w lt =
        subst (λ (d : PlainDesk). length d.replies + turns w (workers_in t.commands) ≤ length d.script)
        (sym (get_or-map-range_with_len (opened_desk t) 0 t.header.workers w w no_desk lt (omega arith)))
        (omega (arith, turns_count t w))

-- the office of these zones and desks is the one that the trace opens
pub office_is : (t : Trace) (zs : List ZoneState) (ds : List DeskState) → map named_zone zs ≡ (opened_office t).zones → map plain_desk ds ≡ (opened_office t).desks →
    office_of zs ds ≡ opened_office t
office_is t zs ds zones desks = λ i. record { zones = zones i; desks = desks i }
