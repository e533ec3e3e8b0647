-- A replay before its first request, and after one request more.
use Rattle.std.proofs.Common.{ℕ, ◌+◌, ◌≡◌, ◌≤◌, ◌<◌, sym, ◌∙◌, ap, subst, arith, List, ◌∷◌, length, map, drop, take, get_or}
use Rattle.std.proofs.lemmas.Simd.{map-map}
use Rattle.std.proofs.lemmas.List.{get_or-map as get_or-there, length-map}
use Rattle.zp_model.specs.declared.constants.TheConstants.{BASE_LIMIT}
use Rattle.zp_trace.proofs.HeaderLines.{header_is}
use Rattle.zp_share.specs.Commands.{no_zone, zone_at}
use Rattle.zp_trace.specs.declared.line.CommandLine.{CommandLine}
use Rattle.zp_trace.specs.declared.line.ZoneLine.{ZoneLine}
use Rattle.zp_trace.specs.declared.trace.Trace.{Trace}
use Rattle.zp_trace.specs.Grammar.{IsBeginning, lines_of}
use Rattle.zp_zone.specs.NamedZone.{NamedZone}
use Rattle.zp_office.specs.Bases.{bases_of}
use Rattle.zp_office.specs.Offices.{OfficeState, HaveCommands, desk_of, next_done, opened_office, workers_in}
use Rattle.zp_office.specs.Opening.{declared_zone}
use Rattle.zp_office.proofs.Commands.{have_here, have_more, have_next, order_more, turn-last}
use Rattle.zp_states.specs.Replays.{IsReplay, ReplayState, office_at}

-- the zones that a trace declares begin where it says
bases_opened : (t : Trace) → bases_of (opened_office t) ≡ map (λ (z : ZoneLine). z.base) t.header.zones
bases_opened t = map-map (λ (z : NamedZone). z.plain.base) (declared_zone t.header.workers) t.header.zones

pub replay_opened : (t : Trace) (o : OfficeState) → o ≡ opened_office t → IsBeginning (lines_of t) → HaveCommands o (workers_in t.commands) → IsReplay t 0 o
replay_opened t o e begins have =
    record { within = omega arith; office = e; left = have; begins = begins; bases = ap bases_of e ∙ bases_opened t }

-- what the next request has
pub turn_here : (t : Trace) (n : ℕ) (o : OfficeState) (c : CommandLine) → IsReplay t n o → n < length t.commands → c ≡ get_or t.commands n c →
    (c.worker < length o.desks) × HaveCommands o (c.worker ∷ drop (n + 1) (workers_in t.commands))
turn_here t n o c x lt is =
    let have = have_here o t.commands n c lt is x.left in
    (have.workers 0 c.worker (omega arith), have)

pub replay_stepped : (t : Trace) (n : ℕ) (o p : OfficeState) (c : CommandLine) → IsReplay t n o → n < length t.commands → c ≡ get_or t.commands n c →
    p ≡ next_done c.worker o → bases_of p ≡ bases_of o → IsReplay t (n + 1) p
replay_stepped t n o p c x lt is e bases =
    record {
      within = omega arith;
      office = order_more (opened_office t) o p (take (n + 1) (workers_in t.commands)) (take n (workers_in t.commands)) c.worker x.office e (turn-last t.commands n c lt is);
      left = subst (λ q. HaveCommands q (drop (n + 1) (workers_in t.commands))) (sym e) (have_more o c.worker (drop (n + 1) (workers_in t.commands)) (turn_here t n o c x lt is).1);
      begins = x.begins;
      bases = bases ∙ x.bases;
    }

-- the same of the command at a place of the commands, as it is read
pub worker_there : (t : Trace) (n : ℕ) (o : OfficeState) (c : CommandLine) (xs : List CommandLine) → IsReplay t n o → xs ≡ t.commands → n < length xs → c ≡ get_or xs n c →
    (get_or xs n c).worker < length o.desks
worker_there t n o c xs x e lt is =
    let under : n < length t.commands = subst (λ (l : List CommandLine). n < length l) e lt in
    let here : c ≡ get_or t.commands n c = is ∙ ap (λ (l : List CommandLine). get_or l n c) e in
    subst (λ (d : CommandLine). d.worker < length o.desks) is (turn_here t n o c x under here).0

pub next_there : (t : Trace) (n : ℕ) (o : OfficeState) (c : CommandLine) (xs : List CommandLine) → IsReplay t n o → xs ≡ t.commands → n < length xs → c ≡ get_or xs n c →
    length (desk_of o (get_or xs n c).worker).replies < length (desk_of o (get_or xs n c).worker).script
next_there t n o c xs x e lt is =
    let under : n < length t.commands = subst (λ (l : List CommandLine). n < length l) e lt in
    let here : c ≡ get_or t.commands n c = is ∙ ap (λ (l : List CommandLine). get_or l n c) e in
    subst (λ (d : CommandLine). length (desk_of o d.worker).replies < length (desk_of o d.worker).script) is
    (have_next o c.worker (drop (n + 1) (workers_in t.commands)) (turn_here t n o c x under here).1)

pub stepped_there : (t : Trace) (n : ℕ) (o p : OfficeState) (c : CommandLine) (xs : List CommandLine) → IsReplay t n o → xs ≡ t.commands → n < length xs → c ≡ get_or xs n c →
    p ≡ next_done (get_or xs n c).worker o → bases_of p ≡ bases_of o → IsReplay t (n + 1) p
stepped_there t n o p c xs x e lt is done bases =
    let under : n < length t.commands = subst (λ (l : List CommandLine). n < length l) e lt in
    let here : c ≡ get_or t.commands n c = is ∙ ap (λ (l : List CommandLine). get_or l n c) e in
    replay_stepped t n o p c x under here (done ∙ ap (λ (d : CommandLine). next_done d.worker o) (sym is)) bases

-- a zone begins where its line says
first_in : (t : Trace) (n : ℕ) (o : OfficeState) (i : ℕ) (z : ZoneLine) → IsReplay t n o → i < length o.zones → z ≡ get_or t.header.zones i z →
    z.base ≡ (zone_at o.zones i).plain.base
first_in t n o i z x lt is =
    let many : length o.zones ≡ length t.header.zones =
    sym (length-map o.zones (λ (y : NamedZone). y.plain.base)) ∙ ap length x.bases ∙ length-map t.header.zones (λ (y : ZoneLine). y.base) in
    let under : i < length t.header.zones = omega (arith, many) in
    ap (λ (y : ZoneLine). y.base) is
    ∙ sym (get_or-there (λ (y : ZoneLine). y.base) t.header.zones i z 0 under)
    ∙ ap (λ (l : List ℕ). get_or l i 0) (sym x.bases)
    ∙ get_or-there (λ (y : NamedZone). y.plain.base) o.zones i no_zone 0 lt

pub first_there : (t : Trace) (n : ℕ) (o : OfficeState) (r : ReplayState) (i : ℕ) (z : ZoneLine) → IsReplay t n o →
    (let s : ReplayState = record { trace = t; done = n } in s ≡ r) → i < length (office_at r).zones → z ≡ get_or t.header.zones i z →
    z.base ≡ (zone_at (office_at r).zones i).plain.base
first_there t n o r i z x view lt is =
    let same : o ≡ office_at r = x.office ∙ ap office_at view in
    let under : i < length o.zones = subst (λ (q : OfficeState). i < length q.zones) (sym same) lt in
    first_in t n o i z x under is ∙ ap (λ (q : OfficeState). (zone_at q.zones i).plain.base) same

pub low_there : (t : Trace) (n : ℕ) (o : OfficeState) (r : ReplayState) (i : ℕ) (z : ZoneLine) → IsReplay t n o →
    (let s : ReplayState = record { trace = t; done = n } in s ≡ r) → i < length (office_at r).zones → z ≡ get_or t.header.zones i z → z.base ≤ BASE_LIMIT
low_there t n o r i z x view lt is =
    let same : o ≡ office_at r = x.office ∙ ap office_at view in
    let under : i < length o.zones = subst (λ (q : OfficeState). i < length q.zones) (sym same) lt in
    let many : length o.zones ≡ length t.header.zones =
    sym (length-map o.zones (λ (y : NamedZone). y.plain.base)) ∙ ap length x.bases ∙ length-map t.header.zones (λ (y : ZoneLine). y.base) in
    let line = (header_is t.header t.commands x.begins).zones i z (omega (arith, many)) in
    let low = line.1.1 in
    omega (arith, low, ap (λ (y : ZoneLine). y.base) is)
