-- A script, carried out command by command, over each row of as many zones, with as many workers, as the trace's header declares.
use Rattle.std.proofs.Common.{ℕ, ◌+◌, ◌≡◌, ◌<◌, ◌≤◌, ◌∙◌, refl, sym, ap, subst, List, [], ◌∷◌, ◌++◌, length, take, get_or, Option, Some, All, arith}
use Rattle.std.specs.List.{AllZip}
use Rattle.std.proofs.lemmas.List.{take_more}
use Rattle.zp_model.specs.declared.constants.TheConstants.{TRACE_ZONES}
use Rattle.zp_zone.specs.NamedZone.{NamedZone}
use Rattle.zp_shared.proofs.Places.{zip_more}
use Rattle.zp_office.specs.declared.command.Command.{Command}
use Rattle.zp_office.specs.declared.reply.CommandReply.{CommandReply}
use Rattle.zp_office.specs.declared.command.Command.TheVariants.{Info, Alloc, Low, Free, Post, Collect, Drain, Isolate, Release}
use Rattle.zp_office.specs.Desks.{DeskState, PlainDesk, DeskWorld, IsDeskLeft, after_command, after_commands, desk_world, next_of, IsCommandFor, IsScriptFor}
use Rattle.zp_share.specs.Shares.{ZoneKey, no_key}
use Rattle.zp_office.specs.Scripts.{NamesBelow}

after-push : (w : DeskWorld) (cs : List Command) (c : Command) → after_commands w (cs ++ c ∷ []) ≡ after_command (after_commands w cs) c
after-push w [] c = refl
after-push w (b ∷ cs) c = after-push (after_command w b) cs c

-- one command more
pub after_more : (w : DeskWorld) (cs : List Command) (i : ℕ) (c d : Command) → i < length cs → c ≡ get_or cs i d → after_commands w (take (i + 1) cs) ≡ after_command (after_commands w (take i cs)) c
after_more w cs i c d lt is = ap (after_commands w) (take_more cs i d lt ∙ ap (λ b. take i cs ++ b ∷ []) (sym is)) ∙ after-push w (take i cs) c

-- the command that comes next stands at its place in the script
pub next_at : (d : DeskState) (cs : List Command) (i : ℕ) → d.script ≡ cs → length d.replies ≡ i → next_of d ≡ get_or cs i Info
next_at d cs i script count = ap (λ bs. get_or bs (length d.replies) Info) script ∙ ap (λ n. get_or cs n Info) count

-- what goes on from these zones and this desk goes on from what they have become
pub goes_on : (f : DeskWorld → DeskWorld) (w : DeskWorld) (told last : Option (List NamedZone)) (d e : DeskState) → IsDeskLeft w told d →
    ((rows : List NamedZone) → told ≡ Some rows → IsDeskLeft (f (desk_world rows d)) last e) → IsDeskLeft (f w) last e
goes_on f w told last d e x g =
    let same : desk_world w.zones d ≡ w = ap (λ (p : PlainDesk). let v : DeskWorld = record { zones = w.zones; desk = p } in v) x.desk in
    subst (λ v. IsDeskLeft (f v) last e) same (g w.zones x.zones)

-- each reply answers its command, and so does one more
pub answers_more : (R : Command → CommandReply → Type 0) (cs : List Command) (i : ℕ) (rs qs : List CommandReply) (c d : Command) (r : CommandReply) → i < length cs → c ≡ get_or cs i d → qs ≡ rs ++ r ∷ [] →
    AllZip R (take i cs) rs → R c r → AllZip R (take (i + 1) cs) qs
answers_more R cs i rs qs c d r lt is e all one =
    subst (λ bs. AllZip R bs qs) (ap (λ b. take i cs ++ b ∷ []) is ∙ sym (take_more cs i d lt))
    (subst (λ ps. AllZip R (take i cs ++ c ∷ []) ps) (sym e) (zip_more R (take i cs) rs c r all one))

command_for : (keys : List ZoneKey) (workers : ℕ) (c : Command) → length keys ≤ TRACE_ZONES → All (λ (k : ZoneKey). k.workers ≡ workers) keys → NamesBelow (length keys) workers c → IsCommandFor keys c
command_for keys workers (Alloc s k t i m) few crew below = below
command_for keys workers (Low s k i) few crew below = below
command_for keys workers (Free s) few crew below = tt
command_for keys workers (Post s to) few crew below = λ i lt. omega (arith, below, crew i no_key lt)
command_for keys workers (Collect s i) few crew below = below
command_for keys workers Drain few crew below = tt
command_for keys workers (Isolate i b) few crew below = below
command_for keys workers (Release i b t) few crew below = below
command_for keys workers Info few crew below = few

pub script_for : (keys : List ZoneKey) (zones workers : ℕ) (script : List Command) → length keys ≡ zones → length keys ≤ TRACE_ZONES → All (λ (k : ZoneKey). k.workers ≡ workers) keys →
    All (NamesBelow zones workers) script → IsScriptFor keys script
script_for keys zones workers script count few crew below k d lt =
    command_for keys workers (get_or script k d) few crew (subst (λ n. NamesBelow n workers (get_or script k d)) (sym count) (below k d lt))
