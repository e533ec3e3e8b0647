-- The commands that the workers of an office have left, turn by turn.
use Rattle.std.proofs.Common.{ℕ, zero, suc, ◌+◌, ◌≡◌, ◌≤◌, ◌<◌, ◌==◌, inl, inr, refl, sym, ◌∙◌, ap, subst, arith, List, [], ◌∷◌, ◌++◌, length, drop, take, get_or, set}
use Rattle.std.proofs.lemmas.Bool.{cases_eq, eq-eqb}
use Rattle.std.proofs.Math.ListN.{get_or-map}
use Rattle.std.proofs.Math.Seq.{drop-cons}
use Rattle.std.proofs.lemmas.List.{get_or-set_same, get_or-set_other, length-set, length-append, length-map, take_more}
use Rattle.std.proofs.lemmas.List.Sums.{sum_by-cons}
use Rattle.zp_laws.proofs.Counting.{one_if}
use Rattle.zp_office.specs.Desks.{PlainDesk, after_command}
use Rattle.zp_trace.specs.declared.line.CommandLine.{CommandLine}
use Rattle.zp_office.specs.Offices.{OfficeState, HaveCommands, desk_of, desk_world_of, in_order, next_at, next_done, no_desk, turns, workers_in}

-- the first worker's turn counts for it
turns-here : (w : ℕ) (ws : List ℕ) → turns w (w ∷ ws) ≡ turns w ws + 1
turns-here w ws =
    let x = sum_by-cons (λ v. one_if (v == w)) w ws in
    let e : one_if (w == w) ≡ 1 = ap one_if (eq-eqb w w refl) in
    omega (arith, x)

turns-less : (w x : ℕ) (ws : List ℕ) → turns w ws ≤ turns w (x ∷ ws)
turns-less w x ws = let e = sum_by-cons (λ v. one_if (v == w)) x ws in omega (arith, e)

-- the worker whose turn it is has a command left
pub have_next : (o : OfficeState) (x : ℕ) (ws : List ℕ) → HaveCommands o (x ∷ ws) → length (desk_of o x).replies < length (desk_of o x).script
have_next o x ws h =
    let there : x < length o.desks = h.workers zero x (omega arith) in
    omega (arith, h.left x there, turns-here x ws)

-- what the desk has left after its turn
abbrev turn_of : OfficeState → ℕ → PlainDesk
turn_of o x = (after_command (desk_world_of o x) (next_at (desk_of o x))).desk

one-more : {X : Type 0} (xs : List X) (x : X) → length (xs ++ x ∷ []) ≡ length xs + 1
one-more xs x = length-append xs (x ∷ [])

left_here : (o : OfficeState) (x : ℕ) (ws : List ℕ) → HaveCommands o (x ∷ ws) → length (turn_of o x).replies + turns x ws ≤ length (turn_of o x).script
left_here o x ws h =
    let there : x < length o.desks = h.workers zero x (omega arith) in
    let more : length (turn_of o x).replies ≡ length (desk_of o x).replies + 1 = one-more (desk_of o x).replies _ in
    omega (arith, h.left x there, turns-here x ws, more)

-- and so have the others at the turns after it
pub have_more : (o : OfficeState) (x : ℕ) (ws : List ℕ) → HaveCommands o (x ∷ ws) → HaveCommands (next_done x o) ws
have_more o x ws h =
    let there : x < length o.desks = h.workers zero x (omega arith) in
    let long : length (set o.desks x (turn_of o x)) ≡ length o.desks = length-set o.desks x (turn_of o x) in
    record {
      workers = λ k e lt. subst (λ n. get_or ws k e < n) (sym long) (h.workers (suc k) e (omega (arith, lt)));
      left = λ w lt. left w there (subst (λ n. w < n) long lt);
    }
  where
    left : (w : ℕ) → x < length o.desks → w < length o.desks → length (desk_of (next_done x o) w).replies + turns w ws ≤ length (desk_of (next_done x o) w).script
    left w there lt =
        elim (cases_eq w x) [
          | inl same ↦
              subst (λ v. length (desk_of (next_done x o) v).replies + turns v ws ≤ length (desk_of (next_done x o) v).script) (sym same)
              (subst (λ (d : PlainDesk). length d.replies + turns x ws ≤ length d.script) (sym (get_or-set_same o.desks x (turn_of o x) no_desk there)) (left_here o x ws h))
          | inr ne ↦
              subst (λ (d : PlainDesk). length d.replies + turns w ws ≤ length d.script) (sym (get_or-set_other o.desks x w (turn_of o x) no_desk ne))
              (omega (arith, h.left w lt, turns-less w x ws))
        ]

-- one turn more
order-push : (o : OfficeState) (ws : List ℕ) (x : ℕ) → in_order o (ws ++ x ∷ []) ≡ next_done x (in_order o ws)
order-push o [] x = refl
order-push o (w ∷ ws) x = order-push (next_done w o) ws x

pub order_more : (o now next : OfficeState) (ws before : List ℕ) (x : ℕ) → now ≡ in_order o before → next ≡ next_done x now → ws ≡ before ++ x ∷ [] → next ≡ in_order o ws
order_more o now next ws before x e f g = f ∙ ap (next_done x) e ∙ sym (order-push o before x) ∙ ap (in_order o) (sym g)

-- the worker of the next command has the next turn
worker-at : (cs : List CommandLine) (i : ℕ) (c : CommandLine) → c ≡ get_or cs i c → get_or (workers_in cs) i c.worker ≡ c.worker
worker-at cs i c is = get_or-map (λ (b : CommandLine). b.worker) cs i c ∙ ap (λ (b : CommandLine). b.worker) (sym is)

turn-next : (cs : List CommandLine) (i : ℕ) (c : CommandLine) → i < length cs → c ≡ get_or cs i c → drop i (workers_in cs) ≡ c.worker ∷ drop (i + 1) (workers_in cs)
turn-next cs i c lt is =
    let same : suc i ≡ i + 1 = omega arith in
    drop-cons (workers_in cs) i c.worker (omega (arith, lt, length-map cs (λ (b : CommandLine). b.worker)))
    ∙ ap (λ w. w ∷ drop (suc i) (workers_in cs)) (worker-at cs i c is)
    ∙ ap (λ n. c.worker ∷ drop n (workers_in cs)) same

pub turn-last : (cs : List CommandLine) (i : ℕ) (c : CommandLine) → i < length cs → c ≡ get_or cs i c → take (i + 1) (workers_in cs) ≡ take i (workers_in cs) ++ c.worker ∷ []
turn-last cs i c lt is =
    take_more (workers_in cs) i c.worker (omega (arith, lt, length-map cs (λ (b : CommandLine). b.worker)))
    ∙ ap (λ w. take i (workers_in cs) ++ w ∷ []) (worker-at cs i c is)

pub have_here : (o : OfficeState) (cs : List CommandLine) (i : ℕ) (c : CommandLine) → i < length cs → c ≡ get_or cs i c → HaveCommands o (drop i (workers_in cs)) →
    HaveCommands o (c.worker ∷ drop (i + 1) (workers_in cs))
have_here o cs i c lt is h = subst (HaveCommands o) (turn-next cs i c lt is) h
