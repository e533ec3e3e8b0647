-- Whose turn it is among the commands of a trace, and how many turns each worker had.
use Rattle.std.proofs.Common.{ℕ, zero, suc, ◌+◌, ◌≡◌, ◌≤◌, ◌<◌, ◌==◌, inl, inr, refl, sym, ◌∙◌, ap, subst, arith, List, [], ◌∷◌, ◌++◌, length, take, get_or, set, replicate}
use Rattle.std.specs.Prelude.{None, slice_get}
use Rattle.std.specs.List.{flat_map, range_with_len}
use Rattle.std.proofs.Math.ListN.{get_or-map}
use Rattle.std.proofs.lemmas.Option.{slice_get_read}
use Rattle.std.proofs.lemmas.List.FromFn.{length-range_with_len}
use Rattle.std.proofs.lemmas.Bool.{cases_eq, eq-eqb, ne_eqb}
use Rattle.std.proofs.lemmas.List.{get_or-set_same, get_or-set_other, length-set, length-map, take_all}
use Rattle.std.proofs.lemmas.List.Sums.{sum_by-cons}
use Rattle.zp_laws.proofs.Counting.{one_if}
use Rattle.zp_trace.specs.declared.line.CommandLine.{CommandLine}
use Rattle.zp_office.specs.Offices.{OfficeState, desk_of, turns, workers_in}
use Rattle.zp_office.specs.declared.reply.CommandReply.{CommandReply}
use Rattle.zp_zone.specs.NamedZone.{NamedZone}
use Rattle.zp_office.proofs.Commands.{turn-last}
use Rattle.zp_replay.specs.Output.{replies_text, reply_at, text_of, turn_text}
use Rattle.zp_replay.specs.Replies.{reply_text}
use Rattle.zp_replay.proofs.Infos.{get_or-any}

-- the numbers are how often each worker had its turn
abbrev pub AreCounted : List ℕ → List ℕ → Type 0
AreCounted ns ws = (w : ℕ) → w < length ns → get_or ns w 0 ≡ turns w ws

turns-push : (w x : ℕ) (ws : List ℕ) → turns w (ws ++ x ∷ []) ≡ turns w ws + one_if (x == w)
turns-push w x [] = let a = sum_by-cons (λ v. one_if (v == w)) x [] in omega (arith, a)
turns-push w x (v ∷ ws) =
    let a = sum_by-cons (λ u. one_if (u == w)) v (ws ++ x ∷ []) in
    let b = sum_by-cons (λ u. one_if (u == w)) v ws in
    omega (arith, a, b, turns-push w x ws)

-- no worker has more turns than there are
pub turns-most : (w : ℕ) (ws : List ℕ) → turns w ws ≤ length ws
turns-most w [] = omega arith
turns-most w (v ∷ ws) =
    let a = sum_by-cons (λ u. one_if (u == w)) v ws in
    elim (cases_eq v w) [
      | inl same ↦ let e : one_if (v == w) ≡ 1 = ap one_if (eq-eqb v w same) in omega (arith, a, turns-most w ws)
      | inr ne ↦ let e : one_if (v == w) ≡ 0 = ap one_if (ne_eqb v w ne) in omega (arith, a, turns-most w ws)
    ]

-- one turn more is counted
counted-push : (ns ws : List ℕ) (x n : ℕ) → AreCounted ns ws → x < length ns → n ≡ get_or ns x 0 + 1 → AreCounted (set ns x n) (ws ++ x ∷ [])
counted-push ns ws x n are there is w lt =
    elim (cases_eq w x) [
      | inl same ↦
          let here : get_or (set ns x n) x 0 ≡ turns x ws + 1 = get_or-set_same ns x n 0 there ∙ is ∙ ap (λ m. m + 1) (are x there) in
          let e : one_if (x == x) ≡ 1 = ap one_if (eq-eqb x x refl) in
          subst (λ v. get_or (set ns x n) v 0 ≡ turns v (ws ++ x ∷ [])) (sym same) (omega (arith, here, turns-push x x ws))
      | inr ne ↦
          let other : get_or (set ns x n) w 0 ≡ turns w ws = get_or-set_other ns x w n 0 ne ∙ are w (omega (arith, lt, length-set ns x n)) in
          let e : one_if (x == w) ≡ 0 = ap one_if (ne_eqb x w (λ s. ne (sym s))) in
          omega (arith, other, turns-push w x ws)
    ]

pub counted_more : (ns : List ℕ) (cs : List CommandLine) (i j : ℕ) (c : CommandLine) → i < length cs → c ≡ get_or cs i c → AreCounted ns (take i (workers_in cs)) → j ≡ c.worker → j < length ns →
    AreCounted (set ns j (get_or ns j 0 + 1)) (take (i + 1) (workers_in cs))
counted_more ns cs i j c lt is are same there =
    subst (λ ws. AreCounted (set ns j (get_or ns j 0 + 1)) ws) (ap (λ w. take i (workers_in cs) ++ w ∷ []) same ∙ sym (turn-last cs i c lt is))
    (counted-push ns (take i (workers_in cs)) j (get_or ns j 0 + 1) are there refl)

-- the text of the turn is that of its worker's reply at the place that was counted
pub turn_is : (o : OfficeState) (cs : List CommandLine) (i j : ℕ) (ns : List ℕ) (c : CommandLine) → i < length cs → c ≡ get_or cs i c → AreCounted ns (take i (workers_in cs)) → j ≡ c.worker → j < length ns →
    reply_at o c.worker (get_or ns j 0) ≡ turn_text o (workers_in cs) i
turn_is o cs i j ns c lt is are same there =
    let whose : get_or (workers_in cs) i 0 ≡ c.worker =
    get_or-any (workers_in cs) i 0 c.worker (omega (arith, lt, length-map cs (λ (b : CommandLine). b.worker)))
    ∙ get_or-map (λ (b : CommandLine). b.worker) cs i c
    ∙ ap (λ (b : CommandLine). b.worker) (sym is) in
    ap (reply_at o c.worker) (are j there ∙ ap (λ w. turns w (take i (workers_in cs))) same)
    ∙ ap (λ w. reply_at o w (turns w (take i (workers_in cs)))) (sym whose)

-- before the first turn nothing is counted
pub none_counted : (n : ℕ) → AreCounted (replicate n 0) []
none_counted n w lt = zeros n w
  where
    zeros : (n w : ℕ) → let z : ℕ = 0 in get_or (replicate n z) w z ≡ z
    zeros zero w = refl
    zeros (suc n) zero = refl
    zeros (suc n) (suc w) = zeros n w

-- the place of a turn
pub turn-lt : (cs : List CommandLine) (i : ℕ) → i < length cs → i < length (workers_in cs)
turn-lt cs i lt = omega (arith, lt, length-map cs (λ (b : CommandLine). b.worker))

pub turn_place : (cs : List CommandLine) (i : ℕ) → i < length cs → i < length (range_with_len 0 (length (workers_in cs)))
turn_place cs i lt = omega (arith, lt, length-range_with_len 0 (length (workers_in cs)), length-map cs (λ (b : CommandLine). b.worker))

-- after the last turn
pub turns_end : (o : OfficeState) (cs : List CommandLine) (i : ℕ) → length cs ≤ i →
    flat_map (turn_text o (workers_in cs)) (take i (range_with_len 0 (length (workers_in cs)))) ≡ replies_text o (workers_in cs)
turns_end o cs i le =
    ap (λ ns. flat_map (turn_text o (workers_in cs)) ns)
    (take_all i (range_with_len 0 (length (workers_in cs))) (omega (arith, le, length-range_with_len 0 (length (workers_in cs)), length-map cs (λ (b : CommandLine). b.worker))))

-- the text of a reply that is there, and of none
pub told_is : (o : OfficeState) (w place : ℕ) (qs : List CommandReply) (q : CommandReply) (zones : List NamedZone) → qs ≡ (desk_of o w).replies → place < length qs → q ≡ get_or qs place q → zones ≡ o.zones →
    reply_text zones w q ≡ reply_at o w place
told_is o w place qs q zones e lt is same =
    ap (λ zs. reply_text zs w q) same
    ∙ ap (text_of o.zones w) (sym (slice_get_read qs (length qs) place q refl lt is))
    ∙ ap (λ rs. text_of o.zones w (slice_get rs place)) e

pub none_is : (o : OfficeState) (w place : ℕ) (qs : List CommandReply) → qs ≡ (desk_of o w).replies → length qs ≤ place → [] ≡ reply_at o w place
none_is o w place qs e le =
    ap (text_of o.zones w) (sym (none qs place le)) ∙ ap (λ rs. text_of o.zones w (slice_get rs place)) e
  where
    none : (rs : List CommandReply) (i : ℕ) → length rs ≤ i → slice_get rs i ≡ None
    none [] i le = refl
    none (r ∷ rs) zero le = absurd (omega (arith, le))
    none (r ∷ rs) (suc i) le = none rs i (omega (arith, le))
