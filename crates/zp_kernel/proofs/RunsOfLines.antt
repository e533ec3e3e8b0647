-- A sink that carries out the events of lines makes the run of these events.
use Rattle.std.proofs.Common.{ℕ, ◌≡◌, inl, inr, List, [], ◌∷◌, Option, None, Some, Result, Ok, Err, IfErr, IfOk, refl, sym, ap, subst, ◌∙◌}
use Rattle.zp_events.specs.declared.event.PageEvent.{PageEvent}
use Rattle.zp_events.specs.declared.text.AtBroken.{AtBroken}
use Rattle.zp_events.specs.declared.text.TextFault.{TextFault}
use Rattle.zp_events.specs.declared.text.TextFault.TheVariants as fault
use Rattle.zp_events.specs.declared.text.AtBroken.TheVariants as at_broken
use Rattle.zp_events.specs.Lines.{BeginsAsEvent, IsBroken, IsEvent}
use Rattle.zp_events.specs.Reading.{Spot}
use Rattle.zp_events.specs.Texts.{AreAllTaken, AreTaken, AreTakenTo, IsStoppedBy}
use Rattle.zp_kernel.specs.Events.{PlainKernel}
use Rattle.zp_kernel.specs.Lines.{AreCounted}
use Rattle.zp_kernel.specs.Runs.{AreEventsOf, AreHeard, IsCarriedOut, IsRun, IsRunOf, IsRunOver, IsRunTo, IsRunUntil, RunState, after_events}
use Rattle.zp_kernel.specs.LineSteps.{AreOpen, Carries, Drops, Passes, after_one}

module _ {S O : Type 0} (state : S → RunState O) (hears : O → List ℕ → O → Type 0) (opens : O → PlainKernel → Type 0) (mode : AtBroken) where
  abbrev pub Carried : S → PageEvent → S → Type 0
  Carried s e t = Carries hears opens (state s) e (state t)

  abbrev pub Passed : S → List ℕ → S → Type 0
  Passed s line t = Passes hears opens (state s) line (state t)

  abbrev pub Dropped : S → S → Type 0
  Dropped s t = Drops (state s) (state t)

  abbrev pub Taken : S → List (List ℕ) → S → Type 0
  Taken s lines t = AreTaken Carried Passed Dropped mode s lines t

  -- the lines are counted
  counted : (lines : List (List ℕ)) (s t : S) → Taken s lines t → AreCounted (state s).lines lines (state t).lines
  unfolding AreTaken AreCounted
  counted [] s t e = ap (λ x. (state x).lines) e
  counted (line ∷ lines) s t (u, inl (event, is, h), rest) = ((state u).lines, inl (event, is, h.lines), counted lines u t rest)
  counted (line ∷ lines) s t (u, inr (inl (none, h)), rest) = ((state u).lines, inr (inl (none, h.remark, h.remark_is, h.lines)), counted lines u t rest)
  counted (line ∷ lines) s t (u, inr (inr (keep, broken, h)), rest) = ((state u).lines, inr (inr (broken, h.lines)), counted lines u t rest)

  -- zones that were open are those that the event finds
  found : (o : O) (was : Option PlainKernel) (k l : PlainKernel) → was ≡ Some k → AreOpen opens o was l → l ≡ k
  found o was k l is h = subst (λ w. AreOpen opens o w l) is h

  -- zones that are open are after the events of the lines
  pub record IsOpenRun (lines : List (List ℕ)) (k : PlainKernel) (o : Option PlainKernel) : Type 0 where
    pub after : PlainKernel
    pub is : o ≡ Some after
    pub run : IsRunOf mode lines k after

  event_more : (line : List ℕ) (lines : List (List ℕ)) (e : PageEvent) (k : PlainKernel) (o : Option PlainKernel) → IsEvent line e → IsOpenRun lines (after_one e k) o →
      IsOpenRun (line ∷ lines) k o
  unfolding AreEventsOf after_events
  event_more line lines e k o is h =
      record {
        after = h.after;
        is = h.is;
        run = record { events = e ∷ h.run.events; are = inl (e, h.run.events, is, refl, h.run.are); run = h.run.run };
      }

  open_run : (lines : List (List ℕ)) (s t : S) (k : PlainKernel) → (state s).kernel ≡ Some k → Taken s lines t → IsOpenRun lines k (state t).kernel
  unfolding AreTaken AreEventsOf after_events
  open_run [] s t k is e = record { after = k; is = ap (λ x. (state x).kernel) (sym e) ∙ is; run = record { events = []; are = refl; run = refl } }
  open_run (line ∷ lines) s t k is (u, inl (event, is_event, h), rest) =
      let same : h.opened ≡ k = found (state s).onlooker (state s).kernel k h.opened is h.opened_is in
      event_more line lines event k (state t).kernel is_event (open_run lines u t (after_one event k) (h.kernel ∙ ap (λ x. Some (after_one event x)) same) rest)
  open_run (line ∷ lines) s t k is (u, inr (inl (none, h)), rest) =
      let r = open_run lines u t k (h.kernel ∙ is) rest in
      record { after = r.after; is = r.is; run = record { events = r.run.events; are = inr (inl (none, r.run.are)); run = r.run.run } }
  open_run (line ∷ lines) s t k is (u, inr (inr (keep, broken, h)), rest) =
      let r = open_run lines u t k (h.kernel ∙ is) rest in
      record { after = r.after; is = r.is; run = record { events = r.run.events; are = inr (inr (keep, broken, r.run.are)); run = r.run.run } }

  -- the run of lines over zones that are open, or are not
  abbrev CarriedOut : S → List (List ℕ) → S → Type 0
  CarriedOut s lines t = IsCarriedOut mode hears opens (state s).onlooker lines (state s).kernel (state t).kernel

  over_open : (o : O) (lines : List (List ℕ)) (k : PlainKernel) (was left : Option PlainKernel) → was ≡ Some k → IsOpenRun lines k left → IsCarriedOut mode hears opens o lines was left
  over_open o lines k was left is h = subst (λ w. IsCarriedOut mode hears opens o lines w left) (sym is) (subst (λ l. IsCarriedOut mode hears opens o lines (Some k) l) (sym h.is) h.run)

  -- a line more before the first event
  heard_more : (o p : O) (line : List ℕ) (lines : List (List ℕ)) (left : Option PlainKernel) → (BeginsAsEvent line → ⊥) → hears o line p → IsCarriedOut mode hears opens p lines None left →
      IsCarriedOut mode hears opens o (line ∷ lines) None left
  unfolding AreHeard
  heard_more o p line lines None none h (q, more) = (q, inl (p, none, h, more))
  heard_more o p line lines (Some k) none h r =
      record {
        head = line ∷ r.head;
        first = r.first;
        rest = r.rest;
        are = ap (λ l. line ∷ l) r.are;
        event = r.event;
        is = r.is;
        heard = r.heard;
        head_is = inl (p, none, h, r.head_is);
        opened = r.opened;
        opened_is = r.opened_is;
        run = r.run;
      }

  dropped_more : (o : O) (line : List ℕ) (lines : List (List ℕ)) (left : Option PlainKernel) → mode ≡ at_broken.KeepGoing → IsBroken line → IsCarriedOut mode hears opens o lines None left →
      IsCarriedOut mode hears opens o (line ∷ lines) None left
  unfolding AreHeard
  dropped_more o line lines None keep broken (q, more) = (q, inr (keep, broken, more))
  dropped_more o line lines (Some k) keep broken r =
      record {
        head = line ∷ r.head;
        first = r.first;
        rest = r.rest;
        are = ap (λ l. line ∷ l) r.are;
        event = r.event;
        is = r.is;
        heard = r.heard;
        head_is = inr (keep, broken, r.head_is);
        opened = r.opened;
        opened_is = r.opened_is;
        run = r.run;
      }

  -- the first event opens the zones
  first_event : (o : O) (line : List ℕ) (lines : List (List ℕ)) (e : PageEvent) (k : PlainKernel) (left : Option PlainKernel) → IsEvent line e → opens o k → IsOpenRun lines (after_one e k) left →
      IsCarriedOut mode hears opens o (line ∷ lines) None left
  unfolding AreHeard
  first_event o line lines e k left is opened h =
      let r = event_more line lines e k left is h in
      subst
      (λ l. IsCarriedOut mode hears opens o (line ∷ lines) None l)
      (sym r.is)
      (record { head = []; first = line; rest = lines; are = refl; event = e; is = is; heard = o; head_is = refl; opened = k; opened_is = opened; run = r.run })

  -- over zones that are not open
  carried_closed : (lines : List (List ℕ)) (s t : S) → (state s).kernel ≡ None → Taken s lines t → IsCarriedOut mode hears opens (state s).onlooker lines None (state t).kernel
  unfolding AreTaken AreHeard
  carried_closed [] s t is e =
      subst (λ l. IsCarriedOut mode hears opens (state s).onlooker [] None l) (sym is ∙ ap (λ x. (state x).kernel) e) ((state s).onlooker, refl)
  carried_closed (line ∷ lines) s t is (u, inl (event, is_event, h), rest) =
      let opened : opens (state s).onlooker h.opened = subst (λ w. AreOpen opens (state s).onlooker w h.opened) is h.opened_is in
      first_event (state s).onlooker line lines event h.opened (state t).kernel is_event opened (open_run lines u t (after_one event h.opened) h.kernel rest)
  carried_closed (line ∷ lines) s t is (u, inr (inl (none, h)), rest) =
      heard_more (state s).onlooker (state u).onlooker line lines (state t).kernel none h.heard (carried_closed lines u t (h.kernel ∙ is) rest)
  carried_closed (line ∷ lines) s t is (u, inr (inr (keep, broken, h)), rest) =
      dropped_more (state s).onlooker line lines (state t).kernel keep broken
      (subst (λ o. IsCarriedOut mode hears opens o lines None (state t).kernel) h.onlooker (carried_closed lines u t (h.kernel ∙ is) rest))

  carried : (lines : List (List ℕ)) (s t : S) (was : Option PlainKernel) → (state s).kernel ≡ was → Taken s lines t → CarriedOut s lines t
  carried lines s t None is h = subst (λ w. IsCarriedOut mode hears opens (state s).onlooker lines w (state t).kernel) (sym is) (carried_closed lines s t is h)
  carried lines s t (Some k) is h = over_open (state s).onlooker lines k (state s).kernel (state t).kernel is (open_run lines s t k is h)

  abbrev Run : List (List ℕ) → S → S → Type 0
  Run lines s t = IsRun mode hears opens lines (state s) (state t)

  pub run_of : (lines : List (List ℕ)) (s t : S) → Taken s lines t → Run lines s t
  run_of lines s t h = record { carried = carried lines s t (state s).kernel refl h; counted = counted lines s t h }

  run_to : (from to : Spot) (lines : List (List ℕ)) (s t : S) → AreTakenTo Carried Passed Dropped mode s from lines to t → IsRunTo mode hears opens from lines to (state s) (state t)
  run_to from to lines s t h = record { passed = h.passed; run = run_of lines s t h.taken }

  run_over : (from to : Spot) (n : ℕ) (s t : S) → AreAllTaken Carried Passed Dropped mode s from to n t → IsRunOver mode hears opens from to n (state s) (state t)
  run_over from to n s t h = record { read = h.read; front = h.front; end = h.end; count = h.count; run = run_of _ s t h.taken }

  run_until : (fails : S → S → Type 0) (from to : Spot) (e : TextFault) (s t : S) → IsStoppedBy Carried Passed Dropped mode fails s from to e t →
      IsRunUntil mode hears opens from to e (state s) (state t)
  run_until fails from to (fault.Broken n) s t h =
      record { lines = h.before; run = run_to from to h.before s t h.taken; line = h.line; next = h.next; broken = h.broken; number = h.number; asked = h.asked }
  run_until fails from to (fault.TooLong n) s t h = record { lines = h.before; run = run_to from to h.before s t h.taken; too_long = h.too_long; number = h.number }
  run_until fails from to fault.TooMany s t h = record { lines = h.before; run = run_to from to h.before s t h.taken; last = h.last }
  run_until fails from to fault.Read s t h = record { lines = h.before; run = run_to from to h.before s t h.taken; no_more = h.no_more }
  run_until fails from to (fault.Sink error) s t h =
      record { lines = h.before; until = state h.until; run = run_to from to h.before s h.until h.taken; line = h.line; next = h.next }

  pub all_run : (from to : Spot) (r : Result ℕ TextFault) (s t : S) → IfOk r (λ n. AreAllTaken Carried Passed Dropped mode s from to n t) →
      IfOk r (λ n. IsRunOver mode hears opens from to n (state s) (state t))
  all_run from to (Ok n) s t h = run_over from to n s t h
  all_run from to (Err e) s t h = tt

  pub run_till : (fails : S → S → Type 0) (from to : Spot) (r : Result ℕ TextFault) (s t : S) → IfErr r (λ e. IsStoppedBy Carried Passed Dropped mode fails s from to e t) →
      IfErr r (λ e. IsRunUntil mode hears opens from to e (state s) (state t))
  run_till fails from to (Ok n) s t h = tt
  run_till fails from to (Err e) s t h = run_until fails from to e s t h
