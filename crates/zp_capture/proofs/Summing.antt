-- The run of a capture, as it is summed up.
use Rattle.std.proofs.Common.{ℕ, ◌≡◌, ◌++◌, inl, inr, List, [], ◌∷◌, Option, None, Some, sym, ap, subst, ◌∙◌}
use Rattle.zp_events.specs.declared.text.AtBroken.{AtBroken}
use Rattle.zp_events.specs.Reading.{Spot}
use Rattle.zp_events.specs.Texts.{lines_of}
use Rattle.zp_kernel.specs.Events.{PlainKernel}
use Rattle.zp_kernel.specs.Lines.{AreCounted, no_lines}
use Rattle.zp_kernel.specs.Runs.{AreHeard, IsCarriedOut, IsRunOver, RunState}
use Rattle.zp_capture.specs.declared.options.EventOptions.{EventOptions}
use Rattle.zp_capture.specs.declared.summary.Summary.{Summary}
use Rattle.zp_capture.specs.MachineLines.{IsNoted, Told, nothing_told}
use Rattle.zp_capture.specs.Summaries.{AreOpened, IsSummaryOfAll, counts_of}

module _ {W : Type 0} (options : W → EventOptions) (told : W → Told) (mode : AtBroken) where
  abbrev pub Hears : W → List ℕ → W → Type 0
  Hears w line v = (options v ≡ options w) × IsNoted (told w) line (told v)

  abbrev pub Opens : W → PlainKernel → Type 0
  Opens w k = AreOpened (options w) (told w) k

  -- what a watch heard is what was told, by the same options
  heard : (o : EventOptions) (lines : List (List ℕ)) (w v : W) → options w ≡ o → AreHeard mode Hears Opens w lines v →
      (options v ≡ o) × AreHeard mode IsNoted (AreOpened o) (told w) lines (told v)
  unfolding AreHeard
  heard o [] w v is e = (subst (λ x. options x ≡ o) e is, ap told e)
  heard o (line ∷ lines) w v is (inl (u, none, (same, noted), more)) =
      let rest = heard o lines u v (same ∙ is) more in
      (rest.0, inl (told u, none, noted, rest.1))
  heard o (line ∷ lines) w v is (inr (keep, broken, more)) = let rest = heard o lines w v is more in (rest.0, inr (keep, broken, rest.1))

  carried : (o : EventOptions) (lines : List (List ℕ)) (w : W) (k : Option PlainKernel) → options w ≡ o → IsCarriedOut mode Hears Opens w lines None k →
      IsCarriedOut mode IsNoted (AreOpened o) (told w) lines None k
  carried o lines w None is (v, h) = (told v, (heard o lines w v is h).1)
  carried o lines w (Some k) is r =
      let h = heard o r.head w r.heard is r.head_is in
      record {
        head = r.head;
        first = r.first;
        rest = r.rest;
        are = r.are;
        event = r.event;
        is = r.is;
        heard = told r.heard;
        head_is = h.1;
        opened = r.opened;
        opened_is = subst (λ x. AreOpened x (told r.heard) r.opened) h.0 r.opened_is;
        run = r.run;
      }

  pub summed : (o : EventOptions) (from to : Spot) (n : ℕ) (before after : RunState W) (s : Summary) → options before.onlooker ≡ o → told before.onlooker ≡ nothing_told → before.kernel ≡ None →
      before.lines ≡ no_lines → from.kept ≡ [] → o.at_broken ≡ mode → IsRunOver mode Hears Opens from to n before after → s.counts ≡ counts_of after.kernel → s.lines ≡ after.lines →
      IsSummaryOfAll o from.left s
  summed o from to n before after s by nothing closed uncounted kept asked h counts lines =
      let text : lines_of (from.kept ++ h.read) ≡ lines_of h.read = ap (λ x. lines_of (x ++ h.read)) kept in
      let run : IsCarriedOut mode IsNoted (AreOpened o) (told before.onlooker) (lines_of (from.kept ++ h.read)) None after.kernel =
      carried o _ before.onlooker after.kernel by (subst (λ k. IsCarriedOut mode Hears Opens before.onlooker (lines_of (from.kept ++ h.read)) k after.kernel) closed h.run.carried) in
      record {
        text = h.read;
        left = to.left;
        read = h.front;
        end = h.end;
        summary = record {
          kernel = after.kernel;
          run =
              subst (λ m. IsCarriedOut m IsNoted (AreOpened o) nothing_told (lines_of h.read) None after.kernel) (sym asked)
              (subst (λ x. IsCarriedOut mode IsNoted (AreOpened o) x (lines_of h.read) None after.kernel) nothing
              (subst (λ x. IsCarriedOut mode IsNoted (AreOpened o) (told before.onlooker) x None after.kernel) text run));
          counts = counts;
          lines =
              subst (λ c. AreCounted no_lines (lines_of h.read) c) (sym lines)
              (subst (λ c. AreCounted c (lines_of h.read) after.lines) uncounted (subst (λ x. AreCounted before.lines x after.lines) text h.run.counted));
        };
      }
