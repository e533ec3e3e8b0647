use Rattle.std.proofs.Common.{◌≡◌, ℕ, ◌+◌, ◌-◌, ◌≤◌, arith, inl, inr, refl, sym, ◌∙◌, subst}
use Rattle.std.proofs.lemmas.Bool.{cases_lt, false≢true}
use Rattle.zp_view.proofs.Lying.{Misses, met, missed_at}
use Rattle.zp_view.proofs.blocks.block_around.Goals as goal
use Rattle.zp_view.proofs.blocks.block_around.Goals.{else-down-test, then-down-test+else-back-number, in-Some+else-reaches, in_default}

pub down-preserved : goal.down-preserved
down-preserved c d lt there =
    let page = c.in_ok-entry.ensures.when.0 refl in
    elim (cases_lt d c.down.back) [
      | inl before ↦ c.down.invariant d before there
      | inr here ↦
          let first : c.new-first.result ≡ c.number-number.result - d = omega (arith, c.new-first.ensures) in
          elim c.match-entry.branch [
            | in-Some+else-reaches w ↦
                subst (λ f. Misses c.args.zone.now.plain f c.args.page) first
                (missed_at c.args.zone.now.plain c.new-first.result c.args.page w.in-Some.entry.state w.in-Some.entry.back w.in-Some.entry.forward w.in-Some.ensures.described (sym w.reaches.ensures ∙ w.if-reaches.false))
            | in_default w ↦
                absurd (false≢true (w.in_default.ensures.when.1 (omega (arith, first), omega (arith, first, page.1, c.number-number.ensures.same))))
          ]
    ]

pub unreachable-requires : goal.unreachable-requires
unreachable-requires c =
    let page = c.in_ok-entry.ensures.when.0 refl in
    met c.args.zone.now.plain c.args.page c.counts.ensures.lawful page
    (λ d there. subst (λ n. Misses c.args.zone.now.plain (n - d) c.args.page) c.number-number.ensures.same (missed d (omega (arith, there, c.number-number.ensures.same))))
  where
    missed : (d : ℕ) → c.args.zone.now.plain.base + d ≤ c.number-number.result → Misses c.args.zone.now.plain (c.number-number.result - d) c.args.page
    missed d there =
        let page = c.in_ok-entry.ensures.when.0 refl in
        elim (cases_lt d c.down.back) [
          | inl before ↦ c.down.invariant d before there
          | inr here ↦
              elim c.down-test.branch [
                | else-down-test w ↦ absurd (omega arith)
                | then-down-test+else-back-number w ↦
                    let first : w.new-first.result ≡ c.number-number.result - d = omega (arith, w.new-first.ensures) in
                    elim w.match-entry.branch [
                      | in-Some+else-reaches v ↦
                          subst (λ f. Misses c.args.zone.now.plain f c.args.page) first
                          (missed_at c.args.zone.now.plain w.new-first.result c.args.page v.in-Some.entry.state v.in-Some.entry.back v.in-Some.entry.forward v.in-Some.ensures.described (sym v.reaches.ensures ∙ v.if-reaches.false))
                      | in_default v ↦
                          absurd (false≢true (v.in_default.ensures.when.1 (omega (arith, first), omega (arith, first, page.1, c.number-number.ensures.same))))
                    ]
              ]
        ]
