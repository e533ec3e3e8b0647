use Rattle.std.proofs.Common.{◌≡◌, ◌∷◌, ap, rules, subst, sym, ◌∙◌}
use Rattle.std.proofs.lemmas.List.Elements.{All-rest}
use Rattle.zp_counts.specs.CountBoards.{CountsSeen}
use Rattle.zp_shared.specs.Rows.{GuardedZone, HaveReadAll, board_at}
use Rattle.zp_shared.proofs.Readers.{read_all_more}
use Rattle.zp_shared.proofs.shared_zone.+read_all.Goals as goal

pub read_all-requires : goal.read_all-requires
read_all-requires g t c κs within =
    let same = c.show_board.ensures.same in
    (search rules, (search rules, (search rules, (c.requires.board ∙ ap (λ (v : GuardedZone). board_at g.J.Naming.boards v.place) (sym same), All-rest (λ (r : CountsSeen). r.tie ≡ c.args.board.now.tie) c.in-Some.first.now c.in-Some.rest.now c.args.readers.now c.in-Some.ensures.cases.0 c.requires.readers))))

pub returns-clause-read : goal.returns-clause-read
returns-clause-read g t c =
    let same = ap (λ (v : GuardedZone). v.published) c.show_board.ensures.same in
    let rest = subst (λ cs. HaveReadAll cs c.in-Some.rest.now c.read_all.new.readers) same c.read_all.ensures.read in
    subst (λ l. HaveReadAll c.args.guarded.now.published l (c.show_board.new.reader ∷ c.read_all.new.readers)) (sym c.in-Some.ensures.cases.0)
    (read_all_more c.args.guarded.now.published c.in-Some.first.now c.show_board.new.reader c.in-Some.rest.now c.read_all.new.readers c.show_board.ensures.before c.show_board.ensures.known c.show_board.ensures.reader rest)
