use Rattle.std.specs.Prelude.{slice_set}
use Rattle.std.proofs.Common.{get_or, length, ◌<◌, ◌≡◌, ◌∙◌, ap, sym, arith}
use Rattle.std.proofs.lemmas.List.{get_or_default}
use Rattle.zp_model.specs.Block.{head}
use Rattle.zp_share.specs.declared.page_use.PageUse.TheVariants.{Away}
use Rattle.zp_share.specs.PlainShares.{lent_kind}
use Rattle.zp_model.proofs.Heads.{head_le, lt_head}
use Rattle.zp_model.proofs.Pages.{in_run-from}
use Rattle.zp_share.specs.PageUses.{use_at}
use Rattle.zp_share.proofs.RunUses.{part_freed_uses, whole_freed_uses}
use Rattle.zp_share.proofs.OneUse.{lent_use}
use Rattle.zp_share.proofs.page_uses.PageUses.free_in_block.Goals as goal

pub returns-then-freed-pages-clause-freed : goal.returns-then-freed-pages-clause-freed
returns-then-freed-pages-clause-freed c =
    let k = c.in-Some.order in
    let past = lt_head c.args.at k in
    let whole = c.requires.whole (head c.args.at k) k c.in-Some.ensures.some in
    whole_freed_uses c.args.largest c.args.self.now.uses c.set_at.new.self.uses (head c.args.at k) k c.args.at c.args.pages c.min-freed.result c.in-Some.ensures.some
    (omega (arith, whole.0, past, head_le c.args.at k)) (in_run-from (head c.args.at k) k c.args.at (head_le c.args.at k) past) (omega (arith, c.pages-2.ensures.pages))
    (omega (arith, c.min-freed.ensures)) (omega (arith, past, c.head_of-head.ensures, c.pages.ensures.pages, c.min-freed.ensures))
    (ap (λ u. u.uses) c.set_at.ensures ∙ ap (λ h. slice_set c.args.self.now.uses h Away) c.head_of-head.ensures)

pub returns-clause-freed : goal.returns-clause-freed
returns-clause-freed c =
    let k = c.in-Some.order in
    let past = lt_head c.args.at k in
    let whole = c.requires.whole (head c.args.at k) k c.in-Some.ensures.some in
    let below : head c.args.at k < length c.args.self.now.uses = omega (arith, whole.0, past, head_le c.args.at k) in
    let seen : use_at c.args.self.now.uses (head c.args.at k) ≡ c.index-used.result.now = get_or_default c.args.self.now.uses (head c.args.at k) Away c.index-used.result.now below ∙ ap (λ h. get_or c.args.self.now.uses h c.index-used.result.now) (sym c.head_of-head.ensures) ∙ ap (λ u. get_or u.uses c.head_of-head.result c.index-used.result.now) (sym c.self.view_is) ∙ sym c.index-used.ensures in
    part_freed_uses c.args.largest c.args.self.now.uses c.set_at.new.self.uses c.lend_cut.new.self.uses c.lend_cut-2.new.self.uses (head c.args.at k) k c.args.at c.args.pages c.min-freed.result c.in-Some-lent_kind.kind
    (lent_use (use_at c.args.self.now.uses (head c.args.at k)) k c.in-Some-lent_kind.kind (ap (λ u. lent_kind u k) seen ∙ sym c.in-Some-lent_kind.ensures.kind)) (omega (arith, whole.0, past, head_le c.args.at k)) (in_run-from (head c.args.at k) k c.args.at (head_le c.args.at k) past)
    (omega (arith, past, c.head_of-head.ensures, c.pages.ensures.pages, c.requires.some, c.min-freed.ensures))
    (omega (arith, c.min-freed.ensures))
    (omega (arith, past, head_le c.args.at k, c.head_of-head.ensures, c.pages.ensures.pages, c.min-freed.ensures))
    (λ less. omega (arith, less, past, head_le c.args.at k, c.head_of-head.ensures, c.pages.ensures.pages, c.min-freed.ensures))
    (ap (λ u. u.uses) c.set_at.ensures ∙ ap (λ h. slice_set c.args.self.now.uses h Away) c.head_of-head.ensures)
    (rw c.head_of-head.ensures at c.lend_cut.ensures.lent) (rw (c.head_of-head.ensures, c.pages.ensures.pages) at c.lend_cut-2.ensures.lent)
