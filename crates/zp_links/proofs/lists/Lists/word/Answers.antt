use Rattle.std.proofs.Common.{◌≡◌, ◌∙◌, ap, length, Option, ℕ}
use Rattle.zp_model.specs.Rows.{state_at}
use Rattle.zp_table.specs.declared.entry.PageEntry.{PageEntry}
use Rattle.zp_table.specs.Packed.{packed, told_layout}
use Rattle.zp_links.specs.Linked.{back_at, forward_at}
use Rattle.zp_links.proofs.Writes.{linked_in, pages_in}
use Rattle.zp_links.proofs.Telling.{entry_is, unlinked}
use Rattle.zp_links.proofs.lists.Lists.word.Goals.{After-word}
use Rattle.zp_links.proofs.lists.Lists.word.Goals as goal

-- the word of an entry with these neighbours
told : (c : After-word) (b f : Option ℕ) → back_at c.self.inside.table c.args.at ≡ b → forward_at c.self.inside.table c.args.at ≡ f →
    c.word.result ≡ packed (told_layout (length c.args.self.now.states)) (record { state = state_at c.args.self.now.states c.args.at; back = b; forward = f })
told c b f back forward =
    rw (← pages_in _ _ _ c.self.view_is) (c.word.ensures ∙ ap (λ (e : PageEntry). packed (told_layout (length c.self.inside.table)) e) (entry_is _ _ _ c.args.at b f c.self.view_is c.requires back forward))

pub returns-clause-on : goal.returns-clause-on
returns-clause-on c r k stands =
    let x = linked_in _ _ _ c.self.view_is c.self.invariant in
    told (goal.at.returns-clause-on c).After-word _ _ (x.first r k c.args.at stands) (x.after r k c.args.at stands)

pub returns-clause-loose : goal.returns-clause-loose
returns-clause-loose c none =
    let away = unlinked _ _ _ (linked_in _ _ _ c.self.view_is c.self.invariant) c.args.at none in
    told (goal.at.returns-clause-loose c).After-word _ _ away.0 away.1
