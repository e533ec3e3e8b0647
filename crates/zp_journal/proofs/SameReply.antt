-- Replies that compare as equal are the same.
use Rattle.std.proofs.Common.{◌≡◌, ◌==◌, ◌&&◌, List, ℕ, [], true, refl, sym, ◌∙◌, ap}
use Rattle.std.proofs.lemmas.Bool.{eqb-true, and_parts}
use Rattle.zp_model.specs.declared.block.Block.{Block}
use Rattle.zp_model.specs.declared.migrate_type.MigrateType.{MigrateType}
use Rattle.zp_model.specs.declared.migrate_type.MigrateType.TheVariants as kind
use Rattle.zp_model.specs.declared.refused.Refused.{Refused}
use Rattle.zp_model.specs.declared.refused.Refused.TheVariants as refused
use Rattle.zp_model.specs.declared.entry.Answered.{Answered}
use Rattle.zp_model.specs.declared.entry.Answered.TheVariants as answered
use Rattle.zp_model.specs.Entries.{answered_of, reply_of}
use Rattle.zp_model.specs.contracts.block.BlockPartialEq.TheImpl as blocks
use Rattle.zp_model.specs.contracts.migrate_type.MigrateTypePartialEq.TheImpl as kinds
use Rattle.zp_model.specs.contracts.refused.RefusedPartialEq.TheImpl as refusals
use Rattle.zp_model.specs.declared.request.Reply.{Reply}
use Rattle.zp_model.specs.declared.request.Reply.TheVariants as reply
use Rattle.zp_model.specs.contracts.entry.AnsweredPartialEq.TheImpl.{eq-value}
use Rattle.zp_model.specs.contracts.entry.AnsweredEq.TheImpl.Laws.{laws-law}

kind_same : (a b : MigrateType) → kinds.eq-value.it a b ≡ true → a ≡ b
kind_same kind.Unmovable kind.Unmovable e = refl
kind_same kind.Reclaimable kind.Reclaimable e = refl
kind_same kind.Movable kind.Movable e = refl
kind_same _ _ e = cc

refused_same : (a b : Refused) → refusals.eq-value.it a b ≡ true → a ≡ b
refused_same refused.BadName refused.BadName e = refl
refused_same refused.BadBase refused.BadBase e = refl
refused_same refused.BadPages refused.BadPages e = refl
refused_same refused.BadMark refused.BadMark e = refl
refused_same refused.BadWorkers refused.BadWorkers e = refl
refused_same refused.Memory refused.Memory e = refl
refused_same refused.BelowMark refused.BelowMark e = refl
refused_same refused.NoBlock refused.NoBlock e = refl
refused_same refused.NothingPosted refused.NothingPosted e = refl
refused_same refused.BadPageblock refused.BadPageblock e = refl
refused_same refused.AlreadyIsolated refused.AlreadyIsolated e = refl
refused_same refused.NotIsolated refused.NotIsolated e = refl
refused_same refused.BadRun refused.BadRun e = refl
refused_same refused.NotFree refused.NotFree e = refl
refused_same refused.NotLent refused.NotLent e = refl
refused_same refused.ListFull refused.ListFull e = refl
refused_same refused.JournalFull refused.JournalFull e = refl
refused_same refused.NoThread refused.NoThread e = refl
refused_same _ _ e = cc

block_same : (p q : Block) → blocks.eq-value.it p q ≡ true → p ≡ q
block_same p q e =
    let same : (p.page == q.page ≡ true) × ((p.order == q.order) && kinds.eq-value.it p.kind q.kind ≡ true) =
    and_parts (p.page == q.page) ((p.order == q.order) && kinds.eq-value.it p.kind q.kind) e in
    let rest : (p.order == q.order ≡ true) × (kinds.eq-value.it p.kind q.kind ≡ true) =
    and_parts (p.order == q.order) (kinds.eq-value.it p.kind q.kind) same.1 in
    let page : p.page ≡ q.page = eqb-true p.page q.page same.0 in
    let order : p.order ≡ q.order = eqb-true p.order q.order rest.0 in
    let of_kind : p.kind ≡ q.kind = kind_same p.kind q.kind rest.1 in
    λ i. record { page = page i; order = order i; kind = of_kind i }

pub same_answer : (a b : Answered) → eq-value.it a b ≡ true → a ≡ b
same_answer (answered.Page p) (answered.Page q) e = ap answered.Page (eqb-true p q e)
same_answer (answered.Block p) (answered.Block q) e = ap answered.Block (block_same p q e)
same_answer answered.Freed answered.Freed e = refl
same_answer answered.Posted answered.Posted e = refl
same_answer answered.Pages answered.Pages e = refl
same_answer answered.Drained answered.Drained e = refl
same_answer answered.Isolated answered.Isolated e = refl
same_answer answered.Released answered.Released e = refl
same_answer (answered.Refused p) (answered.Refused q) e = ap answered.Refused (refused_same p q e)
same_answer _ _ e = cc

pub answer_itself : (a : Answered) → eq-value.it a a ≡ true
answer_itself a = laws-law.refl a

-- the pages of a reply
abbrev pages_in : Reply → List ℕ
pages_in (reply.Pages ps) = ps
pages_in _ = []

-- replies with one list are the same only where they are without it
kept : (a : Answered) (ps : List ℕ) → answered_of (reply_of a ps) ≡ a
kept (answered.Page p) ps = refl
kept (answered.Block b) ps = refl
kept answered.Freed ps = refl
kept answered.Posted ps = refl
kept answered.Pages ps = refl
kept answered.Drained ps = refl
kept answered.Isolated ps = refl
kept answered.Released ps = refl
kept (answered.Refused r) ps = refl

pub same_without_list : (a b : Answered) (ps : List ℕ) → reply_of a ps ≡ reply_of b ps → a ≡ b
same_without_list a b ps e = sym (kept a ps) ∙ ap answered_of e ∙ kept b ps

-- only the pages themselves are answered as pages
pub other_pages : (a : Answered) (ps qs : List ℕ) → (ps ≡ qs → ⊥) → reply_of a ps ≡ reply.Pages qs → ⊥
other_pages answered.Pages ps qs ne e = ne (ap pages_in e)
other_pages _ ps qs ne e = cc
