use Rattle.std.proofs.Common.{◌≡◌, length, arith, sym, ◌∙◌, ap, get_or, get_or-set_same, get_or-set_other, length-set, below_more, None}
use Rattle.std.specs.List.{find}
use Rattle.std.proofs.lemmas.List.{get_or_default}
use Rattle.std.proofs.lemmas.List.FromFn.{fill_by_all}
use Rattle.zp_model.specs.declared.state.State.TheVariants.{Tail}
use Rattle.zp_model.specs.Block.{is_max}
use Rattle.zp_model.specs.BlockSet.{max_blocks, orders_from}
use Rattle.zp_model.specs.Rows.{state_at}
use Rattle.zp_model.specs.Frames.{restate, restated}
use Rattle.zp_model.proofs.MaximalBlocks.{max_block}
use Rattle.zp_plain.proofs.frames.restate_all.Goals as goal

pub pages-preserved : goal.pages-preserved
pages-preserved c =
    let n = c.pages.invariant.pages in
    let block : c.block_at.result ≡ get_or (max_blocks c.args.largest c.args.free.now) c.pages.i None =
    c.block_at.ensures ∙ ap (λ h. find (is_max c.args.largest c.args.free.now h) (orders_from c.args.largest 0)) c.at.ensures ∙ sym (max_block c.args.largest c.args.free.now c.pages.i (omega arith)) in
    let note : c.index.result.now ≡ state_at c.args.notes.now.items c.pages.i =
    c.index.ensures ∙ get_or_default c.pages.notes.items c.pages.i _ Tail (omega arith) ∙ c.pages.invariant.left c.pages.i (omega arith) in
    record {
      pages = length-set _ _ _ ∙ n;
      done =
          below_more _ _ (λ q lt. get_or-set_other c.pages.notes.items c.pages.i q c.restate.result Tail (omega arith) ∙ c.pages.invariant.done q lt)
          (get_or-set_same c.pages.notes.items c.pages.i c.restate.result Tail (omega arith) ∙ rw (block, note) at c.restate.ensures);
      left = λ q le. get_or-set_other c.pages.notes.items c.pages.i q c.restate.result Tail (omega arith) ∙ c.pages.invariant.left q (omega arith);
    }

pub returns : goal.returns
unfolding restated
returns c =
    fill_by_all (λ h. restate (get_or (max_blocks c.args.largest c.args.free.now) h None) (state_at c.args.notes.now.items h)) c.pages.notes.items (length c.args.notes.now.items) Tail
    c.pages.invariant.pages (λ j lt. c.pages.invariant.done j (omega arith))
