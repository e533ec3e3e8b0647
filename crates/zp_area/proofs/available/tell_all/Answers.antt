use Rattle.std.proofs.Common.{◌+◌, ◌*◌, ◌/◌, ◌^◌, ◌≡◌, ◌∙◌, ap, arith, length, min, not, sym}
use Rattle.std.specs.List.{slice_index_or}
use Rattle.zp_model.specs.declared.pageblock_type.PageblockType.TheVariants.{Movable}
use Rattle.zp_model.specs.PageblockType.{is_isolate}
use Rattle.zp_model.specs.Area.{kind_at}
use Rattle.zp_model.specs.Rows.{state_at}
use Rattle.zp_model.proofs.Heads.{number_within}
use Rattle.zp_area.specs.Blocks.{Blocks}
use Rattle.zp_area.specs.Moved.{pages_seen}
use Rattle.zp_area.specs.NotedBlocks.{blocks_of}
use Rattle.zp_area.proofs.Keeping.{block_of_more, blocks_length, starts_inside}
use Rattle.zp_area.proofs.NotedBlocks.{starts-from}
use Rattle.zp_area.proofs.Parts.{part-length}
use Rattle.zp_area.proofs.Relisting.{some_seen}
use Rattle.zp_area.proofs.Telling.{out_while, told_apart, told_first, told_held, told_last, told_next}
use Rattle.zp_area.proofs.available.tell_all.Goals as goal

pub pages-init : goal.pages-init
pages-init c =
    let starts-at = ap (λ q. c.args.pageblock * q) c.pageblock_pages-size.ensures.pages in
    let a : Blocks = record { largest = c.args.largest; rows = c.args.lists.now; kinds = c.args.kinds.now.items } in
    record {
      from = omega (arith, starts-at);
      upto = omega (arith, starts-at, starts_inside c.args.largest a c.args.pageblock c.requires.one c.requires.pageblock);
      told = rw starts-at (c.requires.told ∙ sym (told_first c.args.largest (c.args.pageblock * 2 ^ c.args.largest) c.args.kind c.args.kinds.now.items c.args.lists.now.states c.requires.one.blocks));
    }

pub tell_block-seen-requires-clause-held : goal.tell_block-seen-requires-clause-held
tell_block-seen-requires-clause-held c = λ k e f.
    let starts-at = ap (λ q. c.args.pageblock * q) c.pageblock_pages-size.ensures.pages in
    let here : c.pages.i / 2 ^ c.args.largest ≡ c.args.pageblock = number_within c.args.pageblock c.args.largest c.pages.i c.pages.invariant.from (omega (arith, starts-at, c.pageblock_pages-size.ensures.pages)) in
    let turned : is_isolate c.args.kind ≡ not (is_isolate (kind_at c.args.largest c.args.kinds.now.items c.pages.i)) = c.requires.other ∙ ap (λ q. not (is_isolate (slice_index_or c.args.kinds.now.items q Movable))) (sym here) in
    rw (c.at.ensures, c.pages.invariant.told) (told_held c.args.largest (c.args.pageblock * 2 ^ c.args.largest) c.args.kind c.args.kinds.now.items c.args.lists.now.states c.requires.one.blocks c.pages.i c.pages.invariant.from turned k (sym c.is_isolate-isolates.ensures ∙ e) (rw c.at.ensures at f))

pub tell_block-seen-requires-clause-block : goal.tell_block-seen-requires-clause-block
tell_block-seen-requires-clause-block c = λ k e f.
    let len = ap length c.pages.invariant.told ∙ part-length (out_while c.args.largest c.args.kinds.now.items (c.args.pageblock * 2 ^ c.args.largest) c.pages.i c.args.kind) (blocks_of c.args.lists.now.states) in
    rw (c.at.ensures, len) (block_of_more (omega arith) (c.requires.one.blocks.block c.pages.i k (starts-from c.args.lists.now.states c.pages.i k (rw c.at.ensures at f))))

pub tell_block-seen-requires-clause-apart : goal.tell_block-seen-requires-clause-apart
tell_block-seen-requires-clause-apart c = λ k e f.
    let starts-at = ap (λ q. c.args.pageblock * q) c.pageblock_pages-size.ensures.pages in
    let here : c.pages.i / 2 ^ c.args.largest ≡ c.args.pageblock = number_within c.args.pageblock c.args.largest c.pages.i c.pages.invariant.from (omega (arith, starts-at, c.pageblock_pages-size.ensures.pages)) in
    let turned : is_isolate c.args.kind ≡ not (is_isolate (kind_at c.args.largest c.args.kinds.now.items c.pages.i)) = c.requires.other ∙ ap (λ q. not (is_isolate (slice_index_or c.args.kinds.now.items q Movable))) (sym here) in
    rw (c.at.ensures, c.pages.invariant.told) (told_apart c.args.largest (c.args.pageblock * 2 ^ c.args.largest) c.args.kind c.args.kinds.now.items c.args.lists.now.states c.requires.one.blocks c.pages.i c.pages.invariant.from turned k (sym c.is_isolate-isolates.ensures ∙ e) (rw c.at.ensures at f))

pub pages-preserved : goal.pages-preserved
pages-preserved c =
    let starts-at = ap (λ q. c.args.pageblock * q) c.pageblock_pages-size.ensures.pages in
    let here : c.pages.i / 2 ^ c.args.largest ≡ c.args.pageblock = number_within c.args.pageblock c.args.largest c.pages.i c.pages.invariant.from (omega (arith, starts-at, c.pageblock_pages-size.ensures.pages)) in
    let turned : is_isolate c.args.kind ≡ not (is_isolate (kind_at c.args.largest c.args.kinds.now.items c.pages.i)) = c.requires.other ∙ ap (λ q. not (is_isolate (slice_index_or c.args.kinds.now.items q Movable))) (sym here) in
    let seen : c.tell_block-seen.result ≡ pages_seen (state_at c.args.lists.now.states c.pages.i) = c.tell_block-seen.ensures.pages ∙ ap (λ q. pages_seen (state_at c.args.lists.now.states q)) c.at.ensures in
    let some = some_seen (state_at c.args.lists.now.states c.pages.i) in
    record {
      from = omega (arith, starts-at, c.pages.invariant.from);
      upto = omega (arith, starts-at);
      told =
          rw (c.tell_block-seen.ensures.after, c.at.ensures, c.pages.invariant.told, c.is_isolate-isolates.ensures)
          (told_next c.args.largest (c.args.pageblock * 2 ^ c.args.largest) c.args.kind c.args.kinds.now.items c.args.lists.now.states c.requires.one.blocks c.pages.i c.pages.invariant.from turned c.min-i.result (omega (arith, seen, some)) (omega (arith, seen)));
    }

pub returns : goal.returns
returns c =
    let starts-at = ap (λ q. c.args.pageblock * q) c.pageblock_pages-size.ensures.pages in
    let last : c.pages.i ≡ min (length c.args.lists.now.states) (c.args.pageblock * 2 ^ c.args.largest + 2 ^ c.args.largest) = omega (arith, starts-at, c.pageblock_pages-size.ensures.pages) in
    (rw last at c.pages.invariant.told)
    ∙ told_last c.args.largest c.args.pageblock c.args.kind c.args.kinds.now.items c.args.lists.now.states c.requires.one.blocks c.requires.pageblock (blocks_length c.args.lists.now.states)
