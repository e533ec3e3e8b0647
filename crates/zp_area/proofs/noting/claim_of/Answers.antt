use Rattle.std.proofs.Common.{◌^◌, ◌≡◌, ◌*◌, ◌∙◌, ap}
use Rattle.std.proofs.Math.Nat.{mul-mod_left}
use Rattle.zp_area.proofs.noting.claim_of.Goals as goal

pub largest_in-requires : goal.largest_in-requires
largest_in-requires c =
    let f : c.at-first.result ≡ c.args.pageblock * 2 ^ c.args.blocks.now.largest = c.at-first.ensures ∙ ap (λ q. c.args.pageblock * q) c.pageblock_pages.ensures.pages in
    rw (f, c.order.ensures) (mul-mod_left c.args.pageblock (2 ^ c.args.blocks.now.largest))
