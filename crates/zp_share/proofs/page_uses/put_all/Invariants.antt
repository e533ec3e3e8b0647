use Rattle.std.proofs.Common.{◌≡◌, take}
use Rattle.zp_share.specs.PageUses.{all_as}
use Rattle.zp_share.proofs.page_uses.put_all.Given as goal

abbrev pub invariant-loop-page : goal.invariant-loop-page
invariant-loop-page l = l.uses ≡ all_as l.fn.base l.fn.packed (take l.page-index l.pages) l.fn.uses
