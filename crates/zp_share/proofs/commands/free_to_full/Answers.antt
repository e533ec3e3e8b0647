use Rattle.std.proofs.Common.{◌∙◌, sym, rules}
use Rattle.zp_share.proofs.Carrying.{moved_fits}
use Rattle.zp_share.proofs.Freeing.{put_gone, put_others, put_freed, freed, lent_still}
use Rattle.zp_share.proofs.commands.free_to_full.Goals as goal

pub put_lent-len-requires-clause-lent : goal.put_lent-len-requires-clause-lent
put_lent-len-requires-clause-lent g c =
    lent_still c.args.share.now c.drain_full.new.share c.args.zone c.args.page 0 c.args.kind c.drain_full.ensures.kinds (sym c.requires.lent) c.requires.lists

pub drain_full-requires-2-clause-fits : goal.drain_full-requires-2-clause-fits
drain_full-requires-2-clause-fits g c =
    moved_fits (g.Z.Zones.keys c.drain_full.new.zones) c.drain_full.new.share c.put_lent-len.new.self c.args.zone c.drain_full.ensures.fits c.put_lent-len.ensures.others c.put_lent-len.ensures.seat

pub returns-clause-gone : goal.returns-clause-gone
returns-clause-gone g c =
    λ k.
    c.drain_full-2.ensures.lent c.args.zone c.args.page k
    ∙ put_gone c.drain_full.new.share c.put_lent-len.new.self c.args.zone c.args.page k c.args.kind
    (lent_still c.args.share.now c.drain_full.new.share c.args.zone c.args.page 0 c.args.kind c.drain_full.ensures.kinds (sym c.requires.lent) c.requires.lists) c.put_lent-len.ensures.after

pub returns-clause-told : goal.returns-clause-told
returns-clause-told g c =
    λ rows e.
    freed rows c.args.share.now c.drain_full.new.share c.put_lent-len.new.self c.drain_full-2.new.share c.args.zone c.args.page 0 c.args.kind c.in_ok-drain_full.field-0 c.drain_full-2.result _ _
    (sym c.requires.lent) c.requires.lists (c.in_ok-drain_full.ensures.told rows e)
    (lent_still c.args.share.now c.drain_full.new.share c.args.zone c.args.page 0 c.args.kind c.drain_full.ensures.kinds (sym c.requires.lent) c.requires.lists) (search rules)
    c.put_lent-len.ensures.others c.put_lent-len.ensures.after c.drain_full-2.ensures.told

pub returns-clause-others : goal.returns-clause-others
returns-clause-others g c =
    λ i p k ne.
    c.drain_full-2.ensures.lent i p k
    ∙ put_others c.drain_full.new.share c.put_lent-len.new.self c.args.zone c.args.page c.args.kind (search rules)
    (lent_still c.args.share.now c.drain_full.new.share c.args.zone c.args.page 0 c.args.kind c.drain_full.ensures.kinds (sym c.requires.lent) c.requires.lists)
    c.put_lent-len.ensures.others c.put_lent-len.ensures.after i p k ne
    ∙ c.drain_full.ensures.lent i p k

pub returns-clause-freed : goal.returns-clause-freed
returns-clause-freed g c =
    put_freed (g.Z.Zones.ended c.drain_full-2.new.zones c.args.zone c.drain_full-2.new.share) c.args.share.now c.drain_full.new.share c.put_lent-len.new.self c.drain_full-2.new.share c.args.zone c.args.page 0
    c.put_lent-len.new.self.batch c.put_lent-len.new.self.high_len c.args.kind c.drain_full-2.result
    (sym c.requires.lent) c.requires.lists c.in_ok-drain_full.ensures.made c.put_lent-len.ensures.after c.put_lent-len.ensures.seat
    (search rules) (search rules) c.drain_full-2.ensures.made c.drain_full-2.ensures.left c.drain_full-2.ensures.full c.drain_full-2.ensures.only
