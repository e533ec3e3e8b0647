use Rattle.std.proofs.Common.{◌<◌, ◌≤◌, ◌++◌, length, ap, sym, ◌∙◌, rules}
use Rattle.std.proofs.lemmas.List.{append-nil}
use Rattle.zp_replay.proofs.Replying.{none_is, told_is}
use Rattle.zp_replay.proofs.report.push_reply_at.Goals as goal

pub returns-in-Some : goal.returns-in-Some
returns-in-Some g c =
    let lt : c.args.place < length c.replies.result.now = search rules in
    c.push_reply.ensures
    ∙ ap (λ q. c.args.text.now ++ q) (told_is c.args.office.now c.args.worker c.args.place c.replies.result.now c.in-Some.reply.now _ c.replies.ensures lt (search rules) c.zones.ensures.zones)

pub returns-in-None : goal.returns-in-None
returns-in-None g c =
    let le : length c.replies.result.now ≤ c.args.place = search rules in
    sym (append-nil c.args.text.now)
    ∙ ap (λ q. c.args.text.now ++ q) (none_is c.args.office.now c.args.worker c.args.place c.replies.result.now c.replies.ensures le)
