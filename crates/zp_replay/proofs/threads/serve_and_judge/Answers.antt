use Rattle.zp_replay.proofs.Histories.{journals_many, judged_office}
use Rattle.zp_replay.proofs.threads.serve_and_judge.Goals as goal

pub judge-requires-clause-many : goal.judge-requires-clause-many
judge-requires-clause-many g c =
    journals_many c.args.trace.now c.in_ok-office.office c.in_ok-office.journals.items c.in_ok-office.ensures.served c.in_ok-office.ensures.journals

pub returns-clause-judged : goal.returns-clause-judged
returns-clause-judged g c =
    judged_office c.args.trace.now c.in_ok-office.office c.in_ok-office.journals.items c.in_ok-journals.journals.items
    c.in_ok-office.ensures.served c.in_ok-office.ensures.journals c.in_ok-office.ensures.sections c.in_ok-journals.ensures.judged c.in_ok-journals.ensures.entries
