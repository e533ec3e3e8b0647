use Rattle.zp_events.proofs.Bytes.{some_place, none_place}
use Rattle.zp_events.proofs.words.place_of_byte.Goals as goal

pub returns-clause-some : goal.returns-clause-some
returns-clause-some c = some_place c.args.byte c.args.bytes.now c.memchr.result c.memchr.ensures

pub returns-clause-none : goal.returns-clause-none
returns-clause-none c = none_place c.args.byte c.args.bytes.now c.memchr.result c.memchr.ensures
