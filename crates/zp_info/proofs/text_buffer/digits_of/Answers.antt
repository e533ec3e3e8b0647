use Rattle.std.proofs.Common.{sym, arith}
use Rattle.zp_info.proofs.Decimal.{digits-1, digits-2, digits-3, digits-4, digits-5, digits-6, digits-7, digits-8, digits-9, digits-10}
use Rattle.zp_info.proofs.text_buffer.digits_of.Goals as goal

pub returns-then-number-lt10-clause-digits : goal.returns-then-number-lt10-clause-digits
returns-then-number-lt10-clause-digits c = sym (digits-1 c.args.number c.if-number-lt10.true)

pub returns-then-number-lt100-clause-digits : goal.returns-then-number-lt100-clause-digits
returns-then-number-lt100-clause-digits c = sym (digits-2 c.args.number c.if-number-lt10.false c.if-number-lt100.true)

pub returns-then-number-lt1000-clause-digits : goal.returns-then-number-lt1000-clause-digits
returns-then-number-lt1000-clause-digits c = sym (digits-3 c.args.number c.if-number-lt100.false c.if-number-lt1000.true)

pub returns-then-number-lt10000-clause-digits : goal.returns-then-number-lt10000-clause-digits
returns-then-number-lt10000-clause-digits c = sym (digits-4 c.args.number c.if-number-lt1000.false c.if-number-lt10000.true)

pub returns-then-number-lt100000-clause-digits : goal.returns-then-number-lt100000-clause-digits
returns-then-number-lt100000-clause-digits c = sym (digits-5 c.args.number c.if-number-lt10000.false c.if-number-lt100000.true)

pub returns-then-number-lt1000000-clause-digits : goal.returns-then-number-lt1000000-clause-digits
returns-then-number-lt1000000-clause-digits c = sym (digits-6 c.args.number c.if-number-lt100000.false c.if-number-lt1000000.true)

pub returns-then-number-lt10000000-clause-digits : goal.returns-then-number-lt10000000-clause-digits
returns-then-number-lt10000000-clause-digits c = sym (digits-7 c.args.number c.if-number-lt1000000.false c.if-number-lt10000000.true)

pub returns-then-number-lt100000000-clause-digits : goal.returns-then-number-lt100000000-clause-digits
returns-then-number-lt100000000-clause-digits c = sym (digits-8 c.args.number c.if-number-lt10000000.false c.if-number-lt100000000.true)

pub returns-then-number-lt1000000000-clause-digits : goal.returns-then-number-lt1000000000-clause-digits
returns-then-number-lt1000000000-clause-digits c = sym (digits-9 c.args.number c.if-number-lt100000000.false c.if-number-lt1000000000.true)

pub returns-else-number-lt1000000000-clause-digits : goal.returns-else-number-lt1000000000-clause-digits
returns-else-number-lt1000000000-clause-digits c = sym (digits-10 c.args.number c.if-number-lt1000000000.false (omega arith))
