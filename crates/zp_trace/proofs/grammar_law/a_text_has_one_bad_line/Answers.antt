use Rattle.zp_trace.proofs.OneReading.{one_bad_line}
use Rattle.zp_trace.proofs.grammar_law.a_text_has_one_bad_line.Goals as goal

pub returns : goal.returns
returns c = one_bad_line
