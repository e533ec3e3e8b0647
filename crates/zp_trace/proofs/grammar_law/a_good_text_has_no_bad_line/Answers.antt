use Rattle.zp_trace.proofs.OneReading.{no_bad_line}
use Rattle.zp_trace.proofs.grammar_law.a_good_text_has_no_bad_line.Goals as goal

pub returns : goal.returns
returns c = no_bad_line
