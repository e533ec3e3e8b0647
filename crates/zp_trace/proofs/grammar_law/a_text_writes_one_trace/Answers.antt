use Rattle.zp_trace.proofs.OneReading.{one_trace}
use Rattle.zp_trace.proofs.grammar_law.a_text_writes_one_trace.Goals as goal

pub returns : goal.returns
returns c = one_trace
