use Rattle.zp_events.specs.Words.{words_of}
use Rattle.zp_events.proofs.Options.{at_none}
use Rattle.zp_events.proofs.Places.{NoPlace, no_frame}
use Rattle.zp_events.proofs.fields.place_of.Goals as goal

pub returns-in_err-frame-clause-none : goal.returns-in_err-frame-clause-none
returns-in_err-frame-clause-none c =
    at_none _ {P = NoPlace (words_of c.args.text.now)} (no_frame _ _ _ c.in_ok-page.page.now c.in_ok-frame_text.frame_text.now c.in_ok-page.ensures.some c.in_ok-frame_text.ensures.some c.in_err-frame.ensures.none)
