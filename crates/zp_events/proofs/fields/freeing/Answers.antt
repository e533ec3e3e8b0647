use Rattle.zp_events.specs.Words.{words_of}
use Rattle.zp_events.proofs.Options.{at_none}
use Rattle.zp_events.proofs.Places.{NoFreeing, no_place_no_freeing}
use Rattle.zp_events.proofs.fields.freeing.Goals as goal

pub returns-in_err-_no_page-clause-none : goal.returns-in_err-_no_page-clause-none
returns-in_err-_no_page-clause-none c =
    at_none _ {P = NoFreeing (words_of c.args.text.now)} (no_place_no_freeing _ c.in_err-_no_page.ensures.none)
