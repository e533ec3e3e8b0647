use Rattle.zp_events.specs.Words.{words_of}
use Rattle.zp_events.proofs.Options.{at_none}
use Rattle.zp_events.proofs.Places.{NoAllocation, no_place, no_type_field, no_flags_field}
use Rattle.zp_events.proofs.fields.allocation.Goals as goal

pub returns-in_err-no_page-clause-none : goal.returns-in_err-no_page-clause-none
returns-in_err-no_page-clause-none c =
    at_none _ {P = NoAllocation (words_of c.args.text.now)} (no_place _ c.in_err-no_page.ensures.none)

pub returns-in_err-type_text-clause-none : goal.returns-in_err-type_text-clause-none
returns-in_err-type_text-clause-none c =
    at_none _ {P = NoAllocation (words_of c.args.text.now)} (no_type_field _ _ _ _ c.in_ok-no_page.ensures.some c.in_err-type_text.ensures.none)

pub returns-in_err-flags-clause-none : goal.returns-in_err-flags-clause-none
returns-in_err-flags-clause-none c =
    at_none _ {P = NoAllocation (words_of c.args.text.now)} (no_flags_field _ _ _ _ _ _ c.in_ok-no_page.ensures.some c.in_ok-type_text.ensures.some c.in_err-flags.ensures.none)
