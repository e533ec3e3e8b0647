use Rattle.std.proofs.Common.{ℕ, ◌≡◌, [], arith}
use Rattle.std.proofs.lemmas.List.{length-drop}
use Rattle.zp_events.specs.Words.{words_of}
use Rattle.zp_events.proofs.Options.{at_none}
use Rattle.zp_events.proofs.Cuts.{all_spaces, words_cut, words_whole}
use Rattle.zp_events.proofs.words.first_word.Goals as goal

pub returns-in_err-_spaces-clause-none : goal.returns-in_err-_spaces-clause-none
returns-in_err-_spaces-clause-none c =
    at_none _ {P = words_of c.args.text.now ≡ []} (all_spaces c.args.text.now c.in_err-_spaces.ensures.none)

pub returns-in-Some-clause-some : goal.returns-in-Some-clause-some
returns-in-Some-clause-some c =
    words_cut c.args.text.now c.in_ok-_spaces._spaces.now c.in_ok-_spaces.rest.now c.in-Some.word.now c.in-Some.after.now c.in_ok-_spaces.ensures.some.0 c.in_ok-_spaces.ensures.some.1 c.in_ok-_spaces.ensures.word c.in-Some.ensures.some.0 c.in-Some.ensures.some.1

pub returns-clause-some : goal.returns-clause-some
returns-clause-some c =
    words_whole c.args.text.now c.in_ok-_spaces._spaces.now c.in_ok-_spaces.rest.now _ c.in_ok-_spaces.ensures.some.0 c.in_ok-_spaces.ensures.some.1 c.in_ok-_spaces.ensures.word c.in_default.ensures.none (omega (arith, length-drop {A = ℕ}))
