use Rattle.std.proofs.Common.{arith, ◌≡◌, ◌∙◌, sym, ap, ◌*◌}
use Rattle.std.specs.Prelude.{None, ◌<◌}
use Rattle.std.specs.Bool.{then_some}
use Rattle.std.proofs.lemmas.Bool.Decides.{nat_tests}
use Rattle.zp_buddyinfo.specs.Sizes.{IsNoSize}
use Rattle.zp_numbers.proofs.Numbers.{same_number}
use Rattle.zp_buddyinfo.proofs.SizeWords.{none_where, said_by}
use Rattle.zp_buddyinfo.proofs.page.parse_size.Goals as goal

pub returns-in_err-parse_u64-clause-none : goal.returns-in_err-parse_u64-clause-none
returns-in_err-parse_u64-clause-none c =
    let none : IsNoSize c.args.word.now = λ bytes some small says.
    let (n, few, digits, same) = said_by _ _ _ bytes small (sym c.as_bytes.ensures.value ∙ c.split_unit-unit.ensures.parts) c.split_unit-unit.ensures.plain says in
    c.in_err-parse_u64.ensures.none n few digits in
    none_where _ (λ _. none)

pub returns-in_err-bytes-clause-none : goal.returns-in_err-bytes-clause-none
returns-in_err-bytes-clause-none c =
    let none : IsNoSize c.args.word.now = λ bytes some small says.
    let (n, few, digits, same) = said_by _ _ _ bytes small (sym c.as_bytes.ensures.value ∙ c.split_unit-unit.ensures.parts) c.split_unit-unit.ensures.plain says in
    let number = same_number _ _ n c.in_ok-parse_u64.ensures.fits few c.in_ok-parse_u64.ensures.some digits in
    let product : c.in_ok-parse_u64.field-0 * c.bytes.result ≡ bytes = ap (λ k. k * c.bytes.result) number ∙ ap (λ k. n * k) c.bytes.ensures ∙ sym same in
    omega (arith, c.in_err-bytes.ensures, product, small) in
    none_where _ (λ _. none)

pub returns-clause-none : goal.returns-clause-none
returns-clause-none c =
    let none : c.then_some.result ≡ None → IsNoSize c.args.word.now = λ e bytes some small says.
    let (n, few, digits, same) = said_by _ _ _ bytes small (sym c.as_bytes.ensures.value ∙ c.split_unit-unit.ensures.parts) c.split_unit-unit.ensures.plain says in
    let number = same_number _ _ n c.in_ok-parse_u64.ensures.fits few c.in_ok-parse_u64.ensures.some digits in
    let product : c.in_ok-parse_u64.field-0 * c.bytes.result ≡ bytes = ap (λ k. k * c.bytes.result) number ∙ ap (λ k. n * k) c.bytes.ensures ∙ sym same in
    let above : 0 < c.in_ok-bytes.bytes = omega (arith, c.in_ok-bytes.ensures, product, some) in
    let kept : then_some _ c.in_ok-bytes.bytes ≡ None = sym c.then_some.ensures ∙ e in
    grind (arith, nat_tests, above, kept) in
    none_where _ none
