use Rattle.std.proofs.Common.{ap, sym, ◌∙◌, option_and_then}
use Rattle.slicc_plan.specs.Prelude.{number_in_range}
use Rattle.declaration_rules.proofs.Digits.{spelled_decimal, spelled_hexadecimal}
use Rattle.declaration_rules.proofs.numbers.spelled_number.Goals as goal

pub returns-in-Some : goal.returns-in-Some
returns-in-Some c = c.some_digits.ensures ∙ ap (option_and_then number_in_range) (sym (spelled_hexadecimal c.args.text.now c.in-Some.digits.now c.in-Some.ensures))

pub returns-in-None : goal.returns-in-None
returns-in-None c = c.some_digits-in-None.ensures ∙ ap (option_and_then number_in_range) (sym (spelled_decimal c.args.text.now c.in-None.ensures))
