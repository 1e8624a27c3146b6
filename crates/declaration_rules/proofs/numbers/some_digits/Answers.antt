use Rattle.std.proofs.Common.{ap, ◌∙◌, arith, option_and_then}
use Rattle.slicc_plan.specs.Prelude.{number_in_range}
use Rattle.declaration_rules.proofs.Digits.{read_some}
use Rattle.declaration_rules.proofs.numbers.some_digits.Goals as goal

pub returns : goal.returns
returns c = c.read_digits.ensures ∙ ap (option_and_then number_in_range) (read_some c.args.base c.args.digits.now (omega arith))
