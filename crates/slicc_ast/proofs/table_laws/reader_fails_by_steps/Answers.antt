use Rattle.slicc_ast.proofs.Steps.{fails_first, fails_second, fails_token, fails_form, fails_default, fails_unformed, fails_present, fails_again, fails_later, fails_nested, fails_unopened, fails_deep}
use Rattle.slicc_ast.proofs.table_laws.reader_fails_by_steps.Goals as goal

pub returns : goal.returns
returns g c = record {
  first = fails_first;
  second = fails_second;
  one = fails_token;
  alternative = fails_form;
  default = fails_default;
  unformed = fails_unformed;
  present = fails_present;
  again = fails_again;
  later = fails_later;
  nesting = fails_nested;
  unopened = fails_unopened;
  deep = fails_deep;
}
