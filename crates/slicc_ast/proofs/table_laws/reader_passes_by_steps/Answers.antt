use Rattle.slicc_ast.proofs.Steps.{passes_both, passes_token, passes_form, passes_default, passes_present, passes_absent, passes_again, passes_enough, passes_item, passes_nested}
use Rattle.slicc_ast.proofs.table_laws.reader_passes_by_steps.Goals as goal

pub returns : goal.returns
returns g c = record {
  both = passes_both;
  one = passes_token;
  alternative = passes_form;
  default = passes_default;
  present = passes_present;
  absent = passes_absent;
  again = passes_again;
  enough = passes_enough;
  item = passes_item;
  nesting = passes_nested;
}
