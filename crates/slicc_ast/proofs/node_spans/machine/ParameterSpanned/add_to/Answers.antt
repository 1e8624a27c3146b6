use Rattle.std.proofs.Common.{rules, append-nil, append_assoc}
use Rattle.slicc_ast.proofs.SpansOfParts.{star_spans, literal_behind}
use Rattle.slicc_ast.proofs.node_spans.machine.ParameterSpanned.add_to.Goals.{in-Some+in_ok-push, in_default}
use Rattle.slicc_ast.proofs.node_spans.machine.ParameterSpanned.add_to.Goals as goal

pub returns : goal.returns
returns c = elim c.match-self.branch [
  | in-Some+in_ok-push w ↦ search (rules, star_spans, literal_behind, append-nil, append_assoc)
  | in_default w ↦ search (rules, star_spans, literal_behind, append-nil, append_assoc)
]
