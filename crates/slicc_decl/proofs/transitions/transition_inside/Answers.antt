use Rattle.slicc_ast.specs.Machines.{names as names_of}
use Rattle.slicc_ast.specs.Form.Form.{names}
use Rattle.slicc_ast.specs.Prelude.{transition_end, ◌▸◌, comma, of, optional}
use Rattle.slicc_reading.proofs.Parts.{◌then◌, at_first, behind}
use Rattle.slicc_decl.proofs.transitions.transition_inside.Goals as goal

pub returns-in-Ok-optional_end : goal.returns-in-Ok-optional_end
returns-in-Ok-optional_end c = c.in-Ok.ensures.read (of names) names_of _ c.names.ensures then c.in-Ok-names.ensures then c.in-Ok-optional_end.ensures

pub returns-in-Err-optional_end : goal.returns-in-Err-optional_end
returns-in-Err-optional_end c = behind (c.in-Ok.ensures.read (of names) names_of _ c.names.ensures then c.in-Ok-names.ensures) c.in-Err-optional_end.ensures

pub returns-in-Err-names : goal.returns-in-Err-names
returns-in-Err-names c = behind (c.in-Ok.ensures.read (of names) names_of _ c.names.ensures) (at_first (optional (comma ▸ of transition_end)) c.in-Err-names.ensures)

pub returns-in-Err : goal.returns-in-Err
returns-in-Err c = at_first (of names ▸ optional (comma ▸ of transition_end)) (c.in-Err.ensures.read (of names) names_of _ c.names.ensures)
