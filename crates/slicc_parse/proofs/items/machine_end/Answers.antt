use Rattle.slicc_ast.specs.Form.Form.{parameter}
use Rattle.slicc_ast.specs.Prelude.{declaration, ◌▸◌, braces, of, repeated}
use Rattle.slicc_reading.proofs.Parts.{◌then◌, at_first, behind}
use Rattle.slicc_parse.proofs.items.machine_end.Goals as goal

pub returns-in-Ok-declaration_block : goal.returns-in-Ok-declaration_block
returns-in-Ok-declaration_block c = c.in-Ok.ensures.read then c.in-Ok-parameter_list.ensures then c.in-Ok-declaration_block.ensures

pub returns-in-Err-declaration_block : goal.returns-in-Err-declaration_block
returns-in-Err-declaration_block c = behind (c.in-Ok.ensures.read then c.in-Ok-parameter_list.ensures) c.in-Err-declaration_block.ensures

pub returns-in-Err-parameter_list : goal.returns-in-Err-parameter_list
returns-in-Err-parameter_list c = behind c.in-Ok.ensures.read (at_first (braces (repeated (of declaration))) c.in-Err-parameter_list.ensures)

pub returns-in-Err : goal.returns-in-Err
returns-in-Err c = at_first (repeated (of parameter) ▸ braces (repeated (of declaration))) c.in-Err.ensures.read
