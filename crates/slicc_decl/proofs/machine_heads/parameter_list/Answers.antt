use Rattle.std.proofs.Common.{sym}
use Rattle.slicc_ast.specs.Prelude.{parameter_list, of}
use Rattle.slicc_ast.specs.Form.Form.{parameter}
use Rattle.slicc_reading.specs.Prelude.{no_memory}
use Rattle.slicc_reading.proofs.Parts.{as_part}
use Rattle.slicc_decl.proofs.Lists.{each_parameter, parameter_parts}
use Rattle.slicc_reading.proofs.Repeats.{none_yet, one_more, fault_in_one, all_read}
use Rattle.slicc_decl.proofs.machine_heads.parameter_list.Goals as goal

pub members-init : goal.members-init
members-init c = none_yet parameter_parts c.args.room (of parameter) c.args.tokens.now c.new-items.result.items c.new-items.ensures.items

pub returns-in-Err-push : goal.returns-in-Err-push
returns-in-Err-push c = no_memory

pub members-preserved : goal.members-preserved
members-preserved c =
    one_more c.members.items.items c.in-Ok.next c.push.new.self.items c.in-Ok-push.ensures.items (sym c.members-test.ensures) (as_part c.in-Ok.ensures.read) c.members.invariant

pub returns-in-Err : goal.returns-in-Err
returns-in-Err c = fault_in_one (sym c.members-test.ensures) c.in-Err.ensures.read c.members.invariant

pub returns : goal.returns
returns c = all_read (parameter_list c.members.items.items) (each_parameter c.members.items.items) (sym c.members-test.ensures) c.members.invariant
