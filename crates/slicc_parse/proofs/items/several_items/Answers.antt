use Rattle.std.proofs.Common.{sym}
use Rattle.slicc_ast.specs.Form.Form.{item}
use Rattle.slicc_ast.specs.Prelude.{of, repeated}
use Rattle.slicc_parse.specs.Prelude.{items_parts}
use Rattle.slicc_parse.proofs.Lists.{each_item, item_parts}
use Rattle.slicc_parse.proofs.Starts.{behind_item}
use Rattle.slicc_reading.specs.Prelude.{no_memory}
use Rattle.slicc_reading.proofs.Parts.{as_part, at_first}
use Rattle.slicc_reading.proofs.Repeats.{first_read, one_further, fault_in_further, all_separated, some_separated}
use Rattle.slicc_parse.proofs.items.several_items.Goals as goal

pub returns-in-Err-push-clause-read : goal.returns-in-Err-push-clause-read
returns-in-Err-push-clause-read c = no_memory

pub returns-in-Err-clause-read : goal.returns-in-Err-clause-read
returns-in-Err-clause-read c = at_first (repeated (of item)) c.in-Err.ensures

pub members-init : goal.members-init
members-init c =
    first_read item_parts (of item) c.new-items.result.items c.in-Ok.first c.push.new.self.items c.new-items.ensures.items c.in-Ok-push.ensures.items (as_part c.in-Ok.ensures)

pub members-preserved : goal.members-preserved
members-preserved c =
    one_further c.members.items.items c.in-Ok-item.next c.push-in-Ok-item.new.self.items c.in-Ok-push-2.ensures.items (sym c.members-test.ensures) (as_part c.in-Ok-item.ensures)
    c.members.invariant

pub members-smaller : goal.members-smaller
members-smaller c = behind_item c.in-Ok-item.next c.in-Ok-item.ensures

pub returns-in-Err-push-2-clause-read : goal.returns-in-Err-push-2-clause-read
returns-in-Err-push-2-clause-read c = no_memory

pub returns-in-Err-item-clause-read : goal.returns-in-Err-item-clause-read
returns-in-Err-item-clause-read c = fault_in_further (sym c.members-test.ensures) c.in-Err-item.ensures c.members.invariant

pub returns-clause-read : goal.returns-clause-read
returns-clause-read c = all_separated items_parts each_item (sym c.members-test.ensures) c.members.invariant

pub returns-clause-some : goal.returns-clause-some
returns-clause-some c = some_separated c.members.invariant
