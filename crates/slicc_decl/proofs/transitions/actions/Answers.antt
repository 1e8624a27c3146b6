use Rattle.std.proofs.Common.{sym}
use Rattle.slicc_ast.specs.Prelude.{action_list, repeated}
use Rattle.slicc_ast.specs.declared.tree.token.Sign.TheVariants.{CloseBrace}
use Rattle.slicc_ast.specs.Parts.{sign}
use Rattle.slicc_reading.proofs.GoingOn.{of_read, of_value, on_fault}
use Rattle.slicc_reading.proofs.Parts.{at_first}
use Rattle.slicc_decl.specs.Prelude.{action_parts, action_row}
use Rattle.slicc_decl.proofs.Lists.{each_action}
use Rattle.slicc_reading.proofs.Repeats.{none_yet, one_more, fault_in_one, all_read}
use Rattle.slicc_decl.proofs.transitions.actions.Goals as goal

pub members-init : goal.members-init
members-init c =
    none_yet action_parts c.args.room action_row c.args.tokens.now c.new-items.result c.new-items.ensures

pub members-preserved : goal.members-preserved
members-preserved c =
    let a = c.in-Ok.ensures.added in
    one_more c.members.items a.0 c.added.new.items a.1 (sym c.members-test.ensures) (of_read _ _ c.ended_by.result c.ended_by.ensures.read a.2) c.members.invariant

pub returns-in-Err : goal.returns-in-Err
returns-in-Err c =
    at_first (sign CloseBrace) (fault_in_one (sym c.members-test.ensures) (c.in-Err.ensures.refused _ _ _ (on_fault _ _ c.ended_by.result c.ended_by.ensures.read)) c.members.invariant)

pub returns : goal.returns
returns c =
    c.ended.ensures.read (repeated action_row) action_list c.args.tokens.now
    (all_read (action_list c.members.items) (each_action c.members.items) (sym c.members-test.ensures) c.members.invariant)

pub members-smaller : goal.members-smaller
members-smaller c =
    of_value _ c.ended_by.result c.ended_by.ensures.shorter c.in-Ok.ensures.added.2
