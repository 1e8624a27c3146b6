use Rattle.std.proofs.Common.{◌≡◌, ◌++◌, take}
use Rattle.std.specs.List.{flat_map}
use Rattle.slicc_flow.specs.Sends.{else_if_sends, stmt_sends}
use Rattle.slicc_flow.proofs.sends.+statement_sends.Given as goal

abbrev pub invariant-add_block-loop-statement : goal.invariant-add_block-loop-statement
invariant-add_block-loop-statement l =
    l.list ≡ l.initial.list ++ flat_map (stmt_sends l.own) (take l.statement-index l.b.statements)

abbrev pub invariant-add_others-loop-other : goal.invariant-add_others-loop-other
invariant-add_others-loop-other l =
    l.list ≡ l.initial.list ++ flat_map (else_if_sends l.own) (take l.other-index l.others)
