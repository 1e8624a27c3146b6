use Rattle.std.proofs.Common.{◌≡◌, take}
use Rattle.std.specs.List.{flat_map}
use Rattle.body_meaning.specs.Prelude.{names_in}
use Rattle.statement_walk.specs.Prelude.{else_if_names, passes, pick, spent}
use Rattle.statement_walk.proofs.needs.+spending.Given as goal

abbrev pub invariant-spend_block-loop-statement : goal.invariant-spend_block-loop-statement
invariant-spend_block-loop-statement l =
    l.left ≡ spent (passes l.m l.counted) l.initial.left (flat_map (names_in (pick l.counted)) (take l.statement-index l.b.statements))

abbrev pub invariant-spend_others-loop-other : goal.invariant-spend_others-loop-other
invariant-spend_others-loop-other l =
    l.left ≡ spent (passes l.m l.counted) l.initial.left (flat_map (else_if_names (pick l.counted)) (take l.other-index l.others))
