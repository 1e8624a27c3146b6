use Rattle.std.proofs.Common.{◌≡◌, drop, flat_map, take}
use Rattle.slicc_plan.specs.Prelude.{statements_judged, earlier_of_both, first_of}
use Rattle.statement_rules.specs.Prelude.{IsGrown, at, else_if_judged}
use Rattle.statement_rules.proofs.judging.+statements.Given as goal

abbrev pub invariant-statements_judged-loop-s : goal.invariant-statements_judged-loop-s
invariant-statements_judged-loop-s l = record {
  found : earlier_of_both l.first (first_of (statements_judged (at l.env l.bound.items) (drop l.s-index l.statements)))
      ≡ first_of (statements_judged (at l.env l.initial.bound.items) l.statements);
  grown : IsGrown l.initial.bound.items l.bound.items;
}

abbrev pub invariant-others_judged-loop-other : goal.invariant-others_judged-loop-other
invariant-others_judged-loop-other l = record {
  found : l.first ≡ first_of (flat_map (else_if_judged (at l.env l.initial.bound.items)) (take l.other-index l.others));
  kept : l.bound.items ≡ l.initial.bound.items;
}
