use Rattle.std.proofs.Common.{◌≡◌, drop, map, find}
use Rattle.slicc_ast.specs.declared.tree.declaration.Symbol.{Symbol}
use Rattle.slicc_plan.specs.Prelude.{is_among}
use Rattle.expression_types.proofs.members.has_symbol.Given as goal

abbrev pub invariant-loop-s : goal.invariant-loop-s
invariant-loop-s l = is_among (map (λ (s : Symbol). s.name.text) l.members) l.text ≡ is_among (map (λ (s : Symbol). s.name.text) (drop l.s-index l.members)) l.text
