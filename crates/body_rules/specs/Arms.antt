-- `else if` with what follows it, taken from the lists that a tree keeps them in, and the `return` statements that are wrong.
use Rattle.std.specs.Prelude.{Bool, not, cond, List, filter, flat_map, map}
use Rattle.std.specs.List.{list_any}
use Rattle.slicc_ast.specs.declared.tree.span.Span.{Span}
use Rattle.slicc_ast.specs.declared.tree.statement.ElseIf.{ElseIf}
use Rattle.slicc_plan.specs.declared.broken.Broken.{Broken}
use Rattle.slicc_plan.specs.Prelude.{ReturnAt, ends, no_return, returns_in}

abbrev pub arm_ends : ElseIf → Bool
arm_ends e = list_any ends e.then.statements

abbrev pub arm_returns : ElseIf → List ReturnAt
arm_returns e = flat_map returns_in e.then.statements

abbrev pub return_at : Bool → Span → ReturnAt
return_at has_value place = record { has_value = has_value; place = place }

-- of these `return` statements those that have a value though none is wanted, or none though one is
abbrev pub wrong_among : Bool → List ReturnAt → List Broken
wrong_among is_wanted returns =
    map (λ (r : ReturnAt). no_return r.place)
    (filter (λ (r : ReturnAt). cond is_wanted (not r.has_value) r.has_value) returns)
