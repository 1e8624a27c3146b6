-- What is broken by one attribute, of which each is judged alone.
use Rattle.std.specs.Prelude.{ℕ, Bool, cond, Option, None, Some, List, [], ◌∷◌}
use Rattle.slicc_ast.specs.declared.tree.span.Span.{Span}
use Rattle.slicc_ast.specs.declared.tree.declaration.Pair.{Pair}
use Rattle.slicc_ast.specs.declared.tree.declaration.PairValue.{PairValue}
use Rattle.slicc_plan.specs.declared.broken.Broken.{Broken}
use Rattle.slicc_plan.specs.Prelude.{Attribute, attribute_in, bad_value}

abbrev pub told_bad : Bool → Span → List Broken
told_bad is_right place = cond is_right [] (bad_value place ∷ [])

abbrev pub bad_attribute : (PairValue → Bool) → Option Attribute → List Broken
bad_attribute is_right None = []
bad_attribute is_right (Some a) = told_bad (is_right a.value) a.place

abbrev pub bad_pair : List ℕ → (PairValue → Bool) → Pair → List Broken
bad_pair key is_right p = bad_attribute is_right (attribute_in key p)
