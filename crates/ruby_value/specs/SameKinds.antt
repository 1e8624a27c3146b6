-- Whether two lists have equal kinds, place by place. The default members of enumerations don't count.
use Rattle.std.specs.Prelude.{Bool, true, false, List, [], ◌∷◌, ◌&&◌}
use Rattle.ruby_value.specs.declared.kind.Kind.{Kind}
use Rattle.ruby_value.specs.EqualKinds.{equal_kinds}

abbrev pub same_kinds : List Kind → List Kind → Bool
same_kinds [] [] = true
same_kinds (a ∷ rest_a) (b ∷ rest_b) = equal_kinds a b && same_kinds rest_a rest_b
same_kinds _ _ = false
