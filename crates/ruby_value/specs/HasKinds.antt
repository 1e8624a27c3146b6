-- Whether a list of values has these kinds, place by place: as many values as kinds, each one of its kind.
use Rattle.std.specs.Prelude.{Bool, true, false, List, [], ◌∷◌, ◌&&◌}
use Rattle.ruby_value.specs.declared.kind.Kind.{Kind}
use Rattle.ruby_value.specs.declared.value.Value.{Value}
use Rattle.ruby_value.specs.HasKind.{has_kind}

abbrev pub has_kinds : List Kind → List Value → Bool
has_kinds [] [] = true
has_kinds (k ∷ ks) (v ∷ vs) = has_kind k v && has_kinds ks vs
has_kinds _ _ = false
