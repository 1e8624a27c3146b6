use Rattle.std.proofs.Common.{◌≡◌, drop, map, find}
use Rattle.std.specs.List.{list_any}
use Rattle.std.specs.Str.{bytes_eq}
use Rattle.expression_types.proofs.members.has_fixed.Given as goal

abbrev pub invariant-loop-name : goal.invariant-loop-name
invariant-loop-name l = list_any (λ name. bytes_eq name.now l.text) l.members ≡ list_any (λ name. bytes_eq name.now l.text) (drop l.name-index l.members)
