use Rattle.std.proofs.Common.{◌≡◌, [], subst}
use Rattle.slicc_plan.specs.Prelude.{bad_literal, bad_object_attributes, bad_values_of, parameter, type_in, within}
use Rattle.slicc_plan.proofs.Room.{right_none}
use Rattle.declared_types.specs.declared.lent.Declared.{Declared}
use Rattle.declared_types.specs.Prelude.{declaration_of}
use Rattle.type_numbers.specs.Prelude.{trees_of}
use Rattle.protocol_symbols.proofs.objects.add_object.Goals as goal

pub add_named-requires-clause-attributes : goal.add_named-requires-clause-attributes
add_named-requires-clause-attributes c =
    let trees = trees_of c.args.types.now in
    let scope = within c.args.m.now in
    let p = c.in-Parameter.p.now in
    let kept : bad_values_of trees scope (parameter p) ≡ [] =
    subst (λ (d : Declared). bad_values_of trees scope (declaration_of d) ≡ []) c.in-Parameter.is c.requires.values in
    right_none (bad_literal (type_in trees scope p.kind.text) p.literal) (bad_object_attributes (type_in trees scope p.kind.text) p.pairs) kept
