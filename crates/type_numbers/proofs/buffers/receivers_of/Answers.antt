use Rattle.std.proofs.Common.{◌≡◌, ◌≤◌, List, Some, ap, arith, filter, length, position, subst, sym, ◌∙◌}
use Rattle.slicc_ast.specs.declared.tree.declaration.Member.{Member}
use Rattle.slicc_plan.specs.Prelude.{member, is_field, receivers_field, is_destination}
use Rattle.declared_types.specs.declared.lent.KnownType.{KnownType}
use Rattle.declared_types.specs.Prelude.{scope_of, type_of}
use Rattle.type_numbers.specs.Prelude.{IsOfFewFields, trees_of}
use Rattle.type_numbers.proofs.Lists.{numbered_within, position_within}
use Rattle.type_numbers.proofs.buffers.receivers_of.Goals as goal

pub kept-requires : goal.kept-requires
kept-requires c =
    let found = is_destination (trees_of c.args.types.now) (scope_of c.in-Structure.scope) in
    let fields = filter (λ (m : Member). is_field (member m)) c.deref.result.now in
    let few : length (filter (λ (m : Member). is_field (member m)) c.in-Structure.s.now.members) ≤ 64 = subst (λ (t : KnownType). IsOfFewFields (type_of t)) c.in-Structure.is c.requires in
    let same : length fields ≡ length (filter (λ (m : Member). is_field (member m)) c.in-Structure.s.now.members) = ap (λ (ms : List Member). length (filter (λ (m : Member). is_field (member m)) ms)) c.deref.ensures in
    numbered_within c.destination_among.result (length fields) (omega (arith, few, same)) (position_within found fields c.destination_among.result c.destination_among.ensures)

pub returns-in-Structure : goal.returns-in-Structure
returns-in-Structure c =
    let trees = trees_of c.args.types.now in
    let scope = scope_of c.in-Structure.scope in
    c.kept.ensures ∙ c.destination_among.ensures
    ∙ ap (λ (ms : List Member). position (is_destination trees scope) (filter (λ (m : Member). is_field (member m)) ms)) c.deref.ensures
    ∙ ap (λ (t : KnownType). receivers_field trees (Some (type_of t))) (sym c.in-Structure.is)
