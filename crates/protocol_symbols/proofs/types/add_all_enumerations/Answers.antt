use Rattle.std.proofs.Common.{All, List, ap, append_assoc, map, rules, subst, sym, ◌∙◌}
use Rattle.slicc_plan.specs.Prelude.{ScopedDeclaration}
use Rattle.type_numbers.specs.Prelude.{HasFewMembers, scoped_of, trees_of}
use Rattle.type_numbers.proofs.Small.{members_few}
use Rattle.protocol_symbols.proofs.types.add_all_enumerations.Goals as goal

pub returns : goal.returns
returns c = search (rules, append_assoc)

pub add_enumerations-requires-clause-members : goal.add_enumerations-requires-clause-members
add_enumerations-requires-clause-members c =
    let trees = trees_of c.args.types.now in
    subst (λ (ds : List ScopedDeclaration). All (λ (d : ScopedDeclaration). HasFewMembers d.declaration) ds) (sym (ap (map scoped_of) c.deref.ensures ∙ c.requires.enumerations)) (members_few trees c.requires.accepted)
