use Rattle.std.proofs.Common.{All, List, ap, append_assoc, map, rules, subst, sym, ◌∙◌}
use Rattle.slicc_plan.specs.Prelude.{ScopedDeclaration}
use Rattle.type_numbers.specs.Prelude.{NamesFewMembers, scoped_of, trees_of}
use Rattle.type_numbers.proofs.Small.{names_few}
use Rattle.protocol_symbols.proofs.types.add_all_structures.Goals as goal

pub returns : goal.returns
returns c = search (rules, append_assoc)

pub add_structures-requires-clause-scopes : goal.add_structures-requires-clause-scopes
add_structures-requires-clause-scopes c =
    let trees = trees_of c.args.types.now in
    subst (λ (ds : List ScopedDeclaration). All (λ (d : ScopedDeclaration). NamesFewMembers trees d.scope) ds) (sym (ap (map scoped_of) c.deref.ensures ∙ c.requires.structures)) (names_few trees c.requires.accepted)
