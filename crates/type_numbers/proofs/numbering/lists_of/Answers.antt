use Rattle.std.proofs.Common.{◌≡◌, All, List, ap, map, subst, sym, ◌∙◌}
use Rattle.slicc_plan.specs.Prelude.{ScopedDeclaration, declared_enumerations, declared_structures}
use Rattle.slicc_plan.proofs.Few.{few_types}
use Rattle.type_numbers.specs.Prelude.{HasFewMembers, default_of, scoped_of}
use Rattle.type_numbers.proofs.Lists.{few_seen}
use Rattle.type_numbers.proofs.Small.{members_few}
use Rattle.type_numbers.proofs.numbering.lists_of.Goals as goal

pub defaults_of-requires : goal.defaults_of-requires
defaults_of-requires c =
    let trees = c.args.scopes.now.trees.now in
    let seen : map scoped_of c.deref.result.now ≡ declared_enumerations trees = ap (map scoped_of) c.deref.ensures ∙ c.in_ok-enumerations.ensures in
    subst (λ (ds : List ScopedDeclaration). All (λ (d : ScopedDeclaration). HasFewMembers d.declaration) ds) (sym seen) (members_few trees c.requires)

pub returns : goal.returns
returns c =
    let trees = c.args.scopes.now.trees.now in
    let few = few_types trees c.requires.of_declarations in
    record {
      machines = c.in_ok-machines.ensures;
      enumerations = c.in_ok-enumerations.ensures;
      structures = c.in_ok-structures.ensures;
      defaults = c.in_ok-defaults.ensures ∙ ap (map default_of) (ap (map scoped_of) c.deref.ensures ∙ c.in_ok-enumerations.ensures);
      few_enumerations = few_seen scoped_of c.in_ok-enumerations.enumerations (declared_enumerations trees) 16380 c.in_ok-enumerations.ensures few.enumerations;
      few_structures = few_seen scoped_of c.in_ok-structures.structures (declared_structures trees) 16384 c.in_ok-structures.ensures few.structures;
    }
