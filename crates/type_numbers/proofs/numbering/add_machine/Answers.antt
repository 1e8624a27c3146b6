use Rattle.std.proofs.Common.{◌≡◌, ◌++◌, List, OnOk, ap, filter, flat_map, map, subst, sym, ◌∙◌}
use Rattle.slicc_ast.specs.declared.tree.machine.Decl.{Decl}
use Rattle.slicc_plan.specs.Prelude.{named_declarations, within, ScopedDeclaration, made_in}
use Rattle.type_numbers.specs.Prelude.{has_sort, scoped_of}
use Rattle.type_numbers.proofs.Lists.{machine_types}
use Rattle.type_numbers.proofs.numbering.add_machine.Goals as goal

pub returns : goal.returns
returns c =
    let found = λ (d : Decl). filter (has_sort c.args.sort) (map (made_in (within c.args.m.now)) (named_declarations d)) in
    let Q : List ScopedDeclaration → Type 0 = λ ys. OnOk c.add_all_named.result (map scoped_of c.add_all_named.new.list ≡ map scoped_of c.args.list.now ++ ys) in
    subst Q (ap (flat_map found) c.deref.ensures ∙ sym (machine_types c.args.sort c.args.m.now)) c.add_all_named.ensures
