use Rattle.std.proofs.Common.{rules, ◌≡◌, ◌∷◌, ◌++◌, subst, append-nil}
use Rattle.std.specs.List.{flat_map}
use Rattle.std.proofs.lemmas.Result.{on_ok_weaker}
use Rattle.slicc_ast.specs.Prelude.{pair_list, decl, spans_of, spans_in}
use Rattle.slicc_ast.specs.Machines.{machine, parameter}
use Rattle.slicc_ast.proofs.SpansOfParts.{type_spans, parameter_list_spans, decl_list_spans, added_machine}
use Rattle.slicc_ast.proofs.node_spans.machine.MachineSpanned.add_to.Goals as goal

pub returns : goal.returns
returns c =
    let m = c.args.self.now in
    let same : spans_of (machine m) ≡ m.span ∷ m.name.span ∷ ((m.pairs.span ∷ spans_in (pair_list m.pairs.items)) ++ (flat_map (λ p. spans_of (parameter p)) m.parameters ++ flat_map (λ d. spans_of (decl d)) m.declarations)) =
    search (rules, type_spans, parameter_list_spans, decl_list_spans, append-nil) in
    let three : c.add_each.new.spans ≡ c.add_pairs.new.spans ++ flat_map (λ p. spans_of (parameter p)) m.parameters =
    subst (λ xs. c.add_each.new.spans ≡ c.add_pairs.new.spans ++ flat_map (λ p. spans_of (parameter p)) xs) c.as_slice.ensures c.in_ok-add_each.ensures in
    on_ok_weaker c.add_each-2.result
    (λ after. added_machine c.args.spans.now m.span m.name.span (m.pairs.span ∷ spans_in (pair_list m.pairs.items)) (flat_map (λ p. spans_of (parameter p)) m.parameters) (flat_map (λ d. spans_of (decl d)) m.declarations)
    c.append.new.self c.add_pairs.new.spans c.add_each.new.spans c.add_each-2.new.spans (spans_of (machine m))
    c.in_ok-append.ensures.ok c.in_ok-add_pairs.ensures three
    (subst (λ xs. c.add_each-2.new.spans ≡ c.add_each.new.spans ++ flat_map (λ d. spans_of (decl d)) xs) c.as_slice-2.ensures after) same)
    c.add_each-2.ensures
