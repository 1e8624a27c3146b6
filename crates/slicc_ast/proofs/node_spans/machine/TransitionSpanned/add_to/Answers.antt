use Rattle.std.proofs.Common.{rules, ◌≡◌, ◌∷◌, ◌++◌, ◌∙◌, [], ap, append-nil}
use Rattle.std.specs.List.{flat_map}
use Rattle.std.proofs.lemmas.Result.{on_ok_weaker}
use Rattle.slicc_ast.specs.declared.tree.name.Name.{Name}
use Rattle.slicc_ast.specs.Prelude.{pair_list, next_parts, none, spans_of, spans_in}
use Rattle.slicc_ast.specs.Machines.{names, transition}
use Rattle.slicc_ast.proofs.SpansOfParts.{names_behind, next_behind, action_list_spans, added_transition}
use Rattle.slicc_ast.proofs.node_spans.machine.TransitionSpanned.add_to.Goals as goal

pub returns : goal.returns
returns c =
    let t = c.args.self.now in
    let same : spans_of (transition t) ≡ t.span ∷ (spans_in (names t.states none) ++ (spans_in (names t.events none) ++ (spans_in (next_parts t.next none) ++ ((t.pairs.span ∷ spans_in (pair_list t.pairs.items)) ++ flat_map (λ (n : Name). n.span ∷ []) t.actions)))) =
    search (rules, names_behind, next_behind, action_list_spans, append-nil) in
    on_ok_weaker c.add_each.result
    (λ after. added_transition c.args.spans.now t.span _ _ _ _ _ _ _ _ _ _ _ _
    c.in_ok-push.ensures.ok c.in_ok-add_names.ensures c.in_ok-add_names-2.ensures c.in_ok-add_next.ensures c.in_ok-add_pairs.ensures
    (after ∙ ap (λ xs. c.add_pairs.new.spans ++ flat_map (λ (n : Name). n.span ∷ []) xs) c.deref.ensures) same)
    c.add_each.ensures
