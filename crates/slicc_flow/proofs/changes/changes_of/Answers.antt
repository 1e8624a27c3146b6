use Rattle.std.proofs.Common.{◌≡◌, ◌<◌, ◌∷◌, ◌∙◌, [], length, subst, ap, get_or}
use Rattle.slicc_ast.specs.declared.tree.span.Span.{Span}
use Rattle.slicc_plan.specs.Prelude.{first_after}
use Rattle.slicc_flow.proofs.FirstOf.{changes_in, changes_step}
use Rattle.slicc_flow.proofs.changes.changes_of.Goals as goal

pub loop-place-preserved : goal.loop-place-preserved
loop-place-preserved c =
    let below : c.loop-place.place-index < length c.args.b.now.changes = subst (λ xs. c.loop-place.place-index < length xs) c.as_slice-place-items.ensures c.loop-place-test.true in
    let none : Span = record { file = 0; start = 0; end = 0 } in
    changes_step c.args.machine c.args.b.now.changes c.loop-place.place-index none c.loop-place.first c.earlier_broken-first.result c.args.first
    below c.loop-place.invariant
    (c.earlier_broken-first.ensures ∙ ap (λ xs. first_after c.loop-place.first (changes_in c.args.machine (get_or xs c.loop-place.place-index none ∷ []))) c.as_slice-place-items.ensures)
