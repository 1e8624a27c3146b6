use Rattle.std.proofs.Common.{Bool, filter, flat_map, sym, ap, ◌∙◌}
use Rattle.std.proofs.lemmas.List.Folds.{flat_map-map}
use Rattle.declared_types.specs.Prelude.{declaration_of, declarations_of, scope_at}
use Rattle.slicc_plan.specs.Prelude.{Declaration, beyond, first_after}
use Rattle.slicc_names.specs.Prelude.{found_after, is_sequencer_in, place_if, told_found}
use Rattle.slicc_names.specs.declared.count.Found.TheVariants.{Left}
use Rattle.slicc_names.proofs.Counts.{beyond_passing, found_end, found_on}
use Rattle.slicc_names.proofs.protocol.sequencer_limit.Goals as goal

pub loop-d-preserved : goal.loop-d-preserved
loop-d-preserved c =
    found_on (λ d. place_if (is_sequencer_in c.args.scopes.now.trees.now (scope_at c.args.scopes.now.trees.now c.args.number)) (declaration_of d)) c.declarations-declarations.result.now c.loop-d.d-index c.d-item.result (Left 1) c.loop-d.found c.count-found.result
    c.loop-d-test.true c.d-item.is c.loop-d.invariant (c.count-found.ensures ∙ ap (found_after c.loop-d.found) c.sequencer_place.ensures)

pub returns : goal.returns
returns c =
    let test : Declaration → Bool = is_sequencer_in c.args.scopes.now.trees.now (scope_at c.args.scopes.now.trees.now c.args.number) in
    c.limit_at.ensures
    ∙ ap (λ f. first_after c.args.first (told_found f)) (found_end (λ d. place_if test (declaration_of d)) c.declarations-declarations.result.now c.loop-d.d-index (Left 1) c.loop-d.found c.loop-d-test.false c.loop-d.invariant)
    ∙ ap (λ ps. first_after c.args.first (told_found (found_after (Left 1) ps))) (sym (flat_map-map (place_if test) declaration_of c.declarations-declarations.result.now))
    ∙ ap (first_after c.args.first) (sym (beyond_passing test 1 (declarations_of c.declarations-declarations.result.now)))
    ∙ ap (λ ds. first_after c.args.first (beyond 1 (filter test ds))) c.declarations-declarations.ensures
