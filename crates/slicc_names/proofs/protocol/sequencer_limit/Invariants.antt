use Rattle.std.proofs.Common.{◌≡◌, flat_map, take}
use Rattle.declared_types.specs.Prelude.{declaration_of, scope_at}
use Rattle.slicc_names.specs.Prelude.{found_after, is_sequencer_in, place_if}
use Rattle.slicc_names.specs.declared.count.Found.TheVariants.{Left}
use Rattle.slicc_names.proofs.protocol.sequencer_limit.Given as goal

abbrev pub invariant-loop-d : goal.invariant-loop-d
invariant-loop-d l = l.found ≡ found_after (Left 1) (flat_map (λ d. place_if (is_sequencer_in l.scopes.trees.now (scope_at l.scopes.trees.now l.number)) (declaration_of d)) (take l.d-index l.declarations))
