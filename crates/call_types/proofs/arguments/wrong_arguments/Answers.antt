use Rattle.std.proofs.Common.{◌+◌, ◌∙◌, ap, drop, map, slice_get}
use Rattle.std.specs.Option.{option_map}
use Rattle.slicc_plan.specs.Prelude.{wrong_arguments, earlier_of_both, first_of}
use Rattle.body_types.specs.Prelude.{environment_of, all_given_of, given_of, wanted_of}
use Rattle.call_types.specs.Prelude.{wrong_at}
use Rattle.call_types.proofs.Steps.{wrong_arguments_kept}
use Rattle.call_types.proofs.arguments.wrong_arguments.Goals as goal

pub loop-number-preserved : goal.loop-number-preserved
loop-number-preserved c =
    let env = environment_of c.args.env in
    let i = c.loop-number.number in
    let g = c.index-given-number.result in
    ap (λ o. earlier_of_both o (first_of (wrong_arguments env (map wanted_of (drop (i + 1) c.args.wanted.now)) (all_given_of (drop (i + 1) c.args.given.now))))) c.earlier_of_two-first.ensures
    ∙ wrong_arguments_kept env c.args.wanted.now c.args.given.now i g c.loop-number.first c.wrong_given-then.result _ c.loop-number-test.true
    (c.wrong_given-then.ensures ∙ ap (λ o. first_of (wrong_at env (option_map wanted_of o) (given_of g))) c.wanted_at.ensures ∙ ap (λ h. first_of (wrong_at env (option_map wanted_of (slice_get c.args.wanted.now i)) (given_of h))) c.index-given-number.is)
    c.loop-number.invariant
