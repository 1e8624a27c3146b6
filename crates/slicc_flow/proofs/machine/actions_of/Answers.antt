use Rattle.std.proofs.Common.{ap, map, ◌∙◌}
use Rattle.slicc_plan.specs.Prelude.{bodies_of, transitions_of}
use Rattle.slicc_flow.specs.Prelude.{written_list, checks_with, transition_checks}
use Rattle.slicc_flow.proofs.machine.actions_of.Goals as goal

pub returns-clause-actions : goal.returns-clause-actions
returns-clause-actions c =
    c.in_ok-actions.ensures ∙ ap (λ ws. bodies_of c.args.names.now (written_list ws)) c.deref.ensures
    ∙ ap (bodies_of c.args.names.now) c.in_ok-numbers.ensures.list

pub returns-clause-checks : goal.returns-clause-checks
returns-clause-checks c =
    c.in_ok-checks.ensures
    ∙ ap (λ names. map (transition_checks names c.deref-2.result.now) (transitions_of c.args.m.now)) c.in_ok-numbers.ensures.names
    ∙ ap (λ bodies. checks_with bodies c.args.m.now) (c.deref-2.ensures ∙ returns-clause-actions c)
