use Rattle.std.proofs.Common.{ap, ◌∙◌}
use Rattle.std.specs.FinMap as map
use Rattle.sequencer.specs.Prelude.{outstanding_of}
use Rattle.sequencer.proofs.sequencer.Sequencer.request.Goals as goal

pub returns-clause-value : goal.returns-clause-value
returns-clause-value c =
    rw (← c.self.view_is) (c.request_in.ensures.value ∙ ap (λ xs. map.get (outstanding_of xs) c.args.line) c.deref.ensures.value)
