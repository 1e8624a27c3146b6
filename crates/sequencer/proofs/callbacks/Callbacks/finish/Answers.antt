use Rattle.sequencer.proofs.CallbackLog.{after-pushed, fit-pushed}
use Rattle.sequencer.proofs.callbacks.Callbacks.finish.Goals as goal

pub returns-clause-ok : goal.returns-clause-ok
returns-clause-ok c =
    after-pushed c.push.new.self c.args.self.now c.args.a c.args.sequencer.now.kept c.in_ok-push.ensures.ok

pub returns-clause-fit : goal.returns-clause-fit
returns-clause-fit c =
    λ fit. fit-pushed c.push.new.self c.args.self.now c.args.a c.args.sequencer.now.kept c.in_ok-push.ensures.ok c.requires fit
