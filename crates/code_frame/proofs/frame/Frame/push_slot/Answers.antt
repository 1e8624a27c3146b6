use Rattle.code_frame.proofs.Windows.{pushed_word}
use Rattle.code_frame.proofs.frame.Frame.push_slot.Goals as goal

pub returns : goal.returns
returns c =
    pushed_word c.self.inside.words c.push.new.self c.args.s c.self.inside.apart.items c.in_ok-push.ensures.ok c.self.inside.base c.self.inside.floor c.self.invariant.0 c.self.invariant.1 c.args.self.now c.self.view_is c.requires
