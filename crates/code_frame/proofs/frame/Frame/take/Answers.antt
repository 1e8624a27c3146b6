use Rattle.std.proofs.Common.{◌++◌, [], ◌∷◌, sym, ap, ◌∙◌}
use Rattle.code_frame.proofs.Windows.{next_off, same_rests}
use Rattle.code_frame.proofs.frame.Frame.take.Goals as goal

pub loop-i-preserved : goal.loop-i-preserved
loop-i-preserved c =
    let off = next_off c.args.self.now.stack c.loop-i._i c.pop.result c.pop.new.self.stack (sym c.loop-i.invariant.1 ∙ c.pop.ensures.stack) in (
      c.in_ok-push.ensures.items ∙ ap (λ l. l ++ c.pop.result ∷ []) c.loop-i.invariant.0 ∙ sym off.0,
      sym off.1,
      same_rests c.args.self.now c.loop-i.self c.pop.new.self c.loop-i.invariant.2 c.pop.ensures.rest,
    )
