use Rattle.std.proofs.Common.{◌≡◌, ◌∷◌, ◌++◌, List, [], All, length, length-append, sym, subst, ap, arith}
use Rattle.std.proofs.lemmas.List.Elements.{All-push}
use Rattle.ruby_value.specs.declared.message.Message.{Message}
use Rattle.ruby_value.specs.Prelude.{Roomy}
use Rattle.ctl_mail.proofs.Edits.{all-empty}
use Rattle.ctl_mail.proofs.queues.empty_buffers.Goals as goal

pub loop-preserved : goal.loop-preserved
loop-preserved c =
    let items : c.push.new.self.items ≡ c.loop.buffers.items ++ c.new.result ∷ [] = c.in_ok-push.ensures.items in (
      omega (arith, ap length items, length-append c.loop.buffers.items (c.new.result ∷ []), c.loop.invariant.0),
      subst (All (λ (q : Roomy (List Message)). q.kept ≡ [])) (sym items) (All-push (λ (q : Roomy (List Message)). q.kept ≡ []) c.loop.buffers.items c.new.result c.loop.invariant.1 c.new.ensures),
    )

pub returns-clause-empty : goal.returns-clause-empty
returns-clause-empty c = all-empty c.loop.buffers.items c.loop.invariant.1
