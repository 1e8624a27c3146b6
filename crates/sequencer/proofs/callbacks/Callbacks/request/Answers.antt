use Rattle.std.proofs.Common.{◌≡◌, Bool, true, false, cond, None, sym, ap, ◌∙◌}
use Rattle.ruby_value.specs.Prelude.{request_for}
use Rattle.sequencer.proofs.CallbackLog.{finishes, request-after}
use Rattle.sequencer.proofs.callbacks.Callbacks.request.Goals as goal

pub returns-then-has_line-clause-value : goal.returns-then-has_line-clause-value
returns-then-has_line-clause-value c =
    let log = c.self.inside.log.items in
    let r = c.args.sequencer.now.kept in
    let is : finishes c.args.line log ≡ true = sym (c.has_line.ensures ∙ ap (finishes c.args.line) c.deref.ensures.value) ∙ c.if-has_line.true in
    rw (← c.self.view_is) (sym (request-after log r c.args.line ∙ ap (λ (b : Bool). cond b None (request_for r c.args.line)) is))

pub returns-clause-value : goal.returns-clause-value
returns-clause-value c =
    let log = c.self.inside.log.items in
    let r = c.args.sequencer.now.kept in
    let is : finishes c.args.line log ≡ false = sym (c.has_line.ensures ∙ ap (finishes c.args.line) c.deref.ensures.value) ∙ c.if-has_line.false in
    rw (← c.self.view_is)
    (c.request.ensures.value ∙ sym (request-after log r c.args.line ∙ ap (λ (b : Bool). cond b None (request_for r c.args.line)) is))
