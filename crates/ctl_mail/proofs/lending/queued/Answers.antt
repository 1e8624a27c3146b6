use Rattle.std.proofs.Common.{◌≡◌, ◌∙◌, List, None, Some, slice_get, refl, sym, ap}
use Rattle.std.specs.List.{find}
use Rattle.std.specs.Option.{option_copied}
use Rattle.ruby_value.specs.declared.message.Message.{Message}
use Rattle.ruby_value.specs.Prelude.{same_number}
use Rattle.ctl_mail.proofs.Edits.{queue-at, queue-none}
use Rattle.ctl_mail.proofs.lending.queued.Goals as goal

pub returns-in-Some : goal.returns-in-Some
returns-in-Some c =
    let there : slice_get c.args.buffers.now c.args.at.buffer ≡ Some c.in-Some.queue.now = sym c.buffer_at.ensures ∙ ap option_copied c.in-Some.is in
    c.find.ensures
    ∙ ap (λ (xs : List Message). find (λ (m : Message). same_number m.number c.args.at.number) xs)
    (sym (queue-at c.args.buffers.now c.args.at.buffer c.args.at.buffer c.in-Some.queue.now refl there))

pub returns-in-None : goal.returns-in-None
returns-in-None c =
    let there : slice_get c.args.buffers.now c.args.at.buffer ≡ None = sym c.buffer_at.ensures ∙ ap option_copied c.in-None.is in
    ap (λ (xs : List Message). find (λ (m : Message). same_number m.number c.args.at.number) xs)
    (sym (queue-none c.args.buffers.now c.args.at.buffer c.args.at.buffer refl there))
