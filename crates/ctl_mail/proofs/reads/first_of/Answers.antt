use Rattle.std.proofs.Common.{◌≡◌, ◌∙◌, List, None, Some, slice_get, refl, sym, subst, ap}
use Rattle.std.specs.Option.{option_copied}
use Rattle.ruby_value.specs.declared.message.Message.{Message}
use Rattle.ctl_mail.specs.Prelude.{IsLeast, IsLeftIn, IsOut, told_by}
use Rattle.ctl_mail.proofs.Edits.{queue-at, queue-none}
use Rattle.ctl_mail.proofs.Fronts.{none-left}
use Rattle.ctl_mail.proofs.reads.first_of.Goals as goal

pub returns-in-Some : goal.returns-in-Some
returns-in-Some c =
    let changes = c.args.changes.now in
    let there : slice_get c.args.buffers.now c.args.buffer ≡ Some c.in-Some.queue.now = sym c.buffer_at.ensures ∙ ap option_copied c.in-Some.is in
    subst (λ (xs : List Message). IsLeast (IsLeftIn xs changes.cycle (IsOut (told_by changes))) (option_copied c.first_left.result))
    (sym (queue-at c.args.buffers.now c.args.buffer c.args.buffer c.in-Some.queue.now refl there)) c.first_left.ensures

pub returns-in-None : goal.returns-in-None
returns-in-None c =
    let changes = c.args.changes.now in
    let there : slice_get c.args.buffers.now c.args.buffer ≡ None = sym c.buffer_at.ensures ∙ ap option_copied c.in-None.is in
    λ m left.
    none-left changes.cycle (IsOut (told_by changes)) m
    (subst (λ (xs : List Message). IsLeftIn xs changes.cycle (IsOut (told_by changes)) m) (queue-none c.args.buffers.now c.args.buffer c.args.buffer refl there) left)
