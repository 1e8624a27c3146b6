use Rattle.std.proofs.Common.{◌<◌, Some, sym, subst}
use Rattle.std.specs.Option.{option_copied}
use Rattle.ruby_value.specs.declared.message.MsgNo.{MsgNo}
use Rattle.ctl_mail.specs.Prelude.{IsOut, told_by}
use Rattle.ctl_mail.proofs.Fronts.{Reached, falls, reached-front, reached-next, steps_from}
use Rattle.ctl_mail.proofs.reads.first_left.Goals as goal

pub loop-next-init : goal.loop-next-init
loop-next-init c =
    let changes = c.args.changes.now in
    subst (Reached c.args.queue.now.kept changes.cycle (IsOut (told_by changes))) (sym c.front-next.ensures.value)
    (reached-front c.args.queue.now.kept changes.cycle (IsOut (told_by changes)))

pub loop-next-smaller : goal.loop-next-smaller
loop-next-smaller c =
    let messages = c.args.queue.now.kept in
    subst (λ o. steps_from messages (option_copied c.next_after-next.result) < steps_from messages (option_copied o)) (sym c.in-Some.is)
    (subst (λ o. steps_from messages o < steps_from messages (Some c.in-Some.m.now)) (sym c.next_after-next.ensures)
    (falls messages c.args.changes.now.cycle c.in-Some.m.now))

pub loop-next-preserved : goal.loop-next-preserved
loop-next-preserved c =
    let messages = c.args.queue.now.kept in
    let changes = c.args.changes.now in
    let Out : MsgNo → Type 0 = IsOut (told_by changes) in
    let gone : Out c.in-Some.m.now.number = c.is_out.ensures.0 c.if-not-is_out.false in
    subst (Reached messages changes.cycle Out) (sym c.next_after-next.ensures)
    (reached-next messages changes.cycle Out c.in-Some.m.now gone
    (subst (λ o. Reached messages changes.cycle Out (option_copied o)) c.in-Some.is c.loop-next.invariant))
