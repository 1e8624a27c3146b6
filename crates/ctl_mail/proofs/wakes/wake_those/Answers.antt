use Rattle.std.proofs.Common.{◌≡◌, Ok, List, sym, ap, subst, ◌∙◌}
use Rattle.ruby_value.specs.declared.message.MsgNo.{MsgNo}
use Rattle.ctl_mail.specs.Prelude.{mail_of, AreOf, changed_view, told_by}
use Rattle.ctl_mail.proofs.WakeActs.{are-of-wake, does-wake, told_woken}
use Rattle.ctl_mail.proofs.wakes.wake_those.Goals as goal

pub returns-clause-does : goal.returns-clause-does
returns-clause-does c =
    let store = c.args.store.now in
    let old = told_by c.args.changes.now in
    let numbers = c.in_ok-numbers.numbers.items in
    let is : told_by c.keep_woken.new.self ≡ told_woken old c.args.waking numbers =
    c.in_ok-keep_woken.ensures.ok ∙ ap (λ (ns : List MsgNo). told_woken old c.args.waking ns) c.deref.ensures.value in
    ap Ok (does-wake store old c.args.waking numbers c.requires.mail.holds c.requires.changes c.in_ok-numbers.ensures ∙ ap (changed_view (mail_of store)) (sym is))

pub returns-clause-changes : goal.returns-clause-changes
returns-clause-changes c =
    let store = c.args.store.now in
    let old = told_by c.args.changes.now in
    let numbers = c.in_ok-numbers.numbers.items in
    let is : told_by c.keep_woken.new.self ≡ told_woken old c.args.waking numbers =
    c.in_ok-keep_woken.ensures.ok ∙ ap (λ (ns : List MsgNo). told_woken old c.args.waking ns) c.deref.ensures.value in
    subst (AreOf store) (sym is) (are-of-wake store old c.args.waking numbers c.requires.mail.holds c.requires.changes c.in_ok-numbers.ensures)
