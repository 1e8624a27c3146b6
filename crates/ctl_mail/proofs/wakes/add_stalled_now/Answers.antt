use Rattle.std.proofs.Common.{◌≡◌, ◌<◌, ◌≤◌, None, List, get_or, length, subst, arith}
use Rattle.ruby_value.specs.declared.message.MsgNo.{MsgNo}
use Rattle.ctl_mail.specs.Prelude.{Adds, IsWoken, told_by}
use Rattle.ctl_mail.proofs.Founds.{among-all, among-more, among-none}
use Rattle.ctl_mail.proofs.wakes.add_stalled_now.Goals as goal

pub loop-number-init : goal.loop-number-init
loop-number-init c = among-none (told_by c.args.changes.now) c.args.waking c.args.changes.now.stalled.items c.args.numbers.now.items c.requires

pub loop-number-preserved : goal.loop-number-preserved
loop-number-preserved c =
    let told = told_by c.args.changes.now in
    let numbers = c.args.changes.now.stalled.items in
    let i = c.loop-number.number-index in
    let d : MsgNo = record { sender = 0; count = 0 } in
    let within : i < length numbers = omega (arith, c.loop-number-test.true, c.args.changes.now.stalled.ok.0) in
    among-more told c.args.waking numbers i d within
    c.args.numbers.now.items c.loop-number.numbers.items c.add_if_woken.new.numbers.items c.loop-number.invariant
    (subst (λ (ns : List MsgNo). Adds c.loop-number.numbers.items (λ n. IsWoken told c.args.waking (get_or ns i d) None × (get_or ns i d ≡ n)) c.add_if_woken.new.numbers.items)
    c.deref-number-items.ensures.value c.in_ok-add_if_woken.ensures)

pub returns : goal.returns
returns c =
    let numbers = c.args.changes.now.stalled.items in
    let past : length numbers ≤ c.loop-number.number-index = omega (arith, c.loop-number-test.false, c.args.changes.now.stalled.ok.0) in
    among-all (told_by c.args.changes.now) c.args.waking numbers c.loop-number.number-index past c.args.numbers.now.items c.loop-number.numbers.items c.loop-number.invariant
