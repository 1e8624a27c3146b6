use Rattle.ruby_value.specs.declared.message.MsgNo.{MsgNo}
use Rattle.ctl_mail.specs.Prelude.{told_by}
use Rattle.ctl_mail.proofs.Founds.{under-all, under-more, under-none}
use Rattle.ctl_mail.proofs.wakes.add_under.Goals as goal

pub loop-number-init : goal.loop-number-init
loop-number-init c = under-none (told_by c.args.changes.now) c.args.line c.args.numbers.now.items c.under-under.result.now c.requires

pub loop-number-preserved : goal.loop-number-preserved
loop-number-preserved c =
    let d : MsgNo = record { sender = 0; count = 0 } in
    under-more (told_by c.args.changes.now) c.args.line c.under-under.result.now c.loop-number.number-index d c.loop-number-test.true
    c.args.numbers.now.items c.loop-number.numbers.items c.add_if_woken.new.numbers.items c.loop-number.invariant c.in_ok-add_if_woken.ensures

pub returns : goal.returns
returns c =
    under-all (told_by c.args.changes.now) c.args.line c.args.stalls.now.kept c.under-under.result.now c.loop-number.number-index c.under-under.ensures c.loop-number-test.false
    c.args.numbers.now.items c.loop-number.numbers.items c.loop-number.invariant
