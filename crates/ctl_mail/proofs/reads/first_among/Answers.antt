use Rattle.std.proofs.Common.{List, subst}
use Rattle.std.specs.Option.{option_copied}
use Rattle.std.proofs.lemmas.List.{take_all}
use Rattle.ruby_value.specs.declared.message.MsgNo.{MsgNo}
use Rattle.ctl_mail.specs.Prelude.{IsBackAmong, IsLeast, told_by}
use Rattle.ctl_mail.proofs.Firsts.{among-more, among-none}
use Rattle.ctl_mail.proofs.reads.first_among.Goals as goal

pub loop-number-init : goal.loop-number-init
loop-number-init c = among-none c.args.stalls.now.kept (told_by c.args.changes.now) c.args.buffer c.args.numbers.now

pub loop-number-preserved : goal.loop-number-preserved
loop-number-preserved c =
    let d : MsgNo = record { sender = 0; count = 0 } in
    among-more c.args.stalls.now.kept (told_by c.args.changes.now) c.args.buffer c.args.numbers.now c.loop-number.number-index d c.loop-number-test.true
    (option_copied c.loop-number.first) (option_copied c.with_back-first.result) c.loop-number.invariant c.with_back-first.ensures

pub returns : goal.returns
returns c =
    subst (λ (ns : List MsgNo). IsLeast (IsBackAmong ns c.args.stalls.now.kept (told_by c.args.changes.now) c.args.buffer) (option_copied c.loop-number.first))
    (take_all c.loop-number.number-index c.args.numbers.now c.loop-number-test.false) c.loop-number.invariant
