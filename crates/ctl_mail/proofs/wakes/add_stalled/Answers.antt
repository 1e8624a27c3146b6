use Rattle.std.proofs.Common.{OnOk, sym, subst}
use Rattle.ctl_mail.specs.declared.moves.Waking.{Waking}
use Rattle.ctl_mail.specs.Prelude.{Adds, IsWokenKept, told_by}
use Rattle.ctl_mail.proofs.wakes.add_stalled.Goals as goal

pub returns-in-Line : goal.returns-in-Line
returns-in-Line c =
    subst (λ (w : Waking). OnOk c.add_under.result (Adds c.args.numbers.now.items (IsWokenKept c.args.stalls.now.kept (told_by c.args.changes.now) w) c.add_under.new.numbers.items))
    (sym c.in-Line.is) c.add_under.ensures

pub returns-in-All : goal.returns-in-All
returns-in-All c =
    subst (λ (w : Waking). OnOk c.add_all.result (Adds c.args.numbers.now.items (IsWokenKept c.args.stalls.now.kept (told_by c.args.changes.now) w) c.add_all.new.numbers.items))
    (sym c.in-All.is) c.add_all.ensures
