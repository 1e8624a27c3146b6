use Rattle.std.proofs.Common.{◌+◌, Ok, sym, ap, subst, ◌∙◌}
use Rattle.ctl_mail.specs.Prelude.{mail_of, AreOf, changed_view, told_by}
use Rattle.ctl_mail.proofs.Acts.{are-of-again, does-again}
use Rattle.ctl_mail.proofs.scan.again.Goals as goal

pub returns-clause-does : goal.returns-clause-does
returns-clause-does c =
    let mail = mail_of c.args.store.now in
    ap Ok (does-again mail (told_by c.args.changes.now) ∙ ap (changed_view mail) (sym c.in_ok-keep_again.ensures.ok))

pub returns-clause-changes : goal.returns-clause-changes
returns-clause-changes c =
    subst (AreOf c.args.store.now) (sym c.in_ok-keep_again.ensures.ok)
    (are-of-again c.args.store.now (told_by c.args.changes.now) (c.args.changes.now.cycle + 1) c.requires.changes)
