use Rattle.std.proofs.Common.{List, sym, ap, subst, ◌∙◌}
use Rattle.ctl_mail.specs.declared.act.MailAct.{MailAct}
use Rattle.ctl_mail.specs.declared.last_arrivals.LastArrival.{LastArrival}
use Rattle.ctl_mail.specs.Log.{ArrivalsRise, kept_at, newer_network}
use Rattle.ctl_mail.proofs.InPlace.{kept-with, written-rises}
use Rattle.ctl_mail.proofs.last_arrivals.keep_act.Goals as goal

pub returns-in-NetworkLast-clause-rise : goal.returns-in-NetworkLast-clause-rise
returns-in-NetworkLast-clause-rise c =
    let l : LastArrival = record { network = c.in-NetworkLast.network; receiver = c.in-NetworkLast.receiver; arrival = c.in-NetworkLast.arrival } in
    subst ArrivalsRise (sym c.write.ensures.after) (written-rises c.args.arrivals.now.items l c.requires.rise)

pub returns-in-NetworkLast-clause-kept : goal.returns-in-NetworkLast-clause-kept
returns-in-NetworkLast-clause-kept c = λ network receiver.
    let l : LastArrival = record { network = c.in-NetworkLast.network; receiver = c.in-NetworkLast.receiver; arrival = c.in-NetworkLast.arrival } in
    ap (λ (xs : List LastArrival). kept_at network receiver xs) c.write.ensures.after
    ∙ (kept-with network receiver c.args.arrivals.now.items l
    ∙ ap (λ (act : MailAct). newer_network network receiver (kept_at network receiver c.args.arrivals.now.items) act) (sym c.in-NetworkLast.is))
