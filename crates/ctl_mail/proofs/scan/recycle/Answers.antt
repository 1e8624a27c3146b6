use Rattle.std.proofs.Common.{◌≡◌, ◌<◌, ◌+◌, true, Ok, Some, nat_abs, sym, ap, subst, ◌∙◌, arith}
use Rattle.std.specs.Option.{option_copied}
use Rattle.ctl_face.specs.Prelude.{front, is_latency}
use Rattle.ctl_mail.specs.Prelude.{mail_of, AreOf, Told, changed_mail, changed_view, told_by}
use Rattle.ctl_mail.proofs.Acts.{are-of-recycle, does-recycle, told_recycled}
use Rattle.ctl_mail.proofs.Latencies.{judged}
use Rattle.ctl_mail.proofs.scan.recycle.Goals as goal

pub returns-clause-does : goal.returns-clause-does
returns-clause-does c =
    let mail = mail_of c.args.store.now in
    let old = told_by c.args.changes.now in
    let m = c.in-Some-peek.m.now in
    let ok : (is_latency c.args.latency ≡ true) × (nat_abs c.args.latency ≡ c.in-Some.later) =
    judged c.args.latency c.latency_of.result c.in-Some.later c.ranges.latency c.latency_of.ensures.value c.in-Some.is in
    let is : front (changed_mail mail old) c.args.buffer old.cycle ≡ Some m = sym c.peek.ensures ∙ ap option_copied c.in-Some-peek.is in
    does-recycle mail old c.args.buffer c.args.latency m ok.0 is
    ∙ (ap (λ n. Ok (changed_view mail (told_recycled old c.args.buffer (old.cycle + n) m.number))) ok.1
    ∙ ap (λ (t : Told). Ok (changed_view mail t)) (sym c.in_ok-keep_recycle.ensures.ok))

pub returns-clause-changes : goal.returns-clause-changes
returns-clause-changes c =
    let mail = mail_of c.args.store.now in
    let old = told_by c.args.changes.now in
    let m = c.in-Some-peek.m.now in
    let is : front (changed_mail mail old) c.args.buffer old.cycle ≡ Some m = sym c.peek.ensures ∙ ap option_copied c.in-Some-peek.is in
    let later : old.cycle < old.cycle + c.in-Some.later = omega (arith, c.in-Some.ensures.bound.0) in
    subst (AreOf c.args.store.now) (sym c.in_ok-keep_recycle.ensures.ok) (are-of-recycle c.args.store.now old c.args.buffer (old.cycle + c.in-Some.later) m later is c.requires.changes)
