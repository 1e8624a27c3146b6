use Rattle.std.proofs.Common.{◌≡◌, ◌∙◌, true, sym, ap}
use Rattle.std.specs.Option.{option_copied}
use Rattle.ctl_mail.specs.Prelude.{told_by}
use Rattle.ctl_mail.proofs.Firsts.{back-first, not-here, not-nearer, nowhere}
use Rattle.ctl_mail.proofs.reads.with_back.Goals as goal

pub returns-in_default : goal.returns-in_default
returns-in_default c =
    nowhere c.args.stalls.now.kept (told_by c.args.changes.now) c.args.buffer c.len-waiting.ensures.order c.args.number (option_copied c.args.first) (sym c.find.ensures ∙ ap option_copied c.in_default.is)

pub returns-then-not-is_nearer : goal.returns-then-not-is_nearer
returns-then-not-is_nearer c =
    not-nearer c.args.stalls.now.kept (told_by c.args.changes.now) c.args.buffer c.len-waiting.ensures.order c.args.number c.in-Some.s.now (option_copied c.args.first)
    (sym c.find.ensures ∙ ap option_copied c.in-Some.is) (sym c.is_nearer.ensures ∙ c.if-not-is_nearer.true)

pub returns-then-not-is_back : goal.returns-then-not-is_back
returns-then-not-is_back c =
    not-here c.args.stalls.now.kept (told_by c.args.changes.now) c.args.buffer c.len-waiting.ensures.order c.args.number c.in-Some.s.now (option_copied c.args.first)
    (sym c.find.ensures ∙ ap option_copied c.in-Some.is)
    (λ now. let is : c.is_back.result ≡ true = c.is_back.ensures.1 now in absurd (cc (is, c.if-not-is_back.true)))

pub returns : goal.returns
returns c =
    back-first c.args.stalls.now.kept (told_by c.args.changes.now) c.args.buffer c.len-waiting.ensures.order c.args.number c.in-Some.s.now (option_copied c.args.first)
    (sym c.find.ensures ∙ ap option_copied c.in-Some.is) (c.is_back.ensures.0 c.if-not-is_back.false) (sym c.is_nearer.ensures ∙ c.if-not-is_nearer.false)
