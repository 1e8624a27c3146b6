use Rattle.std.proofs.Common.{sym, ◌∙◌}
use Rattle.std.proofs.lemmas.Bool.{eq-eqb, ne_eqb}
use Rattle.ctl_mail.specs.Prelude.{actor_of, told_by}
use Rattle.ctl_mail.proofs.Dequeues.{with-own-credit, with-posted-credit, without-credit}
use Rattle.ctl_mail.proofs.Places.{ok-then}
use Rattle.ctl_mail.proofs.scan.keep_dequeued.Goals as goal

pub returns-then-not-had_slot-clause-ok : goal.returns-then-not-had_slot-clause-ok
returns-then-not-had_slot-clause-ok c = λ seed.
    let old = told_by c.args.changes.now in
    ok-then c.keep_pop.result
    (λ is. is ∙ without-credit (actor_of c.args.me seed c.args.routes.now) c.args.buffer c.args.number old (sym (c.had_slot.ensures seed) ∙ c.if-not-had_slot.true))
    c.keep_pop.ensures.ok

pub returns-then-sender-me-clause-ok : goal.returns-then-sender-me-clause-ok
returns-then-sender-me-clause-ok c = λ seed.
    let old = told_by c.args.changes.now in
    ok-then c.keep_own_credit.result
    (λ is. is ∙ with-own-credit (actor_of c.args.me seed c.args.routes.now) c.args.buffer c.args.number old (sym (c.had_slot.ensures seed) ∙ c.if-not-had_slot.false) (eq-eqb c.args.number.sender c.args.me c.if-sender-me.true))
    c.keep_own_credit.ensures.ok

pub returns-clause-ok : goal.returns-clause-ok
returns-clause-ok c = λ seed.
    let old = told_by c.args.changes.now in
    ok-then c.keep_posted_credit.result
    (λ is. is ∙ with-posted-credit (actor_of c.args.me seed c.args.routes.now) c.args.buffer c.args.number old (sym (c.had_slot.ensures seed) ∙ c.if-not-had_slot.false) (ne_eqb c.args.number.sender c.args.me c.if-sender-me.false))
    c.keep_posted_credit.ensures.ok
