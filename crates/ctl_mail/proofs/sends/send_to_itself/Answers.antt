use Rattle.std.proofs.Common.{◌≡◌, ◌+◌, Bool, false, cond, nat_lt, Ok, Err, Result, sym, ap, ◌∙◌, arith}
use Rattle.std.proofs.lemmas.Bool.{le-ltb}
use Rattle.ruby_value.specs.declared.fault.Fault.{Fault}
use Rattle.ruby_value.specs.declared.fault.Fault.TheVariants.{Copies}
use Rattle.ctl_face.specs.Prelude.{Sending, copy_limit, local_copy}
use Rattle.ctl_mail.specs.Prelude.{mail_of, MailView, actor_of, view_after_sending, view_with_copies, Told, changed_mail, changed_view, told_by}
use Rattle.ctl_mail.proofs.sends.send_to_itself.Goals as goal

pub returns-clause-does : goal.returns-clause-does
returns-clause-does c = λ seed.
    let first = mail_of c.args.store.now in
    let old = told_by c.args.changes.now in
    let mail = changed_mail first old in
    let sending : Told → Sending = λ t. local_copy (actor_of c.args.me seed c.args.routes.now) c.args.ordered (changed_mail first t) c.args.buffer c.args.latency c.args.fields t.cycle in
    let same : told_by c.reserve_copies.new.self ≡ old = c.in_ok-reserve_copies.ensures.same in
    let few : nat_lt copy_limit (mail.copies + 1) ≡ false = le-ltb copy_limit (mail.copies + 1) (omega (arith, c.requires.may.copies_left, c.if-changes-eq4096.false, ap (λ k. k.copies) c.requires.changes.1.counts)) in
    let ok : MailView → Result MailView Fault = λ v. Ok v in
    ap (λ (b : Bool). view_after_sending c.args.me (changed_view first old) (cond b (Err Copies) (Ok (sending old)))) few
    ∙ ap ok
    (ap (λ (t : Told). view_with_copies c.args.me (changed_view first t) (sending t)) (sym same) ∙ sym (c.copy_to_itself.ensures.after seed))
