use Rattle.std.proofs.Common.{◌≡◌, ℕ, Bool, cond, nat_abs, List, [], Option, Result, Some, Err, slice_get, unwrap_or, refl, sym, subst, ap, ◌∙◌}
use Rattle.ruby_value.specs.declared.fault.Fault.{Fault}
use Rattle.ruby_value.specs.declared.fault.Fault.TheVariants.{Latency}
use Rattle.ruby_value.specs.declared.setup.BufferPlace.TheVariants as place
use Rattle.ctl_face.specs.Prelude.{Actor, Sending, network_copies, receivers_of, sending_from}
use Rattle.ctl_mail.specs.Prelude.{mail_of, MailDoes, actor_of, view_after, view_after_sending, changed_view, told_by}
use Rattle.ctl_mail.proofs.Latencies.{judged, refused}
use Rattle.ctl_mail.proofs.Sending.{sends-on}
use Rattle.ctl_mail.proofs.Untold.{without_memory}
use Rattle.ctl_mail.proofs.sends.send.Goals as goal

pub returns-in-Local-clause-does : goal.returns-in-Local-clause-does
returns-in-Local-clause-does c =
    let first = mail_of c.args.store.now in
    let old = changed_view first (told_by c.args.changes.now) in
    let new = changed_view first (told_by c.send_to_itself.new.changes) in
    let machine = c.args.machine.now in
    let actor : Actor = actor_of c.args.me c.args.seed c.args.routes.now in
    let there : slice_get machine.buffers c.args.buffer ≡ Some c.in-Some-get.setup.now =
    ap (slice_get machine.buffers) (sym c.from.ensures) ∙ sym c.in-Some-get.ensures in
    let ok = judged c.args.latency c.latency_of.result c.in-Some.later c.ranges.latency c.latency_of.ensures.value c.in-Some.is in
    subst (λ (r : Result Sending Fault). MailDoes (view_after_sending c.args.me old r) c.send_to_itself.result old new)
    (sym (sends-on machine actor old.mail c.args.buffer c.args.latency c.args.fields c.args.changes.now.cycle c.in-Some.later c.in-Some-get.setup.now place.Local ok there c.in-Local.is))
    (c.send_to_itself.ensures.does c.args.seed)

pub returns-in_err-members-in-To-clause-does : goal.returns-in_err-members-in-To-clause-does
returns-in_err-members-in-To-clause-does c = without_memory _ _ _ _ c.from_residual.ensures.1 refl

pub returns-in_default-clause-does : goal.returns-in_default-clause-does
returns-in_default-clause-does c =
    let machine = c.args.machine.now in
    let actor : Actor = actor_of c.args.me c.args.seed c.args.routes.now in
    let old = view_after c.args.store.now c.args.changes.now in
    let no = refused c.args.latency c.latency_of.result c.ranges.latency c.latency_of.ensures.value c.in_default.is in
    (ap (λ (b : Bool). view_after_sending c.args.me old (cond b (sending_from (slice_get machine.buffers c.args.buffer) actor old.mail c.args.buffer (nat_abs c.args.latency) c.args.fields c.args.changes.now.cycle) (Err Latency))) no, refl)

pub returns-in-Some-2-clause-does : goal.returns-in-Some-2-clause-does
returns-in-Some-2-clause-does c =
    let old = view_after c.args.store.now c.args.changes.now in
    let new = view_after c.args.store.now c.send_to_all.new.changes in
    let machine = c.args.machine.now in
    let actor : Actor = actor_of c.args.me c.args.seed c.args.routes.now in
    let there : slice_get machine.buffers c.args.buffer ≡ Some c.in-Some-get.setup.now =
    ap (slice_get machine.buffers) (sym c.from.ensures) ∙ sym c.in-Some-get.ensures in
    let ok = judged c.args.latency c.latency_of.result c.in-Some.later c.ranges.latency c.latency_of.ensures.value c.in-Some.is in
    let members : c.in-Some-2.members ≡ receivers_of c.in-To.destination c.args.fields =
    ap (λ (o : Option (List ℕ)). unwrap_or o []) (sym c.in-Some-2.is) ∙ c.in_ok-members-in-To.ensures in
    subst (λ (r : Result Sending Fault). MailDoes (view_after_sending c.args.me old r) c.send_to_all.result old new)
    (ap (λ (ms : List ℕ). network_copies actor c.in-To.network ms old.mail c.in-Some.later c.args.fields c.args.changes.now.cycle) members
    ∙ sym (sends-on machine actor old.mail c.args.buffer c.args.latency c.args.fields c.args.changes.now.cycle c.in-Some.later c.in-Some-get.setup.now (place.To c.in-To.network c.in-To.destination) ok there c.in-To.is))
    c.send_to_all.ensures.does
