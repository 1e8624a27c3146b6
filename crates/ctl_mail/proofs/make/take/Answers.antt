use Rattle.std.proofs.Common.{◌≡◌, ◌<◌, ℕ, Option, None, Some, IfNone, sym, subst}
use Rattle.ruby_value.specs.declared.message.Message.{Message}
use Rattle.ctl_face.specs.Prelude.{mail_without}
use Rattle.ctl_mail.specs.declared.store.MailStore.{MailStore}
use Rattle.ctl_mail.specs.Prelude.{IsMail, IsNewIn, buffer_count, mail_of, room_of}
use Rattle.ctl_mail.proofs.Edits.{within-room}
use Rattle.ctl_mail.proofs.Makes.{either-way, some-both, some-weaker, taken-none, taken-out, taken-value}
use Rattle.ctl_mail.proofs.make.take.Goals as goal

abbrev Out : MailStore → MailStore → ℕ → Message → Type 0
Out old new buffer m = (mail_of new ≡ mail_without (mail_of old) m) × IsMail new × IsNewIn (mail_of new) m.number × (m.buffer ≡ buffer)

none-only : (A B : Type 0) {X : Type 0} (o : Option X) → IfNone o (A × B) → IfNone o A
none-only A B None is = is.0
none-only A B (Some x) is = tt

none-mail : (A B : Type 0) {X : Type 0} (o : Option X) → IfNone o (A × B) → IfNone o B
none-mail A B None is = is.1
none-mail A B (Some x) is = tt

pub returns-clause-value : goal.returns-clause-value
returns-clause-value c = taken-value c.args.store.now c.pop.new.buffers c.requires.mail c.pop.ensures.count c.args.buffer c.args.now c.pop.result c.pop.ensures.value

pub returns-clause-taken : goal.returns-clause-taken
returns-clause-taken c =
    let old = c.args.store.now in
    let new : MailStore = record old { buffers = c.pop.new.buffers } in
    some-weaker (Out old new c.args.buffer) (λ m. mail_of new ≡ mail_without (mail_of old) m) (λ m so. so.0) c.pop.result
    (taken-out old c.pop.new.buffers c.requires.mail c.pop.ensures.count c.args.buffer c.args.now c.pop.result c.pop.ensures.value c.pop.ensures.taken)

pub returns-clause-none : goal.returns-clause-none
returns-clause-none c = none-only (mail_of (record c.args.store.now { buffers = c.pop.new.buffers }) ≡ mail_of c.args.store.now) (IsMail (record c.args.store.now { buffers = c.pop.new.buffers })) c.pop.result (taken-none c.args.store.now c.pop.new.buffers c.requires.mail c.pop.ensures.count c.args.buffer c.pop.result c.pop.ensures.none)

pub returns-clause-mail : goal.returns-clause-mail
returns-clause-mail c =
    let old = c.args.store.now in
    let new : MailStore = record old { buffers = c.pop.new.buffers } in
    either-way {P = IsMail new} c.pop.result
    (some-weaker (Out old new c.args.buffer) (λ m. IsMail new) (λ m so. so.1) c.pop.result
    (taken-out old c.pop.new.buffers c.requires.mail c.pop.ensures.count c.args.buffer c.args.now c.pop.result c.pop.ensures.value c.pop.ensures.taken))
    (none-mail (mail_of new ≡ mail_of old) (IsMail new) c.pop.result (taken-none old c.pop.new.buffers c.requires.mail c.pop.ensures.count c.args.buffer c.pop.result c.pop.ensures.none))

pub returns-clause-new : goal.returns-clause-new
returns-clause-new c =
    let old = c.args.store.now in
    let new : MailStore = record old { buffers = c.pop.new.buffers } in
    some-weaker (Out old new c.args.buffer) (λ m. IsNewIn (mail_of new) m.number) (λ m so. so.2) c.pop.result
    (taken-out old c.pop.new.buffers c.requires.mail c.pop.ensures.count c.args.buffer c.args.now c.pop.result c.pop.ensures.value c.pop.ensures.taken)

pub returns-clause-place : goal.returns-clause-place
returns-clause-place c =
    let old = c.args.store.now in
    let new : MailStore = record old { buffers = c.pop.new.buffers } in
    some-weaker (λ m. Out old new c.args.buffer m × (0 < room_of c.pop.new.buffers.items c.args.buffer)) (λ m. 0 < room_of c.pop.new.buffers.items m.buffer)
    (λ m so. subst (λ b. 0 < room_of c.pop.new.buffers.items b) (sym so.0.3) so.1) c.pop.result
    (some-both (Out old new c.args.buffer) (λ m. 0 < room_of c.pop.new.buffers.items c.args.buffer) c.pop.result
    (taken-out old c.pop.new.buffers c.requires.mail c.pop.ensures.count c.args.buffer c.args.now c.pop.result c.pop.ensures.value c.pop.ensures.taken) c.pop.ensures.place)

pub returns-clause-home : goal.returns-clause-home
returns-clause-home c =
    let new : MailStore = record c.args.store.now { buffers = c.pop.new.buffers } in
    some-weaker (λ m. 0 < room_of new.buffers.items m.buffer) (λ m. m.buffer < buffer_count c.args.store.now)
    (λ m so. subst (λ n. m.buffer < n) c.pop.ensures.count (within-room new.buffers.items m.buffer so)) c.pop.result (returns-clause-place c)
