use Rattle.std.proofs.Common.{◌≡◌, ◌==◌, ◌≤◌, ◌∙◌, [], ℕ, true, List, Contains, length, vec_len, sym, subst, arith}
use Rattle.std.proofs.lemmas.Bool.Decides.{nat_tests}
use Rattle.std.specs.Option.{option_copied}
use Rattle.ruby_value.specs.declared.message.MsgNo.{MsgNo}
use Rattle.ctl_face.proofs.Held.{nothing-there}
use Rattle.ctl_mail.specs.Prelude.{IsBack, IsBackAmong, IsLeast, IsLeftIn, Queues, queue_of, IsOut, told_by}
use Rattle.ctl_mail.proofs.Acts.{none-there}
use Rattle.ctl_mail.proofs.Firsts.{among-all, least-first, least-of-two}
use Rattle.ctl_mail.proofs.reads.first_ready.Goals as goal

zero-by : (n : ℕ) → (n == 0) ≡ true → n ≡ 0
zero-by n is = grind (arith, nat_tests, is)

pub returns-then-is_empty : goal.returns-then-is_empty
returns-then-is_empty c =
    let store = c.args.store.now in
    let told = told_by c.args.changes.now in
    let zero : vec_len c.args.changes.now.woken ≡ 0 = zero-by (vec_len c.args.changes.now.woken) (sym c.is_empty.ensures ∙ c.if-is_empty.true) in
    let few : length told.acts.woken ≤ 0 = omega arith in
    let none : told.acts.woken ≡ [] = none-there told.acts.woken few in
    least-first (IsLeftIn (queue_of store.buffers.items c.args.buffer) told.cycle (IsOut told)) (IsBack store.stalls.kept told c.args.buffer) (option_copied c.first_of-queued.result)
    (λ m back.
    nothing-there m.number
    (subst (λ (ns : List MsgNo). Contains ns m.number) none (c.requires.0.back (record { line = back.line; message = m }) back.held back.now.free.back)))
    (subst (λ (xs : Queues). IsLeast (IsLeftIn (queue_of xs c.args.buffer) told.cycle (IsOut told)) (option_copied c.first_of-queued.result)) c.deref.ensures.value c.first_of-queued.ensures)

pub returns : goal.returns
returns c =
    let store = c.args.store.now in
    let told = told_by c.args.changes.now in
    subst (IsLeast _) (sym c.first_of_two.ensures)
    (least-of-two (IsLeftIn (queue_of store.buffers.items c.args.buffer) told.cycle (IsOut told)) (IsBack store.stalls.kept told c.args.buffer)
    (option_copied c.first_of-queued.result) (option_copied c.first_among-back.result)
    (subst (λ (xs : Queues). IsLeast (IsLeftIn (queue_of xs c.args.buffer) told.cycle (IsOut told)) (option_copied c.first_of-queued.result)) c.deref.ensures.value c.first_of-queued.ensures)
    (among-all store.stalls.kept told c.args.buffer told.acts.woken (λ m back. c.requires.0.back (record { line = back.line; message = m }) back.held back.now.free.back)
    (option_copied c.first_among-back.result)
    (subst (λ (ns : List MsgNo). IsLeast (IsBackAmong ns store.stalls.kept told c.args.buffer) (option_copied c.first_among-back.result)) c.deref-2.ensures.value c.first_among-back.ensures)))
