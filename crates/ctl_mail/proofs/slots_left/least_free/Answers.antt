use Rattle.std.proofs.Common.{ℕ, Bool, cond, Option, List, get_or, sym, ap, ◌∙◌}
use Rattle.std.proofs.lemmas.List.{take_all}
use Rattle.ctl_face.specs.Prelude.{free_of, leads_to}
use Rattle.ctl_mail.specs.Prelude.{actor_of, lesser, mail_after}
use Rattle.ctl_mail.proofs.Lends.{least-further, least_where}
use Rattle.ctl_mail.proofs.slots_left.least_free.Goals as goal

pub with_slot-least-requires-clause-size : goal.with_slot-least-requires-clause-size
with_slot-least-requires-clause-size c = c.requires.sizes c.loop-slot.slot-index (0, 0, 0) c.loop-slot-test.true

pub loop-slot-preserved : goal.loop-slot-preserved
loop-slot-preserved c = λ seed.
    let slots = c.args.slots.now in
    let i = c.loop-slot.slot-index in
    let s : ℕ × ℕ × ℕ = get_or slots i (0, 0, 0) in
    let p : ℕ × ℕ × ℕ → Bool = leads_to (actor_of c.args.me seed c.args.routes.now) c.args.buffer c.args.place in
    let f : ℕ × ℕ × ℕ → ℕ = free_of (mail_after c.args.store.now c.args.changes.now) c.args.changes.now.cycle in
    c.with_slot-least.ensures seed
    ∙ (ap (λ (o : Option ℕ). cond (p s) (lesser o (f s)) o) (c.loop-slot.invariant seed) ∙ sym (least-further p f slots i (0, 0, 0) c.loop-slot-test.true))

pub returns : goal.returns
returns c = λ seed.
    let slots = c.args.slots.now in
    let p : ℕ × ℕ × ℕ → Bool = leads_to (actor_of c.args.me seed c.args.routes.now) c.args.buffer c.args.place in
    let f : ℕ × ℕ × ℕ → ℕ = free_of (mail_after c.args.store.now c.args.changes.now) c.args.changes.now.cycle in
    c.loop-slot.invariant seed ∙ ap (λ (xs : List (ℕ × ℕ × ℕ)). least_where p f xs) (take_all c.loop-slot.slot-index slots c.loop-slot-test.false)
