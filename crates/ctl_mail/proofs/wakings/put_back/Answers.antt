use Rattle.std.proofs.Common.{◌≡◌, ◌≤◌, [], List, subst, length, inl, ⊎_elim, Contains, arith}
use Rattle.ruby_value.specs.declared.message.Message.{Message}
use Rattle.ctl_face.proofs.Held.{nothing-there}
use Rattle.ctl_mail.proofs.Acts.{none-there}
use Rattle.ctl_mail.proofs.Backs.{IsPutBack, put-back-one}
use Rattle.ctl_mail.proofs.Edits.{past-end}
use Rattle.ctl_mail.proofs.wakings.put_back.Goals as goal

pub loop-m-preserved : goal.loop-m-preserved
loop-m-preserved c =
    let old = c.args.buffers.now.items in
    let now = c.loop-m.buffers.items in
    let all = c.args.woken.items in
    put-back-one old now c.put.new.buffers.items all c.pop.new.self.items c.in-Some.m
    (subst (λ (xs : List Message). IsPutBack old now all xs) c.in-Some.ensures.items c.loop-m.invariant) c.put.ensures.after c.put.ensures.count c.put.ensures.room

pub returns-clause-queues : goal.returns-clause-queues
returns-clause-queues c buffer m =
    let has = c.loop-m.invariant.has buffer m in
    let few : length c.loop-m.woken.items ≤ 0 = omega (arith, past-end _ 0 c.in_default.ensures.variant.1) in
    let none : c.loop-m.woken.items ≡ [] = none-there c.loop-m.woken.items few in (
      λ is. has.0 (inl is),
      λ is. ⊎_elim (λ in_now. in_now) (λ so. absurd (nothing-there m (subst (λ (xs : List Message). Contains xs m) none so.0))) (has.1 is),
    )
