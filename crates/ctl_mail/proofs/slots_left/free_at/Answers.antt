use Rattle.std.proofs.Common.{◌≡◌, ◌≤◌, ◌&&◌, List, length, nat_le, ap, ◌∙◌, arith}
use Rattle.ctl_face.specs.declared.parcel.Credit.{Credit}
use Rattle.ctl_face.specs.declared.parcel.Lent.{Lent}
use Rattle.ctl_face.specs.Prelude.{arrived_credits, is_credit_of, lent_at}
use Rattle.ctl_mail.specs.Prelude.{mail_of}
use Rattle.ctl_mail.proofs.Lends.{filter-few, free-after}
use Rattle.ctl_mail.proofs.slots_left.free_at.Goals as goal

pub overflow_add-slot : goal.overflow_add-slot
overflow_add-slot c =
    let few : arrived_credits c.deref.result.now c.args.slot.0 c.args.slot.1 c.args.changes.now.cycle ≤ length c.deref.result.now =
    filter-few (λ (x : Credit). is_credit_of c.args.slot.0 c.args.slot.1 x && nat_le x.arrival c.args.changes.now.cycle) c.deref.result.now in
    omega (arith, few, c.arrived-arrived.ensures, c.deref.type_inv.1, c.requires.size)

pub returns : goal.returns
returns c =
    let now = c.args.changes.now.cycle in
    let credits = c.args.store.now.credits.items in
    let lent = c.args.store.now.lent.items in
    let free = free-after now (mail_of c.args.store.now) c.args.changes.now.log.kept c.args.slot c.requires.changes.1.makeable in
    let arrived : c.arrived-arrived.result ≡ arrived_credits credits c.args.slot.0 c.args.slot.1 now =
    c.arrived-arrived.ensures ∙ ap (λ (cs : List Credit). arrived_credits cs c.args.slot.0 c.args.slot.1 now) c.deref.ensures.value in
    let before : c.count_at-before.result ≡ lent_at lent c.args.slot.0 c.args.slot.1 =
    c.count_at-before.ensures ∙ ap (λ (ls : List Lent). lent_at ls c.args.slot.0 c.args.slot.1) c.deref-2.ensures.value in
    omega (arith, free, arrived, before, c.saturating_sub.ensures, c.saturating_sub-2.ensures, c.count_lends-since.ensures)
