use Rattle.std.proofs.Common.{[], List, subst}
use Rattle.ruby_value.specs.declared.message.MsgNo.{MsgNo}
use Rattle.ctl_mail.specs.Prelude.{mail_of, Adds, IsWokenAmong, IsWokenIn, IsWokenKept, IsWokenMoved, changed_mail, told_by}
use Rattle.ctl_mail.proofs.Rises.{adds-as, adds-both}
use Rattle.ctl_mail.proofs.WakeActs.{among-moved, in-kept, kept-in, moved-among}
use Rattle.ctl_mail.proofs.wakes.woken.Goals as goal

pub returns : goal.returns
returns c =
    let store = c.args.store.now in
    let told = told_by c.args.changes.now in
    let stalled = store.stalls.kept in
    let inbox = (changed_mail (mail_of store) told).inbox in
    let waking = c.args.waking in
    let mid = c.add_stalled.new.numbers.items in
    let new = c.add_stalled_now.new.numbers.items in
    let first : Adds [] (IsWokenKept stalled told waking) mid =
    subst (λ (xs : List MsgNo). Adds xs (IsWokenKept stalled told waking) mid) c.new-numbers.ensures.items c.in_ok-add_stalled.ensures in
    let second : Adds mid (IsWokenMoved told.moves told waking) new =
    adds-as (IsWokenAmong told.acts.stalled told waking) (IsWokenMoved told.moves told waking) mid new
    (among-moved store.buffers.items stalled told inbox waking c.requires.0) (moved-among store.buffers.items stalled told inbox waking c.requires.0) c.in_ok-add_stalled_now.ensures in
    adds-as _ (IsWokenIn stalled told waking) [] new (kept-in stalled told waking) (in-kept stalled told waking)
    (adds-both (IsWokenKept stalled told waking) (IsWokenMoved told.moves told waking) [] mid new first second)
