use Rattle.std.proofs.Common.{◌≡◌, true, false}
use Rattle.ruby_value.specs.declared.message.MsgNo.{MsgNo}
use Rattle.ctl_mail.specs.Prelude.{Adds, AddsOne, IsWoken, told_by}
use Rattle.ctl_mail.proofs.Rises.{adds-as, adds-none, on-ok}
use Rattle.ctl_mail.proofs.wakes.add_if_woken.Goals as goal

pub returns-then-is_woken : goal.returns-then-is_woken
returns-then-is_woken c =
    let told = told_by c.args.changes.now in
    let old = c.args.numbers.now.items in
    let new = c.add.new.numbers.items in
    let woken : IsWoken told c.args.waking c.args.number c.args.before = c.is_woken.ensures.0 c.if-is_woken.true in
    let P : MsgNo → Type 0 = λ n. c.args.number ≡ n in
    let Q : MsgNo → Type 0 = λ n. IsWoken told c.args.waking c.args.number c.args.before × (c.args.number ≡ n) in
    on-ok (AddsOne old c.args.number new) (Adds old Q new) (adds-as P Q old new (λ n same. (woken, same)) (λ n so. so.1)) c.add.result c.add.ensures

pub returns : goal.returns
returns c =
    let told = told_by c.args.changes.now in
    let Q : MsgNo → Type 0 = λ n. IsWoken told c.args.waking c.args.number c.args.before × (c.args.number ≡ n) in
    let not : c.is_woken.result ≡ false = c.if-is_woken.false in
    adds-none Q c.args.numbers.now.items c.requires
    (λ n so. let is : c.is_woken.result ≡ true = c.is_woken.ensures.1 so.0 in absurd (cc (is, not)))
