use Rattle.std.proofs.Common.{◌≡◌, ◌∙◌, ℕ, Bor, Option, None, Some, sym, ap}
use Rattle.std.specs.Option.{option_map}
use Rattle.ruby_value.specs.declared.message.Message.{Message}
use Rattle.stall_map.specs.declared.stalled.Stalled.{Stalled}
use Rattle.stall_map.specs.Prelude.{next_after}
use Rattle.ctl_mail.specs.declared.moves.Waking.TheVariants.{All}
use Rattle.ctl_mail.specs.Prelude.{told_by}
use Rattle.ctl_mail.proofs.Founds.{stalled-all, stalled-more, stalled-none}
use Rattle.ctl_mail.proofs.Passed.{fewer-left, stalled_of}
use Rattle.ctl_mail.proofs.wakes.add_all.Goals as goal

pub loop-next-init : goal.loop-next-init
loop-next-init c = stalled-none (told_by c.args.changes.now) All c.args.stalls.now.kept c.args.numbers.now.items c.requires

pub loop-next-smaller : goal.loop-next-smaller
loop-next-smaller c =
    let stalled = c.args.stalls.now.kept in
    let s : Stalled = stalled_of c.in-Some.next in
    let next : next_after stalled c.loop-next.last ≡ Some s = sym c.next_after.ensures ∙ ap (λ (o : Option (ℕ × Bor Message)). option_map stalled_of o) c.in-Some.is in
    fewer-left stalled c.len-waiting.ensures.order c.loop-next.last s next

pub loop-next-preserved : goal.loop-next-preserved
loop-next-preserved c =
    let stalled = c.args.stalls.now.kept in
    let s : Stalled = stalled_of c.in-Some.next in
    let next : next_after stalled c.loop-next.last ≡ Some s = sym c.next_after.ensures ∙ ap (λ (o : Option (ℕ × Bor Message)). option_map stalled_of o) c.in-Some.is in
    stalled-more (told_by c.args.changes.now) All stalled c.len-waiting.ensures.order c.loop-next.last s next
    c.args.numbers.now.items c.loop-next.numbers.items c.add_if_woken.new.numbers.items c.loop-next.invariant c.in_ok-add_if_woken.ensures

pub returns : goal.returns
returns c =
    let stalled = c.args.stalls.now.kept in
    let none : next_after stalled c.loop-next.last ≡ None = sym c.next_after.ensures ∙ ap (λ (o : Option (ℕ × Bor Message)). option_map stalled_of o) c.in_default.is in
    stalled-all (told_by c.args.changes.now) All stalled c.loop-next.last none c.args.numbers.now.items c.loop-next.numbers.items c.loop-next.invariant
