use Rattle.std.proofs.Common.{◌≡◌, ◌∙◌, ℕ, Bor, Option, None, Some, sym, ap}
use Rattle.std.specs.Option.{option_map}
use Rattle.ruby_value.specs.declared.message.Message.{Message}
use Rattle.stall_map.specs.declared.stalled.Stalled.{Stalled}
use Rattle.stall_map.specs.Prelude.{next_after}
use Rattle.ctl_mail.proofs.Passed.{next-there, none-waits, stalled_of}
use Rattle.ctl_mail.proofs.wakings.first_line.Goals as goal

pub returns-in-Some-clause-some : goal.returns-in-Some-clause-some
returns-in-Some-clause-some c =
    let s : Stalled = stalled_of c.in-Some.next in
    let next : next_after c.args.stalls.now.kept None ≡ Some s = sym c.next_after.ensures ∙ ap (λ (o : Option (ℕ × Bor Message)). option_map stalled_of o) c.in-Some.is in
    (c.in-Some.next.1.now, next-there c.args.stalls.now.kept None s next)

pub returns-in-None-clause-none : goal.returns-in-None-clause-none
returns-in-None-clause-none c = none-waits c.args.stalls.now.kept (sym c.next_after.ensures ∙ ap (λ (o : Option (ℕ × Bor Message)). option_map stalled_of o) c.in-None.is)
