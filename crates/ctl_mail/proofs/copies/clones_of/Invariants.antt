use Rattle.std.proofs.Common.{◌≡◌, List, All, length}
use Rattle.ruby_value.specs.declared.value.Value.{Value}
use Rattle.ctl_mail.proofs.copies.clones_of.Given as goal

abbrev pub invariant-loop : goal.invariant-loop
invariant-loop l = (length l.clones.items ≡ l.counter) × All (λ (f : List Value). f ≡ l.fields) l.clones.items
