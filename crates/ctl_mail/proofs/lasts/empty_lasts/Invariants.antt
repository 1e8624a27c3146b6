use Rattle.std.proofs.Common.{◌≡◌, All, length}
use Rattle.std.specs.FinMap.{empty}
use Rattle.ruby_value.specs.Prelude.{Roomy}
use Rattle.ctl_face.specs.Prelude.{Lasts}
use Rattle.ctl_mail.proofs.lasts.empty_lasts.Given as goal

abbrev pub invariant-loop : goal.invariant-loop
invariant-loop l = (length l.networks.items ≡ l.counter) × All (λ (r : Roomy Lasts). r.kept ≡ empty) l.networks.items
