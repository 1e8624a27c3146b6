use Rattle.std.proofs.Common.{sym, ap, ◌∙◌}
use Rattle.std.specs.Option.{option_copied}
use Rattle.code_frame.specs.Prelude.{Window}
use Rattle.action_vm.proofs.Arms.{read_ok}
use Rattle.action_vm.proofs.reading.push_field.Goals as goal

pub returns-in_ok-push_copied-in-Some-clause-does : goal.returns-in_ok-push_copied-in-Some-clause-does
returns-in_ok-push_copied-in-Some-clause-does c fields f l is = read_ok fields f c.in-Some.v.now _ _ l (sym is ∙ ap option_copied c.in-Some.is) (ap (λ (w : Window). w.stack) c.in_ok-push_copied-in-Some.ensures)
