use Rattle.std.proofs.Common.{◌∙◌, ℕ, List, ap, eqb, reverse}
use Rattle.std.specs.Map.{lookup}
use Rattle.ctl_tables.specs.Prelude.{default_of, state_log_of, states_of}
use Rattle.ctl_tables.proofs.StatesSet.{state_told}
use Rattle.ctl_tables.proofs.held.Tables.state.Goals as goal

pub returns-in-Some : goal.returns-in-Some
returns-in-Some c =
    state_told (states_of c.args.self.now) (state_log_of c.args.changes.now) c.args.line c.in-Some.state (default_of c.args.self.now)
    (c.in-Some.ensures ∙ ap (λ (l : List (ℕ × ℕ)). lookup (eqb c.args.line) (reverse l)) c.deref.ensures.value)
