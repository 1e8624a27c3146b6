use Rattle.std.proofs.Common.{◌≡◌, drop}
use Rattle.std.specs.List.{list_any}
use Rattle.declared_types.specs.Prelude.{ScopeTable, is_machine_named, summaries}
use Rattle.declared_types.proofs.tables.any_bears.Given as goal

abbrev pub invariant-loop-t : goal.invariant-loop-t
invariant-loop-t l =
    list_any (λ (s : ScopeTable). is_machine_named l.name s.scope) (summaries l.tables) ≡ list_any (λ (s : ScopeTable). is_machine_named l.name s.scope) (summaries (drop l.t-index l.tables))
