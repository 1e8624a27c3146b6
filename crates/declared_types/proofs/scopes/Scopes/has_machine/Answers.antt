use Rattle.std.proofs.Common.{◌∙◌, ap}
use Rattle.std.specs.List.{list_any}
use Rattle.declared_types.specs.Prelude.{ScopeTable, is_machine_named, summaries}
use Rattle.declared_types.proofs.ScopeTables.{bears_machine}
use Rattle.declared_types.proofs.scopes.Scopes.has_machine.Goals as goal

pub returns : goal.returns
returns c =
    c.any_bears.ensures ∙ ap (λ ts. list_any (λ (s : ScopeTable). is_machine_named c.args.name.now s.scope) (summaries ts)) c.deref.ensures
    ∙ bears_machine c.args.self.now.trees.now c.args.self.now.tables c.args.name.now c.args.self.now.tabled
