use Rattle.std.proofs.Common.{false, sym, refl}
use Rattle.slicc_plan.specs.Prelude.{machine_names, default_names}
use Rattle.declared_types.proofs.NameParts.{list_any_none}
use Rattle.declared_types.specs.Prelude.{scope_of, type_of}
use Rattle.declaration_rules.specs.Prelude.{members_in}
use Rattle.declaration_rules.proofs.own_values.is_member_word.Goals as goal

pub returns-in-Number : goal.returns-in-Number
returns-in-Number c =
    rw c.in-Number.is
    (sym (list_any_none (λ word. false) (default_names (scope_of c.args.scope) c.args.own.now (members_in (machine_names c.args.scopes.now.trees.now) (type_of c.args.t))) (λ word. refl)))
