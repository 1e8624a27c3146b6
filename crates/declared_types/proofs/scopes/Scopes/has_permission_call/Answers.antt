use Rattle.std.proofs.Common.{◌∙◌, sym, codes}
use Rattle.std.specs.Str.{bytes_eq}
use Rattle.slicc_plan.specs.Prelude.{permission_call, machine_names}
use Rattle.declared_types.proofs.NameParts.{among_suffixed, list_any_none}
use Rattle.declared_types.proofs.scopes.Scopes.has_permission_call.Goals as goal

pub returns-in-None : goal.returns-in-None
returns-in-None c =
    sym (list_any_none (λ machine. bytes_eq (permission_call machine) c.args.text.now) (machine_names c.args.self.now.trees.now) c.in-None.ensures)

pub returns-in-Some : goal.returns-in-Some
returns-in-Some c =
    c.has_machine.ensures ∙ among_suffixed (machine_names c.args.self.now.trees.now) c.args.text.now c.in-Some.machine.now (codes "_State_to_permission") c.in-Some.ensures
