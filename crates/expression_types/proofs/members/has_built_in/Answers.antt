use Rattle.std.proofs.Common.{◌∙◌, ap, sym}
use Rattle.slicc_plan.specs.Prelude.{is_among, machine_names}
use Rattle.expression_types.proofs.Fixed.{among_texts, members_fixed}
use Rattle.expression_types.proofs.members.has_built_in.Goals as goal

pub returns-in_default : goal.returns-in_default
returns-in_default c =
    c.has_fixed.ensures ∙ sym (among_texts c.args.text.now c.fixed_members.result.now)
    ∙ ap (λ names. is_among names c.args.text.now) (c.fixed_members.ensures ∙ members_fixed (machine_names c.args.scopes.now.trees.now) c.args.b c.in_default.not-MachineType)
