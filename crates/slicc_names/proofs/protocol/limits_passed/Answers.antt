use Rattle.std.proofs.Common.{ap, ◌∙◌, filter}
use Rattle.declared_types.specs.Prelude.{declarations_of}
use Rattle.slicc_plan.specs.Prelude.{beyond, is_machine, first_after}
use Rattle.slicc_names.specs.Prelude.{told_found}
use Rattle.slicc_names.specs.declared.count.Kind.TheVariants.{Enumeration, Structure}
use Rattle.slicc_names.proofs.MachinePlaces.{kinds_told, protocol_told}
use Rattle.slicc_names.proofs.protocol.limits_passed.Goals as goal

pub returns : goal.returns
returns c =
    protocol_told c.args.scopes.now.trees.now c.args.first c.kind_limit-machines.result c.limit_at-enumerations.result c.limit_at-structures.result c.in_scopes.result
    (c.kind_limit-machines.ensures ∙ ap (λ ds. first_after c.args.first (beyond 16 (filter is_machine ds))) c.declarations-globals.ensures)
    (c.limit_at-enumerations.ensures ∙ ap (λ f. first_after c.kind_limit-machines.result (told_found f)) c.count_all-enumeration.ensures
    ∙ ap (first_after c.kind_limit-machines.result) (kinds_told Enumeration 16380 c.args.scopes.now.trees.now (declarations_of c.declarations-globals.result.now) c.declarations-globals.ensures))
    (c.limit_at-structures.ensures ∙ ap (λ f. first_after c.limit_at-enumerations.result (told_found f)) c.count_all-structure.ensures
    ∙ ap (first_after c.limit_at-enumerations.result) (kinds_told Structure 16384 c.args.scopes.now.trees.now (declarations_of c.declarations-globals.result.now) c.declarations-globals.ensures))
    c.in_scopes.ensures
