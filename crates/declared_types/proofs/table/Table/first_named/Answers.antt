use Rattle.std.proofs.Common.{ap, ◌∙◌}
use Rattle.std.specs.Option.{option_map}
use Rattle.declared_types.specs.Prelude.{declaration_of}
use Rattle.declared_types.proofs.Index.{found_none, found_some}
use Rattle.declared_types.proofs.table.Table.first_named.Goals as goal

pub returns-in-None : goal.returns-in-None
returns-in-None c = found_none c.args.name.now c.args.self.now.declarations c.first_number.result c.first_number.ensures c.in-None.is

pub returns-in-Some : goal.returns-in-Some
returns-in-Some c =
    ap (λ o. option_map declaration_of o) (c.copied.ensures ∙ c.get.ensures) ∙ found_some c.args.name.now c.args.self.now.declarations c.first_number.result c.in-Some.number c.first_number.ensures c.in-Some.is
