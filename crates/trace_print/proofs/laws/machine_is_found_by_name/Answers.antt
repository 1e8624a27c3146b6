use Rattle.std.proofs.Common.{ap, ◌∙◌}
use Rattle.ruby_symbols.specs.Prelude.{machine_named}
use Rattle.trace_print.specs.Prelude.{machine_at}
use Rattle.trace_print.proofs.NameParts.{part_of_name}
use Rattle.trace_print.proofs.laws.machine_is_found_by_name.Goals as goal

pub returns : goal.returns
returns c =
    λ symbols m number place none named is. ap (λ part. machine_at symbols (machine_named symbols part)) (part_of_name m.name place none) ∙ ap (machine_at symbols) named ∙ is
