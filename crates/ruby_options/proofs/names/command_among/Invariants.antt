use Rattle.std.proofs.Common.{◌≡◌, drop, map}
use Rattle.ruby_options.specs.Prelude.{command_among}
use Rattle.ruby_options.proofs.names.command_among.Given as goal

-- what the rows have is what those that are left have
abbrev pub invariant-loop-row : goal.invariant-loop-row
invariant-loop-row l =
    command_among (map (λ row. (row.0.now, row.1, row.2)) l.rows) l.word l.names
    ≡ command_among (map (λ row. (row.0.now, row.1, row.2)) (drop l.row-index l.rows)) l.word l.names
