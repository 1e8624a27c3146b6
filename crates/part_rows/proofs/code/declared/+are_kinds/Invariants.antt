use Rattle.std.proofs.Common.{length}
use Rattle.part_rows.proofs.code.declared.+are_kinds.Given as goal

abbrev pub decreases-are_kinds : goal.decreases-are_kinds
decreases-are_kinds l = length l.a.now
