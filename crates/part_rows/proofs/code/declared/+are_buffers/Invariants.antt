use Rattle.std.proofs.Common.{length}
use Rattle.part_rows.proofs.code.declared.+are_buffers.Given as goal

abbrev pub decreases-are_buffers : goal.decreases-are_buffers
decreases-are_buffers l = length l.declared.now
