use Rattle.slicc_files.proofs.OneGathering.{one_by_reads, one_over_files}
use Rattle.slicc_files.proofs.OneNameEach.{one_name_each}
use Rattle.slicc_files.proofs.laws.files_are_gathered_in_one_way.Goals as goal

pub returns : goal.returns
returns c = record { by_reads = one_by_reads; over_files = one_over_files; once = one_name_each }
