use Rattle.ruby_answers.proofs.OverFiles.{one_run, same_by, same_over}
use Rattle.ruby_answers.proofs.RightRuns.{AreLawful, alone_by, alone_over}
use Rattle.ruby_answers.proofs.laws.answers_are_one.Goals as goal

pub returns : goal.returns
returns c =
    let laws : AreLawful = record { means = c.meanings_are_lawful.ensures; said = c.topologies_fit.ensures; plain = c.plain_topologies_fit.ensures } in
    record { one = same_over; alone = alone_over laws; runs = one_run; by_reads = same_by; alone_by_reads = alone_by laws }
