use Rattle.ruby_answers.proofs.Clauses.{theorem_holds}
use Rattle.ruby_answers.proofs.RightRuns.{AreLawful}
use Rattle.ruby_answers.proofs.WholeRuns.{AreOne}
use Rattle.ruby_answers.proofs.laws.clauses_follow.Goals as goal

pub returns : goal.returns
returns g c =
    let laws : AreLawful = record { means = c.meanings_are_lawful.ensures; said = c.topologies_fit.ensures; plain = c.plain_topologies_fit.ensures } in
    let ones : AreOne = record { tested = c.records_are_one_answer.ensures.one; untested = c.records_are_one_answer-2.ensures.one } in
    theorem_holds g.L.Library.files g.L.Library.faults g.L.Library.reads g.met.L.Library.lawful g.S.Sink.written g.S.Sink.faults g.S.Sink.writes g.met.S.Sink.lawful laws ones
