use Rattle.protocol_meaning.specs.Prelude.{meaning_of, setting_in}
use Rattle.protocol_meaning.proofs.FramedMeanings.{meanings_framed}
use Rattle.protocol_meaning.proofs.Scans.{is_meaning}
use Rattle.one_answer.proofs.Records.{of_record}
use Rattle.one_answer.proofs.laws.records_are_one_answer.Goals as goal

pub returns-clause-one : goal.returns-clause-one
returns-clause-one g c =
    λ driver r setting whole.
    let laws = c.ended_runs_answer_alike.ensures in
    of_record g.D.Driver.drive driver r whole
    (laws.alike (meaning_of r.plan) (setting_in g.D.Driver.drive driver r) (is_meaning r.plan) (meanings_framed r.plan) setting)
    (laws.one (meaning_of r.plan) (setting_in g.D.Driver.drive driver r) (is_meaning r.plan) (meanings_framed r.plan) setting)

pub returns-clause-alone : goal.returns-clause-alone
returns-clause-alone g c =
    λ driver r setting whole alone.
    let laws = c.ended_runs_answer_alike.ensures in
    laws.alone (meaning_of r.plan) (setting_in g.D.Driver.drive driver r) (is_meaning r.plan) (meanings_framed r.plan) setting
    r.history whole.0 r.journal whole.1.run whole.2 alone
