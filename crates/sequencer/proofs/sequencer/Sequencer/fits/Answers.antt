use Rattle.sequencer.proofs.FitsOwn.{fits-own}
use Rattle.sequencer.proofs.sequencer.Sequencer.fits.Goals as goal

pub returns : goal.returns
returns c =
    rw (← c.self.view_is)
    (record {
      outstanding = λ line. fits-own c.self.inside.outstanding.items line c.self.invariant.requests_fit.each;
      finished = c.self.invariant.answers_fit.each;
      finished_ascend = c.self.invariant.answers_fit.ascend;
    })
