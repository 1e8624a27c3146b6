use Rattle.std.proofs.Common.{sym, ap, ◌∙◌}
use Rattle.sequencer.specs.Prelude.{oldest_of}
use Rattle.ruby_value.specs.Prelude.{Roomy, Requests}
use Rattle.sequencer.proofs.Oldest.{by_line-is}
use Rattle.sequencer.proofs.OldestLaw.{oldest-law}
use Rattle.sequencer.proofs.sequencer.Sequencer.oldest.Goals as goal

pub returns-clause-value : goal.returns-clause-value
returns-clause-value c =
    rw (← c.self.view_is)
    (c.oldest_of.ensures ∙ ap oldest_of c.deref.ensures.value ∙ ap oldest_of (sym (by_line-is c.self.inside.outstanding.items c.self.invariant.requests_fit.ascend)))

pub returns-clause-first : goal.returns-clause-first
returns-clause-first c =
    let xs = c.self.inside.outstanding.items in
    rw (c.oldest_of.ensures, c.deref.ensures.value)
    (oldest-law xs c.args.self.now.kept (sym (ap (λ (r : Roomy Requests). r.kept.outstanding) c.self.view_is)) c.self.invariant.requests_fit.ascend)
