use Rattle.std.proofs.Common.{ℕ, List, subst}
use Rattle.std.proofs.lemmas.Result.{err_from_is_err_and}
use Rattle.acts.specs.Prelude.{DoesAs}
use Rattle.acts.proofs.Walk.{then_does, then_stops}
use Rattle.body_meaning.specs.Prelude.{calls_within, ended, reading, called_alone}
use Rattle.plain_walk.proofs.alone.call_alone.Goals as goal

pub returns-in_err-values : goal.returns-in_err-values
returns-in_err-values g c =
    let p = err_from_is_err_and c.from_residual.result c.from_residual.ensures.1 in rw (p.1, p.2) (then_stops _ _ _ _ _ _ _ _ c.in_err-values.ensures)

pub returns : goal.returns
returns g c =
    let v = g.T.Local.view c.values_of.new.local in
    let w = g.T.Local.view c.called_alone.new.local in
    then_does _ _ _ _ _ _ _ _ _ c.in_ok-values.ensures
    (subst (λ (text : List ℕ). DoesAs (ended c.called_alone.new.frame) (called_alone (reading c.args.s) (calls_within (reading c.args.s) c.args.depth) text c.args.frame.now c.in_ok-values.values) c.called_alone.result v w)
    c.as_slice.ensures c.called_alone.ensures)
