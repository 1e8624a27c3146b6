use Rattle.std.proofs.lemmas.Result.{err_from_is_err_and}
use Rattle.acts.specs.Prelude.{itself}
use Rattle.acts.proofs.Walk.{then_does, then_stops}
use Rattle.body_meaning.specs.Prelude.{calls_within, each, suffixed, value, value_behind, reading}
use Rattle.body_walk.proofs.expressions.value_behind.Goals as goal

pub returns-in_err-t : goal.returns-in_err-t
unfolding value_behind
returns-in_err-t g c =
    let p = err_from_is_err_and c.from_residual.result c.from_residual.ensures.1 in rw (p.1, p.2) (then_stops _ _ _ _ _ _ _ _ c.in_err-t.ensures)

pub returns : goal.returns
unfolding value_behind
returns g c =
    let s = reading c.args.s in
    let calls = calls_within s c.args.depth in
    let frame = c.args.frame.now in
    then_does itself itself (value s calls frame c.args.inner.now) (λ t. each (suffixed s calls frame) t c.args.suffixes.now) c.in_ok-t.t c.suffixed_all.result _ _ _ c.in_ok-t.ensures c.suffixed_all.ensures
