use Rattle.std.proofs.Common.{◌∙◌, List, subst}
use Rattle.std.proofs.lemmas.Result.{err_from_is_err_and}
use Rattle.ruby_value.specs.declared.value.Value.{Value}
use Rattle.acts.specs.Prelude.{DoesAs}
use Rattle.acts.proofs.Walk.{does_without_memory, then_does, then_stops}
use Rattle.body_meaning.specs.Prelude.{ended, reading}
use Rattle.plain_walk.specs.Prelude.{remade}
use Rattle.plain_walk.proofs.changes.remade_by.Goals as goal

pub returns-in_err-n : goal.returns-in_err-n
returns-in_err-n g c =
    let p = err_from_is_err_and c.from_residual.result c.from_residual.ensures.1 in rw (p.1, p.2) (then_stops _ _ _ _ _ _ _ _ c.in_err-n.ensures)

pub returns-in_err-values : goal.returns-in_err-values
returns-in_err-values g c =
    let p = err_from_is_err_and c.from_residual-in_err-values.result c.from_residual-in_err-values.ensures.1 in rw (p.1, p.2) (does_without_memory _ _ _ _)

pub returns : goal.returns
returns g c =
    then_does _ _ _ _ _ _ _ _ _ c.in_ok-n.ensures
    (subst (λ (xs : List Value). DoesAs (ended c.remade.new.frame) (remade (reading c.args.s) c.in_ok-n.n c.args.frame.now c.args.p.now xs) c.remade.result (g.T.Local.view c.args.local.now) (g.T.Local.view c.remade.new.local))
    (c.deref.ensures ∙ c.in_ok-values.ensures) c.remade.ensures)
