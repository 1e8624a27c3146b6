use Rattle.std.proofs.Common.{◌∙◌, refl, sym, ap}
use Rattle.std.proofs.lemmas.Result.{err_from_is_err_and}
use Rattle.acts.specs.Prelude.{itself}
use Rattle.acts.proofs.Walk.{does_ends_as, false_does, then_does, then_stops, true_does}
use Rattle.built_in_acts.proofs.Placing.{first_place, placed_more, placed_none}
use Rattle.built_in_acts.proofs.machines.+placed_from.Goals as goal

pub returns-then-left-eq0 : goal.returns-then-left-eq0
returns-then-left-eq0 g t c = placed_none _ _ _ _ _ _ _ c.if-left-eq0.true (does_ends_as itself first_place first_place _ refl)

pub returns-in_err-range : goal.returns-in_err-range
returns-in_err-range g t c =
    let p = err_from_is_err_and c.from_residual.result c.from_residual.ensures.1 in
    rw (p.1, p.2) (placed_more _ _ _ _ _ _ _ c.if-left-eq0.false (then_stops _ _ _ _ _ _ _ _ c.in_err-range.ensures.does))

pub returns-then-is_in : goal.returns-then-is_in
returns-then-is_in g t c =
    placed_more _ _ _ _ _ _ _ c.if-left-eq0.false (then_does _ _ _ _ _ _ _ _ _ c.in_ok-range.ensures.does
    (true_does itself _ _ _ _ _ _ (sym c.is_in.ensures ∙ c.if-is_in.true)
    (does_ends_as itself _ _ _ (ap (λ (i : _). record { machine = c.args.machine; index = i }) c.index_of-index.ensures))))

pub returns : goal.returns
returns g t c =
    placed_more _ _ _ _ _ _ _ c.if-left-eq0.false (then_does _ _ _ _ _ _ _ _ _ c.in_ok-range.ensures.does
    (false_does itself _ _ _ _ _ _ (sym c.is_in.ensures ∙ c.if-is_in.false) c.placed_from.ensures))
