-- The stage of a pass, from what callers see of it.
use Rattle.std.proofs.Common.{◌≡◌, ◌⊎◌, ⊎_elim, true, false, sym, ap, ◌∙◌}
use Rattle.turn_lock.specs.declared.view.Stage.{Stage}
use Rattle.turn_lock.specs.declared.view.Stage.TheVariants.{Out, Inside}
use Rattle.turn_lock.specs.Tickets.{is_inside}

pub stage_out : (st : Stage) → (st ≡ Out) ⊎ (st ≡ Inside) → is_inside st ≡ false → st ≡ Out
stage_out st is out = ⊎_elim (λ e. e) (λ e. let f : true ≡ false = ap is_inside (sym e) ∙ out in cc) is

pub stage_inside : (st : Stage) → (st ≡ Out) ⊎ (st ≡ Inside) → is_inside st ≡ true → st ≡ Inside
stage_inside st is in' = ⊎_elim (λ e. let f : false ≡ true = ap is_inside (sym e) ∙ in' in cc) (λ e. e) is
