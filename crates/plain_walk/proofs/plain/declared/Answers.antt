use Rattle.std.proofs.Common.{◌≡◌, ◌∙◌, ℕ, List, ap}
use Rattle.std.proofs.lemmas.Result.{err_from_is_err_and}
use Rattle.acts.proofs.Walk.{does_ends_as, does_without_memory, then_does, then_stops}
use Rattle.body_meaning.specs.declared.frame.Flow.TheVariants.{WentOn}
use Rattle.body_meaning.specs.declared.frame.Frame.{Frame}
use Rattle.body_meaning.specs.Prelude.{bind, ended}
use Rattle.plain_walk.proofs.plain.declared.Goals as goal

pub returns-in_err-t : goal.returns-in_err-t
returns-in_err-t g c =
    let p = err_from_is_err_and c.from_residual.result c.from_residual.ensures.1 in rw (p.1, p.2) (then_stops _ _ _ _ _ _ _ _ c.in_err-t.ensures)

pub returns-in_err-bind : goal.returns-in_err-bind
returns-in_err-bind g c =
    let p = err_from_is_err_and c.from_residual-in_err-bind.result c.from_residual-in_err-bind.ensures.1 in rw (p.1, p.2) (does_without_memory _ _ _ _)

pub returns : goal.returns
returns g c =
    let bound : c.bind.new.frame ≡ bind c.args.name.now.text c.in_ok-t.t c.args.frame.now =
    c.in_ok-bind.ensures ∙ ap (λ (text : List ℕ). bind text c.in_ok-t.t c.args.frame.now) c.as_slice.ensures in
    then_does _ _ _ _ _ _ _ _ _ c.in_ok-t.ensures (does_ends_as _ _ _ _ (ap (λ (f : Frame). ended f WentOn) bound))
