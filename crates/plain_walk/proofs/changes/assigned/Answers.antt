use Rattle.std.proofs.Common.{◌≡◌, Ok, Err, refl, subst}
use Rattle.std.proofs.lemmas.Result.{err_from_is_err_and}
use Rattle.ruby_value.specs.declared.value.Value.{Value}
use Rattle.acts.specs.Prelude.{◌>>=◌, DoesAs}
use Rattle.acts.proofs.Walk.{does_ends_as, then_does, then_stops}
use Rattle.body_meaning.specs.declared.frame.Frame.{Frame}
use Rattle.body_meaning.specs.declared.frame.Place.{Place}
use Rattle.body_meaning.specs.Prelude.{ended, with_place, assigned, went_on, value_in}
use Rattle.body_walk.specs.Prelude.{left_frame}
use Rattle.plain_walk.proofs.changes.assigned.Goals as goal

not_written : (frame after : Frame) (p : Place) (x y : Value) (e : _) (u v w : _) → x ≡ y → DoesAs (left_frame after) (with_place frame p x) (Err e) u v
    → DoesAs (ended after) (with_place frame p y >>= went_on) (Err e) u w
not_written frame after p x y e u v w same first =
    then_stops (left_frame after) (ended after) (with_place frame p y) went_on e u v w (subst (λ (z : Value). DoesAs (left_frame after) (with_place frame p z) (Err e) u v) same first)

pub returns-in_err-t : goal.returns-in_err-t
unfolding assigned
returns-in_err-t g c =
    let p = err_from_is_err_and c.from_residual.result c.from_residual.ensures.1 in rw (p.1, p.2) (then_stops _ _ _ _ _ _ _ _ c.in_err-t.ensures)

pub returns-in_err-p : goal.returns-in_err-p
unfolding assigned
returns-in_err-p g c =
    let p = err_from_is_err_and c.from_residual-in_err-p.result c.from_residual-in_err-p.ensures.1 in rw (p.1, p.2) (then_does _ _ _ _ _ _ _ _ _ c.in_ok-t.ensures (then_stops _ _ _ _ _ _ _ _ c.in_err-p.ensures))

pub returns-in_err-with_place : goal.returns-in_err-with_place
unfolding assigned
returns-in_err-with_place g c =
    let p = err_from_is_err_and c.from_residual-in_err-with_place.result c.from_residual-in_err-with_place.ensures.1 in
    let v = g.T.Local.view c.place_of.new.local in
    let w = g.T.Local.view c.with_place.new.local in
    rw (p.1, p.2) (then_does _ _ _ _ _ _ _ _ _ c.in_ok-t.ensures (then_does _ _ _ _ _ _ _ _ _ c.in_ok-p.ensures
    (not_written c.args.frame.now c.with_place.new.frame c.in_ok-p.p c.value_in-v.result (value_in c.in_ok-t.t) c.in_err-with_place.field-0.0 v w w c.value_in-v.ensures c.in_err-with_place.ensures)))

pub returns : goal.returns
unfolding assigned
returns g c =
    let v = g.T.Local.view c.place_of.new.local in
    let w = g.T.Local.view c.with_place.new.local in
    then_does _ _ _ _ _ _ _ _ _ c.in_ok-t.ensures (then_does _ _ _ _ _ _ _ _ _ c.in_ok-p.ensures (then_does _ _ _ _ _ _ _ _ _
    (subst (λ (x : Value). DoesAs (left_frame c.with_place.new.frame) (with_place c.args.frame.now c.in_ok-p.p x) (Ok tt) v w) c.value_in-v.ensures c.in_ok-with_place.ensures)
    (does_ends_as _ _ _ _ refl)))
