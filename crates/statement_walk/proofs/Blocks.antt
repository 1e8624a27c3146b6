-- A block, whose names are gone after it.
use Rattle.std.proofs.Common.{◌≡◌, ℕ, Ok, Err, ap, subst}
use Rattle.ctl_face.specs.declared.trouble.Trouble.{Trouble}
use Rattle.ctl_face.specs.Prelude.{LocalView}
use Rattle.acts.specs.Prelude.{Acting, ends, DoesAs}
use Rattle.acts.proofs.Walk.{does_ends_as, then_does, then_stops}
use Rattle.body_meaning.specs.declared.frame.Flow.{Flow}
use Rattle.body_meaning.specs.declared.frame.Frame.{Frame}
use Rattle.body_meaning.specs.Prelude.{Ended, ended, leave, scoped}

module _ (block : Frame → Acting Ended) (n : ℕ) (before now f last : Frame) (same : now ≡ before) (v u : LocalView) where
  pub scoped_ends : (flow : Flow) → last ≡ leave n f → DoesAs (ended f) (block now) (Ok flow) v u → DoesAs (ended last) (scoped block n before) (Ok flow) v u
  unfolding scoped
  scoped_ends flow left first =
      then_does (ended f) (ended last) (block before) (λ (e : Ended). ends (ended (leave n e.frame) e.flow)) flow (Ok flow) v u u
      (subst (λ (x : Frame). DoesAs (ended f) (block x) (Ok flow) v u) same first)
      (does_ends_as (ended last) (ended (leave n f) flow) flow u (ap (λ (x : Frame). ended x flow) left))

  pub scoped_stops : (e : Trouble) (w : LocalView) → DoesAs (ended f) (block now) (Err e) v u → DoesAs (ended last) (scoped block n before) (Err e) v w
  unfolding scoped
  scoped_stops e w first =
      then_stops (ended f) (ended last) (block before) (λ (e : Ended). ends (ended (leave n e.frame) e.flow)) e v u w (subst (λ (x : Frame). DoesAs (ended f) (block x) (Err e) v u) same first)
