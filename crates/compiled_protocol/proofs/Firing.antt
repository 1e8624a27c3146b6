-- What a transition tells of the state before it, it tells alone: what it does is the same.
use Rattle.std.proofs.Common.{◌≡◌, ◌∙◌, ℕ, Result, Ok, Err, refl, sym, ap}
use Rattle.ruby_value.specs.declared.fault.Fault.{Fault}
use Rattle.ruby_symbols.specs.declared.machine.TransitionSymbol.{TransitionSymbol}
use Rattle.ctl_face.specs.Prelude.{LocalView}
use Rattle.acts.specs.Prelude.{Acting, Done, ends, follow, run, ◌>>=◌, ◌>>◌}
use Rattle.acts.proofs.Walk.{run-then}
use Rattle.body_meaning.specs.declared.frame.Tried.{Tried}
use Rattle.body_meaning.specs.declared.frame.Tried.TheVariants.{Fires}
use Rattle.body_meaning.specs.declared.thing.Trigger.{Trigger}
use Rattle.body_meaning.specs.Prelude.{Reading, about, action_done, each, fired, permission_set, state_set}
use Rattle.compiled_protocol.specs.Prelude.{fire_note}

-- with this answer in place of its own
abbrev pub answering : {A B : Type 0} → B → Result (Done A) Fault → Result (Done B) Fault
answering y (Ok d) = Ok (record { value = y; view = d.view })
answering y (Err f) = Err f

module _ {A B : Type 0} (x y : B) where
  follow_answers : (r : Result (Done A) Fault) (f g : A → LocalView → Result (Done B) Fault) → ((a : A) (w : LocalView) → answering y (f a w) ≡ g a w)
      → answering y (follow r f) ≡ follow r g
  follow_answers (Ok d) f g same = same d.value d.view
  follow_answers (Err e) f g same = refl

  then_answers : (p : Acting A) (f g : A → Acting B) → ((a : A) (w : LocalView) → answering y (run (f a) w) ≡ run (g a) w) → (v : LocalView)
      → answering y (run (p >>= f) v) ≡ run (p >>= g) v
  then_answers p f g same v =
      ap (answering y) (run-then p f v) ∙ follow_answers (run p v) (λ a w. run (f a) w) (λ a w. run (g a) w) same ∙ sym (run-then p g v)

module _ {B : Type 0} (x y : B) where
  ends_answers : (w : LocalView) → answering y (run (ends x) w) ≡ run (ends y) w
  unfolding run
  ends_answers w = refl

module _ (s : Reading) (t : Trigger) (one state next : ℕ) (row : TransitionSymbol) where
  abbrev before : Tried
  before = Fires (fire_note t one next)

  abbrev after : Tried
  after = Fires (fire_note t state next)

  pub fired_answers : (v : LocalView) → answering after (run (fired s t one next row) v) ≡ run (fired s t state next row) v
  unfolding ◌>>◌
  fired_answers v =
      then_answers before after (each (action_done s) (about t) row.actions)
      (λ a. state_set s a next s.machine.set_state >> (permission_set s a next s.machine.set_permission >> ends before))
      (λ a. state_set s a next s.machine.set_state >> (permission_set s a next s.machine.set_permission >> ends after))
      (λ a w. then_answers before after (state_set s a next s.machine.set_state)
      (λ _. permission_set s a next s.machine.set_permission >> ends before)
      (λ _. permission_set s a next s.machine.set_permission >> ends after)
      (λ _ u. then_answers before after (permission_set s a next s.machine.set_permission) (λ _. ends before) (λ _. ends after) (λ _ z. ends_answers before after z) u) w)
      v
