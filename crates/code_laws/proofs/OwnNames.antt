-- Names that a body has of its own.
use Rattle.std.proofs.Common.{◌≡◌, ℕ, Option, None, Some, List, ◌∷◌, refl, ap, subst}
use Rattle.slicc_plan.specs.Environment.{Bound, bound_as}
use Rattle.slicc_plan.specs.Meanings.{Meaning}
use Rattle.acts.specs.Prelude.{ends}
use Rattle.built_in_acts.specs.Prelude.{argument}
use Rattle.action_code.specs.declared.instr.Instr.TheVariants as instr
use Rattle.body_meaning.specs.declared.frame.Frame.{Frame}
use Rattle.body_meaning.specs.declared.thing.Thing.{Thing}
use Rattle.body_meaning.specs.Prelude.{thing_in, value_in, variable, variable_or}
use Rattle.code_meaning.specs.Prelude.{Held}
use Rattle.code_meaning.proofs.Gives.{ends_gives}
use Rattle.body_code.specs.declared.left.Home.{Home}
use Rattle.body_code.specs.declared.left.Home.TheVariants as home
use Rattle.body_code.specs.declared.left.Left.TheVariants as left
use Rattle.body_code.specs.declared.left.NameAt.{NameAt}
use Rattle.body_code.specs.Prelude.{home_of, home_read, name_read}
use Rattle.body_code.specs.Names.{read_or}
use Rattle.code_laws.specs.Holding.{Holds, IsAt, IsOwn}
use Rattle.code_laws.specs.Setting.{Setting}
use Rattle.code_laws.proofs.Good.{IsGood, held, known_done}
use Rattle.code_laws.proofs.Segments.{runs_plain}

module _ (z : Setting) (h : Held) where
  pub home_good : (meaning : Meaning) (at : Home) (t : Thing) → IsAt z h meaning at t → IsGood z h meaning (home_read at) (ends t)
  home_good meaning (home.Local slot k) t is = record {
    left_is = is.typed;
    done = record {
      stays = ends_gives z.setup is.given;
      does = λ stack.
          runs_plain z.p z.c z.calls z.setup (instr.Load slot) (held z h stack) (argument h.locals slot ∷ stack) t (λ x. held z h (value_in x ∷ stack)) refl
          (ap (λ (u : Thing). held z h (value_in u ∷ stack)) is.read);
    };
  }
  home_good meaning (home.Inner n) t is = record { left_is = is.typed; done = known_done z h (left.Inner n) t is.given (λ stack. refl) }
  home_good meaning (home.Made n) t is = record { left_is = is.typed; done = known_done z h (left.Made n) t is.given (λ stack. refl) }
  home_good meaning (home.Kept n first) t is = record { left_is = is.typed; done = known_done z h (left.Kept n first) t is.given (λ stack. refl) }

  module _ (bound : List Bound) (names : List NameAt) (frame : Frame) (holds : Holds z bound names frame h) (text : List ℕ) where
    pub own_good : (b : Bound) → bound_as text bound ≡ Some b → IsGood z h b.meaning (name_read z.s names text) (variable z.s frame text)
    unfolding variable
    own_good b is = by (home_of text names) (thing_in z.s frame text) (subst (λ o. IsOwn z h o (home_of text names) (thing_in z.s frame text)) is (holds.each text))
      where
        by : (at : Option Home) (t : Option Thing) → IsOwn z h (Some b) at t → IsGood z h b.meaning (read_or z.s text at) (variable_or z.s text t)
        by (Some at) (Some t) own = home_good b.meaning at t own
        by None None own = absurd own
        by None (Some t) own = absurd own
        by (Some at) None own = absurd own

    -- one that the body doesn't have
    pub not_own : bound_as text bound ≡ None → (home_of text names ≡ None) × (thing_in z.s frame text ≡ None)
    not_own is = by (home_of text names) (thing_in z.s frame text) (subst (λ o. IsOwn z h o (home_of text names) (thing_in z.s frame text)) is (holds.each text))
      where
        by : (at : Option Home) (t : Option Thing) → IsOwn z h None at t → (at ≡ None) × (t ≡ None)
        by None None own = (refl, refl)
        by (Some at) t own = absurd own
        by None (Some t) own = absurd own
