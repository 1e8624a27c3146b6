-- The plainest expressions: numbers, truth values and references to nothing, operators with one operand, and tests of references.
use Rattle.std.proofs.Common.{◌≡◌, Bool, true, false, not, ◌&&◌, List, [], ◌∷◌, Option, None, Some, is_none, is_some, refl, sym, ap, ◌∙◌}
use Rattle.ruby_value.specs.declared.kind.Kind.{Kind}
use Rattle.ruby_value.specs.declared.kind.Kind.TheVariants as kind
use Rattle.ruby_value.specs.declared.value.Ref.{Ref}
use Rattle.ruby_value.specs.declared.value.Value.{Value}
use Rattle.ruby_value.specs.declared.value.Value.TheVariants as value
use Rattle.ruby_value.specs.Prelude.{is_reference}
use Rattle.acts.specs.Prelude.{Acting, ends, ◌>>=◌, given}
use Rattle.built_in_acts.specs.Prelude.{are_equal, negation, reference, truth}
use Rattle.action_code.specs.declared.instr.Instr.TheVariants as instr
use Rattle.body_meaning.specs.declared.thing.Thing.{Thing}
use Rattle.body_meaning.specs.declared.thing.Thing.TheVariants as thing
use Rattle.body_meaning.specs.Prelude.{names_line, names_nothing, negated, negation_of, no_line, not_so, value_in}
use Rattle.code_meaning.specs.Prelude.{Held, code_step, is_of_kind, on_stack, opposite}
use Rattle.body_code.specs.Prelude.{Segment, giving, just, null, ◌⨾◌}
use Rattle.code_laws.specs.Setting.{Setting, tables}
use Rattle.code_laws.proofs.Good.{IsDone, IsValued, held, value_given, valued_then}
use Rattle.code_laws.proofs.Operators.{made_valued, number_runs, number_stays, opposite_is}
use Rattle.code_laws.proofs.Segments.{runs_more, runs_plain}

module _ (z : Setting) (h : Held) where
  abbrev H : List Value → Held
  H stack = held z h stack

  abbrev V : (List Value → Held) → Kind → Segment → Acting Thing → Type 0
  V from k code t = IsValued z h from k code t

  -- Operators with one operand.

  boolean_stays : (b : Bool) → is_of_kind (tables z) kind.Bool (value.Bool b) ≡ true
  boolean_stays b = refl

  not_behind : (v : Value) → V (λ stack. H (v ∷ stack)) kind.Bool (just (instr.Not ∷ [])) (ends (not_so (thing.Value v)))
  not_behind v = record {
    stays = value_given z h kind.Bool (value.Bool (not (truth v))) refl;
    does = λ stack.
        runs_plain z.p z.c z.calls z.setup instr.Not (H (v ∷ stack)) (value.Bool (opposite (truth v)) ∷ stack) (not_so (thing.Value v)) (λ x. H (value_in x ∷ stack)) refl
        (ap (λ b. H (value.Bool b ∷ stack)) (sym (opposite_is (truth v))));
  }

  pub not_valued : {k : Kind} {code : Segment} {t : Acting Thing} → V H k code t → V H kind.Bool (code ⨾ just (instr.Not ∷ [])) (t >>= (λ x. ends (not_so x)))
  not_valued first = valued_then z h (λ x. ends (not_so x)) first (λ v of. not_behind v)

  negation_behind : (v : Value) → V (λ stack. H (v ∷ stack)) kind.Int (just (instr.Neg ∷ [])) (negation_of (thing.Value v))
  unfolding negation_of
  negation_behind v =
      made_valued z h (given (negated v))
      (record { stays = number_stays z h (negation v); does = λ stack. number_runs z h instr.Neg 1 (v ∷ stack) stack (negation v) refl refl })

  pub negation_valued : {k : Kind} {code : Segment} {t : Acting Thing} → V H k code t → V H kind.Int (code ⨾ just (instr.Neg ∷ [])) (t >>= negation_of)
  negation_valued first = valued_then z h negation_of first (λ v of. negation_behind v)

  -- References to nothing.

  pub null_step : (k : Kind) (stack : List Value) → code_step z.p z.c z.calls (null k) (H stack) ≡ on_stack (H stack) (ends (value.Entry None ∷ stack))
  null_step kind.Bool stack = refl
  null_step kind.Int stack = refl
  null_step (kind.Enum a m) stack = refl
  null_step kind.Addr stack = refl
  null_step kind.Machine stack = refl
  null_step kind.Dest stack = refl
  null_step kind.Block stack = refl
  null_step (kind.Entry n) stack = refl
  null_step (kind.Tbe n) stack = refl

  pub nothing_is : (k : Kind) → is_reference k ≡ true → is_of_kind (tables z) k (value.Entry None) ≡ true
  nothing_is (kind.Entry n) is = refl
  nothing_is (kind.Tbe n) is = refl
  nothing_is k is = absurd (cc is)

  pub null_done : (k : Kind) → is_reference k ≡ true → IsDone z h H (giving k (null k ∷ [])) (ends no_line)
  null_done k is = record {
    stays = value_given z h k (value.Entry None) (nothing_is k is);
    does = λ stack. runs_plain z.p z.c z.calls z.setup (null k) (H stack) (value.Entry None ∷ stack) no_line (λ x. H (value_in x ∷ stack)) (null_step k stack) refl;
  }

  -- Tests of references.

  and_true : (b : Bool) → (b && true) ≡ b
  and_true true = refl
  and_true false = refl

  is_nothing : (k : Kind) (v : Value) → is_reference k ≡ true → is_of_kind (tables z) k v ≡ true → are_equal v (value.Entry None) ≡ is_none (reference v)
  is_nothing (kind.Entry n) (value.Entry r) is of = and_true (is_none r)
  is_nothing (kind.Entry n) (value.Tbe r) is of = and_true (is_none r)
  is_nothing (kind.Tbe n) (value.Entry r) is of = and_true (is_none r)
  is_nothing (kind.Tbe n) (value.Tbe r) is of = and_true (is_none r)
  is_nothing (kind.Entry n) v is of = absurd (cc of)
  is_nothing (kind.Tbe n) v is of = absurd (cc of)
  is_nothing k v is of = absurd (cc is)

  some_or_not : (r : Option Ref) → not (is_none r) ≡ is_some r
  some_or_not None = refl
  some_or_not (Some r) = refl

  nothing_behind : (k null_of : Kind) (v : Value) → is_reference k ≡ true → is_of_kind (tables z) k v ≡ true
      → V (λ stack. H (v ∷ stack)) kind.Bool (just (null null_of ∷ instr.Eq ∷ [])) (ends (names_nothing (thing.Value v)))
  nothing_behind k null_of v is of = record {
    stays = value_given z h kind.Bool (value.Bool (is_none (reference v))) refl;
    does = λ stack.
        runs_more z.p z.c z.calls z.setup (null null_of) (instr.Eq ∷ []) (H (v ∷ stack)) (value.Entry None ∷ v ∷ stack) (null_step null_of (v ∷ stack))
        (runs_plain z.p z.c z.calls z.setup instr.Eq (H (value.Entry None ∷ v ∷ stack)) (value.Bool (are_equal v (value.Entry None)) ∷ stack) (names_nothing (thing.Value v)) (λ x. H (value_in x ∷ stack)) refl
        (ap (λ b. H (value.Bool b ∷ stack)) (sym (is_nothing k v is of))));
  }

  line_behind : (k null_of : Kind) (v : Value) → is_reference k ≡ true → is_of_kind (tables z) k v ≡ true
      → V (λ stack. H (v ∷ stack)) kind.Bool (just (null null_of ∷ instr.Eq ∷ instr.Not ∷ [])) (ends (names_line (thing.Value v)))
  line_behind k null_of v is of = record {
    stays = value_given z h kind.Bool (value.Bool (is_some (reference v))) refl;
    does = λ stack.
        runs_more z.p z.c z.calls z.setup (null null_of) (instr.Eq ∷ instr.Not ∷ []) (H (v ∷ stack)) (value.Entry None ∷ v ∷ stack) (null_step null_of (v ∷ stack))
        (runs_more z.p z.c z.calls z.setup instr.Eq (instr.Not ∷ []) (H (value.Entry None ∷ v ∷ stack)) (value.Bool (are_equal v (value.Entry None)) ∷ stack) refl
        (runs_plain z.p z.c z.calls z.setup instr.Not (H (value.Bool (are_equal v (value.Entry None)) ∷ stack)) (value.Bool (opposite (are_equal v (value.Entry None))) ∷ stack) (names_line (thing.Value v)) (λ x. H (value_in x ∷ stack)) refl
        (ap (λ b. H (value.Bool b ∷ stack)) (sym (opposite_is (are_equal v (value.Entry None)) ∙ ap not (is_nothing k v is of) ∙ some_or_not (reference v))))));
  }

  pub nothing_valued : {k : Kind} {code : Segment} {t : Acting Thing} (null_of : Kind) → is_reference k ≡ true → V H k code t
      → V H kind.Bool (code ⨾ just (null null_of ∷ instr.Eq ∷ [])) (t >>= (λ x. ends (names_nothing x)))
  nothing_valued {k} null_of is first = valued_then z h (λ x. ends (names_nothing x)) first (λ v of. nothing_behind k null_of v is of)

  pub line_valued : {k : Kind} {code : Segment} {t : Acting Thing} (null_of : Kind) → is_reference k ≡ true → V H k code t
      → V H kind.Bool (code ⨾ just (null null_of ∷ instr.Eq ∷ instr.Not ∷ [])) (t >>= (λ x. ends (names_line x)))
  line_valued {k} null_of is first = valued_then z h (λ x. ends (names_line x)) first (λ v of. line_behind k null_of v is of)
