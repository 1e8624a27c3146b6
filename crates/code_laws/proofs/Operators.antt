-- The code of operators does what they do: with the left side on the stack, the right one is done and joined to it, where the left one
-- doesn't decide.
use Rattle.std.proofs.Common.{◌≡◌, ℕ, ℤ, pos, negsuc, Bool, true, false, not, List, [], ◌∷◌, Result, Ok, Err, IfOk, drop, int_lt, int_le, refl, sym, ap, subst, ◌∙◌, arith}
use Rattle.std.proofs.lemmas.Bool.Decides.{nat_tests}
use Rattle.slicc_ast.specs.declared.tree.expression.Operator.{Operator}
use Rattle.slicc_ast.specs.declared.tree.expression.Operator.TheVariants.{Or, And, Equal, Unequal, Less, Greater, LessOrEqual, GreaterOrEqual, Plus, Minus, Times}
use Rattle.ruby_value.specs.declared.kind.Kind.{Kind}
use Rattle.ruby_value.specs.declared.kind.Kind.TheVariants as kind
use Rattle.ruby_value.specs.declared.value.Value.{Value}
use Rattle.ruby_value.specs.declared.value.Value.TheVariants as value
use Rattle.acts.specs.declared.body_fault.BodyFault.{BodyFault}
use Rattle.acts.specs.Prelude.{Acting, ends, ◌>>=◌, decided, given}
use Rattle.built_in_acts.specs.Prelude.{are_equal, difference, is_at_most, is_less, number, product, sum, truth}
use Rattle.action_code.specs.declared.instr.Instr.{Instr}
use Rattle.action_code.specs.declared.instr.Instr.TheVariants as instr
use Rattle.body_meaning.specs.declared.thing.Thing.{Thing}
use Rattle.body_meaning.specs.declared.thing.Thing.TheVariants as thing
use Rattle.body_meaning.specs.Prelude.{joined as joined_values, number_made, operated, value_in}
use Rattle.code_meaning.specs.Prelude.{Held, code_step, is_of_kind, on_stack, opposite, with_number}
use Rattle.code_meaning.proofs.Gives.{Gives, ends_gives, given_gives, then_gives}
use Rattle.body_code.specs.Prelude.{Segment, joined as joined_code, just, kind_joined, ◌⨾◌}
use Rattle.body_code.specs.Expressions.{truth as push_truth}
use Rattle.code_laws.specs.Holding.{IsValueOf}
use Rattle.code_laws.specs.Setting.{Setting, tables}
use Rattle.code_laws.proofs.Good.{IsValued, held, R}
use Rattle.code_laws.proofs.Segments.{makes_runs, runs_first, runs_made, runs_more, runs_plain, runs_second, runs_step, runs_then, runs_where}

less_or_not : (a b : ℤ) → not (int_le a b) ≡ int_lt b a
less_or_not (pos a) (pos b) = grind (arith, nat_tests)
less_or_not (pos a) (negsuc b) = refl
less_or_not (negsuc a) (pos b) = refl
less_or_not (negsuc a) (negsuc b) = grind (arith, nat_tests)

most_or_not : (a b : ℤ) → not (int_lt a b) ≡ int_le b a
most_or_not (pos a) (pos b) = grind (arith, nat_tests)
most_or_not (pos a) (negsuc b) = refl
most_or_not (negsuc a) (pos b) = refl
most_or_not (negsuc a) (negsuc b) = grind (arith, nat_tests)

pub opposite_is : (b : Bool) → opposite b ≡ not b
opposite_is true = refl
opposite_is false = refl

-- of the right side of `&&` and `||` a truth value is wanted
abbrev pub IsRight : Operator → Kind → Type 0
IsRight Or k = k ≡ kind.Bool
IsRight And k = k ≡ kind.Bool
IsRight _ k = Unit {0}

module _ (z : Setting) (h : Held) where
  abbrev H : List Value → Held
  H stack = held z h stack

  abbrev RR : {A : Type 0} → Segment → Held → Acting A → (A → Held) → Type 0
  RR code k q after = R z h code k q after

  -- values that are no things
  pub record IsMade (from : List Value → Held) (k : Kind) (code : Segment) (q : Acting Value) : Type 0 where
    pub stays : Gives z.setup (λ w. is_of_kind (tables z) k w ≡ true) q
    pub does : (stack : List Value) → RR code (from stack) q (λ w. H (w ∷ stack))

  pub made_valued : {from : List Value → Held} {k : Kind} {code : Segment} (q : Acting Value) → IsMade from k code q → IsValued z h from k code (q >>= (λ w. ends (thing.Value w)))
  made_valued q made = record {
    stays = then_gives z.setup made.stays (λ w of. ends_gives z.setup (record { value = w; is = refl; of_kind = of }));
    does = λ stack. makes_runs z.p z.c z.calls z.setup thing.Value (λ t. H (value_in t ∷ stack)) (made.does stack);
  }

  -- One operator after its right side.

  -- by a number that is made of the two on top, or of the one
  numbered : (n : ℕ) (stack below : List Value) (r : Result ℤ BodyFault) → drop n stack ≡ below → given (with_number n stack r) ≡ (given (number_made r) >>= (λ w. ends (w ∷ below)))
  unfolding given ◌>>=◌
  numbered n stack below (Ok x) is = ap (λ s. ends (value.Int x ∷ s)) is
  numbered n stack below (Err f) is = refl

  pub number_runs : (i : Instr) (n : ℕ) (stack below : List Value) (r : Result ℤ BodyFault) → drop n stack ≡ below → code_step z.p z.c z.calls i (H stack) ≡ on_stack (H stack) (given (with_number n stack r))
      → RR (just (i ∷ [])) (H stack) (given (number_made r)) (λ w. H (w ∷ below))
  number_runs i n stack below r left is =
      runs_made z.p z.c z.calls z.setup (λ w. w ∷ below) (λ s. H s)
      (subst (λ q. RR (just (i ∷ [])) (H stack) q (λ s. H s)) (numbered n stack below r left) (runs_step z.p z.c z.calls z.setup i (H stack) (given (with_number n stack r)) is))

  pub number_stays : (r : Result ℤ BodyFault) → Gives z.setup (λ w. is_of_kind (tables z) kind.Int w ≡ true) (given (number_made r))
  number_stays r = given_gives z.setup (number_made r) (by r)
    where
      by : (r : Result ℤ BodyFault) → IfOk (number_made r) (λ w. is_of_kind (tables z) kind.Int w ≡ true)
      by (Ok x) = refl
      by (Err f) = tt

  -- by a test
  test_runs : (i : Instr) (stack below : List Value) (b : Bool) → code_step z.p z.c z.calls i (H stack) ≡ on_stack (H stack) (ends (value.Bool b ∷ below))
      → RR (just (i ∷ [])) (H stack) (given (Ok (value.Bool b))) (λ w. H (w ∷ below))
  unfolding given
  test_runs i stack below b is = runs_plain z.p z.c z.calls z.setup i (H stack) (value.Bool b ∷ below) (value.Bool b) (λ w. H (w ∷ below)) is refl

  -- by a test and its opposite
  opposite_runs : (i : Instr) (stack below : List Value) (b r : Bool) → code_step z.p z.c z.calls i (H stack) ≡ on_stack (H stack) (ends (value.Bool b ∷ below)) → not b ≡ r
      → RR (just (i ∷ instr.Not ∷ [])) (H stack) (given (Ok (value.Bool r))) (λ w. H (w ∷ below))
  unfolding given
  opposite_runs i stack below b r is turns =
      runs_more z.p z.c z.calls z.setup i (instr.Not ∷ []) (H stack) (value.Bool b ∷ below) is
      (runs_plain z.p z.c z.calls z.setup instr.Not (H (value.Bool b ∷ below)) (value.Bool (opposite b) ∷ below) (value.Bool r) (λ w. H (w ∷ below)) refl
      (ap (λ x. H (value.Bool x ∷ below)) (sym (opposite_is b ∙ turns))))

  test_stays : (b : Bool) → Gives z.setup (λ w. is_of_kind (tables z) kind.Bool w ≡ true) (given (Ok (value.Bool b)))
  test_stays b = given_gives z.setup (Ok (value.Bool b)) refl

  -- the right side, and then the operator
  module _ {k : Kind} {code : Segment} {t : Acting Thing} (right : IsValued z h H k code t) (x : Value) where
    after_right : {l : Kind} (instructions : List Instr) (f : Value → Acting Value) → ((v : Value) → Gives z.setup (λ w. is_of_kind (tables z) l w ≡ true) (f v))
        → ((v : Value) (stack : List Value) → RR (just instructions) (H (v ∷ x ∷ stack)) (f v) (λ w. H (w ∷ stack)))
        → IsMade (λ stack. H (x ∷ stack)) l (code ⨾ just instructions) (t >>= (λ y. f (value_in y)))
    after_right instructions f stays does = record {
      stays = then_gives z.setup right.stays (λ y of. stays (value_in y));
      does = λ stack. runs_then z.p z.c z.calls z.setup (right.does (x ∷ stack)) right.stays (λ y of. does (value_in y) stack);
    }

    bool_is : (v : Value) → is_of_kind (tables z) kind.Bool v ≡ true → value.Bool (truth v) ≡ v
    bool_is (value.Bool b) is = refl
    bool_is v is = absurd (cc is)

    thing_bool : (y : Thing) → IsValueOf z kind.Bool y → value.Bool (truth (value_in y)) ≡ value_in y
    thing_bool y of = subst (λ (u : Thing). value.Bool (truth (value_in u)) ≡ value_in u) (sym of.is) (bool_is of.value of.of_kind)

    -- where the left side doesn't decide, the truth of the right one
    right_alone : k ≡ kind.Bool → (stack : List Value) → RR code (H stack) (t >>= (λ y. given (Ok (value.Bool (truth (value_in y)))))) (λ w. H (w ∷ stack))
    unfolding given
    right_alone is stack =
        makes_runs z.p z.c z.calls z.setup (λ y. value.Bool (truth (value_in y))) (λ w. H (w ∷ stack))
        (runs_where z.p z.c z.calls z.setup right.stays
        (λ y of. ap (λ v. H (v ∷ stack)) (sym (thing_bool y (subst (λ l. IsValueOf z l y) is of)))) (right.does stack))

    right_stays : Gives z.setup (λ w. is_of_kind (tables z) kind.Bool w ≡ true) (t >>= (λ y. given (Ok (value.Bool (truth (value_in y))))))
    right_stays = then_gives z.setup right.stays (λ y of. test_stays (truth (value_in y)))

    -- what the left side decides
    decided_runs : (b : Bool) (stack : List Value) → RR (just (push_truth b ∷ [])) (H stack) (ends (value.Bool b)) (λ w. H (w ∷ stack))
    decided_runs b stack = runs_plain z.p z.c z.calls z.setup (push_truth b) (H stack) (value.Bool b ∷ stack) (value.Bool b) (λ w. H (w ∷ stack)) refl refl

    or_made : k ≡ kind.Bool → (b : Bool) → truth x ≡ b → IsMade (λ stack. H (x ∷ stack)) kind.Bool (joined_code Or code) (operated Or x t)
    unfolding operated decided
    or_made is true left = rw left (record {
      stays = ends_gives z.setup refl;
      does = λ stack. runs_first z.p z.c z.calls z.setup (just (push_truth true ∷ [])) code (H (x ∷ stack)) (ends (value.Bool true)) (λ w. H (w ∷ stack)) left (decided_runs true stack);
    })
    or_made is false left = rw left (record {
      stays = right_stays;
      does = λ stack. runs_second z.p z.c z.calls z.setup (just (push_truth true ∷ [])) code (H (x ∷ stack)) _ (λ w. H (w ∷ stack)) left (right_alone is stack);
    })

    and_made : k ≡ kind.Bool → (b : Bool) → truth x ≡ b → IsMade (λ stack. H (x ∷ stack)) kind.Bool (joined_code And code) (operated And x t)
    unfolding operated decided
    and_made is false left = rw left (record {
      stays = ends_gives z.setup refl;
      does = λ stack. runs_second z.p z.c z.calls z.setup code (just (push_truth false ∷ [])) (H (x ∷ stack)) (ends (value.Bool false)) (λ w. H (w ∷ stack)) left (decided_runs false stack);
    })
    and_made is true left = rw left (record {
      stays = right_stays;
      does = λ stack. runs_first z.p z.c z.calls z.setup code (just (push_truth false ∷ [])) (H (x ∷ stack)) _ (λ w. H (w ∷ stack)) left (right_alone is stack);
    })

    pub operator_made : (operator : Operator) → IsRight operator k → IsMade (λ stack. H (x ∷ stack)) (kind_joined operator) (joined_code operator code) (operated operator x t)
    unfolding operated decided
    operator_made Or is = or_made is (truth x) refl
    operator_made And is = and_made is (truth x) refl
    operator_made Equal is = after_right (instr.Eq ∷ []) (λ v. given (joined_values Equal x v)) (λ v. test_stays (are_equal x v)) (λ v stack. test_runs instr.Eq (v ∷ x ∷ stack) stack (are_equal x v) refl)
    operator_made Unequal is = after_right (instr.Eq ∷ instr.Not ∷ []) (λ v. given (joined_values Unequal x v)) (λ v. test_stays (not (are_equal x v))) (λ v stack. opposite_runs instr.Eq (v ∷ x ∷ stack) stack (are_equal x v) (not (are_equal x v)) refl refl)
    operator_made Less is = after_right (instr.Lt ∷ []) (λ v. given (joined_values Less x v)) (λ v. test_stays (is_less x v)) (λ v stack. test_runs instr.Lt (v ∷ x ∷ stack) stack (is_less x v) refl)
    operator_made Greater is = after_right (instr.Le ∷ instr.Not ∷ []) (λ v. given (joined_values Greater x v)) (λ v. test_stays (is_less v x)) (λ v stack. opposite_runs instr.Le (v ∷ x ∷ stack) stack (is_at_most x v) (is_less v x) refl (less_or_not (number x) (number v)))
    operator_made LessOrEqual is = after_right (instr.Le ∷ []) (λ v. given (joined_values LessOrEqual x v)) (λ v. test_stays (is_at_most x v)) (λ v stack. test_runs instr.Le (v ∷ x ∷ stack) stack (is_at_most x v) refl)
    operator_made GreaterOrEqual is = after_right (instr.Lt ∷ instr.Not ∷ []) (λ v. given (joined_values GreaterOrEqual x v)) (λ v. test_stays (is_at_most v x)) (λ v stack. opposite_runs instr.Lt (v ∷ x ∷ stack) stack (is_less x v) (is_at_most v x) refl (most_or_not (number x) (number v)))
    operator_made Plus is = after_right (instr.Add ∷ []) (λ v. given (joined_values Plus x v)) (λ v. number_stays (sum x v)) (λ v stack. number_runs instr.Add 2 (v ∷ x ∷ stack) stack (sum x v) refl refl)
    operator_made Minus is = after_right (instr.Sub ∷ []) (λ v. given (joined_values Minus x v)) (λ v. number_stays (difference x v)) (λ v stack. number_runs instr.Sub 2 (v ∷ x ∷ stack) stack (difference x v) refl refl)
    operator_made Times is = after_right (instr.Mul ∷ []) (λ v. given (joined_values Times x v)) (λ v. number_stays (product x v)) (λ v stack. number_runs instr.Mul 2 (v ∷ x ∷ stack) stack (product x v) refl refl)
