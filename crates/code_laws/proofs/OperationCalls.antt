-- An operation, with its arguments on the stack, does what the built-in call of its number does, and leaves what that answers.
use Rattle.std.proofs.Common.{◌≡◌, ◌++◌, ℕ, true, Option, None, Some, List, [], ◌∷◌, drop, take, length, reverse, slice_get, refl, sym, ap, subst, ◌∙◌}
use Rattle.std.proofs.Math.Seq.{drop-append_seam, take-append_seam}
use Rattle.std.proofs.lemmas.List.{length-reverse, reverse-reverse}
use Rattle.ruby_value.specs.declared.value.Value.{Value}
use Rattle.ruby_symbols.specs.declared.machine.TableSymbol.{TableSymbol}
use Rattle.acts.specs.Prelude.{Acting, ends, ◌>>=◌}
use Rattle.built_in_acts.specs.Prelude.{built_in}
use Rattle.built_in_acts.specs.declared.machines.KeptMachines.{KeptMachines}
use Rattle.action_code.specs.declared.instr.Instr.TheVariants as instr
use Rattle.action_code.specs.declared.operations.Answer.{Answer}
use Rattle.action_code.specs.declared.operations.Answer.TheVariants as answer
use Rattle.action_code.specs.declared.operations.Operation.{Operation}
use Rattle.action_code.specs.declared.program.TableDecl.{TableDecl}
use Rattle.action_code.specs.Prelude.{answered, line_answered, machine_of, operands_of, operations, serves}
use Rattle.body_meaning.specs.Prelude.{thing_built, thing_of}
use Rattle.code_meaning.specs.Prelude.{Held, IsAnswer, arguments_on, arity, code_step, given_back, is_of_kind, kept_of, on_stack}
use Rattle.code_meaning.proofs.Gives.{Gives, ends_gives, then_gives}
use Rattle.code_meaning.proofs.OfKind.{bare_is}
use Rattle.code_meaning.proofs.Operations.{operation_gives}
use Rattle.body_code.specs.declared.left.Left.{Left}
use Rattle.body_code.specs.declared.left.Left.TheVariants as left
use Rattle.body_code.specs.Kinds.{table_declared}
use Rattle.body_code.specs.Calls.{lines_left}
use Rattle.body_code.specs.Prelude.{answer_left, just, lines_kind, operated as operation_code, operation_left}
use Rattle.code_laws.specs.Holding.{OfLeft, left_on}
use Rattle.code_laws.specs.Setting.{IsSet, Setting, tables}
use Rattle.code_laws.proofs.Good.{IsDone, R, held}
use Rattle.code_laws.proofs.Segments.{makes_runs, runs_made, runs_step, runs_where}
use Rattle.code_laws.proofs.Structures.{lines_same, table_there}

-- Arguments on the stack, the last one on top.

pub taken : (arguments stack : List Value) (n : ℕ) → length arguments ≡ n → arguments_on n (reverse arguments ++ stack) ≡ arguments
taken arguments stack n is =
    let count : n ≡ length (reverse arguments) = sym (length-reverse arguments ∙ is) in
    ap (λ k. reverse (take k (reverse arguments ++ stack))) count ∙ ap reverse (take-append_seam (reverse arguments) stack) ∙ reverse-reverse arguments

pub passed : (arguments stack : List Value) (n : ℕ) → length arguments ≡ n → drop n (reverse arguments ++ stack) ≡ stack
passed arguments stack n is =
    let count : n ≡ length (reverse arguments) = sym (length-reverse arguments ∙ is) in ap (λ k. drop k (reverse arguments ++ stack)) count ∙ drop-append_seam (reverse arguments) stack

module _ (z : Setting) (is : IsSet z) (h : Held) where
  abbrev H : List Value → Held
  H stack = held z h stack

  -- what answers a line is on a table of the machine
  abbrev pub HasTable : ℕ → Answer → Type 0
  HasTable on answer.Line = (t : TableSymbol) × (slice_get z.s.machine.tables on ≡ Some t)
  HasTable on _ = Unit {0}

  abbrev pub Answered : ℕ → Answer → Option Value → Type 0
  Answered on a v = IsAnswer (tables z) (answered (machine_of z.p z.c) on a) v

  -- what is answered is what is left
  lines_left_is : (on : ℕ) (t : TableSymbol) → slice_get z.s.machine.tables on ≡ Some t → lines_left z.s.machine (slice_get z.s.machine.tables on) ≡ left.Value (lines_kind z.s.machine t)
  lines_left_is on t there = ap (lines_left z.s.machine) there

  answer_of : (on : ℕ) (a : Answer) → HasTable on a → (v : Option Value) → Answered on a v → OfLeft z h (answer_left z.s.machine on a) (thing_of v)
  answer_of on answer.Nothing has None of = refl
  answer_of on answer.Nothing has (Some v) of = absurd of
  answer_of on (answer.Value k) has None of = absurd of
  answer_of on (answer.Value k) has (Some v) of = record { value = v; is = refl; of_kind = sym (bare_is (tables z) k v) ∙ of }
  answer_of on answer.Line has v of =
      let there : slice_get (tables z) on ≡ Some (table_declared has.0) = table_there z is on has.0 has.1 in
      let A : Option TableDecl → Type 0 = λ o. IsAnswer (tables z) (line_answered (tables z) o) v in
      let B : Left → Type 0 = λ l. OfLeft z h l (thing_of v) in
      subst B (sym (lines_left_is on has.0 has.1)) (line v (subst A there of))
    where
      line : (v : Option Value) → IsAnswer (tables z) (line_answered (tables z) (Some (table_declared has.0))) v → OfLeft z h (left.Value (lines_kind z.s.machine has.0)) (thing_of v)
      line None of = absurd of
      line (Some v) of = record { value = v; is = refl; of_kind = ap (λ k. is_of_kind (tables z) k v) (sym (lines_same z is has.0)) ∙ of }

  placed : (on : ℕ) (a : Answer) → HasTable on a → (n : ℕ) (arguments stack : List Value) → length arguments ≡ n → (v : Option Value) → Answered on a v
      → H (given_back n (reverse arguments ++ stack) v) ≡ left_on (answer_left z.s.machine on a) (H stack) (thing_of v)
  placed on answer.Nothing has n arguments stack count None of = ap H (passed arguments stack n count)
  placed on answer.Nothing has n arguments stack count (Some v) of = absurd of
  placed on (answer.Value k) has n arguments stack count None of = absurd of
  placed on (answer.Value k) has n arguments stack count (Some v) of = ap (λ s. H (v ∷ s)) (passed arguments stack n count)
  placed on answer.Line has n arguments stack count v of =
      let there : slice_get (tables z) on ≡ Some (table_declared has.0) = table_there z is on has.0 has.1 in
      let A : Option TableDecl → Type 0 = λ o. IsAnswer (tables z) (line_answered (tables z) o) v in
      let B : Left → Type 0 = λ l. H (given_back n (reverse arguments ++ stack) v) ≡ left_on l (H stack) (thing_of v) in
      subst B (sym (lines_left_is on has.0 has.1)) (line v (subst A there of))
    where
      line : (v : Option Value) → IsAnswer (tables z) (line_answered (tables z) (Some (table_declared has.0))) v → H (given_back n (reverse arguments ++ stack) v) ≡ left_on (left.Value (lines_kind z.s.machine has.0)) (H stack) (thing_of v)
      line None of = absurd of
      line (Some v) of = ap (λ s. H (v ∷ s)) (passed arguments stack n count)

  module _ (n on : ℕ) (o : Operation) (there : slice_get operations n ≡ Some o) (served : serves (machine_of z.p z.c) on o.on ≡ true) (has : HasTable on o.answer) (arguments : List Value)
      (count : length arguments ≡ length (operands_of o.arguments)) where
    count_is : length arguments ≡ arity (slice_get operations n)
    count_is = count ∙ sym (ap arity there)

    left_is : operation_left z.s on (slice_get operations n) ≡ answer_left z.s.machine on o.answer
    left_is = ap (operation_left z.s on) there

    gives : Gives z.setup (Answered on o.answer) (built_in z.s.kept n on arguments)
    gives = operation_gives (machine_of z.p z.c) z.setup z.s.kept n on o arguments there served

    abbrev Step : List Value → KeptMachines → List Value → Acting (List Value)
    Step stack kept args = built_in kept n on args >>= (λ v. ends (given_back (arity (slice_get operations n)) (reverse arguments ++ stack) v))

    step : (stack : List Value) → code_step z.p z.c z.calls (instr.Op n on) (H (reverse arguments ++ stack)) ≡ on_stack (H (reverse arguments ++ stack)) (Step stack z.s.kept arguments)
    step stack =
        ap (λ args. on_stack (H (reverse arguments ++ stack)) (Step stack (kept_of z.p z.c) args)) (taken arguments stack (arity (slice_get operations n)) count_is)
        ∙ ap (λ kept. on_stack (H (reverse arguments ++ stack)) (Step stack kept arguments)) (sym is.kept)

    runs : (stack : List Value) → R z h (just (instr.Op n on ∷ [])) (H (reverse arguments ++ stack)) (built_in z.s.kept n on arguments) (λ v. left_on (answer_left z.s.machine on o.answer) (H stack) (thing_of v))
    runs stack =
        runs_where z.p z.c z.calls z.setup gives (λ v of. placed on o.answer has (arity (slice_get operations n)) arguments stack count_is v of)
        (runs_made z.p z.c z.calls z.setup (given_back (arity (slice_get operations n)) (reverse arguments ++ stack)) (λ s. H s)
        (runs_step z.p z.c z.calls z.setup (instr.Op n on) (H (reverse arguments ++ stack)) (Step stack z.s.kept arguments) (step stack)))

    by_answer : IsDone z h (λ stack. H (reverse arguments ++ stack)) (record { left = answer_left z.s.machine on o.answer; code = just (instr.Op n on ∷ []) }) (thing_built z.s n on arguments)
    unfolding thing_built
    by_answer = record {
      stays = then_gives z.setup gives (λ v of. ends_gives z.setup (answer_of on o.answer has v of));
      does = λ stack. makes_runs z.p z.c z.calls z.setup thing_of (left_on (answer_left z.s.machine on o.answer) (H stack)) (runs stack);
    }

    pub operation_done : IsDone z h (λ stack. H (reverse arguments ++ stack)) (operation_code z.s n on) (thing_built z.s n on arguments)
    operation_done =
        let T : Left → Type 0 = λ l. IsDone z h (λ stack. H (reverse arguments ++ stack)) (record { left = l; code = just (instr.Op n on ∷ []) }) (thing_built z.s n on arguments) in
        subst T (sym left_is) by_answer
