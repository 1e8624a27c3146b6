-- Calls on something, where each argument is a value: on tables, ports and the sequencer, and on values.
use Rattle.std.proofs.Common.{◌≡◌, ◌∙◌, ◌++◌, ℕ, suc, true, Option, Some, List, [], ◌∷◌, length, reverse, sym, ap, subst, arith}
use Rattle.std.proofs.lemmas.List.{append_assoc, reverse-append}
use Rattle.slicc_ast.specs.declared.tree.expression.Expr.{Row_of-Expr, items-the_row-Expr}
use Rattle.ruby_value.specs.declared.kind.Kind.{Kind}
use Rattle.ruby_value.specs.declared.value.Value.{Value}
use Rattle.slicc_plan.specs.BuiltInCalls.{Call}
use Rattle.slicc_plan.specs.Environment.{BodySort, Bound, Environment}
use Rattle.slicc_plan.specs.ExpressionTypes.{arguments_typed}
use Rattle.slicc_plan.specs.Meanings.{Meaning}
use Rattle.rules_symbols.specs.CallRows.{given_by, operation_of, receiver_operand, served_on}
use Rattle.rules_symbols.specs.TypedMeaning.{IsTypedIn}
use Rattle.acts.specs.declared.body_fault.BodyFault.TheVariants as own
use Rattle.acts.specs.Prelude.{Acting, ◌>>=◌, found}
use Rattle.action_code.specs.declared.operations.Operation.{Operation}
use Rattle.action_code.specs.Prelude.{machine_of, operands_of, serves}
use Rattle.body_meaning.specs.declared.frame.Frame.{Frame}
use Rattle.body_meaning.specs.declared.thing.Numbered.{Numbered}
use Rattle.body_meaning.specs.declared.thing.Thing.{Thing}
use Rattle.body_meaning.specs.declared.thing.Thing.TheVariants as thing
use Rattle.body_meaning.specs.Prelude.{called_on, method_call, thing_built, values, with_receiver}
use Rattle.code_meaning.specs.Prelude.{Held, are_of_kinds}
use Rattle.code_meaning.proofs.Gives.{then_gives}
use Rattle.body_code.specs.declared.left.Left.{Left}
use Rattle.body_code.specs.declared.left.Left.TheVariants as left
use Rattle.body_code.specs.declared.left.NameAt.{NameAt}
use Rattle.body_code.specs.Prelude.{Piece, Segment, after, all_arguments, answer_left, called_on as called_code, entry_kind, method_call as method_code, numbered_call, operated as operation_code, operation_left}
use Rattle.code_laws.specs.Calling.{CallsDo}
use Rattle.code_laws.specs.Holding.{IsLeft, left_on}
use Rattle.code_laws.specs.Setting.{IsSet, Setting, env_of, tables}
use Rattle.code_laws.proofs.ArgumentRows.{AreMore, IsListed}
use Rattle.code_laws.proofs.BuiltInForms.{IsReady}
use Rattle.code_laws.proofs.Good.{IsDone, R, held}
use Rattle.code_laws.proofs.MessageForms.{same_count}
use Rattle.code_laws.proofs.OperationCalls.{HasTable, operation_done}
use Rattle.code_laws.proofs.Segments.{runs_then}
use Rattle.code_laws.proofs.ValueRows.{row_count}

module _ (z : Setting) (is : IsSet z) (h : Held) where
  abbrev H : List Value → Held
  H stack = held z h stack

  -- arguments above what is on the stack already, and a call on them
  pub arguments_above : {ks : List Kind} {code : Segment} {q : List Value → Acting (List Value)} (below : List Value) (p : Piece) (f : List Value → Acting Thing) → IsListed z h ks code q
      → ((vs : List Value) → are_of_kinds (tables z) ks vs ≡ true → IsDone z h (λ stack. H (reverse vs ++ (below ++ stack))) p (f vs)) → IsDone z h (λ stack. H (below ++ stack)) (after code p) (q [] >>= f)
  arguments_above {ks} below p f listed each =
      let same : (vs : List Value) → AreMore z h ks [] vs → are_of_kinds (tables z) ks vs ≡ true = λ vs more. ap (are_of_kinds (tables z) ks) more.1 ∙ more.2 in
      record {
        stays = then_gives z.setup (listed.stays []) (λ vs more. let e = each vs (same vs more) in e.stays);
        does = λ stack. runs_then z.p z.c z.calls z.setup (listed.does [] (below ++ stack)) (listed.stays []) (λ vs more. let e = each vs (same vs more) in e.does stack);
      }

  -- a receiver that is a value is the first argument
  below_is : (v : Value) (vs stack : List Value) → reverse (v ∷ vs) ++ stack ≡ reverse vs ++ (v ∷ stack)
  below_is v vs stack = ap (λ s. s ++ stack) (reverse-append (v ∷ []) vs) ∙ append_assoc (reverse vs) (v ∷ []) stack

  -- what is called on, as it is in code and in bodies
  pub record IsOn (l : Left) (t : Thing) (text : List ℕ) (count number on : ℕ) : Type 0 where
    pub in_code : called_code z.s l text count ≡ Some (record { number = number; on = on })
    pub in_body : called_on z.s.machine t text count ≡ Some (record { number = number; on = on })

  method_is : (l : Left) (t : Thing) (text : List ℕ) (number on : ℕ) (vs : List Value) → called_on z.s.machine t text (length vs) ≡ Some (record { number = number; on = on })
      → method_call z.s t text vs ≡ thing_built z.s number on (with_receiver t vs)
  unfolding method_call found ◌>>=◌
  method_is l t text number on vs e = ap (λ o. found own.Reference o >>= (λ (c : Numbered). thing_built z.s c.number c.on (with_receiver t vs))) e

module _ (z : Setting) (is : IsSet z) (calling : CallsDo z) (body : BodySort) (answer : Meaning) (bound : List Bound) (names : List NameAt) (frame : Frame) (h : Held)
    (typed_in : IsTypedIn z.s.number (env_of z body answer bound)) where
  abbrev E : Environment
  E = env_of z body answer bound

  abbrev K : List Value → Held
  K stack = held z h stack

  abbrev M : {m : _} → Left → List ℕ → Row_of-Expr m → Piece
  M l text row = method_code z.s l text (length (items-the_row-Expr _ row)) (all_arguments z.s z.numbers names (entry_kind z.s ∷ []) row)

  abbrev B : {m : _} → Thing → List ℕ → Row_of-Expr m → Acting Thing
  B t text row = values z.s z.functions frame [] row >>= method_call z.s t text

  module _ {m : _} (c : Call) (row : Row_of-Expr m) (r : IsReady z is calling body answer bound names frame h typed_in c row (entry_kind z.s ∷ [])) (on : ℕ) (has : HasTable z is h on (given_by c.receiver c.change c.answer))
      (served : serves (machine_of z.p z.c) on (served_on c.receiver) ≡ true) (text : List ℕ) where
    items : length (items-the_row-Expr m row) ≡ length (arguments_typed E row)
    items = row_count E row

    code_is : (l : Left) → called_code z.s l text (length (arguments_typed E row)) ≡ Some (record { number = r.number; on = on }) → numbered_call z.s (called_code z.s l text (length (items-the_row-Expr m row))) ≡ operation_code z.s r.number on
    code_is l e = ap (λ n. numbered_call z.s (called_code z.s l text n)) items ∙ ap (numbered_call z.s) e

    -- on what has no code
    pub silent_done : (l : Left) (t : Thing) → with_receiver t ≡ (λ vs. vs) → length (receiver_operand c.receiver) ≡ 0 → IsOn z is h l t text (length (arguments_typed E row)) r.number on → IsDone z h K (M l text row) (B t text row)
    silent_done l t plain none o =
        let P : Piece → Type 0 = λ p. IsDone z h K (after (all_arguments z.s z.numbers names (entry_kind z.s ∷ []) row) p) (B t text row) in
        subst P (sym (code_is l o.in_code)) (arguments_above z is h [] (operation_code z.s r.number on) (method_call z.s t text) r.listed.2 (λ vs are. one vs are))
      where
        one : (vs : List Value) → are_of_kinds (tables z) r.listed.0 vs ≡ true → IsDone z h (λ stack. K (reverse vs ++ stack)) (operation_code z.s r.number on) (method_call z.s t text vs)
        one vs are =
            let count : length vs ≡ length (arguments_typed E row) = same_count z r.listed.0 vs are ∙ r.listed.1 in
            let operands : length vs ≡ length (operands_of (operation_of c r.more).arguments) = omega (arith, count, r.count, none) in
            let T : Acting Thing → Type 0 = λ u. IsDone z h (λ stack. K (reverse vs ++ stack)) (operation_code z.s r.number on) u in
            let same : method_call z.s t text vs ≡ thing_built z.s r.number on vs =
            method_is z is h l t text r.number on vs (ap (called_on z.s.machine t text) count ∙ o.in_body) ∙ ap (λ (w : List Value → List Value). thing_built z.s r.number on (w vs)) plain in
            subst T (sym same) (operation_done z is h r.number on (operation_of c r.more) r.there served has vs operands)

    -- on a value, which is the first argument
    pub value_receiver_done : (k : Kind) (v : Value) → length (receiver_operand c.receiver) ≡ 1 → IsOn z is h (left.Value k) (thing.Value v) text (length (arguments_typed E row)) r.number on
        → IsDone z h (λ stack. K (v ∷ stack)) (M (left.Value k) text row) (B (thing.Value v) text row)
    value_receiver_done k v operand o =
        let P : Piece → Type 0 = λ p. IsDone z h (λ stack. K (v ∷ stack)) (after (all_arguments z.s z.numbers names (entry_kind z.s ∷ []) row) p) (B (thing.Value v) text row) in
        subst P (sym (code_is (left.Value k) o.in_code)) (arguments_above z is h (v ∷ []) (operation_code z.s r.number on) (method_call z.s (thing.Value v) text) r.listed.2 (λ vs are. one vs are))
      where
        one : (vs : List Value) → are_of_kinds (tables z) r.listed.0 vs ≡ true → IsDone z h (λ stack. K (reverse vs ++ (v ∷ stack))) (operation_code z.s r.number on) (method_call z.s (thing.Value v) text vs)
        one vs are =
            let count : length vs ≡ length (arguments_typed E row) = same_count z r.listed.0 vs are ∙ r.listed.1 in
            let operands : suc (length vs) ≡ length (operands_of (operation_of c r.more).arguments) = omega (arith, count, r.count, operand) in
            let same : method_call z.s (thing.Value v) text vs ≡ thing_built z.s r.number on (v ∷ vs) = method_is z is h (left.Value k) (thing.Value v) text r.number on vs (ap (called_on z.s.machine (thing.Value v) text) count ∙ o.in_body) in
            let done = operation_done z is h r.number on (operation_of c r.more) r.there served has (v ∷ vs) operands in
            let T : Acting Thing → Type 0 = λ u. IsDone z h (λ stack. K (reverse vs ++ (v ∷ stack))) (operation_code z.s r.number on) u in
            subst T (sym same)
            (record {
              stays = done.stays;
              does = λ stack.
                  let F : List Value → Type 0 = λ s. R z h (operation_code z.s r.number on).code (K s) (thing_built z.s r.number on (v ∷ vs)) (left_on (operation_code z.s r.number on).left (K stack)) in
                  subst F (below_is z is h v vs stack) (done.does stack);
            })

    -- what is left
    pub left_by : (l : Left) (meaning : Meaning) → called_code z.s l text (length (arguments_typed E row)) ≡ Some (record { number = r.number; on = on })
        → IsLeft z meaning (answer_left z.s.machine on (given_by c.receiver c.change c.answer)) → IsLeft z meaning (M l text row).left
    left_by l meaning e typed =
        let P : Piece → Type 0 = λ p. IsLeft z meaning p.left in
        let O : Option Operation → Type 0 = λ o. IsLeft z meaning (operation_left z.s on o) in
        subst P (sym (code_is l e)) (subst O (sym r.there) typed)
