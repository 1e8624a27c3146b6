-- Code of expressions does what they mean. One induction over trees.
use Rattle.std.proofs.Common.{◌≡◌, ◌++◌, ℤ, Bool, true, false, Option, None, Some, List, [], ◌∷◌, refl, sym, subst}
use Rattle.slicc_ast.specs.declared.tree.expression.Expr.{Expr, Number, True, False, Nothing, Variable, Member, Call', New, Row_of-Expr, end_of-Expr, more_of-Expr, Row_of-Operand, end_of-Operand, more_of-Operand, Row_of-Suffix, end_of-Suffix, more_of-Suffix}
use Rattle.slicc_ast.specs.declared.tree.expression.Operator.{Operator}
use Rattle.slicc_ast.specs.declared.tree.expression.Operator.TheVariants.{Or, And, Equal, Unequal, Less, Greater, LessOrEqual, GreaterOrEqual, Plus, Minus, Times}
use Rattle.slicc_ast.specs.declared.tree.expression.Suffix.{Suffix, Field, Method', Index}
use Rattle.slicc_ast.specs.declared.tree.name.Name.{Name}
use Rattle.slicc_ast.specs.declared.tree.span.Span.{Span}
use Rattle.slicc_ast.specs.Prelude.{Operation', Not', Negate', Postfix', IsValid', IsInvalid', Cast', Group'}
use Rattle.ruby_value.specs.declared.kind.Kind.{Kind}
use Rattle.ruby_value.specs.declared.kind.Kind.TheVariants as kind
use Rattle.ruby_value.specs.declared.value.Value.{Value}
use Rattle.ruby_value.specs.declared.value.Value.TheVariants as plain_value
use Rattle.ruby_value.specs.Prelude.{is_reference}
use Rattle.slicc_plan.specs.declared.broken.Rule.TheVariants.{WrongType}
use Rattle.slicc_plan.specs.declared.built_in.BuiltInType.TheVariants.{Buffer, Int, Bool as Boolean}
use Rattle.slicc_plan.specs.CallTypes.{Typed}
use Rattle.slicc_plan.specs.Declarations.{first_named, machine_declarations}
use Rattle.slicc_plan.specs.Environment.{BodySort, Bound, Environment, bound_as, value_outside, value_within}
use Rattle.slicc_plan.specs.ExpressionTypes.{found_value, given_at, joined, operands_typed, operator_type, span_of, suffix_typed, suffixes_typed, typed, variable_type}
use Rattle.slicc_plan.specs.Meanings.{Meaning, value, no_line, bare_line, new_line, incoming, outgoing, table, in_port, out_port, nothing, unknown, Wanted, any_line, fits, of_built_in, unfit}
use Rattle.slicc_plan.specs.Types.{built_in}
use Rattle.slicc_plan.proofs.Room.{left_none, right_none}
use Rattle.rules_symbols.specs.TypedMeaning.{IsTyped, IsTypedIn}
use Rattle.rules_symbols.proofs.ExpressionForms.{before_suffixes, joined_are, left_operand}
use Rattle.rules_symbols.proofs.TypedExpressions.{suffix_is, typed_is}
use Rattle.rules_symbols.proofs.TypedParts.{told_among, told_last}
use Rattle.rules_symbols.proofs.WhatFits.{untold}
use Rattle.acts.specs.Prelude.{Acting, ends, ◌>>=◌}
use Rattle.action_code.specs.declared.instr.Instr.TheVariants as instr
use Rattle.body_meaning.specs.declared.frame.Frame.{Frame}
use Rattle.body_meaning.specs.declared.thing.Thing.{Thing}
use Rattle.body_meaning.specs.declared.thing.Thing.TheVariants as thing
use Rattle.body_meaning.specs.Prelude.{boolean, names_line, names_nothing, negation_of, no_line as nothing_given, not_so, operands, operated, suffixed, suffixed_all, value as value_of, value_in, variable, variable_or}
use Rattle.code_meaning.specs.Prelude.{Held, is_of_kind}
use Rattle.code_meaning.proofs.Gives.{ends_gives, then_gives}
use Rattle.body_code.specs.declared.left.Home.{Home}
use Rattle.body_code.specs.declared.left.Left.{Left}
use Rattle.body_code.specs.declared.left.Left.TheVariants as left
use Rattle.body_code.specs.declared.left.NameAt.{NameAt}
use Rattle.body_code.specs.Prelude.{Piece, compared, giving, kind_joined, kind_left, known, made, name_read, null, operands as operands_code, piece, suffixed as suffix_code, suffixed_all as suffixes_code, null_kind, then}
use Rattle.body_code.specs.Names.{read_or}
use Rattle.code_laws.specs.Holding.{Holds, IsLeft, IsValueOf, OfLeft, is_used, left_on}
use Rattle.code_laws.specs.Setting.{Setting, env_of, tables}
use Rattle.code_laws.specs.Whole.{AreWhole, AreWholeOperands, AreWholeSuffixes, HasOperand, IsWhole, IsWholeSuffix}
use Rattle.code_laws.proofs.Forms.{AllGood, Behind, Forms, Good}
use Rattle.code_laws.proofs.Good.{IsDone, IsGood, as_value, done_as, done_then, held, pushed_done, value_done}
use Rattle.code_laws.proofs.Operands.{bool_left, int_left, on_left, on_used, right_left, right_used, used_where}
use Rattle.code_laws.proofs.Operators.{IsRight, operator_made}
use Rattle.code_laws.proofs.OwnNames.{not_own, own_good}
use Rattle.code_laws.proofs.Plain.{line_valued, negation_valued, not_valued, nothing_valued, null_done}
use Rattle.code_laws.proofs.Same.{at_once, regrouped, turned}
use Rattle.code_laws.proofs.Segments.{runs_nothing, runs_then}
use Rattle.code_laws.proofs.Typing.{any_reference, left_sure}

null_kind_reference : (expected : Option Kind) → is_reference (null_kind expected) ≡ true
null_kind_reference None = refl
null_kind_reference (Some (kind.Entry n)) = refl
null_kind_reference (Some (kind.Tbe n)) = refl
null_kind_reference (Some kind.Bool) = refl
null_kind_reference (Some kind.Int) = refl
null_kind_reference (Some (kind.Enum a m)) = refl
null_kind_reference (Some kind.Addr) = refl
null_kind_reference (Some kind.Machine) = refl
null_kind_reference (Some kind.Dest) = refl
null_kind_reference (Some kind.Block) = refl

-- what suffixes are behind may be used
suffix_used : (env : Environment) (place : Span) (left : Typed) (x : Suffix) → (suffix_typed env place left x).broken ≡ [] → is_used left.meaning ≡ true
suffix_used env place left x none = by left.meaning x none
  where
    by : (meaning : Meaning) (x : Suffix) → (suffix_typed env place (record { meaning = meaning; written = left.written; broken = left.broken }) x).broken ≡ [] → is_used meaning ≡ true
    by nothing (Field n span) told = absurd (told_last left.broken _ told)
    by nothing (Method' called shape row arguments span) told = absurd (told_among left.broken _ _ told)
    by nothing (Index key span) told = absurd (told_among left.broken _ _ told)
    by (table Buffer) (Field n span) told = absurd (told_last left.broken _ told)
    by (table Buffer) (Method' called shape row arguments span) told = absurd (told_among left.broken _ _ told)
    by (table Buffer) (Index key span) told = absurd (told_among left.broken _ _ told)
    by (table b) x told = refl
    by (value t) x told = refl
    by no_line x told = refl
    by bare_line x told = refl
    by (new_line made) x told = refl
    by (incoming t) x told = refl
    by (outgoing t) x told = refl
    by (in_port t) x told = refl
    by (out_port t) x told = refl
    by unknown x told = refl

row_used : {m : _} (env : Environment) (place : Span) (left : Typed) (row : Row_of-Suffix m) → (suffixes_typed env place left row).broken ≡ [] → is_used (suffixes_typed env place left row).meaning ≡ true → is_used left.meaning ≡ true
row_used env place left end_of-Suffix none used = used
row_used env place left (more_of-Suffix first row) none used = suffix_used env place left first (before_suffixes env place (suffix_typed env place left first) row none)

module _ (z : Setting) (body : BodySort) (answer : Meaning) (bound : List Bound) (names : List NameAt) (frame : Frame) (h : Held)
    (typed_in : IsTypedIn z.s.number (env_of z body answer bound)) (holds : Holds z bound names frame h) (forms : Forms z body answer bound names frame h) where
  abbrev E : Environment
  E = env_of z body answer bound

  abbrev H : List Value → Held
  H stack = held z h stack

  abbrev P : Option Kind → Expr → Piece
  P expected e = piece z.s z.numbers names expected e

  abbrev V : Expr → Acting Thing
  V e = value_of z.s z.functions frame e

  abbrev T : Meaning → Type 0
  T meaning = IsTyped z.trees z.m meaning

  abbrev G : Expr → Type 0
  G e = Good z body answer bound names frame h e

  -- Names.

  variable_good : (n : Name) → (variable_type E n).broken ≡ [] → is_used (variable_type E n).meaning ≡ true → IsGood z h (variable_type E n).meaning (name_read z.s names n.text) (variable z.s frame n.text)
  unfolding variable
  variable_good n none used = by (bound_as n.text bound) refl none used
    where
      outside : bound_as n.text bound ≡ None → (o : Option Bound) → value_outside z.trees z.m n.text (first_named n.text (machine_declarations z.m)) ≡ o → (found_value n o).broken ≡ [] → is_used (found_value n o).meaning ≡ true
          → IsGood z h (found_value n o).meaning (name_read z.s names n.text) (variable z.s frame n.text)
      outside own None is told used = absurd (cc told)
      outside own (Some b) is told used =
          let no = not_own z h bound names frame holds n.text own in
          subst (λ (x : Option Home). IsGood z h b.meaning (read_or z.s n.text x) (variable z.s frame n.text)) (sym no.0)
          (subst (λ (x : Option Thing). IsGood z h b.meaning (read_or z.s n.text None) (variable_or z.s n.text x)) (sym no.1) (forms.outside n.text b is used))

      by : (o : Option Bound) → bound_as n.text bound ≡ o → (found_value n (value_within E n.text o)).broken ≡ [] → is_used (found_value n (value_within E n.text o)).meaning ≡ true
          → IsGood z h (found_value n (value_within E n.text o)).meaning (name_read z.s names n.text) (variable z.s frame n.text)
      by None own told used = outside own (value_outside z.trees z.m n.text (first_named n.text (machine_declarations z.m))) refl told used
      by (Some b) own told used = own_good z h bound names frame holds n.text b own

  -- Operands.

  joined_left : (operator : Operator) → IsLeft z (value (built_in (operator_type operator))) (left.Value (kind_joined operator))
  joined_left Or = record { kind = kind.Bool; kind_is = refl; left_is = refl }
  joined_left And = record { kind = kind.Bool; kind_is = refl; left_is = refl }
  joined_left Equal = record { kind = kind.Bool; kind_is = refl; left_is = refl }
  joined_left Unequal = record { kind = kind.Bool; kind_is = refl; left_is = refl }
  joined_left Less = record { kind = kind.Bool; kind_is = refl; left_is = refl }
  joined_left Greater = record { kind = kind.Bool; kind_is = refl; left_is = refl }
  joined_left LessOrEqual = record { kind = kind.Bool; kind_is = refl; left_is = refl }
  joined_left GreaterOrEqual = record { kind = kind.Bool; kind_is = refl; left_is = refl }
  joined_left Plus = record { kind = kind.Int; kind_is = refl; left_is = refl }
  joined_left Minus = record { kind = kind.Int; kind_is = refl; left_is = refl }
  joined_left Times = record { kind = kind.Int; kind_is = refl; left_is = refl }

  -- with a value of this kind on the stack
  abbrev Rows : {m : _} → Meaning → Kind → Row_of-Operand m → Type 0
  Rows meaning k row =
      IsLeft z meaning (operands_code z.s z.numbers names (left.Value k) row).left
      × ((v : Value) → is_of_kind (tables z) k v ≡ true
      → IsDone z h (λ stack. H (v ∷ stack)) (operands_code z.s z.numbers names (left.Value k) row) (operands z.s z.functions frame v row >>= (λ w. ends (thing.Value w))))

  no_more : (k : Kind) (v : Value) → is_of_kind (tables z) k v ≡ true → IsDone z h (λ stack. H (v ∷ stack)) (known (left.Value k)) (ends v >>= (λ w. ends (thing.Value w)))
  no_more k v of =
      done_as z h (turned z.setup (at_once z.setup v (λ w. ends (thing.Value w))))
      (record {
        stays = ends_gives z.setup (record { value = v; is = refl; of_kind = of });
        does = λ stack. runs_nothing z.p z.c z.calls z.setup (H (v ∷ stack)) (thing.Value v) (left_on (left.Value k) (H stack)) refl;
      })

  operand_then : {m : _} (on : Kind) (operator : Operator) (inner : Expr) (row : Row_of-Operand m) (meaning : Meaning) (k : Kind) → (e : (P None inner).left ≡ left.Value k) → IsDone z h H (P None inner) (V inner)
      → IsRight operator k → Rows meaning (kind_joined operator) row → (v : Value)
      → IsDone z h (λ stack. H (v ∷ stack)) (operands_code z.s z.numbers names (left.Value on) (more_of-Operand operator inner row))
      (operands z.s z.functions frame v (more_of-Operand operator inner row) >>= (λ w. ends (thing.Value w)))
  operand_then on operator inner row meaning k e done right rest v =
      let made = operator_made z h (as_value z h k e done) v operator right in
      done_as z h (turned z.setup (regrouped z.setup (operated operator v (V inner)) (λ u. operands z.s z.functions frame u row) (λ w. ends (thing.Value w))))
      (record {
        stays = then_gives z.setup made.stays (λ u of. let n = rest.1 u of in n.stays);
        does = λ stack. runs_then z.p z.c z.calls z.setup (made.does stack) made.stays (λ u of. let n = rest.1 u of in n.does stack);
      })

  value_there : (k : Kind) (l : Left) (t : Thing) → l ≡ left.Value k → OfLeft z h l t → IsValueOf z k t
  value_there k l t is of = subst (λ x. OfLeft z h x t) is of

  -- what is wanted of an operand alone fits
  fits_there : (wanted : Wanted) (e : Expr) → (typed E e).broken ++ unfit z.m wanted (span_of e) (typed E e).meaning ≡ [] → fits z.m wanted (typed E e).meaning ≡ true
  fits_there wanted e none = untold (fits z.m wanted (typed E e).meaning) WrongType (span_of e) (right_none (typed E e).broken (unfit z.m wanted (span_of e) (typed E e).meaning) none)

  behind_value : (l : Left) (k : Kind) → l ≡ left.Value k → (x : Thing) → OfLeft z h l x → (row : Left → Piece) (f : Thing → Acting Thing)
      → ((v : Value) → is_of_kind (tables z) k v ≡ true → IsDone z h (λ stack. H (v ∷ stack)) (row (left.Value k)) (f (thing.Value v)))
      → IsDone z h (λ stack. left_on l (H stack) x) (row l) (f x)
  behind_value l k is x of row f each =
      let v = value_there k l x is of in
      let T : Left → Type 0 = λ y. IsDone z h (λ stack. left_on y (H stack) x) (row y) (f x) in
      let U : Thing → Type 0 = λ y. IsDone z h (λ stack. H (value_in y ∷ stack)) (row (left.Value k)) (f y) in
      subst T (sym is) (subst U (sym v.is) (each v.value v.of_kind))

  -- a row behind its first operand, which leaves a value
  operation_by : {m : _} (first : Expr) (row : Row_of-Operand m) → IsGood z h (typed E first).meaning (P None first) (V first) → (k : Kind) → (P None first).left ≡ left.Value k
      → Rows (operands_typed E (span_of first) (typed E first) row).meaning k row
      → IsGood z h (operands_typed E (span_of first) (typed E first) row).meaning (then (P None first) (λ l. operands_code z.s z.numbers names l row))
      (V first >>= (λ t. operands z.s z.functions frame (value_in t) row >>= (λ v. ends (thing.Value v))))
  operation_by first row one k on rest =
      let Row : Left → Piece = λ l. operands_code z.s z.numbers names l row in
      let F : Thing → Acting Thing = λ t. operands z.s z.functions frame (value_in t) row >>= (λ v. ends (thing.Value v)) in
      let T : Left → Type 0 = λ l. IsLeft z (operands_typed E (span_of first) (typed E first) row).meaning (Row l).left in
      record {
        left_is = subst T (sym on) rest.0;
        done = done_then z h Row F one.done (λ x of. behind_value (P None first).left k on x of Row F rest.1);
      }

  -- Each form, where it is proved of its parts.

  abbrev Joined : Span → Typed → Operator → Expr → Typed
  Joined place on operator inner = joined E operator (given_at place on) (given_at (span_of inner) (typed E inner))

  operands_more : {m : _} (place : Span) (on : Typed) (k : Kind) (operator : Operator) (inner : Expr) (row : Row_of-Operand m) → G inner → IsLeft z on.meaning (left.Value k)
      → ((operands_typed E place (Joined place on operator inner) row).broken ≡ [] → Rows (operands_typed E place (Joined place on operator inner) row).meaning (kind_joined operator) row)
      → (operands_typed E place (Joined place on operator inner) row).broken ≡ [] → Rows (operands_typed E place (Joined place on operator inner) row).meaning k (more_of-Operand operator inner row)
  operands_more place on k operator inner row good typed_on more none =
      let is = joined_are E operator (given_at place on) (given_at (span_of inner) (typed E inner)) (left_operand E place (Joined place on operator inner) row none) in
      let sure = left_sure z on.meaning (left.Value k) typed_on in
      let first = good is.right_unbroken (right_used z operator on.meaning (typed E inner).meaning sure is.left_fits is.right_fits) None in
      let right = right_left z operator on.meaning (typed E inner).meaning (P None inner).left sure is.left_fits first.left_is is.right_fits in
      let rest = more none in
      (rest.0, λ v of. operand_then k operator inner row (operands_typed E place (Joined place on operator inner) row).meaning right.0 right.1 first.done right.2 rest v)

  operation_good : {m : _} (first : Expr) (row : Row_of-Operand m) → G first → HasOperand row
      → ((k : Kind) → IsLeft z (typed E first).meaning (left.Value k) → (operands_typed E (span_of first) (typed E first) row).broken ≡ [] → Rows (operands_typed E (span_of first) (typed E first) row).meaning k row)
      → (operands_typed E (span_of first) (typed E first) row).broken ≡ []
      → IsGood z h (operands_typed E (span_of first) (typed E first) row).meaning (then (P None first) (λ l. operands_code z.s z.numbers names l row))
      (V first >>= (λ t. operands z.s z.functions frame (value_in t) row >>= (λ v. ends (thing.Value v))))
  operation_good first end_of-Operand good has rows none = absurd has
  operation_good first (more_of-Operand operator inner row) good has rows none =
      let is = joined_are E operator (given_at (span_of first) (typed E first)) (given_at (span_of inner) (typed E inner)) (left_operand E (span_of first) (Joined (span_of first) (typed E first) operator inner) row none) in
      let one = good is.left_unbroken (on_used z.m operator (typed E first).meaning is.left_fits) None in
      let on = on_left z operator (typed E first).meaning (P None first).left one.left_is is.left_fits in
      operation_by first (more_of-Operand operator inner row) one on.0 on.1 (rows on.0 (subst (λ l. IsLeft z (typed E first).meaning l) on.1 one.left_is) none)

  not_good : (inner : Expr) → G inner → (typed E inner).broken ++ unfit z.m (of_built_in Boolean) (span_of inner) (typed E inner).meaning ≡ []
      → IsDone z h H (made kind.Bool (P None inner) (instr.Not ∷ [])) (V inner >>= (λ t. ends (not_so t)))
  not_good inner good none =
      let fit = fits_there (of_built_in Boolean) inner none in
      let one = good (left_none (typed E inner).broken (unfit z.m (of_built_in Boolean) (span_of inner) (typed E inner).meaning) none) (used_where z.m (of_built_in Boolean) (typed E inner).meaning refl refl fit) None in
      value_done z h (not_valued z h (as_value z h kind.Bool (bool_left z (typed E inner).meaning (P None inner).left one.left_is fit) one.done))

  negation_good : (inner : Expr) → G inner → (typed E inner).broken ++ unfit z.m (of_built_in Int) (span_of inner) (typed E inner).meaning ≡ []
      → IsDone z h H (made kind.Int (P None inner) (instr.Neg ∷ [])) (V inner >>= negation_of)
  negation_good inner good none =
      let fit = fits_there (of_built_in Int) inner none in
      let one = good (left_none (typed E inner).broken (unfit z.m (of_built_in Int) (span_of inner) (typed E inner).meaning) none) (used_where z.m (of_built_in Int) (typed E inner).meaning refl refl fit) None in
      value_done z h (negation_valued z h (as_value z h kind.Int (int_left z (typed E inner).meaning (P None inner).left one.left_is fit) one.done))

  line_good : (inner : Expr) → G inner → (typed E inner).broken ++ unfit z.m any_line (span_of inner) (typed E inner).meaning ≡ []
      → IsDone z h H (compared (P None inner) (instr.Not ∷ [])) (V inner >>= (λ t. ends (names_line t)))
  line_good inner good none =
      let fit = fits_there any_line inner none in
      let one = good (left_none (typed E inner).broken (unfit z.m any_line (span_of inner) (typed E inner).meaning) none) (used_where z.m any_line (typed E inner).meaning refl refl fit) None in
      let reference = any_reference z (typed E inner).meaning (P None inner).left one.left_is fit in
      value_done z h (line_valued z h (kind_left (P None inner).left) reference.kind_is (as_value z h reference.kind reference.left_is one.done))

  nothing_good : (inner : Expr) → G inner → (typed E inner).broken ++ unfit z.m any_line (span_of inner) (typed E inner).meaning ≡ []
      → IsDone z h H (compared (P None inner) []) (V inner >>= (λ t. ends (names_nothing t)))
  nothing_good inner good none =
      let fit = fits_there any_line inner none in
      let one = good (left_none (typed E inner).broken (unfit z.m any_line (span_of inner) (typed E inner).meaning) none) (used_where z.m any_line (typed E inner).meaning refl refl fit) None in
      let reference = any_reference z (typed E inner).meaning (P None inner).left one.left_is fit in
      value_done z h (nothing_valued z h (kind_left (P None inner).left) reference.kind_is (as_value z h reference.kind reference.left_is one.done))

  bool_is : IsLeft z (value (built_in Boolean)) (left.Value kind.Bool)
  bool_is = record { kind = kind.Bool; kind_is = refl; left_is = refl }

  int_is : IsLeft z (value (built_in Int)) (left.Value kind.Int)
  int_is = record { kind = kind.Int; kind_is = refl; left_is = refl }

  none_good : (expected : Option Kind) → IsGood z h no_line (giving (null_kind expected) (null (null_kind expected) ∷ [])) (ends nothing_given)
  none_good expected = record {
    left_is = record { kind = null_kind expected; kind_is = null_kind_reference expected; left_is = refl };
    done = null_done z h (null_kind expected) (null_kind_reference expected);
  }

  number_good : (k : ℤ) → IsGood z h (value (built_in Int)) (giving kind.Int (instr.Push (plain_value.Int k) 0 ∷ [])) (ends (thing.Value (plain_value.Int k)))
  number_good k = record { left_is = int_is; done = pushed_done z h kind.Int (plain_value.Int k) 0 refl }

  truth_good : (b : Bool) → IsGood z h (value (built_in Boolean)) (giving kind.Bool (instr.Push (plain_value.Bool b) 0 ∷ [])) (ends (boolean b))
  truth_good b = record { left_is = bool_is; done = pushed_done z h kind.Bool (plain_value.Bool b) 0 refl }

  abbrev B : Left → Meaning → Piece → (Thing → Acting Thing) → Type 0
  B l meaning p f = Behind z body answer bound names frame h l meaning p f

  no_suffix : (l : Left) (meaning : Meaning) → IsLeft z meaning l → B l meaning (known l) (λ t. ends t)
  no_suffix l meaning typed_on = (
    typed_on,
    λ t of. record {
      stays = ends_gives z.setup of;
      does = λ stack. runs_nothing z.p z.c z.calls z.setup (left_on l (H stack) t) t (left_on l (H stack)) refl;
    },
  )

  suffix_then : {m : _} (place : Span) (on : Typed) (l : Left) (first : Suffix) (row : Row_of-Suffix m)
      → ((suffix_typed E place on first).broken ≡ [] → is_used (suffix_typed E place on first).meaning ≡ true → B l (suffix_typed E place on first).meaning (suffix_code z.s z.numbers names l first) (λ t. suffixed z.s z.functions frame t first))
      → (IsLeft z (suffix_typed E place on first).meaning (suffix_code z.s z.numbers names l first).left
      → B (suffix_code z.s z.numbers names l first).left (suffixes_typed E place (suffix_typed E place on first) row).meaning (suffixes_code z.s z.numbers names (suffix_code z.s z.numbers names l first).left row) (λ t. suffixed_all z.s z.functions frame t row))
      → (suffixes_typed E place (suffix_typed E place on first) row).broken ≡ [] → is_used (suffixes_typed E place (suffix_typed E place on first) row).meaning ≡ true
      → B l (suffixes_typed E place (suffix_typed E place on first) row).meaning (then (suffix_code z.s z.numbers names l first) (λ next. suffixes_code z.s z.numbers names next row)) (λ t. suffixed z.s z.functions frame t first >>= (λ u. suffixed_all z.s z.functions frame u row))
  suffix_then place on l first row good more none used =
      let one = good (before_suffixes E place (suffix_typed E place on first) row none) (row_used E place (suffix_typed E place on first) row none used) in
      let rest = more one.0 in
      (rest.0, λ t of. done_then z h (λ next. suffixes_code z.s z.numbers names next row) (λ u. suffixed_all z.s z.functions frame u row) (one.1 t of) rest.1)

  postfix_good : {m : _} (span : Span) (inner : Expr) (row : Row_of-Suffix m) → G inner
      → (IsLeft z (typed E inner).meaning (P None inner).left → B (P None inner).left (suffixes_typed E span (typed E inner) row).meaning (suffixes_code z.s z.numbers names (P None inner).left row) (λ t. suffixed_all z.s z.functions frame t row))
      → (suffixes_typed E span (typed E inner) row).broken ≡ [] → is_used (suffixes_typed E span (typed E inner) row).meaning ≡ true
      → IsGood z h (suffixes_typed E span (typed E inner) row).meaning (then (P None inner) (λ l. suffixes_code z.s z.numbers names l row)) (V inner >>= (λ t. suffixed_all z.s z.functions frame t row))
  postfix_good span inner row good more none used =
      let one = good (before_suffixes E span (typed E inner) row none) (row_used E span (typed E inner) row none used) None in
      let rest = more one.left_is in
      record { left_is = rest.0; done = done_then z h (λ l. suffixes_code z.s z.numbers names l row) (λ t. suffixed_all z.s z.functions frame t row) one.done rest.1 }

  -- what a suffix is behind, and what suffixes are behind, is known
  suffix_known : {m : _} (place : Span) (on : Typed) (first : Suffix) (row : Row_of-Suffix m) → T on.meaning → (suffixes_typed E place (suffix_typed E place on first) row).broken ≡ [] → T (suffix_typed E place on first).meaning
  suffix_known place on first row known none = suffix_is z.s.number E typed_in place on first (λ clear. known) (before_suffixes E place (suffix_typed E place on first) row none)

  inner_known : {m : _} (span : Span) (inner : Expr) (row : Row_of-Suffix m) → (suffixes_typed E span (typed E inner) row).broken ≡ [] → T (typed E inner).meaning
  inner_known span inner row none = typed_is z.s.number E typed_in inner (before_suffixes E span (typed E inner) row none)

  -- Trees.

  mutual
    operands_good : {m : _} (place : Span) (on : Typed) (k : Kind) (row : Row_of-Operand m) → AreWholeOperands z row → IsLeft z on.meaning (left.Value k) → (operands_typed E place on row).broken ≡ [] → Rows (operands_typed E place on row).meaning k row
    operands_good place on k end_of-Operand whole typed_on none = (typed_on, λ v of. no_more k v of)
    operands_good place on k (more_of-Operand operator inner row) whole typed_on none =
        operands_more place on k operator inner row (expression_good inner whole.0) typed_on (λ clear. operands_good place (Joined place on operator inner) (kind_joined operator) row whole.1 (joined_left operator) clear) none

    suffix_good : (place : Span) (on : Typed) (l : Left) (x : Suffix) → IsWholeSuffix z x → T on.meaning → IsLeft z on.meaning l → (suffix_typed E place on x).broken ≡ [] → is_used (suffix_typed E place on x).meaning ≡ true
        → B l (suffix_typed E place on x).meaning (suffix_code z.s z.numbers names l x) (λ t. suffixed z.s z.functions frame t x)
    suffix_good place on l (Field n span) whole known typed_on none used = forms.field on l n known typed_on none
    suffix_good place on l (Method' called shape row arguments span) whole known typed_on none used = forms.method place on l called row whole.0 known typed_on whole.1 (arguments_good row whole.1) none used
    suffix_good place on l (Index key span) whole known typed_on none used = forms.indexed place on l key known typed_on whole (expression_good key whole) none

    suffixes_good : {m : _} (place : Span) (on : Typed) (l : Left) (row : Row_of-Suffix m) → AreWholeSuffixes z row → T on.meaning → IsLeft z on.meaning l → (suffixes_typed E place on row).broken ≡ []
        → is_used (suffixes_typed E place on row).meaning ≡ true → B l (suffixes_typed E place on row).meaning (suffixes_code z.s z.numbers names l row) (λ t. suffixed_all z.s z.functions frame t row)
    suffixes_good place on l end_of-Suffix whole known typed_on none used = no_suffix l on.meaning typed_on
    suffixes_good place on l (more_of-Suffix first row) whole known typed_on none used =
        suffix_then place on l first row (λ clear is. suffix_good place on l first whole.0 known typed_on clear is)
        (λ is.
        suffixes_good place (suffix_typed E place on first) (suffix_code z.s z.numbers names l first).left row whole.1
        (suffix_known place on first row known none) is none used) none used

    arguments_good : {m : _} (row : Row_of-Expr m) → AreWhole z row → AllGood z body answer bound names frame h row
    arguments_good end_of-Expr whole = tt
    arguments_good (more_of-Expr first row) whole = (expression_good first whole.0, arguments_good row whole.1)

    pub expression_good : (e : Expr) → IsWhole z e → G e
    expression_good (Operation' first n others span) whole none used expected =
        operation_good first others (expression_good first whole.0) whole.1 (λ k is clear. operands_good (span_of first) (typed E first) k others whole.2 is clear) none
    expression_good (Not' operand span) whole none used expected = record { left_is = bool_is; done = not_good operand (expression_good operand whole) none }
    expression_good (Negate' operand span) whole none used expected = record { left_is = int_is; done = negation_good operand (expression_good operand whole) none }
    expression_good (Postfix' inner n suffixes span) whole none used expected =
        postfix_good span inner suffixes (expression_good inner whole.0) (λ is. suffixes_good span (typed E inner) (P None inner).left suffixes whole.2 (inner_known span inner suffixes none) is none used) none used
    expression_good (Number k span) whole none used expected = number_good k
    expression_good (True span) whole none used expected = truth_good true
    expression_good (False span) whole none used expected = truth_good false
    expression_good (Nothing span) whole none used expected = none_good expected
    expression_good (Variable name) whole none used expected = variable_good name none used
    expression_good (Member owner member span) whole none used expected = forms.member owner member none
    expression_good (Call' called shape row arguments span) whole none used expected = forms.call span called row whole.0 whole.1 (arguments_good row whole.1) none used
    expression_good (New made span) whole none used expected = absurd (cc none)
    expression_good (IsValid' inner span) whole none used expected = record { left_is = bool_is; done = line_good inner (expression_good inner whole) none }
    expression_good (IsInvalid' inner span) whole none used expected = record { left_is = bool_is; done = nothing_good inner (expression_good inner whole) none }
    expression_good (Cast' target mode inner span) whole none used expected = forms.cast target inner whole (expression_good inner whole) none
    expression_good (Group' inner span) whole none used expected = expression_good inner whole none used expected
