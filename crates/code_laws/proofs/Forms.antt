-- The forms of expressions that look at more than other expressions: names of the machine, members, casts, fields and calls. What is proved of
-- each, where it is proved of the expressions in it.
use Rattle.std.proofs.Common.{◌≡◌, ℕ, true, false, Option, None, Some, List, [], ◌∷◌, codes, length}
use Rattle.std.specs.Str.{bytes_eq}
use Rattle.ruby_value.specs.declared.kind.Kind.{Kind}
use Rattle.ruby_symbols.specs.Prelude.{stands_for}
use Rattle.slicc_ast.specs.declared.tree.expression.Expr.{Expr, Row_of-Expr, end_of-Expr, more_of-Expr, items-the_row-Expr}
use Rattle.slicc_ast.specs.declared.tree.name.Name.{Name}
use Rattle.slicc_ast.specs.declared.tree.name.TypeName.{TypeName}
use Rattle.slicc_ast.specs.declared.tree.span.Span.{Span}
use Rattle.slicc_plan.specs.CallTypes.{Typed, index_call, method_call as typed_method, named_call as typed_call}
use Rattle.slicc_plan.specs.Declarations.{first_named, machine_declarations}
use Rattle.slicc_plan.specs.Environment.{BodySort, Bound, Environment, type_named, value_outside}
use Rattle.slicc_plan.specs.ExpressionTypes.{arguments_typed, cast_to, field_of, given_at, member_type, span_of, typed}
use Rattle.slicc_plan.specs.Meanings.{Meaning}
use Rattle.rules_symbols.specs.TypedMeaning.{IsTyped}
use Rattle.acts.specs.Prelude.{Acting, ◌>>=◌}
use Rattle.body_meaning.specs.declared.frame.Frame.{Frame}
use Rattle.body_meaning.specs.declared.thing.Thing.{Thing}
use Rattle.body_meaning.specs.Prelude.{declared, field_in, index, member_value, method_call, named_call, value, value_found, value_in, values}
use Rattle.code_meaning.specs.Prelude.{Held}
use Rattle.body_code.specs.declared.left.Left.{Left}
use Rattle.body_code.specs.declared.left.NameAt.{NameAt}
use Rattle.body_code.specs.Prelude.{Piece, after, all_arguments, declared_read, entry_kind, field_read, formals_of, index as index_code, kind_written, member_pushed, method_call as method_code, named_call as call_code, piece}
use Rattle.code_laws.specs.Holding.{IsLeft, OfLeft, is_used, left_on}
use Rattle.code_laws.specs.Setting.{Setting, env_of}
use Rattle.code_laws.specs.Whole.{AreWhole, IsWhole, MayCall}
use Rattle.code_laws.proofs.Good.{IsDone, IsGood, held}

module _ (z : Setting) (body : BodySort) (answer : Meaning) (bound : List Bound) (names : List NameAt) (frame : Frame) (h : Held) where
  abbrev pub env : Environment
  env = env_of z body answer bound

  -- what is proved of an expression
  abbrev pub Good : Expr → Type 0
  Good e =
      (typed env e).broken ≡ [] → is_used (typed env e).meaning ≡ true → (expected : Option Kind)
      → IsGood z h (typed env e).meaning (piece z.s z.numbers names expected e) (value z.s z.functions frame e)

  -- of what is behind what has left this, as a suffix is
  abbrev pub Behind : Left → Meaning → Piece → (Thing → Acting Thing) → Type 0
  Behind l meaning p f = IsLeft z meaning p.left × ((t : Thing) → OfLeft z h l t → IsDone z h (λ stack. left_on l (held z h stack) t) p (f t))

  -- of a row of arguments
  abbrev pub AllGood : {m : _} → Row_of-Expr m → Type 0
  AllGood end_of-Expr = Unit {0}
  AllGood (more_of-Expr first row) = Good first × AllGood row

  pub record Forms : Type 0 where
    -- a name that the machine declares, or that is there in each body
    pub outside : (text : List ℕ) (b : Bound) → value_outside z.trees z.m text (first_named text (machine_declarations z.m)) ≡ Some b → is_used b.meaning ≡ true
        → IsGood z h b.meaning (declared_read z.s text (stands_for z.s.machine text)) (declared z.s.machine text)
    pub member : (owner called : Name) → (member_type env owner called).broken ≡ []
        → IsGood z h (member_type env owner called).meaning (member_pushed z.s owner.text called.text) (value_found (member_value z.s owner.text called.text))
    pub cast : (target : TypeName) (inner : Expr) → IsWhole z inner → Good inner → (cast_to env target (given_at (span_of inner) (typed env inner)) (type_named env target.text)).broken ≡ []
        → IsGood z h (cast_to env target (given_at (span_of inner) (typed env inner)) (type_named env target.text)).meaning
        (piece z.s z.numbers names (kind_written z.s target.text) inner) (value z.s z.functions frame inner)
    pub field : (left : Typed) (l : Left) (name : Name) → IsTyped z.trees z.m left.meaning → IsLeft z left.meaning l → (field_of env left.broken name left.meaning).broken ≡ []
        → Behind l (field_of env left.broken name left.meaning).meaning (field_read z.s l name.text) (field_in z.s name.text)
    pub call : {m : _} (span : Span) (called : Name) (row : Row_of-Expr m) → MayCall z called.text → AreWhole z row → AllGood row → (typed_call env span called (arguments_typed env row)).broken ≡ []
        → is_used (typed_call env span called (arguments_typed env row)).meaning ≡ true
        → IsGood z h (typed_call env span called (arguments_typed env row)).meaning
        (after (all_arguments z.s z.numbers names (formals_of z.s called.text) row) (call_code z.s z.numbers called.text))
        (values z.s z.functions frame [] row >>= named_call z.s z.functions called.text)
    pub method : {m : _} (place : Span) (left : Typed) (l : Left) (called : Name) (row : Row_of-Expr m) → bytes_eq called.text (codes "[]") ≡ false → IsTyped z.trees z.m left.meaning → IsLeft z left.meaning l → AreWhole z row → AllGood row
        → (typed_method env place left called (arguments_typed env row)).broken ≡ [] → is_used (typed_method env place left called (arguments_typed env row)).meaning ≡ true
        → Behind l (typed_method env place left called (arguments_typed env row)).meaning
        (method_code z.s l called.text (length (items-the_row-Expr _ row)) (all_arguments z.s z.numbers names (entry_kind z.s ∷ []) row))
        (λ t. values z.s z.functions frame [] row >>= method_call z.s t called.text)
    pub indexed : (place : Span) (left : Typed) (l : Left) (key : Expr) → IsTyped z.trees z.m left.meaning → IsLeft z left.meaning l → IsWhole z key → Good key
        → (index_call env place left (given_at (span_of key) (typed env key))).broken ≡ []
        → Behind l (index_call env place left (given_at (span_of key) (typed env key))).meaning
        (after (piece z.s z.numbers names None key).code (index_code z.s l)) (λ t. value z.s z.functions frame key >>= (λ k. index z.s t (value_in k)))
