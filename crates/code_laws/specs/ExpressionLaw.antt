-- The law of expressions: where the names of a body are held alike by the rules, by its code and by what it means, the code of each expression
-- that the rules type without anything broken leaves what the expression's type is, and does what the expression does: the same acts in
-- the same order, the same fault, and what it gives is left, as a value on the stack or as what is known as the code is written.
use Rattle.std.specs.Prelude.{◌≡◌, true, Option, List, []}
use Rattle.ruby_value.specs.declared.kind.Kind.{Kind}
use Rattle.ruby_value.specs.declared.value.Value.{Value}
use Rattle.slicc_ast.specs.declared.tree.expression.Expr.{Expr}
use Rattle.slicc_plan.specs.Environment.{BodySort, Bound}
use Rattle.slicc_plan.specs.Meanings.{Meaning}
use Rattle.slicc_plan.specs.Prelude.{typed}
use Rattle.ctl_face.specs.Prelude.{IsLawful, LocalView}
use Rattle.acts.specs.Prelude.{Acting, run}
use Rattle.body_meaning.specs.declared.frame.Frame.{Frame}
use Rattle.body_meaning.specs.declared.thing.Thing.{Thing}
use Rattle.body_meaning.specs.Prelude.{value}
use Rattle.code_meaning.specs.Prelude.{Held, HoldsOfAnswer}
use Rattle.body_code.specs.declared.left.NameAt.{NameAt}
use Rattle.body_code.specs.Prelude.{Piece, piece}
use Rattle.rules_symbols.specs.Prelude.{IsTypedIn}
use Rattle.code_laws.specs.Calling.{CallsDo}
use Rattle.code_laws.specs.Holding.{Holds, IsLeft, OfLeft, is_used, left_on}
use Rattle.code_laws.specs.Runs.{Runs}
use Rattle.code_laws.specs.Setting.{IsSet, Setting, env_of}
use Rattle.code_laws.specs.Whole.{IsWhole}

-- of the code of an expression with this meaning by the rules, that does this
pub record DoesExpression (z : Setting) (h : Held) (meaning : Meaning) (p : Piece) (t : Acting Thing) : Type 0 where
  pub left_is : IsLeft z meaning p.left
  pub gives : (v : LocalView) → IsLawful v → v.machine ≡ z.setup → HoldsOfAnswer (OfLeft z h p.left) (run t v)
  pub does : (stack : List Value) → Runs z.p z.c z.calls z.setup p.code (record h { stack = stack }) t (left_on p.left (record h { stack = stack }))

-- `expected` is the kind that code is asked for where the expression has none of its own
abbrev pub ExpressionsDo : Type 0
ExpressionsDo = (z : Setting) (body : BodySort) (answer : Meaning) (bound : List Bound) (names : List NameAt) (frame : Frame) (h : Held) (e : Expr) (expected : Option Kind)
    → IsSet z → CallsDo z → IsTypedIn z.s.number (env_of z body answer bound) → Holds z bound names frame h → IsWhole z e
    → (typed (env_of z body answer bound) e).broken ≡ [] → is_used (typed (env_of z body answer bound) e).meaning ≡ true
    → DoesExpression z h (typed (env_of z body answer bound) e).meaning (piece z.s z.numbers names expected e) (value z.s z.functions frame e)
