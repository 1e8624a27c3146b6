-- Bodies in which all is typed: each expression stands for something that is known and fits what is wanted of it, each name of a port or
-- a table stands for such a one, and each form stands in a body where it is allowed.
use Rattle.std.specs.Prelude.{◌≡◌, true, Option, None, Some, List, [], ◌∷◌}
use Rattle.slicc_ast.specs.declared.tree.expression.Expr.{Expr}
use Rattle.slicc_ast.specs.declared.tree.name.Name.{Name}
use Rattle.slicc_ast.specs.declared.tree.name.TypeName.{TypeName}
use Rattle.slicc_ast.specs.declared.tree.statement.If.{If, If', Held-If-otherwise, None', Some', Row_of-ElseIf, end_of-ElseIf, more_of-ElseIf}
use Rattle.slicc_ast.specs.declared.tree.statement.Stmt.{Stmt, Declare, Assign, Evaluate, Return, If as IfStmt, Peek', Enqueue', StallAndWait, CheckAllocate, Error, Assert, Print, Row_of-Stmt, end_of-Stmt, more_of-Stmt}
use Rattle.slicc_plan.specs.declared.built_in.BuiltInType.TheVariants.{Address, Bool as Boolean, Int, TbeTable}
use Rattle.slicc_plan.specs.CallTypes.{may_write}
use Rattle.slicc_plan.specs.Environment.{Environment, of_action, meaning_named, type_named}
use Rattle.slicc_plan.specs.ExpressionTypes.{typed}
use Rattle.slicc_plan.specs.JudgedStatements.{after, in_enqueue, in_peek, is_peek_allowed}
use Rattle.slicc_plan.specs.Meanings.{in_port, out_port, table, Wanted, any_value, one_of, fits, is_value, like_it, of_built_in}
use Rattle.slicc_plan.specs.Types.{KnownType}
use Rattle.rules_symbols.specs.TypedMeaning.{IsTyped}

-- an expression where this is wanted
pub record IsTypedWhere (env : Environment) (wanted : Wanted) (e : Expr) : Type 0 where
  pub unbroken : (typed env e).broken ≡ []
  pub known : IsTyped env.trees env.machine (typed env e).meaning
  pub fitting : fits env.machine wanted (typed env e).meaning ≡ true

abbrev pub IsTypedIf : Environment → Wanted → Option Expr → Type 0
IsTypedIf env wanted None = Unit {0}
IsTypedIf env wanted (Some e) = IsTypedWhere env wanted e

pub record IsTypedLocal (env : Environment) (kind : TypeName) (e : Expr) : Type 0 where
  pub type : KnownType
  pub named : type_named env kind.text ≡ Some type
  pub valued : is_value env.machine type ≡ true
  pub right : IsTypedWhere env (one_of (type ∷ [])) e

pub record IsTypedPlace (env : Environment) (place e : Expr) : Type 0 where
  pub unbroken : (typed env place).broken ≡ []
  pub known : IsTyped env.trees env.machine (typed env place).meaning
  pub writable : may_write (typed env place).written ≡ true
  pub right : IsTypedWhere env (like_it (typed env place).meaning) e

-- the name of a port
abbrev pub IsInPortNamed : Environment → Name → Type 0
IsInPortNamed env n = (t : KnownType) × (meaning_named env n.text ≡ Some (in_port (Some t)))

abbrev pub IsOutPortNamed : Environment → Name → Type 0
IsOutPortNamed env n = (t : KnownType) × (meaning_named env n.text ≡ Some (out_port (Some t)))

abbrev mutual
  pub IsTypedStatement : Environment → Stmt → Type 0
  IsTypedStatement env (Declare kind called e span) = IsTypedLocal env kind e
  IsTypedStatement env (Assign place e span) = IsTypedPlace env place e
  IsTypedStatement env (Evaluate e span) = IsTypedWhere env any_value e
  IsTypedStatement env (Return e span) = IsTypedIf env (like_it env.answer) e
  IsTypedStatement env (IfStmt i) = IsTypedChoice env i
  IsTypedStatement env (Peek' port message attributes shape row block span) =
      (is_peek_allowed env.body ≡ true) × IsInPortNamed env port × IsTypedRow (in_peek env port) row
  IsTypedStatement env (Enqueue' port message latency shape row block span) =
      (env.body ≡ of_action) × IsOutPortNamed env port × IsTypedIf env (of_built_in Int) latency × IsTypedRow (in_enqueue env port) row
  IsTypedStatement env (StallAndWait port address span) =
      (env.body ≡ of_action) × IsInPortNamed env port × IsTypedWhere env (of_built_in Address) address
  IsTypedStatement env (CheckAllocate name span) =
      (env.body ≡ of_action) × (meaning_named env name.text ≡ Some (table TbeTable))
  IsTypedStatement env (Error text span) = Unit {0}
  IsTypedStatement env (Assert condition span) = IsTypedWhere env (of_built_in Boolean) condition
  IsTypedStatement env (Print which arguments span) = Unit {0}

  pub IsTypedChoice : Environment → If → Type 0
  IsTypedChoice env (If' condition shape row block n others otherwise span) =
      IsTypedWhere env (of_built_in Boolean) condition × IsTypedRow env row × AreTypedOthers env others × IsTypedOtherwise env otherwise

  pub AreTypedOthers : {m : _} → Environment → Row_of-ElseIf m → Type 0
  AreTypedOthers env end_of-ElseIf = Unit {0}
  AreTypedOthers env (more_of-ElseIf condition shape row block more) =
      IsTypedWhere env (of_built_in Boolean) condition × IsTypedRow env row × AreTypedOthers env more

  pub IsTypedOtherwise : Environment → Held-If-otherwise → Type 0
  IsTypedOtherwise env None' = Unit {0}
  IsTypedOtherwise env (Some' shape row block) = IsTypedRow env row

  pub IsTypedRow : {m : _} → Environment → Row_of-Stmt m → Type 0
  IsTypedRow env end_of-Stmt = Unit {0}
  IsTypedRow env (more_of-Stmt first row) = IsTypedStatement env first × IsTypedRow (after env first) row

-- statements one after another
abbrev pub AreTyped : Environment → List Stmt → Type 0
AreTyped env [] = Unit {0}
AreTyped env (s ∷ ss) = IsTypedStatement env s × AreTyped (after env s) ss
