-- Typing of bodies, by one induction over statements.
use Rattle.std.proofs.Common.{◌≡◌, ◌∙◌, ◌++◌, ◌||◌, ℕ, Bool, true, false, Option, None, Some, List, [], ◌∷◌, refl, sym, ap}
use Rattle.slicc_ast.specs.declared.tree.expression.Expr.{Expr}
use Rattle.slicc_ast.specs.declared.tree.name.Name.{Name}
use Rattle.slicc_ast.specs.declared.tree.statement.If.{If, If', Held-If-otherwise, None', Some', Row_of-ElseIf, end_of-ElseIf, more_of-ElseIf}
use Rattle.slicc_ast.specs.declared.tree.statement.Stmt.{Stmt, Declare, Assign, Evaluate, Return, If as IfStmt, Peek', Enqueue', StallAndWait, CheckAllocate, Error, Assert, Print, Row_of-Stmt, end_of-Stmt, more_of-Stmt}
use Rattle.slicc_plan.specs.declared.built_in.BuiltInType.TheVariants.{Address, Bool as Boolean, Int, TbeTable}
use Rattle.slicc_plan.specs.declared.broken.Broken.{Broken}
use Rattle.slicc_plan.specs.CallTypes.{is_told, may_write}
use Rattle.slicc_plan.specs.Environment.{Environment, meaning_named}
use Rattle.slicc_plan.specs.ExpressionTypes.{broken_where, span_of, typed}
use Rattle.slicc_plan.specs.JudgedStatements.{after, enqueued, if_judged, in_enqueue, in_peek, judged, others_judged, otherwise_judged, peeked, row_judged, statements_judged}
use Rattle.slicc_plan.specs.Meanings.{Meaning, in_port, out_port, table, Wanted, any_value, like_it, of_built_in}
use Rattle.slicc_plan.proofs.Room.{left_none, right_none}
use Rattle.rules_symbols.specs.Fitting.{IsInPort, IsOutPort, IsTable}
use Rattle.rules_symbols.specs.TypedBodies.{AreTyped, AreTypedOthers, IsInPortNamed, IsOutPortNamed, IsTypedChoice, IsTypedIf, IsTypedOtherwise, IsTypedRow, IsTypedStatement, IsTypedWhere}
use Rattle.rules_symbols.specs.TypedMeaning.{IsTyped, IsTypedIn}
use Rattle.rules_symbols.proofs.StatementForms.{IsRight, assigned_is, checked_is, declared_is, enqueued_is, peeked_is, right_where, stalled_is}
use Rattle.rules_symbols.proofs.TypedEnvironments.{declared_typed, enqueue_typed, meaning_typed, peek_typed}
use Rattle.rules_symbols.proofs.TypedExpressions.{typed_is}
use Rattle.rules_symbols.proofs.TypedParts.{typed_sure}
use Rattle.rules_symbols.proofs.WhatFits.{in_port_is, out_port_is, table_is}

module _ (k : ℕ) where
  where_is : (env : Environment) → IsTypedIn k env → (wanted : Wanted) (e : Expr) → IsRight env wanted e → IsTypedWhere env wanted e
  where_is env h wanted e is = record { unbroken = is.unbroken; known = typed_is k env h e is.unbroken; fitting = is.fitting }

  right_is : (env : Environment) → IsTypedIn k env → (wanted : Wanted) (e : Expr) → broken_where env wanted e ≡ [] → IsTypedWhere env wanted e
  right_is env h wanted e none = where_is env h wanted e (right_where env wanted e none)

  writes : (told written : Bool) → told ≡ false → (told || written) ≡ true → written ≡ true
  writes true written sure all = absurd (cc sure)
  writes false written sure all = all

  latency_is : (env : Environment) → IsTypedIn k env → (latency : Option Expr) → ((e : Expr) → latency ≡ Some e → IsRight env (of_built_in Int) e) → IsTypedIf env (of_built_in Int) latency
  latency_is env h None right = tt
  latency_is env h (Some e) right = where_is env h (of_built_in Int) e (right e refl)

  -- the names of ports and tables
  module _ (env : Environment) (h : IsTypedIn k env) (n : Name) (meaning : Meaning) (named : meaning_named env n.text ≡ Some meaning) where
    in_port_named : IsInPort meaning → IsInPortNamed env n
    in_port_named is = by meaning (meaning_typed k env h n.text meaning named) is named
      where
        by : (u : Meaning) → IsTyped env.trees env.machine u → IsInPort u → meaning_named env n.text ≡ Some u → IsInPortNamed env n
        by (in_port None) typed_so port so = absurd typed_so
        by (in_port (Some t)) typed_so port so = (t, so)
        by _ typed_so port so = absurd port

    out_port_named : IsOutPort meaning → IsOutPortNamed env n
    out_port_named is = by meaning (meaning_typed k env h n.text meaning named) is named
      where
        by : (u : Meaning) → IsTyped env.trees env.machine u → IsOutPort u → meaning_named env n.text ≡ Some u → IsOutPortNamed env n
        by (out_port None) typed_so port so = absurd typed_so
        by (out_port (Some t)) typed_so port so = (t, so)
        by _ typed_so port so = absurd port

    table_named : IsTable TbeTable meaning → meaning_named env n.text ≡ Some (table TbeTable)
    table_named is = by meaning is named
      where
        by : (u : Meaning) → IsTable TbeTable u → meaning_named env n.text ≡ Some u → meaning_named env n.text ≡ Some (table TbeTable)
        by (table b) same so = so ∙ ap (λ c. Some (table c)) (sym same)
        by _ same so = absurd same

  after_is : (env : Environment) → IsTypedIn k env → (s : Stmt) → judged env s ≡ [] → IsTypedIn k (after env s)
  after_is env h (Declare kind called e span) none = declared_typed k env h kind called e none
  after_is env h (Assign place e span) none = h
  after_is env h (Evaluate e span) none = h
  after_is env h (Return e span) none = h
  after_is env h (IfStmt i) none = h
  after_is env h (Peek' port message attributes shape row block span) none = h
  after_is env h (Enqueue' port message latency shape row block span) none = h
  after_is env h (StallAndWait port address span) none = h
  after_is env h (CheckAllocate name span) none = h
  after_is env h (Error text span) none = h
  after_is env h (Assert condition span) none = h
  after_is env h (Print which arguments span) none = h

  mutual
    pub statement_is : (env : Environment) → IsTypedIn k env → (s : Stmt) → judged env s ≡ [] → IsTypedStatement env s
    statement_is env h (Declare kind called e span) none =
        let is = declared_is env kind e none in
        record { type = is.type; named = is.named; valued = is.valued; right = where_is env h _ e is.right }
    statement_is env h (Assign place e span) none =
        let is = assigned_is env (span_of place) (typed env place) e none in
        let known = typed_is k env h place is.unbroken in
        record {
          unbroken = is.unbroken;
          known = known;
          writable = writes (is_told (typed env place).meaning) (may_write (typed env place).written) (typed_sure env.trees env.machine (typed env place).meaning known) is.writable;
          right = where_is env h (like_it (typed env place).meaning) e is.right;
        }
    statement_is env h (Evaluate e span) none = right_is env h any_value e none
    statement_is env h (Return None span) none = tt
    statement_is env h (Return (Some e) span) none = right_is env h (like_it env.answer) e none
    statement_is env h (IfStmt i) none = choice_is env h i none
    statement_is env h (Peek' port message attributes shape row block span) none =
        let first = left_none (peeked env span port message) (row_judged (in_peek env port) row) none in
        let is = peeked_is env span port message first in (
          is.allowed,
          in_port_named env h port is.meaning is.named (in_port_is env.machine is.meaning is.fitting (typed_sure env.trees env.machine is.meaning (meaning_typed k env h port.text is.meaning is.named))),
          row_is (in_peek env port) (peek_typed k env h span port message first) row (right_none (peeked env span port message) (row_judged (in_peek env port) row) none),
        )
    statement_is env h (Enqueue' port message latency shape row block span) none =
        let first = left_none (enqueued env span port message latency) (row_judged (in_enqueue env port) row) none in
        let is = enqueued_is env span port message latency first in (
          is.in_action,
          out_port_named env h port is.meaning is.named (out_port_is env.machine is.meaning is.fitting (typed_sure env.trees env.machine is.meaning (meaning_typed k env h port.text is.meaning is.named))),
          latency_is env h latency is.right,
          row_is (in_enqueue env port) (enqueue_typed k env h span port message latency first) row (right_none (enqueued env span port message latency) (row_judged (in_enqueue env port) row) none),
        )
    statement_is env h (StallAndWait port address span) none =
        let is = stalled_is env span port address none in (
          is.in_action,
          in_port_named env h port is.meaning is.named (in_port_is env.machine is.meaning is.fitting (typed_sure env.trees env.machine is.meaning (meaning_typed k env h port.text is.meaning is.named))),
          where_is env h (of_built_in Address) address is.right,
        )
    statement_is env h (CheckAllocate name span) none =
        let is = checked_is env span name none in (
          is.in_action,
          table_named env h name is.meaning is.named (table_is env.machine TbeTable is.meaning is.fitting (typed_sure env.trees env.machine is.meaning (meaning_typed k env h name.text is.meaning is.named))),
        )
    statement_is env h (Error text span) none = tt
    statement_is env h (Assert condition span) none = right_is env h (of_built_in Boolean) condition none
    statement_is env h (Print which arguments span) none = tt

    choice_is : (env : Environment) → IsTypedIn k env → (i : If) → if_judged env i ≡ [] → IsTypedChoice env i
    choice_is env h (If' condition shape row block n others otherwise span) none =
        let first : List Broken = broken_where env (of_built_in Boolean) condition in
        let second : List Broken = row_judged env row in
        let third : List Broken = others_judged env others in
        let to_third : first ++ second ++ third ≡ [] = left_none (first ++ second ++ third) (otherwise_judged env otherwise) none in
        let to_second : first ++ second ≡ [] = left_none (first ++ second) third to_third in (
          right_is env h (of_built_in Boolean) condition (left_none first second to_second),
          row_is env h row (right_none first second to_second),
          others_are env h others (right_none (first ++ second) third to_third),
          otherwise_is env h otherwise (right_none (first ++ second ++ third) (otherwise_judged env otherwise) none),
        )

    others_are : {m : _} (env : Environment) → IsTypedIn k env → (others : Row_of-ElseIf m) → others_judged env others ≡ [] → AreTypedOthers env others
    others_are env h end_of-ElseIf none = tt
    others_are env h (more_of-ElseIf condition shape row block more) none =
        let first : List Broken = broken_where env (of_built_in Boolean) condition in
        let second : List Broken = row_judged env row in
        let to_second : first ++ second ≡ [] = left_none (first ++ second) (others_judged env more) none in (
          right_is env h (of_built_in Boolean) condition (left_none first second to_second),
          row_is env h row (right_none first second to_second),
          others_are env h more (right_none (first ++ second) (others_judged env more) none),
        )

    otherwise_is : (env : Environment) → IsTypedIn k env → (otherwise : Held-If-otherwise) → otherwise_judged env otherwise ≡ [] → IsTypedOtherwise env otherwise
    otherwise_is env h None' none = tt
    otherwise_is env h (Some' shape row block) none = row_is env h row none

    row_is : {m : _} (env : Environment) → IsTypedIn k env → (row : Row_of-Stmt m) → row_judged env row ≡ [] → IsTypedRow env row
    row_is env h end_of-Stmt none = tt
    row_is env h (more_of-Stmt first row) none =
        let here = left_none (judged env first) (row_judged (after env first) row) none in (
          statement_is env h first here,
          row_is (after env first) (after_is env h first here) row (right_none (judged env first) (row_judged (after env first) row) none),
        )

  pub statements_are : (env : Environment) → IsTypedIn k env → (ss : List Stmt) → statements_judged env ss ≡ [] → AreTyped env ss
  statements_are env h [] none = tt
  statements_are env h (s ∷ ss) none =
      let here = left_none (judged env s) (statements_judged (after env s) ss) none in (
        statement_is env h s here,
        statements_are (after env s) (after_is env h s here) ss (right_none (judged env s) (statements_judged (after env s) ss) none),
      )
