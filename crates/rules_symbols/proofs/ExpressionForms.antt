-- What is left of the parts of an expression in which nothing is broken: operands, what suffixes are behind, and what is called.
use Rattle.std.specs.Prelude.{◌⊎◌}
use Rattle.std.proofs.Common.{◌≡◌, ◌∙◌, ◌++◌, ℕ, Bool, true, false, cond, Option, None, Some, List, [], ◌∷◌, length, map, refl, sym, ap, inl, inr, codes}
use Rattle.slicc_ast.specs.declared.tree.declaration.Formals.{Formals}
use Rattle.slicc_ast.specs.declared.tree.declaration.Function.TheVariants.{Plain, Skipped}
use Rattle.slicc_ast.specs.declared.tree.declaration.Pairs.{Pairs}
use Rattle.slicc_ast.specs.declared.tree.expression.Expr.{Row_of-Operand, end_of-Operand, more_of-Operand, Row_of-Suffix, end_of-Suffix, more_of-Suffix}
use Rattle.slicc_ast.specs.declared.tree.expression.Operator.{Operator}
use Rattle.slicc_ast.specs.declared.tree.expression.Suffix.{Suffix, Field, Method', Index}
use Rattle.slicc_ast.specs.declared.tree.name.Name.{Name}
use Rattle.slicc_ast.specs.declared.tree.name.TypeName.{TypeName}
use Rattle.slicc_ast.specs.declared.tree.span.Span.{Span}
use Rattle.slicc_ast.specs.declared.tree.statement.Block.{Block}
use Rattle.slicc_plan.specs.declared.broken.Broken.{Broken}
use Rattle.slicc_plan.specs.declared.broken.Rule.TheVariants.{WrongType}
use Rattle.slicc_plan.specs.BuiltInCalls.{Call}
use Rattle.slicc_plan.specs.CallTypes.{Given, Typed, Written, a_field, no_place, broken_in, built_in_named, call_named, call_unless, declared_call, formal_wanted, found_index, found_method, index_call, is_told, method_call, named_call, plain, plain_call, wrong_arguments, wrong_count}
use Rattle.slicc_plan.specs.Declarations.{Declaration, function, first_named, machine_declarations}
use Rattle.slicc_plan.specs.Environment.{Bound, Environment, value_named}
use Rattle.slicc_plan.specs.ExpressionTypes.{arguments_typed, field_in, field_of, found_field, given_at, joined, operands_typed, span_of, suffix_typed, suffixes_typed, typed, wanted_left, wanted_right}
use Rattle.slicc_plan.specs.Meanings.{Meaning, value, no_line, bare_line, new_line, incoming, outgoing, table, in_port, out_port, nothing, unknown, fits, unfit}
use Rattle.slicc_plan.proofs.Room.{left_none, right_none}
use Rattle.rules_symbols.specs.Fitting.{IsSure}
use Rattle.rules_symbols.proofs.StatementForms.{IsCalled, called_is}
use Rattle.rules_symbols.proofs.TypedParts.{told_among, told_last}
use Rattle.rules_symbols.proofs.WhatFits.{untold}

-- Operands.

pub record AreJoined (env : Environment) (operator : Operator) (left right : Typed) : Type 0 where
  pub left_unbroken : left.broken ≡ []
  pub right_unbroken : right.broken ≡ []
  pub left_fits : fits env.machine (wanted_left operator) left.meaning ≡ true
  pub right_fits : fits env.machine (wanted_right operator left.meaning) right.meaning ≡ true

pub joined_are : (env : Environment) (operator : Operator) (left right : Given) → (joined env operator left right).broken ≡ [] → AreJoined env operator left.typed right.typed
joined_are env operator left right none =
    let first : List Broken = unfit env.machine (wanted_left operator) left.place left.typed.meaning in
    let second : List Broken = unfit env.machine (wanted_right operator left.typed.meaning) right.place right.typed.meaning in
    let to_first : left.typed.broken ++ right.typed.broken ++ first ≡ [] = left_none (left.typed.broken ++ right.typed.broken ++ first) second none in
    let to_right : left.typed.broken ++ right.typed.broken ≡ [] = left_none (left.typed.broken ++ right.typed.broken) first to_first in
    record {
      left_unbroken = left_none left.typed.broken right.typed.broken to_right;
      right_unbroken = right_none left.typed.broken right.typed.broken to_right;
      left_fits = untold (fits env.machine (wanted_left operator) left.typed.meaning) WrongType left.place (right_none (left.typed.broken ++ right.typed.broken) first to_first);
      right_fits = untold (fits env.machine (wanted_right operator left.typed.meaning) right.typed.meaning) WrongType right.place (right_none (left.typed.broken ++ right.typed.broken ++ first) second none);
    }

-- what is on the left of a row has nothing broken
pub left_operand : {n : _} (env : Environment) (place : Span) (left : Typed) (row : Row_of-Operand n) → (operands_typed env place left row).broken ≡ [] → left.broken ≡ []
left_operand env place left end_of-Operand none = none
left_operand env place left (more_of-Operand operator e row) none =
    let is = joined_are env operator (given_at place left) (given_at (span_of e) (typed env e))
    (left_operand env place (joined env operator (given_at place left) (given_at (span_of e) (typed env e))) row none) in
    is.left_unbroken

-- Suffixes.

found_left : (written : Written) (broken : List Broken) (n : Name) (o : Option Meaning) → (found_field written broken n o).broken ≡ [] → broken ≡ []
found_left written broken n None none = absurd (told_last broken _ none)
found_left written broken n (Some meaning) none = none

field_left : (env : Environment) (broken : List Broken) (n : Name) (meaning : Meaning) → (field_of env broken n meaning).broken ≡ [] → broken ≡ []
field_left env broken n (value t) none = found_left a_field broken n (field_in env.trees env.machine t n.text) none
field_left env broken n (incoming t) none = found_left no_place broken n (field_in env.trees env.machine t n.text) none
field_left env broken n (outgoing t) none = found_left a_field broken n (field_in env.trees env.machine t n.text) none
field_left env broken n no_line none = found_left no_place broken n None none
field_left env broken n bare_line none = found_left no_place broken n None none
field_left env broken n (new_line made) none = none
field_left env broken n (table b) none = found_left no_place broken n None none
field_left env broken n (in_port t) none = found_left no_place broken n None none
field_left env broken n (out_port t) none = found_left no_place broken n None none
field_left env broken n nothing none = found_left no_place broken n None none
field_left env broken n unknown none = none

-- a call on something that is sure is one of the built-in calls
pub record IsCalledOn (env : Environment) (place : Span) (on : Typed) (text : List ℕ) (given : List Given) : Type 0 where
  pub call : Call
  pub named : call_named env.machine on.meaning text ≡ Some call
  pub is : IsCalled env place on call given

pub method_is : (env : Environment) (place : Span) (on : Typed) (called : Name) (given : List Given) → IsSure on.meaning → (method_call env place on called given).broken ≡ [] → IsCalledOn env place on called.text given
method_is env place on called given sure none =
    found (call_named env.machine on.meaning called.text) refl
    (ap (λ b. (cond b (plain unknown (on.broken ++ broken_in given)) (found_method env place on called (call_named env.machine on.meaning called.text) given)).broken) (sym sure) ∙ none)
  where
    found : (o : Option Call) → call_named env.machine on.meaning called.text ≡ o → (found_method env place on called o given).broken ≡ [] → IsCalledOn env place on called.text given
    found None is clear = absurd (told_among on.broken (broken_in given) _ clear)
    found (Some c) is clear = record { call = c; named = is; is = called_is env place on c given clear }

pub index_is : (env : Environment) (place : Span) (on : Typed) (key : Given) → IsSure on.meaning → (index_call env place on key).broken ≡ [] → IsCalledOn env place on (codes "[]") (key ∷ [])
index_is env place on key sure none =
    found (call_named env.machine on.meaning (codes "[]")) refl
    (ap (λ b. (cond b (plain unknown (on.broken ++ key.typed.broken)) (found_index env place on (call_named env.machine on.meaning (codes "[]")) (key ∷ []))).broken) (sym sure) ∙ none)
  where
    found : (o : Option Call) → call_named env.machine on.meaning (codes "[]") ≡ o → (found_index env place on o (key ∷ [])).broken ≡ [] → IsCalledOn env place on (codes "[]") (key ∷ [])
    found None is clear = absurd (told_among on.broken (broken_in (key ∷ [])) _ clear)
    found (Some c) is clear = record { call = c; named = is; is = called_is env place on c (key ∷ []) clear }

method_left : (env : Environment) (place : Span) (on : Typed) (called : Name) (given : List Given) → (method_call env place on called given).broken ≡ [] → on.broken ≡ []
method_left env place on called given none = by (is_told on.meaning) refl none
  where
    by : (v : Bool) → is_told on.meaning ≡ v → (cond v (plain unknown (on.broken ++ broken_in given)) (found_method env place on called (call_named env.machine on.meaning called.text) given)).broken ≡ [] → on.broken ≡ []
    by true told clear = left_none on.broken (broken_in given) clear
    by false sure clear =
        let is = method_is env place on called given sure
        (ap (λ b. (cond b (plain unknown (on.broken ++ broken_in given)) (found_method env place on called (call_named env.machine on.meaning called.text) given)).broken) sure ∙ clear) in
        let parts = is.is in parts.unbroken

index_left : (env : Environment) (place : Span) (on : Typed) (key : Given) → (index_call env place on key).broken ≡ [] → on.broken ≡ []
index_left env place on key none = by (is_told on.meaning) refl none
  where
    by : (v : Bool) → is_told on.meaning ≡ v → (cond v (plain unknown (on.broken ++ key.typed.broken)) (found_index env place on (call_named env.machine on.meaning (codes "[]")) (key ∷ []))).broken ≡ [] → on.broken ≡ []
    by true told clear = left_none on.broken key.typed.broken clear
    by false sure clear =
        let is = index_is env place on key sure
        (ap (λ b. (cond b (plain unknown (on.broken ++ key.typed.broken)) (found_index env place on (call_named env.machine on.meaning (codes "[]")) (key ∷ []))).broken) sure ∙ clear) in
        let parts = is.is in parts.unbroken

suffix_left : (env : Environment) (place : Span) (left : Typed) (x : Suffix) → (suffix_typed env place left x).broken ≡ [] → left.broken ≡ []
suffix_left env place left (Field n span) none = field_left env left.broken n left.meaning none
suffix_left env place left (Method' called shape row arguments span) none = method_left env place left called (arguments_typed env row) none
suffix_left env place left (Index key span) none = index_left env place left (given_at (span_of key) (typed env key)) none

-- what suffixes are behind has nothing broken
pub before_suffixes : {n : _} (env : Environment) (place : Span) (left : Typed) (row : Row_of-Suffix n) → (suffixes_typed env place left row).broken ≡ [] → left.broken ≡ []
before_suffixes env place left end_of-Suffix none = none
before_suffixes env place left (more_of-Suffix first row) none =
    suffix_left env place left first (before_suffixes env place (suffix_typed env place left first) row none)

-- Calls without a receiver.

-- one of a function of the machine, or of a built-in call
pub record IsFunctionCalled (env : Environment) (place : Span) (text : List ℕ) (given : List Given) : Type 0 where
  pub kind : TypeName
  pub name : Name
  pub formals : Formals
  pub attributes : Pairs
  pub body : Block
  pub span : Span
  pub found : first_named text (machine_declarations env.machine) ≡ Some (function (Plain kind name formals attributes (Some body) span))
  pub counted : wrong_count place (length formals.items) 0 given ≡ []
  pub arguments : wrong_arguments env (map (formal_wanted env) formals.items) given ≡ []

pub record IsFreelyCalled (env : Environment) (place : Span) (text : List ℕ) (given : List Given) : Type 0 where
  pub call : Call
  pub named : plain_call env.trees text ≡ Some call
  pub is : IsCalled env place (plain nothing []) call given

pub call_is : (env : Environment) (place : Span) (called : Name) (given : List Given) → (named_call env place called given).broken ≡ []
    → (value_named env called.text ≡ None) × (IsFunctionCalled env place called.text given ⊎ IsFreelyCalled env place called.text given)
call_is env place called given none = by (value_named env called.text) none
  where
    free : (o : Option Call) → plain_call env.trees called.text ≡ o → (built_in_named env place called o given).broken ≡ [] → IsFreelyCalled env place called.text given
    free None is clear = absurd (cc clear)
    free (Some c) is clear = record { call = c; named = is; is = called_is env place (plain nothing []) c given clear }

    declared : (o : Option Declaration) → first_named called.text (machine_declarations env.machine) ≡ o → (declared_call env place called o given).broken ≡ [] → IsFunctionCalled env place called.text given ⊎ IsFreelyCalled env place called.text given
    declared None is clear = inr (free (plain_call env.trees called.text) refl clear)
    declared (Some (function (Plain kind name formals attributes (Some body) span))) is clear =
        inl
        (record {
          kind = kind;
          name = name;
          formals = formals;
          attributes = attributes;
          body = body;
          span = span;
          found = is;
          counted = left_none (wrong_count place (length formals.items) 0 given) (wrong_arguments env (map (formal_wanted env) formals.items) given) clear;
          arguments = right_none (wrong_count place (length formals.items) 0 given) (wrong_arguments env (map (formal_wanted env) formals.items) given) clear;
        })
    declared (Some (function (Plain kind name formals attributes None span))) is clear = inr (free (plain_call env.trees called.text) refl clear)
    declared (Some (function (Skipped s))) is clear = absurd (cc clear)
    declared (Some _) is clear = absurd (cc clear)

    by : (o : Option Bound) → (call_unless env place called o given).broken ≡ [] → (o ≡ None) × (IsFunctionCalled env place called.text given ⊎ IsFreelyCalled env place called.text given)
    by (Some b) clear = absurd (cc clear)
    by None clear = (refl, declared (first_named called.text (machine_declarations env.machine)) refl clear)
