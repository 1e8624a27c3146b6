-- What is left of a statement in which nothing is broken: where its form is allowed, what its names stand for and what its parts fit.
use Rattle.std.proofs.Common.{◌≡◌, ◌∙◌, ◌++◌, ◌||◌, ◌&&◌, ℕ, true, cond, Option, None, Some, List, [], ◌∷◌, length, refl, sym, ap}
use Rattle.std.specs.Prelude.{nat_le, ◌+◌}
use Rattle.std.proofs.lemmas.Bool.{and_parts}
use Rattle.slicc_ast.specs.declared.tree.expression.Expr.{Expr}
use Rattle.slicc_ast.specs.declared.tree.name.Name.{Name}
use Rattle.slicc_ast.specs.declared.tree.name.TypeName.{TypeName}
use Rattle.slicc_ast.specs.declared.tree.span.Span.{Span}
use Rattle.slicc_plan.specs.declared.broken.Broken.{Broken}
use Rattle.slicc_plan.specs.declared.broken.Rule.TheVariants.{NotAllowedHere, NotWritable, WrongCount, WrongType}
use Rattle.slicc_plan.specs.declared.built_in.BuiltInType.TheVariants.{Address, Int, TbeTable}
use Rattle.slicc_plan.specs.Buffers.{is_same_known}
use Rattle.slicc_plan.specs.BuiltInCalls.{in_actions, in_ports, Call}
use Rattle.slicc_plan.specs.CallTypes.{Given, Typed, built_in_call, is_told, may_write, not_writable, wanted_by, wrong_arguments, wrong_change, wrong_count}
use Rattle.slicc_plan.specs.Environment.{BodySort, Bound, Environment, of_action, of_function, of_port, is_allowed, meaning_named, no_type, type_named, value_named, wrong_meaning, wrong_type_name, wrong_value_name}
use Rattle.slicc_plan.specs.ExpressionTypes.{broken_where, span_of, typed}
use Rattle.slicc_plan.specs.JudgedStatements.{assigned, broken_latency, checked, declared, enqueued, in_type, is_peek_allowed, local_meaning, out_type, peeked, stalled, wrong_local_type, wrong_message_type}
use Rattle.slicc_plan.specs.Meanings.{Meaning, value, unknown, Wanted, one_of, table_of, any_in_port, any_out_port, fits, is_value, like_it, of_built_in, unfit, unless, value_of_type}
use Rattle.slicc_plan.specs.Types.{KnownType}
use Rattle.slicc_plan.proofs.Room.{left_none, right_none}
use Rattle.rules_symbols.proofs.WhatFits.{untold}

-- Forms that are allowed in some bodies alone.

pub only_in_actions : (body : BodySort) → is_allowed body in_actions ≡ true → body ≡ of_action
only_in_actions of_action is = refl
only_in_actions of_port is = absurd (cc is)
only_in_actions of_function is = absurd (cc is)

pub only_in_ports : (body : BodySort) → is_allowed body in_ports ≡ true → body ≡ of_port
only_in_ports of_port is = refl
only_in_ports of_action is = absurd (cc is)
only_in_ports of_function is = absurd (cc is)

-- Expressions.

-- nothing is broken in it, and it fits
pub record IsRight (env : Environment) (wanted : Wanted) (e : Expr) : Type 0 where
  pub unbroken : (typed env e).broken ≡ []
  pub fitting : fits env.machine wanted (typed env e).meaning ≡ true

pub right_where : (env : Environment) (wanted : Wanted) (e : Expr) → broken_where env wanted e ≡ [] → IsRight env wanted e
right_where env wanted e none =
    let last = right_none (typed env e).broken (unfit env.machine wanted (span_of e) (typed env e).meaning) none in
    record {
      unbroken = left_none (typed env e).broken (unfit env.machine wanted (span_of e) (typed env e).meaning) none;
      fitting = untold (fits env.machine wanted (typed env e).meaning) WrongType (span_of e) last;
    }

-- Names.

-- a name of a type, where none of a value has its name
no_name : (place : Span) (b : Option Bound) (t : Option KnownType) → no_type place b t ≡ [] → (b ≡ None) × ((u : KnownType) × (t ≡ Some u))
no_name place (Some b) t none = absurd (cc none)
no_name place None None none = absurd (cc none)
no_name place None (Some t) none = (refl, (t, refl))

pub type_name_is : (env : Environment) (text : List ℕ) (place : Span) → wrong_type_name env text place ≡ [] → (value_named env text ≡ None) × ((t : KnownType) × (type_named env text ≡ Some t))
type_name_is env text place none = no_name place (value_named env text) (type_named env text) none

pub value_name_is : (env : Environment) (wanted : Wanted) (n : Name) → wrong_value_name env wanted n ≡ [] → (meaning : Meaning) × (meaning_named env n.text ≡ Some meaning) × (fits env.machine wanted meaning ≡ true)
value_name_is env wanted n none = by (meaning_named env n.text) none
  where
    by : (o : Option Meaning) → wrong_meaning env.machine wanted n.span o ≡ [] → (meaning : Meaning) × (o ≡ Some meaning) × (fits env.machine wanted meaning ≡ true)
    by None told = absurd (cc told)
    by (Some meaning) told = (meaning, refl, untold (fits env.machine wanted meaning) WrongType n.span told)

-- Locals.

pub record IsDeclared (env : Environment) (kind : TypeName) (e : Expr) : Type 0 where
  pub type : KnownType
  pub named : type_named env kind.text ≡ Some type
  pub valued : is_value env.machine type ≡ true
  pub meaning : local_meaning env kind ≡ value type
  pub right : IsRight env (one_of (type ∷ [])) e

pub declared_is : (env : Environment) (kind : TypeName) (e : Expr) → declared env kind e ≡ [] → IsDeclared env kind e
declared_is env kind e none =
    by (type_named env kind.text) refl (left_none (wrong_local_type env kind (type_named env kind.text)) (broken_where env (like_it (local_meaning env kind)) e) none)
  where
    last : broken_where env (like_it (local_meaning env kind)) e ≡ []
    last = right_none (wrong_local_type env kind (type_named env kind.text)) (broken_where env (like_it (local_meaning env kind)) e) none

    by : (o : Option KnownType) → type_named env kind.text ≡ o → wrong_local_type env kind o ≡ [] → IsDeclared env kind e
    by None is told =
        let known = type_name_is env kind.text kind.span told in
        let wrong : None ≡ Some known.1.0 = sym is ∙ known.1.1 in absurd (cc wrong)
    by (Some t) is told =
        let valued = untold (is_value env.machine t) WrongType kind.span told in
        let means : local_meaning env kind ≡ value t = ap (value_of_type env.machine) is ∙ ap (λ b. cond b (value t) unknown) valued in
        record {
          type = t;
          named = is;
          valued = valued;
          meaning = means;
          right = right_where env (one_of (t ∷ [])) e (ap (λ (x : Meaning). broken_where env (like_it x) e) (sym means) ∙ last);
        }

-- Assignments.

pub record IsAssigned (env : Environment) (place : Typed) (e : Expr) : Type 0 where
  pub unbroken : place.broken ≡ []
  pub writable : (is_told place.meaning || may_write place.written) ≡ true
  pub right : IsRight env (like_it place.meaning) e

pub assigned_is : (env : Environment) (at : Span) (place : Typed) (e : Expr) → assigned env at place e ≡ [] → IsAssigned env place e
assigned_is env at place e none =
    let first = left_none (place.broken ++ not_writable at place) (broken_where env (like_it place.meaning) e) none in
    record {
      unbroken = left_none place.broken (not_writable at place) first;
      writable = untold (is_told place.meaning || may_write place.written) NotWritable at (right_none place.broken (not_writable at place) first);
      right = right_where env (like_it place.meaning) e (right_none (place.broken ++ not_writable at place) (broken_where env (like_it place.meaning) e) none);
    }

-- Messages.

-- the type that is written is that of the port
message_is : (env : Environment) (message : TypeName) (t : KnownType) → wrong_message_type env message (Some t) (type_named env message.text) ≡ [] → (u : KnownType) × (type_named env message.text ≡ Some u) × (is_same_known t u ≡ true)
message_is env message t none = by (type_named env message.text) refl none
  where
    by : (o : Option KnownType) → type_named env message.text ≡ o → wrong_message_type env message (Some t) o ≡ [] → (u : KnownType) × (type_named env message.text ≡ Some u) × (is_same_known t u ≡ true)
    by None is told =
        let known = type_name_is env message.text message.span told in
        let wrong : None ≡ Some known.1.0 = sym is ∙ known.1.1 in absurd (cc wrong)
    by (Some u) is told = (u, is, untold (is_same_known t u) WrongType message.span told)

pub record IsPeeked (env : Environment) (port : Name) (message : TypeName) : Type 0 where
  pub allowed : is_peek_allowed env.body ≡ true
  pub meaning : Meaning
  pub named : meaning_named env port.text ≡ Some meaning
  pub fitting : fits env.machine any_in_port meaning ≡ true
  pub typed : (t : KnownType) → in_type (Some meaning) ≡ Some t → (u : KnownType) × (type_named env message.text ≡ Some u) × (is_same_known t u ≡ true)

pub peeked_is : (env : Environment) (span : Span) (port : Name) (message : TypeName) → peeked env span port message ≡ [] → IsPeeked env port message
peeked_is env span port message none =
    let allowed : List Broken = unless (is_peek_allowed env.body) NotAllowedHere span in
    let named : List Broken = wrong_value_name env any_in_port port in
    let typed : List Broken = wrong_message_type env message (in_type (meaning_named env port.text)) (type_named env message.text) in
    let first : allowed ++ named ≡ [] = left_none (allowed ++ named) typed none in
    let last : typed ≡ [] = right_none (allowed ++ named) typed none in
    let is = value_name_is env any_in_port port (right_none allowed named first) in
    record {
      allowed = untold (is_peek_allowed env.body) NotAllowedHere span (left_none allowed named first);
      meaning = is.0;
      named = is.1;
      fitting = is.2;
      typed = λ t of_port.
          message_is env message t
          (ap (λ (o : Option KnownType). wrong_message_type env message o (type_named env message.text)) (sym (ap in_type is.1 ∙ of_port)) ∙ last);
    }

pub record IsEnqueued (env : Environment) (port : Name) (message : TypeName) (latency : Option Expr) : Type 0 where
  pub in_action : env.body ≡ of_action
  pub meaning : Meaning
  pub named : meaning_named env port.text ≡ Some meaning
  pub fitting : fits env.machine any_out_port meaning ≡ true
  pub typed : (t : KnownType) → out_type (Some meaning) ≡ Some t → (u : KnownType) × (type_named env message.text ≡ Some u) × (is_same_known t u ≡ true)
  pub right : (e : Expr) → latency ≡ Some e → IsRight env (of_built_in Int) e

pub enqueued_is : (env : Environment) (span : Span) (port : Name) (message : TypeName) (latency : Option Expr) → enqueued env span port message latency ≡ [] → IsEnqueued env port message latency
enqueued_is env span port message latency none =
    let allowed : List Broken = unless (is_allowed env.body in_actions) NotAllowedHere span in
    let named : List Broken = wrong_value_name env any_out_port port in
    let typed : List Broken = wrong_message_type env message (out_type (meaning_named env port.text)) (type_named env message.text) in
    let to_typed : allowed ++ named ++ typed ≡ [] = left_none (allowed ++ named ++ typed) (broken_latency env latency) none in
    let to_named : allowed ++ named ≡ [] = left_none (allowed ++ named) typed to_typed in
    let last : typed ≡ [] = right_none (allowed ++ named) typed to_typed in
    let is = value_name_is env any_out_port port (right_none allowed named to_named) in
    record {
      in_action = only_in_actions env.body (untold (is_allowed env.body in_actions) NotAllowedHere span (left_none allowed named to_named));
      meaning = is.0;
      named = is.1;
      fitting = is.2;
      typed = λ t of_port.
          message_is env message t
          (ap (λ (o : Option KnownType). wrong_message_type env message o (type_named env message.text)) (sym (ap out_type is.1 ∙ of_port)) ∙ last);
      right = λ e is_e.
          right_where env (of_built_in Int) e (ap (broken_latency env) (sym is_e) ∙ right_none (allowed ++ named ++ typed) (broken_latency env latency) none);
    }

pub record IsStalled (env : Environment) (port : Name) (address : Expr) : Type 0 where
  pub in_action : env.body ≡ of_action
  pub meaning : Meaning
  pub named : meaning_named env port.text ≡ Some meaning
  pub fitting : fits env.machine any_in_port meaning ≡ true
  pub right : IsRight env (of_built_in Address) address

pub stalled_is : (env : Environment) (span : Span) (port : Name) (address : Expr) → stalled env span port address ≡ [] → IsStalled env port address
stalled_is env span port address none =
    let allowed : List Broken = unless (is_allowed env.body in_actions) NotAllowedHere span in
    let named : List Broken = wrong_value_name env any_in_port port in
    let first : allowed ++ named ≡ [] = left_none (allowed ++ named) (broken_where env (of_built_in Address) address) none in
    let is = value_name_is env any_in_port port (right_none allowed named first) in
    record {
      in_action = only_in_actions env.body (untold (is_allowed env.body in_actions) NotAllowedHere span (left_none allowed named first));
      meaning = is.0;
      named = is.1;
      fitting = is.2;
      right = right_where env (of_built_in Address) address (right_none (allowed ++ named) (broken_where env (of_built_in Address) address) none);
    }

pub record IsChecked (env : Environment) (name : Name) : Type 0 where
  pub in_action : env.body ≡ of_action
  pub meaning : Meaning
  pub named : meaning_named env name.text ≡ Some meaning
  pub fitting : fits env.machine (table_of TbeTable) meaning ≡ true

pub checked_is : (env : Environment) (span : Span) (name : Name) → checked env span name ≡ [] → IsChecked env name
checked_is env span name none =
    let allowed : List Broken = unless (is_allowed env.body in_actions) NotAllowedHere span in
    let named : List Broken = wrong_value_name env (table_of TbeTable) name in
    let is = value_name_is env (table_of TbeTable) name (right_none allowed named none) in
    record {
      in_action = only_in_actions env.body (untold (is_allowed env.body in_actions) NotAllowedHere span (left_none allowed named none));
      meaning = is.0;
      named = is.1;
      fitting = is.2;
    }

-- Calls.

pub record IsCalled (env : Environment) (at : Span) (on : Typed) (c : Call) (given : List Given) : Type 0 where
  pub unbroken : on.broken ≡ []
  pub allowed : is_allowed env.body c.allowed ≡ true
  pub counted : wrong_count at (length (wanted_by env.machine c.receiver c.always)) (length (wanted_by env.machine c.receiver c.perhaps)) given ≡ []
  pub arguments : wrong_arguments env (wanted_by env.machine c.receiver c.always ++ wanted_by env.machine c.receiver c.perhaps) given ≡ []
  pub changes : wrong_change c.change at on given ≡ []

pub called_is : (env : Environment) (at : Span) (on : Typed) (c : Call) (given : List Given) → (built_in_call env at on c given).broken ≡ [] → IsCalled env at on c given
called_is env at on c given none =
    let always = wanted_by env.machine c.receiver c.always in
    let perhaps = wanted_by env.machine c.receiver c.perhaps in
    let allowed : List Broken = unless (is_allowed env.body c.allowed) NotAllowedHere at in
    let counted : List Broken = wrong_count at (length always) (length perhaps) given in
    let arguments : List Broken = wrong_arguments env (always ++ perhaps) given in
    let changes : List Broken = wrong_change c.change at on given in
    let to_arguments : on.broken ++ allowed ++ counted ++ arguments ≡ [] = left_none (on.broken ++ allowed ++ counted ++ arguments) changes none in
    let to_counted : on.broken ++ allowed ++ counted ≡ [] = left_none (on.broken ++ allowed ++ counted) arguments to_arguments in
    let to_allowed : on.broken ++ allowed ≡ [] = left_none (on.broken ++ allowed) counted to_counted in
    record {
      unbroken = left_none on.broken allowed to_allowed;
      allowed = untold (is_allowed env.body c.allowed) NotAllowedHere at (right_none on.broken allowed to_allowed);
      counted = right_none (on.broken ++ allowed) counted to_counted;
      arguments = right_none (on.broken ++ allowed ++ counted) arguments to_arguments;
      changes = right_none (on.broken ++ allowed ++ counted ++ arguments) changes none;
    }

-- there are neither too few arguments nor too many
pub counted_is : (at : Span) (always perhaps : ℕ) (given : List Given) → wrong_count at always perhaps given ≡ [] → (nat_le always (length given) ≡ true) × (nat_le (length given) (always + perhaps) ≡ true)
counted_is at always perhaps given none =
    and_parts (nat_le always (length given)) (nat_le (length given) (always + perhaps))
    (untold (nat_le always (length given) && nat_le (length given) (always + perhaps)) WrongCount at none)
