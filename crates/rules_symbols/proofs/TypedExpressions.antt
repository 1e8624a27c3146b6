-- Typing: in a body of an accepted protocol an expression in which nothing is broken stands for something that is known. One induction
-- over trees; the helpers before it take no trees.
use Rattle.std.proofs.Common.{◌≡◌, ◌∙◌, ◌++◌, ◌||◌, ℕ, Bool, true, false, cond, Option, None, Some, List, [], ◌∷◌, find, flat_map, refl, sym, ap, subst, option_and_then, codes}
use Rattle.std.specs.Option.{option_map, option_or}
use Rattle.std.specs.Str.{bytes_eq}
use Rattle.ruby_value.specs.declared.kind.Kind.TheVariants as kind
use Rattle.slicc_ast.specs.declared.tree.declaration.Function.TheVariants.{Plain, Skipped}
use Rattle.slicc_ast.specs.declared.tree.declaration.Structure.{Structure}
use Rattle.slicc_ast.specs.declared.tree.expression.Expr.{Expr, Number, True, False, Nothing, Variable, Member, Call', New, Row_of-Operand, end_of-Operand, more_of-Operand, Row_of-Suffix, end_of-Suffix, more_of-Suffix}
use Rattle.slicc_ast.specs.declared.tree.expression.Suffix.{Suffix, Field, Method', Index}
use Rattle.slicc_ast.specs.declared.tree.machine.Machine.{Machine}
use Rattle.slicc_ast.specs.declared.tree.name.Name.{Name}
use Rattle.slicc_ast.specs.declared.tree.name.TypeName.{TypeName}
use Rattle.slicc_ast.specs.declared.tree.span.Span.{Span}
use Rattle.slicc_ast.specs.Prelude.{Operation', Not', Negate', Postfix', IsValid', IsInvalid', Cast', Group'}
use Rattle.slicc_plan.specs.declared.broken.Broken.{Broken}
use Rattle.slicc_plan.specs.declared.broken.Rule.TheVariants.{NotThere, WrongType}
use Rattle.slicc_plan.specs.declared.built_in.BuiltInType.TheVariants.{Buffer, Int, MachineId, Void}
use Rattle.slicc_plan.specs.BrokenBodies.{broken_port, function_environment, port_environment, wrong_formal, wrong_type_in}
use Rattle.slicc_plan.specs.Buffers.{listed}
use Rattle.slicc_plan.specs.BuiltIn.{is_among, is_table_nature, nature_of}
use Rattle.slicc_plan.specs.BuiltInCalls.{Answer, no_value, answered, line, Call, Receiver, calls, permission_reading}
use Rattle.slicc_plan.specs.BuiltInCalls as built
use Rattle.slicc_plan.specs.CallTypes.{Given, Typed, Written, a_field, no_place, answer_of, broken_in, built_in_named, call_named, call_on, call_unless, declared_call, found_index, found_method, index_call, is_call_on, is_told, method_call, named_call, permission_named, plain, plain_call, receiver_of}
use Rattle.slicc_plan.specs.Declarations.{Declaration, structure as declared_structure, parameter, object, in_port, out_port, function, within, first_named, is_named, machine_declarations, machines_of}
use Rattle.slicc_plan.specs.Environment.{Bound, Environment, bound_as, declared_value, fixed, names_everywhere, type_named, value_named, value_outside, value_within, wrong_type_name, wrong_value_name}
use Rattle.slicc_plan.specs.ExpressionTypes.{arguments_typed, cast_to, enumeration_members, field_in, field_of, found_field, found_value, given_at, joined, member_among, member_of_type, member_type, operands_typed, span_of, suffix_typed, suffixes_typed, typed, variable_type}
use Rattle.slicc_plan.specs.JudgedStatements.{body_judged}
use Rattle.slicc_plan.specs.Machines.{directory_structure, entry_structure, is_directory_entry, is_entry, is_tbe, own_structures, tbe_structure}
use Rattle.slicc_plan.specs.Meanings.{Meaning, value, no_line, bare_line, new_line, incoming, outgoing, table as table_meaning, in_port as in_port_meaning, out_port as out_port_meaning, nothing as nothing_meaning, unknown, one_of, answer_of_type, fits, is_answer_type, is_line, is_message, is_object_type, is_value, line_of_structure, message_type, object_of_type, table_of, told, unfit, value_of_type}
use Rattle.slicc_plan.specs.Types.{KnownType, built_in, enumerated, structured, is_built_in, type_in}
use Rattle.slicc_plan.specs.UnknownTypes.{use_of}
use Rattle.slicc_plan.proofs.Room.{left_none, right_none}
use Rattle.slicc_plan.proofs.There.{There, all_there, there_found}
use Rattle.rules_symbols.specs.TypedMeaning.{IsMessageType, IsTyped, IsTypedIn}
use Rattle.rules_symbols.proofs.Fields.{field_meaning, named_is_in}
use Rattle.rules_symbols.proofs.Lists.{every_there}
use Rattle.rules_symbols.proofs.Parameters.{machine_scope, right_type, type_known, unbroken}
use Rattle.rules_symbols.proofs.StatementForms.{type_name_is}
use Rattle.rules_symbols.proofs.ValueKinds.{built_in_valued, kind_there, line_kind_there, own_declared_there, own_there}
use Rattle.rules_symbols.proofs.WhatFits.{like_fits, untold}
use Rattle.rules_symbols.proofs.TypedParts.{answer_valued, bool_typed, directory_line, entry_line, int_typed, like_valued, members_valued, operator_typed, tbe_line_is, told_among, told_last, type_in_of, typed_sure}

-- A body of a machine.

module _ (k : ℕ) (env : Environment) (h : IsTypedIn k env) where
  abbrev T : Meaning → Type 0
  T meaning = IsTyped env.trees env.machine meaning

  pub type_value : (text : List ℕ) (t : KnownType) → type_in env.trees (within env.machine) text ≡ Some t → is_value env.machine t ≡ true → T (value t)
  type_value text t is valued =
      (valued, named_is_in env.trees h.accepted k env.machine h.machine text t is, kind_there env.trees k env.machine h.machine text t is valued)

  pub value_typed : (text : List ℕ) (t : KnownType) → type_in env.trees (within env.machine) text ≡ Some t → is_value env.machine t ≡ true → T (value_of_type env.machine (Some t))
  value_typed text t is valued = subst (λ b. T (cond b (value t) unknown)) (sym valued) (type_value text t is valued)

  object_typed : (text : List ℕ) (t : KnownType) → type_in env.trees (within env.machine) text ≡ Some t → is_object_type env.machine t ≡ true → T (object_of_type env.machine (Some t))
  object_typed text (built_in b) is right = by (is_table_nature (nature_of b)) refl right
    where
      by : (v : Bool) → is_table_nature (nature_of b) ≡ v → (v || is_value env.machine (built_in b)) ≡ true → T (cond v (table_meaning b) (value_of_type env.machine (Some (built_in b))))
      by true so all = so
      by false so valued = value_typed text (built_in b) is valued
  object_typed text (enumerated scope name members) is right = type_value text (enumerated scope name members) is refl
  object_typed text (structured scope s) is right = value_typed text (structured scope s) is right

  message_typed : (text : List ℕ) (t : KnownType) → type_in env.trees (within env.machine) text ≡ Some t → is_message t ≡ true → IsMessageType env.trees env.machine t
  message_typed text t is message = (message, named_is_in env.trees h.accepted k env.machine h.machine text t is)

  -- Names.

  declared_typed : (d : Declaration) → There (machine_declarations env.machine) d → (b : Bound) → declared_value env.trees env.machine d ≡ Some b → T b.meaning
  declared_typed (parameter p) there b is =
      let known = type_known env.trees h.accepted (within env.machine) (machine_scope env.trees h.accepted k env.machine h.machine) (parameter p) there (use_of p.kind) (0, refl) refl in
      let right = right_type env.trees h.accepted k env.machine h.machine (is_object_type env.machine) p.kind known.0 known.1 (unbroken env.trees h.accepted k env.machine h.machine (parameter p) there) in
      let same : fixed p.name.text (object_of_type env.machine (type_in env.trees (within env.machine) p.kind.text)) ≡ b = cc is in
      subst (λ (x : Bound). T x.meaning) same (subst (λ (o : Option KnownType). T (object_of_type env.machine o)) (sym known.1) (object_typed p.kind.text known.0 known.1 right))
  declared_typed (object p) there b is =
      let known = type_known env.trees h.accepted (within env.machine) (machine_scope env.trees h.accepted k env.machine h.machine) (object p) there (use_of p.kind) (0, refl) refl in
      let right = right_type env.trees h.accepted k env.machine h.machine (is_object_type env.machine) p.kind known.0 known.1 (unbroken env.trees h.accepted k env.machine h.machine (object p) there) in
      let same : fixed p.name.text (object_of_type env.machine (type_in env.trees (within env.machine) p.kind.text)) ≡ b = cc is in
      subst (λ (x : Bound). T x.meaning) same (subst (λ (o : Option KnownType). T (object_of_type env.machine o)) (sym known.1) (object_typed p.kind.text known.0 known.1 right))
  declared_typed (in_port p) there b is =
      let known = type_known env.trees h.accepted (within env.machine) (machine_scope env.trees h.accepted k env.machine h.machine) (in_port p) there (use_of p.message) (0, refl) refl in
      let whole = unbroken env.trees h.accepted k env.machine h.machine (in_port p) there in
      let port = left_none (broken_port env.trees env.machine p.message p.buffer) (body_judged (port_environment env.trees env.machine) p.body) whole in
      let right = right_type env.trees h.accepted k env.machine h.machine is_message p.message known.0 known.1 (left_none (wrong_type_in env.trees env.machine is_message p.message) (wrong_value_name (port_environment env.trees env.machine) (table_of Buffer) p.buffer) port) in
      let same : fixed p.name.text (in_port_meaning (message_type (type_in env.trees (within env.machine) p.message.text))) ≡ b = cc is in
      subst (λ (x : Bound). T x.meaning) same
      (subst (λ (o : Option KnownType). T (in_port_meaning (message_type o))) (sym known.1)
      (subst (λ v. T (in_port_meaning (cond v (Some known.0) None))) (sym right) (message_typed p.message.text known.0 known.1 right)))
  declared_typed (out_port p) there b is =
      let known = type_known env.trees h.accepted (within env.machine) (machine_scope env.trees h.accepted k env.machine h.machine) (out_port p) there (use_of p.message) (0, refl) refl in
      let port = unbroken env.trees h.accepted k env.machine h.machine (out_port p) there in
      let right = right_type env.trees h.accepted k env.machine h.machine is_message p.message known.0 known.1 (left_none (wrong_type_in env.trees env.machine is_message p.message) (wrong_value_name (port_environment env.trees env.machine) (table_of Buffer) p.buffer) port) in
      let same : fixed p.name.text (out_port_meaning (message_type (type_in env.trees (within env.machine) p.message.text))) ≡ b = cc is in
      subst (λ (x : Bound). T x.meaning) same
      (subst (λ (o : Option KnownType). T (out_port_meaning (message_type o))) (sym known.1)
      (subst (λ v. T (out_port_meaning (cond v (Some known.0) None))) (sym right) (message_typed p.message.text known.0 known.1 right)))
  declared_typed _ there b is = absurd (cc is)

  everywhere_typed : (text : List ℕ) (b : Bound) → bound_as text names_everywhere ≡ Some b → T b.meaning
  everywhere_typed text b is = by (bytes_eq (codes "machineID") text) (bytes_eq (codes "recycle_latency") text) is
    where
      by : (x y : Bool) → cond x (Some (fixed (codes "machineID") (value (built_in MachineId)))) (cond y (Some (fixed (codes "recycle_latency") (value (built_in Int)))) None) ≡ Some b → T b.meaning
      by true y same = let one : fixed (codes "machineID") (value (built_in MachineId)) ≡ b = cc same in subst (λ (c : Bound). T c.meaning) one (refl, tt, (kind.Machine, refl))
      by false true same = let one : fixed (codes "recycle_latency") (value (built_in Int)) ≡ b = cc same in subst (λ (c : Bound). T c.meaning) one (int_typed env.trees env.machine)
      by false false same = absurd (cc same)

  pub named_typed : (text : List ℕ) (b : Bound) → value_named env text ≡ Some b → T b.meaning
  named_typed text b is = by (bound_as text env.bound) refl is
    where
      outside : (o : Option Declaration) → first_named text (machine_declarations env.machine) ≡ o → value_outside env.trees env.machine text o ≡ Some b → T b.meaning
      outside None found same = everywhere_typed text b same
      outside (Some d) found same = declared_typed d (there_found (is_named text) (machine_declarations env.machine) d found) b same

      by : (o : Option Bound) → bound_as text env.bound ≡ o → value_within env text o ≡ Some b → T b.meaning
      by None found same = outside (first_named text (machine_declarations env.machine)) refl same
      by (Some c) found same =
          let one : c ≡ b = cc same in
          subst (λ (x : Bound). T x.meaning) one (all_there (λ (x : Bound). T x.meaning) env.bound c h.bound (there_found (λ (x : Bound). bytes_eq x.name text) env.bound c found))

  variable_is : (n : Name) → (variable_type env n).broken ≡ [] → T (variable_type env n).meaning
  variable_is n none = by (value_named env n.text) refl none
    where
      by : (o : Option Bound) → value_named env n.text ≡ o → (found_value n o).broken ≡ [] → T (found_value n o).meaning
      by None is told = absurd (cc told)
      by (Some b) is told = named_typed n.text b is

  member_typed : (owner called : Name) → (member_type env owner called).broken ≡ [] → T (member_type env owner called).meaning
  member_typed owner called none = by (type_named env owner.text) refl none
    where
      among : (t : KnownType) → type_in env.trees (within env.machine) owner.text ≡ Some t → (o : Option (List (List ℕ))) → enumeration_members env.trees t ≡ o → (member_among t owner called o).broken ≡ [] → T (member_among t owner called o).meaning
      among t is None listed clear = absurd (cc clear)
      among t is (Some members) listed clear = there (is_among members called.text) clear
        where
          there : (v : Bool) → (cond v (plain (value t) []) (plain unknown (told NotThere called.span ∷ []))).broken ≡ [] → T (cond v (plain (value t) []) (plain unknown (told NotThere called.span ∷ []))).meaning
          there true so = type_value owner.text t is (members_valued env.trees env.machine t members listed)
          there false so = absurd (cc so)

      by : (o : Option KnownType) → type_named env owner.text ≡ o → (member_of_type env owner called o).broken ≡ [] → T (member_of_type env owner called o).meaning
      by None is told =
          let known = type_name_is env owner.text owner.span told in
          let wrong : None ≡ Some known.1.0 = sym is ∙ known.1.1 in absurd (cc wrong)
      by (Some t) is told = among t (type_in_of env owner.text t is) (enumeration_members env.trees t) refl told

  -- Casts.

  cast_typed : (target : TypeName) (g : Given) → (g.typed.broken ≡ [] → T g.typed.meaning) → (cast_to env target g (type_named env target.text)).broken ≡ [] → T (cast_to env target g (type_named env target.text)).meaning
  cast_typed target g inner none = by (type_named env target.text) refl none
    where
      by : (o : Option KnownType) → type_named env target.text ≡ o → (cast_to env target g o).broken ≡ [] → T (cast_to env target g o).meaning
      by None is told =
          let known = type_name_is env target.text target.span (left_none (wrong_type_name env target.text target.span) g.typed.broken told) in
          let wrong : None ≡ Some known.1.0 = sym is ∙ known.1.1 in absurd (cc wrong)
      by (Some t) is told =
          let typed_inner = inner (left_none g.typed.broken (unfit env.machine (one_of (t ∷ [])) g.place g.typed.meaning) told) in
          let fitting = untold (fits env.machine (one_of (t ∷ [])) g.typed.meaning) WrongType g.place (right_none g.typed.broken (unfit env.machine (one_of (t ∷ [])) g.place g.typed.meaning) told) in
          let like = like_fits env.machine t g.typed.meaning fitting (typed_sure env.trees env.machine g.typed.meaning typed_inner) in
          let valued = like_valued env.trees env.machine t g.typed.meaning typed_inner like in
          subst (λ b. T (cond b (value_of_type env.machine (Some t)) unknown)) (sym fitting) (value_typed target.text t (type_in_of env target.text t is) valued)

  -- Fields.

  field_typed_is : (written : Written) (broken : List Broken) (n : Name) (o : Option Meaning) → ((meaning : Meaning) → o ≡ Some meaning → T meaning) → (found_field written broken n o).broken ≡ [] → T (found_field written broken n o).meaning
  field_typed_is written broken n None each none = absurd (told_last broken _ none)
  field_typed_is written broken n (Some meaning) each none = each meaning refl

  no_field : (broken : List Broken) (n : Name) → (found_field no_place broken n None).broken ≡ [] → T (found_field no_place broken n None).meaning
  no_field broken n none = absurd (told_last broken _ none)

  field_is : (broken : List Broken) (n : Name) (meaning : Meaning) → (broken ≡ [] → T meaning) → (field_of env broken n meaning).broken ≡ [] → T (field_of env broken n meaning).meaning
  field_is broken n (value t) inner none = found (field_in env.trees env.machine t n.text) refl none
    where
      found : (o : Option Meaning) → field_in env.trees env.machine t n.text ≡ o → (found_field a_field broken n o).broken ≡ [] → T (found_field a_field broken n o).meaning
      found None is told = absurd (told_last broken _ told)
      found (Some u) is told = let t_is = inner told in field_meaning env.trees h.accepted k env.machine h.machine t t_is.1 n.text u is
  field_is broken n (incoming t) inner none = found (field_in env.trees env.machine t n.text) refl none
    where
      found : (o : Option Meaning) → field_in env.trees env.machine t n.text ≡ o → (found_field no_place broken n o).broken ≡ [] → T (found_field no_place broken n o).meaning
      found None is told = absurd (told_last broken _ told)
      found (Some u) is told = let t_is = inner told in field_meaning env.trees h.accepted k env.machine h.machine t t_is.1 n.text u is
  field_is broken n (outgoing t) inner none = found (field_in env.trees env.machine t n.text) refl none
    where
      found : (o : Option Meaning) → field_in env.trees env.machine t n.text ≡ o → (found_field a_field broken n o).broken ≡ [] → T (found_field a_field broken n o).meaning
      found None is told = absurd (told_last broken _ told)
      found (Some u) is told = let t_is = inner told in field_meaning env.trees h.accepted k env.machine h.machine t t_is.1 n.text u is
  field_is broken n no_line inner none = no_field broken n none
  field_is broken n bare_line inner none = no_field broken n none
  field_is broken n (new_line made) inner none = inner none
  field_is broken n (table_meaning b) inner none = no_field broken n none
  field_is broken n (in_port_meaning t) inner none = no_field broken n none
  field_is broken n (out_port_meaning t) inner none = no_field broken n none
  field_is broken n nothing_meaning inner none = no_field broken n none
  field_is broken n unknown inner none = inner none

  -- Calls.

  line_typed : (s : Structure) (p : Structure → Bool) → find p (own_structures env.machine) ≡ Some s → is_line env.machine (structured (within env.machine) s) ≡ true → T (value (structured (within env.machine) s))
  line_typed s p found line_so =
      let own = own_there env.machine p s found in (
        line_so,
        (
          record {
            among = machine_scope env.trees h.accepted k env.machine h.machine;
            there = own.0;
            declared = own_declared_there env.trees k env.machine h.machine (declared_structure s) own.0;
            is_own = own.1;
          },
          refl,
        ),
        line_kind_there env.trees k env.machine h.machine (within env.machine) s line_so,
      )

  pub line_of : (p : Structure → Bool) (o : Option Structure) → find p (own_structures env.machine) ≡ o → ((s : Structure) → o ≡ Some s → is_line env.machine (structured (within env.machine) s) ≡ true) → T (line_of_structure env.machine o)
  line_of p None found each = tt
  line_of p (Some s) found each = line_typed s p found (each s refl)

  answer_typed : (on : Receiver) (a : Answer) → answer_valued a ≡ true → T (answer_of env.machine on a)
  answer_typed on no_value is = tt
  answer_typed on (answered b) is = let has = built_in_valued b is in (is, tt, has)
  answer_typed built.cache line is = line_of is_entry (entry_structure env.machine) refl (λ s found. entry_line env.machine s found)
  answer_typed built.directory line is = line_of is_directory_entry (directory_structure env.machine) refl (λ s found. directory_line env.machine s found)
  answer_typed built.tbe_table line is = line_of is_tbe (tbe_structure env.machine) refl (λ s found. tbe_line_is env.machine s found)
  answer_typed built.in_port line is = tt
  answer_typed built.net_dest line is = tt
  answer_typed built.data_block line is = tt
  answer_typed built.sequencer line is = tt
  answer_typed built.entry line is = tt
  answer_typed built.nothing line is = tt

  listed_typed : (c : Call) → There calls c → T (answer_of env.machine c.receiver c.answer)
  listed_typed c there = answer_typed c.receiver c.answer (every_there (λ (x : Call). answer_valued x.answer) calls c refl there)

  found_call : (on : Receiver) (text : List ℕ) (c : Call) → call_on on text ≡ Some c → T (answer_of env.machine c.receiver c.answer)
  found_call on text c is = listed_typed c (there_found (is_call_on on text) calls c is)

  call_named_typed : (on : Meaning) (text : List ℕ) (c : Call) → call_named env.machine on text ≡ Some c → T (answer_of env.machine c.receiver c.answer)
  call_named_typed on text c is = by (receiver_of env.machine on) is
    where
      by : (o : Option Receiver) → option_and_then (λ receiver. call_on receiver text) o ≡ Some c → T (answer_of env.machine c.receiver c.answer)
      by None none = absurd (cc none)
      by (Some receiver) some = found_call receiver text c some

  method_typed : (place : Span) (on : Typed) (called : Name) (given : List Given) → (on.broken ≡ [] → T on.meaning) → (method_call env place on called given).broken ≡ [] → T (method_call env place on called given).meaning
  method_typed place on called given inner none = by (is_told on.meaning) refl none
    where
      found : (o : Option Call) → call_named env.machine on.meaning called.text ≡ o → (found_method env place on called o given).broken ≡ [] → T (found_method env place on called o given).meaning
      found None is clear = absurd (told_among on.broken (broken_in given) _ clear)
      found (Some c) is clear = call_named_typed on.meaning called.text c is

      by : (v : Bool) → is_told on.meaning ≡ v → (cond v (plain unknown (on.broken ++ broken_in given)) (found_method env place on called (call_named env.machine on.meaning called.text) given)).broken ≡ []
          → T (cond v (plain unknown (on.broken ++ broken_in given)) (found_method env place on called (call_named env.machine on.meaning called.text) given)).meaning
      by true so clear = absurd (cc (sym so ∙ typed_sure env.trees env.machine on.meaning (inner (left_none on.broken (broken_in given) clear))))
      by false so clear = found (call_named env.machine on.meaning called.text) refl clear

  index_typed : (place : Span) (on : Typed) (key : Given) → (on.broken ≡ [] → T on.meaning) → (index_call env place on key).broken ≡ [] → T (index_call env place on key).meaning
  index_typed place on key inner none = by (is_told on.meaning) refl none
    where
      found : (o : Option Call) → call_named env.machine on.meaning (codes "[]") ≡ o → (found_index env place on o (key ∷ [])).broken ≡ [] → T (found_index env place on o (key ∷ [])).meaning
      found None is clear = absurd (told_among on.broken (broken_in (key ∷ [])) _ clear)
      found (Some c) is clear = call_named_typed on.meaning (codes "[]") c is

      by : (v : Bool) → is_told on.meaning ≡ v → (cond v (plain unknown (on.broken ++ key.typed.broken)) (found_index env place on (call_named env.machine on.meaning (codes "[]")) (key ∷ []))).broken ≡ []
          → T (cond v (plain unknown (on.broken ++ key.typed.broken)) (found_index env place on (call_named env.machine on.meaning (codes "[]")) (key ∷ []))).meaning
      by true so clear = absurd (cc (sym so ∙ typed_sure env.trees env.machine on.meaning (inner (left_none on.broken key.typed.broken clear))))
      by false so clear = found (call_named env.machine on.meaning (codes "[]")) refl clear

  plain_call_typed : (text : List ℕ) (c : Call) → plain_call env.trees text ≡ Some c → T (answer_of env.machine c.receiver c.answer)
  plain_call_typed text c is = by (call_on built.nothing text) refl is
    where
      permission : (o : Option Machine) → option_map permission_reading o ≡ Some c → T (answer_of env.machine c.receiver c.answer)
      permission None none = absurd (cc none)
      permission (Some n) some =
          let same : permission_reading n ≡ c = cc some in
          subst (λ (x : Call). T (answer_of env.machine x.receiver x.answer)) same (refl, tt, (kind.Enum 1 0, refl))

      by : (o : Option Call) → call_on built.nothing text ≡ o → option_or o (permission_named env.trees text) ≡ Some c → T (answer_of env.machine c.receiver c.answer)
      by None found some = permission (find (λ (n : Machine). bytes_eq (built.permission_call n.name.text) text) (machines_of env.trees)) some
      by (Some x) found some = let same : x ≡ c = cc some in found_call built.nothing text c (found ∙ ap Some same)

  answered_typed : (text : List ℕ) (t : KnownType) → type_in env.trees (within env.machine) text ≡ Some t → is_answer_type env.machine t ≡ true → T (answer_of_type env.machine (Some t))
  answered_typed text t is right = by (is_built_in Void (Some t)) right
    where
      by : (v : Bool) → (v || is_value env.machine t) ≡ true → T (cond v nothing_meaning (value_of_type env.machine (Some t)))
      by true all = tt
      by false valued = value_typed text t is valued

  declared_call_typed : (place : Span) (called : Name) (o : Option Declaration) → first_named called.text (machine_declarations env.machine) ≡ o → (given : List Given) → (declared_call env place called o given).broken ≡ [] → T (declared_call env place called o given).meaning
  declared_call_typed place called o first given none = by o first none
    where
      plain_one : (c : Option Call) → plain_call env.trees called.text ≡ c → (built_in_named env place called c given).broken ≡ [] → T (built_in_named env place called c given).meaning
      plain_one None is clear = absurd (cc clear)
      plain_one (Some c) is clear = plain_call_typed called.text c is

      by : (d : Option Declaration) → first_named called.text (machine_declarations env.machine) ≡ d → (declared_call env place called d given).broken ≡ [] → T (declared_call env place called d given).meaning
      by None found clear = plain_one (plain_call env.trees called.text) refl clear
      by (Some (function (Plain kind name formals attributes (Some body) span))) found clear =
          let there = there_found (is_named called.text) (machine_declarations env.machine) (function (Plain kind name formals attributes (Some body) span)) found in
          let known = type_known env.trees h.accepted (within env.machine) (machine_scope env.trees h.accepted k env.machine h.machine) (function (Plain kind name formals attributes (Some body) span)) there (use_of kind) (0, refl) refl in
          let all = unbroken env.trees h.accepted k env.machine h.machine (function (Plain kind name formals attributes (Some body) span)) there in
          let front = left_none (wrong_type_in env.trees env.machine (is_answer_type env.machine) kind ++ flat_map (wrong_formal env.trees env.machine) formals.items) (body_judged (function_environment env.trees env.machine kind formals.items) body) all in
          let right = right_type env.trees h.accepted k env.machine h.machine (is_answer_type env.machine) kind known.0 known.1
          (left_none (wrong_type_in env.trees env.machine (is_answer_type env.machine) kind) (flat_map (wrong_formal env.trees env.machine) formals.items) front) in
          subst (λ (x : Option KnownType). T (answer_of_type env.machine x)) (sym known.1) (answered_typed kind.text known.0 known.1 right)
      by (Some (function (Plain kind name formals attributes None span))) found clear = plain_one (plain_call env.trees called.text) refl clear
      by (Some (function (Skipped s))) found clear = absurd (cc clear)
      by (Some _) found clear = absurd (cc clear)

  call_typed : (place : Span) (called : Name) (given : List Given) → (named_call env place called given).broken ≡ [] → T (named_call env place called given).meaning
  call_typed place called given none = by (value_named env called.text) none
    where
      by : (o : Option Bound) → (call_unless env place called o given).broken ≡ [] → T (call_unless env place called o given).meaning
      by (Some b) clear = absurd (cc clear)
      by None clear = declared_call_typed place called (first_named called.text (machine_declarations env.machine)) refl given clear

  -- Trees.

  operands_typed_is : {n : _} (place : Span) (left : Typed) (row : Row_of-Operand n) → (left.broken ≡ [] → T left.meaning) → (operands_typed env place left row).broken ≡ [] → T (operands_typed env place left row).meaning
  operands_typed_is place left end_of-Operand inner none = inner none
  operands_typed_is place left (more_of-Operand operator e row) inner none =
      operands_typed_is place (joined env operator (given_at place left) (given_at (span_of e) (typed env e))) row (λ clear. operator_typed env.trees env.machine operator) none

  pub suffix_is : (place : Span) (left : Typed) (x : Suffix) → (left.broken ≡ [] → T left.meaning) → (suffix_typed env place left x).broken ≡ [] → T (suffix_typed env place left x).meaning
  suffix_is place left (Field n span) inner none = field_is left.broken n left.meaning inner none
  suffix_is place left (Method' called shape row arguments span) inner none = method_typed place left called (arguments_typed env row) inner none
  suffix_is place left (Index key span) inner none = index_typed place left (given_at (span_of key) (typed env key)) inner none

  suffixes_typed_is : {n : _} (place : Span) (left : Typed) (row : Row_of-Suffix n) → (left.broken ≡ [] → T left.meaning) → (suffixes_typed env place left row).broken ≡ [] → T (suffixes_typed env place left row).meaning
  suffixes_typed_is place left end_of-Suffix inner none = inner none
  suffixes_typed_is place left (more_of-Suffix first row) inner none =
      suffixes_typed_is place (suffix_typed env place left first) row (λ clear. suffix_is place left first inner clear) none

  pub typed_is : (e : Expr) → (typed env e).broken ≡ [] → T (typed env e).meaning
  typed_is (Operation' first n others span) none = operands_typed_is (span_of first) (typed env first) others (λ clear. typed_is first clear) none
  typed_is (Not' operand span) none = bool_typed env.trees env.machine
  typed_is (Negate' operand span) none = int_typed env.trees env.machine
  typed_is (Postfix' inner n suffixes span) none = suffixes_typed_is span (typed env inner) suffixes (λ clear. typed_is inner clear) none
  typed_is (Number n span) none = int_typed env.trees env.machine
  typed_is (True span) none = bool_typed env.trees env.machine
  typed_is (False span) none = bool_typed env.trees env.machine
  typed_is (Nothing span) none = tt
  typed_is (Variable n) none = variable_is n none
  typed_is (Member owner called span) none = member_typed owner called none
  typed_is (Call' called shape row arguments span) none = call_typed span called (arguments_typed env row) none
  typed_is (New made span) none = absurd (cc none)
  typed_is (IsValid' inner span) none = bool_typed env.trees env.machine
  typed_is (IsInvalid' inner span) none = bool_typed env.trees env.machine
  typed_is (Cast' target mode inner span) none = cast_typed target (given_at (span_of inner) (typed env inner)) (λ clear. typed_is inner clear) none
  typed_is (Group' inner span) none = typed_is inner none
