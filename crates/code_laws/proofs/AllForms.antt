-- All forms of expressions, but the calls from states to permissions, which are taken as they are.
use Rattle.std.proofs.Common.{◌≡◌, ◌∙◌, ◌++◌, ◌||◌, ℕ, Bool, true, false, not, cond, codes, Option, None, Some, List, [], ◌∷◌, length, map, refl, sym, ap, subst, option_and_then}
use Rattle.std.specs.Option.{option_or}
use Rattle.slicc_ast.specs.declared.tree.declaration.Function.TheVariants.{Plain, Skipped}
use Rattle.slicc_ast.specs.declared.tree.expression.Expr.{Expr, Row_of-Expr}
use Rattle.slicc_ast.specs.declared.tree.name.Name.{Name}
use Rattle.slicc_ast.specs.declared.tree.span.Span.{Span}
use Rattle.ruby_symbols.specs.declared.machine.MachineSymbols.{MachineSymbols}
use Rattle.ruby_symbols.specs.Prelude.{function_named}
use Rattle.slicc_plan.specs.declared.built_in.BuiltInType.TheVariants.{Cache, DataBlock, Directory, NetDest, TbeTable}
use Rattle.slicc_plan.specs.BuiltInCalls.{cache, directory, tbe_table, entry, nothing, no_value, answered, line, Answer, Call, by_address, calls, reading}
use Rattle.slicc_plan.specs.CallTypes.{Given, Typed, answer_of, built_in_call, built_in_named, call_named, call_on, call_unless, declared_call, entry_structures, formal_wanted, found_index, index_call as index_typed, named_call as call_typed, permission_named, plain, plain_call as plain_typed, wrong_arguments, wrong_count}
use Rattle.slicc_plan.specs.Declarations.{Declaration, function, first_named, machine_declarations}
use Rattle.slicc_plan.specs.Environment.{BodySort, Bound, Environment, value_named}
use Rattle.slicc_plan.specs.ExpressionTypes.{arguments_typed, given_at, span_of, typed}
use Rattle.slicc_plan.specs.Meanings.{Meaning, value, no_line, bare_line, new_line, incoming, outgoing, table, in_port, out_port, nothing as nothing_meaning, unknown, is_line_of}
use Rattle.slicc_plan.specs.Types.{built_in, enumerated, structured}
use Rattle.slicc_plan.proofs.Room.{left_none, right_none}
use Rattle.slicc_plan.proofs.There.{There}
use Rattle.rules_symbols.specs.CallRows.{is_other_work}
use Rattle.rules_symbols.specs.TypedMeaning.{IsTyped, IsTypedIn}
use Rattle.rules_symbols.proofs.ExpressionForms.{index_is}
use Rattle.rules_symbols.proofs.FunctionKinds.{prototype_function, undeclared_function}
use Rattle.rules_symbols.proofs.Lists.{every, every_there}
use Rattle.rules_symbols.proofs.StatementForms.{IsCalled, called_is}
use Rattle.rules_symbols.proofs.TypedParts.{typed_sure}
use Rattle.acts.specs.Prelude.{◌>>=◌}
use Rattle.body_meaning.specs.declared.frame.Frame.{Frame}
use Rattle.body_meaning.specs.Prelude.{named_call as call_done, values}
use Rattle.code_meaning.specs.Prelude.{Held}
use Rattle.body_code.specs.declared.left.Left.{Left}
use Rattle.body_code.specs.declared.left.NameAt.{NameAt}
use Rattle.body_code.specs.Prelude.{after, all_arguments, formals_of, named_call as call_code}
use Rattle.code_laws.specs.Calling.{CallsDo}
use Rattle.code_laws.specs.Holding.{Holds, IsLeft, is_used}
use Rattle.code_laws.specs.Setting.{IsSet, Setting, env_of}
use Rattle.code_laws.specs.Whole.{AreWhole, IsWhole, MayCall}
use Rattle.code_laws.proofs.BuiltInForms.{free_good}
use Rattle.code_laws.proofs.CallTables.{call_found}
use Rattle.code_laws.proofs.Expressions.{expression_good}
use Rattle.code_laws.proofs.Forms.{AllGood, Forms, Good}
use Rattle.code_laws.proofs.FunctionForms.{function_good}
use Rattle.code_laws.proofs.Good.{IsGood}
use Rattle.code_laws.proofs.IndexForms.{Indexed, index_called}
use Rattle.code_laws.proofs.MemberForms.{member_good}
use Rattle.code_laws.proofs.MessageForms.{field_good}
use Rattle.code_laws.proofs.Methods.{method_good}
use Rattle.code_laws.proofs.OutsideNames.{outside_good}
use Rattle.code_laws.proofs.Receivers.{cache_sorted, directory_sorted, plain_of, tbe_sorted}
use Rattle.code_laws.proofs.TableFacts.{answers_no_line, on_table, takes_no_new, used_answer, valued}
use Rattle.code_laws.proofs.Wanted.{cast_good}

abbrev is_silent : Answer → Bool
is_silent no_value = true
is_silent _ = false

all_other : every (λ (c : Call). not (is_other_work c) || is_silent c.answer) calls ≡ true
all_other = refl

none_some : (c : Call) → None ≡ Some c → ⊥
none_some c e = cc e

module _ (z : Setting) (is : IsSet z) (calling : CallsDo z) (body : BodySort) (answer : Meaning) (bound : List Bound) (names : List NameAt) (frame : Frame) (h : Held)
    (typed_in : IsTypedIn z.s.number (env_of z body answer bound)) (holds : Holds z bound names frame h) where
  abbrev E : Environment
  E = env_of z body answer bound

  -- Indexes.

  module _ (place : Span) (on : Typed) (l : Left) (key : Expr) (good : Good z body answer bound names frame h key) (c : Call) (called : IsCalled E place on c (given_at (span_of key) (typed E key) ∷ [])) where
    abbrev Goal : Type 0
    Goal = Indexed z is body answer bound names frame h typed_in l (answer_of z.m c.receiver c.answer) key

    entry_or : (b : Bool) → option_and_then (λ receiver. call_on receiver (codes "[]")) (cond b (Some entry) None) ≡ Some c → Goal
    entry_or true e = absurd (none_some c e)
    entry_or false e = absurd (none_some c e)

    index_by_meaning : (meaning : Meaning) → IsLeft z meaning l → call_named z.m meaning (codes "[]") ≡ Some c → Goal
    index_by_meaning (table Cache) at e =
        let same : reading cache (codes "[]") by_address line ≡ c = cc e in
        let found = call_found cache (codes "[]") c e in
        let A : Call → Type 0 = λ x. Indexed z is body answer bound names frame h typed_in l (answer_of z.m x.receiver x.answer) key in
        let K : Call → Type 0 = λ x. IsCalled E place on x (given_at (span_of key) (typed E key) ∷ []) in
        let T : Call → Type 0 = λ x. There calls x in
        subst A same
        (index_called z is body answer bound names frame h typed_in place on at.number at.symbol cache l key at.left_is (cache_sorted z is h at.number at.symbol at.symbol.sort at.there refl at.sort_is) (subst T (sym same) found.there) refl refl good (subst K (sym same) called))
    index_by_meaning (table Directory) at e =
        let same : reading directory (codes "[]") by_address line ≡ c = cc e in
        let found = call_found directory (codes "[]") c e in
        let A : Call → Type 0 = λ x. Indexed z is body answer bound names frame h typed_in l (answer_of z.m x.receiver x.answer) key in
        let K : Call → Type 0 = λ x. IsCalled E place on x (given_at (span_of key) (typed E key) ∷ []) in
        let T : Call → Type 0 = λ x. There calls x in
        subst A same
        (index_called z is body answer bound names frame h typed_in place on at.number at.symbol directory l key at.left_is (directory_sorted z is h at.number at.symbol at.symbol.sort at.there refl at.sort_is) (subst T (sym same) found.there) refl refl good (subst K (sym same) called))
    index_by_meaning (table TbeTable) at e =
        let same : reading tbe_table (codes "[]") by_address line ≡ c = cc e in
        let found = call_found tbe_table (codes "[]") c e in
        let A : Call → Type 0 = λ x. Indexed z is body answer bound names frame h typed_in l (answer_of z.m x.receiver x.answer) key in
        let K : Call → Type 0 = λ x. IsCalled E place on x (given_at (span_of key) (typed E key) ∷ []) in
        let T : Call → Type 0 = λ x. There calls x in
        subst A same
        (index_called z is body answer bound names frame h typed_in place on at.number at.symbol tbe_table l key at.left_is (tbe_sorted z is h at.number at.symbol at.symbol.sort at.there refl at.sort_is) (subst T (sym same) found.there) refl refl good (subst K (sym same) called))
    index_by_meaning (table b) at e = absurd (none_some c e)
    index_by_meaning (value (built_in NetDest)) at e = absurd (none_some c e)
    index_by_meaning (value (built_in DataBlock)) at e = absurd (none_some c e)
    index_by_meaning (value (built_in b)) at e = absurd (none_some c e)
    index_by_meaning (value (enumerated scope name members)) at e = entry_or (is_line_of z.m (entry_structures z.m) (enumerated scope name members)) e
    index_by_meaning (value (structured scope s)) at e = entry_or (is_line_of z.m (entry_structures z.m) (structured scope s)) e
    index_by_meaning no_line at e = absurd (none_some c e)
    index_by_meaning bare_line at e = absurd (none_some c e)
    index_by_meaning (new_line made) at e = absurd at
    index_by_meaning (incoming t) at e = absurd (none_some c e)
    index_by_meaning (outgoing t) at e = absurd (none_some c e)
    index_by_meaning (in_port t) at e = absurd (none_some c e)
    index_by_meaning (out_port t) at e = absurd (none_some c e)
    index_by_meaning nothing_meaning at e = absurd (none_some c e)
    index_by_meaning unknown at e = absurd at

  index_good : (place : Span) (on : Typed) (l : Left) (key : Expr) → IsTyped z.trees z.m on.meaning → IsLeft z on.meaning l → IsWhole z key → Good z body answer bound names frame h key
      → (index_typed E place on (given_at (span_of key) (typed E key))).broken ≡ [] → Indexed z is body answer bound names frame h typed_in l (index_typed E place on (given_at (span_of key) (typed E key))).meaning key
  index_good place on l key known typed_on whole good none =
      let g : Given = given_at (span_of key) (typed E key) in
      let sure = typed_sure z.trees z.m on.meaning known in
      let c = index_is E place on (given_at (span_of key) (typed E key)) sure none in
      let meaning : (index_typed E place on (given_at (span_of key) (typed E key))).meaning ≡ answer_of z.m c.call.receiver c.call.answer =
      ap (λ b. (cond b (plain unknown (on.broken ++ (typed E key).broken)) (found_index E place on (call_named z.m on.meaning (codes "[]")) (given_at (span_of key) (typed E key) ∷ []))).meaning) sure
      ∙ ap (λ o. (found_index E place on o (given_at (span_of key) (typed E key) ∷ [])).meaning) c.named in
      subst (λ m. Indexed z is body answer bound names frame h typed_in l m key) (sym meaning) (index_by_meaning place on l key good c.call c.is on.meaning typed_on c.named)

  -- Calls without a receiver.

  abbrev CallGood : {m : _} → Meaning → List ℕ → Row_of-Expr m → Type 0
  CallGood meaning text row = IsGood z h meaning (after (all_arguments z.s z.numbers names (formals_of z.s text) row) (call_code z.s z.numbers text)) (values z.s z.functions frame [] row >>= call_done z.s z.functions text)

  other_work : (c : Call) → There calls c → is_used (answer_of z.m c.receiver c.answer) ≡ true → is_other_work c ≡ false
  other_work c there used = by (is_other_work c) c.answer (every_there (λ (c : Call). not (is_other_work c) || is_silent c.answer) calls c all_other there) used
    where
      by : (b : Bool) (a : Answer) → (not b || is_silent a) ≡ true → is_used (answer_of z.m c.receiver a) ≡ true → b ≡ false
      by false a e used = refl
      by true no_value e used = absurd (cc used)
      by true (answered x) e used = absurd (cc e)
      by true line e used = absurd (cc e)

  -- what is proved of the calls from states to permissions
  pub record PermissionsGood : Type 0 where
    pub each : {m : _} (span : Span) (text : List ℕ) (row : Row_of-Expr m) (c : Call) → call_on nothing text ≡ None → permission_named z.trees text ≡ Some c → IsCalled E span (plain nothing_meaning []) c (arguments_typed E row)
        → AreWhole z row → AllGood z body answer bound names frame h row → function_named z.s.machine text ≡ None → CallGood (answer_of z.m c.receiver c.answer) text row

  module _ (permissions : PermissionsGood) where
    free_by : {m : _} (span : Span) (called : Name) (row : Row_of-Expr m) → AreWhole z row → AllGood z body answer bound names frame h row → function_named z.s.machine called.text ≡ None → (c : Call) → plain_typed z.trees called.text ≡ Some c
        → (built_in_call E span (plain nothing_meaning []) c (arguments_typed E row)).broken ≡ [] → is_used (answer_of z.m c.receiver c.answer) ≡ true → CallGood (answer_of z.m c.receiver c.answer) called.text row
    free_by span called row whole good none c e clear used = by (call_on nothing called.text) refl e
      where
        called_so : IsCalled E span (plain nothing_meaning []) c (arguments_typed E row)
        called_so = called_is E span (plain nothing_meaning []) c (arguments_typed E row) clear

        by : (o : Option Call) → call_on nothing called.text ≡ o → option_or o (permission_named z.trees called.text) ≡ Some c → CallGood (answer_of z.m c.receiver c.answer) called.text row
        by None unlisted e = permissions.each span called.text row c unlisted e called_so whole good none
        by (Some x) some e =
            let same : x ≡ c = cc e in
            let found = call_found nothing called.text c (some ∙ ap Some same) in
            let off : on_table c.receiver ≡ false = ap on_table found.receiver in
            free_good z is calling body answer bound names frame h typed_in span (plain nothing_meaning []) called.text row c found (other_work c found.there used) (takes_no_new c found.there off)
            (plain_of z is h c c.answer (used_answer z is c c.answer used) (valued z is c found.there) (answers_no_line c found.there off) calling body answer bound names frame typed_in) called_so good none

    built_in_by : {m : _} (span : Span) (called : Name) (row : Row_of-Expr m) → AreWhole z row → AllGood z body answer bound names frame h row → function_named z.s.machine called.text ≡ None → (o : Option Call) → plain_typed z.trees called.text ≡ o
        → (built_in_named E span called o (arguments_typed E row)).broken ≡ [] → is_used (built_in_named E span called o (arguments_typed E row)).meaning ≡ true → CallGood (built_in_named E span called o (arguments_typed E row)).meaning called.text row
    built_in_by span called row whole good none None e clear used = absurd (cc clear)
    built_in_by span called row whole good none (Some c) e clear used = free_by span called row whole good none c e clear used

    abbrev Typed_call : {m : _} → Span → Name → Option Declaration → Row_of-Expr m → Typed
    Typed_call span called d row = declared_call E span called d (arguments_typed E row)

    declared_by : {m : _} (span : Span) (called : Name) (row : Row_of-Expr m) → MayCall z called.text → AreWhole z row → AllGood z body answer bound names frame h row → (d : Option Declaration) → first_named called.text (machine_declarations z.m) ≡ d
        → (Typed_call span called d row).broken ≡ [] → is_used (Typed_call span called d row).meaning ≡ true → CallGood (Typed_call span called d row).meaning called.text row
    declared_by span called row may whole good None found clear used =
        built_in_by span called row whole good (subst (λ (m : MachineSymbols). function_named m called.text ≡ None) (sym is.machine) (undeclared_function z.trees is.accepted z.s.number z.m is.machine_there called.text found)) (plain_typed z.trees called.text) refl clear used
    declared_by span called row may whole good (Some (function (Plain kind name formals attributes (Some block) at))) found clear used =
        function_good z is calling body answer bound names frame h typed_in holds span called.text row may whole good
        (record {
          kind = kind;
          name = name;
          formals = formals;
          attributes = attributes;
          body = block;
          span = at;
          found = found;
          counted = left_none (wrong_count span (length formals.items) 0 (arguments_typed E row)) (wrong_arguments E (map (formal_wanted E) formals.items) (arguments_typed E row)) clear;
          arguments = right_none (wrong_count span (length formals.items) 0 (arguments_typed E row)) (wrong_arguments E (map (formal_wanted E) formals.items) (arguments_typed E row)) clear;
        })
    declared_by span called row may whole good (Some (function (Plain kind name formals attributes None at))) found clear used =
        built_in_by span called row whole good
        (subst (λ (m : MachineSymbols). function_named m called.text ≡ None) (sym is.machine) (prototype_function z.trees is.accepted z.s.number z.m is.machine_there kind name formals attributes at called.text found)) (plain_typed z.trees called.text) refl clear used
    declared_by span called row may whole good (Some (function (Skipped s))) found clear used = absurd (cc clear)
    declared_by span called row may whole good (Some _) found clear used = absurd (cc clear)

    call_good : {m : _} (span : Span) (called : Name) (row : Row_of-Expr m) → MayCall z called.text → AreWhole z row → AllGood z body answer bound names frame h row → (call_typed E span called (arguments_typed E row)).broken ≡ []
        → is_used (call_typed E span called (arguments_typed E row)).meaning ≡ true → CallGood (call_typed E span called (arguments_typed E row)).meaning called.text row
    call_good span called row may whole good clear used = by (value_named E called.text) clear used
      where
        by : (o : Option Bound) → (call_unless E span called o (arguments_typed E row)).broken ≡ [] → is_used (call_unless E span called o (arguments_typed E row)).meaning ≡ true → CallGood (call_unless E span called o (arguments_typed E row)).meaning called.text row
        by (Some b) clear used = absurd (cc clear)
        by None clear used = declared_by span called row may whole good (first_named called.text (machine_declarations z.m)) refl clear used

    forms_good : Forms z body answer bound names frame h
    forms_good = record {
      outside = λ text b e used. outside_good z is h text b e used;
      member = λ owner called none. member_good z is body answer bound h owner called none;
      cast = λ target inner whole good none. cast_good z is body answer bound names frame h typed_in holds target inner whole good none;
      field = λ on l name known typed none. field_good z is h body answer bound on l name known typed none;
      call = λ span called row may whole good none used. call_good span called row may whole good none used;
      method = λ place on l called row word known typed whole good none used. method_good z is calling body answer bound names frame h typed_in holds place on l called row word known typed whole good none used;
      indexed = λ place on l key known typed whole good none. index_good place on l key known typed whole good none;
    }

    -- of each expression
    pub each_expression_good : (e : Expr) → IsWhole z e → Good z body answer bound names frame h e
    each_expression_good e whole = expression_good z body answer bound names frame h typed_in holds forms_good e whole
