use Rattle.std.proofs.Common.{rules, ◌≡◌, ◌∙◌, ap, sym, refl}
use Rattle.std.proofs.lemmas.Result.{IfOk-weaker}
use Rattle.slicc_ast.specs.declared.tree.expression.Expr.TheViews.{the_lemmas}
use Rattle.slicc_ast.specs.declared.tree.expression.Operand.{Operand}
use Rattle.slicc_plan.specs.Prelude.{index_call, method_call, named_call, type_named, cast_to, from_operand, given_at, joined, span_of, suffix_typed, typed, any_line, of_built_in}
use Rattle.slicc_plan.specs.declared.built_in.BuiltInType.TheVariants.{Int, Bool}
use Rattle.body_types.specs.Prelude.{environment_of, all_given_of, found_of, given_of, typed_of, wanted_of}
use Rattle.expression_types.specs.Prelude.{all_known, all_arguments, all_operands, all_suffixes}
use Rattle.expression_types.proofs.Boxes.{typed_of_Call, typed_of_Cast, typed_of_Group, typed_of_IsInvalid, typed_of_IsValid, typed_of_Negate, typed_of_Not, typed_of_Operation, typed_of_Postfix}
use Rattle.expression_types.proofs.Rows.{arguments_of_row}
use Rattle.expression_types.proofs.Steps.{arguments_step, at_part, call_found, cast_found, from_same, index_found, method_found, operand_found, operands_step, operation_found, postfix_found, suffixes_step}
use Rattle.expression_types.proofs.expression.+expression_type.Goals as goal

pub typed-returns-in_ok-left-in-Operation : goal.typed-returns-in_ok-left-in-Operation
typed-returns-in_ok-left-in-Operation t c =
    let env = environment_of c.args.env in
    let same : typed env c.args.e.now ≡ all_operands env (span_of c.in-Operation.first) (typed env c.in-Operation.first) c.in-Operation.others =
    ap (typed env) c.in-Operation.is ∙ typed_of_Operation env c.in-Operation.first c.in-Operation.others c.in-Operation.span in
    IfOk-weaker c.operands.result _ _
    (λ r told. operation_found env c.args.e.now c.in-Operation.first c.get-first.result.now (span_of c.get-first.result.now) (typed_of c.in_ok-left-in-Operation.left) (typed_of r) c.deref.result.now c.in-Operation.others
    same c.get-first.ensures refl c.in_ok-left-in-Operation.ensures c.deref.ensures told)
    c.operands.ensures

pub typed-returns-in-Not : goal.typed-returns-in-Not
typed-returns-in-Not t c =
    let env = environment_of c.args.env in
    let v = c.in-Not.operand in
    let w = c.get.result.now in
    let same : typed env c.args.e.now ≡ from_operand env (of_built_in Bool) Bool (given_at (span_of v) (typed env v)) =
    ap (typed env) c.in-Not.is ∙ typed_of_Not env v c.in-Not.field-1 in
    IfOk-weaker c.alone.result _ _
    (λ r told. at_part env (λ x. from_operand env (of_built_in Bool) Bool (given_at (span_of x) (typed env x))) c.args.e.now v w (typed_of r) same c.get.ensures
    (told ∙ ap (λ o. found_of (from_operand env o Bool (given_at (span_of w) (typed env w)))) c.of_built_in.ensures))
    c.alone.ensures

pub typed-returns-in-Negate : goal.typed-returns-in-Negate
typed-returns-in-Negate t c =
    let env = environment_of c.args.env in
    let v = c.in-Negate.operand in
    let w = c.get-in-Negate.result.now in
    let same : typed env c.args.e.now ≡ from_operand env (of_built_in Int) Int (given_at (span_of v) (typed env v)) =
    ap (typed env) c.in-Negate.is ∙ typed_of_Negate env v c.in-Negate.field-1 in
    IfOk-weaker c.alone-in-Negate.result _ _
    (λ r told. at_part env (λ x. from_operand env (of_built_in Int) Int (given_at (span_of x) (typed env x))) c.args.e.now v w (typed_of r) same c.get-in-Negate.ensures
    (told ∙ ap (λ o. found_of (from_operand env o Int (given_at (span_of w) (typed env w)))) c.of_built_in-in-Negate.ensures))
    c.alone-in-Negate.ensures

pub typed-returns-in_ok-left-in-Postfix : goal.typed-returns-in_ok-left-in-Postfix
typed-returns-in_ok-left-in-Postfix t c =
    let env = environment_of c.args.env in
    let same : typed env c.args.e.now ≡ all_suffixes env c.in-Postfix.span (typed env c.in-Postfix.value) c.in-Postfix.suffixes =
    ap (typed env) c.in-Postfix.is ∙ typed_of_Postfix env c.in-Postfix.value c.in-Postfix.suffixes c.in-Postfix.span in
    IfOk-weaker c.with_suffixes.result _ _
    (λ r told. postfix_found env c.args.e.now c.in-Postfix.value c.get-in-Postfix.result.now c.in-Postfix.span (typed_of c.in_ok-left-in-Postfix.left) (typed_of r) c.deref-in-Postfix.result.now c.in-Postfix.suffixes
    same c.get-in-Postfix.ensures c.in_ok-left-in-Postfix.ensures c.deref-in-Postfix.ensures told)
    c.with_suffixes.ensures

pub typed-returns-in-Call : goal.typed-returns-in-Call
typed-returns-in-Call t c =
    let env = environment_of c.args.env in
    let same : typed env c.args.e.now ≡ named_call env c.in-Call.span c.in-Call.name (all_arguments env c.in-Call.arguments.items) =
    ap (typed env) c.in-Call.is ∙ typed_of_Call env c.in-Call.name c.in-Call.arguments c.in-Call.span in
    IfOk-weaker c.called.result _ _
    (λ r told. from_same (typed env c.args.e.now) (named_call env c.in-Call.span c.in-Call.name (all_arguments env c.in-Call.arguments.items)) (typed_of r) same
    (told ∙ ap (λ es. found_of (named_call env c.in-Call.span c.in-Call.name (all_arguments env es))) c.deref-in-Call.ensures))
    c.called.ensures

pub typed-returns-in-Number : goal.typed-returns-in-Number
typed-returns-in-Number t c = ap found_of c.value_of.ensures ∙ ap (λ e. found_of (typed (environment_of c.args.env) e)) (sym c.in-Number.is)

pub typed-returns-in-Nothing : goal.typed-returns-in-Nothing
typed-returns-in-Nothing t c = ap found_of c.plain.ensures ∙ ap (λ e. found_of (typed (environment_of c.args.env) e)) (sym c.in-Nothing.is)

pub typed-returns-in-Variable : goal.typed-returns-in-Variable
typed-returns-in-Variable t c = ap found_of c.variable_type.ensures ∙ ap (λ e. found_of (typed (environment_of c.args.env) e)) (sym c.in-Variable.is)

pub typed-returns-in-Member : goal.typed-returns-in-Member
typed-returns-in-Member t c = c.member_type.ensures ∙ ap (λ e. found_of (typed (environment_of c.args.env) e)) (sym c.in-Member.is)

pub typed-returns-in-New : goal.typed-returns-in-New
typed-returns-in-New t c = ap found_of c.new_line.ensures ∙ ap (λ e. found_of (typed (environment_of c.args.env) e)) (sym c.in-New.is)

pub typed-returns-in-IsValid : goal.typed-returns-in-IsValid
typed-returns-in-IsValid t c =
    let env = environment_of c.args.env in
    let v = c.in-IsValid.operand in
    let same : typed env c.args.e.now ≡ from_operand env any_line Bool (given_at (span_of v) (typed env v)) =
    search (rules, the_lemmas, typed_of_IsValid, typed_of_IsInvalid) in
    IfOk-weaker c.alone-in-IsValid.result _ _
    (λ r told. at_part env (λ x. from_operand env any_line Bool (given_at (span_of x) (typed env x))) c.args.e.now v c.get-in-IsValid.result.now (typed_of r) same c.get-in-IsValid.ensures told)
    c.alone-in-IsValid.ensures

pub typed-returns-in-Cast : goal.typed-returns-in-Cast
typed-returns-in-Cast t c =
    let env = environment_of c.args.env in
    let target = c.in-Cast.target in
    let v = c.in-Cast.value in
    let same : typed env c.args.e.now ≡ cast_to env target (given_at (span_of v) (typed env v)) (type_named env target.text) =
    ap (typed env) c.in-Cast.is ∙ typed_of_Cast env target c.in-Cast.mode v c.in-Cast.span in
    IfOk-weaker c.cast.result _ _
    (λ r told. at_part env (λ x. cast_to env target (given_at (span_of x) (typed env x)) (type_named env target.text)) c.args.e.now v c.get-in-Cast.result.now (typed_of r) same c.get-in-Cast.ensures told)
    c.cast.ensures

pub typed-returns-in-Group : goal.typed-returns-in-Group
typed-returns-in-Group t c =
    let env = environment_of c.args.env in
    let v = c.in-Group.inner in
    let same : typed env c.args.e.now ≡ typed env v = ap (typed env) c.in-Group.is ∙ typed_of_Group env v c.in-Group.field-1 in
    IfOk-weaker c.typed-in-Group.result _ _
    (λ r told. at_part env (typed env) c.args.e.now v c.get-in-Group.result.now (typed_of r) same c.get-in-Group.ensures told)
    c.typed-in-Group.ensures

pub alone-returns : goal.alone-returns
alone-returns t c =
    operand_found (environment_of c.args.env) (wanted_of c.args.wanted) c.args.answered c.args.operand.now (given_of c.with_place.result) (typed_of c.in_ok-t.t) (typed_of c.from_operand.result)
    c.in_ok-t.ensures c.with_place.ensures c.from_operand.ensures

pub cast-returns : goal.cast-returns
cast-returns t c =
    cast_found (environment_of c.args.env) c.args.target.now c.args.value.now (given_of c.with_place.result) (typed_of c.in_ok-t.t) (typed_of c.cast_to.result)
    c.in_ok-t.ensures c.with_place.ensures c.cast_to.ensures

pub called-returns : goal.called-returns
called-returns t c =
    let env = environment_of c.args.env in
    let all = all_arguments env c.args.arguments.now in
    let is_given : all_known (all_given_of c.deref.result.now) ≡ all_known all =
    ap (λ gs. all_known (all_given_of gs)) c.deref.ensures ∙ c.in_ok-given.ensures in
    IfOk-weaker c.named_call.result _ _
    (λ r told. call_found env c.args.at c.args.name.now (all_given_of c.deref.result.now) all (typed_of r) is_given told)
    c.named_call.ensures

pub method-returns : goal.method-returns
method-returns t c =
    let env = environment_of c.args.env in
    let all = all_arguments env c.args.arguments.now in
    let is_given : all_known (all_given_of c.deref.result.now) ≡ all_known all =
    ap (λ gs. all_known (all_given_of gs)) c.deref.ensures ∙ c.in_ok-given.ensures in
    IfOk-weaker c.method_call.result _ _
    (λ r told. method_found env c.args.at (typed_of c.args.left) c.args.name.now (all_given_of c.deref.result.now) all (typed_of r) is_given told)
    c.method_call.ensures

pub operands-loop-o-preserved : goal.operands-loop-o-preserved
operands-loop-o-preserved t c =
    let env = environment_of c.args.env in
    let at = span_of c.args.first.now in
    let left = typed_of c.loop-o.left in
    let right = typed_of c.in_ok-right.right in
    let o = c.o-item.result in
    operands_step env at c.args.others.now c.loop-o.o-index o left right (typed_of c.joined-left.result) _ c.loop-o-test.true
    (c.in_ok-right.ensures ∙ ap (λ (x : Operand). found_of (typed env x.value)) c.o-item.is)
    (c.joined-left.ensures
    ∙ ap (λ g. found_of (joined env o.operator g (given_of c.with_place-in-loop-o.result))) c.with_place.ensures
    ∙ ap (λ g. found_of (joined env o.operator (given_at at left) g)) c.with_place-in-loop-o.ensures
    ∙ ap (λ (x : Operand). found_of (joined env x.operator (given_at at left) (given_at (span_of x.value) right))) c.o-item.is)
    c.loop-o.invariant

pub suffixed-returns-in-Field : goal.suffixed-returns-in-Field
suffixed-returns-in-Field t c =
    c.field_of.ensures ∙ ap (λ s. found_of (suffix_typed (environment_of c.args.env) c.args.at (typed_of c.args.left) s)) (sym c.in-Field.is)

pub suffixed-returns-in-Method : goal.suffixed-returns-in-Method
suffixed-returns-in-Method t c =
    let env = environment_of c.args.env in
    let left = typed_of c.args.left in
    let same : suffix_typed env c.args.at left c.args.s.now ≡ method_call env c.args.at left c.in-Method.name (all_arguments env c.in-Method.arguments.items) =
    search (rules, the_lemmas, arguments_of_row env) in
    IfOk-weaker c.method.result _ _
    (λ r told. from_same (suffix_typed env c.args.at left c.args.s.now) (method_call env c.args.at left c.in-Method.name (all_arguments env c.in-Method.arguments.items)) (typed_of r) same
    (told ∙ ap (λ es. found_of (method_call env c.args.at left c.in-Method.name (all_arguments env es))) c.deref.ensures))
    c.method.ensures

pub indexed-returns : goal.indexed-returns
indexed-returns t c =
    let env = environment_of c.args.env in
    IfOk-weaker c.index_call.result _ _
    (λ r told. index_found env c.args.at (typed_of c.args.left) c.args.key.now (given_of c.with_place.result) (typed_of c.in_ok-t.t) (typed_of r) c.in_ok-t.ensures c.with_place.ensures told)
    c.index_call.ensures

pub suffixed-returns-in-Index : goal.suffixed-returns-in-Index
suffixed-returns-in-Index t c =
    let env = environment_of c.args.env in
    let left = typed_of c.args.left in
    let v = c.in-Index.key in
    let same : suffix_typed env c.args.at left c.args.s.now ≡ index_call env c.args.at left (given_at (span_of v) (typed env v)) =
    search (rules, the_lemmas) in
    IfOk-weaker c.indexed.result _ _
    (λ r told. from_same (suffix_typed env c.args.at left c.args.s.now) (index_call env c.args.at left (given_at (span_of v) (typed env v))) (typed_of r) same told)
    c.indexed.ensures

pub with_suffixes-loop-s-preserved : goal.with_suffixes-loop-s-preserved
with_suffixes-loop-s-preserved t c =
    let env = environment_of c.args.env in
    suffixes_step env c.args.at c.args.suffixes.now c.loop-s.s-index c.s-item.result (typed_of c.loop-s.left) (typed_of c.in_ok-left.left) _ c.loop-s-test.true
    (c.in_ok-left.ensures ∙ ap (λ s. found_of (suffix_typed env c.args.at (typed_of c.loop-s.left) s)) c.s-item.is)
    c.loop-s.invariant

pub all_given-loop-e-preserved : goal.all_given-loop-e-preserved
all_given-loop-e-preserved t c =
    arguments_step (environment_of c.args.env) c.args.arguments.now c.loop-e.e-index c.e-item.result _ _ c.with_place.result (typed_of c.in_ok-t.t) c.loop-e-test.true
    c.in_ok-push.ensures.ok
    (c.with_place.ensures ∙ ap (λ x. given_at (span_of x) (typed_of c.in_ok-t.t)) c.e-item.is)
    (c.in_ok-t.ensures ∙ ap (λ x. found_of (typed (environment_of c.args.env) x)) c.e-item.is)
    c.loop-e.invariant
