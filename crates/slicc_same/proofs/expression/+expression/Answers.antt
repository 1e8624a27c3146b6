use Rattle.std.proofs.Common.{◌≡◌, ◌==◌, ◌&&◌, true, false, length, ◌∙◌, sym}
use Rattle.std.specs.Str.{bytes_eq}
use Rattle.slicc_same.specs.Prelude.{alike_expr, alike_operand, alike_suffix, same_parts, same_shape}
use Rattle.slicc_same.proofs.Bools.{and_true, and_false, both_asked, first_asked, listed}
use Rattle.slicc_same.proofs.ExpressionForms.{expr_is}
use Rattle.slicc_same.proofs.ExpressionLists.{args_alike}
use Rattle.slicc_ast.specs.Expressions.{suffix}
use Rattle.slicc_ast.specs.Prelude.{expr, mode_parts, none}
use Rattle.slicc_same.proofs.Turns.{left_ends, next_turn, right_ends, unlike_turn}
use Rattle.slicc_same.proofs.AlikeForms.{same_at, known_first, alike_Not, alike_Negate, alike_IsValid, alike_IsInvalid, alike_Group, alike_Operation, alike_Postfix, alike_Operation_Postfix, alike_Postfix_Operation, alike_Cast, known_second, alike_Call, alike_Member, alike_New, alike_Field, alike_Method, unlike, unlike_Not, unlike_Negate, unlike_Number, unlike_True, unlike_False, unlike_Nothing, unlike_Variable, unlike_Member, unlike_New, unlike_IsValid, unlike_IsInvalid, unlike_Cast, unlike_Group, unlike_Operation, unlike_Postfix, unlike_Call}
use Rattle.slicc_same.proofs.expression.+expression.Goals.{same_expr-then-is_empty, same_expr-else-is_empty, same_expr-then-is_empty-3, same_expr-else-is_empty-3, same_expr-then-same_type, same_expr-else-same_type}
use Rattle.slicc_same.proofs.expression.+expression.Goals as goal

pub same_args-returns : goal.same_args-returns
same_args-returns t c =
    listed alike_expr c.args.a.now.items c.args.b.now.items _ _ _ _ c.all_same_values.ensures c.deref.ensures c.deref-2.ensures
    (args_alike c.args.a.now.items c.args.b.now.items)

pub same_expr-returns-else-is_empty-2 : goal.same_expr-returns-else-is_empty-2
same_expr-returns-else-is_empty-2 t c =
    let w = c.in-Operation-Postfix in
    let asked : c.if-is_empty.value ≡ (length w.others == 0) && (length w.suffixes == 0) =
    elim c.if-is_empty.branch [
      | same_expr-then-is_empty b ↦ both_asked _ _ _ _ _ c.is_empty.ensures b.if-is_empty.true b.value-is b.is_empty-then-is_empty.ensures
      | same_expr-else-is_empty b ↦ first_asked _ _ _ _ c.is_empty.ensures b.if-is_empty.false b.value-is
    ] in
    let same = same_at expr _ _ _ _ w.is-0 w.is-1 ∙ alike_Operation_Postfix w.first w.value w.others w.suffixes w.span-0 w.span-1 in
    c.if-is_empty-2.false ∙ sym (known_second (same_shape (expr w.first) (expr w.value)) _ _ _ false asked c.if-is_empty-2.false same ∙ and_false _)

pub same_expr-returns-then-is_empty-2 : goal.same_expr-returns-then-is_empty-2
same_expr-returns-then-is_empty-2 t c =
    let w = c.in-Operation-Postfix in
    let asked : c.if-is_empty.value ≡ (length w.others == 0) && (length w.suffixes == 0) =
    elim c.if-is_empty.branch [
      | same_expr-then-is_empty b ↦ both_asked _ _ _ _ _ c.is_empty.ensures b.if-is_empty.true b.value-is b.is_empty-then-is_empty.ensures
      | same_expr-else-is_empty b ↦ first_asked _ _ _ _ c.is_empty.ensures b.if-is_empty.false b.value-is
    ] in
    let same = same_at expr _ _ _ _ w.is-0 w.is-1 ∙ alike_Operation_Postfix w.first w.value w.others w.suffixes w.span-0 w.span-1 in
    c.same_expr-then-is_empty-2.ensures ∙ same_at expr _ _ _ _ c.get-then-is_empty-2.ensures c.get-then-is_empty-2-2.ensures
    ∙ sym (known_second (same_shape (expr w.first) (expr w.value)) _ _ _ true asked c.if-is_empty-2.true same ∙ and_true _)

pub same_expr-returns-else-is_empty-4 : goal.same_expr-returns-else-is_empty-4
same_expr-returns-else-is_empty-4 t c =
    let w = c.in-Postfix-Operation in
    let asked : c.if-is_empty-3.value ≡ (length w.others == 0) && (length w.suffixes == 0) =
    elim c.if-is_empty-3.branch [
      | same_expr-then-is_empty-3 b ↦ both_asked _ _ _ _ _ c.is_empty-in-Postfix-Operation.ensures b.if-is_empty-3.true b.value-is b.is_empty-then-is_empty-3.ensures
      | same_expr-else-is_empty-3 b ↦ first_asked _ _ _ _ c.is_empty-in-Postfix-Operation.ensures b.if-is_empty-3.false b.value-is
    ] in
    let same = same_at expr _ _ _ _ w.is-0 w.is-1 ∙ alike_Postfix_Operation w.value w.first w.suffixes w.others w.span-0 w.span-1 in
    c.if-is_empty-4.false ∙ sym (known_second (same_shape (expr w.value) (expr w.first)) _ _ _ false asked c.if-is_empty-4.false same ∙ and_false _)

pub same_expr-returns-then-is_empty-4 : goal.same_expr-returns-then-is_empty-4
same_expr-returns-then-is_empty-4 t c =
    let w = c.in-Postfix-Operation in
    let asked : c.if-is_empty-3.value ≡ (length w.others == 0) && (length w.suffixes == 0) =
    elim c.if-is_empty-3.branch [
      | same_expr-then-is_empty-3 b ↦ both_asked _ _ _ _ _ c.is_empty-in-Postfix-Operation.ensures b.if-is_empty-3.true b.value-is b.is_empty-then-is_empty-3.ensures
      | same_expr-else-is_empty-3 b ↦ first_asked _ _ _ _ c.is_empty-in-Postfix-Operation.ensures b.if-is_empty-3.false b.value-is
    ] in
    let same = same_at expr _ _ _ _ w.is-0 w.is-1 ∙ alike_Postfix_Operation w.value w.first w.suffixes w.others w.span-0 w.span-1 in
    c.same_expr-then-is_empty-4.ensures ∙ same_at expr _ _ _ _ c.get-then-is_empty-4.ensures c.get-then-is_empty-4-2.ensures
    ∙ sym (known_second (same_shape (expr w.value) (expr w.first)) _ _ _ true asked c.if-is_empty-4.true same ∙ and_true _)

pub same_expr-returns-then-same_expr : goal.same_expr-returns-then-same_expr
same_expr-returns-then-same_expr t c =
    let w = c.in-Operation-Operation in
    let same = same_at expr _ _ _ _ w.is-0 w.is-1 ∙ alike_Operation w.first w.other w.others w.more w.span-0 w.span-1 in
    let first = c.same_expr.ensures ∙ same_at expr _ _ _ _ c.get.ensures c.get-in-Operation-Operation.ensures in
    listed alike_operand w.others w.more _ _ _ _ c.all_same_operands.ensures c.deref.ensures c.deref-then-same_expr.ensures (known_first _ _ _ _ true first c.if-same_expr.true same)

pub same_expr-returns-else-same_expr : goal.same_expr-returns-else-same_expr
same_expr-returns-else-same_expr t c =
    let w = c.in-Operation-Operation in
    let same = same_at expr _ _ _ _ w.is-0 w.is-1 ∙ alike_Operation w.first w.other w.others w.more w.span-0 w.span-1 in
    let first = c.same_expr.ensures ∙ same_at expr _ _ _ _ c.get.ensures c.get-in-Operation-Operation.ensures in
    c.if-same_expr.false ∙ sym (known_first _ _ _ _ false first c.if-same_expr.false same)

pub same_expr-returns-then-same_expr-2 : goal.same_expr-returns-then-same_expr-2
same_expr-returns-then-same_expr-2 t c =
    let w = c.in-Postfix-Postfix in
    let same = same_at expr _ _ _ _ w.is-0 w.is-1 ∙ alike_Postfix w.value w.other w.suffixes w.more w.span-0 w.span-1 in
    let first = c.same_expr-in-Postfix-Postfix.ensures ∙ same_at expr _ _ _ _ c.get-in-Postfix-Postfix.ensures c.get-in-Postfix-Postfix-2.ensures in
    listed alike_suffix w.suffixes w.more _ _ _ _ c.all_same_suffixes.ensures c.deref-then-same_expr-2.ensures c.deref-then-same_expr-2-2.ensures (known_first _ _ _ _ true first c.if-same_expr-2.true same)

pub same_expr-returns-else-same_expr-2 : goal.same_expr-returns-else-same_expr-2
same_expr-returns-else-same_expr-2 t c =
    let w = c.in-Postfix-Postfix in
    let same = same_at expr _ _ _ _ w.is-0 w.is-1 ∙ alike_Postfix w.value w.other w.suffixes w.more w.span-0 w.span-1 in
    let first = c.same_expr-in-Postfix-Postfix.ensures ∙ same_at expr _ _ _ _ c.get-in-Postfix-Postfix.ensures c.get-in-Postfix-Postfix-2.ensures in
    c.if-same_expr-2.false ∙ sym (known_first _ _ _ _ false first c.if-same_expr-2.false same)

pub same_expr-returns-then-same_name-2 : goal.same_expr-returns-then-same_name-2
same_expr-returns-then-same_name-2 t c =
    let w = c.in-Call-Call in
    let same = same_at expr _ _ _ _ w.is-0 w.is-1 ∙ alike_Call w.name w.other w.arguments w.more w.span-0 w.span-1 in
    c.same_args.ensures ∙ sym (known_first _ _ _ _ true c.same_name-in-Call-Call.ensures c.if-same_name-2.true same)

pub same_expr-returns-else-same_name-2 : goal.same_expr-returns-else-same_name-2
same_expr-returns-else-same_name-2 t c =
    let w = c.in-Call-Call in
    let same = same_at expr _ _ _ _ w.is-0 w.is-1 ∙ alike_Call w.name w.other w.arguments w.more w.span-0 w.span-1 in
    c.if-same_name-2.false ∙ sym (known_first _ _ _ _ false c.same_name-in-Call-Call.ensures c.if-same_name-2.false same)

pub same_expr-returns-in-Not-Not : goal.same_expr-returns-in-Not-Not
same_expr-returns-in-Not-Not t c =
    let w = c.in-Not-Not in
    c.same_expr-in-Not-Not.ensures ∙ same_at expr _ _ _ _ c.get-in-Not-Not.ensures c.get-in-Not-Not-2.ensures
    ∙ sym (same_at expr _ _ _ _ w.is-0 w.is-1 ∙ alike_Not w.a w.b w.field-1-0 w.field-1-1)

pub same_expr-returns-in-Negate-Negate : goal.same_expr-returns-in-Negate-Negate
same_expr-returns-in-Negate-Negate t c =
    let w = c.in-Negate-Negate in
    c.same_expr-in-Negate-Negate.ensures ∙ same_at expr _ _ _ _ c.get-in-Negate-Negate.ensures c.get-in-Negate-Negate-2.ensures
    ∙ sym (same_at expr _ _ _ _ w.is-0 w.is-1 ∙ alike_Negate w.a w.b w.field-1-0 w.field-1-1)

pub same_expr-returns-in-IsValid-IsValid : goal.same_expr-returns-in-IsValid-IsValid
same_expr-returns-in-IsValid-IsValid t c =
    let w = c.in-IsValid-IsValid in
    c.same_expr-in-IsValid-IsValid.ensures ∙ same_at expr _ _ _ _ c.get-in-IsValid-IsValid.ensures c.get-in-IsValid-IsValid-2.ensures
    ∙ sym (same_at expr _ _ _ _ w.is-0 w.is-1 ∙ alike_IsValid w.a w.b w.field-1-0 w.field-1-1)

pub same_expr-returns-in-IsInvalid-IsInvalid : goal.same_expr-returns-in-IsInvalid-IsInvalid
same_expr-returns-in-IsInvalid-IsInvalid t c =
    let w = c.in-IsInvalid-IsInvalid in
    c.same_expr-in-IsInvalid-IsInvalid.ensures ∙ same_at expr _ _ _ _ c.get-in-IsInvalid-IsInvalid.ensures c.get-in-IsInvalid-IsInvalid-2.ensures
    ∙ sym (same_at expr _ _ _ _ w.is-0 w.is-1 ∙ alike_IsInvalid w.a w.b w.field-1-0 w.field-1-1)

pub same_expr-returns-in-Group-Group : goal.same_expr-returns-in-Group-Group
same_expr-returns-in-Group-Group t c =
    let w = c.in-Group-Group in
    c.same_expr-in-Group-Group.ensures ∙ same_at expr _ _ _ _ c.get-in-Group-Group.ensures c.get-in-Group-Group-2.ensures
    ∙ sym (same_at expr _ _ _ _ w.is-0 w.is-1 ∙ alike_Group w.a w.b w.field-1-0 w.field-1-1)

pub same_expr-returns-then-same_mode : goal.same_expr-returns-then-same_mode
same_expr-returns-then-same_mode t c =
    let w = c.in-Cast-Cast in
    let asked : c.if-same_type.value ≡ bytes_eq w.target.text w.other_target.text && same_parts (mode_parts w.mode none) (mode_parts w.other_mode none) =
    elim c.if-same_type.branch [
      | same_expr-then-same_type b ↦ both_asked _ _ _ _ _ c.same_type.ensures b.if-same_type.true b.value-is b.same_mode.ensures
      | same_expr-else-same_type b ↦ first_asked _ _ _ _ c.same_type.ensures b.if-same_type.false b.value-is
    ] in
    let same = same_at expr _ _ _ _ w.is-0 w.is-1 ∙ alike_Cast w.target w.other_target w.mode w.other_mode w.value w.other_value w.span-0 w.span-1 in
    c.same_expr-then-same_mode.ensures ∙ same_at expr _ _ _ _ c.get-then-same_mode.ensures c.get-then-same_mode-2.ensures ∙ sym (known_first _ _ _ _ true asked c.if-same_mode.true same)

pub same_expr-returns-else-same_mode : goal.same_expr-returns-else-same_mode
same_expr-returns-else-same_mode t c =
    let w = c.in-Cast-Cast in
    let asked : c.if-same_type.value ≡ bytes_eq w.target.text w.other_target.text && same_parts (mode_parts w.mode none) (mode_parts w.other_mode none) =
    elim c.if-same_type.branch [
      | same_expr-then-same_type b ↦ both_asked _ _ _ _ _ c.same_type.ensures b.if-same_type.true b.value-is b.same_mode.ensures
      | same_expr-else-same_type b ↦ first_asked _ _ _ _ c.same_type.ensures b.if-same_type.false b.value-is
    ] in
    let same = same_at expr _ _ _ _ w.is-0 w.is-1 ∙ alike_Cast w.target w.other_target w.mode w.other_mode w.value w.other_value w.span-0 w.span-1 in
    c.if-same_mode.false ∙ sym (known_first _ _ _ _ false asked c.if-same_mode.false same)

pub same_expr-returns-in_default : goal.same_expr-returns-in_default
same_expr-returns-in_default t c = let d = c.in_default in unlike _ c.args.b.now _ d.is-0 (unlike_Operation d.field-0-0 d.field-1-0 d.field-2-0 c.args.b.now (expr_is c.args.b.now) d.not-Operation-1 d.not-Postfix-1)

pub same_expr-returns-in_default-2 : goal.same_expr-returns-in_default-2
same_expr-returns-in_default-2 t c = let d = c.in_default in unlike _ c.args.b.now _ d.is-0 (unlike_Postfix d.field-0-0 d.field-1-0 d.field-2-0 c.args.b.now (expr_is c.args.b.now) d.not-Operation-1 d.not-Postfix-1)

pub same_expr-returns-in_default-3 : goal.same_expr-returns-in_default-3
same_expr-returns-in_default-3 t c = let d = c.in_default in unlike _ c.args.b.now _ d.is-0 (unlike_Not d.field-0-0 d.field-1-0 c.args.b.now (expr_is c.args.b.now) d.not-Not-1)

pub same_expr-returns-in_default-4 : goal.same_expr-returns-in_default-4
same_expr-returns-in_default-4 t c = let d = c.in_default in unlike _ c.args.b.now _ d.is-0 (unlike_Negate d.field-0-0 d.field-1-0 c.args.b.now (expr_is c.args.b.now) d.not-Negate-1)

pub same_expr-returns-in_default-5 : goal.same_expr-returns-in_default-5
same_expr-returns-in_default-5 t c = let d = c.in_default in unlike _ c.args.b.now _ d.is-0 (unlike_Number d.field-0-0 d.field-1-0 c.args.b.now (expr_is c.args.b.now) d.not-Number-1)

pub same_expr-returns-in_default-6 : goal.same_expr-returns-in_default-6
same_expr-returns-in_default-6 t c = let d = c.in_default in unlike _ c.args.b.now _ d.is-0 (unlike_True d.field-0-0 c.args.b.now (expr_is c.args.b.now) d.not-True-1)

pub same_expr-returns-in_default-7 : goal.same_expr-returns-in_default-7
same_expr-returns-in_default-7 t c = let d = c.in_default in unlike _ c.args.b.now _ d.is-0 (unlike_False d.field-0-0 c.args.b.now (expr_is c.args.b.now) d.not-False-1)

pub same_expr-returns-in_default-8 : goal.same_expr-returns-in_default-8
same_expr-returns-in_default-8 t c = let d = c.in_default in unlike _ c.args.b.now _ d.is-0 (unlike_Nothing d.field-0-0 c.args.b.now (expr_is c.args.b.now) d.not-Nothing-1)

pub same_expr-returns-in_default-9 : goal.same_expr-returns-in_default-9
same_expr-returns-in_default-9 t c = let d = c.in_default in unlike _ c.args.b.now _ d.is-0 (unlike_Variable d.field-0-0 c.args.b.now (expr_is c.args.b.now) d.not-Variable-1)

pub same_expr-returns-in_default-10 : goal.same_expr-returns-in_default-10
same_expr-returns-in_default-10 t c = let d = c.in_default in unlike _ c.args.b.now _ d.is-0 (unlike_Member d.field-0-0 d.field-1-0 d.field-2-0 c.args.b.now (expr_is c.args.b.now) d.not-Member-1)

pub same_expr-returns-in_default-11 : goal.same_expr-returns-in_default-11
same_expr-returns-in_default-11 t c = let d = c.in_default in unlike _ c.args.b.now _ d.is-0 (unlike_Call d.field-0-0 d.field-1-0 d.field-2-0 c.args.b.now (expr_is c.args.b.now) d.not-Call-1)

pub same_expr-returns-in_default-12 : goal.same_expr-returns-in_default-12
same_expr-returns-in_default-12 t c = let d = c.in_default in unlike _ c.args.b.now _ d.is-0 (unlike_New d.field-0-0 d.field-1-0 c.args.b.now (expr_is c.args.b.now) d.not-New-1)

pub same_expr-returns-in_default-13 : goal.same_expr-returns-in_default-13
same_expr-returns-in_default-13 t c = let d = c.in_default in unlike _ c.args.b.now _ d.is-0 (unlike_IsValid d.field-0-0 d.field-1-0 c.args.b.now (expr_is c.args.b.now) d.not-IsValid-1)

pub same_expr-returns-in_default-14 : goal.same_expr-returns-in_default-14
same_expr-returns-in_default-14 t c = let d = c.in_default in unlike _ c.args.b.now _ d.is-0 (unlike_IsInvalid d.field-0-0 d.field-1-0 c.args.b.now (expr_is c.args.b.now) d.not-IsInvalid-1)

pub same_expr-returns-in_default-15 : goal.same_expr-returns-in_default-15
same_expr-returns-in_default-15 t c = let d = c.in_default in unlike _ c.args.b.now _ d.is-0 (unlike_Cast d.field-0-0 d.field-1-0 d.field-2-0 d.field-3-0 c.args.b.now (expr_is c.args.b.now) d.not-Cast-1)

pub same_expr-returns-in_default-16 : goal.same_expr-returns-in_default-16
same_expr-returns-in_default-16 t c = let d = c.in_default in unlike _ c.args.b.now _ d.is-0 (unlike_Group d.field-0-0 d.field-1-0 c.args.b.now (expr_is c.args.b.now) d.not-Group-1)

pub same_expr-returns-in-True-True : goal.same_expr-returns-in-True-True
same_expr-returns-in-True-True t c = sym (same_at expr _ _ _ _ c.in-True-True.is-0 c.in-True-True.is-1)

pub same_expr-returns-in-False-False : goal.same_expr-returns-in-False-False
same_expr-returns-in-False-False t c = sym (same_at expr _ _ _ _ c.in-False-False.is-0 c.in-False-False.is-1)

pub same_expr-returns-in-Nothing-Nothing : goal.same_expr-returns-in-Nothing-Nothing
same_expr-returns-in-Nothing-Nothing t c = sym (same_at expr _ _ _ _ c.in-Nothing-Nothing.is-0 c.in-Nothing-Nothing.is-1)

pub same_expr-returns-in-Variable-Variable : goal.same_expr-returns-in-Variable-Variable
same_expr-returns-in-Variable-Variable t c =
    let w = c.in-Variable-Variable in
    c.same_name.ensures ∙ sym (same_at expr _ _ _ _ w.is-0 w.is-1 ∙ and_true (bytes_eq w.a.text w.b.text))

pub same_expr-returns-in-New-New : goal.same_expr-returns-in-New-New
same_expr-returns-in-New-New t c =
    let w = c.in-New-New in
    c.same_name-in-New-New.ensures ∙ sym (same_at expr _ _ _ _ w.is-0 w.is-1 ∙ alike_New w.a w.b w.field-1-0 w.field-1-1)

pub same_expr-returns-then-same_name : goal.same_expr-returns-then-same_name
same_expr-returns-then-same_name t c =
    let w = c.in-Member-Member in
    let same = same_at expr _ _ _ _ w.is-0 w.is-1 ∙ alike_Member w.owner w.other_owner w.member w.other_member w.span-0 w.span-1 in
    c.same_name-then-same_name.ensures ∙ sym (known_first _ _ _ _ true c.same_name-in-Member-Member.ensures c.if-same_name.true same)

pub same_expr-returns-else-same_name : goal.same_expr-returns-else-same_name
same_expr-returns-else-same_name t c =
    let w = c.in-Member-Member in
    let same = same_at expr _ _ _ _ w.is-0 w.is-1 ∙ alike_Member w.owner w.other_owner w.member w.other_member w.span-0 w.span-1 in
    c.if-same_name.false ∙ sym (known_first _ _ _ _ false c.same_name-in-Member-Member.ensures c.if-same_name.false same)

pub same_suffix-returns-in-Field-Field : goal.same_suffix-returns-in-Field-Field
same_suffix-returns-in-Field-Field t c =
    let w = c.in-Field-Field in
    c.same_name.ensures ∙ sym (same_at suffix _ _ _ _ w.is-0 w.is-1 ∙ alike_Field w.a w.b w.field-1-0 w.field-1-1)

pub same_suffix-returns-in-Index-Index : goal.same_suffix-returns-in-Index-Index
same_suffix-returns-in-Index-Index t c =
    let w = c.in-Index-Index in
    c.same_expr.ensures ∙ sym (same_at suffix _ _ _ _ w.is-0 w.is-1 ∙ and_true (same_shape (expr w.a) (expr w.b)))

pub same_suffix-returns-then-same_name : goal.same_suffix-returns-then-same_name
same_suffix-returns-then-same_name t c =
    let w = c.in-Method-Method in
    let same = same_at suffix _ _ _ _ w.is-0 w.is-1 ∙ alike_Method w.name w.other w.arguments w.more w.span-0 w.span-1 in
    c.same_args.ensures ∙ sym (known_first _ _ _ _ true c.same_name-in-Method-Method.ensures c.if-same_name.true same)

pub same_suffix-returns-else-same_name : goal.same_suffix-returns-else-same_name
same_suffix-returns-else-same_name t c =
    let w = c.in-Method-Method in
    let same = same_at suffix _ _ _ _ w.is-0 w.is-1 ∙ alike_Method w.name w.other w.arguments w.more w.span-0 w.span-1 in
    c.if-same_name.false ∙ sym (known_first _ _ _ _ false c.same_name-in-Method-Method.ensures c.if-same_name.false same)

pub all_same_values-loop-x-preserved : goal.all_same_values-loop-x-preserved
all_same_values-loop-x-preserved t c =
    next_turn alike_expr c.args.a.now c.loop-x.right.now c.loop-x.x-index c.x-item.result c.y-item.result _ _
    c.loop-x.invariant c.loop-x-test.true c.x-item.is c.in-len1-up.len_at_least c.y-item.is c.same_expr.ensures c.if-not-same_expr.false

pub all_same_values-returns-then-not-same_expr : goal.all_same_values-returns-then-not-same_expr
all_same_values-returns-then-not-same_expr t c =
    unlike_turn alike_expr c.args.a.now c.loop-x.right.now c.loop-x.x-index c.x-item.result c.y-item.result _ _
    c.loop-x.invariant c.loop-x-test.true c.x-item.is c.in-len1-up.len_at_least c.y-item.is c.same_expr.ensures c.if-not-same_expr.true

pub all_same_values-returns-in_default : goal.all_same_values-returns-in_default
all_same_values-returns-in_default t c = right_ends alike_expr c.args.a.now c.loop-x.right.now c.loop-x.x-index c.x-item.result _ c.loop-x.invariant c.loop-x-test.true c.in_default.len_below

pub all_same_values-returns : goal.all_same_values-returns
all_same_values-returns t c = left_ends alike_expr c.args.a.now c.loop-x.right.now c.loop-x.x-index _ _ c.loop-x.invariant c.loop-x-test.false c.is_empty.ensures

pub all_same_operands-returns-in_default : goal.all_same_operands-returns-in_default
all_same_operands-returns-in_default t c = right_ends alike_operand c.args.a.now c.loop-x.right.now c.loop-x.x-index c.x-item.result _ c.loop-x.invariant c.loop-x-test.true c.in_default.len_below

pub all_same_operands-returns : goal.all_same_operands-returns
all_same_operands-returns t c = left_ends alike_operand c.args.a.now c.loop-x.right.now c.loop-x.x-index _ _ c.loop-x.invariant c.loop-x-test.false c.is_empty.ensures

pub all_same_suffixes-loop-x-preserved : goal.all_same_suffixes-loop-x-preserved
all_same_suffixes-loop-x-preserved t c =
    next_turn alike_suffix c.args.a.now c.loop-x.right.now c.loop-x.x-index c.x-item.result c.y-item.result _ _
    c.loop-x.invariant c.loop-x-test.true c.x-item.is c.in-len1-up.len_at_least c.y-item.is c.same_suffix.ensures c.if-not-same_suffix.false

pub all_same_suffixes-returns-then-not-same_suffix : goal.all_same_suffixes-returns-then-not-same_suffix
all_same_suffixes-returns-then-not-same_suffix t c =
    unlike_turn alike_suffix c.args.a.now c.loop-x.right.now c.loop-x.x-index c.x-item.result c.y-item.result _ _
    c.loop-x.invariant c.loop-x-test.true c.x-item.is c.in-len1-up.len_at_least c.y-item.is c.same_suffix.ensures c.if-not-same_suffix.true

pub all_same_suffixes-returns-in_default : goal.all_same_suffixes-returns-in_default
all_same_suffixes-returns-in_default t c = right_ends alike_suffix c.args.a.now c.loop-x.right.now c.loop-x.x-index c.x-item.result _ c.loop-x.invariant c.loop-x-test.true c.in_default.len_below

pub all_same_suffixes-returns : goal.all_same_suffixes-returns
all_same_suffixes-returns t c = left_ends alike_suffix c.args.a.now c.loop-x.right.now c.loop-x.x-index _ _ c.loop-x.invariant c.loop-x-test.false c.is_empty.ensures
