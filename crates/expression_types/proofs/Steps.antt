-- Going through operands, suffixes and arguments.
use Rattle.std.proofs.Common.{◌≡◌, ◌<◌, ◌+◌, ◌∙◌, ◌++◌, ℕ, IfOk, Ok, Err, Result, List, [], ◌∷◌, map, take, drop, length, refl, sym, ap, add-one, get_or}
use Rattle.std.proofs.Math.Seq.{take-suc}
use Rattle.std.proofs.lemmas.List.{drop_more, map-append}
use Rattle.slicc_ast.specs.declared.tree.span.Span.{Span}
use Rattle.slicc_ast.specs.declared.tree.name.Name.{Name}
use Rattle.slicc_ast.specs.declared.tree.name.TypeName.{TypeName}
use Rattle.slicc_ast.specs.declared.tree.expression.Expr.{Expr}
use Rattle.slicc_ast.specs.declared.tree.expression.Operand.{Operand}
use Rattle.slicc_ast.specs.declared.tree.expression.Suffix.{Suffix}
use Rattle.slicc_plan.specs.CallTypes as call
use Rattle.slicc_plan.specs.declared.built_in.BuiltInType.{BuiltInType}
use Rattle.slicc_plan.specs.Meanings.{Wanted}
use Rattle.slicc_plan.specs.Prelude.{Environment, type_named, cast_to, from_operand, given_at, joined, span_of, suffix_typed, typed}
use Rattle.body_types.specs.declared.typed.Given.{Given}
use Rattle.body_types.specs.Prelude.{all_given_of, found_of, given_of}
use Rattle.expression_types.specs.Prelude.{all_known, known, known_given, all_arguments, all_operands, all_suffixes}
use Rattle.expression_types.proofs.Calls.{index_known, method_known, named_known}
use Rattle.expression_types.proofs.Known.{by_known, cast_known, joined_right, known_same, operand_known}
use Rattle.expression_types.proofs.Rows.{operands_same, suffixes_same}

-- Where the same is told of arguments one by one, the same is told of what depends on what is known of them alone.
pub by_all_known : {R : Type 0} (f : List call.Given → R) → ((gs : List call.Given) → f gs ≡ f (all_known gs)) → (gs hs : List call.Given) → all_known gs ≡ all_known hs → f gs ≡ f hs
by_all_known f same gs hs h = same gs ∙ ap f h ∙ sym (same hs)

pub operands_step : (env : Environment) (at : Span) (os : List Operand) (i : ℕ) (d : Operand) (left right new : call.Typed) (all : _) → i < length os → found_of right ≡ found_of (typed env (get_or os i d).value) → found_of new ≡ found_of (joined env (get_or os i d).operator (given_at at left) (given_at (span_of (get_or os i d).value) right)) → found_of (all_operands env at left (drop i os)) ≡ all → found_of (all_operands env at new (drop (i + 1) os)) ≡ all
operands_step env at os i d left right new all below is_right is_new kept =
    let o = get_or os i d in
    let value = typed env o.value in
    operands_same env at (drop (i + 1) os) new (joined env o.operator (given_at at left) (given_at (span_of o.value) value))
    (is_new ∙ by_known (λ t. found_of (joined env o.operator (given_at at left) (given_at (span_of o.value) t))) (joined_right env o.operator (given_at at left) (span_of o.value)) right value is_right)
    ∙ ap (λ ps. found_of (all_operands env at left ps)) (sym (drop_more os i d below)) ∙ kept

pub suffixes_step : (env : Environment) (at : Span) (ss : List Suffix) (i : ℕ) (d : Suffix) (left new : call.Typed) (all : _) → i < length ss → found_of new ≡ found_of (suffix_typed env at left (get_or ss i d)) → found_of (all_suffixes env at left (drop i ss)) ≡ all → found_of (all_suffixes env at new (drop (i + 1) ss)) ≡ all
suffixes_step env at ss i d left new all below is_new kept =
    suffixes_same env at (drop (i + 1) ss) new (suffix_typed env at left (get_or ss i d)) is_new
    ∙ ap (λ ps. found_of (all_suffixes env at left ps)) (sym (drop_more ss i d below)) ∙ kept

pub arguments_step : (env : Environment) (es : List Expr) (i : ℕ) (d : Expr) (gs new : List Given) (g : Given) (t : call.Typed) → i < length es → new ≡ gs ++ g ∷ [] → given_of g ≡ given_at (span_of (get_or es i d)) t → found_of t ≡ found_of (typed env (get_or es i d)) → all_known (all_given_of gs) ≡ all_known (all_arguments env (take i es)) → all_known (all_given_of new) ≡ all_known (all_arguments env (take (i + 1) es))
arguments_step env es i d gs new g t below is_new is_g is_t kept =
    let e = get_or es i d in
    let of_expr : Expr → call.Given = λ x. given_at (span_of x) (typed env x) in
    let taken : take (i + 1) es ≡ take i es ++ e ∷ [] = rw (add-one, take-suc es i d below) refl in
    let last : known_given (given_of g) ≡ known_given (of_expr e) = ap known_given is_g ∙ ap (λ (k : call.Typed). given_at (span_of e) k) (known_same t (typed env e) is_t) in
    ap (λ hs. all_known (all_given_of hs)) is_new
    ∙ ap all_known (map-append given_of gs (g ∷ []))
    ∙ map-append known_given (all_given_of gs) (given_of g ∷ [])
    ∙ ap (λ hs. hs ++ known_given (given_of g) ∷ []) kept
    ∙ ap (λ h. all_known (all_arguments env (take i es)) ++ h ∷ []) last
    ∙ sym (map-append known_given (all_arguments env (take i es)) (of_expr e ∷ []))
    ∙ ap all_known (sym (map-append of_expr (take i es) (e ∷ [])))
    ∙ ap (λ xs. all_known (all_arguments env xs)) (sym taken)

-- Expressions of which the parts are known.

pub at_part : (env : Environment) (F : Expr → call.Typed) (e v w : Expr) (t : call.Typed) → typed env e ≡ F v → w ≡ v → found_of t ≡ found_of (F w) → found_of t ≡ found_of (typed env e)
at_part env F e v w t same is_v is_t = is_t ∙ ap (λ x. found_of (F x)) is_v ∙ ap found_of (sym same)

pub operation_found : (env : Environment) (e v w : Expr) (at : Span) (left t : call.Typed) (os ps : List Operand) → typed env e ≡ all_operands env (span_of v) (typed env v) ps → w ≡ v → at ≡ span_of w → found_of left ≡ found_of (typed env w) → os ≡ ps → found_of t ≡ found_of (all_operands env at left os) → found_of t ≡ found_of (typed env e)
operation_found env e v w at left t os ps same is_v is_at is_left is_os is_t =
    is_t ∙ operands_same env at os left (typed env w) is_left
    ∙ ap (λ a. found_of (all_operands env a (typed env w) os)) is_at
    ∙ ap (λ x. found_of (all_operands env (span_of x) (typed env x) os)) is_v
    ∙ ap (λ qs. found_of (all_operands env (span_of v) (typed env v) qs)) is_os ∙ ap found_of (sym same)

pub postfix_found : (env : Environment) (e v w : Expr) (at : Span) (left t : call.Typed) (ss rs : List Suffix) → typed env e ≡ all_suffixes env at (typed env v) rs → w ≡ v → found_of left ≡ found_of (typed env w) → ss ≡ rs → found_of t ≡ found_of (all_suffixes env at left ss) → found_of t ≡ found_of (typed env e)
postfix_found env e v w at left t ss rs same is_v is_left is_ss is_t =
    is_t ∙ suffixes_same env at ss left (typed env w) is_left
    ∙ ap (λ x. found_of (all_suffixes env at (typed env x) ss)) is_v
    ∙ ap (λ qs. found_of (all_suffixes env at (typed env v) qs)) is_ss ∙ ap found_of (sym same)

pub from_same : (f g t : call.Typed) → f ≡ g → found_of t ≡ found_of g → found_of t ≡ found_of f
from_same f g t same is_t = is_t ∙ ap found_of (sym same)

pub call_found : (env : Environment) (at : Span) (n : Name) (gs hs : List call.Given) (t : call.Typed) → all_known gs ≡ all_known hs → found_of t ≡ found_of (call.named_call env at n gs) → found_of t ≡ found_of (call.named_call env at n hs)
call_found env at n gs hs t is_given is_t =
    is_t ∙ by_all_known (λ ks. found_of (call.named_call env at n ks)) (named_known env at n) gs hs is_given

pub method_found : (env : Environment) (at : Span) (on : call.Typed) (n : Name) (gs hs : List call.Given) (t : call.Typed) → all_known gs ≡ all_known hs → found_of t ≡ found_of (call.method_call env at on n gs) → found_of t ≡ found_of (call.method_call env at on n hs)
method_found env at on n gs hs t is_given is_t =
    is_t ∙ by_all_known (λ ks. found_of (call.method_call env at on n ks)) (method_known env at on n) gs hs is_given

pub index_found : (env : Environment) (at : Span) (on : call.Typed) (v : Expr) (g : call.Given) (k t : call.Typed) → found_of k ≡ found_of (typed env v) → g ≡ given_at (span_of v) k → found_of t ≡ found_of (call.index_call env at on g) → found_of t ≡ found_of (call.index_call env at on (given_at (span_of v) (typed env v)))
index_found env at on v g k t is_k is_g is_t =
    is_t ∙ ap (λ h. found_of (call.index_call env at on h)) is_g
    ∙ by_known (λ x. found_of (call.index_call env at on (given_at (span_of v) x))) (λ x. index_known env at on (given_at (span_of v) x)) k (typed env v) is_k

pub operand_found : (env : Environment) (o : Wanted) (b : BuiltInType) (v : Expr) (g : call.Given) (k t : call.Typed) → found_of k ≡ found_of (typed env v) → g ≡ given_at (span_of v) k → found_of t ≡ found_of (from_operand env o b g) → found_of t ≡ found_of (from_operand env o b (given_at (span_of v) (typed env v)))
operand_found env o b v g k t is_k is_g is_t =
    is_t ∙ ap (λ h. found_of (from_operand env o b h)) is_g
    ∙ by_known (λ x. found_of (from_operand env o b (given_at (span_of v) x))) (operand_known env o b (span_of v)) k (typed env v) is_k

pub cast_found : (env : Environment) (n : TypeName) (v : Expr) (g : call.Given) (k t : call.Typed) → found_of k ≡ found_of (typed env v) → g ≡ given_at (span_of v) k → found_of t ≡ found_of (cast_to env n g (type_named env n.text)) → found_of t ≡ found_of (cast_to env n (given_at (span_of v) (typed env v)) (type_named env n.text))
cast_found env n v g k t is_k is_g is_t =
    is_t ∙ ap (λ h. found_of (cast_to env n h (type_named env n.text))) is_g
    ∙ by_known (λ x. found_of (cast_to env n (given_at (span_of v) x) (type_named env n.text))) (cast_known env n (type_named env n.text) (span_of v)) k (typed env v) is_k
