-- A reader makes an expression's outline of its tokens, from each form of its own level up. An expression that begins with
-- a name is read behind that name, as statements are where they begin so.
use Rattle.std.proofs.Common.{◌≡◌, ℕ, zero, suc, ◌+◌, ◌-◌, ◌≤◌, ◌<◌, nat_le, nat_lt, ◌==◌, Bool, true, false, List, Some, None, refl, subst, arith}
use Rattle.std.proofs.lemmas.Bool.{and_parts, eqb-true, leb-true, ltb-true, false≢true}
use Rattle.slicc_ast.specs.declared.tree.token.TokenKind.{TokenKind}
use Rattle.slicc_ast.specs.declared.tree.token.TokenKind.TheVariants.{Sign}
use Rattle.slicc_ast.specs.declared.tree.expression.Operator.{Operator}
use Rattle.slicc_ast.specs.declared.tree.expression.Operator.TheVariants.{Or, And, Equal, Unequal, Less, Greater, LessOrEqual, GreaterOrEqual, Plus, Minus, Times}
use Rattle.slicc_ast.specs.declared.tree.expression.Expr.{Expr, Number, True, False, Nothing, Variable, Member, Call', New, Row_of-Expr, end_of-Expr, more_of-Expr, Row_of-Operand, end_of-Operand, more_of-Operand, Row_of-Suffix, end_of-Suffix, more_of-Suffix}
use Rattle.slicc_ast.specs.Prelude.{Operation', Not', Negate', Postfix', IsValid', IsInvalid', Cast', Group', Outline, node, part, no_span, is_allowed, are_allowed, shape_of, shape_in, expr, level_of, row_level, has_suffix, operator_sign, operator_level, operand_row, suffix_row, args_row, more_args_row, has, Row, Rows, done, many, maybe, next, Form, expression, constant, name_end, arguments, kind_of}
use Rattle.slicc_ast.specs.declared.tree.expression.Suffix.{Suffix, Field, Method', Index}
use Rattle.slicc_ast.specs.Expressions.{suffix}
use Rattle.slicc_ast.proofs.Building.Builds.{one, alternative, present, absent, again, enough, on}
use Rattle.slicc_ast.proofs.Leading.{depth_of, depth_level, most_level}
use Rattle.slicc_ast.proofs.Shapes.{◌▸◌, Made, with_part, ended_node, close, wrap, Step, Makes, of, at, optional, name, comma, front, form_at, kinds_at, operand_at, operation_at, operators_to, suffixes}
use Rattle.slicc_ast.proofs.Making.{spelled, spelled_in, marked, any_name, Forms}

abbrev pub begins_with_name : Expr → Bool
begins_with_name (Operation' first n others span) = begins_with_name first
begins_with_name (Postfix' value n row span) = begins_with_name value
begins_with_name (Variable variable) = true
begins_with_name (Member owner member span) = true
begins_with_name (Call' function shape row within span) = true
begins_with_name _ = false

-- the start of a primary expression
abbrev pub start_of : Bool → Row Step → Row Step
start_of true = name ▸ optional (of name_end)
start_of false = of constant

-- parts that may be before a row make an outline, whatever is behind them
abbrev pub Leads : (Row Step → Row Step) → Outline → Type 0
Leads row o =
    (R : Row Step) (S : Rows Step) (rest : List TokenKind) (s to : Made) → Makes R S rest (with_part (shape_of o) s) to → Makes (row R) S (spelled o rest) s to

abbrev pub suffix_part : Row Step
suffix_part = of Form.suffix done

-- an expression of a level, from 1 for the loosest operator to 9
pub record Reading (level : ℕ) (named : Bool) (o : Outline) : Type 0 where
  pub some : 1 ≤ level
  pub up_from : (d : ℕ) → d ≤ 6 → 7 ≤ d + level → Leads (λ R. front named (operators_to d R)) o
  pub as_primary : 9 ≤ level → Leads (start_of named) o

-- the form of a level from its start
in_form : (d : ℕ) → d ≤ 6 → (named : Bool) (R : Row Step) (S : Rows Step) (ts : List TokenKind) (s to : Made) → Makes (front named (operators_to d done)) (next R S) ts s to → Makes (of (form_at d) R) S ts s to
in_form zero le false R S ts s to m = alternative 0 _ refl m
in_form zero le true R S ts s to m = alternative 1 _ refl m
in_form (suc zero) le false R S ts s to m = alternative 0 _ refl m
in_form (suc zero) le true R S ts s to m = alternative 1 _ refl m
in_form (suc (suc zero)) le false R S ts s to m = alternative 0 _ refl m
in_form (suc (suc zero)) le true R S ts s to m = alternative 1 _ refl m
in_form (suc (suc (suc zero))) le false R S ts s to m = alternative 0 _ refl m
in_form (suc (suc (suc zero))) le true R S ts s to m = alternative 1 _ refl m
in_form (suc (suc (suc (suc zero)))) le false R S ts s to m = alternative 0 _ refl m
in_form (suc (suc (suc (suc zero)))) le true R S ts s to m = alternative 1 _ refl m
in_form (suc (suc (suc (suc (suc zero))))) le false R S ts s to m = alternative 0 _ refl m
in_form (suc (suc (suc (suc (suc zero))))) le true R S ts s to m = alternative 1 _ refl m
in_form (suc (suc (suc (suc (suc (suc zero)))))) le false R S ts s to m = alternative 0 _ refl m
in_form (suc (suc (suc (suc (suc (suc zero)))))) le true R S ts s to m = alternative 1 _ refl m
in_form (suc (suc (suc (suc (suc (suc (suc d))))))) le named R S ts s to m = absurd (omega arith)

as_form : (level : ℕ) (named : Bool) (o : Outline) → Reading level named o → (d : ℕ) → d ≤ 6 → 7 ≤ d + level → Leads (of (form_at d)) o
as_form level named o reading d small wide R S rest s to m =
    in_form d small named R S (spelled o rest) s to (reading.up_from d small wide done (next R S) rest s to (on m))

climb_one : (d : ℕ) (named : Bool) (o : Outline) → Leads (λ R. front named (operators_to d R)) o → Leads (λ R. front named (operators_to (suc d) R)) o
climb_one d named o leads R S rest s to m = leads (maybe (operation_at d) R) S rest s to (absent m)

climb : (k d e : ℕ) (named : Bool) (o : Outline) → d + k ≡ e → Leads (λ R. front named (operators_to d R)) o → Leads (λ R. front named (operators_to e R)) o
climb zero d e named o same leads = subst (λ f. Leads (λ R. front named (operators_to f R)) o) (let is : d ≡ e = omega arith in is) leads
climb (suc k) d e named o same leads = climb k (suc d) e named o (omega arith) (climb_one d named o leads)

of_unary : (level : ℕ) (named : Bool) (o : Outline) → 7 ≤ level → Leads (front named) o → (9 ≤ level → Leads (start_of named) o) → Reading level named o
of_unary level named o le leads tight =
    record { some = omega arith; up_from = λ d small wide. climb d 0 d named o (omega arith) leads; as_primary = tight }

-- a primary expression and the suffixes behind it
from_start : (named : Bool) (o : Outline) → Leads (λ R. start_of named (suffixes R)) o → Leads (front named) o
from_start true o leads R S rest s to m = leads R S rest s to m
from_start false o leads R S rest s to m = alternative 2 _ refl (leads done (next R S) rest s to (on m))

of_primary : (named : Bool) (o : Outline) → Leads (start_of named) o → Reading 9 named o
of_primary named o leads =
    of_unary 9 named o (omega arith) (from_start named o (λ R S rest s to m. leads (suffixes R) S rest s to (absent m))) (λ tight. leads)

sign_at : (op : Operator) → has (kinds_at (depth_of op)) (kind_of (Sign (operator_sign op))) ≡ true
sign_at Times = refl
sign_at Plus = refl
sign_at Minus = refl
sign_at Less = refl
sign_at Greater = refl
sign_at LessOrEqual = refl
sign_at GreaterOrEqual = refl
sign_at Equal = refl
sign_at Unequal = refl
sign_at And = refl
sign_at Or = refl

operator_at : (op : Operator) (d level : ℕ) → d + level ≡ 6 → operator_level op ≡ level → has (kinds_at d) (kind_of (Sign (operator_sign op))) ≡ true
operator_at op d level sums is =
    let own : depth_of op + operator_level op ≡ 6 = depth_level op in
    let same : depth_of op ≡ d = omega arith in
    subst (λ n. has (kinds_at n) (kind_of (Sign (operator_sign op))) ≡ true) same (sign_at op)

-- operands of a level, from the first one on
of_operation : (level : ℕ) (named : Bool) (o : Outline) → 0 < level → level ≤ 6 → ((d : ℕ) → d + level ≡ 6 → Leads (λ R. front named (operators_to d (maybe (operation_at d) R))) o) → Reading level named o
of_operation level named o some most own =
    let d = 6 - level in
    let above : Leads (λ R. front named (operators_to (suc d) R)) o = own d (omega arith) in
    record {
      some = omega arith;
      up_from = λ e small wide. climb (e - suc d) (suc d) e named o (omega arith) above;
      as_primary = λ tight. absurd (omega arith);
    }

abbrev pub Read : Expr → Type 0
Read e = Reading (level_of e) (begins_with_name e) (expr e)

-- any expression makes the form of all
pub as_expression : (e : Expr) → Read e → Leads (of expression) (expr e)
as_expression e reading = let some = reading.some in as_form (level_of e) (begins_with_name e) (expr e) reading 6 (omega arith) (omega arith)

abbrev argument : Row Step
argument = (comma ▸ of expression) done

mutual
  pub expr_reads : (e : Expr) → is_allowed (expr e) ≡ true → Read e
  expr_reads (Operation' first n others span) allowed =
      let some = and_parts (nat_lt 0 (row_level others)) _ allowed in
      let low = and_parts (nat_lt (row_level others) (level_of first)) _ some.1 in
      let both = and_parts (is_allowed (expr first)) _ low.1 in
      let inner = expr_reads first both.0 in
      let tighter = ltb-true (row_level others) (level_of first) low.0 in
      let is_some = ltb-true 0 (row_level others) some.0 in
      of_operation (row_level others) (begins_with_name first) (expr (Operation' first n others span)) is_some (most_level others)
      (λ d sums R S rest s to m. inner.up_from d (omega arith) (omega arith) (maybe (operation_at d) R) S _ s to
      (present (operation_made others (row_level others) d sums is_some both.1 R S rest (shape_of (expr first)) s to m)))
  expr_reads (Not' operand span) allowed =
      let wide = and_parts (nat_le 7 (level_of operand)) _ allowed in
      let inner = expr_reads operand (and_parts (is_allowed (expr operand)) true wide.1).0 in
      let le = leb-true 7 (level_of operand) wide.0 in
      let unary_form = as_form (level_of operand) (begins_with_name operand) (expr operand) inner 0 (omega arith) (omega arith) in
      of_unary 7 false (expr (Not' operand span)) (omega arith)
      (λ R S rest s to m. alternative 0 _ refl (marked (one refl (unary_form (at close done) (next R S) rest _ to (marked (on m))))))
      (λ tight. absurd (omega arith))
  expr_reads (Negate' operand span) allowed =
      let wide = and_parts (nat_le 7 (level_of operand)) _ allowed in
      let inner = expr_reads operand (and_parts (is_allowed (expr operand)) true wide.1).0 in
      let le = leb-true 7 (level_of operand) wide.0 in
      let unary_form = as_form (level_of operand) (begins_with_name operand) (expr operand) inner 0 (omega arith) (omega arith) in
      of_unary 7 false (expr (Negate' operand span)) (omega arith)
      (λ R S rest s to m. alternative 1 _ refl (marked (one refl (unary_form (at close done) (next R S) rest _ to (marked (on m))))))
      (λ tight. absurd (omega arith))
  expr_reads (Postfix' value n row span) allowed =
      let some = and_parts (has_suffix row) _ allowed in
      let wide = and_parts (nat_le 9 (level_of value)) _ some.1 in
      let both = and_parts (is_allowed (expr value)) _ wide.1 in
      let inner = expr_reads value both.0 in
      of_unary 8 (begins_with_name value) (expr (Postfix' value n row span)) (omega arith)
      (from_start (begins_with_name value) (expr (Postfix' value n row span))
      (λ R S rest s to m. inner.as_primary (leb-true 9 (level_of value) wide.0) (suffixes R) S _ s to
      (present (suffixed_made row some.0 both.1 R S rest (shape_of (expr value)) s to m))))
      (λ tight. absurd (omega arith))
  expr_reads (Number n span) allowed = of_primary false (expr (Number n span)) (λ R S rest s to m. alternative 0 _ refl (marked (one refl (marked (on m)))))
  expr_reads (True span) allowed = of_primary false (expr (True span)) (λ R S rest s to m. alternative 1 _ refl (marked (one refl (marked (on m)))))
  expr_reads (False span) allowed = of_primary false (expr (False span)) (λ R S rest s to m. alternative 2 _ refl (marked (one refl (marked (on m)))))
  expr_reads (Nothing span) allowed = of_primary false (expr (Nothing span)) (λ R S rest s to m. alternative 3 _ refl (marked (one refl (marked (on m)))))
  expr_reads (Variable variable) allowed =
      of_primary true (expr (Variable variable)) (λ R S rest s to m. any_name variable.text (absent m))
  expr_reads (Member owner member span) allowed =
      of_primary true (expr (Member owner member span))
      (λ R S rest s to m. any_name owner.text (present (alternative 0 _ refl (marked (one refl (any_name member.text (marked (on (on m)))))))))
  expr_reads (Call' function shape row within span) allowed =
      let rows = call_args row (and_parts (are_allowed (args_row row)) true allowed).0 in
      of_primary true (expr (Call' function shape row within span))
      (λ R S rest s to m. any_name function.text (present (alternative 1 _ refl (marked (one refl (marked (rows _ _ _ _ to (one refl (marked (on (on m)))))))))))
  expr_reads (New made span) allowed =
      of_primary false (expr (New made span)) (λ R S rest s to m. alternative 4 _ refl (marked (one refl (any_name made.text (marked (on m))))))
  expr_reads (IsValid' value span) allowed =
      let inner = as_expression value (expr_reads value (and_parts (is_allowed (expr value)) true allowed).0) in
      of_primary false (expr (IsValid' value span)) (λ R S rest s to m. alternative 5 _ refl (marked (one refl (one refl (inner _ _ _ _ to (one refl (marked (on m))))))))
  expr_reads (IsInvalid' value span) allowed =
      let inner = as_expression value (expr_reads value (and_parts (is_allowed (expr value)) true allowed).0) in
      of_primary false (expr (IsInvalid' value span)) (λ R S rest s to m. alternative 6 _ refl (marked (one refl (one refl (inner _ _ _ _ to (one refl (marked (on m))))))))
  expr_reads (Cast' target None value span) allowed =
      let inner = as_expression value (expr_reads value (and_parts (is_allowed (expr value)) true allowed).0) in
      of_primary false (expr (Cast' target None value span))
      (λ R S rest s to m. alternative 7 _ refl (marked (one refl (one refl (any_name target.text (one refl (absent (inner _ _ _ _ to (one refl (marked (on m)))))))))))
  expr_reads (Cast' target (Some mode) value span) allowed =
      let inner = as_expression value (expr_reads value (and_parts (is_allowed (expr value)) true allowed).0) in
      of_primary false (expr (Cast' target (Some mode) value span))
      (λ R S rest s to m. alternative 7 _ refl (marked (one refl (one refl (any_name target.text (one refl (present (one refl (one refl (on (inner _ _ _ _ to (one refl (marked (on m))))))))))))))
  expr_reads (Group' inner span) allowed =
      let held = as_expression inner (expr_reads inner (and_parts (is_allowed (expr inner)) true allowed).0) in
      of_primary false (expr (Group' inner span)) (λ R S rest s to m. alternative 8 _ refl (marked (one refl (held _ _ _ _ to (one refl (marked (on m)))))))

  operands_made : {n : _} (row : Row_of-Operand n) (level d : ℕ) → d + level ≡ 6 → are_allowed (operand_row level row) ≡ true → (R : Row Step) (S : Rows Step) (rest : List TokenKind) (s to : Made) → Makes R S rest (ended_node s (shape_in (operand_row level row))) to → Makes (many (operand_at d) (at close done)) (next R S) (spelled_in (operand_row level row) rest) s to
  operands_made end_of-Operand level d sums allowed R S rest s to m = enough (marked (on m))
  operands_made (more_of-Operand op value row) level d sums allowed R S rest s to m =
      let same = and_parts (operator_level op == level) _ allowed in
      let high = and_parts (nat_lt level (level_of value)) _ same.1 in
      let both = and_parts (is_allowed (expr value)) _ high.1 in
      let tighter = ltb-true level (level_of value) high.0 in
      again (one (operator_at op d level sums (eqb-true (operator_level op) level same.0))
      (as_form (level_of value) (begins_with_name value) (expr value) (expr_reads value both.0) d (omega arith) (omega arith)
      done (next (many (operand_at d) (at close done)) (next R S)) (spelled_in (operand_row level row) rest) _ to
      (on (operands_made row level d sums both.1 R S rest _ to m))))

  -- behind the first operand
  operation_made : {n : _} (row : Row_of-Operand n) (level d : ℕ) → d + level ≡ 6 → 0 < row_level row → are_allowed (operand_row level row) ≡ true → (R : Row Step) (S : Rows Step) (rest : List TokenKind) (first : Outline) (s to : Made) → Makes R S rest (with_part (node no_span (part first (shape_in (operand_row level row)))) s) to → Makes (operation_at d) (next R S) (spelled_in (operand_row level row) rest) (with_part first s) to
  operation_made end_of-Operand level d sums some allowed R S rest first s to m = absurd (omega arith)
  operation_made (more_of-Operand op value row) level d sums some allowed R S rest first s to m =
      let same = and_parts (operator_level op == level) _ allowed in
      let high = and_parts (nat_lt level (level_of value)) _ same.1 in
      let both = and_parts (is_allowed (expr value)) _ high.1 in
      let tighter = ltb-true level (level_of value) high.0 in
      marked (one (operator_at op d level sums (eqb-true (operator_level op) level same.0))
      (as_form (level_of value) (begins_with_name value) (expr value) (expr_reads value both.0) d (omega arith) (omega arith)
      (many (operand_at d) (at close done)) (next R S) (spelled_in (operand_row level row) rest) _ to
      (operands_made row level d sums both.1 R S rest _ to m)))

  suffix_made : (x : Suffix) → is_allowed (suffix x) ≡ true → Leads (of Form.suffix) (suffix x)
  suffix_made (Field field span) allowed R S rest s to m =
      alternative 0 _ refl (marked (one refl (any_name field.text (absent (marked (on m))))))
  suffix_made (Method' method shape row within span) allowed R S rest s to m =
      alternative 0 _ refl (marked (one refl (any_name method.text (present (one refl (marked
      (call_args row (and_parts (are_allowed (args_row row)) true allowed).0 _ _ _ _ to (one refl (on (marked (on m)))))))))))
  suffix_made (Index key span) allowed R S rest s to m =
      let inside_it = as_expression key (expr_reads key (and_parts (is_allowed (expr key)) true allowed).0) in
      alternative 1 _ refl (marked (one refl (inside_it _ _ _ _ to (one refl (marked (on m))))))

  suffixes_made : {n : _} (row : Row_of-Suffix n) → are_allowed (suffix_row row) ≡ true → (R : Row Step) (S : Rows Step) (rest : List TokenKind) (s to : Made) → Makes R S rest (ended_node s (shape_in (suffix_row row))) to → Makes (many suffix_part (at close done)) (next R S) (spelled_in (suffix_row row) rest) s to
  suffixes_made end_of-Suffix allowed R S rest s to m = enough (marked (on m))
  suffixes_made (more_of-Suffix first row) allowed R S rest s to m =
      let both = and_parts (is_allowed (suffix first)) (are_allowed (suffix_row row)) allowed in
      again (suffix_made first both.0 done (next (many suffix_part (at close done)) (next R S)) (spelled_in (suffix_row row) rest) s to
      (on (suffixes_made row both.1 R S rest _ to m)))

  -- behind what the suffixes are of
  suffixed_made : {n : _} (row : Row_of-Suffix n) → has_suffix row ≡ true → are_allowed (suffix_row row) ≡ true → (R : Row Step) (S : Rows Step) (rest : List TokenKind) (value : Outline) (s to : Made) → Makes R S rest (with_part (node no_span (part value (shape_in (suffix_row row)))) s) to → Makes (at wrap (of Form.suffix (many suffix_part (at close done)))) (next R S) (spelled_in (suffix_row row) rest) (with_part value s) to
  suffixed_made end_of-Suffix some allowed R S rest value s to m = absurd (false≢true some)
  suffixed_made (more_of-Suffix first row) some allowed R S rest value s to m =
      let both = and_parts (is_allowed (suffix first)) (are_allowed (suffix_row row)) allowed in
      marked (suffix_made first both.0 (many suffix_part (at close done)) (next R S) (spelled_in (suffix_row row) rest) _ to
      (suffixes_made row both.1 R S rest _ to m))

  call_args : {n : _} (row : Row_of-Expr n) → are_allowed (args_row row) ≡ true → (R : Row Step) (S : Rows Step) (rest : List TokenKind) (s to : Made) → Makes R S rest (ended_node s (shape_in (args_row row))) to → Makes (optional (of arguments) (at close R)) S (spelled_in (args_row row) rest) s to
  call_args end_of-Expr allowed R S rest s to m = absent (marked m)
  call_args (more_of-Expr first row) allowed R S rest s to m =
      let both = and_parts (is_allowed (expr first)) (are_allowed (more_args_row row)) allowed in
      present (alternative 0 _ refl (as_expression first (expr_reads first both.0) (many argument done) (next done (next (at close R) S)) (spelled_in (more_args_row row) rest) s to
      (more_args row both.1 R S rest (with_part (shape_of (expr first)) s) to m)))

  more_args : {n : _} (row : Row_of-Expr n) → are_allowed (more_args_row row) ≡ true → (R : Row Step) (S : Rows Step) (rest : List TokenKind) (s to : Made) → Makes R S rest (ended_node s (shape_in (more_args_row row))) to → Makes (many argument done) (next done (next (at close R) S)) (spelled_in (more_args_row row) rest) s to
  more_args end_of-Expr allowed R S rest s to m = enough (on (on (marked m)))
  more_args (more_of-Expr first row) allowed R S rest s to m =
      let both = and_parts (is_allowed (expr first)) (are_allowed (more_args_row row)) allowed in
      again (one refl (as_expression first (expr_reads first both.0) done (next (many argument done) (next done (next (at close R) S))) (spelled_in (more_args_row row) rest) _ to
      (on (more_args row both.1 R S rest _ to m))))

pub expression_forms : (e : Expr) → Forms expression (expr e)
expression_forms e = record { makes = λ allowed. as_expression e (expr_reads e allowed) }

-- and is read from its start, operators of any level included
pub from_its_start : (e : Expr) → is_allowed (expr e) ≡ true → Leads (λ R. front (begins_with_name e) (operators_to 6 R)) (expr e)
from_its_start e allowed = let reading = expr_reads e allowed in let some = reading.some in reading.up_from 6 (omega arith) (omega arith)
