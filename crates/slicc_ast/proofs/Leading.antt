-- What an expression's tree spells is a list of the written grammar, of each form from its own level up.
use Rattle.std.proofs.Common.{◌≡◌, ℕ, zero, suc, ◌+◌, ◌-◌, ◌≤◌, ◌<◌, nat_le, nat_lt, ◌==◌, true, ◌||◌, cond, List, [], ◌∷◌, Some, None, refl, subst, ◌∙◌, append-nil, arith, codes}
use Rattle.std.specs.Str.{bytes_eq}
use Rattle.std.specs.List.{slice_get}
use Rattle.std.proofs.lemmas.Bool.{and_parts, eqb-true, leb-true, ltb-true, cond_both}
use Rattle.slicc_ast.specs.declared.tree.token.Sign.TheVariants.{CloseParenthesis, Star, Plus as PlusSign, Minus as MinusSign, Less as LessSign, Greater as GreaterSign, LessOrEqual as LessOrEqualSign, GreaterOrEqual as GreaterOrEqualSign, Equal as EqualSign, Unequal as UnequalSign, And as AndSign, Or as OrSign}
use Rattle.slicc_ast.specs.declared.tree.expression.Operator.{Operator}
use Rattle.slicc_ast.specs.declared.tree.expression.Operator.TheVariants.{Or, And, Equal, Unequal, Less, Greater, LessOrEqual, GreaterOrEqual, Plus, Minus, Times}
use Rattle.slicc_ast.specs.declared.tree.expression.Expr.{Expr, Number, True, False, Nothing, Variable, Member, Call', New, Row_of-Expr, end_of-Expr, more_of-Expr, Row_of-Operand, end_of-Operand, more_of-Operand, Row_of-Suffix, end_of-Suffix, more_of-Suffix}
use Rattle.slicc_ast.specs.Prelude.{Operation', Not', Negate', Postfix', IsValid', IsInvalid', Cast', Group', is_allowed, are_allowed, expr, level_of, row_level, has_suffix, operator_sign, operator_level, operand_row, suffix_row, args_row, more_args_row, has, Row, Rows, done, form, maybe, many, end, up, Derives, Matches, Whole, ended, one, joined, Form, expression, conjunction, equality, order, sum, product, unary, postfix, primary, constant, name_kind, machine_type, functional_name, other_name, sign_kind, names_of, of, comma, ◌▸◌, parentheses, optional, string, written, spelling}
use Rattle.slicc_ast.specs.declared.tree.expression.Suffix.{Suffix, Field, Method', Index}
use Rattle.slicc_ast.specs.Expressions.{suffix}
use Rattle.slicc_ast.specs.Matches.Matches.{absent, enough, inside, outside}
use Rattle.slicc_ast.proofs.Translating.{fold_to, to_present, to_again}
use Rattle.slicc_ast.proofs.Followed.{follow, follow_parts, follow-spelling}

pub name_is_one : (text : List ℕ) → has names_of (name_kind text) ≡ true
name_is_one text =
    cond_both (bytes_eq text (codes "MachineType")) machine_type
    (cond (bytes_eq text (codes "functionalRead") || bytes_eq text (codes "functionalWrite")) functional_name other_name)
    (λ kind. has names_of kind ≡ true) (λ is. refl)
    (λ is. cond_both (bytes_eq text (codes "functionalRead") || bytes_eq text (codes "functionalWrite")) functional_name other_name (λ kind. has names_of kind ≡ true) (λ f. refl) (λ f. refl))

-- whatever list is behind the form, the tokens before it make one of the form and it
abbrev pub Leads : Form → (List ℕ → List ℕ) → Type 0
Leads n tokens =
    (r : Row Form) (S : Rows Form) (rest : List ℕ) (o : ℕ) → Matches written Whole r S rest o → Matches written Whole (form n r) S (tokens rest) o

-- the forms of expressions, by how far they are above unary ones, and the operators between two of one form
abbrev pub form_at : ℕ → Form
form_at zero = unary
form_at (suc zero) = product
form_at (suc (suc zero)) = sum
form_at (suc (suc (suc zero))) = order
form_at (suc (suc (suc (suc zero)))) = equality
form_at (suc (suc (suc (suc (suc zero))))) = conjunction
form_at (suc (suc (suc (suc (suc (suc d)))))) = expression

abbrev pub kinds_at : ℕ → List ℕ
kinds_at zero = sign_kind Star ∷ []
kinds_at (suc zero) = sign_kind PlusSign ∷ sign_kind MinusSign ∷ []
kinds_at (suc (suc zero)) = sign_kind LessSign ∷ sign_kind GreaterSign ∷ sign_kind LessOrEqualSign ∷ sign_kind GreaterOrEqualSign ∷ []
kinds_at (suc (suc (suc zero))) = sign_kind EqualSign ∷ sign_kind UnequalSign ∷ []
kinds_at (suc (suc (suc (suc zero)))) = sign_kind AndSign ∷ []
kinds_at (suc (suc (suc (suc (suc d))))) = sign_kind OrSign ∷ []

abbrev pub operand_at : ℕ → Row Form
operand_at d = Row.token (kinds_at d) (form (form_at d) done)

fold_up : (d : ℕ) → d ≤ 5 → (r : Row Form) (S : Rows Form) (ts : List ℕ) (o : ℕ) → Matches written Whole (form (form_at d) (many (operand_at d) r)) S ts o → Matches written Whole (form (form_at (suc d)) r) S ts o
fold_up zero le r S ts o m = fold_to written product 0 refl Whole ts o m
fold_up (suc zero) le r S ts o m = fold_to written sum 0 refl Whole ts o m
fold_up (suc (suc zero)) le r S ts o m = fold_to written order 0 refl Whole ts o m
fold_up (suc (suc (suc zero))) le r S ts o m = fold_to written equality 0 refl Whole ts o m
fold_up (suc (suc (suc (suc zero)))) le r S ts o m = fold_to written conjunction 0 refl Whole ts o m
fold_up (suc (suc (suc (suc (suc zero))))) le r S ts o m = fold_to written expression 0 refl Whole ts o m
fold_up (suc (suc (suc (suc (suc (suc d)))))) le r S ts o m = absurd (omega arith)

climb_one : (d : ℕ) (tokens : List ℕ → List ℕ) → d ≤ 5 → Leads (form_at d) tokens → Leads (form_at (suc d)) tokens
climb_one d tokens le leads r S rest o m = fold_up d le r S (tokens rest) o (leads (many (operand_at d) r) S rest o (enough m))

climb : (k d e : ℕ) (tokens : List ℕ → List ℕ) → d + k ≡ e → e ≤ 6 → Leads (form_at d) tokens → Leads (form_at e) tokens
climb zero d e tokens same le leads = subst (λ f. Leads (form_at f) tokens) (let is : d ≡ e = omega arith in is) leads
climb (suc k) d e tokens same le leads = climb k (suc d) e tokens (omega arith) le (climb_one d tokens (omega arith) leads)

abbrev pub suffix_part : Row Form
suffix_part = form Form.suffix done

-- an expression of a level, from 1 for the loosest operator to 9, leads the forms from its own up
pub record Leading (level : ℕ) (tokens : List ℕ → List ℕ) : Type 0 where
  pub some : 1 ≤ level
  pub up_from : (d : ℕ) → d ≤ 6 → 7 ≤ d + level → Leads (form_at d) tokens
  pub as_primary : 9 ≤ level → Leads primary tokens

of_unary : (level : ℕ) (tokens : List ℕ → List ℕ) → 7 ≤ level → Leads unary tokens → (9 ≤ level → Leads primary tokens) → Leading level tokens
of_unary level tokens le leads tight =
    record { some = omega arith; up_from = λ d small wide. climb d 0 d tokens (omega arith) small leads; as_primary = tight }

of_primary : (tokens : List ℕ → List ℕ) → Leads primary tokens → Leading 9 tokens
of_primary tokens leads =
    of_unary 9 tokens (omega arith)
    (λ r S rest o m. fold_to written unary 2 refl Whole (tokens rest) o (fold_to written postfix 0 refl Whole (tokens rest) o
    (leads (many suffix_part r) S rest o (enough m))))
    (λ le. leads)

-- how far the operands of an operator are above unary expressions
abbrev pub depth_of : Operator → ℕ
depth_of Times = 0
depth_of Plus = 1
depth_of Minus = 1
depth_of Less = 2
depth_of Greater = 2
depth_of LessOrEqual = 2
depth_of GreaterOrEqual = 2
depth_of Equal = 3
depth_of Unequal = 3
depth_of And = 4
depth_of Or = 5

pub depth_level : (op : Operator) → depth_of op + operator_level op ≡ 6
depth_level Times = refl
depth_level Plus = refl
depth_level Minus = refl
depth_level Less = refl
depth_level Greater = refl
depth_level LessOrEqual = refl
depth_level GreaterOrEqual = refl
depth_level Equal = refl
depth_level Unequal = refl
depth_level And = refl
depth_level Or = refl

sign_at : (op : Operator) → has (kinds_at (depth_of op)) (sign_kind (operator_sign op)) ≡ true
sign_at Times = refl
sign_at Plus = refl
sign_at Minus = refl
sign_at Less = refl
sign_at Greater = refl
sign_at LessOrEqual = refl
sign_at GreaterOrEqual = refl
sign_at Equal = refl
sign_at Unequal = refl
sign_at And = refl
sign_at Or = refl

some_level : (op : Operator) → 1 ≤ operator_level op
some_level Times = omega arith
some_level Plus = omega arith
some_level Minus = omega arith
some_level Less = omega arith
some_level Greater = omega arith
some_level LessOrEqual = omega arith
some_level GreaterOrEqual = omega arith
some_level Equal = omega arith
some_level Unequal = omega arith
some_level And = omega arith
some_level Or = omega arith

operator_at : (op : Operator) (d level : ℕ) → d + level ≡ 6 → operator_level op ≡ level → has (kinds_at d) (sign_kind (operator_sign op)) ≡ true
operator_at op d level sums is =
    let own : depth_of op + operator_level op ≡ 6 = depth_level op in
    let same : depth_of op ≡ d = omega arith in
    subst (λ n. has (kinds_at n) (sign_kind (operator_sign op)) ≡ true) same (sign_at op)

pub most_level : {n : _} (row : Row_of-Operand n) → row_level row ≤ 6
most_level end_of-Operand = omega arith
most_level (more_of-Operand op value row) = let own : depth_of op + operator_level op ≡ 6 = depth_level op in omega arith

-- operands of a level, from the first one on
of_operation : (level : ℕ) (tokens : List ℕ → List ℕ) → 0 < level → level ≤ 6 → ((d : ℕ) → d + level ≡ 6 → (r : Row Form) (S : Rows Form) (rest : List ℕ) (o : ℕ) → Matches written Whole r S rest o → Matches written Whole (form (form_at d) (many (operand_at d) r)) S (tokens rest) o) → Leading level tokens
of_operation level tokens some most own =
    let d = 6 - level in
    let above : Leads (form_at (suc d)) tokens = λ r S rest o m. fold_up d (omega arith) r S (tokens rest) o (own d (omega arith) r S rest o m) in
    record {
      some = omega arith;
      up_from = λ e small wide. climb (e - suc d) (suc d) e tokens (omega arith) small above;
      as_primary = λ tight. absurd (omega arith);
    }

abbrev pub close : Row Form
close = Row.token (sign_kind CloseParenthesis ∷ []) done

abbrev pub argument : Row Form
argument = (comma ▸ of expression) done

-- any expression leads the form of all
pub as_expression : (e : Expr) → Leading (level_of e) (follow (expr e)) → Leads expression (follow (expr e))
as_expression e leading = let some = leading.some in leading.up_from 6 (omega arith) (omega arith)

-- a primary expression of a constant's alternative
of_constant : (place : ℕ) (chosen : Row Form) (tokens : List ℕ → List ℕ) → slice_get (written.alternatives constant) place ≡ Some chosen → ((r : Row Form) (S : Rows Form) (rest : List ℕ) (o : ℕ) → Matches written Whole r S rest o → Matches written Whole (joined chosen r) S (tokens rest) o) → Leads primary tokens
of_constant place chosen tokens at leads r S rest o m =
    fold_to written primary 0 refl Whole (tokens rest) o (fold_to written constant place at Whole (tokens rest) o (leads r S rest o m))

mutual
  pub expr_leads : (e : Expr) → is_allowed (expr e) ≡ true → Leading (level_of e) (follow (expr e))
  expr_leads (Operation' first n others span) allowed =
      let some = and_parts (nat_lt 0 (row_level others)) _ allowed in
      let low = and_parts (nat_lt (row_level others) (level_of first)) _ some.1 in
      let both = and_parts (is_allowed (expr first)) _ low.1 in
      let inner = expr_leads first both.0 in
      let tighter = ltb-true (row_level others) (level_of first) low.0 in
      of_operation (row_level others) (follow (expr (Operation' first n others span)))
      (ltb-true 0 (row_level others) some.0) (most_level others)
      (λ d sums r S rest o m. inner.up_from d (omega arith) (omega arith) (many (operand_at d) r) S _ o
      (operands_lead others (row_level others) d sums both.1 r S rest o m))
  expr_leads (Not' operand span) allowed =
      let wide = and_parts (nat_le 7 (level_of operand)) _ allowed in
      let inner = expr_leads operand (and_parts (is_allowed (expr operand)) true wide.1).0 in
      let le = leb-true 7 (level_of operand) wide.0 in
      of_unary 7 (follow (expr (Not' operand span))) (omega arith)
      (λ r S rest o m. fold_to written unary 0 refl Whole (follow (expr (Not' operand span)) rest) o (inside refl (inner.up_from 0 (omega arith) (omega arith) done (up r S) rest o (outside m))))
      (λ tight. absurd (omega arith))
  expr_leads (Negate' operand span) allowed =
      let wide = and_parts (nat_le 7 (level_of operand)) _ allowed in
      let inner = expr_leads operand (and_parts (is_allowed (expr operand)) true wide.1).0 in
      let le = leb-true 7 (level_of operand) wide.0 in
      of_unary 7 (follow (expr (Negate' operand span))) (omega arith)
      (λ r S rest o m. fold_to written unary 1 refl Whole (follow (expr (Negate' operand span)) rest) o (inside refl (inner.up_from 0 (omega arith) (omega arith) done (up r S) rest o (outside m))))
      (λ tight. absurd (omega arith))
  expr_leads (Postfix' value n suffixes span) allowed =
      let some = and_parts (has_suffix suffixes) _ allowed in
      let wide = and_parts (nat_le 9 (level_of value)) _ some.1 in
      let both = and_parts (is_allowed (expr value)) _ wide.1 in
      let inner = expr_leads value both.0 in
      of_unary 8 (follow (expr (Postfix' value n suffixes span))) (omega arith)
      (λ r S rest o m. fold_to written unary 2 refl Whole _ o (fold_to written postfix 0 refl Whole _ o
      (inner.as_primary (leb-true 9 (level_of value) wide.0) (many suffix_part r) S _ o (suffixes_lead suffixes both.1 r S rest o m))))
      (λ tight. absurd (omega arith))
  expr_leads (Number n span) allowed = of_primary _ (of_constant 0 _ (follow (expr (Number n span))) refl (λ r S rest o m. one refl m))
  expr_leads (True span) allowed = of_primary _ (of_constant 1 _ (follow (expr (True span))) refl (λ r S rest o m. one refl m))
  expr_leads (False span) allowed = of_primary _ (of_constant 2 _ (follow (expr (False span))) refl (λ r S rest o m. one refl m))
  expr_leads (Nothing span) allowed = of_primary _ (of_constant 3 _ (follow (expr (Nothing span))) refl (λ r S rest o m. one refl m))
  expr_leads (Variable variable) allowed =
      of_primary (follow (expr (Variable variable))) (λ r S rest o m. fold_to written primary 1 refl Whole _ o (one (name_is_one variable.text) m))
  expr_leads (Member owner member span) allowed =
      of_primary (follow (expr (Member owner member span)))
      (λ r S rest o m. fold_to written primary 2 refl Whole _ o (one (name_is_one owner.text) (one refl (one (name_is_one member.text) m))))
  expr_leads (Call' function shape row within span) allowed =
      of_primary (follow (expr (Call' function shape row within span)))
      (λ r S rest o m. fold_to written primary 3 refl Whole _ o (one (name_is_one function.text)
      (inside refl (call_args row (and_parts (are_allowed (args_row row)) true allowed).0 (up r S) _ o (one refl (outside m))))))
  expr_leads (New made span) allowed =
      of_primary _ (of_constant 4 _ (follow (expr (New made span))) refl (λ r S rest o m. one refl (one (name_is_one made.text) m)))
  expr_leads (IsValid' value span) allowed =
      let inner = as_expression value (expr_leads value (and_parts (is_allowed (expr value)) true allowed).0) in
      of_primary _ (of_constant 5 _ (follow (expr (IsValid' value span))) refl (λ r S rest o m. one refl (inside refl (inner close (up r S) _ o (one refl (outside m))))))
  expr_leads (IsInvalid' value span) allowed =
      let inner = as_expression value (expr_leads value (and_parts (is_allowed (expr value)) true allowed).0) in
      of_primary _ (of_constant 6 _ (follow (expr (IsInvalid' value span))) refl (λ r S rest o m. one refl (inside refl (inner close (up r S) _ o (one refl (outside m))))))
  expr_leads (Cast' target None value span) allowed =
      let inner = as_expression value (expr_leads value (and_parts (is_allowed (expr value)) true allowed).0) in
      of_primary _ (of_constant 7 _ (follow (expr (Cast' target None value span))) refl
      (λ r S rest o m. one refl (inside refl (one (name_is_one target.text) (one refl (absent (inner close (up r S) _ o (one refl (outside m)))))))))
  expr_leads (Cast' target (Some mode) value span) allowed =
      let inner = as_expression value (expr_leads value (and_parts (is_allowed (expr value)) true allowed).0) in
      of_primary _ (of_constant 7 _ (follow (expr (Cast' target (Some mode) value span))) refl
      (λ r S rest o m. one refl (inside refl (one (name_is_one target.text) (one refl
      (to_present written ((string ▸ comma) done) (form expression close) Whole _ o (one refl (one refl (inner close (up r S) _ o (one refl (outside m)))))))))))
  expr_leads (Group' inner span) allowed =
      let held = as_expression inner (expr_leads inner (and_parts (is_allowed (expr inner)) true allowed).0) in
      of_primary _ (of_constant 8 _ (follow (expr (Group' inner span))) refl (λ r S rest o m. inside refl (held close (up r S) _ o (one refl (outside m)))))

  operands_lead : {n : _} (row : Row_of-Operand n) (level d : ℕ) → d + level ≡ 6 → are_allowed (operand_row level row) ≡ true → (r : Row Form) (S : Rows Form) (rest : List ℕ) (o : ℕ) → Matches written Whole r S rest o → Matches written Whole (many (operand_at d) r) S (follow_parts (operand_row level row) rest) o
  operands_lead end_of-Operand level d sums allowed r S rest o m = enough m
  operands_lead (more_of-Operand op value row) level d sums allowed r S rest o m =
      let same = and_parts (operator_level op == level) _ allowed in
      let high = and_parts (nat_lt level (level_of value)) _ same.1 in
      let both = and_parts (is_allowed (expr value)) _ high.1 in
      let tighter = ltb-true level (level_of value) high.0 in
      to_again written (operand_at d) r Whole _ o (one (operator_at op d level sums (eqb-true (operator_level op) level same.0))
      ((expr_leads value both.0).up_from d (omega arith) (omega arith) (many (operand_at d) r) S _ o
      (operands_lead row level d sums both.1 r S rest o m)))

  suffix_leads : (s : Suffix) → is_allowed (suffix s) ≡ true → Leads Form.suffix (follow (suffix s))
  suffix_leads (Field field span) allowed r S rest o m =
      fold_to written Form.suffix 0 refl Whole _ o (one refl (one (name_is_one field.text) (absent m)))
  suffix_leads (Method' method shape row within span) allowed r S rest o m =
      fold_to written Form.suffix 0 refl Whole _ o (one refl (one (name_is_one method.text)
      (to_present written (parentheses (optional (of Form.arguments)) done) r Whole _ o
      (inside refl (call_args row (and_parts (are_allowed (args_row row)) true allowed).0 (up r S) _ o (one refl (outside m)))))))
  suffix_leads (Index key span) allowed r S rest o m =
      let inside_it = as_expression key (expr_leads key (and_parts (is_allowed (expr key)) true allowed).0) in
      fold_to written Form.suffix 1 refl Whole _ o (inside refl (inside_it _ (up r S) _ o (one refl (outside m))))

  suffixes_lead : {n : _} (row : Row_of-Suffix n) → are_allowed (suffix_row row) ≡ true → (r : Row Form) (S : Rows Form) (rest : List ℕ) (o : ℕ) → Matches written Whole r S rest o → Matches written Whole (many suffix_part r) S (follow_parts (suffix_row row) rest) o
  suffixes_lead end_of-Suffix allowed r S rest o m = enough m
  suffixes_lead (more_of-Suffix first row) allowed r S rest o m =
      let both = and_parts (is_allowed (suffix first)) (are_allowed (suffix_row row)) allowed in
      to_again written suffix_part r Whole _ o (suffix_leads first both.0 (many suffix_part r) S _ o (suffixes_lead row both.1 r S rest o m))

  call_args : {n : _} (row : Row_of-Expr n) → are_allowed (args_row row) ≡ true → (S : Rows Form) (rest : List ℕ) (o : ℕ) → Matches written Whole close S rest o → Matches written Whole (maybe (form Form.arguments done) close) S (follow_parts (args_row row) rest) o
  call_args end_of-Expr allowed S rest o m = absent m
  call_args (more_of-Expr first row) allowed S rest o m =
      let both = and_parts (is_allowed (expr first)) (are_allowed (more_args_row row)) allowed in
      to_present written (form Form.arguments done) close Whole _ o (fold_to written Form.arguments 0 refl Whole _ o
      (as_expression first (expr_leads first both.0) (many argument close) S _ o (more_args row both.1 S rest o m)))

  more_args : {n : _} (row : Row_of-Expr n) → are_allowed (more_args_row row) ≡ true → (S : Rows Form) (rest : List ℕ) (o : ℕ) → Matches written Whole close S rest o → Matches written Whole (many argument close) S (follow_parts (more_args_row row) rest) o
  more_args end_of-Expr allowed S rest o m = enough m
  more_args (more_of-Expr first row) allowed S rest o m =
      let both = and_parts (is_allowed (expr first)) (are_allowed (more_args_row row)) allowed in
      to_again written argument close Whole _ o (one refl
      (as_expression first (expr_leads first both.0) (many argument close) S _ o (more_args row both.1 S rest o m)))

-- so an expression's tokens are one of the written grammar
pub expression_derives : (e : Expr) → is_allowed (expr e) ≡ true → Derives written (form expression done) end (spelling (expr e))
expression_derives e allowed =
    let whole = as_expression e (expr_leads e allowed) done end [] 0 ended in
    subst (λ ts. Derives written (form expression done) end ts) (follow-spelling (expr e) [] ∙ append-nil (spelling (expr e))) whole
