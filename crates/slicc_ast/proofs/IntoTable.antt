-- The rows of the written grammar are turned into those of the table that one token ahead decides.
use Rattle.std.proofs.Common.{◌≡◌, ℕ, zero, suc, ◌≤◌, ◌==◌, true, false, List, [], ◌∷◌, length, refl, ◌⊎◌, inl, inr, arith}
use Rattle.std.proofs.lemmas.Bool.{or_cases, or_left, or_right}
use Rattle.slicc_ast.specs.declared.tree.token.Word.TheVariants.{Transition, Machine, If, Else}
use Rattle.slicc_ast.specs.declared.tree.token.Sign.TheVariants.{Comma, OpenParenthesis, CloseParenthesis, Equals, Star}
use Rattle.slicc_ast.specs.Prelude.{has, Row, Rows, done, form, maybe, many, up, Extent, Matches, stopped, one, Covers, joined, Form, member_end, functional_end, machine_name, declaration, declaration_end, named_end, transition_end, statement, statement_end, conditional, otherwise, expression, conjunction, equality, order, sum, product, unary, postfix, primary, opening, name_end, other_name, machine_type, functional_name, word_kind, sign_kind, ◌▸◌, of, optional, repeated, names_of, machine_type_name, value, next_state, string, comma, colon, semicolon, assign, parentheses, braces, sums, orders, equalities, conjunctions, disjunctions, operators, written, table}
use Rattle.slicc_ast.specs.Matches.Matches.{again, enough}
use Rattle.slicc_ast.proofs.KindSets.{in_either}
use Rattle.slicc_ast.proofs.Joining.{merge}
use Rattle.slicc_ast.proofs.Rewriting.{exchange_within}
use Rattle.slicc_ast.proofs.Translating.{To, Each, IsFormCovered, covers_by, covered_by_itself, then_to, fold_to, form_to, token_to, either_to, maybe_to, to_present, to_absent, many_to, nested_to, end_to}
use Rattle.slicc_ast.specs.Form.Form.{member, pair, machine, parameter, transition, names, formals, block, suffix}
use Rattle.slicc_ast.specs.Parts.{word, sign, name, star, pairs}

-- any name is a plain one or that of a skipped function; or it is `MachineType` or another
pub plain_or_skipped : (kind : ℕ) → has names_of kind ≡ true → (has (other_name ∷ machine_type ∷ []) kind ≡ true) ⊎ (has (functional_name ∷ []) kind ≡ true)
plain_or_skipped kind is = in_either (other_name ∷ machine_type ∷ []) (functional_name ∷ []) kind is

pub type_or_other : (kind : ℕ) → has names_of kind ≡ true → (has (machine_type ∷ []) kind ≡ true) ⊎ (has (other_name ∷ functional_name ∷ []) kind ≡ true)
type_or_other kind is =
    elim (or_cases (other_name == kind) (has (machine_type ∷ functional_name ∷ []) kind) is) [
      | inl other ↦ inr (or_left (other_name == kind) (has (functional_name ∷ []) kind) other)
      | inr later ↦ elim (or_cases (machine_type == kind) (has (functional_name ∷ []) kind) later) [
        | inl machine_one ↦ inl (or_left (machine_type == kind) false machine_one)
        | inr functional ↦ inr (or_right (other_name == kind) (has (functional_name ∷ []) kind) functional)
      ]
    ]

-- rows that parts make before a row
abbrev plain_kinds : List ℕ
plain_kinds = other_name ∷ machine_type ∷ []

abbrev skipped_kinds : List ℕ
skipped_kinds = functional_name ∷ []

abbrev formals_part : Row Form
formals_part = parentheses (optional (of formals)) done

abbrev assigned : Row Form
assigned = (assign ▸ of expression) done

abbrev named : Row Form → Row Form
named = optional (of name_end)

abbrev suffixes : Row Form → Row Form
suffixes = repeated (of suffix)

member_rows : Each (IsFormCovered table member) (written.alternatives member)
member_rows = (
  λ r S. then_to table (token_to table names_of
      (either_to table names_of plain_kinds skipped_kinds (pairs (semicolon r)) (form member_end r) plain_or_skipped
      (then_to table (token_to table plain_kinds (to_absent table formals_part (pairs (semicolon r)))) (fold_to table member_end 0 refl))
      (then_to table (token_to table skipped_kinds (fold_to table functional_end 0 refl)) (fold_to table member_end 1 refl))))
      (fold_to table member 0 refl),
  (
    λ r S. then_to table (token_to table names_of
        (then_to table (token_to table plain_kinds (to_present table formals_part (pairs (semicolon r)))) (fold_to table member_end 0 refl)))
        (fold_to table member 0 refl),
    (
      λ r S. then_to table (token_to table names_of
          (then_to table (token_to table skipped_kinds (fold_to table functional_end 1 refl)) (fold_to table member_end 1 refl)))
          (fold_to table member 0 refl),
      tt,
    ),
  ),
)

declaration_rows : Each (IsFormCovered table declaration) (written.alternatives declaration)
declaration_rows = (
  λ r S. fold_to table declaration 0 refl,
  (
    λ r S. fold_to table declaration 1 refl,
    (
      λ r S. fold_to table declaration 2 refl,
      (
        λ r S. fold_to table declaration 3 refl,
        (
          λ r S. fold_to table declaration 4 refl,
          (
            λ r S. fold_to table declaration 5 refl,
            (
              λ r S. fold_to table declaration 6 refl,
              (
                λ r S. then_to table (token_to table names_of
                    (then_to table (token_to table plain_kinds (fold_to table named_end 1 refl)) (fold_to table declaration_end 1 refl)))
                    (fold_to table declaration 7 refl),
                (
                  λ r S. then_to table (token_to table names_of
                      (then_to table (token_to table skipped_kinds (fold_to table functional_end 1 refl)) (fold_to table declaration_end 2 refl)))
                      (fold_to table declaration 7 refl),
                  (
                    λ r S. then_to table (token_to table names_of
                        (maybe_to table (star done) (name (pairs (semicolon r))) (form declaration_end r)
                        (fold_to table declaration_end 0 refl)
                        (either_to table names_of plain_kinds skipped_kinds (pairs (semicolon r)) (form declaration_end r) plain_or_skipped
                        (then_to table (token_to table plain_kinds (fold_to table named_end 0 refl)) (fold_to table declaration_end 1 refl))
                        (then_to table (token_to table skipped_kinds (fold_to table functional_end 0 refl)) (fold_to table declaration_end 2 refl)))))
                        (fold_to table declaration 7 refl),
                    tt,
                  ),
                ),
              ),
            ),
          ),
        ),
      ),
    ),
  ),
)

-- in the head of a machine, and in that of a transition, up to the parenthesis that closes it
abbrev closed : Row Form
closed = sign CloseParenthesis done

machine_rows : Each (IsFormCovered table machine) (written.alternatives machine)
machine_rows = (
  λ r S. then_to table (token_to table (word_kind Machine ∷ [])
      (nested_to table (sign_kind OpenParenthesis ∷ [])
      (optional (machine_type_name ▸ colon) ((name ▸ comma ▸ string ▸ pairs) closed)) ((of machine_name ▸ comma ▸ string ▸ pairs) closed)
      ((colon ▸ repeated (of parameter) ▸ braces (repeated (of declaration))) r)
      (maybe_to table ((machine_type_name ▸ colon) done) ((name ▸ comma ▸ string ▸ pairs) closed) ((of machine_name ▸ comma ▸ string ▸ pairs) closed)
      (then_to table (token_to table (machine_type ∷ []) (to_present table ((colon ▸ name) done) ((comma ▸ string ▸ pairs) closed))) (fold_to table machine_name 0 refl))
      (either_to table names_of (machine_type ∷ []) (other_name ∷ functional_name ∷ []) ((comma ▸ string ▸ pairs) closed) ((of machine_name ▸ comma ▸ string ▸ pairs) closed) type_or_other
      (then_to table (token_to table (machine_type ∷ []) (to_absent table ((colon ▸ name) done) ((comma ▸ string ▸ pairs) closed))) (fold_to table machine_name 0 refl))
      (fold_to table machine_name 1 refl)))))
      (fold_to table machine 0 refl),
  tt,
)

abbrev next_part : Row Form
next_part = (comma ▸ of transition_end) done

transition_tail : (S : Rows Form) → To table S (optional (comma ▸ next_state) (pairs closed)) (optional (comma ▸ of transition_end) closed)
transition_tail S =
    maybe_to table ((comma ▸ next_state) done) (pairs closed) (optional (comma ▸ of transition_end) closed)
    (then_to table (token_to table (sign_kind Comma ∷ [])
    (either_to table (sign_kind Star ∷ names_of) (sign_kind Star ∷ []) names_of (pairs closed) (form transition_end closed) (in_either (sign_kind Star ∷ []) names_of)
    (fold_to table transition_end 2 refl)
    (then_to table (token_to table names_of (to_absent table ((sign Equals ▸ value) done) (pairs closed))) (fold_to table transition_end 0 refl))))
    (to_present table next_part closed))
    (many_to table ((comma ▸ of pair) done) closed (optional (comma ▸ of transition_end) closed)
    (then_to table (token_to table (sign_kind Comma ∷ [])
    (form_to table pair (pairs closed) (form transition_end closed) (
      then_to table (token_to table names_of (to_present table ((sign Equals ▸ value) done) (pairs closed))) (fold_to table transition_end 0 refl),
      (
        fold_to table transition_end 1 refl,
        tt,
      ),
    )))
    (to_present table next_part closed))
    (to_absent table next_part closed))

transition_rows : Each (IsFormCovered table transition) (written.alternatives transition)
transition_rows = (
  λ r S. then_to table (token_to table (word_kind Transition ∷ [])
      (nested_to table (sign_kind OpenParenthesis ∷ [])
      ((of names ▸ comma ▸ of names ▸ optional (comma ▸ next_state) ▸ pairs) closed)
      ((of names ▸ comma ▸ of names ▸ optional (comma ▸ of transition_end)) closed)
      (braces (repeated (name ▸ semicolon)) r)
      (end_to table ((of names ▸ comma ▸ of names) done) (optional (comma ▸ next_state) (pairs closed)) (optional (comma ▸ of transition_end) closed)
      (transition_tail (up (braces (repeated (name ▸ semicolon)) r) S)))))
      (fold_to table transition 0 refl),
  tt,
)

-- an expression that is a statement, or begins one
expression_statement : (r from : Row Form) (S : Rows Form) → To table S from (optional (assign ▸ of expression) (semicolon r)) → To table S (form expression from) (form statement r)
expression_statement r from S step =
    form_to table expression from (form statement r) (
      form_to table unary (operators from) (form statement r) (
        then_to table (end_to table ((of opening ▸ operators) done) from (optional (assign ▸ of expression) (semicolon r)) step) (fold_to table statement 1 refl),
        (
          then_to table (token_to table names_of
              (then_to table (end_to table ((named ▸ suffixes ▸ operators) done) from (optional (assign ▸ of expression) (semicolon r)) step) (fold_to table statement_end 1 refl)))
              (fold_to table statement 0 refl),
          tt,
        ),
      ),
      tt,
    )

statement_rows : Each (IsFormCovered table statement) (written.alternatives statement)
statement_rows = (
  λ r S. then_to table (token_to table names_of (fold_to table statement_end 0 refl)) (fold_to table statement 0 refl),
  (
    λ r S. expression_statement r ((assign ▸ of expression ▸ semicolon) r) S (to_present table assigned (semicolon r)),
    (
      λ r S. expression_statement r (semicolon r) S (to_absent table assigned (semicolon r)),
      (
        λ r S. fold_to table statement 2 refl,
        (
          λ r S. fold_to table statement 3 refl,
          (
            λ r S. fold_to table statement 4 refl,
            (
              λ r S. fold_to table statement 5 refl,
              (
                λ r S. fold_to table statement 6 refl,
                (
                  λ r S. fold_to table statement 7 refl,
                  (
                    λ r S. fold_to table statement 8 refl,
                    (
                      λ r S. fold_to table statement 9 refl,
                      (
                        λ r S. fold_to table statement 10 refl,
                        tt,
                      ),
                    ),
                  ),
                ),
              ),
            ),
          ),
        ),
      ),
    ),
  ),
)

-- the parts behind the first block of a conditional
abbrev else_ifs : Row Form
else_ifs = (word Else ▸ word If ▸ parentheses (of expression) ▸ of block) done

abbrev else_part : Row Form
else_part = (word Else ▸ of otherwise) done

abbrev written_end : Row Form → Row Form
written_end r = many else_ifs (optional (word Else ▸ of block) r)

abbrev head : Row Form
head = (word If ▸ parentheses (of expression) ▸ of block) done

else_end : (r : Row Form) (S : Rows Form) (x : Extent) (tokens : List ℕ) (nestings : ℕ) → Matches table x (optional (word Else ▸ of block) r) S tokens nestings → Matches table x (maybe else_part r) S tokens nestings
else_end r S =
    maybe_to table ((word Else ▸ of block) done) r (maybe else_part r)
    (then_to table (token_to table (word_kind Else ∷ []) (fold_to table otherwise 1 refl)) (to_present table else_part r))
    (to_absent table else_part r)

abbrev EndsWithin : ℕ → Row Form → Rows Form → Type 0
EndsWithin bound r S =
    (x : Extent) (tokens : List ℕ) (nestings : ℕ) → length tokens ≤ bound → Matches table x (written_end r) S tokens nestings → Matches table x (maybe else_part r) S tokens nestings

else_if : (bound : ℕ) (r : Row Form) (S : Rows Form) → EndsWithin bound r S → (x : Extent) (tokens : List ℕ) (nestings : ℕ) → length tokens ≤ suc bound → Matches table x (joined else_ifs (written_end r)) S tokens nestings → Matches table x (maybe else_part r) S tokens nestings
else_if bound r S step x tokens nestings le stopped = stopped
else_if bound r S step x tokens nestings le (one {kind = kind} {tokens = later} is m) =
    to_present table else_part r x (kind ∷ later) nestings
    (one is (fold_to table otherwise 0 refl x later nestings (fold_to table conditional 0 refl x later nestings
    (exchange_within table bound head (written_end r) (maybe else_part r) S step x later nestings (omega arith) m))))

no_else_if : (r : Row Form) (S : Rows Form) (x : Extent) (tokens : List ℕ) (nestings : ℕ) → length tokens ≤ 0 → Matches table x (joined else_ifs (written_end r)) S tokens nestings → Matches table x (maybe else_part r) S tokens nestings
no_else_if r S x tokens nestings le stopped = stopped
no_else_if r S x tokens nestings le (one {tokens = later} is m) = absurd (let no : suc (length later) ≤ 0 = le in omega arith)

conditional_end : (bound : ℕ) (r : Row Form) (S : Rows Form) → EndsWithin bound r S
conditional_end zero r S x tokens nestings le stopped = stopped
conditional_end zero r S x tokens nestings le (again m) = no_else_if r S x tokens nestings le (merge table else_ifs (written_end r) S m)
conditional_end zero r S x tokens nestings le (enough m) = else_end r S x tokens nestings m
conditional_end (suc bound) r S x tokens nestings le stopped = stopped
conditional_end (suc bound) r S x tokens nestings le (again m) = else_if bound r S (conditional_end bound r S) x tokens nestings le (merge table else_ifs (written_end r) S m)
conditional_end (suc bound) r S x tokens nestings le (enough m) = else_end r S x tokens nestings m

conditional_rows : Each (IsFormCovered table conditional) (written.alternatives conditional)
conditional_rows = (
  λ r S x tokens nestings m. fold_to table conditional 0 refl x tokens nestings
      (exchange_within table (length tokens) head (written_end r) (maybe else_part r) S (conditional_end (length tokens) r S) x tokens nestings (omega arith) m),
  tt,
)

unary_rows : Each (IsFormCovered table unary) (written.alternatives unary)
unary_rows = (
  λ r S. then_to table (fold_to table opening 0 refl) (fold_to table unary 0 refl),
  (
    λ r S. then_to table (fold_to table opening 1 refl) (fold_to table unary 0 refl),
    (
      λ r S. form_to table postfix r (form unary r) (
        then_to table (fold_to table opening 2 refl) (fold_to table unary 0 refl),
        (
          fold_to table unary 1 refl,
          tt,
        ),
      ),
      tt,
    ),
  ),
)

postfix_rows : Each (IsFormCovered table postfix) (written.alternatives postfix)
postfix_rows = (
  λ r S. form_to table primary (suffixes r) (form postfix r) (
    fold_to table postfix 0 refl,
    (
      fold_to table postfix 1 refl,
      tt,
    ),
  ),
  tt,
)

primary_rows : Each (IsFormCovered table primary) (written.alternatives primary)
primary_rows = (
  λ r S. fold_to table primary 0 refl,
  (
    λ r S. then_to table (token_to table names_of (to_absent table ((of name_end) done) r)) (fold_to table primary 1 refl),
    (
      λ r S. then_to table (token_to table names_of (then_to table (fold_to table name_end 0 refl) (to_present table ((of name_end) done) r))) (fold_to table primary 1 refl),
      (
        λ r S. then_to table (token_to table names_of (then_to table (fold_to table name_end 1 refl) (to_present table ((of name_end) done) r))) (fold_to table primary 1 refl),
        tt,
      ),
    ),
  ),
)

written_is_covered : (n : Form) → Each (IsFormCovered table n) (written.alternatives n)
written_is_covered member = member_rows
written_is_covered machine = machine_rows
written_is_covered declaration = declaration_rows
written_is_covered transition = transition_rows
written_is_covered statement = statement_rows
written_is_covered conditional = conditional_rows
written_is_covered expression = (λ r S. form_to table conjunction (disjunctions r) (form expression r) (fold_to table expression 0 refl, tt), tt)
written_is_covered conjunction = (λ r S. form_to table equality (conjunctions r) (form conjunction r) (fold_to table conjunction 0 refl, tt), tt)
written_is_covered equality = (λ r S. form_to table order (equalities r) (form equality r) (fold_to table equality 0 refl, tt), tt)
written_is_covered order = (λ r S. form_to table sum (orders r) (form order r) (fold_to table order 0 refl, tt), tt)
written_is_covered sum = (λ r S. form_to table product (sums r) (form sum r) (fold_to table sum 0 refl, tt), tt)
written_is_covered unary = unary_rows
written_is_covered postfix = postfix_rows
written_is_covered primary = primary_rows
written_is_covered n = covered_by_itself table n

pub table_covers : Covers written table
table_covers = covers_by written table written_is_covered
