-- The rows of the table that one token ahead decides are turned into those of the written grammar.
use Rattle.std.proofs.Common.{◌≡◌, ℕ, true, List, [], ◌∷◌, refl}
use Rattle.slicc_ast.specs.declared.tree.token.Word.TheVariants.{Transition, Machine, If, Else}
use Rattle.slicc_ast.specs.declared.tree.token.Sign.TheVariants.{Comma, OpenParenthesis, CloseParenthesis, Equals, Star}
use Rattle.slicc_ast.specs.Prelude.{is_subset, Row, Rows, done, form, maybe, many, up, Covers, joined, Form, member_end, functional_end, machine_name, declaration, declaration_end, named_end, transition_end, statement, statement_end, conditional, otherwise, expression, conjunction, equality, order, sum, product, unary, postfix, primary, constant, opening, name_end, other_name, machine_type, functional_name, word_kind, sign_kind, ◌▸◌, of, optional, repeated, names_of, type, plain_name, skipped_name, machine_type_name, value, next_state, string, comma, colon, semicolon, assign, parentheses, braces, products, sums, orders, equalities, conjunctions, disjunctions, operators, written, table}
use Rattle.slicc_ast.specs.Grammar.Row.{token}
use Rattle.slicc_ast.proofs.Translating.{To, Each, IsFormCovered, covers_by, covered_by_itself, then_to, fold_to, form_to, token_to, wider_to, maybe_to, to_present, to_absent, to_again, to_enough, nested_to, end_to, form_end_to, maybe_end_to}
use Rattle.slicc_ast.specs.Form.Form.{member, pair, machine, parameter, transition, names, formals, block, suffix}
use Rattle.slicc_ast.specs.Parts.{word, sign, name, star, pairs}

abbrev plain_kinds : List ℕ
plain_kinds = other_name ∷ machine_type ∷ []

abbrev skipped_kinds : List ℕ
skipped_kinds = functional_name ∷ []

abbrev formals_part : Row Form
formals_part = parentheses (optional (of formals)) done

abbrev assigned : Row Form
assigned = (assign ▸ of expression) done

abbrev named : Row Form → Row Form
named = optional (of name_end)

abbrev suffixes : Row Form → Row Form
suffixes = repeated (of suffix)

abbrev closed : Row Form
closed = sign CloseParenthesis done

-- a field or an object of a plain name, or of that of a skipped function
plain_member : (r : Row Form) (S : Rows Form) → To written S ((type ▸ plain_name ▸ pairs ▸ semicolon) r) (form member r)
plain_member r S = then_to written (token_to written names_of (wider_to written plain_kinds names_of ((pairs ▸ semicolon) r) refl)) (fold_to written member 0 refl)

member_rows : Each (IsFormCovered written member) (table.alternatives member)
member_rows = (
  λ r S. form_end_to written (type done) member_end r (form member r) ((plain_name ▸ pairs ▸ semicolon) r) (plain_member r S) (
    maybe_end_to written ((type ▸ plain_name) done) formals_part ((pairs ▸ semicolon) r) (form member r)
        (fold_to written member 1 refl)
        (plain_member r S),
    (
      form_end_to written ((type ▸ skipped_name) done) functional_end r (form member r) ((pairs ▸ semicolon) r) (skipped_member r S) (
        skipped_member r S,
        (
          fold_to written member 2 refl,
          tt,
        ),
      ),
      tt,
    ),
  ),
  tt,
)
  where
    skipped_member : (r : Row Form) (S : Rows Form) → To written S ((type ▸ skipped_name ▸ pairs ▸ semicolon) r) (form member r)
    skipped_member r S = then_to written (token_to written names_of (wider_to written skipped_kinds names_of ((pairs ▸ semicolon) r) refl)) (fold_to written member 0 refl)

declaration_object : (kinds : List ℕ) (r : Row Form) (S : Rows Form) → is_subset kinds names_of ≡ true → To written S (token names_of (token kinds ((pairs ▸ semicolon) r))) (form declaration r)
declaration_object kinds r S sub =
    then_to written (token_to written names_of (then_to written (wider_to written kinds names_of ((pairs ▸ semicolon) r) sub) (to_absent written (star done) ((name ▸ pairs ▸ semicolon) r))))
    (fold_to written declaration 9 refl)

declaration_rows : Each (IsFormCovered written declaration) (table.alternatives declaration)
declaration_rows = (
  λ r S. fold_to written declaration 0 refl,
  (
    λ r S. fold_to written declaration 1 refl,
    (
      λ r S. fold_to written declaration 2 refl,
      (
        λ r S. fold_to written declaration 3 refl,
        (
          λ r S. fold_to written declaration 4 refl,
          (
            λ r S. fold_to written declaration 5 refl,
            (
              λ r S. fold_to written declaration 6 refl,
              (
                λ r S. form_end_to written (type done) declaration_end r (form declaration r) ((plain_name ▸ pairs ▸ semicolon) r) (declaration_object plain_kinds r S refl) (
                  then_to written (token_to written names_of (to_present written (star done) ((name ▸ pairs ▸ semicolon) r))) (fold_to written declaration 9 refl),
                  (
                    form_end_to written ((type ▸ plain_name) done) named_end r (form declaration r) ((pairs ▸ semicolon) r) (declaration_object plain_kinds r S refl) (
                      declaration_object plain_kinds r S refl,
                      (
                        fold_to written declaration 7 refl,
                        tt,
                      ),
                    ),
                    (
                      form_end_to written ((type ▸ skipped_name) done) functional_end r (form declaration r) ((pairs ▸ semicolon) r) (declaration_object skipped_kinds r S refl) (
                        declaration_object skipped_kinds r S refl,
                        (
                          fold_to written declaration 8 refl,
                          tt,
                        ),
                      ),
                      tt,
                    ),
                  ),
                ),
                tt,
              ),
            ),
          ),
        ),
      ),
    ),
  ),
)

abbrev machine_head : Row Form
machine_head = (comma ▸ string ▸ pairs) closed

abbrev written_head : Row Form
written_head = optional (machine_type_name ▸ colon) (name machine_head)

machine_rows : Each (IsFormCovered written machine) (table.alternatives machine)
machine_rows = (
  λ r S. then_to written (token_to written (word_kind Machine ∷ [])
      (nested_to written (sign_kind OpenParenthesis ∷ []) (of machine_name machine_head) written_head
      ((colon ▸ repeated (of parameter) ▸ braces (repeated (of declaration))) r)
      (form_to written machine_name machine_head written_head (
        maybe_end_to written (machine_type_name done) ((colon ▸ name) done) machine_head written_head
            (to_present written ((machine_type_name ▸ colon) done) (name machine_head))
            (then_to written (wider_to written (machine_type ∷ []) names_of machine_head refl) (to_absent written ((machine_type_name ▸ colon) done) (name machine_head))),
        (
          then_to written (wider_to written (other_name ∷ functional_name ∷ []) names_of machine_head refl) (to_absent written ((machine_type_name ▸ colon) done) (name machine_head)),
          tt,
        ),
      ))))
      (fold_to written machine 0 refl),
  tt,
)

abbrev written_tail : Row Form
written_tail = optional (comma ▸ next_state) (pairs closed)

abbrev pair_part : Row Form
pair_part = (comma ▸ of pair) done

abbrev given : Row Form
given = (sign Equals ▸ value) done

another_pair : (S : Rows Form) → To written S (joined pair_part (pairs closed)) written_tail
another_pair S = then_to written (to_again written pair_part closed) (to_absent written ((comma ▸ next_state) done) (pairs closed))

transition_tail : (S : Rows Form) → To written S (optional (comma ▸ of transition_end) closed) written_tail
transition_tail S =
    maybe_to written ((comma ▸ of transition_end) done) closed written_tail
    (form_end_to written (comma done) transition_end closed written_tail ((string ▸ pairs) closed)
    (then_to written (token_to written (sign_kind Comma ∷ []) (fold_to written pair 1 refl)) (another_pair S)) (
      maybe_end_to written ((comma ▸ name) done) given (pairs closed) written_tail
          (then_to written (token_to written (sign_kind Comma ∷ []) (fold_to written pair 0 refl)) (another_pair S))
          (then_to written (token_to written (sign_kind Comma ∷ []) (wider_to written names_of (sign_kind Star ∷ names_of) (pairs closed) refl))
          (to_present written ((comma ▸ next_state) done) (pairs closed))),
      (
        then_to written (token_to written (sign_kind Comma ∷ []) (fold_to written pair 1 refl)) (another_pair S),
        (
          then_to written (token_to written (sign_kind Comma ∷ []) (wider_to written (sign_kind Star ∷ []) (sign_kind Star ∷ names_of) (pairs closed) refl))
              (to_present written ((comma ▸ next_state) done) (pairs closed)),
          tt,
        ),
      ),
    ))
    (then_to written (to_enough written pair_part closed) (to_absent written ((comma ▸ next_state) done) (pairs closed)))

transition_rows : Each (IsFormCovered written transition) (table.alternatives transition)
transition_rows = (
  λ r S. then_to written (token_to written (word_kind Transition ∷ [])
      (nested_to written (sign_kind OpenParenthesis ∷ [])
      ((of names ▸ comma ▸ of names ▸ optional (comma ▸ of transition_end)) closed)
      ((of names ▸ comma ▸ of names ▸ optional (comma ▸ next_state) ▸ pairs) closed)
      (braces (repeated (name ▸ semicolon)) r)
      (end_to written ((of names ▸ comma ▸ of names) done) (optional (comma ▸ of transition_end) closed) written_tail
      (transition_tail (up (braces (repeated (name ▸ semicolon)) r) S)))))
      (fold_to written transition 0 refl),
  tt,
)

-- the levels of operators around a unary expression
product_up : (r : Row Form) (S : Rows Form) → To written S ((of unary ▸ products) r) (form product r)
product_up r S = fold_to written product 0 refl

sum_up : (r : Row Form) (S : Rows Form) → To written S ((of unary ▸ products ▸ sums) r) (form sum r)
sum_up r S = then_to written (product_up (sums r) S) (fold_to written sum 0 refl)

order_up : (r : Row Form) (S : Rows Form) → To written S ((of unary ▸ products ▸ sums ▸ orders) r) (form order r)
order_up r S = then_to written (sum_up (orders r) S) (fold_to written order 0 refl)

equality_up : (r : Row Form) (S : Rows Form) → To written S ((of unary ▸ products ▸ sums ▸ orders ▸ equalities) r) (form equality r)
equality_up r S = then_to written (order_up (equalities r) S) (fold_to written equality 0 refl)

conjunction_up : (r : Row Form) (S : Rows Form) → To written S ((of unary ▸ products ▸ sums ▸ orders ▸ equalities ▸ conjunctions) r) (form conjunction r)
conjunction_up r S = then_to written (equality_up (conjunctions r) S) (fold_to written conjunction 0 refl)

expression_up : (r : Row Form) (S : Rows Form) → To written S ((of unary ▸ operators) r) (form expression r)
expression_up r S = then_to written (conjunction_up (disjunctions r) S) (fold_to written expression 0 refl)

-- a primary expression that begins with a name, and what it is the beginning of
named_primary : (r : Row Form) (S : Rows Form) → To written S ((name ▸ named) r) (form primary r)
named_primary r S =
    maybe_end_to written (name done) ((of name_end) done) r (form primary r)
    (form_end_to written (name done) name_end r (form primary r) r (fold_to written primary 1 refl) (
      fold_to written primary 2 refl,
      (
        fold_to written primary 3 refl,
        tt,
      ),
    ))
    (fold_to written primary 1 refl)

named_postfix : (r : Row Form) (S : Rows Form) → To written S ((name ▸ named ▸ suffixes) r) (form postfix r)
named_postfix r S = then_to written (named_primary (suffixes r) S) (fold_to written postfix 0 refl)

named_unary : (r : Row Form) (S : Rows Form) → To written S ((name ▸ named ▸ suffixes) r) (form unary r)
named_unary r S = then_to written (named_postfix r S) (fold_to written unary 2 refl)

constant_postfix : (r : Row Form) (S : Rows Form) → To written S ((of constant ▸ suffixes) r) (form postfix r)
constant_postfix r S = then_to written (fold_to written primary 0 refl) (fold_to written postfix 0 refl)

opening_unary : (r : Row Form) (S : Rows Form) → To written S (form opening r) (form unary r)
opening_unary r S =
    form_to written opening r (form unary r) (
      fold_to written unary 0 refl,
      (
        fold_to written unary 1 refl,
        (
          then_to written (constant_postfix r S) (fold_to written unary 2 refl),
          tt,
        ),
      ),
    )

-- what begins as an expression is a statement in either of two ways
either_statement : (front r : Row Form) (S : Rows Form) → ((from : Row Form) → To written S (joined front from) (form expression from)) → To written S (joined front (maybe assigned (semicolon r))) (form statement r)
either_statement front r S step =
    maybe_end_to written front assigned (semicolon r) (form statement r)
    (then_to written (step ((assign ▸ of expression ▸ semicolon) r)) (fold_to written statement 1 refl))
    (then_to written (step (semicolon r)) (fold_to written statement 2 refl))

statement_rows : Each (IsFormCovered written statement) (table.alternatives statement)
statement_rows = (
  λ r S. form_end_to written (name done) statement_end r (form statement r) ((name ▸ assign ▸ of expression ▸ semicolon) r) (fold_to written statement 0 refl) (
    fold_to written statement 0 refl,
    (
      either_statement ((name ▸ named ▸ suffixes ▸ operators) done) r S
          (λ from. then_to written (named_unary (operators from) S) (expression_up from S)),
      tt,
    ),
  ),
  (
    λ r S. either_statement ((of opening ▸ operators) done) r S (λ from. then_to written (opening_unary (operators from) S) (expression_up from S)),
    (
      λ r S. fold_to written statement 3 refl,
      (
        λ r S. fold_to written statement 4 refl,
        (
          λ r S. fold_to written statement 5 refl,
          (
            λ r S. fold_to written statement 6 refl,
            (
              λ r S. fold_to written statement 7 refl,
              (
                λ r S. fold_to written statement 8 refl,
                (
                  λ r S. fold_to written statement 9 refl,
                  (
                    λ r S. fold_to written statement 10 refl,
                    (
                      λ r S. fold_to written statement 11 refl,
                      tt,
                    ),
                  ),
                ),
              ),
            ),
          ),
        ),
      ),
    ),
  ),
)

abbrev else_ifs : Row Form
else_ifs = (word Else ▸ word If ▸ parentheses (of expression) ▸ of block) done

abbrev last_else : Row Form
last_else = (word Else ▸ of block) done

abbrev else_part : Row Form
else_part = (word Else ▸ of otherwise) done

abbrev written_end : Row Form → Row Form
written_end r = many else_ifs (maybe last_else r)

block_end : (r : Row Form) (S : Rows Form) → To written S ((word Else ▸ of block) r) (written_end r)
block_end r S = then_to written (to_present written last_else r) (to_enough written else_ifs (maybe last_else r))

conditional_end : (r : Row Form) (S : Rows Form) → To written S (maybe else_part r) (written_end r)
conditional_end r S =
    maybe_to written else_part r (written_end r)
    (form_end_to written (word Else done) otherwise r (written_end r) (form block r) (block_end r S) (
      form_end_to written (word Else done) conditional r (written_end r) (form block r) (block_end r S) (to_again written else_ifs (maybe last_else r), tt),
      (
        block_end r S,
        tt,
      ),
    ))
    (then_to written (to_absent written last_else r) (to_enough written else_ifs (maybe last_else r)))

conditional_rows : Each (IsFormCovered written conditional) (table.alternatives conditional)
conditional_rows = (
  λ r S. then_to written (end_to written ((word If ▸ parentheses (of expression) ▸ of block) done) (maybe else_part r) (written_end r) (conditional_end r S)) (fold_to written conditional 0 refl),
  tt,
)

table_is_covered : (n : Form) → Each (IsFormCovered written n) (table.alternatives n)
table_is_covered member = member_rows
table_is_covered machine = machine_rows
table_is_covered declaration = declaration_rows
table_is_covered transition = transition_rows
table_is_covered statement = statement_rows
table_is_covered conditional = conditional_rows
table_is_covered expression = (expression_up, tt)
table_is_covered conjunction = (conjunction_up, tt)
table_is_covered equality = (equality_up, tt)
table_is_covered order = (order_up, tt)
table_is_covered sum = (sum_up, tt)
table_is_covered unary = (opening_unary, (named_unary, tt))
table_is_covered postfix = (constant_postfix, (named_postfix, tt))
table_is_covered primary = ((λ r S. fold_to written primary 0 refl), (named_primary, tt))
table_is_covered n = covered_by_itself written n

pub written_covers : Covers table written
written_covers = covers_by table written table_is_covered
