-- What the token ahead begins, and expressions by their levels.
use Rattle.std.proofs.Common.{◌≡◌, ◌⊎◌, inl, inr, ℕ, zero, suc, ◌+◌, ◌≤◌, ◌<◌, nat_lt, ◌||◌, ◌==◌, nat_le, Some, true, false, Bool, IsTrue, List, [], ◌∷◌, ◌++◌, refl, sym, subst, ◌∙◌, arith, rules}
use Rattle.std.specs.List.{slice_get}
use Rattle.std.proofs.lemmas.Bool.{false≢true}
use Rattle.slicc_ast.specs.declared.tree.expression.Expr.{Expr}
use Rattle.slicc_ast.specs.declared.tree.token.Sign.TheVariants.{Colon, Dot, Minus, Not, OpenBracket, OpenParenthesis}
use Rattle.slicc_ast.specs.declared.tree.token.Word.TheVariants.{True, False, Ood, IsInvalid, IsValid}
use Rattle.slicc_ast.specs.Prelude.{expr, Outline, done, has, is_ahead, refusal, first_of_constant, first_of_expression, first_of_opening, constant, unary, product, sum, order, equality, conjunction, expression, of, names_of, table, kind_of, number, sign_kind, word_kind}
use Rattle.slicc_ast.specs.Outline.{token}
use Rattle.slicc_ast.specs.Grammar.Row.{token as token_row}
use Rattle.slicc_lex.specs.declared.token.Token.{Token}
use Rattle.slicc_lex.specs.Prelude.{symbols}
use Rattle.slicc_reading.specs.declared.fault.Fault.{Fault}
use Rattle.slicc_expr.specs.Prelude.{chains, form_at, IsSimple, simple_kinds}
use Rattle.slicc_reading.specs.Prelude.{AreRead, IsRead, IsStopOf, Refuses}
use Rattle.slicc_reading.proofs.Parts.{as_node, as_tree, at_first, at_no_alternative, behind_read, by_alternative, in_alternative, of_alternative, read_behind, token_read}
use Rattle.slicc_reading.proofs.Spans.{token_covers}

or_later : (a b c : Bool) → (a || b) ≡ true → (a || c) ≡ false → (b ≡ true) × (c ≡ false)
or_later true b c some absent_there = absurd (false≢true (sym absent_there))
or_later false b c some absent_there = (some, absent_there)

or_split : (a b : Bool) → (a || b) ≡ true → ((a || false) ≡ true) ⊎ (b ≡ true)
or_split true b some = inl refl
or_split false b some = inr some

later_has : (kinds others : List ℕ) (kind : ℕ) → has (kinds ++ others) kind ≡ true → has kinds kind ≡ false → has others kind ≡ true
later_has [] others kind some absent_there = some
later_has (k ∷ kinds) others kind some absent_there =
    let parts = or_later (k == kind) (has (kinds ++ others) kind) (has kinds kind) some absent_there in
    later_has kinds others kind parts.0 parts.1

pub later_ahead : (kinds others : List ℕ) (tokens : List ℕ) → is_ahead (kinds ++ others) tokens ≡ true → is_ahead kinds tokens ≡ false → is_ahead others tokens ≡ true
later_ahead kinds others [] some absent_there = absurd (false≢true some)
later_ahead kinds others (kind ∷ tokens) some absent_there = later_has kinds others kind some absent_there

pub bracket_ahead : (tokens : List Token) → is_ahead (sign_kind Dot ∷ sign_kind OpenBracket ∷ []) (symbols tokens) ≡ true → is_ahead (sign_kind Dot ∷ []) (symbols tokens) ≡ false → is_ahead (sign_kind OpenBracket ∷ []) (symbols tokens) ≡ true
bracket_ahead tokens = later_ahead (sign_kind Dot ∷ []) (sign_kind OpenBracket ∷ []) (symbols tokens)

pub invalid_ahead : (tokens : List Token) → is_ahead (word_kind IsValid ∷ word_kind IsInvalid ∷ []) (symbols tokens) ≡ true → is_ahead (word_kind IsValid ∷ []) (symbols tokens) ≡ false → is_ahead (word_kind IsInvalid ∷ []) (symbols tokens) ≡ true
invalid_ahead tokens = later_ahead (word_kind IsValid ∷ []) (word_kind IsInvalid ∷ []) (symbols tokens)

pub constant_ahead : (tokens : List Token) → is_ahead first_of_opening (symbols tokens) ≡ true → is_ahead (sign_kind Not ∷ []) (symbols tokens) ≡ false → is_ahead (sign_kind Minus ∷ []) (symbols tokens) ≡ false → is_ahead first_of_constant (symbols tokens) ≡ true
constant_ahead tokens some no_not no_minus =
    later_ahead (sign_kind Minus ∷ []) first_of_constant (symbols tokens) (later_ahead (sign_kind Not ∷ []) (sign_kind Minus ∷ first_of_constant) (symbols tokens) some no_not) no_minus

pub opening_ahead : (tokens : List Token) → is_ahead first_of_expression (symbols tokens) ≡ true → is_ahead names_of (symbols tokens) ≡ false → is_ahead first_of_opening (symbols tokens) ≡ true
opening_ahead tokens = later_ahead names_of first_of_opening (symbols tokens)

-- what stands behind a name that an expression begins with
first_or : (a b : Bool) → (a || false) ≡ true → (a || b) ≡ true
first_or true b is = refl
first_or false b is = absurd (false≢true is)

second_or : (a b : Bool) → b ≡ true → (a || b) ≡ true
second_or true b is = refl
second_or false b is = is

neither_or : (a b : Bool) → (a || false) ≡ false → b ≡ false → (a || b) ≡ false
neither_or true b one other = absurd (false≢true (sym one))
neither_or false b one other = other

pub colon_ahead : (tokens : List ℕ) → is_ahead (sign_kind Colon ∷ []) tokens ≡ true → is_ahead (sign_kind Colon ∷ sign_kind OpenParenthesis ∷ []) tokens ≡ true
colon_ahead [] is = absurd (false≢true is)
colon_ahead (kind ∷ tokens) is = first_or (sign_kind Colon == kind) (has (sign_kind OpenParenthesis ∷ []) kind) is

pub open_ahead : (tokens : List ℕ) → is_ahead (sign_kind OpenParenthesis ∷ []) tokens ≡ true → is_ahead (sign_kind Colon ∷ sign_kind OpenParenthesis ∷ []) tokens ≡ true
open_ahead [] is = absurd (false≢true is)
open_ahead (kind ∷ tokens) is = second_or (sign_kind Colon == kind) (has (sign_kind OpenParenthesis ∷ []) kind) is

pub neither_ahead : (tokens : List ℕ) → is_ahead (sign_kind Colon ∷ []) tokens ≡ false → is_ahead (sign_kind OpenParenthesis ∷ []) tokens ≡ false → is_ahead (sign_kind Colon ∷ sign_kind OpenParenthesis ∷ []) tokens ≡ false
neither_ahead [] one other = refl
neither_ahead (kind ∷ tokens) one other = neither_or (sign_kind Colon == kind) (has (sign_kind OpenParenthesis ∷ []) kind) one other

pub le_true : (a b : ℕ) → a ≤ b → IsTrue (nat_le a b)
le_true a b le = search rules

pub lt_true : (a b : ℕ) → a < b → IsTrue (nat_lt a b)
lt_true a b lt = search rules

pub eq_true : (a b : ℕ) → a ≡ b → IsTrue (a == b)
eq_true a b is = search rules

pub is_true : (b : Bool) → b ≡ true → IsTrue b
is_true b is = search rules

pub unary_level : (n : ℕ) → 7 ≤ 0 + n → IsTrue (nat_le 7 n)
unary_level n le = le_true 7 n (omega arith)

-- an expression of a level
pub level_read : {room : ℕ} {first o : Outline} {tokens between left : List Token} (height : ℕ)
    → height ≤ 6 → is_ahead first_of_expression (symbols tokens) ≡ true
    → IsRead room (of unary) first tokens tokens between → IsRead room (chains height 0) o tokens between left
    → IsRead room (of (form_at height)) o tokens tokens left
level_read zero le ahead a b = read_behind a b
level_read (suc zero) le ahead a b = of_alternative product 0 refl ahead (read_behind a b)
level_read (suc (suc zero)) le ahead a b = of_alternative sum 0 refl ahead (read_behind a b)
level_read (suc (suc (suc zero))) le ahead a b = of_alternative order 0 refl ahead (read_behind a b)
level_read (suc (suc (suc (suc zero)))) le ahead a b = of_alternative equality 0 refl ahead (read_behind a b)
level_read (suc (suc (suc (suc (suc zero))))) le ahead a b = of_alternative conjunction 0 refl ahead (read_behind a b)
level_read (suc (suc (suc (suc (suc (suc zero)))))) le ahead a b = of_alternative expression 0 refl ahead (read_behind a b)
level_read (suc (suc (suc (suc (suc (suc (suc height))))))) le ahead a b = absurd (omega arith)

pub fault_in_operators : {room : ℕ} {first : Outline} {tokens between : List Token} {fault : Fault} (height : ℕ)
    → height ≤ 6 → is_ahead first_of_expression (symbols tokens) ≡ true
    → IsRead room (of unary) first tokens tokens between → Refuses room (chains height 0) between fault
    → Refuses room (of (form_at height)) tokens fault
fault_in_operators zero le ahead a b = behind_read a b
fault_in_operators (suc zero) le ahead a b = in_alternative product 0 refl ahead (behind_read a b)
fault_in_operators (suc (suc zero)) le ahead a b = in_alternative sum 0 refl ahead (behind_read a b)
fault_in_operators (suc (suc (suc zero))) le ahead a b = in_alternative order 0 refl ahead (behind_read a b)
fault_in_operators (suc (suc (suc (suc zero)))) le ahead a b = in_alternative equality 0 refl ahead (behind_read a b)
fault_in_operators (suc (suc (suc (suc (suc zero))))) le ahead a b = in_alternative conjunction 0 refl ahead (behind_read a b)
fault_in_operators (suc (suc (suc (suc (suc (suc zero)))))) le ahead a b = in_alternative expression 0 refl ahead (behind_read a b)
fault_in_operators (suc (suc (suc (suc (suc (suc (suc height))))))) le ahead a b = absurd (omega arith)

pub fault_in_unary : {room : ℕ} {tokens : List Token} {fault : Fault} (height : ℕ)
    → height ≤ 6 → is_ahead first_of_expression (symbols tokens) ≡ true
    → Refuses room (of unary) tokens fault → Refuses room (of (form_at height)) tokens fault
fault_in_unary zero le ahead a = a
fault_in_unary (suc zero) le ahead a = in_alternative product 0 refl ahead (at_first (chains 1 0) a)
fault_in_unary (suc (suc zero)) le ahead a = in_alternative sum 0 refl ahead (at_first (chains 2 0) a)
fault_in_unary (suc (suc (suc zero))) le ahead a = in_alternative order 0 refl ahead (at_first (chains 3 0) a)
fault_in_unary (suc (suc (suc (suc zero)))) le ahead a = in_alternative equality 0 refl ahead (at_first (chains 4 0) a)
fault_in_unary (suc (suc (suc (suc (suc zero))))) le ahead a = in_alternative conjunction 0 refl ahead (at_first (chains 5 0) a)
fault_in_unary (suc (suc (suc (suc (suc (suc zero)))))) le ahead a = in_alternative expression 0 refl ahead (at_first (chains 6 0) a)
fault_in_unary (suc (suc (suc (suc (suc (suc (suc height))))))) le ahead a = absurd (omega arith)

pub no_level : {room : ℕ} {tokens : List Token} {fault : Fault} (height : ℕ)
    → is_ahead first_of_expression (symbols tokens) ≡ false → IsStopOf (refusal table room (symbols tokens)) fault
    → Refuses room (of (form_at height)) tokens fault
no_level zero ahead is = at_no_alternative unary ahead is
no_level (suc zero) ahead is = at_no_alternative product ahead is
no_level (suc (suc zero)) ahead is = at_no_alternative sum ahead is
no_level (suc (suc (suc zero))) ahead is = at_no_alternative order ahead is
no_level (suc (suc (suc (suc zero)))) ahead is = at_no_alternative equality ahead is
no_level (suc (suc (suc (suc (suc zero))))) ahead is = at_no_alternative conjunction ahead is
no_level (suc (suc (suc (suc (suc (suc height)))))) ahead is = at_no_alternative expression ahead is

-- a primary expression of one token
has_cases : (a : ℕ) (kinds : List ℕ) (kind : ℕ) → has (a ∷ kinds) kind ≡ true → (has (a ∷ []) kind ≡ true) ⊎ (has kinds kind ≡ true)
has_cases a kinds kind some = or_split (a == kind) (has kinds kind) some

single : {room : ℕ} (k place : ℕ) (t : Token) (tokens left : List Token)
    → slice_get (table.alternatives constant) place ≡ Some (token_row (k ∷ []) done)
    → tokens ≡ t ∷ left → has (k ∷ []) (kind_of t.kind) ≡ true → AreRead room (of constant) (token t.kind) tokens left
single {room = room} k place t tokens left at is is_kind =
    by_alternative constant place at (subst (λ ts. is_ahead (k ∷ []) (symbols ts) ≡ true) (sym is) is_kind)
    (token_read room (k ∷ []) t.kind t tokens left is is_kind refl)

simple_token : {room : ℕ} (t : Token) (tokens left : List Token)
    → tokens ≡ t ∷ left → has simple_kinds (kind_of t.kind) ≡ true → AreRead room (of constant) (token t.kind) tokens left
simple_token t tokens left is some =
    elim (has_cases number (word_kind True ∷ word_kind False ∷ word_kind Ood ∷ []) (kind_of t.kind) some) [
      | inl first ↦ single number 0 t tokens left refl is first
      | inr others ↦ elim (has_cases (word_kind True) (word_kind False ∷ word_kind Ood ∷ []) (kind_of t.kind) others) [
        | inl second ↦ single (word_kind True) 1 t tokens left refl is second
        | inr more ↦ elim (has_cases (word_kind False) (word_kind Ood ∷ []) (kind_of t.kind) more) [
          | inl third ↦ single (word_kind False) 2 t tokens left refl is third
          | inr fourth ↦ single (word_kind Ood) 3 t tokens left refl is fourth
        ]
      ]
    ]

pub simple_read : (room : ℕ) (e : Expr) (t : Token) (tokens left : List Token)
    → tokens ≡ t ∷ left → IsSimple t.kind t.span e
    → IsRead room (of constant) (expr e) tokens tokens left
simple_read room e t tokens left is simple =
    as_tree (expr e) simple.spells (as_node t.span (token_covers t tokens left is) (simple_token t tokens left is simple.is_kind))

-- a token that must be one of these and isn't
pub not_simple : (t : Token) (tokens left : List Token)
    → is_ahead simple_kinds (symbols tokens) ≡ true → tokens ≡ t ∷ left → has simple_kinds (kind_of t.kind) ≡ false → ⊥
not_simple t tokens left some is absent_there = false≢true (sym absent_there ∙ subst (λ ts. is_ahead simple_kinds (symbols ts) ≡ true) is some)

pub no_simple : (tokens : List Token) → is_ahead simple_kinds (symbols tokens) ≡ true → tokens ≡ [] → ⊥
no_simple tokens some is = false≢true (subst (λ ts. is_ahead simple_kinds (symbols ts) ≡ true) is some)
