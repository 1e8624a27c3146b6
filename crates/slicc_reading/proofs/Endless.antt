-- No form but a file has the end token in it, so that a list with the end token at its end is never too short.
use Rattle.std.proofs.Common.{◌≡◌, ℕ, suc, zero, ◌==◌, ◌&&◌, ◌||◌, not, Bool, true, false, List, [], ◌∷◌, ◌++◌, refl, sym, subst, ◌∙◌, Some}
use Rattle.std.proofs.lemmas.Bool.{eqb-true, false≢true, and_parts, not-true}
use Rattle.std.specs.List.{list_all, slice_get}
use Rattle.slicc_ast.specs.Prelude.{has, Row, Rows, done, form, maybe, many, nested, end, next, up, Begins, Matches, Extent, stopped, ended, one, alternative, Form, file, member_end, functional_end, machine_name, declaration, declaration_end, named_end, body, transition_end, statement, statement_end, conditional, otherwise, expression, conjunction, equality, order, sum, product, unary, postfix, primary, constant, opening, name_end, arguments, end_of_text, kind_of, written}
use Rattle.slicc_ast.specs.Grammar.Row.{token}
use Rattle.slicc_ast.specs.Matches.Matches.{present, absent, again, enough, inside, on, outside}
use Rattle.slicc_ast.specs.Form.Form.{item, enumeration, states, structure, member, pair, machine, parameter, literal, out_port, in_port, action, transition, names, formals, formal, block, suffix, balanced_part}
use Rattle.slicc_ast.specs.declared.tree.token.TokenKind.TheVariants.{End}
use Rattle.slicc_lex.specs.declared.token.Token.{Token}
use Rattle.slicc_lex.specs.Prelude.{symbols}

abbrev pub is_inner : Form → Bool
is_inner file = false
is_inner _ = true

-- the parts have no end token and no file in them
abbrev pub is_endless : Row Form → Bool
is_endless done = true
is_endless (token kinds row) = not (has kinds end_of_text) && is_endless row
is_endless (form n row) = is_inner n && is_endless row
is_endless (maybe part row) = is_endless part && is_endless row
is_endless (many part row) = is_endless part && is_endless row
is_endless (nested kinds part row) = not (has kinds end_of_text) && (is_endless part && is_endless row)

abbrev pub are_endless : Rows Form → Bool
are_endless end = true
are_endless (next row rows) = is_endless row && are_endless rows
are_endless (up row rows) = is_endless row && are_endless rows

both : (a b : Bool) → a ≡ true → b ≡ true → (a && b) ≡ true
both true b first other = other
both false b first other = first

all_endless : (n : Form) → is_inner n ≡ true → list_all is_endless (written.alternatives n) ≡ true
all_endless file is = absurd (false≢true is)
all_endless item is = refl
all_endless enumeration is = refl
all_endless states is = refl
all_endless structure is = refl
all_endless member is = refl
all_endless member_end is = refl
all_endless functional_end is = refl
all_endless pair is = refl
all_endless machine is = refl
all_endless machine_name is = refl
all_endless parameter is = refl
all_endless literal is = refl
all_endless declaration is = refl
all_endless declaration_end is = refl
all_endless named_end is = refl
all_endless body is = refl
all_endless out_port is = refl
all_endless in_port is = refl
all_endless action is = refl
all_endless transition is = refl
all_endless transition_end is = refl
all_endless names is = refl
all_endless formals is = refl
all_endless formal is = refl
all_endless block is = refl
all_endless statement is = refl
all_endless statement_end is = refl
all_endless conditional is = refl
all_endless otherwise is = refl
all_endless expression is = refl
all_endless conjunction is = refl
all_endless equality is = refl
all_endless order is = refl
all_endless sum is = refl
all_endless product is = refl
all_endless unary is = refl
all_endless postfix is = refl
all_endless primary is = refl
all_endless constant is = refl
all_endless opening is = refl
all_endless name_end is = refl
all_endless suffix is = refl
all_endless arguments is = refl
all_endless balanced_part is = refl

one_endless : (rows : List (Row Form)) (place : ℕ) (chosen : Row Form) → list_all is_endless rows ≡ true → slice_get rows place ≡ Some chosen → is_endless chosen ≡ true
one_endless [] place chosen all at = cc
one_endless (row ∷ rows) zero chosen all at = let same : row ≡ chosen = cc in subst (λ r. is_endless r ≡ true) same (and_parts (is_endless row) (list_all is_endless rows) all).0
one_endless (row ∷ rows) (suc place) chosen all at = one_endless rows place chosen (and_parts (is_endless row) (list_all is_endless rows) all).1 at

later : (a b : Bool) → b ≡ true → (a || b) ≡ true
later true b is = refl
later false b is = is

decide : (b : Bool) → (b ≡ true → ⊥) → b ≡ false
decide true never = absurd (never refl)
decide false never = refl

neither : (a b : Bool) → a ≡ false → b ≡ false → (a || b) ≡ false
neither true b first other = absurd (false≢true (sym first))
neither false b first other = other

other_kind : (kinds : List ℕ) (kind : ℕ) → has kinds kind ≡ true → not (has kinds end_of_text) ≡ true → (kind == end_of_text) ≡ false
other_kind kinds kind is none =
    decide (kind == end_of_text)
    (λ same. let e : kind ≡ end_of_text = eqb-true kind end_of_text same in
    false≢true (sym (not-true (has kinds end_of_text) none) ∙ subst (λ k. has kinds k ≡ true) e is))

pub endless : {x : Extent} {row : Row Form} {rows : Rows Form} {tokens : List ℕ} {nestings : ℕ}
    → Matches written x row rows tokens nestings → is_endless row ≡ true → are_endless rows ≡ true → has tokens end_of_text ≡ false
endless stopped e es = refl
endless ended e es = refl
endless (one {kinds = kinds} {row = row} {kind = kind} {tokens = tokens} is m) e es =
    let parts = and_parts (not (has kinds end_of_text)) (is_endless row) e in
    neither (kind == end_of_text) (has tokens end_of_text) (other_kind kinds kind is parts.0) (endless m parts.1 es)
endless (alternative {n = n} {row = row} {rows = rows} place chosen at m) e es =
    let parts = and_parts (is_inner n) (is_endless row) e in
    endless m (one_endless (written.alternatives n) place chosen (all_endless n parts.0) at) (both (is_endless row) (are_endless rows) parts.1 es)
endless (present {part = part} {row = row} {rows = rows} m) e es =
    let parts = and_parts (is_endless part) (is_endless row) e in
    endless m parts.0 (both (is_endless row) (are_endless rows) parts.1 es)
endless (absent {part = part} {row = row} m) e es = endless m (and_parts (is_endless part) (is_endless row) e).1 es
endless (again {part = part} {row = row} {rows = rows} m) e es =
    let parts = and_parts (is_endless part) (is_endless row) e in
    endless m parts.0 (both (is_endless (many part row)) (are_endless rows) e es)
endless (enough {part = part} {row = row} m) e es = endless m (and_parts (is_endless part) (is_endless row) e).1 es
endless (inside {kinds = kinds} {part = part} {row = row} {rows = rows} {kind = kind} {tokens = tokens} is m) e es =
    let parts = and_parts (not (has kinds end_of_text)) (is_endless part && is_endless row) e in
    let rest = and_parts (is_endless part) (is_endless row) parts.1 in
    neither (kind == end_of_text) (has tokens end_of_text) (other_kind kinds kind is parts.0)
    (endless m rest.0 (both (is_endless row) (are_endless rows) rest.1 es))
endless (on {row = row} {rows = rows} m) e es =
    let parts = and_parts (is_endless row) (are_endless rows) es in
    endless m parts.0 parts.1
endless (outside {row = row} {rows = rows} m) e es =
    let parts = and_parts (is_endless row) (are_endless rows) es in
    endless m parts.0 parts.1

pub has_last : (front : List Token) (last : Token) → last.kind ≡ End → has (symbols (front ++ last ∷ [])) end_of_text ≡ true
has_last [] last is = subst (λ k. has (kind_of k ∷ []) end_of_text ≡ true) (sym is) refl
has_last (t ∷ front) last is = later (kind_of t.kind == end_of_text) (has (symbols (front ++ last ∷ [])) end_of_text) (has_last front last is)

-- a list that a form but a file begins with doesn't have the end token
pub never_ended : (n : Form) (tokens front : List Token) (last : Token) → is_inner n ≡ true
    → tokens ≡ front ++ last ∷ [] → last.kind ≡ End → Begins written (form n done) end (symbols tokens) → ⊥
never_ended n tokens front last inner split is begins =
    let ended_so : has (symbols tokens) end_of_text ≡ true = subst (λ ts. has (symbols ts) end_of_text ≡ true) (sym split) (has_last front last is) in
    false≢true (sym (endless begins.1 (both (is_inner n) true inner refl) refl) ∙ ended_so)
