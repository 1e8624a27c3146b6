-- When one token ahead decides, row by row: the alternatives of a form begin with different tokens, an optional or
-- repeated part begins with no token with which what is behind it does, and no part begins with a token with which the
-- part before it could go on. Such a table is LL(1). For a finite list of forms it is computed.
use Rattle.std.specs.Prelude.{◌≡◌, Bool, true, not, ◌&&◌, ◌||◌, List, [], ◌∷◌, ◌++◌}
use Rattle.std.specs.List.{flat_map, list_all}
use Rattle.slicc_ast.specs.Kinds.{is_subset, are_disjoint}
use Rattle.slicc_ast.specs.Grammar.{Row, Grammar, is_nullable, first_of, further_of}
use Rattle.slicc_ast.specs.Grammar.Row.{done, token, form, maybe, many, nested}

-- one token ahead decides in the row
abbrev pub is_decided : {F : Type 0} → Grammar F → Row F → Bool
is_decided g done = true
is_decided g (token kinds row) = is_decided g row
is_decided g (form n row) = are_disjoint (g.further n) (first_of g row) && is_decided g row
is_decided g (maybe part row) =
    not (is_nullable g part) && are_disjoint (first_of g part) (first_of g row)
    && are_disjoint (further_of g part) (first_of g row) && is_decided g part && is_decided g row
is_decided g (many part row) =
    not (is_nullable g part) && are_disjoint (first_of g part) (first_of g row)
    && are_disjoint (further_of g part) (first_of g part ++ first_of g row) && is_decided g part && is_decided g row
is_decided g (nested kinds part row) =
    not (is_nullable g part) && are_disjoint (further_of g part) (first_of g row) && is_decided g part && is_decided g row

-- no later alternative begins with a token with which this one does, and at most one of them may be empty
abbrev pub differs_from_all : {F : Type 0} → Grammar F → Row F → List (Row F) → Bool
differs_from_all g row [] = true
differs_from_all g row (other ∷ others) =
    are_disjoint (first_of g row) (first_of g other) && not (is_nullable g row && is_nullable g other)
    && differs_from_all g row others

abbrev pub are_different : {F : Type 0} → Grammar F → List (Row F) → Bool
are_different g [] = true
are_different g (row ∷ rows) = differs_from_all g row rows && are_different g rows

-- what the table says of a form holds of this alternative of it
abbrev pub agrees_with : {F : Type 0} → Grammar F → F → Row F → Bool
agrees_with g n row =
    is_decided g row && is_subset (first_of g row) (g.first n) && is_subset (further_of g row) (g.further n)
    && (not (is_nullable g row) || (g.may_be_empty n && is_subset (g.first n) (g.further n)))

abbrev pub is_form_predictive : {F : Type 0} → Grammar F → F → Bool
is_form_predictive g n =
    list_all (agrees_with g n) (g.alternatives n) && are_different g (g.alternatives n)
    && is_subset (g.first n) (flat_map (first_of g) (g.alternatives n))

-- one token ahead decides in the table of these forms
abbrev pub is_predictive : {F : Type 0} → Grammar F → List F → Bool
is_predictive g forms = list_all (is_form_predictive g) forms

-- one token ahead decides in the whole table
abbrev pub IsPredictive : {F : Type 0} → Grammar F → Type 0
IsPredictive {F} g = (n : F) → is_form_predictive g n ≡ true
