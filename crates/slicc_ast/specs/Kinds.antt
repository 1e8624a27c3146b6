-- Kinds of tokens are numbers, and a set of kinds is a list of them. A grammar sees a token by its kind alone: what text a
-- name or a string has is no matter of its kind, unless the grammar says otherwise by a kind of its own.
use Rattle.std.specs.Prelude.{ℕ, ◌==◌, ◌&&◌, ◌||◌, Bool, true, false, not, List, [], ◌∷◌}

-- the kind is in the set
abbrev pub has : List ℕ → ℕ → Bool
has [] kind = false
has (k ∷ kinds) kind = (k == kind) || has kinds kind

-- the list has a first token, and its kind is in the set
abbrev pub is_ahead : List ℕ → List ℕ → Bool
is_ahead kinds [] = false
is_ahead kinds (kind ∷ tokens) = has kinds kind

-- each kind of the first set is in the second
abbrev pub is_subset : List ℕ → List ℕ → Bool
is_subset [] others = true
is_subset (k ∷ kinds) others = has others k && is_subset kinds others

-- the two sets have no kind in common
abbrev pub are_disjoint : List ℕ → List ℕ → Bool
are_disjoint [] others = true
are_disjoint (k ∷ kinds) others = not (has others k) && are_disjoint kinds others
