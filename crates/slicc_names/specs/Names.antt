-- The names of a scope are numbered in the order of their first declarations, from 0. Scopes are numbered too: the protocol
-- is 0, and its machines follow in their order.
use Rattle.std.specs.Prelude.{ℕ, All, IsTrue, Option, None, Some, cond, nat_lt, List, [], fold, map, option_and_then}
use Rattle.std.specs.List.{slice_get}
use Rattle.slicc_ast.specs.declared.tree.item.Tree.{Tree}
use Rattle.slicc_ast.specs.Prelude.{is_allowed, tree}
use Rattle.ruby_base.specs.Prelude.{number_among, with_name}
use Rattle.slicc_ast.specs.declared.tree.name.Name.{Name}
use Rattle.slicc_plan.specs.Prelude.{Declaration, Scope, declared_in, wide_scopes}
use Rattle.slicc_plan.specs.TwiceDeclared.{names_of}

-- each of these texts once, in the order in which they come first
abbrev pub once_each : List (List ℕ) → List (List ℕ)
once_each texts = fold with_name [] texts

abbrev pub texts_declared : List Declaration → List (List ℕ)
texts_declared declarations = map (λ (n : Name). n.text) (names_of declarations)

abbrev pub scope_names : List Tree → Scope → List (List ℕ)
scope_names trees scope = once_each (texts_declared (declared_in trees scope))

abbrev pub all_names : List Tree → List (List (List ℕ))
all_names trees = map (scope_names trees) (wide_scopes trees)

-- numbers have 16 bits
abbrev pub short_number : ℕ → Option ℕ
short_number n = cond (nat_lt n 65536) (Some n) None

abbrev pub name_number : List (List (List ℕ)) → ℕ → List ℕ → Option ℕ
name_number scopes scope name =
    option_and_then short_number (option_and_then (λ names. number_among names name) (slice_get scopes scope))

-- the trees keep the conditions of the grammar, as those do that tokens spell
abbrev pub KeepGrammar : List Tree → Type 0
KeepGrammar trees = All (λ (t : Tree). IsTrue (is_allowed (tree t))) trees
