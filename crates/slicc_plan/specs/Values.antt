-- An attribute that has a meaning, or the literal of a parameter, has a value that it may not have. That is told at the
-- attribute or at the literal. An attribute has its meaning only where it can apply; of several of one name each is judged.
-- `network`, `virtual_network` and `ordered` are those of a buffer, `entries` that of a TBE table, and `default` that of an
-- enumeration, of a state declaration and of a field. Any value of `interface`, `main` and `external` will do.
use Rattle.std.specs.Prelude.{ℕ, ◌++◌, ◌||◌, Bool, true, false, not, cond, is_some, Option, None, Some, List, [], ◌∷◌, flat_map, filter, map, codes}
use Rattle.std.specs.List.{list_any}
use Rattle.std.specs.Str.{bytes_eq}
use Rattle.slicc_ast.specs.declared.tree.span.Span.{Span}
use Rattle.slicc_ast.specs.declared.tree.item.Tree.{Tree}
use Rattle.slicc_ast.specs.declared.tree.machine.Literal.{Literal}
use Rattle.slicc_ast.specs.declared.tree.machine.Literal.TheVariants.{Number, Minus, Quoted, True, False}
use Rattle.slicc_ast.specs.declared.tree.declaration.Pairs.{Pairs}
use Rattle.slicc_ast.specs.declared.tree.declaration.PairValue.{PairValue}
use Rattle.slicc_plan.specs.declared.broken.Broken.{Broken}
use Rattle.slicc_plan.specs.declared.broken.Rule.TheVariants.{BadValue}
use Rattle.slicc_plan.specs.declared.built_in.BuiltInType.{BuiltInType}
use Rattle.slicc_plan.specs.declared.built_in.BuiltInType.TheVariants.{TbeTable, Buffer}
use Rattle.slicc_plan.specs.Attributes.{Attribute, attributes, is_within, is_word, number_value}
use Rattle.slicc_plan.specs.BuiltIn.{Nature, number, boolean, address, enumeration as enumeration_nature, other_value, structure, table, nothing, members_of, nature_of}
use Rattle.slicc_plan.specs.Declarations.{Declaration, enumeration, states, parameter, object, Scope, everywhere, within, declared_in, machine_names, wide_scopes}
use Rattle.slicc_plan.specs.FieldTypes.{FieldIn, all_fields, field_type}
use Rattle.slicc_plan.specs.Types.{KnownType, built_in, enumerated, structured, declared_type, is_built_in, nature_in, type_in}

abbrev pub bad_value : Span → Broken
bad_value place = record { rule = BadValue; machine = 0; place = place; other = None }

-- the attributes of this name whose values don't pass the test
abbrev pub bad_attributes : List ℕ → (PairValue → Bool) → Pairs → List Broken
bad_attributes key is_right pairs =
    map (λ (a : Attribute). bad_value a.place) (filter (λ (a : Attribute). not (is_right a.value)) (attributes key pairs))

-- one of two words
abbrev pub is_either : List ℕ → List ℕ → PairValue → Bool
is_either one other value = is_word one value || is_word other value

abbrev pub is_number_within : ℕ → ℕ → PairValue → Bool
is_number_within low high value = is_within low high (number_value value)

-- Buffers and TBE tables, which are parameters or objects.

abbrev pub bad_buffer_attributes : Pairs → List Broken
bad_buffer_attributes pairs =
    bad_attributes (codes "network") (is_either (codes "To") (codes "From")) pairs
    ++ bad_attributes (codes "virtual_network") (is_number_within 0 15) pairs
    ++ bad_attributes (codes "ordered") (is_either (codes "true") (codes "false")) pairs

abbrev pub bad_entries : Pairs → List Broken
bad_entries pairs = bad_attributes (codes "entries") (is_number_within 1 256) pairs

abbrev pub bad_object_attributes : Option KnownType → Pairs → List Broken
bad_object_attributes t pairs =
    cond (is_built_in Buffer t) (bad_buffer_attributes pairs) []
    ++ cond (is_built_in TbeTable t) (bad_entries pairs) []

-- Literals of parameters: numbers, also negative ones, for numbers; and for `bool` the two words, or the strings `True` and
-- `False`. A parameter of another type has none.

abbrev pub is_right_literal : Nature → Literal → Bool
is_right_literal number (Number n span) = true
is_right_literal number (Minus n span) = true
is_right_literal boolean (True span) = true
is_right_literal boolean (False span) = true
is_right_literal boolean (Quoted text span) = bytes_eq text (codes "True") || bytes_eq text (codes "False")
is_right_literal nature literal = false

abbrev pub literal_span : Literal → Span
literal_span (Number n span) = span
literal_span (Minus n span) = span
literal_span (Quoted text span) = span
literal_span (True span) = span
literal_span (False span) = span

abbrev pub bad_literal_of : KnownType → Literal → List Broken
bad_literal_of t literal = cond (is_right_literal (nature_in t) literal) [] (bad_value (literal_span literal) ∷ [])

-- nothing more is told where the type isn't known
abbrev pub bad_literal : Option KnownType → Option Literal → List Broken
bad_literal None literal = []
bad_literal (Some t) None = []
bad_literal (Some t) (Some literal) = bad_literal_of t literal

-- Defaults.

-- how the members of an enumeration are named as defaults: with its name before them, and, where it is a machine's own, with
-- that of the machine before that or not
abbrev pub default_name : List ℕ → List ℕ → List ℕ
default_name text member = text ++ codes "_" ++ member

abbrev pub default_names : Scope → List ℕ → List (List ℕ) → List (List ℕ)
default_names everywhere text members = map (default_name text) members
default_names (within m) text members =
    map (default_name text) members ++ map (default_name (default_name m.name.text text)) members

abbrev pub is_member_word : Scope → List ℕ → List (List ℕ) → PairValue → Bool
is_member_word scope text members value =
    list_any (λ word. is_word word value) (default_names scope text members)

abbrev pub is_built_in_default : List (List ℕ) → BuiltInType → List ℕ → Nature → PairValue → Bool
is_built_in_default machines b text number value = is_some (number_value value)
is_built_in_default machines b text address value = is_some (number_value value)
is_built_in_default machines b text boolean value = is_either (codes "true") (codes "false") value
is_built_in_default machines b text enumeration_nature value = is_member_word everywhere text (members_of machines b) value
is_built_in_default machines b text other_value value = false
is_built_in_default machines b text structure value = false
is_built_in_default machines b text table value = false
is_built_in_default machines b text nothing value = false

-- the value may be the default of a field of this type, whose name is this text, in a protocol with machines of these names
abbrev pub is_right_default : List (List ℕ) → List ℕ → KnownType → PairValue → Bool
is_right_default machines text (built_in b) value = is_built_in_default machines b text (nature_of b) value
is_right_default machines text (enumerated scope own members) value = is_member_word scope own members value
is_right_default machines text (structured scope s) value = false

abbrev pub bad_field_default : List (List ℕ) → FieldIn → Option KnownType → List Broken
bad_field_default machines f None = []
bad_field_default machines f (Some t) =
    bad_attributes (codes "default") (is_right_default machines f.kind.text t) f.attributes

abbrev pub bad_field_defaults : List Tree → List Broken
bad_field_defaults trees =
    flat_map (λ (f : FieldIn). bad_field_default (machine_names trees) f (field_type trees f)) (all_fields trees)

-- the default of an enumeration or of a state declaration is one of its members
abbrev pub bad_own_default : Option KnownType → Pairs → List Broken
bad_own_default None pairs = []
bad_own_default (Some t) pairs = bad_attributes (codes "default") (is_right_default [] [] t) pairs

-- What is declared right in the protocol or in a machine.

abbrev pub bad_values_of : List Tree → Scope → Declaration → List Broken
bad_values_of trees scope (enumeration e) = bad_own_default (declared_type scope (enumeration e)) e.pairs
bad_values_of trees scope (states s) = bad_own_default (declared_type scope (states s)) s.pairs
bad_values_of trees scope (parameter p) =
    bad_literal (type_in trees scope p.kind.text) p.literal
    ++ bad_object_attributes (type_in trees scope p.kind.text) p.pairs
bad_values_of trees scope (object o) = bad_object_attributes (type_in trees scope o.kind.text) o.pairs
bad_values_of trees scope _ = []

abbrev pub bad_values_in : List Tree → Scope → List Broken
bad_values_in trees scope = flat_map (bad_values_of trees scope) (declared_in trees scope)

abbrev pub bad_values : List Tree → List Broken
bad_values trees = flat_map (bad_values_in trees) (wide_scopes trees) ++ bad_field_defaults trees
