-- A name is declared twice in its scope. That is told at each declaration of the name but the first, whose name is the second
-- place. A name of a built-in type can't be declared right in the protocol, as if that type had been declared before; an
-- external structure of that name stands for the type. In a machine such a declaration hides the type.
use Rattle.std.specs.Prelude.{ℕ, Bool, true, false, not, ◌&&◌, is_some, Option, None, Some, List, [], ◌∷◌, ◌++◌, find, flat_map}
use Rattle.std.specs.Str.{bytes_eq}
use Rattle.slicc_ast.specs.declared.tree.span.Span.{Span}
use Rattle.slicc_ast.specs.declared.tree.item.Tree.{Tree}
use Rattle.slicc_ast.specs.declared.tree.name.Name.{Name}
use Rattle.slicc_plan.specs.declared.broken.Broken.{Broken}
use Rattle.slicc_plan.specs.declared.broken.Rule.TheVariants.{TwiceDeclared}
use Rattle.slicc_plan.specs.BuiltIn.{built_in_type}
use Rattle.slicc_plan.specs.Declarations.{Declaration, structure, global_declarations, is_external, name_of}
use Rattle.slicc_plan.specs.Scopes.{scopes_within}

abbrev pub twice_declared : Span → Option Span → Broken
twice_declared place other = record { rule = TwiceDeclared; machine = 0; place = place; other = other }

-- a name that may be lacking, as a list
abbrev pub listed : Option Name → List Name
listed None = []
listed (Some n) = n ∷ []

-- the names that are declared, in order
abbrev pub names_of : List Declaration → List Name
names_of declarations = flat_map (λ (d : Declaration). listed (name_of d)) declarations

-- the first of the names with this text
abbrev pub first_with : List ℕ → List Name → Option Name
first_with text names = find (λ (n : Name). bytes_eq n.text text) names

-- the name at a place, which is declared at another one too, if there is one
abbrev pub told_with : Span → Option Name → List Broken
told_with place None = []
told_with place (Some other) = twice_declared place (Some other.span) ∷ []

-- a name, with the names before it in its scope
abbrev pub told_after : List Name → Name → List Broken
told_after before n = told_with n.span (first_with n.text before)

-- the names of a scope that were declared before in it, with the names that were declared before all of these
abbrev pub repeated_after : List Name → List Name → List Broken
repeated_after before [] = []
repeated_after before (n ∷ ns) = told_after before n ++ repeated_after (before ++ n ∷ []) ns

abbrev pub repeated : List Declaration → List Broken
repeated scope = repeated_after [] (names_of scope)

-- a declaration that may bear the name of a built-in type
abbrev pub stands_for_built_in : Declaration → Bool
stands_for_built_in (structure s) = is_external s
stands_for_built_in _ = false

abbrev pub takes_built_in_name : Declaration → Name → Bool
takes_built_in_name d n = is_some (built_in_type n.text) && not (stands_for_built_in d)

-- the same of a name that is declared right in the protocol
abbrev pub told_globally : List Name → Name → Bool → List Broken
told_globally before n true = twice_declared n.span None ∷ []
told_globally before n false = told_after before n

abbrev pub declaration_told : List Name → Declaration → Option Name → List Broken
declaration_told before d None = []
declaration_told before d (Some n) = told_globally before n (takes_built_in_name d n)

abbrev pub globally_repeated_after : List Name → List Declaration → List Broken
globally_repeated_after before [] = []
globally_repeated_after before (d ∷ ds) =
    declaration_told before d (name_of d) ++ globally_repeated_after (before ++ listed (name_of d)) ds

abbrev pub names_twice_declared : List Tree → List Broken
names_twice_declared trees =
    globally_repeated_after [] (global_declarations trees) ++ flat_map repeated (scopes_within trees)
