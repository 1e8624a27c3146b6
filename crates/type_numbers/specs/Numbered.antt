-- Declarations of types, as the definitions of a protocol's meaning see them, and the lists by which the types of an accepted
-- protocol are numbered.
use Rattle.std.specs.Prelude.{◌≡◌, ◌≤◌, ℕ, Bool, List, length, map}
use Rattle.slicc_ast.specs.declared.tree.item.Tree.{Tree}
use Rattle.slicc_plan.specs.Prelude.{IsAccepted, Declaration, machines_of, is_counted_structure, is_enumeration, ScopedDeclaration, declared_enumerations, declared_structures, own_default}
use Rattle.declared_types.specs.Prelude.{declaration_of, scope_of}
use Rattle.type_numbers.specs.declared.numbering.Lists.{Lists}
use Rattle.type_numbers.specs.declared.numbering.Scoped.{Scoped}
use Rattle.type_numbers.specs.declared.numbering.TypeNumbers.{TypeNumbers}
use Rattle.type_numbers.specs.declared.numbering.TypeSort.{TypeSort}
use Rattle.type_numbers.specs.declared.numbering.TypeSort.TheVariants.{Enumeration, Structure}

abbrev pub scoped_of : Scoped → ScopedDeclaration
scoped_of s = record { scope = scope_of s.scope; declaration = declaration_of s.declaration }

abbrev pub is_of_sort : TypeSort → Declaration → Bool
is_of_sort Enumeration d = is_enumeration d
is_of_sort Structure d = is_counted_structure d

abbrev pub has_sort : TypeSort → ScopedDeclaration → Bool
has_sort sort d = is_of_sort sort d.declaration

-- the trees that the types are of
abbrev pub trees_of : TypeNumbers → List Tree
trees_of types = types.scopes.trees.now

-- the number of the default member of what is declared
abbrev pub default_of : ScopedDeclaration → ℕ
default_of d = own_default d.scope d.declaration

-- the lists of types of these trees, which are short enough for numbers of 16 bits
pub record AreLists (trees : List Tree) (lists : Lists) : Type 0 where
  pub machines : map (λ m. m.now) lists.machines ≡ machines_of trees
  pub enumerations : map scoped_of lists.enumerations ≡ declared_enumerations trees
  pub structures : map scoped_of lists.structures ≡ declared_structures trees
  pub defaults : lists.defaults ≡ map default_of (declared_enumerations trees)
  pub few_enumerations : length lists.enumerations ≤ 16380
  pub few_structures : length lists.structures ≤ 16384

pub record AreNumbered (types : TypeNumbers) : Type 0 where
  pub accepted : IsAccepted (trees_of types)
  pub machines : map (λ m. m.now) types.machines ≡ machines_of (trees_of types)
  pub enumerations : map scoped_of types.enumerations ≡ declared_enumerations (trees_of types)
  pub structures : map scoped_of types.structures ≡ declared_structures (trees_of types)
  pub defaults : types.defaults ≡ map default_of (declared_enumerations (trees_of types))
  pub few_enumerations : length types.enumerations ≤ 16380
  pub few_structures : length types.structures ≤ 16384
