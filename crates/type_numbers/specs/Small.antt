-- What is numbered within 16 bits, as each accepted protocol has it: the members of an enumeration or of a state declaration, the
-- fields of a structure, and virtual networks.
use Rattle.std.specs.Prelude.{◌≤◌, ℕ, IfSome, List, filter, length}
use Rattle.slicc_ast.specs.declared.tree.declaration.Member.{Member}
use Rattle.slicc_ast.specs.declared.tree.item.Tree.{Tree}
use Rattle.slicc_plan.specs.Prelude.{Declaration, member, Scope, is_field, members_in, Place, own, to_network, from_network, KnownType, enumerated, structured, type_in}

abbrev pub HasFewMembers : Declaration → Type 0
HasFewMembers d = length (members_in d) ≤ 65535

-- of a type
abbrev pub IsOfFewMembers : KnownType → Type 0
IsOfFewMembers (enumerated scope text members) = length members ≤ 65535
IsOfFewMembers _ = Unit {0}

abbrev pub IsOfFewFields : KnownType → Type 0
IsOfFewFields (structured scope s) = length (filter (λ (m : Member). is_field (member m)) s.members) ≤ 64
IsOfFewFields _ = Unit {0}

-- each type that a name stands for in the scope has few members
abbrev pub NamesFewMembers : List Tree → Scope → Type 0
NamesFewMembers trees scope = (text : List ℕ) → IfSome (type_in trees scope text) IsOfFewMembers

abbrev pub IsOnNetwork : Place → Type 0
IsOnNetwork own = Unit {0}
IsOnNetwork (to_network n) = n ≤ 15
IsOnNetwork (from_network n) = n ≤ 15
