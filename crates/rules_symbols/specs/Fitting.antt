-- What may stand where something is wanted, if nothing is told of it. Where a value of a type is wanted that is a value of a type
-- that agrees with it, or `OOD` where lines have the type; where a table or a port is wanted nothing else is one.
use Rattle.std.specs.Prelude.{◌≡◌, ◌||◌, true, false, Option, None, Some, List}
use Rattle.ruby_value.specs.declared.kind.Kind.{Kind}
use Rattle.ruby_value.specs.Prelude.{is_reference}
use Rattle.slicc_ast.specs.declared.tree.item.Tree.{Tree}
use Rattle.slicc_ast.specs.declared.tree.machine.Machine.{Machine}
use Rattle.slicc_plan.specs.declared.built_in.BuiltInType.{BuiltInType}
use Rattle.slicc_plan.specs.declared.built_in.BuiltInType.TheVariants.{Address}
use Rattle.slicc_plan.specs.CallTypes.{is_told}
use Rattle.slicc_plan.specs.Meanings.{Meaning, value, no_line, bare_line, table, in_port, out_port, agree, is_comparable, is_line}
use Rattle.slicc_plan.specs.TypeNumbers.{value_kind}
use Rattle.slicc_plan.specs.Types.{KnownType, built_in}

-- it is known, and no `new`, of neither of which anything is told where it doesn't fit
abbrev pub IsSure : Meaning → Type 0
IsSure meaning = is_told meaning ≡ false

-- it serves as a value of this type
abbrev pub IsLike : Machine → KnownType → Meaning → Type 0
IsLike m t (value u) = agree t u ≡ true
IsLike m t no_line = is_line m t ≡ true
IsLike m t _ = ⊥

-- its values have this kind in the machine, down to an enumeration's default member
abbrev pub IsOfKind : List Tree → Machine → Kind → Meaning → Type 0
IsOfKind trees m k (value u) = value_kind trees m u ≡ Some k
IsOfKind trees m k no_line = is_reference k ≡ true
IsOfKind trees m k _ = ⊥

-- it is a reference to a line of a table, or to nothing
abbrev pub IsAnyLine : Machine → Meaning → Type 0
IsAnyLine m (value t) = is_line m t ≡ true
IsAnyLine m no_line = Unit {0}
IsAnyLine m bare_line = Unit {0}
IsAnyLine m _ = ⊥

-- it is `OOD`
abbrev pub IsNoLine : Meaning → Type 0
IsNoLine no_line = Unit {0}
IsNoLine _ = ⊥

-- it is an address, or serves as a reference to lines of the type, if there is one
abbrev pub IsAddressOrLine : Machine → Option KnownType → Meaning → Type 0
IsAddressOrLine m None (value u) = agree (built_in Address) u ≡ true
IsAddressOrLine m (Some t) (value u) = (agree (built_in Address) u || agree t u) ≡ true
IsAddressOrLine m line no_line = Unit {0}
IsAddressOrLine m line _ = ⊥

-- it is what `==` compares
abbrev pub IsComparable : Machine → Meaning → Type 0
IsComparable m (value t) = is_comparable m t ≡ true
IsComparable m _ = ⊥

abbrev pub IsTable : BuiltInType → Meaning → Type 0
IsTable b (table c) = b ≡ c
IsTable b _ = ⊥

abbrev pub IsInPort : Meaning → Type 0
IsInPort (in_port t) = Unit {0}
IsInPort _ = ⊥

abbrev pub IsOutPort : Meaning → Type 0
IsOutPort (out_port t) = Unit {0}
IsOutPort _ = ⊥
