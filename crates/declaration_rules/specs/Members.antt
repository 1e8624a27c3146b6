-- The members of any type.
use Rattle.std.specs.Prelude.{ℕ, List, []}
use Rattle.slicc_plan.specs.Prelude.{members_of, KnownType, built_in, enumerated, structured}

-- the members of a type, none where it is no enumeration, in a protocol with machines of these names
abbrev pub members_in : List (List ℕ) → KnownType → List (List ℕ)
members_in machines (built_in b) = members_of machines b
members_in machines (enumerated scope own members) = members
members_in machines (structured scope s) = []
