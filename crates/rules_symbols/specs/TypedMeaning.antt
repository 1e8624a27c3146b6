-- What an expression stands for in which nothing is broken: a value of a type that has values and a kind in the machine, a reference to
-- nothing, a message, a table, a port with its messages, or nothing; never `new`, nor what isn't known.
use Rattle.std.specs.Prelude.{ℕ, ◌≡◌, true, false, None, Some, List, All, slice_get}
use Rattle.ruby_value.specs.declared.kind.Kind.{Kind}
use Rattle.slicc_ast.specs.declared.tree.declaration.Structure.{Structure}
use Rattle.slicc_ast.specs.declared.tree.item.Tree.{Tree}
use Rattle.slicc_ast.specs.declared.tree.machine.Machine.{Machine}
use Rattle.slicc_plan.specs.AllRules.{IsAccepted}
use Rattle.slicc_plan.specs.BuiltIn.{is_table_nature, nature_of}
use Rattle.slicc_plan.specs.Declarations.{Scope, structure, declared_in, is_external, machines_of, wide_scopes}
use Rattle.slicc_plan.specs.Environment.{Bound, Environment}
use Rattle.slicc_plan.specs.ExpressionTypes.{fields_scope}
use Rattle.slicc_plan.specs.Meanings.{Meaning, value, no_line, bare_line, new_line, incoming, outgoing, table, in_port, out_port, nothing, unknown, is_message, is_value}
use Rattle.slicc_plan.specs.TypeNumbers.{made_in, scoped_declarations, value_kind}
use Rattle.slicc_plan.specs.Types.{KnownType, built_in, enumerated, structured}
use Rattle.rules_symbols.specs.IsAmong.{IsAmong}

-- a structure that is declared in its scope, and whose members are looked at
pub record IsStructureIn (trees : List Tree) (scope : Scope) (s : Structure) : Type 0 where
  pub among : IsAmong (wide_scopes trees) scope
  pub there : IsAmong (declared_in trees scope) (structure s)
  pub declared : IsAmong (scoped_declarations trees) (made_in scope (structure s))
  pub is_own : is_external s ≡ false

-- a type that a name of the machine may stand for: its own, or one of the protocol
abbrev pub IsTypeIn : List Tree → Machine → KnownType → Type 0
IsTypeIn trees m (structured scope s) = IsStructureIn trees scope s × (fields_scope m scope ≡ scope)
IsTypeIn trees m (enumerated scope text members) = fields_scope m scope ≡ scope
IsTypeIn trees m (built_in b) = Unit {0}

-- of values
abbrev pub IsValueType : List Tree → Machine → KnownType → Type 0
IsValueType trees m t = (is_value m t ≡ true) × IsTypeIn trees m t × ((k : Kind) × (value_kind trees m t ≡ Some k))

-- of messages
abbrev pub IsMessageType : List Tree → Machine → KnownType → Type 0
IsMessageType trees m t = (is_message t ≡ true) × IsTypeIn trees m t

abbrev pub IsTyped : List Tree → Machine → Meaning → Type 0
IsTyped trees m (value t) = IsValueType trees m t
IsTyped trees m no_line = Unit {0}
IsTyped trees m bare_line = Unit {0}
IsTyped trees m (new_line made) = ⊥
IsTyped trees m (incoming t) = IsMessageType trees m t
IsTyped trees m (outgoing t) = IsMessageType trees m t
IsTyped trees m (table b) = is_table_nature (nature_of b) ≡ true
IsTyped trees m (in_port None) = ⊥
IsTyped trees m (in_port (Some t)) = IsMessageType trees m t
IsTyped trees m (out_port None) = ⊥
IsTyped trees m (out_port (Some t)) = IsMessageType trees m t
IsTyped trees m nothing = Unit {0}
IsTyped trees m unknown = ⊥

-- an environment of a body of the machine of this number of an accepted protocol, whose names stand for such things
pub record IsTypedIn (number : ℕ) (env : Environment) : Type 0 where
  pub accepted : IsAccepted env.trees
  pub machine : slice_get (machines_of env.trees) number ≡ Some env.machine
  pub bound : All (λ (b : Bound). IsTyped env.trees env.machine b.meaning) env.bound
