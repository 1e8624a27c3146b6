-- The fields of structures: their kinds, and the values that they have before anything is written to them. A field has the
-- default that its declaration writes; else a number is 0, and so on, and a member of an enumeration the default of that. These
-- are the rules of SLICC in gem5.
use Rattle.std.specs.Prelude.{ℕ, cond, pos, Option, None, Some, List, [], flat_map, map, unwrap_or, option_and_then, codes}
use Rattle.ruby_value.specs.declared.kind.Kind.{Kind}
use Rattle.ruby_value.specs.declared.kind.Kind.TheVariants as kind
use Rattle.ruby_value.specs.declared.value.Value.{Value}
use Rattle.ruby_value.specs.declared.value.Value.TheVariants as value
use Rattle.ruby_value.specs.Prelude.{default_value}
use Rattle.slicc_ast.specs.declared.tree.declaration.PairValue.{PairValue}
use Rattle.slicc_ast.specs.declared.tree.declaration.Structure.{Structure}
use Rattle.slicc_ast.specs.declared.tree.item.Tree.{Tree}
use Rattle.slicc_plan.specs.declared.built_in.BuiltInType.TheVariants.{Request}
use Rattle.slicc_plan.specs.Attributes.{Attribute, first_attribute, is_word, number_value}
use Rattle.slicc_plan.specs.BuiltIn.{NamedType, is_same_type, members_of, request_fields}
use Rattle.slicc_plan.specs.Declarations.{Scope, everywhere, machine_names}
use Rattle.slicc_plan.specs.FieldTypes.{FieldIn, field_of, field_type}
use Rattle.slicc_plan.specs.TypeNumbers.{built_in_kind, kind_or_bool, member_number, plain_kind}
use Rattle.slicc_plan.specs.Types.{KnownType, built_in, enumerated, structured}

abbrev pub structure_fields : Scope → Structure → List FieldIn
structure_fields scope s = flat_map (field_of scope) s.members

abbrev pub field_kind : List Tree → FieldIn → Kind
field_kind trees f = kind_or_bool (option_and_then (plain_kind trees) (field_type trees f))

abbrev pub field_kinds : List Tree → Scope → Structure → List Kind
field_kinds trees scope s = map (field_kind trees) (structure_fields scope s)

-- Values that declarations write.

-- the number of the member that a default names, where the type is written as this text
abbrev pub member_written : List Tree → List ℕ → KnownType → PairValue → Option ℕ
member_written trees text (built_in b) v = member_number everywhere text (members_of (machine_names trees) b) v
member_written trees text (enumerated scope own members) v = member_number scope own members v
member_written trees text (structured scope s) v = None

abbrev pub value_written : List Tree → List ℕ → KnownType → Kind → PairValue → Value
value_written trees text t kind.Int v = value.Int (pos (unwrap_or (number_value v) 0))
value_written trees text t kind.Addr v = value.Addr (unwrap_or (number_value v) 0)
value_written trees text t kind.Bool v = value.Bool (is_word (codes "true") v)
value_written trees text t (kind.Enum number member) v =
    value.Enum number (unwrap_or (member_written trees text t v) member)
value_written trees text t k v = default_value k

-- with the default that may be written
abbrev pub value_by : List Tree → List ℕ → KnownType → Kind → Option Attribute → Value
value_by trees text t k None = default_value k
value_by trees text t k (Some a) = value_written trees text t k a.value

abbrev pub initial_of : List Tree → FieldIn → Option KnownType → Value
initial_of trees f None = default_value (field_kind trees f)
initial_of trees f (Some t) =
    value_by trees f.kind.text t (field_kind trees f) (first_attribute (codes "default") f.attributes)

abbrev pub initial_value : List Tree → FieldIn → Value
initial_value trees f = initial_of trees f (field_type trees f)

abbrev pub initial_fields : List Tree → Scope → Structure → List Value
initial_fields trees scope s = map (initial_value trees) (structure_fields scope s)

-- Messages.

abbrev pub request_kinds : List Kind
request_kinds = map (λ (f : NamedType). kind_or_bool (built_in_kind f.meaning)) request_fields

-- the kinds of the fields of messages of a type
abbrev pub message_kinds : List Tree → KnownType → List Kind
message_kinds trees (built_in b) = cond (is_same_type b Request) request_kinds []
message_kinds trees (enumerated scope text members) = []
message_kinds trees (structured scope s) = field_kinds trees scope s

-- the fields of a new message of a type
abbrev pub message_fields : List Tree → KnownType → List Value
message_fields trees (built_in b) = cond (is_same_type b Request) (map default_value request_kinds) []
message_fields trees (enumerated scope text members) = []
message_fields trees (structured scope s) = initial_fields trees scope s
