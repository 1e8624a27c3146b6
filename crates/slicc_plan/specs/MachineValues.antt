-- The values of a machine: its parameters and objects of a type whose values are no references, in the order of the text. Each
-- begins as the literal that a parameter may have, else as the default of its kind, but as 1 where its type is `Cycles`. One
-- whose type has references is always a reference to nothing, since nothing is ever written to a parameter or an object.
use Rattle.std.specs.Prelude.{ℕ, Bool, true, pos, neg_ℤ, Option, None, Some, List, [], ◌∷◌, flat_map, option_and_then, codes}
use Rattle.std.specs.Str.{bytes_eq}
use Rattle.ruby_value.specs.declared.kind.Kind.{Kind}
use Rattle.ruby_value.specs.declared.kind.Kind.TheVariants as kind
use Rattle.ruby_value.specs.declared.value.Value.{Value}
use Rattle.ruby_value.specs.declared.value.Value.TheVariants as value
use Rattle.ruby_value.specs.Prelude.{default_value}
use Rattle.ruby_symbols.specs.declared.types.FieldSymbol.{FieldSymbol}
use Rattle.slicc_ast.specs.declared.tree.item.Tree.{Tree}
use Rattle.slicc_ast.specs.declared.tree.machine.Literal.{Literal}
use Rattle.slicc_ast.specs.declared.tree.machine.Literal.TheVariants.{Number, Minus, Quoted, True}
use Rattle.slicc_ast.specs.declared.tree.machine.Machine.{Machine}
use Rattle.slicc_plan.specs.declared.built_in.BuiltInType.TheVariants.{Cycles}
use Rattle.slicc_plan.specs.Declarations.{Declaration, parameter, object, within, machine_declarations}
use Rattle.slicc_plan.specs.TypeNumbers.{plain_kind, value_kind}
use Rattle.slicc_plan.specs.Types.{KnownType, structured, is_built_in, type_in}

abbrev pub literal_value : Kind → Literal → Value
literal_value kind.Int (Number n span) = value.Int n
literal_value kind.Int (Minus n span) = value.Int (neg_ℤ n)
literal_value kind.Bool (True span) = value.Bool true
literal_value kind.Bool (Quoted text span) = value.Bool (bytes_eq text (codes "True"))
literal_value k literal = default_value k

abbrev pub written_value : Kind → Bool → Option Literal → Value
written_value k counts_cycles (Some literal) = literal_value k literal
written_value kind.Int true None = value.Int (pos 1)
written_value k counts_cycles None = default_value k

-- a parameter or an object of this name and type, whose values are of this kind, if they are no references
abbrev pub value_of_kind : List ℕ → Option KnownType → Option Literal → Option Kind → List FieldSymbol
value_of_kind text t literal None = []
value_of_kind text t literal (Some k) =
    record { name = text; kind = k; initial = written_value k (is_built_in Cycles t) literal } ∷ []

abbrev pub value_of_type : List Tree → List ℕ → Option KnownType → Option Literal → List FieldSymbol
value_of_type trees text t literal = value_of_kind text t literal (option_and_then (plain_kind trees) t)

abbrev pub value_in : List Tree → Machine → Declaration → List FieldSymbol
value_in trees m (parameter p) = value_of_type trees p.name.text (type_in trees (within m) p.kind.text) p.literal
value_in trees m (object o) = value_of_type trees o.name.text (type_in trees (within m) o.kind.text) None
value_in trees m _ = []

abbrev pub values_of : List Tree → Machine → List FieldSymbol
values_of trees m = flat_map (value_in trees m) (machine_declarations m)

-- References to nothing.

-- the kind of the references of a type, if it is that of lines of this machine
abbrev pub line_kind : List Tree → Machine → KnownType → Option Kind
line_kind trees m (structured scope s) = value_kind trees m (structured scope s)
line_kind trees m _ = None

abbrev pub reference_of_kind : List ℕ → Option Kind → List FieldSymbol
reference_of_kind text None = []
reference_of_kind text (Some k) = record { name = text; kind = k; initial = default_value k } ∷ []

abbrev pub reference_of_type : List Tree → Machine → List ℕ → Option KnownType → List FieldSymbol
reference_of_type trees m text t = reference_of_kind text (option_and_then (line_kind trees m) t)

abbrev pub reference_in : List Tree → Machine → Declaration → List FieldSymbol
reference_in trees m (parameter p) = reference_of_type trees m p.name.text (type_in trees (within m) p.kind.text)
reference_in trees m (object o) = reference_of_type trees m o.name.text (type_in trees (within m) o.kind.text)
reference_in trees m _ = []

abbrev pub references_of : List Tree → Machine → List FieldSymbol
references_of trees m = flat_map (reference_in trees m) (machine_declarations m)
