-- The fields of a machine's tables begin as their kinds are, and none of them nor of its messages is a reference.
use Rattle.std.proofs.Common.{◌≡◌, ◌++◌, ◌+◌, ◌&&◌, ◌==◌, ℕ, Bool, true, false, Option, None, Some, IsTrue, List, [], ◌∷◌, All, map, flat_map, refl, arith, rules}
use Rattle.std.specs.Prelude.{ℤ, pos, codes, find, option_and_then}
use Rattle.std.proofs.lemmas.List.Elements.{All-head, All-tail, All-cons, All-nil, All-push}
use Rattle.ruby_value.specs.declared.kind.Kind.{Kind}
use Rattle.ruby_value.specs.declared.kind.Kind.TheVariants as kind
use Rattle.ruby_value.specs.declared.setup.Sizes.{Sizes}
use Rattle.ruby_value.specs.declared.setup.TableSetup.{TableSetup}
use Rattle.ruby_value.specs.declared.setup.TableSize.{TableSize}
use Rattle.ruby_value.specs.declared.value.Value.{Value}
use Rattle.ruby_value.specs.declared.value.Value.TheVariants as value
use Rattle.ruby_value.specs.Prelude.{default_value, has_kind, has_kinds}
use Rattle.ruby_symbols.specs.declared.machine.TableSort.{TableSort}
use Rattle.ruby_symbols.specs.declared.types.FieldSymbol.{FieldSymbol}
use Rattle.slicc_ast.specs.declared.tree.declaration.PairValue.{PairValue}
use Rattle.slicc_ast.specs.declared.tree.declaration.Structure.{Structure}
use Rattle.slicc_ast.specs.declared.tree.item.Tree.{Tree}
use Rattle.slicc_ast.specs.declared.tree.machine.Literal.{Literal}
use Rattle.slicc_ast.specs.declared.tree.machine.Literal.TheVariants.{Number, Minus, Quoted, True, False}
use Rattle.slicc_ast.specs.declared.tree.machine.Machine.{Machine}
use Rattle.slicc_plan.specs.Prelude.{Attribute, first_attribute, Declaration, machine, states, parameter, object, action, function, symbol, state, member as member_declaration, formal, local, within, machine_declarations, FieldIn, field_type, field_kind, initial_of, initial_value, structure_fields, value_by, value_written, literal_value, value_in, value_of_kind, values_of, written_value, parameter_table, range_values, set_value, setup_in, table_of_lines, table_size, tables_from, values_from, line_structure, tables_of, plain_kind, KnownType, is_built_in, type_in}
use Rattle.slicc_plan.specs.Declarations.{enumeration, structure, out_port, in_port}
use Rattle.slicc_plan.proofs.NoReferences.{all_flat}
use Rattle.slicc_plan.specs.declared.built_in.BuiltInType.TheVariants.{Cycles}

-- kinds of values

same_number : (n : ℕ) → (n == n) ≡ true
same_number n = grind arith

pub default_has : (k : Kind) → has_kind k (default_value k) ≡ true
default_has kind.Bool = refl
default_has kind.Int = refl
default_has (kind.Enum number member) = same_number number
default_has kind.Addr = refl
default_has kind.Machine = refl
default_has kind.Dest = refl
default_has kind.Block = refl
default_has (kind.Entry s) = refl
default_has (kind.Tbe s) = refl

written_has : (trees : List Tree) (text : List ℕ) (t : KnownType) (k : Kind) (v : PairValue) → has_kind k (value_written trees text t k v) ≡ true
written_has trees text t kind.Bool v = refl
written_has trees text t kind.Int v = refl
written_has trees text t (kind.Enum number member) v = same_number number
written_has trees text t kind.Addr v = refl
written_has trees text t kind.Machine v = refl
written_has trees text t kind.Dest v = refl
written_has trees text t kind.Block v = refl
written_has trees text t (kind.Entry s) v = refl
written_has trees text t (kind.Tbe s) v = refl

value_by_has : (trees : List Tree) (text : List ℕ) (t : KnownType) (k : Kind) (a : Option Attribute) → has_kind k (value_by trees text t k a) ≡ true
value_by_has trees text t k None = default_has k
value_by_has trees text t k (Some a) = written_has trees text t k a.value

initial_has : (trees : List Tree) (f : FieldIn) (t : Option KnownType) → has_kind (field_kind trees f) (initial_of trees f t) ≡ true
initial_has trees f None = default_has (field_kind trees f)
initial_has trees f (Some t) =
    value_by_has trees f.kind.text t (field_kind trees f) (first_attribute (codes "default") f.attributes)

is_true : {b : Bool} → b ≡ true → IsTrue b
is_true e = search rules

both : (a b : Bool) → a ≡ true → b ≡ true → (a && b) ≡ true
both true b h k = k
both false b h k = cc

fields_have : (trees : List Tree) (fs : List FieldIn) → has_kinds (map (field_kind trees) fs) (map (initial_value trees) fs) ≡ true
fields_have trees [] = refl
fields_have trees (f ∷ fs) = both _ _ (initial_has trees f (field_type trees f)) (fields_have trees fs)

lines_have : (trees : List Tree) (m : Machine) (places : TableSize) (s : Option Structure) → has_kinds (table_of_lines trees m places s).kinds (table_of_lines trees m places s).initial ≡ true
lines_have trees m places None = refl
lines_have trees m places (Some s) = fields_have trees (structure_fields (within m) s)

-- values

literal_has : (k : Kind) (l : Literal) → has_kind k (literal_value k l) ≡ true
literal_has kind.Bool (Number n span) = refl
literal_has kind.Bool (Minus n span) = refl
literal_has kind.Bool (Quoted text span) = refl
literal_has kind.Bool (True span) = refl
literal_has kind.Bool (False span) = refl
literal_has kind.Int (Number n span) = refl
literal_has kind.Int (Minus n span) = refl
literal_has kind.Int (Quoted text span) = refl
literal_has kind.Int (True span) = refl
literal_has kind.Int (False span) = refl
literal_has (kind.Enum number member) l = same_number number
literal_has kind.Addr l = refl
literal_has kind.Machine l = refl
literal_has kind.Dest l = refl
literal_has kind.Block l = refl
literal_has (kind.Entry s) l = refl
literal_has (kind.Tbe s) l = refl

value_has : (k : Kind) (counts_cycles : Bool) (l : Option Literal) → has_kind k (written_value k counts_cycles l) ≡ true
value_has k b (Some l) = literal_has k l
value_has kind.Int true None = refl
value_has kind.Int false None = refl
value_has kind.Bool b None = refl
value_has (kind.Enum number member) b None = same_number number
value_has kind.Addr b None = refl
value_has kind.Machine b None = refl
value_has kind.Dest b None = refl
value_has kind.Block b None = refl
value_has (kind.Entry s) b None = refl
value_has (kind.Tbe s) b None = refl

set_has : (k : Kind) (v : Value) (set : Option (ℕ × ℤ)) → has_kind k v ≡ true → has_kind k (set_value k v set) ≡ true
set_has kind.Int v (Some (number, n)) h = refl
set_has kind.Int v None h = h
set_has kind.Bool v set h = h
set_has (kind.Enum number member) v set h = h
set_has kind.Addr v set h = h
set_has kind.Machine v set h = h
set_has kind.Dest v set h = h
set_has kind.Block v set h = h
set_has (kind.Entry s) v set h = h
set_has (kind.Tbe s) v set h = h

abbrev pub BeginsRight : FieldSymbol → Type 0
BeginsRight f = has_kind f.kind f.initial ≡ true

value_begins : (text : List ℕ) (t : Option KnownType) (l : Option Literal) (k : Option Kind) → All BeginsRight (value_of_kind text t l k)
value_begins text t l None = All-nil BeginsRight
value_begins text t l (Some k) =
    All-cons BeginsRight _ [] (value_has k (is_built_in Cycles t) l) (All-nil BeginsRight)

declared_begins : (trees : List Tree) (m : Machine) (d : Declaration) → All BeginsRight (value_in trees m d)
declared_begins trees m (parameter p) = value_begins p.name.text (type_in trees (within m) p.kind.text) p.literal (option_and_then (plain_kind trees) (type_in trees (within m) p.kind.text))
declared_begins trees m (object o) = value_begins o.name.text (type_in trees (within m) o.kind.text) None (option_and_then (plain_kind trees) (type_in trees (within m) o.kind.text))
declared_begins trees m (machine d) = All-nil BeginsRight
declared_begins trees m (enumeration d) = All-nil BeginsRight
declared_begins trees m (structure d) = All-nil BeginsRight
declared_begins trees m (states d) = All-nil BeginsRight
declared_begins trees m (out_port d) = All-nil BeginsRight
declared_begins trees m (in_port d) = All-nil BeginsRight
declared_begins trees m (action d) = All-nil BeginsRight
declared_begins trees m (function d) = All-nil BeginsRight
declared_begins trees m (symbol d) = All-nil BeginsRight
declared_begins trees m (state d) = All-nil BeginsRight
declared_begins trees m (member_declaration d) = All-nil BeginsRight
declared_begins trees m (formal d) = All-nil BeginsRight
declared_begins trees m (local kind called span) = All-nil BeginsRight

pub values_begin : (trees : List Tree) (m : Machine) → All (λ (f : FieldSymbol). has_kind f.kind f.initial ≡ true) (values_of trees m)
values_begin trees m = all_flat BeginsRight (value_in trees m) (declared_begins trees m) (machine_declarations m)

values_have : (sizes : Sizes) (number : ℕ) (fs : List FieldSymbol) → All BeginsRight fs → has_kinds (map (λ (f : FieldSymbol). f.kind) fs) (values_from sizes number fs) ≡ true
values_have sizes number [] h = refl
values_have sizes number (f ∷ fs) h =
    both _ _ (set_has f.kind f.initial (find (λ (s : ℕ × ℤ). s.0 == number) sizes.parameters) (All-head BeginsRight f fs h)) (values_have sizes (number + 1) fs (All-tail BeginsRight f fs h))

numbers_have : (rs : List (ℕ × ℕ)) → has_kinds (map (λ (v : Value). kind.Int) (flat_map (λ (r : ℕ × ℕ). value.Int (pos r.0) ∷ value.Int (pos r.1) ∷ []) rs)) (flat_map (λ (r : ℕ × ℕ). value.Int (pos r.0) ∷ value.Int (pos r.1) ∷ []) rs) ≡ true
numbers_have [] = refl
numbers_have (r ∷ rs) = numbers_have rs

append_have : (ks ls : List Kind) (vs ws : List Value) → has_kinds ks vs ≡ true → has_kinds ls ws ≡ true → has_kinds (ks ++ ls) (vs ++ ws) ≡ true
append_have [] ls [] ws h k = k
append_have [] ls (v ∷ vs) ws h k = cc
append_have (j ∷ ks) ls [] ws h k = cc
append_have (j ∷ ks) ls (v ∷ vs) ws h k = both_of (has_kind j v) (has_kinds ks vs) _ h (λ e. append_have ks ls vs ws e k)
  where
    both_of : (a b c : Bool) → (a && b) ≡ true → (b ≡ true → c ≡ true) → (a && c) ≡ true
    both_of true b c h f = f h
    both_of false b c h f = h

parameters_have : (trees : List Tree) (number : ℕ) (m : Machine) (sizes : Sizes) → has_kinds (parameter_table trees number m sizes).kinds (parameter_table trees number m sizes).initial ≡ true
parameters_have trees number m sizes =
    append_have (map (λ (f : FieldSymbol). f.kind) (values_of trees m)) (map (λ (v : Value). kind.Int) (range_values sizes)) (values_from sizes 0 (values_of trees m)) (range_values sizes) (values_have sizes 0 (values_of trees m) (values_begin trees m)) (numbers_have sizes.machines)

-- tables

abbrev BeginRight : TableSetup → Type 0
BeginRight s = IsTrue (has_kinds s.kinds s.initial)

tables_have : (trees : List Tree) (m : Machine) (sizes : Sizes) (number : ℕ) (ts : List TableSort) → All BeginRight (tables_from trees m sizes number ts)
tables_have trees m sizes number [] = All-nil BeginRight
tables_have trees m sizes number (t ∷ ts) =
    All-cons BeginRight _ _ (is_true (lines_have trees m (table_size sizes number t) (line_structure m t))) (tables_have trees m sizes (number + 1) ts)

pub all_begin_right : (trees : List Tree) (number : ℕ) (sizes : Sizes) (m : Machine) → All (λ (s : TableSetup). IsTrue (has_kinds s.kinds s.initial)) (setup_in trees number sizes m).tables
all_begin_right trees number sizes m =
    All-push BeginRight (tables_from trees m sizes 0 (tables_of trees m)) (parameter_table trees number m sizes) (tables_have trees m sizes 0 (tables_of trees m)) (is_true (parameters_have trees number m sizes))
