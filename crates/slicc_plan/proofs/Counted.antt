-- The lists of a machine of an accepted protocol are within its limits.
use Rattle.std.proofs.Common.{◌≡◌, ◌++◌, ◌+◌, ◌≤◌, ℕ, Bool, cond, Option, None, Some, List, [], ◌∷◌, All, filter, flat_map, length, map, slice_get, arith, length-append}
use Rattle.std.specs.Prelude.{option_and_then}
use Rattle.std.proofs.lemmas.List.Elements.{filter-append}
use Rattle.ruby_value.specs.declared.kind.Kind.{Kind}
use Rattle.ruby_symbols.specs.declared.machine.BufferSymbol.{BufferSymbol}
use Rattle.ruby_symbols.specs.declared.machine.TableSort.{TableSort}
use Rattle.slicc_ast.specs.declared.tree.declaration.Function.{Function}
use Rattle.slicc_ast.specs.declared.tree.declaration.Function.TheVariants.{Plain, Skipped}
use Rattle.slicc_ast.specs.declared.tree.declaration.Pairs.{Pairs}
use Rattle.slicc_ast.specs.declared.tree.item.Tree.{Tree}
use Rattle.slicc_ast.specs.declared.tree.machine.Decl.{Decl}
use Rattle.slicc_ast.specs.declared.tree.machine.Decl.TheVariants as decl
use Rattle.slicc_ast.specs.declared.tree.machine.Literal.{Literal}
use Rattle.slicc_ast.specs.declared.tree.machine.Machine.{Machine}
use Rattle.slicc_plan.specs.Prelude.{IsAccepted, BufferIn, buffer_in, Declaration, parameter, object, function, within, machine_declarations, machines_of, named_declarations, is_action, is_counted_function, is_object, is_port, line_kind, reference_in, reference_of_kind, value_in, value_of_kind, attributes_of, symbols_of, action_symbol, buffer_of_place, buffer_symbol, buffer_symbols, function_symbol, function_with_body, in_port_symbol, machine_symbols, numbered_from, out_port_symbol, port_on_buffer, table_of_sort, table_symbol, table_in, plain_kind, KnownType, type_in, HasNumbers}
use Rattle.slicc_plan.proofs.Few.{Limits, at_most, few_machines, machine_limited}
use Rattle.slicc_plan.proofs.Machines.{all_machines, symbols_counted}

-- the same of what stands between a machine's braces
at_most_numbered : {Y : Type 0} (p : Declaration → Bool) (f : ℕ → Decl → List Y) → ((n : ℕ) (d : Decl) → length (f n d) ≤ length (filter p (named_declarations d))) → (n : ℕ) (ds : List Decl) → length (numbered_from f n ds) ≤ length (filter p (flat_map named_declarations ds))
at_most_numbered p f h n [] = omega arith
at_most_numbered p f h n (d ∷ ds) =
    let made : length (numbered_from f n (d ∷ ds)) ≡ length (f n d) + length (numbered_from f (n + 1) ds) = length-append (f n d) (numbered_from f (n + 1) ds) in
    let split : filter p (flat_map named_declarations (d ∷ ds)) ≡ filter p (named_declarations d) ++ filter p (flat_map named_declarations ds) = filter-append p (named_declarations d) (flat_map named_declarations ds) in
    let counts : length (filter p (flat_map named_declarations (d ∷ ds))) ≡ length (filter p (named_declarations d)) + length (filter p (flat_map named_declarations ds)) = rw split (length-append (filter p (named_declarations d)) (filter p (flat_map named_declarations ds))) in
    omega (arith, made, counts, h n d, at_most_numbered p f h (n + 1) ds)

in_machine : (p : Declaration → Bool) (m : Machine) → length (filter p (flat_map named_declarations m.declarations)) ≤ length (filter p (machine_declarations m))
in_machine p m =
    let split : filter p (machine_declarations m) ≡ filter p (map parameter m.parameters) ++ filter p (flat_map named_declarations m.declarations) = filter-append p (map parameter m.parameters) (flat_map named_declarations m.declarations) in
    let counts : length (filter p (machine_declarations m)) ≡ length (filter p (map parameter m.parameters)) + length (filter p (flat_map named_declarations m.declarations)) = rw split (length-append (filter p (map parameter m.parameters)) (filter p (flat_map named_declarations m.declarations))) in
    omega (arith, counts)

-- parameters and objects

table_one : (trees : List Tree) (m : Machine) (text : List ℕ) (o : Option TableSort) → length (table_of_sort trees m text o) ≤ 1
table_one trees m text None = omega arith
table_one trees m text (Some sort) = omega arith

table_each : (trees : List Tree) (m : Machine) (d : Declaration) → length (table_symbol trees m d) ≤ cond (is_object d) 1 0
table_each trees m (parameter p) = table_one trees m p.name.text (table_in trees m (parameter p))
table_each trees m (object o) = table_one trees m o.name.text (table_in trees m (object o))
table_each trees m _ = omega arith

value_one : (text : List ℕ) (t : Option KnownType) (l : Option Literal) (k : Option Kind) → length (value_of_kind text t l k) ≤ 1
value_one text t l None = omega arith
value_one text t l (Some k) = omega arith

value_each : (trees : List Tree) (m : Machine) (d : Declaration) → length (value_in trees m d) ≤ cond (is_object d) 1 0
value_each trees m (parameter p) = value_one p.name.text (type_in trees (within m) p.kind.text) p.literal (option_and_then (plain_kind trees) (type_in trees (within m) p.kind.text))
value_each trees m (object o) = value_one o.name.text (type_in trees (within m) o.kind.text) None (option_and_then (plain_kind trees) (type_in trees (within m) o.kind.text))
value_each trees m _ = omega arith

reference_one : (text : List ℕ) (k : Option Kind) → length (reference_of_kind text k) ≤ 1
reference_one text None = omega arith
reference_one text (Some k) = omega arith

reference_each : (trees : List Tree) (m : Machine) (d : Declaration) → length (reference_in trees m d) ≤ cond (is_object d) 1 0
reference_each trees m (parameter p) = reference_one p.name.text (option_and_then (line_kind trees m) (type_in trees (within m) p.kind.text))
reference_each trees m (object o) = reference_one o.name.text (option_and_then (line_kind trees m) (type_in trees (within m) o.kind.text))
reference_each trees m _ = omega arith

buffer_one : (trees : List Tree) (number : ℕ) (pairs : Option Pairs) (b : Option BufferIn) → length (buffer_of_place trees number pairs b) ≤ 1
buffer_one trees number pairs None = omega arith
buffer_one trees number pairs (Some b) = omega arith

buffer_each : (trees : List Tree) (number : ℕ) (m : Machine) (d : Declaration) → length (buffer_symbol trees number m d) ≤ cond (is_object d) 1 0
buffer_each trees number m (parameter p) = buffer_one trees number (attributes_of (parameter p)) (buffer_in trees m (parameter p))
buffer_each trees number m (object o) = buffer_one trees number (attributes_of (object o)) (buffer_in trees m (object o))
buffer_each trees number m _ = omega arith

-- ports, functions and actions

port_one : (text : List ℕ) (n : ℕ) (buffer : Option ℕ) → length (port_on_buffer text n buffer) ≤ 1
port_one text n None = omega arith
port_one text n (Some buffer) = omega arith

in_port_each : (buffers : List BufferSymbol) (n : ℕ) (d : Decl) → length (in_port_symbol buffers n d) ≤ length (filter is_port (named_declarations d))
in_port_each buffers n (decl.InPort d) = port_one d.name.text n _
in_port_each buffers n _ = omega arith

out_port_each : (buffers : List BufferSymbol) (n : ℕ) (d : Decl) → length (out_port_symbol buffers n d) ≤ length (filter is_port (named_declarations d))
out_port_each buffers n (decl.OutPort d) = port_one d.name.text n _
out_port_each buffers n _ = omega arith

function_one : (trees : List Tree) (m : Machine) (n : ℕ) (f : Function) → length (function_with_body trees m n f) ≤ length (filter is_counted_function (function f ∷ []))
function_one trees m n (Plain kind called formals attributes (Some body) span) = omega arith
function_one trees m n (Plain kind called formals attributes None span) = omega arith
function_one trees m n (Skipped s) = omega arith

function_each : (trees : List Tree) (m : Machine) (n : ℕ) (d : Decl) → length (function_symbol trees m n d) ≤ length (filter is_counted_function (named_declarations d))
function_each trees m n (decl.Function d) = function_one trees m n d
function_each trees m n _ = omega arith

action_each : (n : ℕ) (d : Decl) → length (action_symbol n d) ≤ length (filter is_action (named_declarations d))
action_each n (decl.Action d) = omega arith
action_each n _ = omega arith

machine_counted : (trees : List Tree) (k : ℕ) (m : Machine) → Limits m → HasNumbers (machine_symbols trees k m)
unfolding machine_symbols
machine_counted trees k m l =
    let ds = machine_declarations m in
    let buffers = buffer_symbols trees k m in
    record {
      tables = omega (arith, at_most is_object (table_symbol trees m) (table_each trees m) ds, l.objects);
      values = omega (arith, at_most is_object (value_in trees m) (value_each trees m) ds, l.objects);
      references = omega (arith, at_most is_object (reference_in trees m) (reference_each trees m) ds, l.objects);
      buffers = omega (arith, at_most is_object (buffer_symbol trees k m) (buffer_each trees k m) ds, l.objects);
      in_ports = omega (arith, at_most_numbered is_port (in_port_symbol buffers) (in_port_each buffers) 0 m.declarations, in_machine is_port m, l.ports);
      out_ports = omega (arith, at_most_numbered is_port (out_port_symbol buffers) (out_port_each buffers) 0 m.declarations, in_machine is_port m, l.ports);
      functions = omega (arith, at_most_numbered is_counted_function (function_symbol trees m) (function_each trees m) 0 m.declarations, in_machine is_counted_function m, l.functions);
      actions = omega (arith, at_most_numbered is_action action_symbol action_each 0 m.declarations, in_machine is_action m, l.few.actions);
    }

pub machines_counted : (trees : List Tree) → IsAccepted trees → length (symbols_of trees).machines ≤ 16
machines_counted trees h = let few = few_machines trees h.of_declarations in omega (arith, symbols_counted trees, few.machines)

pub machine_has_numbers : (trees : List Tree) (k : ℕ) (m : Machine) → IsAccepted trees → slice_get (machines_of trees) k ≡ Some m → HasNumbers (machine_symbols trees k m)
machine_has_numbers trees k m h at = machine_counted trees k m (machine_limited trees k m h.of_declarations at)

pub lists_counted : (trees : List Tree) → IsAccepted trees → All HasNumbers (symbols_of trees).machines
lists_counted trees h = all_machines HasNumbers trees (λ k m at. machine_has_numbers trees k m h at)
