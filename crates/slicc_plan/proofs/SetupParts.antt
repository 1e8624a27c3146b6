-- How many tables and buffers a machine has.
use Rattle.std.proofs.Common.{◌≡◌, ◌++◌, ◌+◌, ◌≤◌, ◌==◌, ℕ, zero, suc, true, false, Option, None, Some, IfSome, List, [], ◌∷◌, flat_map, length, slice_get, refl, arith, length-append, sym, ◌∙◌}
use Rattle.ruby_value.specs.declared.setup.Sizes.{Sizes}
use Rattle.ruby_value.specs.declared.setup.TableSetup.{TableSetup}
use Rattle.ruby_value.specs.declared.setup.TableSize.{TableSize}
use Rattle.ruby_symbols.specs.declared.machine.TableSort.{TableSort}
use Rattle.ruby_symbols.specs.declared.machine.TableSort.TheVariants as sort
use Rattle.slicc_ast.specs.declared.tree.declaration.Structure.{Structure}
use Rattle.slicc_ast.specs.declared.tree.declaration.Pairs.{Pairs}
use Rattle.slicc_ast.specs.declared.tree.item.Tree.{Tree}
use Rattle.slicc_ast.specs.declared.tree.machine.Machine.{Machine}
use Rattle.slicc_plan.specs.Buffers.{listed}
use Rattle.slicc_plan.specs.Prelude.{BufferIn, buffer_in, buffers_of, Declaration, machine_declarations, attributes_of, buffer_by, cache_size, is_parameters, parameter_table, setup_in, table_of_lines, table_size, tables_from, tbe_size, line_structure, tables_of}

tables_as_many : (trees : List Tree) (m : Machine) (sizes : Sizes) (number : ℕ) (ts : List TableSort) → length (tables_from trees m sizes number ts) ≡ length ts
tables_as_many trees m sizes number [] = refl
tables_as_many trees m sizes number (t ∷ ts) = omega (arith, tables_as_many trees m sizes (number + 1) ts)

pub tables_counted : (trees : List Tree) (number : ℕ) (sizes : Sizes) (m : Machine) → length (setup_in trees number sizes m).tables ≡ length (tables_of trees m) + 1
tables_counted trees number sizes m =
    omega (arith, length-append (tables_from trees m sizes 0 (tables_of trees m)) (parameter_table trees number m sizes ∷ []), tables_as_many trees m sizes 0 (tables_of trees m))

one_each : (trees : List Tree) (number : ℕ) (pairs : Option Pairs) (b : Option BufferIn) → length (buffer_by trees number pairs b) ≡ length (listed b)
one_each trees number pairs None = refl
one_each trees number pairs (Some b) = refl

buffers_as_many : (trees : List Tree) (number : ℕ) (m : Machine) (ds : List Declaration) → length (flat_map (λ (d : Declaration). buffer_by trees number (attributes_of d) (buffer_in trees m d)) ds) ≡ length (flat_map (λ (d : Declaration). listed (buffer_in trees m d)) ds)
buffers_as_many trees number m [] = refl
buffers_as_many trees number m (d ∷ ds) =
    omega (arith, one_each trees number (attributes_of d) (buffer_in trees m d), buffers_as_many trees number m ds, length-append (buffer_by trees number (attributes_of d) (buffer_in trees m d)) (flat_map (λ (e : Declaration). buffer_by trees number (attributes_of e) (buffer_in trees m e)) ds), length-append (listed (buffer_in trees m d)) (flat_map (λ (e : Declaration). listed (buffer_in trees m e)) ds))

pub buffers_counted : (trees : List Tree) (number : ℕ) (sizes : Sizes) (m : Machine) → length (setup_in trees number sizes m).buffers ≡ length (buffers_of trees m)
buffers_counted trees number sizes m = buffers_as_many trees number m (machine_declarations m)

-- the last table

abbrev LastIs : List TableSetup → ℕ → Type 0
LastIs all total = (table : ℕ) → IfSome (slice_get all table) (λ (s : TableSetup). is_parameters s.size ≡ (table + 1 == total))

lines_are_none : (trees : List Tree) (m : Machine) (places : TableSize) (s : Option Structure) → is_parameters places ≡ false → is_parameters (table_of_lines trees m places s).size ≡ false
lines_are_none trees m places None h = h
lines_are_none trees m places (Some s) h = h

cache_is_none : (o : Option (ℕ × ℕ × ℕ)) → is_parameters (cache_size o) ≡ false
cache_is_none None = refl
cache_is_none (Some c) = refl

tbe_is_none : (written : ℕ) (o : Option (ℕ × ℕ)) → is_parameters (tbe_size written o) ≡ false
tbe_is_none written None = refl
tbe_is_none written (Some t) = refl

size_is_none : (sizes : Sizes) (number : ℕ) (t : TableSort) → is_parameters (table_size sizes number t) ≡ false
size_is_none sizes number sort.Cache = cache_is_none _
size_is_none sizes number sort.Directory = refl
size_is_none sizes number (sort.Tbe written) = tbe_is_none written _

same_step : (table total : ℕ) → (table + 1 == total) ≡ (suc table + 1 == suc total)
same_step table total = grind arith

one_further : (o : Option TableSetup) (table total : ℕ) → IfSome o (λ (s : TableSetup). is_parameters s.size ≡ (table + 1 == total)) → IfSome o (λ (s : TableSetup). is_parameters s.size ≡ (suc table + 1 == suc total))
one_further None table total h = tt
one_further (Some s) table total h = h ∙ same_step table total

last_from : (trees : List Tree) (m : Machine) (sizes : Sizes) (number : ℕ) (ts : List TableSort) (p : TableSetup) → is_parameters p.size ≡ true → LastIs (tables_from trees m sizes number ts ++ p ∷ []) (length (tables_from trees m sizes number ts ++ p ∷ []))
last_from trees m sizes number [] p h zero = h
last_from trees m sizes number [] p h (suc table) = tt
last_from trees m sizes number (t ∷ ts) p h zero =
    lines_are_none trees m (table_size sizes number t) (line_structure m t) (size_is_none sizes number t) ∙ sym (first_is_not (length (tables_from trees m sizes (number + 1) ts ++ p ∷ [])) (omega (arith, length-append (tables_from trees m sizes (number + 1) ts) (p ∷ []))))
  where
    first_is_not : (n : ℕ) → 1 ≤ n → (0 + 1 == suc n) ≡ false
    first_is_not n below = grind arith
last_from trees m sizes number (t ∷ ts) p h (suc table) =
    one_further (slice_get (tables_from trees m sizes (number + 1) ts ++ p ∷ []) table) table (length (tables_from trees m sizes (number + 1) ts ++ p ∷ [])) (last_from trees m sizes (number + 1) ts p h table)

pub last_table : (trees : List Tree) (number : ℕ) (sizes : Sizes) (m : Machine) (table : ℕ) → IfSome (slice_get (setup_in trees number sizes m).tables table) (λ (s : TableSetup). is_parameters s.size ≡ (table + 1 == length (setup_in trees number sizes m).tables))
last_table trees number sizes m =
    last_from trees m sizes 0 (tables_of trees m) (parameter_table trees number m sizes) refl
