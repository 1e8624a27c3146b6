-- Where the controllers of machines are kept in what a machine is to its controllers.
use Rattle.std.proofs.Common.{◌≡◌, ◌+◌, ◌*◌, ◌∙◌, ◌++◌, ℕ, zero, suc, Option, None, Some, IfSome, List, [], ◌∷◌, arith, ap, filter_map, flat_map, length, length-append, pos, refl, slice_get, subst₂, sym}
use Rattle.std.specs.List.{cons_option}
use Rattle.std.specs.Option.{option_and_then, option_map}
use Rattle.ruby_value.specs.declared.setup.MachineSetup.{MachineSetup}
use Rattle.ruby_value.specs.declared.setup.Sizes.{Sizes}
use Rattle.ruby_value.specs.declared.setup.TableSetup.{TableSetup}
use Rattle.ruby_value.specs.declared.value.Value.{Value}
use Rattle.ruby_value.specs.declared.value.Value.TheVariants.{Int}
use Rattle.ruby_symbols.specs.declared.machine.MachineSymbols.{MachineSymbols}
use Rattle.ruby_symbols.specs.declared.machine.TableSort.{TableSort}
use Rattle.ruby_symbols.specs.declared.machine.TableSymbol.{TableSymbol}
use Rattle.ruby_symbols.specs.declared.types.FieldSymbol.{FieldSymbol}
use Rattle.slicc_ast.specs.declared.tree.item.Tree.{Tree}
use Rattle.slicc_ast.specs.declared.tree.machine.Machine.{Machine}
use Rattle.slicc_plan.specs.Prelude.{Declaration, object, parameter, machine_declarations, machines_of, values_of, parameter_table, range_values, setup_in, setup_of, tables_from, values_from, symbols_of, machine_symbols, table_of_sort, table_symbol, table_in, tables_of}
use Rattle.slicc_plan.proofs.Machines.{symbols_at, symbols_counted}
use Rattle.slicc_plan.proofs.There.{get_right}
use Rattle.built_in_acts.specs.declared.machines.KeptMachines.{KeptMachines}
use Rattle.body_meaning.specs.Prelude.{Reading}
use Rattle.protocol_meaning.specs.Prelude.{IsKept, KeepsRanges, kept_value, kept_machines, reading_of, reading_with}

-- Symbols of machines.

module _ (trees : List Tree) where
  module _ (m : Machine) where
    one_more : (text : List ℕ) (o : Option TableSort) (xs : List TableSymbol) (ys : List TableSort) → length xs ≡ length ys
        → length (table_of_sort trees m text o ++ xs) ≡ length (cons_option o ys)
    one_more text None xs ys is = is
    one_more text (Some sort) xs ys is = ap suc is

    tables_alike : (ds : List Declaration) → length (flat_map (table_symbol trees m) ds) ≡ length (filter_map (table_in trees m) ds)
    tables_alike [] = refl
    tables_alike (parameter p ∷ ds) =
        one_more p.name.text (table_in trees m (parameter p)) (flat_map (table_symbol trees m) ds) (filter_map (table_in trees m) ds) (tables_alike ds)
    tables_alike (object o ∷ ds) =
        one_more o.name.text (table_in trees m (object o)) (flat_map (table_symbol trees m) ds) (filter_map (table_in trees m) ds) (tables_alike ds)
    tables_alike (d ∷ ds) = tables_alike ds

    tables_as_symbols : (n : ℕ) → length (machine_symbols trees n m).tables ≡ length (tables_of trees m)
    unfolding machine_symbols
    tables_as_symbols n = tables_alike (machine_declarations m)

    values_as_symbols : (n : ℕ) → length (machine_symbols trees n m).values ≡ length (values_of trees m)
    unfolding machine_symbols
    values_as_symbols n = refl

-- Values.

values_as_many : (sizes : Sizes) (n : ℕ) (vs : List FieldSymbol) → length (values_from sizes n vs) ≡ length vs
values_as_many sizes n [] = refl
values_as_many sizes n (v ∷ vs) = ap suc (values_as_many sizes (n + 1) vs)

abbrev both_values : ℕ × ℕ → List Value
both_values r = Int (pos r.0) ∷ Int (pos r.1) ∷ []

first_at : (ranges : List (ℕ × ℕ)) (k : ℕ) (r : ℕ × ℕ) → slice_get ranges k ≡ Some r → slice_get (flat_map both_values ranges) (2 * k) ≡ Some (Int (pos r.0))
first_at [] k r is = absurd (cc is)
first_at (q ∷ ranges) zero r is = let same : q ≡ r = cc is in ap (λ (p : ℕ × ℕ). Some (Int (pos p.0))) same
first_at (q ∷ ranges) (suc k) r is =
    let next : 2 * suc k ≡ suc (suc (2 * k)) = omega arith in
    ap (slice_get (flat_map both_values (q ∷ ranges))) next ∙ first_at ranges k r is

count_at : (ranges : List (ℕ × ℕ)) (k : ℕ) (r : ℕ × ℕ) → slice_get ranges k ≡ Some r → slice_get (flat_map both_values ranges) (2 * k + 1) ≡ Some (Int (pos r.1))
count_at [] k r is = absurd (cc is)
count_at (q ∷ ranges) zero r is = let same : q ≡ r = cc is in ap (λ (p : ℕ × ℕ). Some (Int (pos p.1))) same
count_at (q ∷ ranges) (suc k) r is =
    let next : 2 * suc k + 1 ≡ suc (suc (2 * k + 1)) = omega arith in
    ap (slice_get (flat_map both_values (q ∷ ranges))) next ∙ count_at ranges k r is

lines_as_many : (trees : List Tree) (m : Machine) (sizes : Sizes) (n : ℕ) (ts : List TableSort) → length (tables_from trees m sizes n ts) ≡ length ts
lines_as_many trees m sizes n [] = refl
lines_as_many trees m sizes n (t ∷ ts) = ap suc (lines_as_many trees m sizes (n + 1) ts)

module _ (trees : List Tree) (number : ℕ) (sizes : Sizes) (m : Machine) where
  abbrev kept : KeptMachines
  kept = kept_machines (length (symbols_of trees).machines) (machine_symbols trees number m)

  abbrev setup : MachineSetup
  setup = setup_in trees number sizes m

  abbrev lines : List TableSetup
  lines = tables_from trees m sizes 0 (tables_of trees m)

  abbrev values : TableSetup
  values = parameter_table trees number m sizes

  lines_counted : length (machine_symbols trees number m).tables ≡ length lines
  lines_counted = tables_as_symbols trees m number ∙ sym (lines_as_many trees m sizes 0 (tables_of trees m))

  values_there : slice_get setup.tables kept.table ≡ Some values
  values_there = get_right lines (values ∷ []) kept.table 0 (omega (arith, lines_counted))

  value_at : (place : ℕ) → kept_value kept setup place ≡ slice_get (range_values sizes) place
  value_at place =
      ap (option_and_then (λ (t : TableSetup). slice_get t.initial (kept.first + place))) values_there
      ∙ get_right (values_from sizes 0 (values_of trees m)) (range_values sizes) (kept.first + place) place
      (ap (λ n. n + place) (values_as_symbols trees m number ∙ sym (values_as_many sizes 0 (values_of trees m))))

  range_kept : (machine : ℕ) (o : Option (ℕ × ℕ)) → slice_get sizes.machines machine ≡ o → IfSome o (IsKept kept setup machine)
  range_kept machine None is = tt
  range_kept machine (Some r) is = record {
    first = value_at (2 * machine) ∙ first_at sizes.machines machine r is;
    count = value_at (2 * machine + 1) ∙ count_at sizes.machines machine r is;
  }

  keeps : length sizes.machines ≡ length (machines_of trees) → KeepsRanges kept setup sizes.machines
  keeps as_many = record {
    last = omega (arith, lines_counted, length-append lines (values ∷ []));
    all = symbols_counted trees ∙ sym as_many;
    each = λ machine. range_kept machine _ refl;
  }

module _ (trees : List Tree) (number : ℕ) (sizes : Sizes) (r : Reading) (setup : MachineSetup) where
  abbrev read : Option MachineSymbols → Option Machine → Option Reading
  read m tree = option_and_then (λ found. option_map (reading_with (symbols_of trees) number found) tree) m

  kept_by : (tree : Option Machine) → read (option_map (machine_symbols trees number) tree) tree ≡ Some r
      → option_map (setup_in trees number sizes) tree ≡ Some setup → length sizes.machines ≡ length (machines_of trees)
      → KeepsRanges r.kept setup sizes.machines
  kept_by None reads is as_many = absurd (cc is)
  kept_by (Some m) reads is as_many =
      let as_read : reading_with (symbols_of trees) number (machine_symbols trees number m) m ≡ r = cc reads in
      let as_set : setup_in trees number sizes m ≡ setup = cc is in
      subst₂ (λ (q : Reading) (s : MachineSetup). KeepsRanges q.kept s sizes.machines) as_read as_set (keeps trees number sizes m as_many)

  pub ranges_are_kept : reading_of trees number ≡ Some r → setup_of trees number sizes ≡ Some setup → length sizes.machines ≡ length (machines_of trees)
      → KeepsRanges r.kept setup sizes.machines
  ranges_are_kept reads =
      kept_by (slice_get (machines_of trees) number)
      (ap (λ (m : Option MachineSymbols). read m (slice_get (machines_of trees) number)) (sym (symbols_at trees number)) ∙ reads)
