-- The tables of an accepted protocol have room.
use Rattle.std.proofs.Common.{◌≡◌, ℕ, Option, None, Some, List, [], ◌∷◌, All, flat_map, slice_get}
use Rattle.std.proofs.lemmas.List.Elements.{All-append, All-cons, All-nil}
use Rattle.ruby_symbols.specs.declared.machine.TableSort.{TableSort}
use Rattle.ruby_symbols.specs.declared.machine.TableSort.TheVariants as sort
use Rattle.ruby_symbols.specs.declared.machine.TableSymbol.{TableSymbol}
use Rattle.slicc_ast.specs.declared.tree.item.Tree.{Tree}
use Rattle.slicc_ast.specs.declared.tree.machine.Machine.{Machine}
use Rattle.slicc_plan.specs.Prelude.{IsAccepted, Declaration, parameter, object, within, machine_declarations, machines_of, symbols_of, machine_symbols, table_of_sort, table_symbol, table_in, bad_values_of, HasEntries}
use Rattle.slicc_plan.proofs.Room.{OptionInLimits, SortInLimits, declared_within, left_none, right_none, values_kept}
use Rattle.slicc_plan.specs.Lawful.{HasRoom}
use Rattle.slicc_plan.proofs.Machines.{all_machines}

abbrev Roomy : TableSymbol → Type 0
Roomy t = HasRoom t.sort

room_of : (s : TableSort) → SortInLimits s → HasRoom s
room_of sort.Cache h = tt
room_of sort.Directory h = tt
room_of (sort.Tbe entries) h = h

of_sort : (trees : List Tree) (m : Machine) (text : List ℕ) (o : Option TableSort) → OptionInLimits o → All Roomy (table_of_sort trees m text o)
of_sort trees m text None h = All-nil Roomy
of_sort trees m text (Some s) h = All-cons Roomy _ [] (room_of s h) (All-nil Roomy)

declared_roomy : (trees : List Tree) (m : Machine) (d : Declaration) → bad_values_of trees (within m) d ≡ [] → All Roomy (table_symbol trees m d)
declared_roomy trees m (parameter p) e = of_sort trees m p.name.text (table_in trees m (parameter p)) (declared_within trees m (parameter p) e)
declared_roomy trees m (object o) e = of_sort trees m o.name.text (table_in trees m (object o)) (declared_within trees m (object o) e)
declared_roomy trees m _ e = All-nil Roomy

all_roomy : (trees : List Tree) (m : Machine) (ds : List Declaration) → flat_map (bad_values_of trees (within m)) ds ≡ [] → All Roomy (flat_map (table_symbol trees m) ds)
all_roomy trees m [] e = All-nil Roomy
all_roomy trees m (d ∷ ds) e =
    All-append Roomy (table_symbol trees m d) (flat_map (table_symbol trees m) ds)
    (declared_roomy trees m d (left_none (bad_values_of trees (within m) d) (flat_map (bad_values_of trees (within m)) ds) e))
    (all_roomy trees m ds (right_none (bad_values_of trees (within m) d) (flat_map (bad_values_of trees (within m)) ds) e))

machine_roomy : (trees : List Tree) (k : ℕ) (m : Machine) → IsAccepted trees → slice_get (machines_of trees) k ≡ Some m → HasEntries (machine_symbols trees k m)
unfolding machine_symbols
machine_roomy trees k m h at = record { all = all_roomy trees m (machine_declarations m) (values_kept trees k m h at) }

pub tables_roomy : (trees : List Tree) → IsAccepted trees → All HasEntries (symbols_of trees).machines
tables_roomy trees h = all_machines HasEntries trees (λ k m at. machine_roomy trees k m h at)
