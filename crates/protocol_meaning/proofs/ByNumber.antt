-- The machines of a protocol: as trees, as symbols, and as what they are to their controllers, by one number.
use Rattle.std.proofs.Common.{◌≡◌, ◌<◌, ◌+◌, ◌∙◌, ℕ, Some, List, [], ◌∷◌, ap, sym, arith, get_or, length, option_and_then}
use Rattle.std.specs.Prelude.{slice_get}
use Rattle.std.specs.Option.{option_map}
use Rattle.std.proofs.lemmas.Option.{slice_get-get_or, slice_get_within}
use Rattle.ruby_value.specs.declared.setup.MachineSetup.{MachineSetup}
use Rattle.ruby_value.specs.declared.setup.Sizes.{Sizes}
use Rattle.ruby_symbols.specs.declared.machine.MachineSymbols.{MachineSymbols}
use Rattle.slicc_ast.specs.declared.tree.item.Tree.{Tree}
use Rattle.slicc_ast.specs.declared.tree.machine.Machine.{Machine}
use Rattle.slicc_plan.specs.Prelude.{machines_of, setup_in, setup_of, symbols_of, machine_symbols}
use Rattle.slicc_plan.proofs.Machines.{symbols_at}
use Rattle.protocol_meaning.specs.Prelude.{setups_of}
use Rattle.protocol_meaning.proofs.Places.{AreThere, and_then_found, each_at, each_counted, map_found}

-- Symbols.

-- a machine of the symbols is one of the trees
pub record IsMachineOf (trees : List Tree) (k : ℕ) (x : MachineSymbols) : Type 0 where
  pub tree : Machine
  pub at : slice_get (machines_of trees) k ≡ Some tree
  pub symbols : machine_symbols trees k tree ≡ x

pub machine_found : (trees : List Tree) (k : ℕ) (x : MachineSymbols) → slice_get (symbols_of trees).machines k ≡ Some x → IsMachineOf trees k x
machine_found trees k x e =
    let h = map_found (machine_symbols trees k) (slice_get (machines_of trees) k) x (sym (symbols_at trees k) ∙ e) in
    record { tree = h.0; at = h.1; symbols = h.2 }

pub symbols_found : (trees : List Tree) (k : ℕ) (m : Machine) → slice_get (machines_of trees) k ≡ Some m → slice_get (symbols_of trees).machines k ≡ Some (machine_symbols trees k m)
symbols_found trees k m at = symbols_at trees k ∙ ap (option_map (machine_symbols trees k)) at

-- Setups.

some_at : {X : Type 0} (xs : List X) (k : ℕ) → k < length xs → (x : X) × (slice_get xs k ≡ Some x)
some_at [] k lt = absurd (omega arith)
some_at (x ∷ xs) k lt = (get_or (x ∷ xs) k x, slice_get-get_or (x ∷ xs) k x lt)

setups_there : (trees : List Tree) (sizes : List Sizes) → length sizes ≡ length (machines_of trees) → AreThere (setup_of trees) 0 sizes
setups_there trees sizes many k s at =
    let inside : k < length sizes = slice_get_within sizes k s at in
    let m = some_at (machines_of trees) (0 + k) (omega arith) in
    (setup_in trees (0 + k) s m.0, ap (option_map (setup_in trees (0 + k) s)) m.1)

pub setups_counted : (trees : List Tree) (sizes : List Sizes) → length sizes ≡ length (machines_of trees) → length (setups_of trees sizes) ≡ length (machines_of trees)
setups_counted trees sizes many = each_counted (setup_of trees) 0 sizes (setups_there trees sizes many) ∙ many

-- what a machine of a run is to its controllers is what it is with its sizes
pub record IsSetupOf (trees : List Tree) (sizes : List Sizes) (k : ℕ) (x : MachineSetup) : Type 0 where
  pub tree : Machine
  pub at : slice_get (machines_of trees) k ≡ Some tree
  pub own : Sizes
  pub is_own : slice_get sizes k ≡ Some own
  pub setup : setup_in trees k own tree ≡ x

pub setups_at : (trees : List Tree) (sizes : List Sizes) (k : ℕ) → length sizes ≡ length (machines_of trees) → slice_get (setups_of trees sizes) k ≡ option_and_then (setup_of trees k) (slice_get sizes k)
setups_at trees sizes k many =
    let same : 0 + k ≡ k = omega arith in
    each_at (setup_of trees) 0 sizes (setups_there trees sizes many) k ∙ ap (λ j. option_and_then (setup_of trees j) (slice_get sizes k)) same

pub setup_found : (trees : List Tree) (sizes : List Sizes) (k : ℕ) (x : MachineSetup) → length sizes ≡ length (machines_of trees) → slice_get (setups_of trees sizes) k ≡ Some x → IsSetupOf trees sizes k x
setup_found trees sizes k x many e =
    let own = and_then_found (setup_of trees k) (slice_get sizes k) x (sym (setups_at trees sizes k many) ∙ e) in
    let tree = map_found (setup_in trees k own.0) (slice_get (machines_of trees) k) x own.2 in
    record { tree = tree.0; at = tree.1; own = own.0; is_own = own.1; setup = tree.2 }

pub setup_there : (trees : List Tree) (sizes : List Sizes) (k : ℕ) (m : Machine) (s : Sizes) → length sizes ≡ length (machines_of trees) → slice_get (machines_of trees) k ≡ Some m → slice_get sizes k ≡ Some s → slice_get (setups_of trees sizes) k ≡ Some (setup_in trees k s m)
setup_there trees sizes k m s many at own =
    setups_at trees sizes k many ∙ ap (option_and_then (setup_of trees k)) own ∙ ap (option_map (setup_in trees k s)) at
