-- A scan of the machine of a number, where it is there and where it isn't.
use Rattle.std.proofs.Common.{◌≡◌, ℕ, Option, None, Some, List, slice_get, refl, arith}
use Rattle.std.proofs.lemmas.List.Elements.{All-head, All-tail}
use Rattle.std.specs.Prelude.{◌≤◌, ◌<◌, zero, suc, [], ◌∷◌, All, IfSome, length, Ok, Result}
use Rattle.slicc_ast.specs.declared.tree.item.Tree.{Tree}
use Rattle.slicc_ast.specs.declared.tree.machine.Machine.{Machine}
use Rattle.ruby_symbols.specs.declared.machine.MachineSymbols.{MachineSymbols}
use Rattle.ruby_symbols.specs.declared.symbols.Symbols.{Symbols}
use Rattle.slicc_plan.specs.Prelude.{machines_of, symbols_of, HasNumbers}
use Rattle.ctl_face.specs.Prelude.{LocalView}
use Rattle.built_in_acts.specs.declared.machines.KeptMachines.{KeptMachines}
use Rattle.body_meaning.specs.declared.frame.RoundEnd.TheVariants.{Idle}
use Rattle.body_meaning.specs.declared.frame.Tried.TheVariants.{Waits}
use Rattle.body_meaning.specs.Prelude.{IsRoundOf, by_try, scan}
use Rattle.statement_walk.specs.Prelude.{HasFew}
use Rattle.protocol_meaning.specs.Prelude.{kept_machines, scan_of}

-- what holds of each is that of one that is there
pub numbers_at : (xs : List MachineSymbols) (k : ℕ) (o : Option MachineSymbols) → All HasNumbers xs → o ≡ slice_get xs k → IfSome o HasNumbers
numbers_at [] k o all is = rw is tt
numbers_at (x ∷ xs) zero o all is = rw is (All-head HasNumbers x xs all)
numbers_at (x ∷ xs) (suc k) o all is = numbers_at xs k o (All-tail HasNumbers x xs all) is

pub few_of : (m : MachineSymbols) → HasNumbers m → HasFew m
few_of m has =
    let functions : length m.functions ≤ 256 = has.functions in
    let tables : length m.tables ≤ 64 = has.tables in
    let buffers : length m.buffers ≤ 64 = has.buffers in
    record { functions = omega arith; tables = omega arith; buffers = omega arith }

module _ (trees : List Tree) (machine limit fired : ℕ) (v : LocalView) where
  pub without_machine : slice_get (symbols_of trees).machines machine ≡ None → IsRoundOf (scan_of trees machine limit fired v) (Ok Idle) v v
  unfolding scan_of
  without_machine none = rw none (refl, refl)

  pub without_tree : (m : MachineSymbols) → slice_get (symbols_of trees).machines machine ≡ Some m → slice_get (machines_of trees) machine ≡ None
      → IsRoundOf (scan_of trees machine limit fired v) (Ok Idle) v v
  unfolding scan_of
  without_tree m is none = rw (is, none) (refl, refl)

  pub with_machine : (symbols : Symbols) (m : MachineSymbols) (tree : Machine) (kept : KeptMachines)
      → slice_get (symbols_of trees).machines machine ≡ Some m → slice_get (machines_of trees) machine ≡ Some tree → symbols ≡ symbols_of trees → kept ≡ kept_machines (length symbols.machines) m
      → scan (record { symbols = symbols; number = machine; machine = m; kept = kept; tree = tree }) limit fired v ≡ scan_of trees machine limit fired v
  unfolding scan_of
  with_machine symbols m tree kept is there same made = rw (is, there, made, same) refl
