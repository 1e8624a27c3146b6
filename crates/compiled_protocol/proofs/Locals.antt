-- A local of a controller of a protocol that parts serve is one of a machine as their program declares it.
use Rattle.std.proofs.Common.{◌≡◌, ◌∙◌, ℕ, Option, None, Some, List, length, slice_get, refl, subst}
use Rattle.std.specs.Prelude.{IfSome, IsSomeAnd, option_and_then}
use Rattle.std.specs.Option.{option_map}
use Rattle.slicc_ast.specs.declared.tree.item.Tree.{Tree}
use Rattle.slicc_ast.specs.declared.tree.machine.Machine.{Machine}
use Rattle.ruby_value.specs.declared.setup.Sizes.{Sizes}
use Rattle.ruby_symbols.specs.declared.machine.MachineSymbols.{MachineSymbols}
use Rattle.slicc_plan.specs.Prelude.{AreSizesOf, machine_symbols, machines_of, setup_in, setup_of}
use Rattle.slicc_plan.proofs.Machines.{symbols_counted}
use Rattle.ctl_face.specs.Prelude.{LocalView}
use Rattle.code_meaning.specs.Prelude.{IsDeclared}
use Rattle.protocol_meaning.specs.Prelude.{AreSizesIn, IsLocalOf, ranges_of}
use Rattle.protocol_meaning.proofs.ByNumber.{setups_counted, symbols_found}
use Rattle.protocol_meaning.proofs.Sizes.{sizes_have_room}
use Rattle.action_gen.specs.declared.parts.Parts.{Parts}
use Rattle.action_gen.specs.Prelude.{InMachine, Serves}

module _ (parts : Parts) (trees : List Tree) (serves : Serves parts trees) (number : ℕ) (v : LocalView) (is : IsLocalOf trees number v) where
  sizes_counted : length is.topology.sizes ≡ length (machines_of trees)
  sizes_counted = is.sizes.each_machine ∙ symbols_counted trees

  ranges_counted : length (ranges_of is.topology) ≡ length (machines_of trees)
  ranges_counted = is.routes.numbers.each_machine ∙ setups_counted trees is.topology.sizes sizes_counted

  room_of : (own : Sizes) (tree : Machine) → slice_get is.topology.sizes number ≡ Some own → slice_get (machines_of trees) number ≡ Some tree → AreSizesOf trees own
  room_of own tree is_own at =
      let sized =
      subst (λ (o : Option MachineSymbols). IfSome o (λ m. IsSomeAnd (slice_get is.topology.sizes number) (AreSizesIn (ranges_of is.topology) m))) (symbols_found trees number tree at)
      (is.sizes.own number) in
      let known : AreSizesIn (ranges_of is.topology) (machine_symbols trees number tree) own =
      subst (λ (o : Option Sizes). IsSomeAnd o (AreSizesIn (ranges_of is.topology) (machine_symbols trees number tree))) is_own sized in
      sizes_have_room trees (ranges_of is.topology) (machine_symbols trees number tree) own ranges_counted known

  declared_by : (o : Option Sizes) (p : Option Machine) → slice_get is.topology.sizes number ≡ o → slice_get (machines_of trees) number ≡ p
      → option_and_then (setup_of trees number) (slice_get is.topology.sizes number) ≡ Some v.machine → IsDeclared parts.program (slice_get parts.program.machines number) v.machine
  declared_by None p is_own at setup =
      let none : None ≡ Some v.machine = subst (λ (o : Option Sizes). option_and_then (setup_of trees number) o ≡ Some v.machine) is_own setup in
      absurd (cc none)
  declared_by (Some own) None is_own at setup =
      let one : setup_of trees number own ≡ Some v.machine = subst (λ (o : Option Sizes). option_and_then (setup_of trees number) o ≡ Some v.machine) is_own setup in
      let none : None ≡ Some v.machine = subst (λ (o : Option Machine). option_map (setup_in trees number own) o ≡ Some v.machine) at one in
      absurd (cc none)
  declared_by (Some own) (Some tree) is_own at setup =
      let one : setup_of trees number own ≡ Some v.machine = subst (λ (o : Option Sizes). option_and_then (setup_of trees number) o ≡ Some v.machine) is_own setup in
      serves.carries.declares number own v.machine (room_of own tree is_own at) one

  pub in_machine : InMachine parts.program number v
  in_machine = record {
    declared = declared_by (slice_get is.topology.sizes number) (slice_get (machines_of trees) number) refl refl is.setup;
    lawful = is.lawful;
  }
