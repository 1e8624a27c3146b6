-- A machine has as many states as the enumeration of its states has members.
use Rattle.std.proofs.Common.{◌≡◌, ◌+◌, ◌||◌, ◌∙◌, ℕ, true, cond, Option, None, Some, List, [], ◌∷◌, find, length, map, slice_get, refl, sym, ap}
use Rattle.std.specs.Prelude.{option_and_then, unwrap_or}
use Rattle.std.proofs.lemmas.List.{length-map}
use Rattle.ruby_symbols.specs.declared.types.EnumerationSymbol.{EnumerationSymbol}
use Rattle.slicc_ast.specs.declared.tree.declaration.State.{State}
use Rattle.slicc_ast.specs.declared.tree.declaration.States.{States}
use Rattle.slicc_ast.specs.declared.tree.item.Tree.{Tree}
use Rattle.slicc_ast.specs.declared.tree.machine.Machine.{Machine}
use Rattle.slicc_plan.specs.declared.broken.Rule.TheVariants.{NoStates}
use Rattle.slicc_plan.specs.Prelude.{Declaration, IsAccepted, ScopedDeclaration, declared_number, enumerated, enumeration_symbols, event_members, global_declarations, is_empty, is_enumeration, is_states, machine_declarations, machine_symbols, machines_of, made_in, member_count, members_in, members_of_found, missing_parts_in, no_structure, number_of_found, own_default, owner, scoped_declarations, state, state_members, states, symbols_of, within}
use Rattle.slicc_plan.proofs.Machines.{none_in_one}
use Rattle.slicc_plan.proofs.MachinesKept.{machines_kept}
use Rattle.slicc_plan.proofs.There.{There, found_passes, in_machine, machine_there, there_filtered, there_found}
use Rattle.slicc_plan.proofs.Types.{enumeration_stands}

module _ (trees : List Tree) (accepted : IsAccepted trees) where
  has_states : (m : Machine) → There (machines_of trees) m → (d : Declaration) × (find is_states (machine_declarations m) ≡ Some d)
  has_states m (k, at) = by (find is_states (machine_declarations m)) refl
    where
      by : (o : Option Declaration) → find is_states (machine_declarations m) ≡ o → (d : Declaration) × (o ≡ Some d)
      by None is =
          let none : missing_parts_in (0 + k) m ≡ [] =
          none_in_one missing_parts_in 0 (machines_of trees) k m
          (machines_kept trees accepted.of_machines).parts at in
          let told : missing_parts_in (0 + k) m ≡ record { rule = NoStates; machine = 0 + k; place = m.span; other = None } ∷ [] =
          ap (λ o. cond (is_empty (members_of_found o) || is_empty (event_members m)) (record { rule = NoStates; machine = 0 + k; place = m.span; other = None } ∷ []) []) is in
          absurd (cc (sym none ∙ told))
      by (Some d) is = (d, refl)

  -- the members of the enumeration under the number that is found for a declaration
  abbrev counted_under : Machine → Option Declaration → ℕ
  counted_under m o = member_count (slice_get (enumeration_symbols trees) (number_of_found trees m o))

  declared_counted : (m : Machine) (e : States) → There (scoped_declarations trees) (made_in (within m) (states e)) → length (members_in (states e)) ≡ counted_under m (Some (states e))
  declared_counted m e there =
      let members : List (List ℕ) = map (λ (s : State). s.name.text) e.members in
      let symbol_of : EnumerationSymbol = record { name = e.name.text; machine = owner trees (within m); members = members; default = own_default (within m) (states e) } in
      length-map e.members state ∙ sym (length-map e.members (λ (s : State). s.name.text))
      ∙ sym (by symbol_of (declared_number trees (enumerated (within m) e.name.text members))
      (enumeration_stands trees accepted (within m) (states e) e.name.text members members symbol_of (there_filtered (λ (y : ScopedDeclaration). is_enumeration y.declaration) (scoped_declarations trees) (made_in (within m) (states e)) there refl) refl refl))
    where
      by : (symbol_of : EnumerationSymbol) (o : Option ℕ) → option_and_then (slice_get (enumeration_symbols trees)) o ≡ Some symbol_of → member_count (slice_get (enumeration_symbols trees) (unwrap_or o no_structure)) ≡ length symbol_of.members
      by symbol_of None is = absurd (cc is)
      by symbol_of (Some n) is = ap member_count is

  states_counted : (m : Machine) (d : Declaration) → There (scoped_declarations trees) (made_in (within m) d) → is_states d ≡ true → length (members_in d) ≡ counted_under m (Some d)
  states_counted m (states e) there is = declared_counted m e there
  states_counted m _ there is = absurd (cc is)

  states_found : (m : Machine) → There (machines_of trees) m → length (state_members m) ≡ counted_under m (find is_states (machine_declarations m))
  states_found m there =
      let found = has_states m there in
      let d = found.0 in
      let ds = machine_declarations m in
      ap (λ o. length (members_of_found o)) found.1
      ∙ states_counted m d (in_machine trees m d (machine_there (global_declarations trees) m there) (there_found is_states ds d found.1)) (found_passes is_states ds d found.1)
      ∙ ap (counted_under m) (sym found.1)

  -- of a machine that is there
  pub states_are : (k number : ℕ) (m : Machine) → slice_get (machines_of trees) k ≡ Some m
      → length (state_members m) ≡ member_count (slice_get (symbols_of trees).enumerations (machine_symbols trees number m).states)
  unfolding machine_symbols symbols_of
  states_are k number m at = states_found m (k, at)
