-- What a protocol has is counted from its symbols.
use Rattle.std.proofs.Common.{◌≡◌, ◌+◌, ◌*◌, ◌<◌, ◌≤◌, ◌^◌, ◌||◌, ◌∙◌, ℕ, zero, suc, true, cond, Option, None, Some, List, [], ◌∷◌, All, find, length, length-append, map, slice_get, refl, sym, ap, subst, arith}
use Rattle.std.specs.Prelude.{option_and_then, sum_by, unwrap_or}
use Rattle.std.proofs.Math.Nat.{mul-le-mul}
use Rattle.std.proofs.lemmas.List.{length-map}
use Rattle.std.proofs.lemmas.List.Sums.{count_by-le-length, sum_by-cons, sum_by-le}
use Rattle.ruby_symbols.specs.declared.machine.MachineSymbols.{MachineSymbols}
use Rattle.ruby_symbols.specs.declared.types.EnumerationSymbol.{EnumerationSymbol}
use Rattle.slicc_ast.specs.declared.tree.declaration.Enumeration.{Enumeration}
use Rattle.slicc_ast.specs.declared.tree.declaration.State.{State}
use Rattle.slicc_ast.specs.declared.tree.declaration.Symbol.{Symbol}
use Rattle.slicc_ast.specs.declared.tree.item.Tree.{Tree}
use Rattle.slicc_ast.specs.declared.tree.machine.Machine.{Machine}
use Rattle.slicc_plan.specs.declared.broken.Rule.TheVariants.{NoStates}
use Rattle.slicc_plan.specs.declared.row.Counts.{Counts}
use Rattle.slicc_plan.specs.Counts.{events_answered}
use Rattle.slicc_plan.specs.Declarations.{enumeration}
use Rattle.slicc_plan.specs.Prelude.{HasCounts, Declaration, IsAccepted, ScopedDeclaration, is_written, rows, counts_by, counts_of, declared_number, enumerated, enumeration_symbols, event_members, events_by, global_declarations, is_enumeration, is_events, is_states, machine_declarations, machine_symbols, machines_from, machines_of, made_in, member_count, members_in, members_of_found, missing_parts_in, no_structure, number_of_found, numbers_below, own_default, owner, pairs_by, pairs_of, permission_number, permissions_found, scoped_declarations, shared_pairs_in, state, state_members, states, states_by, symbol, symbols_of, within, is_empty}
use Rattle.slicc_plan.proofs.Counted.{machines_counted}
use Rattle.slicc_plan.proofs.Few.{machine_limited}
use Rattle.slicc_plan.proofs.Machines.{none_in_one, symbols_counted}
use Rattle.slicc_plan.proofs.MachinesKept.{machines_kept}
use Rattle.slicc_plan.proofs.Pairs.{pairs_of_each}
use Rattle.slicc_plan.proofs.There.{There, all_from, found_passes, in_machine, machine_there, there_filtered, there_first, there_found, there_later}
use Rattle.slicc_plan.proofs.TwoTransitions.{or_true}
use Rattle.slicc_plan.proofs.Types.{enumeration_stands}

-- Sums over machines.

sums_from : (f : Machine → ℕ) (g : MachineSymbols → ℕ) (trees : List Tree) (n : ℕ) (ms : List Machine) → ((k : ℕ) (m : Machine) → There ms m → f m ≡ g (machine_symbols trees k m)) → sum_by f ms ≡ sum_by g (machines_from trees n ms)
sums_from f g trees n [] same = refl
sums_from f g trees n (m ∷ ms) same =
    let here = same n m (there_first m ms) in
    let rest = sums_from f g trees (n + 1) ms (λ k l there. same k l (there_later m l ms there)) in
    let first = sum_by-cons f m ms in
    let second = sum_by-cons g (machine_symbols trees n m) (machines_from trees (n + 1) ms) in
    omega (arith, here, rest, first, second)

all_sums : (f : Machine → ℕ) (g : MachineSymbols → ℕ) (trees : List Tree) → ((k : ℕ) (m : Machine) → There (machines_of trees) m → f m ≡ g (machine_symbols trees k m)) → sum_by f (machines_of trees) ≡ sum_by g (symbols_of trees).machines
unfolding symbols_of
all_sums f g trees same = sums_from f g trees 0 (machines_of trees) same

-- States.

permissions_counted : (d : Declaration) → is_states d ≡ true → length (members_in d) ≡ length (permissions_found (Some d))
permissions_counted (states d) is = length-map d.members state ∙ sym (length-map d.members (λ (s : State). permission_number s.permission.text))
permissions_counted _ is = absurd (cc is)

states_found : (m : Machine) (o : Option Declaration) → find is_states (machine_declarations m) ≡ o → length (members_of_found o) ≡ length (permissions_found o)
states_found m None found = refl
states_found m (Some d) found = permissions_counted d (found_passes is_states (machine_declarations m) d found)

states_same : (trees : List Tree) (k : ℕ) (m : Machine) → length (state_members m) ≡ states_by (machine_symbols trees k m)
unfolding machine_symbols
states_same trees k m = states_found m (find is_states (machine_declarations m)) refl

module _ (trees : List Tree) (accepted : IsAccepted trees) where
  -- Events.

  has_events : (m : Machine) → There (machines_of trees) m → (d : Declaration) × (find is_events (machine_declarations m) ≡ Some d)
  has_events m (k, at) = by (find is_events (machine_declarations m)) refl
    where
      by : (o : Option Declaration) → find is_events (machine_declarations m) ≡ o → (d : Declaration) × (o ≡ Some d)
      by None is =
          let none : missing_parts_in (0 + k) m ≡ [] =
          none_in_one missing_parts_in 0 (machines_of trees) k m
          (machines_kept trees accepted.of_machines).parts at in
          let told : missing_parts_in (0 + k) m ≡ record { rule = NoStates; machine = 0 + k; place = m.span; other = None } ∷ [] =
          ap (λ o. cond (is_empty (state_members m) || is_empty (members_of_found o)) (record { rule = NoStates; machine = 0 + k; place = m.span; other = None } ∷ []) []) is
          ∙ ap (λ b. cond b (record { rule = NoStates; machine = 0 + k; place = m.span; other = None } ∷ []) []) (or_true (is_empty (state_members m))) in
          absurd (cc (sym none ∙ told))
      by (Some d) is = (d, refl)

  -- the members of the enumeration under the number that is found for a declaration
  abbrev counted_under : Machine → Option Declaration → ℕ
  counted_under m o = member_count (slice_get (enumeration_symbols trees) (number_of_found trees m o))

  enumeration_counted : (m : Machine) (e : Enumeration) → There (scoped_declarations trees) (made_in (within m) (enumeration e)) → length (members_in (enumeration e)) ≡ counted_under m (Some (enumeration e))
  enumeration_counted m e there =
      let members : List (List ℕ) = map (λ (s : Symbol). s.name.text) e.members in
      let symbol_of : EnumerationSymbol = record { name = e.name.text; machine = owner trees (within m); members = members; default = own_default (within m) (enumeration e) } in
      length-map e.members symbol ∙ sym (length-map e.members (λ (s : Symbol). s.name.text))
      ∙ sym (by symbol_of (declared_number trees (enumerated (within m) e.name.text members))
      (enumeration_stands trees accepted (within m) (enumeration e) e.name.text members members symbol_of (there_filtered (λ (y : ScopedDeclaration). is_enumeration y.declaration) (scoped_declarations trees) (made_in (within m) (enumeration e)) there refl) refl refl))
    where
      by : (symbol_of : EnumerationSymbol) (o : Option ℕ) → option_and_then (slice_get (enumeration_symbols trees)) o ≡ Some symbol_of → member_count (slice_get (enumeration_symbols trees) (unwrap_or o no_structure)) ≡ length symbol_of.members
      by symbol_of None is = absurd (cc is)
      by symbol_of (Some n) is = ap member_count is

  events_counted : (m : Machine) (d : Declaration) → There (scoped_declarations trees) (made_in (within m) d) → is_events d ≡ true → length (members_in d) ≡ counted_under m (Some d)
  events_counted m (enumeration e) there is = enumeration_counted m e there
  events_counted m _ there is = absurd (cc is)

  events_found : (m : Machine) → There (machines_of trees) m → length (event_members m) ≡ counted_under m (find is_events (machine_declarations m))
  events_found m there =
      let found = has_events m there in
      let d = found.0 in
      let ds = machine_declarations m in
      ap (λ o. length (members_of_found o)) found.1
      ∙ events_counted m d (in_machine trees m d (machine_there (global_declarations trees) m there) (there_found is_events ds d found.1)) (found_passes is_events ds d found.1)
      ∙ ap (counted_under m) (sym found.1)

  events_same : (k : ℕ) (m : Machine) → There (machines_of trees) m → length (event_members m) ≡ events_by (symbols_of trees) (machine_symbols trees k m)
  unfolding machine_symbols symbols_of
  events_same k m there = events_found m there

  -- Pairs.

  pairs_same : (k : ℕ) (m : Machine) → There (machines_of trees) m → pairs_of m ≡ pairs_by (machine_symbols trees k m)
  unfolding machine_symbols
  pairs_same k m (j, at) = pairs_of_each (0 + j) m (none_in_one shared_pairs_in 0 (machines_of trees) j m (machines_kept trees accepted.of_machines).pairs at)

  pub counts_by_symbols : counts_of trees ≡ counts_by (symbols_of trees)
  counts_by_symbols =
      let machines = sym (symbols_counted trees) in
      let states = all_sums (λ m. length (state_members m)) states_by trees (λ k m there. states_same trees k m) in
      let events = all_sums (λ m. length (event_members m)) (events_by (symbols_of trees)) trees events_same in
      let pairs = all_sums pairs_of pairs_by trees pairs_same in
      λ i. record { machines = machines i; states = states i; events = events i; pairs = pairs i }

-- The sums are small.

as_many_numbers : (n : ℕ) → length (numbers_below n) ≡ n
as_many_numbers zero = refl
as_many_numbers (suc n) = let rest = as_many_numbers n in let long = length-append (numbers_below n) (n ∷ []) in omega (arith, rest, long)

module _ (trees : List Tree) (accepted : IsAccepted trees) where
  few_of_each : (m : Machine) → There (machines_of trees) m → (length (state_members m) ≤ 256) × (length (event_members m) ≤ 256)
  few_of_each m (k, at) =
      let few = (machine_limited trees k m accepted.of_declarations at).few in
      (few.states, few.events)

  few_pairs : (m : Machine) → There (machines_of trees) m → pairs_of m ≤ 65536
  few_pairs m there =
      let few = few_of_each m there in
      let answered : All (λ s. events_answered m s ≤ 256) (numbers_below (length (state_members m))) =
      λ k d below. at_most few.1 _ in
      let most = sum_by-le (events_answered m) 256 (numbers_below (length (state_members m))) answered in
      let long = as_many_numbers (length (state_members m)) in
      omega (arith, most, long, few.0)
    where
      at_most : length (event_members m) ≤ 256 → (s : ℕ) → events_answered m s ≤ 256
      at_most few s =
          let most = count_by-le-length (λ e. is_written (rows m s e)) (numbers_below (length (event_members m))) in
          let long = as_many_numbers (length (event_members m)) in
          omega (arith, most, long, few)

  few_in_all : (f : Machine → ℕ) (most : ℕ) → most ≤ 65536 → ((m : Machine) → There (machines_of trees) m → f m ≤ most) → sum_by f (machines_of trees) < 2 ^ 64
  few_in_all f most small each =
      let sum = sum_by-le f most (machines_of trees) (all_from (λ m. f m ≤ most) (machines_of trees) each) in
      let few : length (machines_of trees) ≤ 16 = omega (arith, symbols_counted trees, machines_counted trees accepted) in
      let product : length (machines_of trees) * most ≤ 16 * 65536 = mul-le-mul few small in
      omega (arith, sum, product)

  pub counts_fit : HasCounts (symbols_of trees)
  counts_fit =
      let same = counts_by_symbols trees accepted in
      record {
        states = subst (λ (c : Counts). c.states < 2 ^ 64) same (few_in_all (λ m. length (state_members m)) 256 (omega arith) (λ m there. (few_of_each m there).0));
        events = subst (λ (c : Counts). c.events < 2 ^ 64) same (few_in_all (λ m. length (event_members m)) 256 (omega arith) (λ m there. (few_of_each m there).1));
        pairs = subst (λ (c : Counts). c.pairs < 2 ^ 64) same (few_in_all pairs_of 65536 (omega arith) few_pairs);
      }
