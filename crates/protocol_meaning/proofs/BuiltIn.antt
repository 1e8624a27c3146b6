-- Built-in calls stay within bounds: they answer values within them, where their arguments are.
use Rattle.std.proofs.Common.{◌≡◌, ◌<◌, ◌≤◌, ◌+◌, ◌*◌, ◌&&◌, ℕ, zero, suc, pos, Bool, true, false, List, [], ◌∷◌, All, IfSome, Option, None, Some, min, nat_le, nat_lt, refl, sym, ap, ◌∙◌, arith, slice_get, unwrap_or, is_some}
use Rattle.std.proofs.lemmas.Bool.{and_parts, cond_both, leb-true, ltb-true}
use Rattle.std.proofs.lemmas.List.Elements.{All-nil, All-filter}
use Rattle.std.specs.List.{fold}
use Rattle.ruby_value.specs.declared.value.Ref.{Ref}
use Rattle.ruby_value.specs.declared.value.Value.{Value}
use Rattle.ruby_value.specs.declared.value.Value.TheVariants as value
use Rattle.ruby_value.specs.Prelude.{with_member, without_member}
use Rattle.ruby_value.proofs.Ordered.{All-insert}
use Rattle.ctl_face.proofs.Lines.{All-found}
use Rattle.acts.specs.Act as act
use Rattle.acts.specs.Prelude.{Acting}
use Rattle.built_in_acts.specs.declared.call.Call.{Call}
use Rattle.built_in_acts.specs.declared.call.Call.TheVariants as call
use Rattle.built_in_acts.specs.declared.call.ControllerCall.{ControllerCall}
use Rattle.built_in_acts.specs.declared.call.ControllerCall.TheVariants as own_call
use Rattle.built_in_acts.specs.declared.call.MachineCall.{MachineCall}
use Rattle.built_in_acts.specs.declared.call.MachineCall.TheVariants as machines
use Rattle.built_in_acts.specs.declared.call.MessageCall.{MessageCall}
use Rattle.built_in_acts.specs.declared.call.MessageCall.TheVariants as message
use Rattle.built_in_acts.specs.declared.call.SetCall.{SetCall}
use Rattle.built_in_acts.specs.declared.call.SetCall.TheVariants as set
use Rattle.built_in_acts.specs.declared.call.TableCall.{TableCall}
use Rattle.built_in_acts.specs.declared.call.TableCall.TheVariants as table
use Rattle.built_in_acts.specs.declared.call.ValueCall.{ValueCall}
use Rattle.built_in_acts.specs.declared.call.ValueCall.TheVariants as plain
use Rattle.built_in_acts.specs.declared.machines.KeptMachines.{KeptMachines}
use Rattle.built_in_acts.specs.declared.machines.Placed.{Placed}
use Rattle.built_in_acts.specs.declared.machines.Range.{Range}
use Rattle.built_in_acts.specs.Prelude.{built_in, called, line_used, of_set, of_values, on_controller, on_machines, on_messages, on_table, silent, told, used, call_at, calls, home_in, is_in, kept_number, place_of, placed_from, range_at, range_of, small, with_numbers, with_range, address_of_line, argument, block, controller, controllers, line_named, member, number}
use Rattle.protocol_meaning.specs.Prelude.{AreWithin, IsController, IsMember, IsWithin}
use Rattle.protocol_meaning.proofs.Bounds.{Bounds}
use Rattle.protocol_meaning.proofs.KeptBounds.{KeptWithin}
use Rattle.protocol_meaning.proofs.Stay.{Stay, act_stays, done_stays, either_stays, ends_stays, found_stays, stops_stays, then_stays}

-- The numbers of calls: none of those before the last one sets a state.

abbrev pub SetsNoState : Call → Type 0
SetsNoState (call.Controller own_call.SetState) = ⊥
SetsNoState _ = Unit {0}

sets_no_state : Call → Bool
sets_no_state (call.Controller own_call.SetState) = false
sets_no_state _ = true

by_test : (c : Call) → sets_no_state c ≡ true → SetsNoState c
unfolding sets_no_state
by_test (call.Controller own_call.SetState) is = absurd (cc is)
by_test (call.Controller own_call.ReadCallback) is = tt
by_test (call.Controller own_call.WriteCallback) is = tt
by_test (call.Controller own_call.Cycle) is = tt
by_test (call.Controller own_call.Me) is = tt
by_test (call.Message c) is = tt
by_test (call.Table c) is = tt
by_test (call.Machines c) is = tt
by_test (call.Set c) is = tt
by_test (call.Value c) is = tt
by_test call.NotServed is = tt

-- of the first items of a list
first_all : {X : Type 0} (test : X → Bool) → List X → ℕ → Bool
first_all test xs zero = true
first_all test [] (suc n) = true
first_all test (x ∷ xs) (suc n) = test x && first_all test xs n

first_test : {X : Type 0} (test : X → Bool) (xs : List X) (n k : ℕ) → first_all test xs n ≡ true → k < n → IfSome (slice_get xs k) (λ x. test x ≡ true)
unfolding first_all
first_test test [] n k all below = tt
first_test test (x ∷ xs) zero k all below = absurd (omega arith)
first_test test (x ∷ xs) (suc n) zero all below = (and_parts (test x) (first_all test xs n) all).0
first_test test (x ∷ xs) (suc n) (suc k) all below = first_test test xs n k (and_parts (test x) (first_all test xs n) all).1 (omega arith)

calls_tested : first_all sets_no_state calls 60 ≡ true
unfolding calls first_all sets_no_state
calls_tested = refl

pub call_sets_none : (n : ℕ) → n < 60 → SetsNoState (call_at n)
call_sets_none n below = by (slice_get calls n) (first_test sets_no_state calls 60 n calls_tested below)
  where
    by : (o : Option Call) → IfSome o (λ c. sets_no_state c ≡ true) → SetsNoState (unwrap_or o call.NotServed)
    by None holds = tt
    by (Some c) holds = by_test c holds

module _ (b : Bounds) (kept : KeptMachines) (is : KeptWithin b kept) where
  abbrev pub ValueWithin : Option Value → Type 0
  ValueWithin o = IfSome o (IsWithin b.extent)

  abbrev Calls-stay : Acting (Option Value) → Type 0
  Calls-stay p = Stay b ValueWithin p

  -- what values are
  false_within : IsWithin b.extent (value.Bool false)
  false_within = tt

  pub argument_within : (arguments : List Value) (i : ℕ) → AreWithin b.extent arguments → IsWithin b.extent (argument arguments i)
  argument_within arguments i within = by (slice_get arguments i) (All-found (IsWithin b.extent) arguments i within)
    where
      by : (o : Option Value) → IfSome o (IsWithin b.extent) → IsWithin b.extent (unwrap_or o (value.Bool false))
      by None here = tt
      by (Some v) here = here

  first_controller : IsController b.extent 0
  first_controller = is.some

  controller_within : (v : Value) → IsWithin b.extent v → IsController b.extent (controller v)
  controller_within (value.Machine n) within = within
  controller_within (value.Bool x) within = first_controller
  controller_within (value.Int x) within = first_controller
  controller_within (value.Enum x y) within = first_controller
  controller_within (value.Addr x) within = first_controller
  controller_within (value.Dest x) within = first_controller
  controller_within (value.Block x) within = first_controller
  controller_within (value.Entry x) within = first_controller
  controller_within (value.Tbe x) within = first_controller

  controllers_within : (v : Value) → IsWithin b.extent v → All (IsController b.extent) (controllers v)
  controllers_within (value.Dest ns) within = within
  controllers_within (value.Bool x) within = All-nil (IsController b.extent)
  controllers_within (value.Int x) within = All-nil (IsController b.extent)
  controllers_within (value.Enum x y) within = All-nil (IsController b.extent)
  controllers_within (value.Addr x) within = All-nil (IsController b.extent)
  controllers_within (value.Machine x) within = All-nil (IsController b.extent)
  controllers_within (value.Block x) within = All-nil (IsController b.extent)
  controllers_within (value.Entry x) within = All-nil (IsController b.extent)
  controllers_within (value.Tbe x) within = All-nil (IsController b.extent)

  -- sets of controllers
  with_within : (members : List ℕ) (m : ℕ) → All (IsController b.extent) members → IsController b.extent m → All (IsController b.extent) (with_member members m)
  with_within members m all here = All-insert (IsController b.extent) (λ o. nat_lt o m) (λ o. nat_lt m o) m members all here

  without_within : (members : List ℕ) (m : ℕ) → All (IsController b.extent) members → All (IsController b.extent) (without_member members m)
  without_within members m all = All-filter _ (IsController b.extent) members all

  with_all_within : (members ms : List ℕ) → All (IsController b.extent) members → All (IsController b.extent) ms → All (IsController b.extent) (fold with_member members ms)
  with_all_within members [] all more = all
  with_all_within members (m ∷ ms) all more =
      with_all_within (with_member members m) ms (with_within members m all (All-first m ms more)) (All-rest m ms more)
    where
      All-first : (x : ℕ) (xs : List ℕ) → All (IsController b.extent) (x ∷ xs) → IsController b.extent x
      All-first x xs each = each 0 0 (omega arith)

      All-rest : (x : ℕ) (xs : List ℕ) → All (IsController b.extent) (x ∷ xs) → All (IsController b.extent) xs
      All-rest x xs each k d lt = each (suc k) d (omega arith)

  without_all_within : (members ms : List ℕ) → All (IsController b.extent) members → All (IsController b.extent) (fold without_member members ms)
  without_all_within members [] all = all
  without_all_within members (m ∷ ms) all = without_all_within (without_member members m) ms (without_within members m all)

  set_within : (c : SetCall) (members : List ℕ) (v : Value) → All (IsController b.extent) members → IsWithin b.extent v → IsWithin b.extent (of_set c members v)
  set_within set.Add members v all within = with_within members (controller v) all (controller_within v within)
  set_within set.Remove members v all within = without_within members (controller v) all
  set_within set.ClearSet members v all within = All-nil (IsController b.extent)
  set_within set.Count members v all within = tt
  set_within set.Contains members v all within = tt
  set_within set.IsEmpty members v all within = tt
  set_within set.AddAll members v all within = with_all_within members (controllers v) all (controllers_within v within)
  set_within set.RemoveAll members v all within = without_all_within members (controllers v) all

  -- Ranges of controllers.

  abbrev RangeWithin : Range → Type 0
  RangeWithin r = (1 ≤ r.count) × (r.first + r.count ≤ b.extent.controllers)

  abbrev IsNumber : ℕ → ℕ → Type 0
  IsNumber place n = (k : ℕ) → slice_get b.values (kept.first + place) ≡ Some (value.Int (pos k)) → n ≡ min k 255

  abbrev IsZero : ℕ → Type 0
  IsZero line = line ≡ 0

  kept_is : (place : ℕ) (v : Value) → (kept.table ≡ b.table → IsZero 0 → slice_get b.values (kept.first + place) ≡ Some v) → IsNumber place (small (number v))
  kept_is place v kept k there =
      let both : Some v ≡ Some (value.Int (pos k)) = sym (kept is.table refl) ∙ there in
      let same : v ≡ value.Int (pos k) = cc both in
      ap (λ (x : Value). small (number x)) same

  kept_stays : (place : ℕ) → Stay b (IsNumber place) (kept_number kept place)
  unfolding kept_number
  kept_stays place =
      then_stays b (act_stays b (act.Get (record { table = kept.table; line = 0 }) (kept.first + place)) tt)
      (λ v answers. ends_stays b (kept_is place v answers.1))

  range_made : (first count f c : ℕ) → first ≡ min f 255 → count ≡ min c 255 → f + c ≤ b.extent.controllers → IfSome (range_of first count) RangeWithin
  range_made first count f c first_is count_is within =
      cond_both (nat_lt first 64 && nat_le 1 count && nat_le count 64) (Some (record { first = first; count = count })) None (λ o. IfSome o RangeWithin)
      (λ test.
      let outer = and_parts (nat_lt first 64 && nat_le 1 count) (nat_le count 64) test in
      let inner = and_parts (nat_lt first 64) (nat_le 1 count) outer.0 in
      let small_first = ltb-true first 64 inner.0 in
      let some = leb-true 1 count inner.1 in
      let few = leb-true count 64 outer.1 in
      (some, omega arith))
      (λ _. tt)

  range_stays : (machine : ℕ) → Stay b (λ o. IfSome o RangeWithin) (range_at kept machine)
  unfolding range_at
  range_stays machine =
      either_stays b (nat_lt machine kept.count)
      (λ below.
      let has = is.ranges machine (ltb-true machine kept.count below) in
      then_stays b (kept_stays (2 * machine))
      (λ first first_is. then_stays b (kept_stays (2 * machine + 1))
      (λ count count_is. ends_stays b (range_made first count has.first has.count (first_is has.first has.first_is) (count_is has.count has.count_is) has.within))))
      (λ _. ends_stays b tt)

  numbers_within : (members : List ℕ) (first n : ℕ) → first + n ≤ b.extent.controllers → All (IsController b.extent) members → All (IsController b.extent) (with_numbers members first n)
  numbers_within members first zero within all = all
  numbers_within members first (suc n) within all =
      numbers_within (with_member members first) (first + 1) n (omega arith) (with_within members first all (omega arith))

  range_added : (members : List ℕ) (o : Option Range) → All (IsController b.extent) members → IfSome o RangeWithin → All (IsController b.extent) (with_range members o)
  range_added members None all within = all
  range_added members (Some r) all within = numbers_within members r.first r.count within.1 all

  home_within : (line : ℕ) (o : Option Range) → IfSome o RangeWithin → IsController b.extent (home_in line o)
  home_within line None within = first_controller
  home_within line (Some r) within =
      let some = within.0 in
      let all = within.1 in
      omega arith

  abbrev PlacedWithin : Placed → Type 0
  PlacedWithin p = IsMember b.extent 0 p.machine

  placed_stays : (controller n machine : ℕ) → machine + n ≤ kept.count → Stay b PlacedWithin (placed_from kept controller n machine)
  unfolding placed_from
  placed_stays controller zero machine within = ends_stays b (omega arith)
  placed_stays controller (suc n) machine within =
      then_stays b (range_stays machine)
      (λ r here. either_stays b (is_in r controller)
      (λ _. let all = is.machines in ends_stays b (omega arith))
      (λ _. placed_stays controller n (machine + 1) (omega arith)))

  place_stays : (controller : ℕ) → Stay b PlacedWithin (place_of kept controller)
  unfolding place_of
  place_stays controller = placed_stays controller kept.count 0 (omega arith)

  -- Calls.

  told_stays : {A : Type 0} {R : A → Type 0} (made : A → Value) {p : Acting A} → Stay b R p → ((x : A) → R x → IsWithin b.extent (made x)) → Calls-stay (told made p)
  unfolding told
  told_stays made first holds = then_stays b first (λ x here. ends_stays b (holds x here))

  silent_stays : {A : Type 0} {R : A → Type 0} {p : Acting A} → Stay b R p → Calls-stay (silent p)
  unfolding silent
  silent_stays first = then_stays b first (λ x here. ends_stays b tt)

  messages_stay : (c : MessageCall) (on : ℕ) (arguments : List Value) → Calls-stay (on_messages c on arguments)
  messages_stay message.IsReady on arguments = told_stays value.Bool (done_stays b (act.Ready on) tt) (λ x _. tt)
  messages_stay message.Dequeue on arguments = silent_stays (done_stays b (act.Pop on) tt)
  messages_stay message.Recycle on arguments = silent_stays (done_stays b (act.Recycle on (pos 10)) tt)
  messages_stay message.RecycleFor on arguments = silent_stays (done_stays b (act.Recycle on (number (argument arguments 1))) tt)
  messages_stay message.Stall on arguments = silent_stays (done_stays b (act.Stall on (line_named (argument arguments 0))) tt)
  messages_stay message.Wake on arguments = silent_stays (done_stays b (act.Wake (line_named (argument arguments 0))) tt)
  messages_stay message.WakeAll on arguments = silent_stays (done_stays b act.WakeAll tt)

  used_stays : (on : ℕ) (v : Value) → Stay b (λ (x : Unit {0}). Unit {0}) (used on v)
  unfolding used
  used_stays on v = then_stays b {R = λ _. Unit {0}} (found_stays b _ (line_used v) (any (line_used v))) (λ line _. done_stays b (act.Touch on line) tt)
    where
      any : (o : Option ℕ) → IfSome o (λ _. Unit {0})
      any None = tt
      any (Some n) = tt

  table_stays : (c : TableCall) (on : ℕ) (arguments : List Value) → Calls-stay (on_table c on arguments)
  table_stays table.Lookup on arguments = told_stays value.Entry (done_stays b (act.Lookup on (line_named (argument arguments 0))) tt) (λ r _. tt)
  table_stays table.IsPresent on arguments = told_stays (λ r. value.Bool (is_some r)) (done_stays b (act.Lookup on (line_named (argument arguments 0))) tt) (λ r _. tt)
  table_stays table.HasPlace on arguments = told_stays value.Bool (done_stays b (act.Avail on (line_named (argument arguments 0))) tt) (λ x _. tt)
  table_stays table.Replaced on arguments = told_stays (λ line. value.Addr (address_of_line line)) (done_stays b (act.Probe on (line_named (argument arguments 0))) tt) (λ x _. tt)
  table_stays table.Allocate on arguments = told_stays (λ r. value.Entry (Some r)) (done_stays b (act.Allocate on (line_named (argument arguments 0))) tt) (λ r _. tt)
  table_stays table.AllocateTbe on arguments = silent_stays (done_stays b (act.Allocate on (line_named (argument arguments 0))) tt)
  table_stays table.Deallocate on arguments = silent_stays (done_stays b (act.Deallocate on (line_named (argument arguments 0))) tt)
  table_stays table.Use on arguments = silent_stays (used_stays on (argument arguments 0))

  controller_stays : (c : ControllerCall) (arguments : List Value) → SetsNoState (call.Controller c) → Calls-stay (on_controller c arguments)
  controller_stays own_call.ReadCallback arguments sets = silent_stays (done_stays b (act.ReadBack (line_named (argument arguments 0)) (block (argument arguments 1))) tt)
  controller_stays own_call.WriteCallback arguments sets = told_stays value.Block (done_stays b (act.WriteBack (line_named (argument arguments 0)) (block (argument arguments 1))) tt) (λ x _. tt)
  controller_stays own_call.SetState arguments sets = absurd sets
  controller_stays own_call.Cycle arguments sets = told_stays (λ n. value.Int (pos n)) (done_stays b act.Now tt) (λ n _. tt)
  controller_stays own_call.Me arguments sets = told_stays value.Machine (act_stays b act.Me tt) (λ n here. here)

  machines_stay : (c : MachineCall) (arguments : List Value) → AreWithin b.extent arguments → Calls-stay (on_machines kept c arguments)
  machines_stay machines.Broadcast arguments within =
      told_stays (λ r. value.Dest (with_range (controllers (argument arguments 0)) r)) (range_stays (member (argument arguments 1)))
      (λ r here. range_added (controllers (argument arguments 0)) r (controllers_within (argument arguments 0) (argument_within arguments 0 within)) here)
  machines_stay machines.Home arguments within =
      told_stays (λ r. value.Machine (home_in (line_named (argument arguments 0)) r)) (range_stays (member (argument arguments 1))) (λ r here. home_within (line_named (argument arguments 0)) r here)
  machines_stay machines.Index arguments within = told_stays (λ (p : Placed). value.Int (pos p.index)) (place_stays (controller (argument arguments 0))) (λ p here. tt)
  machines_stay machines.MachineOf arguments within = told_stays (λ (p : Placed). value.Enum 0 p.machine) (place_stays (controller (argument arguments 0))) (λ p here. here)

  values_within : (c : ValueCall) (arguments : List Value) → ValueWithin (of_values c arguments)
  values_within plain.HasLine arguments = tt
  values_within plain.ClearBlock arguments = tt
  values_within plain.Number arguments = tt
  values_within plain.LineAddress arguments = tt
  values_within plain.Nothing arguments = tt

  call_stays : (c : Call) (on : ℕ) (arguments : List Value) → SetsNoState c → AreWithin b.extent arguments → Calls-stay (called kept c on arguments)
  call_stays (call.Message c) on arguments sets within = messages_stay c on arguments
  call_stays (call.Table c) on arguments sets within = table_stays c on arguments
  call_stays (call.Controller c) on arguments sets within = controller_stays c arguments sets
  call_stays (call.Machines c) on arguments sets within = machines_stay c arguments within
  call_stays (call.Set c) on arguments sets within =
      ends_stays b (set_within c (controllers (argument arguments 0)) (argument arguments 1) (controllers_within (argument arguments 0) (argument_within arguments 0 within)) (argument_within arguments 1 within))
  call_stays (call.Value c) on arguments sets within = ends_stays b (values_within c arguments)
  call_stays call.NotServed on arguments sets within = stops_stays b

  pub built_in_stays : (n on : ℕ) (arguments : List Value) → n < 60 → AreWithin b.extent arguments → Stay b ValueWithin (built_in kept n on arguments)
  unfolding built_in
  built_in_stays n on arguments below within = call_stays (call_at n) on arguments (call_sets_none n below) within
