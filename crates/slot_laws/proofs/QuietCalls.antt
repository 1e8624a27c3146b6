-- Built-in calls send nothing.
use Rattle.std.proofs.Common.{◌+◌, ℕ, zero, suc, pos, List, nat_lt, refl}
use Rattle.ruby_value.specs.declared.value.Value.{Value}
use Rattle.ruby_value.specs.declared.value.Value.TheVariants as value
use Rattle.ruby_symbols.specs.declared.machine.MachineSymbols.{MachineSymbols}
use Rattle.acts.specs.Act as act
use Rattle.acts.specs.Prelude.{Act, Acting}
use Rattle.built_in_acts.specs.declared.call.Call.{Call}
use Rattle.built_in_acts.specs.declared.call.Call.TheVariants as call
use Rattle.built_in_acts.specs.declared.call.ControllerCall.{ControllerCall}
use Rattle.built_in_acts.specs.declared.call.ControllerCall.TheVariants as own_call
use Rattle.built_in_acts.specs.declared.call.MachineCall.{MachineCall}
use Rattle.built_in_acts.specs.declared.call.MachineCall.TheVariants as machines
use Rattle.built_in_acts.specs.declared.call.MessageCall.{MessageCall}
use Rattle.built_in_acts.specs.declared.call.MessageCall.TheVariants as message
use Rattle.built_in_acts.specs.declared.call.TableCall.{TableCall}
use Rattle.built_in_acts.specs.declared.call.TableCall.TheVariants as table
use Rattle.built_in_acts.specs.declared.machines.KeptMachines.{KeptMachines}
use Rattle.built_in_acts.specs.Prelude.{built_in, called, line_used, on_controller, on_machines, on_messages, on_table, silent, told, used, call_at, is_in, kept_number, place_of, placed_from, range_at, argument, block, controller, line_named, member, number}
use Rattle.slot_laws.specs.Sends.{sent_by}
use Rattle.slot_laws.proofs.Counting.{Quiet, act_quiet, either_quiet, ends_quiet, found_quiet, stops_quiet, then_quiet}

module _ (m : MachineSymbols) (buffer : ℕ) where
  abbrev C : Act → ℕ
  C = sent_by m buffer

  silent_quiet : {A : Type 0} {p : Acting A} → Quiet C p → Quiet C (silent p)
  unfolding silent
  silent_quiet first = then_quiet C first (λ x. ends_quiet C)

  told_quiet : {A : Type 0} {p : Acting A} (made : A → Value) → Quiet C p → Quiet C (told made p)
  unfolding told
  told_quiet made first = then_quiet C first (λ x. ends_quiet C)

  used_quiet : (on : ℕ) (v : Value) → Quiet C (used on v)
  unfolding used
  used_quiet on v = then_quiet C (found_quiet C _ (line_used v)) (λ line. act_quiet C (act.Touch on line) refl)

  messages_quiet : (c : MessageCall) (on : ℕ) (arguments : List Value) → Quiet C (on_messages c on arguments)
  messages_quiet message.IsReady on arguments = told_quiet value.Bool (act_quiet C (act.Ready on) refl)
  messages_quiet message.Dequeue on arguments = silent_quiet (act_quiet C (act.Pop on) refl)
  messages_quiet message.Recycle on arguments = silent_quiet (act_quiet C (act.Recycle on (pos 10)) refl)
  messages_quiet message.RecycleFor on arguments = silent_quiet (act_quiet C (act.Recycle on (number (argument arguments 1))) refl)
  messages_quiet message.Stall on arguments = silent_quiet (act_quiet C (act.Stall on (line_named (argument arguments 0))) refl)
  messages_quiet message.Wake on arguments = silent_quiet (act_quiet C (act.Wake (line_named (argument arguments 0))) refl)
  messages_quiet message.WakeAll on arguments = silent_quiet (act_quiet C act.WakeAll refl)

  table_quiet : (c : TableCall) (on : ℕ) (arguments : List Value) → Quiet C (on_table c on arguments)
  table_quiet table.Lookup on arguments = told_quiet _ (act_quiet C (act.Lookup on (line_named (argument arguments 0))) refl)
  table_quiet table.IsPresent on arguments = told_quiet _ (act_quiet C (act.Lookup on (line_named (argument arguments 0))) refl)
  table_quiet table.HasPlace on arguments = told_quiet _ (act_quiet C (act.Avail on (line_named (argument arguments 0))) refl)
  table_quiet table.Replaced on arguments = told_quiet _ (act_quiet C (act.Probe on (line_named (argument arguments 0))) refl)
  table_quiet table.Allocate on arguments = told_quiet _ (act_quiet C (act.Allocate on (line_named (argument arguments 0))) refl)
  table_quiet table.AllocateTbe on arguments = silent_quiet (act_quiet C (act.Allocate on (line_named (argument arguments 0))) refl)
  table_quiet table.Deallocate on arguments = silent_quiet (act_quiet C (act.Deallocate on (line_named (argument arguments 0))) refl)
  table_quiet table.Use on arguments = silent_quiet (used_quiet on (argument arguments 0))

  controller_quiet : (c : ControllerCall) (arguments : List Value) → Quiet C (on_controller c arguments)
  controller_quiet own_call.ReadCallback arguments = silent_quiet (act_quiet C (act.ReadBack (line_named (argument arguments 0)) (block (argument arguments 1))) refl)
  controller_quiet own_call.WriteCallback arguments = told_quiet _ (act_quiet C (act.WriteBack (line_named (argument arguments 0)) (block (argument arguments 1))) refl)
  controller_quiet own_call.SetState arguments = silent_quiet (act_quiet C (act.SetState (line_named (argument arguments 0)) (member (argument arguments 1))) refl)
  controller_quiet own_call.Cycle arguments = told_quiet _ (act_quiet C act.Now refl)
  controller_quiet own_call.Me arguments = told_quiet _ (act_quiet C act.Me refl)

  module _ (kept : KeptMachines) where
    kept_quiet : (place : ℕ) → Quiet C (kept_number kept place)
    unfolding kept_number
    kept_quiet place = then_quiet C (act_quiet C (act.Get (record { table = kept.table; line = 0 }) (kept.first + place)) refl) (λ v. ends_quiet C)

    range_quiet : (machine : ℕ) → Quiet C (range_at kept machine)
    unfolding range_at
    range_quiet machine =
        either_quiet C (nat_lt machine kept.count)
        (then_quiet C (kept_quiet _) (λ first. then_quiet C (kept_quiet _) (λ count. ends_quiet C)))
        (ends_quiet C)

    placed_quiet : (k n machine : ℕ) → Quiet C (placed_from kept k n machine)
    unfolding placed_from
    placed_quiet k zero machine = ends_quiet C
    placed_quiet k (suc n) machine =
        then_quiet C (range_quiet machine) (λ r. either_quiet C (is_in r k) (ends_quiet C) (placed_quiet k n (machine + 1)))

    place_quiet : (k : ℕ) → Quiet C (place_of kept k)
    unfolding place_of
    place_quiet k = placed_quiet k kept.count 0

    machines_quiet : (c : MachineCall) (arguments : List Value) → Quiet C (on_machines kept c arguments)
    machines_quiet machines.Broadcast arguments = told_quiet _ (range_quiet (member (argument arguments 1)))
    machines_quiet machines.Home arguments = told_quiet _ (range_quiet (member (argument arguments 1)))
    machines_quiet machines.Index arguments = told_quiet _ (place_quiet (controller (argument arguments 0)))
    machines_quiet machines.MachineOf arguments = told_quiet _ (place_quiet (controller (argument arguments 0)))

    called_quiet : (c : Call) (on : ℕ) (arguments : List Value) → Quiet C (called kept c on arguments)
    called_quiet (call.Message c) on arguments = messages_quiet c on arguments
    called_quiet (call.Table c) on arguments = table_quiet c on arguments
    called_quiet (call.Controller c) on arguments = controller_quiet c arguments
    called_quiet (call.Machines c) on arguments = machines_quiet c arguments
    called_quiet (call.Set c) on arguments = ends_quiet C
    called_quiet (call.Value c) on arguments = ends_quiet C
    called_quiet call.NotServed on arguments = stops_quiet C

    pub built_in_quiet : (n on : ℕ) (arguments : List Value) → Quiet C (built_in kept n on arguments)
    unfolding built_in
    built_in_quiet n on arguments = called_quiet (call_at n) on arguments
