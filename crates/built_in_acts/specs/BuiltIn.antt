-- What each built-in call does and answers, as acts, by its number, the table or buffer that it is called on, and its arguments; a
-- receiver that is a value is the first of these. A call that changes a set of controllers or a block answers the changed one. The
-- calls are gem5's SLICC's; `recycle` without a latency has 10, which is this project's own. Of the machine they need to know where
-- its controllers keep the machines' numbers. A reference to a line is of one sort as a value, whatever its table.
use Rattle.std.specs.Prelude.{ℕ, pos, ◌==◌, true, List, [], Option, None, Some, is_some, length}
use Rattle.std.specs.List.{fold, list_any}
use Rattle.std.specs.Option.{option_map}
use Rattle.ruby_value.specs.declared.value.Ref.{Ref}
use Rattle.ruby_value.specs.declared.value.Value.{Value}
use Rattle.ruby_value.specs.declared.value.Value.TheVariants as value
use Rattle.ruby_value.specs.Prelude.{line_of, with_member, without_member}
use Rattle.acts.specs.declared.body_fault.BodyFault.TheVariants as own
use Rattle.acts.specs.Act as act
use Rattle.acts.specs.Prelude.{Acting, ends, stops, ◌>>=◌, act as done, found}
use Rattle.built_in_acts.specs.declared.call.Call.{Call}
use Rattle.built_in_acts.specs.declared.call.Call.TheVariants as call
use Rattle.built_in_acts.specs.declared.call.ControllerCall.{ControllerCall}
use Rattle.built_in_acts.specs.declared.call.ControllerCall.TheVariants as own_call
use Rattle.built_in_acts.specs.declared.call.MachineCall.{MachineCall}
use Rattle.built_in_acts.specs.declared.call.MachineCall.TheVariants as machines
use Rattle.built_in_acts.specs.declared.call.MessageCall.{MessageCall}
use Rattle.built_in_acts.specs.declared.call.MessageCall.TheVariants as message
use Rattle.built_in_acts.specs.declared.call.SetCall.{SetCall}
use Rattle.built_in_acts.specs.declared.call.SetCall.TheVariants as set
use Rattle.built_in_acts.specs.declared.call.TableCall.{TableCall}
use Rattle.built_in_acts.specs.declared.call.TableCall.TheVariants as table
use Rattle.built_in_acts.specs.declared.call.ValueCall.{ValueCall}
use Rattle.built_in_acts.specs.declared.call.ValueCall.TheVariants as plain
use Rattle.built_in_acts.specs.declared.machines.KeptMachines.{KeptMachines}
use Rattle.built_in_acts.specs.declared.machines.Placed.{Placed}
use Rattle.built_in_acts.specs.Calls.{call_at}
use Rattle.built_in_acts.specs.Machines.{home_in, place_of, range_at, with_range}
use Rattle.built_in_acts.specs.Values.{address_of_line, argument, block, controller, controllers, line_named, member, number, reference, zeros}

-- it answers nothing, or the value that is made of what it answers
unfoldable pub silent : {A : Type 0} → Acting A → Acting (Option Value)
silent p = p >>= (λ _. ends None)

unfoldable pub told : {A : Type 0} → (A → Value) → Acting A → Acting (Option Value)
told made p = p >>= (λ x. ends (Some (made x)))

-- the line that an address or a reference names; a reference to nothing names none
abbrev pub line_used : Value → Option ℕ
line_used (value.Addr a) = Some (line_of a)
line_used v = option_map (λ (r : Ref). r.line) (reference v)

unfoldable pub used : ℕ → Value → Acting (Unit {0})
used on v = found own.Reference (line_used v) >>= (λ line. done (act.Touch on line))

-- of a set of controllers, with another value
abbrev pub of_set : SetCall → List ℕ → Value → Value
of_set set.Add members v = value.Dest (with_member members (controller v))
of_set set.Remove members v = value.Dest (without_member members (controller v))
of_set set.ClearSet members v = value.Dest []
of_set set.Count members v = value.Int (pos (length members))
of_set set.Contains members v = value.Bool (list_any (λ m. controller v == m) members)
of_set set.IsEmpty members v = value.Bool (length members == 0)
of_set set.AddAll members v = value.Dest (fold with_member members (controllers v))
of_set set.RemoveAll members v = value.Dest (fold without_member members (controllers v))

-- of the arguments alone
abbrev pub of_values : ValueCall → List Value → Option Value
of_values plain.HasLine arguments = Some (value.Bool true)
of_values plain.ClearBlock arguments = Some (value.Block zeros)
of_values plain.Number arguments = Some (value.Int (number (argument arguments 0)))
of_values plain.LineAddress arguments = Some (value.Addr (address_of_line (line_named (argument arguments 0))))
of_values plain.Nothing arguments = None

abbrev pub on_messages : MessageCall → ℕ → List Value → Acting (Option Value)
on_messages message.IsReady on arguments = told value.Bool (done (act.Ready on))
on_messages message.Dequeue on arguments = silent (done (act.Pop on))
on_messages message.Recycle on arguments = silent (done (act.Recycle on (pos 10)))
on_messages message.RecycleFor on arguments = silent (done (act.Recycle on (number (argument arguments 1))))
on_messages message.Stall on arguments = silent (done (act.Stall on (line_named (argument arguments 0))))
on_messages message.Wake on arguments = silent (done (act.Wake (line_named (argument arguments 0))))
on_messages message.WakeAll on arguments = silent (done act.WakeAll)

abbrev pub on_table : TableCall → ℕ → List Value → Acting (Option Value)
on_table table.Lookup on arguments = told value.Entry (done (act.Lookup on (line_named (argument arguments 0))))
on_table table.IsPresent on arguments = told (λ r. value.Bool (is_some r)) (done (act.Lookup on (line_named (argument arguments 0))))
on_table table.HasPlace on arguments = told value.Bool (done (act.Avail on (line_named (argument arguments 0))))
on_table table.Replaced on arguments = told (λ line. value.Addr (address_of_line line)) (done (act.Probe on (line_named (argument arguments 0))))
on_table table.Allocate on arguments = told (λ r. value.Entry (Some r)) (done (act.Allocate on (line_named (argument arguments 0))))
on_table table.AllocateTbe on arguments = silent (done (act.Allocate on (line_named (argument arguments 0))))
on_table table.Deallocate on arguments = silent (done (act.Deallocate on (line_named (argument arguments 0))))
on_table table.Use on arguments = silent (used on (argument arguments 0))

abbrev pub on_controller : ControllerCall → List Value → Acting (Option Value)
on_controller own_call.ReadCallback arguments = silent (done (act.ReadBack (line_named (argument arguments 0)) (block (argument arguments 1))))
on_controller own_call.WriteCallback arguments = told value.Block (done (act.WriteBack (line_named (argument arguments 0)) (block (argument arguments 1))))
on_controller own_call.SetState arguments = silent (done (act.SetState (line_named (argument arguments 0)) (member (argument arguments 1))))
on_controller own_call.Cycle arguments = told (λ n. value.Int (pos n)) (done act.Now)
on_controller own_call.Me arguments = told value.Machine (done act.Me)

abbrev pub on_machines : KeptMachines → MachineCall → List Value → Acting (Option Value)
on_machines kept machines.Broadcast arguments = told (λ r. value.Dest (with_range (controllers (argument arguments 0)) r)) (range_at kept (member (argument arguments 1)))
on_machines kept machines.Home arguments = told (λ r. value.Machine (home_in (line_named (argument arguments 0)) r)) (range_at kept (member (argument arguments 1)))
on_machines kept machines.Index arguments = told (λ (p : Placed). value.Int (pos p.index)) (place_of kept (controller (argument arguments 0)))
on_machines kept machines.MachineOf arguments = told (λ (p : Placed). value.Enum 0 p.machine) (place_of kept (controller (argument arguments 0)))

abbrev pub called : KeptMachines → Call → ℕ → List Value → Acting (Option Value)
called kept (call.Message c) on arguments = on_messages c on arguments
called kept (call.Table c) on arguments = on_table c on arguments
called kept (call.Controller c) on arguments = on_controller c arguments
called kept (call.Machines c) on arguments = on_machines kept c arguments
called kept (call.Set c) on arguments = ends (Some (of_set c (controllers (argument arguments 0)) (argument arguments 1)))
called kept (call.Value c) on arguments = ends (of_values c arguments)
called kept call.NotServed on arguments = stops own.Reference

-- by the number of the call
unfoldable pub built_in : KeptMachines → ℕ → ℕ → List Value → Acting (Option Value)
built_in kept n on arguments = called kept (call_at n) on arguments
