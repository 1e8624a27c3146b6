-- What an act does to a local, and what it answers: by the definition of its name where the machine serves it, and else the fault
-- `reference`. No accepted protocol asks for an act that isn't served; that this is that fault is this project's own rule.
use Rattle.std.specs.Prelude.{Result, Ok, Err, if◌then◌else◌}
use Rattle.ruby_value.specs.declared.fault.Fault.{Fault}
use Rattle.ruby_value.specs.declared.fault.Fault.TheVariants.{Reference}
use Rattle.ctl_face.specs.Prelude.{again, allocate, avail, probe, block_after_write, read_back, write_back, deallocate, enqueue, free, get, LocalView, lookup, reference_to, pop, ready, required_front, recycle, set, slots, stall, set_state, state, touch, wake, wake_all}
use Rattle.acts.specs.Act.{Act, Now, Me, Get, Set, Lookup, Avail, Probe, Allocate, Deallocate, Touch, Free, Ready, Front, Pop, Stall, Wake, WakeAll, Recycle, Send, Slots, ReadBack, WriteBack, State, SetState, Again, answer}
use Rattle.acts.specs.Serves.{serves}

-- an answer, and the local after it
pub record Done (A : Type 0) : Type 0 where
  pub value : A
  pub view : LocalView

-- an act that only reads: the answer, or the fault
abbrev pub reads : {A : Type 0} → LocalView → Result A Fault → Result (Done A) Fault
reads v (Ok x) = Ok (record { value = x; view = v })
reads v (Err fault) = Err fault

-- an act that changes the local and answers this, or the fault
abbrev pub changes : {A : Type 0} → A → Result LocalView Fault → Result (Done A) Fault
changes x (Ok w) = Ok (record { value = x; view = w })
changes x (Err fault) = Err fault

abbrev pub does_served : (a : Act) → LocalView → Result (Done (answer a)) Fault
does_served Now v = reads v (Ok v.now)
does_served Me v = reads v (Ok v.actor.me)
does_served (Get r field) v = reads v (get v r field)
does_served (Set r field value) v = changes tt (set v r field value)
does_served (Lookup table line) v = reads v (Ok (lookup v table line))
does_served (Avail table line) v = reads v (Ok (avail v table line))
does_served (Probe table line) v = reads v (probe v table line)
does_served (Allocate table line) v = changes (reference_to table line) (allocate v table line)
does_served (Deallocate table line) v = changes tt (deallocate v table line)
does_served (Touch table line) v = changes tt (touch v table line)
does_served (Free table) v = reads v (Ok (free v table))
does_served (Ready buffer) v = reads v (Ok (ready v buffer))
does_served (Front buffer) v = reads v (required_front v buffer)
does_served (Pop buffer) v = changes tt (pop v buffer)
does_served (Stall buffer line) v = changes tt (stall v buffer line)
does_served (Wake line) v = changes tt (Ok (wake v line))
does_served WakeAll v = changes tt (Ok (wake_all v))
does_served (Recycle buffer latency) v = changes tt (recycle v buffer latency)
does_served (Send buffer latency fields) v = changes tt (enqueue v buffer latency fields)
does_served (Slots buffer) v = reads v (Ok (slots v buffer))
does_served (ReadBack line block) v = changes tt (read_back v line block)
does_served (WriteBack line block) v = changes (block_after_write v line block) (write_back v line block)
does_served (State line) v = reads v (Ok (state v line))
does_served (SetState line new) v = changes tt (Ok (set_state v line new))
does_served Again v = changes tt (Ok (again v))

unfoldable pub does : (a : Act) → LocalView → Result (Done (answer a)) Fault
does a v = if serves v.machine a then does_served a v else Err Reference
