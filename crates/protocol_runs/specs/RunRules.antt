-- What a run knows of its controllers, of what goes between them, and of its driver. A world touches a controller only
-- through a scan and through a few changes, and reads only a few things off it; so worlds, steps and runs are defined over
-- any type C of controllers, M of what goes between them and D of a driver's states. These are called messages here, whatever else
-- may be among them. What a scan and a driver's turn do is no part of
-- this: the rules of a run say it. That a run is made of such scans is this project's own.
use Rattle.std.specs.Prelude.{ℕ, Bool, Option, List}
use Rattle.ruby_value.specs.declared.fault.Finding.{Finding}
use Rattle.ruby_value.specs.declared.message.Delivery.{Delivery}
use Rattle.ruby_value.specs.declared.message.MsgNo.{MsgNo}
use Rattle.run_journal.specs.declared.entry.FireNote.{FireNote}
use Rattle.ruby_value.specs.declared.message.Sent.{Sent}
use Rattle.run_journal.specs.declared.entry.StopAt.{StopAt}

-- what the actions of a transition did with messages, in the order of the acts: the five lists of a journal's entry
pub record Acts : Type 0 where
  pub consumed : List MsgNo
  pub sent : List Sent
  pub stalled : List MsgNo
  pub woken : List MsgNo
  pub recycled : List MsgNo

-- What one scan of a controller answers. `Full`: it has fired as many transitions in this cycle as it may. `Fired`: a port
-- fired a transition; with the copies that it sent to other controllers, in the order in which they were sent, and the
-- controller after it. `Stop`: a port met a fault, and what the scan did is dropped. `Idle`: no port fired, and this is the
-- controller as the ports have left it.
pub data Outcome (C M : Type 0) : Type 0 where
  Full : Outcome C M
  Fired : FireNote → Acts → List (Delivery M) → C → Outcome C M
  Stop : StopAt → Outcome C M
  Idle : C → Outcome C M

-- a pair of state and event that a port triggered, and the byte address for which
pub record Tried : Type 0 where
  pub address : ℕ
  pub state : ℕ
  pub event : ℕ

-- one scan: what it answers, and which pairs its ports have triggered, in their order
pub record Scan (C M : Type 0) : Type 0 where
  pub outcome : Outcome C M
  pub tried : List Tried

-- A driver's turn: the driver after it; what each controller is after the driver took its finished answers and put down its
-- requests, by the controller's number; the messages of its requests, in the order in which they are issued; what it
-- found, if anything; and the next cycle at which it must act, if any.
pub record DriverTurn (C M D : Type 0) : Type 0 where
  pub driver : D
  pub controller_after : ℕ → C → C
  pub requests : List (Delivery M)
  pub finding : Option Finding
  pub next : Option ℕ

-- a message of a controller's inbox: its number, whether it waits under a line, and whether it was recycled
pub record Mailed : Type 0 where
  pub number : MsgNo
  pub waits : Bool
  pub recycled : Bool

pub record Rules (C M D : Type 0) : Type 0 where
  -- what a run begins with, and the last cycle that it may reach
  pub controllers : List C
  pub driver : D
  pub cycles : ℕ
  -- one scan of the controller with a number at a cycle
  pub scan : ℕ → C → ℕ → Scan C M
  -- whether a transition is written for a state and an event of the controller with a number
  pub has_row : ℕ → ℕ → ℕ → Bool
  -- the driver's turn among these controllers at a cycle, where it has issued n requests before
  pub driver_turn : D → List C → ℕ → ℕ → DriverTurn C M D
  -- to which one more message has come
  pub with_message : C → M → C
  -- with one more cycle at which it must wake
  pub with_mark : C → ℕ → C
  -- with one more transition fired in this cycle
  pub with_one_fired : C → C
  -- after a scan that met a fault
  pub with_stop : C → StopAt → C
  -- as a cycle begins: without older marks, and with the counts of a cycle at 0
  pub at_cycle : C → ℕ → C
  -- the cycles at which it must wake
  pub marks : C → List ℕ
  -- whether a scan of it has met a fault
  pub stopped : C → Bool
  pub mail : C → List Mailed
  -- how many messages it has sent
  pub sent : C → ℕ
  -- the numbers that it brings to an inbox: a message brings its own, and what is no message brings none
  pub numbers : M → List MsgNo
  -- the cycle from which on what comes counts: a message can be seen from then on
  pub arrival : M → ℕ
