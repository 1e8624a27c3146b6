-- What always holds in a run of a protocol. Of a controller: its machine is known, the controller fits it and is to wake at the
-- arrival of each of its messages and credits that is still to come, it has fired no more transitions in this cycle than it may,
-- and the cycle is one of the run's. Of a message that comes to a controller: another actor sent it, it is in a buffer of the receiver's
-- machine whose messages have fields like its own, it can be seen in a later cycle alone, and nobody has put it off yet. Of a
-- credit that comes to one: it is for a buffer of another controller, and counts in a later cycle alone. Of the driver: there are
-- the seats that it needs.
use Rattle.std.specs.Prelude.{◌≡◌, ◌<◌, ◌≤◌, ℕ, false, IsSomeAnd, length}
use Rattle.ruby_value.specs.declared.message.Message.{Message}
use Rattle.ruby_value.specs.declared.setup.MachineSetup.{MachineSetup}
use Rattle.ctl_face.specs.declared.parcel.Credit.{Credit}
use Rattle.ctl_face.specs.declared.parcel.Parcel.{Parcel}
use Rattle.ctl_face.specs.declared.parcel.Parcel.TheVariants as parcel
use Rattle.ctl_face.specs.Prelude.{Ctl, Fits, TakesFields}
use Rattle.acts.specs.Prelude.{AreCreditsMarked, AreMarked}
use Rattle.protocol_runs.specs.Machines.{setup_of}
use Rattle.protocol_runs.specs.Setting.{Setting}

module _ {D : Type 0} (s : Setting D) where
  pub record FitsRun (c : ℕ) (x : Ctl) (now : ℕ) : Type 0 where
    pub fits : IsSomeAnd (setup_of s c) (λ (m : MachineSetup). Fits m c x now)
    pub marked : AreMarked now x.mail.marks x.mail.inbox
    pub credits_marked : AreCreditsMarked now x.mail.marks x.mail.credits
    pub few : x.fired ≤ s.limit
    pub bound : now ≤ s.cycles

  pub record MessageSuits (c : ℕ) (m : Message) (now : ℕ) : Type 0 where
    pub other : ¬ (m.number.sender ≡ c)
    pub takes : IsSomeAnd (setup_of s c) (λ (setup : MachineSetup). TakesFields setup.buffers m.buffer m.fields)
    pub later : now < m.arrival
    pub not_recycled : m.recycled ≡ false

  pub record CreditSuits (c : ℕ) (credit : Credit) (now : ℕ) : Type 0 where
    pub other : ¬ (credit.receiver ≡ c)
    pub later : now < credit.arrival

  abbrev pub SuitsReceiver : ℕ → Parcel → ℕ → Type 0
  SuitsReceiver c (parcel.Message m) now = MessageSuits c m now
  SuitsReceiver c (parcel.Credit credit) now = CreditSuits c credit now

  pub record HasSeats (least : D → ℕ) (d : D) (issued now : ℕ) : Type 0 where
    pub enough : least d ≤ length s.seats
    pub bound : now ≤ s.cycles
