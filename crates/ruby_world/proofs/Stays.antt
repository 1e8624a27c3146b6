-- What stays of a world and of what is held.
use Rattle.std.proofs.Common.{◌≡◌, ◌≤◌, ℕ, List, Option, Some, length, refl, sym, ◌∙◌, ap, subst}
use Rattle.std.specs.declared.alloc.Global.{Global}
use Rattle.std.specs.declared.vec.Vec.{Vec}
use Rattle.run_journal.specs.declared.entry.Entry.{Entry}
use Rattle.run_journal.specs.declared.event.Event.{Event}
use Rattle.slicc_ast.specs.declared.tree.item.Tree.{Tree}
use Rattle.ctl_face.specs.declared.parcel.Parcel.{Parcel}
use Rattle.ctl_face.specs.declared.routes.Routes.{Routes}
use Rattle.ctl_face.specs.Prelude.{Ctl}
use Rattle.ctl_store.specs.declared.parts.Parts.{Parts}
use Rattle.ctl_store.specs.Prelude.{HasRoomForMark, IsSameStore, me_of, machine_of as store_machine}
use Rattle.ruby_value.specs.declared.setup.MachineSetup.{MachineSetup}
use Rattle.protocol_runs.specs.Prelude.{FitsRun, IsHeldBy, Meaning, Setting, SuitsReceiver, World, machine_of, messages_since_take}
use Rattle.ruby_topology.specs.declared.topology.Topology.{Topology}
use Rattle.protocol_meaning.specs.Prelude.{ranges_of, meaning_of, setting_of}
use Rattle.sequencer.specs.Prelude.{Drive, Seat}
use Rattle.world_state.specs.Prelude.{IsMadeFor, Made, Writes, made_for}
use Rattle.world_state.specs.declared.seat.SeatAt.{SeatAt}
use Rattle.world_state.specs.declared.state.State.{State}
use Rattle.ruby_world.specs.declared.world.Held.{Held}
use Rattle.ruby_world.specs.declared.world.RunLimits.{RunLimits}
use Rattle.ruby_world.specs.Data.{IsData, IsKept, view_of}
use Rattle.ruby_world.specs.Held.{Holds, IsHolding, IsSameHeld, ctl_in, kept_in}
use Rattle.ruby_world.specs.Worlds.{HasAdded, IsWorldOf, WorldView, rules_in, setting_in}
use Rattle.ruby_world.proofs.ReadOff.{in-world}

module _ {D : Type 0} (least : D → ℕ) (drive : D → List Seat → ℕ → Drive D) (opening : D → D) (trees : List Tree) (t : Topology) (limits : RunLimits) (seats : List SeatAt) where
  abbrev pub V : State D → WorldView D
  V st = view_of opening trees t limits st

  abbrev pub S : D → Setting D
  S d = setting_of trees t limits.seed limits.cycles limits.limit d

  abbrev pub M : Meaning
  M = meaning_of trees

  abbrev pub AreData : List (Vec Parcel Global) → State D → Type 0
  AreData lists st = IsData least drive (V st) seats lists st

  -- after an event, where the driver began as it did before
  module _ (lists rest : List (Vec Parcel Global)) (old new : State D) (facts : AreData lists old) (same : opening new.driver ≡ opening old.driver) where
    pub next-data : (w : World Ctl D) → IsKept M drive (S (opening old.driver)) w rest new → AreData rest new
    next-data w kept = record {
      fits = facts.fits;
      cycles = facts.cycles;
      enough = subst (λ (d : D). least d ≤ length t.seats) (sym same) facts.enough;
      seats_are = facts.seats_are;
      world = w;
      kept = subst (λ (d : D). IsKept M drive (S d) w rest new) (sym same) kept;
    }

    pub next-added : (e : Event) (entry : Option Entry) → Writes old new e entry → HasAdded (V old) e (V new)
    next-added e entry writes = record { trees = refl; topology = refl; limits = refl; opening = same; history = writes.history }

  -- where nothing has happened
  pub same-view : (old new : State D) → new.driver ≡ old.driver → new.book.history ≡ old.book.history → new.book.journal ≡ old.book.journal → V new ≡ V old
  same-view old new driver history journal =
      let W : D → List Event → List Entry → WorldView D =
      λ d h j. record { trees = trees; topology = t; limits = limits; opening = d; history = h; journal = j } in
      ap (λ (d : D). W (opening d) new.book.history new.book.journal) driver
      ∙ ap (λ (h : List Event). W (opening old.driver) h new.book.journal) history
      ∙ ap (λ (j : List Entry). W (opening old.driver) old.book.history j) journal

  -- what a worker holds, by the world
  pub holds-by : (st : State D) (w : World Ctl D) → IsWorldOf drive (V st) w → (worker : ℕ) (h : Held)
      → IsHeldBy (rules_in drive (V st)) (FitsRun (setting_in (V st))) (SuitsReceiver (setting_in (V st))) worker h.controller (ctl_in h)
      (messages_since_take (rules_in drive (V st)) h.controller st.book.history) w
      → h.cycle ≡ w.now → IsMadeFor (S (opening st.driver)) h.controller (made_for (kept_in h)) → machine_of (ranges_of t) h.controller ≡ Some h.machine
      → h.seed ≡ limits.seed → h.limit ≡ limits.limit → h.fired ≡ (ctl_in h).fired → HasRoomForMark h.store → Holds drive (V st) worker h
  holds-by st w run worker h held cycle made machine seed limit fired mark = record {
    holding = in-world drive (V st) w run (IsHolding drive (V st) worker h) (record { held = held; cycle = cycle });
    made = made;
    machine = machine;
    seed = seed;
    limit = limit;
    fired = fired;
    mark = mark;
  }

-- what a store was made for stays, where it is as it was but for its controller
pub made-stays : (routes : Routes) (old new : Parts) → IsSameStore old new
    → made_for (record { store = new; routes = routes }) ≡ made_for (record { store = old; routes = routes })
made-stays routes old new same =
    let made : MachineSetup → ℕ → Made = λ m n. record { machine = m; me = n; routes = routes } in
    ap (λ (m : MachineSetup). made m (me_of new)) same.machine ∙ ap (λ (n : ℕ). made (store_machine old) n) same.me

-- what is held, but for room
same-made : (h g : Held) → IsSameHeld h g → made_for (kept_in g) ≡ made_for (kept_in h)
same-made h g same =
    made-stays g.routes h.store g.store same.store
    ∙ ap (λ (r : Routes). let made : Made = record { machine = store_machine h.store; me = me_of h.store; routes = r } in made) same.routes

pub holds-same : {D : Type 0} (drive : D → List Seat → ℕ → Drive D) (v : WorldView D) (worker : ℕ) (h g : Held) → IsSameHeld h g → Holds drive v worker h → Holds drive v worker g
holds-same drive v worker h g same holds = record {
  holding = λ w is.
      let at = holds.holding w is in
      record {
        held =
            subst (λ (x : Ctl). IsHeldBy (rules_in drive v) (FitsRun (setting_in v)) (SuitsReceiver (setting_in v)) worker g.controller x (messages_since_take (rules_in drive v) g.controller v.history) w)
            (sym same.ctl)
            (subst (λ (n : ℕ). IsHeldBy (rules_in drive v) (FitsRun (setting_in v)) (SuitsReceiver (setting_in v)) worker n (ctl_in h) (messages_since_take (rules_in drive v) n v.history) w)
            (sym same.controller) at.held);
        cycle = same.cycle ∙ at.cycle;
      };
  made =
      subst (λ (n : ℕ). IsMadeFor (setting_in v) n (made_for (kept_in g))) (sym same.controller)
      (subst (λ (m : Made). IsMadeFor (setting_in v) h.controller m) (sym (same-made h g same)) holds.made);
  machine = ap (λ (n : ℕ). machine_of (ranges_of v.topology) n) same.controller ∙ holds.machine ∙ ap (λ (m : ℕ). Some m) (sym same.machine);
  seed = same.seed ∙ holds.seed;
  limit = same.limit ∙ holds.limit;
  fired = same.fired ∙ holds.fired ∙ ap (λ (x : Ctl). x.fired) (sym same.ctl);
  mark = same.mark holds.mark;
}
