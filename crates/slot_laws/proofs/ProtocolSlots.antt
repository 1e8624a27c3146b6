-- Each scan of a protocol that fires takes free slots alone, in a run over a topology that fits the protocol.
use Rattle.std.proofs.Common.{◌≡◌, ◌<◌, ◌≤◌, ◌+◌, ◌==◌, ◌⊎◌, ◌∙◌, ℕ, zero, suc, Bool, true, false, cond, List, [], ◌∷◌, IfSome, Option, None, Some, Result, Ok, Err, inl, inr, ⊎_elim, eqb-true, eq-eqb, get_or, length, nat_le, refl, sym, ap, subst, arith, slice_get}
use Rattle.std.specs.Option.{option_and_then, option_map}
use Rattle.std.proofs.lemmas.Bool.{and_parts, cases_lt}
use Rattle.std.proofs.lemmas.Option.{slice_get_past}
use Rattle.ruby_value.specs.declared.message.Delivery.{Delivery}
use Rattle.ruby_value.specs.declared.setup.BufferPlace.{BufferPlace}
use Rattle.ruby_value.specs.declared.setup.BufferPlace.TheVariants as place
use Rattle.ruby_value.specs.declared.setup.BufferSetup.{BufferSetup}
use Rattle.ruby_value.specs.declared.setup.MachineSetup.{MachineSetup}
use Rattle.ruby_symbols.specs.declared.machine.BufferSymbol.{BufferSymbol}
use Rattle.ruby_symbols.specs.declared.machine.MachineSymbols.{MachineSymbols}
use Rattle.run_journal.specs.declared.entry.FireNote.{FireNote}
use Rattle.run_journal.specs.declared.entry.StopAt.{StopAt}
use Rattle.slicc_ast.specs.declared.tree.item.Tree.{Tree}
use Rattle.slicc_ast.specs.declared.tree.machine.Machine.{Machine}
use Rattle.slicc_plan.specs.Prelude.{machine_symbols, machines_of, setup_in, symbols_of}
use Rattle.slicc_plan.proofs.Machines.{symbols_counted}
use Rattle.ctl_face.specs.declared.parcel.Parcel.{Parcel}
use Rattle.ctl_face.specs.Prelude.{Actor, Ctl, IsFrom, IsLawful, IsSlot, LocalView, ReceivesFrom, buffer_place, free_of, is_buffer, last_cycle, leads_to, receiving_buffer, scan_view, slot_buffer, slot_receiver}
use Rattle.ctl_face.proofs.OwnBuffers.{fit_each}
use Rattle.acts.specs.Prelude.{Acting, ends as ends_body, stops as stops_body, acts as acts_in, Done, HoldsAfter, IsLeft}
use Rattle.body_meaning.specs.declared.frame.Tried.TheVariants.{Fires, Waits}
use Rattle.body_meaning.specs.declared.frame.Tried.{Tried}
use Rattle.body_meaning.specs.declared.frame.RoundEnd.TheVariants as round
use Rattle.body_meaning.specs.Prelude.{Reading, by_outcome, counts_for, goes_along, is_to, place_among, ports_tried, run_scan, scan}
use Rattle.ruby_topology.specs.declared.topology.Topology.{Topology}
use Rattle.sequencer.specs.Prelude.{Drive, Seat}
use Rattle.protocol_runs.specs.Prelude.{Acts, Fired, IsSetting, Rules, Setting, actor_of, acts_told, rules}
use Rattle.protocol_runs.proofs.Controllers.{IsOne, and-some, controller-is}
use Rattle.protocol_runs.proofs.Scans.{fitting, lawful, scan-is}
use Rattle.protocol_meaning.specs.Prelude.{FitsPlan, meaning_of, outcome_of, reading_of, reading_with, scan_by, scan_of, setting_of}
use Rattle.protocol_meaning.proofs.Buffers.{ArePaired, buffers_paired}
use Rattle.protocol_meaning.proofs.ByNumber.{setup_found, symbols_found}
use Rattle.protocol_meaning.proofs.Settings.{is_setting}
use Rattle.protocol_meaning.proofs.Tries.{scan_leaves}
use Rattle.slot_laws.specs.Prelude.{CountsAtMost, TakesFreeSlots, copies_sent, sent_by}
use Rattle.slot_laws.proofs.Scanning.{PartsSend, scan_sends}
use Rattle.slot_laws.proofs.Sending.{sent_here}
use Rattle.slot_laws.proofs.SendingBodies.{Counts, body_few, counts_by_sends}
use Rattle.slot_laws.proofs.SendsOfBodies.{fired_send, next_sends, ports_send, room_sends, states_send}
use Rattle.slot_laws.proofs.Settling.{one_le}
use Rattle.slot_laws.proofs.SlotsHeld.{sizes_found}

-- A scan that has fired, as it is made.

pub record FiredScan (s : Reading) (v : LocalView) (acts : Acts) : Type 0 where
  pub note : FireNote
  pub view : LocalView
  pub ran : run_scan (ports_tried s s.machine.in_ports) v ≡ Ok (record { value = Fires note; view = view })
  pub sent : acts.sent ≡ view.acts.sent

module _ (s : Reading) (v : LocalView) (note : FireNote) (acts : Acts) (copies : List (Delivery Parcel)) (after : Ctl) where
  of_try : (t : Tried) (w : LocalView) → run_scan (ports_tried s s.machine.in_ports) v ≡ Ok (record { value = t; view = w }) → outcome_of (by_outcome v (Ok (record { value = t; view = w }))) ≡ Fired note acts copies after → FiredScan s v acts
  of_try (Fires told) w ran is =
      let same : acts ≡ acts_told w.acts = cc is in
      record { note = told; view = w; ran = ran; sent = ap (λ (a : Acts). a.sent) same }
  of_try Waits w ran is = absurd (cc is)

  of_result : (r : Result (Done Tried) StopAt) → run_scan (ports_tried s s.machine.in_ports) v ≡ r → outcome_of (by_outcome v r) ≡ Fired note acts copies after → FiredScan s v acts
  of_result (Ok d) ran is = of_try d.value d.view ran is
  of_result (Err at) ran is = absurd (cc is)

  pub fired_scan : (limit fired_before : ℕ) → outcome_of (scan s limit fired_before v) ≡ Fired note acts copies after → FiredScan s v acts
  fired_scan limit fired_before is = by (nat_le limit fired_before) is
    where
      by : (k : Bool) → outcome_of (cond k (record { end = round.Full; view = v }) (by_outcome v (run_scan (ports_tried s s.machine.in_ports) v))) ≡ Fired note acts copies after → FiredScan s v acts
      by true same = absurd (cc same)
      by false same = of_result (run_scan (ports_tried s s.machine.in_ports) v) refl same

-- Buffers, as symbols and as setups.

paired_places : (trees : List Tree) (k : ℕ) (ss : List BufferSetup) (bs : List BufferSymbol) → ArePaired trees k ss bs → (i : ℕ)
    → option_map (λ (b : BufferSymbol). b.place) (slice_get bs i) ≡ option_map (λ (b : BufferSetup). b.place) (slice_get ss i)
paired_places trees k [] [] paired i = refl
paired_places trees k [] (b ∷ bs) paired i = absurd paired
paired_places trees k (s ∷ ss) [] paired i = absurd paired
paired_places trees k (s ∷ ss) (b ∷ bs) paired zero = let pair = paired.0 in ap Some pair.same_place
paired_places trees k (s ∷ ss) (b ∷ bs) paired (suc i) = paired_places trees k ss bs paired.1 i

-- Buffers that lead to one buffer of a receiver are on one network, or are that buffer.

is_this_buffer : (b : ℕ) (o : Option ℕ) → is_buffer b o ≡ true → o ≡ Some b
is_this_buffer b None is = absurd (cc is)
is_this_buffer b (Some n) is = ap Some (eqb-true n b is)

module _ (slot : ℕ × ℕ × ℕ) (actor : Actor) (setup : MachineSetup) (own : ReceivesFrom setup actor.me actor.routes)
    (to : MachineSetup) (receives : ReceivesFrom to (slot_receiver slot) actor.routes) where
  abbrev r : ℕ
  r = slot_receiver slot

  abbrev b : ℕ
  b = slot_buffer slot

  from_there : (m : MachineSetup) (network : ℕ) (o : Option ℕ) → IsFrom m network o → o ≡ Some b → buffer_place m b ≡ Some (place.From network)
  from_there m network None is same = absurd (cc same)
  from_there m network (Some n) is same = let one : n ≡ b = cc same in subst (λ (k : ℕ). buffer_place m k ≡ Some (place.From network)) one is

  own_not : (network : ℕ) → r ≡ actor.me → is_buffer b (receiving_buffer actor.routes r network) ≡ true → buffer_place setup b ≡ Some place.Local → ⊥
  own_not network me there is_local =
      let at : receiving_buffer actor.routes actor.me network ≡ Some b = ap (λ (k : ℕ). receiving_buffer actor.routes k network) (sym me) ∙ is_this_buffer b (receiving_buffer actor.routes r network) there in
      let from = from_there setup network (receiving_buffer actor.routes actor.me network) (own network) at in
      cc (sym from ∙ is_local)

  one_network : (first second : ℕ) → is_buffer b (receiving_buffer actor.routes r first) ≡ true → is_buffer b (receiving_buffer actor.routes r second) ≡ true → second ≡ first
  one_network first second one other =
      let here = from_there to first (receiving_buffer actor.routes r first) (receives first) (is_this_buffer b (receiving_buffer actor.routes r first) one) in
      let there = from_there to second (receiving_buffer actor.routes r second) (receives second) (is_this_buffer b (receiving_buffer actor.routes r second) other) in
      cc (sym there ∙ here)

  -- the second of two that lead there goes along with the first
  abbrev Along : ℕ → Option BufferPlace → ℕ → Option BufferPlace → Bool
  Along i (Some place.Local) other o = other == i
  Along i (Some (place.To network destination)) other o = is_to network o
  Along i (Some (place.From network)) other o = false
  Along i None other o = false

  along : (i other : ℕ) (p q : Option BufferPlace) → buffer_place setup i ≡ p → buffer_place setup other ≡ q → leads_to actor i p slot ≡ true → leads_to actor other q slot ≡ true → Along i p other q ≡ true
  along i other (Some place.Local) (Some place.Local) here there first second =
      let one = and_parts (r == actor.me) (b == i) first in
      let two = and_parts (r == actor.me) (b == other) second in
      eq-eqb other i (sym (eqb-true b other two.1) ∙ eqb-true b i one.1)
  along i other (Some place.Local) (Some (place.To network destination)) here there first second =
      let one = and_parts (r == actor.me) (b == i) first in
      absurd (own_not network (eqb-true r actor.me one.0) second (ap (buffer_place setup) (eqb-true b i one.1) ∙ here))
  along i other (Some (place.To network destination)) (Some place.Local) here there first second =
      let two = and_parts (r == actor.me) (b == other) second in
      absurd (own_not network (eqb-true r actor.me two.0) first (ap (buffer_place setup) (eqb-true b other two.1) ∙ there))
  along i other (Some (place.To network destination)) (Some (place.To another names)) here there first second =
      eq-eqb another network (one_network network another first second)
  along i other (Some (place.From network)) q here there first second = absurd (cc first)
  along i other None q here there first second = absurd (cc first)
  along i other (Some place.Local) (Some (place.From network)) here there first second = absurd (cc second)
  along i other (Some place.Local) None here there first second = absurd (cc second)
  along i other (Some (place.To network destination)) (Some (place.From another)) here there first second = absurd (cc second)
  along i other (Some (place.To network destination)) None here there first second = absurd (cc second)

  module _ (m : MachineSymbols) (places : (i : ℕ) → place_among m i ≡ buffer_place setup i) where
    counted_along : (i other : ℕ) (p : Option BufferPlace) → Along i p other (place_among m other) ≡ goes_along m i p other
    counted_along i other (Some place.Local) = refl
    counted_along i other (Some (place.To network destination)) = refl
    counted_along i other (Some (place.From network)) = refl
    counted_along i other None = refl

    counts_too : (i other : ℕ) → leads_to actor i (buffer_place setup i) slot ≡ true → leads_to actor other (buffer_place setup other) slot ≡ true → counts_for m i other ≡ true
    counts_too i other first second =
        sym (counted_along i other (place_among m i))
        ∙ ap (λ (p : Option BufferPlace). Along i p other (place_among m other)) (places i)
        ∙ ap (λ (q : Option BufferPlace). Along i (buffer_place setup i) other q) (places other)
        ∙ along i other (buffer_place setup i) (buffer_place setup other) refl refl first second

none_le : (j : Bool) → j ≡ false → ◌≤◌ (cond j 1 0) 0
none_le true is = absurd (cc is)
none_le false is = omega arith

-- whether some of the first numbers passes
search : (p : ℕ → Bool) (n : ℕ) → ((i : ℕ) × (i < n) × (p i ≡ true)) ⊎ ((i : ℕ) → i < n → p i ≡ false)
search p zero = inr (λ i within. absurd (omega arith))
search p (suc n) = by (p n) refl (search p n)
  where
    by : (k : Bool) → p n ≡ k → ((i : ℕ) × (i < n) × (p i ≡ true)) ⊎ ((i : ℕ) → i < n → p i ≡ false) → ((i : ℕ) × (i < suc n) × (p i ≡ true)) ⊎ ((i : ℕ) → i < suc n → p i ≡ false)
    by true is rest = inl (n, omega arith, is)
    by false is (inl found) = inl (found.0, (let below = found.1 in omega (arith, below)), found.2)
    by false is (inr none) = inr (λ i within. at i within (cases_lt i n))
      where
        at : (i : ℕ) → i < suc n → (i < n) ⊎ (n ≤ i) → p i ≡ false
        at i within (inl below) = none i below
        at i within (inr above) = let same : i ≡ n = omega arith in ap p same ∙ is

none_counted : {A : Type 0} (p : Acting A) → CountsAtMost (λ _. 0) 0 p
none_counted (ends_body x) = tt
none_counted (stops_body f) = tt
none_counted (acts_in a more) = (omega arith, λ x. none_counted (more x))

module _ {D : Type 0} (drive : D → List Seat → ℕ → Drive D) (least : D → ℕ) (trees : List Tree) (t : Topology) (seed cycles limit : ℕ) (first : D)
    (fit : FitsPlan trees t) (few : cycles ≤ last_cycle) (enough : least first ≤ length t.seats) where
  abbrev s : Setting D
  s = setting_of trees t seed cycles limit first

  is : IsSetting least s
  is = is_setting least trees t seed cycles limit first fit few enough

  abbrev R : Rules Ctl Parcel D
  R = rules (meaning_of trees) drive s

  sizes_counted : length t.sizes ≡ length (machines_of trees)
  sizes_counted = let sizes = fit.sizes in sizes.each_machine ∙ symbols_counted trees

  -- the scan of a controller, by what its machine is read by
  scan_told : (c now : ℕ) (x : Ctl) (setup : MachineSetup) (one : IsOne s c setup) (read : Reading) → reading_of trees one.machine ≡ Some read
      → (R.scan c x now).outcome ≡ outcome_of (scan read limit x.fired (scan_view setup (actor_of s c) now x))
  unfolding scan_of
  scan_told c now x setup one read reads =
      ap (λ a. a.outcome) (scan-is (meaning_of trees) drive least s is c x now setup one)
      ∙ ap (λ (o : Option Reading). outcome_of (scan_by o limit x.fired (scan_view setup (actor_of s c) now x))) reads

  parts : (read : Reading) (buffer : ℕ) → PartsSend read buffer
  parts read buffer = record {
    fires = fired_send read buffer;
    ports = ports_send read buffer;
    states = states_send read buffer;
    rooms = room_sends read buffer;
    nexts = next_sends read buffer;
  }

  -- a scan that fires, in a machine with these symbols and this setup
  module _ (c now : ℕ) (x : Ctl) (setup : MachineSetup) (read : Reading) (begins : IsLawful (scan_view setup (actor_of s c) now x)) (acts : Acts) (ran : FiredScan read (scan_view setup (actor_of s c) now x) acts)
      (own : ReceivesFrom setup c t.routes) (places : (i : ℕ) → place_among read.machine i ≡ buffer_place setup i)
      (k : ℕ) (d : ℕ × ℕ × ℕ) (within : k < length t.routes.slots) (to : MachineSetup) (receives : ReceivesFrom to (slot_receiver (get_or t.routes.slots k d)) t.routes) where
    abbrev slot : ℕ × ℕ × ℕ
    slot = get_or t.routes.slots k d

    abbrev V : LocalView
    V = scan_view setup (actor_of s c) now x

    abbrev leads : ℕ → Bool
    leads i = leads_to (actor_of s c) i (buffer_place setup i) slot

    sent_is : copies_sent acts.sent (slot_receiver slot) (slot_buffer slot) ≡ sent_here slot ran.view
    sent_is = ap (λ ns. copies_sent ns (slot_receiver slot) (slot_buffer slot)) ran.sent

    some_leads : (i : ℕ) → i < length read.machine.buffers → leads i ≡ true → copies_sent acts.sent (slot_receiver slot) (slot_buffer slot) ≤ free_of x.mail now slot
    some_leads i inside leads_there =
        let counts : Counts slot (sent_by read.machine i) V =
        counts_by_sends slot (sent_by read.machine i) V
        (λ other latency fields. one_le (leads other) (counts_for read.machine i other) (counts_too slot (actor_of s c) setup own to receives read.machine places i other leads_there)) in
        let bound : sent_here slot ran.view ≤ free_of x.mail now slot =
        scan_sends read setup (actor_of s c) now x slot k d within refl (sizes_found t.routes k d within) begins i inside leads_there counts (parts read i)
        (record { value = Fires ran.note; view = ran.view }) ran.ran in
        omega (arith, bound, sent_is)

    none_leads : ((i : ℕ) → i < length read.machine.buffers → leads i ≡ false) → copies_sent acts.sent (slot_receiver slot) (slot_buffer slot) ≤ free_of x.mail now slot
    none_leads none =
        let counts : Counts slot (λ _. 0) V = counts_by_sends slot (λ _. 0) V (λ other latency fields. none_le (leads other) (each other (cases_lt other (length read.machine.buffers)))) in
        let left : IsLeft V ran.view = scan_leaves (ports_tried read read.machine.in_ports) V (record { value = Fires ran.note; view = ran.view }) ran.ran in
        let bound = subst (HoldsAfter (λ w. sent_here slot w ≤ sent_here slot V + 0)) left.ends (body_few slot (λ _. 0) left.body 0 (none_counted left.body) V counts) in
        omega (arith, bound, sent_is)
      where
        each : (other : ℕ) → (other < length read.machine.buffers) ⊎ (length read.machine.buffers ≤ other) → leads other ≡ false
        each other (inl below) = none other below
        each other (inr above) =
            let nothing : buffer_place setup other ≡ None = sym (places other) ∙ ap (option_map (λ (b : BufferSymbol). b.place)) (slice_get_past read.machine.buffers other above) in
            ap (λ (p : Option BufferPlace). leads_to (actor_of s c) other p slot) nothing

    pub takes_here : copies_sent acts.sent (slot_receiver slot) (slot_buffer slot) ≤ free_of x.mail now slot
    takes_here = ⊎_elim (λ found. some_leads found.0 found.1 found.2) none_leads (search leads (length read.machine.buffers))

  pub takes_free : TakesFreeSlots s R
  takes_free c now x fits note acts copies after fired k d within =
      let p = meaning_of trees in
      let here = fitting p drive least s is c x now fits in
      let setup = here.setup in
      let one = here.one in
      let h = setup_found trees t.sizes one.machine setup sizes_counted one.there in
      let m : MachineSymbols = machine_symbols trees one.machine h.tree in
      let read : Reading = reading_with (symbols_of trees) one.machine m h.tree in
      let reads : reading_of trees one.machine ≡ Some read =
      ap (λ (o : Option MachineSymbols). option_and_then (λ (y : MachineSymbols). option_map (reading_with (symbols_of trees) one.machine y) (slice_get (machines_of trees) one.machine)) o) (symbols_found trees one.machine h.tree h.at)
      ∙ ap (λ (o : Option Machine). option_map (reading_with (symbols_of trees) one.machine m) o) h.at in
      let ran = fired_scan read (scan_view setup (actor_of s c) now x) note acts copies after limit x.fired (sym (scan_told c now x setup one read reads) ∙ fired) in
      let routes = fit_each s.machines s.ranges setup (actor_of s c) (controller-is s least is c setup one) in
      let places : (i : ℕ) → place_among m i ≡ buffer_place setup i =
      λ i. paired_places trees one.machine (setup_in trees one.machine h.own h.tree).buffers m.buffers (buffers_paired trees one.machine h.own h.tree) i ∙ ap (λ (y : MachineSetup). buffer_place y i) h.setup in
      let slot : ℕ × ℕ × ℕ = get_or t.routes.slots k d in
      let listed : IsSlot s.machines s.ranges slot = is.routes.slots k d within in
      let to = and-some _ (slice_get s.machines listed.machine) listed.receiving in
      let receives : ReceivesFrom to.0 (slot_receiver slot) t.routes =
      subst (λ (o : Option MachineSetup). IfSome o (λ (y : MachineSetup). ReceivesFrom y (slot_receiver slot) t.routes)) to.1 (is.routes.receivers listed.machine (slot_receiver slot) listed.of_machine) in
      takes_here c now x setup read (lawful p drive least s is c x now here) acts ran routes.own_buffers places k d within to.0 receives
