-- A scan that fires has sent no more copies to a buffer with a size than slots were free there as it began, where some buffer of its
-- machine leads there: nothing is sent before the test of free slots, and after it no more than was counted for that test.
use Rattle.std.proofs.Common.{◌≡◌, ◌<◌, ◌≤◌, ◌+◌, ◌⊎◌, ◌∙◌, ℕ, Bool, true, false, List, [], ◌∷◌, All, Option, None, Some, Result, Ok, Err, ⊎_elim, cond, find, get_or, length, refl, sym, ap, subst, arith}
use Rattle.ruby_value.specs.declared.fault.Fault.{Fault}
use Rattle.ruby_value.specs.declared.setup.MachineSetup.{MachineSetup}
use Rattle.run_journal.specs.declared.entry.StopAt.{StopAt}
use Rattle.ruby_symbols.specs.declared.machine.Next.{Next}
use Rattle.ruby_symbols.specs.declared.machine.PortSymbol.{PortSymbol}
use Rattle.ruby_symbols.specs.declared.machine.TransitionSymbol.{TransitionSymbol}
use Rattle.ctl_face.specs.Prelude.{Actor, Ctl, IsLawful, LocalView, again, arrived_credits, buffer_place, free_of, leads_to, lent_at, scan_view, slot_buffer, slot_receiver}
use Rattle.ctl_face.specs.Slots.{slots}
use Rattle.acts.specs.Prelude.{Act, answer, Acting, ends as ends_body, stops as stops_body, acts as acts_in, act as done, either, follow, run, ◌>>=◌, ◌>>◌, HoldsAfter, Done, does, IsLeft}
use Rattle.acts.proofs.Left.{left_by, left_here, left_scan, left_then}
use Rattle.body_meaning.specs.declared.frame.About.{About}
use Rattle.body_meaning.specs.declared.frame.Flow.{Flow}
use Rattle.body_meaning.specs.declared.frame.Flow.TheVariants.{WentOn, Returned, Triggered}
use Rattle.body_meaning.specs.declared.frame.Known.{Known}
use Rattle.body_meaning.specs.declared.frame.Tried.{Tried}
use Rattle.body_meaning.specs.declared.frame.Tried.TheVariants.{Fires, Waits}
use Rattle.body_meaning.specs.declared.thing.Trigger.{Trigger}
use Rattle.body_meaning.specs.Prelude.{Reading, Trying, ends, stops, acts, looks_up, about, action_done, after_port, buffer_short, each, fired, follow_scan, found_tried, is_fewer, is_for, is_short, is_stall_among, known, lacks_room, need, next_state, nothing_known, permission_set, port_done, port_tried, ports_tried, read_state, row_tried, run_scan, send_count, state_set, table_short, then_try, try, unless_fired, waiting, with_known}
use Rattle.slot_laws.specs.Prelude.{HasSlotted, SendsAtMost, copies_sent, has_size, sent_by, slots_taken}
use Rattle.slot_laws.proofs.Sending.{sent_here}
use Rattle.slot_laws.proofs.SendingBodies.{Counts, body_few, body_then, buffer_reads, counts_still, ends_here, free_at_each, none_short, not_short, table_reads}
use Rattle.slot_laws.proofs.Slotted.{left_slotted, slots_begin}

-- Parts of a scan, one after the other.

module _ {A : Type 0} (k : Known) where
  known_after : (a : Act) (more : answer a → Acting A) (d : Done A) (r : Result (Done (answer a)) Fault)
      → ((x : answer a) (w : LocalView) → run_scan (with_known k (more x)) w ≡ Ok d → run (more x) w ≡ Ok d)
      → follow_scan k r (λ x w. run_scan (with_known k (more x)) w) ≡ Ok d → follow r (λ x w. run (more x) w) ≡ Ok d
  known_after a more d (Ok e) rest is = rest e.value e.view is
  known_after a more d (Err f) rest is = absurd (cc is)

  known_runs : (p : Acting A) (v : LocalView) (d : Done A) → run_scan (with_known k p) v ≡ Ok d → run p v ≡ Ok d
  unfolding run_scan with_known run
  known_runs (ends_body x) v d is = let same : ◌≡◌ {A = Done A} (record { value = x; view = v }) d = cc is in ap (λ (e : Done A). Ok e) same
  known_runs (stops_body f) v d is = absurd (cc is)
  known_runs (acts_in a more) v d is = known_after a more d (does a v) (λ x w. known_runs (more x) w d) is

abbrev Parts : {A B : Type 0} → Trying A → (A → Trying B) → LocalView → Done B → Type 0
Parts {A} p next v d = (e : Done A) × (run_scan p v ≡ Ok e) × (run_scan (next e.value) e.view ≡ Ok d)

module _ {A B : Type 0} (next : A → Trying B) (d : Done B) where
  then_after : (k : Known) (a : Act) (more : answer a → Trying A) (r : Result (Done (answer a)) Fault)
      → ((x : answer a) (w : LocalView) → run_scan (then_try (more x) next) w ≡ Ok d → Parts (more x) next w d)
      → follow_scan k r (λ x w. run_scan (then_try (more x) next) w) ≡ Ok d
      → (e : Done A) × (follow_scan k r (λ x w. run_scan (more x) w) ≡ Ok e) × (run_scan (next e.value) e.view ≡ Ok d)
  then_after k a more (Ok e) rest is = rest e.value e.view is
  then_after k a more (Err f) rest is = absurd (cc is)

  then_runs : (p : Trying A) (v : LocalView) → run_scan (then_try p next) v ≡ Ok d → Parts p next v d
  unfolding run_scan then_try
  then_runs (ends x) v is = (record { value = x; view = v }, refl, is)
  then_runs (stops at) v is = absurd (cc is)
  then_runs (acts k a more) v is = then_after k a more (does a v) (λ x w. then_runs (more x) w) is
  then_runs (looks_up pair rest) v is = then_runs rest v is

ends_scan : {A : Type 0} (x : A) (v : LocalView) (d : Done A) → run_scan (ends x) v ≡ Ok d → ◌≡◌ {A = Done A} (record { value = x; view = v }) d
unfolding run_scan
ends_scan x v d is = cc is

stops_scan : {A : Type 0} (at : StopAt) (v : LocalView) (d : Done A) → run_scan (stops at) v ≡ Ok d → ⊥
unfolding run_scan
stops_scan at v d is = cc is

looks_scan : {A : Type 0} (pair : _) (p : Trying A) (v : LocalView) (d : Done A) → run_scan (looks_up pair p) v ≡ Ok d → run_scan p v ≡ Ok d
unfolding run_scan
looks_scan pair p v d is = is

waits_here : (v : LocalView) (d : Done Tried) → run waiting v ≡ Ok d → ◌≡◌ {A = Done Tried} (record { value = Waits; view = again v }) d
unfolding run does done ◌>>=◌ ◌>>◌
waits_here v d is = cc is

waiting_sent : (s : Reading) (buffer : ℕ) → SendsAtMost s.machine buffer 0 waiting
unfolding done ◌>>=◌ ◌>>◌
waiting_sent s buffer = (omega arith, λ x. tt)

-- What is known of the parts of a scan: what they send at most.
pub record PartsSend (s : Reading) (buffer : ℕ) : Type 0 where
  pub fires : (t : Trigger) (state next : ℕ) (row : TransitionSymbol) → SendsAtMost s.machine buffer (send_count s row.actions buffer) (fired s t state next row)
  pub ports : (p : PortSymbol) → SendsAtMost s.machine buffer 0 (port_done s p)
  pub states : (a : About) → SendsAtMost s.machine buffer 0 (read_state s a)
  pub rooms : (actions : List ℕ) → SendsAtMost s.machine buffer 0 (lacks_room s actions)
  pub nexts : (address state : ℕ) (next : Option Next) → SendsAtMost s.machine buffer 0 (next_state s address state next)

module _ (s : Reading) (setup : MachineSetup) (actor : Actor) (now : ℕ) (ctl : Ctl) (slot : ℕ × ℕ × ℕ) (k : ℕ) (d : ℕ × ℕ × ℕ) (listed : k < length actor.routes.slots) (is_slot : get_or actor.routes.slots k d ≡ slot)
    (sized : has_size actor.routes (slot_receiver slot) (slot_buffer slot) ≡ true) (lawful : IsLawful (scan_view setup actor now ctl))
    (buffer : ℕ) (inside : buffer < length s.machine.buffers) (leads : leads_to actor buffer (buffer_place setup buffer) slot ≡ true)
    (counts : Counts slot (sent_by s.machine buffer) (scan_view setup actor now ctl)) (send : PartsSend s buffer) where
  abbrev V : LocalView
  V = scan_view setup actor now ctl

  abbrev free : ℕ
  free = free_of ctl.mail now slot

  -- nothing was sent there so far
  pub record Quiet (u : LocalView) : Type 0 where
    pub left : IsLeft V u
    pub none : sent_here slot u ≤ 0

  -- a try that waits has sent nothing there, and one that fires no more than was free
  abbrev pub Sent : Tried → LocalView → Type 0
  Sent Waits u = Quiet u
  Sent (Fires note) u = sent_here slot u ≤ free

  quiet_on : {A : Type 0} (p : Acting A) → SendsAtMost s.machine buffer 0 p → (u : LocalView) (e : Done A) → Quiet u → run p u ≡ Ok e → Quiet e.view
  quiet_on p none u e quiet ran =
      let few = subst (HoldsAfter (λ w. sent_here slot w ≤ sent_here slot u + 0)) ran (body_few slot (sent_by s.machine buffer) p 0 none u (counts_still slot (sent_by s.machine buffer) V u (left_scan V u quiet.left) counts)) in
      record { left = left_then V u e.view quiet.left (left_by p u e ran); none = (let before = quiet.none in omega (arith, few, before)) }

  -- as many slots are free as were
  still_free : (u : LocalView) → Quiet u → free_of u.ctl.mail u.now slot ≡ free
  still_free u quiet =
      let r = slot_receiver slot in
      let b = slot_buffer slot in
      let same = left_scan V u quiet.left in
      let slots : HasSlotted u = left_slotted V u quiet.left lawful (slots_begin setup actor now ctl) in
      let lent = slots.lent r b in
      let first : lent_at u.start.mail.lent r b ≡ lent_at ctl.mail.lent r b = ap (λ (x : Ctl). lent_at x.mail.lent r b) same.start in
      let size : slots_taken u.actor.routes u.acts.sent r b ≡ copies_sent u.acts.sent r b =
      ap (λ (x : Actor). slots_taken x.routes u.acts.sent r b) same.actor ∙ ap (λ (t : Bool). cond t (copies_sent u.acts.sent r b) 0) sized in
      let arrived = slots.arrived r b in
      let before : arrived_credits u.start.mail.credits r b u.now ≡ arrived_credits ctl.mail.credits r b now =
      ap (λ (x : Ctl). arrived_credits x.mail.credits r b u.now) same.start ∙ ap (λ (n : ℕ). arrived_credits ctl.mail.credits r b n) same.now in
      let none = quiet.none in
      omega (arith, lent, first, size, arrived, before, none)

  -- where nothing is short, no more is counted than is free
  enough : (actions : List ℕ) (u : LocalView) (e : Done Bool) → Quiet u → run (lacks_room s actions) u ≡ Ok e → e.value ≡ false → (e.view ≡ u) × (send_count s actions buffer ≤ free)
  unfolding either
  enough actions u e quiet ran not =
      let first = body_then (is_short (table_short (need s actions)) 0 s.machine.tables) (λ short. either short (ends_body true) (is_short (buffer_short (send_count s actions)) 0 s.machine.buffers)) u e ran in
      let tables : Done Bool = first.0 in
      let passed = none_short (table_short (need s actions)) (table_reads (need s actions)) 0 s.machine.tables u tables first.1 in
      by tables.value tables.view passed.view first.2
    where
      room : (w : LocalView) → w ≡ u → (sent : (send_count s actions buffer ≡ 0) ⊎ (is_fewer (slots w buffer) (send_count s actions buffer) ≡ false)) → send_count s actions buffer ≤ free
      room w same sent =
          ⊎_elim (λ none. omega (arith, none))
          (λ few.
          let quiet_w : Quiet w = subst Quiet (sym same) quiet in
          let scan = left_scan V w quiet_w.left in
          let all = free_at_each (free_of w.ctl.mail w.now) (leads_to w.actor buffer (buffer_place w.machine buffer)) w.actor.routes.slots (send_count s actions buffer) few in
          let here : All (λ x. leads_to actor buffer (buffer_place setup buffer) x ≡ true → send_count s actions buffer ≤ free_of w.ctl.mail w.now x) actor.routes.slots =
          subst (λ (m : MachineSetup). All (λ x. leads_to actor buffer (buffer_place m buffer) x ≡ true → send_count s actions buffer ≤ free_of w.ctl.mail w.now x) actor.routes.slots) scan.machine
          (subst (λ (a : Actor). All (λ x. leads_to a buffer (buffer_place w.machine buffer) x ≡ true → send_count s actions buffer ≤ free_of w.ctl.mail w.now x) a.routes.slots) scan.actor all) in
          let one : leads_to actor buffer (buffer_place setup buffer) slot ≡ true → send_count s actions buffer ≤ free_of w.ctl.mail w.now slot =
          subst (λ x. leads_to actor buffer (buffer_place setup buffer) x ≡ true → send_count s actions buffer ≤ free_of w.ctl.mail w.now x) is_slot (here k d listed) in
          let same_free = still_free w quiet_w in
          omega (arith, one leads, same_free))
          sent

      by : (short : Bool) (w : LocalView) → w ≡ u → run (either short (ends_body true) (is_short (buffer_short (send_count s actions)) 0 s.machine.buffers)) w ≡ Ok e → (e.view ≡ u) × (send_count s actions buffer ≤ free)
      by true w same goes = absurd (cc (ap (λ (x : Done Bool). x.value) (ends_here true w e goes) ∙ not))
      by false w same goes =
          let passed = none_short (buffer_short (send_count s actions)) (buffer_reads (send_count s actions)) 0 s.machine.buffers w e goes in
          let at : run (buffer_short (send_count s actions) buffer) w ≡ Ok (record { value = false; view = w }) =
          subst (λ (i : ℕ). run (buffer_short (send_count s actions) i) w ≡ Ok (record { value = false; view = w })) (omega arith) (passed.each not buffer inside) in
          (passed.view ∙ same, room w same (not_short (send_count s actions) buffer w at))

  waits_quiet : (u : LocalView) (e : Done Tried) → Quiet u → run waiting u ≡ Ok e → Sent e.value e.view
  waits_quiet u e quiet ran =
      let here = waits_here u e ran in
      let quiet_e = quiet_on waiting waiting_sends u e quiet ran in
      subst (λ (x : Done Tried). Sent x.value x.view) here
      (let same : e.view ≡ again u = sym (ap (λ (x : Done Tried). x.view) here) in subst Quiet same quiet_e)
    where
      waiting_sends : SendsAtMost s.machine buffer 0 waiting
      waiting_sends = waiting_sent s buffer

  -- the actions of a transition, and the states that it sets
  fires_few : (t : Trigger) (state next : ℕ) (row : TransitionSymbol) (u : LocalView) (e : Done Tried) → Quiet u → send_count s row.actions buffer ≤ free → run (fired s t state next row) u ≡ Ok e → Sent e.value e.view
  unfolding ◌>>◌
  fires_few t state next row u e quiet room ran =
      let few =
      subst (HoldsAfter (λ w. sent_here slot w ≤ sent_here slot u + send_count s row.actions buffer)) ran
      (body_few slot (sent_by s.machine buffer) (fired s t state next row) (send_count s row.actions buffer) (send.fires t state next row) u (counts_still slot (sent_by s.machine buffer) V u (left_scan V u quiet.left) counts)) in
      let acted = body_then (each (action_done s) (about t) row.actions) _ u e ran in
      let one : Done About = acted.0 in
      let set = body_then (state_set s one.value next s.machine.set_state) _ one.view e acted.2 in
      let two : Done (Unit {0}) = set.0 in
      let permitted = body_then (permission_set s one.value next s.machine.set_permission) _ two.view e set.2 in
      let three : Done (Unit {0}) = permitted.0 in
      let ended = ends_here (Fires (record { address = t.address; state = state; event = t.event; next = next })) three.view e permitted.2 in
      let before = quiet.none in
      let bound : sent_here slot e.view ≤ free = omega (arith, few, before, room) in
      let view : three.view ≡ e.view = ap (λ (x : Done Tried). x.view) ended in
      subst (λ (x : Done Tried). Sent x.value x.view) ended (subst (λ (w : LocalView). sent_here slot w ≤ free) (sym view) bound)

  row_sends : (t : Trigger) (state : ℕ) (row : TransitionSymbol) (u : LocalView) (e : Done Tried) → Quiet u → run (row_tried s t state row) u ≡ Ok e → Sent e.value e.view
  unfolding either
  row_sends t state row u e quiet ran =
      let first =
      body_then (lacks_room s row.actions)
      (λ short. either short waiting (either (is_stall_among row.actions s.machine.stall) waiting (next_state s t.address state row.next >>= (λ next. fired s t state next row)))) u e ran in
      let short : Done Bool = first.0 in
      by short.value short.view first.1 first.2
    where
      on : (w : LocalView) → Quiet w → send_count s row.actions buffer ≤ free → (stall : Bool)
          → run (either stall waiting (next_state s t.address state row.next >>= (λ next. fired s t state next row))) w ≡ Ok e → Sent e.value e.view
      on w quiet_w room true goes = waits_quiet w e quiet_w goes
      on w quiet_w room false goes =
          let asked = body_then (next_state s t.address state row.next) (λ next. fired s t state next row) w e goes in
          let next : Done ℕ = asked.0 in
          fires_few t state next.value row next.view e (quiet_on (next_state s t.address state row.next) (send.nexts t.address state row.next) w next quiet_w asked.1) room asked.2

      tested_quiet : (w : LocalView) → run (lacks_room s row.actions) u ≡ Ok (record { value = true; view = w }) → Quiet w
      tested_quiet w tested = quiet_on (lacks_room s row.actions) (send.rooms row.actions) u (record { value = true; view = w }) quiet tested

      by : (k : Bool) (w : LocalView) → run (lacks_room s row.actions) u ≡ Ok (record { value = k; view = w })
          → run (either k waiting (either (is_stall_among row.actions s.machine.stall) waiting (next_state s t.address state row.next >>= (λ next. fired s t state next row)))) w ≡ Ok e → Sent e.value e.view
      by true w tested goes = waits_quiet w e (tested_quiet w tested) goes
      by false w tested goes =
          let room = enough row.actions u (record { value = false; view = w }) quiet tested refl in
          on w (subst Quiet (sym room.0) quiet) room.1 (is_stall_among row.actions s.machine.stall) goes

  found_sends : (t : Trigger) (state : ℕ) (o : Option TransitionSymbol) (u : LocalView) (e : Done Tried) → Quiet u → run_scan (found_tried s t state o) u ≡ Ok e → Sent e.value e.view
  found_sends t state None u e quiet ran = absurd (stops_scan _ u e (looks_scan _ _ u e ran))
  found_sends t state (Some row) u e quiet ran =
      row_sends t state row u e quiet (known_runs (known t (Some state)) (row_tried s t state row) u e (looks_scan _ (with_known (known t (Some state)) (row_tried s t state row)) u e ran))

  try_sends : (t : Trigger) (u : LocalView) (e : Done Tried) → Quiet u → run_scan (try s t) u ≡ Ok e → Sent e.value e.view
  try_sends t u e quiet ran =
      let next : ℕ → Trying Tried = λ state. found_tried s t state (find (is_for state t.event) s.machine.transitions) in
      let parts = then_runs next e (with_known (known t None) (read_state s (about t))) u ran in
      let state : Done ℕ = parts.0 in
      found_sends t state.value (find (is_for state.value t.event) s.machine.transitions) state.view e
      (quiet_on (read_state s (about t)) (send.states (about t)) u state quiet (known_runs (known t None) (read_state s (about t)) u state parts.1)) parts.2

  after_sends : (flow : Flow) (u : LocalView) (e : Done Tried) → Quiet u → run_scan (after_port s flow) u ≡ Ok e → Sent e.value e.view
  after_sends WentOn u e quiet ran = subst (λ (x : Done Tried). Sent x.value x.view) (ends_scan Waits u e ran) quiet
  after_sends (Returned thing) u e quiet ran = subst (λ (x : Done Tried). Sent x.value x.view) (ends_scan Waits u e ran) quiet
  after_sends (Triggered t) u e quiet ran = try_sends t u e quiet ran

  port_sends : (p : PortSymbol) (u : LocalView) (e : Done Tried) → Quiet u → run_scan (port_tried s p) u ≡ Ok e → Sent e.value e.view
  port_sends p u e quiet ran =
      let parts = then_runs (after_port s) e (with_known nothing_known (port_done s p)) u ran in
      let flow : Done Flow = parts.0 in
      after_sends flow.value flow.view e (quiet_on (port_done s p) (send.ports p) u flow quiet (known_runs nothing_known (port_done s p) u flow parts.1)) parts.2

  ports_send : (ps : List PortSymbol) (u : LocalView) (e : Done Tried) → Quiet u → run_scan (ports_tried s ps) u ≡ Ok e → Sent e.value e.view
  ports_send [] u e quiet ran = subst (λ (x : Done Tried). Sent x.value x.view) (ends_scan Waits u e ran) quiet
  ports_send (p ∷ ps) u e quiet ran =
      let parts = then_runs (unless_fired (ports_tried s ps)) e (port_tried s p) u ran in
      let tried : Done Tried = parts.0 in
      by tried.value tried.view (port_sends p u tried quiet parts.1) (λ w rest goes. ports_send ps w e rest goes) parts.2
    where
      by : (t : Tried) (w : LocalView) → Sent t w → ((y : LocalView) → Quiet y → run_scan (ports_tried s ps) y ≡ Ok e → Sent e.value e.view) → run_scan (unless_fired (ports_tried s ps) t) w ≡ Ok e → Sent e.value e.view
      by Waits w sent rest goes = rest w sent goes
      by (Fires note) w sent rest goes = subst (λ (x : Done Tried). Sent x.value x.view) (ends_scan (Fires note) w e goes) sent

  pub scan_sends : (e : Done Tried) → run_scan (ports_tried s s.machine.in_ports) V ≡ Ok e → Sent e.value e.view
  scan_sends e ran = ports_send s.machine.in_ports V e (record { left = left_here V; none = omega arith }) ran
