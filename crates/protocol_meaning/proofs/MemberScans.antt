-- What a scan does stays within bounds, and what it answers is within them.
use Rattle.std.proofs.Common.{◌≡◌, ◌||◌, ◌==◌, ◌+◌, ℕ, Bool, true, false, List, [], ◌∷◌, All, IfSome, Option, None, Some, Result, Ok, Err, find, nat_le, refl, subst, slice_get}
use Rattle.std.proofs.lemmas.Bool.{and_parts, cond_both, eqb-true}
use Rattle.std.proofs.lemmas.List.Elements.{All-cons, All-head, All-nil, All-tail}
use Rattle.ruby_value.specs.declared.fault.Fault.{Fault}
use Rattle.ruby_value.specs.declared.value.Value.{Value}
use Rattle.ruby_value.specs.declared.value.Value.TheVariants as value
use Rattle.ruby_value.specs.Prelude.{line_of}
use Rattle.ruby_symbols.specs.declared.machine.Next.{Next}
use Rattle.ruby_symbols.specs.declared.machine.Next.TheVariants.{To, Asked}
use Rattle.ruby_symbols.specs.declared.machine.PortSymbol.{PortSymbol}
use Rattle.ruby_symbols.specs.declared.machine.TableSymbol.{TableSymbol}
use Rattle.ruby_symbols.specs.declared.machine.TransitionSymbol.{TransitionSymbol}
use Rattle.ruby_symbols.specs.declared.states.StateArgument.{StateArgument}
use Rattle.ruby_symbols.specs.declared.states.StateArgument.TheVariants.{Tbe, Entry, Address, State}
use Rattle.ruby_symbols.specs.Prelude.{get_state_arguments, set_permission_arguments, set_state_arguments}
use Rattle.run_journal.specs.declared.entry.StopAt.{StopAt}
use Rattle.ctl_face.specs.Prelude.{again, LocalView}
use Rattle.acts.specs.Act as act
use Rattle.acts.specs.Prelude.{Act, answer, Acting, ends as ends_body, stops as stops_body, acts as acts_in, fault_of, Done, does}
use Rattle.body_meaning.specs.declared.frame.About.{About}
use Rattle.body_meaning.specs.declared.frame.Flow.{Flow}
use Rattle.body_meaning.specs.declared.frame.Flow.TheVariants.{WentOn, Returned, Triggered}
use Rattle.body_meaning.specs.declared.thing.Trigger.{Trigger}
use Rattle.body_meaning.specs.Prelude.{each, Reading, value_in, body_of_action, need, send_count, buffer_short, lacks_room, after_port, by_outcome, by_try, left_idle, port_block, port_done, port_tried, ports_tried, scan, unless_fired, about, action_done, arguments_for, fired, found_tried, is_among, is_for, is_short, is_stall_among, known, next_asked, next_state, permission_set, row_tried, state_answered, state_argument, state_by, state_set, table_short, try, waiting, Trying, ends, stops, acts, looks_up, follow_scan, nothing_known, run_scan, stop_at, then_try, with_known}
use Rattle.body_meaning.specs.declared.frame.RoundEnd.TheVariants as round
use Rattle.body_meaning.specs.declared.frame.Known.{Known}
use Rattle.body_meaning.specs.declared.frame.Tried.{Tried}
use Rattle.body_meaning.specs.declared.frame.Tried.TheVariants.{Waits, Fires}
use Rattle.protocol_meaning.specs.Prelude.{AreWithin, Extent, IsMember, IsWithin}
use Rattle.protocol_meaning.proofs.Bounds.{Bounds, ViewWithin}
use Rattle.protocol_meaning.proofs.Bodies.{AnswersWithin, AsksWithin, EndsWithin, Stays}
use Rattle.protocol_meaning.proofs.Reading.{FlowWithin, NextWithin, ReadingWithin, TransitionWithin, bounds_of, extent_of}
use Rattle.protocol_meaning.proofs.Scan.{NoteWithin, ScanWithin, StopWithin}
use Rattle.protocol_meaning.proofs.Acts.{does_keeps}
use Rattle.protocol_meaning.proofs.Expressions.{as_member_within, zero_member}
use Rattle.protocol_meaning.proofs.Mail.{again_keeps}
use Rattle.protocol_meaning.proofs.Statements.{block_done_stays, calls_stay, no_names}
use Rattle.protocol_meaning.proofs.Stay.{Stay, act_stays, and_stays, done_stays, either_stays, ends_stays, found_stays, stops_stays, then_stays}

-- Scans as data.

module _ (b : Bounds) (S : StopAt → Type 0) where
  abbrev TryStays : {A : Type 0} → (A → Type 0) → Trying A → Type 0
  TryStays R (ends x) = R x
  TryStays R (stops at) = S at
  TryStays R (acts k a more) = AsksWithin b a × ((f : Fault) → S (stop_at k f)) × ((x : answer a) → AnswersWithin b a x → TryStays R (more x))
  TryStays R (looks_up pair rest) = TryStays R rest

  abbrev TryEnds : {A : Type 0} → (A → Type 0) → Result (Done A) StopAt → Type 0
  TryEnds R (Ok d) = ViewWithin b d.view × R d.value
  TryEnds R (Err at) = S at

  record Tries {A : Type 0} (R : A → Type 0) (p : Trying A) : Type 0 where
    stays : TryStays R p

  then_go : {A C : Type 0} (R : A → Type 0) (Q : C → Type 0) (p : Trying A) (next : A → Trying C) → TryStays R p → ((x : A) → R x → TryStays Q (next x)) → TryStays Q (then_try p next)
  unfolding then_try
  then_go R Q (ends x) next first rest = rest x first
  then_go R Q (stops at) next first rest = first
  then_go R Q (acts k a more) next first rest = (first.0, first.1, λ x answers. then_go R Q (more x) next (first.2 x answers) rest)
  then_go R Q (looks_up pair p) next first rest = then_go R Q p next first rest

  then_tries : {A C : Type 0} {R : A → Type 0} {Q : C → Type 0} {p : Trying A} {next : A → Trying C} → Tries R p → ((x : A) → R x → Tries Q (next x)) → Tries Q (then_try p next)
  then_tries {A} {C} {R} {Q} {p} {next} first rest = record { stays = then_go R Q p next first.stays (λ x here. let r = rest x here in r.stays) }

  body_go : {A : Type 0} (R : A → Type 0) (k : Known) → ((f : Fault) → S (stop_at k f)) → (p : Acting A) → Stays b R p → TryStays R (with_known k p)
  unfolding with_known
  body_go R k each (ends_body x) here = here
  body_go R k each (stops_body f) here = each (fault_of f)
  body_go R k each (acts_in a more) here = (here.0, each, λ x answers. body_go R k each (more x) (here.1 x answers))

  body_tries : {A : Type 0} {R : A → Type 0} (k : Known) {p : Acting A} → ((f : Fault) → S (stop_at k f)) → Stay b R p → Tries R (with_known k p)
  body_tries {A} {R} k {p} each first = record { stays = body_go R k each p first.stays }

  followed : {A C : Type 0} (P : A → Type 0) (R : C → Type 0) (k : Known) (r : Result (Done A) Fault) (next : A → LocalView → Result (Done C) StopAt) → ((f : Fault) → S (stop_at k f))
      → EndsWithin b P r → ((x : A) (w : LocalView) → ViewWithin b w → P x → TryEnds R (next x w)) → TryEnds R (follow_scan k r next)
  followed P R k (Ok d) next each (is, here) rest = rest d.value d.view is here
  followed P R k (Err f) next each here rest = each f

  run_go : {A : Type 0} (R : A → Type 0) (p : Trying A) (v : LocalView) → TryStays R p → ViewWithin b v → TryEnds R (run_scan p v)
  unfolding run_scan
  run_go R (ends x) v stays is = (is, stays)
  run_go R (stops at) v stays is = stays
  run_go R (acts k a more) v stays is =
      followed (AnswersWithin b a) R k (does a v) (λ x w. run_scan (more x) w) stays.1 (does_keeps b a v is stays.0)
      (λ x w within here. run_go R (more x) w (stays.2 x here) within)
  run_go R (looks_up pair rest) v stays is = run_go R rest v stays is

-- What is found among transitions.

found_passes : {X : Type 0} (P : X → Type 0) (p : X → Bool) (xs : List X) → All P xs → IfSome (find p xs) (λ x. P x × (p x ≡ true))
found_passes P p [] all = tt
found_passes P p (x ∷ xs) all =
    cond_both (p x) (Some x) (find p xs) (λ o. IfSome o (λ y. P y × (p y ≡ true))) (λ passes. (All-head P x xs all, passes)) (λ _. found_passes P p xs (All-tail P x xs all))

among_holds : (P : ℕ → Type 0) (n : ℕ) (ns : List ℕ) → All P ns → is_among n ns ≡ true → P n
among_holds P n [] all is = absurd (cc is)
among_holds P n (m ∷ ns) all is = by (λ rest. among_holds P n ns (All-tail P m ns all) rest) (m == n) refl is
  where
    by : (is_among n ns ≡ true → P n) → (test : Bool) → (m == n) ≡ test → (test || is_among n ns) ≡ true → P n
    by later true same is = subst P (eqb-true m n same) (All-head P m ns all)
    by later false other is = later is

any : {X : Type 0} (o : Option X) → IfSome o (λ _. Unit {0})
any None = tt
any (Some x) = tt

module _ (s : Reading) (controllers : ℕ) (kept : List Value) (is : ReadingWithin s controllers kept) where
  abbrev Bs : Bounds
  Bs = bounds_of s controllers kept

  abbrev Es : Extent
  Es = extent_of s controllers

  abbrev Of-state : ℕ → Type 0
  Of-state state = IsMember Es s.machine.states state

  abbrev Of-event : ℕ → Type 0
  Of-event event = IsMember Es s.machine.events event

  abbrev Nothing-asked : {A : Type 0} → A → Type 0
  Nothing-asked x = Unit {0}

  -- States.

  argument_within : (a : About) (state : ℕ) (x : StateArgument) → Of-state state → IsWithin Es (state_argument s.machine a state x)
  argument_within a state Tbe here = tt
  argument_within a state Entry here = tt
  argument_within a state Address here = tt
  argument_within a state State here = here

  arguments_within : (a : About) (state : ℕ) (xs : List StateArgument) → Of-state state → AreWithin Es (arguments_for s.machine a state xs)
  arguments_within a state [] here = All-nil (IsWithin Es)
  arguments_within a state (x ∷ xs) here = All-cons (IsWithin Es) (state_argument s.machine a state x) (arguments_for s.machine a state xs) (argument_within a state x here) (arguments_within a state xs here)

  answered_stays : (k : ℕ) (arguments : List Value) → AreWithin Es arguments → Stay Bs Of-state (state_answered s k arguments)
  answered_stays k arguments within =
      then_stays Bs (calls_stay s controllers kept is k arguments within) (λ t _. ends_stays Bs (as_member_within s controllers kept is s.machine.states (value_in t)))

  read_by : (a : About) (function : Option ℕ) → Stay Bs Of-state (state_by s a function)
  read_by a None = act_stays Bs (act.State (line_of a.address)) tt
  read_by a (Some k) =
      answered_stays k (arguments_for s.machine a 0 (get_state_arguments s.machine)) (arguments_within a 0 (get_state_arguments s.machine) (zero_member Es s.machine.states))

  asked_stays : (address : ℕ) (function : Option ℕ) → Stay Bs Of-state (next_asked s address function)
  asked_stays address None = stops_stays Bs
  asked_stays address (Some k) =
      answered_stays k (value.Addr address ∷ []) (All-cons (IsWithin Es) (value.Addr address) [] tt (All-nil (IsWithin Es)))

  next_stays : (address state : ℕ) (o : Option Next) → IfSome o (NextWithin Es s.machine.states) → Of-state state → Stay Bs Of-state (next_state s address state o)
  next_stays address state None within here = ends_stays Bs here
  next_stays address state (Some (To next)) within here = ends_stays Bs within
  next_stays address state (Some Asked) within here = asked_stays address s.machine.get_next_state

  set_stays : (a : About) (next : ℕ) (function : Option ℕ) → Of-state next → Stay Bs Nothing-asked (state_set s a next function)
  set_stays a next None here = done_stays Bs (act.SetState (line_of a.address) next) here
  set_stays a next (Some k) here =
      and_stays Bs (calls_stay s controllers kept is k (arguments_for s.machine a next (set_state_arguments s.machine)) (arguments_within a next (set_state_arguments s.machine) here)) (ends_stays Bs tt)

  permission_stays : (a : About) (next : ℕ) (function : Option ℕ) → Of-state next → Stay Bs Nothing-asked (permission_set s a next function)
  permission_stays a next None here = ends_stays Bs tt
  permission_stays a next (Some k) here =
      and_stays Bs (calls_stay s controllers kept is k (arguments_for s.machine a next (set_permission_arguments s.machine)) (arguments_within a next (set_permission_arguments s.machine) here)) (ends_stays Bs tt)

  -- Stalls and actions.

  one_short_stays : (needs : ℕ → ℕ) (table : ℕ) → Stay Bs Nothing-asked (table_short needs table)
  one_short_stays needs table =
      either_stays Bs (needs table == 0) (λ _. ends_stays Bs tt) (λ _. then_stays Bs (done_stays Bs (act.Free table) tt) (λ free _. ends_stays Bs tt))

  few_slots_stays : (sent : ℕ → ℕ) (buffer : ℕ) → Stay Bs Nothing-asked (buffer_short sent buffer)
  few_slots_stays sent buffer =
      either_stays Bs (sent buffer == 0) (λ _. ends_stays Bs tt) (λ _. then_stays Bs (done_stays Bs (act.Slots buffer) tt) (λ free _. ends_stays Bs tt))

  short_stays : {X : Type 0} (short : ℕ → Acting Bool) → ((number : ℕ) → Stay Bs Nothing-asked (short number)) → (number : ℕ) (xs : List X) → Stay Bs Nothing-asked (is_short short number xs)
  short_stays short each number [] = ends_stays Bs tt
  short_stays short each number (x ∷ xs) =
      then_stays Bs (each number) (λ is _. either_stays Bs is (λ _. ends_stays Bs tt) (λ _. short_stays short each (number + 1) xs))

  room_stays : (actions : List ℕ) → Stay Bs Nothing-asked (lacks_room s actions)
  room_stays actions =
      then_stays Bs (short_stays (table_short (need s actions)) (one_short_stays (need s actions)) 0 s.machine.tables)
      (λ short _. either_stays Bs short (λ _. ends_stays Bs tt)
      (λ _. short_stays (buffer_short (send_count s actions)) (few_slots_stays (send_count s actions)) 0 s.machine.buffers))

  action_stays : (a : About) (number : ℕ) → Stay Bs Nothing-asked (action_done s a number)
  action_stays a number =
      then_stays Bs {R = Nothing-asked} (found_stays Bs _ (body_of_action s number) (any (body_of_action s number)))
      (λ block _. then_stays Bs (block_done_stays s controllers kept is block (record { names = []; about = Some a }) (no_names s controllers kept is (Some a))) (λ x _. ends_stays Bs tt))

  actions_stay : (a : About) (actions : List ℕ) → Stay Bs Nothing-asked (each (action_done s) a actions)
  actions_stay a [] = ends_stays Bs tt
  actions_stay a (n ∷ ns) = then_stays Bs (action_stays a n) (λ c _. actions_stay c ns)

  -- A try.

  abbrev Of-try : Tried → Type 0
  Of-try Waits = Unit {0}
  Of-try (Fires note) = NoteWithin Es s.machine note

  abbrev Of-stop : StopAt → Type 0
  Of-stop at = StopWithin Es s.machine at

  waiting_stays : Stay Bs Of-try waiting
  waiting_stays = and_stays Bs (done_stays Bs act.Again tt) (ends_stays Bs tt)

  fired_stays : (t : Trigger) (state next : ℕ) (row : TransitionSymbol) → Of-event t.event → Of-state state → Of-state next → Stay Bs Of-try (fired s t state next row)
  fired_stays t state next row event from to =
      then_stays Bs (actions_stay (about t) row.actions)
      (λ a _. and_stays Bs (set_stays a next s.machine.set_state to)
      (and_stays Bs (permission_stays a next s.machine.set_permission to) (ends_stays Bs (record { state = from; event = event; next = to }))))

  row_stays : (t : Trigger) (state : ℕ) (row : TransitionSymbol) → Of-event t.event → Of-state state → TransitionWithin Es s.machine.states s.machine.events row → Stay Bs Of-try (row_tried s t state row)
  row_stays t state row event from within =
      then_stays Bs (room_stays row.actions)
      (λ short _. either_stays Bs short (λ _. waiting_stays)
      (λ _. either_stays Bs (is_stall_among row.actions s.machine.stall) (λ _. waiting_stays)
      (λ _. then_stays Bs (next_stays t.address state row.next within.next from) (λ next to. fired_stays t state next row event from to))))

  read_known : (t : Trigger) → Of-event t.event → (f : Fault) → Of-stop (stop_at (known t None) f)
  read_known t event f = record { event = event; state = tt }

  row_known : (t : Trigger) (state : ℕ) → Of-event t.event → Of-state state → (f : Fault) → Of-stop (stop_at (known t (Some state)) f)
  row_known t state event from f = record { event = event; state = from }

  none_known : (f : Fault) → Of-stop (stop_at nothing_known f)
  none_known f = record { event = tt; state = tt }

  found_tries : (t : Trigger) (state : ℕ) (o : Option TransitionSymbol) → Of-event t.event → Of-state state
      → IfSome o (λ row. TransitionWithin Es s.machine.states s.machine.events row × (is_for state t.event row ≡ true)) → Tries Bs Of-stop Of-try (found_tried s t state o)
  found_tries t state None event read row_is = record { stays = record { event = event; state = read } }
  found_tries t state (Some row) event read (within, passes) =
      let from = among_holds Of-state state row.states within.from (and_parts (is_among state row.states) (is_among t.event row.events) passes).0 in
      let body = body_tries Bs Of-stop (known t (Some state)) (row_known t state event from) (row_stays t state row event from within) in
      record { stays = body.stays }

  try_tries : (t : Trigger) → Of-event t.event → Tries Bs Of-stop Of-try (try s t)
  try_tries t event =
      then_tries Bs Of-stop (body_tries Bs Of-stop (known t None) (read_known t event) (read_by (about t) s.machine.get_state))
      (λ state read. found_tries t state (find (is_for state t.event) s.machine.transitions) event read
      (found_passes (TransitionWithin Es s.machine.states s.machine.events) (is_for state t.event) s.machine.transitions is.transitions))

  -- Ports.

  port_stays : (p : PortSymbol) → Stay Bs (FlowWithin Es s.machine.events) (port_done s p)
  port_stays p =
      then_stays Bs {R = Nothing-asked} (found_stays Bs _ (port_block (slice_get s.tree.declarations p.declaration)) (any (port_block (slice_get s.tree.declarations p.declaration))))
      (λ block _. then_stays Bs (block_done_stays s controllers kept is block (record { names = []; about = None }) (no_names s controllers kept is None)) (λ x here. ends_stays Bs here.flow))

  after_tries : (flow : Flow) → FlowWithin Es s.machine.events flow → Tries Bs Of-stop Of-try (after_port s flow)
  after_tries WentOn here = record { stays = tt }
  after_tries (Returned t) here = record { stays = tt }
  after_tries (Triggered t) here = try_tries t here

  port_tries : (p : PortSymbol) → Tries Bs Of-stop Of-try (port_tried s p)
  port_tries p = then_tries Bs Of-stop (body_tries Bs Of-stop nothing_known none_known (port_stays p)) (λ flow here. after_tries flow here)

  unless_tries : (next : Trying Tried) → Tries Bs Of-stop Of-try next → (t : Tried) → Of-try t → Tries Bs Of-stop Of-try (unless_fired next t)
  unless_tries next tries (Fires note) here = record { stays = here }
  unless_tries next tries Waits here = tries

  ports_try : (ps : List PortSymbol) → Tries Bs Of-stop Of-try (ports_tried s ps)
  ports_try [] = record { stays = tt }
  ports_try (p ∷ ps) = then_tries Bs Of-stop (port_tries p) (λ t here. unless_tries (ports_tried s ps) (ports_try ps) t here)

  -- Scans.

  module _ (v : LocalView) (at_first : ViewWithin Bs v) where
    idle_view : (after : LocalView) → ViewWithin Bs (left_idle v after)
    idle_view after = cond_both after.acts.again (again v) v (ViewWithin Bs) (λ _. again_keeps Bs v at_first) (λ _. at_first)

    try_scans : (t : Tried) (w : LocalView) → ViewWithin Bs w → Of-try t → ScanWithin Bs s.machine (by_try v t w)
    try_scans (Fires note) w within here = record { end = here; view = within }
    try_scans Waits w within here = record { end = tt; view = idle_view w }

    outcome_scans : (r : Result (Done Tried) StopAt) → TryEnds Bs Of-stop Of-try r → ScanWithin Bs s.machine (by_outcome v r)
    outcome_scans (Err at) here = record { end = here; view = at_first }
    outcome_scans (Ok d) here = try_scans d.value d.view here.0 here.1

    pub scan_within : (limit fired_before : ℕ) → ScanWithin Bs s.machine (scan s limit fired_before v)
    scan_within limit fired_before =
        cond_both (nat_le limit fired_before) (record { end = round.Full; view = v }) (by_outcome v (run_scan (ports_tried s s.machine.in_ports) v)) (ScanWithin Bs s.machine)
        (λ _. record { end = tt; view = at_first })
        (λ _. outcome_scans (run_scan (ports_tried s s.machine.in_ports) v)
        (run_go Bs Of-stop Of-try (ports_tried s s.machine.in_ports) v (ports_try s.machine.in_ports).stays at_first))
