-- A try, a port and all ports by code are what the text says.
use Rattle.std.proofs.Common.{◌≡◌, ◌∙◌, ◌+◌, ℕ, suc, Bool, true, false, Option, None, Some, List, [], ◌∷◌, All, find, length, Result, Ok, Err, slice_get, refl, sym, ap, subst, arith}
use Rattle.std.proofs.lemmas.List.Elements.{All-head, All-tail}
use Rattle.slicc_ast.specs.declared.tree.item.Tree.{Tree}
use Rattle.ruby_value.specs.declared.fault.Fault.{Fault}
use Rattle.ruby_symbols.specs.declared.machine.PortSymbol.{PortSymbol}
use Rattle.ruby_symbols.specs.declared.machine.TransitionSymbol.{TransitionSymbol}
use Rattle.ctl_face.specs.Prelude.{LocalView}
use Rattle.acts.specs.Prelude.{Acting, Done, either, run, ◌>>=◌}
use Rattle.slicc_plan.specs.declared.row.Row.{Row}
use Rattle.slicc_plan.specs.Numbering.{row_of}
use Rattle.machine_table.specs.Prelude.{answer}
use Rattle.body_meaning.specs.declared.frame.Flow.{Flow}
use Rattle.body_meaning.specs.declared.frame.Flow.TheVariants.{WentOn, Returned, Triggered}
use Rattle.body_meaning.specs.declared.frame.Known.{Known}
use Rattle.body_meaning.specs.declared.frame.Tried.{Tried}
use Rattle.body_meaning.specs.declared.frame.Tried.TheVariants.{Waits, Fires}
use Rattle.body_meaning.specs.declared.thing.Trigger.{Trigger}
use Rattle.body_meaning.specs.Prelude.{Reading, Trying, about, after_port, ends, fired, found_tried, is_for, is_stall_among, known, lacks_room, next_state, nothing_known, port_done, port_tried, ports_tried, read_state, run_scan, stops, then_try, try, unless_fired, waiting, with_known}
use Rattle.body_meaning.specs.Prelude as text
use Rattle.body_code.specs.Prelude.{numbers_from}
use Rattle.code_meaning.specs.Prelude.{HoldsOfAnswer, run_body}
use Rattle.action_gen.specs.declared.parts.Head.{Head}
use Rattle.action_gen.specs.Prelude.{DoesPort, InMachine, IsTypedFlow, TriggersTyped, port_end}
use Rattle.action_gen.specs.Carries.{AreTyped}
use Rattle.scan_steps.proofs.Tries.{scan-body, with_stop}
use Rattle.compiled_protocol.specs.Prelude.{MachineCode, port_run, ports_run, room_lacks, row_goes_on, row_or_stop, row_tried, state_read, tried_if, trigger_in, trigger_tried, unless_stopped, unless_waiting}
use Rattle.compiled_protocol.proofs.Answered.{read_same}
use Rattle.compiled_protocol.proofs.Asked.{ScanGives, body_as, known_then, stays_in, then_same}
use Rattle.compiled_protocol.proofs.Carried.{IsRunBy}
use Rattle.compiled_protocol.proofs.Fires.{goes_same}
use Rattle.compiled_protocol.proofs.Found.{IsFirst}
use Rattle.compiled_protocol.proofs.Rooms.{room_same}

module _ (trees : List Tree) (s : Reading) (c : MachineCode) (is : IsRunBy trees s c) where
  abbrev In : LocalView → Type 0
  In = InMachine c.parts.program c.number

  -- A written transition.

  module _ (place : ℕ) (row : TransitionSymbol) (at : slice_get s.machine.transitions place ≡ Some row) (t : Trigger) (typed : AreTyped c.parts.program trees c.number s (about t)) (state : ℕ)
      (told : answer c.parts.tables c.number state t.event ≡ Some (row_of state t.event place row)) where
    abbrev k : Known
    k = known t (Some state)

    abbrev r : Row
    r = row_of state t.event place row

    abbrev rest : Acting Tried
    rest = next_state s t.address state row.next >>= (λ next. fired s t state next row)

    room : room_lacks c r ≡ lacks_room s row.actions
    room =
        room_same c s r row.actions (is.needs place row at) (is.sends place row at) (ap (λ (h : Head). h.checked) is.head) (ap (λ (h : Head). h.buffers) is.head)

    stall_case : (b : Bool) → is_stall_among row.actions s.machine.stall ≡ b → (v : LocalView) → In v
        → run_scan (unless_waiting k b (row_goes_on c t state r)) v ≡ run_scan (with_known k (either b waiting rest)) v
    unfolding either
    stall_case true asked v here = refl
    stall_case false asked v here = goes_same trees s c is place row at t typed state told asked v here

    short_case : (short : Bool) (v : LocalView) → In v
        → run_scan (unless_waiting k short (unless_waiting k (is_stall_among row.actions c.head.stall) (row_goes_on c t state r))) v
        ≡ run_scan (with_known k (either short waiting (either (is_stall_among row.actions s.machine.stall) waiting rest))) v
    unfolding either
    short_case true v here = refl
    short_case false v here =
        ap (λ (h : Head). run_scan (unless_waiting k (is_stall_among row.actions h.stall) (row_goes_on c t state r)) v) is.head
        ∙ stall_case (is_stall_among row.actions s.machine.stall) refl v here

    row_same : (v : LocalView) → In v → run_scan (row_tried c t state r) v ≡ run_scan (with_known k (text.row_tried s t state row)) v
    row_same v here =
        then_same (λ (x : Bool) w. In w) (with_known k (room_lacks c r)) (with_known k (lacks_room s row.actions))
        (λ short. unless_waiting k short (unless_waiting k (is_stall_among row.actions c.head.stall) (row_goes_on c t state r)))
        (λ short. with_known k (either short waiting (either (is_stall_among row.actions s.machine.stall) waiting rest)))
        short_case v (ap (λ p. run_scan (with_known k p) v) room) (stays_in c.parts.program c.number (with_known k (lacks_room s row.actions)) v here)
        ∙ sym (known_then k (lacks_room s row.actions) (λ short. either short waiting (either (is_stall_among row.actions s.machine.stall) waiting rest)) v)

  -- A try.

  module _ (t : Trigger) (typed : AreTyped c.parts.program trees c.number s (about t)) where
    found_same : (state : ℕ) (o : Option Row) → answer c.parts.tables c.number state t.event ≡ o → IsFirst s.machine.transitions state t.event 0 o → (w : LocalView) → In w
        → run_scan (row_or_stop c t state o) w ≡ run_scan (found_tried s t state (find (is_for state t.event) s.machine.transitions)) w
    unfolding run_scan
    found_same state None told first w here = ap (λ o. run_scan (found_tried s t state o) w) (sym first)
    found_same state (Some row) told first w here =
        let none : 0 + first.place ≡ first.place = omega arith in
        let row_is : row ≡ row_of state t.event first.place first.transition = first.is ∙ ap (λ k. row_of state t.event k first.transition) none in
        ap (λ x. run_scan (row_tried c t state x) w) row_is
        ∙ row_same first.place first.transition first.at t typed state (told ∙ ap Some row_is) w here
        ∙ ap (λ o. run_scan (found_tried s t state o) w) (sym first.found)

    pub try_same : (v : LocalView) → In v → run_scan (trigger_tried c t) v ≡ run_scan (try s t) v
    try_same v here =
        then_same (λ (x : ℕ) w. In w) (state_read c t c.head.reads) (with_known (known t None) (read_state s (about t)))
        (λ state. row_or_stop c t state (answer c.parts.tables c.number state t.event))
        (λ state. found_tried s t state (find (is_for state t.event) s.machine.transitions))
        (λ state w holds. found_same state (answer c.parts.tables c.number state t.event) refl (is.rows state t.event) w holds)
        v (read_same trees s c is t typed v here) (stays_in c.parts.program c.number (with_known (known t None) (read_state s (about t))) v here)

  -- A port.

  abbrev Follows : Flow → LocalView → Type 0
  Follows flow w = In w × IsTypedFlow c.parts.program c.number s flow

  flow_same : (flow : Flow) (w : LocalView) → Follows flow w → run_scan (tried_if c (trigger_in (port_end flow))) w ≡ run_scan (after_port s flow) w
  flow_same (Triggered t) w holds = try_same t holds.1 w holds.0
  flow_same WentOn w holds = refl
  flow_same (Returned x) w holds = refl

  no_stop : (flow : Flow) → unless_stopped nothing_known (port_end flow) ≡ ends (port_end flow)
  no_stop (Triggered t) = refl
  no_stop WentOn = refl
  no_stop (Returned x) = refl

  typed_given : (r : Result (Done Flow) Fault) → HoldsOfAnswer (IsTypedFlow c.parts.program c.number s) r → ScanGives (λ (x : Flow) w. In w) (with_stop nothing_known r)
      → ScanGives Follows (with_stop nothing_known r)
  typed_given (Ok d) typed here = (here, typed)
  typed_given (Err f) typed here = tt

  port_same : (port : PortSymbol) (root : ℕ) → DoesPort c.parts.program trees c.number s port root → TriggersTyped c.parts.program c.number s port → (v : LocalView) → In v
      → run_scan (port_run c root) v ≡ run_scan (port_tried s port) v
  port_same port root does typed v here =
      let scanned = scan-body nothing_known (port_done s port) v in
      body_as nothing_known (run_body c.parts.program root []) (port_done s port) port_end no_stop (λ end. tried_if c (trigger_in end)) v (does.does v here)
      ∙ then_same Follows (with_known nothing_known (port_done s port)) (with_known nothing_known (port_done s port))
      (λ flow. tried_if c (trigger_in (port_end flow))) (after_port s) flow_same v refl
      (subst (ScanGives Follows) (sym scanned)
      (typed_given (run (port_done s port) v) (typed v here)
      (subst (ScanGives (λ (x : Flow) w. In w)) scanned (stays_in c.parts.program c.number (with_known nothing_known (port_done s port)) v here))))

  -- All ports.

  next_port : (one other : Trying Tried) → ((w : LocalView) → In w → run_scan one w ≡ run_scan other w) → (tried : Tried) (w : LocalView) → In w
      → run_scan (unless_fired one tried) w ≡ run_scan (unless_fired other tried) w
  next_port one other same Waits w here = same w here
  next_port one other same (Fires note) w here = refl

  ports_same : (ports : List PortSymbol) (first : ℕ)
      → ((j root : ℕ) (port : PortSymbol) → slice_get ports j ≡ Some port → slice_get (numbers_from first (length ports)) j ≡ Some root → DoesPort c.parts.program trees c.number s port root)
      → All (TriggersTyped c.parts.program c.number s) ports → (v : LocalView) → In v → run_scan (ports_run c (numbers_from first (length ports))) v ≡ run_scan (ports_tried s ports) v
  ports_same [] first does typed v here = refl
  ports_same (port ∷ ports) first does typed v here =
      then_same (λ (x : Tried) w. In w) (port_run c first) (port_tried s port)
      (unless_fired (ports_run c (numbers_from (first + 1) (length ports)))) (unless_fired (ports_tried s ports))
      (next_port (ports_run c (numbers_from (first + 1) (length ports))) (ports_tried s ports)
      (λ w holds. ports_same ports (first + 1) (λ j root q at is_root. does (suc j) root q at is_root) (All-tail (TriggersTyped c.parts.program c.number s) port ports typed) w holds))
      v (port_same port first (does 0 first port refl refl) (All-head (TriggersTyped c.parts.program c.number s) port ports typed) v here)
      (stays_in c.parts.program c.number (port_tried s port) v here)

  pub all_same : (v : LocalView) → In v → run_scan (ports_run c c.head.ports) v ≡ run_scan (ports_tried s s.machine.in_ports) v
  all_same v here =
      ap (λ (h : Head). run_scan (ports_run c h.ports) v) is.head
      ∙ ports_same s.machine.in_ports is.start (λ j root port at is_root. is.carries.ports j root port at (ap (λ (h : Head). slice_get h.ports j) is.head ∙ is_root)) is.triggers v here
