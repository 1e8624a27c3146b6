-- The topology of a plain run fits its protocol.
use Rattle.std.proofs.Common.{◌≡◌, ◌≤◌, ◌∙◌, ◌&&◌, ℕ, true, false, cond, eqb, Option, None, Some, List, [], ◌∷◌, ap, refl, sym, subst, arith, length, map, sum, unwrap_or, eqb-true}
use Rattle.std.specs.Prelude.{AllPairs, codes, find, slice_get}
use Rattle.std.specs.List.{All}
use Rattle.std.specs.Option.{option_map_or, option_or}
use Rattle.std.specs.Str.{bytes_eq}
use Rattle.std.proofs.lemmas.Bool.{and_parts}
use Rattle.std.proofs.lemmas.List.Elements.{All-cons, All-nil}
use Rattle.std.proofs.lemmas.Option.{slice_get_within}
use Rattle.std.proofs.lemmas.Slice.Eq.{bytes_eq-Decides}
use Rattle.ruby_value.specs.declared.setup.Sizes.{Sizes}
use Rattle.ruby_symbols.specs.declared.machine.BufferSymbol.{BufferSymbol}
use Rattle.ruby_symbols.specs.declared.machine.MachineSymbols.{MachineSymbols}
use Rattle.ruby_symbols.specs.declared.symbols.Symbols.{Symbols}
use Rattle.ruby_symbols.specs.Prelude.{carries_requests, has_port_on, is_mandatory, mandatory, takes_requests, is_number, number_of, request}
use Rattle.slicc_ast.specs.declared.tree.item.Tree.{Tree}
use Rattle.slicc_ast.specs.declared.tree.machine.Machine.{Machine}
use Rattle.slicc_plan.specs.declared.built_in.BuiltInType.TheVariants.{Request}
use Rattle.slicc_plan.specs.Prelude.{IsAccepted, BufferIn, PortOn, machines_of, port_message, all_ports, is_mandatory as is_mandatory_buffer, setup_in, symbols_of, machine_symbols, built_in, HasNumbers}
use Rattle.slicc_plan.specs.MessageTypes.{message_type, own_type}
use Rattle.protocol_runs.specs.Prelude.{HasQueue, TakesRequests, is_in_range, machine_of}
use Rattle.ruby_topology.specs.declared.topology.Seat.{Seat}
use Rattle.ruby_topology.specs.declared.topology.Topology.{Topology}
use Rattle.ruby_topology.specs.Prelude.{HasParts, IsPlainOf, ranges_from}
use Rattle.protocol_meaning.specs.Prelude.{ComesBefore, FitsPlan, IsSeat, queue_of, seat_setup, ranges_of}
use Rattle.protocol_meaning.proofs.Buffers.{buffers_paired, setup_of_symbol}
use Rattle.protocol_meaning.proofs.Fit.{AreLawful, fits_with, sized, sizes_counted}
use Rattle.protocol_meaning.proofs.Lines.{none_known}
use Rattle.slicc_plan.proofs.Machines.{symbols_counted}
use Rattle.protocol_meaning.proofs.ByNumber.{machine_found}
use Rattle.protocol_meaning.proofs.Places.{all_at, any_get, any_position, at_number, at_position, number_is, position_first, some_and}
use Rattle.protocol_meaning.proofs.Queues.{own_queue, takes_by_type}
use Rattle.protocol_meaning.proofs.Requests.{request_by_number}
use Rattle.protocol_meaning.proofs.Seats.{at_setup, queue_is}

-- both are one number
same_number : (a b : Option ℕ) → is_number a b ≡ true → (n : ℕ) × (a ≡ Some n) × (b ≡ Some n)
same_number None b e = absurd (cc e)
same_number (Some n) None e = absurd (cc e)
same_number (Some n) (Some k) e = let same : n ≡ k = eqb-true n k e in (n, refl, ap Some (sym same))

-- the type of a buffer of the machine's own depends on its name alone
type_by_name : (trees : List Tree) (number : ℕ) (b c : BufferIn) → b.name.text ≡ c.name.text → own_type trees number b ≡ own_type trees number c
type_by_name trees number b c same =
    ap (λ text. option_or (port_message (find (λ (p : PortOn). eqb p.machine number && bytes_eq p.buffer.name.text text) (all_ports trees))) (cond (bytes_eq text (codes "mandatoryQueue")) (Some (built_in Request)) None)) same

-- a machine on whose own `mandatoryQueue` a port of type `RubyRequest` is
record IsAskedPlainly (symbols : Symbols) : Type 0 where
  m : MachineSymbols
  is_m : slice_get symbols.machines 0 ≡ Some m
  place : ℕ
  buffer : BufferSymbol
  is_buffer : slice_get m.buffers place ≡ Some buffer
  named : is_mandatory buffer ≡ true
  carries : carries_requests symbols buffer ≡ true

asked_plainly : (symbols : Symbols) → option_map_or (takes_requests symbols) (slice_get symbols.machines 0) false ≡ true → IsAskedPlainly symbols
asked_plainly symbols e = by_machine (slice_get symbols.machines 0) refl e
  where
    by_place : (m : MachineSymbols) → slice_get symbols.machines 0 ≡ Some m → (o : Option ℕ) → number_of (λ (b : BufferSymbol). is_mandatory b && carries_requests symbols b) m.buffers ≡ o → has_port_on m o ≡ true → IsAskedPlainly symbols
    by_place m is None found e = absurd (cc e)
    by_place m is (Some place) found e =
        let at = at_number (λ (b : BufferSymbol). is_mandatory b && carries_requests symbols b) m.buffers place found in
        let parts = and_parts (is_mandatory at.0) (carries_requests symbols at.0) at.2 in
        record { m = m; is_m = is; place = place; buffer = at.0; is_buffer = at.1; named = parts.0; carries = parts.1 }

    by_machine : (o : Option MachineSymbols) → slice_get symbols.machines 0 ≡ o → option_map_or (takes_requests symbols) o false ≡ true → IsAskedPlainly symbols
    by_machine None is e = absurd (cc e)
    by_machine (Some m) is e = by_place m is (number_of (λ (b : BufferSymbol). is_mandatory b && carries_requests symbols b) m.buffers) refl e

mandatory_text : (trees : List Tree) (b : BufferIn) → is_mandatory_buffer b ≡ true → b.name.text ≡ codes "mandatoryQueue"
mandatory_text trees b e = (bytes_eq-Decides b.name.text (codes "mandatoryQueue")).0 e

-- the first of its buffers `mandatoryQueue` takes requests, as some of them does
record HasPlainQueue (trees : List Tree) (own : Sizes) (m : Machine) : Type 0 where
  queue : ℕ
  is_queue : mandatory (machine_symbols trees 0 m) ≡ Some queue
  takes : HasQueue queue (setup_in trees 0 own m)

plain_queue : (trees : List Tree) (own : Sizes) (m : Machine) (place : ℕ) (buffer : BufferSymbol) → IsAccepted trees → HasNumbers (machine_symbols trees 0 m) → slice_get (machine_symbols trees 0 m).buffers place ≡ Some buffer → is_mandatory buffer ≡ true → carries_requests (symbols_of trees) buffer ≡ true → HasPlainQueue trees own m
plain_queue trees own m place buffer accepted numbers at named carries =
    let setup = setup_of_symbol trees 0 (setup_in trees 0 own m).buffers (machine_symbols trees 0 m).buffers place buffer (buffers_paired trees 0 own m) at in
    let queue = own_queue trees 0 setup.setup buffer setup.pair named in
    let number = same_number (request (symbols_of trees)) buffer.message carries in
    let type = request_by_number trees (message_type trees 0 setup.pair.buffer) number.0 accepted (sym setup.pair.message ∙ number.2) number.1 in
    let first = any_position is_mandatory (machine_symbols trees 0 m).buffers (any_get is_mandatory (machine_symbols trees 0 m).buffers place buffer at named) in
    let there = at_position is_mandatory (machine_symbols trees 0 m).buffers first.0 first.1 in
    let inside = slice_get_within (machine_symbols trees 0 m).buffers first.0 there.0 there.1 in
    let few = numbers.buffers in
    let first_setup = setup_of_symbol trees 0 (setup_in trees 0 own m).buffers (machine_symbols trees 0 m).buffers first.0 there.0 (buffers_paired trees 0 own m) there.1 in
    let first_queue = own_queue trees 0 first_setup.setup there.0 first_setup.pair there.2 in
    let same : own_type trees 0 first_setup.pair.buffer ≡ own_type trees 0 setup.pair.buffer =
    type_by_name trees 0 first_setup.pair.buffer setup.pair.buffer
    (mandatory_text trees first_setup.pair.buffer first_queue.named ∙ sym (mandatory_text trees setup.pair.buffer queue.named)) in
    record {
      queue = first.0;
      is_queue = number_is is_mandatory (machine_symbols trees 0 m).buffers first.0 (omega (arith, few, inside)) first.1;
      takes = some_and TakesRequests (slice_get (setup_in trees 0 own m).buffers first.0) first_setup.setup first_setup.at
          (takes_by_type trees 0 first_setup.setup there.0 first_setup.pair first_queue (same ∙ sym queue.type ∙ type));
    }

first_machine : (counts : List ℕ) → counts ≡ 1 ∷ [] → machine_of (ranges_from 0 counts) 0 ≡ Some 0
first_machine counts e = ap (λ c. machine_of (ranges_from 0 c) 0) e ∙ position_first (is_in_range 0) (0, 1) [] refl

pub plain_fits : (trees : List Tree) (t : Topology) → IsAccepted trees → AreLawful trees → IsPlainOf (symbols_of trees) t → FitsPlan trees t
plain_fits trees t accepted laws is =
    let counts = is.parts.counts_are in
    let can = and_parts (eqb (length (symbols_of trees).machines) 1) (option_map_or (takes_requests (symbols_of trees)) (slice_get (symbols_of trees).machines 0) false) is.can in
    let one : length (symbols_of trees).machines ≡ 1 = eqb-true (length (symbols_of trees).machines) 1 can.0 in
    let parts : HasParts (symbols_of trees) [] t.counts t = subst (λ c. HasParts (symbols_of trees) [] c t) (sym counts) is.parts in
    let some : All (λ (c : ℕ). 1 ≤ c) t.counts = subst (All (λ (c : ℕ). 1 ≤ c)) (sym counts) (All-cons (λ (c : ℕ). 1 ≤ c) 1 [] (omega arith) (All-nil (λ (c : ℕ). 1 ≤ c))) in
    let few : sum t.counts ≤ 64 = subst (λ c. sum c ≤ 64) (sym counts) (omega arith) in
    let each : length t.counts ≡ length (machines_of trees) = ap (λ (c : List ℕ). length c) counts ∙ sym one ∙ symbols_counted trees in
    let known = none_known (symbols_of trees) in
    let many = sizes_counted trees t [] laws parts known some few each in
    let asked = asked_plainly (symbols_of trees) can.1 in
    let machine = machine_found trees 0 asked.m asked.is_m in
    let own = sized trees t [] laws parts known some few each 0 (slice_get_within (machines_of trees) 0 machine.tree machine.at) in
    let queue = plain_queue trees own.0 machine.tree asked.place asked.buffer accepted
    (all_at HasNumbers (symbols_of trees).machines 0 (machine_symbols trees 0 machine.tree) laws.numbers (asked.is_m ∙ ap Some (sym machine.symbols)))
    (ap (λ (x : MachineSymbols). slice_get x.buffers asked.place) machine.symbols ∙ asked.is_buffer) asked.named asked.carries in
    let located : machine_of (ranges_of t) 0 ≡ Some 0 = first_machine t.counts counts in
    let same : queue.queue ≡ unwrap_or (queue_of (symbols_of trees) (ranges_of t) 0) 0 =
    sym (ap (λ o. unwrap_or o 0) (queue_is trees t 0 0 queue.queue asked.m located asked.is_m (sym (ap mandatory machine.symbols) ∙ queue.is_queue))) in
    let seat : Seat = record { controller = 0; sequencer = false } in
    fits_with trees t [] laws parts known some few each
    (record {
      some = λ e. absurd (cc (e, is.seats));
      ascending = subst (λ (ss : List Seat). AllPairs ComesBefore (map (seat_setup (symbols_of trees) (ranges_of t)) ss)) (sym is.seats)
          (λ i j d lt within. absurd (omega arith));
      each = subst (λ (ss : List Seat). All (IsSeat trees t) (map (seat_setup (symbols_of trees) (ranges_of t)) ss)) (sym is.seats)
          (All-cons (IsSeat trees t) (seat_setup (symbols_of trees) (ranges_of t) (record { controller = 0; sequencer = false })) []
          (at_setup trees t many 0 0 machine.tree own.0
          (λ m. HasQueue (unwrap_or (queue_of (symbols_of trees) (ranges_of t) 0) 0) m × (false ≡ true → m.has_sequencer ≡ true)) located machine.at own.1
          (subst (λ q. HasQueue q (setup_in trees 0 own.0 machine.tree)) same queue.takes, λ yes. absurd (cc yes)))
          (All-nil (IsSeat trees t)));
    })
