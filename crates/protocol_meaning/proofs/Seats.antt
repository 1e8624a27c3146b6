-- The seats of a topology: in increasing number, each at a controller whose machine has a sequencer and takes requests.
use Rattle.std.proofs.Common.{◌≡◌, ◌<◌, ◌+◌, ◌∙◌, ℕ, suc, true, false, Option, None, Some, List, [], ◌∷◌, ap, refl, sym, subst, arith, length, get_or, map, unwrap_or, option_and_then}
use Rattle.std.specs.Prelude.{AllPairs, is_some, position, slice_get}
use Rattle.std.specs.List.{All, enumerate_from}
use Rattle.std.specs.Option.{option_map_or}
use Rattle.std.proofs.lemmas.Bool.{and_parts}
use Rattle.std.proofs.lemmas.List.Elements.{All-map}
use Rattle.std.proofs.lemmas.List.FromFn.{get_or-enumerate_from, length-enumerate_from}
use Rattle.std.proofs.lemmas.List.Kept.{AllPairs-cons}
use Rattle.std.proofs.lemmas.Option.{cond_some, slice_get-get_or, slice_get_within}
use Rattle.ruby_value.specs.declared.setup.MachineSetup.{MachineSetup}
use Rattle.ruby_value.specs.declared.setup.Sizes.{Sizes}
use Rattle.ruby_symbols.specs.declared.machine.MachineSymbols.{MachineSymbols}
use Rattle.ruby_symbols.specs.declared.symbols.Symbols.{Symbols}
use Rattle.ruby_symbols.specs.Prelude.{is_mandatory, mandatory}
use Rattle.slicc_ast.specs.declared.tree.item.Tree.{Tree}
use Rattle.slicc_ast.specs.declared.tree.machine.Machine.{Machine}
use Rattle.slicc_plan.specs.Prelude.{machines_of, has_sequencer, wrong_networks, setup_in, symbols_of, machine_symbols}
use Rattle.protocol_runs.specs.Prelude.{HasQueue, TakesRequests, is_in_range, machine_of}
use Rattle.ruby_topology.specs.declared.forms.Member.{Member}
use Rattle.ruby_topology.specs.declared.topology.Seat.{Seat}
use Rattle.ruby_topology.specs.declared.topology.Topology.{Topology}
use Rattle.ruby_topology.specs.Prelude.{can_be_asked, is_seat, members_from, seat_of, seats_of}
use Rattle.protocol_meaning.specs.Prelude.{AtSetup, ComesBefore, IsSeat, queue_of, seat_setup, ranges_of, setups_of}
use Rattle.protocol_meaning.proofs.Buffers.{buffers_paired, setup_of_symbol}
use Rattle.protocol_meaning.proofs.ByNumber.{machine_found, setup_there}
use Rattle.protocol_meaning.proofs.Numbers.{located}
use Rattle.protocol_meaning.proofs.Places.{at_number, pairs_picked, picked, some_and}
use Rattle.protocol_meaning.proofs.Queues.{has_its_sequencer, takes_requests_of}

-- Their order.

pairs_mapped : {X Y : Type 0} (R : Y → Y → Type 0) (f : X → Y) (xs : List X) → AllPairs (λ (a b : X). R (f a) (f b)) xs → AllPairs R (map f xs)
pairs_mapped R f [] h = λ i j d lt within. absurd (omega arith)
pairs_mapped R f (x ∷ xs) h =
    AllPairs-cons R (f x) (map f xs)
    (All-map (R (f x)) f xs (λ k d lt. h 0 (suc k) d (omega arith) (omega arith)))
    (pairs_mapped R f xs (λ i j d lt within. h (suc i) (suc j) d (omega arith) (omega arith)))

numbers_ascend : (members : List Member) → AllPairs (λ (a b : ℕ × Member). a.0 < b.0) (enumerate_from 0 members)
numbers_ascend members i j d lt within =
    let long = length-enumerate_from 0 members in
    let a : (get_or (enumerate_from 0 members) i d).0 ≡ 0 + i = ap (λ (e : ℕ × Member). e.0) (get_or-enumerate_from 0 members i d (omega (arith, long, lt, within))) in
    let b : (get_or (enumerate_from 0 members) j d).0 ≡ 0 + j = ap (λ (e : ℕ × Member). e.0) (get_or-enumerate_from 0 members j d (omega (arith, long, within))) in
    omega (arith, a, b, lt)

seat_is : (symbols : Symbols) (e : ℕ × Member) (x : Seat) → seat_of symbols e ≡ Some x → (is_seat symbols e.1.machine ≡ true) × (record { controller = e.0; sequencer = true } ≡ x)
seat_is symbols e x is = cond_some (is_seat symbols e.1.machine) (record { controller = e.0; sequencer = true }) x is

seats_ascend : (symbols : Symbols) (ranges : List (ℕ × ℕ)) (a b : ℕ × Member) (x y : Seat) → a.0 < b.0 → seat_of symbols a ≡ Some x → seat_of symbols b ≡ Some y → ComesBefore (seat_setup symbols ranges x) (seat_setup symbols ranges y)
seats_ascend symbols ranges a b x y lt e f =
    let one : a.0 ≡ x.controller = ap (λ (s : Seat). s.controller) (seat_is symbols a x e).1 in
    let other : b.0 ≡ y.controller = ap (λ (s : Seat). s.controller) (seat_is symbols b y f).1 in
    omega (arith, one, other, lt)

pub seats_in_order : (symbols : Symbols) (ranges : List (ℕ × ℕ)) (members : List Member) → AllPairs ComesBefore (map (seat_setup symbols ranges) (seats_of symbols members))
seats_in_order symbols ranges members =
    pairs_mapped ComesBefore (seat_setup symbols ranges) (seats_of symbols members)
    (pairs_picked (λ (a b : ℕ × Member). a.0 < b.0) (λ (x y : Seat). ComesBefore (seat_setup symbols ranges x) (seat_setup symbols ranges y)) (seat_of symbols)
    (seats_ascend symbols ranges) (enumerate_from 0 members) (numbers_ascend members))

-- Their controllers.

numbered_members : (members : List Member) → All (λ (e : ℕ × Member). slice_get members e.0 ≡ Some e.1) (enumerate_from 0 members)
numbered_members members k d lt =
    let long = length-enumerate_from 0 members in
    let inside : k < length members = omega (arith, long, lt) in
    let item = get_or-enumerate_from 0 members k d inside in
    let number : (get_or (enumerate_from 0 members) k d).0 ≡ k = ap (λ (e : ℕ × Member). e.0) item ∙ omega arith in
    let member : (get_or (enumerate_from 0 members) k d).1 ≡ get_or members k d.1 = ap (λ (e : ℕ × Member). e.1) item in
    ap (slice_get members) number ∙ slice_get-get_or members k d.1 inside ∙ ap Some (sym member)

-- a machine that can be asked
record CanBeAsked (symbols : Symbols) (k : ℕ) : Type 0 where
  m : MachineSymbols
  is_m : slice_get symbols.machines k ≡ Some m
  has : is_some m.sequencer ≡ true
  queue : ℕ
  is_queue : mandatory m ≡ Some queue

some_is : {X : Type 0} (o : Option X) → is_some o ≡ true → (x : X) × (o ≡ Some x)
some_is None e = absurd (cc e)
some_is (Some x) e = (x, refl)

asked_is : (symbols : Symbols) (k : ℕ) → is_seat symbols k ≡ true → CanBeAsked symbols k
asked_is symbols k e = by_machine (slice_get symbols.machines k) refl e
  where
    by_machine : (o : Option MachineSymbols) → slice_get symbols.machines k ≡ o → option_map_or can_be_asked o false ≡ true → CanBeAsked symbols k
    by_machine None is e = absurd (cc e)
    by_machine (Some m) is e =
        let parts = and_parts (is_some m.sequencer) (is_some (mandatory m)) e in
        let queue = some_is (mandatory m) parts.1 in
        record { m = m; is_m = is; has = parts.0; queue = queue.0; is_queue = queue.1 }

module _ (trees : List Tree) (t : Topology) where
  pub queue_is : (controller k queue : ℕ) (x : MachineSymbols) → machine_of (ranges_of t) controller ≡ Some k → slice_get (symbols_of trees).machines k ≡ Some x → mandatory x ≡ Some queue → queue_of (symbols_of trees) (ranges_of t) controller ≡ Some queue
  queue_is controller k queue x located at is =
      ap (λ o. option_and_then mandatory (option_and_then (slice_get (symbols_of trees).machines) o)) located
      ∙ ap (option_and_then mandatory) at ∙ is

module _ (trees : List Tree) (t : Topology) (many : length t.sizes ≡ length (machines_of trees)) where
  pub at_setup : (controller k : ℕ) (m : Machine) (own : Sizes) (P : MachineSetup → Type 0) → machine_of (ranges_of t) controller ≡ Some k → slice_get (machines_of trees) k ≡ Some m → slice_get t.sizes k ≡ Some own → P (setup_in trees k own m) → AtSetup trees t controller P
  at_setup controller k m own P located at is_own h =
      some_and P (option_and_then (λ machine. slice_get (setups_of trees t.sizes) machine) (machine_of (ranges_of t) controller)) (setup_in trees k own m)
      (ap (option_and_then (λ machine. slice_get (setups_of trees t.sizes) machine)) located ∙ setup_there trees t.sizes k m own many at is_own) h

module _ (trees : List Tree) (t : Topology) (kept : wrong_networks trees ≡ []) (many : length t.sizes ≡ length (machines_of trees)) where
  -- the queue of a machine takes requests where the machine has a sequencer
  queue_there : (k : ℕ) (m : Machine) (own : Sizes) (queue : ℕ) → slice_get (machines_of trees) k ≡ Some m → has_sequencer trees m ≡ true → mandatory (machine_symbols trees k m) ≡ Some queue → HasQueue queue (setup_in trees k own m)
  queue_there k m own queue at has is =
      let found = at_number is_mandatory (machine_symbols trees k m).buffers queue is in
      let setup = setup_of_symbol trees k (setup_in trees k own m).buffers (machine_symbols trees k m).buffers queue found.0 (buffers_paired trees k own m) found.1 in
      some_and TakesRequests (slice_get (setup_in trees k own m).buffers queue) setup.setup setup.at
      (takes_requests_of trees k m setup.setup found.0 kept at has setup.pair found.2)

  one_seat : ((k : ℕ) → k < length (machines_of trees) → (own : Sizes) × (slice_get t.sizes k ≡ Some own)) → (e : ℕ × Member) (x : Seat) → slice_get (members_from 0 t.counts) e.0 ≡ Some e.1 → seat_of (symbols_of trees) e ≡ Some x → IsSeat trees t (seat_setup (symbols_of trees) (ranges_of t) x)
  one_seat sized e x at is =
      let seat = seat_is (symbols_of trees) e x is in
      let place = located 0 0 t.counts e.0 e.1 at in
      let is_machine = place.is_machine in
      let number : e.1.machine ≡ place.place = omega (arith, is_machine) in
      let none : 0 + e.0 ≡ e.0 = omega arith in
      let found : machine_of (ranges_of t) e.0 ≡ Some place.place = subst (λ n. position (is_in_range n) (ranges_of t) ≡ Some place.place) none place.found in
      let asked = asked_is (symbols_of trees) place.place (sym (ap (is_seat (symbols_of trees)) number) ∙ seat.0) in
      let machine = machine_found trees place.place asked.m asked.is_m in
      let own = sized place.place (slice_get_within (machines_of trees) place.place machine.tree machine.at) in
      let has : has_sequencer trees machine.tree ≡ true = has_its_sequencer trees place.place machine.tree (ap (λ (y : MachineSymbols). is_some y.sequencer) machine.symbols ∙ asked.has) in
      let queue = queue_there place.place machine.tree own.0 asked.queue machine.at has (ap mandatory machine.symbols ∙ asked.is_queue) in
      let same : asked.queue ≡ unwrap_or (queue_of (symbols_of trees) (ranges_of t) e.0) 0 =
      sym (ap (λ o. unwrap_or o 0) (queue_is trees t e.0 place.place asked.queue asked.m found asked.is_m asked.is_queue)) in
      subst (λ (s : Seat). IsSeat trees t (seat_setup (symbols_of trees) (ranges_of t) s)) seat.1
      (at_setup trees t many e.0 place.place machine.tree own.0
      (λ m. HasQueue (unwrap_or (queue_of (symbols_of trees) (ranges_of t) e.0) 0) m × (true ≡ true → m.has_sequencer ≡ true)) found machine.at own.1
      (subst (λ q. HasQueue q (setup_in trees place.place own.0 machine.tree)) same queue, λ yes. has))

  pub all_seats : ((k : ℕ) → k < length (machines_of trees) → (own : Sizes) × (slice_get t.sizes k ≡ Some own)) → All (IsSeat trees t) (map (seat_setup (symbols_of trees) (ranges_of t)) (seats_of (symbols_of trees) (members_from 0 t.counts)))
  all_seats sized =
      All-map (IsSeat trees t) (seat_setup (symbols_of trees) (ranges_of t)) (seats_of (symbols_of trees) (members_from 0 t.counts))
      (picked (λ (e : ℕ × Member). slice_get (members_from 0 t.counts) e.0 ≡ Some e.1) (λ (x : Seat). IsSeat trees t (seat_setup (symbols_of trees) (ranges_of t) x)) (seat_of (symbols_of trees))
      (one_seat sized) (enumerate_from 0 (members_from 0 t.counts)) (numbered_members (members_from 0 t.counts)))
