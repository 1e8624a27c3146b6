-- A topology fits its protocol.
use Rattle.std.proofs.Common.{◌≡◌, ◌<◌, ◌≤◌, ◌+◌, ◌∙◌, ℕ, Bool, Option, Some, List, ap, refl, sym, subst, arith, get_or, length, sum}
use Rattle.std.specs.Prelude.{AllPairs, IsSomeAnd, slice_get}
use Rattle.std.specs.List.{All}
use Rattle.std.specs.Option.{option_map}
use Rattle.std.proofs.lemmas.List.{length-map}
use Rattle.std.proofs.lemmas.List.Elements.{All-map, All-weaker}
use Rattle.std.proofs.lemmas.List.FromFn.{length-map-range_with_len}
use Rattle.std.proofs.lemmas.Option.{slice_get_within}
use Rattle.ruby_value.specs.declared.setup.BufferSetup.{BufferSetup}
use Rattle.ruby_value.specs.declared.setup.MachineSetup.{MachineSetup}
use Rattle.ruby_value.specs.declared.setup.Sizes.{Sizes}
use Rattle.ruby_symbols.specs.declared.machine.MachineSymbols.{MachineSymbols}
use Rattle.slicc_ast.specs.declared.tree.item.Tree.{Tree}
use Rattle.slicc_ast.specs.declared.tree.machine.Machine.{Machine}
use Rattle.slicc_plan.specs.Prelude.{machines_of, AreSizesOf, HasTypeOf, setup_in, setup_of, symbols_of, machine_symbols, HasNetworks, HasNumbers, ReceivesOnce}
use Rattle.ctl_face.specs.Prelude.{IsMachine, AgreeOnTypes, AreNumbered, HasShape, IsOfMachine, IsReceiving, IsSameBuffer, IsSlot, KeepsOrder, NamesBuffers, ReceivesFrom, RoutesFit, buffer_place, most_slots, receives, slot_buffer, slot_size}
use Rattle.ruby_topology.specs.declared.forms.Member.{Member}
use Rattle.ruby_topology.specs.declared.forms.Statement.{Statement}
use Rattle.ruby_topology.specs.declared.topology.Topology.{Topology}
use Rattle.ruby_topology.specs.Prelude.{AreRows, IsBetween, HasParts, is_ordered_on, links_of, members_from, network_of, receiving_at, receiving_of, sizes_of, slots_from, IsWithin}
use Rattle.ruby_topology.proofs.Slots.{IsSizedBuffer, slots_are_buffers, slots_once, slots_small}
use Rattle.ruby_topology.proofs.Totals.{length_of_members, links_between, links_short, network_within}
use Rattle.protocol_meaning.specs.Prelude.{AreSeatsOf, AreSizesIn, AreSizesOfAll, FitsPlan, ranges_of, setups_of}
use Rattle.machine_setup.proofs.Lawful.{all_alike}
use Rattle.protocol_meaning.proofs.Buffers.{buffers_paired, setup_of_symbol}
use Rattle.protocol_meaning.proofs.Counts.{jitter_small}
use Rattle.protocol_meaning.proofs.Lines.{AreKnown, IsNewAfter, IsSound}
use Rattle.slicc_plan.proofs.Machines.{symbols_counted}
use Rattle.protocol_meaning.proofs.ByNumber.{IsSetupOf, machine_found, setup_found, setup_there, setups_counted, symbols_found}
use Rattle.protocol_meaning.proofs.Numbers.{ranges_counted, ranges_numbered}
use Rattle.protocol_meaning.proofs.Paths.{own_paths_none, rows_shaped, rows_small}
use Rattle.protocol_meaning.proofs.Places.{all_at, all_from_gets, if_some, ranged_at, some_and}
use Rattle.protocol_meaning.proofs.Routes.{keeps_order, names_buffers, receives_from}
use Rattle.protocol_meaning.proofs.Sizes.{sizes_have_room, sizes_known}

-- what is known of machines of accepted protocols
pub record AreLawful (trees : List Tree) : Type 0 where
  pub machines : (number : ℕ) (sizes : Sizes) (setup : MachineSetup) → AreSizesOf trees sizes → setup_of trees number sizes ≡ Some setup → IsMachine setup
  pub types : (number : ℕ) (sizes : Sizes) (m : Machine) → All (HasTypeOf trees) (setup_in trees number sizes m).buffers
  pub numbers : All HasNumbers (symbols_of trees).machines
  pub networks : All HasNetworks (symbols_of trees).machines
  pub once : All ReceivesOnce (symbols_of trees).machines

module _ (trees : List Tree) (t : Topology) (said : List Statement) (laws : AreLawful trees) (parts : HasParts (symbols_of trees) said t.counts t) (known : AreKnown (symbols_of trees) said) (some : All (λ (c : ℕ). 1 ≤ c) t.counts) (few : sum t.counts ≤ 64) (each : length t.counts ≡ length (machines_of trees)) where
  within : All IsWithin said
  within = All-weaker (IsSound (symbols_of trees)) IsWithin (λ s h. h.within) said known.sound

  -- sizes

  pub sizes_counted : length t.sizes ≡ length (machines_of trees)
  sizes_counted =
      ap (λ (xs : List Sizes). length xs) parts.sizes
      ∙ length-map-range_with_len (sizes_of (ranges_of t) said) 0 (length (symbols_of trees).machines) ∙ symbols_counted trees

  sizes_at : (k : ℕ) → k < length (machines_of trees) → slice_get t.sizes k ≡ Some (sizes_of (ranges_of t) said k)
  sizes_at k lt =
      let many = symbols_counted trees in
      ap (λ (xs : List Sizes). slice_get xs k) parts.sizes
      ∙ ranged_at (sizes_of (ranges_of t) said) (length (symbols_of trees).machines) k (omega (arith, many, lt))

  pub sized : (k : ℕ) → k < length (machines_of trees) → (own : Sizes) × (slice_get t.sizes k ≡ Some own)
  sized k lt = (sizes_of (ranges_of t) said k, sizes_at k lt)

  sizes_fit : AreSizesOfAll trees t
  sizes_fit = record {
    each_machine = sizes_counted ∙ sym (symbols_counted trees);
    own = λ k. if_some (λ m. IsSomeAnd (slice_get t.sizes k) (AreSizesIn (ranges_of t) m)) (slice_get (symbols_of trees).machines k)
        (λ m at.
        let inside = slice_get_within (symbols_of trees).machines k m at in
        let many = symbols_counted trees in
        some_and (AreSizesIn (ranges_of t) m) (slice_get t.sizes k) (sizes_of (ranges_of t) said k) (sizes_at k (omega (arith, inside, many)))
        (sizes_known (symbols_of trees) said (ranges_of t) k m known at));
  }

  room_at : (k : ℕ) (m : Machine) (own : Sizes) → slice_get (machines_of trees) k ≡ Some m → slice_get t.sizes k ≡ Some own → AreSizesOf trees own
  room_at k m own at is_own =
      let inside = slice_get_within (machines_of trees) k m at in
      let same : Some (sizes_of (ranges_of t) said k) ≡ Some own = sym (sizes_at k inside) ∙ is_own in
      let own_sizes : sizes_of (ranges_of t) said k ≡ own = cc same in
      subst (AreSizesOf trees) own_sizes
      (sizes_have_room trees (ranges_of t) (machine_symbols trees k m) (sizes_of (ranges_of t) said k) (ranges_counted 0 t.counts ∙ each)
      (sizes_known (symbols_of trees) said (ranges_of t) k (machine_symbols trees k m) known (symbols_found trees k m at)))

  -- machines

  one_machine : (k : ℕ) (x : MachineSetup) → IsSetupOf trees t.sizes k x → IsMachine x
  one_machine k x h =
      laws.machines k h.own x (room_at k h.tree h.own h.at h.is_own) (ap (option_map (setup_in trees k h.own)) h.at ∙ ap Some h.setup)

  machines_fit : All IsMachine (setups_of trees t.sizes)
  machines_fit =
      all_from_gets IsMachine (setups_of trees t.sizes) (λ k x at. one_machine k x (setup_found trees t.sizes k x sizes_counted at))

  -- routes

  paths_are : AreRows (network_of said) (links_of (members_from 0 t.counts) said) (sum t.counts) t.routes.paths
  paths_are =
      subst (λ n. AreRows (network_of said) (links_of (members_from 0 t.counts) said) n t.routes.paths) (length_of_members 0 t.counts) parts.paths

  receiving_shaped : HasShape (sum t.counts) 16 t.routes.receiving
  receiving_shaped =
      subst (λ (rs : List (List (Option ℕ))). HasShape (sum t.counts) 16 rs) (sym parts.routes.receiving)
      (record {
        all_rows = length-map (members_from 0 t.counts) (λ (c : Member). receiving_of (symbols_of trees) c.machine) ∙ length_of_members 0 t.counts;
        all_items = All-map (λ (row : List (Option ℕ)). length row ≡ 16) (λ (c : Member). receiving_of (symbols_of trees) c.machine) (members_from 0 t.counts)
            (λ k d lt. length-map-range_with_len (receiving_at (symbols_of trees) (get_or (members_from 0 t.counts) k d).machine) 0 16);
      })

  typed : (k : ℕ) (x : MachineSetup) → IsSetupOf trees t.sizes k x → All (HasTypeOf trees) x.buffers
  typed k x h = subst (λ (y : MachineSetup). All (HasTypeOf trees) y.buffers) h.setup (laws.types k h.own h.tree)

  order_kept : (k : ℕ) (x : MachineSetup) → IsSetupOf trees t.sizes k x → All (KeepsOrder t.routes) x.buffers
  order_kept k x h =
      subst (λ (y : MachineSetup). All (KeepsOrder t.routes) y.buffers) h.setup
      (keeps_order trees said t.routes parts.routes.ordered k h.tree h.own h.at
      (all_at HasNetworks (symbols_of trees).machines k (machine_symbols trees k h.tree) laws.networks (symbols_found trees k h.tree h.at)))

  received : (k n : ℕ) (x : MachineSetup) → IsOfMachine (ranges_of t) k n → IsSetupOf trees t.sizes k x → ReceivesFrom x n t.routes
  received k n x of h =
      subst (λ (y : MachineSetup). ReceivesFrom y n t.routes) h.setup
      (receives_from trees t.counts t.routes parts.routes.receiving k n of h.tree h.at h.own)

  named : (k n : ℕ) (x : MachineSetup) → IsOfMachine (ranges_of t) k n → IsSetupOf trees t.sizes k x → NamesBuffers x.buffers n t.routes
  named k n x of h =
      let at = symbols_found trees k h.tree h.at in
      subst (λ (y : MachineSetup). NamesBuffers y.buffers n t.routes) h.setup
      (names_buffers trees t.counts t.routes parts.routes.receiving k n of h.tree h.at h.own
      (all_at HasNumbers (symbols_of trees).machines k (machine_symbols trees k h.tree) laws.numbers at)
      (all_at HasNetworks (symbols_of trees).machines k (machine_symbols trees k h.tree) laws.networks at)
      (all_at ReceivesOnce (symbols_of trees).machines k (machine_symbols trees k h.tree) laws.once at))

  slot_there : (s : ℕ × ℕ × ℕ) → IsSizedBuffer (symbols_of trees) t.counts s → IsSlot (setups_of trees t.sizes) (ranges_of t) s
  slot_there s h =
      let owns = h.owns in
      let k = h.machine in
      let found = machine_found trees k owns.m owns.is_m in
      let own = sized k (slice_get_within (machines_of trees) k found.tree found.at) in
      let setup : MachineSetup = setup_in trees k own.0 found.tree in
      let symbol : slice_get (machine_symbols trees k found.tree).buffers (slot_buffer s) ≡ Some owns.symbol =
      ap (λ (x : MachineSymbols). slice_get x.buffers (slot_buffer s)) found.symbols ∙ owns.is_symbol in
      let buffer = setup_of_symbol trees k setup.buffers (machine_symbols trees k found.tree).buffers (slot_buffer s) owns.symbol (buffers_paired trees k own.0 found.tree) symbol in
      let pair = buffer.pair in
      let place : buffer_place setup (slot_buffer s) ≡ Some owns.symbol.place = ap (option_map (λ (b : BufferSetup). b.place)) buffer.at ∙ ap Some (sym pair.same_place) in
      record {
        machine = k;
        of_machine = h.of_machine;
        receiving = some_and (λ (m : MachineSetup). IsReceiving m (slot_buffer s)) (slice_get (setups_of trees t.sizes) k) setup
            (setup_there trees t.sizes k found.tree own.0 sizes_counted found.at own.1) (ap receives place ∙ owns.is_receiving);
      }

  routes_fit : RoutesFit (setups_of trees t.sizes) (ranges_of t) t.routes
  routes_fit =
      let all = length_of_members 0 t.counts in
      let none : 0 + sum t.counts ≡ sum t.counts = omega arith in
      record {
        total = sum t.counts;
        numbers = record {
          each_machine = ranges_counted 0 t.counts ∙ each ∙ sym (setups_counted trees t.sizes sizes_counted);
          numbered = subst (λ n. AreNumbered 0 n (ranges_of t)) none (ranges_numbered 0 t.counts some);
          limit = few;
        };
        paths = rows_shaped (network_of said) (links_of (members_from 0 t.counts) said) (sum t.counts) t.routes.paths paths_are;
        receiving = receiving_shaped;
        limits = record {
          controllers = subst (λ n. n ≤ 64) (sym receiving_shaped.all_rows) few;
          all_networks = ap (λ (os : List Bool). length os) parts.routes.ordered ∙ length-map-range_with_len (is_ordered_on (symbols_of trees) said) 0 16;
          paths = rows_small (network_of said) (links_of (members_from 0 t.counts) said) (sum t.counts) t.routes.paths paths_are (network_within said within) few
              (subst (λ n. All (IsBetween n) (links_of (members_from 0 t.counts) said)) all (links_between (members_from 0 t.counts) said within))
              (links_short (members_from 0 t.counts) said within);
          jitter = subst (λ n. n ≤ 1000) (sym parts.routes.jitter) (jitter_small said within);
          sizes = subst (All (λ s. slot_size s ≤ most_slots)) (sym parts.routes.slots) (slots_small said 0 (members_from 0 t.counts) within);
        };
        own_paths = own_paths_none (network_of said) (links_of (members_from 0 t.counts) said) (sum t.counts) t.routes.paths paths_are t.routes refl;
        order = all_from_gets (λ (m : MachineSetup). All (KeepsOrder t.routes) m.buffers) (setups_of trees t.sizes)
            (λ k x at. order_kept k x (setup_found trees t.sizes k x sizes_counted at));
        one_type = all_from_gets (λ m. All (AgreeOnTypes m) (setups_of trees t.sizes)) (setups_of trees t.sizes)
            (λ k x at. all_from_gets (AgreeOnTypes x) (setups_of trees t.sizes)
            (λ j y there. all_alike trees x.buffers y.buffers (typed k x (setup_found trees t.sizes k x sizes_counted at)) (typed j y (setup_found trees t.sizes j y sizes_counted there))));
        receivers = λ k n of. if_some (λ m. ReceivesFrom m n t.routes) (slice_get (setups_of trees t.sizes) k)
            (λ x at. received k n x of (setup_found trees t.sizes k x sizes_counted at));
        named = λ k n of. if_some (λ (m : MachineSetup). NamesBuffers m.buffers n t.routes) (slice_get (setups_of trees t.sizes) k)
            (λ x at. named k n x of (setup_found trees t.sizes k x sizes_counted at));
        slots = subst (All (IsSlot (setups_of trees t.sizes) (ranges_of t))) (sym parts.routes.slots)
            (All-weaker (IsSizedBuffer (symbols_of trees) t.counts) (IsSlot (setups_of trees t.sizes) (ranges_of t)) slot_there (slots_from said 0 (members_from 0 t.counts))
            (slots_are_buffers (symbols_of trees) t.counts (IsSound (symbols_of trees)) (λ machine buffer n sound. sound.own) said known.sound));
        one_size = subst (AllPairs (λ a b. ¬ (IsSameBuffer a b))) (sym parts.routes.slots)
            (slots_once IsNewAfter (λ machine buffer n m b k new. new) said known.once 0 (members_from 0 t.counts));
      }

  pub fits_with : AreSeatsOf trees t → FitsPlan trees t
  fits_with seats =
      record { sizes = sizes_fit; names = parts.names; machines = machines_fit; routes = routes_fit; seats = seats }
