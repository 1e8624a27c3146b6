-- The routes of a topology fit the machines of its protocol.
use Rattle.std.proofs.Common.{◌≡◌, ◌<◌, ◌≤◌, ◌-◌, ◌∙◌, ℕ, Bool, true, false, Option, None, Some, List, ap, refl, sym, subst, arith, ⊎_elim, map, unwrap_or, option_and_then}
use Rattle.std.specs.Prelude.{IfSome, IsTrue, slice_get}
use Rattle.std.specs.List.{All, list_any, range_with_len}
use Rattle.std.specs.Option.{option_flatten, option_map}
use Rattle.std.proofs.lemmas.Bool.{and_from, cases_lt, or_right}
use Rattle.std.proofs.lemmas.List.FromFn.{length-map-range_with_len}
use Rattle.std.proofs.lemmas.Option.{slice_get_past, slice_get_within}
use Rattle.ruby_value.specs.declared.setup.BufferPlace.{BufferPlace}
use Rattle.ruby_value.specs.declared.setup.BufferPlace.TheVariants as place
use Rattle.ruby_value.specs.declared.setup.BufferSetup.{BufferSetup}
use Rattle.ruby_value.specs.declared.setup.Sizes.{Sizes}
use Rattle.ruby_value.specs.Prelude.{network_of}
use Rattle.ruby_symbols.specs.declared.machine.BufferSymbol.{BufferSymbol}
use Rattle.ruby_symbols.specs.declared.machine.MachineSymbols.{MachineSymbols}
use Rattle.ruby_symbols.specs.declared.symbols.Symbols.{Symbols}
use Rattle.ruby_symbols.specs.Prelude.{number_of}
use Rattle.slicc_ast.specs.declared.tree.item.Tree.{Tree}
use Rattle.slicc_ast.specs.declared.tree.machine.Machine.{Machine}
use Rattle.slicc_plan.specs.Prelude.{machines_of, setup_in, symbols_of, machine_symbols, HasNetworks, HasNumbers, ReceivesOnce}
use Rattle.ctl_face.specs.declared.routes.Routes.{Routes}
use Rattle.ctl_face.specs.Prelude.{buffer_place, IsFrom, IsNamed, IsOfMachine, KeepsOrder, NamesBuffers, ReceivesFrom, is_ordered, receiving_buffer}
use Rattle.ruby_topology.specs.declared.forms.Member.{Member}
use Rattle.ruby_topology.specs.declared.forms.Statement.{Statement}
use Rattle.ruby_topology.specs.Prelude.{is_ordered_said, calls_ordered, has_ordered, is_from, is_on, is_ordered_on, members_from, ranges_from, receiving_at, receiving_of}
use Rattle.protocol_meaning.proofs.Buffers.{buffers_paired, from_is, is_from_it, on_it, setup_of_symbol, symbol_of}
use Rattle.protocol_meaning.proofs.ByNumber.{symbols_found}
use Rattle.protocol_meaning.proofs.Numbers.{member_in_range}
use Rattle.protocol_meaning.proofs.Places.{all_at, all_from_gets, any_get, at_number, if_some, number_is, only_position, mapped_at, ranged_at}

-- Which networks keep order.

module _ (trees : List Tree) (said : List Statement) (routes : Routes) (ordered : routes.ordered ≡ map (is_ordered_on (symbols_of trees) said) (range_with_len 0 16)) where
  order_there : (network : ℕ) → network ≤ 15 → is_ordered_on (symbols_of trees) said network ≡ true → IsTrue (is_ordered routes network)
  order_there network small keeps =
      let item : slice_get routes.ordered network ≡ Some (is_ordered_on (symbols_of trees) said network) =
      ap (λ (os : List Bool). slice_get os network) ordered ∙ ranged_at (is_ordered_on (symbols_of trees) said) 16 network (omega arith) in
      ap (λ o. unwrap_or o false) item ∙ keeps

  pub keeps_order : (k : ℕ) (m : Machine) (sizes : Sizes) → slice_get (machines_of trees) k ≡ Some m → HasNetworks (machine_symbols trees k m) → All (KeepsOrder routes) (setup_in trees k sizes m).buffers
  keeps_order k m sizes at networks =
      all_from_gets (KeepsOrder routes) (setup_in trees k sizes m).buffers
      (λ j s here is. if_some (λ n. IsTrue (is_ordered routes n)) (network_of s.place)
      (λ n on.
      let h = symbol_of trees k (setup_in trees k sizes m).buffers (machine_symbols trees k m).buffers j s (buffers_paired trees k sizes m) here in
      let pair = h.pair in
      let on_symbol : network_of h.symbol.place ≡ Some n = ap network_of pair.same_place ∙ on in
      let small : n ≤ 15 = small_network h.symbol n on_symbol (all_at (λ (b : BufferSymbol). IfSome (network_of b.place) (λ v. v ≤ 15)) (machine_symbols trees k m).buffers j h.symbol networks.all h.at) in
      let called : calls_ordered n h.symbol ≡ true = and_from h.symbol.ordered (is_on n h.symbol.place) (pair.same_order ∙ is) (on_it n h.symbol.place on_symbol) in
      let has : has_ordered n (machine_symbols trees k m) ≡ true = any_get (calls_ordered n) (machine_symbols trees k m).buffers j h.symbol h.at called in
      let any : list_any (has_ordered n) (symbols_of trees).machines ≡ true = any_get (has_ordered n) (symbols_of trees).machines k (machine_symbols trees k m) (symbols_found trees k m at) has in
      order_there n small (or_right (is_ordered_said said n) (list_any (has_ordered n) (symbols_of trees).machines) any)))
    where
      small_network : (b : BufferSymbol) (n : ℕ) → network_of b.place ≡ Some n → IfSome (network_of b.place) (λ v. v ≤ 15) → n ≤ 15
      small_network b n e h = subst (λ o. IfSome o (λ v. v ≤ 15)) e h

-- Which buffers receive.

-- the buffers at a controller of the machine of number k
module _ (symbols : Symbols) (counts : List ℕ) (routes : Routes) (receiving : routes.receiving ≡ map (λ (c : Member). receiving_of symbols c.machine) (members_from 0 counts)) (k n : ℕ) (of : IsOfMachine (ranges_from 0 counts) k n) where
  buffers_at : slice_get routes.receiving n ≡ Some (receiving_of symbols k)
  buffers_at =
      let c = member_in_range 0 0 counts k n of in
      let same : n - 0 ≡ n = omega arith in
      let is_machine = c.is_machine in
      let number : c.member.machine ≡ k = omega (arith, is_machine) in
      let at : slice_get (members_from 0 counts) n ≡ Some c.member = sym (ap (slice_get (members_from 0 counts)) same) ∙ c.at in
      ap (λ (rs : List (List (Option ℕ))). slice_get rs n) receiving
      ∙ mapped_at (λ (c : Member). receiving_of symbols c.machine) (members_from 0 counts) n c.member at
      ∙ ap (λ j. Some (receiving_of symbols j)) number

  receiving_is : (network : ℕ) → network < 16 → receiving_buffer routes n network ≡ receiving_at symbols k network
  receiving_is network small =
      ap (λ o. option_and_then (λ (buffers : List (Option ℕ)). option_flatten (slice_get buffers network)) o) buffers_at
      ∙ ap option_flatten (ranged_at (receiving_at symbols k) 16 network small)

  receiving_past : (network : ℕ) → 16 ≤ network → receiving_buffer routes n network ≡ None
  receiving_past network large =
      ap (λ o. option_and_then (λ (buffers : List (Option ℕ)). option_flatten (slice_get buffers network)) o) buffers_at
      ∙ ap option_flatten (slice_get_past (receiving_of symbols k) network (omega (arith, length-map-range_with_len (receiving_at symbols k) 0 16)))

none_or_some : (P : ℕ → Type 0) (o p : Option ℕ) → o ≡ p → IfSome p P → IfSome o P
none_or_some P o p e h = subst (λ q. IfSome q P) (sym e) h

some_place : (o : Option BufferSetup) (s : BufferSetup) (p : BufferPlace) → o ≡ Some s → s.place ≡ p → option_map (λ (x : BufferSetup). x.place) o ≡ Some p
some_place o s p e f = ap (option_map (λ (x : BufferSetup). x.place)) e ∙ ap Some f

module _ (trees : List Tree) (counts : List ℕ) (routes : Routes) (receiving : routes.receiving ≡ map (λ (c : Member). receiving_of (symbols_of trees) c.machine) (members_from 0 counts)) (k n : ℕ) (of : IsOfMachine (ranges_from 0 counts) k n) (m : Machine) (at : slice_get (machines_of trees) k ≡ Some m) (sizes : Sizes) where
  machine_at : slice_get (symbols_of trees).machines k ≡ Some (machine_symbols trees k m)
  machine_at = symbols_found trees k m at

  receiver_from : (network : ℕ) → IsFrom (setup_in trees k sizes m) network (receiving_at (symbols_of trees) k network)
  receiver_from network =
      if_some (λ b. buffer_place (setup_in trees k sizes m) b ≡ Some (place.From network)) (receiving_at (symbols_of trees) k network)
      (λ b e.
      let own : number_of (λ (x : BufferSymbol). is_from network x.place) (machine_symbols trees k m).buffers ≡ Some b =
      sym (ap (option_and_then (λ (x : MachineSymbols). number_of (λ (y : BufferSymbol). is_from network y.place) x.buffers)) machine_at) ∙ e in
      let found = at_number (λ (x : BufferSymbol). is_from network x.place) (machine_symbols trees k m).buffers b own in
      let h = setup_of_symbol trees k (setup_in trees k sizes m).buffers (machine_symbols trees k m).buffers b found.0 (buffers_paired trees k sizes m) found.1 in
      let pair = h.pair in
      some_place (slice_get (setup_in trees k sizes m).buffers b) h.setup (place.From network) h.at (sym pair.same_place ∙ from_is network found.0.place found.2))

  pub receives_from : ReceivesFrom (setup_in trees k sizes m) n routes
  receives_from network =
      ⊎_elim
      (λ (small : network < 16).
      none_or_some (λ b. buffer_place (setup_in trees k sizes m) b ≡ Some (place.From network)) (receiving_buffer routes n network)
      (receiving_at (symbols_of trees) k network) (receiving_is (symbols_of trees) counts routes receiving k n of network small) (receiver_from network))
      (λ (large : 16 ≤ network).
      none_or_some (λ b. buffer_place (setup_in trees k sizes m) b ≡ Some (place.From network)) (receiving_buffer routes n network) None
      (receiving_past (symbols_of trees) counts routes receiving k n of network large) tt)
      (cases_lt network 16)

  named_from : HasNumbers (machine_symbols trees k m) → HasNetworks (machine_symbols trees k m) → ReceivesOnce (machine_symbols trees k m) → (buffer : ℕ) (b : BufferSymbol) (network : ℕ) → slice_get (machine_symbols trees k m).buffers buffer ≡ Some b → b.place ≡ place.From network → receiving_buffer routes n network ≡ Some buffer
  named_from numbers networks once buffer b network here is =
      let small_if : IfSome (network_of b.place) (λ v. v ≤ 15) = all_at (λ (x : BufferSymbol). IfSome (network_of x.place) (λ v. v ≤ 15)) (machine_symbols trees k m).buffers buffer b networks.all here in
      let small : network ≤ 15 = subst (λ p. IfSome (network_of p) (λ v. v ≤ 15)) is small_if in
      let few = numbers.buffers in
      let inside = slice_get_within (machine_symbols trees k m).buffers buffer b here in
      let first = only_position (λ (x : BufferSymbol). is_from network x.place) (machine_symbols trees k m).buffers buffer b (once.each network) here (is_from_it network b.place is) in
      let own : number_of (λ (x : BufferSymbol). is_from network x.place) (machine_symbols trees k m).buffers ≡ Some buffer =
      number_is (λ (x : BufferSymbol). is_from network x.place) (machine_symbols trees k m).buffers buffer (omega (arith, few, inside)) first in
      receiving_is (symbols_of trees) counts routes receiving k n of network (omega (arith, small))
      ∙ ap (option_and_then (λ (x : MachineSymbols). number_of (λ (y : BufferSymbol). is_from network y.place) x.buffers)) machine_at ∙ own

  pub names_buffers : HasNumbers (machine_symbols trees k m) → HasNetworks (machine_symbols trees k m) → ReceivesOnce (machine_symbols trees k m) → NamesBuffers (setup_in trees k sizes m).buffers n routes
  names_buffers numbers networks once buffer =
      if_some (λ (s : BufferSetup). IsNamed s.place buffer n routes) (slice_get (setup_in trees k sizes m).buffers buffer)
      (λ s here.
      let h = symbol_of trees k (setup_in trees k sizes m).buffers (machine_symbols trees k m).buffers buffer s (buffers_paired trees k sizes m) here in
      let pair = h.pair in
      by_place s.place (λ network is. named_from numbers networks once buffer h.symbol network h.at (pair.same_place ∙ is)))
    where
      by_place : (p : BufferPlace) → ((network : ℕ) → p ≡ place.From network → receiving_buffer routes n network ≡ Some buffer) → IsNamed p buffer n routes
      by_place place.Local h = tt
      by_place (place.To v receivers) h = tt
      by_place (place.From v) h = h v refl
