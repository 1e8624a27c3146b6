-- The topology that a file says fits its protocol.
use Rattle.std.proofs.Common.{◌≡◌, ◌≤◌, ◌∙◌, ◌++◌, ℕ, List, [], ap, sym, subst, length, map, sum}
use Rattle.std.specs.Prelude.{AllPairs}
use Rattle.std.specs.List.{All}
use Rattle.std.proofs.lemmas.List.Elements.{All-weaker}
use Rattle.std.proofs.lemmas.List.FromFn.{length-map-range_with_len}
use Rattle.slicc_ast.specs.declared.tree.item.Tree.{Tree}
use Rattle.slicc_plan.specs.Prelude.{IsAccepted, large_bodies, call_circles, machines_of, missing_machine, missing_parts, unanswered_stars, wrong_networks, reading_changes, wrong_state_functions, symbols_of, shared_pairs}
use Rattle.slicc_plan.proofs.Room.{left_none, right_none}
use Rattle.ruby_topology.specs.declared.forms.Statement.{Statement}
use Rattle.ruby_topology.specs.declared.topology.Seat.{Seat}
use Rattle.ruby_topology.specs.declared.topology.Topology.{Topology}
use Rattle.ruby_topology.specs.Prelude.{count_or_none, lines_of, HasParts, IsTopologyOf, IsTopologySaid, members_from, seats_of, IsWithin}
use Rattle.ruby_topology.proofs.Ends.{few_counts}
use Rattle.protocol_meaning.specs.Prelude.{ComesBefore, FitsPlan, IsSeat, seat_setup, ranges_of}
use Rattle.protocol_meaning.proofs.Counts.{some_of_each}
use Rattle.protocol_meaning.proofs.Fit.{AreLawful, fits_with, sized, sizes_counted}
use Rattle.protocol_meaning.proofs.Lines.{AreKnown, IsSound, all_known}
use Rattle.slicc_plan.proofs.Machines.{symbols_counted}
use Rattle.protocol_meaning.proofs.Seats.{all_seats, seats_in_order}

pub no_wrong_networks : (trees : List Tree) → IsAccepted trees → wrong_networks trees ≡ []
no_wrong_networks trees h =
    right_none (call_circles trees ++ large_bodies trees ++ reading_changes trees ++ shared_pairs trees ++ wrong_state_functions trees) (wrong_networks trees)
    (left_none (call_circles trees ++ large_bodies trees ++ reading_changes trees ++ shared_pairs trees ++ wrong_state_functions trees ++ wrong_networks trees) (missing_machine trees)
    (left_none (call_circles trees ++ large_bodies trees ++ reading_changes trees ++ shared_pairs trees ++ wrong_state_functions trees ++ wrong_networks trees ++ missing_machine trees) (missing_parts trees)
    (left_none (call_circles trees ++ large_bodies trees ++ reading_changes trees ++ shared_pairs trees ++ wrong_state_functions trees ++ wrong_networks trees ++ missing_machine trees ++ missing_parts trees) (unanswered_stars trees) h.of_machines)))

said_fits : (trees : List Tree) (t : Topology) (said : List Statement) → AreLawful trees → wrong_networks trees ≡ [] → AreKnown (symbols_of trees) said → IsTopologySaid (symbols_of trees) said t → FitsPlan trees t
said_fits trees t said laws kept known top =
    let counts = top.parts.counts_are in
    let within : All IsWithin said = All-weaker (IsSound (symbols_of trees)) IsWithin (λ s h. h.within) said known.sound in
    let parts : HasParts (symbols_of trees) said t.counts t = subst (λ c. HasParts (symbols_of trees) said c t) (sym counts) top.parts in
    let some : All (λ (c : ℕ). 1 ≤ c) t.counts = subst (All (λ (c : ℕ). 1 ≤ c)) (sym counts) (some_of_each (symbols_of trees) said within top.each_machine) in
    let few : sum t.counts ≤ 64 = few_counts (symbols_of trees) said t.counts counts known.few in
    let each : length t.counts ≡ length (machines_of trees) =
    ap (λ (c : List ℕ). length c) counts ∙ length-map-range_with_len (count_or_none said) 0 (length (symbols_of trees).machines) ∙ symbols_counted trees in
    let seats : seats_of (symbols_of trees) (members_from 0 t.counts) ≡ t.seats =
    ap (λ c. seats_of (symbols_of trees) (members_from 0 c)) counts ∙ sym top.seats in
    fits_with trees t said laws parts known some few each
    (record {
      some = top.some_seat;
      ascending = subst (λ (ss : List Seat). AllPairs ComesBefore (map (seat_setup (symbols_of trees) (ranges_of t)) ss)) seats
          (seats_in_order (symbols_of trees) (ranges_of t) (members_from 0 t.counts));
      each = subst (λ (ss : List Seat). All (IsSeat trees t) (map (seat_setup (symbols_of trees) (ranges_of t)) ss)) seats
          (all_seats trees t kept (sizes_counted trees t said laws parts known some few each) (sized trees t said laws parts known some few each));
    })

pub read_fits : (trees : List Tree) (bytes : List ℕ) (t : Topology) → AreLawful trees → wrong_networks trees ≡ [] → IsTopologyOf (symbols_of trees) bytes t → FitsPlan trees t
read_fits trees bytes t laws kept is =
    said_fits trees t is.said laws kept (all_known (symbols_of trees) (lines_of bytes) is.said is.is_said) is.topology
