-- What a run begins with, where its topology fits its protocol.
use Rattle.std.proofs.Common.{◌≡◌, ◌≢◌, ◌≤◌, ℕ, true, Option, None, Some, List, [], ◌∷◌, IsSomeAnd, length, refl, sym, subst, arith}
use Rattle.std.proofs.lemmas.List.{length-map}
use Rattle.std.proofs.lemmas.List.Elements.{All-weaker}
use Rattle.ruby_value.specs.declared.setup.MachineSetup.{MachineSetup}
use Rattle.slicc_ast.specs.declared.tree.item.Tree.{Tree}
use Rattle.slicc_plan.specs.Prelude.{symbols_of}
use Rattle.ruby_topology.specs.declared.topology.Topology.{Topology}
use Rattle.ctl_face.specs.Prelude.{last_cycle}
use Rattle.protocol_meaning.specs.Prelude.{FitsPlan, IsSeat, seat_setup, seat_setups, ranges_of, setting_of}
use Rattle.protocol_runs.specs.Prelude.{HasQueue, IsSetting, setup_of, SeatSetup, Setting}

some_weaker : {X : Type 0} (P Q : X → Type 0) → ((x : X) → P x → Q x) → (o : Option X) → IsSomeAnd o P → IsSomeAnd o Q
some_weaker P Q weaker None is = is
some_weaker P Q weaker (Some x) is = weaker x is

one_at_least : {X : Type 0} (xs : List X) → xs ≢ [] → 1 ≤ length xs
one_at_least [] some = absurd (some refl)
one_at_least (x ∷ xs) some = omega arith

module _ {D : Type 0} (least : D → ℕ) (trees : List Tree) (t : Topology) (seed cycles limit : ℕ) (driver : D) (fit : FitsPlan trees t) where
  abbrev setting : Setting D
  setting = setting_of trees t seed cycles limit driver

  seat_has_queue : (s : SeatSetup) → IsSeat trees t s → IsSomeAnd (setup_of setting s.controller) (HasQueue s.queue)
  seat_has_queue s is =
      some_weaker (λ (m : MachineSetup). HasQueue s.queue m × (s.has_sequencer ≡ true → m.has_sequencer ≡ true)) (HasQueue s.queue) (λ m both. both.0)
      (setup_of setting s.controller) is

  pub is_setting : cycles ≤ last_cycle → least driver ≤ length t.seats → IsSetting least setting
  is_setting few enough = record {
    machines = fit.machines;
    routes = fit.routes;
    cycles = few;
    enough = subst (λ (n : ℕ). least driver ≤ n) (sym (length-map t.seats (seat_setup (symbols_of trees) (ranges_of t)))) enough;
    apart = λ i j d below within same. let less = fit.seats.ascending i j d below within in omega (arith, less, same);
    queues = All-weaker (IsSeat trees t) (λ (s : SeatSetup). IsSomeAnd (setup_of setting s.controller) (HasQueue s.queue)) seat_has_queue
        (seat_setups (symbols_of trees) t) fit.seats.each;
  }

  pub is_setting_of_one : cycles ≤ last_cycle → least driver ≤ 1 → IsSetting least setting
  is_setting_of_one few one = let some = one_at_least t.seats fit.seats.some in is_setting few (omega (arith, one, some))
