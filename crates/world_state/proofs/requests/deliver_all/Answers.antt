use Rattle.std.proofs.Common.{◌≡◌, ◌+◌, ◌∷◌, ◌∙◌, ℕ, List, All, ap, arith, reverse, subst, sym, vec_len}
use Rattle.ruby_value.specs.declared.message.Delivery.{Delivery}
use Rattle.ctl_face.specs.declared.parcel.Parcel.{Parcel}
use Rattle.protocol_runs.specs.World as runs
use Rattle.ctl_face.specs.Prelude.{Ctl}
use Rattle.world_state.specs.Prelude.{CanArrive, HasRoom, delivered, places_with}
use Rattle.world_state.proofs.ArrivingAt.{newest}
use Rattle.world_state.proofs.requests.deliver_all.Goals as goal

pub loop-d-preserved : goal.loop-d-preserved
loop-d-preserved c =
    let cases = c.in-Some.ensures.cases in
    let left = c.pop.new.self.items in
    let places = c.loop-d.places.items in
    let more : vec_len c.loop-d.newest_first ≡ vec_len c.pop.new.self + 1 = omega arith in
    let back : reverse c.loop-d.newest_first.items ≡ c.in-Some.d ∷ reverse left = newest c.loop-d.newest_first.items left c.in-Some.d c.in-Some.ensures.items in
    record {
      can = c.deliver_one.ensures.can (reverse left) (subst (CanArrive places) back c.loop-d.invariant.can);
      room = c.deliver_one.ensures.room (vec_len c.pop.new.self) (subst (λ (n : ℕ). All (HasRoom n) places) more c.loop-d.invariant.room);
      come = λ held.
          ap (λ (ps : List (runs.Place Ctl)). delivered ps (reverse left)) (c.deliver_one.ensures.places held)
          ∙ sym (ap (λ (ds : List (Delivery Parcel)). delivered (places_with held places) ds) back)
          ∙ c.loop-d.invariant.come held;
      made = c.deliver_one.ensures.made ∙ c.loop-d.invariant.made;
    }
