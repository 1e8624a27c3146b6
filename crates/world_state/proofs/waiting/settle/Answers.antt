use Rattle.std.proofs.Common.{◌≡◌, ◌+◌, ◌∷◌, ◌∙◌, ℕ, List, All, ap, arith, refl, reverse, subst, sym, vec_len}
use Rattle.std.specs.List.{AllPairs}
use Rattle.std.proofs.lemmas.List.{reverse-reverse}
use Rattle.ctl_face.specs.declared.parcel.Parcel.{Parcel}
use Rattle.ctl_face.specs.Prelude.{with_parcel_arrival, Ctl}
use Rattle.protocol_runs.specs.World as runs
use Rattle.world_state.specs.Prelude.{HasRoom, HaveOwnNumbers, Takes, place_with, with_parcels}
use Rattle.world_state.proofs.Posted.{newest-parcel, takes-first, takes-rest}
use Rattle.world_state.proofs.waiting.settle.Goals as goal

turned : (c : goal.After-reverse) → reverse c.reverse.new.self.items ≡ c.args.list.now.items
turned c = ap (λ (ps : List Parcel). reverse ps) c.reverse.ensures.items ∙ reverse-reverse c.args.list.now.items

pub loop-p-init : goal.loop-p-init
loop-p-init c = record {
  takes = subst (λ (ps : List Parcel). All (λ m. Takes m c.args.place.now) ps) (sym (turned c)) c.requires.takes;
  apart = subst (λ (ps : List Parcel). AllPairs HaveOwnNumbers ps) (sym (turned c)) c.requires.apart;
  room = subst (λ (n : ℕ). HasRoom n c.args.place.now) (omega arith) c.requires.room;
  come = λ held. refl;
  rest = λ held. refl;
  made = refl;
}

pub arrive-requires-clause-takes : goal.arrive-requires-clause-takes
arrive-requires-clause-takes c =
    takes-first c.loop-p.place c.in-Some.p (reverse c.loop-p.list.items) (reverse c.pop.new.self.items) (newest-parcel c.loop-p.list.items c.pop.new.self.items c.in-Some.p c.in-Some.ensures.items) c.loop-p.invariant.takes

pub loop-p-preserved : goal.loop-p-preserved
loop-p-preserved c =
    let cases = c.in-Some.ensures.cases in
    let left = reverse c.pop.new.self.items in
    let first : reverse c.loop-p.list.items ≡ c.in-Some.p ∷ left = newest-parcel c.loop-p.list.items c.pop.new.self.items c.in-Some.p c.in-Some.ensures.items in
    let more : vec_len c.loop-p.list ≡ vec_len c.pop.new.self + 1 = omega arith in
    let both = takes-rest c.loop-p.place c.arrive.new.self c.in-Some.p (reverse c.loop-p.list.items) left first c.loop-p.invariant.takes c.loop-p.invariant.apart c.arrive.ensures.others in
    record {
      takes = both.0;
      apart = both.1;
      room = c.arrive.ensures.room (vec_len c.pop.new.self) (subst (λ (n : ℕ). HasRoom n c.loop-p.place) more c.loop-p.invariant.room);
      come = λ held.
          ap (λ (q : runs.Place Ctl). with_parcels q.controller left) (c.arrive.ensures.after held)
          ∙ sym (ap (λ (ps : List Parcel). with_parcels (place_with held c.loop-p.place).controller ps) first)
          ∙ c.loop-p.invariant.come held;
      rest = λ held.
          let F : runs.Place Ctl → Ctl → runs.Place Ctl = λ q x. record q { controller = x } in
          c.arrive.ensures.after held
          ∙ ap (λ (q : runs.Place Ctl). F q (with_parcel_arrival (place_with held c.loop-p.place).controller c.in-Some.p)) (c.loop-p.invariant.rest held)
          ∙ ap (λ (x : Ctl). F (place_with held c.args.place.now) x) (sym (ap (λ (q : runs.Place Ctl). q.controller) (c.arrive.ensures.after held)));
      made = c.arrive.ensures.made ∙ c.loop-p.invariant.made;
    }
