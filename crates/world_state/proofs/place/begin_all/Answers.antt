use Rattle.std.proofs.Common.{◌≡◌, ◌<◌, ◌∙◌, length, ap, set, get_or, arith}
use Rattle.std.proofs.lemmas.List.{length-map}
use Rattle.std.proofs.lemmas.List.Edits.{map_over_more}
use Rattle.std.proofs.lemmas.List.Elements.{All-get_or, All-set}
use Rattle.protocol_runs.specs.World as runs
use Rattle.ctl_face.specs.Prelude.{Ctl}
use Rattle.world_state.specs.Prelude.{begun_at, IsHome, place_with, places_with}
use Rattle.world_state.proofs.At.{made-same, place-read, place-set}
use Rattle.world_state.proofs.place.begin_all.Goals as goal

pub begin-requires : goal.begin-requires
begin-requires c =
    let lt : c.loop-place.place-index < length c.loop-place.places = omega arith in
    All-get_or IsHome c.loop-place.places c.loop-place.place-index c.place-item.result lt c.loop-place.invariant.home

pub loop-place-preserved : goal.loop-place-preserved
loop-place-preserved c =
    let items = c.loop-place.places in
    let k = c.loop-place.place-index in
    let lt : k < length items = omega arith in
    record {
      begun = λ held.
          let x : runs.Place Ctl = place_with held (get_or items k c.place-item.result) in
          let first : length (places_with held c.args.places.now) ≡ length c.args.places.now = length-map c.args.places.now (place_with held) in
          let within : k < length (places_with held c.args.places.now) = omega (arith, first, c.loop-place-test.true) in
          place-set held items k c.begin.new.self
          ∙ ap (λ (p : runs.Place Ctl). set (places_with held items) k p) (c.begin.ensures.after held)
          ∙ map_over_more (begun_at c.args.now) (places_with held c.args.places.now) (places_with held items) k x within (c.loop-place.invariant.begun held)
          (place-read held items k c.place-item.result x lt);
      made = made-same items k c.place-item.result c.begin.new.self c.begin.ensures.made ∙ c.loop-place.invariant.made;
      home = All-set IsHome items k c.begin.new.self c.begin.ensures.home c.loop-place.invariant.home;
    }
