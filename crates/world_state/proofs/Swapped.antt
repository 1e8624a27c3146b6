-- Places where the sequencer of one store is another.
use Rattle.std.proofs.Common.{◌≡◌, ◌<◌, ℕ, Bool, false, not, cond, List, [], ◌∷◌, zero, suc, Option, None, Some, All, get_or, length, refl, sym, ◌∙◌, ap, subst, slice_get, slice_set, arith}
use Rattle.std.proofs.lemmas.Bool.{not-false}
use Rattle.std.proofs.lemmas.List.Elements.{All-set}
use Rattle.std.proofs.lemmas.Option.{slice_get-map, slice_get_read}
use Rattle.std.specs.Option.{option_and_then, option_map}
use Rattle.ruby_value.specs.declared.setup.MachineSetup.{MachineSetup}
use Rattle.ruby_value.specs.Prelude.{Requests}
use Rattle.protocol_runs.specs.World as runs
use Rattle.ctl_face.specs.Prelude.{Ctl}
use Rattle.ctl_store.specs.declared.parts.Parts.{Parts}
use Rattle.ctl_store.specs.Prelude.{ctl_of, machine_of, me_of, HasRoomForParcels, IsSameStore}
use Rattle.world_state.specs.Prelude.{HasRoom, HasRoomBy, Made, made_by, made_in, place_by, place_with, places_with, IsHomeIn, controllers_in, seated_one, with_requests, with_requests_at}
use Rattle.world_state.specs.declared.place.Keeper.{Keeper}
use Rattle.world_state.specs.declared.place.Keeper.TheVariants as keeper
use Rattle.world_state.specs.declared.place.Kept.{Kept}
use Rattle.world_state.specs.declared.place.Place.{Place}
use Rattle.world_state.proofs.At.{made-same, place-set}
use Rattle.world_state.specs.declared.seat.SeatAt.{SeatAt}

pub home-within : (places : List Place) (c : ℕ) → IsHomeIn (made_in places) c → c < length places
home-within [] c none = absurd none
home-within (k ∷ places) zero home = omega arith
home-within (k ∷ places) (suc c) home = let rest = home-within places c home in omega (arith, rest)

module _ (items : List Place) (a : SeatAt) (x : Place) (kept : Kept) (new : Parts) (o : Option Requests) (home : IsHomeIn (made_in items) a.controller)
    (at : x ≡ get_or items a.controller x) (is : x.keeper ≡ keeper.World kept) (has : not a.has_sequencer ≡ false)
    (ctl : ctl_of new ≡ record (ctl_of kept.store) { sequencer = o }) (same : IsSameStore kept.store new) where
  abbrev pub swapped : Place
  swapped = record { keeper = keeper.World (record { store = new; routes = kept.routes }); finished = x.finished }

  there : slice_get items a.controller ≡ Some x
  there = slice_get_read items (length items) a.controller x refl (home-within items a.controller home) at

  place-there : (held : Ctl) → slice_get (places_with held items) a.controller ≡ Some (place_with held x)
  place-there held = slice_get-map (place_with held) items a.controller ∙ ap (λ (p : Option Place). option_map (place_with held) p) there

  swapped-place : (held : Ctl) → place_with held swapped ≡ with_requests o (place_with held x)
  swapped-place held =
      ap (λ (y : Ctl). let p : runs.Place Ctl = record { controller = y; finished = x.finished; holder = None } in p) ctl
      ∙ sym (ap (λ (k : Keeper). with_requests o (place_by held x.finished k)) is)

  pub swapped-places : (held : Ctl) → places_with held (slice_set items a.controller swapped) ≡ seated_one a (places_with held items) o
  swapped-places held =
      let P : List (runs.Place Ctl) = places_with held items in
      place-set held items a.controller swapped
      ∙ ap (λ (p : runs.Place Ctl). slice_set P a.controller p) (swapped-place held)
      ∙ sym (ap (λ (p : Option (runs.Place Ctl)). with_requests_at a.controller o P p) (place-there held))
      ∙ sym (ap (λ (b : Bool). cond b (with_requests_at a.controller o P (slice_get P a.controller)) P) (not-false a.has_sequencer has))

  pub swapped-made : made_in (slice_set items a.controller swapped) ≡ made_in items
  swapped-made =
      made-same items a.controller x swapped
      (ap (λ (m : MachineSetup). let made : Made = record { machine = m; me = me_of new; routes = kept.routes } in Some made) same.machine
      ∙ ap (λ (n : ℕ). let made : Made = record { machine = machine_of kept.store; me = n; routes = kept.routes } in Some made) same.me
      ∙ sym (ap made_by is)
      ∙ ap (λ (p : Place). made_by p.keeper) at)

  pub swapped-room : ((n : ℕ) → HasRoomForParcels kept.store n → HasRoomForParcels new n) → (n : ℕ) → All (HasRoom n) items → All (HasRoom n) (slice_set items a.controller swapped)
  swapped-room room n all =
      All-set (HasRoom n) items a.controller swapped
      (room n (subst (λ (k : Keeper). HasRoomBy n k) is (subst (HasRoom n) (sym at) (all a.controller x (home-within items a.controller home))))) all

  -- what was in the sequencer is what the seat shows
  pub shown : (held : Ctl) (taken : Option Requests) → taken ≡ (ctl_of kept.store).sequencer
      → taken ≡ cond a.has_sequencer (option_and_then (λ (y : Ctl). y.sequencer) (slice_get (controllers_in (places_with held items)) a.controller)) None
  shown held taken are =
      are
      ∙ sym (ap (λ (k : Keeper). (place_by held x.finished k).controller.sequencer) is)
      ∙ sym
      (ap (λ (y : Option Ctl). option_and_then (λ (z : Ctl). z.sequencer) y)
      (slice_get-map (λ (p : runs.Place Ctl). p.controller) (places_with held items) a.controller
      ∙ ap (λ (p : Option (runs.Place Ctl)). option_map (λ (q : runs.Place Ctl). q.controller) p) (place-there held)))
      ∙ sym
      (ap (λ (b : Bool). cond b (option_and_then (λ (y : Ctl). y.sequencer) (slice_get (controllers_in (places_with held items)) a.controller)) None)
      (not-false a.has_sequencer has))
