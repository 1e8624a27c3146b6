-- What a driver's turn makes of its seats, put back into the stores, is what a run's turn makes of the controllers.
use Rattle.std.proofs.Common.{◌≡◌, ◌==◌, ◌⊎◌, inl, inr, ◌++◌, ℕ, zero, suc, Bool, true, false, cond, List, [], ◌∷◌, Option, None, Some, refl, sym, ◌∙◌, ap, slice_get}
use Rattle.std.proofs.lemmas.Bool.{and_parts, eqb-true}
use Rattle.std.proofs.lemmas.List.Kept.{AllPairs-cons}
use Rattle.std.proofs.lemmas.List.Elements.{All-map}
use Rattle.std.proofs.lemmas.Option.{same_Some, slice_get-map}
use Rattle.std.specs.List.{AllPairs, flat_map}
use Rattle.std.specs.Option.{option_map}
use Rattle.ruby_value.proofs.Ordered.{AllPairs-head, AllPairs-nil, AllPairs-tail}
use Rattle.ruby_value.specs.Prelude.{Requests}
use Rattle.protocol_runs.specs.Prelude.{changed_from, acts_at, is_seat_of, issued_at, seat_with, seats_in, served, taken_at}
use Rattle.protocol_runs.specs.World as runs
use Rattle.protocol_runs.proofs.Places.{AreChanged, changed}
use Rattle.ctl_face.specs.Prelude.{DriverAct, Issues, Takes, after_driver_act, after_driver_acts, Ctl}
use Rattle.protocol_runs.specs.IsSetting as setting
use Rattle.protocol_runs.proofs.Seating.{seats-served}
use Rattle.sequencer.specs.declared.issued.Issued.{Issued}
use Rattle.sequencer.specs.Prelude.{Drive, Taken, after_drive, Seat}
use Rattle.world_state.specs.declared.seat.SeatAt.{SeatAt}
use Rattle.world_state.specs.Seated.{AreApart}
use Rattle.world_state.specs.Prelude.{controllers_in, seated, setup_of, setups_in}
use Rattle.world_state.proofs.Seats.{applied, given, given-by, is_own, same-places, seated-at}

-- a driver changes the requests of a sequencer alone
requests-alone : (acts : List DriverAct) (x : Ctl) → after_driver_acts x acts ≡ record x { sequencer = (after_driver_acts x acts).sequencer }
requests-alone [] x = refl
requests-alone (Takes ∷ acts) x = requests-alone acts (after_driver_act x Takes)
requests-alone (Issues asked ∷ acts) x = requests-alone acts (after_driver_act x (Issues asked))

apart-setups : (ss : List SeatAt) → AllPairs AreApart ss → AllPairs setting.AreApart (setups_in ss)
apart-setups [] apart = AllPairs-nil setting.AreApart
apart-setups (a ∷ ss) apart =
    AllPairs-cons setting.AreApart (setup_of a) (setups_in ss)
    (All-map (setting.AreApart (setup_of a)) setup_of ss (AllPairs-head AreApart a ss apart))
    (apart-setups ss (AllPairs-tail AreApart a ss apart))

-- a seat of the controller, if there is one
pub record IsOwn (c : ℕ) (ss : List SeatAt) : Type 0 where
  pub place : ℕ
  pub seat : SeatAt
  pub there : slice_get ss place ≡ Some seat
  pub own : is_own c seat ≡ true

abbrev HasNone : ℕ → List SeatAt → Type 0
HasNone c ss = (k : ℕ) (a : SeatAt) → slice_get ss k ≡ Some a → is_own c a ≡ false

find-own : (c : ℕ) (ss : List SeatAt) → IsOwn c ss ⊎ HasNone c ss
find-own c [] = inr (λ k a is. absurd (cc is))
find-own c (b ∷ ss) = by (is_own c b) refl (find-own c ss)
  where
    by : (own : Bool) → is_own c b ≡ own → IsOwn c ss ⊎ HasNone c ss → IsOwn c (b ∷ ss) ⊎ HasNone c (b ∷ ss)
    by true is rest = inl (record { place = 0; seat = b; there = refl; own = is })
    by false is (inl found) = inl (record { place = suc found.place; seat = found.seat; there = found.there; own = found.own })
    by false is (inr none) = inr none-here
      where
        none-here : HasNone c (b ∷ ss)
        none-here zero a at = let same : b ≡ a = same_Some b a at in ap (λ (x : SeatAt). is_own c x) (sym same) ∙ is
        none-here (suc k) a at = none k a at

given-none : (c : ℕ) (ss : List SeatAt) (qs : List Seat) → HasNone c ss → given ss qs c ≡ None
given-none c [] qs none = refl
given-none c (a ∷ ss) [] none = refl
given-none c (a ∷ ss) (q ∷ qs) none =
    ap (λ (b : Bool). cond b (Some q.requests) (given ss qs c)) (none 0 a refl) ∙ given-none c ss qs (λ k x at. none (suc k) x at)

seat-none : (c : ℕ) (ss : List SeatAt) (k : ℕ) → HasNone c ss → is_seat_of c (slice_get (setups_in ss) k) ≡ false
seat-none c ss k none = ap (is_seat_of c) (slice_get-map setup_of ss k) ∙ by (slice_get ss k) refl
  where
    by : (o : Option SeatAt) → slice_get ss k ≡ o → is_seat_of c (option_map setup_of o) ≡ false
    by None at = refl
    by (Some a) at = none k a at

module _ {D : Type 0} (ss : List SeatAt) (apart : AllPairs AreApart ss) (places : List (runs.Place Ctl)) (d : Drive D) where
  abbrev after : List Seat
  after = (after_drive (record { seats = seats_in (setups_in ss) (controllers_in places); issued = [] }) d).seats

  none-taken : (c : ℕ) → HasNone c ss → (ts : List Taken) → flat_map (taken_at (setups_in ss) c) ts ≡ []
  none-taken c none [] = refl
  none-taken c none (t ∷ ts) = ap (λ (b : Bool). cond b (Takes ∷ []) [] ++ flat_map (taken_at (setups_in ss) c) ts) (seat-none c ss t.seat none) ∙ none-taken c none ts

  none-issued : (c : ℕ) → HasNone c ss → (xs : List Issued) → flat_map (issued_at (setups_in ss) c) xs ≡ []
  none-issued c none [] = refl
  none-issued c none (i ∷ xs) = ap (λ (b : Bool). cond b (Issues i.asked ∷ []) [] ++ flat_map (issued_at (setups_in ss) c) xs) (seat-none c ss i.seat none) ∙ none-issued c none xs

  unserved : (c : ℕ) (x : Ctl) → HasNone c ss → served (setups_in ss) c d x ≡ x
  unserved c x none =
      ap (λ (acts : List DriverAct). after_driver_acts x (acts ++ flat_map (issued_at (setups_in ss) c) d.issued)) (none-taken c none d.taken)
      ∙ ap (λ (acts : List DriverAct). after_driver_acts x acts) (none-issued c none d.issued)

  with-own : (c : ℕ) (q : runs.Place Ctl) → slice_get places c ≡ Some q → IsOwn c ss ⊎ HasNone c ss
      → applied (given ss after c) q ≡ record q { controller = served (setups_in ss) c d q.controller }
  with-own c q there (inl own) =
      let parts = and_parts own.seat.has_sequencer (own.seat.controller == c) own.own in
      let is_c : own.seat.controller ≡ c = eqb-true own.seat.controller c parts.1 in
      let x : Ctl = q.controller in
      let controller-at : slice_get (controllers_in places) own.seat.controller ≡ Some x =
      slice_get-map (λ (p : runs.Place Ctl). p.controller) places own.seat.controller
      ∙ ap (λ (i : ℕ). option_map (λ (p : runs.Place Ctl). p.controller) (slice_get places i)) is_c
      ∙ ap (λ (o : Option (runs.Place Ctl)). option_map (λ (p : runs.Place Ctl). p.controller) o) there in
      let at : slice_get after own.place ≡ Some (seat_with (setup_of own.seat) (served (setups_in ss) own.seat.controller d x)) =
      seats-served (setups_in ss) (apart-setups ss apart) (controllers_in places) d own.place (setup_of own.seat) x
      (slice_get-map setup_of ss own.place ∙ ap (λ (o : Option SeatAt). option_map setup_of o) own.there) controller-at in
      ap (λ (g : Option (Option Requests)). applied g q) (given-by ss after own.place own.seat _ c apart own.there at own.own)
      ∙ ap (λ (b : Bool). let p : runs.Place Ctl = record q { controller = record x { sequencer = cond b (served (setups_in ss) own.seat.controller d x).sequencer None } } in p) parts.0
      ∙ ap (λ (i : ℕ). let p : runs.Place Ctl = record q { controller = record x { sequencer = (served (setups_in ss) i d x).sequencer } } in p) is_c
      ∙ ap (λ (y : Ctl). let p : runs.Place Ctl = record q { controller = y } in p) (sym (requests-alone (acts_at (setups_in ss) c d) x))
  with-own c q there (inr none) =
      ap (λ (g : Option (Option Requests)). applied g q) (given-none c ss after none)
      ∙ ap (λ (y : Ctl). let p : runs.Place Ctl = record q { controller = y } in p) (sym (unserved c q.controller none))

  changed-at : (c : ℕ) (o u : Option (runs.Place Ctl)) → AreChanged (λ i x. served (setups_in ss) i d x) c o u
      → u ≡ option_map (λ (q : runs.Place Ctl). let p : runs.Place Ctl = record q { controller = served (setups_in ss) c d q.controller } in p) o
  changed-at c None None pair = refl
  changed-at c None (Some q) pair = absurd pair
  changed-at c (Some q) None pair = absurd pair
  changed-at c (Some q) (Some r) pair = ap (λ (p : runs.Place Ctl). Some p) pair

  mapped : (c : ℕ) (o : Option (runs.Place Ctl)) → slice_get places c ≡ o
      → option_map (applied (given ss after c)) o
      ≡ option_map (λ (q : runs.Place Ctl). let p : runs.Place Ctl = record q { controller = served (setups_in ss) c d q.controller } in p) o
  mapped c None there = refl
  mapped c (Some q) there = ap (λ (p : runs.Place Ctl). Some p) (with-own c q there (find-own c ss))

  pub served-places : seated ss places after ≡ changed_from 0 (λ c x. served (setups_in ss) c d x) places
  served-places =
      same-places (seated ss places after) (changed_from 0 (λ c x. served (setups_in ss) c d x) places)
      (λ c.
      seated-at ss after places c apart ∙ mapped c (slice_get places c) refl
      ∙ sym (changed-at c (slice_get places c) (slice_get (changed_from 0 (λ i x. served (setups_in ss) i d x) places) c) (changed (λ i x. served (setups_in ss) i d x) places c)))
