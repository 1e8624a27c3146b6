-- What a turn makes of the controllers is what it makes of its seats: each seat afterwards is that of its controller as it was served,
-- and a controller that has no seat stays.
use Rattle.std.proofs.Common.{◌≡◌, ◌≢◌, ◌<◌, ◌≤◌, ◌++◌, ◌∙◌, ◌⊎◌, ◌&&◌, ℕ, zero, suc, Bool, true, false, cond, List, [], ◌∷◌, Option, None, Some, inl, inr, ⊎_elim, length, refl, sym, ap, arith, get_or, slice_get, slice_set}
use Rattle.std.proofs.lemmas.Bool.{cases_eq, cases_lt, eq-eqb, ne_eqb}
use Rattle.std.proofs.lemmas.List.Sums.{fold-append}
use Rattle.std.proofs.lemmas.Option.{get_or_from_slice_get, slice_get-map, slice_get_within}
use Rattle.std.specs.List.{AllPairs, flat_map}
use Rattle.std.specs.Option.{option_and_then, option_map}
use Rattle.ruby_value.specs.Prelude.{Requests, with_request, without_first_answer}
use Rattle.ctl_face.specs.Prelude.{DriverAct, Issues, Takes, after_driver_act, after_driver_acts, Ctl}
use Rattle.sequencer.specs.declared.issued.Issued.{Issued}
use Rattle.sequencer.specs.Prelude.{Drive, Taken, after_drive, after_issuing, after_taking, Seat, Seating, changed_at, changed_seat, with_issued, with_seat, without_answer_at}
use Rattle.protocol_runs.specs.Prelude.{AreApart, SeatSetup, is_seat_of, issued_at, seat_in, seat_with, seats_in, served, taken_at}

-- a list in which one element is another
set-here : {X : Type 0} (xs : List X) (k : ℕ) (x y : X) → slice_get xs k ≡ Some x → slice_get (slice_set xs k y) k ≡ Some y
set-here [] k x y there = absurd (cc there)
set-here (z ∷ xs) zero x y there = refl
set-here (z ∷ xs) (suc k) x y there = set-here xs k x y there

set-other : {X : Type 0} (xs : List X) (j k : ℕ) (y : X) → j ≢ k → slice_get (slice_set xs j y) k ≡ slice_get xs k
set-other [] j k y apart = refl
set-other (z ∷ xs) zero zero y apart = absurd (apart refl)
set-other (z ∷ xs) zero (suc k) y apart = refl
set-other (z ∷ xs) (suc j) zero y apart = refl
set-other (z ∷ xs) (suc j) (suc k) y apart = set-other xs j k y (λ same. apart (ap suc same))

-- a seat's requests are changed
changed-here : (change : Requests → Requests) (zs : List Seat) (k : ℕ) (z : Seat) → slice_get zs k ≡ Some z
    → slice_get (changed_at change zs k) k ≡ Some (changed_seat change z)
changed-here change zs k z there =
    ap (λ (o : Option Seat). slice_get (with_seat zs k (option_map (changed_seat change) o)) k) there
    ∙ set-here zs k z (changed_seat change z) there

changed-other : (change : Requests → Requests) (zs : List Seat) (j k : ℕ) → j ≢ k → slice_get (changed_at change zs j) k ≡ slice_get zs k
changed-other change zs j k apart = by (slice_get zs j)
  where
    by : (o : Option Seat) → slice_get (with_seat zs j (option_map (changed_seat change) o)) k ≡ slice_get zs k
    by None = refl
    by (Some z) = set-other zs j k (changed_seat change z) apart

module _ (setups : List SeatSetup) (distinct : AllPairs AreApart setups) where
  -- two seats with one controller are one
  other-controller : (j k : ℕ) (a b : SeatSetup) → slice_get setups j ≡ Some a → slice_get setups k ≡ Some b → j ≢ k → a.controller ≢ b.controller
  other-controller j k a b at_j at_k apart =
      let here : get_or setups j a ≡ a = get_or_from_slice_get setups j a a at_j in
      let there : get_or setups k a ≡ b = get_or_from_slice_get setups k b a at_k in
      let within_j : j < length setups = slice_get_within setups j a at_j in
      let within_k : k < length setups = slice_get_within setups k b at_k in
      ⊎_elim
      (λ (less : j < k) same. distinct j k a less within_k (ap (λ (x : SeatSetup). x.controller) here ∙ same ∙ sym (ap (λ (x : SeatSetup). x.controller) there)))
      (λ (more : k < j) same. distinct k j a more within_j (ap (λ (x : SeatSetup). x.controller) there ∙ sym same ∙ sym (ap (λ (x : SeatSetup). x.controller) here)))
      (sides j k apart)
    where
      sides : (m n : ℕ) → m ≢ n → (m < n) ⊎ (n < m)
      sides m n differ =
          ⊎_elim (λ (less : m < n). inl less)
          (λ (above : n ≤ m). ⊎_elim (λ (more : n < m). inr more) (λ (under : m ≤ n). absurd (differ (omega arith))) (cases_lt n m))
          (cases_lt m n)

  module _ (k : ℕ) (st : SeatSetup) (there : slice_get setups k ≡ Some st) where
    -- whether what is done at a seat is done to this seat's controller
    here-is : is_seat_of st.controller (slice_get setups k) ≡ st.has_sequencer
    here-is =
        ap (λ (o : Option SeatSetup). is_seat_of st.controller o) there
        ∙ ap (λ (b : Bool). st.has_sequencer && b) (eq-eqb st.controller st.controller refl) ∙ both st.has_sequencer
      where
        both : (b : Bool) → (b && true) ≡ b
        both true = refl
        both false = refl

    other-is : (j : ℕ) → j ≢ k → is_seat_of st.controller (slice_get setups j) ≡ false
    other-is j apart = by (slice_get setups j) refl
      where
        none : (b : Bool) → (b && false) ≡ false
        none true = refl
        none false = refl

        by : (o : Option SeatSetup) → slice_get setups j ≡ o → is_seat_of st.controller o ≡ false
        by None at_j = refl
        by (Some a) at_j =
            ap (λ (b : Bool). a.has_sequencer && b) (ne_eqb a.controller st.controller (other-controller j k a st at_j there apart)) ∙ none a.has_sequencer

    -- what is done at a seat changes this seat as it changes its controller
    module _ (change : Requests → Requests) (act : DriverAct) (does : (y : Ctl) → after_driver_act y act ≡ record y { sequencer = option_map change y.sequencer }) where
      own : (y : Ctl) → changed_seat change (seat_with st y) ≡ seat_with st (after_driver_acts y (cond st.has_sequencer (act ∷ []) []))
      own y = by st.has_sequencer
        where
          by : (b : Bool) → ◌≡◌ {A = Seat} (record { controller = st.controller; requests = option_map change (cond b y.sequencer None) })
              (record { controller = st.controller; requests = cond b (after_driver_acts y (cond b (act ∷ []) [])).sequencer None })
          by true = sym (ap (λ (x : Ctl). record { controller = st.controller; requests = x.sequencer }) (does y))
          by false = refl

      step : (j : ℕ) (zs : List Seat) (y : Ctl) → slice_get zs k ≡ Some (seat_with st y)
          → slice_get (changed_at change zs j) k ≡ Some (seat_with st (after_driver_acts y (cond (is_seat_of st.controller (slice_get setups j)) (act ∷ []) [])))
      step j zs y at_k = ⊎_elim same differ (cases_eq j k)
        where
          same : j ≡ k → slice_get (changed_at change zs j) k ≡ Some (seat_with st (after_driver_acts y (cond (is_seat_of st.controller (slice_get setups j)) (act ∷ []) [])))
          same is =
              ap (λ (i : ℕ). slice_get (changed_at change zs i) k) is
              ∙ changed-here change zs k (seat_with st y) at_k
              ∙ ap (λ (z : Seat). Some z) (own y)
              ∙ ap (λ (b : Bool). Some (seat_with st (after_driver_acts y (cond b (act ∷ []) [])))) (sym here-is ∙ ap (λ (i : ℕ). is_seat_of st.controller (slice_get setups i)) (sym is))

          differ : j ≢ k → slice_get (changed_at change zs j) k ≡ Some (seat_with st (after_driver_acts y (cond (is_seat_of st.controller (slice_get setups j)) (act ∷ []) [])))
          differ apart =
              changed-other change zs j k apart ∙ at_k
              ∙ ap (λ (b : Bool). Some (seat_with st (after_driver_acts y (cond b (act ∷ []) [])))) (sym (other-is j apart))

    after-taken : (ts : List Taken) (zs : List Seat) (y : Ctl) → slice_get zs k ≡ Some (seat_with st y)
        → slice_get (after_taking zs ts) k ≡ Some (seat_with st (after_driver_acts y (flat_map (taken_at setups st.controller) ts)))
    after-taken [] zs y at_k = at_k
    after-taken (t ∷ ts) zs y at_k =
        after-taken ts (without_answer_at zs t.seat) (after_driver_acts y (taken_at setups st.controller t)) (step without_first_answer Takes (λ x. refl) t.seat zs y at_k)
        ∙ ap (λ (x : Ctl). Some (seat_with st x)) (sym (fold-append after_driver_act y (taken_at setups st.controller t) (flat_map (taken_at setups st.controller) ts)))

    after-issued : (xs : List Issued) (z : Seating) (y : Ctl) → slice_get z.seats k ≡ Some (seat_with st y)
        → slice_get (after_issuing z xs).seats k ≡ Some (seat_with st (after_driver_acts y (flat_map (issued_at setups st.controller) xs)))
    after-issued [] z y at_k = at_k
    after-issued (i ∷ xs) z y at_k =
        after-issued xs (with_issued z i) (after_driver_acts y (issued_at setups st.controller i))
        (step (λ r. with_request r i.asked) (Issues i.asked) (λ x. refl) i.seat z.seats y at_k)
        ∙ ap (λ (x : Ctl). Some (seat_with st x)) (sym (fold-append after_driver_act y (issued_at setups st.controller i) (flat_map (issued_at setups st.controller) xs)))

  seats-begin : (xs : List Ctl) (k : ℕ) (st : SeatSetup) (x : Ctl) → slice_get setups k ≡ Some st → slice_get xs st.controller ≡ Some x
      → slice_get (seats_in setups xs) k ≡ Some (seat_with st x)
  seats-begin xs k st x there at_c =
      slice_get-map (seat_in xs) setups k ∙ ap (λ (o : Option SeatSetup). option_map (seat_in xs) o) there
      ∙ ap (λ (o : Option Ctl). Some (record { controller = st.controller; requests = cond st.has_sequencer (option_and_then (λ (y : Ctl). y.sequencer) o) None })) at_c

  pub seats-served : {D : Type 0} (xs : List Ctl) (d : Drive D) (k : ℕ) (st : SeatSetup) (x : Ctl) → slice_get setups k ≡ Some st → slice_get xs st.controller ≡ Some x
      → slice_get (after_drive (record { seats = seats_in setups xs; issued = [] }) d).seats k ≡ Some (seat_with st (served setups st.controller d x))
  seats-served xs d k st x there at_c =
      after-issued k st there d.issued (record { seats = after_taking (seats_in setups xs) d.taken; issued = [] }) (after_driver_acts x (flat_map (taken_at setups st.controller) d.taken))
      (after-taken k st there d.taken (seats_in setups xs) x (seats-begin xs k st x there at_c))
      ∙ ap (λ (y : Ctl). Some (seat_with st y)) (sym (fold-append after_driver_act x (flat_map (taken_at setups st.controller) d.taken) (flat_map (issued_at setups st.controller) d.issued)))

-- a controller without a seat
module _ (setups : List SeatSetup) (c : ℕ) (none : (k : ℕ) (st : SeatSetup) → slice_get setups k ≡ Some st → st.controller ≢ c) where
  no-seat : (j : ℕ) → is_seat_of c (slice_get setups j) ≡ false
  no-seat j = by (slice_get setups j) refl
    where
      never : (b : Bool) → (b && false) ≡ false
      never true = refl
      never false = refl

      by : (o : Option SeatSetup) → slice_get setups j ≡ o → is_seat_of c o ≡ false
      by None at_j = refl
      by (Some a) at_j = ap (λ (b : Bool). a.has_sequencer && b) (ne_eqb a.controller c (none j a at_j)) ∙ never a.has_sequencer

  none-taken : (ts : List Taken) → flat_map (taken_at setups c) ts ≡ []
  none-taken [] = refl
  none-taken (t ∷ ts) = ap (λ (b : Bool). cond b (Takes ∷ []) [] ++ flat_map (taken_at setups c) ts) (no-seat t.seat) ∙ none-taken ts

  none-issued : (xs : List Issued) → flat_map (issued_at setups c) xs ≡ []
  none-issued [] = refl
  none-issued (i ∷ xs) = ap (λ (b : Bool). cond b (Issues i.asked ∷ []) [] ++ flat_map (issued_at setups c) xs) (no-seat i.seat) ∙ none-issued xs

  pub others-stay : {D : Type 0} (d : Drive D) (x : Ctl) → served setups c d x ≡ x
  others-stay d x =
      ap (λ (acts : List DriverAct). after_driver_acts x (acts ++ flat_map (issued_at setups c) d.issued)) (none-taken d.taken)
      ∙ ap (λ (acts : List DriverAct). after_driver_acts x acts) (none-issued d.issued)
