-- Seat by seat: sequencers that are put back, and that are taken out.
use Rattle.std.proofs.Common.{◌≡◌, ◌<◌, ◌+◌, ◌++◌, ℕ, List, [], ◌∷◌, Option, None, Some, drop, get_or, length, reverse, take, sym, ◌∙◌, ap, slice_get, cond}
use Rattle.std.proofs.lemmas.List.{drop_more, map-append, reverse-append, take_more}
use Rattle.std.proofs.lemmas.Option.{get_or_from_slice_get, slice_get-map, slice_get_within}
use Rattle.std.specs.List.{AllPairs}
use Rattle.std.specs.Option.{option_and_then, option_map}
use Rattle.ruby_value.specs.Prelude.{Requests}
use Rattle.protocol_runs.specs.World as runs
use Rattle.ctl_face.specs.Prelude.{Ctl}
use Rattle.ctl_store.specs.Prelude.{requests_of}
use Rattle.protocol_runs.specs.Prelude.{SeatSetup, seat_in, seats_in}
use Rattle.sequencer.specs.declared.owned_seat.OwnedSeat.{OwnedSeat}
use Rattle.sequencer.specs.Prelude.{seat_of, seats_of, Seat}
use Rattle.world_state.specs.declared.seat.SeatAt.{SeatAt}
use Rattle.world_state.specs.Seated.{AreApart}
use Rattle.world_state.specs.Prelude.{controllers_in, seated, seated_one, setup_of, setups_in}
use Rattle.world_state.proofs.Seats.{one-apart}

-- the last one of a list is the first of those that are left
pub newest : (before after : List OwnedSeat) (q : OwnedSeat) → before ≡ after ++ q ∷ [] → reverse before ≡ q ∷ reverse after
newest before after q is = ap (λ (qs : List OwnedSeat). reverse qs) is ∙ reverse-append after (q ∷ [])

pub put-more : (seats : List SeatAt) (i : ℕ) (d : SeatAt) (places next : List (runs.Place Ctl)) (before left : List OwnedSeat) (q : OwnedSeat) → i < length seats
    → reverse before ≡ q ∷ reverse left → next ≡ seated_one (get_or seats i d) places (requests_of q.sequencer)
    → seated (drop (i + 1) seats) next (seats_of (reverse left)) ≡ seated (drop i seats) places (seats_of (reverse before))
put-more seats i d places next before left q lt back is =
    ap (λ (ps : List (runs.Place Ctl)). seated (drop (i + 1) seats) ps (seats_of (reverse left))) is
    ∙ sym (ap (λ (ss : List SeatAt). seated ss places (seats_of (q ∷ reverse left))) (drop_more seats i d lt))
    ∙ sym (ap (λ (qs : List OwnedSeat). seated (drop i seats) places (seats_of qs)) back)

-- one seat more is out
pub out-more : (seats : List SeatAt) (i : ℕ) (d : SeatAt) (first now : List (runs.Place Ctl)) (out : List OwnedSeat) (q : OwnedSeat) → i < length seats
    → seats_of out ≡ seats_in (setups_in (take i seats)) (controllers_in first)
    → q.controller ≡ (get_or seats i d).controller
    → requests_of q.sequencer ≡ (seat_in (controllers_in now) (setup_of (get_or seats i d))).requests
    → slice_get now (get_or seats i d).controller ≡ slice_get first (get_or seats i d).controller
    → seats_of (out ++ q ∷ []) ≡ seats_in (setups_in (take (i + 1) seats)) (controllers_in first)
out-more seats i d first now out q lt are controller requests same =
    let a : SeatAt = get_or seats i d in
    let F : SeatAt → Seat = λ s. seat_in (controllers_in first) (setup_of s) in
    let one : seat_of q ≡ F a =
    ap (λ (c : ℕ). let s : Seat = record { controller = c; requests = requests_of q.sequencer } in s) controller
    ∙ ap (λ (o : Option Requests). let s : Seat = record { controller = a.controller; requests = o } in s)
    (requests
    ∙ ap (λ (o : Option Ctl). cond a.has_sequencer (option_and_then (λ (x : Ctl). x.sequencer) o) None)
    (slice_get-map (λ (p : runs.Place Ctl). p.controller) now a.controller
    ∙ ap (λ (o : Option (runs.Place Ctl)). option_map (λ (p : runs.Place Ctl). p.controller) o) same
    ∙ sym (slice_get-map (λ (p : runs.Place Ctl). p.controller) first a.controller))) in
    map-append seat_of out (q ∷ [])
    ∙ ap (λ (ss : List Seat). ss ++ seat_of q ∷ []) are
    ∙ ap (λ (s : Seat). seats_in (setups_in (take i seats)) (controllers_in first) ++ s ∷ []) one
    ∙ sym (map-append (seat_in (controllers_in first)) (setups_in (take i seats)) (setup_of a ∷ []))
    ∙ sym (ap (λ (ss : List SeatSetup). seats_in ss (controllers_in first)) (map-append setup_of (take i seats) (a ∷ [])))
    ∙ sym (ap (λ (ss : List SeatAt). seats_in (setups_in ss) (controllers_in first)) (take_more seats i d lt))

-- another seat's controller stays
pub later-more : (seats : List SeatAt) (i k : ℕ) (d a : SeatAt) (places : List (runs.Place Ctl)) (o : Option Requests) → AllPairs AreApart seats → i < k → slice_get seats k ≡ Some a
    → slice_get (seated_one (get_or seats i d) places o) a.controller ≡ slice_get places a.controller
later-more seats i k d a places o apart less there =
    let within = slice_get_within seats k a there in
    let is_a : get_or seats k d ≡ a = get_or_from_slice_get seats k a d there in
    one-apart (get_or seats i d) places o a.controller (λ same. apart i k d less within (same ∙ sym (ap (λ (s : SeatAt). s.controller) is_a)))
