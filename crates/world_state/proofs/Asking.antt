-- The messages of requests, one after another.
use Rattle.std.proofs.Common.{◌≡◌, ◌<◌, ◌≤◌, ◌+◌, ◌++◌, ℕ, List, [], ◌∷◌, Option, None, Some, drop, get_or, length, slice_get, refl, sym, ◌∙◌, ap, arith, append_assoc}
use Rattle.std.proofs.lemmas.List.{append-nil, drop_more, length-append, length-drop}
use Rattle.std.proofs.lemmas.List.Concat.{flat_map-append}
use Rattle.std.proofs.lemmas.Option.{slice_get-map, slice_get_past, slice_get_read}
use Rattle.std.specs.Option.{option_map}
use Rattle.ruby_value.specs.declared.asked.Asked.{Asked}
use Rattle.ruby_value.specs.declared.message.Delivery.{Delivery}
use Rattle.ruby_value.specs.declared.message.Message.{Message}
use Rattle.ctl_face.specs.declared.parcel.Parcel.{Parcel}
use Rattle.ctl_face.specs.declared.parcel.Parcel.TheVariants as parcel
use Rattle.ruby_value.specs.declared.message.MsgNo.{MsgNo}
use Rattle.protocol_runs.specs.Prelude.{parcel_numbers, request_at, request_message, request_messages, SeatSetup}
use Rattle.sequencer.specs.declared.issued.Issued.{Issued}
use Rattle.world_state.specs.declared.seat.SeatAt.{SeatAt}
use Rattle.world_state.specs.Prelude.{setup_of, setups_in, HasRoomFor, numbers_of}
use Rattle.world_state.specs.declared.requests.Requests.{Requests}

-- a seat that isn't there gets no message
pub no-seat : (seats : List SeatAt) (k : ℕ) (number : MsgNo) (now : ℕ) (a : Asked) (messages : List (Delivery Parcel)) → length seats ≤ k
    → messages ≡ messages ++ request_at (slice_get (setups_in seats) k) number now a
no-seat seats k number now a messages past =
    let none : slice_get (setups_in seats) k ≡ None = slice_get-map setup_of seats k ∙ ap (λ (o : Option SeatAt). option_map setup_of o) (slice_get_past seats k past) in
    sym (ap (λ (o : Option SeatSetup). messages ++ request_at o number now a) none ∙ append-nil messages)

-- and one that is there gets its own
pub at-seat : (seats : List SeatAt) (k : ℕ) (seat : SeatAt) (number : MsgNo) (now : ℕ) (a : Asked) → k < length seats → seat ≡ get_or seats k seat
    → record { receiver = seat.controller; message = parcel.Message (request_message number seat.queue now a) } ∷ [] ≡ request_at (slice_get (setups_in seats) k) number now a
at-seat seats k seat number now a lt is =
    let some : slice_get (setups_in seats) k ≡ Some (setup_of seat) =
    slice_get-map setup_of seats k ∙ ap (λ (o : Option SeatAt). option_map setup_of o) (slice_get_read seats (length seats) k seat refl lt is) in
    sym (ap (λ (o : Option SeatSetup). request_at o number now a) some)

-- one request more is told
pub one-more : (seats : List SeatSetup) (driver first count now k : ℕ) (d : Issued) (issued : List Issued) (messages next : List (Delivery Parcel)) → k < length issued → count ≡ first + k
    → next ≡ messages ++ request_at (slice_get seats (get_or issued k d).seat) (record { sender = driver; count = count }) now (get_or issued k d).asked
    → next ++ request_messages seats driver (first + (k + 1)) now (drop (k + 1) issued) ≡ messages ++ request_messages seats driver (first + k) now (drop k issued)
one-more seats driver first count now k d issued messages next lt at is =
    let i : Issued = get_or issued k d in
    let M : ℕ → List (Delivery Parcel) = λ n. request_at (slice_get seats i.seat) (record { sender = driver; count = n }) now i.asked in
    let rest : ℕ → List (Delivery Parcel) = λ n. request_messages seats driver n now (drop (k + 1) issued) in
    let later : first + (k + 1) ≡ first + k + 1 = omega arith in
    ap (λ (ms : List (Delivery Parcel)). ms ++ rest (first + (k + 1))) is
    ∙ ap (λ (n : ℕ). (messages ++ M n) ++ rest (first + (k + 1))) at
    ∙ ap (λ (n : ℕ). (messages ++ M (first + k)) ++ rest n) later
    ∙ append_assoc messages (M (first + k)) (rest (first + k + 1))
    ∙ sym (ap (λ (is : List Issued). messages ++ request_messages seats driver (first + k) now is) (drop_more issued k d lt))

-- the numbers with one more
pub number-more : (messages next : List (Delivery Parcel)) (numbers : List MsgNo) (receiver : ℕ) (m : Message) → numbers ≡ numbers_of messages
    → next ≡ messages ++ record { receiver = receiver; message = parcel.Message m } ∷ [] → numbers ++ m.number ∷ [] ≡ numbers_of next
number-more messages next numbers receiver m are is =
    ap (λ (ns : List MsgNo). ns ++ m.number ∷ []) are
    ∙ sym (flat_map-append (λ (d : Delivery Parcel). parcel_numbers d.message) messages (record { receiver = receiver; message = parcel.Message m } ∷ []))
    ∙ sym (ap (λ (ms : List (Delivery Parcel)). numbers_of ms) is)

-- each request has one number
number-at : (o : Option SeatSetup) (number : MsgNo) (now : ℕ) (a : Asked) → length (numbers_of (request_at o number now a)) ≡ length (request_at o number now a)
number-at None number now a = refl
number-at (Some s) number now a = refl

pub numbers-count : (seats : List SeatSetup) (driver count now : ℕ) (issued : List Issued)
    → length (numbers_of (request_messages seats driver count now issued)) ≡ length (request_messages seats driver count now issued)
numbers-count seats driver count now [] = refl
numbers-count seats driver count now (i ∷ rest) =
    let number : MsgNo = record { sender = driver; count = count } in
    let first : List (Delivery Parcel) = request_at (slice_get seats i.seat) number now i.asked in
    let later : List (Delivery Parcel) = request_messages seats driver (count + 1) now rest in
    ap (λ (ns : List MsgNo). length ns) (flat_map-append (λ (d : Delivery Parcel). parcel_numbers d.message) first later)
    ∙ length-append (numbers_of first) (numbers_of later)
    ∙ ap (λ (n : ℕ). n + length (numbers_of later)) (number-at (slice_get seats i.seat) number now i.asked)
    ∙ ap (λ (n : ℕ). length first + n) (numbers-count seats driver (count + 1) now rest)
    ∙ sym (length-append first later)

-- room for the requests that are left is room for one, and for those after it
pub left-more : (issued : List Issued) (k : ℕ) → k < length issued → length (drop k issued) ≡ length (drop (k + 1) issued) + 1
left-more issued k lt = omega (arith, length-drop k issued, length-drop (k + 1) issued)

pub fewer : (n m : ℕ) (r : Requests) → m ≤ n → HasRoomFor n r → HasRoomFor m r
fewer n m r le has = record {
  fields = has.fields;
  lists = omega (arith, le, has.lists);
  messages = omega (arith, le, has.messages);
  numbers = omega (arith, le, has.numbers);
  are_numbers = has.are_numbers;
}

at-most-one : (o : Option SeatSetup) (number : MsgNo) (now : ℕ) (a : Asked) → length (request_at o number now a) ≤ 1
at-most-one None number now a = omega arith
at-most-one (Some s) number now a = omega arith

-- there are no more messages than requests
pub few-messages : (seats : List SeatSetup) (driver count now : ℕ) (issued : List Issued) → length (request_messages seats driver count now issued) ≤ length issued
few-messages seats driver count now [] = omega arith
few-messages seats driver count now (i ∷ rest) =
    let number : MsgNo = record { sender = driver; count = count } in
    let first : List (Delivery Parcel) = request_at (slice_get seats i.seat) number now i.asked in
    let later : List (Delivery Parcel) = request_messages seats driver (count + 1) now rest in
    let one = at-most-one (slice_get seats i.seat) number now i.asked in
    let fewer_later = few-messages seats driver (count + 1) now rest in
    omega (arith, length-append first later, one, fewer_later)
