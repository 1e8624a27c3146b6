-- What taking answers and issuing requests leaves as it was at seats: how many there are, their controllers, and that they fit.
use Rattle.std.proofs.Common.{◌≡◌, ◌≢◌, ◌≤◌, ℕ, zero, suc, true, Option, None, Some, IfSome, List, [], ◌∷◌, length, map, refl, arith, ap, sym, subst, ◌∙◌}
use Rattle.std.proofs.lemmas.Bool.{cond_both}
use Rattle.std.proofs.lemmas.List.Elements.{All-cons, All-head, All-map, All-tail}
use Rattle.std.proofs.lemmas.List.Kept.{AllPairs-cons}
use Rattle.std.proofs.lemmas.Map.Lookups.{exact_unsigned}
use Rattle.std.proofs.lemmas.Map.Views.{tells_apart}
use Rattle.std.specs.Cmp.{nat_cmp_total}
use Rattle.std.specs.FinMap as finite
use Rattle.std.specs.List.{All, AllPairs, slice_get}
use Rattle.std.specs.Option.{option_and_then, option_map}
use Rattle.std.specs.Ordering.{eq_by_cmp, nat_cmp}
use Rattle.ruby_value.proofs.Ordered.{AllPairs-head, AllPairs-nil, AllPairs-tail}
use Rattle.ruby_value.specs.declared.asked.Answer.{Answer}
use Rattle.ruby_value.specs.declared.asked.Asked.{Asked}
use Rattle.sequencer.specs.declared.issued.Issued.{Issued}
use Rattle.sequencer.specs.Prelude.{CanIssue, Drive, IsLawful, Taken, after_drive, after_issuing, after_taking, AreApart, FitSeats, FitsSeat, Seat, Seating, changed_at, changed_seat, first_answer_at, with_issued, with_seat, with_seats, without_answer_at}
use Rattle.ruby_value.specs.Prelude.{FitsRequests, IsRequest, Requests, first_of, rest_of, with_request, without_first_answer}

abbrev pub controllers : List Seat → List ℕ
controllers seats = map (λ (s : Seat). s.controller) seats

pub further : (s : Seat) (seats : List Seat) (k : ℕ) (o : Option Seat) → with_seat (s ∷ seats) (suc k) o ≡ s ∷ with_seat seats k o
further s seats k None = refl
further s seats k (Some x) = refl

length-of : (seats : List Seat) → length (controllers seats) ≡ length seats
length-of [] = refl
length-of (s ∷ rest) = ap suc (length-of rest)

pub length-by : (before after : List Seat) → controllers after ≡ controllers before → length after ≡ length before
length-by before after same = sym (length-of after) ∙ ap length same ∙ length-of before

-- One seat's requests change.
module _ (change : Requests → Requests) where
  abbrev next_seat : List Seat → ℕ → Option Seat
  next_seat seats k = option_map (changed_seat change) (slice_get seats k)

  pub controllers-changed : (seats : List Seat) (k : ℕ) → controllers (changed_at change seats k) ≡ controllers seats
  controllers-changed [] k = refl
  controllers-changed (s ∷ rest) zero = refl
  controllers-changed (s ∷ rest) (suc k) =
      ap controllers (further s rest k (next_seat rest k)) ∙ ap (λ xs. s.controller ∷ xs) (controllers-changed rest k)

  seat-fits : (c : ℕ) (o : Option Requests) → ((r : Requests) → FitsRequests r → FitsRequests (change r)) → FitsSeat (record { controller = c; requests = o })
      → FitsSeat (changed_seat change (record { controller = c; requests = o }))
  seat-fits c None keeps fit = tt
  seat-fits c (Some r) keeps fit = keeps r fit

  pub each-changed : (seats : List Seat) (k : ℕ) → ((r : Requests) → FitsRequests r → FitsRequests (change r)) → All FitsSeat seats → All FitsSeat (changed_at change seats k)
  each-changed [] k keeps fit = fit
  each-changed (s ∷ rest) zero keeps fit =
      All-cons FitsSeat (changed_seat change s) rest (seat-fits s.controller s.requests keeps (All-head FitsSeat s rest fit)) (All-tail FitsSeat s rest fit)
  each-changed (s ∷ rest) (suc k) keeps fit =
      subst (All FitsSeat) (sym (further s rest k (next_seat rest k)))
      (All-cons FitsSeat s (changed_at change rest k) (All-head FitsSeat s rest fit) (each-changed rest k keeps (All-tail FitsSeat s rest fit)))

-- Taking.
pub controllers-of-one : (seats : List Seat) (k : ℕ) → controllers (without_answer_at seats k) ≡ controllers seats
controllers-of-one seats k = controllers-changed without_first_answer seats k

pub length-of-one : (seats : List Seat) (k : ℕ) → length (without_answer_at seats k) ≡ length seats
length-of-one seats k = length-by seats (without_answer_at seats k) (controllers-of-one seats k)

pub controllers-kept : (seats : List Seat) (ts : List Taken) → controllers (after_taking seats ts) ≡ controllers seats
controllers-kept seats [] = refl
controllers-kept seats (t ∷ rest) = controllers-kept (without_answer_at seats t.seat) rest ∙ controllers-of-one seats t.seat

pub length-kept : (seats : List Seat) (ts : List Taken) → length (after_taking seats ts) ≡ length seats
length-kept seats ts = length-by seats (after_taking seats ts) (controllers-kept seats ts)

rest-none : (answers : List Answer) → first_of answers ≡ None → rest_of answers ≡ answers
rest-none [] is = refl
rest-none (a ∷ rest) is = absurd (cc is)

same-seat : (c : ℕ) (o : Option Requests) → option_and_then (λ (r : Requests). first_of r.finished) o ≡ None
    → changed_seat without_first_answer (record { controller = c; requests = o }) ≡ record { controller = c; requests = o }
same-seat c None is = refl
same-seat c (Some r) is =
    ap (λ (answers : List Answer). (let s : Seat = record { controller = c; requests = Some (record r { finished = answers }) } in s)) (rest-none r.finished is)

-- where a seat has no answer, taking one there leaves the seats as they are
pub unchanged : (seats : List Seat) (k : ℕ) → first_answer_at seats k ≡ None → without_answer_at seats k ≡ seats
unchanged [] k is = refl
unchanged (s ∷ rest) zero is = ap (λ (x : Seat). x ∷ rest) (same-seat s.controller s.requests is)
unchanged (s ∷ rest) (suc k) is =
    further s rest k (next_seat without_first_answer rest k) ∙ ap (λ (xs : List Seat). s ∷ xs) (unchanged rest k is)

abbrev IsAnswer : Answer → Type 0
IsAnswer a = IsRequest a.asked

abbrev NoLater : Answer → Answer → Type 0
NoLater a b = a.asked.line ≤ b.asked.line

rest-is : (answers : List Answer) → All IsAnswer answers → All IsAnswer (rest_of answers)
rest-is [] all = all
rest-is (a ∷ rest) all = All-tail IsAnswer a rest all

rest-ascends : (answers : List Answer) → AllPairs NoLater answers → AllPairs NoLater (rest_of answers)
rest-ascends [] pairs = pairs
rest-ascends (a ∷ rest) pairs = AllPairs-tail NoLater a rest pairs

taken-fits : (r : Requests) → FitsRequests r → FitsRequests (without_first_answer r)
taken-fits r fit = record {
  outstanding = fit.outstanding;
  finished = rest-is r.finished fit.finished;
  finished_ascend = rest-ascends r.finished fit.finished_ascend;
}

pub fit-after : (seats : List Seat) (ts : List Taken) → All FitsSeat seats → All FitsSeat (after_taking seats ts)
fit-after seats [] fit = fit
fit-after seats (t ∷ rest) fit =
    fit-after (without_answer_at seats t.seat) rest (each-changed without_first_answer seats t.seat taken-fits fit)

-- Issuing.
abbrev FitsAt : ℕ → Asked → Type 0
FitsAt line a = (a.line ≡ line) × IsRequest a

issued-fits : (a : Asked) → IsRequest a → (r : Requests) → FitsRequests r → FitsRequests (with_request r a)
issued-fits a is r fit = record {
  outstanding = λ line.
      let here : eq_by_cmp nat_cmp line a.line ≡ true → FitsAt line a = λ same. (sym (tells_apart exact_unsigned line a.line same), is) in
      rw (finite.get-insert nat_cmp_total r.outstanding a.line a line)
      (cond_both (eq_by_cmp nat_cmp line a.line) (Some a) (finite.get r.outstanding line) (λ o. IfSome o (FitsAt line)) here (λ _. fit.outstanding line));
  finished = fit.finished;
  finished_ascend = fit.finished_ascend;
}

controllers-issued : (s : Seating) (is : List Issued) → controllers (after_issuing s is).seats ≡ controllers s.seats
controllers-issued s [] = refl
controllers-issued s (i ∷ rest) =
    controllers-issued (with_issued s i) rest ∙ controllers-changed (λ (r : Requests). with_request r i.asked) s.seats i.seat

each-issued : (now : ℕ) (s : Seating) (is : List Issued) → CanIssue now s is → All FitsSeat s.seats → All FitsSeat (after_issuing s is).seats
each-issued now s [] can fit = fit
each-issued now s (i ∷ rest) can fit =
    each-issued now (with_issued s i) rest can.1
    (each-changed (λ (r : Requests). with_request r i.asked) s.seats i.seat (issued-fits i.asked can.0.request) fit)

-- Seats are apart by their controllers alone.
abbrev AllApart : List Seat → Type 0
AllApart seats = AllPairs AreApart seats

other-controllers : (s : Seat) (seats : List Seat) → All (AreApart s) seats → All (λ (c : ℕ). s.controller ≢ c) (controllers seats)
other-controllers s seats all = All-map (λ (c : ℕ). s.controller ≢ c) (λ (o : Seat). o.controller) seats all

apart-from : (c : ℕ) (seats : List Seat) → All (λ (d : ℕ). c ≢ d) (controllers seats) → All (λ (s : Seat). c ≢ s.controller) seats
apart-from c [] all = λ k d lt. absurd (omega arith)
apart-from c (s ∷ rest) all =
    All-cons (λ (o : Seat). c ≢ o.controller) s rest (All-head (λ (d : ℕ). c ≢ d) s.controller (controllers rest) all)
    (apart-from c rest (All-tail (λ (d : ℕ). c ≢ d) s.controller (controllers rest) all))

pub apart-by : (before after : List Seat) → controllers after ≡ controllers before → AllApart before → AllApart after
apart-by before [] same apart = AllPairs-nil AreApart
apart-by [] (s ∷ rest) same apart = absurd (cc same)
apart-by (b ∷ before) (s ∷ rest) same apart =
    let own : s.controller ≡ b.controller = cc same in
    let others : controllers rest ≡ controllers before = cc same in
    let far : All (λ (c : ℕ). b.controller ≢ c) (controllers rest) =
    subst (λ (cs : List ℕ). All (λ (c : ℕ). b.controller ≢ c) cs) (sym others) (other-controllers b before (AllPairs-head AreApart b before apart)) in
    AllPairs-cons AreApart s rest
    (subst (λ (c : ℕ). All (λ (o : Seat). c ≢ o.controller) rest) (sym own) (apart-from b.controller rest far))
    (apart-by before rest others (AllPairs-tail AreApart b before apart))

-- The seats of a turn.
pub controllers-after : {D : Type 0} (s : Seating) (d : Drive D) → controllers (after_drive s d).seats ≡ controllers s.seats
controllers-after s d =
    controllers-issued (with_seats s (after_taking s.seats d.taken)) d.issued ∙ controllers-kept s.seats d.taken

-- seats at which a driver has acted by the law fit as they did before
pub still-fit : {D : Type 0} (least most now : ℕ) (s : Seating) (d : Drive D) → IsLawful most now s d → FitSeats least s.seats → FitSeats least (after_drive s d).seats
still-fit least most now s d lawful fit =
    let taken : List Seat = after_taking s.seats d.taken in
    let after : List Seat = (after_drive s d).seats in
    record {
      enough = subst (λ (n : ℕ). least ≤ n) (sym (length-by s.seats after (controllers-after s d))) fit.enough;
      apart = apart-by s.seats after (controllers-after s d) fit.apart;
      each = each-issued now (with_seats s taken) d.issued lawful.issued (fit-after s.seats d.taken fit.each);
    }
