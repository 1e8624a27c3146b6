-- Taking answers one by one comes to the end that taking all of them has.
use Rattle.std.proofs.Common.{◌≡◌, ℕ, ◌+◌, ◌-◌, ◌<◌, ◌≤◌, suc, Option, Some, None, List, [], length, sym, ap, subst, ◌∙◌, arith}
use Rattle.ruby_value.specs.declared.asked.Answer.{Answer}
use Rattle.ruby_value.specs.declared.fault.Finding.{Finding}
use Rattle.sequencer.specs.Prelude.{after_taking, Seat, controller_at, first_answer_at, without_answer_at}
use Rattle.random_tester.specs.Prelude.{from, taken-at, from-next, none-left, State, stopped, took-none, took-on, took-stop, Finished, Took, and_before, judged, took}
use Rattle.sequencer.proofs.SeatsAfter.{length-of-one, unchanged}

-- two testers at seats take answers, from these seats on, to the same end
pub record SameEnd (t : State) (seats : List Seat) (k : ℕ) (t0 : State) (seats0 : List Seat) (k0 : ℕ) : Type 0 where
  pub tester : (took t (from k seats)).tester ≡ (took t0 (from k0 seats0)).tester
  pub finding : (took t (from k seats)).finding ≡ (took t0 (from k0 seats0)).finding
  pub places : after_taking seats (took t (from k seats)).taken ≡ after_taking seats0 (took t0 (from k0 seats0)).taken

abbrev pub finished : ℕ → ℕ → Answer → Finished
finished k c a = record { seat = k; controller = c; answer = a }

module _ (t : State) (seats : List Seat) (k : ℕ) (t0 : State) (seats0 : List Seat) (k0 : ℕ) where
  pub same-next : k < length seats → first_answer_at seats k ≡ None → SameEnd t seats k t0 seats0 k0 → SameEnd t seats (k + 1) t0 seats0 k0
  same-next lt none same =
      let on : took t (from (k + 1) seats) ≡ took t (from k seats) = ap (took t) (sym (from-next seats k lt none)) in
      record {
        tester = ap (λ (x : Took). x.tester) on ∙ same.tester;
        finding = ap (λ (x : Took). x.finding) on ∙ same.finding;
        places = ap (λ (x : Took). after_taking seats x.taken) on ∙ same.places;
      }

  pub same-none : length seats ≤ k → SameEnd t seats k t0 seats0 k0 → took t (from k seats) ≡ record { tester = t; taken = []; finding = None }
  same-none le same = ap (took t) (none-left seats k le) ∙ took-none t

  module _ (c : ℕ) (a : Answer) (is : first_answer_at seats k ≡ Some a) (of : controller_at seats k ≡ Some c) where
    pub same-on : (judged t (finished k c a)).finding ≡ None → SameEnd t seats k t0 seats0 k0
        → SameEnd (judged t (finished k c a)).tester (without_answer_at seats k) k t0 seats0 k0
    same-on none same =
        let f : Finished = finished k c a in
        let after : List Seat = without_answer_at seats k in
        let on : took t (from k seats) ≡ and_before f (took (judged t f).tester (from k after)) =
        ap (took t) (taken-at seats k k c a is of) ∙ took-on t f (from k after) none in
        record {
          tester = ap (λ (x : Took). x.tester) (sym on) ∙ same.tester;
          finding = ap (λ (x : Took). x.finding) (sym on) ∙ same.finding;
          places = ap (λ (x : Took). after_taking seats x.taken) (sym on) ∙ same.places;
        }

    pub same-stop : (x : Finding) → (judged t (finished k c a)).finding ≡ Some x
        → took t (from k seats) ≡ stopped (finished k c a) (judged t (finished k c a)).tester (judged t (finished k c a)).finding
    same-stop x some =
        let f : Finished = finished k c a in
        let after : List Seat = without_answer_at seats k in
        ap (took t) (taken-at seats k k c a is of) ∙ took-stop t f (from k after) x some

    pub fewer : length (from k (without_answer_at seats k)) + (length (without_answer_at seats k) - k) < length (from k seats) + (length seats - k)
    fewer =
        let after : List Seat = without_answer_at seats k in
        let one : length (from k seats) ≡ suc (length (from k after)) = ap length (taken-at seats k k c a is of) in
        let as_many : length after ≡ length seats = length-of-one seats k in
        omega arith

-- a tester that has ended so at these seats
pub record IsEnd (t : State) (o : Option Finding) (xs : List Seat) (t0 : State) (seats0 : List Seat) (k0 : ℕ) : Type 0 where
  pub tester : t ≡ (took t0 (from k0 seats0)).tester
  pub finding : o ≡ (took t0 (from k0 seats0)).finding
  pub places : xs ≡ after_taking seats0 (took t0 (from k0 seats0)).taken

module _ (t : State) (seats : List Seat) (k : ℕ) (t0 : State) (seats0 : List Seat) (k0 : ℕ) (same : SameEnd t seats k t0 seats0 k0) where
  pub end-none : length seats ≤ k → IsEnd t None seats t0 seats0 k0
  end-none le =
      let at : took t (from k seats) ≡ record { tester = t; taken = []; finding = None } = same-none t seats k t0 seats0 k0 le same in
      record {
        tester = ap (λ (x : Took). x.tester) (sym at) ∙ same.tester;
        finding = ap (λ (x : Took). x.finding) (sym at) ∙ same.finding;
        places = ap (λ (x : Took). after_taking seats x.taken) (sym at) ∙ same.places;
      }

  pub next-same : (xs : List Seat) → k < length seats → first_answer_at seats k ≡ None → xs ≡ without_answer_at seats k → SameEnd t xs (k + 1) t0 seats0 k0
  next-same xs lt none is =
      subst (λ (ys : List Seat). SameEnd t ys (k + 1) t0 seats0 k0) (sym (is ∙ unchanged seats k none)) (same-next t seats k t0 seats0 k0 lt none same)

  pub next-fewer : (xs : List Seat) → k < length seats → first_answer_at seats k ≡ None → xs ≡ without_answer_at seats k
      → length (from (k + 1) xs) + (length xs - (k + 1)) < length (from k seats) + (length seats - k)
  next-fewer xs lt none is =
      let as_many : length (from k seats) ≡ length (from (k + 1) seats) = ap length (from-next seats k lt none) in
      let fewer_seats : length (from (k + 1) seats) + (length seats - (k + 1)) < length (from k seats) + (length seats - k) = omega arith in
      subst (λ (ys : List Seat). length (from (k + 1) ys) + (length ys - (k + 1)) < length (from k seats) + (length seats - k))
      (sym (is ∙ unchanged seats k none)) fewer_seats

  module _ (c : ℕ) (a : Answer) (is : first_answer_at seats k ≡ Some a) (of : controller_at seats k ≡ Some c) (after : State) (o : Option Finding) (xs : List Seat)
      (tester_is : after ≡ (judged t (finished k c a)).tester) (finding_is : o ≡ (judged t (finished k c a)).finding) (places_are : xs ≡ without_answer_at seats k) where
    pub on-same : o ≡ None → SameEnd after xs k t0 seats0 k0
    on-same none =
        subst (λ (x : State). SameEnd x xs k t0 seats0 k0) (sym tester_is)
        (subst (λ (ys : List Seat). SameEnd (judged t (finished k c a)).tester ys k t0 seats0 k0) (sym places_are)
        (same-on t seats k t0 seats0 k0 c a is of (sym finding_is ∙ none) same))

    pub on-fewer : length (from k xs) + (length xs - k) < length (from k seats) + (length seats - k)
    on-fewer =
        subst (λ (ys : List Seat). length (from k ys) + (length ys - k) < length (from k seats) + (length seats - k)) (sym places_are)
        (fewer t seats k t0 seats0 k0 c a is of)

    pub end-stop : (x : Finding) → o ≡ Some x → IsEnd after o xs t0 seats0 k0
    end-stop x some =
        let at : took t (from k seats) ≡ stopped (finished k c a) (judged t (finished k c a)).tester (judged t (finished k c a)).finding =
        same-stop t seats k t0 seats0 k0 c a is of x (sym finding_is ∙ some) in
        record {
          tester = tester_is ∙ ap (λ (y : Took). y.tester) (sym at) ∙ same.tester;
          finding = finding_is ∙ ap (λ (y : Took). y.finding) (sym at) ∙ same.finding;
          places = places_are ∙ ap (λ (y : Took). after_taking seats y.taken) (sym at) ∙ same.places;
        }
