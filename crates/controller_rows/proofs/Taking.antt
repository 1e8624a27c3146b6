-- Taking answers seat by seat comes to the seats that taking the first of each has.
use Rattle.std.proofs.Common.{◌≡◌, ℕ, ◌+◌, ◌-◌, ◌<◌, ◌≤◌, suc, Option, Some, None, List, length, sym, ap, ◌∙◌, arith, refl}
use Rattle.ruby_value.specs.declared.asked.Answer.{Answer}
use Rattle.sequencer.specs.Prelude.{after_taking, Seat, first_answer_at, without_answer_at}
use Rattle.sequencer.proofs.SeatsAfter.{unchanged}
use Rattle.controller_rows.specs.Prelude.{and_taken, first_answers}

one-by : (m k : ℕ) (seats : List Seat) (o : Option Answer) → first_answer_at seats k ≡ o
    → after_taking seats (and_taken k o (first_answers m (k + 1) (without_answer_at seats k)))
    ≡ after_taking (without_answer_at seats k) (first_answers m (k + 1) (without_answer_at seats k))
one-by m k seats None is =
    ap (λ (xs : List Seat). after_taking xs (first_answers m (k + 1) (without_answer_at seats k))) (sym (unchanged seats k is))
one-by m k seats (Some a) is = refl

one : (m k : ℕ) (seats : List Seat) → after_taking seats (first_answers (suc m) k seats)
    ≡ after_taking (without_answer_at seats k) (first_answers m (k + 1) (without_answer_at seats k))
one m k seats = one-by m k seats (first_answer_at seats k) refl

-- of n seats, those before seat k were gone through
abbrev pub EndsAt : ℕ → ℕ → List Seat → List Seat → Type 0
EndsAt n k seats end = after_taking seats (first_answers (n - k) k seats) ≡ end

module _ (n k : ℕ) (seats end : List Seat) where
  pub goes-on : k < n → EndsAt n k seats end → EndsAt n (k + 1) (without_answer_at seats k) end
  goes-on lt same =
      let e : n - k ≡ suc (n - (k + 1)) = omega arith in
      sym (one (n - (k + 1)) k seats) ∙ ap (λ (m : ℕ). after_taking seats (first_answers m k seats)) (sym e) ∙ same

  pub ends : n ≤ k → EndsAt n k seats end → seats ≡ end
  ends le same =
      let e : n - k ≡ 0 = omega arith in
      ap (λ (m : ℕ). after_taking seats (first_answers m k seats)) (sym e) ∙ same

pub begins : (n : ℕ) (seats : List Seat) → EndsAt n 0 seats (after_taking seats (first_answers n 0 seats))
begins n seats = let e : n - 0 ≡ n = omega arith in ap (λ (m : ℕ). after_taking seats (first_answers m 0 seats)) e
