-- An answer put in after the last one of no greater line; and what stays so of requests and answers after an edit.
use Rattle.std.proofs.Common.{◌≡◌, ◌⊎◌, ℕ, zero, suc, ◌-◌, ◌<◌, ◌≤◌, Bool, true, false, List, [], ◌∷◌, length, get_or, refl, sym, ap, subst, ⊎_elim, arith}
use Rattle.std.proofs.lemmas.Bool.Decides.{nat_tests}
use Rattle.std.proofs.lemmas.Bool.{leb-true, ltb-true}
use Rattle.std.proofs.lemmas.List.Elements.{All-tail}
use Rattle.std.specs.List.{All, AllPairs, filter, insert}
use Rattle.std.specs.Bool.{nat_lt, nat_le}
use Rattle.ruby_value.specs.declared.asked.Answer.{Answer}
use Rattle.ruby_value.proofs.Ordered.{All-insert, AllPairs-insert}
use Rattle.sequencer.specs.Prelude.{NoLater, IsAnswer, AreAnswers}
use Rattle.ruby_value.specs.Prelude.{with_answer}

filter-all : {X : Type 0} (p : X → Bool) (xs : List X) → All (λ x. p x ≡ true) xs → filter p xs ≡ xs
filter-all p [] all = refl
filter-all p (x ∷ xs) all = rw (all 0 x (omega arith)) (ap (λ z. x ∷ z) (filter-all p xs (All-tail (λ y. p y ≡ true) x xs all)))

filter-none : {X : Type 0} (p : X → Bool) (xs : List X) → All (λ x. p x ≡ false) xs → filter p xs ≡ []
filter-none p [] all = refl
filter-none p (x ∷ xs) all = rw (all 0 x (omega arith)) (filter-none p xs (All-tail (λ y. p y ≡ false) x xs all))

no_greater : (a b : ℕ) → a ≤ b → nat_le a b ≡ true
no_greater a b le = grind (arith, nat_tests)

greater : (a b : ℕ) → b < a → nat_le a b ≡ false
greater a b lt = grind (arith, nat_tests)

lesser : (a b : ℕ) → a < b → nat_lt a b ≡ true
lesser a b lt = grind (arith, nat_tests)

no_lesser : (a b : ℕ) → b ≤ a → nat_lt a b ≡ false
no_lesser a b le = grind (arith, nat_tests)

-- the place of an answer
pub record IsAnswerPlace (xs : List Answer) (line at : ℕ) : Type 0 where
  pub within : at ≤ length xs
  pub below : (k : ℕ) (d : Answer) → k < at → (get_or xs k d).asked.line ≤ line
  pub above : (k : ℕ) (d : Answer) → at ≤ k → k < length xs → line < (get_or xs k d).asked.line

further : (x : Answer) (xs : List Answer) (line at : ℕ) → IsAnswerPlace (x ∷ xs) line (suc at) → IsAnswerPlace xs line at
further x xs line at is = record {
  within = omega (arith, is.within);
  below = λ k d lt. is.below (suc k) d (omega arith);
  above = λ k d le lt. is.above (suc k) d (omega arith) (omega arith);
}

pub answer-placed : (xs : List Answer) (a : Answer) (at : ℕ) → IsAnswerPlace xs a.asked.line at → insert xs at a ≡ with_answer xs a
answer-placed [] a zero is = refl
answer-placed [] a (suc at) is = absurd (omega (arith, is.within))
answer-placed (x ∷ xs) a zero is =
    rw (
      filter-none (λ (o : Answer). nat_le o.asked.line a.asked.line) (x ∷ xs) (λ k d lt. greater (get_or (x ∷ xs) k d).asked.line a.asked.line (is.above k d (omega arith) lt)),
      filter-all (λ (o : Answer). nat_lt a.asked.line o.asked.line) (x ∷ xs) (λ k d lt. lesser a.asked.line (get_or (x ∷ xs) k d).asked.line (is.above k d (omega arith) lt)),
    ) refl
answer-placed (x ∷ xs) a (suc at) is =
    let le : x.asked.line ≤ a.asked.line = is.below 0 x (omega arith) in
    rw (no_greater x.asked.line a.asked.line le, no_lesser a.asked.line x.asked.line le)
    (ap (λ z. x ∷ z) (answer-placed xs a at (further x xs a.asked.line at is)))

-- the place that a search from the back ends at
pub answer-place : (xs : List Answer) (line at : ℕ) → AllPairs NoLater xs → at ≤ length xs
    → ((k : ℕ) (d : Answer) → at ≤ k → k < length xs → line < (get_or xs k d).asked.line)
    → ((d : Answer) → 0 < at → (get_or xs (at - 1) d).asked.line ≤ line)
    → IsAnswerPlace xs line at
answer-place xs line at pairs within above last = record {
  within = within;
  below = λ k d lt. ⊎_elim
      (λ less. let le : (get_or xs k d).asked.line ≤ (get_or xs (at - 1) d).asked.line = pairs k (at - 1) d less (omega arith) in
      let end : (get_or xs (at - 1) d).asked.line ≤ line = last d (omega arith) in omega arith)
      (λ same. subst (λ i. (get_or xs i d).asked.line ≤ line) (sym same) (last d (omega arith)))
      (before-or-at k at lt);
  above = above;
}
  where
    before-or-at : (k i : ℕ) → k < i → (k < i - 1) ⊎ (k ≡ i - 1)
    before-or-at k i lt = grind arith

-- answers stay in order with one more
pub answers-with : (xs : List Answer) (a : Answer) → AreAnswers xs → IsAnswer a → AreAnswers (with_answer xs a)
answers-with xs a are is =
    let before = λ (o : Answer). nat_le o.asked.line a.asked.line in
    let after = λ (o : Answer). nat_lt a.asked.line o.asked.line in
    record {
      ascend = AllPairs-insert NoLater (λ o p q first second. omega arith) before after a (λ o. leb-true o.asked.line a.asked.line) (λ o test. let later = ltb-true a.asked.line o.asked.line test in omega arith) xs are.ascend;
      each = All-insert IsAnswer before after a xs are.each is;
    }
