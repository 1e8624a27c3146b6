-- What is found first among the numbers from one on.
use Rattle.std.proofs.Common.{◌≡◌, ◌<◌, ◌+◌, ◌∙◌, ℕ, zero, suc, Bool, true, false, Option, None, Some, ap, refl, sym, arith, find}
use Rattle.std.specs.List.{range_with_len}
use Rattle.std.specs.Option.{option_or}
use Rattle.ruby_topology.specs.Prelude.{first_some}

found_from : (p : ℕ → Bool) (a n k : ℕ) → k < n → ((j : ℕ) → j < k → p (a + j) ≡ false) → p (a + k) ≡ true → find p (range_with_len a n) ≡ Some (a + k)
found_from p a zero k inside below here = absurd (omega arith)
found_from p a (suc n) zero inside below here =
    let same : a + 0 ≡ a = omega arith in
    let first : p a ≡ true = sym (ap p same) ∙ here in
    rw first (ap Some (sym same))
found_from p a (suc n) (suc k) inside below here =
    let same : a + 0 ≡ a = omega arith in
    let first : p a ≡ false = sym (ap p same) ∙ below 0 (omega arith) in
    let next : a + 1 + k ≡ a + suc k = omega arith in
    rw first
    (found_from p (a + 1) n k (omega arith)
    (λ j lt. let n2 : a + 1 + j ≡ a + suc j = omega arith in ap p n2 ∙ below (suc j) (omega arith))
    (ap p next ∙ here) ∙ ap Some next)

none_from : (p : ℕ → Bool) (a n : ℕ) → ((j : ℕ) → j < n → p (a + j) ≡ false) → find p (range_with_len a n) ≡ None
none_from p a zero below = refl
none_from p a (suc n) below =
    let same : a + 0 ≡ a = omega arith in
    let first : p a ≡ false = sym (ap p same) ∙ below 0 (omega arith) in
    rw first (none_from p (a + 1) n (λ j lt. let next : a + 1 + j ≡ a + suc j = omega arith in ap p next ∙ below (suc j) (omega arith)))

pub found_at : (p : ℕ → Bool) (n k : ℕ) → k < n → ((j : ℕ) → j < k → p j ≡ false) → p k ≡ true → find p (range_with_len 0 n) ≡ Some k
found_at p n k inside below here =
    let none : (j : ℕ) → 0 + j ≡ j = λ j. omega arith in
    found_from p 0 n k inside (λ j lt. ap p (none j) ∙ below j lt) (ap p (none k) ∙ here) ∙ ap Some (none k)

pub found_nowhere : (p : ℕ → Bool) (n : ℕ) → ((j : ℕ) → j < n → p j ≡ false) → find p (range_with_len 0 n) ≡ None
found_nowhere p n below = none_from p 0 n (λ j lt. let none : 0 + j ≡ j = omega arith in ap p none ∙ below j lt)

some_from : {A : Type 0} (f : ℕ → Option A) (a n k : ℕ) (x : A) → k < n → ((j : ℕ) → j < k → f (a + j) ≡ None) → f (a + k) ≡ Some x → first_some f (range_with_len a n) ≡ Some x
some_from f a zero k x inside below here = absurd (omega arith)
some_from f a (suc n) zero x inside below here =
    let same : a + 0 ≡ a = omega arith in
    ap (λ o. option_or o (first_some f (range_with_len (a + 1) n))) (sym (ap f same) ∙ here)
some_from f a (suc n) (suc k) x inside below here =
    let same : a + 0 ≡ a = omega arith in
    let next : a + 1 + k ≡ a + suc k = omega arith in
    ap (λ o. option_or o (first_some f (range_with_len (a + 1) n))) (sym (ap f same) ∙ below 0 (omega arith))
    ∙ some_from f (a + 1) n k x (omega arith)
    (λ j lt. let n2 : a + 1 + j ≡ a + suc j = omega arith in ap f n2 ∙ below (suc j) (omega arith))
    (ap f next ∙ here)

no_some_from : {A : Type 0} (f : ℕ → Option A) (a n : ℕ) → ((j : ℕ) → j < n → f (a + j) ≡ None) → first_some f (range_with_len a n) ≡ None
no_some_from f a zero below = refl
no_some_from f a (suc n) below =
    let same : a + 0 ≡ a = omega arith in
    ap (λ o. option_or o (first_some f (range_with_len (a + 1) n))) (sym (ap f same) ∙ below 0 (omega arith))
    ∙ no_some_from f (a + 1) n (λ j lt. let next : a + 1 + j ≡ a + suc j = omega arith in ap f next ∙ below (suc j) (omega arith))

pub some_at : {A : Type 0} (f : ℕ → Option A) (n k : ℕ) (x : A) → k < n → ((j : ℕ) → j < k → f j ≡ None) → f k ≡ Some x → first_some f (range_with_len 0 n) ≡ Some x
some_at f n k x inside below here =
    let none : (j : ℕ) → 0 + j ≡ j = λ j. omega arith in
    some_from f 0 n k x inside (λ j lt. ap f (none j) ∙ below j lt) (ap f (none k) ∙ here)

pub some_nowhere : {A : Type 0} (f : ℕ → Option A) (n : ℕ) → ((j : ℕ) → j < n → f j ≡ None) → first_some f (range_with_len 0 n) ≡ None
some_nowhere f n below = no_some_from f 0 n (λ j lt. let none : 0 + j ≡ j = omega arith in ap f none ∙ below j lt)
