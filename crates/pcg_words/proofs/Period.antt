-- A stream begins again after 2 ^ 64 words.
use Rattle.std.proofs.Common.{◌≡◌, ℕ, zero, suc, ◌+◌, ◌*◌, ◌%◌, ◌^◌, ◌<◌, ◌≤◌, refl, sym, ap, ◌∙◌, arith, add-one, add-zero, zero-add, pow-suc, mul_assoc, mul-one, zero-mul, mod-eq_of_lt, mod-lt, lit<, eq-or-lt_of_le, inl, inr}
use Rattle.std.proofs.lemmas.Nat.{mul-mod_first, mul-mod_second}
use Rattle.rand_pcg.specs.Lcg.{Lcg, started, increment_of, next_state, state_after}
use Rattle.rand_pcg.specs.Pcg.{multiplier_64, pcg32}
use Rattle.rand_pcg.proofs.LcgLemmas.{state_after_double}
use Rattle.pcg_words.specs.Prelude.{generator_after, word}
use Rattle.pcg_words.proofs.Draws.{advance-started, generator_after-zero, generator_after-one_more, word-advance}

-- the multiplier of 2 ^ j steps with the multiplier m, and b times what multiplies their increment
abbrev doubled : ℕ → ℕ → ℕ → ℕ → ℕ × ℕ
doubled w zero m b = (m, b)
doubled w (suc j) m b = doubled w j (m * m % 2 ^ w) ((m + 1) * b % 2 ^ w)

plus_of_two_steps : (w m b p : ℕ)
    → (m + 1) % 2 ^ w * (b * p % 2 ^ w) % 2 ^ w ≡ (m + 1) * b % 2 ^ w * p % 2 ^ w
plus_of_two_steps w m b p =
    let M = 2 ^ w in
    mul-mod_first (m + 1) (b * p % M) M ∙ mul-mod_second (m + 1) (b * p) M
    ∙ ap (λ (n : ℕ). n % M) (sym (mul_assoc (m + 1) b p)) ∙ sym (mul-mod_first ((m + 1) * b) p M)

twice : (j : ℕ) → 2 ^ suc j ≡ 2 ^ j + 2 ^ j
twice j = pow-suc 2 j ∙ omega arith

-- 2 ^ j steps are one step with other constants
state_after-power : (w p j m b s : ℕ)
    → state_after w m (b * p % 2 ^ w) (2 ^ j) s
    ≡ next_state w (doubled w j m b).0 ((doubled w j m b).1 * p % 2 ^ w) s
unfolding state_after
state_after-power w p zero m b s = refl
state_after-power w p (suc j) m b s =
    let M = 2 ^ w in
    ap (λ (n : ℕ). state_after w m (b * p % M) n s) (twice j)
    ∙ sym (state_after_double w m (b * p % M) (2 ^ j) s)
    ∙ ap (λ (q : ℕ). state_after w (m * m % M) q (2 ^ j) s) (plus_of_two_steps w m b p)
    ∙ state_after-power w p j (m * m % M) ((m + 1) * b % M) s

-- the same from one step with any increment, which is doubled once
state_after-twice_power : (w m p j s : ℕ)
    → let M = 2 ^ w in
    let all = doubled w j (m * m % M) ((m + 1) % M) in
    state_after w m p (2 ^ suc j) s ≡ next_state w all.0 (all.1 * p % M) s
state_after-twice_power w m p j s =
    let M = 2 ^ w in
    ap (λ (n : ℕ). state_after w m p n s) (twice j) ∙ sym (state_after_double w m p (2 ^ j) s)
    ∙ state_after-power w p j (m * m % M) ((m + 1) % M) s

-- the constants of 2 ^ 64 steps
whole_period : doubled 64 63 (multiplier_64 * multiplier_64 % 2 ^ 64) ((multiplier_64 + 1) % 2 ^ 64) ≡ (1, 0)
whole_period = refl

-- 2 ^ 64 steps lead back
state_after-period : (p s : ℕ) → s < 2 ^ 64 → state_after 64 multiplier_64 p (2 ^ 64) s ≡ s
state_after-period p s small =
    let constants : ℕ × ℕ → ℕ = λ all. next_state 64 all.0 (all.1 * p % 2 ^ 64) s in
    let still : constants (1, 0) ≡ s = rw (mul-one s, zero-mul p, mod-eq_of_lt small, add-zero s) (mod-eq_of_lt small) in
    state_after-twice_power 64 multiplier_64 p 63 s ∙ ap constants whole_period ∙ still

first_state-small : (seed stream : ℕ)
    → (started 64 multiplier_64 seed (increment_of 64 stream)).state < 2 ^ 64
first_state-small seed stream = mod-lt _ (lit< tt)

-- a stream begins again
pub generator_after-period : (seed stream n : ℕ)
    → generator_after seed stream (n + 2 ^ 64) ≡ generator_after seed stream n
generator_after-period seed stream zero =
    let first = started 64 multiplier_64 seed (increment_of 64 stream) in
    ap (λ (k : ℕ). generator_after seed stream k) (zero-add (2 ^ 64))
    ∙ sym (advance-started seed stream (2 ^ 64))
    ∙ ap (λ (s : ℕ). record first { state = s }) (state_after-period first.increment first.state (first_state-small seed stream))
    ∙ sym (generator_after-zero seed stream)
generator_after-period seed stream (suc n) =
    let later : suc n + 2 ^ 64 ≡ (n + 2 ^ 64) + 1 = omega arith in
    ap (λ (k : ℕ). generator_after seed stream k) later
    ∙ generator_after-one_more seed stream (n + 2 ^ 64)
    ∙ ap (λ (g : Lcg). (pcg32 g).1) (generator_after-period seed stream n)
    ∙ sym (generator_after-one_more seed stream n)
    ∙ ap (λ (k : ℕ). generator_after seed stream k) (add-one n)

-- the count that a draw leaves is right, also where it runs on to 0
pub generator_after-next : (seed stream n : ℕ) → n < 2 ^ 64
    → generator_after seed stream ((n + 1) % 2 ^ 64) ≡ (pcg32 (generator_after seed stream n)).1
generator_after-next seed stream n below =
    let at : ℕ → Lcg = λ k. generator_after seed stream k in
    let room : n + 1 ≤ 2 ^ 64 = omega arith in
    let same : at ((n + 1) % 2 ^ 64) ≡ at (n + 1) =
    elim (eq-or-lt_of_le room) [
      | inl last ↦
          let to_zero : (n + 1) % 2 ^ 64 ≡ 0 = omega arith in
          let from_zero : 0 + 2 ^ 64 ≡ n + 1 = omega arith in
          ap at to_zero ∙ sym (generator_after-period seed stream 0) ∙ ap at from_zero
      | inr more ↦ ap at (mod-eq_of_lt more)
    ] in
    same ∙ generator_after-one_more seed stream n

pub word-period : (seed stream n : ℕ) → word seed stream (n + 2 ^ 64) ≡ word seed stream n
unfolding word
word-period seed stream n = ap (λ (g : Lcg). (pcg32 g).0) (generator_after-period seed stream n)

-- what the calls and the laws stand on: where a stream begins, where a jump leads, what a draw leaves
pub ruleset streams = (generator_after-zero, advance-started, word-advance, generator_after-next, word-period)
