-- Drawing word by word and jumping by `advance` come to the same generator.
use Rattle.std.proofs.Common.{◌≡◌, ℕ, zero, suc, ◌+◌, refl, sym, ap, ◌∙◌, add-one}
use Rattle.rand_pcg.specs.Lcg.{Lcg, started, increment_of, advance, next_state, state_after}
use Rattle.rand_pcg.specs.Pcg.{multiplier_64, pcg32}
use Rattle.pcg_words.specs.Prelude.{generator_after, word}

pub generator_after-zero : (seed stream : ℕ)
    → generator_after seed stream 0 ≡ started 64 multiplier_64 seed (increment_of 64 stream)
unfolding generator_after
generator_after-zero seed stream = refl

-- one word more
pub generator_after-one_more : (seed stream n : ℕ)
    → generator_after seed stream (n + 1) ≡ (pcg32 (generator_after seed stream n)).1
unfolding generator_after
generator_after-one_more seed stream n = ap (λ k. generator_after seed stream k) (add-one n)

-- n steps and then one are one step and then n
pub state_after-next_state : (w m p n s : ℕ)
    → state_after w m p n (next_state w m p s) ≡ next_state w m p (state_after w m p n s)
unfolding state_after
state_after-next_state w m p zero s = refl
state_after-next_state w m p (suc n) s = state_after-next_state w m p n (next_state w m p s)

-- a jump over n words comes to where n draws come
pub advance-started : (seed stream n : ℕ)
    → advance 64 multiplier_64 n (started 64 multiplier_64 seed (increment_of 64 stream)) ≡ generator_after seed stream n
unfolding state_after generator_after
advance-started seed stream zero = refl
advance-started seed stream (suc n) =
    let first = started 64 multiplier_64 seed (increment_of 64 stream) in
    ap (λ (s : ℕ). record first { state = s }) (state_after-next_state 64 multiplier_64 first.increment n first.state)
    ∙ ap (λ (g : Lcg). (pcg32 g).1) (advance-started seed stream n)

-- word n lies where a jump over n words leads
pub word-advance : (seed stream n : ℕ)
    → word seed stream n
    ≡ (pcg32 (advance 64 multiplier_64 n (started 64 multiplier_64 seed (increment_of 64 stream)))).0
unfolding word
word-advance seed stream n = ap (λ (g : Lcg). (pcg32 g).0) (sym (advance-started seed stream n))
