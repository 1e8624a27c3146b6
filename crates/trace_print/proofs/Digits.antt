-- The hexadecimal digits of a number, from the last to the first.
use Rattle.std.proofs.Common.{◌≡◌, Bool, true, cond, eqb, eq-eqb, ne_eqb, ℕ, zero, suc, ◌+◌, ◌-◌, ◌/◌, ◌%◌, ◌^◌, ◌<◌, ◌≤◌, false, List, ◌∷◌, length, drop, set, ap, sym, ◌∙◌, arith}
use Rattle.std.proofs.lemmas.List.{drop-set, drop_all}
use Rattle.std.specs.Fmt.{digit_glyph, digits, digits_onto}

pub shorter : (at left : ℕ) → 16 ≤ left → left < 16 ^ at → (2 ≤ at) × (left / 16 < 16 ^ (at - 1))
shorter zero left some below = absurd (omega arith)
shorter (suc zero) left some below = absurd (omega arith)
shorter (suc (suc k)) left some below =
    let one_less : suc (suc k) - 1 ≡ suc k = omega arith in
    (omega arith, rw one_less (omega arith))

-- one step of the digits' definition
module _ (n : ℕ) (acc : List ℕ) where
  by_test : (k : ℕ) (t : Bool) → eqb (n / 16) 0 ≡ t
      → digits_onto (suc k) 16 false n acc ≡ cond t (digit_glyph false (n % 16) ∷ acc) (digits_onto k 16 false (n / 16) (digit_glyph false (n % 16) ∷ acc))
  by_test k t is = ap (λ (b : Bool). cond b (digit_glyph false (n % 16) ∷ acc) (digits_onto k 16 false (n / 16) (digit_glyph false (n % 16) ∷ acc))) is

  digits_last : (i : ℕ) → 0 < i → n / 16 ≡ 0 → digits_onto i 16 false n acc ≡ digit_glyph false (n % 16) ∷ acc
  digits_last zero some none = absurd (omega arith)
  digits_last (suc k) some none = by_test k true (eq-eqb _ 0 none)

  digits_step : (i : ℕ) → 0 < i → (n / 16 ≡ 0 → ⊥) → digits_onto i 16 false n acc ≡ digits_onto (i - 1) 16 false (n / 16) (digit_glyph false (n % 16) ∷ acc)
  digits_step zero some more = absurd (omega arith)
  digits_step (suc k) some more =
      let one_less : k ≡ suc k - 1 = omega arith in
      by_test k false (ne_eqb _ 0 more) ∙ ap (λ j. digits_onto j 16 false (n / 16) (digit_glyph false (n % 16) ∷ acc)) one_less

-- a digit before those that are there
pub placed : (buffer : List ℕ) (at glyph : ℕ) → 0 < at → at ≤ length buffer → drop (at - 1) (set buffer (at - 1) glyph) ≡ glyph ∷ drop at buffer
placed buffer at glyph some within =
    let back : at - 1 + 1 ≡ at = omega arith in
    drop-set buffer (at - 1) glyph (omega arith) ∙ ap (λ n. glyph ∷ drop n buffer) back

pub one_more : (n left at glyph : ℕ) (buffer : List ℕ) → 16 ≤ left → 0 < at → at ≤ length buffer → glyph ≡ digit_glyph false (left % 16)
    → digits_onto (48 + at) 16 false left (drop at buffer) ≡ digits 16 false n
    → digits_onto (48 + (at - 1)) 16 false (left / 16) (drop (at - 1) (set buffer (at - 1) glyph)) ≡ digits 16 false n
one_more n left at glyph buffer some above within is before =
    let steps : 48 + at - 1 ≡ 48 + (at - 1) = omega arith in
    let not_zero : left / 16 ≡ 0 → ⊥ = λ z. omega (arith, z, some) in
    ap (λ ds. digits_onto (48 + (at - 1)) 16 false (left / 16) ds) (placed buffer at glyph above within ∙ ap (λ g. g ∷ drop at buffer) is)
    ∙ ap (λ k. digits_onto k 16 false (left / 16) (digit_glyph false (left % 16) ∷ drop at buffer)) (sym steps)
    ∙ sym (digits_step left (drop at buffer) (48 + at) (omega arith) not_zero)
    ∙ before

pub the_first : (n left at glyph : ℕ) (buffer : List ℕ) → left < 16 → 0 < at → at ≤ length buffer → glyph ≡ digit_glyph false left
    → digits_onto (48 + at) 16 false left (drop at buffer) ≡ digits 16 false n
    → drop (at - 1) (set buffer (at - 1) glyph) ≡ digits 16 false n
the_first n left at glyph buffer small above within is before =
    let same : left % 16 ≡ left = omega arith in
    placed buffer at glyph above within
    ∙ ap (λ g. g ∷ drop at buffer) (is ∙ ap (digit_glyph false) (sym same))
    ∙ sym (digits_last left (drop at buffer) (48 + at) (omega arith) (omega arith))
    ∙ before

pub at_first : (n : ℕ) (buffer : List ℕ) → length buffer ≤ 16 → digits_onto (48 + 16) 16 false n (drop 16 buffer) ≡ digits 16 false n
unfolding digits
at_first n buffer short = ap (λ ds. digits_onto 64 16 false n ds) (drop_all 16 buffer short)
