-- The fields of what was made, which is the innermost name of a block.
use Rattle.std.proofs.Common.{◌≡◌, ◌+◌, ◌-◌, ◌∙◌, ℕ, zero, suc, None, Some, List, [], ◌∷◌, drop, length, slice_get, refl, ap, arith}
use Rattle.std.proofs.lemmas.Option.{same_Some}
use Rattle.body_meaning.specs.declared.frame.Bound.{Bound}
use Rattle.body_meaning.specs.Prelude.{outermost, fields_made}

fields_at : (names : List Bound) (k : ℕ) (b : Bound) → slice_get names k ≡ Some b → fields_made (drop k names) ≡ fields_made (b ∷ [])
fields_at [] k b is = cc
fields_at (x ∷ names) zero b is = ap (λ (y : Bound). fields_made (y ∷ [])) (same_Some x b is)
fields_at (x ∷ names) (suc k) b is = fields_at names k b is

fields_past : (names : List Bound) (k : ℕ) → slice_get names k ≡ None → fields_made (drop k names) ≡ []
fields_past [] zero is = refl
fields_past [] (suc k) is = refl
fields_past (x ∷ names) zero is = cc
fields_past (x ∷ names) (suc k) is = fields_past names k is

outermost_from : (n k : ℕ) (names : List Bound) → k ≡ length names - n - 1 → outermost (n + 1) names ≡ drop k names
unfolding outermost
outermost_from n k names is = let less : length names - (n + 1) ≡ k = omega arith in ap (λ (j : ℕ). drop j names) less

pub fields_of_name : (n k : ℕ) (names : List Bound) (b : Bound) → k ≡ length names - n - 1 → slice_get names k ≡ Some b → fields_made (outermost (n + 1) names) ≡ fields_made (b ∷ [])
fields_of_name n k names b is at = ap fields_made (outermost_from n k names is) ∙ fields_at names k b at

pub fields_of_none : (n k : ℕ) (names : List Bound) → k ≡ length names - n - 1 → slice_get names k ≡ None → fields_made (outermost (n + 1) names) ≡ []
fields_of_none n k names is at = ap fields_made (outermost_from n k names is) ∙ fields_past names k at
