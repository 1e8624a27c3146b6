-- The code of `&&` and `||`, as it is put together.
use Rattle.std.proofs.Common.{◌≡◌, ℕ, ◌+◌, List, [], ◌∷◌, ◌++◌, length, sym, ap, ◌∙◌, arith}
use Rattle.std.specs.Prelude.{slice_set}
use Rattle.std.proofs.lemmas.List.{append_assoc, length-append}
use Rattle.action_code.specs.declared.instr.Instr.{Instr}
use Rattle.action_code.specs.declared.instr.Instr.TheVariants as instr
use Rattle.body_code.specs.Prelude.{Segment, fork, just}
use Rattle.emit_expressions.specs.Prelude.{Adds}
use Rattle.emit_expressions.proofs.Forks.{length_one, one_more, seam}

module _ (old : List Instr) (right : Segment) (one two new : List Instr) where
  -- the left side's value again and a jump, and then the right side
  pub ors : (t : Instr) (at : ℕ) → at ≡ length old + 2 → one ≡ old ++ instr.Unless (length old + 3) ∷ t ∷ instr.Ret ∷ []
      → Adds right one two → new ≡ slice_set two at (instr.Jump (length two))
      → Adds (fork (just (t ∷ [])) right) old new
  ors t at place first second last =
      let third : length old + 3 ≡ length old + 1 + 2 = omega arith in
      let u : Instr = instr.Unless (length old + 3) in
      let front : List Instr = old ++ u ∷ t ∷ [] in
      let front_long : length front ≡ length old + 2 = length-append old (u ∷ t ∷ []) in
      let flat : one ≡ front ++ instr.Ret ∷ [] = first ∙ sym (append_assoc old (u ∷ t ∷ []) (instr.Ret ∷ [])) in
      let one_long : length one ≡ length old + 3 = ap length first ∙ length-append old (u ∷ t ∷ instr.Ret ∷ []) in
      let ys : List Instr = right (length old + 3) in
      let full : two ≡ front ++ instr.Ret ∷ ys =
      second ∙ ap (λ (n : ℕ). one ++ right n) one_long ∙ ap (λ (xs : List Instr). xs ++ ys) flat ∙ append_assoc front (instr.Ret ∷ []) ys in
      let two_long : length two ≡ length old + 3 + length ys = ap length full ∙ length-append front (instr.Ret ∷ ys) ∙ (omega arith) in
      let j : Instr = instr.Jump (length two) in
      last ∙ seam front ys two instr.Ret j at (place ∙ sym front_long) full
      ∙ ap (λ (n : ℕ). front ++ instr.Jump n ∷ ys) two_long
      ∙ append_assoc old (u ∷ t ∷ []) (instr.Jump (length old + 3 + length ys) ∷ ys)
      ∙ ap (λ (n : ℕ). old ++ instr.Unless n ∷ t ∷ instr.Jump (n + length (right n)) ∷ right n) third

  -- the right side, and then a jump and the left side's value again
  pub ands : (t : Instr) (at : ℕ) → at ≡ length old → one ≡ old ++ instr.Ret ∷ [] → Adds right one two
      → new ≡ slice_set two at (instr.Unless (length two + 1)) ++ instr.Jump (length two + 2) ∷ t ∷ []
      → Adds (fork right (just (t ∷ []))) old new
  ands t at place first second last =
      let xs : List Instr = right (length old + 1) in
      let begun : two ≡ old ++ instr.Ret ∷ xs = one_more old one two instr.Ret right first second in
      let count : length two ≡ length old + length xs + 1 = length_one old xs two instr.Ret begun in
      let there : slice_set two at (instr.Unless (length two + 1)) ≡ old ++ instr.Unless (length two + 1) ∷ xs =
      seam old xs two instr.Ret (instr.Unless (length two + 1)) at place begun in
      let one : length two + 1 ≡ length old + length xs + 2 = omega arith in
      let end : length two + 2 ≡ length old + length xs + 2 + 1 = omega arith in
      last
      ∙ ap (λ (ys : List Instr). ys ++ instr.Jump (length two + 2) ∷ t ∷ []) there
      ∙ append_assoc old (instr.Unless (length two + 1) ∷ xs) (instr.Jump (length two + 2) ∷ t ∷ [])
      ∙ ap (λ (n : ℕ). old ++ instr.Unless n ∷ (xs ++ instr.Jump (length two + 2) ∷ t ∷ [])) one
      ∙ ap (λ (n : ℕ). old ++ instr.Unless (length old + length xs + 2) ∷ (xs ++ instr.Jump n ∷ t ∷ [])) end
