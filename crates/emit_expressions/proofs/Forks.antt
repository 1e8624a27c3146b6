-- Jumps that are set once what they pass is written: what stands there then is a fork.
use Rattle.std.proofs.Common.{◌≡◌, ℕ, ◌+◌, List, [], ◌∷◌, ◌++◌, length, refl, sym, ap, ◌∙◌, arith}
use Rattle.std.specs.Prelude.{slice_set}
use Rattle.std.proofs.lemmas.List.{append_assoc, length-append}
use Rattle.std.proofs.Math.Seq.{set-append_seam}
use Rattle.action_code.specs.declared.instr.Instr.{Instr}
use Rattle.action_code.specs.declared.instr.Instr.TheVariants as instr
use Rattle.body_code.specs.Prelude.{Segment, fork, guard}
use Rattle.emit_expressions.specs.Prelude.{Adds}

-- an instruction in the place of one that stands after these
pub seam : (old xs whole : List Instr) (i j : Instr) (at : ℕ) → at ≡ length old → whole ≡ old ++ i ∷ xs → slice_set whole at j ≡ old ++ j ∷ xs
seam old xs whole i j at place is =
    ap (λ (ys : List Instr). slice_set ys at j) is ∙ ap (λ (k : ℕ). slice_set (old ++ i ∷ xs) k j) place ∙ set-append_seam old i xs j

-- what is added after one more
pub one_more : (old one two : List Instr) (i : Instr) (a : Segment) → one ≡ old ++ i ∷ [] → Adds a one two → two ≡ old ++ i ∷ a (length old + 1)
one_more old one two i a first second =
    second ∙ ap (λ (xs : List Instr). xs ++ a (length xs)) first
    ∙ ap (λ (n : ℕ). (old ++ i ∷ []) ++ a n) (length-append old (i ∷ []))
    ∙ append_assoc old (i ∷ []) (a (length old + 1))

pub length_one : (old xs whole : List Instr) (i : Instr) → whole ≡ old ++ i ∷ xs → length whole ≡ length old + length xs + 1
length_one old xs whole i is = ap length is ∙ length-append old (i ∷ xs) ∙ (omega arith)

module _ (old : List Instr) where
  -- the first has no jump after it
  pub guards : (a b : Segment) (one two three new : List Instr) (at : ℕ) (i : Instr)
      → at ≡ length old → one ≡ old ++ i ∷ [] → Adds a one two → three ≡ slice_set two at (instr.Unless (length two)) → Adds b three new
      → Adds (guard a b) old new
  guards a b one two three new at i place first second set third =
      let xs : List Instr = a (length old + 1) in
      let begun : two ≡ old ++ i ∷ xs = one_more old one two i a first second in
      let count : length two ≡ length old + length xs + 1 = length_one old xs two i begun in
      let u : Instr = instr.Unless (length two) in
      let there : three ≡ old ++ u ∷ xs = set ∙ seam old xs two i u at place begun in
      let long : length three ≡ length two = length_one old xs three u there ∙ sym count in
      third
      ∙ ap (λ (ys : List Instr). ys ++ b (length ys)) there
      ∙ ap (λ (n : ℕ). (old ++ u ∷ xs) ++ b n) (sym (ap length there) ∙ long)
      ∙ ap (λ (n : ℕ). (old ++ instr.Unless n ∷ xs) ++ b n) count
      ∙ append_assoc old (instr.Unless (length old + length xs + 1) ∷ xs) (b (length old + length xs + 1))

  pub forks : (a b : Segment) (one two three four five new : List Instr) (at jump : ℕ) (i j : Instr)
      → at ≡ length old → one ≡ old ++ i ∷ [] → Adds a one two → jump ≡ length two → three ≡ two ++ j ∷ []
      → four ≡ slice_set three at (instr.Unless (length three)) → Adds b four five → new ≡ slice_set five jump (instr.Jump (length five))
      → Adds (fork a b) old new
  forks a b one two three four five new at jump i j place first second there third set fourth last =
      let xs : List Instr = a (length old + 1) in
      let begun : two ≡ old ++ i ∷ xs = one_more old one two i a first second in
      let count : length two ≡ length old + length xs + 1 = length_one old xs two i begun in
      let u : Instr = instr.Unless (length three) in
      let both : three ≡ old ++ i ∷ (xs ++ j ∷ []) =
      third ∙ ap (λ (ys : List Instr). ys ++ j ∷ []) begun ∙ append_assoc old (i ∷ xs) (j ∷ []) in
      let second_at : length three ≡ length old + length xs + 2 = ap length third ∙ length-append two (j ∷ []) ∙ (omega arith) in
      let opened : four ≡ old ++ u ∷ (xs ++ j ∷ []) = set ∙ seam old (xs ++ j ∷ []) three i u at place both in
      let four_long : length four ≡ length three =
      length_one old (xs ++ j ∷ []) four u opened ∙ sym (length_one old (xs ++ j ∷ []) three i both) in
      let ys : List Instr = b (length three) in
      let front : List Instr = old ++ u ∷ xs in
      let front_long : length front ≡ length two = length_one old xs front u refl ∙ sym count in
      let flat : four ≡ front ++ j ∷ [] = opened ∙ sym (append_assoc old (u ∷ xs) (j ∷ [])) in
      let full : five ≡ front ++ j ∷ ys =
      fourth ∙ ap (λ (n : ℕ). four ++ b n) four_long ∙ ap (λ (zs : List Instr). zs ++ ys) flat ∙ append_assoc front (j ∷ []) ys in
      let five_long : length five ≡ length three + length ys = ap length full ∙ length-append front (j ∷ ys) ∙ (omega arith) in
      let k : Instr = instr.Jump (length five) in
      let done : new ≡ front ++ k ∷ ys = last ∙ seam front ys five j k jump (there ∙ sym front_long) full in
      done
      ∙ ap (λ (n : ℕ). front ++ instr.Jump n ∷ ys) five_long
      ∙ append_assoc old (u ∷ xs) (instr.Jump (length three + length ys) ∷ ys)
      ∙ ap (λ (n : ℕ). old ++ instr.Unless n ∷ (xs ++ instr.Jump (n + length (b n)) ∷ b n)) second_at
