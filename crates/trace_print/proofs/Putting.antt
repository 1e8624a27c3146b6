-- How full pieces are put on the way to a whole line, and how a line that is being made goes on.
use Rattle.std.proofs.Common.{◌≡◌, ℕ, ◌+◌, ◌<◌, Bool, true, false, List, [], ◌++◌, length, take, drop, ap, subst, sym, ◌∙◌, arith, append_assoc, length-append, length-drop}
use Rattle.std.proofs.lemmas.List.{drop_at, length-take-le, take_at, take-append-drop}
use Rattle.ruby_outside.specs.declared.sink.Wrote.{Wrote}
use Rattle.ruby_outside.specs.Prelude.{IsPut}
use Rattle.trace_print.specs.Prelude.{IsLinePut, in_pieces, cut_in_piece}

regrouped : (held left rest : List ℕ) (room : ℕ) → (held ++ take room left) ++ (drop room left ++ rest) ≡ held ++ (left ++ rest)
regrouped held left rest room =
    append_assoc held (take room left) (drop room left ++ rest)
    ∙ ap (λ (l : List ℕ). held ++ l) (sym (append_assoc (take room left) (drop room left) rest) ∙ ap (λ (l : List ℕ). l ++ rest) (take-append-drop room left))

full : (held left : List ℕ) (room : ℕ) → room + length held ≡ 1024 → room < length left → length (held ++ take room left) ≡ 1024
full held left room sum more = omega (arith, sum, more, length-append held (take room left), length-take-le room left (omega (arith, more)))

some_left : (left rest : List ℕ) (room : ℕ) → room < length left → 0 < length (drop room left ++ rest)
some_left left rest room more = omega (arith, more, length-append (drop room left) rest, length-drop room left)

module _ {S : Type 0} (writes : S → List ℕ → Wrote → S → Type 0) where
  -- a full piece, and what comes after it
  piece_on : (before middle after : S) (piece more : List ℕ) (whole : Bool)
      → length piece ≡ 1024 → 0 < length more → IsPut writes before piece true middle → IsLinePut writes middle more whole after
      → IsLinePut writes before (piece ++ more) whole after
  piece_on before middle after piece more whole is_full some put rest =
      let P : List ℕ → Type 0 = λ p. IsPut writes before p true middle in
      let R : List ℕ → Type 0 = λ r. IsLinePut writes middle r whole after in
      in_pieces before middle after (piece ++ more) whole (omega (arith, is_full, some, length-append piece more))
      (subst P (sym (take_at piece more 1024 is_full)) put) (subst R (sym (drop_at piece more 1024 is_full)) rest)

  piece_cut : (before after : S) (piece more : List ℕ)
      → length piece ≡ 1024 → 0 < length more → IsPut writes before piece false after → IsLinePut writes before (piece ++ more) false after
  piece_cut before after piece more is_full some put =
      let P : List ℕ → Type 0 = λ p. IsPut writes before p false after in
      cut_in_piece before after (piece ++ more) (omega (arith, is_full, some, length-append piece more)) (subst P (sym (take_at piece more 1024 is_full)) put)

  -- the bytes held were filled up with the front of those that are left, and put
  pub filled_on : (before middle after : S) (held left rest piece back : List ℕ) (room : ℕ) (whole : Bool)
      → room + length held ≡ 1024 → room < length left → piece ≡ held ++ take room left → back ≡ drop room left
      → IsPut writes before piece true middle → IsLinePut writes middle (back ++ rest) whole after
      → IsLinePut writes before (held ++ (left ++ rest)) whole after
  filled_on before middle after held left rest piece back room whole sum more piece_is back_is put on =
      let L : List ℕ → Type 0 = λ l. IsLinePut writes before l whole after in
      let P : List ℕ → Type 0 = λ p. IsPut writes before p true middle in
      let R : List ℕ → Type 0 = λ b. IsLinePut writes middle (b ++ rest) whole after in
      subst L (regrouped held left rest room)
      (piece_on before middle after (held ++ take room left) (drop room left ++ rest) whole (full held left room sum more) (some_left left rest room more)
      (subst P piece_is put) (subst R back_is on))

  pub filled_cut : (before after : S) (held left rest piece : List ℕ) (room : ℕ)
      → room + length held ≡ 1024 → room < length left → piece ≡ held ++ take room left
      → IsPut writes before piece false after → IsLinePut writes before (held ++ (left ++ rest)) false after
  filled_cut before after held left rest piece room sum more piece_is put =
      let L : List ℕ → Type 0 = λ l. IsLinePut writes before l false after in
      let P : List ℕ → Type 0 = λ p. IsPut writes before p false after in
      subst L (regrouped held left rest room)
      (piece_cut before after (held ++ take room left) (drop room left ++ rest) (full held left room sum more) (some_left left rest room more) (subst P piece_is put))

  -- nothing is held
  pub from_nothing : (before after : S) (held more : List ℕ) (whole : Bool) → held ≡ [] → IsLinePut writes before (held ++ more) whole after → IsLinePut writes before more whole after
  from_nothing before after held more whole empty put = let P : List ℕ → Type 0 = λ h. IsLinePut writes before (h ++ more) whole after in subst P empty put
