-- The words of a line, in two parts.
use Rattle.std.proofs.Common.{◌≡◌, ℕ, List, [], ◌∷◌, ◌++◌, ap, sym, ◌∙◌, append_assoc}
use Rattle.std.proofs.lemmas.List.Concat.{flat_map-append}
use Rattle.trace_print.specs.Prelude.{line_of, spaced}

-- a word and some, and then others and the line feed
pub line_in_parts : (first : List ℕ) (words others : List (List ℕ)) → (first ++ spaced words) ++ (spaced others ++ 10 ∷ []) ≡ line_of (first ∷ (words ++ others))
line_in_parts first words others =
    append_assoc first (spaced words) (spaced others ++ 10 ∷ [])
    ∙ ap (λ (l : List ℕ). first ++ l) (sym (append_assoc (spaced words) (spaced others) (10 ∷ [])) ∙ ap (λ (l : List ℕ). l ++ 10 ∷ []) (sym (flat_map-append (λ (word : List ℕ). 32 ∷ word) words others)))
