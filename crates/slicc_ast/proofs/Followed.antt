-- A tree's tokens before those behind it, by recursion over its outline.
use Rattle.std.proofs.Common.{◌≡◌, ℕ, List, ◌∷◌, ◌++◌, map, refl, sym, ap, ◌∙◌, append_assoc}
use Rattle.std.proofs.lemmas.List.{map-append}
use Rattle.slicc_ast.specs.Outline.{token}
use Rattle.slicc_ast.specs.Prelude.{Outline, node, Parts, none, part, provided, kinds_of, kinds_in, kind_of, spelling}

abbrev mutual
  pub follow : Outline → List ℕ → List ℕ
  follow (node span parts) rest = follow_parts parts rest

  pub follow_parts : Parts → List ℕ → List ℕ
  follow_parts none rest = rest
  follow_parts (token kind parts) rest = kind_of kind ∷ follow_parts parts rest
  follow_parts (part outline parts) rest = follow outline (follow_parts parts rest)
  follow_parts (provided condition parts) rest = follow_parts parts rest

mutual
  pub follow-spelling : (outline : Outline) (rest : List ℕ) → follow outline rest ≡ spelling outline ++ rest
  follow-spelling (node span parts) rest = follow_parts-spelling parts rest

  pub follow_parts-spelling : (parts : Parts) (rest : List ℕ) → follow_parts parts rest ≡ map kind_of (kinds_in parts) ++ rest
  follow_parts-spelling none rest = refl
  follow_parts-spelling (token kind parts) rest = ap (λ ts. kind_of kind ∷ ts) (follow_parts-spelling parts rest)
  follow_parts-spelling (part outline parts) rest =
      ap (follow outline) (follow_parts-spelling parts rest) ∙ follow-spelling outline (map kind_of (kinds_in parts) ++ rest)
      ∙ sym (append_assoc (spelling outline) (map kind_of (kinds_in parts)) rest)
      ∙ ap (λ ts. ts ++ rest) (sym (map-append kind_of (kinds_of outline) (kinds_in parts)))
  follow_parts-spelling (provided condition parts) rest = follow_parts-spelling parts rest
