-- What a balanced part is, and that a part of one kind is like none of another kind.
use Rattle.std.proofs.Common.{◌≡◌, false, refl, sym, subst}
use Rattle.slicc_ast.specs.declared.tree.balanced.Balanced.{Balanced}
use Rattle.slicc_ast.specs.declared.tree.balanced.Part.{Part}
use Rattle.slicc_ast.specs.declared.tree.balanced.Part.TheOpen as layer
use Rattle.slicc_ast.specs.declared.tree.balanced.Part.TheVariants.{Token, Parentheses, Brackets, Braces}
use Rattle.slicc_ast.specs.declared.tree.balanced.Part.TheViews.{out-Part, roll-Part, roll-out-Part, rolls-Token, rolls-Parentheses, rolls-Brackets, rolls-Braces}
use Rattle.slicc_ast.specs.declared.tree.token.TokenKind.{TokenKind}
use Rattle.slicc_same.specs.Prelude.{alike_part}
use Rattle.slicc_same.proofs.Bools.{and_false}

data PartIs : Part → Type 0 where
  is_token : (k : TokenKind) → PartIs (Token k)
  is_parentheses : (x : Balanced) → PartIs (Parentheses x)
  is_brackets : (x : Balanced) → PartIs (Brackets x)
  is_braces : (x : Balanced) → PartIs (Braces x)

of_layer : (v : _) → PartIs (roll-Part v)
of_layer (layer.Token k) = let it : PartIs (Token k) = is_token k in subst PartIs (sym (rolls-Token k)) it
of_layer (layer.Parentheses x) = let it : PartIs (Parentheses x) = is_parentheses x in subst PartIs (sym (rolls-Parentheses x)) it
of_layer (layer.Brackets x) = let it : PartIs (Brackets x) = is_brackets x in subst PartIs (sym (rolls-Brackets x)) it
of_layer (layer.Braces x) = let it : PartIs (Braces x) = is_braces x in subst PartIs (sym (rolls-Braces x)) it

part_is : (b : Part) → PartIs b
part_is b = subst PartIs (roll-out-Part b) (of_layer (out-Part b))

other_token : (x : TokenKind) (b : Part) → PartIs b → ((y : TokenKind) → b ≡ Token y → ⊥) → false ≡ alike_part (Token x) b
other_token x b (is_token y) n = absurd (n y refl)
other_token x b (is_parentheses y) n = sym (and_false _)
other_token x b (is_brackets y) n = sym (and_false _)
other_token x b (is_braces y) n = sym (and_false _)

pub not_token : (x : TokenKind) (a b : Part) → a ≡ Token x → ((y : TokenKind) → b ≡ Token y → ⊥) → false ≡ alike_part a b
not_token x a b is n = subst (λ c. false ≡ alike_part c b) (sym is) (other_token x b (part_is b) n)

other_parentheses : (x : Balanced) (b : Part) → PartIs b → ((y : Balanced) → b ≡ Parentheses y → ⊥) → false ≡ alike_part (Parentheses x) b
other_parentheses x b (is_parentheses y) n = absurd (n y refl)
other_parentheses x b (is_token y) n = sym (and_false _)
other_parentheses x b (is_brackets y) n = refl
other_parentheses x b (is_braces y) n = refl

pub not_parentheses : (x : Balanced) (a b : Part) → a ≡ Parentheses x → ((y : Balanced) → b ≡ Parentheses y → ⊥) → false ≡ alike_part a b
not_parentheses x a b is n = subst (λ c. false ≡ alike_part c b) (sym is) (other_parentheses x b (part_is b) n)

other_brackets : (x : Balanced) (b : Part) → PartIs b → ((y : Balanced) → b ≡ Brackets y → ⊥) → false ≡ alike_part (Brackets x) b
other_brackets x b (is_brackets y) n = absurd (n y refl)
other_brackets x b (is_token y) n = sym (and_false _)
other_brackets x b (is_parentheses y) n = refl
other_brackets x b (is_braces y) n = refl

pub not_brackets : (x : Balanced) (a b : Part) → a ≡ Brackets x → ((y : Balanced) → b ≡ Brackets y → ⊥) → false ≡ alike_part a b
not_brackets x a b is n = subst (λ c. false ≡ alike_part c b) (sym is) (other_brackets x b (part_is b) n)

other_braces : (x : Balanced) (b : Part) → PartIs b → ((y : Balanced) → b ≡ Braces y → ⊥) → false ≡ alike_part (Braces x) b
other_braces x b (is_braces y) n = absurd (n y refl)
other_braces x b (is_token y) n = sym (and_false _)
other_braces x b (is_parentheses y) n = refl
other_braces x b (is_brackets y) n = refl

pub not_braces : (x : Balanced) (a b : Part) → a ≡ Braces x → ((y : Balanced) → b ≡ Braces y → ⊥) → false ≡ alike_part a b
not_braces x a b is n = subst (λ c. false ≡ alike_part c b) (sym is) (other_braces x b (part_is b) n)
