-- What is alike one way is alike the other way.
use Rattle.std.proofs.Common.{◌≡◌, ◌&&◌, refl, ap, ◌∙◌}
use Rattle.std.proofs.lemmas.Cmp.{int_eq_equiv, nat_eq_equiv, nat_list_eq_equiv}
use Rattle.slicc_ast.specs.declared.tree.token.TokenKind.{TokenKind}
use Rattle.slicc_ast.specs.declared.tree.token.TokenKind.TheVariants.{Name, Number, Quoted, Word, Sign, End}
use Rattle.slicc_ast.specs.Outline.{token}
use Rattle.slicc_ast.specs.Prelude.{Outline, node, Parts, none, part, provided}
use Rattle.slicc_same.specs.Prelude.{alike, alike_in, alike_kind, sign_number, word_number}

kind_symmetric : (a b : TokenKind) → alike_kind a b ≡ alike_kind b a
kind_symmetric (Name a) (Name b) = nat_list_eq_equiv.symm a b
kind_symmetric (Number a) (Number b) = int_eq_equiv.symm a b
kind_symmetric (Quoted a) (Quoted b) = nat_list_eq_equiv.symm a b
kind_symmetric (Word a) (Word b) = nat_eq_equiv.symm (word_number a) (word_number b)
kind_symmetric (Sign a) (Sign b) = nat_eq_equiv.symm (sign_number a) (sign_number b)
kind_symmetric End End = refl
kind_symmetric a b = refl

mutual
  pub symmetric : (a b : Outline) → alike a b ≡ alike b a
  symmetric (node a parts) (node b others) = symmetric_in parts others

  symmetric_in : (a b : Parts) → alike_in a b ≡ alike_in b a
  symmetric_in (token a parts) (token b others) = ap (λ x. x && alike_in parts others) (kind_symmetric a b) ∙ ap (λ x. alike_kind b a && x) (symmetric_in parts others)
  symmetric_in (part a parts) (part b others) = ap (λ x. x && alike_in parts others) (symmetric a b) ∙ ap (λ x. alike b a && x) (symmetric_in parts others)
  symmetric_in none none = refl
  symmetric_in none (token b others) = refl
  symmetric_in none (part b others) = refl
  symmetric_in none (provided b others) = refl
  symmetric_in (token a parts) none = refl
  symmetric_in (token a parts) (part b others) = refl
  symmetric_in (token a parts) (provided b others) = refl
  symmetric_in (part a parts) none = refl
  symmetric_in (part a parts) (token b others) = refl
  symmetric_in (part a parts) (provided b others) = refl
  symmetric_in (provided a parts) none = refl
  symmetric_in (provided a parts) (token b others) = refl
  symmetric_in (provided a parts) (part b others) = refl
  symmetric_in (provided a parts) (provided b others) = refl
