-- Outlines that are alike have one shape, and the other way round.
use Rattle.std.proofs.Common.{rules, ◌≡◌, ◌↔◌, ◌&&◌, Bool, true, refl, sym, ap, ◌∙◌}
use Rattle.std.proofs.lemmas.Bool.{and_parts, false≢true}
use Rattle.std.proofs.lemmas.Bool.Decides.{Decides-eqb, Decides-int_eq}
use Rattle.std.proofs.lemmas.Cmp.{int_eq_equiv, nat_eq_equiv, nat_list_eq_equiv}
use Rattle.std.proofs.lemmas.Slice.Eq.{bytes_eq-Decides}
use Rattle.slicc_ast.specs.declared.tree.token.TokenKind.{TokenKind}
use Rattle.slicc_ast.specs.declared.tree.token.TokenKind.TheVariants.{Name, Number, Quoted, Word, Sign, End}
use Rattle.slicc_ast.specs.declared.tree.token.Word.{Word as Reserved}
use Rattle.slicc_ast.specs.declared.tree.token.Sign.{Sign as SignKind}
use Rattle.slicc_ast.specs.Outline.{token}
use Rattle.slicc_ast.specs.Prelude.{Outline, node, Parts, none, part, provided, no_span, shape_of, shape_in}
use Rattle.slicc_same.specs.Prelude.{alike, alike_in, alike_kind, same_shape, sign_number, word_number}

same_word : (a b : Reserved) → word_number a ≡ word_number b → a ≡ b
same_word a b is = search rules

same_sign : (a b : SignKind) → sign_number a ≡ sign_number b → a ≡ b
same_sign a b is = search rules

equal_kinds : (a b : TokenKind) → alike_kind a b ≡ true → a ≡ b
equal_kinds (Name a) (Name b) is = ap Name ((bytes_eq-Decides a b).0 is)
equal_kinds (Number a) (Number b) is = ap Number ((Decides-int_eq a b).0 is)
equal_kinds (Quoted a) (Quoted b) is = ap Quoted ((bytes_eq-Decides a b).0 is)
equal_kinds (Word a) (Word b) is = ap Word (same_word a b ((Decides-eqb (word_number a) (word_number b)).0 is))
equal_kinds (Sign a) (Sign b) is = ap Sign (same_sign a b ((Decides-eqb (sign_number a) (sign_number b)).0 is))
equal_kinds End End is = refl
equal_kinds a b is = absurd (false≢true is)

mutual
  equal_shapes : (a b : Outline) → alike a b ≡ true → shape_of a ≡ shape_of b
  equal_shapes (node a parts) (node b others) is = ap (λ p. node no_span p) (equal_parts parts others is)

  equal_parts : (a b : Parts) → alike_in a b ≡ true → shape_in a ≡ shape_in b
  equal_parts none none is = refl
  equal_parts (token a parts) (token b others) is =
      let both = and_parts (alike_kind a b) (alike_in parts others) is in
      ap (λ k. token k (shape_in parts)) (equal_kinds a b both.0) ∙ ap (λ p. token b p) (equal_parts parts others both.1)
  equal_parts (part a parts) (part b others) is =
      let both = and_parts (alike a b) (alike_in parts others) is in
      ap (λ o. part o (shape_in parts)) (equal_shapes a b both.0) ∙ ap (λ p. part (shape_of b) p) (equal_parts parts others both.1)
  equal_parts a b is = absurd (false≢true is)

-- a shape is its own shape
mutual
  shape_again : (a : Outline) → shape_of (shape_of a) ≡ shape_of a
  shape_again (node a parts) = ap (λ p. node no_span p) (shape_in_again parts)

  shape_in_again : (a : Parts) → shape_in (shape_in a) ≡ shape_in a
  shape_in_again none = refl
  shape_in_again (token a parts) = ap (λ p. token a p) (shape_in_again parts)
  shape_in_again (part a parts) = ap (λ o. part o (shape_in (shape_in parts))) (shape_again a) ∙ ap (λ p. part (shape_of a) p) (shape_in_again parts)
  shape_in_again (provided condition parts) = shape_in_again parts

kind_itself : (a : TokenKind) → alike_kind a a ≡ true
kind_itself (Name a) = nat_list_eq_equiv.refl a
kind_itself (Number a) = int_eq_equiv.refl a
kind_itself (Quoted a) = nat_list_eq_equiv.refl a
kind_itself (Word a) = nat_eq_equiv.refl (word_number a)
kind_itself (Sign a) = nat_eq_equiv.refl (sign_number a)
kind_itself End = refl

and_both : (a b : Bool) → a ≡ true → b ≡ true → a && b ≡ true
and_both a b one other = ap (λ x. x && b) one ∙ other

mutual
  itself : (a : Outline) → alike (shape_of a) (shape_of a) ≡ true
  itself (node a parts) = itself_in parts

  itself_in : (a : Parts) → alike_in (shape_in a) (shape_in a) ≡ true
  itself_in none = refl
  itself_in (token a parts) = and_both _ _ (kind_itself a) (itself_in parts)
  itself_in (part a parts) = and_both _ _ (itself a) (itself_in parts)
  itself_in (provided condition parts) = itself_in parts

pub shapes_equal : (r : Bool) (a b : Outline) → r ≡ same_shape a b → (r ≡ true) ↔ (shape_of a ≡ shape_of b)
shapes_equal r a b is = (
  (λ yes. sym (shape_again a) ∙ equal_shapes (shape_of a) (shape_of b) (sym is ∙ yes) ∙ shape_again b),
  (λ one. is ∙ ap (λ o. alike (shape_of a) o) (sym one) ∙ itself a),
)
