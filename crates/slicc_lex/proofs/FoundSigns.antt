-- The sign at the front of bytes is a token, and where there is none the first byte is bad.
use Rattle.std.proofs.Common.{◌≡◌, ◌⊎◌, ◌≤◌, ◌&&◌, ℕ, cond, Option, Some, None, List, [], ◌∷◌, ◌++◌, length, take, refl, sym, ap, ◌∙◌, arith, eqb, eqb-true, inl, inr, ⊎_elim}
use Rattle.std.specs.List.{starts_with}
use Rattle.std.specs.Prelude.{nat_eq}
use Rattle.std.proofs.lemmas.Bool.{cond-true, cond-false, cases_Bool, and_parts, ne_eqb, eqb-false}
use Rattle.std.proofs.lemmas.Option.{none-some}
use Rattle.slicc_ast.specs.declared.tree.token.TokenKind.TheVariants.{Sign}
use Rattle.slicc_ast.specs.declared.tree.token.Sign.{Sign as SignKind}
use Rattle.slicc_ast.specs.declared.tree.token.Sign.TheVariants.{OpenBrace, CloseBrace, OpenParenthesis, CloseParenthesis, OpenBracket, CloseBracket, Semicolon, Colon, Comma, Dot, Equals, Assign, Equal, Unequal, Less, Greater, LessOrEqual, GreaterOrEqual, Plus, Minus, Star, Not, And, Or}
use Rattle.slicc_lex.specs.declared.class.Class.TheVariants.{Other}
use Rattle.slicc_lex.specs.declared.fault.LexFault.TheVariants.{BadByte}
use Rattle.slicc_lex.specs.declared.piece.Piece.TheVariants.{Lexeme}
use Rattle.slicc_lex.specs.Prelude.{sign_bytes, IsFault, class_of, pair_sign, pair_front, single_sign, Stands}
use Rattle.slicc_lex.proofs.Comments.{and_false_left}
use Rattle.slicc_lex.proofs.Classes.{other_from}
use Rattle.slicc_lex.proofs.Shapes.{mark, shape_class}
use Rattle.slicc_lex.proofs.Longest.{AreWithin, HaveNone, stands, stuck, wrong}

-- a sign is of one byte or of two, and is found by them
abbrev pub IsMark : SignKind → Type 0
IsMark sign = ((c : ℕ) × (sign_bytes sign ≡ c ∷ []) × (single_sign c ≡ Some sign)) ⊎ ((c : ℕ) × (d : ℕ) × (sign_bytes sign ≡ c ∷ d ∷ []) × (pair_sign c d ≡ Some sign))

pub is_mark : (sign : SignKind) → IsMark sign
is_mark OpenBrace = inl (123, refl, refl)
is_mark CloseBrace = inl (125, refl, refl)
is_mark OpenParenthesis = inl (40, refl, refl)
is_mark CloseParenthesis = inl (41, refl, refl)
is_mark OpenBracket = inl (91, refl, refl)
is_mark CloseBracket = inl (93, refl, refl)
is_mark Semicolon = inl (59, refl, refl)
is_mark Colon = inl (58, refl, refl)
is_mark Comma = inl (44, refl, refl)
is_mark Dot = inl (46, refl, refl)
is_mark Equals = inl (61, refl, refl)
is_mark Assign = inr (58, 61, refl, refl)
is_mark Equal = inr (61, 61, refl, refl)
is_mark Unequal = inr (33, 61, refl, refl)
is_mark Less = inl (60, refl, refl)
is_mark Greater = inl (62, refl, refl)
is_mark LessOrEqual = inr (60, 61, refl, refl)
is_mark GreaterOrEqual = inr (62, 61, refl, refl)
is_mark Plus = inl (43, refl, refl)
is_mark Minus = inl (45, refl, refl)
is_mark Star = inl (42, refl, refl)
is_mark Not = inl (33, refl, refl)
is_mark And = inr (38, 38, refl, refl)
is_mark Or = inr (124, 124, refl, refl)

single_pick : (c k : ℕ) (here sign : SignKind) (other : Option SignKind) → sign_bytes here ≡ k ∷ [] → (other ≡ Some sign → sign_bytes sign ≡ c ∷ []) → cond (eqb c k) (Some here) other ≡ Some sign → sign_bytes sign ≡ c ∷ []
single_pick c k here sign other bytes later found =
    ⊎_elim
    (λ same.
    let pair : Some here ≡ Some sign = sym (cond-true (eqb c k) _ _ same) ∙ found in
    let is : sign ≡ here = cc pair in
    ap sign_bytes is ∙ bytes ∙ ap (λ d. d ∷ []) (sym (eqb-true c k same)))
    (λ differs. later (sym (cond-false (eqb c k) _ _ differs) ∙ found))
    (cases_Bool (eqb c k))

single_bytes : (c : ℕ) (sign : SignKind) → single_sign c ≡ Some sign → sign_bytes sign ≡ c ∷ []
single_bytes c sign found =
    (single_pick c 123 OpenBrace sign _ refl
    (single_pick c 125 CloseBrace sign _ refl
    (single_pick c 40 OpenParenthesis sign _ refl
    (single_pick c 41 CloseParenthesis sign _ refl
    (single_pick c 91 OpenBracket sign _ refl
    (single_pick c 93 CloseBracket sign _ refl
    (single_pick c 59 Semicolon sign _ refl
    (single_pick c 58 Colon sign _ refl
    (single_pick c 44 Comma sign _ refl
    (single_pick c 46 Dot sign _ refl
    (single_pick c 61 Equals sign _ refl
    (single_pick c 60 Less sign _ refl
    (single_pick c 62 Greater sign _ refl
    (single_pick c 43 Plus sign _ refl
    (single_pick c 45 Minus sign _ refl
    (single_pick c 42 Star sign _ refl
    (single_pick c 33 Not sign _ refl
    (λ (none : None ≡ Some sign). absurd (none-some sign none)))))))))))))))))))
    found

pair_pick : (c d k m : ℕ) (here sign : SignKind) (other : Option SignKind) → sign_bytes here ≡ k ∷ m ∷ [] → (other ≡ Some sign → sign_bytes sign ≡ c ∷ d ∷ []) → cond (eqb c k && eqb d m) (Some here) other ≡ Some sign → sign_bytes sign ≡ c ∷ d ∷ []
pair_pick c d k m here sign other bytes later found =
    ⊎_elim
    (λ same.
    let both = and_parts (eqb c k) (eqb d m) same in
    let pair : Some here ≡ Some sign = sym (cond-true (eqb c k && eqb d m) _ _ same) ∙ found in
    let is : sign ≡ here = cc pair in
    ap sign_bytes is ∙ bytes ∙ ap (λ e. e ∷ m ∷ []) (sym (eqb-true c k both.0)) ∙ ap (λ e. c ∷ e ∷ []) (sym (eqb-true d m both.1)))
    (λ differs. later (sym (cond-false (eqb c k && eqb d m) _ _ differs) ∙ found))
    (cases_Bool (eqb c k && eqb d m))

pair_bytes : (c d : ℕ) (sign : SignKind) → pair_sign c d ≡ Some sign → sign_bytes sign ≡ c ∷ d ∷ []
pair_bytes c d sign found =
    (pair_pick c d 58 61 Assign sign _ refl
    (pair_pick c d 61 61 Equal sign _ refl
    (pair_pick c d 33 61 Unequal sign _ refl
    (pair_pick c d 60 61 LessOrEqual sign _ refl
    (pair_pick c d 62 61 GreaterOrEqual sign _ refl
    (pair_pick c d 38 38 And sign _ refl
    (pair_pick c d 124 124 Or sign _ refl
    (λ (none : None ≡ Some sign). absurd (none-some sign none)))))))))
    found

mark_size : (sign : SignKind) → IsMark sign → length (sign_bytes sign) ≤ 2
mark_size sign (inl (c, bytes, found)) = omega (arith, ap length bytes)
mark_size sign (inr (c, d, bytes, found)) = omega (arith, ap length bytes)

pub within_two : (first : ℕ) (behind : List ℕ) → class_of first ≡ Other → AreWithin (first ∷ behind) 2
within_two first behind is written (mark sign) after split = mark_size sign (is_mark sign)
within_two first behind is written shape after split = absurd (wrong (first ∷ behind) written after Other is shape split (λ (e : shape_class shape ≡ Other). cc))

mark_short : (first : ℕ) (behind after : List ℕ) (sign : SignKind) → pair_front first behind ≡ None → first ∷ behind ≡ sign_bytes sign ++ after → IsMark sign → (sign_bytes sign ≡ first ∷ []) × (single_sign first ≡ Some sign)
mark_short first behind after sign none split (inl (c, bytes, found)) =
    let whole : first ∷ behind ≡ c ∷ after = split ∙ ap (λ b. b ++ after) bytes in
    let same : c ≡ first = cc in
    (bytes ∙ ap (λ b. b ∷ []) same, ap single_sign (sym same) ∙ found)
mark_short first behind after sign none split (inr (c, d, bytes, found)) =
    let whole : first ∷ behind ≡ c ∷ d ∷ after = split ∙ ap (λ b. b ++ after) bytes in
    let same : first ≡ c = cc in
    let tail : behind ≡ d ∷ after = cc in
    absurd (none-some sign (sym none ∙ ap (λ b. pair_front b behind) same ∙ ap (pair_front c) tail ∙ found))

pub within_one : (first : ℕ) (behind : List ℕ) → class_of first ≡ Other → pair_front first behind ≡ None → AreWithin (first ∷ behind) 1
within_one first behind is none written (mark sign) after split = omega (arith, ap length (mark_short first behind after sign none split (is_mark sign)).0)
within_one first behind is none written shape after split = absurd (wrong (first ∷ behind) written after Other is shape split (λ (e : shape_class shape ≡ Other). cc))

no_mark : (first : ℕ) (behind : List ℕ) → class_of first ≡ Other → pair_front first behind ≡ None → single_sign first ≡ None → HaveNone (first ∷ behind)
no_mark first behind is none alone written (mark sign) after split = none-some sign (sym alone ∙ (mark_short first behind after sign none split (is_mark sign)).1)
no_mark first behind is none alone written shape after split = wrong (first ∷ behind) written after Other is shape split (λ (e : shape_class shape ≡ Other). cc)

pair_written : (first : ℕ) (behind : List ℕ) (sign : SignKind) → pair_front first behind ≡ Some sign → (take 2 (first ∷ behind) ≡ sign_bytes sign) × (2 ≤ length (first ∷ behind))
pair_written first [] sign found = absurd (none-some sign found)
pair_written first (d ∷ ds) sign found = (sym (pair_bytes first d sign found), omega arith)

pub found_pair : (first : ℕ) (behind : List ℕ) (sign : SignKind) → class_of first ≡ Other → pair_front first behind ≡ Some sign → Stands (first ∷ behind) (Lexeme (Sign sign)) 2
found_pair first behind sign is found =
    let both = pair_written first behind sign found in
    stands (first ∷ behind) (Lexeme (Sign sign)) 2 both.0 (within_two first behind is) tt (omega arith) both.1

pub found_single : (first : ℕ) (behind : List ℕ) (sign : SignKind) → class_of first ≡ Other → pair_front first behind ≡ None → single_sign first ≡ Some sign → Stands (first ∷ behind) (Lexeme (Sign sign)) 1
found_single first behind sign is none found =
    stands (first ∷ behind) (Lexeme (Sign sign)) 1 (sym (single_bytes first sign found)) (within_one first behind is none) tt (omega arith) (omega arith)

pub bad_sign : (at first : ℕ) (behind : List ℕ) → class_of first ≡ Other → pair_front first behind ≡ None → single_sign first ≡ None → IsFault at (first ∷ behind) (BadByte at)
bad_sign at first behind is none alone =
    let no = other_from first is in
    inl (
      record {
        some = λ empty. cc;
        stuck = stuck (first ∷ behind) (no_mark first behind is none alone);
        no_string = no.0;
        no_comment = and_false_left (eqb 47 first) (starts_with nat_eq behind (42 ∷ [])) (ne_eqb 47 first (λ same. eqb-false first 47 no.1 (sym same)));
      },
      refl,
    )

same_mark : (a b : SignKind) → sign_bytes a ≡ sign_bytes b → IsMark a → IsMark b → a ≡ b
same_mark a b same (inl (c, bytes, found)) (inl (d, bytes', found')) =
    let first : c ∷ [] ≡ d ∷ [] = sym bytes ∙ same ∙ bytes' in
    let c_is : c ≡ d = cc first in
    let both : Some a ≡ Some b = sym found ∙ ap single_sign c_is ∙ found' in
    cc both
same_mark a b same (inl (c, bytes, found)) (inr (d, e, bytes', found')) = absurd (let no : c ∷ [] ≡ d ∷ e ∷ [] = sym bytes ∙ same ∙ bytes' in omega (arith, ap length no))
same_mark a b same (inr (c, d, bytes, found)) (inl (e, bytes', found')) = absurd (let no : c ∷ d ∷ [] ≡ e ∷ [] = sym bytes ∙ same ∙ bytes' in omega (arith, ap length no))
same_mark a b same (inr (c, d, bytes, found)) (inr (e, f, bytes', found')) =
    let first : c ∷ d ∷ [] ≡ e ∷ f ∷ [] = sym bytes ∙ same ∙ bytes' in
    let c_is : c ≡ e = cc first in
    let d_is : d ≡ f = cc first in
    let both : Some a ≡ Some b = sym found ∙ ap (λ x. pair_sign x d) c_is ∙ ap (pair_sign e) d_is ∙ found' in
    cc both

-- two signs are not written alike
pub one_sign : (a b : SignKind) → sign_bytes a ≡ sign_bytes b → a ≡ b
one_sign a b same = same_mark a b same (is_mark a) (is_mark b)
