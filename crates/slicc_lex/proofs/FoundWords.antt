-- The word at the front of bytes is a name, a reserved word or a fault.
use Rattle.std.proofs.Common.{◌≡◌, ◌≢◌, ◌+◌, ◌≤◌, ◌<◌, ℕ, suc, List, [], ◌∷◌, length, take, drop, refl, sym, ap, ◌∙◌, subst, arith, one-add}
use Rattle.std.specs.List.{prefix_len}
use Rattle.std.proofs.lemmas.Bool.{cond-true, or_left}
use Rattle.std.proofs.lemmas.List.{length-take-le}
use Rattle.std.proofs.lemmas.List.Sums.{prefix_len-le-length}
use Rattle.slicc_ast.specs.declared.tree.token.TokenKind.TheVariants.{Name, Word}
use Rattle.slicc_ast.specs.declared.tree.token.Word.{Word as Reserved}
use Rattle.slicc_ast.specs.Prelude.{is_letter, is_word_byte}
use Rattle.slicc_lex.specs.declared.class.Class.TheVariants.{Letter}
use Rattle.slicc_lex.specs.declared.fault.LexFault.TheVariants.{NameTooLong}
use Rattle.slicc_lex.specs.declared.piece.Piece.TheVariants.{Lexeme}
use Rattle.slicc_lex.specs.Prelude.{word_bytes, IsWord, IsFault, BeginsWith, Stands}
use Rattle.slicc_lex.proofs.Spans.{span_is}
use Rattle.slicc_lex.proofs.Classes.{letter_from, first_from}
use Rattle.slicc_lex.proofs.Longest.{AreWithin, stands, next_is, word_within}

-- a word is at least one byte long
word_size : (c : ℕ) (cs : List ℕ) → BeginsWith Letter (c ∷ cs) → prefix_len is_word_byte (c ∷ cs) ≡ suc (prefix_len is_word_byte cs)
word_size c cs is = cond-true (is_word_byte c) (1 + prefix_len is_word_byte cs) 0 (or_left (is_letter c) _ (letter_from c is)) ∙ one-add (prefix_len is_word_byte cs)

word_some : (bytes : List ℕ) → BeginsWith Letter bytes → 1 ≤ prefix_len is_word_byte bytes
word_some [] is = absurd is
word_some (c ∷ cs) is = omega (arith, word_size c cs is)

word_is : (bytes : List ℕ) → BeginsWith Letter bytes → IsWord (take (prefix_len is_word_byte bytes) bytes)
word_is [] is = absurd is
word_is (c ∷ cs) is = subst (λ n. IsWord (take n (c ∷ cs))) (sym (word_size c cs is)) (letter_from c is, (span_is is_word_byte cs).0)

pub found_reserved : (bytes text : List ℕ) (size : ℕ) (reserved : Reserved) → BeginsWith Letter bytes → size ≡ prefix_len is_word_byte bytes → text ≡ take size bytes → text ≡ word_bytes reserved → Stands bytes (Lexeme (Word reserved)) size
found_reserved bytes text size reserved is size_is cut word =
    subst (Stands bytes (Lexeme (Word reserved))) (sym size_is)
    (stands bytes (Lexeme (Word reserved)) (prefix_len is_word_byte bytes)
    (ap (λ n. take n bytes) (sym size_is) ∙ sym cut ∙ word)
    (word_within bytes (first_from Letter bytes is)) tt (word_some bytes is) (prefix_len-le-length is_word_byte bytes))

pub found_name : (bytes text name : List ℕ) (size : ℕ) → BeginsWith Letter bytes → size ≡ prefix_len is_word_byte bytes → text ≡ take size bytes → ((reserved : Reserved) → text ≢ word_bytes reserved) → name ≡ text → size ≤ 128 → Stands bytes (Lexeme (Name name)) size
found_name bytes text name size is size_is cut free copied short =
    let inside : size ≤ length bytes = omega (arith, size_is, prefix_len-le-length is_word_byte bytes) in
    let name_is : name ≡ take size bytes = copied ∙ cut in
    let taken : IsWord (take size bytes) = subst (λ n. IsWord (take n bytes)) (sym size_is) (word_is bytes is) in
    stands bytes (Lexeme (Name name)) size
    (sym name_is, subst IsWord (sym name_is) taken, λ reserved same. free reserved (sym copied ∙ same))
    (subst (λ n. AreWithin bytes n) (sym size_is) (word_within bytes (first_from Letter bytes is)))
    (omega (arith, short, ap length name_is, length-take-le size bytes inside))
    (omega (arith, size_is, word_some bytes is)) inside

pub name_too_long : (at : ℕ) (bytes text : List ℕ) (size : ℕ) → BeginsWith Letter bytes → size ≡ prefix_len is_word_byte bytes → text ≡ take size bytes → ((reserved : Reserved) → text ≢ word_bytes reserved) → 128 < size → IsFault at bytes (NameTooLong at)
name_too_long at bytes text size is size_is cut free long =
    let inside : size ≤ length bytes = omega (arith, size_is, prefix_len-le-length is_word_byte bytes) in
    let taken : IsWord (take size bytes) = subst (λ n. IsWord (take n bytes)) (sym size_is) (word_is bytes is) in (
      take size bytes,
      take size bytes,
      drop size bytes,
      next_is bytes (Lexeme (Name (take size bytes))) size
          (refl, taken, λ reserved same. free reserved (cut ∙ same))
          (subst (λ n. AreWithin bytes n) (sym size_is) (word_within bytes (first_from Letter bytes is))) inside,
      omega (arith, long, length-take-le size bytes inside),
      refl,
    )
