-- The lexer's invariant: what is left to read, read in any way, makes with the tokens so far a reading of the whole.
use Rattle.std.proofs.Common.{◌≡◌, ◌+◌, ◌++◌, ℕ, List, [], ◌∷◌, Result, Ok, Err, length, drop, refl, sym, ap, subst, arith, append_assoc, append-nil, length-drop, eqb, eqb-true, true}
use Rattle.std.proofs.lemmas.List.{length-take-le, nil_from_length}
use Rattle.slicc_ast.specs.declared.tree.token.TokenKind.TheVariants.{End}
use Rattle.slicc_lex.specs.declared.token.Token.{Token}
use Rattle.slicc_lex.specs.declared.fault.LexFault.{LexFault}
use Rattle.slicc_lex.specs.declared.piece.Piece.{Piece}
use Rattle.slicc_lex.specs.declared.piece.Piece.TheVariants.{Gap, Lexeme}
use Rattle.slicc_lex.specs.Prelude.{Reads, ends, skips, takes, stops, IsFault, token_at, with_token, Stands, tokens_of}

-- the answer with these tokens before it
abbrev pub after : List Token → Result (List Token) LexFault → Result (List Token) LexFault
after done (Ok tokens) = Ok (done ++ tokens)
after done (Err fault) = Err fault

pub record Lexed (file : ℕ) (bytes : List ℕ) (done : List Token) (at : ℕ) (rest : List ℕ) : Type 0 where
  pub whole : (answer : Result (List Token) LexFault) → Reads file at rest answer → Reads file 0 bytes (after done answer)
  pub place : at + length rest ≡ length bytes

after_none : (answer : Result (List Token) LexFault) → after [] answer ≡ answer
after_none (Ok tokens) = refl
after_none (Err fault) = refl

pub lexed_none : (file : ℕ) (bytes : List ℕ) → Lexed file bytes [] 0 bytes
lexed_none file bytes = record { whole = λ answer is. subst (Reads file 0 bytes) (sym (after_none answer)) is; place = omega arith }

after_more : (done : List Token) (token : Token) (answer : Result (List Token) LexFault) → after done (with_token token answer) ≡ after (done ++ token ∷ []) answer
after_more done token (Ok tokens) = ap (λ (ts : List Token). Ok ts) (sym (append_assoc done (token ∷ []) tokens))
after_more done token (Err fault) = refl

pub lexed_more : (file : ℕ) (bytes : List ℕ) (done : List Token) (at : ℕ) (rest : List ℕ) (piece : Piece) (size : ℕ) → Lexed file bytes done at rest → Stands rest piece size → Lexed file bytes (done ++ tokens_of file at (at + size) piece) (at + size) (drop size rest)
lexed_more file bytes done at rest Gap size lexed found = record {
  whole = λ answer is. subst (λ d. Reads file 0 bytes (after d answer)) (sym (append-nil done)) (lexed.whole answer (skips found.next (subst (λ n. Reads file (at + n) (drop size rest) answer) (sym (length-take-le size rest found.inside)) is)));
  place = omega (arith, lexed.place, length-drop size rest, found.inside);
}
lexed_more file bytes done at rest (Lexeme kind) size lexed found =
    let long = length-take-le size rest found.inside in
    record {
      whole = λ answer is.
          subst (Reads file 0 bytes) (after_more done (token_at file at (at + size) kind) answer)
          (lexed.whole (with_token (token_at file at (at + size) kind) answer)
          (subst (λ n. Reads file at rest (with_token (token_at file at (at + n) kind) answer)) long
          (takes found.next found.within (subst (λ n. Reads file (at + n) (drop size rest) answer) (sym long) is))));
      place = omega (arith, lexed.place, length-drop size rest, found.inside);
    }

pub lexed_fault : (file : ℕ) (bytes : List ℕ) (done : List Token) (at : ℕ) (rest : List ℕ) (fault : LexFault) → Lexed file bytes done at rest → IsFault at rest fault → Reads file 0 bytes (Err fault)
lexed_fault file bytes done at rest fault lexed is = lexed.whole (Err fault) (stops is)

pub lexed_all : (file : ℕ) (bytes : List ℕ) (done : List Token) (at : ℕ) (rest : List ℕ) → Lexed file bytes done at rest → rest ≡ [] → Reads file 0 bytes (Ok (done ++ token_at file at at End ∷ []))
lexed_all file bytes done at rest lexed none = lexed.whole (Ok (token_at file at at End ∷ [])) (subst (λ r. Reads file at r (Ok (token_at file at at End ∷ []))) (sym none) ends)

pub same_lexed : (file : ℕ) (bytes : List ℕ) (done done' : List Token) (at : ℕ) (rest rest' : List ℕ) → done ≡ done' → rest ≡ rest' → Lexed file bytes done at rest → Lexed file bytes done' at rest'
same_lexed file bytes done done' at rest rest' tokens bytes_are lexed = subst (λ r. Lexed file bytes done' at r) bytes_are (subst (λ d. Lexed file bytes d at rest) tokens lexed)

pub rest_empty : (rest : List ℕ) → eqb (length rest) 0 ≡ true → rest ≡ []
rest_empty rest test = nil_from_length rest (eqb-true (length rest) 0 test)
