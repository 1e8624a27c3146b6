-- The tokens of a text end with the end token, and there are at most as many as bytes, and that one.
use Rattle.std.proofs.Common.{◌≡◌, ◌+◌, ◌≤◌, ◌++◌, ℕ, List, [], ◌∷◌, Result, Ok, Err, length, refl, ap, arith, length-append}
use Rattle.slicc_lex.specs.declared.token.Token.{Token}
use Rattle.slicc_lex.specs.declared.fault.LexFault.{LexFault}
use Rattle.slicc_lex.specs.declared.piece.Piece.TheVariants.{Lexeme}
use Rattle.slicc_lex.specs.Prelude.{AreEnded, Reads, ends, skips, takes, stops, with_token}
use Rattle.slicc_lex.proofs.Shapes.{shape_of, shape_some}

AreFew : List ℕ → Result (List Token) LexFault → Type 0
AreFew bytes (Ok tokens) = AreEnded tokens × (length tokens ≤ length bytes + 1)
AreFew bytes (Err fault) = Unit {0}

more_few : (bytes written rest : List ℕ) (token : Token) (answer : Result (List Token) LexFault) → bytes ≡ written ++ rest → 1 ≤ length written → AreFew rest answer → AreFew bytes (with_token token answer)
unfolding AreFew
more_few bytes written rest token (Err fault) split some few = tt
more_few bytes written rest token (Ok tokens) split some few =
    let ended = few.0 in
    let le : length tokens ≤ length rest + 1 = few.1 in (
      record { front = token ∷ ended.front; end = ended.end; split = ap (λ ts. token ∷ ts) ended.split; is_end = ended.is_end },
      omega (arith, ap length split, length-append written rest),
    )

gap_few : (bytes written rest : List ℕ) (answer : Result (List Token) LexFault) → bytes ≡ written ++ rest → AreFew rest answer → AreFew bytes answer
unfolding AreFew
gap_few bytes written rest (Err fault) split few = tt
gap_few bytes written rest (Ok tokens) split few =
    let le : length tokens ≤ length rest + 1 = few.1 in
    (few.0, omega (arith, ap length split, length-append written rest))

few_tokens : {file at : ℕ} {bytes : List ℕ} {answer : Result (List Token) LexFault} → Reads file at bytes answer → AreFew bytes answer
unfolding AreFew
few_tokens {file = file} {at = at} ends = (record { front = []; end = _; split = refl; is_end = refl }, omega arith)
few_tokens (skips {bytes = bytes} {written = written} {rest = rest} {answer = answer} next reads) = gap_few bytes written rest answer next.split (few_tokens reads)
few_tokens (takes {bytes = bytes} {written = written} {rest = rest} {kind = kind} {answer = answer} next within reads) =
    more_few bytes written rest _ answer next.split (shape_some (shape_of (Lexeme kind) written next.is_written)) (few_tokens reads)
few_tokens (stops fault) = tt

pub are_ended : (file : ℕ) (bytes : List ℕ) (tokens : List Token) → Reads file 0 bytes (Ok tokens) → AreEnded tokens
unfolding AreFew
are_ended file bytes tokens reads = (few_tokens reads).0

pub are_few : (file : ℕ) (bytes : List ℕ) (tokens : List Token) → Reads file 0 bytes (Ok tokens) → length tokens ≤ length bytes + 1
unfolding AreFew
are_few file bytes tokens reads = (few_tokens reads).1
