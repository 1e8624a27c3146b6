-- A text's tokens have the end token at their end, and nowhere else.
use Rattle.std.proofs.Common.{◌≢◌, ℕ, List, [], ◌∷◌, Result, Ok, Err, refl, subst, ap}
use Rattle.std.proofs.lemmas.List.Elements.{All-cons, All-nil}
use Rattle.slicc_ast.specs.declared.tree.token.TokenKind.{TokenKind}
use Rattle.slicc_ast.specs.declared.tree.token.TokenKind.TheVariants.{End}
use Rattle.slicc_lex.specs.declared.fault.LexFault.{LexFault}
use Rattle.slicc_lex.specs.declared.token.Token.{Token}
use Rattle.slicc_lex.specs.Prelude.{IsWritten, Reads, ends, skips, takes, stops, with_token}
use Rattle.slicc_parse.specs.Prelude.{AreEndedOnce}

abbrev IsOther : Token → Type 0
IsOther t = t.kind ≢ End

Ended : Result (List Token) LexFault → Type 0
Ended (Ok tokens) = AreEndedOnce tokens
Ended (Err fault) = Unit {0}

not_end : (kind : TokenKind) (written : List ℕ) → IsWritten kind written → kind ≢ End
not_end kind written is same = subst (λ k. IsWritten k written) same is

one_more : (token : Token) (answer : Result (List Token) LexFault) → token.kind ≢ End → Ended answer → Ended (with_token token answer)
unfolding Ended
one_more token (Err fault) other e = tt
one_more token (Ok tokens) other e =
    record { front = token ∷ e.front; end = e.end; split = ap (λ ts. token ∷ ts) e.split; is_end = e.is_end; no_other = All-cons IsOther token e.front other e.no_other }

ended_answer : {file at : ℕ} {bytes : List ℕ} {answer : Result (List Token) LexFault} → Reads file at bytes answer → Ended answer
unfolding Ended
ended_answer ends = record { front = []; end = _; split = refl; is_end = refl; no_other = All-nil IsOther }
ended_answer (skips next reads) = ended_answer reads
ended_answer (takes {written = written} {kind = kind} {answer = answer} next within reads) = one_more _ answer (not_end kind written next.is_written) (ended_answer reads)
ended_answer (stops fault) = tt

pub ended_once : (file : ℕ) (bytes : List ℕ) (tokens : List Token) → Reads file 0 bytes (Ok tokens) → AreEndedOnce tokens
unfolding Ended
ended_once file bytes tokens reads = ended_answer reads
