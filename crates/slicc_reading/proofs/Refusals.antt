-- The fault at a token that isn't one that must come.
use Rattle.std.proofs.Common.{◌≡◌, ℕ, zero, suc, ◌<◌, true, false, cond, List, [], ◌∷◌, length, refl, sym, subst, ap, arith}
use Rattle.std.proofs.lemmas.Bool.{false≢true}
use Rattle.slicc_ast.specs.Prelude.{Bad, Deep, is_ahead, refusal, openers, table}
use Rattle.slicc_lex.specs.declared.token.Token.{Token}
use Rattle.slicc_lex.specs.Prelude.{symbols}
use Rattle.slicc_reading.specs.declared.fault.Fault.TheVariants.{Syntax, Deep as TooDeep}
use Rattle.slicc_reading.specs.Prelude.{IsStopOf, is_bad, is_deep, is_short}

pub symbols_length : (tokens : List Token) → length (symbols tokens) ≡ length tokens
symbols_length [] = refl
symbols_length (t ∷ tokens) = ap suc (symbols_length tokens)

bad_at : (tokens : List Token) → IsStopOf (Bad (symbols tokens)) (Syntax (length tokens))
bad_at tokens = subst (λ n. IsStopOf (Bad (symbols tokens)) (Syntax n)) (symbols_length tokens) is_bad

pub deep_at : (tokens : List Token) → IsStopOf (Deep (symbols tokens)) (TooDeep (length tokens))
deep_at tokens = subst (λ n. IsStopOf (Deep (symbols tokens)) (TooDeep n)) (symbols_length tokens) is_deep

-- where more nestings are allowed
pub refused_with_room : (room : ℕ) (tokens : List Token) → 0 < room → IsStopOf (refusal table room (symbols tokens)) (Syntax (length tokens))
refused_with_room room [] some = is_short
refused_with_room zero (t ∷ tokens) some = absurd (omega arith)
refused_with_room (suc room) (t ∷ tokens) some = bad_at (t ∷ tokens)

-- where none are, and the token opens one
pub refused_too_deep : (room : ℕ) (tokens : List Token) → room ≡ 0 → is_ahead openers (symbols tokens) ≡ true → IsStopOf (refusal table room (symbols tokens)) (TooDeep (length tokens))
refused_too_deep room [] none opens = absurd (false≢true opens)
refused_too_deep (suc room) (t ∷ tokens) none opens = absurd (omega arith)
refused_too_deep zero (t ∷ tokens) none opens =
    subst (λ b. IsStopOf (cond b (Deep (symbols (t ∷ tokens))) (Bad (symbols (t ∷ tokens)))) (TooDeep (length (t ∷ tokens)))) (sym opens) (deep_at (t ∷ tokens))

-- and it opens none
pub refused_bad : (room : ℕ) (tokens : List Token) → room ≡ 0 → is_ahead openers (symbols tokens) ≡ false → IsStopOf (refusal table room (symbols tokens)) (Syntax (length tokens))
refused_bad room [] none opens = is_short
refused_bad (suc room) (t ∷ tokens) none opens = absurd (omega arith)
refused_bad zero (t ∷ tokens) none opens =
    subst (λ b. IsStopOf (cond b (Deep (symbols (t ∷ tokens))) (Bad (symbols (t ∷ tokens)))) (Syntax (length (t ∷ tokens)))) (sym opens) (bad_at (t ∷ tokens))
