-- What is read behind a value that was read, as a part of the grammar; and what is known of an answer, once it is known which.
use Rattle.std.proofs.Common.{◌≡◌, ℕ, ◌-◌, ◌<◌, ◌≤◌, List, [], ◌∷◌, length, subst, arith, Bor, Result, Ok, Err, IfErr, IfOk}
use Rattle.std.specs.Result.{MatchResult}
use Rattle.slicc_ast.specs.declared.tree.token.Sign.{Sign}
use Rattle.slicc_ast.specs.declared.tree.token.Sign.TheVariants.{OpenParenthesis}
use Rattle.slicc_ast.specs.declared.tree.token.Word.{Word}
use Rattle.slicc_ast.specs.Names.{sign, word as word_parts}
use Rattle.slicc_ast.specs.Prelude.{Parts, done, nested, ◌▸◌, sign_kind}
use Rattle.slicc_ast.specs.Parts.{Part, word}
use Rattle.slicc_lex.specs.declared.token.Token.{Token}
use Rattle.slicc_reading.specs.declared.fault.Fault.{Fault}
use Rattle.slicc_reading.specs.Prelude.{AreRead, IsCalled, IsOpened, Refuses}
use Rattle.slicc_reading.proofs.Choices.{fault_in_nesting, in_nesting}
use Rattle.slicc_reading.proofs.Parts.{◌then◌, behind}

-- what holds of the value that was read, and of a fault
pub of_read : {A E : Type 0} (P : A → Type 0) (Q : E → Type 0) (r : Result A E) {a : A} → MatchResult r P Q → r ≡ Ok a → P a
of_read P Q r m is = subst (λ x. MatchResult x P Q) is m

pub of_value : {A E : Type 0} (P : A → Type 0) (r : Result A E) {a : A} → IfOk r P → r ≡ Ok a → P a
of_value P r m is = subst (λ x. IfOk x P) is m

pub on_fault : {A E : Type 0} (P : A → Type 0) (Q : E → Type 0) (r : Result A E) → MatchResult r P Q → IfErr r Q
on_fault P Q (Ok a) m = tt
on_fault P Q (Err e) m = m

-- what is read in a nesting
pub nests : {A : Type 0} {room : ℕ} {opener : Sign} {tokens inside : List Token} (g : Part) (q : A → Parts → Parts) (r : Result (A × Bor (List Token)) Fault)
    → IsOpened room opener tokens inside → MatchResult r (λ x. AreRead (room - 1) g (q x.0) inside x.1.now) (Refuses (room - 1) g inside)
    → MatchResult r (λ x. AreRead room (nested (sign_kind opener ∷ []) (g done)) (λ others. sign opener (q x.0 others)) tokens x.1.now)
    (Refuses room (nested (sign_kind opener ∷ []) (g done)) tokens)
nests g q (Ok x) opened m = in_nesting opened m
nests g q (Err e) opened m = fault_in_nesting opened m

-- what is read behind a word and the parenthesis that opens behind it
pub calls : {A : Type 0} {room : ℕ} {head : Word} {tokens inside : List Token} (g : Part) (q : A → Parts → Parts) (r : Result (A × Bor (List Token)) Fault)
    → IsCalled room head tokens inside → MatchResult r (λ x. AreRead (room - 1) g (q x.0) inside x.1.now) (Refuses (room - 1) g inside)
    → MatchResult r (λ x. AreRead room (word head ▸ nested (sign_kind OpenParenthesis ∷ []) (g done)) (λ others. word_parts head (sign OpenParenthesis (q x.0 others))) tokens x.1.now)
    (Refuses room (word head ▸ nested (sign_kind OpenParenthesis ∷ []) (g done)) tokens)
calls g q (Ok x) is m = is.is_head then in_nesting is.opened m
calls g q (Err e) is m = behind is.is_head (fault_in_nesting is.opened m)

-- no more tokens are left than there were
pub at_most : {A : Type 0} (room : ℕ) (g : Part) (tokens : List Token) (q : A → Parts → Parts) (r : Result (A × Bor (List Token)) Fault)
    → MatchResult r (λ x. AreRead room g (q x.0) tokens x.1.now) (Refuses room g tokens) → IfOk r (λ x. length x.1.now ≤ length tokens)
at_most room g tokens q (Ok x) m = m.within
at_most room g tokens q (Err e) m = tt

pub fewer : {A : Type 0} {size : ℕ} (room : ℕ) (g : Part) (tokens : List Token) (q : A → Parts → Parts) (r : Result (A × Bor (List Token)) Fault)
    → length tokens < size → MatchResult r (λ x. AreRead room g (q x.0) tokens x.1.now) (Refuses room g tokens) → IfOk r (λ x. length x.1.now < size)
fewer room g tokens q (Ok x) lt m = let le : length x.1.now ≤ length tokens = m.within in omega arith
fewer room g tokens q (Err e) lt m = tt

pub weaker : {A : Type 0} (size : ℕ) (r : Result (A × Bor (List Token)) Fault) → IfOk r (λ x. length x.1.now < size) → IfOk r (λ x. length x.1.now ≤ size)
weaker size (Ok x) lt = omega arith
weaker size (Err e) lt = tt

pub fewer_still : {A : Type 0} {n size : ℕ} (r : Result (A × Bor (List Token)) Fault) → n < size → IfOk r (λ x. length x.1.now < n) → IfOk r (λ x. length x.1.now < size)
fewer_still (Ok x) more lt = omega arith
fewer_still (Err e) more lt = tt
