-- A text is read in one way: it has one tree, or what is broken in it is one rule at one place.
use Rattle.std.proofs.Common.{◌≡◌, ◌+◌, ◌-◌, ◌++◌, ℕ, Some, Result, Ok, Err, List, [], length, refl, sym, subst, ap, ◌∙◌, arith, length-append}
use Rattle.std.proofs.lemmas.List.{length-map}
use Rattle.std.proofs.lemmas.Option.{same_Some}
use Rattle.std.specs.List.{slice_get}
use Rattle.slicc_ast.specs.Prelude.{IsFirstFault, Stop, Passed, Bad, Deep, Short, done, form, end, Form, kind_of, written}
use Rattle.slicc_ast.proofs.Fronts.{one_stop}
use Rattle.slicc_ast.specs.declared.tree.item.Tree.{Tree}
use Rattle.slicc_lex.specs.declared.token.Token.{Token}
use Rattle.slicc_lex.specs.Prelude.{Spells, IsStoppedAt, symbols}
use Rattle.slicc_lex.proofs.OneReading.{one_reading}
use Rattle.slicc_files.proofs.OneSpelling.{one_spelling}
use Rattle.slicc_files.specs.declared.reading.Broken.{Broken}
use Rattle.slicc_files.specs.declared.reading.TextRule.{TextRule}
use Rattle.slicc_files.specs.declared.reading.TextRule.TheVariants.{BadToken, DeepNesting}
use Rattle.slicc_files.specs.Prelude.{IsReadText, IsReadTokens, broken_at, broken_by, has_no_tokens, has_tokens, spells_a_tree, has_a_bad_token, nests_too_deep}

-- a rule is broken at the token that so many are left from on
abbrev IsBrokenBefore : List Token → TextRule → ℕ → Broken → Type 0
IsBrokenBefore tokens rule left b = (t : Token) × (slice_get tokens (length tokens - left) ≡ Some t) × (b ≡ broken_at rule t.span.start)

-- what is answered to where the tokens stop
abbrev IsAnswerTo : List Token → Stop → Result Tree Broken → Type 0
IsAnswerTo tokens (Passed rest) (Ok t) = Spells t tokens
IsAnswerTo tokens (Passed rest) (Err b) = ⊥
IsAnswerTo tokens (Bad rest) (Ok t) = ⊥
IsAnswerTo tokens (Bad rest) (Err b) = IsBrokenBefore tokens BadToken (length rest) b
IsAnswerTo tokens (Deep rest) (Ok t) = ⊥
IsAnswerTo tokens (Deep rest) (Err b) = IsBrokenBefore tokens DeepNesting (length rest) b
IsAnswerTo tokens Short answer = ⊥

record IsStopped (tokens : List Token) (answer : Result Tree Broken) : Type 0 where
  stop : Stop
  stopped : IsFirstFault written 64 Form.file (symbols tokens) stop
  answered : IsAnswerTo tokens stop answer

place_is : (tokens front left : List Token) (place : ℕ) → tokens ≡ front ++ left → place ≡ 0 + length front → place ≡ length tokens - length (symbols left)
place_is tokens front left place split is =
    omega (arith, ap length split, length-append front left, is, length-map left (λ (t : Token). kind_of t.kind))

broken : (tokens : List Token) (rule : TextRule) (why : List ℕ → Stop) (place : ℕ) (t : Token) (s : IsStoppedAt Form.file 0 tokens 0 why place) → slice_get tokens place ≡ Some t
    → IsBrokenBefore tokens rule (length (symbols s.left)) (broken_at rule t.span.start)
broken tokens rule why place t s at =
    (t, subst (λ n. slice_get tokens n ≡ Some t) (place_is tokens s.front s.left place s.split s.is_place) at, refl)

stopped_tokens : (tokens : List Token) (answer : Result Tree Broken) → IsReadTokens tokens answer → IsStopped tokens answer
stopped_tokens tokens answer (spells_a_tree spells passed) = record { stop = Passed []; stopped = passed; answered = spells }
stopped_tokens tokens answer (has_a_bad_token {place = place} {token = token} bad at) =
    record { stop = Bad (symbols bad.left); stopped = bad.stopped; answered = broken tokens BadToken Bad place token bad at }
stopped_tokens tokens answer (nests_too_deep {place = place} {token = token} deep at) =
    record { stop = Deep (symbols deep.left); stopped = deep.stopped; answered = broken tokens DeepNesting Deep place token deep at }

one_broken : (tokens : List Token) (rule : TextRule) (left : ℕ) (b c : Broken) → IsBrokenBefore tokens rule left b → IsBrokenBefore tokens rule left c → b ≡ c
one_broken tokens rule left b c (t, at, is) (u, also, same) =
    let token : t ≡ u = same_Some t u (sym at ∙ also) in
    is ∙ ap (λ (x : Token). broken_at rule x.span.start) token ∙ sym same

one_answer_to : (tokens : List Token) (stop : Stop) (a b : Result Tree Broken) → IsAnswerTo tokens stop a → IsAnswerTo tokens stop b → a ≡ b
one_answer_to tokens (Passed rest) (Ok t) (Ok u) is also = ap Ok (one_spelling tokens t u is also)
one_answer_to tokens (Passed rest) (Ok t) (Err c) is also = absurd also
one_answer_to tokens (Passed rest) (Err b) answer is also = absurd is
one_answer_to tokens (Bad rest) (Ok t) answer is also = absurd is
one_answer_to tokens (Bad rest) (Err b) (Ok u) is also = absurd also
one_answer_to tokens (Bad rest) (Err b) (Err c) is also = ap Err (one_broken tokens BadToken (length rest) b c is also)
one_answer_to tokens (Deep rest) (Ok t) answer is also = absurd is
one_answer_to tokens (Deep rest) (Err b) (Ok u) is also = absurd also
one_answer_to tokens (Deep rest) (Err b) (Err c) is also = ap Err (one_broken tokens DeepNesting (length rest) b c is also)
one_answer_to tokens Short answer other is also = absurd is

one_of_tokens : (tokens : List Token) (a b : Result Tree Broken) → IsReadTokens tokens a → IsReadTokens tokens b → a ≡ b
one_of_tokens tokens a b is also =
    let first = stopped_tokens tokens a is in
    let other = stopped_tokens tokens b also in
    let same : other.stop ≡ first.stop = one_stop written 64 (form Form.file done) end (symbols tokens) other.stop first.stop other.stopped first.stopped in
    one_answer_to tokens first.stop a b first.answered (subst (λ s. IsAnswerTo tokens s b) same other.answered)

pub one_text : (file : ℕ) (bytes : List ℕ) (a b : Result Tree Broken) → IsReadText file bytes a → IsReadText file bytes b → a ≡ b
one_text file bytes a b (has_no_tokens {why = why} {broken = first} reads is) (has_no_tokens {why = other} {broken = second} also same) =
    let one : Err why ≡ Err other = one_reading reads also in
    let fault : why ≡ other = cc one in
    ap Err (same_Some first second (sym is ∙ ap broken_by fault ∙ same))
one_text file bytes a b (has_no_tokens {why = why} reads is) (has_tokens {tokens = tokens} also of) =
    let one : Err why ≡ Ok tokens = one_reading reads also in
    absurd (cc one)
one_text file bytes a b (has_tokens {tokens = tokens} reads is) (has_no_tokens {why = why} also of) =
    let one : Ok tokens ≡ Err why = one_reading reads also in
    absurd (cc one)
one_text file bytes a b (has_tokens {tokens = tokens} {answer = first} reads is) (has_tokens {tokens = others} {answer = second} also of) =
    let one : Ok tokens ≡ Ok others = one_reading reads also in
    let same : tokens ≡ others = cc one in
    one_of_tokens tokens first second is (subst (λ ts. IsReadTokens ts second) (sym same) of)
