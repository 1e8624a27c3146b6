-- From what the lexer and the parser answer to what a text is read as.
use Rattle.std.proofs.Common.{◌≡◌, ◌<◌, ◌+◌, ◌++◌, ◌⊎◌, inl, inr, ℕ, Option, None, Some, Result, Ok, Err, List, ◌∷◌, length, refl, sym, subst, ap, ◌∙◌, arith, length-append, IsSomeAnd, MatchResult}
use Rattle.std.proofs.lemmas.List.{length-map}
use Rattle.std.specs.List.{slice_get}
use Rattle.slicc_ast.specs.declared.tree.item.Tree.{Tree}
use Rattle.slicc_ast.specs.Prelude.{IsFirstFault, Stop, Bad, Deep, one_too_deep, whole, opener_too_deep, not_viable, too_short, Form, kind_of, written}
use Rattle.slicc_lex.specs.declared.fault.LexFault.{LexFault}
use Rattle.slicc_lex.specs.declared.fault.LexFault.TheVariants.{NoMemory}
use Rattle.slicc_lex.specs.declared.token.Token.{Token}
use Rattle.slicc_lex.specs.Prelude.{IsBadAt, IsDeepAt, symbols, Reads}
use Rattle.slicc_files.specs.declared.reading.Broken.{Broken}
use Rattle.slicc_files.specs.declared.reading.TextFault.{TextFault}
use Rattle.slicc_files.specs.declared.reading.TextFault.TheVariants as fault
use Rattle.slicc_files.specs.declared.reading.TextRule.TheVariants.{BadToken, DeepNesting}
use Rattle.slicc_files.specs.Prelude.{IsReadText, IsReadTokens, IsTextFault, IsTokensFault, broken_at, broken_by, fault_of, has_no_tokens, has_tokens, has_a_bad_token, nests_too_deep}

-- a list stops at a token of it
some_bad : (limit : ℕ) (tokens rest : List ℕ) (stop : Stop) → stop ≡ Bad rest → IsFirstFault written limit Form.file tokens stop → 0 < length rest
some_bad limit tokens rest stop is (one_too_deep front later kind nestings split within m more) = absurd (cc is)
some_bad limit tokens rest stop is (whole front left split within longest derives) = absurd (cc is)
some_bad limit tokens rest stop is (opener_too_deep front later kind split within longest not_whole deep) = absurd (cc is)
some_bad limit tokens rest stop is (not_viable front later kind split within longest not_whole fine) =
    let same : kind ∷ later ≡ rest = cc is in
    omega (arith, ap length same)
some_bad limit tokens rest stop is (too_short within begins not_whole) = absurd (cc is)

some_deep : (limit : ℕ) (tokens rest : List ℕ) (stop : Stop) → stop ≡ Deep rest → IsFirstFault written limit Form.file tokens stop → 0 < length rest
some_deep limit tokens rest stop is (one_too_deep front later kind nestings split within m more) =
    let same : kind ∷ later ≡ rest = cc is in
    omega (arith, ap length same)
some_deep limit tokens rest stop is (whole front left split within longest derives) = absurd (cc is)
some_deep limit tokens rest stop is (opener_too_deep front later kind split within longest not_whole deep) =
    let same : kind ∷ later ≡ rest = cc is in
    omega (arith, ap length same)
some_deep limit tokens rest stop is (not_viable front later kind split within longest not_whole fine) = absurd (cc is)
some_deep limit tokens rest stop is (too_short within begins not_whole) = absurd (cc is)

before_some : (tokens front left : List Token) (place : ℕ) → tokens ≡ front ++ left → place ≡ 0 + length front → 0 < length (symbols left) → place < length tokens
before_some tokens front left place split is some =
    omega (arith, ap length split, length-append front left, is, length-map left (λ (t : Token). kind_of t.kind), some)

pub bad_inside : (tokens : List Token) (place : ℕ) → IsBadAt Form.file 0 tokens 0 place → place < length tokens
bad_inside tokens place s = before_some tokens s.front s.left place s.split s.is_place (some_bad 64 (symbols tokens) (symbols s.left) (Bad (symbols s.left)) refl s.stopped)

pub deep_inside : (tokens : List Token) (place : ℕ) → IsDeepAt Form.file 0 tokens 0 place → place < length tokens
deep_inside tokens place s = before_some tokens s.front s.left place s.split s.is_place (some_deep 64 (symbols tokens) (symbols s.left) (Deep (symbols s.left)) refl s.stopped)

pub bad_fault : (tokens : List Token) (place : ℕ) (found : Option Token) (answer : TextFault)
    → IsBadAt Form.file 0 tokens 0 place → slice_get tokens place ≡ found
    → IsSomeAnd found (λ (t : Token). answer ≡ fault_of (Some (broken_at BadToken t.span.start)))
    → IsTokensFault tokens answer
bad_fault tokens place None answer bad at is = absurd is
bad_fault tokens place (Some t) answer bad at is = subst (IsTokensFault tokens) (sym is) (has_a_bad_token bad at)

pub deep_fault : (tokens : List Token) (place : ℕ) (found : Option Token) (answer : TextFault)
    → IsDeepAt Form.file 0 tokens 0 place → slice_get tokens place ≡ found
    → IsSomeAnd found (λ (t : Token). answer ≡ fault_of (Some (broken_at DeepNesting t.span.start)))
    → IsTokensFault tokens answer
deep_fault tokens place None answer deep at is = absurd is
deep_fault tokens place (Some t) answer deep at is = subst (IsTokensFault tokens) (sym is) (nests_too_deep deep at)

-- what is answered to its tokens is answered to a text
pub text_of_tokens : (file : ℕ) (bytes : List ℕ) (tokens : List Token) (answer : Result Tree TextFault)
    → Reads file 0 bytes (Ok tokens)
    → MatchResult answer (λ t. IsReadTokens tokens (Ok t)) (IsTokensFault tokens)
    → MatchResult answer (λ t. IsReadText file bytes (Ok t)) (IsTextFault file bytes)
text_of_tokens file bytes tokens (Ok t) reads is = has_tokens reads is
text_of_tokens file bytes tokens (Err (fault.Broken b)) reads is = has_tokens reads is
text_of_tokens file bytes tokens (Err fault.NoMemory) reads is = tt

lexical_or_none : (file : ℕ) (bytes : List ℕ) (why : LexFault) (broken : Option Broken) (answer : TextFault)
    → (why ≡ NoMemory) ⊎ Reads file 0 bytes (Err why) → broken_by why ≡ broken → answer ≡ fault_of broken
    → IsTextFault file bytes answer
lexical_or_none file bytes why None answer reads is fault = subst (IsTextFault file bytes) (sym fault) tt
lexical_or_none file bytes why (Some b) answer (inl lack) is fault =
    let no : None ≡ Some b = sym (ap broken_by lack) ∙ is in
    absurd (cc no)
lexical_or_none file bytes why (Some b) answer (inr reads) is fault = subst (IsTextFault file bytes) (sym fault) (has_no_tokens reads is)

pub lexical_fault : (file : ℕ) (bytes : List ℕ) (why : LexFault) (answer : TextFault)
    → (why ≡ NoMemory) ⊎ Reads file 0 bytes (Err why) → answer ≡ fault_of (broken_by why) → IsTextFault file bytes answer
lexical_fault file bytes why answer reads is = lexical_or_none file bytes why (broken_by why) answer reads refl is
