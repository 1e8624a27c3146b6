-- A text has one list of tokens or one first fault.
use Rattle.std.proofs.Common.{◌≡◌, ◌+◌, ◌≤◌, ◌<◌, ◌^◌, ◌++◌, ℕ, true, false, List, [], ◌∷◌, Result, Err, length, refl, sym, ap, ◌∙◌, subst, arith, inl, inr, pos, eqb, eqb-true, ⊎_elim}
use Rattle.std.specs.List.{prefix_len, list_all}
use Rattle.std.proofs.lemmas.Bool.{and_parts, false≢true, or_cases}
use Rattle.std.proofs.lemmas.Int.{ints}
use Rattle.slicc_ast.specs.declared.tree.token.TokenKind.{TokenKind}
use Rattle.slicc_ast.specs.declared.tree.token.TokenKind.TheVariants.{Name, Number, Quoted}
use Rattle.slicc_ast.specs.Prelude.{is_printable}
use Rattle.slicc_lex.specs.declared.token.Token.{Token}
use Rattle.slicc_lex.specs.declared.fault.LexFault.{LexFault}
use Rattle.slicc_lex.specs.declared.fault.LexFault.TheVariants.{BadByte, OpenString, OpenComment, NumberTooLarge, NameTooLong, NoMemory}
use Rattle.slicc_lex.specs.declared.piece.Piece.{Piece}
use Rattle.slicc_lex.specs.declared.piece.Piece.TheVariants.{Gap, Lexeme}
use Rattle.slicc_lex.specs.Prelude.{IsNext, IsStuck, IsPiece, Reads, ends, skips, takes, stops, IsFault, IsBadInside, IsWithinLimits, token_at, with_token, begins_with_quote, begins_with_comment}
use Rattle.slicc_lex.proofs.Spans.{len_span}
use Rattle.slicc_lex.proofs.Shapes.{shape_of, shape_some}
use Rattle.slicc_lex.proofs.OnePiece.{one_front}

-- no piece is written without a byte
no_nothing : (piece : Piece) → IsPiece piece [] → ⊥
no_nothing piece is = let some : 1 ≤ length {A = ℕ} [] = shape_some (shape_of piece [] is) in omega (arith, some)

-- nothing is at the front of no bytes
no_empty : (piece : Piece) (written rest : List ℕ) → IsNext [] piece written rest → ⊥
no_empty piece [] rest next = no_nothing piece next.is_written
no_empty piece (c ∷ cs) rest next = let no : [] ≡ c ∷ (cs ++ rest) = next.split in cc

-- the place of the first byte that isn't printable
one_bad : (text later text' later' : List ℕ) (bad bad' : ℕ) → text ++ bad ∷ later ≡ text' ++ bad' ∷ later' → list_all is_printable text ≡ true → list_all is_printable text' ≡ true → is_printable bad ≡ false → is_printable bad' ≡ false → length text ≡ length text'
one_bad text later text' later' bad bad' same all all' ended ended' =
    sym (len_span is_printable text (bad ∷ later) all ended) ∙ ap (prefix_len is_printable) same ∙ len_span is_printable text' (bad' ∷ later') all' ended'

all_append : (text later : List ℕ) (bad : ℕ) → list_all is_printable (text ++ bad ∷ later) ≡ true → is_printable bad ≡ true
all_append [] later bad all = (and_parts (is_printable bad) (list_all is_printable later) all).0
all_append (c ∷ cs) later bad all = all_append cs later bad (and_parts (is_printable c) (list_all is_printable (cs ++ bad ∷ later)) all).1

-- the place at which a fault is made by the piece at the front, if it is one that a piece makes
stuck_next : (bytes : List ℕ) (piece : Piece) (written rest : List ℕ) → IsStuck bytes → IsNext bytes piece written rest → ⊥
stuck_next bytes piece written rest stuck next = stuck piece written rest next.split next.is_written

within_number : (n : ℕ) (kind : TokenKind) → kind ≡ Number (pos n) → 2 ^ 63 ≤ n → IsWithinLimits kind → ⊥
within_number n kind is large limits =
    let small : IsWithinLimits (Number (pos n)) = subst IsWithinLimits is limits in omega (arith, ints, small, large)

within_name : (word : List ℕ) (kind : TokenKind) → kind ≡ Name word → 128 < length word → IsWithinLimits kind → ⊥
within_name word kind is long limits =
    let short : IsWithinLimits (Name word) = subst IsWithinLimits is limits in omega (arith, short, long)

within_text : (text later : List ℕ) (bad : ℕ) (kind : TokenKind) → kind ≡ Quoted (text ++ bad ∷ later) → is_printable bad ≡ false → IsWithinLimits kind → ⊥
within_text text later bad kind is ended limits =
    let all : IsWithinLimits (Quoted (text ++ bad ∷ later)) = subst IsWithinLimits is limits in
    false≢true (sym ended ∙ all_append text later bad all)

same_kind : (a b : TokenKind) → Lexeme a ≡ Lexeme b → a ≡ b
same_kind a b is = cc is

-- a piece within its limits makes no fault
no_fault : (at : ℕ) (bytes : List ℕ) (kind : TokenKind) (written rest : List ℕ) (fault : LexFault) → IsNext bytes (Lexeme kind) written rest → IsWithinLimits kind → IsFault at bytes fault → ⊥
no_fault at bytes kind written rest (BadByte place) next limits (inl bad) = stuck_next bytes (Lexeme kind) written rest bad.0.stuck next
no_fault at bytes kind written rest (BadByte place) next limits (inr (before, bad, is)) =
    within_text bad.text bad.later bad.bad kind (same_kind kind _ (one_front bytes (Lexeme kind) _ written bad.written rest bad.rest next bad.next).piece) bad.unprintable limits
no_fault at bytes kind written rest (OpenString place) next limits is = stuck_next bytes (Lexeme kind) written rest is.0 next
no_fault at bytes kind written rest (OpenComment place) next limits is = stuck_next bytes (Lexeme kind) written rest is.0 next
no_fault at bytes kind written rest (NumberTooLarge place) next limits is =
    within_number is.0 kind (same_kind kind _ (one_front bytes (Lexeme kind) _ written is.1 rest is.2 next is.3).piece) is.4 limits
no_fault at bytes kind written rest (NameTooLong place) next limits is =
    within_name is.0 kind (same_kind kind _ (one_front bytes (Lexeme kind) _ written is.1 rest is.2 next is.3).piece) is.4 limits
no_fault at bytes kind written rest NoMemory next limits is = is

-- a gap makes no fault
no_fault_gap : (at : ℕ) (bytes written rest : List ℕ) (fault : LexFault) → IsNext bytes Gap written rest → IsFault at bytes fault → ⊥
no_fault_gap at bytes written rest (BadByte place) next (inl bad) = stuck_next bytes Gap written rest bad.0.stuck next
no_fault_gap at bytes written rest (BadByte place) next (inr (before, bad, is)) = let no : Gap ≡ Lexeme _ = (one_front bytes Gap _ written bad.written rest bad.rest next bad.next).piece in cc
no_fault_gap at bytes written rest (OpenString place) next is = stuck_next bytes Gap written rest is.0 next
no_fault_gap at bytes written rest (OpenComment place) next is = stuck_next bytes Gap written rest is.0 next
no_fault_gap at bytes written rest (NumberTooLarge place) next is = let no : Gap ≡ Lexeme _ = (one_front bytes Gap _ written is.1 rest is.2 next is.3).piece in cc
no_fault_gap at bytes written rest (NameTooLong place) next is = let no : Gap ≡ Lexeme _ = (one_front bytes Gap _ written is.1 rest is.2 next is.3).piece in cc
no_fault_gap at bytes written rest NoMemory next is = is

-- a quote and the beginning of a comment are not both at the front
quote_comment : (bytes : List ℕ) → begins_with_quote bytes ≡ true → begins_with_comment bytes ≡ true → ⊥
quote_comment [] quote comment = false≢true quote
quote_comment (c ∷ cs) quote comment =
    let slash : 47 ≡ c = eqb-true 47 c (and_parts (eqb 47 c) _ comment).0 in
    ⊎_elim (λ a. omega (arith, slash, eqb-true c 34 a)) (λ a. omega (arith, slash, eqb-true c 39 a)) (or_cases (eqb c 34) (eqb c 39) quote)

-- two tokens that make faults at one place are one
same_next : (bytes : List ℕ) (a b : TokenKind) (written written' rest rest' : List ℕ) → IsNext bytes (Lexeme a) written rest → IsNext bytes (Lexeme b) written' rest' → a ≡ b
same_next bytes a b written written' rest rest' first second = same_kind a b (one_front bytes (Lexeme a) (Lexeme b) written written' rest rest' first second).piece

one_inside : (bytes : List ℕ) (before before' : ℕ) → IsBadInside bytes before → IsBadInside bytes before' → before ≡ before'
one_inside bytes before before' a b =
    let kinds : Quoted (a.text ++ a.bad ∷ a.later) ≡ Quoted (b.text ++ b.bad ∷ b.later) = same_next bytes _ _ a.written b.written a.rest b.rest a.next b.next in
    let texts : a.text ++ a.bad ∷ a.later ≡ b.text ++ b.bad ∷ b.later = cc kinds in
    a.place ∙ ap (λ n. 1 + n) (one_bad a.text a.later b.text b.later a.bad b.bad texts a.printable b.printable a.unprintable b.unprintable) ∙ sym b.place

pub one_fault : (at : ℕ) (bytes : List ℕ) (a b : LexFault) → IsFault at bytes a → IsFault at bytes b → a ≡ b
one_fault at bytes (BadByte xp) (BadByte yp) (inl xe) (inl ye) = ap (λ (p : ℕ). BadByte p) (xe.1 ∙ sym (ye.1))
one_fault at bytes (BadByte xp) (BadByte yp) (inl xe) (inr (yn, ye, yi)) = absurd (stuck_next bytes _ ye.written ye.rest xe.0.stuck ye.next)
one_fault at bytes (BadByte xp) (OpenString yp) (inl xe) ye = absurd (false≢true (sym xe.0.no_string ∙ ye.1))
one_fault at bytes (BadByte xp) (OpenComment yp) (inl xe) ye = absurd (false≢true (sym xe.0.no_comment ∙ ye.1))
one_fault at bytes (BadByte xp) (NumberTooLarge yp) (inl xe) ye = absurd (stuck_next bytes _ ye.1 ye.2 xe.0.stuck ye.3)
one_fault at bytes (BadByte xp) (NameTooLong yp) (inl xe) ye = absurd (stuck_next bytes _ ye.1 ye.2 xe.0.stuck ye.3)
one_fault at bytes (BadByte xp) (BadByte yp) (inr (xn, xe, xi)) (inl ye) = absurd (stuck_next bytes _ xe.written xe.rest ye.0.stuck xe.next)
one_fault at bytes (BadByte xp) (BadByte yp) (inr (xn, xe, xi)) (inr (yn, ye, yi)) = ap (λ (p : ℕ). BadByte p) (xi ∙ ap (λ k. at + k) (one_inside bytes xn yn xe ye) ∙ sym yi)
one_fault at bytes (BadByte xp) (OpenString yp) (inr (xn, xe, xi)) ye = absurd (stuck_next bytes _ xe.written xe.rest ye.0 xe.next)
one_fault at bytes (BadByte xp) (OpenComment yp) (inr (xn, xe, xi)) ye = absurd (stuck_next bytes _ xe.written xe.rest ye.0 xe.next)
one_fault at bytes (BadByte xp) (NumberTooLarge yp) (inr (xn, xe, xi)) ye = absurd (let no : Quoted (xe.text ++ xe.bad ∷ xe.later) ≡ Number (pos ye.0) = same_next bytes (Quoted (xe.text ++ xe.bad ∷ xe.later)) (Number (pos ye.0)) xe.written ye.1 xe.rest ye.2 xe.next ye.3 in cc)
one_fault at bytes (BadByte xp) (NameTooLong yp) (inr (xn, xe, xi)) ye = absurd (let no : Quoted (xe.text ++ xe.bad ∷ xe.later) ≡ Name ye.0 = same_next bytes (Quoted (xe.text ++ xe.bad ∷ xe.later)) (Name ye.0) xe.written ye.1 xe.rest ye.2 xe.next ye.3 in cc)
one_fault at bytes (OpenString xp) (BadByte yp) xe (inl ye) = absurd (false≢true (sym ye.0.no_string ∙ xe.1))
one_fault at bytes (OpenString xp) (BadByte yp) xe (inr (yn, ye, yi)) = absurd (stuck_next bytes _ ye.written ye.rest xe.0 ye.next)
one_fault at bytes (OpenString xp) (OpenString yp) xe ye = ap (λ (p : ℕ). OpenString p) (xe.2 ∙ sym (ye.2))
one_fault at bytes (OpenString xp) (OpenComment yp) xe ye = absurd (quote_comment bytes xe.1 ye.1)
one_fault at bytes (OpenString xp) (NumberTooLarge yp) xe ye = absurd (stuck_next bytes _ ye.1 ye.2 xe.0 ye.3)
one_fault at bytes (OpenString xp) (NameTooLong yp) xe ye = absurd (stuck_next bytes _ ye.1 ye.2 xe.0 ye.3)
one_fault at bytes (OpenComment xp) (BadByte yp) xe (inl ye) = absurd (false≢true (sym ye.0.no_comment ∙ xe.1))
one_fault at bytes (OpenComment xp) (BadByte yp) xe (inr (yn, ye, yi)) = absurd (stuck_next bytes _ ye.written ye.rest xe.0 ye.next)
one_fault at bytes (OpenComment xp) (OpenString yp) xe ye = absurd (quote_comment bytes ye.1 xe.1)
one_fault at bytes (OpenComment xp) (OpenComment yp) xe ye = ap (λ (p : ℕ). OpenComment p) (xe.2 ∙ sym (ye.2))
one_fault at bytes (OpenComment xp) (NumberTooLarge yp) xe ye = absurd (stuck_next bytes _ ye.1 ye.2 xe.0 ye.3)
one_fault at bytes (OpenComment xp) (NameTooLong yp) xe ye = absurd (stuck_next bytes _ ye.1 ye.2 xe.0 ye.3)
one_fault at bytes (NumberTooLarge xp) (BadByte yp) xe (inl ye) = absurd (stuck_next bytes _ xe.1 xe.2 ye.0.stuck xe.3)
one_fault at bytes (NumberTooLarge xp) (BadByte yp) xe (inr (yn, ye, yi)) = absurd (let no : Number (pos xe.0) ≡ Quoted (ye.text ++ ye.bad ∷ ye.later) = same_next bytes (Number (pos xe.0)) (Quoted (ye.text ++ ye.bad ∷ ye.later)) xe.1 ye.written xe.2 ye.rest xe.3 ye.next in cc)
one_fault at bytes (NumberTooLarge xp) (OpenString yp) xe ye = absurd (stuck_next bytes _ xe.1 xe.2 ye.0 xe.3)
one_fault at bytes (NumberTooLarge xp) (OpenComment yp) xe ye = absurd (stuck_next bytes _ xe.1 xe.2 ye.0 xe.3)
one_fault at bytes (NumberTooLarge xp) (NumberTooLarge yp) xe ye = ap (λ (p : ℕ). NumberTooLarge p) (xe.5 ∙ sym (ye.5))
one_fault at bytes (NumberTooLarge xp) (NameTooLong yp) xe ye = absurd (let no : Number (pos xe.0) ≡ Name ye.0 = same_next bytes (Number (pos xe.0)) (Name ye.0) xe.1 ye.1 xe.2 ye.2 xe.3 ye.3 in cc)
one_fault at bytes (NameTooLong xp) (BadByte yp) xe (inl ye) = absurd (stuck_next bytes _ xe.1 xe.2 ye.0.stuck xe.3)
one_fault at bytes (NameTooLong xp) (BadByte yp) xe (inr (yn, ye, yi)) = absurd (let no : Name xe.0 ≡ Quoted (ye.text ++ ye.bad ∷ ye.later) = same_next bytes (Name xe.0) (Quoted (ye.text ++ ye.bad ∷ ye.later)) xe.1 ye.written xe.2 ye.rest xe.3 ye.next in cc)
one_fault at bytes (NameTooLong xp) (OpenString yp) xe ye = absurd (stuck_next bytes _ xe.1 xe.2 ye.0 xe.3)
one_fault at bytes (NameTooLong xp) (OpenComment yp) xe ye = absurd (stuck_next bytes _ xe.1 xe.2 ye.0 xe.3)
one_fault at bytes (NameTooLong xp) (NumberTooLarge yp) xe ye = absurd (let no : Name xe.0 ≡ Number (pos ye.0) = same_next bytes (Name xe.0) (Number (pos ye.0)) xe.1 ye.1 xe.2 ye.2 xe.3 ye.3 in cc)
one_fault at bytes (NameTooLong xp) (NameTooLong yp) xe ye = ap (λ (p : ℕ). NameTooLong p) (xe.5 ∙ sym (ye.5))
one_fault at bytes NoMemory b x y = absurd x
one_fault at bytes a NoMemory x y = absurd y

no_empty_fault : (at : ℕ) (fault : LexFault) → IsFault at [] fault → ⊥
no_empty_fault at (BadByte place) (inl (bad, is)) = bad.some refl
no_empty_fault at (BadByte place) (inr (before, bad, is)) = no_empty _ bad.written bad.rest bad.next
no_empty_fault at (OpenString place) is = false≢true is.1
no_empty_fault at (OpenComment place) is = false≢true is.1
no_empty_fault at (NumberTooLarge place) is = no_empty _ is.1 is.2 is.3
no_empty_fault at (NameTooLong place) is = no_empty _ is.1 is.2 is.3
no_empty_fault at NoMemory is = is

-- what is read further on, told of the other reading's rest
further : (file at : ℕ) (written written' rest rest' : List ℕ) (answer : Result (List Token) LexFault) → written ≡ written' → rest ≡ rest' → Reads file (at + length written') rest' answer → Reads file (at + length written) rest answer
further file at written written' rest rest' answer bytes behind more =
    subst (λ r. Reads file (at + length written) r answer) (sym behind) (subst (λ w. Reads file (at + length w) rest' answer) (sym bytes) more)

same_token : (file at : ℕ) (written written' : List ℕ) (kind kind' : TokenKind) (answer answer' : Result (List Token) LexFault) → written ≡ written' → kind ≡ kind' → answer ≡ answer' → with_token (token_at file at (at + length written) kind) answer ≡ with_token (token_at file at (at + length written') kind') answer'
same_token file at written written' kind kind' answer answer' bytes kinds answers =
    ap (λ w. with_token (token_at file at (at + length w) kind) answer) bytes
    ∙ ap (λ k. with_token (token_at file at (at + length written') k) answer) kinds
    ∙ ap (with_token (token_at file at (at + length written') kind')) answers

-- a text is read in one way
pub one_reading : {file at : ℕ} {bytes : List ℕ} {a b : Result (List Token) LexFault} → Reads file at bytes a → Reads file at bytes b → a ≡ b
one_reading ends ends = refl
one_reading ends (skips {written = w} {rest = r} next more) = absurd (no_empty Gap w r next)
one_reading ends (takes {written = w} {rest = r} {kind = k} next limits more) = absurd (no_empty (Lexeme k) w r next)
one_reading {at = at} ends (stops {fault = f} is) = absurd (no_empty_fault at f is)
one_reading (skips {written = w} {rest = r} next more) ends = absurd (no_empty Gap w r next)
one_reading {file} {at} {bytes} (skips {written = w} {rest = r} next more) (skips {written = v} {rest = s} {answer = b} next' more') =
    let same = one_front bytes Gap Gap w v r s next next' in
    one_reading more (further file at w v r s b same.bytes same.behind more')
one_reading {file} {at} {bytes} (skips {written = w} {rest = r} next more) (takes {written = v} {rest = s} {kind = k} next' limits more') =
    absurd (let no : Gap ≡ Lexeme k = (one_front bytes Gap (Lexeme k) w v r s next next').piece in cc)
one_reading {file} {at} {bytes} (skips {written = w} {rest = r} next more) (stops {fault = f} is) = absurd (no_fault_gap at bytes w r f next is)
one_reading (takes {written = w} {rest = r} {kind = k} next limits more) ends = absurd (no_empty (Lexeme k) w r next)
one_reading {file} {at} {bytes} (takes {written = w} {rest = r} {kind = k} next limits more) (skips {written = v} {rest = s} next' more') =
    absurd (let no : Lexeme k ≡ Gap = (one_front bytes (Lexeme k) Gap w v r s next next').piece in cc)
one_reading {file} {at} {bytes} (takes {written = w} {rest = r} {kind = k} {answer = a} next limits more) (takes {written = v} {rest = s} {kind = l} {answer = b} next' limits' more') =
    let same = one_front bytes (Lexeme k) (Lexeme l) w v r s next next' in
    same_token file at w v k l a b same.bytes (same_kind k l same.piece) (one_reading more (further file at w v r s b same.bytes same.behind more'))
one_reading {file} {at} {bytes} (takes {written = w} {rest = r} {kind = k} next limits more) (stops {fault = f} is) = absurd (no_fault at bytes k w r f next limits is)
one_reading {at = at} (stops {fault = f} is) ends = absurd (no_empty_fault at f is)
one_reading {file} {at} {bytes} (stops {fault = f} is) (skips {written = w} {rest = r} next more) = absurd (no_fault_gap at bytes w r f next is)
one_reading {file} {at} {bytes} (stops {fault = f} is) (takes {written = w} {rest = r} {kind = k} next limits more) = absurd (no_fault at bytes k w r f next limits is)
one_reading {file} {at} {bytes} (stops {fault = f} is) (stops {fault = g} is') = ap (λ (e : LexFault). Err e) (one_fault at bytes f g is is')
