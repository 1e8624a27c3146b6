-- From what the reader of a file comes to, to the tree that all of the tokens spell, or the answer with places.
use Rattle.std.proofs.Common.{◌≡◌, ◌≢◌, ◌==◌, ℕ, ◌<◌, true, not, All, IsTrue, List, [], ◌∷◌, ◌++◌, length, refl, sym, subst, ap, ◌∙◌, arith, length-append}
use Rattle.std.proofs.lemmas.List.Elements.{All-head, All-tail}
use Rattle.slicc_ast.specs.declared.tree.item.Tree.{Tree}
use Rattle.slicc_ast.specs.declared.tree.span.Span.{Span}
use Rattle.slicc_ast.specs.declared.tree.token.TokenKind.{TokenKind}
use Rattle.slicc_ast.specs.declared.tree.token.TokenKind.TheVariants.{End}
use Rattle.slicc_ast.specs.Outline.{token}
use Rattle.slicc_ast.specs.Prelude.{covering, none, protocol_parts, IsFirstFault, Passed, has, is_ahead, first_of_form, file, ◌▸◌, end_token, of, optional, end_of_text, kind_of, written}
use Rattle.slicc_ast.proofs.Readers.{passed}
use Rattle.slicc_lex.specs.declared.token.Token.{Token}
use Rattle.slicc_lex.specs.Prelude.{token_spans, nesting_limit, symbols}
use Rattle.slicc_parse.specs.Prelude.{IsEndAt, IsFileRead, AreEndedOnce, IsFileOf, items_parts, items_row, protocol_row}
use Rattle.slicc_parse.proofs.Lists.{items_parts_none}
use Rattle.slicc_parse.proofs.WholeFiles.{file_never_short}
use Rattle.slicc_reading.specs.declared.fault.Fault.{Fault}
use Rattle.slicc_reading.specs.declared.fault.SyntaxFault.{SyntaxFault}
use Rattle.slicc_reading.specs.Prelude.{IsFaultFrom, placed, AreParts, AreRead, Refuses, allowed, nothing}
use Rattle.slicc_reading.proofs.Border.{fault_unless_short}
use Rattle.slicc_reading.proofs.Parts.{◌then◌, by_alternative, token_read}
use Rattle.slicc_reading.proofs.Spelled.{parts_of}

-- the end token is one of its kind
is_end_kind : (kind : TokenKind) → kind ≡ End → has (end_of_text ∷ []) (kind_of kind) ≡ true
is_end_kind kind is = subst (λ k. has (end_of_text ∷ []) (kind_of k) ≡ true) (sym is) refl

pub end_at : (t : Token) (tokens left : List Token) → tokens ≡ t ∷ left → t.kind ≡ End → IsEndAt tokens t.span.start left
end_at t tokens left split is = record { end = t; split = split; is_end = is; is_place = refl }

pub end_read : (room : ℕ) {tokens left : List Token} {place : ℕ} → IsEndAt tokens place left → AreRead room end_token (token End) tokens left
end_read room {tokens = tokens} {left = left} e = token_read room (end_of_text ∷ []) End e.end tokens left e.split (is_end_kind e.end.kind e.is_end) e.is_end

-- a file, part by part
pub file_read : (room : ℕ) (t : Tree) (tokens between left : List Token)
    → is_ahead (first_of_form file) (symbols tokens) ≡ true
    → AreRead room (optional protocol_row ▸ items_row) (λ others. protocol_parts t.protocol (items_parts t.items others)) tokens between
    → IsTrue (not (length t.items == 0)) → IsEndAt between t.span.end left
    → t.span ≡ record { file = (covering (token_spans tokens)).file; start = 0; end = t.span.end }
    → IsFileRead room t tokens left
file_read room t tokens between left ahead r some e span =
    record {
      passes = (by_alternative file 0 refl ahead (r then end_read room e)).passes;
      last = between;
      spells = allowed some (subst (λ p. AreParts (protocol_parts t.protocol p) tokens between) (items_parts_none t.items) (r.spells none between nothing));
      end = e;
      span = span;
    }

-- no token is behind the end token
no_front : (written : List Token) (e : Token) (left : List Token) → written ++ e ∷ left ≡ [] → ⊥
no_front [] e left is = cc
no_front (w ∷ written) e left is = cc

abbrev IsOther : Token → Type 0
IsOther t = t.kind ≢ End

nothing_behind : (written front left : List Token) (e end : Token) → written ++ e ∷ left ≡ front ++ end ∷ [] → e.kind ≡ End → All IsOther front → left ≡ []
nothing_behind [] [] left e end is is_end no_other = cc
nothing_behind [] (f ∷ front) left e end is is_end no_other =
    let same : e ≡ f = cc in
    absurd (All-head IsOther f front no_other (subst (λ (t : Token). t.kind ≡ End) same is_end))
nothing_behind (w ∷ written) [] left e end is is_end no_other = let empty : written ++ e ∷ left ≡ [] = cc in absurd (no_front written e left empty)
nothing_behind (w ∷ written) (f ∷ front) left e end is is_end no_other =
    let others : written ++ e ∷ left ≡ front ++ end ∷ [] = cc in
    nothing_behind written front left e end others is_end (All-tail IsOther f front no_other)

abbrev span_to : List Token → ℕ → Span
span_to tokens end = record { file = (covering (token_spans tokens)).file; start = 0; end = end }

-- all of the tokens are the file
whole_file : (t : Tree) (tokens left : List Token) → AreEndedOnce tokens → IsFileRead nesting_limit t tokens left → IsFileOf t tokens
whole_file t tokens left ended r =
    let own = parts_of r.spells in
    let split : tokens ≡ own.own ++ r.end.end ∷ left = own.split ∙ ap (λ ts. own.own ++ ts) r.end.split in
    let empty : left ≡ [] = nothing_behind own.own ended.front left r.end.end ended.end (sym split ∙ ended.split) r.end.is_end ended.no_other in
    record {
      spells = record {
        written = own.own;
        end = r.end.end;
        split = split ∙ ap (λ ts. own.own ++ r.end.end ∷ ts) empty;
        is_end = r.end.is_end;
        kinds = own.kinds;
        allowed = own.are_right;
        placed = own.placed;
        span = r.span ∙ ap (λ n. span_to tokens n) r.end.is_place;
      };
      passed = subst (λ ts. IsFirstFault written nesting_limit file (symbols tokens) (Passed (symbols ts))) empty (passed nesting_limit file (symbols tokens) (symbols left) r.passes);
    }

-- the tokens stop in the file
some_tokens : (tokens front : List Token) (end : Token) → tokens ≡ front ++ end ∷ [] → 0 < length tokens
some_tokens tokens front end split = omega (arith, ap length split, length-append front (end ∷ []))

file_fault : (tokens : List Token) (fault : Fault) → AreEndedOnce tokens → Refuses nesting_limit (of file) tokens fault → IsFaultFrom file 0 tokens 0 (placed (length tokens) fault)
file_fault tokens fault ended r =
    fault_unless_short file 0 0 tokens tokens fault (file_never_short nesting_limit tokens ended.front ended.end ended.split ended.is_end)
    (some_tokens tokens ended.front ended.end ended.split) refl r

-- the same, where the tokens and the limit are known by equations
pub parsed : {room : ℕ} {given tokens left : List Token} (t : Tree) → given ≡ tokens → room ≡ nesting_limit → AreEndedOnce tokens → IsFileRead room t given left → IsFileOf t tokens
parsed {room = room} {given = given} {tokens = tokens} {left = left} t same limit ended r =
    whole_file t tokens left ended (subst (λ ts. IsFileRead nesting_limit t ts left) same (subst (λ n. IsFileRead n t given left) limit r))

pub refused : {room : ℕ} {given tokens : List Token} (fault : Fault) (count : ℕ) (answer : SyntaxFault) → given ≡ tokens → room ≡ nesting_limit → count ≡ length tokens
    → answer ≡ placed count fault → AreEndedOnce tokens → Refuses room (of file) given fault → IsFaultFrom file 0 tokens 0 answer
refused {room = room} {given = given} {tokens = tokens} fault count answer same limit size is ended r =
    subst (λ a. IsFaultFrom file 0 tokens 0 a) (sym (is ∙ ap (λ n. placed n fault) size))
    (file_fault tokens fault ended (subst (λ ts. Refuses nesting_limit (of file) ts fault) same (subst (λ n. Refuses n (of file) given fault) limit r)))
