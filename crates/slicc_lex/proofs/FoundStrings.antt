-- The string at the front of bytes is a token or a fault.
use Rattle.std.proofs.Common.{◌≡◌, ◌≢◌, ◌+◌, ◌≤◌, ◌<◌, ℕ, true, false, List, [], ◌∷◌, ◌++◌, length, take, drop, refl, sym, ap, ◌∙◌, subst, arith, eqb, eqb-true, inl, inr, ⊎_elim, take-append-drop, append_assoc, length-append, length-drop, take_at}
use Rattle.std.specs.List.{prefix_len, list_all}
use Rattle.std.proofs.lemmas.Bool.{or_cases}
use Rattle.std.proofs.Math.Seq.{take-length}
use Rattle.std.proofs.lemmas.List.{length-take-le}
use Rattle.std.proofs.lemmas.List.Sums.{prefix_len-le-length}
use Rattle.slicc_ast.specs.declared.tree.token.TokenKind.TheVariants.{Quoted}
use Rattle.slicc_ast.specs.Prelude.{is_printable}
use Rattle.slicc_lex.specs.declared.class.Class.TheVariants.{Quote}
use Rattle.slicc_lex.specs.declared.fault.LexFault.TheVariants.{BadByte, OpenString}
use Rattle.slicc_lex.specs.declared.piece.Piece.TheVariants.{Lexeme}
use Rattle.slicc_lex.specs.Prelude.{is_inside, IsQuotedBy, IsWritten, IsNext, IsFault, class_of, is_quote, Stands}
use Rattle.slicc_lex.proofs.Spans.{begins, span_is}
use Rattle.slicc_lex.proofs.Classes.{quote_from}
use Rattle.slicc_lex.proofs.Longest.{AreWithin, stands, next_is, stuck, quoted_closes}

-- without a quote behind the text the string is open
pub string_open : (at quote : ℕ) (behind ahead : List ℕ) (size : ℕ) → class_of quote ≡ Quote → size ≡ prefix_len (is_inside quote) behind → ahead ≡ drop size behind → ((rest : List ℕ) → ahead ≢ quote ∷ rest) → IsFault at (quote ∷ behind) (OpenString at)
string_open at quote behind ahead size is size_is cut no_close = (
  stuck (quote ∷ behind)
      (λ written shape after split.
      let closes = quoted_closes quote behind is written shape after split in
      no_close closes.rest (cut ∙ ap (λ n. drop n behind) size_is ∙ closes.closed)),
  quote_from quote is,
  refl,
)

-- nothing is behind the text, or another byte
pub no_quote : (quote : ℕ) (ahead : List ℕ) → ahead ≡ [] → (rest : List ℕ) → ahead ≢ quote ∷ rest
no_quote quote ahead none rest same = let clash : [] ≡ quote ∷ rest = sym none ∙ same in cc

pub other_quote : (quote close : ℕ) (ahead behind : List ℕ) → ahead ≡ close ∷ behind → close ≢ quote → (rest : List ℕ) → ahead ≢ quote ∷ rest
other_quote quote close ahead behind is differs rest same = let both : close ∷ behind ≡ quote ∷ rest = sym is ∙ same in differs (cc both)

pub closed_by : (quote close : ℕ) (ahead behind : List ℕ) → ahead ≡ close ∷ behind → close ≡ quote → ahead ≡ quote ∷ behind
closed_by quote close ahead behind is same = is ∙ ap (λ q. q ∷ behind) same

-- where no byte is bad, all are printable
pub all_printable : (text : List ℕ) (size : ℕ) → size ≡ prefix_len is_printable text → length text ≤ size → list_all is_printable text ≡ true
all_printable text size is long =
    let fits : length text ≡ prefix_len is_printable text = omega (arith, is, long, prefix_len-le-length is_printable text) in
    ap (list_all is_printable) (sym (take-length text) ∙ ap (λ n. take n text) fits) ∙ (span_is is_printable text).0

-- the first byte of a text that isn't printable
record Bad (text : List ℕ) (before : ℕ) : Type 0 where
  byte : ℕ
  later : List ℕ
  split : text ≡ take before text ++ byte ∷ later
  printable : list_all is_printable (take before text) ≡ true
  unprintable : is_printable byte ≡ false

bad_first : (text ahead : List ℕ) (before : ℕ) → text ≡ take before text ++ ahead → 1 ≤ length ahead → list_all is_printable (take before text) ≡ true → begins is_printable ahead ≡ false → Bad text before
bad_first text [] before split some all stops = absurd (omega arith)
bad_first text (c ∷ cs) before split some all stops = record { byte = c; later = cs; split = split; printable = all; unprintable = stops }

bad_at : (text : List ℕ) (before : ℕ) → before ≡ prefix_len is_printable text → before < length text → Bad text before
bad_at text before is early =
    let span = span_is is_printable text in
    bad_first text (drop before text) before (sym (take-append-drop before text)) (omega (arith, length-drop before text))
    (ap (λ n. list_all is_printable (take n text)) is ∙ span.0) (ap (λ n. begins is_printable (drop n text)) is ∙ span.1)

written_as : (quote : ℕ) (text written : List ℕ) → is_quote quote ≡ true → IsQuotedBy quote text written → IsWritten (Quoted text) written
written_as quote text written quotes is =
    ⊎_elim
    (λ double. inl (subst (λ q. IsQuotedBy q text written) (eqb-true quote 34 double) is))
    (λ single. inr (subst (λ q. IsQuotedBy q text written) (eqb-true quote 39 single) is))
    (or_cases (eqb quote 34) (eqb quote 39) quotes)

module _ (quote : ℕ) (behind text ahead rest : List ℕ) (size : ℕ) (is : class_of quote ≡ Quote) (size_is : size ≡ prefix_len (is_inside quote) behind) (text_is : text ≡ take size behind) (cut : ahead ≡ drop size behind) (closed : ahead ≡ quote ∷ rest) where
  size_fits : size ≤ length behind
  size_fits = omega (arith, size_is, prefix_len-le-length (is_inside quote) behind)

  text_size : length text ≡ size
  text_size = ap length text_is ∙ length-take-le size behind size_fits

  parts : behind ≡ text ++ (quote ∷ rest)
  parts = sym (take-append-drop size behind) ∙ ap (λ t. t ++ drop size behind) (sym text_is) ∙ ap (λ r. text ++ r) (sym cut ∙ closed)

  all_inside : list_all (is_inside quote) text ≡ true
  all_inside = ap (list_all (is_inside quote)) (text_is ∙ ap (λ n. take n behind) size_is) ∙ (span_is (is_inside quote) behind).0

  whole : quote ∷ behind ≡ (quote ∷ text ++ quote ∷ []) ++ rest
  whole = ap (λ b. quote ∷ b) (parts ∙ sym (append_assoc text (quote ∷ []) rest))

  quoted_size : length (quote ∷ text ++ quote ∷ []) ≡ length text + 2
  quoted_size = omega (arith, length-append text (quote ∷ []))

  string_written : take (length text + 2) (quote ∷ behind) ≡ quote ∷ text ++ quote ∷ []
  string_written = ap (take (length text + 2)) whole ∙ take_at (quote ∷ text ++ quote ∷ []) rest (length text + 2) quoted_size

  string_within : AreWithin (quote ∷ behind) (length text + 2)
  string_within = λ written shape after split. omega (arith, (quoted_closes quote behind is written shape after split).size, size_is, text_size)

  string_inside : length text + 2 ≤ length (quote ∷ behind)
  string_inside = omega (arith, ap length whole, length-append (quote ∷ text ++ quote ∷ []) rest, quoted_size)

  string_is : IsWritten (Quoted text) (take (length text + 2) (quote ∷ behind))
  string_is = subst (IsWritten (Quoted text)) (sym string_written) (written_as quote text (quote ∷ text ++ quote ∷ []) (quote_from quote is) (refl, all_inside))

  pub found_string : (copy : List ℕ) → copy ≡ text → list_all is_printable text ≡ true → Stands (quote ∷ behind) (Lexeme (Quoted copy)) (length text + 2)
  found_string copy copied printable =
      subst (λ t. Stands (quote ∷ behind) (Lexeme (Quoted t)) (length text + 2)) (sym copied)
      (stands (quote ∷ behind) (Lexeme (Quoted text)) (length text + 2) string_is string_within printable (omega arith) string_inside)

  pub bad_inside : (at before : ℕ) → before ≡ prefix_len is_printable text → before < length text → IsFault at (quote ∷ behind) (BadByte (at + 1 + before))
  bad_inside at before before_is early =
      let bad = bad_at text before before_is early in
      inr (
        1 + before,
        record {
          text = take before text;
          bad = bad.byte;
          later = bad.later;
          written = take (length text + 2) (quote ∷ behind);
          rest = drop (length text + 2) (quote ∷ behind);
          next = subst (λ t. IsNext (quote ∷ behind) (Lexeme (Quoted t)) (take (length text + 2) (quote ∷ behind)) (drop (length text + 2) (quote ∷ behind))) bad.split (next_is (quote ∷ behind) (Lexeme (Quoted text)) (length text + 2) string_is string_within string_inside);
          printable = bad.printable;
          unprintable = bad.unprintable;
          place = ap (λ n. 1 + n) (sym (length-take-le before text (omega arith)));
        },
        omega arith,
      )
