-- The gap at the front of bytes, a blank or a comment, or the fault of a slash that begins none.
use Rattle.std.proofs.Common.{◌≡◌, ◌≢◌, ◌+◌, ◌≤◌, ◌&&◌, ℕ, suc, true, false, Some, None, List, [], ◌∷◌, ◌++◌, length, take, refl, sym, ap, ◌∙◌, subst, arith, eqb, inl, inr, length-append, append_assoc, take_at}
use Rattle.std.specs.List.{prefix_len, list_all}
use Rattle.std.proofs.lemmas.Bool.{ne_eqb}
use Rattle.std.proofs.lemmas.Option.{none-some}
use Rattle.std.proofs.lemmas.List.Sums.{prefix_len-le-length}
use Rattle.slicc_lex.specs.declared.class.Class.TheVariants.{Blank}
use Rattle.slicc_lex.specs.declared.fault.LexFault.TheVariants.{BadByte, OpenComment}
use Rattle.slicc_lex.specs.declared.piece.Piece.TheVariants.{Gap}
use Rattle.slicc_lex.specs.Prelude.{is_in_line, IsFault, class_of, close_len, Stands}
use Rattle.slicc_lex.proofs.Spans.{span_is}
use Rattle.slicc_lex.proofs.Comments.{closes_after}
use Rattle.slicc_lex.proofs.Classes.{blank_from}
use Rattle.slicc_lex.proofs.Longest.{AreWithin, stands, stuck, blank_within, line_within, block_closes, slash_none}

pub found_blank : (bytes : List ℕ) (c : ℕ) (cs : List ℕ) → bytes ≡ c ∷ cs → class_of c ≡ Blank → Stands bytes Gap 1
found_blank bytes c cs split is =
    subst (λ b. Stands b Gap 1) (sym split)
    (stands (c ∷ cs) Gap 1 (inl (c, blank_from c is, refl)) (blank_within (c ∷ cs) is) tt (omega arith) (omega arith))

pub found_line : (text : List ℕ) (size : ℕ) → size ≡ prefix_len is_in_line text → Stands (47 ∷ 47 ∷ text) Gap (2 + size)
found_line text size is =
    let two : 2 + size ≡ suc (suc size) = omega arith in
    let all : list_all is_in_line (take size text) ≡ true = ap (λ n. list_all is_in_line (take n text)) is ∙ (span_is is_in_line text).0 in
    let written : take (2 + size) (47 ∷ 47 ∷ text) ≡ 47 ∷ 47 ∷ take size text = ap (λ n. take n (47 ∷ 47 ∷ text)) two in
    stands (47 ∷ 47 ∷ text) Gap (2 + size) (inr (inl (take size text, written, all)))
    (subst (λ n. AreWithin (47 ∷ 47 ∷ text) (2 + n)) (sym is) (line_within text)) tt (omega arith)
    (omega (arith, is, prefix_len-le-length is_in_line text))

block_within : (text : List ℕ) (size : ℕ) → close_len text ≡ Some size → AreWithin (47 ∷ 42 ∷ text) (2 + size)
block_within text size is = λ written shape behind split.
    let closes = block_closes text written shape behind split in
    let same : Some closes.0 ≡ Some size = sym closes.1 ∙ is in
    let sizes : closes.0 ≡ size = cc same in
    omega (arith, closes.2, sizes)

pub found_block : (text : List ℕ) (size : ℕ) → close_len text ≡ Some size → Stands (47 ∷ 42 ∷ text) Gap (2 + size)
found_block text size is =
    let closes = closes_after text size is in
    let whole : 47 ∷ 42 ∷ text ≡ (47 ∷ 42 ∷ closes.text ++ 42 ∷ 47 ∷ []) ++ closes.rest = ap (λ t. 47 ∷ 42 ∷ t) (closes.split ∙ sym (append_assoc closes.text (42 ∷ 47 ∷ []) closes.rest)) in
    let long : length (47 ∷ 42 ∷ closes.text ++ 42 ∷ 47 ∷ []) ≡ 2 + size = omega (arith, closes.size_is, length-append closes.text (42 ∷ 47 ∷ [])) in
    let written : take (2 + size) (47 ∷ 42 ∷ text) ≡ 47 ∷ 42 ∷ closes.text ++ 42 ∷ 47 ∷ [] = ap (take (2 + size)) whole ∙ take_at (47 ∷ 42 ∷ closes.text ++ 42 ∷ 47 ∷ []) closes.rest (2 + size) long in
    stands (47 ∷ 42 ∷ text) Gap (2 + size) (inr (inr (closes.text, written, closes.first))) (block_within text size is) tt (omega arith)
    (omega (arith, ap length whole, long, length-append (47 ∷ 42 ∷ closes.text ++ 42 ∷ 47 ∷ []) closes.rest))

pub comment_open : (at : ℕ) (text : List ℕ) → close_len text ≡ None → IsFault at (47 ∷ 42 ∷ text) (OpenComment at)
comment_open at text none = (
  stuck (47 ∷ 42 ∷ text) (λ written shape behind split. let closes = block_closes text written shape behind split in none-some closes.0 (sym none ∙ closes.1)),
  refl,
  refl,
)

pub slash_alone : (at : ℕ) (behind : List ℕ) → behind ≡ [] → IsFault at (47 ∷ behind) (BadByte at)
slash_alone at behind none =
    subst (λ b. IsFault at (47 ∷ b) (BadByte at)) (sym none)
    (inl (record { some = λ empty. cc; stuck = stuck (47 ∷ []) (slash_none [] refl refl); no_string = refl; no_comment = refl }, refl))

pub slash_before : (at second : ℕ) (behind text : List ℕ) → behind ≡ second ∷ text → second ≢ 47 → second ≢ 42 → IsFault at (47 ∷ behind) (BadByte at)
slash_before at second behind text is no_slash no_star =
    let star : eqb second 42 ≡ false = ne_eqb second 42 no_star in
    subst (λ b. IsFault at (47 ∷ b) (BadByte at)) (sym is)
    (inl (record { some = λ empty. cc; stuck = stuck (47 ∷ second ∷ text) (slash_none (second ∷ text) (ne_eqb second 47 no_slash) star); no_string = refl; no_comment = ap (λ b. b && true) (ne_eqb 42 second (λ same. no_star (sym same))) }, refl))

-- the bytes behind a slash, of which the first is known
pub after_slash : (behind : List ℕ) (second : ℕ) (text : List ℕ) (which : ℕ) → behind ≡ second ∷ text → second ≡ which → 47 ∷ which ∷ text ≡ 47 ∷ behind
after_slash behind second text which is same = sym (ap (λ b. 47 ∷ b) (is ∙ ap (λ d. d ∷ text) same))

pub block_inside : (text : List ℕ) (size : ℕ) → close_len text ≡ Some size → size ≤ length text
block_inside text size is =
    let closes = closes_after text size is in
    omega (arith, closes.size_is, ap length closes.split, length-append closes.text (42 ∷ 47 ∷ closes.rest))
