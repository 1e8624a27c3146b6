-- A list with the end token at its end that begins a file is a whole one, so that no file is ever too short.
use Rattle.std.proofs.Common.{◌≡◌, ◌⊎◌, ℕ, zero, suc, true, false, List, [], ◌∷◌, ◌++◌, refl, sym, subst, inl, inr, Some, ◌∙◌}
use Rattle.std.specs.List.{slice_get}
use Rattle.std.proofs.lemmas.Bool.{false≢true}
use Rattle.slicc_ast.specs.declared.tree.token.TokenKind.TheVariants.{End}
use Rattle.slicc_ast.specs.declared.tree.token.Word.TheVariants.{Protocol}
use Rattle.slicc_ast.specs.Prelude.{IsFirstFault, Short, too_short, Row, done, form, end, next, has, Begins, Derives, Matches, Front, stopped, ended, one, alternative, joined, Form, file, ◌▸◌, end_token, of, optional, repeated, semicolon, string, end_of_text, written}
use Rattle.slicc_ast.proofs.InARow.{begins_in_a_row, derives_in_a_row}
use Rattle.slicc_ast.proofs.Joining.{merge, part}
use Rattle.slicc_ast.proofs.KindSets.{in_either}
use Rattle.slicc_ast.specs.Form.Form.{item}
use Rattle.slicc_ast.specs.Parts.{word}
use Rattle.slicc_lex.specs.declared.token.Token.{Token}
use Rattle.slicc_lex.specs.Prelude.{symbols}
use Rattle.slicc_reading.proofs.Endless.{endless, has_last}

-- what is before the end token, and that token
abbrev inner_row : Row Form
inner_row = (optional (word Protocol ▸ string ▸ semicolon) ▸ of item ▸ repeated (of item)) done

abbrev end_row : Row Form
end_row = end_token done

abbrev file_row : Row Form
file_row = joined inner_row end_row

only_row : (place : ℕ) (chosen : Row Form) → slice_get (written.alternatives file) place ≡ Some chosen → file_row ≡ chosen
only_row zero chosen at = cc
only_row (suc place) chosen at = absurd (cc)

of_row : {tokens : List ℕ} {nestings : ℕ} → Matches written Front (form file done) end tokens nestings → (tokens ≡ []) ⊎ Begins written file_row end tokens
of_row stopped = inl refl
of_row {tokens = tokens} {nestings = nestings} (alternative place chosen at m) =
    inr (nestings, merge written file_row done end (subst (λ row. Matches written Front row (next done end) tokens nestings) (sym (only_row place chosen at)) m))

ends_whole : {tokens : List ℕ} {nestings : ℕ} → Matches written Front end_row end tokens nestings → has tokens end_of_text ≡ true → Derives written end_row end tokens
ends_whole stopped some = absurd (false≢true some)
ends_whole (one is stopped) some = one is ended

into_file : {tokens : List ℕ} → Derives written file_row end tokens → Derives written (form file done) end tokens
into_file d = alternative 0 file_row refl (part written file_row done end d)

both_rows : (tokens front rest : List ℕ) (nestings : ℕ) → tokens ≡ front ++ rest → has tokens end_of_text ≡ true → Derives written inner_row end front → Matches written Front end_row end rest nestings
    → Derives written file_row end tokens
both_rows tokens front rest nestings split some d m =
    let later : has rest end_of_text ≡ true =
    elim (in_either front rest end_of_text (subst (λ ts. has ts end_of_text ≡ true) split some)) [
      | inl here ↦ absurd (false≢true (sym (endless d refl refl) ∙ here))
      | inr there ↦ there
    ]
    in (derives_in_a_row written inner_row end_row tokens).1 (front, rest, split, d, ends_whole m later)

of_begun : (tokens : List ℕ) → has tokens end_of_text ≡ true → Begins written file_row end tokens → Derives written file_row end tokens
of_begun tokens some begins =
    elim ((begins_in_a_row written inner_row end_row tokens).0 begins) [
      | inl early ↦ absurd (false≢true (sym (endless early.1 refl refl) ∙ some))
      | inr late ↦ both_rows tokens late.0 late.1 late.4.0 late.2 some late.3 late.4.1
    ]

whole_list : (tokens : List ℕ) → has tokens end_of_text ≡ true → Begins written (form file done) end tokens → Derives written (form file done) end tokens
whole_list tokens some begins =
    elim (of_row begins.1) [
      | inl empty ↦ absurd (false≢true (subst (λ ts. has ts end_of_text ≡ true) empty some))
      | inr row ↦ into_file (of_begun tokens some row)
    ]

pub file_never_short : (limit : ℕ) (tokens front : List Token) (last : Token) → tokens ≡ front ++ last ∷ [] → last.kind ≡ End → IsFirstFault written limit file (symbols tokens) Short → ⊥
file_never_short limit tokens front last split is_end (too_short within begins not_whole) =
    let some : has (symbols tokens) end_of_text ≡ true = subst (λ ts. has (symbols ts) end_of_text ≡ true) (sym split) (has_last front last is_end) in
    not_whole (whole_list (symbols tokens) some begins)
