-- A list is the parts of a row by one list of choices.
use Rattle.std.proofs.Common.{◌≡◌, ℕ, List, [], ◌∷◌, Some, refl, sym, subst, ap, ◌∙◌, inl, inr}
use mathlib.Core.Path.{path_j, subst_refl}
use Rattle.std.specs.List.{slice_get}
use Rattle.slicc_ast.specs.Prelude.{Row, Rows, Grammar, done, form, end, next, Derives, Matches, Whole, ended, one, alternative, choices_of, IsPredictive}
use Rattle.slicc_ast.specs.Matches.Matches.{present, absent, again, enough, inside, on, outside}
use Rattle.slicc_ast.proofs.Tables.{one_empty, one_row}
use Rattle.slicc_ast.proofs.Starts.{Starts, starts_of, nullable_of}
use Rattle.slicc_ast.proofs.Forced.{IsSound, into_form, into_rest, into_part, into_end, into_again, into_nested, not_both, not_both_many, place_chosen}
use Rattle.slicc_ast.proofs.FirstFault.{form_sound}

module _ {F : Type 0} (g : Grammar F) (predictive : IsPredictive g) where
  -- two alternatives that match one list are at one place
  pub one_place : (n : F) (i j : ℕ) (chosen actual row : Row F) (rows : Rows F) (tokens : List ℕ) (a b : ℕ) → IsSound g (form n row) rows → slice_get (g.alternatives n) i ≡ Some chosen → slice_get (g.alternatives n) j ≡ Some actual → Matches g Whole chosen (next row rows) tokens a → Matches g Whole actual (next row rows) tokens b → i ≡ j
  one_place n i j chosen actual row rows [] a b sound at also m k = one_empty g predictive n i j chosen actual at also (nullable_of g predictive m).0 (nullable_of g predictive k).0
  one_place n i j chosen actual row rows (kind ∷ tokens) a b sound at also m k =
      let left : Starts g chosen (next row rows) kind = starts_of g predictive m in
      let right : Starts g actual (next row rows) kind = starts_of g predictive k in
      elim left [
        | inl here ↦ place_chosen g predictive n i j chosen actual row rows kind sound at also here (starts_of g predictive k)
        | inr later ↦ elim right [
          | inl here ↦ sym (place_chosen g predictive n j i actual chosen row rows kind sound also at here (starts_of g predictive m))
          | inr behind ↦ one_empty g predictive n i j chosen actual at also later.0 behind.0
        ]
      ]

  moved_choices : (row other : Row F) (rows : Rows F) (tokens : List ℕ) (nestings : ℕ) (same : row ≡ other) (m : Matches g Whole row rows tokens nestings) → choices_of (subst (λ r. Matches g Whole r rows tokens nestings) same m) ≡ choices_of m
  moved_choices row other rows tokens nestings same m =
      path_j (λ o e. choices_of (subst (λ r. Matches g Whole r rows tokens nestings) e m) ≡ choices_of m)
      (ap choices_of (subst_refl (λ r. Matches g Whole r rows tokens nestings) m)) same

  pub one_choice : {row : Row F} {rows : Rows F} {tokens : List ℕ} {a : ℕ} → IsSound g row rows → (m n : Matches g Whole row rows tokens a) → choices_of m ≡ choices_of n
  one_choice sound ended ended = refl
  one_choice sound (one is m) (one also k) = one_choice sound m k
  one_choice sound (alternative {n = n} {row = row} {rows = rows} {tokens = tokens} {nestings = a} place chosen at m) (alternative other actual also k) =
      let same = one_place n place other chosen actual row rows tokens a a sound at also m k in
      let rows_same = one_row g n place other chosen actual at also same in
      let moved : Matches g Whole chosen (next row rows) tokens a = subst (λ r. Matches g Whole r (next row rows) tokens a) (sym rows_same) k in
      let choices : choices_of m ≡ choices_of k = one_choice (into_form g predictive n place chosen row rows at sound) m moved ∙ moved_choices actual chosen (next row rows) tokens a (sym rows_same) k in
      cc (same, choices)
  one_choice sound (present {part = part} {row = row} {rows = rows} m) (present k) = ap (λ c. 1 ∷ c) (one_choice (into_part g part row rows sound) m k)
  one_choice sound (present {part = part} {row = row} {rows = rows} m) (absent k) = absurd (not_both g predictive part row rows sound m k)
  one_choice sound (absent {part = part} {row = row} {rows = rows} m) (present k) = absurd (not_both g predictive part row rows sound k m)
  one_choice sound (absent {part = part} {row = row} {rows = rows} m) (absent k) = ap (λ c. 0 ∷ c) (one_choice (into_rest g part row rows sound) m k)
  one_choice sound (again {part = part} {row = row} {rows = rows} m) (again k) = ap (λ c. 1 ∷ c) (one_choice (into_again g part row rows sound) m k)
  one_choice sound (again {part = part} {row = row} {rows = rows} m) (enough k) = absurd (not_both_many g predictive part row rows sound m k)
  one_choice sound (enough {part = part} {row = row} {rows = rows} m) (again k) = absurd (not_both_many g predictive part row rows sound k m)
  one_choice sound (enough {part = part} {row = row} {rows = rows} m) (enough k) = ap (λ c. 0 ∷ c) (one_choice (into_end g part row rows sound) m k)
  one_choice sound (inside {kinds = kinds} {part = part} {row = row} {rows = rows} is m) (inside also k) = one_choice (into_nested g kinds part row rows sound) m k
  one_choice sound (on m) (on k) = one_choice sound.2 m k
  one_choice sound (outside m) (outside k) = one_choice sound.2 m k

pub one_choice_of_form : {F : Type 0} (g : Grammar F) → IsPredictive g → (n : F) (tokens : List ℕ) (m k : Derives g (form n done) end tokens) → choices_of m ≡ choices_of k
one_choice_of_form g predictive n tokens m k = one_choice g predictive (form_sound g n) m k
