-- What a reader makes of tokens that have values, as it goes through rows: a state that each token and each form changes.
-- Where one token ahead decides, it is one. The kinds of the tokens match the rows.
use Rattle.std.proofs.Common.{◌≡◌, ℕ, true, List, [], ◌∷◌, map, Some, refl, sym, subst}
use Rattle.std.specs.List.{slice_get}
use Rattle.slicc_ast.specs.Prelude.{has, Row, Rows, Grammar, done, form, maybe, many, end, next, Matches, Whole, IsPredictive}
use Rattle.slicc_ast.specs.Grammar.Row.{token}
use Rattle.slicc_ast.proofs.Tables.{one_row}
use Rattle.slicc_ast.proofs.Forced.{IsSound, into_form, into_rest, into_part, into_end, into_again, not_both, not_both_many}
use Rattle.slicc_ast.proofs.FirstFault.{form_sound}
use Rattle.slicc_ast.proofs.OneChoice.{one_place}

-- a table, the kinds of the tokens, and how a token and a form that is gone into change the state
pub record Builder (F T S : Type 0) : Type 0 where
  pub grammar : Grammar F
  pub kind : T → ℕ
  pub put : T → S → S
  pub act : F → S → S

-- through these rows and tokens the state goes from the first to the second; rows with nestings aren't asked for
pub data Builds {F T S : Type 0} (b : Builder F T S) : Row F → Rows F → List T → S → S → Type 0 where
  ended : {from : S} → Builds b done end [] from from
  one : {kinds : List ℕ} {row : Row F} {rows : Rows F} {t : T} {tokens : List T} {from to : S}
      → has kinds (b.kind t) ≡ true → Builds b row rows tokens (b.put t from) to → Builds b (token kinds row) rows (t ∷ tokens) from to
  alternative : {n : F} {row : Row F} {rows : Rows F} {tokens : List T} {from to : S} (place : ℕ) (chosen : Row F)
      → slice_get (b.grammar.alternatives n) place ≡ Some chosen
      → Builds b chosen (next row rows) tokens (b.act n from) to → Builds b (form n row) rows tokens from to
  present : {part row : Row F} {rows : Rows F} {tokens : List T} {from to : S}
      → Builds b part (next row rows) tokens from to → Builds b (maybe part row) rows tokens from to
  absent : {part row : Row F} {rows : Rows F} {tokens : List T} {from to : S}
      → Builds b row rows tokens from to → Builds b (maybe part row) rows tokens from to
  again : {part row : Row F} {rows : Rows F} {tokens : List T} {from to : S}
      → Builds b part (next (many part row) rows) tokens from to → Builds b (many part row) rows tokens from to
  enough : {part row : Row F} {rows : Rows F} {tokens : List T} {from to : S}
      → Builds b row rows tokens from to → Builds b (many part row) rows tokens from to
  on : {row : Row F} {rows : Rows F} {tokens : List T} {from to : S}
      → Builds b row rows tokens from to → Builds b done (next row rows) tokens from to

module _ {F T S : Type 0} (b : Builder F T S) where
  pub matched : {row : Row F} {rows : Rows F} {tokens : List T} {from to : S} → Builds b row rows tokens from to → Matches b.grammar Whole row rows (map b.kind tokens) 0
  matched Builds.ended = Matches.ended
  matched (Builds.one is m) = Matches.one is (matched m)
  matched (Builds.alternative place chosen at m) = Matches.alternative place chosen at (matched m)
  matched (Builds.present m) = Matches.present (matched m)
  matched (Builds.absent m) = Matches.absent (matched m)
  matched (Builds.again m) = Matches.again (matched m)
  matched (Builds.enough m) = Matches.enough (matched m)
  matched (Builds.on m) = Matches.on (matched m)

  module _ (predictive : IsPredictive b.grammar) where
    pub one_built : {row : Row F} {rows : Rows F} {tokens : List T} {from to other : S} → IsSound b.grammar row rows → Builds b row rows tokens from to → Builds b row rows tokens from other → to ≡ other
    one_built sound Builds.ended Builds.ended = refl
    one_built sound (Builds.one is m) (Builds.one also k) = one_built sound m k
    one_built sound (Builds.alternative {n = n} {row = row} {rows = rows} {tokens = tokens} {from = from} place chosen at m) (Builds.alternative {to = other} place_too actual also k) =
        let same = one_place b.grammar predictive n place place_too chosen actual row rows (map b.kind tokens) 0 0 sound at also (matched m) (matched k) in
        one_built (into_form b.grammar predictive n place chosen row rows at sound) m
        (subst (λ r. Builds b r (next row rows) tokens (b.act n from) other) (sym (one_row b.grammar n place place_too chosen actual at also same)) k)
    one_built sound (Builds.present {part = part} {row = row} {rows = rows} m) (Builds.present k) = one_built (into_part b.grammar part row rows sound) m k
    one_built sound (Builds.present {part = part} {row = row} {rows = rows} m) (Builds.absent k) = absurd (not_both b.grammar predictive part row rows sound (matched m) (matched k))
    one_built sound (Builds.absent {part = part} {row = row} {rows = rows} m) (Builds.present k) = absurd (not_both b.grammar predictive part row rows sound (matched k) (matched m))
    one_built sound (Builds.absent {part = part} {row = row} {rows = rows} m) (Builds.absent k) = one_built (into_rest b.grammar part row rows sound) m k
    one_built sound (Builds.again {part = part} {row = row} {rows = rows} m) (Builds.again k) = one_built (into_again b.grammar part row rows sound) m k
    one_built sound (Builds.again {part = part} {row = row} {rows = rows} m) (Builds.enough k) = absurd (not_both_many b.grammar predictive part row rows sound (matched m) (matched k))
    one_built sound (Builds.enough {part = part} {row = row} {rows = rows} m) (Builds.again k) = absurd (not_both_many b.grammar predictive part row rows sound (matched k) (matched m))
    one_built sound (Builds.enough {part = part} {row = row} {rows = rows} m) (Builds.enough k) = one_built (into_end b.grammar part row rows sound) m k
    one_built sound (Builds.on m) (Builds.on k) = one_built sound.2 m k

    -- a form is built in one way
    pub one_form_built : (n : F) {tokens : List T} {from to other : S} → Builds b (form n done) end tokens from to → Builds b (form n done) end tokens from other → to ≡ other
    one_form_built n m k = one_built (form_sound b.grammar n) m k
