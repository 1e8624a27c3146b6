-- Where each form has a list, and each set of kinds that is asked for has a kind, what begins parts can be completed to
-- whole ones.
use Rattle.std.proofs.Common.{◌≡◌, ◌↔◌, ℕ, ◌==◌, Bool, true, false, ◌&&◌, List, [], ◌∷◌, ◌++◌, Some, refl, arith}
use Rattle.std.specs.List.{slice_get, list_all}
use Rattle.std.proofs.lemmas.Bool.{and_parts, or_left, false≢true}
use Rattle.slicc_ast.specs.Prelude.{has, Row, Rows, Grammar, done, form, maybe, many, nested, end, next, up, Matches, Derives, IsViable, Whole, Front, stopped, ended, one, alternative}
use Rattle.slicc_ast.specs.Grammar.Row.{token}
use Rattle.slicc_ast.specs.Matches.Matches.{present, absent, again, enough, inside, on, outside}
use Rattle.slicc_ast.proofs.Tables.{all_at}
use Rattle.slicc_ast.proofs.Fronts.{front_of}

first_kind : (k : ℕ) (ks : List ℕ) → has (k ∷ ks) k ≡ true
first_kind k ks = or_left (k == k) (has ks k) (grind arith)

module _ {F : Type 0} (g : Grammar F) where
  -- a list of the form, whatever is behind it
  pub record HasList (n : F) : Type 0 where
    pub list : List ℕ → List ℕ
    pub fits : (row : Row F) (rows : Rows F) (rest : List ℕ) (nestings : ℕ) → Matches g Whole row rows rest nestings → Matches g Whole (form n row) rows (list rest) nestings

  -- and of a row
  pub record RowHasList (row : Row F) : Type 0 where
    pub list : List ℕ → List ℕ
    pub fits : (rows : Rows F) (rest : List ℕ) (nestings : ℕ) → Matches g Whole done rows rest nestings → Matches g Whole row rows (list rest) nestings

  -- what a row asks for: a kind for each token, and a list for each form that isn't optional
  abbrev pub Needs : Row F → Type 0
  Needs done = Unit {0}
  Needs (token [] row) = ⊥
  Needs (token (kind ∷ kinds) row) = Needs row
  Needs (form n row) = HasList n × Needs row
  Needs (maybe part row) = Needs row
  Needs (many part row) = Needs row
  Needs (nested [] part row) = ⊥
  Needs (nested (kind ∷ kinds) part row) = Needs part × Needs row

  pub row_list : (row : Row F) → Needs row → RowHasList row
  row_list done needs = record { list = λ rest. rest; fits = λ rows rest nestings m. m }
  row_list (token [] row) needs = absurd needs
  row_list (token (kind ∷ kinds) row) needs =
      let later = row_list row needs in
      record { list = λ rest. kind ∷ later.list rest; fits = λ rows rest nestings m. one (first_kind kind kinds) (later.fits rows rest nestings m) }
  row_list (form n row) needs =
      let later = row_list row needs.1 in
      record { list = λ rest. (needs.0).list (later.list rest); fits = λ rows rest nestings m. (needs.0).fits row rows (later.list rest) nestings (later.fits rows rest nestings m) }
  row_list (maybe part row) needs =
      let later = row_list row needs in
      record { list = later.list; fits = λ rows rest nestings m. absent (later.fits rows rest nestings m) }
  row_list (many part row) needs =
      let later = row_list row needs in
      record { list = later.list; fits = λ rows rest nestings m. enough (later.fits rows rest nestings m) }
  row_list (nested [] part row) needs = absurd needs
  row_list (nested (kind ∷ kinds) part row) needs =
      let within = row_list part needs.0 in
      let later = row_list row needs.1 in
      record {
        list = λ rest. kind ∷ within.list (later.list rest);
        fits = λ rows rest nestings m. inside (first_kind kind kinds) (within.fits (up row rows) (later.list rest) nestings (outside (later.fits rows rest nestings m)));
      }

  pub by_alternative : (n : F) (place : ℕ) (chosen : Row F) → slice_get (g.alternatives n) place ≡ Some chosen → Needs chosen → HasList n
  by_alternative n place chosen at needs =
      let inner = row_list chosen needs in
      record { list = inner.list; fits = λ row rows rest nestings m. alternative place chosen at (inner.fits (next row rows) rest nestings (on m)) }

  pub derived_list : (n : F) → HasList n → (tokens : List ℕ) × Derives g (form n done) end tokens
  derived_list n h = (h.list [], h.fits done end [] 0 ended)

  -- each set of kinds in the row, optional parts included, has a kind
  abbrev pub AreSome : Row F → Type 0
  AreSome done = Unit {0}
  AreSome (token [] row) = ⊥
  AreSome (token (kind ∷ kinds) row) = AreSome row
  AreSome (form n row) = AreSome row
  AreSome (maybe part row) = AreSome part × AreSome row
  AreSome (many part row) = AreSome part × AreSome row
  AreSome (nested [] part row) = ⊥
  AreSome (nested (kind ∷ kinds) part row) = AreSome part × AreSome row

  abbrev pub are_some : Row F → Bool
  are_some done = true
  are_some (token [] row) = false
  are_some (token (kind ∷ kinds) row) = are_some row
  are_some (form n row) = are_some row
  are_some (maybe part row) = are_some part && are_some row
  are_some (many part row) = are_some part && are_some row
  are_some (nested [] part row) = false
  are_some (nested (kind ∷ kinds) part row) = are_some part && are_some row

  some_by : (row : Row F) → are_some row ≡ true → AreSome row
  some_by done is = tt
  some_by (token [] row) is = absurd (false≢true is)
  some_by (token (kind ∷ kinds) row) is = some_by row is
  some_by (form n row) is = some_by row is
  some_by (maybe part row) is = let both = and_parts (are_some part) (are_some row) is in (some_by part both.0, some_by row both.1)
  some_by (many part row) is = let both = and_parts (are_some part) (are_some row) is in (some_by part both.0, some_by row both.1)
  some_by (nested [] part row) is = absurd (false≢true is)
  some_by (nested (kind ∷ kinds) part row) is = let both = and_parts (are_some part) (are_some row) is in (some_by part both.0, some_by row both.1)

  abbrev AreAllSome : Rows F → Type 0
  AreAllSome end = Unit {0}
  AreAllSome (next row rows) = AreSome row × AreAllSome rows
  AreAllSome (up row rows) = AreSome row × AreAllSome rows

  module _ (lists : (n : F) → HasList n) (some : (n : F) → list_all are_some (g.alternatives n) ≡ true) where
    needs_of : (row : Row F) → AreSome row → Needs row
    needs_of done are = tt
    needs_of (token [] row) are = absurd are
    needs_of (token (kind ∷ kinds) row) are = needs_of row are
    needs_of (form n row) are = (lists n, needs_of row are)
    needs_of (maybe part row) are = needs_of row are.1
    needs_of (many part row) are = needs_of row are.1
    needs_of (nested [] part row) are = absurd are
    needs_of (nested (kind ∷ kinds) part row) are = (needs_of part are.0, needs_of row are.1)

    rows_list : (rows : Rows F) → AreAllSome rows → (rest : List ℕ) × Matches g Whole done rows rest 0
    rows_list end are = ([], ended)
    rows_list (next row rows) are =
        let behind = rows_list rows are.1 in
        let here = row_list row (needs_of row are.0) in
        (here.list behind.0, on (here.fits rows behind.0 0 behind.1))
    rows_list (up row rows) are =
        let behind = rows_list rows are.1 in
        let here = row_list row (needs_of row are.0) in
        (here.list behind.0, outside (here.fits rows behind.0 0 behind.1))

    complete : {row : Row F} {rows : Rows F} {tokens : List ℕ} {nestings : ℕ} → AreSome row → AreAllSome rows → Matches g Front row rows tokens nestings → (rest : List ℕ) × Matches g Whole row rows (tokens ++ rest) 0
    complete {row = row} {rows = rows} are all stopped =
        let behind = rows_list rows all in
        let here = row_list row (needs_of row are) in
        (here.list behind.0, here.fits rows behind.0 0 behind.1)
    complete are all (one {kinds = []} is m) = absurd are
    complete are all (one {kinds = kind ∷ kinds} is m) = let k = complete are all m in (k.0, one is k.1)
    complete are all (alternative {n = n} place chosen at m) = let k = complete (some_by chosen (all_at are_some (g.alternatives n) place chosen (some n) at)) (are, all) m in (k.0, alternative place chosen at k.1)
    complete are all (present m) = let k = complete are.0 (are.1, all) m in (k.0, present k.1)
    complete are all (absent m) = let k = complete are.1 all m in (k.0, absent k.1)
    complete are all (again m) = let k = complete are.0 (are, all) m in (k.0, again k.1)
    complete are all (enough m) = let k = complete are.1 all m in (k.0, enough k.1)
    complete are all (inside {kinds = []} is m) = absurd are
    complete are all (inside {kinds = kind ∷ kinds} is m) = let k = complete are.0 (are.1, all) m in (k.0, inside is k.1)
    complete are all (on m) = let k = complete all.0 all.1 m in (k.0, on k.1)
    complete are all (outside m) = let k = complete all.0 all.1 m in (k.0, outside k.1)

    -- so a list is viable for a form exactly where it is the front of a list of the form
    pub viable_is_front : (n : F) (tokens : List ℕ) → IsViable g n tokens ↔ ((rest : List ℕ) × Derives g (form n done) end (tokens ++ rest))
    viable_is_front n tokens = (λ viable. complete tt tt viable.1, λ whole. front_of g whole.1 tokens whole.0 refl)
