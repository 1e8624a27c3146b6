-- Where a list stops is carried over a step of the reader: a step that takes a token, and one that takes none.
use Rattle.std.proofs.Common.{◌≡◌, ℕ, zero, suc, ◌+◌, ◌≤◌, Bool, true, false, cond, List, [], ◌∷◌, ◌++◌, refl, sym, subst, ap, ◌∙◌, ◌⊎◌, inl, inr, arith, append-nil}
use Rattle.std.proofs.lemmas.Bool.{both_ways}
use Rattle.slicc_ast.specs.Prelude.{has, Row, Rows, Grammar, nestings_of, Begins, Derives, Extent, Matches, Whole, Front, stopped, Stop, IsWithin, IsLongest, IsStop, Bad, Deep, one_too_deep, whole, opener_too_deep, not_viable, too_short, refusal}

-- two lists with a first element
pub first_same : (a b : ℕ) (xs ys : List ℕ) → a ∷ xs ≡ b ∷ ys → a ≡ b
first_same a b xs ys same = grind arith

pub rest_same : (a b : ℕ) (xs ys : List ℕ) → a ∷ xs ≡ b ∷ ys → xs ≡ ys
rest_same a b xs ys same = grind arith

pub no_element : (a : ℕ) (xs : List ℕ) → [] ≡ a ∷ xs → ⊥
no_element a xs same = grind arith

module _ {F : Type 0} (g : Grammar F) (limit : ℕ) (row : Row F) (rows : Rows F) where
  -- before a token nothing is too deep
  abbrev pub IsCalm : Type 0
  IsCalm = (nestings : ℕ) → Matches g Front row rows [] nestings → nestings ≤ limit

  pub within_nothing : IsCalm → IsWithin g limit row rows []
  within_nothing calm [] rest nestings same m = calm nestings m
  within_nothing calm (t ∷ front) rest nestings same m = absurd (no_element t (front ++ rest) same)

  -- the reader stops before a token that can't stand there
  refused_by : (tokens : List ℕ) (b : Bool) (kind : ℕ) (later : List ℕ) → has g.openers kind ≡ b → tokens ≡ kind ∷ later → IsCalm → ((nestings : ℕ) → Matches g Front row rows (kind ∷ []) nestings → ⊥) → (Derives g row rows [] → ⊥) → ((nestings : ℕ) → Matches g Front row rows [] nestings → limit ≤ nestings) → IsStop g limit row rows tokens (cond b (Deep (kind ∷ later)) (Bad (kind ∷ later)))
  refused_by tokens true kind later opens same calm nowhere not_whole full =
      opener_too_deep [] later kind same (within_nothing calm)
      (record {
        begins = (nestings_of rows, stopped);
        not_further = λ k l is m. nowhere m.0 (subst (λ v. Matches g Front row rows (v ∷ []) m.0) (sym (first_same kind k later l is)) m.1);
      })
      not_whole
      (record { opens = opens; all_open = full })
  refused_by tokens false kind later opens same calm nowhere not_whole full =
      not_viable [] later kind same (within_nothing calm)
      (record {
        begins = (nestings_of rows, stopped);
        not_further = λ k l is m. nowhere m.0 (subst (λ v. Matches g Front row rows (v ∷ []) m.0) (sym (first_same kind k later l is)) m.1);
      })
      not_whole
      (λ deep. both_ways (has g.openers kind) opens deep.opens)

  pub refused_stop : (depth : ℕ) (tokens : List ℕ) → limit ≡ depth + nestings_of rows → IsCalm → ((kind : ℕ) (later : List ℕ) (nestings : ℕ) → tokens ≡ kind ∷ later → Matches g Front row rows (kind ∷ []) nestings → ⊥) → (Derives g row rows [] → ⊥) → ((nestings : ℕ) → Matches g Front row rows [] nestings → nestings ≡ nestings_of rows) → IsStop g limit row rows tokens (refusal g depth tokens)
  refused_stop depth [] sum calm nowhere not_whole all_open = too_short (within_nothing calm) (nestings_of rows, stopped) not_whole
  refused_stop zero (kind ∷ later) sum calm nowhere not_whole all_open =
      refused_by (kind ∷ later) (has g.openers kind) kind later refl refl calm (λ n m. nowhere kind later n refl m) not_whole
      (λ n m. let same = all_open n m in omega arith)
  refused_stop (suc depth) (kind ∷ later) sum calm nowhere not_whole all_open =
      not_viable [] later kind refl (within_nothing calm)
      (record {
        begins = (nestings_of rows, stopped);
        not_further = λ k l is m. nowhere kind later m.0 refl (subst (λ v. Matches g Front row rows (v ∷ []) m.0) (sym (first_same kind k later l is)) m.1);
      })
      not_whole
      (λ deep. let full = deep.all_open (nestings_of rows) stopped in omega arith)

module _ {F : Type 0} (g : Grammar F) (limit : ℕ) (row : Row F) (rows : Rows F) (to : Row F) (behind : Rows F) where
  -- a step that takes a token
  pub record Takes (kind : ℕ) : Type 0 where
    pub back : (x : Extent) (tokens : List ℕ) (nestings : ℕ) → Matches g x to behind tokens nestings → Matches g x row rows (kind ∷ tokens) nestings
    pub forth : (x : Extent) (tokens : List ℕ) (nestings : ℕ) → Matches g x row rows (kind ∷ tokens) nestings → Matches g x to behind tokens nestings
    pub calm : IsCalm g limit row rows

  within_taken : (kind : ℕ) (tokens : List ℕ) → Takes kind → IsWithin g limit to behind tokens → IsWithin g limit row rows (kind ∷ tokens)
  within_taken kind tokens takes within [] rest nestings same m = takes.calm nestings m
  within_taken kind tokens takes within (t ∷ front) rest nestings same m =
      within front rest nestings (rest_same kind t tokens (front ++ rest) same)
      (takes.forth Front front nestings (subst (λ v. Matches g Front row rows (v ∷ front) nestings) (sym (first_same kind t tokens (front ++ rest) same)) m))

  longest_taken : (kind : ℕ) (front rest : List ℕ) → Takes kind → IsLongest g limit to behind front rest → IsLongest g limit row rows (kind ∷ front) rest
  longest_taken kind front rest takes longest =
      record {
        begins = (longest.begins.0, takes.back Front front longest.begins.0 longest.begins.1);
        not_further = λ k later is m. longest.not_further k later is (m.0, takes.forth Front (front ++ k ∷ []) m.0 m.1);
      }

  pub stop_taken : (kind : ℕ) {tokens : List ℕ} {stop : Stop} → Takes kind → IsStop g limit to behind tokens stop → IsStop g limit row rows (kind ∷ tokens) stop
  stop_taken kind takes (one_too_deep front later k nestings same within m above) =
      one_too_deep (kind ∷ front) later k nestings (ap (λ v. kind ∷ v) same) (within_taken kind front takes within) (takes.back Front (front ++ k ∷ []) nestings m) above
  stop_taken kind takes (whole front rest same within longest m) =
      whole (kind ∷ front) rest (ap (λ v. kind ∷ v) same) (within_taken kind front takes within) (longest_taken kind front rest takes longest) (takes.back Whole front 0 m)
  stop_taken kind takes (opener_too_deep front later k same within longest not_whole deep) =
      opener_too_deep (kind ∷ front) later k (ap (λ v. kind ∷ v) same) (within_taken kind front takes within) (longest_taken kind front (k ∷ later) takes longest)
      (λ m. not_whole (takes.forth Whole front 0 m))
      (record { opens = deep.opens; all_open = λ n m. deep.all_open n (takes.forth Front front n m) })
  stop_taken kind takes (not_viable front later k same within longest not_whole not_deep) =
      not_viable (kind ∷ front) later k (ap (λ v. kind ∷ v) same) (within_taken kind front takes within) (longest_taken kind front (k ∷ later) takes longest)
      (λ m. not_whole (takes.forth Whole front 0 m))
      (λ deep. not_deep (record { opens = deep.opens; all_open = λ n m. deep.all_open n (takes.back Front front n m) }))
  stop_taken kind {tokens} takes (too_short within begins not_whole) =
      too_short (within_taken kind tokens takes within) (begins.0, takes.back Front tokens begins.0 begins.1) (λ m. not_whole (takes.forth Whole tokens 0 m))

  -- a step that takes none, with these tokens ahead: either it goes in where the token ahead may stand, or it goes past
  -- what isn't there
  pub record GoesIn (tokens : List ℕ) : Type 0 where
    pub stands : (kind : ℕ) (later : List ℕ) → tokens ≡ kind ∷ later → Begins g to behind (kind ∷ [])
    pub ahead : tokens ≡ [] → ⊥

  pub record GoesPast : Type 0 where
    pub whole : Derives g row rows [] → Derives g to behind []
    pub full : ((nestings : ℕ) → Matches g Front to behind [] nestings → limit ≤ nestings) → (nestings : ℕ) → Matches g Front row rows [] nestings → limit ≤ nestings

  pub record Steps (tokens : List ℕ) : Type 0 where
    pub back : (x : Extent) (front : List ℕ) (nestings : ℕ) → Matches g x to behind front nestings → Matches g x row rows front nestings
    pub forth : (x : Extent) (kind : ℕ) (front later : List ℕ) (nestings : ℕ) → tokens ≡ kind ∷ later → Matches g x row rows (kind ∷ front) nestings → Matches g x to behind (kind ∷ front) nestings
    pub calm : IsCalm g limit row rows
    pub way : GoesIn tokens ⊎ GoesPast

  module _ (tokens : List ℕ) (steps : Steps tokens) where
    within_step : (part rest : List ℕ) → tokens ≡ part ++ rest → IsWithin g limit to behind part → IsWithin g limit row rows part
    within_step part rest split within [] left nestings same m = steps.calm nestings m
    within_step part rest split within (t ∷ front) left nestings same m =
        within (t ∷ front) left nestings same (steps.forth Front t front ((front ++ left) ++ rest) nestings (split ∙ ap (λ v. v ++ rest) same) m)

    longest_step : (front rest : List ℕ) → tokens ≡ front ++ rest → IsLongest g limit to behind front rest → IsLongest g limit row rows front rest
    longest_step [] rest split longest =
        record {
          begins = (longest.begins.0, steps.back Front [] longest.begins.0 longest.begins.1);
          not_further = λ k later is m. longest.not_further k later is (m.0, steps.forth Front k [] later m.0 (split ∙ is) m.1);
        }
    longest_step (t ∷ front) rest split longest =
        record {
          begins = (longest.begins.0, steps.back Front (t ∷ front) longest.begins.0 longest.begins.1);
          not_further = λ k later is m. longest.not_further k later is (m.0, steps.forth Front t (front ++ k ∷ []) (front ++ rest) m.0 split m.1);
        }

    -- nothing is left out where the front is empty and can't be longer
    not_in : (rest : List ℕ) → tokens ≡ rest → IsLongest g limit to behind [] rest → GoesIn tokens → ⊥
    not_in [] split longest goes = goes.ahead split
    not_in (kind ∷ later) split longest goes = longest.not_further kind later refl (goes.stands kind later split)

    whole_step : (front rest : List ℕ) → tokens ≡ front ++ rest → IsLongest g limit to behind front rest → (Derives g to behind front → ⊥) → Derives g row rows front → ⊥
    whole_step [] rest split longest not_whole m =
        elim (steps.way) [
          | inl goes ↦ not_in rest split longest goes
          | inr past ↦ not_whole (past.whole m)
        ]
    whole_step (t ∷ front) rest split longest not_whole m = not_whole (steps.forth Whole t front (front ++ rest) 0 split m)

    full_step : (front rest : List ℕ) → tokens ≡ front ++ rest → IsLongest g limit to behind front rest → ((nestings : ℕ) → Matches g Front to behind front nestings → limit ≤ nestings) → (nestings : ℕ) → Matches g Front row rows front nestings → limit ≤ nestings
    full_step [] rest split longest full nestings m =
        elim (steps.way) [
          | inl goes ↦ absurd (not_in rest split longest goes)
          | inr past ↦ past.full full nestings m
        ]
    full_step (t ∷ front) rest split longest full nestings m = full nestings (steps.forth Front t front (front ++ rest) nestings split m)

  pub stop_step : (tokens : List ℕ) {stop : Stop} → Steps tokens → IsStop g limit to behind tokens stop → IsStop g limit row rows tokens stop
  stop_step tokens steps (one_too_deep front later k nestings same within m above) =
      one_too_deep front later k nestings same (within_step tokens steps front (k ∷ later) same within) (steps.back Front (front ++ k ∷ []) nestings m) above
  stop_step tokens steps (whole front rest same within longest m) =
      whole front rest same (within_step tokens steps front rest same within) (longest_step tokens steps front rest same longest) (steps.back Whole front 0 m)
  stop_step tokens steps (opener_too_deep front later k same within longest not_whole deep) =
      opener_too_deep front later k same (within_step tokens steps front (k ∷ later) same within) (longest_step tokens steps front (k ∷ later) same longest)
      (whole_step tokens steps front (k ∷ later) same longest not_whole)
      (record { opens = deep.opens; all_open = full_step tokens steps front (k ∷ later) same longest deep.all_open })
  stop_step tokens steps (not_viable front later k same within longest not_whole not_deep) =
      not_viable front later k same (within_step tokens steps front (k ∷ later) same within) (longest_step tokens steps front (k ∷ later) same longest)
      (whole_step tokens steps front (k ∷ later) same longest not_whole)
      (λ deep. not_deep (record { opens = deep.opens; all_open = λ n m. deep.all_open n (steps.back Front front n m) }))
  stop_step tokens steps (too_short within begins not_whole) =
      too_short (within_step tokens steps tokens [] (sym (append-nil tokens)) within) (begins.0, steps.back Front tokens begins.0 begins.1)
      (whole_step tokens steps tokens [] (sym (append-nil tokens)) (record { begins = begins; not_further = λ k later is m. no_element k later is }) not_whole)
