-- Where the reader stops, the list does: by induction over its steps.
use Rattle.std.proofs.Common.{◌≡◌, ℕ, suc, ◌+◌, ◌≤◌, true, false, List, [], ◌∷◌, Some, refl, sym, subst, inl, inr, arith}
use Rattle.std.specs.List.{slice_get}
use Rattle.std.proofs.lemmas.Bool.{false≢true, both_ways, cases_Bool, and_left, and_from}
use Rattle.slicc_ast.specs.Prelude.{has, is_ahead, are_disjoint, Row, Rows, Grammar, nestings_of, is_nullable, first_of, done, form, maybe, many, nested, end, next, up, Begins, Derives, Extent, Matches, Whole, Front, Stop, IsStop, IsFirstFault, IsPredictive, refusal, Stops, read, taken, refused, chosen, by_default, unformed, too_deep, unopened}
use Rattle.slicc_ast.specs.Grammar.Row.{token}
use Rattle.slicc_ast.specs.Reader.Stops.{on, outside, present, absent, again, enough, inside}
use Rattle.slicc_ast.proofs.Tables.{one_empty, one_row}
use Rattle.slicc_ast.proofs.Starts.{nullable_of, at_most, stays_open}
use Rattle.slicc_ast.proofs.Forced.{IsSound, into_form, into_rest, into_part, into_end, into_again, into_nested, decided_maybe, decided_many, goes_in, goes_by, goes_again, goes_past, goes_chosen, goes_by_default, goes_nowhere}
use Rattle.slicc_ast.proofs.Ahead.{may_stand}
use Rattle.slicc_ast.proofs.Carried.{IsCalm, refused_stop, within_nothing, Takes, stop_taken, Steps, stop_step}

not_ahead : (kinds : List ℕ) (kind : ℕ) (tokens later : List ℕ) → is_ahead kinds tokens ≡ false → tokens ≡ kind ∷ later → has kinds kind ≡ false
not_ahead kinds kind tokens later ahead same = subst (λ ts. is_ahead kinds ts ≡ false) same ahead

is_first : (kinds : List ℕ) (kind : ℕ) (tokens later : List ℕ) → is_ahead kinds tokens ≡ true → tokens ≡ kind ∷ later → has kinds kind ≡ true
is_first kinds kind tokens later ahead same = subst (λ ts. is_ahead kinds ts ≡ true) same ahead

some_ahead : (kinds tokens : List ℕ) → is_ahead kinds tokens ≡ true → tokens ≡ [] → ⊥
some_ahead kinds tokens ahead same = false≢true (subst (λ ts. is_ahead kinds ts ≡ true) same ahead)

module _ {F : Type 0} (g : Grammar F) where
  token_forth : (x : Extent) (kinds : List ℕ) (row : Row F) (rows : Rows F) (kind : ℕ) (front : List ℕ) (nestings : ℕ) → Matches g x (token kinds row) rows (kind ∷ front) nestings → (has kinds kind ≡ true) × Matches g x row rows front nestings
  token_forth x kinds row rows kind front nestings (Matches.one is m) = (is, m)

  nested_forth : (x : Extent) (kinds : List ℕ) (part row : Row F) (rows : Rows F) (kind : ℕ) (front : List ℕ) (nestings : ℕ) → Matches g x (nested kinds part row) rows (kind ∷ front) nestings → (has kinds kind ≡ true) × Matches g x part (up row rows) front nestings
  nested_forth x kinds part row rows kind front nestings (Matches.inside is m) = (is, m)

  on_forth : (x : Extent) (row : Row F) (rows : Rows F) (kind : ℕ) (front : List ℕ) (nestings : ℕ) → Matches g x done (next row rows) (kind ∷ front) nestings → Matches g x row rows (kind ∷ front) nestings
  on_forth x row rows kind front nestings (Matches.on m) = m

  on_whole : (row : Row F) (rows : Rows F) (nestings : ℕ) → Matches g Whole done (next row rows) [] nestings → Matches g Whole row rows [] nestings
  on_whole row rows nestings (Matches.on m) = m

  outside_forth : (x : Extent) (row : Row F) (rows : Rows F) (kind : ℕ) (front : List ℕ) (nestings : ℕ) → Matches g x done (up row rows) (kind ∷ front) nestings → Matches g x row rows (kind ∷ front) nestings
  outside_forth x row rows kind front nestings (Matches.outside m) = m

  outside_whole : (row : Row F) (rows : Rows F) (nestings : ℕ) → Matches g Whole done (up row rows) [] nestings → Matches g Whole row rows [] nestings
  outside_whole row rows nestings (Matches.outside m) = m

  nothing_behind : (x : Extent) (kind : ℕ) (front : List ℕ) (nestings : ℕ) → Matches g x done end (kind ∷ front) nestings → ⊥
  nothing_behind x kind front nestings m = elim m [ ]

none_disjoint : (kinds : List ℕ) → are_disjoint kinds [] ≡ true
none_disjoint [] = refl
none_disjoint (k ∷ kinds) = and_from true (are_disjoint kinds []) refl (none_disjoint kinds)

pub form_sound : {F : Type 0} (g : Grammar F) (n : F) → IsSound g (form n done) end
form_sound g n = (and_from (are_disjoint (g.further n) []) true (none_disjoint (g.further n)) refl, λ kind is starts. starts, tt)

module _ {F : Type 0} (g : Grammar F) (predictive : IsPredictive g) (limit : ℕ) where
  calm_of : (depth : ℕ) (row : Row F) (rows : Rows F) → limit ≡ depth + nestings_of rows → IsCalm g limit row rows
  calm_of depth row rows sum nestings m = let below = at_most g m in omega arith

  -- before what isn't empty all stay open
  full_by : (row : Row F) (rows : Rows F) → is_nullable g row ≡ false → (nestings : ℕ) → Matches g Front row rows [] nestings → nestings ≡ nestings_of rows
  full_by row rows not_empty nestings m = stays_open g predictive not_empty m

  not_whole_by : (row : Row F) (rows : Rows F) → is_nullable g row ≡ false → Derives g row rows [] → ⊥
  not_whole_by row rows not_empty m = both_ways (is_nullable g row) not_empty (nullable_of g predictive m).0

  -- the first token ahead may stand where the reader goes in
  goes_in_at : {depth : ℕ} {stop : Stop} (row : Row F) (rows : Rows F) (tokens : List ℕ) → is_ahead (first_of g row) tokens ≡ true → Stops g depth row rows tokens stop → (kind : ℕ) (later : List ℕ) → tokens ≡ kind ∷ later → Begins g row rows (kind ∷ [])
  goes_in_at {depth} {stop} row rows tokens ahead s kind later same =
      may_stand g (subst (λ ts. Stops g depth row rows ts stop) same s) (inl (is_first (first_of g row) kind tokens later ahead same))

  token_step : (depth : ℕ) (kinds : List ℕ) (row : Row F) (rows : Rows F) (kind : ℕ) → limit ≡ depth + nestings_of rows → has kinds kind ≡ true → Takes g limit (token kinds row) rows row rows kind
  token_step depth kinds row rows kind sum is =
      record {
        back = λ x tokens nestings m. Matches.one is m;
        forth = λ x tokens nestings m. (token_forth g x kinds row rows kind tokens nestings m).1;
        calm = calm_of depth (token kinds row) rows sum;
      }

  nested_step : (depth : ℕ) (kinds : List ℕ) (part row : Row F) (rows : Rows F) (kind : ℕ) → limit ≡ depth + nestings_of rows → has kinds kind ≡ true → Takes g limit (nested kinds part row) rows part (up row rows) kind
  nested_step depth kinds part row rows kind sum is =
      record {
        back = λ x tokens nestings m. Matches.inside is m;
        forth = λ x tokens nestings m. (nested_forth g x kinds part row rows kind tokens nestings m).1;
        calm = calm_of depth (nested kinds part row) rows sum;
      }

  on_full : (row : Row F) (rows : Rows F) → ((nestings : ℕ) → Matches g Front row rows [] nestings → limit ≤ nestings) → (nestings : ℕ) → Matches g Front done (next row rows) [] nestings → limit ≤ nestings
  on_full row rows full nestings Matches.stopped = full (nestings_of rows) Matches.stopped
  on_full row rows full nestings (Matches.on m) = full nestings m

  on_step : (depth : ℕ) (row : Row F) (rows : Rows F) (tokens : List ℕ) → limit ≡ depth + nestings_of rows → Steps g limit done (next row rows) row rows tokens
  on_step depth row rows tokens sum =
      record {
        back = λ x front nestings m. Matches.on m;
        forth = λ x kind front later nestings same m. on_forth g x row rows kind front nestings m;
        calm = calm_of depth done (next row rows) sum;
        way = inr (record { whole = on_whole g row rows 0; full = on_full row rows });
      }

  outside_full : (row : Row F) (rows : Rows F) → ((nestings : ℕ) → Matches g Front row rows [] nestings → limit ≤ nestings) → (nestings : ℕ) → Matches g Front done (up row rows) [] nestings → limit ≤ nestings
  outside_full row rows full nestings Matches.stopped = let below = full (nestings_of rows) Matches.stopped in omega arith
  outside_full row rows full nestings (Matches.outside m) = full nestings m

  outside_step : (depth : ℕ) (row : Row F) (rows : Rows F) (tokens : List ℕ) → limit ≡ depth + suc (nestings_of rows) → Steps g limit done (up row rows) row rows tokens
  outside_step depth row rows tokens sum =
      record {
        back = λ x front nestings m. Matches.outside m;
        forth = λ x kind front later nestings same m. outside_forth g x row rows kind front nestings m;
        calm = calm_of depth done (up row rows) sum;
        way = inr (record { whole = outside_whole g row rows 0; full = outside_full row rows });
      }

  chosen_step : {depth : ℕ} {stop : Stop} (n : F) (place : ℕ) (choice row : Row F) (rows : Rows F) (tokens : List ℕ) → limit ≡ depth + nestings_of rows → IsSound g (form n row) rows → slice_get (g.alternatives n) place ≡ Some choice → is_ahead (first_of g choice) tokens ≡ true → Stops g depth choice (next row rows) tokens stop → Steps g limit (form n row) rows choice (next row rows) tokens
  chosen_step {depth} n place choice row rows tokens sum sound at ahead s =
      record {
        back = λ x front nestings m. Matches.alternative place choice at m;
        forth = λ x kind front later nestings same m. goes_chosen g predictive n place choice row rows kind sound at (is_first (first_of g choice) kind tokens later ahead same) m;
        calm = calm_of depth (form n row) rows sum;
        way = inl (record { stands = goes_in_at choice (next row rows) tokens ahead s; ahead = some_ahead (first_of g choice) tokens ahead });
      }

  -- of the alternatives, the one that may be empty is meant where there is nothing
  default_whole : (n : F) (place : ℕ) (choice row : Row F) (rows : Rows F) → slice_get (g.alternatives n) place ≡ Some choice → is_nullable g choice ≡ true → Derives g (form n row) rows [] → Derives g choice (next row rows) []
  default_whole n place choice row rows at empty (Matches.alternative other actual also m) =
      let same = one_empty g predictive n place other choice actual at also empty (nullable_of g predictive m).0 in
      subst (λ r. Derives g r (next row rows) []) (sym (one_row g n place other choice actual at also same)) m

  default_full : (n : F) (place : ℕ) (choice row : Row F) (rows : Rows F) → slice_get (g.alternatives n) place ≡ Some choice → is_nullable g choice ≡ true → ((nestings : ℕ) → Matches g Front choice (next row rows) [] nestings → limit ≤ nestings) → (nestings : ℕ) → Matches g Front (form n row) rows [] nestings → limit ≤ nestings
  default_full n place choice row rows at empty full nestings Matches.stopped = full (nestings_of rows) Matches.stopped
  default_full n place choice row rows at empty full nestings (Matches.alternative other actual also m) =
      elim (cases_Bool (is_nullable g actual)) [
        | inl may_be ↦
            let same = one_empty g predictive n place other choice actual at also empty may_be in
            full nestings (subst (λ r. Matches g Front r (next row rows) [] nestings) (sym (one_row g n place other choice actual at also same)) m)
        | inr not_empty ↦ let all = full_by actual (next row rows) not_empty nestings m in let below = full (nestings_of rows) Matches.stopped in omega arith
      ]

  default_step : (depth : ℕ) (n : F) (place : ℕ) (choice row : Row F) (rows : Rows F) (tokens : List ℕ) → limit ≡ depth + nestings_of rows → slice_get (g.alternatives n) place ≡ Some choice → is_nullable g choice ≡ true → is_ahead (g.first n) tokens ≡ false → Steps g limit (form n row) rows choice (next row rows) tokens
  default_step depth n place choice row rows tokens sum at empty ahead =
      record {
        back = λ x front nestings m. Matches.alternative place choice at m;
        forth = λ x kind front later nestings same m. goes_by_default g predictive n place choice row rows kind at empty (not_ahead (g.first n) kind tokens later ahead same) m;
        calm = calm_of depth (form n row) rows sum;
        way = inr (record { whole = default_whole n place choice row rows at empty; full = default_full n place choice row rows at empty });
      }

  present_step : {depth : ℕ} {stop : Stop} (part row : Row F) (rows : Rows F) (tokens : List ℕ) → limit ≡ depth + nestings_of rows → IsSound g (maybe part row) rows → is_ahead (first_of g part) tokens ≡ true → Stops g depth part (next row rows) tokens stop → Steps g limit (maybe part row) rows part (next row rows) tokens
  present_step {depth} part row rows tokens sum sound ahead s =
      record {
        back = λ x front nestings m. Matches.present m;
        forth = λ x kind front later nestings same m. goes_in g predictive part row rows kind sound (is_first (first_of g part) kind tokens later ahead same) m;
        calm = calm_of depth (maybe part row) rows sum;
        way = inl (record { stands = goes_in_at part (next row rows) tokens ahead s; ahead = some_ahead (first_of g part) tokens ahead });
      }

  absent_whole : (part row : Row F) (rows : Rows F) → is_nullable g part ≡ false → Derives g (maybe part row) rows [] → Derives g row rows []
  absent_whole part row rows not_empty (Matches.present m) = absurd (not_whole_by part (next row rows) not_empty m)
  absent_whole part row rows not_empty (Matches.absent m) = m

  absent_full : (part row : Row F) (rows : Rows F) → is_nullable g part ≡ false → ((nestings : ℕ) → Matches g Front row rows [] nestings → limit ≤ nestings) → (nestings : ℕ) → Matches g Front (maybe part row) rows [] nestings → limit ≤ nestings
  absent_full part row rows not_empty full nestings Matches.stopped = full (nestings_of rows) Matches.stopped
  absent_full part row rows not_empty full nestings (Matches.present m) =
      let all = full_by part (next row rows) not_empty nestings m in let below = full (nestings_of rows) Matches.stopped in omega arith
  absent_full part row rows not_empty full nestings (Matches.absent m) = full nestings m

  absent_step : (depth : ℕ) (part row : Row F) (rows : Rows F) (tokens : List ℕ) → limit ≡ depth + nestings_of rows → IsSound g (maybe part row) rows → is_ahead (first_of g part) tokens ≡ false → Steps g limit (maybe part row) rows row rows tokens
  absent_step depth part row rows tokens sum sound ahead =
      record {
        back = λ x front nestings m. Matches.absent m;
        forth = λ x kind front later nestings same m. goes_by g predictive part row rows kind sound (not_ahead (first_of g part) kind tokens later ahead same) m;
        calm = calm_of depth (maybe part row) rows sum;
        way = inr (record {
          whole = absent_whole part row rows (decided_maybe g part row sound.0).0;
          full = absent_full part row rows (decided_maybe g part row sound.0).0;
        });
      }

  again_step : {depth : ℕ} {stop : Stop} (part row : Row F) (rows : Rows F) (tokens : List ℕ) → limit ≡ depth + nestings_of rows → IsSound g (many part row) rows → is_ahead (first_of g part) tokens ≡ true → Stops g depth part (next (many part row) rows) tokens stop → Steps g limit (many part row) rows part (next (many part row) rows) tokens
  again_step {depth} part row rows tokens sum sound ahead s =
      record {
        back = λ x front nestings m. Matches.again m;
        forth = λ x kind front later nestings same m. goes_again g predictive part row rows kind sound (is_first (first_of g part) kind tokens later ahead same) m;
        calm = calm_of depth (many part row) rows sum;
        way = inl (record { stands = goes_in_at part (next (many part row) rows) tokens ahead s; ahead = some_ahead (first_of g part) tokens ahead });
      }

  enough_whole : (part row : Row F) (rows : Rows F) → is_nullable g part ≡ false → Derives g (many part row) rows [] → Derives g row rows []
  enough_whole part row rows not_empty (Matches.again m) = absurd (not_whole_by part (next (many part row) rows) not_empty m)
  enough_whole part row rows not_empty (Matches.enough m) = m

  enough_full : (part row : Row F) (rows : Rows F) → is_nullable g part ≡ false → ((nestings : ℕ) → Matches g Front row rows [] nestings → limit ≤ nestings) → (nestings : ℕ) → Matches g Front (many part row) rows [] nestings → limit ≤ nestings
  enough_full part row rows not_empty full nestings Matches.stopped = full (nestings_of rows) Matches.stopped
  enough_full part row rows not_empty full nestings (Matches.again m) =
      let all = full_by part (next (many part row) rows) not_empty nestings m in let below = full (nestings_of rows) Matches.stopped in omega arith
  enough_full part row rows not_empty full nestings (Matches.enough m) = full nestings m

  enough_step : (depth : ℕ) (part row : Row F) (rows : Rows F) (tokens : List ℕ) → limit ≡ depth + nestings_of rows → IsSound g (many part row) rows → is_ahead (first_of g part) tokens ≡ false → Steps g limit (many part row) rows row rows tokens
  enough_step depth part row rows tokens sum sound ahead =
      record {
        back = λ x front nestings m. Matches.enough m;
        forth = λ x kind front later nestings same m. goes_past g predictive part row rows kind sound (not_ahead (first_of g part) kind tokens later ahead same) m;
        calm = calm_of depth (many part row) rows sum;
        way = inr (record {
          whole = enough_whole part row rows (decided_many g part row sound.0).0;
          full = enough_full part row rows (decided_many g part row sound.0).0;
        });
      }

  read_stop : (depth : ℕ) (tokens : List ℕ) → limit ≡ depth + 0 → IsStop g limit done end tokens (Stop.Passed tokens)
  read_stop depth tokens sum =
      IsStop.whole [] tokens refl (within_nothing g limit done end (calm_of depth done end sum))
      (record { begins = (0, Matches.stopped); not_further = λ kind later same m. nothing_behind g Front kind [] m.0 m.1 })
      Matches.ended

  refused_token : (depth : ℕ) (kinds : List ℕ) (row : Row F) (rows : Rows F) (tokens : List ℕ) → limit ≡ depth + nestings_of rows → is_ahead kinds tokens ≡ false → IsStop g limit (token kinds row) rows tokens (refusal g depth tokens)
  refused_token depth kinds row rows tokens sum ahead =
      refused_stop g limit (token kinds row) rows depth tokens sum (calm_of depth (token kinds row) rows sum)
      (λ kind later nestings same m. both_ways (has kinds kind) (not_ahead kinds kind tokens later ahead same) (token_forth g Front kinds row rows kind [] nestings m).0)
      (not_whole_by (token kinds row) rows refl)
      (full_by (token kinds row) rows refl)

  refused_nested : (depth : ℕ) (kinds : List ℕ) (part row : Row F) (rows : Rows F) (tokens : List ℕ) → limit ≡ depth + nestings_of rows → is_ahead kinds tokens ≡ false → IsStop g limit (nested kinds part row) rows tokens (refusal g depth tokens)
  refused_nested depth kinds part row rows tokens sum ahead =
      refused_stop g limit (nested kinds part row) rows depth tokens sum (calm_of depth (nested kinds part row) rows sum)
      (λ kind later nestings same m. both_ways (has kinds kind) (not_ahead kinds kind tokens later ahead same) (nested_forth g Front kinds part row rows kind [] nestings m).0)
      (not_whole_by (nested kinds part row) rows refl)
      (full_by (nested kinds part row) rows refl)

  refused_form : (depth : ℕ) (n : F) (row : Row F) (rows : Rows F) (tokens : List ℕ) → limit ≡ depth + nestings_of rows → g.may_be_empty n ≡ false → is_ahead (g.first n) tokens ≡ false → IsStop g limit (form n row) rows tokens (refusal g depth tokens)
  refused_form depth n row rows tokens sum not_empty ahead =
      refused_stop g limit (form n row) rows depth tokens sum (calm_of depth (form n row) rows sum)
      (λ kind later nestings same m. goes_nowhere g predictive n row rows kind not_empty (not_ahead (g.first n) kind tokens later ahead same) m)
      (not_whole_by (form n row) rows (and_left (g.may_be_empty n) (is_nullable g row) not_empty))
      (full_by (form n row) rows (and_left (g.may_be_empty n) (is_nullable g row) not_empty))

  too_deep_stop : (kinds : List ℕ) (part row : Row F) (rows : Rows F) (kind : ℕ) (tokens : List ℕ) → limit ≡ 0 + nestings_of rows → has kinds kind ≡ true → IsStop g limit (nested kinds part row) rows (kind ∷ tokens) (Stop.Deep (kind ∷ tokens))
  too_deep_stop kinds part row rows kind tokens sum is =
      IsStop.one_too_deep [] tokens kind (suc (nestings_of rows)) refl (within_nothing g limit (nested kinds part row) rows (calm_of 0 (nested kinds part row) rows sum))
      (Matches.inside is Matches.stopped) (omega arith)

  pub stops_right : {depth : ℕ} {row : Row F} {rows : Rows F} {tokens : List ℕ} {stop : Stop} → limit ≡ depth + nestings_of rows → IsSound g row rows → Stops g depth row rows tokens stop → IsStop g limit row rows tokens stop
  stops_right {depth} sum sound (read {tokens = tokens}) = read_stop depth tokens sum
  stops_right {depth} sum sound (on {row = row} {rows = rows} {tokens = tokens} s) =
      stop_step g limit done (next row rows) row rows tokens (on_step depth row rows tokens sum) (stops_right sum sound.2 s)
  stops_right {depth} sum sound (outside {row = row} {rows = rows} {tokens = tokens} s) =
      let deeper : limit ≡ suc depth + nestings_of rows = omega arith in
      stop_step g limit done (up row rows) row rows tokens (outside_step depth row rows tokens sum) (stops_right deeper sound.2 s)
  stops_right {depth} sum sound (taken {kinds = kinds} {row = row} {rows = rows} {kind = kind} is s) =
      stop_taken g limit (token kinds row) rows row rows kind (token_step depth kinds row rows kind sum is) (stops_right sum sound s)
  stops_right {depth} sum sound (refused {kinds = kinds} {row = row} {rows = rows} {tokens = tokens} ahead) = refused_token depth kinds row rows tokens sum ahead
  stops_right {depth} sum sound (chosen {n = n} {row = row} {rows = rows} {tokens = tokens} place choice at ahead s) =
      stop_step g limit (form n row) rows choice (next row rows) tokens (chosen_step n place choice row rows tokens sum sound at ahead s)
      (stops_right sum (into_form g predictive n place choice row rows at sound) s)
  stops_right {depth} sum sound (by_default {n = n} {row = row} {rows = rows} {tokens = tokens} place choice at empty ahead s) =
      stop_step g limit (form n row) rows choice (next row rows) tokens (default_step depth n place choice row rows tokens sum at empty ahead)
      (stops_right sum (into_form g predictive n place choice row rows at sound) s)
  stops_right {depth} sum sound (unformed {n = n} {row = row} {rows = rows} {tokens = tokens} not_empty ahead) = refused_form depth n row rows tokens sum not_empty ahead
  stops_right {depth} sum sound (present {part = part} {row = row} {rows = rows} {tokens = tokens} ahead s) =
      stop_step g limit (maybe part row) rows part (next row rows) tokens (present_step part row rows tokens sum sound ahead s)
      (stops_right sum (into_part g part row rows sound) s)
  stops_right {depth} sum sound (absent {part = part} {row = row} {rows = rows} {tokens = tokens} ahead s) =
      stop_step g limit (maybe part row) rows row rows tokens (absent_step depth part row rows tokens sum sound ahead)
      (stops_right sum (into_rest g part row rows sound) s)
  stops_right {depth} sum sound (again {part = part} {row = row} {rows = rows} {tokens = tokens} ahead s) =
      stop_step g limit (many part row) rows part (next (many part row) rows) tokens (again_step part row rows tokens sum sound ahead s)
      (stops_right sum (into_again g part row rows sound) s)
  stops_right {depth} sum sound (enough {part = part} {row = row} {rows = rows} {tokens = tokens} ahead s) =
      stop_step g limit (many part row) rows row rows tokens (enough_step depth part row rows tokens sum sound ahead)
      (stops_right sum (into_end g part row rows sound) s)
  stops_right {depth} sum sound (inside {depth = less} {kinds = kinds} {part = part} {row = row} {rows = rows} {kind = kind} is s) =
      let deeper : limit ≡ less + nestings_of (up row rows) = omega arith in
      stop_taken g limit (nested kinds part row) rows part (up row rows) kind (nested_step depth kinds part row rows kind sum is)
      (stops_right deeper (into_nested g kinds part row rows sound) s)
  stops_right {depth} sum sound (too_deep {kinds = kinds} {part = part} {row = row} {rows = rows} {kind = kind} {tokens = tokens} is) = too_deep_stop kinds part row rows kind tokens sum is
  stops_right {depth} sum sound (unopened {kinds = kinds} {part = part} {row = row} {rows = rows} {tokens = tokens} ahead) = refused_nested depth kinds part row rows tokens sum ahead

-- the law: where the reader of a form stops, the list does
pub stop_is_first_fault : {F : Type 0} (g : Grammar F) → IsPredictive g → (limit : ℕ) (n : F) (tokens : List ℕ) (stop : Stop) → Stops g limit (form n done) end tokens stop → IsFirstFault g limit n tokens stop
stop_is_first_fault g predictive limit n tokens stop s =
    stops_right g predictive limit (omega arith) (form_sound g n) s
