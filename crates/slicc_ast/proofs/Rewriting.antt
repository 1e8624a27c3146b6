-- What a table's own rows are made of, for comparing two tables: a form is one of its alternatives before what follows,
-- and what stands at the end of a row may be exchanged for what matches the same lists up to a length.
use Rattle.std.proofs.Common.{◌≡◌, ℕ, suc, ◌≤◌, List, [], length, Some, refl, sym, subst, ap, arith}
use Rattle.std.specs.List.{slice_get}
use Rattle.slicc_ast.specs.Prelude.{Row, Rows, Grammar, nestings_of, form, many, next, up, Extent, Matches, Front, stopped, ended, one, alternative, joined}
use Rattle.slicc_ast.specs.Matches.Matches.{present, absent, again, enough, inside, on, outside}
use Rattle.slicc_ast.proofs.Joining.{merge, part}

module _ {F : Type 0} (g : Grammar F) where
  pub fold : {x : Extent} (n : F) (place : ℕ) (chosen row : Row F) (rows : Rows F) {tokens : List ℕ} {nestings : ℕ} → slice_get (g.alternatives n) place ≡ Some chosen → Matches g x (joined chosen row) rows tokens nestings → Matches g x (form n row) rows tokens nestings
  fold n place chosen row rows at m = alternative place chosen at (part g chosen row rows m)

  -- the same rows, but for the last but some
  data AreExchanged (from to : Row F) (rest : Rows F) : Rows F → Rows F → Type 0 where
    last : AreExchanged from to rest (next from rest) (next to rest)
    next_one : (row : Row F) {rows others : Rows F} → AreExchanged from to rest rows others → AreExchanged from to rest (next row rows) (next row others)
    up_one : (row : Row F) {rows others : Rows F} → AreExchanged from to rest rows others → AreExchanged from to rest (up row rows) (up row others)

  same_open : {from to : Row F} {rest rows others : Rows F} → AreExchanged from to rest rows others → nestings_of rows ≡ nestings_of others
  same_open last = refl
  same_open (next_one row e) = same_open e
  same_open (up_one row e) = ap suc (same_open e)

  exchange : (bound : ℕ) {from to : Row F} {rest : Rows F} → ((x : Extent) (tokens : List ℕ) (nestings : ℕ) → length tokens ≤ bound → Matches g x from rest tokens nestings → Matches g x to rest tokens nestings) → {x : Extent} {row : Row F} {rows others : Rows F} {tokens : List ℕ} {nestings : ℕ} → AreExchanged from to rest rows others → length tokens ≤ bound → Matches g x row rows tokens nestings → Matches g x row others tokens nestings
  exchange bound step {row = row} {others = others} e le stopped = subst (λ n. Matches g Front row others [] n) (sym (same_open e)) stopped
  exchange bound step e le ended = elim e [ ]
  exchange bound step e le (one is m) = one is (exchange bound step e (omega arith) m)
  exchange bound step e le (alternative {row = row} place chosen at m) = alternative place chosen at (exchange bound step (next_one row e) le m)
  exchange bound step e le (present {row = row} m) = present (exchange bound step (next_one row e) le m)
  exchange bound step e le (absent m) = absent (exchange bound step e le m)
  exchange bound step e le (again {part = inner} {row = row} m) = again (exchange bound step (next_one (many inner row) e) le m)
  exchange bound step e le (enough m) = enough (exchange bound step e le m)
  exchange bound step e le (inside {row = row} is m) = inside is (exchange bound step (up_one row e) (omega arith) m)
  exchange bound step last le (on {tokens = tokens} m) = on (step _ tokens _ le m)
  exchange bound step (next_one row e) le (on m) = on (exchange bound step e le m)
  exchange bound step (up_one row e) le (outside m) = outside (exchange bound step e le m)

  pub exchange_within : (bound : ℕ) (front from to : Row F) (rest : Rows F) → ((x : Extent) (tokens : List ℕ) (nestings : ℕ) → length tokens ≤ bound → Matches g x from rest tokens nestings → Matches g x to rest tokens nestings) → (x : Extent) (tokens : List ℕ) (nestings : ℕ) → length tokens ≤ bound → Matches g x (joined front from) rest tokens nestings → Matches g x (joined front to) rest tokens nestings
  exchange_within bound front from to rest step x tokens nestings le m = merge g front to rest (exchange bound step last le (part g front from rest m))
