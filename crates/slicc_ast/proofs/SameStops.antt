-- In two tables with the same lists, a list stops at the same place.
use Rattle.std.proofs.Common.{◌≡◌, ℕ, true, List, [], ◌∷◌, ◌++◌, sym, subst}
use Rattle.slicc_ast.specs.Prelude.{has, Row, Rows, Grammar, Whole, Front, Stop, IsWithin, IsLongest, IsOpenerTooDeep, IsStop, one_too_deep, whole, opener_too_deep, not_viable, too_short, HaveSameLists}

module _ {F : Type 0} (g other : Grammar F) (same : HaveSameLists g other) (openers : g.openers ≡ other.openers) (limit : ℕ) (row : Row F) (rows : Rows F) where
  within : (tokens : List ℕ) → IsWithin g limit row rows tokens → IsWithin other limit row rows tokens
  within tokens holds front rest nestings split m = holds front rest nestings split ((same Front row rows front nestings).1 m)

  longest : (front rest : List ℕ) → IsLongest g limit row rows front rest → IsLongest other limit row rows front rest
  longest front rest l =
      record {
        begins = (l.begins.0, (same Front row rows front l.begins.0).0 l.begins.1);
        not_further = λ kind later is m. l.not_further kind later is (m.0, (same Front row rows (front ++ kind ∷ []) m.0).1 m.1);
      }

  deep : (front : List ℕ) (kind : ℕ) → IsOpenerTooDeep g limit row rows front kind → IsOpenerTooDeep other limit row rows front kind
  deep front kind d =
      record {
        opens = subst (λ ks. has ks kind ≡ true) openers d.opens;
        all_open = λ n m. d.all_open n ((same Front row rows front n).1 m);
      }

  not_deep : (front : List ℕ) (kind : ℕ) → IsOpenerTooDeep other limit row rows front kind → IsOpenerTooDeep g limit row rows front kind
  not_deep front kind d =
      record {
        opens = subst (λ ks. has ks kind ≡ true) (sym openers) d.opens;
        all_open = λ n m. d.all_open n ((same Front row rows front n).0 m);
      }

  pub same_stop : (tokens : List ℕ) (stop : Stop) → IsStop g limit row rows tokens stop → IsStop other limit row rows tokens stop
  same_stop tokens stop (one_too_deep front later kind nestings split holds m above) =
      one_too_deep front later kind nestings split (within front holds) ((same Front row rows (front ++ kind ∷ []) nestings).0 m) above
  same_stop tokens stop (whole front rest split holds l m) = whole front rest split (within front holds) (longest front rest l) ((same Whole row rows front 0).0 m)
  same_stop tokens stop (opener_too_deep front later kind split holds l not_whole d) =
      opener_too_deep front later kind split (within front holds) (longest front (kind ∷ later) l) (λ m. not_whole ((same Whole row rows front 0).1 m)) (deep front kind d)
  same_stop tokens stop (not_viable front later kind split holds l not_whole not_too) =
      not_viable front later kind split (within front holds) (longest front (kind ∷ later) l) (λ m. not_whole ((same Whole row rows front 0).1 m)) (λ d. not_too (not_deep front kind d))
  same_stop tokens stop (too_short holds begins not_whole) =
      too_short (within tokens holds) (begins.0, (same Front row rows tokens begins.0).0 begins.1) (λ m. not_whole ((same Whole row rows tokens 0).1 m))
