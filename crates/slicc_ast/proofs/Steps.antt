-- The steps by which a reader comes through a part, or stops in it: those of its parts, one behind another.
use Rattle.std.proofs.Common.{◌≡◌, ℕ, suc, true, false, List, ◌∷◌, Some}
use Rattle.std.specs.List.{slice_get}
use Rattle.slicc_ast.specs.Prelude.{has, is_ahead, Row, Grammar, is_nullable, first_of, done, form, maybe, many, nested, end, next, up, Stop, IsFirstFault, Passed, Deep, IsPredictive, refusal, Passes, Fails, followed_by, read, taken, refused, chosen, by_default, unformed, too_deep, unopened}
use Rattle.slicc_ast.specs.Grammar.Row.{token}
use Rattle.slicc_ast.specs.Reader.Stops.{on, outside, present, absent, again, enough, inside}
use Rattle.slicc_ast.proofs.FirstFault.{stop_is_first_fault}

module _ {F : Type 0} (g : Grammar F) (depth : ℕ) where
  pub passes_nothing : (tokens : List ℕ) → Passes g depth (λ row. row) tokens tokens
  passes_nothing tokens row rows stop s = s

  pub passes_both : (part other : Row F → Row F) (tokens between left : List ℕ) → Passes g depth part tokens between → Passes g depth other between left → Passes g depth (followed_by part other) tokens left
  passes_both part other tokens between left one two row rows stop s = one (other row) rows stop (two row rows stop s)

  pub passes_token : (kinds : List ℕ) (kind : ℕ) (tokens : List ℕ) → has kinds kind ≡ true → Passes g depth (token kinds) (kind ∷ tokens) tokens
  passes_token kinds kind tokens is row rows stop s = taken is s

  pub passes_form : (n : F) (place : ℕ) (part : Row F → Row F) (tokens left : List ℕ) → slice_get (g.alternatives n) place ≡ Some (part done) → is_ahead (first_of g (part done)) tokens ≡ true → Passes g depth part tokens left → Passes g depth (form n) tokens left
  passes_form n place part tokens left at ahead passes row rows stop s = chosen place (part done) at ahead (passes done (next row rows) stop (on s))

  pub passes_default : (n : F) (place : ℕ) (part : Row F → Row F) (tokens left : List ℕ) → slice_get (g.alternatives n) place ≡ Some (part done) → is_nullable g (part done) ≡ true → is_ahead (g.first n) tokens ≡ false → Passes g depth part tokens left → Passes g depth (form n) tokens left
  passes_default n place part tokens left at empty ahead passes row rows stop s = by_default place (part done) at empty ahead (passes done (next row rows) stop (on s))

  pub passes_present : (part : Row F → Row F) (tokens left : List ℕ) → is_ahead (first_of g (part done)) tokens ≡ true → Passes g depth part tokens left → Passes g depth (maybe (part done)) tokens left
  passes_present part tokens left ahead passes row rows stop s = present ahead (passes done (next row rows) stop (on s))

  pub passes_absent : (part : Row F) (tokens : List ℕ) → is_ahead (first_of g part) tokens ≡ false → Passes g depth (maybe part) tokens tokens
  passes_absent part tokens ahead row rows stop s = absent ahead s

  pub passes_again : (part : Row F → Row F) (tokens between left : List ℕ) → is_ahead (first_of g (part done)) tokens ≡ true → Passes g depth part tokens between → Passes g depth (many (part done)) between left → Passes g depth (many (part done)) tokens left
  passes_again part tokens between left ahead one more row rows stop s = again ahead (one done (next (many (part done) row) rows) stop (on (more row rows stop s)))

  pub passes_enough : (part : Row F) (tokens : List ℕ) → is_ahead (first_of g part) tokens ≡ false → Passes g depth (many part) tokens tokens
  passes_enough part tokens ahead row rows stop s = enough ahead s

  -- an item more of a list with a token between the items, or an operand more of an operator's level
  pub passes_item : (separators : List ℕ) (item : Row F → Row F) (kind : ℕ) (tokens between left : List ℕ) → has separators kind ≡ true → Passes g depth item tokens between → Passes g depth (many (token separators (item done))) between left → Passes g depth (many (token separators (item done))) (kind ∷ tokens) left
  passes_item separators item kind tokens between left is one more row rows stop s =
      again is (taken is (one done (next (many (token separators (item done)) row) rows) stop (on (more row rows stop s))))

  pub passes_nested : (kinds : List ℕ) (part : Row F → Row F) (kind : ℕ) (tokens left : List ℕ) → has kinds kind ≡ true → Passes g depth part tokens left → Passes g (suc depth) (nested kinds (part done)) (kind ∷ tokens) left
  passes_nested kinds part kind tokens left is passes row rows stop s = inside is (passes done (up row rows) stop (outside s))

  pub fails_first : (part other : Row F → Row F) (tokens : List ℕ) (stop : Stop) → Fails g depth part tokens stop → Fails g depth (followed_by part other) tokens stop
  fails_first part other tokens stop fails row rows = fails (other row) rows

  pub fails_second : (part other : Row F → Row F) (tokens between : List ℕ) (stop : Stop) → Passes g depth part tokens between → Fails g depth other between stop → Fails g depth (followed_by part other) tokens stop
  fails_second part other tokens between stop passes fails row rows = passes (other row) rows stop (fails row rows)

  pub fails_token : (kinds tokens : List ℕ) → is_ahead kinds tokens ≡ false → Fails g depth (token kinds) tokens (refusal g depth tokens)
  fails_token kinds tokens ahead row rows = refused ahead

  pub fails_form : (n : F) (place : ℕ) (part : Row F → Row F) (tokens : List ℕ) (stop : Stop) → slice_get (g.alternatives n) place ≡ Some (part done) → is_ahead (first_of g (part done)) tokens ≡ true → Fails g depth part tokens stop → Fails g depth (form n) tokens stop
  fails_form n place part tokens stop at ahead fails row rows = chosen place (part done) at ahead (fails done (next row rows))

  pub fails_default : (n : F) (place : ℕ) (part : Row F → Row F) (tokens : List ℕ) (stop : Stop) → slice_get (g.alternatives n) place ≡ Some (part done) → is_nullable g (part done) ≡ true → is_ahead (g.first n) tokens ≡ false → Fails g depth part tokens stop → Fails g depth (form n) tokens stop
  fails_default n place part tokens stop at empty ahead fails row rows = by_default place (part done) at empty ahead (fails done (next row rows))

  pub fails_unformed : (n : F) (tokens : List ℕ) → g.may_be_empty n ≡ false → is_ahead (g.first n) tokens ≡ false → Fails g depth (form n) tokens (refusal g depth tokens)
  fails_unformed n tokens not_empty ahead row rows = unformed not_empty ahead

  pub fails_present : (part : Row F → Row F) (tokens : List ℕ) (stop : Stop) → is_ahead (first_of g (part done)) tokens ≡ true → Fails g depth part tokens stop → Fails g depth (maybe (part done)) tokens stop
  fails_present part tokens stop ahead fails row rows = present ahead (fails done (next row rows))

  pub fails_again : (part : Row F → Row F) (tokens : List ℕ) (stop : Stop) → is_ahead (first_of g (part done)) tokens ≡ true → Fails g depth part tokens stop → Fails g depth (many (part done)) tokens stop
  fails_again part tokens stop ahead fails row rows = again ahead (fails done (next (many (part done) row) rows))

  pub fails_later : (part : Row F → Row F) (tokens between : List ℕ) (stop : Stop) → is_ahead (first_of g (part done)) tokens ≡ true → Passes g depth part tokens between → Fails g depth (many (part done)) between stop → Fails g depth (many (part done)) tokens stop
  fails_later part tokens between stop ahead one fails row rows = again ahead (one done (next (many (part done) row) rows) stop (on (fails row rows)))

  pub fails_nested : (kinds : List ℕ) (part : Row F → Row F) (kind : ℕ) (tokens : List ℕ) (stop : Stop) → has kinds kind ≡ true → Fails g depth part tokens stop → Fails g (suc depth) (nested kinds (part done)) (kind ∷ tokens) stop
  fails_nested kinds part kind tokens stop is fails row rows = inside is (fails done (up row rows))

  pub fails_unopened : (kinds : List ℕ) (part : Row F) (tokens : List ℕ) → is_ahead kinds tokens ≡ false → Fails g depth (nested kinds part) tokens (refusal g depth tokens)
  fails_unopened kinds part tokens ahead row rows = unopened ahead

pub fails_deep : {F : Type 0} (g : Grammar F) (kinds : List ℕ) (part : Row F) (kind : ℕ) (tokens : List ℕ) → has kinds kind ≡ true → Fails g 0 (nested kinds part) (kind ∷ tokens) (Deep (kind ∷ tokens))
fails_deep g kinds part kind tokens is row rows = too_deep is

-- what a reader of a form comes to is where the list stops
pub passed_is_front : {F : Type 0} (g : Grammar F) → IsPredictive g → (limit : ℕ) (n : F) (tokens left : List ℕ) → Passes g limit (form n) tokens left → IsFirstFault g limit n tokens (Passed left)
passed_is_front g predictive limit n tokens left passes = stop_is_first_fault g predictive limit n tokens (Passed left) (passes done end (Passed left) read)

pub failed_is_fault : {F : Type 0} (g : Grammar F) → IsPredictive g → (limit : ℕ) (n : F) (tokens : List ℕ) (stop : Stop) → Fails g limit (form n) tokens stop → IsFirstFault g limit n tokens stop
failed_is_fault g predictive limit n tokens stop fails = stop_is_first_fault g predictive limit n tokens stop (fails done end)
