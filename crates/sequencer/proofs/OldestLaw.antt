-- The oldest request is outstanding, and none is outstanding that was issued before it, or as early for a lesser line.
use Rattle.std.proofs.Common.{◌≡◌, ℕ, zero, suc, ◌<◌, Bool, true, false, cond, eqb, List, [], ◌∷◌, length, get_or, map, Option, None, Some, Contains, refl, sym, ap, subst, ◌∙◌, ⊎_elim, inr, arith}
use Rattle.std.proofs.lemmas.Bool.Decides.{nat_tests}
use Rattle.std.specs.Bool.{nat_lt}
use Rattle.std.specs.FinMap as finite
use Rattle.std.specs.List.{All, AllPairs}
use Rattle.std.specs.Map.{lookup}
use Rattle.ruby_value.specs.declared.asked.Asked.{Asked}
use Rattle.ruby_value.proofs.Contained.{Contains-cons_cases, Contains-cons_here, Contains-cons_there}
use Rattle.ruby_value.proofs.Entries.{get_entries}
use Rattle.ruby_value.proofs.Ordered.{AllPairs-head, AllPairs-tail}
use Rattle.sequencer.specs.Prelude.{ComesBefore, entry_of, outstanding_of, IsOldest, IsNoLater, older, oldest_of}
use Rattle.ruby_value.specs.Prelude.{Requests}
use Rattle.sequencer.proofs.Lines.{request-first}

abbrev OldestIn : List Asked → Option Asked → Type 0
OldestIn xs None = (o : Asked) → Contains xs o → ⊥
OldestIn xs (Some a) = Contains xs a × ((o : Asked) → Contains xs o → IsNoLater a o)

itself : (a : Asked) → IsNoLater a a
itself a = inr (refl, omega arith)

before : (a b : Asked) → nat_lt a.issued b.issued ≡ true → IsNoLater a b
before a b test = grind (arith, nat_tests, test)

through : (x b o : Asked) → nat_lt b.issued x.issued ≡ false → x.line < o.line → IsNoLater b o → IsNoLater x o
through x b o test less is = grind (arith, nat_tests, test, is)

later-line : (x : Asked) (xs : List Asked) → All (ComesBefore x) xs → (o : Asked) → Contains xs o → x.line < o.line
later-line x xs all o has = subst (λ (p : Asked). x.line < p.line) has.2 (all has.0 o has.1)

by-test : (x : Asked) (xs : List Asked) (b : Asked) (test : Bool) → nat_lt b.issued x.issued ≡ test → All (ComesBefore x) xs → OldestIn xs (Some b) → OldestIn (x ∷ xs) (Some (cond test b x))
by-test x xs b true is all rest = (
  Contains-cons_there x b xs rest.0,
  λ o has. ⊎_elim
      (λ same. subst (λ (p : Asked). IsNoLater b p) same (before b x is))
      (λ there. rest.1 o there)
      (Contains-cons_cases x o xs has),
)
by-test x xs b false is all rest = (
  Contains-cons_here x xs,
  λ o has. ⊎_elim
      (λ same. subst (λ (p : Asked). IsNoLater x p) same (itself x))
      (λ there. through x b o is (later-line x xs all o there) (rest.1 o there))
      (Contains-cons_cases x o xs has),
)

step : (x : Asked) (xs : List Asked) (o : Option Asked) → All (ComesBefore x) xs → OldestIn xs o → OldestIn (x ∷ xs) (Some (older x o))
step x xs None all rest = (
  Contains-cons_here x xs,
  λ o has. ⊎_elim
      (λ same. subst (λ (p : Asked). IsNoLater x p) same (itself x))
      (λ there. absurd (rest o there))
      (Contains-cons_cases x o xs has),
)
step x xs (Some b) all rest = by-test x xs b (nat_lt b.issued x.issued) refl all rest

oldest-in : (xs : List Asked) → AllPairs ComesBefore xs → OldestIn xs (oldest_of xs)
oldest-in [] pairs = λ o has. absurd (omega (arith, has.1))
oldest-in (x ∷ xs) pairs = step x xs (oldest_of xs) (AllPairs-head ComesBefore x xs pairs) (oldest-in xs (AllPairs-tail ComesBefore x xs pairs))

found-by : (x : Asked) (xs : List Asked) (rest : Option Asked) (a : Asked) (test : Bool) → (rest ≡ Some a → Contains xs a) → cond test (Some x) rest ≡ Some a → Contains (x ∷ xs) a
found-by x xs rest a true there same = let here : x ≡ a = cc same in subst (λ (p : Asked). Contains (x ∷ xs) p) here (Contains-cons_here x xs)
found-by x xs rest a false there same = Contains-cons_there x a xs (there same)

found : (xs : List Asked) (line : ℕ) (a : Asked) → lookup (eqb line) (map entry_of xs) ≡ Some a → Contains xs a
found [] line a is = absurd (cc is)
found (x ∷ xs) line a is = found-by x xs (lookup (eqb line) (map entry_of xs)) a (eqb line x.line) (found xs line a) is

-- what is outstanding stands in the list, and the other way round
stands : (xs : List Asked) (line : ℕ) (a : Asked) → finite.get (outstanding_of xs) line ≡ Some a → Contains xs a
stands xs line a is = found xs line a (sym (get_entries (map entry_of xs) line) ∙ is)

is-outstanding : (xs : List Asked) → AllPairs ComesBefore xs → (a : Asked) → Contains xs a → finite.get (outstanding_of xs) a.line ≡ Some a
is-outstanding xs pairs a (k, lt, is) =
    sym (request-first xs a.line k a lt
    (λ j e less same. let earlier : (get_or xs j e).line < (get_or xs k e).line = pairs j k e less lt in
    let own : (get_or xs k e).line ≡ a.line = ap (λ (p : Asked). p.line) (any_default xs k e a lt ∙ is) in
    absurd (omega arith))
    (ap (λ (p : Asked). p.line) is))
    ∙ ap Some is
  where
    any_default : (ys : List Asked) (i : ℕ) (d e : Asked) → i < length ys → get_or ys i d ≡ get_or ys i e
    any_default [] i d e less = absurd (omega arith)
    any_default (y ∷ ys) zero d e less = refl
    any_default (y ∷ ys) (suc i) d e less = any_default ys i d e (omega arith)

law : (xs : List Asked) (r : Requests) (o : Option Asked) → r.outstanding ≡ outstanding_of xs → AllPairs ComesBefore xs → OldestIn xs o → IsOldest r o
law xs r None is pairs none = λ line a has. none a (stands xs line a (ap (λ m. finite.get m line) (sym is) ∙ has))
law xs r (Some a) is pairs oldest = record {
  outstanding = ap (λ m. finite.get m a.line) is ∙ is-outstanding xs pairs a oldest.0;
  first = λ line o has. oldest.1 o (stands xs line o (ap (λ m. finite.get m line) (sym is) ∙ has));
}

pub oldest-law : (xs : List Asked) (r : Requests) → r.outstanding ≡ outstanding_of xs → AllPairs ComesBefore xs → IsOldest r (oldest_of xs)
oldest-law xs r is pairs = law xs r (oldest_of xs) is pairs (oldest-in xs pairs)
