-- What a log of callbacks makes of a sequencer's requests, with one more and one after another.
use Rattle.std.proofs.Common.{◌≡◌, ℕ, zero, suc, ◌<◌, ◌≤◌, ◌==◌, ◌||◌, Bool, true, false, cond, eqb, List, [], ◌∷◌, ◌++◌, length, get_or, drop, Option, None, Some, refl, sym, ap, subst, ◌∙◌, arith, inl, inr}
use Rattle.std.proofs.lemmas.Bool.{eq-eqb, ne_eqb, cases_eq}
use Rattle.std.specs.Cmp.{nat_cmp_total, unsigned_tied}
use Rattle.std.specs.FinMap as finite
use Rattle.std.specs.List.{list_any}
use Rattle.ruby_value.specs.declared.asked.Answer.{Answer}
use Rattle.sequencer.specs.Prelude.{FitCallbacks, after_callbacks}
use Rattle.ruby_value.specs.Prelude.{Requests, request_for, requests_with_answer}

pub after_none : (r : Requests) → after_callbacks [] r ≡ r
unfolding after_callbacks
after_none r = refl

pub fit_none : (r : Requests) → FitCallbacks [] r
unfolding FitCallbacks
fit_none r = tt

pub after-push : (log : List Answer) (a : Answer) (r : Requests) → after_callbacks (log ++ a ∷ []) r ≡ requests_with_answer (after_callbacks log r) a.asked.line a
unfolding after_callbacks
after-push [] a r = refl
after-push (o ∷ log) a r = after-push log a (requests_with_answer r o.asked.line o)

pub fit-push : (log : List Answer) (a : Answer) (r : Requests) → request_for (after_callbacks log r) a.asked.line ≡ Some a.asked → FitCallbacks log r → FitCallbacks (log ++ a ∷ []) r
unfolding after_callbacks FitCallbacks
fit-push [] a r has fit = (has, tt)
fit-push (o ∷ log) a r has fit = (fit.0, fit-push log a (requests_with_answer r o.asked.line o) has fit.1)

turned : (a b : ℕ) → eqb a b ≡ eqb b a
turned a b = elim (cases_eq a b) [
  | inl same ↦ eq-eqb a b same ∙ sym (eq-eqb b a (sym same))
  | inr apart ↦ ne_eqb a b apart ∙ sym (ne_eqb b a (λ same. apart (sym same)))
]

either : {X : Type 0} (a b : Bool) (x : Option X) → cond b None (cond a None x) ≡ cond (a || b) None x
either true true x = refl
either true false x = refl
either false b x = refl

abbrev pub finishes : ℕ → List Answer → Bool
finishes line log = list_any (λ (a : Answer). a.asked.line == line) log

-- a line has its request unless a callback finished it
pub request-after : (log : List Answer) (r : Requests) (line : ℕ) → request_for (after_callbacks log r) line ≡ cond (finishes line log) None (request_for r line)
unfolding after_callbacks
request-after [] r line = refl
request-after (a ∷ log) r line =
    request-after log (requests_with_answer r a.asked.line a) line
    ∙ ap (cond (finishes line log) None) (finite.get-remove nat_cmp_total r.outstanding a.asked.line line ∙ ap (λ b. cond b None (request_for r line)) (unsigned_tied line a.asked.line ∙ turned line a.asked.line))
    ∙ either (eqb a.asked.line line) (finishes line log) (request_for r line)

-- the same of the log that there is afterwards
pub after-pushed : (new log : List Answer) (a : Answer) (r : Requests) → new ≡ log ++ a ∷ [] → after_callbacks new r ≡ requests_with_answer (after_callbacks log r) a.asked.line a
after-pushed new log a r is = ap (λ l. after_callbacks l r) is ∙ after-push log a r

pub fit-pushed : (new log : List Answer) (a : Answer) (r : Requests) → new ≡ log ++ a ∷ [] → request_for (after_callbacks log r) a.asked.line ≡ Some a.asked → FitCallbacks log r → FitCallbacks new r
fit-pushed new log a r is has fit = subst (λ l. FitCallbacks l r) (sym {A = List Answer} is) (fit-push log a r has fit)

pub fit-here : (xs : List Answer) (i : ℕ) (d : Answer) (r : Requests) → i < length xs → FitCallbacks (drop i xs) r → request_for r (get_or xs i d).asked.line ≡ Some (get_or xs i d).asked
unfolding FitCallbacks
fit-here [] i d r lt fit = absurd (omega arith)
fit-here (x ∷ xs) zero d r lt fit = fit.0
fit-here (x ∷ xs) (suc i) d r lt fit = fit-here xs i d r (omega arith) fit

pub fit-rest : (xs : List Answer) (i : ℕ) (d : Answer) (r : Requests) → i < length xs → FitCallbacks (drop i xs) r
    → FitCallbacks (drop (suc i) xs) (requests_with_answer r (get_or xs i d).asked.line (get_or xs i d))
unfolding FitCallbacks
fit-rest [] i d r lt fit = absurd (omega arith)
fit-rest (x ∷ xs) zero d r lt fit = fit.1
fit-rest (x ∷ xs) (suc i) d r lt fit = fit-rest xs i d r (omega arith) fit

pub after-rest : (xs : List Answer) (i : ℕ) (d : Answer) (r : Requests) → i < length xs
    → after_callbacks (drop (suc i) xs) (requests_with_answer r (get_or xs i d).asked.line (get_or xs i d)) ≡ after_callbacks (drop i xs) r
unfolding after_callbacks
after-rest [] i d r lt = absurd (omega arith)
after-rest (x ∷ xs) zero d r lt = refl
after-rest (x ∷ xs) (suc i) d r lt = after-rest xs i d r (omega arith)

pub after-end : (xs : List Answer) (i : ℕ) (r : Requests) → length xs ≤ i → after_callbacks (drop i xs) r ≡ r
unfolding after_callbacks
after-end [] zero r le = refl
after-end [] (suc i) r le = refl
after-end (x ∷ xs) zero r le = absurd (omega arith)
after-end (x ∷ xs) (suc i) r le = after-end xs i r (omega arith)
