-- The requests that a sequencer keeps are such as it may have.
use Rattle.std.proofs.Common.{◌≡◌, ℕ, Bool, true, false, cond, eqb, List, [], ◌∷◌, map, Option, Some, IfSome, refl, sym, subst, inl, inr}
use Rattle.std.proofs.lemmas.Bool.{ne_eqb, cases_eq}
use Rattle.std.proofs.lemmas.List.Elements.{All-head, All-tail}
use Rattle.std.specs.List.{All}
use Rattle.std.specs.Map.{lookup}
use Rattle.std.specs.FinMap as finite
use Rattle.ruby_value.specs.declared.asked.Asked.{Asked}
use Rattle.ruby_value.proofs.Entries.{get_entries}
use Rattle.sequencer.specs.Prelude.{entry_of, outstanding_of}
use Rattle.ruby_value.specs.Prelude.{IsRequest}

abbrev FitsAt : ℕ → Asked → Type 0
FitsAt line a = (a.line ≡ line) × IsRequest a

same-line : (a b : ℕ) → eqb a b ≡ true → a ≡ b
same-line a b is = elim (cases_eq a b) [
  | inl same ↦ same
  | inr differ ↦ absurd (cc (ne_eqb a b differ, is))
]

by-line : (x : Asked) (rest : Option Asked) (line : ℕ) (b : Bool) → eqb line x.line ≡ b → IsRequest x → IfSome rest (FitsAt line) → IfSome (cond b (Some x) rest) (FitsAt line)
by-line x rest line true is fit others = (sym (same-line line x.line is), fit)
by-line x rest line false is fit others = others

looked-up : (xs : List Asked) (line : ℕ) → All IsRequest xs → IfSome (lookup (eqb line) (map entry_of xs)) (FitsAt line)
looked-up [] line all = tt
looked-up (x ∷ xs) line all =
    by-line x (lookup (eqb line) (map entry_of xs)) line (eqb line x.line) refl (All-head IsRequest x xs all) (looked-up xs line (All-tail IsRequest x xs all))

pub fits-own : (xs : List Asked) (line : ℕ) → All IsRequest xs → IfSome (finite.get (outstanding_of xs) line) (FitsAt line)
fits-own xs line all = subst (λ (o : Option Asked). IfSome o (FitsAt line)) (sym (get_entries (map entry_of xs) line)) (looked-up xs line all)
