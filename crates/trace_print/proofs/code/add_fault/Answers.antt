use Rattle.std.proofs.Common.{◌≡◌, ℕ, List, [], ◌∷◌, codes, refl, ap, sym, subst, ◌∙◌}
use Rattle.ruby_value.specs.declared.fault.Fault.{Fault}
use Rattle.ruby_value.specs.declared.fault.Fault.TheVariants as fault
use Rattle.trace_print.specs.Prelude.{IsAdded, fault_word, fault_words, spaced}
use Rattle.trace_print.proofs.code.add_fault.Goals as goal

one_word : (f : Fault) → ((given : List ℕ) → f ≡ fault.Error given → ⊥) → fault_words f ≡ fault_word f ∷ []
one_word (fault.Error given) other = absurd (other given refl)
one_word f other = refl

pub returns-in_default : goal.returns-in_default
returns-in_default g c =
    let P : List (List ℕ) → Type 0 = λ words. IsAdded g.S.Sink.writes c.args.sink.now c.args.line.now.items (spaced words) c.add_words.result c.add_words.new.sink c.add_words.new.line.items in
    subst P (ap (λ (w : List ℕ). w ∷ []) c.fault_word.ensures ∙ sym (one_word c.args.fault.now c.in_default.not-Error)) c.add_words.ensures

pub returns : goal.returns
returns g c =
    let P : List (List ℕ) → Type 0 = λ words. IsAdded g.S.Sink.writes c.args.sink.now c.args.line.now.items (spaced words) c.add_words-2.result c.add_words-2.new.sink c.add_words-2.new.line.items in
    let word = c.fault_word.ensures ∙ ap fault_word c.in-Error.is in
    rw c.in-Error.is
    (subst P (ap (λ (w : List ℕ). w ∷ c.as_slice.result.now ∷ []) word ∙ ap (λ (w : List ℕ). codes "error" ∷ w ∷ []) c.as_slice.ensures) c.add_words-2.ensures)
