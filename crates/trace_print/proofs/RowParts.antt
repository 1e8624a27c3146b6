-- What the line of a row is made of.
use Rattle.std.proofs.Common.{◌≡◌, ◌==◌, ℕ, false, true≢false, Option, List, [], ◌∷◌, ◌++◌, length, map, refl, ap, ◌∙◌, append_assoc}
use Rattle.ruby_symbols.specs.declared.machine.MachineSymbols.{MachineSymbols}
use Rattle.trace_print.specs.Prelude.{line_of, spaced, action_word, action_words}

pub some_actions : (m : Option MachineSymbols) (actions : List ℕ) → (length actions == 0) ≡ false → action_words m actions ≡ map (action_word m) actions
some_actions m [] some = absurd (true≢false some)
some_actions m (action ∷ actions) some = refl

grouped : (first state event next tail : List ℕ) → (first ++ spaced (state ∷ event ∷ next ∷ [])) ++ tail ≡ first ++ ((32 ∷ state) ++ ((32 ∷ event) ++ ((32 ∷ next) ++ tail)))
grouped first state event next tail = simp append_assoc

whole_line : (first state event next : List ℕ) (words : List (List ℕ))
    → first ++ ((32 ∷ state) ++ ((32 ∷ event) ++ ((32 ∷ next) ++ (spaced words ++ 10 ∷ [])))) ≡ line_of (first ∷ state ∷ event ∷ next ∷ words)
whole_line first state event next words = simp append_assoc

-- the line of four words and others, made in two parts
pub in_two_parts : (first first' state state' event event' next next' : List ℕ) (words words' : List (List ℕ))
    → first ≡ first' → state ≡ state' → event ≡ event' → next ≡ next' → words ≡ words'
    → (first ++ spaced (state ∷ event ∷ next ∷ [])) ++ (spaced words ++ 10 ∷ []) ≡ line_of (first' ∷ state' ∷ event' ∷ next' ∷ words')
in_two_parts first first' state state' event event' next next' words words' a b c d e =
    grouped first state event next (spaced words ++ 10 ∷ [])
    ∙ whole_line first state event next words
    ∙ ap (λ w. line_of (w ∷ state ∷ event ∷ next ∷ words)) a
    ∙ ap (λ w. line_of (first' ∷ w ∷ event ∷ next ∷ words)) b
    ∙ ap (λ w. line_of (first' ∷ state' ∷ w ∷ next ∷ words)) c
    ∙ ap (λ w. line_of (first' ∷ state' ∷ event' ∷ w ∷ words)) d
    ∙ ap (λ ws. line_of (first' ∷ state' ∷ event' ∷ next' ∷ ws)) e
