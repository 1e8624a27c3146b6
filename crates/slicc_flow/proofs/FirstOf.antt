-- Steps of loops that look for the first broken rule.
use Rattle.std.proofs.Common.{◌≡◌, ◌+◌, ◌<◌, ◌++◌, ◌∷◌, ℕ, zero, suc, Bool, true, false, nat_lt, cond, Option, None, Some, List, [], length, map, get_or, take, drop, drop-cons, add-one, arith, refl, sym, ap, ◌∙◌, subst, append-nil, append_assoc, flat_map}
use Rattle.std.proofs.lemmas.List.{map-append, take_more}
use Rattle.std.proofs.lemmas.Grind.{flat_map-append}
use Rattle.slicc_ast.specs.declared.tree.span.Span.{Span}
use Rattle.slicc_plan.specs.declared.broken.Broken.{Broken}
use Rattle.slicc_plan.specs.declared.broken.Rule.TheVariants.{Changes}
use Rattle.slicc_plan.specs.declared.part.Body.{Body}
use Rattle.slicc_plan.specs.Prelude.{function_size, large_at, size_with, whole_size, circle_at, circles_from, is_reached, first_after, changes_at, reached_changes, reading_calls}
use Rattle.slicc_plan.proofs.Firsts.{first_after-append, first_after-flat_map}
use Rattle.slicc_flow.specs.Prelude.{AreSizes, capped}
use Rattle.slicc_flow.proofs.Caps.{capped_sum}

abbrev pub changes_in : ℕ → List Span → List Broken
changes_in number places = map (λ (place : Span). record { rule = Changes; machine = number; place = place; other = None }) places

pub circles_step : (number : ℕ) (functions : List Body) (k : ℕ) (d : Body) (o p start : Option Broken) (all : List Broken) → k < length functions → first_after start all ≡ first_after o (circles_from number functions k (drop k functions)) → p ≡ first_after o (circle_at number functions k (get_or functions k d)) → first_after start all ≡ first_after p (circles_from number functions (k + 1) (drop (k + 1) functions))
circles_step number functions k d o p start all below is next =
    let split : drop k functions ≡ get_or functions k d ∷ drop (k + 1) functions = rw (add-one) (drop-cons functions k d below) in
    is ∙ ap (λ bs. first_after o (circles_from number functions k bs)) split
    ∙ first_after-append o (circle_at number functions k (get_or functions k d)) (circles_from number functions (k + 1) (drop (k + 1) functions))
    ∙ ap (λ q. first_after q (circles_from number functions (k + 1) (drop (k + 1) functions))) (sym next)

pub reached_step : (number : ℕ) (functions : List Body) (calls : List ℕ) (k : ℕ) (d : Body) (o p start : Option Broken) (all : List Broken) → k < length functions → first_after start all ≡ first_after o (reached_changes number functions calls k (drop k functions)) → p ≡ first_after o (cond (is_reached functions k calls) (changes_at number (get_or functions k d)) []) → first_after start all ≡ first_after p (reached_changes number functions calls (k + 1) (drop (k + 1) functions))
reached_step number functions calls k d o p start all below is next =
    let split : drop k functions ≡ get_or functions k d ∷ drop (k + 1) functions = rw (add-one) (drop-cons functions k d below) in
    is ∙ ap (λ bs. first_after o (reached_changes number functions calls k bs)) split
    ∙ first_after-append o (cond (is_reached functions k calls) (changes_at number (get_or functions k d)) []) (reached_changes number functions calls (k + 1) (drop (k + 1) functions))
    ∙ ap (λ q. first_after q (reached_changes number functions calls (k + 1) (drop (k + 1) functions))) (sym next)

pub changes_step : (number : ℕ) (places : List Span) (i : ℕ) (d : Span) (o p start : Option Broken) → i < length places → o ≡ first_after start (changes_in number (take i places)) → p ≡ first_after o (changes_in number (get_or places i d ∷ [])) → p ≡ first_after start (changes_in number (take (i + 1) places))
changes_step number places i d o p start below is next =
    next ∙ ap (λ q. first_after q (changes_in number (get_or places i d ∷ []))) is
    ∙ sym (first_after-append start (changes_in number (take i places)) (changes_in number (get_or places i d ∷ [])))
    ∙ ap (first_after start) (sym (map-append (λ (place : Span). record { rule = Changes; machine = number; place = place; other = None }) (take i places) (get_or places i d ∷ [])) ∙ ap (changes_in number) (sym (take_more places i d below)))

pub readers_step : (ports : List Body) (asked : List ℕ) (i : ℕ) (d : Body) (old new : List ℕ) → i < length ports → old ≡ reading_calls (take i ports) asked → new ≡ old ++ (get_or ports i d).calls → new ≡ reading_calls (take (i + 1) ports) asked
readers_step ports asked i d old new below is next =
    next ∙ ap (λ xs. xs ++ (get_or ports i d).calls) is
    ∙ append_assoc asked (flat_map (λ (b : Body). b.calls) (take i ports)) (get_or ports i d).calls
    ∙ ap (λ xs. asked ++ xs)
    (ap (λ xs. flat_map (λ (b : Body). b.calls) (take i ports) ++ xs) (sym (append-nil (get_or ports i d).calls))
    ∙ sym (flat_map-append (λ (b : Body). b.calls) (take i ports) (get_or ports i d ∷ [])) ∙ ap (flat_map (λ (b : Body). b.calls)) (sym (take_more ports i d below)))

-- whether a body is too large is seen from its capped size
pub is_large : (functions : List Body) (sizes : List ℕ) (b : Body) (size : ℕ) → AreSizes functions (length functions) sizes → size ≡ capped (size_with (λ c. get_or sizes c 0) b) → nat_lt 100000 (whole_size functions b) ≡ nat_lt 100000 size
is_large functions sizes b size are is =
    let same : size ≡ capped (whole_size functions b) = is ∙ capped_sum (function_size (length functions) functions) (λ c. get_or sizes c 0) b.size b.calls are in
    grind (arith)

pub flat_step : (f : Body → List Broken) (bodies : List Body) (i : ℕ) (d : Body) (o p start : Option Broken) → i < length bodies → o ≡ first_after start (flat_map f (take i bodies)) → p ≡ first_after o (f (get_or bodies i d)) → p ≡ first_after start (flat_map f (take (i + 1) bodies))
flat_step f bodies i d o p start below is next =
    next ∙ ap (λ q. first_after q (f (get_or bodies i d))) is ∙ sym (first_after-flat_map f bodies i d start below)

-- three lists one behind the other
pub first_of_three : (o p q r : Option Broken) (xs bs cs : List Broken) → p ≡ first_after o xs → q ≡ first_after p bs → r ≡ first_after q cs → r ≡ first_after o ((xs ++ bs) ++ cs)
first_of_three o p q r xs bs cs e f g =
    g ∙ ap (λ x. first_after x cs) (f ∙ ap (λ x. first_after x bs) e ∙ sym (first_after-append o xs bs)) ∙ sym (first_after-append o (xs ++ bs) cs)

pub first_of_two : (o p q : Option Broken) (xs bs : List Broken) → p ≡ first_after o xs → q ≡ first_after p bs → q ≡ first_after o (xs ++ bs)
first_of_two o p q xs bs e f = f ∙ ap (λ x. first_after x bs) e ∙ sym (first_after-append o xs bs)
