-- Walks through a list of which each element is judged with those before it, and what is found last.
use Rattle.std.proofs.Common.{IfOk, Ok, Err, ◌≡◌, ℕ, ◌+◌, ◌<◌, Option, List, [], ◌∷◌, ◌++◌, length, map, slice_index_or, take, sym, ap, ◌∙◌, add-one, append-nil, append_assoc}
use Rattle.std.specs.Prelude.{Result}
use Rattle.std.proofs.Math.Seq.{take-suc}
use Rattle.std.proofs.lemmas.List.{map-append}
use Rattle.slicc_plan.specs.declared.broken.Broken.{Broken}
use Rattle.slicc_plan.specs.Prelude.{first_after}
use Rattle.slicc_plan.proofs.Firsts.{first_after-append}
use Rattle.declaration_rules.proofs.Steps.{one_list_before}

pub walk_push : {Y : Type 0} (W : List Y → List Y → List Broken) (told : List Y → Y → List Broken) → ((b : List Y) → W b [] ≡ []) → ((b xs : List Y) (x : Y) → W b (x ∷ xs) ≡ told b x ++ W (b ++ x ∷ []) xs) → (b xs : List Y) (x : Y) → W b (xs ++ x ∷ []) ≡ W b xs ++ told (b ++ xs) x
walk_push W told none more b [] x =
    more b [] x ∙ ap (λ bs. told b x ++ bs) (none (b ++ x ∷ [])) ∙ append-nil (told b x) ∙ ap (λ bs. told bs x) (sym (append-nil b))
    ∙ ap (λ bs. bs ++ told (b ++ []) x) (sym (none b))
walk_push W told none more b (u ∷ xs) x =
    more b (xs ++ x ∷ []) u
    ∙ ap (λ bs. told b u ++ bs) (walk_push W told none more (b ++ u ∷ []) xs x)
    ∙ sym (append_assoc (told b u) (W (b ++ u ∷ []) xs) (told ((b ++ u ∷ []) ++ xs) x))
    ∙ ap (λ us. (told b u ++ W (b ++ u ∷ []) xs) ++ told us x) (append_assoc b (u ∷ []) xs)
    ∙ ap (λ bs. bs ++ told (b ++ (u ∷ xs)) x) (sym (more b xs u))

pub walk_step : {X Y : Type 0} (W : List Y → List Y → List Broken) (told : List Y → Y → List Broken) → ((b : List Y) → W b [] ≡ []) → ((b xs : List Y) (x : Y) → W b (x ∷ xs) ≡ told b x ++ W (b ++ x ∷ []) xs) → (v : X → Y) (k : ℕ) (p : X) (ps : List X) (first before after : Option Broken) → k < length ps → p ≡ slice_index_or ps k p → before ≡ first_after first (W [] (map v (take k ps))) → after ≡ first_after before (told (map v (take k ps)) (v p))
    → after ≡ first_after first (W [] (map v (take (k + 1) ps)))
walk_step W told none more v k p ps first before after below is e g =
    let taken : take (k + 1) ps ≡ take k ps ++ p ∷ [] = rw (add-one, take-suc ps k p below) (ap (λ x. take k ps ++ x ∷ []) (sym is)) in
    g ∙ ap (λ o. first_after o (told (map v (take k ps)) (v p))) e
    ∙ sym (first_after-append first (W [] (map v (take k ps))) (told (map v (take k ps)) (v p)))
    ∙ ap (first_after first) (sym (walk_push W told none more [] (map v (take k ps)) (v p)))
    ∙ ap (λ xs. first_after first (W [] xs)) (sym (ap (map v) taken ∙ map-append v (take k ps) (p ∷ [])))

-- what is found last, if there is memory
pub told_last : {E : Type 0} (r : Result (Option Broken) E) (o p : Option Broken) (bs cs : List Broken) → p ≡ first_after o bs → IfOk r (λ f. f ≡ first_after p cs) → IfOk r (λ f. f ≡ first_after o (bs ++ cs))
told_last (Ok f) o p bs cs h g = one_list_before o p f bs cs h g
told_last (Err e) o p bs cs h g = tt
