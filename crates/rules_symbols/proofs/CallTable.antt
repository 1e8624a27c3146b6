-- The table of built-in calls beside that of operations, row by row.
use Rattle.std.proofs.Common.{◌≡◌, ◌∙◌, ◌+◌, ◌≤◌, ℕ, zero, suc, false, not, Option, Some, List, [], ◌∷◌, filter, length, map, slice_get, refl, sym, ap, arith, option_and_then}
use Rattle.action_code.specs.declared.operations.Operation.{Operation}
use Rattle.action_code.specs.Operations.{operations}
use Rattle.slicc_plan.specs.BuiltInCalls.{Argument, Call, calls}
use Rattle.slicc_plan.proofs.There.{There, there_filtered}
use Rattle.rules_symbols.specs.CallRows.{is_other_work, number_of_call, operation_of}

-- one for each count of arguments, the least count first
abbrev found_rows : (more : ℕ) → List Argument → Call → List (Option Operation)
found_rows more [] c = option_and_then (slice_get operations) (number_of_call c more) ∷ []
found_rows more (a ∷ others) c = option_and_then (slice_get operations) (number_of_call c more) ∷ found_rows (more + 1) others c

abbrev right_rows : (more : ℕ) → List Argument → Call → List (Option Operation)
right_rows more [] c = Some (operation_of c more) ∷ []
right_rows more (a ∷ others) c = Some (operation_of c more) ∷ right_rows (more + 1) others c

abbrev served_calls : List Call
served_calls = filter (λ (c : Call). not (is_other_work c)) calls

all_rows : map (λ (c : Call). found_rows 0 c.perhaps c) served_calls ≡ map (λ (c : Call). right_rows 0 c.perhaps c) served_calls
unfolding operations
all_rows = refl

same_at : {X Y : Type 0} (f g : X → Y) (xs : List X) (x : X) → map f xs ≡ map g xs → There xs x → f x ≡ g x
same_at f g [] x same there = absurd (cc there.1)
same_at f g (y ∷ ys) x same (zero, at) =
    let one : y ≡ x = cc at in
    let here : f y ≡ g y = cc same in
    sym (ap f one) ∙ here ∙ ap g one
same_at f g (y ∷ ys) x same (suc k, at) = let rest : map f ys ≡ map g ys = cc same in same_at f g ys x rest (k, at)

one_row : (c : Call) (more extra : ℕ) (others : List Argument) → found_rows more others c ≡ right_rows more others c → extra ≤ length others → option_and_then (slice_get operations) (number_of_call c (more + extra)) ≡ Some (operation_of c (more + extra))
one_row c more zero [] same few =
    let none : more + 0 ≡ more = omega arith in
    let here : option_and_then (slice_get operations) (number_of_call c more) ≡ Some (operation_of c more) = cc same in
    ap (λ n. option_and_then (slice_get operations) (number_of_call c n)) none ∙ here ∙ ap (λ n. Some (operation_of c n)) (sym none)
one_row c more (suc extra) [] same few = absurd (omega (arith, few))
one_row c more zero (a ∷ others) same few =
    let none : more + 0 ≡ more = omega arith in
    let here : option_and_then (slice_get operations) (number_of_call c more) ≡ Some (operation_of c more) = cc same in
    ap (λ n. option_and_then (slice_get operations) (number_of_call c n)) none ∙ here ∙ ap (λ n. Some (operation_of c n)) (sym none)
one_row c more (suc extra) (a ∷ others) same few =
    let rest : found_rows (more + 1) others c ≡ right_rows (more + 1) others c = cc same in
    let next : more + suc extra ≡ more + 1 + extra = omega arith in
    ap (λ n. option_and_then (slice_get operations) (number_of_call c n)) next
    ∙ one_row c (more + 1) extra others rest (omega (arith, few)) ∙ ap (λ n. Some (operation_of c n)) (sym next)

pub call_row : (c : Call) (more : ℕ) → There calls c → is_other_work c ≡ false → more ≤ length c.perhaps → option_and_then (slice_get operations) (number_of_call c more) ≡ Some (operation_of c more)
call_row c more there serves few =
    let here = same_at (λ (d : Call). found_rows 0 d.perhaps d) (λ (d : Call). right_rows 0 d.perhaps d) served_calls c all_rows
    (there_filtered (λ (d : Call). not (is_other_work d)) calls c there (ap not serves)) in
    let none : 0 + more ≡ more = omega arith in
    ap (λ n. option_and_then (slice_get operations) (number_of_call c n)) (sym none)
    ∙ one_row c 0 more c.perhaps here few ∙ ap (λ n. Some (operation_of c n)) none
