-- Going through the arguments of a call.
use Rattle.std.proofs.Common.{◌≡◌, ◌<◌, ◌+◌, ◌∙◌, ◌++◌, ◌&&◌, ℕ, true, Option, None, Some, List, [], ◌∷◌, map, take, drop, length, refl, sym, ap, zero, suc, add-one, add-zero, get_or, nat_le, slice_get, append-nil, length-append}
use Rattle.std.proofs.Math.Seq.{take-suc}
use Rattle.std.proofs.lemmas.Grind.{flat_map-append}
use Rattle.std.proofs.lemmas.List.{drop_more, length-map, map-append}
use Rattle.std.proofs.lemmas.Option.{slice_get-map}
use Rattle.std.specs.Option.{option_map}
use Rattle.slicc_ast.specs.declared.tree.span.Span.{Span}
use Rattle.slicc_ast.specs.declared.tree.declaration.Formal.{Formal}
use Rattle.slicc_ast.specs.declared.tree.machine.Machine.{Machine}
use Rattle.slicc_plan.specs.declared.broken.Broken.{Broken}
use Rattle.slicc_plan.specs.declared.broken.Rule.TheVariants.{NotAllowedHere, WrongCount}
use Rattle.slicc_plan.specs.Buffers.{listed}
use Rattle.slicc_plan.specs.CallTypes as call
use Rattle.slicc_plan.specs.Prelude.{broken_in, built_in_call, formal_wanted, states_type, wanted_by, wrong_argument, wrong_arguments, wrong_change, wrong_count, Call, anywhere, permission_reading, BodySort, of_port, of_action, of_function, Environment, is_allowed, unless, earlier_of_both, first_of}
use Rattle.slicc_plan.specs.Meanings as meaning
use Rattle.slicc_plan.proofs.Firsts.{both-assoc_all, both-none, first_of-append}
use Rattle.body_types.specs.declared.meaning.Wanted.{Wanted}
use Rattle.body_types.specs.declared.typed.Given.{Given}
use Rattle.body_types.specs.declared.typed.Typed.{Typed}
use Rattle.body_types.specs.Prelude.{Found, all_given_of, found_of, given_of, typed_of, wanted_of}
use Rattle.call_types.specs.Prelude.{after_arguments, wrong_at}
use Rattle.call_types.proofs.Firsts.{first_of_listed, first_of_listed_append}

pub second_given : (gs : List Given) → slice_get (all_given_of gs) 1 ≡ option_map given_of (slice_get gs 1)
second_given gs = slice_get-map given_of gs 1

-- What is broken in them.

first_of_push : (bs : List Broken) (o : Option Broken) → first_of (bs ++ (listed o ++ [])) ≡ earlier_of_both (first_of bs) o
first_of_push bs o =
    first_of-append bs (listed o ++ []) ∙ ap (earlier_of_both (first_of bs)) (first_of_listed_append o [])

pub broken_in_more : (gs : List Given) (i : ℕ) (d : Given) → i < length gs → first_of (broken_in (all_given_of (take (i + 1) gs))) ≡ earlier_of_both (first_of (broken_in (all_given_of (take i gs)))) (get_or gs i d).typed.broken
broken_in_more gs i d below =
    let taken : take (i + 1) gs ≡ take i gs ++ get_or gs i d ∷ [] = rw (add-one, take-suc gs i d below) refl in
    let mapped : all_given_of (take (i + 1) gs) ≡ all_given_of (take i gs) ++ given_of (get_or gs i d) ∷ [] =
    ap all_given_of taken ∙ map-append given_of (take i gs) (get_or gs i d ∷ []) in
    ap (λ hs. first_of (broken_in hs)) mapped
    ∙ ap first_of (flat_map-append (λ (g : call.Given). g.typed.broken) (all_given_of (take i gs)) (given_of (get_or gs i d) ∷ []))
    ∙ first_of_push (broken_in (all_given_of (take i gs))) (get_or gs i d).typed.broken

-- Each against what is wanted where it is.

drop_front : {X : Type 0} (xs : List X) (i : ℕ) → drop i xs ≡ listed (slice_get xs i) ++ drop (suc i) xs
drop_front [] zero = refl
drop_front [] (suc i) = refl
drop_front (x ∷ xs) zero = refl
drop_front (x ∷ xs) (suc i) = drop_front xs i

drop_past : {X : Type 0} (xs : List X) (i : ℕ) → slice_get xs i ≡ None → drop (suc i) xs ≡ []
drop_past [] i h = refl
drop_past (x ∷ xs) zero h = absurd (cc h)
drop_past (x ∷ xs) (suc i) h = drop_past xs i h

nothing_wanted : (env : Environment) (gs : List call.Given) → wrong_arguments env [] gs ≡ broken_in gs
nothing_wanted env [] = refl
nothing_wanted env (g ∷ gs) = refl

by_front : (env : Environment) (o : Option Wanted) (ws : List Wanted) (g : call.Given) (gs : List call.Given) → (o ≡ None → ws ≡ []) → first_of (wrong_arguments env (map wanted_of (listed o ++ ws)) (g ∷ gs)) ≡ earlier_of_both (first_of (wrong_at env (option_map wanted_of o) g)) (first_of (wrong_arguments env (map wanted_of ws) gs))
by_front env (Some w) ws g gs h =
    first_of-append (wrong_argument env (wanted_of w) g) (wrong_arguments env (map wanted_of ws) gs)
by_front env None ws g gs h =
    rw (h refl, nothing_wanted env gs) (first_of-append g.typed.broken (broken_in gs))

pub wrong_arguments_step : (env : Environment) (ws : List Wanted) (gs : List Given) (i : ℕ) (d : Given) → i < length gs → first_of (wrong_arguments env (map wanted_of (drop i ws)) (all_given_of (drop i gs))) ≡ earlier_of_both (first_of (wrong_at env (option_map wanted_of (slice_get ws i)) (given_of (get_or gs i d)))) (first_of (wrong_arguments env (map wanted_of (drop (i + 1) ws)) (all_given_of (drop (i + 1) gs))))
wrong_arguments_step env ws gs i d below =
    let front : drop i ws ≡ listed (slice_get ws i) ++ drop (i + 1) ws = rw (add-one) (drop_front ws i) in
    let past : slice_get ws i ≡ None → drop (i + 1) ws ≡ [] = λ h. rw (add-one) (drop_past ws i h) in
    ap (λ hs. first_of (wrong_arguments env (map wanted_of (drop i ws)) (all_given_of hs))) (drop_more gs i d below)
    ∙ ap (λ vs. first_of (wrong_arguments env (map wanted_of vs) (all_given_of (get_or gs i d ∷ drop (i + 1) gs)))) front
    ∙ by_front env (slice_get ws i) (drop (i + 1) ws) (given_of (get_or gs i d)) (all_given_of (drop (i + 1) gs)) past

pub wrong_arguments_kept : (env : Environment) (ws : List Wanted) (gs : List Given) (i : ℕ) (d : Given) (first then all : Option Broken) → i < length gs → then ≡ first_of (wrong_at env (option_map wanted_of (slice_get ws i)) (given_of (get_or gs i d))) → earlier_of_both first (first_of (wrong_arguments env (map wanted_of (drop i ws)) (all_given_of (drop i gs)))) ≡ all → earlier_of_both (earlier_of_both first then) (first_of (wrong_arguments env (map wanted_of (drop (i + 1) ws)) (all_given_of (drop (i + 1) gs)))) ≡ all
wrong_arguments_kept env ws gs i d first then all below is kept =
    let rest = first_of (wrong_arguments env (map wanted_of (drop (i + 1) ws)) (all_given_of (drop (i + 1) gs))) in
    both-assoc_all first then rest ∙ ap (λ o. earlier_of_both first (earlier_of_both o rest)) is ∙ ap (earlier_of_both first) (sym (wrong_arguments_step env ws gs i d below)) ∙ kept

-- Their number, and each against what is wanted.

pub counted : (env : Environment) (at : Span) (ws : List Wanted) (least : ℕ) (always perhaps : List meaning.Wanted) (gs : List Given) (first : Option Broken) → least ≡ length always → map wanted_of ws ≡ always ++ perhaps → earlier_of_both (earlier_of_both first (first_of (unless (nat_le least (length gs) && nat_le (length gs) (length ws)) WrongCount at))) (first_of (wrong_arguments env (map wanted_of ws) (all_given_of gs))) ≡ after_arguments env at always perhaps (all_given_of gs) first
counted env at ws least always perhaps gs first h e =
    let most : length ws ≡ length always + length perhaps = sym (length-map ws wanted_of) ∙ ap length e ∙ length-append always perhaps in
    let many : length gs ≡ length (all_given_of gs) = sym (length-map gs given_of) in
    ap (λ n. earlier_of_both (earlier_of_both first (first_of (unless (nat_le n (length gs) && nat_le (length gs) (length ws)) WrongCount at))) (first_of (wrong_arguments env (map wanted_of ws) (all_given_of gs)))) h
    ∙ ap (λ n. earlier_of_both (earlier_of_both first (first_of (unless (nat_le (length always) (length gs) && nat_le (length gs) n) WrongCount at))) (first_of (wrong_arguments env (map wanted_of ws) (all_given_of gs)))) most
    ∙ ap (λ n. earlier_of_both (earlier_of_both first (first_of (unless (nat_le (length always) n && nat_le n (length always + length perhaps)) WrongCount at))) (first_of (wrong_arguments env (map wanted_of ws) (all_given_of gs)))) many
    ∙ ap (λ vs. earlier_of_both (earlier_of_both first (first_of (wrong_count at (length always) (length perhaps) (all_given_of gs)))) (first_of (wrong_arguments env vs (all_given_of gs)))) e

pub counted_all : (env : Environment) (at : Span) (ws0 ws1 ws2 ws : List Wanted) (least : ℕ) (always perhaps : List meaning.Wanted) (gs : List Given) (first r : Option Broken) → ws0 ≡ [] → map wanted_of ws1 ≡ map wanted_of ws0 ++ always → least ≡ length ws1 → map wanted_of ws2 ≡ map wanted_of ws1 ++ perhaps → ws ≡ ws2 → r ≡ earlier_of_both (earlier_of_both first (first_of (unless (nat_le least (length gs) && nat_le (length gs) (length ws)) WrongCount at))) (first_of (wrong_arguments env (map wanted_of ws) (all_given_of gs))) → r ≡ after_arguments env at always perhaps (all_given_of gs) first
counted_all env at ws0 ws1 ws2 ws least always perhaps gs first r none front few back same is =
    let one : map wanted_of ws1 ≡ always = front ∙ ap (λ vs. map wanted_of vs ++ always) none in
    let two : map wanted_of ws ≡ always ++ perhaps = ap (map wanted_of) same ∙ back ∙ ap (λ vs. vs ++ perhaps) one in
    is ∙ counted env at ws least always perhaps gs first (few ∙ sym (length-map ws1 wanted_of) ∙ ap length one) two

pub counted_formals : (env : Environment) (at : Span) (ws0 ws1 ws : List Wanted) (least : ℕ) (fs : List Formal) (gs : List Given) (r : Option Broken) → ws0 ≡ [] → map wanted_of ws1 ≡ map wanted_of ws0 ++ map (formal_wanted env) fs → least ≡ length ws1 → ws ≡ ws1 → r ≡ earlier_of_both (earlier_of_both None (first_of (unless (nat_le least (length gs) && nat_le (length gs) (length ws)) WrongCount at))) (first_of (wrong_arguments env (map wanted_of ws) (all_given_of gs))) → r ≡ first_of (wrong_count at (length fs) 0 (all_given_of gs) ++ wrong_arguments env (map (formal_wanted env) fs) (all_given_of gs))
counted_formals env at ws0 ws1 ws least fs gs r none front few same is =
    let formals = map (formal_wanted env) fs in
    let cs = wrong_count at (length fs) 0 (all_given_of gs) in
    let args = wrong_arguments env formals (all_given_of gs) in
    counted_all env at ws0 ws1 ws1 ws least formals [] gs None r none front few (sym (append-nil (map wanted_of ws1))) same is
    ∙ ap (λ n. earlier_of_both (earlier_of_both None (first_of (wrong_count at n 0 (all_given_of gs)))) (first_of (wrong_arguments env (formals ++ []) (all_given_of gs)))) (length-map fs (formal_wanted env))
    ∙ ap (λ vs. earlier_of_both (earlier_of_both None (first_of cs)) (first_of (wrong_arguments env vs (all_given_of gs)))) (append-nil formals)
    ∙ ap (λ o. earlier_of_both o (first_of args)) (both-none (first_of cs))
    ∙ sym (first_of-append cs args)

-- Built-in calls.

allowed_anywhere : (b : BodySort) → is_allowed b anywhere ≡ true
allowed_anywhere of_port = refl
allowed_anywhere of_action = refl
allowed_anywhere of_function = refl

pub found_plain : (t : call.Typed) (m n : meaning.Meaning) (o : Option Broken) (bs : List Broken) → t ≡ call.plain m (listed o) → m ≡ n → o ≡ first_of bs → found_of t ≡ found_of (call.plain n bs)
found_plain t m n o bs e same first =
    let of_first : Option Broken → Found = λ p. record { meaning = m; written = call.no_place; first = p } in
    let of_meaning : meaning.Meaning → Found = λ k. record { meaning = k; written = call.no_place; first = first_of bs } in
    ap found_of e ∙ ap of_first (first_of_listed o ∙ first) ∙ ap of_meaning same

expanded : (o : Option Broken) (us cs args hs : List Broken) → first_of ((((listed o ++ us) ++ cs) ++ args) ++ hs) ≡ earlier_of_both (earlier_of_both (earlier_of_both (earlier_of_both o (first_of us)) (first_of cs)) (first_of args)) (first_of hs)
expanded o us cs args hs =
    first_of-append (((listed o ++ us) ++ cs) ++ args) hs
    ∙ ap (λ x. earlier_of_both x (first_of hs)) (first_of-append ((listed o ++ us) ++ cs) args
    ∙ ap (λ x. earlier_of_both x (first_of args)) (first_of-append (listed o ++ us) cs
    ∙ ap (λ x. earlier_of_both x (first_of cs)) (first_of_listed_append o us)))

pub first_of_call : (env : Environment) (at : Span) (t : Typed) (c : Call) (gs : List call.Given) (allowed f g h r : Option Broken) → allowed ≡ first_of (unless (is_allowed env.body c.allowed) NotAllowedHere at) → f ≡ earlier_of_both t.broken allowed → g ≡ after_arguments env at (wanted_by env.machine c.receiver c.always) (wanted_by env.machine c.receiver c.perhaps) gs f → h ≡ first_of (wrong_change c.change at (typed_of t) gs) → r ≡ earlier_of_both g h → r ≡ first_of (built_in_call env at (typed_of t) c gs).broken
first_of_call env at t c gs allowed f g h r is_a is_f is_g is_h is_r =
    let always = wanted_by env.machine c.receiver c.always in
    let perhaps = wanted_by env.machine c.receiver c.perhaps in
    let us = unless (is_allowed env.body c.allowed) NotAllowedHere at in
    let cs = wrong_count at (length always) (length perhaps) gs in
    let args = wrong_arguments env (always ++ perhaps) gs in
    let hs = wrong_change c.change at (typed_of t) gs in
    is_r ∙ ap (λ x. earlier_of_both x h) (is_g ∙ ap (λ x. earlier_of_both (earlier_of_both x (first_of cs)) (first_of args)) (is_f ∙ ap (earlier_of_both t.broken) is_a))
    ∙ ap (λ x. earlier_of_both (earlier_of_both (earlier_of_both (earlier_of_both t.broken (first_of us)) (first_of cs)) (first_of args)) x) is_h
    ∙ sym (expanded t.broken us cs args hs)

pub first_of_permission : (env : Environment) (at : Span) (m : Machine) (ws : List Wanted) (gs : List Given) (r : Option Broken) → map wanted_of ws ≡ meaning.one_of (states_type m) ∷ [] → r ≡ earlier_of_both (earlier_of_both None (first_of (unless (nat_le 1 (length gs) && nat_le (length gs) (length ws)) WrongCount at))) (first_of (wrong_arguments env (map wanted_of ws) (all_given_of gs))) → r ≡ first_of (built_in_call env at (call.plain meaning.nothing []) (permission_reading m) (all_given_of gs)).broken
first_of_permission env at m ws gs r one is =
    let always = meaning.one_of (states_type m) ∷ [] in
    let cs = wrong_count at 1 0 (all_given_of gs) in
    let args = wrong_arguments env always (all_given_of gs) in
    let us = unless (is_allowed env.body anywhere) NotAllowedHere at in
    let none : us ≡ [] = ap (λ b. unless b NotAllowedHere at) (allowed_anywhere env.body) in
    is ∙ counted env at ws 1 always [] gs None refl one
    ∙ sym (expanded None us cs args [] ∙ ap (λ vs. earlier_of_both (earlier_of_both (earlier_of_both None (first_of vs)) (first_of cs)) (first_of args)) none)
