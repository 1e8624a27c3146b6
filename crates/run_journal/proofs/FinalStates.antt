-- Lists of final states: those that an ordered map's entries give, and that two of one journal are equal.
use Rattle.std.proofs.Common.{◌≡◌, ℕ, suc, ◌<◌, ◌⊎◌, List, [], ◌∷◌, map, refl, sym, ap, subst, ◌∙◌, inl, inr, arith, AllPairs, Contains, All, Result, Ok, Err, IfOk}
use Rattle.std.specs.declared.cmp.Ordering.{Ordering}
use Rattle.std.specs.declared.cmp.Ordering.TheVariants.{Less, Equal, Greater}
use Rattle.std.specs.Ordering.{nat_cmp, ordering_then}
use Rattle.std.specs.Cmp.{IsTotalOrder, on_total, then_total, nat_cmp_total, ranked, eq_by_cmp_equiv}
use Rattle.std.specs.List.Sorted.{IsStrictlySortedBy}
use Rattle.std.specs.Map.{keys_of, lookup}
use Rattle.std.specs.BTreeMap.{is_at}
use Rattle.std.proofs.lemmas.List.Kept.{AllPairs-cons}
use Rattle.std.proofs.lemmas.List.Elements.{All-cons, All-contains, All-nil, Contains-append_right}
use Rattle.std.proofs.Math.ListN.{get_or-map}
use Rattle.std.proofs.lemmas.List.{length-map}
use Rattle.std.proofs.lemmas.Map.Lookups.{CmpEqualImpliesEq, exact_pairs, exact_unsigned}
use Rattle.std.proofs.lemmas.Map.Views.{All-after_first, lookup-from_Contains, Contains-from_lookup, tells_apart}
use Rattle.std.proofs.lemmas.Map.Keys.{sorted_tail, IsDistinct-from_sorted}
use Rattle.ruby_value.proofs.Contained.{Contains-cons_cases}
use Rattle.ruby_value.proofs.Ordered.{AllPairs-head, AllPairs-nil, AllPairs-tail}
use Rattle.run_journal.specs.declared.entry.Entry.{Entry}
use Rattle.run_journal.specs.declared.summary.Final.{Final}
use Rattle.run_journal.specs.Prelude.{AreFinals, IsBefore, last_state}
use Rattle.run_journal.proofs.LastStates.{place_cmp}

pub place_total : IsTotalOrder place_cmp
place_total = then_total (on_total (λ (p : ℕ × ℕ). p.0) nat_cmp_total) (on_total (λ (p : ℕ × ℕ). p.1) nat_cmp_total)

place_exact : CmpEqualImpliesEq place_cmp
place_exact = exact_pairs nat_cmp nat_cmp exact_unsigned exact_unsigned

abbrev pub final_at : (ℕ × ℕ) × ℕ → Final
final_at e = record { controller = e.0.0; address = e.0.1; state = e.1 }

abbrev pub entry_at : Final → (ℕ × ℕ) × ℕ
entry_at f = ((f.controller, f.address), f.state)

-- what an answer of `cmp` says of two places
less_is_before : (c a k b : ℕ) (r s : Ordering) → r ≡ nat_cmp c k → s ≡ nat_cmp a b → ordering_then r s ≡ Less → (c < k) ⊎ ((c ≡ k) × (a < b))
less_is_before c a k b Less s p q e = inl (ranked c k Less p)
less_is_before c a k b Equal s p q e = inr (ranked c k Equal p, ranked a b Less (sym e ∙ q))
less_is_before c a k b Greater s p q e = cc

before_all : (p : ℕ × ℕ) (s : ℕ) (es : List ((ℕ × ℕ) × ℕ)) → All (λ q. place_cmp p q ≡ Less) (keys_of es) → All (IsBefore (final_at (p, s))) (map final_at es)
before_all p s [] h = All-nil _
before_all p s (e ∷ es) h =
    All-cons (IsBefore (final_at (p, s))) (final_at e) (map final_at es) (less_is_before p.0 p.1 e.0.0 e.0.1 _ _ refl refl (h 0 p (omega arith)))
    (before_all p s es (λ i d l. h (suc i) d (omega arith)))

ascending : (es : List ((ℕ × ℕ) × ℕ)) → IsStrictlySortedBy place_cmp (keys_of es) → AllPairs IsBefore (map final_at es)
ascending [] s = AllPairs-nil IsBefore
ascending (e ∷ es) s =
    AllPairs-cons IsBefore (final_at e) (map final_at es) (before_all e.0 e.1 es (All-after_first place_cmp e.0 (keys_of es) s))
    (ascending es (sorted_tail place_cmp _ _ s))

has_entry : (es : List ((ℕ × ℕ) × ℕ)) (f : Final) → Contains (map final_at es) f → Contains es (entry_at f)
has_entry es f has =
    (has.0, subst (λ n. has.0 < n) (length-map es final_at) has.1, ap entry_at (sym (get_or-map final_at es has.0 (entry_at f)) ∙ has.2))

has_final : (es : List ((ℕ × ℕ) × ℕ)) (f : Final) → Contains es (entry_at f) → Contains (map final_at es) f
has_final es f has =
    (has.0, subst (λ n. has.0 < n) (sym (length-map es final_at)) has.1, get_or-map final_at es has.0 (entry_at f) ∙ ap final_at has.2)

-- entries in the order of their places, which answer the last states
pub finals_of_entries : (journal : List Entry) (es : List ((ℕ × ℕ) × ℕ)) → IsStrictlySortedBy place_cmp (keys_of es) → ((c a : ℕ) → lookup (is_at (place_cmp (c, a))) es ≡ last_state journal c a) → AreFinals journal (map final_at es)
finals_of_entries journal es s is =
    record {
      ascending = ascending es s;
      exactly = λ f. (
        λ has. sym (is f.controller f.address) ∙ lookup-from_Contains (eq_by_cmp_equiv place_total) (f.controller, f.address) f.state es (IsDistinct-from_sorted place_cmp (keys_of es) s) (has_entry es f has),
        λ left. has_final es f (Contains-from_lookup (tells_apart place_exact) (f.controller, f.address) f.state es (is f.controller f.address ∙ left)),
      );
    }

pub if_listed : {E : Type 0} (journal : List Entry) (r : Result (List Final) E) (all : List Final) → IfOk r (λ some. some ≡ all) → AreFinals journal all → IfOk r (AreFinals journal)
if_listed journal (Ok some) all is has = subst (AreFinals journal) (sym is) has
if_listed journal (Err e) all is has = tt

-- ---- one list at most

not_both : (a b : Final) → IsBefore a b → IsBefore b a → ⊥
not_both a b (inl h) (inl k) = omega arith
not_both a b (inl h) (inr k) = omega arith
not_both a b (inr h) (inl k) = omega arith
not_both a b (inr h) (inr k) = omega arith

before_rest : (x : Final) (xs : List Final) → AllPairs IsBefore (x ∷ xs) → (f : Final) → Contains xs f → IsBefore x f
before_rest x xs p f = All-contains (IsBefore x) xs f (AllPairs-head IsBefore x xs p)

same_head : (x y : Final) (xs ys : List Final) → AllPairs IsBefore (x ∷ xs) → AllPairs IsBefore (y ∷ ys) → (x ≡ y) ⊎ Contains xs y → (y ≡ x) ⊎ Contains ys x → x ≡ y
same_head x y xs ys p q (inl e) k = e
same_head x y xs ys p q (inr h) (inl e) = sym e
same_head x y xs ys p q (inr h) (inr k) = absurd (not_both x y (before_rest x xs p y h) (before_rest y ys q x k))

in_rest : (x y f : Final) (xs ys : List Final) → AllPairs IsBefore (x ∷ xs) → x ≡ y → Contains xs f → (y ≡ f) ⊎ Contains ys f → Contains ys f
in_rest x y f xs ys p e has (inl k) = let b : IsBefore x x = subst (IsBefore x) (sym (e ∙ k)) (before_rest x xs p f has) in absurd (not_both x x b b)
in_rest x y f xs ys p e has (inr k) = k

same_lists : (xs ys : List Final) → AllPairs IsBefore xs → AllPairs IsBefore ys → ((f : Final) → Contains xs f → Contains ys f) → ((f : Final) → Contains ys f → Contains xs f) → xs ≡ ys
same_lists [] [] p q to from = refl
same_lists [] (y ∷ ys) p q to from = absurd (omega (arith, (from y (0, omega arith, refl)).1))
same_lists (x ∷ xs) [] p q to from = absurd (omega (arith, (to x (0, omega arith, refl)).1))
same_lists (x ∷ xs) (y ∷ ys) p q to from =
    let e : x ≡ y = same_head x y xs ys p q (Contains-cons_cases x y xs (from y (0, omega arith, refl))) (Contains-cons_cases y x ys (to x (0, omega arith, refl))) in
    let rest : xs ≡ ys =
    same_lists xs ys (AllPairs-tail IsBefore x xs p) (AllPairs-tail IsBefore y ys q)
    (λ f has. in_rest x y f xs ys p e has (Contains-cons_cases y f ys (to f (Contains-append_right (x ∷ []) xs f has))))
    (λ f has. in_rest y x f ys xs q (sym e) has (Contains-cons_cases x f xs (from f (Contains-append_right (y ∷ []) ys f has)))) in
    λ i. e i ∷ rest i

pub same_finals : (journal : List Entry) (a b : List Final) → AreFinals journal a → AreFinals journal b → a ≡ b
same_finals journal a b p q =
    same_lists a b p.ascending q.ascending (λ f has. (q.exactly f).1 ((p.exactly f).0 has)) (λ f has. (p.exactly f).1 ((q.exactly f).0 has))
