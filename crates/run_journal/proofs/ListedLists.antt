-- Lists that stand one after another in one column: how many there are, the one at a place, and one more at the end.
use Rattle.std.proofs.Common.{◌≡◌, ◌<◌, ◌≤◌, ◌+◌, ◌-◌, ℕ, zero, suc, List, [], ◌∷◌, ◌++◌, length, get_or, take, drop, refl, sym, ap, ◌∙◌, subst, arith, length-append}
use Rattle.std.proofs.lemmas.List.{take_all, length-drop, drop-append-le, take-append-le}
use Rattle.std.proofs.Math.Seq.{drop-append_seam}
use Rattle.run_journal.specs.Listed.{AreEnds, lists_between, start_of}

pub length-between : {X : Type 0} (from : ℕ) (ends : List ℕ) (items : List X) → length (lists_between from ends items) ≡ length ends
length-between from [] items = refl
length-between from (end ∷ ends) items = ap suc (length-between end ends items)

pub at-between : {X : Type 0} (from : ℕ) (ends : List ℕ) (items : List X) (k : ℕ) → k < length ends
    → get_or (lists_between from ends items) k [] ≡ take (get_or ends k 0 - start_of from ends k) (drop (start_of from ends k) items)
at-between from [] items k l = absurd (omega arith)
at-between from (end ∷ ends) items zero l = refl
at-between from (end ∷ ends) items (suc zero) l = at-between end ends items 0 (omega arith)
at-between from (end ∷ ends) items (suc (suc k)) l = at-between end ends items (suc k) (omega arith)

ends-below : (from : ℕ) (ends : List ℕ) (all : ℕ) → AreEnds from ends all → from ≤ all
ends-below from [] all are = omega (arith, are)
ends-below from (end ∷ ends) all are = let more : end ≤ all = ends-below end ends all are.1 in let here : from ≤ end = are.0 in omega arith

pub starts-below : (from : ℕ) (ends : List ℕ) (all k : ℕ) → AreEnds from ends all → k < length ends → start_of from ends k ≤ get_or ends k 0
starts-below from [] all k are l = absurd (omega arith)
starts-below from (end ∷ ends) all zero are l = are.0
starts-below from (end ∷ ends) all (suc zero) are l = starts-below end ends all 0 are.1 (omega arith)
starts-below from (end ∷ ends) all (suc (suc k)) are l = starts-below end ends all (suc k) are.1 (omega arith)

pub end-within : (from : ℕ) (ends : List ℕ) (all k : ℕ) → AreEnds from ends all → k < length ends → get_or ends k 0 ≤ all
end-within from [] all k are l = absurd (omega arith)
end-within from (end ∷ ends) all zero are l = ends-below end ends all are.1
end-within from (end ∷ ends) all (suc k) are l = end-within end ends all k are.1 (omega arith)

pub ends-more : (from : ℕ) (ends : List ℕ) (all more : ℕ) → AreEnds from ends all → AreEnds from (ends ++ (all + more) ∷ []) (all + more)
ends-more from [] all more are = (omega (arith, are), refl)
ends-more from (end ∷ ends) all more are = (are.0, ends-more end ends all more are.1)

last-list : {X : Type 0} (from : ℕ) (items more : List X) → from ≡ length items → take ((length items + length more) - from) (drop from (items ++ more)) ≡ more
last-list from items more is =
    ap (λ n. take ((length items + length more) - n) (drop n (items ++ more))) is
    ∙ ap (λ xs. take ((length items + length more) - length items) xs) (drop-append_seam items more)
    ∙ take_all ((length items + length more) - length items) more (omega arith)

same-list : {X : Type 0} (from end : ℕ) (items more : List X) → from ≤ end → end ≤ length items → take (end - from) (drop from (items ++ more)) ≡ take (end - from) (drop from items)
same-list from end items more h k =
    let few : length (drop from items) ≡ length items - from = length-drop from items in
    ap (λ xs. take (end - from) xs) (drop-append-le from items more (omega arith))
    ∙ take-append-le (end - from) (drop from items) more (omega arith)

pub lists-more : {X : Type 0} (from : ℕ) (ends : List ℕ) (items more : List X) → AreEnds from ends (length items)
    → lists_between from (ends ++ (length items + length more) ∷ []) (items ++ more) ≡ lists_between from ends items ++ more ∷ []
lists-more from [] items more are = ap (λ xs. xs ∷ []) (last-list from items more are)
lists-more from (end ∷ ends) items more are =
    let first : take (end - from) (drop from (items ++ more)) ≡ take (end - from) (drop from items)
    = same-list from end items more are.0 (ends-below end ends (length items) are.1) in
    let rest : lists_between end (ends ++ (length items + length more) ∷ []) (items ++ more) ≡ lists_between end ends items ++ more ∷ []
    = lists-more end ends items more are.1 in
    cc

-- a list is put at the end of a column, and then its end
module _ {X : Type 0} (ends after_ends : List ℕ) (items more after : List X) (end : ℕ) (are : AreEnds 0 ends (length items)) (items_are : after ≡ items ++ more) (end_is : end ≡ length after) (ends_are : after_ends ≡ ends ++ end ∷ []) where
  end-sum : end ≡ length items + length more
  end-sum = end_is ∙ ap (λ xs. length xs) items_are ∙ length-append items more

  pub pushed-ends : AreEnds 0 after_ends (length after)
  pushed-ends =
      subst (λ all. AreEnds 0 after_ends all) (sym end-sum ∙ end_is)
      (subst (λ xs. AreEnds 0 xs (length items + length more)) (sym (ends_are ∙ ap (λ e. ends ++ e ∷ []) end-sum)) (ends-more 0 ends (length items) (length more) are))

  pub pushed-lists : lists_between 0 after_ends after ≡ lists_between 0 ends items ++ more ∷ []
  pushed-lists =
      ap (λ xs. lists_between 0 after_ends xs) items_are
      ∙ ap (λ xs. lists_between 0 xs (items ++ more)) (ends_are ∙ ap (λ e. ends ++ e ∷ []) end-sum)
      ∙ lists-more 0 ends items more are

-- the list at a place, as its ends are read
module _ {X : Type 0} (ends : List ℕ) (items : List X) (lists : List (List X)) (k from to : ℕ) (are : AreEnds 0 ends (length items)) (lists_are : lists_between 0 ends items ≡ lists) (k_in : k < length lists) (from_is : from ≡ start_of 0 ends k) (to_is : get_or ends k 0 ≡ to) where
  pub k-ends : k < length ends
  k-ends = let count : length (lists_between 0 ends items) ≡ length ends = length-between 0 ends items in let same : length (lists_between 0 ends items) ≡ length lists = ap (λ xs. length xs) lists_are in omega arith

  pub from-to : from ≤ to
  from-to = let h : start_of 0 ends k ≤ get_or ends k 0 = starts-below 0 ends (length items) k are k-ends in omega arith

  pub to-within : to ≤ length items
  to-within = let h : get_or ends k 0 ≤ length items = end-within 0 ends (length items) k are k-ends in omega arith

  pub list-there : take (to - from) (drop from items) ≡ get_or lists k []
  list-there =
      ap (λ n. take (to - n) (drop n items)) from_is
      ∙ ap (λ n. take (n - start_of 0 ends k) (drop (start_of 0 ends k) items)) (sym to_is)
      ∙ sym (at-between 0 ends items k k-ends)
      ∙ ap (λ xs. get_or xs k []) lists_are
