-- The order of use in a set of a cache, after a change and after the changes of a log, and which line is the first in it.
use Rattle.std.proofs.Common.{◌≡◌, ◌≢◌, ◌<◌, ◌≤◌, ◌+◌, ◌%◌, ℕ, zero, suc, Bool, true, false, cond, not, ◌&&◌, ◌||◌, eqb, List, [], ◌∷◌, ◌++◌, drop, get_or, length, add-one, reverse, set, Option, None, Some, is_some, IfSome, slice_get, refl, sym, ap, ◌∙◌, inl, inr, arith}
use mathlib.Core.Bool.{true≢false}
use Rattle.std.proofs.Math.Seq.{drop-cons}
use Rattle.std.proofs.lemmas.Bool.{cases_Bool, cases_eq, eq-eqb, eqb-true, ne_eqb}
use Rattle.std.proofs.lemmas.List.{append_assoc, append-nil, drop_all, length-map, map-append, reverse-append}
use Rattle.std.proofs.lemmas.List.Elements.{filter-append}
use Rattle.std.proofs.lemmas.List.Folds.{list_any-append}
use Rattle.std.proofs.lemmas.Option.{get_or_from_slice_get, slice_get-map, slice_get_within}
use Rattle.std.specs.Bool.{nat_le}
use Rattle.std.specs.FinMap as map
use Rattle.std.specs.List.{filter, find, list_any}
use Rattle.std.specs.Option.{option_map, option_to_list}
use Rattle.ruby_value.specs.declared.fault.Fault.TheVariants.{Absent, Full, Present, Reference}
use Rattle.ruby_value.specs.declared.value.Value.{Value}
use Rattle.ruby_value.specs.Prelude.{AreLinesOf, available, Cache, Line, fields_of, made_recent, set_of, with_fields, with_set, without_line}
use Rattle.ruby_value.proofs.CacheSets.{set_lines}
use Rattle.ctl_face.specs.Prelude.{least_used_in, table_with_field, Table, CacheTable, DirectoryTable, TbeTable, ParameterTable}
use Rattle.ctl_face.proofs.Cases.{Good, good_ok, good_err, good_cond}
use Rattle.ctl_tables.specs.declared.change.Edit.{Edit}
use Rattle.ctl_tables.specs.declared.change.Edit.TheVariants as edit
use Rattle.ctl_tables.specs.declared.change.TableChange.{TableChange}
use Rattle.ctl_tables.specs.Prelude.{after_changes, with_change, CanChange, IsTable, Replays, edit_in, kept_in, Frame, frame_at, frame_of, keeps_order, edit_moves, edit_uses, first_used, moves, numbers_of, order_after, order_with, share_set, stays_in, used_by, uses_beside}
use Rattle.ctl_tables.proofs.Sets.{one_set, other_set, same_set}
use Rattle.ctl_tables.proofs.Stays.{kept_or}
use Rattle.ctl_tables.proofs.Steps.{changes_or_stays, frames_after, law_after}

-- filters
all_pass : (p : ℕ → Bool) (xs : List ℕ) → ((x : ℕ) → p x ≡ true) → filter p xs ≡ xs
all_pass p [] pass = refl
all_pass p (x ∷ xs) pass = rw (pass x) (ap (λ ys. x ∷ ys) (all_pass p xs pass))

filter_twice : (a b : ℕ → Bool) (xs : List ℕ) → filter (λ x. not (a x)) (filter (λ x. not (b x)) xs) ≡ filter (λ x. not (a x || b x)) xs
filter_twice a b [] = refl
filter_twice a b (x ∷ xs) = elim (cases_Bool (b x)) [
  | inl out ↦ elim (cases_Bool (a x)) [
    | inl gone ↦ rw (out, gone) (filter_twice a b xs)
    | inr kept ↦ rw (out, kept) (filter_twice a b xs)
  ]
  | inr stays ↦ elim (cases_Bool (a x)) [
    | inl gone ↦ rw (stays, gone) (filter_twice a b xs)
    | inr kept ↦ rw (stays, kept) (ap (λ ys. x ∷ ys) (filter_twice a b xs))
  ]
]

-- the first of those that pass, or of the rest
pub head_is : (p : ℕ → Bool) (xs rest : List ℕ) → slice_get (filter p xs ++ rest) 0 ≡ kept_or (find p xs) (slice_get rest 0)
head_is p [] rest = refl
head_is p (x ∷ xs) rest = elim (cases_Bool (p x)) [
  | inl pass ↦ rw pass refl
  | inr fails ↦ rw fails (head_is p xs rest)
]

reverse_cons : {X : Type 0} (x : X) (xs : List X) → reverse (x ∷ xs) ≡ reverse xs ++ x ∷ []
reverse_cons x xs = reverse-append (x ∷ []) xs

or_swap : (a b : Bool) → (a || (b || false)) ≡ (b || a)
or_swap true true = refl
or_swap true false = refl
or_swap false true = refl
or_swap false false = refl

any_reversed : {X : Type 0} (p : X → Bool) (xs : List X) → list_any p (reverse xs) ≡ list_any p xs
any_reversed p [] = refl
any_reversed p (x ∷ xs) =
    ap (list_any p) (reverse_cons x xs) ∙ list_any-append p (reverse xs) (x ∷ []) ∙ or_swap (list_any p (reverse xs)) (p x) ∙ ap (λ b. p x || b) (any_reversed p xs)

module _ (frame : Option Frame) (n line : ℕ) where
  order_push : (log : List TableChange) (c : TableChange) (order : List ℕ) → order_after frame n line order (log ++ c ∷ []) ≡ order_after frame n line (order_with frame n line c order) log
  unfolding order_after
  order_push [] c order = refl
  order_push (d ∷ log) c order = ap (order_with frame n line d) (order_push log c order)

  -- the lines that stay, as they were, and then those that were used
  order_split : (log : List TableChange) (order : List ℕ) → order_after frame n line order log ≡ filter (stays_in n log) order ++ order_after frame n line [] log
  unfolding order_after
  order_split [] order = sym (append-nil (filter (λ x. true) order) ∙ all_pass (λ x. true) order (λ x. refl))
  order_split (c ∷ older) order =
      let gone : ℕ → Bool = λ x. moves n x c in
      let before : ℕ → Bool = λ x. list_any (moves n x) older in
      let rest = order_after frame n line [] older in
      ap (order_with frame n line c) (order_split older order)
      ∙ ap (λ l. l ++ used_by frame n line c) (filter-append (λ x. not (gone x)) (filter (λ x. not (before x)) order) rest)
      ∙ append_assoc (filter (λ x. not (gone x)) (filter (λ x. not (before x)) order)) (filter (λ x. not (gone x)) rest) (used_by frame n line c)
      ∙ ap (λ l. l ++ (filter (λ x. not (gone x)) rest ++ used_by frame n line c)) (filter_twice gone before order)

  one_head : (p : ℕ → Bool) (x : ℕ) (rest : List ℕ) (used : Bool) → slice_get (filter p (cond used (x ∷ []) []) ++ rest) 0 ≡ cond (used && p x) (Some x) (slice_get rest 0)
  one_head p x rest false = refl
  one_head p x rest true = elim (cases_Bool (p x)) [
    | inl pass ↦ rw pass refl
    | inr fails ↦ rw fails refl
  ]

  none_used : slice_get (order_after frame n line [] []) 0 ≡ None
  unfolding order_after
  none_used = refl

  head_used : (items : List TableChange) → slice_get (order_after frame n line [] (reverse items)) 0 ≡ first_used frame n line items
  head_used [] = none_used
  head_used (c ∷ later) =
      let stays = stays_in n (reverse later) in
      let rest = order_after frame n line [] (reverse later) in
      ap (λ l. slice_get (order_after frame n line [] l) 0) (reverse_cons c later)
      ∙ ap (λ l. slice_get l 0) (order_push (reverse later) c [] ∙ order_split (reverse later) (used_by frame n line c))
      ∙ one_head stays c.line rest (uses_beside frame n line c)
      ∙ ap (λ b. cond (uses_beside frame n line c && not b) (Some c.line) (slice_get rest 0)) (any_reversed (moves n c.line) later)
      ∙ ap (cond (uses_beside frame n line c && stays_in n later c.line) (Some c.line)) (head_used later)

  same_stays : (items : List TableChange) (order : List ℕ) → find (stays_in n (reverse items)) order ≡ find (stays_in n items) order
  same_stays items [] = refl
  same_stays items (x ∷ xs) = rw (any_reversed (moves n x) items) (ap (cond (stays_in n items x) (Some x)) (same_stays items xs))

  pub least_is : (items : List TableChange) (order : List ℕ) → slice_get (order_after frame n line order (reverse items)) 0 ≡ kept_or (find (stays_in n items) order) (first_used frame n line items)
  least_is items order =
      ap (λ l. slice_get l 0) (order_split (reverse items) order) ∙ head_is (stays_in n (reverse items)) order (order_after frame n line [] (reverse items))
      ∙ ap (λ o. kept_or o (slice_get (order_after frame n line [] (reverse items)) 0)) (same_stays items order) ∙ ap (kept_or (find (stays_in n items) order)) (head_used items)

  -- along a log, from its oldest change on
  pub used_here : (items : List TableChange) (i : ℕ) (d : TableChange) → i < length items → first_used frame n line (drop i items) ≡ cond (uses_beside frame n line (get_or items i d) && stays_in n (drop (i + 1) items) (get_or items i d).line) (Some (get_or items i d).line) (first_used frame n line (drop (i + 1) items))
  used_here items i d below = rw add-one (ap (first_used frame n line) (drop-cons items i d below))

  pub none_after : (items : List TableChange) (i : ℕ) → length items ≤ i → first_used frame n line (drop i items) ≡ None
  none_after items i past = ap (first_used frame n line) (drop_all i items past)

-- along the lines of a set
stays_here : (p : ℕ → Bool) (xs : List ℕ) (i x : ℕ) → slice_get xs i ≡ Some x → find p (drop i xs) ≡ cond (p x) (Some x) (find p (drop (i + 1) xs))
stays_here p xs i x is =
    rw add-one (ap (find p) (drop-cons xs i x (slice_get_within xs i x is)) ∙ ap (λ y. cond (p y) (Some y) (find p (drop (suc i) xs))) (get_or_from_slice_get xs i x x is))

none_stays : (p : ℕ → Bool) (xs : List ℕ) (i : ℕ) → length xs ≤ i → find p (drop i xs) ≡ None
none_stays p xs i past = ap (find p) (drop_all i xs past)

past_all : (xs : List ℕ) (i : ℕ) → slice_get xs i ≡ None → length xs ≤ i
past_all [] i is = omega arith
past_all (x ∷ xs) zero is = absurd (cc)
past_all (x ∷ xs) (suc i) is = let rest = past_all xs i is in omega arith

pub found_here : (p : ℕ → Bool) (lines : List Line) (i x : ℕ) → Some x ≡ option_map (λ (l : Line). l.0) (slice_get lines i) → find p (drop i (numbers_of lines)) ≡ cond (p x) (Some x) (find p (drop (i + 1) (numbers_of lines)))
found_here p lines i x is = stays_here p (numbers_of lines) i x (slice_get-map (λ (l : Line). l.0) lines i ∙ sym is)

pub found_none : (p : ℕ → Bool) (lines : List Line) (i : ℕ) → None ≡ option_map (λ (l : Line). l.0) (slice_get lines i) → find p (drop i (numbers_of lines)) ≡ None
found_none p lines i is = none_stays p (numbers_of lines) i (past_all (numbers_of lines) i (slice_get-map (λ (l : Line). l.0) lines i ∙ sym is))

pub found_end : (p : ℕ → Bool) (lines : List Line) (i : ℕ) → length lines ≤ i → find p (drop i (numbers_of lines)) ≡ None
found_end p lines i past = none_stays p (numbers_of lines) i (rw length-map past)

-- the lines of a set, without one that isn't there
other_passes : (m : Bool) (x at : ℕ) → eqb x at ≡ false → not (m && eqb x at) ≡ true
other_passes true x at apart = rw apart refl
other_passes false x at apart = refl

none_head : (x : Line) (rest : List Line) (at : ℕ) → fields_of (x ∷ rest) at ≡ None → (eqb x.0 at ≡ false) × (fields_of rest at ≡ None)
none_head x rest at none = elim (cases_Bool (eqb x.0 at)) [
  | inl here ↦ let wrong : Some x.1 ≡ None = simp here at none in absurd (cc)
  | inr apart ↦ (apart, simp apart at none)
]

none_gone : (m : Bool) (lines : List Line) (at : ℕ) → fields_of lines at ≡ None → filter (λ x. not (m && eqb x at)) (numbers_of lines) ≡ numbers_of lines
none_gone m [] at none = refl
none_gone m (l ∷ rest) at none =
    let parts = none_head l rest at none in
    rw (other_passes m l.0 at parts.0) (ap (λ xs. l.0 ∷ xs) (none_gone m rest at parts.1))

not_in_set : (sets place : ℕ) (lines : List Line) (at : ℕ) → AreLinesOf sets place lines → at % sets ≢ place → fields_of lines at ≡ None
not_in_set sets place [] at own apart = refl
not_in_set sets place (l ∷ rest) at own apart =
    let other : eqb l.0 at ≡ false = ne_eqb l.0 at (λ e. apart (ap (λ k. k % sets) (sym e) ∙ own.0)) in
    rw other (not_in_set sets place rest at own.2 apart)

without_numbers : (sets place : ℕ) (lines : List Line) (at : ℕ) → AreLinesOf sets place lines → numbers_of (without_line lines at) ≡ filter (λ x. not (eqb x at)) (numbers_of lines)
without_numbers sets place [] at own = refl
without_numbers sets place (l ∷ rest) at own = elim (cases_Bool (eqb l.0 at)) [
  | inl here ↦
      let gone : fields_of rest at ≡ None = ap (fields_of rest) (sym (eqb-true l.0 at here)) ∙ own.1 in
      rw here (sym (none_gone true rest at gone))
  | inr apart ↦ rw apart (ap (λ xs. l.0 ∷ xs) (without_numbers sets place rest at own.2))
]

written_numbers : (lines : List Line) (at : ℕ) (f : List Value) → numbers_of (with_fields lines at f) ≡ numbers_of lines
written_numbers [] at f = refl
written_numbers (l ∷ rest) at f = elim (cases_Bool (eqb l.0 at)) [
  | inl here ↦ rw here refl
  | inr apart ↦ rw apart (ap (λ xs. l.0 ∷ xs) (written_numbers rest at f))
]

none_from : {X : Type 0} (o : Option X) → is_some o ≡ false → o ≡ None
none_from None is = refl
none_from (Some x) wrong = absurd (true≢false wrong)

used_numbers : (at : ℕ) (o : Option (List Value)) → is_some o ≡ true → numbers_of (option_to_list (option_map (λ fields. (at, fields)) o)) ≡ at ∷ []
used_numbers at None wrong = absurd (true≢false (sym wrong))
used_numbers at (Some f) there = refl

-- the lines in the set of a line of a cache
abbrev pub numbers_in : Option Table → ℕ → List ℕ
numbers_in None line = []
numbers_in (Some (CacheTable cache)) line = numbers_of (set_of cache line)
numbers_in (Some (DirectoryTable directory)) line = []
numbers_in (Some (TbeTable tbes)) line = []
numbers_in (Some (ParameterTable values)) line = []

-- the order after an edit of a line
abbrev pub order_by : Option Frame → Edit → ℕ → ℕ → List ℕ → List ℕ
order_by frame e at line order = filter (λ x. not (edit_moves e && eqb x at)) order ++ cond (edit_uses e && share_set frame at line) (at ∷ []) []

abbrev pub Orders : Edit → ℕ → ℕ → Table → Table → Type 0
Orders e at line t new = numbers_in (Some new) line ≡ order_by (Some (frame_of t)) e at line (numbers_in (Some t) line)

module _ (at line : ℕ) where
  in_cache : (cache : Cache) → IsTable (CacheTable cache) → (new : List Line) (e : Edit) → numbers_of new ≡ filter (λ x. not (edit_moves e && eqb x at)) (numbers_of (set_of cache at)) ++ cond (edit_uses e) (at ∷ []) [] → Orders e at line (CacheTable cache) (CacheTable (with_set cache at new))
  in_cache cache ok new e is = elim (cases_eq (line % length cache.sets) (at % length cache.sets)) [
    | inl here ↦
        let b : eqb (at % length cache.sets) (line % length cache.sets) ≡ true = eq-eqb (at % length cache.sets) (line % length cache.sets) (sym here) in
        let same : filter (λ x. not (edit_moves e && eqb x at)) (numbers_of (set_of cache at)) ≡ filter (λ x. not (edit_moves e && eqb x at)) (numbers_of (set_of cache line)) =
        ap (λ s. filter (λ x. not (edit_moves e && eqb x at)) (numbers_of s)) (sym (one_set cache at ok new line here)) in
        rw b (rw (and_true (edit_uses e)) (ap numbers_of (same_set cache at ok new line here) ∙ is ∙ ap (λ l. l ++ cond (edit_uses e) (at ∷ []) []) same))
    | inr apart ↦
        let b : eqb (at % length cache.sets) (line % length cache.sets) ≡ false = ne_eqb (at % length cache.sets) (line % length cache.sets) (λ e. apart (sym e)) in
        let own = (set_lines cache line ok.lawful_sets).1 in
        let none = not_in_set (length cache.sets) (line % length cache.sets) (set_of cache line) at own (λ e. apart (sym e)) in
        rw b (rw (and_false (edit_uses e)) (ap numbers_of (other_set cache at ok new line apart) ∙ sym (append-nil (filter (λ x. not (edit_moves e && eqb x at)) (numbers_of (set_of cache line))) ∙ none_gone (edit_moves e) (set_of cache line) at none)))
  ]
    where
      and_true : (u : Bool) → (u && true) ≡ u
      and_true true = refl
      and_true false = refl

      and_false : (u : Bool) → (u && false) ≡ false
      and_false true = refl
      and_false false = refl

  -- as it was
  unmoved : (xs : List ℕ) → xs ≡ filter (λ x. true) xs ++ []
  unmoved xs = sym (append-nil (filter (λ x. true) xs) ∙ all_pass (λ x. true) xs (λ x. refl))

  by_write : (field : ℕ) (value : Value) (t : Table) → IsTable t → (o : Option (List Value)) → kept_in t at ≡ o → Good (Orders (edit.Write field value) at line t) (table_with_field t at field value o)
  by_write field value t ok None is = good_err (Orders (edit.Write field value) at line t) Reference
  by_write field value (CacheTable cache) ok (Some fs) is =
      good_ok (Orders (edit.Write field value) at line (CacheTable cache)) _
      (in_cache cache ok (with_fields (set_of cache at) at (set fs field value)) (edit.Write field value) (written_numbers (set_of cache at) at (set fs field value) ∙ unmoved (numbers_of (set_of cache at))))
  by_write field value (DirectoryTable directory) ok (Some fs) is = good_ok (Orders (edit.Write field value) at line (DirectoryTable directory)) _ refl
  by_write field value (TbeTable tbes) ok (Some fs) is = good_ok (Orders (edit.Write field value) at line (TbeTable tbes)) _ refl
  by_write field value (ParameterTable values) ok (Some fs) is = good_ok (Orders (edit.Write field value) at line (ParameterTable values)) _ refl

  by_fill : (f : List Value) (t : Table) → Good (Orders (edit.Fill f) at line t) (edit_in (edit.Fill f) at t)
  by_fill f (CacheTable cache) = good_err (Orders (edit.Fill f) at line (CacheTable cache)) Reference
  by_fill f (DirectoryTable directory) = good_ok (Orders (edit.Fill f) at line (DirectoryTable directory)) _ refl
  by_fill f (TbeTable tbes) = good_err (Orders (edit.Fill f) at line (TbeTable tbes)) Reference
  by_fill f (ParameterTable values) = good_err (Orders (edit.Fill f) at line (ParameterTable values)) Reference

  added : (lines : List Line) (f : List Value) → is_some (fields_of lines at) ≡ false → numbers_of (lines ++ (at, f) ∷ []) ≡ filter (λ x. not (eqb x at)) (numbers_of lines) ++ at ∷ []
  added lines f absent =
      map-append (λ (l : Line). l.0) lines ((at, f) ∷ []) ∙ ap (λ xs. xs ++ at ∷ []) (sym (none_gone true lines at (none_from (fields_of lines at) absent)))

  by_add : (f : List Value) (t : Table) → IsTable t → Good (Orders (edit.Add f) at line t) (edit_in (edit.Add f) at t)
  by_add f (CacheTable cache) ok =
      let P = Orders (edit.Add f) at line (CacheTable cache) in
      good_cond P (is_some (fields_of (set_of cache at) at)) _ _ (λ _. good_err P Present)
      (λ absent. good_cond P (not (available cache at)) _ _ (λ _. good_err P Full)
      (λ room. good_ok P _ (in_cache cache ok (set_of cache at ++ (at, f) ∷ []) (edit.Add f) (added (set_of cache at) f absent))))
  by_add f (DirectoryTable directory) ok = good_err (Orders (edit.Add f) at line (DirectoryTable directory)) Reference
  by_add f (TbeTable tbes) ok =
      let P = Orders (edit.Add f) at line (TbeTable tbes) in
      good_cond P (map.contains_key tbes.held at) _ _ (λ _. good_err P Present)
      (λ absent. good_cond P (nat_le tbes.entries (map.len tbes.held)) _ _ (λ _. good_err P Full)
      (λ _. good_ok P (TbeTable (record tbes { held = map.insert tbes.held at f })) refl))
  by_add f (ParameterTable values) ok = good_err (Orders (edit.Add f) at line (ParameterTable values)) Reference

  by_remove : (t : Table) → IsTable t → Good (Orders edit.Remove at line t) (edit_in edit.Remove at t)
  by_remove (CacheTable cache) ok =
      let P = Orders edit.Remove at line (CacheTable cache) in
      let own = (set_lines cache at ok.lawful_sets).1 in
      good_cond P (is_some (fields_of (set_of cache at) at)) _ _
      (λ there. good_ok P _ (in_cache cache ok (without_line (set_of cache at) at) edit.Remove (without_numbers _ _ (set_of cache at) at own ∙ sym (append-nil (filter (λ x. not (eqb x at)) (numbers_of (set_of cache at))))))) (λ _. good_err P Absent)
  by_remove (DirectoryTable directory) ok = good_err (Orders edit.Remove at line (DirectoryTable directory)) Reference
  by_remove (TbeTable tbes) ok =
      let P = Orders edit.Remove at line (TbeTable tbes) in
      good_cond P (map.contains_key tbes.held at) _ _
      (λ there. good_ok P (TbeTable (record tbes { held = map.remove tbes.held at })) refl) (λ _. good_err P Absent)
  by_remove (ParameterTable values) ok = good_err (Orders edit.Remove at line (ParameterTable values)) Reference

  recent : (sets place : ℕ) (lines : List Line) → AreLinesOf sets place lines → is_some (fields_of lines at) ≡ true → numbers_of (made_recent lines at) ≡ filter (λ x. not (eqb x at)) (numbers_of lines) ++ at ∷ []
  recent sets place lines own there =
      let last = option_to_list (option_map (λ fields. (at, fields)) (fields_of lines at)) in
      map-append (λ (l : Line). l.0) (without_line lines at) last ∙ ap (λ xs. numbers_of (without_line lines at) ++ xs) (used_numbers at (fields_of lines at) there)
      ∙ ap (λ xs. xs ++ at ∷ []) (without_numbers sets place lines at own)

  by_use : (t : Table) → IsTable t → Good (Orders edit.Use at line t) (edit_in edit.Use at t)
  by_use (CacheTable cache) ok =
      let P = Orders edit.Use at line (CacheTable cache) in
      let own = (set_lines cache at ok.lawful_sets).1 in
      good_cond P (is_some (fields_of (set_of cache at) at)) _ _ (λ there. good_ok P _ (in_cache cache ok (made_recent (set_of cache at) at) edit.Use (recent _ _ (set_of cache at) own there))) (λ _. good_err P Absent)
  by_use (DirectoryTable directory) ok = good_err (Orders edit.Use at line (DirectoryTable directory)) Reference
  by_use (TbeTable tbes) ok = good_err (Orders edit.Use at line (TbeTable tbes)) Reference
  by_use (ParameterTable values) ok = good_err (Orders edit.Use at line (ParameterTable values)) Reference

  order_edited : (e : Edit) (t : Table) → IsTable t → Good (Orders e at line t) (edit_in e at t)
  order_edited (edit.Write field value) t ok = by_write field value t ok (kept_in t at) refl
  order_edited (edit.Fill f) t ok = by_fill f t
  order_edited (edit.Add f) t ok = by_add f t ok
  order_edited edit.Remove t ok = by_remove t ok
  order_edited edit.Use t ok = by_use t ok

module _ (n line : ℕ) where
  order_step : (c : TableChange) (ts : List Table) → CanChange c ts → IfSome (slice_get ts n) IsTable → numbers_in (slice_get (with_change c ts) n) line ≡ order_with (frame_at ts n) n line c (numbers_in (slice_get ts n) line)
  order_step c ts can law =
      changes_or_stays c ts can n law (λ o r. numbers_in r line ≡ order_with (option_map frame_of o) n line c (numbers_in o line))
      (λ here t new ok edited. let b = eq-eqb n c.table here in simp b ((order_edited c.line line c.edit t ok).good new edited))
      (λ apart o. let b = ne_eqb n c.table apart in simp b (sym (append-nil (filter (λ x. true) (numbers_in o line)) ∙ all_pass (λ x. true) (numbers_in o line) (λ x. refl))))

  order_now : (log : List TableChange) (ts : List Table) → Replays log ts → IfSome (slice_get ts n) IsTable → numbers_in (slice_get (after_changes log ts) n) line ≡ order_after (frame_at ts n) n line (numbers_in (slice_get ts n) line) log
  unfolding after_changes Replays order_after
  order_now [] ts replays law = refl
  order_now (c ∷ older) ts replays law =
      let now = after_changes older ts in
      order_step c now replays.0 (law_after n older ts replays.1 law)
      ∙ ap (λ f. order_with f n line c (numbers_in (slice_get now n) line)) (frames_after n older ts replays.1 law)
      ∙ ap (order_with (frame_at ts n) n line c) (order_now older ts replays.1 law)

-- the least recently used line
pub least_of : (o : Option Table) (line : ℕ) → least_used_in o line ≡ slice_get (numbers_in o line) 0
least_of None line = refl
least_of (Some (CacheTable cache)) line = sym (slice_get-map (λ (l : Line). l.0) (set_of cache line) 0)
least_of (Some (DirectoryTable directory)) line = refl
least_of (Some (TbeTable tbes)) line = refl
least_of (Some (ParameterTable values)) line = refl

pub none_least : (o : Option Table) (line : ℕ) → keeps_order (option_map frame_of o) ≡ false → least_used_in o line ≡ None
none_least None line keeps = refl
none_least (Some (CacheTable cache)) line keeps = absurd (true≢false keeps)
none_least (Some (DirectoryTable directory)) line keeps = refl
none_least (Some (TbeTable tbes)) line keeps = refl
none_least (Some (ParameterTable values)) line keeps = refl

pub least_now : (log : List TableChange) (ts : List Table) (n line : ℕ) → Replays log ts → IfSome (slice_get ts n) IsTable → (cache : Cache) → slice_get ts n ≡ Some (CacheTable cache) → least_used_in (slice_get (after_changes log ts) n) line ≡ slice_get (order_after (Some (frame_of (CacheTable cache))) n line (numbers_of (set_of cache line)) log) 0
least_now log ts n line replays law cache is =
    least_of (slice_get (after_changes log ts) n) line
    ∙ ap (λ l. slice_get l 0) (order_now n line log ts replays law ∙ ap (λ o. order_after (option_map frame_of o) n line (numbers_in o line) log) is)
