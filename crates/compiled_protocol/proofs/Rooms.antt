-- What is looked at for a transition is all that it may be short of: where no action of a machine checks a table, none needs a line of it,
-- and nothing is sent on a buffer from a network.
use Rattle.std.proofs.Common.{◌≡◌, ◌∙◌, ◌+◌, ◌==◌, ◌<◌, ◌||◌, ℕ, zero, suc, Bool, true, false, cond, Option, None, Some, List, [], ◌∷◌, filter, flat_map, length, nat_lt, slice_get, refl, sym, ap, ap₂, subst, arith}
use Rattle.std.specs.List.{count_by, list_any}
use Rattle.std.proofs.lemmas.Option.{slice_get_within}
use Rattle.std.proofs.lemmas.List.Folds.{list_any-append}
use Rattle.std.proofs.lemmas.List.Sums.{sum_by-append, sum_by-cons}
use Rattle.ruby_symbols.specs.declared.machine.ActionSymbol.{ActionSymbol}
use Rattle.ruby_value.specs.declared.setup.BufferPlace.{BufferPlace}
use Rattle.ruby_value.specs.declared.setup.BufferPlace.TheVariants as place
use Rattle.ctl_face.specs.Prelude.{sends}
use Rattle.acts.specs.Act.{Free, Slots}
use Rattle.acts.specs.Prelude.{Acting, act, ends, either, ◌>>=◌}
use Rattle.body_meaning.specs.Actions.Pick.{Tables}
use Rattle.body_meaning.specs.Prelude.{Reading, action_names, block_names, block_of, body_of_action, buffer_short, is_fewer, is_short, lacks_room, names_table, need, place_among, send_count, table_short}
use Rattle.body_code.specs.Prelude.{numbers_from}
use Rattle.action_gen.specs.Prelude.{is_checked, is_sent_on}
use Rattle.scan_steps.proofs.Sent.{none_sent}
use Rattle.slicc_plan.specs.declared.row.Row.{Row}
use Rattle.compiled_protocol.specs.Prelude.{MachineCode, any_short, needed, room_lacks, sent}

-- Of numbers that pass a test, where the others are never short.
module _ (passes : ℕ → Bool) (short : ℕ → Acting Bool) (none : (n : ℕ) → passes n ≡ false → short n ≡ ends false) where
  one_filtered : (n : ℕ) (ns : List ℕ) (rest : Acting Bool) → any_short short (filter passes ns) ≡ rest → (b : Bool) → passes n ≡ b
      → any_short short (filter passes (n ∷ ns)) ≡ (short n >>= (λ is. either is (ends true) rest))
  unfolding ◌>>=◌ either
  one_filtered n ns rest same true is = rw is (ap (λ q. short n >>= (λ b. either b (ends true) q)) same)
  one_filtered n ns rest same false is = rw (is, none n is) same

  pub filtered : {X : Type 0} (xs : List X) (n : ℕ) → any_short short (filter passes (numbers_from n (length xs))) ≡ is_short short n xs
  filtered [] n = refl
  filtered (x ∷ xs) n = one_filtered n (numbers_from (n + 1) (length xs)) (is_short short (n + 1) xs) (filtered xs (n + 1)) (passes n) refl

-- Tests that are the same.
module _ (one other : ℕ → Acting Bool) (same : (n : ℕ) → one n ≡ other n) where
  pub any_same : (ns : List ℕ) → any_short one ns ≡ any_short other ns
  any_same [] = refl
  any_same (n ∷ ns) = rw (same n, any_same ns) refl

-- Tables.

or_none : (a b : Bool) → (a || b) ≡ false → (a ≡ false) × (b ≡ false)
or_none true b is = absurd (cc is)
or_none false b is = (refl, is)

module _ (f : List ℕ → Bool) where
  one_counted : (x : List ℕ) (xs : List (List ℕ)) → f x ≡ false → count_by f xs ≡ 0 → count_by f (x ∷ xs) ≡ 0
  one_counted x xs this rest =
      let all = sum_by-cons (λ y. cond (f y) 1 0) x xs in
      let here : ◌≡◌ {A = ℕ} (cond (f x) 1 0) 0 = ap (λ b. cond b 1 0) this in
      omega (arith, all, here, rest)

  none_counted : (xs : List (List ℕ)) → list_any f xs ≡ false → count_by f xs ≡ 0
  none_counted [] is = refl
  none_counted (x ∷ xs) is = let both = or_none (f x) (list_any f xs) is in one_counted x xs both.0 (none_counted xs both.1)

  module _ (g : ℕ → List (List ℕ)) where
    none_in_one : (n k j : ℕ) → list_any f (flat_map g (numbers_from k n)) ≡ false → j < n → list_any f (g (k + j)) ≡ false
    none_in_one zero k j is below = absurd (omega arith)
    none_in_one (suc n) k zero is below =
        let both = or_none (list_any f (g k)) (list_any f (flat_map g (numbers_from (k + 1) n))) (sym (list_any-append f (g k) (flat_map g (numbers_from (k + 1) n))) ∙ is) in
        let same : k ≡ k + 0 = omega arith in
        subst (λ i. list_any f (g i) ≡ false) same both.0
    none_in_one (suc n) k (suc j) is below =
        let both = or_none (list_any f (g k)) (list_any f (flat_map g (numbers_from (k + 1) n))) (sym (list_any-append f (g k) (flat_map g (numbers_from (k + 1) n))) ∙ is) in
        let same : k + 1 + j ≡ k + suc j = omega arith in
        subst (λ i. list_any f (g i) ≡ false) same (none_in_one n (k + 1) j both.1 (omega arith))

module _ (s : Reading) (table : ℕ) (is : is_checked s table ≡ false) where
  abbrev test : List ℕ → Bool
  test = names_table s.machine table

  action_none : (a : ℕ) (o : Option ActionSymbol) → slice_get s.machine.actions a ≡ o → count_by test (block_names Tables (body_of_action s a)) ≡ 0
  action_none a None at = ap (λ o. count_by test (block_names Tables (block_of s o))) at
  action_none a (Some x) at =
      let inside : a < length s.machine.actions = slice_get_within s.machine.actions a x at in
      let same : 0 + a ≡ a = omega arith in
      none_counted test (block_names Tables (body_of_action s a))
      (subst (λ i. list_any test (block_names Tables (body_of_action s i)) ≡ false) same
      (none_in_one test (λ number. block_names Tables (body_of_action s number)) (length s.machine.actions) 0 a is inside))

  none_needed : (actions : List ℕ) → need s actions table ≡ 0
  none_needed [] = refl
  none_needed (a ∷ actions) =
      let here = action_none a (slice_get s.machine.actions a) refl in
      let rest = none_needed actions in
      let all = sum_by-append (λ y. cond (test y) 1 0) (block_names Tables (body_of_action s a)) (action_names Tables s actions) in
      omega (arith, here, rest, all)

  pub table_fits : (actions : List ℕ) → table_short (need s actions) table ≡ ends false
  unfolding either
  table_fits actions = rw (none_needed actions) refl

-- Buffers.

same_sends : (o : Option BufferPlace) → is_sent_on o ≡ sends o
same_sends None = refl
same_sends (Some place.Local) = refl
same_sends (Some (place.To network destination)) = refl
same_sends (Some (place.From network)) = refl

pub buffer_fits : (s : Reading) (actions : List ℕ) (buffer : ℕ) → is_sent_on (place_among s.machine buffer) ≡ false → buffer_short (send_count s actions) buffer ≡ ends false
unfolding either
buffer_fits s actions buffer is = rw (none_sent s actions buffer (sym (same_sends (place_among s.machine buffer)) ∙ is)) refl

-- All that is looked at.

module _ (c : MachineCode) (s : Reading) (row : Row) (actions : List ℕ) (needs : (table : ℕ) → needed c row table ≡ need s actions table) (sends : (buffer : ℕ) → sent c row buffer ≡ send_count s actions buffer) where
  tables_same : c.head.checked ≡ filter (is_checked s) (numbers_from 0 (length s.machine.tables))
      → any_short (table_short (needed c row)) c.head.checked ≡ is_short (table_short (need s actions)) 0 s.machine.tables
  tables_same checked =
      ap (any_short (table_short (needed c row))) checked
      ∙ any_same (table_short (needed c row)) (table_short (need s actions))
      (λ table. ap (λ n. either (n == 0) (ends false) (act (Free table) >>= (λ free. ends (nat_lt free n)))) (needs table))
      (filter (is_checked s) (numbers_from 0 (length s.machine.tables)))
      ∙ filtered (is_checked s) (table_short (need s actions)) (λ table is. table_fits s table is actions) s.machine.tables 0

  buffers_same : c.head.buffers ≡ filter (λ buffer. is_sent_on (place_among s.machine buffer)) (numbers_from 0 (length s.machine.buffers))
      → any_short (buffer_short (sent c row)) c.head.buffers ≡ is_short (buffer_short (send_count s actions)) 0 s.machine.buffers
  buffers_same buffers =
      ap (any_short (buffer_short (sent c row))) buffers
      ∙ any_same (buffer_short (sent c row)) (buffer_short (send_count s actions))
      (λ buffer. ap (λ n. either (n == 0) (ends false) (act (Slots buffer) >>= (λ free. ends (is_fewer free n)))) (sends buffer))
      (filter (λ buffer. is_sent_on (place_among s.machine buffer)) (numbers_from 0 (length s.machine.buffers)))
      ∙ filtered (λ buffer. is_sent_on (place_among s.machine buffer)) (buffer_short (send_count s actions)) (λ buffer is. buffer_fits s actions buffer is) s.machine.buffers 0

  pub room_same : c.head.checked ≡ filter (is_checked s) (numbers_from 0 (length s.machine.tables))
      → c.head.buffers ≡ filter (λ buffer. is_sent_on (place_among s.machine buffer)) (numbers_from 0 (length s.machine.buffers))
      → room_lacks c row ≡ lacks_room s actions
  room_same checked buffers = ap₂ (λ (p q : Acting Bool). p >>= (λ short. either short (ends true) q)) (tables_same checked) (buffers_same buffers)
