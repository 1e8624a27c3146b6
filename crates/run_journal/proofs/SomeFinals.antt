-- Each journal has a list of final states: that of a finite map that takes in one entry after the other.
use Rattle.std.proofs.Common.{◌≡◌, ℕ, cond, Bool, true, false, ◌&&◌, T, List, [], ◌∷◌, map, Some, refl, sym, ap, ◌∙◌}
use Rattle.std.specs.declared.cmp.Ordering.{Ordering}
use Rattle.std.specs.declared.cmp.Ordering.TheVariants.{Less, Equal, Greater}
use Rattle.std.specs.Cmp.{eq_by_cmp_equiv}
use Rattle.std.specs.FinMap.{FinMap, get, insert, empty, entries, entries_sorted, get-empty, get-entries, get-insert, is_sorted}
use Rattle.std.specs.FinMap.Entries.{below_all}
use Rattle.std.specs.List.{AllByRecursion, filter_map, last_or}
use Rattle.std.specs.List.Sorted.{IsStrictlySortedBy}
use Rattle.std.specs.Map.{keys_of}
use Rattle.std.specs.Ordering.{is_lt}
use Rattle.ruby_value.proofs.Entries.{find_is_lookup}
use Rattle.run_journal.specs.declared.entry.Entry.{Entry}
use Rattle.run_journal.specs.declared.entry.Entry.TheVariants.{Fired, Ended, Turned}
use Rattle.run_journal.specs.declared.summary.Final.{Final}
use Rattle.run_journal.specs.Prelude.{AreFinals, next_state}
use Rattle.run_journal.proofs.FinalStates.{place_total, final_at, finals_of_entries}
use Rattle.run_journal.proofs.LastStates.{place_cmp, takes_in}

abbrev States : Type 0
States = FinMap place_cmp ℕ

states_after : States → List Entry → States
states_after m [] = m
states_after m (Fired cycle k note consumed sent stalled woken recycled ∷ rest) = states_after (insert m (k, note.address) note.next) rest
states_after m (Ended cycle k end ∷ rest) = states_after m rest
states_after m (Turned cycle issued finding verdict ∷ rest) = states_after m rest

get_after : (m : States) (journal : List Entry) (c a : ℕ) → get (states_after m journal) (c, a) ≡ last_or (get m (c, a)) (filter_map (next_state c a) journal)
unfolding states_after
get_after m [] c a = refl
get_after m (Fired cycle k note consumed sent stalled woken recycled ∷ rest) c a =
    get_after (insert m (k, note.address) note.next) rest c a
    ∙ takes_in c a k note.address note.next (get (insert m (k, note.address) note.next) (c, a)) (get m (c, a)) (Fired cycle k note consumed sent stalled woken recycled) rest refl
    (get-insert place_total m (k, note.address) note.next (c, a)
    ∙ ap (λ t. cond t (Some note.next) (get m (c, a))) ((eq_by_cmp_equiv place_total).symm (c, a) (k, note.address)))
get_after m (Ended cycle k end ∷ rest) c a = get_after m rest c a
get_after m (Turned cycle issued finding verdict ∷ rest) c a = get_after m rest c a

first_so : (a b : Bool) → T (a && b) → T a
first_so true b h = tt
first_so false b h = h

second_so : (a b : Bool) → T (a && b) → T b
second_so true b h = h
second_so false b h = absurd h

is_less : (o : Ordering) → T (is_lt o) → o ≡ Less
is_less Less h = refl
is_less Equal h = absurd h
is_less Greater h = absurd h

below_keys : (k : ℕ × ℕ) (es : List ((ℕ × ℕ) × ℕ)) → T (below_all place_cmp k es) → AllByRecursion (λ q. place_cmp k q ≡ Less) (keys_of es)
below_keys k [] h = tt
below_keys k (e ∷ es) h = (is_less _ (first_so _ _ h), below_keys k es (second_so _ _ h))

sorted_keys : (es : List ((ℕ × ℕ) × ℕ)) → T (is_sorted place_cmp es) → IsStrictlySortedBy place_cmp (keys_of es)
unfolding IsStrictlySortedBy
sorted_keys [] h = tt
sorted_keys (e ∷ es) h = (below_keys e.0 es (first_so _ _ h), sorted_keys es (second_so _ _ h))

pub some_finals : (journal : List Entry) → (all : List Final) × AreFinals journal all
some_finals journal =
    let m : States = states_after empty journal in (
      map final_at (entries m),
      finals_of_entries journal (entries m) (sorted_keys (entries m) (entries_sorted m))
          (λ c a.
          sym (find_is_lookup place_cmp (entries m) (c, a)) ∙ sym (get-entries m (c, a)) ∙ get_after empty journal c a
          ∙ ap (λ o. last_or o (filter_map (next_state c a) journal)) (get-empty place_cmp (c, a))),
    )
