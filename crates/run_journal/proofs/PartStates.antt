-- The last states of a controller are those of its part of a journal.
use Rattle.std.proofs.Common.{◌≡◌, ◌<◌, ◌+◌, ◌++◌, ℕ, suc, cond, Bool, true, false, List, [], ◌∷◌, None, length, get_or, drop, refl, sym, ap, ◌∙◌, add-one, append_assoc}
use Rattle.std.proofs.Math.Seq.{drop-cons}
use Rattle.std.specs.List.{cons_option, filter_map, last_or}
use Rattle.run_journal.specs.declared.entry.Entry.{Entry}
use Rattle.run_journal.specs.declared.entry.Entry.TheVariants.{Fired, Ended, Turned}
use Rattle.run_journal.specs.declared.summary.Final.{Final}
use Rattle.run_journal.specs.Prelude.{AreFinals, next_state, last_state, is_of, part_of}

-- an entry of another controller sets no state of this one
sets_none : (c a : ℕ) (e : Entry) → is_of c e ≡ false → next_state c a e ≡ None
sets_none c a (Fired cycle k note consumed sent stalled woken recycled) other = rw other refl
sets_none c a (Ended cycle k end) other = refl
sets_none c a (Turned cycle issued finding verdict) other = refl

one_more : (c a : ℕ) (e : Entry) (rest : List Entry) (b : Bool) → is_of c e ≡ b → filter_map (next_state c a) (part_of c rest) ≡ filter_map (next_state c a) rest → filter_map (next_state c a) (part_of c (e ∷ rest)) ≡ filter_map (next_state c a) (e ∷ rest)
one_more c a e rest true own so =
    ap (λ t. filter_map (next_state c a) (cond t (e ∷ part_of c rest) (part_of c rest))) own ∙ ap (cons_option (next_state c a e)) so
one_more c a e rest false own so =
    ap (λ t. filter_map (next_state c a) (cond t (e ∷ part_of c rest) (part_of c rest))) own
    ∙ so
    ∙ ap (λ o. cons_option o (filter_map (next_state c a) rest)) (sym (sets_none c a e own))

states_of_part : (journal : List Entry) (c a : ℕ) → filter_map (next_state c a) (part_of c journal) ≡ filter_map (next_state c a) journal
states_of_part [] c a = refl
states_of_part (e ∷ rest) c a = one_more c a e rest (is_of c e) refl (states_of_part rest c a)

same_states : (j k : List Entry) (c a : ℕ) → part_of c j ≡ part_of c k → last_state j c a ≡ last_state k c a
same_states j k c a same =
    ap (last_or None) (sym (states_of_part j c a) ∙ ap (filter_map (next_state c a)) same ∙ states_of_part k c a)

pub finals_of_parts : (j k : List Entry) (all : List Final) → ((c : ℕ) → part_of c j ≡ part_of c k) → AreFinals j all → AreFinals k all
finals_of_parts j k all same are =
    record {
      ascending = are.ascending;
      exactly = λ f. (λ has. sym (same_states j k f.controller f.address (same f.controller)) ∙ (are.exactly f).0 has, λ left. (are.exactly f).1 (same_states j k f.controller f.address (same f.controller) ∙ left));
    }

-- the part so far, and the entry at a place, which is of the controller or isn't
module _ (c : ℕ) (journal so_far whole : List Entry) (i : ℕ) (e : Entry) (l : i < length journal) (here : e ≡ get_or journal i e) (so : so_far ++ part_of c (drop i journal) ≡ whole) where
  from-here : drop i journal ≡ e ∷ drop (i + 1) journal
  from-here = rw add-one (drop-cons journal i e l ∙ ap (λ x. x ∷ drop (suc i) journal) (sym here))

  pub own-entry : (copy : Entry) (after : List Entry) → copy ≡ e → after ≡ so_far ++ copy ∷ [] → is_of c e ≡ true → after ++ part_of c (drop (i + 1) journal) ≡ whole
  own-entry copy after copy_is after_is own =
      ap (λ xs. xs ++ part_of c (drop (i + 1) journal)) (after_is ∙ ap (λ x. so_far ++ x ∷ []) copy_is)
      ∙ append_assoc so_far (e ∷ []) (part_of c (drop (i + 1) journal))
      ∙ ap (λ t. so_far ++ cond t (e ∷ part_of c (drop (i + 1) journal)) (part_of c (drop (i + 1) journal))) (sym own)
      ∙ ap (λ xs. so_far ++ part_of c xs) (sym from-here)
      ∙ so

  pub other-entry : is_of c e ≡ false → so_far ++ part_of c (drop (i + 1) journal) ≡ whole
  other-entry other =
      ap (λ t. so_far ++ cond t (e ∷ part_of c (drop (i + 1) journal)) (part_of c (drop (i + 1) journal))) (sym other)
      ∙ ap (λ xs. so_far ++ part_of c xs) (sym from-here)
      ∙ so
