-- The entries of a journal's rows: the one at a place, and one more at the end.
use Rattle.std.proofs.Common.{◌≡◌, ◌<◌, ◌≤◌, ◌+◌, ◌^◌, ◌++◌, ℕ, suc, List, [], ◌∷◌, Some, length, get_or, slice_get, refl, sym, ap, subst, ◌∙◌, arith, length-append}
use Rattle.std.specs.List.{All, flat_map}
use Rattle.std.proofs.Math.ListN.{get_or-map}
use Rattle.std.proofs.lemmas.List.{append-nil, map-append}
use Rattle.std.proofs.lemmas.List.Elements.{All-push}
use Rattle.std.proofs.lemmas.List.Concat.{flat_map-append}
use Rattle.std.proofs.lemmas.Option.{slice_get-get_or}
use Rattle.ruby_value.specs.declared.message.MsgNo.{MsgNo}
use Rattle.run_journal.specs.declared.entry.Entry.{Entry}
use Rattle.run_journal.specs.declared.columns.Columns.{Columns}
use Rattle.run_journal.specs.declared.columns.Row.{Row}
use Rattle.run_journal.specs.declared.columns.What.{What}
use Rattle.run_journal.specs.declared.columns.What.TheVariants.{Fired, Moved, Idle, Full, Stopped, Turned, Issued, Closed}
use Rattle.run_journal.specs.Columns.{entry_at, entry_by, fired_by, fire_at, stop_at, closing_at, numbers_at, sents_at, AreEqualInLength, Extends, Fits, HasColumnRoom}
use Rattle.run_journal.specs.Journaled.{JournalRoom}
use Rattle.run_journal.specs.KeptJournal.{entries_of, AreCounts, FitsRow, IsWrittenJournal}
use Rattle.run_journal.specs.Numbers.{consumed_in, sent_in}

pub row-there : (rows : List Row) (c : Columns) (k : ℕ) (row : Row) → get_or rows k row ≡ row → k < length (entries_of c rows) → slice_get (entries_of c rows) k ≡ Some (entry_at c row)
row-there rows c k row is l =
    slice_get-get_or (entries_of c rows) k (entry_at c row) l
    ∙ ap Some (get_or-map (entry_at c) rows k row ∙ ap (entry_at c) is)

-- what a row says stays where the columns go on
module _ (old new : Columns) (more : Extends old new) (lengths : AreEqualInLength old) where
  same-fire : (k : ℕ) → k < length old.fires.kept → fire_at new k ≡ fire_at old k
  same-fire k l = more.fires.same k _ l

  same-numbers : (k : ℕ) → k < length old.numbers.lists → numbers_at new k ≡ numbers_at old k
  same-numbers k l = more.numbers.same k [] l

  same-sents : (k : ℕ) → k < length old.fires.kept → sents_at new k ≡ sents_at old k
  same-sents k l = more.sents.same k [] (omega arith)

  pub same-entry : (cycle : ℕ) (w : What) → Fits old w → entry_by new cycle w ≡ entry_by old cycle w
  same-entry cycle (Fired k) fits =
      let l : k < length old.fires.kept = fits.0 in
      let f = same-fire k l in
      let n = same-numbers (fire_at old k).lists fits.1 in
      let s = same-sents k l in
      ap (λ x. fired_by cycle x (numbers_at new x.lists) (sents_at new k) [] [] []) f
      ∙ ap (λ x. fired_by cycle (fire_at old k) x (sents_at new k) [] [] []) n
      ∙ ap (λ x. fired_by cycle (fire_at old k) (numbers_at old (fire_at old k).lists) x [] [] []) s
  same-entry cycle (Moved k) fits =
      let l : k < length old.fires.kept = fits.0 in
      let h : (fire_at old k).lists + 3 < length old.numbers.lists = fits.1 in
      let f = same-fire k l in
      let n0 = same-numbers (fire_at old k).lists (omega arith) in
      let n1 = same-numbers ((fire_at old k).lists + 1) (omega arith) in
      let n2 = same-numbers ((fire_at old k).lists + 2) (omega arith) in
      let n3 = same-numbers ((fire_at old k).lists + 3) (omega arith) in
      let s = same-sents k l in
      ap (λ x. fired_by cycle x (numbers_at new x.lists) (sents_at new k) (numbers_at new (x.lists + 1)) (numbers_at new (x.lists + 2)) (numbers_at new (x.lists + 3))) f
      ∙ ap (λ x. fired_by cycle (fire_at old k) x (sents_at new k) (numbers_at new ((fire_at old k).lists + 1)) (numbers_at new ((fire_at old k).lists + 2)) (numbers_at new ((fire_at old k).lists + 3))) n0
      ∙ ap (λ x. fired_by cycle (fire_at old k) (numbers_at old (fire_at old k).lists) x (numbers_at new ((fire_at old k).lists + 1)) (numbers_at new ((fire_at old k).lists + 2)) (numbers_at new ((fire_at old k).lists + 3))) s
      ∙ ap (λ x. fired_by cycle (fire_at old k) (numbers_at old (fire_at old k).lists) (sents_at old k) x (numbers_at new ((fire_at old k).lists + 2)) (numbers_at new ((fire_at old k).lists + 3))) n1
      ∙ ap (λ x. fired_by cycle (fire_at old k) (numbers_at old (fire_at old k).lists) (sents_at old k) (numbers_at old ((fire_at old k).lists + 1)) x (numbers_at new ((fire_at old k).lists + 3))) n2
      ∙ ap (λ x. fired_by cycle (fire_at old k) (numbers_at old (fire_at old k).lists) (sents_at old k) (numbers_at old ((fire_at old k).lists + 1)) (numbers_at old ((fire_at old k).lists + 2)) x) n3
  same-entry cycle (Idle controller) fits = refl
  same-entry cycle (Full controller) fits = refl
  same-entry cycle (Stopped k) fits = let s : stop_at new k ≡ stop_at old k = more.stops.same k _ fits in cc
  same-entry cycle Turned fits = refl
  same-entry cycle (Issued k) fits = let n = same-numbers k fits in cc
  same-entry cycle (Closed k) fits =
      let closing : closing_at new k ≡ closing_at old k = more.closings.same k _ fits.0 in
      let n = same-numbers (closing_at old k).issued fits.1 in
      cc

  pub same-fits : (w : What) → Fits old w → Fits new w
  same-fits (Fired k) fits =
      let l : k < length old.fires.kept = fits.0 in
      let h : (fire_at old k).lists < length old.numbers.lists = fits.1 in
      let longer = more.fires.no_shorter in
      let more_lists = more.numbers.no_shorter in
      (omega arith, subst (λ x. x.lists < length new.numbers.lists) (sym (same-fire k l)) (omega arith))
  same-fits (Moved k) fits =
      let l : k < length old.fires.kept = fits.0 in
      let h : (fire_at old k).lists + 3 < length old.numbers.lists = fits.1 in
      let longer = more.fires.no_shorter in
      let more_lists = more.numbers.no_shorter in
      (omega arith, subst (λ x. x.lists + 3 < length new.numbers.lists) (sym (same-fire k l)) (omega arith))
  same-fits (Idle controller) fits = tt
  same-fits (Full controller) fits = tt
  same-fits (Stopped k) fits = let h : k < length old.stops.kept = fits in let longer = more.stops.no_shorter in omega arith
  same-fits Turned fits = tt
  same-fits (Issued k) fits = let h : k < length old.numbers.lists = fits in let longer = more.numbers.no_shorter in omega arith
  same-fits (Closed k) fits =
      let l : k < length old.closings.kept = fits.0 in
      let h : (closing_at old k).issued < length old.numbers.lists = fits.1 in
      let longer = more.closings.no_shorter in
      let more_lists = more.numbers.no_shorter in
      (omega arith, subst (λ x. x.issued < length new.numbers.lists) (sym (more.closings.same k _ l)) (omega arith))

  same-entries : (rows : List Row) → All (FitsRow old) rows → entries_of new rows ≡ entries_of old rows
  same-entries [] fit = refl
  same-entries (r ∷ rows) fit =
      let first : entry_at new r ≡ entry_at old r = same-entry r.cycle r.what (fit 0 r (omega arith)) in
      let rest : entries_of new rows ≡ entries_of old rows = same-entries rows (λ i d l. fit (suc i) d (omega arith)) in
      cc

  pub pushed-entries : (rows : List Row) (row : Row) → All (FitsRow old) rows → entries_of new (rows ++ row ∷ []) ≡ entries_of old rows ++ entry_at new row ∷ []
  pushed-entries rows row fit =
      map-append (entry_at new) rows (row ∷ []) ∙ ap (λ xs. xs ++ entry_at new row ∷ []) (same-entries rows fit)

  pub pushed-fit : (rows : List Row) (row : Row) → All (FitsRow old) rows → Fits new row.what → All (FitsRow new) (rows ++ row ∷ [])
  pushed-fit rows row fit fits =
      All-push (FitsRow new) rows row (λ i d l. same-fits (get_or rows i d).what (fit i d l)) fits

-- the counts with one entry more
one-more : (f : Entry → List MsgNo) (journal : List Entry) (e : Entry) → length (flat_map f (journal ++ e ∷ [])) ≡ length (flat_map f journal) + length (f e)
one-more f journal e =
    ap (λ (ns : List MsgNo). length ns) (flat_map-append f journal (e ∷ []))
    ∙ length-append (flat_map f journal) (f e ++ [])
    ∙ ap (λ (ns : List MsgNo). length (flat_map f journal) + length ns) (append-nil (f e))

pub counts-more : (entries : List Entry) (e : Entry) (sent consumed more less : ℕ) → AreCounts entries sent consumed
    → more ≡ length (sent_in e) → less ≡ length (consumed_in e) → more ≤ 2 ^ 32 → less ≤ 2 ^ 32
    → AreCounts (entries ++ e ∷ []) (sent + more) (consumed + less)
counts-more entries e sent consumed more less are more_is less_is few fewer =
    let s = one-more sent_in entries e in
    let c = one-more consumed_in entries e in
    let n = length-append entries (e ∷ []) in
    record {
      sent_is = omega arith;
      consumed_is = omega arith;
      sent_few = omega arith;
      consumed_few = omega arith;
    }

-- a row is put at the end, with what it reads in the columns
module _ (rows after : List Row) (old new : Columns) (row : Row) (e : Entry) (sent consumed rows_room : ℕ) (room : JournalRoom) (kept : IsWrittenJournal rows old sent consumed rows_room room) (more : Extends old new) (fits : Fits new row.what) (lengths : AreEqualInLength new) (entry_is : entry_at new row ≡ e) (after_is : after ≡ rows ++ row ∷ []) (few : length after < 2 ^ 32) where
  pub entries-after : entries_of new after ≡ entries_of old rows ++ e ∷ []
  entries-after =
      ap (entries_of new) after_is ∙ pushed-entries old new more kept.kept.lengths rows row kept.kept.fit ∙ ap (λ x. entries_of old rows ++ x ∷ []) entry_is

  pub kept-after : (sent_after consumed_after more_sent more_consumed after_room : ℕ) (room_after : JournalRoom)
      → sent_after ≡ sent + more_sent → consumed_after ≡ consumed + more_consumed
      → more_sent ≡ length (sent_in e) → more_consumed ≡ length (consumed_in e) → more_sent ≤ 2 ^ 32 → more_consumed ≤ 2 ^ 32
      → room_after.entries ≤ after_room → HasColumnRoom room_after.entries room_after.numbers room_after.sents new
      → IsWrittenJournal after new sent_after consumed_after after_room room_after
  kept-after sent_after consumed_after more_sent more_consumed after_room room_after sends uses sent_is consumed_is sends_few uses_few rows_fit columns_fit = record {
    kept = record {
      fit = subst (All (FitsRow new)) (sym after_is) (pushed-fit old new more kept.kept.lengths rows row kept.kept.fit fits);
      lengths = lengths;
    };
    few = few;
    counts =
        let are : AreCounts (entries_of old rows ++ e ∷ []) (sent + more_sent) (consumed + more_consumed)
        = counts-more (entries_of old rows) e sent consumed more_sent more_consumed kept.counts sent_is consumed_is sends_few uses_few in
        let here : AreCounts (entries_of new after) (sent + more_sent) (consumed + more_consumed)
        = subst (λ es. AreCounts es (sent + more_sent) (consumed + more_consumed)) (sym entries-after) are in
        subst (λ n. AreCounts (entries_of new after) n consumed_after) (sym sends)
        (subst (λ n. AreCounts (entries_of new after) (sent + more_sent) n) (sym uses) here);
    rows_fit = rows_fit;
    columns_fit = columns_fit;
  }

pub less-room : (e n s e_less n_less s_less : ℕ) (c : Columns) → HasColumnRoom e n s c → e_less ≤ e → n_less ≤ n → s_less ≤ s → HasColumnRoom e_less n_less s_less c
less-room e n s e_less n_less s_less c has he hn hs = record {
  fires = omega arith;
  number_lists = omega arith;
  numbers_fit = omega arith;
  sent_lists = omega arith;
  sents_fit = omega arith;
  stops = omega arith;
  closings = omega arith;
}

-- nothing is put into the journal, and its columns go on
module _ (rows after : List Row) (old new : Columns) (sent consumed rows_room : ℕ) (room : JournalRoom) (kept : IsWrittenJournal rows old sent consumed rows_room room) (more : Extends old new) (lengths : AreEqualInLength new) (after_is : after ≡ rows) where
  pub entries-still : entries_of new after ≡ entries_of old rows
  entries-still = ap (entries_of new) after_is ∙ same-entries old new more kept.kept.lengths rows kept.kept.fit

  pub kept-still : (after_room : ℕ) (room_after : JournalRoom) → room_after.entries ≤ after_room
      → HasColumnRoom room_after.entries room_after.numbers room_after.sents new → IsWrittenJournal after new sent consumed after_room room_after
  kept-still after_room room_after rows_fit columns_fit = record {
    kept = record {
      fit = subst (All (FitsRow new)) (sym after_is) (λ i d l. same-fits old new more kept.kept.lengths (get_or rows i d).what (kept.kept.fit i d l));
      lengths = lengths;
    };
    few = subst (λ rs. length rs < 2 ^ 32) (sym after_is) kept.few;
    counts = subst (λ es. AreCounts es sent consumed) (sym entries-still) kept.counts;
    rows_fit = rows_fit;
    columns_fit = columns_fit;
  }
