-- One entry of a journal, as the map from controllers and addresses to their last states takes it in.
use Rattle.std.proofs.Common.{◌≡◌, ℕ, Bool, true, false, cond, List, ◌∷◌, Option, Some, None, refl, sym, ◌∙◌, ap, ◌&&◌, ◌==◌, ◌+◌, ◌<◌, ◌≤◌, length, get_or, drop, suc, add-one}
use Rattle.std.proofs.Math.Seq.{drop-cons}
use Rattle.std.proofs.lemmas.List.{drop_all}
use Rattle.std.specs.declared.cmp.Ordering.{Ordering}
use Rattle.std.specs.Ordering.{nat_cmp, ordering_then, is_eq}
use Rattle.std.specs.Cmp.{both_tied, unsigned_ties}
use Rattle.std.specs.List.{filter_map, last_or}
use Rattle.run_journal.specs.declared.entry.Entry.{Entry}
use Rattle.run_journal.specs.declared.entry.Entry.TheVariants.{Fired, Ended, Turned}
use Rattle.run_journal.specs.declared.entry.FireNote.{FireNote}
use Rattle.ruby_value.specs.declared.message.Sent.{Sent}
use Rattle.ruby_value.specs.declared.message.MsgNo.{MsgNo}
use Rattle.run_journal.specs.declared.lent.EntryRef.{EntryRef}
use Rattle.run_journal.specs.declared.lent.EntryRef.TheVariants as lent
use Rattle.run_journal.specs.declared.lent.FireLists.{FireLists}
use Rattle.run_journal.specs.Prelude.{entry_of, next_state}

-- by controller and then by address
abbrev pub place_cmp : ℕ × ℕ → ℕ × ℕ → Ordering
place_cmp p q = ordering_then (nat_cmp p.0 q.0) (nat_cmp p.1 q.1)

pub is_place : (c a k b : ℕ) → ((c == k) && (a == b)) ≡ is_eq (place_cmp (c, a) (k, b))
is_place c a k b = both_tied _ _ _ _ (unsigned_ties c k) (unsigned_ties a b)

kept_or_new : (t : Bool) (next : ℕ) (old : Option ℕ) (e : Entry) (c a : ℕ) (rest : List Entry) → next_state c a e ≡ cond t (Some next) None → last_or (cond t (Some next) old) (filter_map (next_state c a) rest) ≡ last_or old (filter_map (next_state c a) (e ∷ rest))
kept_or_new true next old e c a rest is = rw is refl
kept_or_new false next old e c a rest is = rw is refl

-- a transition of the controller k for the address b, as the map's insert takes it in
pub takes_in : (c a k b next : ℕ) (new old : Option ℕ) (e : Entry) (rest : List Entry) → next_state c a e ≡ cond ((k == c) && (b == a)) (Some next) None → new ≡ cond (is_eq (place_cmp (k, b) (c, a))) (Some next) old → last_or new (filter_map (next_state c a) rest) ≡ last_or old (filter_map (next_state c a) (e ∷ rest))
takes_in c a k b next new old e rest is put =
    rw (put, ← is_place k b c a) (kept_or_new ((k == c) && (b == a)) next old e c a rest is)

-- the entry at a place is the first one from there on
pub from_here : (entries : List Entry) (i : ℕ) (e : Entry) (c a : ℕ) (old last : Option ℕ) → i < length entries → e ≡ get_or entries i e → last_or old (filter_map (next_state c a) (drop i entries)) ≡ last → last_or old (filter_map (next_state c a) (e ∷ drop (i + 1) entries)) ≡ last
from_here entries i e c a old last l is so =
    let here : drop i entries ≡ e ∷ drop (i + 1) entries = rw add-one (drop-cons entries i e l ∙ ap (λ x. x ∷ drop (suc i) entries) (sym is)) in
    ap (λ rest. last_or old (filter_map (next_state c a) rest)) (sym here) ∙ so

-- an entry that is no transition sets no state
pub passes_over : (e : Entry) (c a : ℕ) (rest : List Entry) (old : Option ℕ) → ((cycle k : ℕ) (note : FireNote) (consumed : List MsgNo) (sent : List Sent) (stalled woken recycled : List MsgNo) → e ≡ Fired cycle k note consumed sent stalled woken recycled → ⊥) → last_or old (filter_map (next_state c a) rest) ≡ last_or old (filter_map (next_state c a) (e ∷ rest))
passes_over (Fired cycle k note consumed sent stalled woken recycled) c a rest old not = absurd (not _ _ _ _ _ _ _ _ refl)
passes_over (Ended cycle k end) c a rest old not = refl
passes_over (Turned cycle issued finding verdict) c a rest old not = refl

-- at the end of a journal nothing is left to take in
pub at_end : (entries : List Entry) (i : ℕ) (c a : ℕ) (old last : Option ℕ) → length entries ≤ i → last_or old (filter_map (next_state c a) (drop i entries)) ≡ last → old ≡ last
at_end entries i c a old last l so = ap (λ rest. last_or old (filter_map (next_state c a) rest)) (sym (drop_all i entries l)) ∙ so

-- an entry that is lent as no transition is none
pub not_fired : (e : EntryRef) → ((cycle k : ℕ) (note : FireNote) (lists : FireLists) → e ≡ lent.Fired cycle k note lists → ⊥)
    → (cycle k : ℕ) (note : FireNote) (consumed : List MsgNo) (sent : List Sent) (stalled woken recycled : List MsgNo) → entry_of e ≡ Fired cycle k note consumed sent stalled woken recycled → ⊥
not_fired (lent.Fired cycle k note lists) not c n o consumed sent stalled woken recycled is = not cycle k note lists refl
not_fired (lent.Ended cycle k end) not c n o consumed sent stalled woken recycled is = cc
not_fired (lent.Turned cycle issued finding verdict) not c n o consumed sent stalled woken recycled is = cc
