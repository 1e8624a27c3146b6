-- What is kept beside the acts of a scan: their counts, and the last arrivals that they write.
use Rattle.std.proofs.Common.{◌≡◌, ◌<◌, ◌+◌, ◌++◌, ℕ, Bool, true, false, cond, Option, None, Some, List, [], ◌∷◌, length, get_or, slice_get, count_by, refl, sym, ap, ◌∙◌, All, arith}
use Rattle.std.proofs.lemmas.List.Elements.{All-cons, All-nil}
use Rattle.std.proofs.lemmas.List.Sums.{fold-append}
use Rattle.std.proofs.lemmas.List.Recursion.{is_count_by}
use Rattle.std.proofs.lemmas.Option.{get_or_from_slice_get}
use Rattle.std.specs.List.{fold}
use Rattle.ruby_value.proofs.Ordered.{AllPairs-nil}
use Rattle.ruby_value.specs.Prelude.{IsBefore}
use Rattle.ctl_mail.specs.declared.act.MailAct.{MailAct}
use Rattle.ctl_mail.specs.declared.act.MailAct.TheVariants.{Arrive, Count, Credit, Lend, LocalLast, Mark, NetworkLast, Pop, Recycle, Stall, Wake, WakeAll}
use Rattle.ctl_mail.specs.declared.act_counts.ActCounts.{ActCounts}
use Rattle.ctl_mail.specs.declared.last_arrivals.LastArrival.{LastArrival}
use Rattle.ctl_mail.specs.declared.store.MailStore.{MailStore}
use Rattle.ctl_mail.specs.Log.{IsLog, counted_if, counts_with, is_local_last, is_placed, is_stall, is_wake, kept_at, newer_local, newer_network, no_counts, place_of}
use Rattle.ctl_mail.specs.Prelude.{HasPlaces}

pub log-none : IsLog [] no_counts []
unfolding kept_at
log-none = record {
  counted = refl;
  rise = AllPairs-nil (λ (a b : LastArrival). IsBefore (place_of a) (place_of b));
  written = λ network receiver. refl;
}

-- one act more
pub counted-more : (acts : List MailAct) (act : MailAct) (counts : ActCounts) → counts ≡ fold counts_with no_counts acts
    → counts_with counts act ≡ fold counts_with no_counts (acts ++ act ∷ [])
counted-more acts act counts is = ap (λ (c : ActCounts). counts_with c act) is ∙ sym (fold-append counts_with no_counts acts (act ∷ []))

pub written-more : (network receiver : ℕ) (acts : List MailAct) (act : MailAct) (kept : Option ℕ) → kept ≡ fold (newer_network network receiver) None acts
    → newer_network network receiver kept act ≡ fold (newer_network network receiver) None (acts ++ act ∷ [])
written-more network receiver acts act kept is =
    ap (λ (o : Option ℕ). newer_network network receiver o act) is ∙ sym (fold-append (newer_network network receiver) None acts (act ∷ []))

-- how many of the acts pass a test, one by one
abbrev counted_one : Bool → ℕ → ℕ
counted_one b n = cond b (1 + n) n

module _ (p : MailAct → Bool) where
  how_many : List MailAct → ℕ
  how_many [] = 0
  how_many (act ∷ acts) = counted_one (p act) (how_many acts)

  many-are : (acts : List MailAct) → how_many acts ≡ count_by p acts
  unfolding how_many
  many-are acts = is_count_by how_many p refl (λ x xs. refl) acts

  count-cons : (act : MailAct) (acts : List MailAct) → count_by p (act ∷ acts) ≡ counted_one (p act) (count_by p acts)
  unfolding how_many
  count-cons act acts = sym (many-are (act ∷ acts)) ∙ ap (counted_one (p act)) (many-are acts)

  none-more : (act : MailAct) (acts : List MailAct) → count_by p (act ∷ acts) ≡ 0 → (p act ≡ false) × (count_by p acts ≡ 0)
  none-more act acts none = by (p act) refl
    where
      by : (b : Bool) → p act ≡ b → (p act ≡ false) × (count_by p acts ≡ 0)
      by true is = let more : count_by p (act ∷ acts) ≡ 1 + count_by p acts = count-cons act acts ∙ ap (λ b. counted_one b (count_by p acts)) is in absurd (omega arith)
      by false is = (is, sym (count-cons act acts ∙ ap (λ b. counted_one b (count_by p acts)) is) ∙ none)

-- a count goes up with each act that passes its test
module _ (count_of : ActCounts → ℕ) (p : MailAct → Bool) (is : (c : ActCounts) (act : MailAct) → count_of (counts_with c act) ≡ counted_if (p act) (count_of c)) where
  pub counts-by : (acts : List MailAct) (c : ActCounts) → count_of (fold counts_with c acts) ≡ count_of c + count_by p acts
  counts-by [] c = omega arith
  counts-by (act ∷ acts) c =
      counts-by acts (counts_with c act)
      ∙ (ap (λ n. n + count_by p acts) (is c act) ∙ (by (p act) (count_of c) (count_by p acts) ∙ ap (λ n. count_of c + n) (sym (count-cons p act acts))))
    where
      by : (b : Bool) (n m : ℕ) → counted_if b n + m ≡ n + counted_one b m
      by true n m = omega arith
      by false n m = omega arith

pub stalls-are : (acts : List MailAct) (counts : ActCounts) → counts ≡ fold counts_with no_counts acts → counts.stalls ≡ count_by is_stall acts
stalls-are acts counts is = ap (λ (c : ActCounts). c.stalls) is ∙ (counts-by (λ (c : ActCounts). c.stalls) is_stall (λ c act. refl) acts no_counts ∙ omega arith)

pub wakes-are : (acts : List MailAct) (counts : ActCounts) → counts ≡ fold counts_with no_counts acts → counts.wakes ≡ count_by is_wake acts
wakes-are acts counts is = ap (λ (c : ActCounts). c.wakes) is ∙ (counts-by (λ (c : ActCounts). c.wakes) is_wake (λ c act. refl) acts no_counts ∙ omega arith)

pub placed-are : (acts : List MailAct) (counts : ActCounts) → counts ≡ fold counts_with no_counts acts → counts.placed ≡ count_by is_placed acts
placed-are acts counts is = ap (λ (c : ActCounts). c.placed) is ∙ (counts-by (λ (c : ActCounts). c.placed) is_placed (λ c act. refl) acts no_counts ∙ omega arith)

pub locals-are : (acts : List MailAct) (counts : ActCounts) → counts ≡ fold counts_with no_counts acts → counts.locals ≡ count_by is_local_last acts
locals-are acts counts is = ap (λ (c : ActCounts). c.locals) is ∙ (counts-by (λ (c : ActCounts). c.locals) is_local_last (λ c act. refl) acts no_counts ∙ omega arith)

same-local : (buffer : ℕ) (found : Option ℕ) (act : MailAct) → is_local_last act ≡ false → newer_local buffer found act ≡ found
same-local buffer found (LocalLast other arrival) is = absurd (cc is)
same-local buffer found (Arrive m) is = refl
same-local buffer found (NetworkLast network receiver arrival) is = refl
same-local buffer found (Lend receiver at) is = refl
same-local buffer found (Credit c) is = refl
same-local buffer found (Pop at) is = refl
same-local buffer found (Recycle at arrival) is = refl
same-local buffer found (Mark cycle) is = refl
same-local buffer found (Stall at line) is = refl
same-local buffer found (Wake line) is = refl
same-local buffer found WakeAll is = refl
same-local buffer found (Count drawn) is = refl

-- where no act writes a last arrival in a buffer of the controller's own, there is none
pub no-local : (buffer : ℕ) (acts : List MailAct) (found : Option ℕ) → count_by is_local_last acts ≡ 0 → fold (newer_local buffer) found acts ≡ found
no-local buffer [] found none = refl
no-local buffer (act ∷ acts) found none =
    let so = none-more is_local_last act acts none in
    ap (λ (o : Option ℕ). fold (newer_local buffer) o acts) (same-local buffer found act so.0) ∙ no-local buffer acts found so.1

none-placed-by : (store : MailStore) (n : ℕ) (act : MailAct) → is_placed act ≡ false → HasPlaces store n act
none-placed-by store n (Arrive m) is = absurd (cc is)
none-placed-by store n (NetworkLast network receiver arrival) is = absurd (cc is)
none-placed-by store n (LocalLast buffer arrival) is = absurd (cc is)
none-placed-by store n (Lend receiver buffer) is = absurd (cc is)
none-placed-by store n (Credit c) is = absurd (cc is)
none-placed-by store n (Pop buffer) is = tt
none-placed-by store n (Recycle buffer arrival) is = tt
none-placed-by store n (Mark cycle) is = tt
none-placed-by store n (Stall buffer line) is = tt
none-placed-by store n (Wake line) is = tt
none-placed-by store n WakeAll is = tt
none-placed-by store n (Count drawn) is = tt

-- where no act wants a place, each has it
pub none-placed : (store : MailStore) (n : ℕ) (acts : List MailAct) → count_by is_placed acts ≡ 0 → All (HasPlaces store n) acts
none-placed store n [] none = All-nil (HasPlaces store n)
none-placed store n (act ∷ acts) none =
    let so = none-more is_placed act acts none in
    All-cons (HasPlaces store n) act acts (none-placed-by store n act so.0) (none-placed store n acts so.1)

-- what is at a place, as what is got there
pub there-is : (acts : List MailAct) (i : ℕ) (act : MailAct) → i < length acts → slice_get acts i ≡ Some act → act ≡ get_or acts i act
there-is acts i act within is = sym (get_or_from_slice_get acts i act act is)
