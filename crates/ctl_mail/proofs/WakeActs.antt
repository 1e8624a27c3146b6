-- Messages that wait are woken, as a change: which numbers are found, and what stays so of the changes.
use Rattle.std.proofs.Common.{◌≡◌, ◌≢◌, ◌⊎◌, ◌↔◌, ◌++◌, ℕ, Bool, true, false, cond, Option, None, Some, List, [], ◌∷◌, refl, sym, subst, ap, ◌∙◌, inl, inr, ⊎_elim, Contains, IsTrue, filter, map, arith}
use Rattle.std.proofs.lemmas.Bool.{eq-eqb, eqb-true}
use Rattle.std.proofs.lemmas.Bool.Decides.{nat_tests}
use Rattle.std.proofs.lemmas.List.Elements.{All-contains, All-map, Contains-append_left, Contains-append_right}
use Rattle.std.proofs.lemmas.List.Kept.{AllPairs-cons, AllPairs-filter}
use Rattle.std.specs.List.{AllPairs}
use Rattle.ruby_value.specs.declared.message.MsgNo.{MsgNo}
use Rattle.ruby_value.specs.Prelude.{number_before}
use Rattle.ruby_value.proofs.Contained.{Contains-cons_cases, Contains-cons_here, Contains-cons_there}
use Rattle.ruby_value.proofs.Ordered.{AllPairs-head, AllPairs-nil, AllPairs-tail}
use Rattle.stall_map.specs.declared.stalled.Stalled.{Stalled}
use Rattle.ctl_face.specs.Prelude.{InboxMessage, Mail, NumbersAscend, message_waiting_no_longer, numbers_where, woken_mail}
use Rattle.ctl_face.proofs.Held.{from-filter, from-map, in-filter, nothing-there, to-map}
use Rattle.ctl_face.proofs.Inboxes.{Before, ascend-map}
use Rattle.ctl_mail.specs.declared.moves.Waking.{Waking}
use Rattle.ctl_mail.specs.declared.moves.Waking.TheVariants.{All, Line}
use Rattle.ctl_mail.specs.declared.store.MailStore.{MailStore}
use Rattle.ctl_mail.specs.Prelude.{Holds, IsAt, mail_of, view_woken, act_of, is_woken, waiting_after, with_moves, Adds, NumbersRise, Queues, AreOf, IsGone, IsSeen, IsWoken, IsWokenAmong, IsWokenIn, IsWokenKept, IsWokenMoved, IsWokenStalled, IsWokenUnder, Reflects, Told, after_act, changed_mail, changed_view}
use Rattle.ctl_mail.proofs.SentActs.{IsLater, IsUncounted, fits-act}
use Rattle.ctl_mail.proofs.Acts.{after-more}
use Rattle.ctl_mail.proofs.AfterMoves.{has-entry, with-entry}
use Rattle.ctl_mail.proofs.Edits.{nat-same-or-not}
use Rattle.ctl_mail.proofs.Founds.{woken-waits}
use Rattle.ctl_mail.proofs.Inboxes.{one-of-ascending}
use Rattle.ctl_mail.proofs.Shifts.{IsShifted, shifted, waiting_so}

-- a list whose elements are in pairs, changed
pub pairs-map : {X Y : Type 0} (R : Y → Y → Type 0) (f : X → Y) (xs : List X) → AllPairs (λ a b. R (f a) (f b)) xs → AllPairs R (map f xs)
pairs-map R f [] pairs = AllPairs-nil R
pairs-map {X} {Y} R f (x ∷ xs) pairs =
    AllPairs-cons R (f x) (map f xs)
    (All-map (R (f x)) f xs (AllPairs-head (λ (a b : X). R (f a) (f b)) x xs pairs))
    (pairs-map R f xs (AllPairs-tail (λ (a b : X). R (f a) (f b)) x xs pairs))

-- ascending numbers are what they contain
abbrev Rise : MsgNo → MsgNo → Type 0
Rise a b = IsTrue (number_before a b)

not-both : (a b : MsgNo) → IsTrue (number_before a b) → IsTrue (number_before b a) → ⊥
not-both a b ab ba = grind (arith, nat_tests, ab, ba)

tail-in : (x y : MsgNo) (xs ys : List MsgNo) → NumbersRise (x ∷ xs) → x ≡ y
    → ((n : MsgNo) → Contains (x ∷ xs) n → Contains (y ∷ ys) n) → (n : MsgNo) → Contains xs n → Contains ys n
tail-in x y xs ys rises same into n has =
    ⊎_elim
    (λ is.
    let before : IsTrue (number_before x n) = All-contains (Rise x) xs n (AllPairs-head Rise x xs rises) has in
    let itself : IsTrue (number_before n n) = subst (λ z. IsTrue (number_before z n)) (same ∙ is) before in
    absurd (not-both n n itself itself))
    (λ there. there)
    (Contains-cons_cases y n ys (into n (Contains-cons_there x n xs has)))

heads : (x y : MsgNo) (xs ys : List MsgNo) → NumbersRise (x ∷ xs) → NumbersRise (y ∷ ys) → Contains (y ∷ ys) x → Contains (x ∷ xs) y → x ≡ y
heads x y xs ys first second x_in y_in =
    ⊎_elim sym
    (λ x_there.
    ⊎_elim (λ is. is)
    (λ y_there.
    absurd (not-both x y
    (All-contains (Rise x) xs y (AllPairs-head Rise x xs first) y_there)
    (All-contains (Rise y) ys x (AllPairs-head Rise y ys second) x_there)))
    (Contains-cons_cases x y xs y_in))
    (Contains-cons_cases y x ys x_in)

pub same-numbers : (xs ys : List MsgNo) → NumbersRise xs → NumbersRise ys → ((n : MsgNo) → Contains xs n → Contains ys n) → ((n : MsgNo) → Contains ys n → Contains xs n) → xs ≡ ys
same-numbers [] [] first second into back = refl
same-numbers [] (y ∷ ys) first second into back = absurd (nothing-there y (back y (Contains-cons_here y ys)))
same-numbers (x ∷ xs) [] first second into back = absurd (nothing-there x (into x (Contains-cons_here x xs)))
same-numbers (x ∷ xs) (y ∷ ys) first second into back =
    let same : x ≡ y = heads x y xs ys first second (into x (Contains-cons_here x xs)) (back y (Contains-cons_here y ys)) in
    let rest : xs ≡ ys =
    same-numbers xs ys (AllPairs-tail Rise x xs first) (AllPairs-tail Rise y ys second)
    (tail-in x y xs ys first same into) (tail-in y x ys xs second (sym same) back) in
    cc

-- the messages of an inbox that pass a test, and that wait no longer then
module _ (inbox : List InboxMessage) (test : InboxMessage → Bool) where
  -- the number is that of one that passes
  abbrev pub IsHit : MsgNo → Type 0
  IsHit n = (q : InboxMessage) × Contains inbox q × (test q ≡ true) × (q.message.number ≡ n)

  abbrev pub where_numbers : List MsgNo
  where_numbers = map (λ (o : InboxMessage). o.message.number) (filter test inbox)

  where-rises : NumbersAscend inbox → NumbersRise where_numbers
  where-rises ascends = pairs-map Rise (λ (o : InboxMessage). o.message.number) (filter test inbox) (AllPairs-filter Before test inbox ascends)

  where-from : (n : MsgNo) → Contains where_numbers n → IsHit n
  where-from n has =
      let so = from-map (λ (o : InboxMessage). o.message.number) (filter test inbox) n has in
      let kept = from-filter test inbox so.0 so.1 in
      (so.0, kept.0, kept.1, so.2)

  where-to : (n : MsgNo) → IsHit n → Contains where_numbers n
  where-to n hit =
      subst (Contains where_numbers) hit.3
      (to-map (λ (o : InboxMessage). o.message.number) (filter test inbox) hit.0 (in-filter test inbox hit.0 hit.2 hit.1))

  pub numbers-are : (numbers : List MsgNo) → NumbersAscend inbox → NumbersRise numbers → ((n : MsgNo) → Contains numbers n ↔ IsHit n) → numbers ≡ where_numbers
  numbers-are numbers ascends rises hits =
      same-numbers numbers where_numbers rises (where-rises ascends) (λ n has. where-to n ((hits n).0 has)) (λ n has. (hits n).1 (where-from n has))

  abbrev change : InboxMessage → InboxMessage
  change o = cond (test o) (message_waiting_no_longer o) o

  changed-hit : (o : InboxMessage) (b : Bool) → test o ≡ b → b ≡ true → change o ≡ message_waiting_no_longer o
  changed-hit o b is hit = ap (λ t. cond t (message_waiting_no_longer o) o) (is ∙ hit)

  changed-not : (o : InboxMessage) → test o ≡ false → change o ≡ o
  changed-not o is = ap (λ t. cond t (message_waiting_no_longer o) o) is

  module _ (numbers : List MsgNo) (cycle : ℕ) (ascends : NumbersAscend inbox) (hits : (n : MsgNo) → Contains numbers n ↔ IsHit n) (waits : (o : InboxMessage) → test o ≡ true → o.waiting ≢ None) where
    -- one whose number is among them passes
    hit-passes : (q : InboxMessage) → Contains inbox q → Contains numbers q.message.number → test q ≡ true
    hit-passes q has in_numbers =
        let so = (hits q.message.number).0 in_numbers in
        subst (λ (z : InboxMessage). test z ≡ true) (one-of-ascending inbox ascends so.0 q so.1 has so.3) so.2

    not-in : (o : InboxMessage) → Contains inbox o → test o ≡ false → Contains numbers o.message.number → ⊥
    not-in o has fails in_numbers = absurd (cc (fails, hit-passes o has in_numbers))

    fails-by : (o : InboxMessage) (b : Bool) → test o ≡ b → Contains inbox o → (Contains numbers o.message.number → ⊥) → test o ≡ false
    fails-by o true is has none = absurd (none ((hits o.message.number).1 (o, has, is, refl)))
    fails-by o false is has none = is

    keeps : (o : InboxMessage) (b : Bool) → (cond b (message_waiting_no_longer o) o).message.number ≡ o.message.number
    keeps o true = refl
    keeps o false = refl

    abbrev From : InboxMessage → Type 0
    From o = (Contains inbox o × (Contains numbers o.message.number → ⊥)) ⊎ ((q : InboxMessage) × Contains inbox q × Contains numbers q.message.number × (waiting_so None q ≡ o))

    from-by : (o p : InboxMessage) (b : Bool) → test p ≡ b → Contains inbox p → cond b (message_waiting_no_longer p) p ≡ o → From o
    from-by o p true is has same = inr (p, has, (hits p.message.number).1 (p, has, is, refl), same)
    from-by o p false is has same = inl (subst (λ (z : InboxMessage). Contains inbox z × (Contains numbers z.message.number → ⊥)) same (has, not-in p has is))

    pub woken-shifted : IsShifted inbox (map change inbox) cycle numbers None
    woken-shifted = record {
      ascends = ascend-map change (λ o. keeps o (test o)) inbox ascends;
      held = λ n has. let so = (hits n).0 has in (so.0, so.1, so.3, λ none. absurd (waits so.0 so.2 none));
      from = λ o has. let so = from-map change inbox o has in from-by o so.0 (test so.0) refl so.1 so.2;
      stay = λ o has none. subst (Contains (map change inbox)) (changed-not o (fails-by o (test o) refl has none)) (to-map change inbox o has);
      move = λ q has in_numbers. subst (Contains (map change inbox)) (changed-hit q (test q) refl (hit-passes q has in_numbers)) (to-map change inbox q has);
    }

-- the numbers that are found are those of the woken messages of the changed inbox
module _ (queues : Queues) (stalled : List Stalled) (told : Told) (inbox : List InboxMessage) (waking : Waking) (holds : Holds queues stalled) (reflects : Reflects queues stalled told inbox) where
  abbrev pub test : InboxMessage → Bool
  test o = is_woken waking o.waiting

  seen-woken : (o : InboxMessage) → test o ≡ true → IsSeen told.cycle o
  seen-woken o is none = absurd (woken-waits waking o.waiting is none)

  stalled-hit : (n : MsgNo) → IsWokenStalled stalled told waking n → IsHit inbox test n
  stalled-hit n s =
      let w = waiting_after s.it.message.number told.moves (Some s.it.line) in
      let q : InboxMessage = record { message = s.it.message; waiting = w } in (
        q,
        (reflects.left q (seen-woken q s.is.woken)).1 (record { before = Some s.it.line; held = s.held; now = refl; not_gone = s.is.not_gone }),
        s.is.woken,
        s.number_is,
      )

  moved-hit : (n : MsgNo) → IsWokenMoved told.moves told waking n → IsHit inbox test n
  moved-hit n m =
      let so = reflects.moved m.it m.held in
      let o = so.0 in
      let w = waiting_after o.message.number told.moves o.waiting in
      let q : InboxMessage = record { message = o.message; waiting = w } in
      let is : w ≡ waiting_after m.it.number told.moves None =
      ap (λ (k : MsgNo). waiting_after k told.moves o.waiting) so.2 ∙ with-entry m.it.number told.moves m.it o.waiting None m.held refl in
      let woken : is_woken waking w ≡ true = ap (is_woken waking) is ∙ m.is.woken in (
        q,
        (reflects.left q (seen-woken q woken)).1 (record {
          before = o.waiting;
          held = so.1;
          now = refl;
          not_gone = λ gone. m.is.not_gone (subst (IsGone told.acts) so.2 gone);
        }),
        woken,
        so.2 ∙ m.number_is,
      )

  found-by : (q : InboxMessage) (before : Option ℕ) → test q ≡ true → IsAt queues stalled q.message before → waiting_after q.message.number told.moves before ≡ q.waiting
      → (IsGone told.acts q.message.number → ⊥) → IsWokenIn stalled told waking q.message.number
  found-by q None is held now stays =
      let so = has-entry q.message.number told.moves None (λ none. woken-waits waking q.waiting is (sym now ∙ none)) in
      let woken : is_woken waking (waiting_after so.0.number told.moves None) ≡ true =
      ap (λ (k : MsgNo). is_woken waking (waiting_after k told.moves None)) so.2 ∙ (ap (is_woken waking) now ∙ is) in
      inr (record {
        it = so.0;
        held = so.1;
        is = record { woken = woken; not_gone = λ gone. stays (subst (IsGone told.acts) so.2 gone) };
        number_is = so.2;
      })
  found-by q (Some line) is held now stays = inl (record {
    it = record { line = line; message = q.message };
    held = held;
    is = record { woken = ap (is_woken waking) now ∙ is; not_gone = stays };
    number_is = refl;
  })

  hit-found : (n : MsgNo) → IsHit inbox test n → IsWokenIn stalled told waking n
  hit-found n hit =
      let l = (reflects.left hit.0 (seen-woken hit.0 hit.2)).0 hit.1 in
      subst (IsWokenIn stalled told waking) hit.3 (found-by hit.0 l.before hit.2 l.held l.now l.not_gone)

  pub found-hits : (numbers : List MsgNo) → Adds [] (IsWokenIn stalled told waking) numbers → (n : MsgNo) → Contains numbers n ↔ IsHit inbox test n
  found-hits numbers adds n = (
    λ has.
        ⊎_elim
        (λ none. absurd (nothing-there n none))
        (λ found. ⊎_elim (stalled-hit n) (moved-hit n) found)
        ((adds.has n).0 has),
    λ hit. (adds.has n).1 (inr (hit-found n hit)),
  )

-- of those that were stalled before, the ones under the line are enough: what waits elsewhere than before was moved
module _ (stalled : List Stalled) (told : Told) where
  under-in : (line : ℕ) (n : MsgNo) → IsWokenUnder stalled told line n → IsWokenStalled stalled told (Line line) n
  under-in line n u = record {
    it = u.it;
    held = u.held;
    is = subst (λ l. IsWoken told (Line line) u.it.message.number (Some l)) (sym u.under) u.is;
    number_is = u.number_is;
  }

  line-is : (line : ℕ) (w : Option ℕ) → is_woken (Line line) w ≡ true → w ≡ Some line
  line-is line None is = absurd (cc is)
  line-is line (Some l) is = ap (λ k. Some k) (eqb-true l line is)

  in-under : (line : ℕ) (n : MsgNo) → IsWokenStalled stalled told (Line line) n → IsWokenUnder stalled told line n ⊎ IsWokenMoved told.moves told (Line line) n
  in-under line n s =
      let number = s.it.message.number in
      let waits : waiting_after number told.moves (Some s.it.line) ≡ Some line = line-is line (waiting_after number told.moves (Some s.it.line)) s.is.woken in
      ⊎_elim
      (λ (same : s.it.line ≡ line). inl (record {
        it = s.it;
        held = s.held;
        under = same;
        is = subst (λ l. IsWoken told (Line line) number (Some l)) same s.is;
        number_is = s.number_is;
      }))
      (λ (other : s.it.line ≢ line).
      let so = has-entry number told.moves (Some s.it.line) (λ stays. let it : Some line ≡ Some s.it.line = sym waits ∙ stays in other (sym (cc it))) in
      let now : waiting_after so.0.number told.moves None ≡ Some line =
      ap (λ (k : MsgNo). waiting_after k told.moves None) so.2 ∙ (with-entry number told.moves so.0 None (Some s.it.line) so.1 so.2 ∙ waits) in
      inr (record {
        it = so.0;
        held = so.1;
        is = record {
          woken = ap (is_woken (Line line)) now ∙ eq-eqb line line refl;
          not_gone = λ gone. s.is.not_gone (subst (IsGone told.acts) so.2 gone);
        };
        number_is = so.2 ∙ s.number_is;
      }))
      (nat-same-or-not s.it.line line)

  pub kept-in : (waking : Waking) (n : MsgNo) → IsWokenKept stalled told waking n ⊎ IsWokenMoved told.moves told waking n → IsWokenIn stalled told waking n
  kept-in (Line line) n either = ⊎_elim (λ u. inl (under-in line n u)) (λ m. inr m) either
  kept-in All n either = either

  pub in-kept : (waking : Waking) (n : MsgNo) → IsWokenIn stalled told waking n → IsWokenKept stalled told waking n ⊎ IsWokenMoved told.moves told waking n
  in-kept (Line line) n either = ⊎_elim (in-under line n) (λ m. inr m) either
  in-kept All n either = either

-- of those that the scan itself has moved, the ones that it has stalled are enough
module _ (queues : Queues) (stalled : List Stalled) (told : Told) (inbox : List InboxMessage) (waking : Waking) (reflects : Reflects queues stalled told inbox) where
  pub among-moved : (n : MsgNo) → IsWokenAmong told.acts.stalled told waking n → IsWokenMoved told.moves told waking n
  among-moved n is =
      let so = has-entry n told.moves None (woken-waits waking (waiting_after n told.moves None) is.is.woken) in
      record { it = so.0; held = so.1; is = subst (λ (k : MsgNo). IsWoken told waking k None) (sym so.2) is.is; number_is = so.2 }

  pub moved-among : (n : MsgNo) → IsWokenMoved told.moves told waking n → IsWokenAmong told.acts.stalled told waking n
  moved-among n is =
      let it : IsWoken told waking n None = subst (λ (k : MsgNo). IsWoken told waking k None) is.number_is is.is in
      record { among = reflects.parked n (woken-waits waking (waiting_after n told.moves None) it.woken); is = it }

abbrev pub told_woken : Told → Waking → List MsgNo → Told
told_woken old waking numbers = record old {
  log = old.log ++ act_of waking ∷ [];
  acts = record old.acts { woken = old.acts.woken ++ numbers };
  moves = with_moves old.moves None numbers;
}

uncounted : (waking : Waking) → IsUncounted (act_of waking)
uncounted (Line line) = tt
uncounted All = tt

no-credit : (now : ℕ) (waking : Waking) → IsLater now (act_of waking)
no-credit now (Line line) = tt
no-credit now All = tt

pub act-wakes : (now : ℕ) (mail : Mail) (waking : Waking) → after_act now mail (act_of waking) ≡ woken_mail mail (λ (o : InboxMessage). is_woken waking o.waiting)
act-wakes now mail (Line line) = refl
act-wakes now mail All = refl

module _ (store : MailStore) (old : Told) (waking : Waking) (numbers : List MsgNo) (holds : Holds store.buffers.items store.stalls.kept) (are : AreOf store old)
    (adds : Adds [] (IsWokenIn store.stalls.kept old waking) numbers) where
  reflects : Reflects store.buffers.items store.stalls.kept old (changed_mail (mail_of store) old).inbox
  reflects = are.0

  abbrev mail : Mail
  mail = changed_mail (mail_of store) old

  abbrev tested : InboxMessage → Bool
  tested o = is_woken waking o.waiting

  hits : (n : MsgNo) → Contains numbers n ↔ IsHit mail.inbox tested n
  hits = found-hits store.buffers.items store.stalls.kept old mail.inbox waking holds reflects numbers adds

  woken-is : changed_mail (mail_of store) (told_woken old waking numbers) ≡ woken_mail mail tested
  woken-is = after-more old.cycle (mail_of store) old.log (act_of waking) ∙ act-wakes old.cycle mail waking

  pub does-wake : view_woken (changed_view (mail_of store) old) tested ≡ changed_view (mail_of store) (told_woken old waking numbers)
  does-wake =
      let so : numbers ≡ numbers_where mail tested = numbers-are mail.inbox tested numbers reflects.ascends adds.rises hits in
      λ i. record { mail = sym woken-is i; acts = record old.acts { woken = old.acts.woken ++ sym so i } }

  pub are-of-wake : AreOf store (told_woken old waking numbers)
  are-of-wake =
      let new = told_woken old waking numbers in (
        subst (λ (after : Mail). Reflects store.buffers.items store.stalls.kept new after.inbox) (sym woken-is)
            (shifted store.buffers.items store.stalls.kept old new numbers None mail.inbox (woken_mail mail tested).inbox holds reflects
            (woken-shifted mail.inbox tested numbers old.cycle reflects.ascends hits (λ o is. woken-waits waking o.waiting is)) refl refl (λ n gone. gone) (λ n gone. gone)
            (λ n has. Contains-append_left old.acts.woken numbers n has) (λ _ n has. Contains-append_right old.acts.woken numbers n has)
            (λ n has. has) (λ waits. absurd (waits refl))),
        fits-act (mail_of store) old (act_of waking) new.acts new.moves (uncounted waking) (no-credit old.cycle waking) are.1,
      )
