-- Some messages of the changed inbox wait under a line from now on, or wait no longer: the changes still say what is left.
use Rattle.std.proofs.Common.{◌≡◌, ◌≢◌, ◌⊎◌, ℕ, Option, None, Some, List, sym, subst, ap, ◌∙◌, ⊎_elim, Contains}
use Rattle.ruby_value.specs.declared.message.MsgNo.{MsgNo}
use Rattle.stall_map.specs.declared.stalled.Stalled.{Stalled}
use Rattle.ctl_face.specs.Prelude.{InboxMessage, NumbersAscend}
use Rattle.ctl_mail.specs.declared.moves.Move.{Move}
use Rattle.ctl_mail.specs.Prelude.{Has, Holds, waiting_after, with_moves, Queues, IsGone, IsLeft, IsSeen, Reflects, Told}
use Rattle.ctl_mail.proofs.Inboxes.{one-of-ascending}
use Rattle.ctl_mail.proofs.AfterMoves.{in-or-not, moves-from, waits-in, waits-out}

abbrev pub waiting_so : Option ℕ → InboxMessage → InboxMessage
waiting_so w q = record { message = q.message; waiting = w }

-- the inbox after it is the one before, in which the messages of these numbers wait so
pub record IsShifted (before after : List InboxMessage) (cycle : ℕ) (numbers : List MsgNo) (w : Option ℕ) : Type 0 where
  pub ascends : NumbersAscend after
  pub held : (n : MsgNo) → Contains numbers n → (q : InboxMessage) × Contains before q × (q.message.number ≡ n) × IsSeen cycle q
  pub from : (o : InboxMessage) → Contains after o
      → (Contains before o × (Contains numbers o.message.number → ⊥))
      ⊎ ((q : InboxMessage) × Contains before q × Contains numbers q.message.number × (waiting_so w q ≡ o))
  pub stay : (o : InboxMessage) → Contains before o → (Contains numbers o.message.number → ⊥) → Contains after o
  pub move : (q : InboxMessage) → Contains before q → Contains numbers q.message.number → Contains after (waiting_so w q)

module _ (queues : Queues) (stalled : List Stalled) (old new : Told) (numbers : List MsgNo) (w : Option ℕ) (before after : List InboxMessage)
    (holds : Holds queues stalled) (reflects : Reflects queues stalled old before) (is : IsShifted before after old.cycle numbers w)
    (cycle : new.cycle ≡ old.cycle) (moves : new.moves ≡ with_moves old.moves w numbers)
    (gone_to : (n : MsgNo) → IsGone old.acts n → IsGone new.acts n) (gone_from : (n : MsgNo) → IsGone new.acts n → IsGone old.acts n)
    (woken_on : (n : MsgNo) → Contains old.acts.woken n → Contains new.acts.woken n) (woken_in : w ≡ None → (n : MsgNo) → Contains numbers n → Contains new.acts.woken n)
    (stalled_on : (n : MsgNo) → Contains old.acts.stalled n → Contains new.acts.stalled n) (stalled_in : w ≢ None → (n : MsgNo) → Contains numbers n → Contains new.acts.stalled n) where
  now-in : (n : MsgNo) (b : Option ℕ) → Contains numbers n → waiting_after n new.moves b ≡ w
  now-in n b has = ap (λ ms. waiting_after n ms b) moves ∙ waits-in n old.moves w numbers b has

  now-out : (n : MsgNo) (b : Option ℕ) → (Contains numbers n → ⊥) → waiting_after n new.moves b ≡ waiting_after n old.moves b
  now-out n b none = ap (λ ms. waiting_after n ms b) moves ∙ waits-out n old.moves w numbers b none

  -- one of these numbers is of a message that is left
  left-of : (n : MsgNo) → Contains numbers n → (q : InboxMessage) × Contains before q × (q.message.number ≡ n) × IsLeft queues stalled old q
  left-of n has =
      let so = is.held n has in
      (so.0, so.1, so.2, (reflects.left so.0 so.3).0 so.1)

  seen-before : (o : InboxMessage) → IsSeen new.cycle o → IsSeen old.cycle o
  seen-before o seen = subst (λ c. IsSeen c o) cycle seen

  on-stay : (o : InboxMessage) → IsSeen new.cycle o → Contains before o → (Contains numbers o.message.number → ⊥) → IsLeft queues stalled new o
  on-stay o seen has none =
      let l = (reflects.left o (seen-before o seen)).0 has in
      record {
        before = l.before;
        held = l.held;
        now = now-out o.message.number l.before none ∙ l.now;
        not_gone = λ gone. l.not_gone (gone_from o.message.number gone);
      }

  on-move : (q : InboxMessage) → Contains before q → Contains numbers q.message.number → IsLeft queues stalled new (waiting_so w q)
  on-move q has in_numbers =
      let so = left-of q.message.number in_numbers in
      let same : so.0 ≡ q = one-of-ascending before reflects.ascends so.0 q so.1 has so.2 in
      let l : IsLeft queues stalled old q = subst (IsLeft queues stalled old) same so.3 in
      record {
        before = l.before;
        held = l.held;
        now = now-in q.message.number l.before in_numbers;
        not_gone = λ gone. l.not_gone (gone_from q.message.number gone);
      }

  back-in : (o : InboxMessage) → IsLeft queues stalled new o → Contains numbers o.message.number → Contains after o
  back-in o l in_numbers =
      let so = left-of o.message.number in_numbers in
      let lq = so.3 in
      let one : record { message = so.0.message; waiting = lq.before } ≡ record { message = o.message; waiting = l.before } =
      holds.one (record { message = so.0.message; waiting = lq.before }) (record { message = o.message; waiting = l.before }) lq.held l.held so.2 in
      let same : so.0.message ≡ o.message = ap (λ (z : InboxMessage). z.message) one in
      let waits : w ≡ o.waiting = sym (now-in o.message.number l.before in_numbers) ∙ l.now in
      let moved : Contains after (waiting_so w so.0) = is.move so.0 so.1 (subst (Contains numbers) (sym so.2) in_numbers) in
      let eq : waiting_so w so.0 ≡ o = λ i. record { message = same i; waiting = waits i } in
      subst (Contains after) eq moved

  back-out : (o : InboxMessage) → IsSeen new.cycle o → IsLeft queues stalled new o → (Contains numbers o.message.number → ⊥) → Contains after o
  back-out o seen l none =
      is.stay o
      ((reflects.left o (seen-before o seen)).1 (record {
        before = l.before;
        held = l.held;
        now = sym (now-out o.message.number l.before none) ∙ l.now;
        not_gone = λ gone. l.not_gone (gone_to o.message.number gone);
      })) none

  was-woken : (s : Stalled) → Contains stalled s → waiting_after s.message.number new.moves (Some s.line) ≡ None → Contains new.acts.woken s.message.number
  was-woken s has back =
      ⊎_elim
      (λ in_numbers. woken_in (sym (now-in s.message.number (Some s.line) in_numbers) ∙ back) s.message.number in_numbers)
      (λ out. woken_on s.message.number (reflects.back s has (sym (now-out s.message.number (Some s.line) out) ∙ back)))
      (in-or-not numbers s.message.number)

  of-move : (m : Move) → Contains (with_moves old.moves w numbers) m → (o : InboxMessage) × Has queues stalled o × (o.message.number ≡ m.number)
  of-move m has =
      ⊎_elim
      (λ earlier. reflects.moved m earlier)
      (λ later.
      let q = left-of m.number later in
      (record { message = q.0.message; waiting = q.3.before }, q.3.held, q.2))
      (moves-from old.moves w numbers m has)

  parked-so : (n : MsgNo) → waiting_after n new.moves None ≢ None → Contains new.acts.stalled n
  parked-so n waits =
      ⊎_elim
      (λ in_numbers. stalled_in (λ none. waits (now-in n None in_numbers ∙ none)) n in_numbers)
      (λ out. stalled_on n (reflects.parked n (λ none. waits (now-out n None out ∙ none))))
      (in-or-not numbers n)

  pub shifted : Reflects queues stalled new after
  shifted = record {
    ascends = is.ascends;
    left = λ o seen. (
      λ has.
          ⊎_elim
          (λ (so : Contains before o × (Contains numbers o.message.number → ⊥)). on-stay o seen so.0 so.1)
          (λ (so : (q : InboxMessage) × Contains before q × Contains numbers q.message.number × (waiting_so w q ≡ o)).
          subst (IsLeft queues stalled new) so.3 (on-move so.0 so.1 so.2))
          (is.from o has),
      λ l.
          ⊎_elim
          (λ in_numbers. back-in o l in_numbers)
          (λ out. back-out o seen l out)
          (in-or-not numbers o.message.number),
    );
    back = was-woken;
    moved = λ m has. of-move m (subst (λ ms. Contains ms m) moves has);
    parked = parked-so;
  }
