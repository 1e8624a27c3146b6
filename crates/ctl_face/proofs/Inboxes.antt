-- What stays of an inbox when a message goes out of it, comes into it, or changes but for its number.
use Rattle.std.proofs.Common.{◌≡◌, not, List, map, All, IsTrue, arith}
use Rattle.std.proofs.lemmas.Grind.{common_steps}
use Rattle.std.proofs.lemmas.List.Elements.{All-filter, All-map, All-weaker}
use Rattle.std.proofs.lemmas.List.Kept.{AllPairs-filter}
use Rattle.ruby_value.specs.declared.message.MsgNo.{MsgNo}
use Rattle.ruby_value.proofs.Ordered.{All-insert, AllPairs-insert, AllPairs-map}
use Rattle.ctl_face.specs.Prelude.{InboxMessage, NumbersAscend, without_message}
use Rattle.ruby_value.specs.Prelude.{number_before, same_number}
use Rattle.ctl_face.specs.Inbox.{with_message}

pub number_before_trans : (a b c : MsgNo) → IsTrue (number_before a b) → IsTrue (number_before b c) → IsTrue (number_before a c)
number_before_trans a b c first second = grind (arith, common_steps)

abbrev pub Before : InboxMessage → InboxMessage → Type 0
Before a b = IsTrue (number_before a.message.number b.message.number)

pub ascend-without : (inbox : List InboxMessage) (number : MsgNo) → NumbersAscend inbox → NumbersAscend (without_message inbox number)
ascend-without inbox number ascends = AllPairs-filter Before (λ (o : InboxMessage). not (same_number o.message.number number)) inbox ascends

pub all-without : (P : InboxMessage → Type 0) (inbox : List InboxMessage) (number : MsgNo) → All P inbox → All P (without_message inbox number)
all-without P inbox number all = All-filter (λ (o : InboxMessage). not (same_number o.message.number number)) P inbox all

pub ascend-with : (inbox : List InboxMessage) (m : InboxMessage) → NumbersAscend inbox → NumbersAscend (with_message inbox m)
ascend-with inbox m ascends =
    AllPairs-insert Before (λ a b c. number_before_trans a.message.number b.message.number c.message.number)
    (λ (o : InboxMessage). number_before o.message.number m.message.number) (λ (o : InboxMessage). number_before m.message.number o.message.number) m
    (λ a is. is) (λ b is. is) inbox ascends

pub all-with : (P : InboxMessage → Type 0) (inbox : List InboxMessage) (m : InboxMessage) → All P inbox → P m → All P (with_message inbox m)
all-with P inbox m =
    All-insert P (λ (o : InboxMessage). number_before o.message.number m.message.number) (λ (o : InboxMessage). number_before m.message.number o.message.number) m inbox

-- a change that leaves the number
abbrev pub KeepsNumber : (InboxMessage → InboxMessage) → Type 0
KeepsNumber change = (o : InboxMessage) → (change o).message.number ≡ o.message.number

pub ascend-map : (change : InboxMessage → InboxMessage) → KeepsNumber change → (inbox : List InboxMessage) → NumbersAscend inbox → NumbersAscend (map change inbox)
ascend-map change keeps inbox ascends =
    AllPairs-map Before change (λ a b before. rw (keeps a, keeps b) before) inbox ascends

pub all-map : (P : InboxMessage → Type 0) (change : InboxMessage → InboxMessage) → ((o : InboxMessage) → P o → P (change o)) → (inbox : List InboxMessage) → All P inbox → All P (map change inbox)
all-map P change keeps inbox all = All-map P change inbox (All-weaker P (λ o. P (change o)) keeps inbox all)
