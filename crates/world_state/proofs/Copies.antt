-- The copies of a transition that fires can come to their receivers: each is for another controller, which is there, has a buffer for
-- it, and has no message of its number; and no two of them have one number.
use Rattle.std.proofs.Common.{◌≡◌, ◌≢◌, ◌≤◌, ◌+◌, ◌&&◌, ◌==◌, ℕ, zero, suc, Bool, List, [], ◌∷◌, All, filter, map, length, refl, sym, ◌∙◌, ap, subst, arith}
use Rattle.std.proofs.lemmas.Bool.{eq-eqb}
use Rattle.std.proofs.lemmas.List.Elements.{All-cons, All-filter, All-head, All-nil, All-tail, All-weaker}
use Rattle.std.proofs.lemmas.List.Kept.{AllPairs-cons, AllPairs-filter}
use Rattle.std.specs.List.{AllPairs}
use Rattle.ruby_value.proofs.Ordered.{AllPairs-head, AllPairs-nil, AllPairs-tail}
use Rattle.ruby_value.specs.declared.message.Delivery.{Delivery}
use Rattle.ruby_value.specs.declared.message.Message.{Message}
use Rattle.ctl_face.specs.declared.parcel.Credit.{Credit}
use Rattle.ctl_face.specs.declared.parcel.Parcel.{Parcel}
use Rattle.ctl_face.specs.declared.parcel.Parcel.TheVariants as parcel
use Rattle.ruby_value.specs.declared.message.MsgNo.{MsgNo}
use Rattle.ruby_value.specs.declared.message.Sent.{Sent}
use Rattle.ruby_value.specs.Prelude.{same_number, numbers_from}
use Rattle.protocol_runs.specs.Prelude.{times, mailed}
use Rattle.protocol_runs.specs.RunRules as runs_rules
use Rattle.protocol_runs.proofs.Parcels.{all-parcels}
use Rattle.protocol_runs.proofs.Tallies.{counted, one, tally}
use Rattle.ctl_face.specs.Prelude.{credits_among, messages_among, sent_of, Ctl, InboxMessage, Mail}
use Rattle.ctl_mail.specs.Prelude.{IsNewIn}
use Rattle.world_state.specs.Arrivals.{AreApart, HaveOwnNumbers}

-- what holds of mapped elements
unmap-all : {X Y : Type 0} (P : Y → Type 0) (f : X → Y) (xs : List X) → All P (map f xs) → All (λ x. P (f x)) xs
unmap-all P f [] all = All-nil (λ x. P (f x))
unmap-all P f (x ∷ xs) all = All-cons (λ y. P (f y)) x xs (All-head P (f x) (map f xs) all) (unmap-all P f xs (All-tail P (f x) (map f xs) all))

unmap-pairs : {X Y : Type 0} (Q : Y → Y → Type 0) (f : X → Y) (xs : List X) → AllPairs Q (map f xs) → AllPairs (λ a b. Q (f a) (f b)) xs
unmap-pairs Q f [] pairs = AllPairs-nil (λ a b. Q (f a) (f b))
unmap-pairs Q f (x ∷ xs) pairs =
    AllPairs-cons (λ a b. Q (f a) (f b)) x xs (unmap-all (Q (f x)) f xs (AllPairs-head Q (f x) (map f xs) pairs))
    (unmap-pairs Q f xs (AllPairs-tail Q (f x) (map f xs) pairs))

-- the next numbers of an actor
pub record IsNext (sender count : ℕ) (n : MsgNo) : Type 0 where
  pub sender_is : n.sender ≡ sender
  pub later : count ≤ n.count

all-next : (sender count n : ℕ) → All (IsNext sender count) (numbers_from sender count n)
all-next sender count zero = All-nil (IsNext sender count)
all-next sender count (suc n) =
    All-cons (IsNext sender count) _ (numbers_from sender (count + 1) n) (record { sender_is = refl; later = omega arith })
    (All-weaker (IsNext sender (count + 1)) (IsNext sender count) (λ m is. record { sender_is = is.sender_is; later = omega (arith, is.later) }) (numbers_from sender (count + 1) n) (all-next sender (count + 1) n))

abbrev Differ : MsgNo → MsgNo → Type 0
Differ a b = a ≢ b

apart-next : (sender count n : ℕ) → AllPairs Differ (numbers_from sender count n)
apart-next sender count zero = AllPairs-nil Differ
apart-next sender count (suc n) =
    AllPairs-cons Differ _ (numbers_from sender (count + 1) n)
    (All-weaker (IsNext sender (count + 1)) (Differ (record { sender = sender; count = count }))
    (λ m is same. let equal : count ≡ m.count = ap (λ (k : MsgNo). k.count) same in omega (arith, is.later, equal)) (numbers_from sender (count + 1) n) (all-next sender (count + 1) n))
    (apart-next sender (count + 1) n)

-- of the sent messages some are posted
module _ (sender count : ℕ) (notes : List Sent) (keeps : Sent → Bool) (posted : List (Delivery Message))
    (numbers : map (λ (n : Sent). n.number) notes ≡ numbers_from sender count (length notes)) (are : map sent_of posted ≡ filter keeps notes) where
  pub posted-next : All (λ (d : Delivery Message). IsNext sender count d.message.number) posted
  posted-next =
      unmap-all (λ (n : Sent). IsNext sender count n.number) sent_of posted
      (subst (λ (ns : List Sent). All (λ (n : Sent). IsNext sender count n.number) ns) (sym are)
      (All-filter keeps (λ (n : Sent). IsNext sender count n.number) notes
      (unmap-all (IsNext sender count) (λ (n : Sent). n.number) notes
      (subst (λ (ns : List MsgNo). All (IsNext sender count) ns) (sym numbers) (all-next sender count (length notes))))))

  pub posted-apart : AllPairs (λ (a b : Delivery Message). a.message.number ≢ b.message.number) posted
  posted-apart =
      unmap-pairs (λ (a b : Sent). a.number ≢ b.number) sent_of posted
      (subst (λ (ns : List Sent). AllPairs (λ (a b : Sent). a.number ≢ b.number) ns) (sym are)
      (AllPairs-filter (λ (a b : Sent). a.number ≢ b.number) keeps notes
      (unmap-pairs Differ (λ (n : Sent). n.number) notes
      (subst (λ (ns : List MsgNo). AllPairs Differ ns) (sym numbers) (apart-next sender count (length notes))))))

any-credit : (ds : List (Delivery Credit)) → All (λ (d : Delivery Credit). Unit {0}) ds
any-credit [] = All-nil (λ (d : Delivery Credit). Unit {0})
any-credit (d ∷ ds) = All-cons (λ (e : Delivery Credit). Unit {0}) d ds tt (any-credit ds)

-- Messages with different numbers are apart among credits, too.
apart-from : (receiver : ℕ) (m : Message) (ds : List (Delivery Parcel)) → All (λ (d : Delivery Message). m.number ≢ d.message.number) (messages_among ds)
    → All (AreApart (record { receiver = receiver; message = parcel.Message m })) ds
apart-from receiver m ds all =
    all-parcels (λ (d : Delivery Message). m.number ≢ d.message.number) (λ (d : Delivery Credit). Unit {0}) (λ to p. HaveOwnNumbers (parcel.Message m) p)
    (λ d differ. differ) (λ d any. tt) ds all (any-credit (credits_among ds))

credit-apart : (receiver : ℕ) (c : Credit) (ds : List (Delivery Parcel)) → All (AreApart (record { receiver = receiver; message = parcel.Credit c })) ds
credit-apart receiver c [] = All-nil (AreApart (record { receiver = receiver; message = parcel.Credit c }))
credit-apart receiver c (d ∷ ds) = All-cons (AreApart (record { receiver = receiver; message = parcel.Credit c })) d ds tt (credit-apart receiver c ds)

apart-more : (ds : List (Delivery Parcel)) (receiver : ℕ) (p : Parcel)
    → AllPairs (λ (a b : Delivery Message). a.message.number ≢ b.message.number) (messages_among (record { receiver = receiver; message = p } ∷ ds))
    → (AllPairs (λ (a b : Delivery Message). a.message.number ≢ b.message.number) (messages_among ds) → AllPairs AreApart ds)
    → AllPairs AreApart (record { receiver = receiver; message = p } ∷ ds)
apart-more ds receiver (parcel.Message m) pairs rest =
    let Differs : Delivery Message → Delivery Message → Type 0 = λ a b. a.message.number ≢ b.message.number in
    AllPairs-cons AreApart _ ds (apart-from receiver m ds (AllPairs-head Differs _ (messages_among ds) pairs))
    (rest (AllPairs-tail Differs _ (messages_among ds) pairs))
apart-more ds receiver (parcel.Credit c) pairs rest = AllPairs-cons AreApart _ ds (credit-apart receiver c ds) (rest pairs)

pub parcels-apart : (ds : List (Delivery Parcel)) → AllPairs (λ (a b : Delivery Message). a.message.number ≢ b.message.number) (messages_among ds) → AllPairs AreApart ds
parcels-apart [] pairs = AllPairs-nil AreApart
parcels-apart (d ∷ ds) pairs = apart-more ds d.receiver d.message pairs (parcels-apart ds)

pub numbers-length : (sender count n : ℕ) → length (numbers_from sender count n) ≡ n
numbers-length sender count zero = refl
numbers-length sender count (suc n) = ap suc (numbers-length sender (count + 1) n)

-- a message that comes has a number that is new to the inbox; a credit has none
abbrev pub IsNewTo : Mail → Parcel → Type 0
IsNewTo mail (parcel.Message m) = IsNewIn mail m.number
IsNewTo mail (parcel.Credit c) = Unit {0}

-- and one of an actor's next numbers
abbrev pub IsNextParcel : (sender count : ℕ) → Parcel → Type 0
IsNextParcel sender count (parcel.Message m) = IsNext sender count m.number
IsNextParcel sender count (parcel.Credit c) = Unit {0}

pub parcels-next : (sender count : ℕ) (ds : List (Delivery Parcel)) → All (λ (d : Delivery Message). IsNext sender count d.message.number) (messages_among ds)
    → All (λ (d : Delivery Parcel). IsNextParcel sender count d.message) ds
parcels-next sender count ds all =
    all-parcels (λ (d : Delivery Message). IsNext sender count d.message.number) (λ (d : Delivery Credit). Unit {0}) (λ to p. IsNextParcel sender count p)
    (λ d is. is) (λ d any. tt) ds all (any-credit (credits_among ds))

-- a number that stands nowhere in an inbox is new to it
pub same-one : (a b : MsgNo) → a ≡ b → one (same_number a b) ≡ 1
same-one a b is =
    ap one (ap (λ (x : Bool). x && a.count == b.count) (eq-eqb a.sender b.sender (ap (λ (n : MsgNo). n.sender) is)) ∙ eq-eqb a.count b.count (ap (λ (n : MsgNo). n.count) is))

none-new : (number : MsgNo) (inbox : List InboxMessage) → tally (same_number number) (map (λ (m : runs_rules.Mailed). m.number) (map mailed inbox)) ≡ 0
    → All (λ (o : InboxMessage). o.message.number ≢ number) inbox
none-new number [] none = All-nil (λ (o : InboxMessage). o.message.number ≢ number)
none-new number (o ∷ inbox) none =
    All-cons (λ (x : InboxMessage). x.message.number ≢ number) o inbox
    (λ is. let here = same-one number o.message.number (sym is) in omega (arith, none, here))
    (none-new number inbox (omega (arith, none)))

pub new-in : (x : Ctl) (number : MsgNo) → times number (map (λ (m : runs_rules.Mailed). m.number) (map mailed x.mail.inbox)) ≡ 0 → IsNewIn x.mail number
new-in x number none =
    none-new number x.mail.inbox (sym (counted (same_number number) (map (λ (m : runs_rules.Mailed). m.number) (map mailed x.mail.inbox))) ∙ none)
