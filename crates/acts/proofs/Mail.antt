-- What a lawful local tells of its messages.
use Rattle.std.proofs.Common.{◌≡◌, ◌<◌, ◌+◌, ℕ, zero, suc, Bool, true, false, cond, eqb, not, List, [], ◌∷◌, map, filter, length, All, refl, sym, subst}
use Rattle.std.proofs.lemmas.Bool.{eq-eqb}
use Rattle.std.proofs.lemmas.List.Elements.{All-cons, All-filter, All-head, All-nil, All-tail}
use Rattle.ruby_value.specs.declared.message.MsgNo.{MsgNo}
use Rattle.ctl_face.specs.Prelude.{sent_of, IsLawful, LocalView, messages_among}
use Rattle.ruby_value.specs.declared.message.Sent.{Sent}
use Rattle.ruby_value.specs.Prelude.{numbers_from}
use Rattle.acts.specs.Prelude.{HasMailed, IsPosted}

-- of a list whose map has P each has it
module _ {X Y : Type 0} (P : Y → Type 0) (f : X → Y) where
  pub all_from_map : (xs : List X) → All P (map f xs) → All (λ x. P (f x)) xs
  all_from_map [] all = All-nil (λ x. P (f x))
  all_from_map (x ∷ xs) all = All-cons (λ x. P (f x)) x xs (All-head P (f x) (map f xs) all) (all_from_map xs (All-tail P (f x) (map f xs) all))

module _ {X : Type 0} (P Q : X → Type 0) where
  all_both : (xs : List X) → All P xs → All Q xs → All (λ x. P x × Q x) xs
  all_both xs first second = λ k d within. (first k d within, second k d within)

-- what is left has the test
module _ {X : Type 0} (t : X → Bool) where
  all_tested : (xs : List X) → All (λ x. t x ≡ true) (filter t xs)
  all_tested [] = All-nil (λ x. t x ≡ true)
  all_tested (x ∷ xs) = go (all_tested xs) (t x) refl
    where
      go : All (λ y. t y ≡ true) (filter t xs) → (b : Bool) → t x ≡ b → All (λ y. t y ≡ true) (cond b (x ∷ filter t xs) (filter t xs))
      go rest true is = All-cons (λ y. t y ≡ true) x (filter t xs) is rest
      go rest false is = rest

pub all_of_sender : (me count n : ℕ) → All (λ (number : MsgNo). number.sender ≡ me) (numbers_from me count n)
all_of_sender me count zero = All-nil (λ (number : MsgNo). number.sender ≡ me)
all_of_sender me count (suc n) = All-cons (λ (number : MsgNo). number.sender ≡ me) (record { sender = me; count = count }) (numbers_from me (count + 1) n) refl (all_of_sender me (count + 1) n)

not_eqb : (a b : ℕ) → not (eqb a b) ≡ true → ¬ (a ≡ b)
not_eqb a b is same = let wrong = eq-eqb a b same in cc

module _ (v : LocalView) (l : IsLawful v) where
  pub has_mailed : HasMailed v
  has_mailed = record {
    moves = record { moved = l.acts.1; numbers = l.acts.0.numbers; sent = l.acts.0.count };
    posted = posted;
    credits = l.acts.2;
  }
    where
      sent : All (λ (n : Sent). (n.number.sender ≡ v.actor.me) × (v.now < n.arrival)) v.acts.sent
      sent =
          all_both (λ (n : Sent). n.number.sender ≡ v.actor.me) (λ (n : Sent). v.now < n.arrival) v.acts.sent
          (all_from_map (λ (number : MsgNo). number.sender ≡ v.actor.me) (λ (n : Sent). n.number) v.acts.sent
          (subst (All (λ (number : MsgNo). number.sender ≡ v.actor.me)) (sym l.acts.0.numbers) (all_of_sender v.actor.me v.start.mail.sent (length v.acts.sent))))
          l.acts.0.arrivals

      notes : All (λ (n : Sent). ((n.number.sender ≡ v.actor.me) × (v.now < n.arrival)) × (not (eqb n.receiver v.actor.me) ≡ true)) (filter (λ (n : Sent). not (eqb n.receiver v.actor.me)) v.acts.sent)
      notes =
          all_both (λ (n : Sent). (n.number.sender ≡ v.actor.me) × (v.now < n.arrival)) (λ (n : Sent). not (eqb n.receiver v.actor.me) ≡ true) (filter (λ (n : Sent). not (eqb n.receiver v.actor.me)) v.acts.sent)
          (All-filter (λ (n : Sent). not (eqb n.receiver v.actor.me)) (λ (n : Sent). (n.number.sender ≡ v.actor.me) × (v.now < n.arrival)) v.acts.sent sent) (all_tested (λ (n : Sent). not (eqb n.receiver v.actor.me)) v.acts.sent)

      posted : All (IsPosted v.actor.me v.now) (messages_among v.acts.posted)
      posted =
          let of_copies = all_from_map (λ (n : Sent). ((n.number.sender ≡ v.actor.me) × (v.now < n.arrival)) × (not (eqb n.receiver v.actor.me) ≡ true)) sent_of (messages_among v.acts.posted) (subst (All (λ (n : Sent). ((n.number.sender ≡ v.actor.me) × (v.now < n.arrival)) × (not (eqb n.receiver v.actor.me) ≡ true))) (sym l.acts.0.for_others) notes) in
          λ k d within.
          let c = of_copies k d within in
          let routed = l.acts.0.routed k d within in
          record { sender = c.0.0; later = c.0.1; other = not_eqb _ _ c.1; not_recycled = routed.not_recycled }
