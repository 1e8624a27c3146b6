-- The messages and the credits among what goes to other controllers, after more has been posted.
use Rattle.std.proofs.Common.{◌≡◌, ◌<◌, ℕ, Bool, true, false, cond, eqb, not, List, [], ◌∷◌, ◌++◌, map, All, refl, sym, ap, subst, ◌∙◌, is_some}
use Rattle.std.proofs.lemmas.Bool.{and_parts, eq-eqb, ltb-true, not-true}
use Rattle.std.proofs.lemmas.List.{append-nil}
use Rattle.std.proofs.lemmas.List.Concat.{flat_map-append}
use Rattle.std.proofs.lemmas.List.Elements.{All-append, All-cons, All-nil}
use Rattle.std.specs.Bool.{nat_lt}
use Rattle.std.specs.Prelude.{◌&&◌}
use Rattle.ruby_value.specs.declared.message.Delivery.{Delivery}
use Rattle.ruby_value.specs.declared.message.Message.{Message}
use Rattle.ruby_value.specs.declared.message.MsgNo.{MsgNo}
use Rattle.ctl_face.specs.declared.parcel.Credit.{Credit}
use Rattle.ctl_face.specs.declared.parcel.Parcel.{Parcel}
use Rattle.ctl_face.specs.Prelude.{IsCreditFor, for_others, parcels_for_others, Actor, credit_in_parcel, credits_among, message_in_parcel, messages_among, with_credit_parcel, with_message_parcel, controller_count, size_of, credit_for, had_slot, posted_credits}

pub messages_among-append : (xs ys : List (Delivery Parcel)) → messages_among (xs ++ ys) ≡ messages_among xs ++ messages_among ys
messages_among-append xs ys = flat_map-append (λ (d : Delivery Parcel). message_in_parcel d.receiver d.message) xs ys

pub credits_among-append : (xs ys : List (Delivery Parcel)) → credits_among (xs ++ ys) ≡ credits_among xs ++ credits_among ys
credits_among-append xs ys = flat_map-append (λ (d : Delivery Parcel). credit_in_parcel d.receiver d.message) xs ys

pub messages_among-messages : (copies : List (Delivery Message)) → messages_among (map with_message_parcel copies) ≡ copies
messages_among-messages [] = refl
messages_among-messages (c ∷ copies) = ap (λ (cs : List (Delivery Message)). c ∷ cs) (messages_among-messages copies)

pub credits_among-messages : (copies : List (Delivery Message)) → credits_among (map with_message_parcel copies) ≡ []
credits_among-messages [] = refl
credits_among-messages (c ∷ copies) = credits_among-messages copies

pub messages_among-credits : (credits : List (Delivery Credit)) → messages_among (map with_credit_parcel credits) ≡ []
messages_among-credits [] = refl
messages_among-credits (c ∷ credits) = messages_among-credits credits

pub credits_among-credits : (credits : List (Delivery Credit)) → credits_among (map with_credit_parcel credits) ≡ credits
credits_among-credits [] = refl
credits_among-credits (c ∷ credits) = ap (λ (cs : List (Delivery Credit)). c ∷ cs) (credits_among-credits credits)

-- after a send
pub messages_after_sending : (posted : List (Delivery Parcel)) (me : ℕ) (copies : List (Delivery Message)) → messages_among (posted ++ parcels_for_others me copies) ≡ messages_among posted ++ for_others me copies
messages_after_sending posted me copies =
    messages_among-append posted (parcels_for_others me copies) ∙ ap (λ (cs : List (Delivery Message)). messages_among posted ++ cs) (messages_among-messages (for_others me copies))

pub credits_after_sending : (posted : List (Delivery Parcel)) (me : ℕ) (copies : List (Delivery Message)) → credits_among (posted ++ parcels_for_others me copies) ≡ credits_among posted
credits_after_sending posted me copies =
    credits_among-append posted (parcels_for_others me copies) ∙ ap (λ (cs : List (Delivery Credit)). credits_among posted ++ cs) (credits_among-messages (for_others me copies)) ∙ append-nil (credits_among posted)

-- after a dequeue
module _ (actor : Actor) (buffer now : ℕ) (number : MsgNo) where
  no_messages : (b : Bool) → messages_among (cond b (with_credit_parcel (credit_for actor buffer now number) ∷ []) []) ≡ []
  no_messages true = refl
  no_messages false = refl

  pub messages_among-posted_credits : messages_among (posted_credits actor buffer now number) ≡ []
  messages_among-posted_credits = no_messages (had_slot actor buffer number && not (eqb number.sender actor.me))

  pub messages_after_dequeue : (posted : List (Delivery Parcel)) → messages_among (posted ++ posted_credits actor buffer now number) ≡ messages_among posted
  messages_after_dequeue posted =
      messages_among-append posted (posted_credits actor buffer now number) ∙ ap (λ (cs : List (Delivery Message)). messages_among posted ++ cs) messages_among-posted_credits ∙ append-nil (messages_among posted)

  -- the credit is for another controller, of which there is one of this number
  is_credit : (slot other : Bool) → (slot ≡ true → number.sender < controller_count actor.routes) → (other ≡ true → ¬ (number.sender ≡ actor.me))
      → All (IsCreditFor actor now) (credits_among (cond (slot && other) (with_credit_parcel (credit_for actor buffer now number) ∷ []) []))
  is_credit true true there apart =
      All-cons (IsCreditFor actor now) (credit_for actor buffer now number) []
      (record { to_other = apart refl; to_controller = there refl; of_this = refl; arrival = refl }) (All-nil (IsCreditFor actor now))
  is_credit true false there apart = All-nil (IsCreditFor actor now)
  is_credit false other there apart = All-nil (IsCreditFor actor now)

  other_sender : not (eqb number.sender actor.me) ≡ true → ¬ (number.sender ≡ actor.me)
  other_sender is same =
      let wrong : eqb number.sender actor.me ≡ false = not-true (eqb number.sender actor.me) is in
      absurd (cc (wrong, eq-eqb number.sender actor.me same))

  sender_there : had_slot actor buffer number ≡ true → number.sender < controller_count actor.routes
  sender_there is =
      ltb-true number.sender (controller_count actor.routes)
      (and_parts (is_some (size_of actor.routes actor.me buffer)) (nat_lt number.sender (controller_count actor.routes)) is).1

  pub credits_after_dequeue : (posted : List (Delivery Parcel)) → All (IsCreditFor actor now) (credits_among posted) → All (IsCreditFor actor now) (credits_among (posted ++ posted_credits actor buffer now number))
  credits_after_dequeue posted all =
      subst (All (IsCreditFor actor now)) (sym (credits_among-append posted (posted_credits actor buffer now number)))
      (All-append (IsCreditFor actor now) (credits_among posted) (credits_among (posted_credits actor buffer now number)) all
      (is_credit (had_slot actor buffer number) (not (eqb number.sender actor.me)) sender_there other_sender))
