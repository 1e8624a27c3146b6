-- Woken messages go back into their buffers, one after another.
use Rattle.std.proofs.Common.{◌≡◌, ◌≢◌, ◌⊎◌, ◌↔◌, ◌≤◌, ◌+◌, ◌++◌, ℕ, List, [], ◌∷◌, refl, sym, subst, ap, ◌∙◌, inl, inr, ⊎_elim, length, All, Contains, get_or, arith}
use Rattle.std.proofs.lemmas.List.Elements.{All-cons, All-contains, All-head, All-nil, All-tail, Contains-append_left, Contains-get_or, Contains-push, Contains-push_cases}
use Rattle.std.proofs.lemmas.List.Kept.{AllPairs-cons}
use Rattle.std.specs.List.{AllPairs}
use Rattle.ruby_value.proofs.Contained.{Contains-cons_cases}
use Rattle.ruby_value.proofs.Ordered.{AllPairs-head, AllPairs-nil, AllPairs-tail}
use Rattle.ruby_value.specs.declared.message.Message.{Message}
use Rattle.msg_buffer.specs.Queue as queue
use Rattle.msg_buffer.specs.Prelude.{IsNew}
use Rattle.ctl_face.proofs.Held.{nothing-there}
use Rattle.ctl_mail.specs.Prelude.{LosesOneRoom, Queues, Replaces, queue_of, room_of}
use Rattle.ctl_mail.proofs.Inboxes.{nat-or-not}
use Rattle.ctl_mail.proofs.Puts.{in-with-from, in-with-new, in-with-old}

-- of two messages in a list, the later one is another
abbrev pub Apart : List Message → Type 0
Apart ms = AllPairs (λ (a b : Message). a.number ≢ b.number) ms

-- some messages are back in their buffers, and `rest` aren't yet
pub record IsPutBack (old now : Queues) (all rest : List Message) : Type 0 where
  pub apart : Apart rest
  pub fresh : (m : Message) → Contains rest m → IsNew (queue_of now m.buffer) m.number
  pub room : (m : Message) → Contains rest m → length rest ≤ room_of now m.buffer
  pub has : (buffer : ℕ) (m : Message)
      → (Contains (queue_of now buffer) m ⊎ (Contains rest m × (m.buffer ≡ buffer)))
      ↔ (Contains (queue_of old buffer) m ⊎ (Contains all m × (m.buffer ≡ buffer)))
  pub count : length now ≡ length old
  pub rooms : (buffer : ℕ) → room_of old buffer + length rest ≤ room_of now buffer + length all

pub put-back-none : (old : Queues) (all : List Message) → Apart all → All (λ (m : Message). IsNew (queue_of old m.buffer) m.number) all
    → All (λ (m : Message). length all ≤ room_of old m.buffer) all → IsPutBack old old all all
put-back-none old all apart fresh room = record {
  apart = apart;
  fresh = λ m has. All-contains (λ (x : Message). IsNew (queue_of old x.buffer) x.number) all m fresh has;
  room = λ m has. All-contains (λ (x : Message). length all ≤ room_of old x.buffer) all m room has;
  has = λ buffer m. (λ is. is, λ is. is);
  count = refl;
  rooms = λ buffer. omega arith;
}

length-push : (xs : List Message) (x : Message) → length (xs ++ x ∷ []) ≡ length xs + 1
length-push [] x = refl
length-push (y ∷ ys) x = let so = length-push ys x in omega arith

pairs-front : (xs : List Message) (x : Message) → Apart (xs ++ x ∷ []) → Apart xs
pairs-front [] x pairs = AllPairs-nil (λ (a b : Message). a.number ≢ b.number)
pairs-front (y ∷ ys) x pairs =
    AllPairs-cons (λ (a b : Message). a.number ≢ b.number) y ys
    (All-first (λ (b : Message). y.number ≢ b.number) ys x (AllPairs-head (λ (a b : Message). a.number ≢ b.number) y (ys ++ x ∷ []) pairs))
    (pairs-front ys x (AllPairs-tail (λ (a b : Message). a.number ≢ b.number) y (ys ++ x ∷ []) pairs))
  where
    All-first : (P : Message → Type 0) (zs : List Message) (z : Message) → All P (zs ++ z ∷ []) → All P zs
    All-first P [] z all = All-nil P
    All-first P (w ∷ ws) z all = All-cons P w ws (All-head P w (ws ++ z ∷ []) all) (All-first P ws z (All-tail P w (ws ++ z ∷ []) all))

pairs-last : (xs : List Message) (x y : Message) → Apart (xs ++ x ∷ []) → Contains xs y → y.number ≢ x.number
pairs-last [] x y pairs has = absurd (nothing-there y has)
pairs-last (z ∷ zs) x y pairs has =
    ⊎_elim
    (λ (same : z ≡ y).
    subst (λ (m : Message). m.number ≢ x.number) same
    (All-contains (λ (b : Message). z.number ≢ b.number) (zs ++ x ∷ []) x (AllPairs-head (λ (a b : Message). a.number ≢ b.number) z (zs ++ x ∷ []) pairs) (Contains-push zs x)))
    (λ there. pairs-last zs x y (AllPairs-tail (λ (a b : Message). a.number ≢ b.number) z (zs ++ x ∷ []) pairs) there)
    (Contains-cons_cases z y zs has)

module _ (old now next : Queues) (all rest : List Message) (m : Message) (is : IsPutBack old now all (rest ++ m ∷ [])) (put : Replaces now next m.buffer (queue.with_message (queue_of now m.buffer) m)) (count : length next ≡ length now) (loses : LosesOneRoom now next) where
  last : Contains (rest ++ m ∷ []) m
  last = Contains-push rest m

  -- what the buffer has after it
  now-from : (x : Message) (buffer : ℕ) → Contains (queue_of next buffer) x → ((m ≡ x) × (buffer ≡ m.buffer)) ⊎ Contains (queue_of now buffer) x
  now-from x buffer has =
      ⊎_elim
      (λ same.
      ⊎_elim
      (λ it. inl (it, same))
      (λ there. inr (subst (λ (b : ℕ). Contains (queue_of now b) x) (sym same) there))
      (in-with-from (queue_of now m.buffer) m x (subst (λ xs. Contains xs x) put.here (subst (λ (b : ℕ). Contains (queue_of next b) x) same has))))
      (λ other. inr (subst (λ xs. Contains xs x) (put.others buffer other) has))
      (nat-or-not buffer m.buffer)

  now-new : Contains (queue_of next m.buffer) m
  now-new = subst (λ xs. Contains xs m) (sym put.here) (in-with-new (queue_of now m.buffer) m)

  now-old : (x : Message) (buffer : ℕ) → Contains (queue_of now buffer) x → Contains (queue_of next buffer) x
  now-old x buffer has =
      ⊎_elim
      (λ same.
      let there : Contains (queue_of now m.buffer) x = subst (λ (b : ℕ). Contains (queue_of now b) x) same has in
      subst (λ (b : ℕ). Contains (queue_of next b) x) (sym same)
      (subst (λ xs. Contains xs x) (sym put.here)
      (in-with-old (queue_of now m.buffer) m x (All-contains (λ (o : Message). o.number ≢ m.number) (queue_of now m.buffer) x (is.fresh m last) there) there)))
      (λ other. subst (λ xs. Contains xs x) (sym (put.others buffer other)) has)
      (nat-or-not buffer m.buffer)

  fresh-still : (x : Message) → Contains rest x → IsNew (queue_of next x.buffer) x.number
  fresh-still x has k d within =
      let y = get_or (queue_of next x.buffer) k d in
      ⊎_elim
      (λ (so : (m ≡ y) × (x.buffer ≡ m.buffer)). λ same. pairs-last rest m x is.apart has (sym (ap (λ (z : Message). z.number) so.0 ∙ same)))
      (λ there. All-contains (λ (o : Message). o.number ≢ x.number) (queue_of now x.buffer) y (is.fresh x (Contains-append_left rest (m ∷ []) x has)) there)
      (now-from y x.buffer (Contains-get_or (queue_of next x.buffer) k d within))

  room-still : (x : Message) → Contains rest x → length rest ≤ room_of next x.buffer
  room-still x has =
      let before : length (rest ++ m ∷ []) ≤ room_of now x.buffer = is.room x (Contains-append_left rest (m ∷ []) x has) in
      let one : room_of now x.buffer ≤ room_of next x.buffer + 1 = loses x.buffer in
      omega (arith, length-push rest m)

  pub put-back-one : IsPutBack old next all rest
  put-back-one = record {
    apart = pairs-front rest m is.apart;
    fresh = fresh-still;
    room = room-still;
    has = λ buffer x. (
      λ either.
          (is.has buffer x).0
          (⊎_elim
          (λ in_next.
          ⊎_elim
          (λ (so : (m ≡ x) × (buffer ≡ m.buffer)). inr (subst (Contains (rest ++ m ∷ [])) so.0 last, ap (λ (z : Message). z.buffer) (sym so.0) ∙ sym so.1))
          (λ there. inl there)
          (now-from x buffer in_next))
          (λ (so : Contains rest x × (x.buffer ≡ buffer)). inr (Contains-append_left rest (m ∷ []) x so.0, so.1))
          either),
      λ either.
          ⊎_elim
          (λ in_now. inl (now-old x buffer in_now))
          (λ (so : Contains (rest ++ m ∷ []) x × (x.buffer ≡ buffer)).
          ⊎_elim
          (λ there. inr (there, so.1))
          (λ it. inl (subst (λ (b : ℕ). Contains (queue_of next b) x) (ap (λ (z : Message). z.buffer) it ∙ so.1) (subst (Contains (queue_of next m.buffer)) it now-new)))
          (Contains-push_cases rest m x so.0))
          ((is.has buffer x).1 either),
    );
    count = count ∙ is.count;
    rooms = λ buffer.
        let before : room_of old buffer + length (rest ++ m ∷ []) ≤ room_of now buffer + length all = is.rooms buffer in
        let one : room_of now buffer ≤ room_of next buffer + 1 = loses buffer in
        omega (arith, length-push rest m);
  }
