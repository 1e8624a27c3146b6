-- What copies make of the last arrivals, and of the sender's own inbox and marks.
use Rattle.std.proofs.Common.{◌≡◌, ℕ, zero, suc, ◌<◌, Bool, true, false, cond, eqb, max, List, [], ◌∷◌, ◌++◌, length, refl, sym, ap, ◌∙◌, arith, Some, unwrap_or, ⊎_elim}
use Rattle.std.proofs.lemmas.Bool.{cases_eq, eq-eqb, eqb-true, ne_eqb}
use Rattle.std.proofs.lemmas.List.Elements.{filter-append}
use Rattle.std.proofs.lemmas.List.Sums.{fold-append}
use Rattle.std.specs.Cmp.{nat_cmp_total, unsigned_tied}
use Rattle.std.specs.FinMap as finite
use Rattle.std.specs.List.{fold, slice_set}
use Rattle.ruby_value.specs.declared.message.Message.{Message}
use Rattle.ruby_value.specs.declared.message.Delivery.{Delivery}
use Rattle.ctl_face.specs.Prelude.{Mail, Lasts, last_at, lasts_on, with_last, mail_with_delivery, mail_with_arrival, NetworkLasts, copies_to, latest, mail_with_own}

swap_eqb : (a b : ℕ) → eqb a b ≡ eqb b a
swap_eqb a b =
    ⊎_elim (λ same. eq-eqb a b same ∙ sym (eq-eqb b a (sym same))) (λ other. ne_eqb a b other ∙ sym (ne_eqb b a (λ back. other (sym back)))) (cases_eq a b)

pub last_inserted : (lasts : Lasts) (receiver arrival q : ℕ) → last_at (finite.insert lasts receiver arrival) q ≡ cond (eqb q receiver) arrival (last_at lasts q)
last_inserted lasts receiver arrival q =
    rw (finite.get-insert nat_cmp_total lasts receiver arrival q, unsigned_tied q receiver)
    (elim (eqb q receiver) as (λ b. unwrap_or (cond b (Some arrival) (finite.get lasts q)) 0 ≡ cond b arrival (last_at lasts q)) [
      | true ↦ refl
      | false ↦ refl
    ])

pub inserted_here : (lasts : Lasts) (receiver arrival : ℕ) → last_at (finite.insert lasts receiver arrival) receiver ≡ arrival
inserted_here lasts receiver arrival =
    last_inserted lasts receiver arrival receiver ∙ ap (λ b. cond b arrival (last_at lasts receiver)) (eq-eqb receiver receiver refl)

pub inserted_elsewhere : (lasts : Lasts) (receiver arrival q : ℕ) → (q ≡ receiver → ⊥) → last_at (finite.insert lasts receiver arrival) q ≡ last_at lasts q
inserted_elsewhere lasts receiver arrival q apart =
    last_inserted lasts receiver arrival q ∙ ap (λ b. cond b arrival (last_at lasts q)) (ne_eqb q receiver apart)

-- a last arrival is written where there is a place for it
pub at_written : (P : Lasts → Type 0) (networks : List Lasts) (network : ℕ) (w : Lasts) → P (lasts_on networks network) → P w → P (lasts_on (slice_set networks network w) network)
at_written P [] network w before after = before
at_written P (l ∷ networks) zero w before after = after
at_written P (l ∷ networks) (suc network) w before after = at_written P networks network w before after

lasts_written : (networks : List Lasts) (network : ℕ) (w : Lasts) → network < length networks → lasts_on (slice_set networks network w) network ≡ w
lasts_written [] network w within = absurd (omega arith)
lasts_written (l ∷ networks) zero w within = refl
lasts_written (l ∷ networks) (suc network) w within = lasts_written networks network w (omega arith)

lasts_of_others : (networks : List Lasts) (network other : ℕ) (w : Lasts) → (other ≡ network → ⊥) → lasts_on (slice_set networks network w) other ≡ lasts_on networks other
lasts_of_others [] network other w apart = refl
lasts_of_others (l ∷ networks) zero zero w apart = absurd (apart refl)
lasts_of_others (l ∷ networks) zero (suc other) w apart = refl
lasts_of_others (l ∷ networks) (suc network) zero w apart = refl
lasts_of_others (l ∷ networks) (suc network) (suc other) w apart = lasts_of_others networks network other w (λ same. apart (ap suc same))

-- only the last arrival at the receiver is written
pub not_moved : (networks : List Lasts) (network receiver arrival q : ℕ) → (q ≡ receiver → ⊥) → last_at (lasts_on (with_last networks network receiver arrival) network) q ≡ last_at (lasts_on networks network) q
not_moved networks network receiver arrival q apart =
    let before = lasts_on networks network in
    at_written (λ (l : Lasts). last_at l q ≡ last_at before q) networks network (finite.insert before receiver arrival) refl (inserted_elsewhere before receiver arrival q apart)

latest_push : (cycle receiver : ℕ) (copies : List (Delivery Message)) (c : Delivery Message)
    → latest cycle (copies_to receiver (copies ++ c ∷ [])) ≡ cond (eqb receiver c.receiver) (max (latest cycle (copies_to receiver copies)) c.message.arrival) (latest cycle (copies_to receiver copies))
latest_push cycle receiver copies c =
    let before = latest cycle (copies_to receiver copies) in
    ap (latest cycle) (filter-append (λ (x : Delivery Message). eqb x.receiver receiver) copies (c ∷ []))
    ∙ fold-append (λ (a : ℕ) (x : Delivery Message). max a x.message.arrival) cycle (copies_to receiver copies) (copies_to receiver (c ∷ []))
    ∙ rw (swap_eqb c.receiver receiver)
    (elim (eqb receiver c.receiver) as (λ b. latest before (cond b (c ∷ []) []) ≡ cond b (max before c.message.arrival) before) [
      | true ↦ refl
      | false ↦ refl
    ])

-- a copy that is raised to the last arrival is the latest
one_latest : (b : Bool) (last before arrival sum : ℕ) → (b ≡ true → arrival ≡ max sum before) → last ≡ before → cond b arrival last ≡ cond b (max before arrival) before
one_latest true last before arrival sum raised same = let is = raised refl in omega arith
one_latest false last before arrival sum raised same = same

module _ (network : ℕ) (start : Mail) where
  pub no_lasts : (ordered : Bool) → NetworkLasts ordered network start start []
  no_lasts ordered = record {
    in_order = λ _ _ _. refl;
    other_networks = λ _ _. refl;
    unordered = λ _. refl;
    own_buffers = refl;
  }

  -- where the network is ordered, and has a place
  in_order_after : (networks : List Lasts) (copies : List (Delivery Message)) (c : Delivery Message) (sum : ℕ) → network < length networks → c.message.arrival ≡ max sum (last_at (lasts_on networks network) c.receiver)
      → ((q : ℕ) → last_at (lasts_on networks network) q ≡ latest (last_at (lasts_on start.network_last network) q) (copies_to q copies))
      → (q : ℕ) → last_at (lasts_on (with_last networks network c.receiver c.message.arrival) network) q ≡ latest (last_at (lasts_on start.network_last network) q) (copies_to q (copies ++ c ∷ []))
  in_order_after networks copies c sum within is before q =
      let lasts = lasts_on networks network in
      let first = last_at (lasts_on start.network_last network) q in
      ap (λ (l : Lasts). last_at l q) (lasts_written networks network (finite.insert lasts c.receiver c.message.arrival) within)
      ∙ last_inserted lasts c.receiver c.message.arrival q
      ∙ one_latest (eqb q c.receiver) (last_at lasts q) (latest first (copies_to q copies)) c.message.arrival sum
      (λ same. is ∙ ap (max sum) (ap (last_at lasts) (sym (eqb-true q c.receiver same)) ∙ before q)) (before q)
      ∙ sym (latest_push first q copies c)

  pub lasts_after : (ordered : Bool) (mail : Mail) (copies : List (Delivery Message)) (c : Delivery Message) (sum : ℕ) → length mail.network_last ≡ length start.network_last
      → c.message.arrival ≡ cond ordered (max sum (last_at (lasts_on mail.network_last network) c.receiver)) sum
      → NetworkLasts ordered network start mail copies → (after : Mail) → after.network_last ≡ cond ordered (with_last mail.network_last network c.receiver c.message.arrival) mail.network_last → after.local_last ≡ mail.local_last
      → NetworkLasts ordered network start after (copies ++ c ∷ [])
  lasts_after true mail copies c sum many is before after networks_are own_are = record {
    in_order = λ _ within q.
        let room : network < length mail.network_last = omega arith in
        ap (λ (ls : List Lasts). last_at (lasts_on ls network) q) networks_are ∙ in_order_after mail.network_last copies c sum room is (before.in_order refl within) q;
    other_networks = λ other apart.
        ap (λ (ls : List Lasts). lasts_on ls other) networks_are ∙ lasts_of_others mail.network_last network other _ apart ∙ before.other_networks other apart;
    unordered = λ wrong. absurd (cc wrong);
    own_buffers = own_are ∙ before.own_buffers;
  }
  lasts_after false mail copies c sum many is before after networks_are own_are = record {
    in_order = λ wrong. absurd (cc wrong);
    other_networks = λ other apart. ap (λ (ls : List Lasts). lasts_on ls other) networks_are ∙ before.other_networks other apart;
    unordered = λ _. networks_are ∙ before.unordered refl;
    own_buffers = own_are ∙ before.own_buffers;
  }

-- the copies to the sender come into its mail one by one
own_push : (me : ℕ) (mail : Mail) (copies : List (Delivery Message)) (c : Delivery Message) → mail_with_own me mail (copies ++ c ∷ []) ≡ mail_with_delivery (eqb c.receiver me) (mail_with_own me mail copies) c.message
own_push me mail copies c =
    let come = λ (m : Mail) (x : Delivery Message). mail_with_arrival m x.message in
    ap (fold come mail) (filter-append (λ (x : Delivery Message). eqb x.receiver me) copies (c ∷ []))
    ∙ fold-append come mail (copies_to me copies) (copies_to me (c ∷ []))
    ∙ elim (eqb c.receiver me) as (λ b. fold come (mail_with_own me mail copies) (cond b (c ∷ []) []) ≡ mail_with_delivery b (mail_with_own me mail copies) c.message) [
      | true ↦ refl
      | false ↦ refl
    ]

same_inbox : (mine : Bool) (a b : Mail) (m : Message) → a.inbox ≡ b.inbox → (mail_with_delivery mine a m).inbox ≡ (mail_with_delivery mine b m).inbox
same_inbox true a b m same = rw same refl
same_inbox false a b m same = same

same_marks : (mine : Bool) (a b : Mail) (m : Message) → a.marks ≡ b.marks → (mail_with_delivery mine a m).marks ≡ (mail_with_delivery mine b m).marks
same_marks true a b m same = rw same refl
same_marks false a b m same = same

module _ (me : ℕ) (start mail : Mail) (copies : List (Delivery Message)) (c : Delivery Message) where
  pub inbox_after : mail.inbox ≡ (mail_with_own me start copies).inbox → (mail_with_delivery (eqb c.receiver me) mail c.message).inbox ≡ (mail_with_own me start (copies ++ c ∷ [])).inbox
  inbox_after same = same_inbox (eqb c.receiver me) mail (mail_with_own me start copies) c.message same ∙ sym (ap (λ (m : Mail). m.inbox) (own_push me start copies c))

  pub marks_after : mail.marks ≡ (mail_with_own me start copies).marks → (mail_with_delivery (eqb c.receiver me) mail c.message).marks ≡ (mail_with_own me start (copies ++ c ∷ [])).marks
  marks_after same = same_marks (eqb c.receiver me) mail (mail_with_own me start copies) c.message same ∙ sym (ap (λ (m : Mail). m.marks) (own_push me start copies c))
