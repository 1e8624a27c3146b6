-- Slots in use and credits after the acts of a scan; and lists that are written item by item.
use Rattle.std.proofs.Common.{◌≡◌, ◌<◌, ◌≤◌, ◌+◌, ◌-◌, ◌&&◌, ◌++◌, ℕ, zero, suc, Bool, true, false, cond, not, Option, None, Some, List, [], ◌∷◌, map, min, take, get_or, length, slice_set, count_by, refl, ap, ◌∙◌, arith}
use Rattle.std.proofs.lemmas.Bool.Decides.{nat_tests}
use Rattle.std.proofs.lemmas.List.{append-nil, map-append, take_more}
use Rattle.std.proofs.lemmas.List.Elements.{filter-append}
use Rattle.std.proofs.lemmas.List.Filters.{length-filter_both}
use Rattle.std.specs.Bool.{nat_le}
use Rattle.std.specs.List.{filter}
use Rattle.ruby_value.specs.declared.message.Message.{Message}
use Rattle.ctl_face.specs.declared.parcel.Credit.{Credit as CreditOf}
use Rattle.ctl_face.specs.Prelude.{Mail, arrived_credits, at_front, free_of, is_credit_of, least_of, lent_at, mail_with_recycled, mail_with_waiting, mail_without, with_credit}
use Rattle.ctl_face.specs.Front as face
use Rattle.ctl_face.proofs.Credits.{credit_counted, lent_counted}
use Rattle.ctl_mail.specs.declared.act.MailAct.{MailAct}
use Rattle.ctl_mail.specs.declared.act.MailAct.TheVariants.{Arrive, Count, Credit, Lend, LocalLast, Mark, NetworkLast, Pop, Recycle, Stall, Wake, WakeAll}
use Rattle.ctl_mail.specs.Prelude.{AreMakeable, IsMakeable, after_act, after_acts, is_lend, lesser, mail_at_front}
use Rattle.ctl_mail.proofs.Acts.{after-first, after-none, fold-more}
use Rattle.ctl_mail.proofs.Rooms.{count-cons}
use Rattle.ctl_mail.proofs.SentActs.{makeable-first}

pub filter-few : {X : Type 0} (p : X → Bool) (xs : List X) → length (filter p xs) ≤ length xs
filter-few p xs = let both = length-filter_both p (λ x. not (p x)) (λ x. refl) xs in omega arith

-- the items before a place are changed
module _ {X : Type 0} (f : X → X) where
  pub mapped_to : ℕ → List X → List X
  mapped_to zero xs = xs
  mapped_to (suc n) [] = []
  mapped_to (suc n) (x ∷ xs) = f x ∷ mapped_to n xs

  pub mapped-none : (xs : List X) → mapped_to zero xs ≡ xs
  unfolding mapped_to
  mapped-none xs = refl

  pub mapped-here : (xs : List X) (i : ℕ) (d : X) → get_or (mapped_to i xs) i d ≡ get_or xs i d
  unfolding mapped_to
  mapped-here [] zero d = refl
  mapped-here [] (suc i) d = refl
  mapped-here (x ∷ xs) zero d = refl
  mapped-here (x ∷ xs) (suc i) d = mapped-here xs i d

  pub mapped-length : (xs : List X) (i : ℕ) → length (mapped_to i xs) ≡ length xs
  unfolding mapped_to
  mapped-length [] zero = refl
  mapped-length [] (suc i) = refl
  mapped-length (x ∷ xs) zero = refl
  mapped-length (x ∷ xs) (suc i) = let so = mapped-length xs i in omega arith

  mapped-suc : (xs : List X) (i : ℕ) (d : X) → i < length xs → slice_set (mapped_to i xs) i (f (get_or xs i d)) ≡ mapped_to (suc i) xs
  unfolding mapped_to
  mapped-suc [] i d within = absurd (omega arith)
  mapped-suc (x ∷ xs) zero d within = refl
  mapped-suc (x ∷ xs) (suc i) d within = ap (λ ys. f x ∷ ys) (mapped-suc xs i d (omega arith))

  -- one further
  pub mapped-more : (xs : List X) (i : ℕ) (x : X) → i < length xs → x ≡ get_or (mapped_to i xs) i x → slice_set (mapped_to i xs) i (f x) ≡ mapped_to (i + 1) xs
  mapped-more xs i x within is =
      let next : suc i ≡ i + 1 = omega arith in
      ap (λ (y : X). slice_set (mapped_to i xs) i (f y)) (is ∙ mapped-here xs i x) ∙ (mapped-suc xs i x within ∙ ap (λ n. mapped_to n xs) next)

  pub mapped-all : (xs : List X) (i : ℕ) → length xs ≤ i → mapped_to i xs ≡ map f xs
  unfolding mapped_to
  mapped-all [] zero past = refl
  mapped-all [] (suc i) past = refl
  mapped-all (x ∷ xs) zero past = absurd (omega arith)
  mapped-all (x ∷ xs) (suc i) past = ap (λ ys. f x ∷ ys) (mapped-all xs i (omega arith))

-- what is lent and the credits of a mail stay at acts on the front
front-same : {X : Type 0} (part : Mail → X) (mail : Mail) (change : Message → Mail) → ((m : Message) → part (change m) ≡ part mail) → (o : Option Message) → part (mail_at_front mail (at_front change o)) ≡ part mail
front-same part mail change same None = refl
front-same part mail change same (Some m) = same m

module _ (receiver buffer now : ℕ) where
  lent-one : (mail : Mail) (act : MailAct) → lent_at (after_act now mail act).lent receiver buffer ≡ lent_at mail.lent receiver buffer + count_by (is_lend receiver buffer) (act ∷ [])
  lent-one mail (Pop from) = ap (λ ls. lent_at ls receiver buffer) (front-same (λ (m : Mail). m.lent) mail (mail_without mail) (λ m. refl) (face.front mail from now)) ∙ omega arith
  lent-one mail (Recycle from arrival) = ap (λ ls. lent_at ls receiver buffer) (front-same (λ (m : Mail). m.lent) mail (mail_with_recycled mail arrival) (λ m. refl) (face.front mail from now)) ∙ omega arith
  lent-one mail (Mark cycle) = omega arith
  lent-one mail (Stall from line) = ap (λ ls. lent_at ls receiver buffer) (front-same (λ (m : Mail). m.lent) mail (mail_with_waiting mail line) (λ m. refl) (face.front mail from now)) ∙ omega arith
  lent-one mail (Wake line) = omega arith
  lent-one mail WakeAll = omega arith
  lent-one mail (Arrive m) = omega arith
  lent-one mail (Count drawn) = omega arith
  lent-one mail (NetworkLast network to arrival) = omega arith
  lent-one mail (LocalLast at arrival) = omega arith
  lent-one mail (Credit c) = omega arith
  lent-one mail (Lend to at) = let so = lent_counted mail.lent to at receiver buffer in omega arith

  -- the acts add the slots that they take
  pub lent-after : (mail : Mail) (log : List MailAct) → lent_at (after_acts now mail log).lent receiver buffer ≡ lent_at mail.lent receiver buffer + count_by (is_lend receiver buffer) log
  lent-after mail [] = ap (λ (m : Mail). lent_at m.lent receiver buffer) (after-none now mail) ∙ omega arith
  lent-after mail (act ∷ log) =
      let first = ap (λ (m : Mail). lent_at m.lent receiver buffer) (after-first now mail act log) in
      let rest = lent-after (after_act now mail act) log in
      let one = lent-one mail act in
      let count = count-cons (is_lend receiver buffer) act log in
      omega arith

  -- a credit for a later cycle hasn't arrived
  not-arrived : (credits : List CreditOf) (c : CreditOf) → now < c.arrival → arrived_credits (with_credit credits c) receiver buffer now ≡ arrived_credits credits receiver buffer now
  not-arrived credits c later =
      let counted = credit_counted credits c receiver buffer now in
      let none : (is_credit_of receiver buffer c && nat_le c.arrival now) ≡ false = grind (arith, nat_tests, later) in
      counted ∙ (ap (λ b. arrived_credits credits receiver buffer now + cond b 1 0) none ∙ omega arith)

  arrived-one : (mail : Mail) (act : MailAct) → IsMakeable now mail act → arrived_credits (after_act now mail act).credits receiver buffer now ≡ arrived_credits mail.credits receiver buffer now
  arrived-one mail (Pop from) is = ap (λ cs. arrived_credits cs receiver buffer now) (front-same (λ (m : Mail). m.credits) mail (mail_without mail) (λ m. refl) (face.front mail from now))
  arrived-one mail (Recycle from arrival) is = ap (λ cs. arrived_credits cs receiver buffer now) (front-same (λ (m : Mail). m.credits) mail (mail_with_recycled mail arrival) (λ m. refl) (face.front mail from now))
  arrived-one mail (Mark cycle) is = refl
  arrived-one mail (Stall from line) is = ap (λ cs. arrived_credits cs receiver buffer now) (front-same (λ (m : Mail). m.credits) mail (mail_with_waiting mail line) (λ m. refl) (face.front mail from now))
  arrived-one mail (Wake line) is = refl
  arrived-one mail WakeAll is = refl
  arrived-one mail (Arrive m) is = refl
  arrived-one mail (Count drawn) is = refl
  arrived-one mail (NetworkLast network to arrival) is = refl
  arrived-one mail (LocalLast at arrival) is = refl
  arrived-one mail (Lend to at) is = refl
  arrived-one mail (Credit c) is = not-arrived mail.credits c is

  -- the credits of a scan come later
  pub arrived-after : (mail : Mail) (log : List MailAct) → AreMakeable now mail log → arrived_credits (after_acts now mail log).credits receiver buffer now ≡ arrived_credits mail.credits receiver buffer now
  arrived-after mail [] are = ap (λ (m : Mail). arrived_credits m.credits receiver buffer now) (after-none now mail)
  arrived-after mail (act ∷ log) are =
      let parts = makeable-first now mail act log are in
      ap (λ (m : Mail). arrived_credits m.credits receiver buffer now) (after-first now mail act log)
      ∙ (arrived-after (after_act now mail act) log parts.1 ∙ arrived-one mail act parts.0)

pub free-after : (now : ℕ) (mail : Mail) (log : List MailAct) (s : ℕ × ℕ × ℕ) → AreMakeable now mail log
    → free_of (after_acts now mail log) now s ≡ (s.2 + arrived_credits mail.credits s.0 s.1 now - lent_at mail.lent s.0 s.1) - count_by (is_lend s.0 s.1) log
free-after now mail log s are =
    let arrived = arrived-after s.0 s.1 now mail log are in
    let lent = lent-after s.0 s.1 now mail log in
    omega arith

-- the least with one number more
least-more : (ns : List ℕ) (n : ℕ) → least_of (ns ++ n ∷ []) ≡ lesser (least_of ns) n
least-more [] n = refl
least-more (m ∷ ns) n = ap Some (fold-more min m ns n)

-- of the items up to a place that pass a test, as of those before it
module _ {X : Type 0} (p : X → Bool) (f : X → ℕ) where
  abbrev pub least_where : List X → Option ℕ
  least_where xs = least_of (map f (filter p xs))

  passed-more : (xs : List X) (x : X) (b : Bool) → p x ≡ b → filter p (xs ++ x ∷ []) ≡ filter p xs ++ cond b (x ∷ []) []
  passed-more xs x b is = filter-append p xs (x ∷ []) ∙ ap (λ t. filter p xs ++ cond t (x ∷ []) []) is

  further-more : (xs : List X) (i : ℕ) (d : X) → i < length xs → p (get_or xs i d) ≡ true → least_where (take (i + 1) xs) ≡ lesser (least_where (take i xs)) (f (get_or xs i d))
  further-more xs i d within passes =
      ap least_where (take_more xs i d within)
      ∙ (ap (λ ys. least_of (map f ys)) (passed-more (take i xs) (get_or xs i d) true passes)
      ∙ (ap least_of (map-append f (filter p (take i xs)) (get_or xs i d ∷ [])) ∙ least-more (map f (filter p (take i xs))) (f (get_or xs i d))))

  further-same : (xs : List X) (i : ℕ) (d : X) → i < length xs → p (get_or xs i d) ≡ false → least_where (take (i + 1) xs) ≡ least_where (take i xs)
  further-same xs i d within fails =
      ap least_where (take_more xs i d within)
      ∙ (ap (λ ys. least_of (map f ys)) (passed-more (take i xs) (get_or xs i d) false fails) ∙ ap (λ ys. least_of (map f ys)) (append-nil (filter p (take i xs))))

  pub least-further : (xs : List X) (i : ℕ) (d : X) → i < length xs
      → least_where (take (i + 1) xs) ≡ cond (p (get_or xs i d)) (lesser (least_where (take i xs)) (f (get_or xs i d))) (least_where (take i xs))
  least-further xs i d within =
      elim (p (get_or xs i d)) as (λ b. p (get_or xs i d) ≡ b → least_where (take (i + 1) xs) ≡ cond b (lesser (least_where (take i xs)) (f (get_or xs i d))) (least_where (take i xs))) [
        | true ↦ λ passes. further-more xs i d within passes
        | false ↦ λ fails. further-same xs i d within fails
      ] refl
