-- The first of two messages, and of those that were stalled before a scan and are ready now.
use Rattle.std.proofs.Common.{◌≡◌, ◌⊎◌, ◌<◌, ◌+◌, ◌++◌, ℕ, Bool, true, false, cond, Option, None, Some, List, [], ◌∷◌, refl, sym, ap, subst, ◌∙◌, inl, inr, ⊎_elim, length, Contains, get_or, take, arith}
use Rattle.std.specs.List.{find}
use Rattle.std.proofs.lemmas.Bool.Decides.{nat_tests}
use Rattle.std.proofs.lemmas.List.{take_more}
use Rattle.std.proofs.lemmas.List.Elements.{All-contains, Contains-append_left, Contains-push, Contains-push_cases}
use Rattle.ruby_value.specs.declared.message.Message.{Message}
use Rattle.ruby_value.specs.declared.message.MsgNo.{MsgNo}
use Rattle.ruby_value.specs.Prelude.{IsBefore, same_number}
use Rattle.ruby_value.proofs.Contained.{Contains-cons_cases}
use Rattle.ruby_value.proofs.Ordered.{AllPairs-head, AllPairs-tail}
use Rattle.stall_map.specs.declared.stalled.Stalled.{Stalled}
use Rattle.stall_map.specs.Prelude.{Ascends}
use Rattle.msg_buffer.specs.Prelude.{ComesBefore, comes_before}
use Rattle.ctl_face.proofs.Held.{nothing-there}
use Rattle.ctl_mail.specs.Prelude.{IsBack, IsBackAmong, IsBackNow, IsBackOf, IsFirst, IsFirstWith, IsKept, IsLeast, IsNearer, IsReplaced, first_of_two, is_nearer, Told}
use Rattle.ctl_mail.proofs.Inboxes.{same-test}
use Rattle.ctl_mail.proofs.Leasts.{least-as}
use Rattle.ctl_mail.proofs.Located.{found-in, none-found, numbers-same}

before-by : (a b : Message) → comes_before a b ≡ true → ComesBefore a b
before-by a b is = grind (arith, nat_tests, is)

not-before-by : (a b : Message) → comes_before a b ≡ false → ComesBefore a b → ⊥
not-before-by a b is before = grind (arith, nat_tests, is, before)

far : (a b c : Message) → ComesBefore a b → ComesBefore b c → ComesBefore a c
far a b c ab bc = grind (arith, ab, bc)

-- what isn't after another comes before all that are after that
no-less : (a b c : Message) → (ComesBefore a b → ⊥) → (ComesBefore b c → ⊥) → ComesBefore a c → ⊥
no-less a b c not_ab not_bc ac = grind (arith, not_ab, not_bc, ac)

module _ (P Q : Message → Type 0) where
  abbrev pub Either : Message → Type 0
  Either m = P m ⊎ Q m

  by-test : (x y : Message) (b : Bool) → comes_before y x ≡ b → IsFirst P x → IsFirst Q y → IsLeast Either (cond b (Some y) (Some x))
  by-test x y true is first second = record {
    one = inr second.one;
    none_before = λ other has before.
        ⊎_elim
        (λ p. first.none_before other p (far other y x before (before-by y x is)))
        (λ q. second.none_before other q before)
        has;
  }
  by-test x y false is first second = record {
    one = inl first.one;
    none_before = λ other has before.
        ⊎_elim
        (λ p. first.none_before other p before)
        (λ q. no-less other y x (second.none_before other q) (not-before-by y x is) before)
        has;
  }

  pub least-of-two : (a b : Option Message) → IsLeast P a → IsLeast Q b → IsLeast Either (first_of_two a b)
  least-of-two None None first second = λ m has. ⊎_elim (first m) (second m) has
  least-of-two None (Some y) first second = record {
    one = inr second.one;
    none_before = λ other has before. ⊎_elim (λ p. first other p) (λ q. second.none_before other q before) has;
  }
  least-of-two (Some x) None first second = record {
    one = inl first.one;
    none_before = λ other has before. ⊎_elim (λ p. first.none_before other p before) (λ q. second other q) has;
  }
  least-of-two (Some x) (Some y) first second = by-test x y (comes_before y x) refl first second

  -- the second has none
  pub least-first : (a : Option Message) → ((m : Message) → Q m → ⊥) → IsLeast P a → IsLeast Either a
  least-first a none first = least-as P Either (λ m p. inl p) (λ m has. ⊎_elim (λ p. p) (λ q. absurd (none m q)) has) a first

-- a first one, and another kind beside
module _ (P Q : Message → Type 0) where
  kept-first : (o : Option Message) → ((m : Message) → Q m → IsNearer m o → ⊥) → IsLeast P o → IsLeast (Either P Q) o
  kept-first None none first = λ m has. ⊎_elim (first m) (λ q. none m q tt) has
  kept-first (Some x) none first = record {
    one = inl first.one;
    none_before = λ other has before. ⊎_elim (λ p. first.none_before other p before) (λ q. none other q before) has;
  }

  nearer-first : (o : Option Message) (y : Message) → IsFirst Q y → IsNearer y o → IsLeast P o → IsFirst (Either P Q) y
  nearer-first None y it nearer first = record {
    one = inr it.one;
    none_before = λ other has before. ⊎_elim (λ p. first other p) (λ q. it.none_before other q before) has;
  }
  nearer-first (Some x) y it nearer first = record {
    one = inr it.one;
    none_before = λ other has before. ⊎_elim (λ p. first.none_before other p (far other y x before nearer)) (λ q. it.none_before other q before) has;
  }

  pub least-with : (old new : Option Message) → IsLeast P old → IsFirstWith Q old new → IsLeast (Either P Q) new
  least-with old new first is =
      ⊎_elim
      (λ (kept : IsKept Q old new). subst (IsLeast (Either P Q)) (sym kept.same) (kept-first old kept.none_nearer first))
      (λ (replaced : IsReplaced Q old new). subst (IsLeast (Either P Q)) (sym replaced.is) (nearer-first old replaced.by replaced.first replaced.nearer first))
      is

nearer-by : (m : Message) (o : Option Message) → is_nearer m o ≡ true → IsNearer m o
nearer-by m None is = tt
nearer-by m (Some x) is = before-by m x is

not-nearer-by : (m : Message) (o : Option Message) → is_nearer m o ≡ false → IsNearer m o → ⊥
not-nearer-by m None is nearer = absurd (cc is)
not-nearer-by m (Some x) is nearer = not-before-by m x is nearer

-- of what waits, each number is of one alone
not-before-itself : (n : MsgNo) → IsBefore n n → ⊥
not-before-itself n is = grind (arith, is)

one-stalled : (xs : List Stalled) (a b : Stalled) → Ascends xs → Contains xs a → Contains xs b → a.message.number ≡ b.message.number → a ≡ b
one-stalled [] a b ascends has_a has_b same = absurd (nothing-there a has_a)
one-stalled (x ∷ xs) a b ascends has_a has_b same =
    let after : (z : Stalled) → Contains xs z → IsBefore x.message.number z.message.number = λ z there.
    All-contains (λ (y : Stalled). IsBefore x.message.number y.message.number) xs z (AllPairs-head (λ (p q : Stalled). IsBefore p.message.number q.message.number) x xs ascends) there in
    ⊎_elim
    (λ (is_a : x ≡ a).
    ⊎_elim
    (λ (is_b : x ≡ b). sym is_a ∙ is_b)
    (λ there_b.
    let number : x.message.number ≡ b.message.number = ap (λ (z : Stalled). z.message.number) is_a ∙ same in
    absurd (not-before-itself b.message.number (subst (λ n. IsBefore n b.message.number) number (after b there_b))))
    (Contains-cons_cases x b xs has_b))
    (λ there_a.
    ⊎_elim
    (λ (is_b : x ≡ b).
    let number : x.message.number ≡ a.message.number = ap (λ (z : Stalled). z.message.number) is_b ∙ sym same in
    absurd (not-before-itself a.message.number (subst (λ n. IsBefore n a.message.number) number (after a there_a))))
    (λ there_b. one-stalled xs a b (AllPairs-tail (λ (p q : Stalled). IsBefore p.message.number q.message.number) x xs ascends) there_a there_b same)
    (Contains-cons_cases x b xs has_b))
    (Contains-cons_cases x a xs has_a)

module _ (stalled : List Stalled) (told : Told) (buffer : ℕ) where
  pub among-none : (numbers : List MsgNo) → IsLeast (IsBackAmong (take 0 numbers) stalled told buffer) None
  among-none numbers = λ m back. nothing-there m.number back.among

  -- one number more
  pub among-more : (numbers : List MsgNo) (i : ℕ) (d : MsgNo) → i < length numbers → (a b : Option Message) → IsLeast (IsBackAmong (take i numbers) stalled told buffer) a
      → IsFirstWith (IsBackOf stalled told buffer (get_or numbers i d)) a b → IsLeast (IsBackAmong (take (i + 1) numbers) stalled told buffer) b
  among-more numbers i d within a b first second =
      let P : Message → Type 0 = IsBackAmong (take i numbers) stalled told buffer in
      let Q : Message → Type 0 = IsBackOf stalled told buffer (get_or numbers i d) in
      let more : take (i + 1) numbers ≡ take i numbers ++ get_or numbers i d ∷ [] = take_more numbers i d within in
      least-as (Either P Q) (IsBackAmong (take (i + 1) numbers) stalled told buffer)
      (λ m either.
      ⊎_elim
      (λ (back : P m). record {
        is = back.is;
        among = subst (λ (ns : List MsgNo). Contains ns m.number) (sym more) (Contains-append_left (take i numbers) (get_or numbers i d ∷ []) m.number back.among);
      })
      (λ (back : Q m). record {
        is = back.is;
        among =
            subst (λ (ns : List MsgNo). Contains ns m.number) (sym more)
            (subst (λ n. Contains (take i numbers ++ n ∷ []) m.number) back.number_is (Contains-push (take i numbers) m.number));
      })
      either)
      (λ m back.
      ⊎_elim
      (λ earlier. inl (record { is = back.is; among = earlier }))
      (λ (same : get_or numbers i d ≡ m.number). inr (record { is = back.is; number_is = sym same }))
      (Contains-push_cases (take i numbers) (get_or numbers i d) m.number (subst (λ (ns : List MsgNo). Contains ns m.number) more back.among)))
      b (least-with P Q a b first second)

  -- all that are back are among the woken ones
  pub among-all : (numbers : List MsgNo) → ((m : Message) → IsBack stalled told buffer m → Contains numbers m.number) → (o : Option Message)
      → IsLeast (IsBackAmong numbers stalled told buffer) o → IsLeast (IsBack stalled told buffer) o
  among-all numbers woken o is =
      least-as (IsBackAmong numbers stalled told buffer) (IsBack stalled told buffer) (λ m back. back.is) (λ m back. record { is = back; among = woken m back }) o is

  not-itself : (m : Message) → ComesBefore m m → ⊥
  not-itself m before = grind (arith, before)

  module _ (ascends : Ascends stalled) (number : MsgNo) where
    abbrev is_of : Stalled → Bool
    is_of x = same_number x.message.number number

    named : (s : Stalled) → find is_of stalled ≡ Some s → s.message.number ≡ number
    named s found = numbers-same s.message.number number (found-in is_of stalled s found).1

    only : (s : Stalled) → find is_of stalled ≡ Some s → (m : Message) (back : IsBackOf stalled told buffer number m) → record { line = back.is.line; message = m } ≡ s
    only s found m back =
        one-stalled stalled (record { line = back.is.line; message = m }) s ascends back.is.held (found-in is_of stalled s found).0 (back.number_is ∙ sym (named s found))

    -- the one of the number is back, and comes first
    pub back-first : (s : Stalled) (old : Option Message) → find is_of stalled ≡ Some s → IsBackNow told buffer s → is_nearer s.message old ≡ true
        → IsFirstWith (IsBackOf stalled told buffer number) old (Some s.message)
    back-first s old found now nearer = inr (record {
      by = s.message;
      is = refl;
      first = record {
        one = record { is = record { line = s.line; held = (found-in is_of stalled s found).0; now = now }; number_is = named s found };
        none_before = λ other back before.
            not-itself s.message (subst (λ (m : Message). ComesBefore m s.message) (ap (λ (x : Stalled). x.message) (only s found other back)) before);
      };
      nearer = nearer-by s.message old nearer;
    })

    pub not-nearer : (s : Stalled) (old : Option Message) → find is_of stalled ≡ Some s → is_nearer s.message old ≡ false → IsFirstWith (IsBackOf stalled told buffer number) old old
    not-nearer s old found is = inl (record {
      same = refl;
      none_nearer = λ m back nearer.
          not-nearer-by s.message old is (subst (λ (x : Message). IsNearer x old) (ap (λ (x : Stalled). x.message) (only s found m back)) nearer);
    })

    pub not-here : (s : Stalled) (old : Option Message) → find is_of stalled ≡ Some s → (IsBackNow told buffer s → ⊥) → IsFirstWith (IsBackOf stalled told buffer number) old old
    not-here s old found none = inl (record {
      same = refl;
      none_nearer = λ m back nearer. none (subst (IsBackNow told buffer) (only s found m back) back.is.now);
    })

    pub nowhere : (old : Option Message) → find is_of stalled ≡ None → IsFirstWith (IsBackOf stalled told buffer number) old old
    nowhere old none = inl (record {
      same = refl;
      none_nearer = λ m back nearer.
          none-found is_of stalled none (record { line = back.is.line; message = m }) back.is.held (same-test m.number number back.number_is);
    })
