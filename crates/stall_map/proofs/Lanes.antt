-- The lanes of lines, as messages come and go: each has the numbers of its line's messages.
use Rattle.std.proofs.Common.{◌≡◌, ◌≢◌, ◌==◌, ℕ, ◌+◌, ◌-◌, ◌<◌, ◌≤◌, ◌^◌, max, Bool, true, false, not, Option, None, Some, List, [], ◌∷◌, ◌++◌, length, cond, is_err, Result, Ok, Err, OnOk, insert, take, drop, refl, sym, ap, subst, ◌∙◌, ⊎_elim, length-append, map, arith}
use Rattle.std.proofs.lemmas.List.{length-map, map-append}
use Rattle.std.proofs.lemmas.Bool.{cases_eq}
use Rattle.std.proofs.lemmas.Bool.Decides.{nat_tests}
use Rattle.std.proofs.lemmas.List.Elements.{All-filter, All-map, All-pop, All-weaker, filter-append, filter_passes}
use Rattle.std.proofs.lemmas.List.Filters.{length-filter_both}
use Rattle.std.proofs.lemmas.List.Kept.{AllPairs-filter}
use Rattle.std.specs.List.{All, AllPairs, filter}
use Rattle.std.specs.Option.{IfSome}
use Rattle.std.specs.Ordering.{nat_cmp, eq_by_cmp}
use Rattle.std.specs.Cmp.{nat_cmp_total, unsigned_tied}
use Rattle.std.specs.FinMap as map
use Rattle.ruby_value.specs.declared.message.Message.{Message}
use Rattle.ruby_value.specs.declared.message.MsgNo.{MsgNo}
use Rattle.ruby_value.specs.Prelude.{IsBefore, inserted, number_before}
use Rattle.stall_map.specs.declared.lane.Lane.{Lane}
use Rattle.stall_map.specs.declared.slots.Slot.{Slot}
use Rattle.stall_map.specs.declared.stalled.Stalled.{Stalled}
use Rattle.stall_map.specs.Prelude.{Ascends, IsNew, IsOrder, IsPrepared, IsReady, IsSplit, IsWide, SameWaiting, Serves, ServesAll, is_under, messages_of, messages_under, numbers_of, numbers_under, waiting_of, without_line}
use Rattle.stall_map.proofs.Edits.{AllPairs-image}
use Rattle.stall_map.proofs.Numbers.{before-is, not-back}
use Rattle.stall_map.proofs.Orders.{backs, fronts, order-with, parts, waiting-between}
use Rattle.stall_map.proofs.Placed.{between, filter-none}

-- lookups of lines
same-key : (a b : ℕ) → a ≡ b → eq_by_cmp nat_cmp a b ≡ true
same-key a b is = unsigned_tied a b ∙ tests a b is
  where
    tests : (a b : ℕ) → a ≡ b → (a == b) ≡ true
    tests a b is = grind (arith, nat_tests)

other-key : (a b : ℕ) → a ≢ b → eq_by_cmp nat_cmp a b ≡ false
other-key a b is = unsigned_tied a b ∙ tests a b is
  where
    tests : (a b : ℕ) → a ≢ b → (a == b) ≡ false
    tests a b is = grind (arith, nat_tests)

module _ (lanes : map.FinMap nat_cmp Lane) (line : ℕ) where
  pub gone-here : map.get (map.remove lanes line) line ≡ None
  gone-here = map.get-remove nat_cmp_total lanes line line ∙ ap (λ b. cond b None (map.get lanes line)) (same-key line line refl)

  pub gone-there : (q : ℕ) → q ≢ line → map.get (map.remove lanes line) q ≡ map.get lanes q
  gone-there q differs = map.get-remove nat_cmp_total lanes line q ∙ ap (λ b. cond b None (map.get lanes q)) (other-key q line differs)

  pub put-here : (lane : Lane) → map.get (map.insert lanes line lane) line ≡ Some lane
  put-here lane = map.get-insert nat_cmp_total lanes line lane line ∙ ap (λ b. cond b (Some lane) (map.get lanes line)) (same-key line line refl)

  pub put-there : (lane : Lane) (q : ℕ) → q ≢ line → map.get (map.insert lanes line lane) q ≡ map.get lanes q
  put-there lane q differs = map.get-insert nat_cmp_total lanes line lane q ∙ ap (λ b. cond b (Some lane) (map.get lanes q)) (other-key q line differs)

-- the numbers under a line of parts of a list
is-under : (q : ℕ) (s : Stalled) → s.line ≡ q → is_under q s ≡ true
is-under q s is = grind (arith, nat_tests)

pub not-under : (q : ℕ) (s : Stalled) → s.line ≢ q → is_under q s ≡ false
not-under q s is = tests s.line q is
  where
    tests : (a b : ℕ) → a ≢ b → (a == b) ≡ false
    tests a b is = grind (arith, nat_tests)

pub numbers-append : (q : ℕ) (xs ys : List Stalled) → numbers_under (xs ++ ys) q ≡ numbers_under xs q ++ numbers_under ys q
numbers-append q xs ys =
    ap (λ zs. map (λ (m : Message). m.number) (messages_of zs)) (filter-append (is_under q) xs ys)
    ∙ (ap (map (λ (m : Message). m.number)) (map-append (λ (s : Stalled). s.message) (filter (is_under q) xs) (filter (is_under q) ys))
    ∙ map-append (λ (m : Message). m.number) (messages_under xs q) (messages_under ys q))

pub numbers-here : (q : ℕ) (s : Stalled) (xs : List Stalled) → s.line ≡ q → numbers_under (s ∷ xs) q ≡ s.message.number ∷ numbers_under xs q
numbers-here q s xs is = rw (is-under q s is) refl

pub numbers-there : (q : ℕ) (s : Stalled) (xs : List Stalled) → s.line ≢ q → numbers_under (s ∷ xs) q ≡ numbers_under xs q
numbers-there q s xs differs = rw (not-under q s differs) refl

pub All-numbers : (P : MsgNo → Type 0) (q : ℕ) (xs : List Stalled) → All (λ (s : Stalled). P s.message.number) xs → All P (numbers_under xs q)
All-numbers P q xs all =
    All-map P (λ (m : Message). m.number) (messages_under xs q)
    (All-map (λ (m : Message). P m.number) (λ (s : Stalled). s.message) (filter (is_under q) xs) (All-filter (is_under q) (λ (s : Stalled). P s.message.number) xs all))

pub numbers-ascend : (q : ℕ) (xs : List Stalled) → Ascends xs → AllPairs IsBefore (numbers_under xs q)
numbers-ascend q xs ascending =
    AllPairs-image IsBefore (λ (m : Message). m.number) (messages_under xs q)
    (AllPairs-image (λ (a b : Message). IsBefore a.number b.number) (λ (s : Stalled). s.message) (filter (is_under q) xs)
    (AllPairs-filter (λ (a b : Stalled). IsBefore a.message.number b.message.number) (is_under q) xs ascending))

pub ok-holds : {A E P : Type 0} (r : Result A E) → is_err r ≡ false → OnOk r P → P
ok-holds (Ok a) fine holds = holds
ok-holds (Err e) fine holds = absurd (cc fine)

serves-longer : (numbers : List MsgNo) (short long : ℕ) (o : Option Lane) → short ≤ long → Serves numbers short o → Serves numbers long o
serves-longer numbers short long o le serves = record { known = serves.known; bound = omega (arith, serves.bound); ready = serves.ready }

-- one more message
module _ (slots : List Slot) (number : MsgNo) (at : ℕ) (s : Stalled) (slot : Slot) (lanes after : map.FinMap nat_cmp Lane) (longest count : ℕ)
    (order : IsOrder slots) (split : IsSplit (λ (s : Slot). s.number) number slots at) (new : IsNew (waiting_of slots) number)
    (slot_number : slot.number ≡ number) (held : slot.held ≡ Some s) (named : s.message.number ≡ number)
    (serves : ServesAll (waiting_of slots) longest lanes)
    (numbers : numbers_of (map.get after s.line) ≡ inserted number_before (numbers_of (map.get lanes s.line)) number)
    (ready : IfSome (map.get after s.line) IsReady)
    (others : (q : ℕ) → q ≢ s.line → map.get after q ≡ map.get lanes q)
    (counts : count ≡ length (numbers_of (map.get after s.line))) where
  abbrev front : List Stalled
  front = waiting_of (take at slots)

  abbrev back : List Stalled
  back = waiting_of (drop at slots)

  abbrev line : ℕ
  line = s.line

  whole : waiting_of slots ≡ front ++ back
  whole = parts slots number at order split new

  with : waiting_of (insert slots at slot) ≡ front ++ s ∷ back
  with = waiting-between slots number at order split new slot s held

  before-number : All (λ n. IsBefore n number) (numbers_under front line)
  before-number =
      All-numbers (λ n. IsBefore n number) line front
      (All-weaker (λ (h : Stalled). IsBefore h.message.number s.message.number) (λ h. IsBefore h.message.number number) (λ h is. subst (IsBefore h.message.number) named is) front
      (fronts slots number at order split new s named))

  after-number : All (IsBefore number) (numbers_under back line)
  after-number =
      All-numbers (IsBefore number) line back
      (All-weaker (λ (h : Stalled). IsBefore s.message.number h.message.number) (λ h. IsBefore number h.message.number) (λ h is. subst (λ (n : MsgNo). IsBefore n h.message.number) named is) back
      (backs slots number at order split new s named))

  here-now : numbers_under (waiting_of (insert slots at slot)) line ≡ numbers_under front line ++ number ∷ numbers_under back line
  here-now =
      ap (λ ws. numbers_under ws line) with
      ∙ (numbers-append line front (s ∷ back)
      ∙ ap (λ ns. numbers_under front line ++ ns) (numbers-here line s back refl ∙ ap (λ (n : MsgNo). n ∷ numbers_under back line) named))

  pub here : numbers_of (map.get after line) ≡ numbers_under (waiting_of (insert slots at slot)) line
  here =
      numbers
      ∙ (ap (λ ns. inserted number_before ns number) ((serves line).known ∙ (ap (λ ws. numbers_under ws line) whole ∙ numbers-append line front back))
      ∙ (sym (between number_before number (numbers_under front line) (numbers_under back line)
      (All-weaker (λ n. IsBefore n number) (λ n. number_before n number ≡ true) (λ n. before-is n number) (numbers_under front line) before-number)
      (All-weaker (λ n. IsBefore n number) (λ n. number_before number n ≡ false) (λ n. not-back n number) (numbers_under front line) before-number)
      (All-weaker (IsBefore number) (λ n. number_before n number ≡ false) (λ n. not-back number n) (numbers_under back line) after-number)
      (All-weaker (IsBefore number) (λ n. number_before number n ≡ true) (λ n. before-is number n) (numbers_under back line) after-number))
      ∙ sym here-now))

  there : (q : ℕ) → q ≢ line → numbers_under (waiting_of (insert slots at slot)) q ≡ numbers_under (waiting_of slots) q
  there q differs =
      ap (λ ws. numbers_under ws q) with
      ∙ (numbers-append q front (s ∷ back)
      ∙ (ap (λ ns. numbers_under front q ++ ns) (numbers-there q s back (λ is. differs (sym is)))
      ∙ (sym (numbers-append q front back) ∙ sym (ap (λ ws. numbers_under ws q) whole))))

  pub serves-with : ServesAll (waiting_of (insert slots at slot)) (max longest count) after
  serves-with q =
      ⊎_elim
      (λ is.
      subst (λ l. Serves (numbers_under (waiting_of (insert slots at slot)) l) (max longest count) (map.get after l)) (sym is)
      (record { known = here; bound = omega (arith, counts, ap length here); ready = ready }))
      (λ differs.
      rw (there q differs, others q differs)
      (serves-longer (numbers_under (waiting_of slots) q) longest (max longest count) (map.get lanes q) (omega arith) (serves q)))
      (cases_eq q line)

  pub one-more : length (waiting_of (insert slots at slot)) ≡ length (waiting_of slots) + 1
  one-more = omega (arith, ap length with, ap length whole, length-append front (s ∷ back), length-append front back)

  pub longer : count ≤ longest + 1
  longer =
      omega (
        arith,
        counts,
        ap length (here ∙ here-now),
        length-append (numbers_under front line) (number ∷ numbers_under back line),
        ap length (ap (λ ws. numbers_under ws line) whole ∙ numbers-append line front back),
        length-append (numbers_under front line) (numbers_under back line),
        (serves line).bound,
      )

-- the parts with one more message, for which the last of the empty lanes was there
pub prepared-with : (slots : List Slot) (number : MsgNo) (at : ℕ) (s : Stalled) (slot : Slot) (entries left waiting : ℕ) (lanes after : map.FinMap nat_cmp Lane) (lines more : ℕ)
    (pool rest : List Lane) (empty : Lane) (longest count room : ℕ)
    → IsPrepared slots entries waiting lanes lines pool longest room → 0 < room
    → IsSplit (λ (s : Slot). s.number) number slots at → IsNew (waiting_of slots) number → slot.number ≡ number → slot.held ≡ Some s → s.message.number ≡ number
    → numbers_of (map.get after s.line) ≡ inserted number_before (numbers_of (map.get lanes s.line)) number → IfSome (map.get after s.line) IsReady
    → ((q : ℕ) → q ≢ s.line → map.get after q ≡ map.get lanes q) → count ≡ length (numbers_of (map.get after s.line)) → count < 2 ^ 63
    → entries ≤ left + 1 → lines ≤ more + 1 → pool ≡ rest ++ empty ∷ []
    → IsPrepared (insert slots at slot) left (waiting + 1) after more rest (max longest count) (room - 1)
prepared-with slots number at s slot entries left waiting lanes after lines more pool rest empty longest count room is positive split new slot_number held named numbers ready others counts small le less taken =
    let bound : count ≤ longest + 1 = longer slots number at s slot lanes after longest count is.order split new slot_number held named is.serves numbers ready others counts in
    record {
      order = order-with slots number at is.order split new slot s slot_number held named;
      count = omega (arith, is.count, one-more slots number at s slot lanes after longest count is.order split new slot_number held named is.serves numbers ready others counts);
      serves = serves-with slots number at s slot lanes after longest count is.order split new slot_number held named is.serves numbers ready others counts;
      small = omega (arith, is.small);
      entries_left = omega (arith, is.entries_left);
      lines_left = omega (arith, is.lines_left);
      lanes_left = omega (arith, is.lanes_left, ap length taken, length-append rest (empty ∷ []));
      wide = λ more_left. All-weaker (IsWide (longest + room)) (IsWide (max longest count + (room - 1)))
          (λ v wide. record { empty = wide.empty; no_message = wide.no_message; numbers_fit = omega (arith, wide.numbers_fit, bound); messages_fit = omega (arith, wide.messages_fit, bound) })
          rest (All-pop (IsWide (longest + room)) pool rest (Some empty) taken (is.wide positive)).0;
    }

-- a line's lane goes, and its messages
module _ (xs : List Stalled) (line : ℕ) where
  fails : (b : Bool) → not b ≡ true → b ≡ false
  fails true is = absurd (cc is)
  fails false is = refl

  pub none-left : numbers_under (without_line xs line) line ≡ []
  none-left =
      ap (λ ys. map (λ (m : Message). m.number) (messages_of ys))
      (filter-none (is_under line) (without_line xs line)
      (All-weaker (λ s. not (is_under line s) ≡ true) (λ s. is_under line s ≡ false) (λ s is. fails (is_under line s) is) (without_line xs line)
      (filter_passes (λ s. not (is_under line s)) xs)))

  others-stay : (q : ℕ) → q ≢ line → numbers_under (without_line xs line) q ≡ numbers_under xs q
  others-stay q differs = ap (λ ys. map (λ (m : Message). m.number) (messages_of ys)) (kept xs)
    where
      kept : (ys : List Stalled) → filter (is_under q) (without_line ys line) ≡ filter (is_under q) ys
      kept [] = refl
      kept (y ∷ ys) = by (is_under line y) refl (kept ys)
        where
          other : y.line ≡ line → is_under q y ≡ false
          other is = not-under q y (λ same. differs (sym same ∙ is))

          line-is : is_under line y ≡ true → y.line ≡ line
          line-is is = grind (arith, nat_tests, is)

          by : (b : Bool) → is_under line y ≡ b → filter (is_under q) (without_line ys line) ≡ filter (is_under q) ys → filter (is_under q) (without_line (y ∷ ys) line) ≡ filter (is_under q) (y ∷ ys)
          by true is rest = rw (is, other (line-is is)) rest
          by false is rest = rw is (ap (λ zs. cond (is_under q y) (y ∷ zs) zs) rest)

  pub fewer : length (without_line xs line) + length (numbers_under xs line) ≡ length xs
  fewer =
      omega (
        arith,
        length-filter_both (is_under line) (λ s. not (is_under line s)) (λ s. refl) xs,
        length-map (filter (is_under line) xs) (λ (s : Stalled). s.message),
        length-map (messages_under xs line) (λ (m : Message). m.number),
      )

  pub serves-without : (longest : ℕ) (lanes : map.FinMap nat_cmp Lane) → ServesAll xs longest lanes → ServesAll (without_line xs line) longest (map.remove lanes line)
  serves-without longest lanes serves q =
      ⊎_elim
      (λ is.
      subst (λ l. Serves (numbers_under (without_line xs line) l) longest (map.get (map.remove lanes line) l)) (sym is)
      (rw (gone-here lanes line, none-left) (record { known = refl; bound = omega arith; ready = tt })))
      (λ differs. rw (gone-there lanes line q differs, others-stay q differs) (serves q))
      (cases_eq q line)

  -- a line without numbers has no messages
  pub none-under : numbers_under xs line ≡ [] → (messages_under xs line ≡ []) × (without_line xs line ≡ xs)
  none-under none = (empty (messages_under xs line) none, all xs (under (filter (is_under line) xs) none))
    where
      empty : (ms : List Message) → map (λ (m : Message). m.number) ms ≡ [] → ms ≡ []
      empty [] is = refl
      empty (m ∷ ms) is = absurd (cc is)

      under : (ys : List Stalled) → map (λ (m : Message). m.number) (messages_of ys) ≡ [] → ys ≡ []
      under [] is = refl
      under (y ∷ ys) is = absurd (cc is)

      all : (ys : List Stalled) → filter (is_under line) ys ≡ [] → without_line ys line ≡ ys
      all [] is = refl
      all (y ∷ ys) is = by (is_under line y) refl (all ys)
        where
          by : (b : Bool) → is_under line y ≡ b → (filter (is_under line) ys ≡ [] → without_line ys line ≡ ys) → without_line (y ∷ ys) line ≡ y ∷ ys
          by true under rest = let some : y ∷ filter (is_under line) ys ≡ [] = rw under at is in absurd (cc some)
          by false under rest = let none : filter (is_under line) ys ≡ [] = rw under at is in rw under (ap (λ zs. y ∷ zs) (rest none))

-- the parts where a line's messages were taken out
pub prepared-without : (slots mid left : List Slot) (line entries more waiting : ℕ) (numbers : List MsgNo) (lanes : map.FinMap nat_cmp Lane) (lines lines_more : ℕ) (pool : List Lane) (longest room : ℕ)
    → IsPrepared slots entries waiting lanes lines pool longest room → entries ≤ more → lines ≤ lines_more
    → numbers ≡ numbers_under (waiting_of slots) line → waiting_of mid ≡ without_line (waiting_of slots) line → SameWaiting mid left
    → IsPrepared left more (waiting - length numbers) (map.remove lanes line) lines_more pool longest room
prepared-without slots mid left line entries more waiting numbers lanes lines lines_more pool longest room is le less known out same =
    let now : waiting_of left ≡ without_line (waiting_of slots) line = same.same ∙ out in
    record {
      order = same.order;
      count = omega (arith, is.count, ap length now, ap length known, fewer (waiting_of slots) line);
      serves = rw now (serves-without (waiting_of slots) line longest lanes is.serves);
      small = is.small;
      entries_left = omega (arith, is.entries_left);
      lines_left = omega (arith, is.lines_left);
      lanes_left = is.lanes_left;
      wide = is.wide;
    }
