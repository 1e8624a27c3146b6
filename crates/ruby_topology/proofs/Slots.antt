-- The buffers with a size of a topology: each is one of a controller of the machine that its line names, messages are taken from it,
-- it has at most 65,536 slots for each sender, and it is there once.
use Rattle.std.proofs.Common.{◌≡◌, ◌≤◌, ◌+◌, ◌∙◌, ◌&&◌, ◌++◌, ℕ, suc, true, false, eqb, ltb, Option, None, Some, List, [], ◌∷◌, ap, refl, sym, subst, arith, true≢false, eqb-true, eq-eqb, option_and_then}
use Rattle.std.specs.Prelude.{AllPairs, slice_get}
use Rattle.std.specs.List.{All, cons_option, filter_map}
use Rattle.std.proofs.lemmas.Bool.{and_from, and_parts}
use Rattle.std.proofs.lemmas.List.Elements.{All-append, All-head, All-nil, All-tail, All-weaker}
use Rattle.std.proofs.lemmas.List.Kept.{AllPairs-cons}
use Rattle.std.proofs.lemmas.Option.{cond_some}
use Rattle.ctl_face.specs.Prelude.{IsOfMachine, IsSameBuffer, most_slots, receives, slot_buffer, slot_receiver, slot_size}
use Rattle.ruby_symbols.specs.declared.machine.BufferSymbol.{BufferSymbol}
use Rattle.ruby_symbols.specs.declared.machine.MachineSymbols.{MachineSymbols}
use Rattle.ruby_symbols.specs.declared.symbols.Symbols.{Symbols}
use Rattle.ruby_symbols.specs.Prelude.{stands_for}
use Rattle.ruby_topology.specs.declared.forms.Member.{Member}
use Rattle.ruby_topology.specs.declared.forms.Statement.{Statement}
use Rattle.ruby_topology.specs.declared.forms.Statement.TheVariants.{Machine, Network, Link, Jitter, Ordered, Cache, Tbes, Size, Set}
use Rattle.ruby_topology.specs.Prelude.{buffer_in, in_machine, IsWithin, members_from, ranges_from, receiving_in, receiving_named, sizes_buffer, slot_in, slots_from}
use Rattle.ruby_topology.proofs.Numbered.{members_are_of}
use Rattle.ruby_topology.proofs.Totals.{picked}

-- the buffer is one of the machine, and messages are taken from it
pub record OwnsBuffer (symbols : Symbols) (machine buffer : ℕ) : Type 0 where
  pub m : MachineSymbols
  pub is_m : slice_get symbols.machines machine ≡ Some m
  pub symbol : BufferSymbol
  pub is_symbol : slice_get m.buffers buffer ≡ Some symbol
  pub is_receiving : receives (Some symbol.place) ≡ true

and_then_is : {A B : Type 0} (f : A → Option B) (o : Option A) (y : B) → option_and_then f o ≡ Some y → (x : A) × (o ≡ Some x) × (f x ≡ Some y)
and_then_is f None y e = absurd (cc e)
and_then_is f (Some x) y e = (x, refl, e)

receiving_is : (o : Option BufferSymbol) (b buffer : ℕ) → receiving_in o b ≡ Some buffer → (s : BufferSymbol) × (o ≡ Some s) × (receives (Some s.place) ≡ true) × (b ≡ buffer)
receiving_is None b buffer e = absurd (cc e)
receiving_is (Some s) b buffer e =
    let h = cond_some (receives (Some s.place)) b buffer e in
    (s, refl, h.0, h.1)

-- what a line names in a machine is such a buffer
pub owns_buffer : (symbols : Symbols) (machine buffer : ℕ) (word : List ℕ) → in_machine symbols machine (λ m. receiving_named m word) ≡ Some buffer → OwnsBuffer symbols machine buffer
owns_buffer symbols machine buffer word e =
    let found = and_then_is (λ m. receiving_named m word) (slice_get symbols.machines machine) buffer e in
    let named = and_then_is (λ b. receiving_in (slice_get found.0.buffers b) b) (buffer_in (stands_for found.0 word)) buffer found.2 in
    let is = receiving_is (slice_get found.0.buffers named.0) named.0 buffer named.2 in
    record {
      m = found.0;
      is_m = found.1;
      symbol = is.0;
      is_symbol = sym (ap (slice_get found.0.buffers) is.3) ∙ is.1;
      is_receiving = is.2;
    }

-- What one line gives a controller of a machine.

record IsSlotSaid (controller machine : ℕ) (s : Statement) (x : ℕ × ℕ × ℕ) : Type 0 where
  buffer : ℕ
  slots : ℕ
  is : s ≡ Size machine buffer slots
  same : x ≡ (controller, buffer, slots)

slot_said : (controller machine : ℕ) (s : Statement) (x : ℕ × ℕ × ℕ) → slot_in controller machine s ≡ Some x → IsSlotSaid controller machine s x
slot_said controller machine (Size m b n) x e =
    let h = cond_some (eqb m machine && ltb 0 n) (controller, b, n) x e in
    let both = and_parts (eqb m machine) (ltb 0 n) h.0 in
    record { buffer = b; slots = n; is = ap (λ k. Size k b n) (eqb-true m machine both.0); same = sym h.1 }
slot_said controller machine (Machine n count) x e = absurd (cc e)
slot_said controller machine (Network n) x e = absurd (cc e)
slot_said controller machine (Link one other n) x e = absurd (cc e)
slot_said controller machine (Jitter n) x e = absurd (cc e)
slot_said controller machine (Ordered n) x e = absurd (cc e)
slot_said controller machine (Cache n table sets ways) x e = absurd (cc e)
slot_said controller machine (Tbes n table entries) x e = absurd (cc e)
slot_said controller machine (Set n value number) x e = absurd (cc e)

-- What holds of the slots of each controller holds of all.

pub slots_each : (Q : ℕ × ℕ × ℕ → Type 0) (said : List Statement) (controller : ℕ) (members : List Member)
    → ((k : ℕ) (c : Member) → slice_get members k ≡ Some c → All Q (filter_map (slot_in (controller + k) c.machine) said))
    → All Q (slots_from said controller members)
slots_each Q said controller [] each = All-nil Q
slots_each Q said controller (c ∷ members) each =
    let none : controller + 0 ≡ controller = omega arith in
    All-append Q (filter_map (slot_in controller c.machine) said) (slots_from said (controller + 1) members)
    (subst (λ n. All Q (filter_map (slot_in n c.machine) said)) none (each 0 c refl))
    (slots_each Q said (controller + 1) members
    (λ k d at.
    let next : controller + suc k ≡ controller + 1 + k = omega arith in
    subst (λ n. All Q (filter_map (slot_in n d.machine) said)) next (each (suc k) d at)))

-- each has at most 65,536 slots
pub slots_small : (said : List Statement) (controller : ℕ) (members : List Member) → All IsWithin said → All (λ s. slot_size s ≤ most_slots) (slots_from said controller members)
slots_small said controller members within =
    slots_each (λ s. slot_size s ≤ most_slots) said controller members
    (λ k c at. picked IsWithin (λ s. slot_size s ≤ most_slots) (slot_in (controller + k) c.machine) (small (controller + k) c.machine) said within)
  where
    small : (n machine : ℕ) (s : Statement) (x : ℕ × ℕ × ℕ) → IsWithin s → slot_in n machine s ≡ Some x → slot_size x ≤ most_slots
    small n machine s x w e =
        let h = slot_said n machine s x e in
        let few : h.slots ≤ 65536 = subst IsWithin h.is w in
        let size : slot_size x ≡ h.slots = ap slot_size h.same in
        omega (arith, few, size)

-- each is a buffer of a controller of its machine, from which messages are taken
pub record IsSizedBuffer (symbols : Symbols) (counts : List ℕ) (s : ℕ × ℕ × ℕ) : Type 0 where
  pub machine : ℕ
  pub of_machine : IsOfMachine (ranges_from 0 counts) machine (slot_receiver s)
  pub owns : OwnsBuffer symbols machine (slot_buffer s)

-- where that is known of each line
pub slots_are_buffers : (symbols : Symbols) (counts : List ℕ) (P : Statement → Type 0)
    → ((machine buffer slots : ℕ) → P (Size machine buffer slots) → OwnsBuffer symbols machine buffer)
    → (said : List Statement) → All P said → All (IsSizedBuffer symbols counts) (slots_from said 0 (members_from 0 counts))
slots_are_buffers symbols counts P owns said all =
    slots_each (IsSizedBuffer symbols counts) said 0 (members_from 0 counts)
    (λ k c at. picked P (IsSizedBuffer symbols counts) (slot_in (0 + k) c.machine) (sized k c at) said all)
  where
    sized : (k : ℕ) (c : Member) → slice_get (members_from 0 counts) k ≡ Some c → (s : Statement) (x : ℕ × ℕ × ℕ) → P s → slot_in (0 + k) c.machine s ≡ Some x → IsSizedBuffer symbols counts x
    sized k c at s x p e =
        let h = slot_said (0 + k) c.machine s x e in
        let number : k ≡ 0 + k = omega arith in
        subst (IsSizedBuffer symbols counts) (sym h.same)
        (record {
          machine = c.machine;
          of_machine = subst (IsOfMachine (ranges_from 0 counts) c.machine) number (members_are_of counts k c at);
          owns = owns c.machine h.buffer h.slots (subst P h.is p);
        })

-- No two are one buffer of one controller.

pairs_picked : {A B : Type 0} (R : A → A → Type 0) (S : B → B → Type 0) (pick : A → Option B) → ((a b : A) (x y : B) → R a b → pick a ≡ Some x → pick b ≡ Some y → S x y) → (xs : List A) → AllPairs R xs → AllPairs S (filter_map pick xs)
pairs_picked R S pick holds [] all = λ i j d lt within. absurd (omega arith)
pairs_picked {A} {B} R S pick holds (a ∷ xs) all =
    with_first (pick a) refl (pairs_picked R S pick holds xs (λ i j d lt within. all (suc i) (suc j) d (omega arith) (omega arith)))
  where
    with_first : (o : Option B) → pick a ≡ o → AllPairs S (filter_map pick xs) → AllPairs S (cons_option o (filter_map pick xs))
    with_first None e rest = rest
    with_first (Some x) e rest =
        AllPairs-cons S x (filter_map pick xs)
        (picked (R a) (S x) pick (λ b y r f. holds a b x y r e f) xs (λ k d lt. all 0 (suc k) d (omega arith) (omega arith))) rest

-- of two lists, each item of the first goes with each of the second
pairs_append : {X : Type 0} (S : X → X → Type 0) (xs ys : List X) → AllPairs S xs → AllPairs S ys → All (λ x. All (S x) ys) xs → AllPairs S (xs ++ ys)
pairs_append S [] ys first second across = second
pairs_append S (x ∷ xs) ys first second across =
    AllPairs-cons S x (xs ++ ys)
    (All-append (S x) xs ys (λ k d lt. first 0 (suc k) d (omega arith) (omega arith)) (All-head (λ z. All (S z) ys) x xs across))
    (pairs_append S xs ys (λ i j d lt within. first (suc i) (suc j) d (omega arith) (omega arith)) second (All-tail (λ z. All (S z) ys) x xs across))

always : {X : Type 0} (xs : List X) → All (λ (x : X). Unit {0}) xs
always xs k d lt = tt

-- the controllers of slots are those that they are made for
slots_at : (said : List Statement) (controller machine : ℕ) → All (λ s. slot_receiver s ≡ controller) (filter_map (slot_in controller machine) said)
slots_at said controller machine =
    picked (λ (s : Statement). Unit {0}) (λ s. slot_receiver s ≡ controller) (slot_in controller machine)
    (λ s x w e. ap slot_receiver (slot_said controller machine s x e).same) said (always said)

slots_after : (said : List Statement) (controller : ℕ) (members : List Member) → All (λ s. controller ≤ slot_receiver s) (slots_from said controller members)
slots_after said controller members =
    slots_each (λ s. controller ≤ slot_receiver s) said controller members
    (λ k c at. All-weaker (λ s. slot_receiver s ≡ controller + k) (λ s. controller ≤ slot_receiver s) (λ s e. omega (arith, e))
    (filter_map (slot_in (controller + k) c.machine) said) (slots_at said (controller + k) c.machine))

-- where no two lines are about one buffer
pub slots_once : (R : Statement → Statement → Type 0)
    → ((machine buffer slots m b n : ℕ) → R (Size machine buffer slots) (Size m b n) → sizes_buffer m b (Size machine buffer slots) ≡ false)
    → (said : List Statement) → AllPairs R said → (controller : ℕ) (members : List Member)
    → AllPairs (λ a b. ¬ (IsSameBuffer a b)) (slots_from said controller members)
slots_once R apart said all controller [] = λ i j d lt within. absurd (omega arith)
slots_once R apart said all controller (c ∷ members) =
    let Differ : ℕ × ℕ × ℕ → ℕ × ℕ × ℕ → Type 0 = λ a b. ¬ (IsSameBuffer a b) in
    pairs_append Differ (filter_map (slot_in controller c.machine) said) (slots_from said (controller + 1) members)
    (pairs_picked R Differ (slot_in controller c.machine) at_one said all)
    (slots_once R apart said all (controller + 1) members)
    (All-weaker (λ s. slot_receiver s ≡ controller) (λ x. All (Differ x) (slots_from said (controller + 1) members))
    (λ x here. All-weaker (λ s. controller + 1 ≤ slot_receiver s) (Differ x) (λ y there same. let one = same.0 in absurd (omega (arith, here, there, one)))
    (slots_from said (controller + 1) members) (slots_after said (controller + 1) members))
    (filter_map (slot_in controller c.machine) said) (slots_at said controller c.machine))
  where
    at_one : (s t : Statement) (x y : ℕ × ℕ × ℕ) → R s t → slot_in controller c.machine s ≡ Some x → slot_in controller c.machine t ≡ Some y → ¬ (IsSameBuffer x y)
    at_one s t x y r e f same =
        let h = slot_said controller c.machine s x e in
        let g = slot_said controller c.machine t y f in
        let both : R (Size c.machine h.buffer h.slots) (Size c.machine g.buffer g.slots) = subst (R (Size c.machine h.buffer h.slots)) g.is (subst (λ z. R z t) h.is r) in
        let one : h.buffer ≡ g.buffer = sym (ap slot_buffer h.same) ∙ same.1 ∙ ap slot_buffer g.same in
        true≢false
        (sym (and_from (eqb c.machine c.machine) (eqb h.buffer g.buffer) (eq-eqb c.machine c.machine refl) (eq-eqb h.buffer g.buffer one))
        ∙ apart c.machine h.buffer h.slots c.machine g.buffer g.slots both)
