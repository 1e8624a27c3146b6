-- What is known of all that the lines of a file say: it is within the ranges, it is of the machine's own tables, buffers and numbers, it is
-- said once, and there are 64 controllers at most.
use Rattle.std.proofs.Common.{◌≡◌, ◌<◌, ◌≤◌, ◌+◌, ◌*◌, ◌∙◌, ◌&&◌, ℕ, Bool, true, false, cond, eqb, leb, ltb, Option, None, Some, Result, Ok, Err, IfOk, List, [], ◌∷◌, ◌++◌, ap, refl, sym, subst, arith, true≢false, length, get_or, le→leb, leb-true, ltb-false}
use Rattle.std.specs.Prelude.{AllPairs, pos, ◌≤ℤ◌, slice_get}
use Rattle.std.specs.List.{All, list_all, list_any}
use Rattle.std.proofs.lemmas.Bool.{and_parts, false_from_ne_true}
use Rattle.std.proofs.lemmas.List.Elements.{All-nil, All-push}
use Rattle.std.proofs.lemmas.List.Folds.{list_any_at}
use Rattle.std.proofs.lemmas.List.Quantifiers.{all_pairs_push}
use Rattle.std.proofs.lemmas.List.Sums.{sum_by_push}
use Rattle.std.proofs.lemmas.Option.{cond_some}
use Rattle.ruby_value.specs.declared.kind.Kind.{Kind}
use Rattle.ruby_value.specs.declared.kind.Kind.TheVariants as kind
use Rattle.ruby_symbols.specs.declared.machine.MachineSymbols.{MachineSymbols}
use Rattle.ruby_symbols.specs.declared.machine.TableSort.{TableSort}
use Rattle.ruby_symbols.specs.declared.machine.TableSort.TheVariants as sort
use Rattle.ruby_symbols.specs.declared.symbols.Symbols.{Symbols}
use Rattle.ruby_symbols.specs.declared.types.FieldSymbol.{FieldSymbol}
use Rattle.ruby_symbols.specs.Prelude.{machine_named, stands_for}
use Rattle.ruby_topology.specs.declared.forms.Form.{Form}
use Rattle.ruby_topology.specs.declared.forms.Form.TheVariants as form
use Rattle.ruby_topology.specs.declared.forms.TheConstants.{T2_NUMBER, T3_NAME, T4_TWICE, T6_TOO_MANY}
use Rattle.ruby_topology.specs.declared.forms.Network.TheVariants.{PointToPoint, Crossbar, Mesh, Links}
use Rattle.ruby_topology.specs.declared.forms.Statement.{Statement}
use Rattle.ruby_topology.specs.declared.forms.Statement.TheVariants.{Machine, Network, Link, Jitter, Ordered, Cache, Tbes, Size, Set}
use Rattle.ruby_topology.specs.Prelude.{form_of, Reading, Says, added, after_those, cache_in, cache_line, cache_named, crossbar_line, in_machine, is_int, jitter_line, judged, link_line, machine_line, mesh_line, needs, number_at, number_named, ordered_line, point_to_point_line, read_from, reading, says_in, receiving_named, set_line, size_line, sizes_buffer, sort_at, table_in, tbes_in, tbes_line, tbes_named, value_in, with_line, member_named, controllers, counted, is_links, is_said, network_said, sets_value, sizes_table, before_comment, is_digit, is_number_within, is_some_word, word_at, words_of, IsWithin}
use Rattle.ruby_topology.specs.Lines.{number_in}
use Rattle.ruby_topology.specs.Text.{value_of}
use Rattle.ruby_topology.proofs.Slots.{OwnsBuffer, owns_buffer}
use Rattle.protocol_meaning.proofs.Places.{and_then_found}

-- The table, buffer or number that a line is about is one of its machine.
pub record OwnsCache (symbols : Symbols) (machine table : ℕ) : Type 0 where
  pub m : MachineSymbols
  pub is_m : slice_get symbols.machines machine ≡ Some m
  pub is_sort : sort_at m table ≡ Some sort.Cache

pub record OwnsTbes (symbols : Symbols) (machine table : ℕ) : Type 0 where
  pub m : MachineSymbols
  pub is_m : slice_get symbols.machines machine ≡ Some m
  pub entries : ℕ
  pub is_sort : sort_at m table ≡ Some (sort.Tbe entries)

pub record OwnsNumber (symbols : Symbols) (machine value : ℕ) : Type 0 where
  pub m : MachineSymbols
  pub is_m : slice_get symbols.machines machine ≡ Some m
  pub field : FieldSymbol
  pub is_field : slice_get m.values value ≡ Some field
  pub is_number : field.kind ≡ kind.Int

abbrev pub IsOwn : Symbols → Statement → Type 0
IsOwn symbols (Cache machine table sets ways) = OwnsCache symbols machine table
IsOwn symbols (Tbes machine table entries) = OwnsTbes symbols machine table
IsOwn symbols (Size machine buffer slots) = OwnsBuffer symbols machine buffer
IsOwn symbols (Set machine value number) = OwnsNumber symbols machine value
IsOwn symbols _ = Unit {0}

pub record IsSound (symbols : Symbols) (s : Statement) : Type 0 where
  pub within : IsWithin s
  pub own : IsOwn symbols s

-- Parts of a line.

needs_found : {A : Type 0} (rule : ℕ) (o : Option A) (f : A → Says) (s : Statement) → needs rule o f ≡ Ok s → (x : A) × (o ≡ Some x) × (f x ≡ Ok s)
needs_found rule None f s e = absurd (cc e)
needs_found rule (Some x) f s e = (x, refl, e)

said_is : (a b : Statement) → ◌≡◌ {A = Says} (Ok a) (Ok b) → a ≡ b
said_is a b e = cc e

cond_said : (b : Bool) (t s : Statement) (rule : ℕ) → ◌≡◌ {A = Says} (cond b (Ok t) (Err rule)) (Ok s) → t ≡ s
cond_said true t s rule e = cc e
cond_said false t s rule e = absurd (cc e)

not_over : (b : Bool) (r : Says) (s : Statement) (rule : ℕ) → cond b (Err rule) r ≡ Ok s → (b ≡ false) × (r ≡ Ok s)
not_over true r s rule e = absurd (cc e)
not_over false r s rule e = (refl, e)

bounded : (words : List (List ℕ)) (place least greatest n : ℕ) → number_at words place least greatest ≡ Some n → (least ≤ n) × (n ≤ greatest)
bounded words place least greatest n e =
    let h = cond_some (is_number_within (least, greatest) (word_at words place)) (value_of (word_at words place)) n e in
    let both = and_parts (is_some_word (word_at words place) && list_all is_digit (word_at words place)) (leb least (value_of (word_at words place)) && leb (value_of (word_at words place)) greatest) h.0 in
    let ends = and_parts (leb least (value_of (word_at words place))) (leb (value_of (word_at words place)) greatest) both.1 in
    let low = leb-true least (value_of (word_at words place)) ends.0 in
    let high = leb-true (value_of (word_at words place)) greatest ends.1 in
    let same = h.1 in
    (omega (arith, low, same), omega (arith, high, same))

cache_is : (o : Option TableSort) (t table : ℕ) → cache_in o t ≡ Some table → (o ≡ Some sort.Cache) × (t ≡ table)
cache_is None t table e = absurd (cc e)
cache_is (Some sort.Cache) t table e = (refl, cc e)
cache_is (Some sort.Directory) t table e = absurd (cc e)
cache_is (Some (sort.Tbe entries)) t table e = absurd (cc e)

tbes_is : (o : Option TableSort) (t table : ℕ) → tbes_in o t ≡ Some table → (entries : ℕ) × (o ≡ Some (sort.Tbe entries)) × (t ≡ table)
tbes_is None t table e = absurd (cc e)
tbes_is (Some sort.Cache) t table e = absurd (cc e)
tbes_is (Some sort.Directory) t table e = absurd (cc e)
tbes_is (Some (sort.Tbe entries)) t table e = (entries, refl, cc e)

int_is : (k : Kind) → is_int k ≡ true → k ≡ kind.Int
int_is kind.Int e = refl
int_is _ e = absurd (true≢false (sym e))

number_is : (o : Option FieldSymbol) (v value : ℕ) → number_in o v ≡ Some value → (f : FieldSymbol) × (o ≡ Some f) × (f.kind ≡ kind.Int) × (v ≡ value)
number_is None v value e = absurd (cc e)
number_is (Some f) v value e =
    let h = cond_some (is_int f.kind) v value e in
    (f, refl, int_is f.kind h.0, h.1)

owns_cache : (symbols : Symbols) (machine table : ℕ) (word : List ℕ) → in_machine symbols machine (λ m. cache_named m word) ≡ Some table → OwnsCache symbols machine table
owns_cache symbols machine table word e =
    let found = and_then_found (λ m. cache_named m word) (slice_get symbols.machines machine) table e in
    let named = and_then_found (λ t. cache_in (sort_at found.0 t) t) (table_in (stands_for found.0 word)) table found.2 in
    let is = cache_is (sort_at found.0 named.0) named.0 table named.2 in
    record { m = found.0; is_m = found.1; is_sort = sym (ap (sort_at found.0) is.1) ∙ is.0 }

owns_tbes : (symbols : Symbols) (machine table : ℕ) (word : List ℕ) → in_machine symbols machine (λ m. tbes_named m word) ≡ Some table → OwnsTbes symbols machine table
owns_tbes symbols machine table word e =
    let found = and_then_found (λ m. tbes_named m word) (slice_get symbols.machines machine) table e in
    let named = and_then_found (λ t. tbes_in (sort_at found.0 t) t) (table_in (stands_for found.0 word)) table found.2 in
    let is = tbes_is (sort_at found.0 named.0) named.0 table named.2 in
    record { m = found.0; is_m = found.1; entries = is.0; is_sort = sym (ap (sort_at found.0) is.2) ∙ is.1 }

owns_number : (symbols : Symbols) (machine value : ℕ) (word : List ℕ) → in_machine symbols machine (λ m. number_named m word) ≡ Some value → OwnsNumber symbols machine value
owns_number symbols machine value word e =
    let found = and_then_found (λ m. number_named m word) (slice_get symbols.machines machine) value e in
    let named = and_then_found (λ v. number_in (slice_get found.0.values v) v) (value_in (stands_for found.0 word)) value found.2 in
    let is = number_is (slice_get found.0.values named.0) named.0 value named.2 in
    record {
      m = found.0;
      is_m = found.1;
      field = is.0;
      is_field = sym (ap (slice_get found.0.values) is.3) ∙ is.1;
      is_number = is.2;
    }

not_negative : (n : ℕ) → pos 0 ≤ℤ pos n
not_negative n = record { le = le→leb 0 n (omega arith) }

-- Lines.

module _ (symbols : Symbols) (words : List (List ℕ)) (s : Statement) where
  machine_sound : machine_line symbols words ≡ Ok s → IsSound symbols s
  machine_sound e =
      let count = needs_found T2_NUMBER (number_at words 2 1 64) (λ n. needs T3_NAME (machine_named symbols (word_at words 1)) (λ m. Ok (Machine m n))) s e in
      let machine = needs_found T3_NAME (machine_named symbols (word_at words 1)) (λ m. Ok (Machine m count.0)) s count.2 in
      subst (IsSound symbols) (said_is (Machine machine.0 count.0) s machine.2)
      (record { within = bounded words 2 1 64 count.0 count.1; own = tt })

  point_to_point_sound : point_to_point_line words ≡ Ok s → IsSound symbols s
  point_to_point_sound e =
      let n = needs_found T2_NUMBER (number_at words 2 0 1000) (λ n. Ok (Network (PointToPoint n))) s e in
      subst (IsSound symbols) (said_is (Network (PointToPoint n.0)) s n.2)
      (record { within = (bounded words 2 0 1000 n.0 n.1).1; own = tt })

  crossbar_sound : crossbar_line words ≡ Ok s → IsSound symbols s
  crossbar_sound e =
      let n = needs_found T2_NUMBER (number_at words 2 0 1000) (λ n. Ok (Network (Crossbar n))) s e in
      subst (IsSound symbols) (said_is (Network (Crossbar n.0)) s n.2)
      (record { within = (bounded words 2 0 1000 n.0 n.1).1; own = tt })

  mesh_sound : mesh_line words ≡ Ok s → IsSound symbols s
  mesh_sound e =
      let rows = needs_found T2_NUMBER (number_at words 2 1 64) (λ r. needs T2_NUMBER (number_at words 3 1 64) (λ c. needs T2_NUMBER (number_at words 4 0 1000) (λ n. Ok (Network (Mesh r c n))))) s e in
      let columns = needs_found T2_NUMBER (number_at words 3 1 64) (λ c. needs T2_NUMBER (number_at words 4 0 1000) (λ n. Ok (Network (Mesh rows.0 c n)))) s rows.2 in
      let steps = needs_found T2_NUMBER (number_at words 4 0 1000) (λ n. Ok (Network (Mesh rows.0 columns.0 n))) s columns.2 in
      let r = bounded words 2 1 64 rows.0 rows.1 in
      let c = bounded words 3 1 64 columns.0 columns.1 in
      subst (IsSound symbols) (said_is (Network (Mesh rows.0 columns.0 steps.0)) s steps.2)
      (record { within = (r.0, r.1, c.0, c.1, (bounded words 4 0 1000 steps.0 steps.1).1); own = tt })

  link_sound : (said : List Statement) → link_line symbols said words ≡ Ok s → IsSound symbols s
  link_sound said e =
      let n = needs_found T2_NUMBER (number_at words 3 0 1000) (λ n. needs T3_NAME (member_named symbols said (word_at words 1)) (λ a. needs T3_NAME (member_named symbols said (word_at words 2)) (λ b. cond (is_links (network_said said)) (Ok (Link a b n)) (Err T3_NAME)))) s e in
      let one = needs_found T3_NAME (member_named symbols said (word_at words 1)) (λ a. needs T3_NAME (member_named symbols said (word_at words 2)) (λ b. cond (is_links (network_said said)) (Ok (Link a b n.0)) (Err T3_NAME))) s n.2 in
      let other = needs_found T3_NAME (member_named symbols said (word_at words 2)) (λ b. cond (is_links (network_said said)) (Ok (Link one.0 b n.0)) (Err T3_NAME)) s one.2 in
      subst (IsSound symbols) (cond_said (is_links (network_said said)) (Link one.0 other.0 n.0) s T3_NAME other.2)
      (record { within = (bounded words 3 0 1000 n.0 n.1).1; own = tt })

  jitter_sound : jitter_line words ≡ Ok s → IsSound symbols s
  jitter_sound e =
      let n = needs_found T2_NUMBER (number_at words 1 0 1000) (λ n. Ok (Jitter n)) s e in
      subst (IsSound symbols) (said_is (Jitter n.0) s n.2) (record { within = (bounded words 1 0 1000 n.0 n.1).1; own = tt })

  ordered_sound : ordered_line words ≡ Ok s → IsSound symbols s
  ordered_sound e =
      let n = needs_found T2_NUMBER (number_at words 1 0 15) (λ n. Ok (Ordered n)) s e in
      subst (IsSound symbols) (said_is (Ordered n.0) s n.2) (record { within = (bounded words 1 0 15 n.0 n.1).1; own = tt })

  cache_sound : cache_line symbols words ≡ Ok s → IsSound symbols s
  cache_sound e =
      let named = λ (a b m : ℕ). needs T3_NAME (in_machine symbols m (λ x. cache_named x (word_at words 2))) (λ t. Ok (Cache m t a b)) in
      let rest = λ (a b : ℕ). needs T3_NAME (machine_named symbols (word_at words 1)) (named a b) in
      let sets = needs_found T2_NUMBER (number_at words 3 1 65536) (λ a. needs T2_NUMBER (number_at words 4 1 65536) (λ b. cond (ltb 65536 (a * b)) (Err T2_NUMBER) (rest a b))) s e in
      let ways = needs_found T2_NUMBER (number_at words 4 1 65536) (λ b. cond (ltb 65536 (sets.0 * b)) (Err T2_NUMBER) (rest sets.0 b)) s sets.2 in
      let room = not_over (ltb 65536 (sets.0 * ways.0)) (rest sets.0 ways.0) s T2_NUMBER ways.2 in
      let machine = needs_found T3_NAME (machine_named symbols (word_at words 1)) (named sets.0 ways.0) s room.1 in
      let table = needs_found T3_NAME (in_machine symbols machine.0 (λ x. cache_named x (word_at words 2))) (λ t. Ok (Cache machine.0 t sets.0 ways.0)) s machine.2 in
      subst (IsSound symbols) (said_is (Cache machine.0 table.0 sets.0 ways.0) s table.2)
      (record {
        within = (
          (bounded words 3 1 65536 sets.0 sets.1).0,
          (bounded words 4 1 65536 ways.0 ways.1).0,
          ltb-false 65536 (sets.0 * ways.0) room.0,
        );
        own = owns_cache symbols machine.0 table.0 (word_at words 2) table.1;
      })

  tbes_sound : tbes_line symbols words ≡ Ok s → IsSound symbols s
  tbes_sound e =
      let named = λ (n m : ℕ). needs T3_NAME (in_machine symbols m (λ x. tbes_named x (word_at words 2))) (λ t. Ok (Tbes m t n)) in
      let entries = needs_found T2_NUMBER (number_at words 3 1 256) (λ n. needs T3_NAME (machine_named symbols (word_at words 1)) (named n)) s e in
      let machine = needs_found T3_NAME (machine_named symbols (word_at words 1)) (named entries.0) s entries.2 in
      let table = needs_found T3_NAME (in_machine symbols machine.0 (λ x. tbes_named x (word_at words 2))) (λ t. Ok (Tbes machine.0 t entries.0)) s machine.2 in
      subst (IsSound symbols) (said_is (Tbes machine.0 table.0 entries.0) s table.2)
      (record {
        within = bounded words 3 1 256 entries.0 entries.1;
        own = owns_tbes symbols machine.0 table.0 (word_at words 2) table.1;
      })

  size_sound : size_line symbols words ≡ Ok s → IsSound symbols s
  size_sound e =
      let named = λ (n m : ℕ). needs T3_NAME (in_machine symbols m (λ x. receiving_named x (word_at words 2))) (λ b. Ok (Size m b n)) in
      let slots = needs_found T2_NUMBER (number_at words 3 0 65536) (λ n. needs T3_NAME (machine_named symbols (word_at words 1)) (named n)) s e in
      let machine = needs_found T3_NAME (machine_named symbols (word_at words 1)) (named slots.0) s slots.2 in
      let buffer = needs_found T3_NAME (in_machine symbols machine.0 (λ x. receiving_named x (word_at words 2))) (λ b. Ok (Size machine.0 b slots.0)) s machine.2 in
      subst (IsSound symbols) (said_is (Size machine.0 buffer.0 slots.0) s buffer.2)
      (record {
        within = (bounded words 3 0 65536 slots.0 slots.1).1;
        own = owns_buffer symbols machine.0 buffer.0 (word_at words 2) buffer.1;
      })

  set_sound : set_line symbols words ≡ Ok s → IsSound symbols s
  set_sound e =
      let named = λ (n m : ℕ). needs T3_NAME (in_machine symbols m (λ x. number_named x (word_at words 2))) (λ v. Ok (Set m v (pos n))) in
      let number = needs_found T2_NUMBER (number_at words 3 0 0x7fff_ffff_ffff_ffff) (λ n. needs T3_NAME (machine_named symbols (word_at words 1)) (named n)) s e in
      let machine = needs_found T3_NAME (machine_named symbols (word_at words 1)) (named number.0) s number.2 in
      let value = needs_found T3_NAME (in_machine symbols machine.0 (λ x. number_named x (word_at words 2))) (λ v. Ok (Set machine.0 v (pos number.0))) s machine.2 in
      subst (IsSound symbols) (said_is (Set machine.0 value.0 (pos number.0)) s value.2)
      (record {
        within = not_negative number.0;
        own = owns_number symbols machine.0 value.0 (word_at words 2) value.1;
      })

says_sound : (symbols : Symbols) (said : List Statement) (words : List (List ℕ)) (f : Option Form) (s : Statement) → says_in symbols said words f ≡ Ok s → IsSound symbols s
says_sound symbols said words None s e = absurd (cc e)
says_sound symbols said words (Some form.Machine) s e = machine_sound symbols words s e
says_sound symbols said words (Some form.PointToPoint) s e = point_to_point_sound symbols words s e
says_sound symbols said words (Some form.Crossbar) s e = crossbar_sound symbols words s e
says_sound symbols said words (Some form.Mesh) s e = mesh_sound symbols words s e
says_sound symbols said words (Some form.Links) s e =
    subst (IsSound symbols) (said_is (Network Links) s e) (record { within = tt; own = tt })
says_sound symbols said words (Some form.Link) s e = link_sound symbols words s said e
says_sound symbols said words (Some form.Jitter) s e = jitter_sound symbols words s e
says_sound symbols said words (Some form.Ordered) s e = ordered_sound symbols words s e
says_sound symbols said words (Some form.Cache) s e = cache_sound symbols words s e
says_sound symbols said words (Some form.Tbes) s e = tbes_sound symbols words s e
says_sound symbols said words (Some form.Size) s e = size_sound symbols words s e
says_sound symbols said words (Some form.Set) s e = set_sound symbols words s e

-- A line after those before it.

-- the later one is about no table, no buffer and no number that the earlier one is about
abbrev pub IsNewAfter : Statement → Statement → Type 0
IsNewAfter a (Cache machine table sets ways) = sizes_table machine table a ≡ false
IsNewAfter a (Tbes machine table entries) = sizes_table machine table a ≡ false
IsNewAfter a (Size machine buffer slots) = sizes_buffer machine buffer a ≡ false
IsNewAfter a (Set machine value number) = sets_value machine value a ≡ false
IsNewAfter a _ = Unit {0}

pub record AreKnown (symbols : Symbols) (said : List Statement) : Type 0 where
  pub sound : All (IsSound symbols) said
  pub once : AllPairs IsNewAfter said
  pub few : controllers said ≤ 64

pub none_passes : {X : Type 0} (p : X → Bool) (xs : List X) (k : ℕ) (d : X) → list_any p xs ≡ false → k < length xs → p (get_or xs k d) ≡ false
none_passes p xs k d e lt =
    false_from_ne_true (p (get_or xs k d)) (λ t. true≢false (sym (list_any_at p xs k d lt t) ∙ e))

new_after : (said : List Statement) (s : Statement) → is_said said s ≡ false → (k : ℕ) (d : Statement) → k < length said → IsNewAfter (get_or said k d) s
new_after said (Machine machine count) e k d lt = tt
new_after said (Network n) e k d lt = tt
new_after said (Link one other n) e k d lt = tt
new_after said (Jitter n) e k d lt = tt
new_after said (Ordered n) e k d lt = tt
new_after said (Cache machine table sets ways) e k d lt = none_passes (sizes_table machine table) said k d e lt
new_after said (Tbes machine table entries) e k d lt = none_passes (sizes_table machine table) said k d e lt
new_after said (Size machine buffer slots) e k d lt = none_passes (sizes_buffer machine buffer) said k d e lt
new_after said (Set machine value number) e k d lt = none_passes (sets_value machine value) said k d e lt

record IsJudged (symbols : Symbols) (said : List Statement) (words : List (List ℕ)) (s : Statement) : Type 0 where
  says : says_in symbols said words (form_of words) ≡ Ok s
  new : is_said said s ≡ false
  room : controllers said + counted s ≤ 64

judged_parts : (symbols : Symbols) (said : List Statement) (words : List (List ℕ)) (s : Statement) → judged symbols said words ≡ Ok s → IsJudged symbols said words s
judged_parts symbols said words s e = by_says (says_in symbols said words (form_of words)) refl e
  where
    by_room : (t : Statement) → says_in symbols said words (form_of words) ≡ Ok t → is_said said t ≡ false → (b : Bool) → ltb 64 (controllers said + counted t) ≡ b → ◌≡◌ {A = Says} (cond b (Err T6_TOO_MANY) (Ok t)) (Ok s) → IsJudged symbols said words s
    by_room t is new true many e = absurd (cc e)
    by_room t is new false many e =
        subst (IsJudged symbols said words) (said_is t s e)
        (record { says = is; new = new; room = ltb-false 64 (controllers said + counted t) many })

    by_twice : (t : Statement) → says_in symbols said words (form_of words) ≡ Ok t → (b : Bool) → is_said said t ≡ b → ◌≡◌ {A = Says} (cond b (Err T4_TWICE) (cond (ltb 64 (controllers said + counted t)) (Err T6_TOO_MANY) (Ok t))) (Ok s) → IsJudged symbols said words s
    by_twice t is true twice e = absurd (cc e)
    by_twice t is false twice e = by_room t is twice (ltb 64 (controllers said + counted t)) refl e

    by_says : (r : Says) → says_in symbols said words (form_of words) ≡ r → after_those said r ≡ Ok s → IsJudged symbols said words s
    by_says (Err rule) is e = absurd (cc e)
    by_says (Ok t) is e = by_twice t is (is_said said t) refl e

known_more : (symbols : Symbols) (said : List Statement) (words : List (List ℕ)) (s : Statement) → AreKnown symbols said → judged symbols said words ≡ Ok s → AreKnown symbols (said ++ s ∷ [])
known_more symbols said words s known e =
    let parts = judged_parts symbols said words s e in
    let sum = sum_by_push counted said s in
    let room = parts.room in
    record {
      sound = All-push (IsSound symbols) said s known.sound (says_sound symbols said words (form_of words) s parts.says);
      once = all_pairs_push IsNewAfter said s known.once (new_after said s parts.new);
      few = omega (arith, sum, room);
    }

added_known : (symbols : Symbols) (said : List Statement) (words : List (List ℕ)) (r : Says) → AreKnown symbols said → judged symbols said words ≡ r → IfOk (added said r) (AreKnown symbols)
added_known symbols said words (Ok s) known e = known_more symbols said words s known e
added_known symbols said words (Err rule) known e = tt

line_known : (symbols : Symbols) (said : List Statement) (line : List ℕ) → AreKnown symbols said → IfOk (with_line symbols said line) (AreKnown symbols)
line_known symbols said line known = by_words (eqb (length (words_of (before_comment line))) 0)
  where
    by_words : (b : Bool) → IfOk (cond b (Ok said) (added said (judged symbols said (words_of (before_comment line))))) (AreKnown symbols)
    by_words true = known
    by_words false = added_known symbols said (words_of (before_comment line)) (judged symbols said (words_of (before_comment line))) known refl

read_known : (symbols : Symbols) (number : ℕ) (said : List Statement) (lines : List (List ℕ)) (all : List Statement) → AreKnown symbols said → read_from symbols number said lines ≡ Ok all → AreKnown symbols all
read_known symbols number said [] all known e = subst (AreKnown symbols) (all_is said all e) known
  where
    all_is : (a b : List Statement) → ◌≡◌ {A = Reading} (Ok a) (Ok b) → a ≡ b
    all_is a b e = cc e
read_known symbols number said (line ∷ lines) all known e =
    after (λ more. read_known symbols (number + 1) more lines all) (with_line symbols said line) (line_known symbols said line known) e
  where
    after : ((more : List Statement) → AreKnown symbols more → read_from symbols (number + 1) more lines ≡ Ok all → AreKnown symbols all) → (r : Result (List Statement) ℕ) → IfOk r (AreKnown symbols) → ◌≡◌ {A = Reading} (elim r [ Ok more ↦ read_from symbols (number + 1) more lines | Err rule ↦ Err (rule, number) ]) (Ok all) → AreKnown symbols all
    after later (Ok more) h e = later more h e
    after later (Err rule) h e = absurd (cc e)

pub all_known : (symbols : Symbols) (lines : List (List ℕ)) (said : List Statement) → reading symbols lines ≡ Ok said → AreKnown symbols said
all_known symbols lines said e =
    read_known symbols 1 [] lines said
    (record { sound = All-nil (IsSound symbols); once = λ i j d lt within. absurd (omega arith); few = omega arith }) e

pub none_known : (symbols : Symbols) → AreKnown symbols []
none_known symbols = record { sound = All-nil (IsSound symbols); once = λ i j d lt within. absurd (omega arith); few = omega arith }
