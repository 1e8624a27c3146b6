-- The sizes that a topology sets are those of its machines' own tables and numbers, each once, within the ranges of topologies.
use Rattle.std.proofs.Common.{◌≡◌, ◌≢◌, ◌∙◌, ◌&&◌, ℕ, false, eqb, Option, None, Some, List, ap, refl, sym, subst, true≢false, length, eqb-true, eq-eqb}
use Rattle.std.specs.Prelude.{IsSomeAnd, ℤ, slice_get}
use Rattle.std.specs.Option.{option_map}
use Rattle.std.proofs.lemmas.Bool.{and_from}
use Rattle.std.proofs.lemmas.List.Elements.{All-weaker}
use Rattle.std.proofs.lemmas.Option.{cond_some}
use Rattle.ruby_value.specs.declared.kind.Kind.TheVariants as kind
use Rattle.ruby_value.specs.declared.setup.Sizes.{Sizes}
use Rattle.ruby_symbols.specs.declared.machine.MachineSymbols.{MachineSymbols}
use Rattle.ruby_symbols.specs.declared.machine.TableSort.{TableSort}
use Rattle.ruby_symbols.specs.declared.machine.TableSort.TheVariants as sort
use Rattle.ruby_symbols.specs.declared.machine.TableSymbol.{TableSymbol}
use Rattle.ruby_symbols.specs.declared.symbols.Symbols.{Symbols}
use Rattle.ruby_symbols.specs.declared.types.FieldSymbol.{FieldSymbol}
use Rattle.ruby_topology.specs.declared.forms.Statement.{Statement}
use Rattle.ruby_topology.specs.declared.forms.Statement.TheVariants.{Machine, Network, Link, Jitter, Ordered, Cache, Tbes, Size, Set}
use Rattle.ruby_topology.specs.Prelude.{sort_at, cache_of, sizes_of, tbes_of}
use Rattle.ruby_topology.specs.Topology.{value_of}
use Rattle.slicc_ast.specs.declared.tree.item.Tree.{Tree}
use Rattle.slicc_plan.specs.Prelude.{machines_of, AreSizesOf, cache_size, tbe_size}
use Rattle.slicc_plan.specs.Setups.{HasRoom}
use Rattle.protocol_meaning.specs.Prelude.{AreSizesIn, IsCacheSize, IsNumberOf, IsTbe, IsTbesSize}
use Rattle.protocol_meaning.proofs.Lines.{AreKnown, IsNewAfter, IsSound}
use Rattle.protocol_meaning.proofs.Places.{pairs_picked, picked, some_and}

machine_is : (a b : MachineSymbols) (o : Option MachineSymbols) → o ≡ Some a → o ≡ Some b → a ≡ b
machine_is a b o e f = cc (e, f)

has_cache : (o : Option TableSymbol) → option_map (λ (t : TableSymbol). t.sort) o ≡ Some sort.Cache → IsSomeAnd o (λ (t : TableSymbol). t.sort ≡ sort.Cache)
has_cache None e = absurd (cc e)
has_cache (Some t) e = cc e

sort_is_tbe : (s : TableSort) (entries : ℕ) → s ≡ sort.Tbe entries → IsTbe s
sort_is_tbe s entries e = subst IsTbe (sym e) tt

has_tbe : (o : Option TableSymbol) (entries : ℕ) → option_map (λ (t : TableSymbol). t.sort) o ≡ Some (sort.Tbe entries) → IsSomeAnd o (λ (t : TableSymbol). IsTbe t.sort)
has_tbe None entries e = absurd (cc e)
has_tbe (Some t) entries e = let same : t.sort ≡ sort.Tbe entries = cc e in sort_is_tbe t.sort entries same

-- What one line sets.

module _ (symbols : Symbols) (machine : ℕ) (m : MachineSymbols) (at : slice_get symbols.machines machine ≡ Some m) where
  cache_sized : (s : Statement) (c : ℕ × ℕ × ℕ) → IsSound symbols s → cache_of machine s ≡ Some c → IsCacheSize m c
  cache_sized (Cache n table sets ways) c sound e =
      let h = cond_some (eqb n machine) (table, sets, ways) c e in
      let here : n ≡ machine = eqb-true n machine h.0 in
      let within = sound.within in
      let own = sound.own in
      let same : own.m ≡ m = machine_is own.m m (slice_get symbols.machines machine) (sym (ap (slice_get symbols.machines) here) ∙ own.is_m) at in
      subst (IsCacheSize m) h.1
      (record {
        table = has_cache (slice_get m.tables table) (sym (ap (λ (x : MachineSymbols). sort_at x table) same) ∙ own.is_sort);
        sets = within.0;
        ways = within.1;
        lines = within.2;
      })
  cache_sized (Machine n count) c sound e = absurd (cc e)
  cache_sized (Network n) c sound e = absurd (cc e)
  cache_sized (Link one other n) c sound e = absurd (cc e)
  cache_sized (Jitter n) c sound e = absurd (cc e)
  cache_sized (Ordered n) c sound e = absurd (cc e)
  cache_sized (Tbes n table entries) c sound e = absurd (cc e)
  cache_sized (Size n buffer slots) c sound e = absurd (cc e)
  cache_sized (Set n value number) c sound e = absurd (cc e)

  tbes_sized : (s : Statement) (t : ℕ × ℕ) → IsSound symbols s → tbes_of machine s ≡ Some t → IsTbesSize m t
  tbes_sized (Tbes n table entries) t sound e =
      let h = cond_some (eqb n machine) (table, entries) t e in
      let here : n ≡ machine = eqb-true n machine h.0 in
      let within = sound.within in
      let own = sound.own in
      let same : own.m ≡ m = machine_is own.m m (slice_get symbols.machines machine) (sym (ap (slice_get symbols.machines) here) ∙ own.is_m) at in
      subst (IsTbesSize m) h.1
      (record {
        table = has_tbe (slice_get m.tables table) own.entries (sym (ap (λ (x : MachineSymbols). sort_at x table) same) ∙ own.is_sort);
        some = within.0;
        few = within.1;
      })
  tbes_sized (Machine n count) t sound e = absurd (cc e)
  tbes_sized (Network n) t sound e = absurd (cc e)
  tbes_sized (Link one other n) t sound e = absurd (cc e)
  tbes_sized (Jitter n) t sound e = absurd (cc e)
  tbes_sized (Ordered n) t sound e = absurd (cc e)
  tbes_sized (Cache n table sets ways) t sound e = absurd (cc e)
  tbes_sized (Size n buffer slots) t sound e = absurd (cc e)
  tbes_sized (Set n value number) t sound e = absurd (cc e)

  number_sized : (s : Statement) (v : ℕ × ℤ) → IsSound symbols s → value_of machine s ≡ Some v → IsNumberOf m v
  number_sized (Set n value number) v sound e =
      let h = cond_some (eqb n machine) (value, number) v e in
      let here : n ≡ machine = eqb-true n machine h.0 in
      let own = sound.own in
      let same : own.m ≡ m = machine_is own.m m (slice_get symbols.machines machine) (sym (ap (slice_get symbols.machines) here) ∙ own.is_m) at in
      subst (IsNumberOf m) h.1
      (record {
        value = some_and (λ (f : FieldSymbol). f.kind ≡ kind.Int) (slice_get m.values value) own.field
            (sym (ap (λ (x : MachineSymbols). slice_get x.values value) same) ∙ own.is_field) own.is_number;
        least = sound.within;
      })
  number_sized (Machine n count) v sound e = absurd (cc e)
  number_sized (Network n) v sound e = absurd (cc e)
  number_sized (Link one other n) v sound e = absurd (cc e)
  number_sized (Jitter n) v sound e = absurd (cc e)
  number_sized (Ordered n) v sound e = absurd (cc e)
  number_sized (Cache n table sets ways) v sound e = absurd (cc e)
  number_sized (Tbes n table entries) v sound e = absurd (cc e)
  number_sized (Size n buffer slots) v sound e = absurd (cc e)

-- What two lines set.

both_same : (a b c d : ℕ) → a ≡ b → c ≡ d → (eqb a b && eqb c d) ≡ false → ⊥
both_same a b c d e f none =
    true≢false (sym (and_from (eqb a b) (eqb c d) (eq-eqb a b e) (eq-eqb c d f)) ∙ none)

module _ (machine : ℕ) where
  caches_apart : (a b : Statement) (x y : ℕ × ℕ × ℕ) → IsNewAfter a b → cache_of machine a ≡ Some x → cache_of machine b ≡ Some y → x.0 ≢ y.0
  caches_apart (Cache n table sets ways) (Cache k other s w) x y new e f =
      let h = cond_some (eqb n machine) (table, sets, ways) x e in
      let g = cond_some (eqb k machine) (other, s, w) y f in
      let one : n ≡ k = eqb-true n machine h.0 ∙ sym (eqb-true k machine g.0) in
      λ same. both_same n k table other one (ap (λ (c : ℕ × ℕ × ℕ). c.0) h.1 ∙ same ∙ sym (ap (λ (c : ℕ × ℕ × ℕ). c.0) g.1)) new
  caches_apart a (Machine k count) x y new e f = absurd (cc f)
  caches_apart a (Network k) x y new e f = absurd (cc f)
  caches_apart a (Link one other k) x y new e f = absurd (cc f)
  caches_apart a (Jitter k) x y new e f = absurd (cc f)
  caches_apart a (Ordered k) x y new e f = absurd (cc f)
  caches_apart a (Size k buffer slots) x y new e f = absurd (cc f)
  caches_apart a (Tbes k table entries) x y new e f = absurd (cc f)
  caches_apart a (Set k value number) x y new e f = absurd (cc f)
  caches_apart (Machine n count) b x y new e f = absurd (cc e)
  caches_apart (Network n) b x y new e f = absurd (cc e)
  caches_apart (Link one other n) b x y new e f = absurd (cc e)
  caches_apart (Jitter n) b x y new e f = absurd (cc e)
  caches_apart (Ordered n) b x y new e f = absurd (cc e)
  caches_apart (Size n buffer slots) b x y new e f = absurd (cc e)
  caches_apart (Tbes n table entries) b x y new e f = absurd (cc e)
  caches_apart (Set n value number) b x y new e f = absurd (cc e)

  tbes_apart : (a b : Statement) (x y : ℕ × ℕ) → IsNewAfter a b → tbes_of machine a ≡ Some x → tbes_of machine b ≡ Some y → x.0 ≢ y.0
  tbes_apart (Tbes n table entries) (Tbes k other some) x y new e f =
      let h = cond_some (eqb n machine) (table, entries) x e in
      let g = cond_some (eqb k machine) (other, some) y f in
      let one : n ≡ k = eqb-true n machine h.0 ∙ sym (eqb-true k machine g.0) in
      λ same. both_same n k table other one (ap (λ (c : ℕ × ℕ). c.0) h.1 ∙ same ∙ sym (ap (λ (c : ℕ × ℕ). c.0) g.1)) new
  tbes_apart a (Machine k count) x y new e f = absurd (cc f)
  tbes_apart a (Network k) x y new e f = absurd (cc f)
  tbes_apart a (Link one other k) x y new e f = absurd (cc f)
  tbes_apart a (Jitter k) x y new e f = absurd (cc f)
  tbes_apart a (Ordered k) x y new e f = absurd (cc f)
  tbes_apart a (Size k buffer slots) x y new e f = absurd (cc f)
  tbes_apart a (Cache k table sets ways) x y new e f = absurd (cc f)
  tbes_apart a (Set k value number) x y new e f = absurd (cc f)
  tbes_apart (Machine n count) b x y new e f = absurd (cc e)
  tbes_apart (Network n) b x y new e f = absurd (cc e)
  tbes_apart (Link one other n) b x y new e f = absurd (cc e)
  tbes_apart (Jitter n) b x y new e f = absurd (cc e)
  tbes_apart (Ordered n) b x y new e f = absurd (cc e)
  tbes_apart (Size n buffer slots) b x y new e f = absurd (cc e)
  tbes_apart (Cache n table sets ways) b x y new e f = absurd (cc e)
  tbes_apart (Set n value number) b x y new e f = absurd (cc e)

  numbers_apart : (a b : Statement) (x y : ℕ × ℤ) → IsNewAfter a b → value_of machine a ≡ Some x → value_of machine b ≡ Some y → x.0 ≢ y.0
  numbers_apart (Set n value number) (Set k other some) x y new e f =
      let h = cond_some (eqb n machine) (value, number) x e in
      let g = cond_some (eqb k machine) (other, some) y f in
      let one : n ≡ k = eqb-true n machine h.0 ∙ sym (eqb-true k machine g.0) in
      λ same. both_same n k value other one (ap (λ (c : ℕ × ℤ). c.0) h.1 ∙ same ∙ sym (ap (λ (c : ℕ × ℤ). c.0) g.1)) new
  numbers_apart a (Machine k count) x y new e f = absurd (cc f)
  numbers_apart a (Network k) x y new e f = absurd (cc f)
  numbers_apart a (Link one other k) x y new e f = absurd (cc f)
  numbers_apart a (Jitter k) x y new e f = absurd (cc f)
  numbers_apart a (Ordered k) x y new e f = absurd (cc f)
  numbers_apart a (Size k buffer slots) x y new e f = absurd (cc f)
  numbers_apart a (Cache k table sets ways) x y new e f = absurd (cc f)
  numbers_apart a (Tbes k table entries) x y new e f = absurd (cc f)
  numbers_apart (Machine n count) b x y new e f = absurd (cc e)
  numbers_apart (Network n) b x y new e f = absurd (cc e)
  numbers_apart (Link one other n) b x y new e f = absurd (cc e)
  numbers_apart (Jitter n) b x y new e f = absurd (cc e)
  numbers_apart (Ordered n) b x y new e f = absurd (cc e)
  numbers_apart (Size n buffer slots) b x y new e f = absurd (cc e)
  numbers_apart (Cache n table sets ways) b x y new e f = absurd (cc e)
  numbers_apart (Tbes n table entries) b x y new e f = absurd (cc e)

-- A machine's sizes.

pub sizes_known : (symbols : Symbols) (said : List Statement) (ranges : List (ℕ × ℕ)) (machine : ℕ) (m : MachineSymbols) → AreKnown symbols said → slice_get symbols.machines machine ≡ Some m → AreSizesIn ranges m (sizes_of ranges said machine)
sizes_known symbols said ranges machine m known at = record {
  machines = refl;
  caches = picked (IsSound symbols) (IsCacheSize m) (cache_of machine) (cache_sized symbols machine m at) said known.sound;
  caches_once = pairs_picked IsNewAfter (λ (a b : ℕ × ℕ × ℕ). a.0 ≢ b.0) (cache_of machine) (caches_apart machine) said known.once;
  tbes = picked (IsSound symbols) (IsTbesSize m) (tbes_of machine) (tbes_sized symbols machine m at) said known.sound;
  tbes_once = pairs_picked IsNewAfter (λ (a b : ℕ × ℕ). a.0 ≢ b.0) (tbes_of machine) (tbes_apart machine) said known.once;
  numbers = picked (IsSound symbols) (IsNumberOf m) (value_of machine) (number_sized symbols machine m at) said known.sound;
  numbers_once = pairs_picked IsNewAfter (λ (a b : ℕ × ℤ). a.0 ≢ b.0) (value_of machine) (numbers_apart machine) said known.once;
}

-- as setups ask for it
pub sizes_have_room : (trees : List Tree) (ranges : List (ℕ × ℕ)) (m : MachineSymbols) (s : Sizes) → length ranges ≡ length (machines_of trees) → AreSizesIn ranges m s → AreSizesOf trees s
sizes_have_room trees ranges m s many known = record {
  caches = All-weaker (IsCacheSize m) (λ (c : ℕ × ℕ × ℕ). HasRoom (cache_size (Some c))) (λ c h. (h.sets, h.ways, h.lines)) s.caches known.caches;
  tbes = All-weaker (IsTbesSize m) (λ (t : ℕ × ℕ). HasRoom (tbe_size 16 (Some t))) (λ t h. (h.some, h.few)) s.tbes known.tbes;
  machines = ap (λ (r : List (ℕ × ℕ)). length r) known.machines ∙ many;
}
