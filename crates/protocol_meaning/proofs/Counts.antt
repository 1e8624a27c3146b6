-- What lines say once: how many controllers a machine has, and the jitter.
use Rattle.std.proofs.Common.{◌≡◌, ◌<◌, ◌≤◌, ◌+◌, ◌∙◌, ℕ, Bool, true, false, cond, eqb, None, Some, List, [], ◌∷◌, ap, sym, arith, length, get_or, unwrap_or}
use Rattle.std.specs.Prelude.{is_none}
use Rattle.std.specs.List.{All, range_with_len}
use Rattle.std.specs.Option.{option_or}
use Rattle.std.proofs.lemmas.List.Elements.{All-head, All-tail}
use Rattle.std.proofs.lemmas.List.FromFn.{get_or-map-range_with_len, get_or-range_with_len, length-map-range_with_len, length-range_with_len}
use Rattle.ruby_symbols.specs.declared.symbols.Symbols.{Symbols}
use Rattle.ruby_topology.specs.declared.forms.Statement.{Statement}
use Rattle.ruby_topology.specs.declared.forms.Statement.TheVariants.{Machine, Network, Link, Jitter, Ordered, Cache, Tbes, Size, Set}
use Rattle.ruby_topology.specs.Prelude.{count_or_none, count_in, count_of, jitter_in, jitter_said, counts_of, lacks_line, IsWithin}
use Rattle.protocol_meaning.proofs.Lines.{none_passes}

some_count : (said : List Statement) (machine : ℕ) → All IsWithin said → is_none (count_of said machine) ≡ false → 1 ≤ unwrap_or (count_of said machine) 0
some_count [] machine within e = absurd (cc e)
some_count (s ∷ said) machine within e =
    first s (All-head IsWithin s said within) (some_count said machine (All-tail IsWithin s said within)) e
  where
    by_test : (b : Bool) (count : ℕ) → 1 ≤ count → (is_none (count_of said machine) ≡ false → 1 ≤ unwrap_or (count_of said machine) 0) → is_none (option_or (cond b (Some count) None) (count_of said machine)) ≡ false → 1 ≤ unwrap_or (option_or (cond b (Some count) None) (count_of said machine)) 0
    by_test true count some rest e = some
    by_test false count some rest e = rest e

    first : (s : Statement) → IsWithin s → (is_none (count_of said machine) ≡ false → 1 ≤ unwrap_or (count_of said machine) 0) → is_none (option_or (count_in machine s) (count_of said machine)) ≡ false → 1 ≤ unwrap_or (option_or (count_in machine s) (count_of said machine)) 0
    first (Machine m count) here rest e = by_test (eqb m machine) count here.0 rest e
    first (Network n) here rest e = rest e
    first (Link one other n) here rest e = rest e
    first (Jitter n) here rest e = rest e
    first (Ordered n) here rest e = rest e
    first (Cache m table sets ways) here rest e = rest e
    first (Tbes m table entries) here rest e = rest e
    first (Size m buffer slots) here rest e = rest e
    first (Set m value number) here rest e = rest e

pub some_of_each : (symbols : Symbols) (said : List Statement) → All IsWithin said → lacks_line symbols said ≡ false → All (λ (c : ℕ). 1 ≤ c) (counts_of symbols said)
some_of_each symbols said within each k d lt =
    let n = length symbols.machines in
    let long = length-map-range_with_len (count_or_none said) 0 (length symbols.machines) in
    let inside : k < length symbols.machines = omega (arith, long, lt) in
    let item : get_or (counts_of symbols said) k d ≡ count_or_none said k = get_or-map-range_with_len (count_or_none said) 0 (length symbols.machines) k k d inside (omega arith) in
    let number : get_or (range_with_len 0 (length symbols.machines)) k 0 ≡ 0 + k = get_or-range_with_len 0 (length symbols.machines) k 0 inside in
    let same : get_or (range_with_len 0 (length symbols.machines)) k 0 ≡ k = omega arith in
    let there : is_none (count_of said k) ≡ false =
    sym (ap (λ j. is_none (count_of said j)) same)
    ∙ none_passes (λ machine. is_none (count_of said machine)) (range_with_len 0 (length symbols.machines)) k 0 each (omega (arith, length-range_with_len 0 (length symbols.machines))) in
    let some = some_count said k within there in
    omega (arith, item, some)

pub jitter_small : (said : List Statement) → All IsWithin said → unwrap_or (jitter_said said) 0 ≤ 1000
jitter_small [] within = omega arith
jitter_small (s ∷ said) within = first s (All-head IsWithin s said within) (jitter_small said (All-tail IsWithin s said within))
  where
    first : (s : Statement) → IsWithin s → unwrap_or (jitter_said said) 0 ≤ 1000 → unwrap_or (option_or (jitter_in s) (jitter_said said)) 0 ≤ 1000
    first (Jitter j) here rest = here
    first _ here rest = rest
