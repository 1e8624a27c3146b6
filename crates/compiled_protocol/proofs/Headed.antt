-- Machines are read by their numbers, and each that is read has the head that it is to have.
use Rattle.std.proofs.Common.{◌≡◌, ◌∙◌, ◌+◌, ◌-◌, ◌<◌, ◌≤◌, ℕ, zero, suc, Option, None, Some, List, [], ◌∷◌, length, slice_get, refl, sym, ap, subst, arith}
use Rattle.std.specs.Prelude.{filter_map, option_and_then}
use Rattle.std.specs.List.{cons_option}
use Rattle.std.specs.Option.{option_map}
use Rattle.std.proofs.lemmas.Option.{slice_get_past}
use Rattle.slicc_ast.specs.declared.tree.item.Tree.{Tree}
use Rattle.slicc_ast.specs.declared.tree.machine.Machine.{Machine}
use Rattle.ruby_symbols.specs.declared.machine.MachineSymbols.{MachineSymbols}
use Rattle.slicc_plan.specs.Prelude.{HasSymbols, machines_of, symbols_of}
use Rattle.slicc_plan.proofs.Machines.{symbols_counted}
use Rattle.action_code.specs.declared.program.Program.{Program}
use Rattle.body_meaning.specs.Prelude.{Reading}
use Rattle.body_code.specs.Prelude.{numbers_from}
use Rattle.protocol_meaning.specs.Prelude.{reading_of, reading_with}
use Rattle.action_gen.specs.declared.parts.Head.{Head}
use Rattle.action_gen.specs.Prelude.{head_at, heads_from, heads_of, readings_of, root_count, total_of}

-- What is found for each number below a bound, and for none from it on.
module _ {X : Type 0} (f : ℕ → Option X) where
  pub each_found : (n from k : ℕ) → ((j : ℕ) → j < n → (x : X) × (f (from + j) ≡ Some x)) → ((j : ℕ) → n ≤ j → f (from + j) ≡ None)
      → slice_get (filter_map f (numbers_from from n)) k ≡ f (from + k)
  each_found zero from k some none = sym (none k (omega arith))
  each_found (suc n) from k some none =
      let first = some 0 (omega arith) in
      let zero_is : from + 0 ≡ from = omega arith in
      let is : f from ≡ Some first.0 = ap f (sym zero_is) ∙ first.1 in
      ap (λ o. slice_get (cons_option o (filter_map f (numbers_from (from + 1) n))) k) is
      ∙ by k first.0 first.1 (each_found n (from + 1))
    where
      by : (k : ℕ) (x : X) → f (from + 0) ≡ Some x
          → ((k : ℕ) → ((j : ℕ) → j < n → (y : X) × (f (from + 1 + j) ≡ Some y)) → ((j : ℕ) → n ≤ j → f (from + 1 + j) ≡ None) → slice_get (filter_map f (numbers_from (from + 1) n)) k ≡ f (from + 1 + k))
          → slice_get (x ∷ filter_map f (numbers_from (from + 1) n)) k ≡ f (from + k)
      by zero x is next = sym is
      by (suc k) x is next =
          let moved : (j : ℕ) → from + 1 + j ≡ from + suc j = λ j. omega arith in
          next k (λ j below. let found = some (suc j) (omega arith) in (found.0, ap f (moved j) ∙ found.1)) (λ j past. ap f (moved j) ∙ none (suc j) (omega arith)) ∙ ap f (moved k)

module _ (trees : List Tree) where
  there : {X : Type 0} (xs : List X) (k : ℕ) → k < length xs → (x : X) × (slice_get xs k ≡ Some x)
  there [] k below = absurd (omega arith)
  there (x ∷ xs) zero below = (x, refl)
  there (x ∷ xs) (suc k) below = there xs k (omega arith)

  reading_there : (k : ℕ) → k < length (symbols_of trees).machines → (s : Reading) × (reading_of trees k ≡ Some s)
  reading_there k below =
      let counted = symbols_counted trees in
      let own = there (symbols_of trees).machines k below in
      let tree = there (machines_of trees) k (omega arith) in (
        reading_with (symbols_of trees) k own.0 tree.0,
        ap (λ o. option_and_then (λ m. option_map (reading_with (symbols_of trees) k m) (slice_get (machines_of trees) k)) o) own.1
            ∙ ap (λ o. option_map (reading_with (symbols_of trees) k own.0) o) tree.1,
      )

  reading_past : (k : ℕ) → length (symbols_of trees).machines ≤ k → reading_of trees k ≡ None
  reading_past k past =
      ap (λ o. option_and_then (λ m. option_map (reading_with (symbols_of trees) k m) (slice_get (machines_of trees) k)) o) (slice_get_past (symbols_of trees).machines k past)

  readings_at : (k : ℕ) → slice_get (readings_of trees) k ≡ reading_of trees k
  readings_at k =
      let n = length (symbols_of trees).machines in
      let moved : (j : ℕ) → 0 + j ≡ j = λ j. omega arith in
      each_found (reading_of trees) n 0 k
      (λ j below. let found = reading_there j below in (found.0, ap (reading_of trees) (moved j) ∙ found.1))
      (λ j past. ap (reading_of trees) (moved j) ∙ reading_past j past)
      ∙ ap (reading_of trees) (moved k)

-- a machine that is read has a head of its reading, and one that isn't has none
abbrev pub IsHeadOf : Option Reading → Option Head → Type 0
IsHeadOf None h = h ≡ None
IsHeadOf (Some s) h = (start : ℕ) × (h ≡ Some (head_at start s))

heads_found : (ss : List Reading) (first k : ℕ) → IsHeadOf (slice_get ss k) (slice_get (heads_from first ss) k)
heads_found [] first k = refl
heads_found (s ∷ ss) first zero = (first, refl)
heads_found (s ∷ ss) first (suc k) = heads_found ss (first + root_count s.machine) k

pub headed : (p : Program) (trees : List Tree) (k : ℕ) → IsHeadOf (reading_of trees k) (slice_get (heads_of p trees) k)
headed p trees k =
    subst (λ (o : Option Reading). IsHeadOf o (slice_get (heads_of p trees) k)) (readings_at trees k)
    (heads_found (readings_of trees) (length p.bodies - total_of (readings_of trees)) k)

-- what is read is there
pub reading_has : (trees : List Tree) (k : ℕ) (s : Reading) → reading_of trees k ≡ Some s → HasSymbols trees k s.tree s.machine × (s.symbols ≡ symbols_of trees)
reading_has trees k s e = by (slice_get (symbols_of trees).machines k) (slice_get (machines_of trees) k) refl refl e
  where
    by : (o : Option MachineSymbols) (p : Option Machine) → slice_get (symbols_of trees).machines k ≡ o → slice_get (machines_of trees) k ≡ p
        → option_and_then (λ x. option_map (reading_with (symbols_of trees) k x) p) o ≡ Some s → HasSymbols trees k s.tree s.machine × (s.symbols ≡ symbols_of trees)
    by None p h g e = absurd (cc e)
    by (Some x) None h g e = absurd (cc e)
    by (Some x) (Some m) h g e =
        let same : reading_with (symbols_of trees) k x m ≡ s = cc e in (
          record { machine = g ∙ ap (λ (r : Reading). Some r.tree) same; symbols = h ∙ ap (λ (r : Reading). Some r.machine) same },
          sym (ap (λ (r : Reading). r.symbols) same),
        )
