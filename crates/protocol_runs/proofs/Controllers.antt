-- The controllers of a run: each is one of a machine, of which it begins as the opening controller.
use Rattle.std.proofs.Common.{◌≡◌, ◌<◌, ◌+◌, ◌++◌, ◌⊎◌, ℕ, zero, suc, List, [], ◌∷◌, Option, None, Some, All, IfSome, IsSomeAnd, inl, inr, ⊎_elim, length, replicate, refl, sym, ap, subst, ◌∙◌, arith, slice_get}
use Rattle.std.proofs.lemmas.List.{length-append, length-replicate}
use Rattle.std.proofs.lemmas.List.Elements.{All-replicate}
use Rattle.std.specs.Option.{option_and_then}
use Rattle.ruby_value.specs.declared.setup.MachineSetup.{MachineSetup}
use Rattle.ctl_face.specs.Prelude.{Ctl, IsController, IsMachine, opening_ctl, AreNumbered, IsOfMachine}
use Rattle.ctl_face.proofs.Lines.{All-found}
use Rattle.protocol_runs.specs.Prelude.{IsSetting, actor_of, machine_of, setup_of, opening_controllers, Setting}
use Rattle.protocol_runs.proofs.Ranges.{below-free, machine-is, machine-says}

-- what is known of something that may be missing
pub some-and : {X : Type 0} (P : X → Type 0) (o : Option X) (x : X) → o ≡ Some x → P x → IsSomeAnd o P
some-and {X = X} P o x is holds = subst (λ (u : Option X). IsSomeAnd u P) (sym is) holds

pub and-some : {X : Type 0} (P : X → Type 0) (o : Option X) → IsSomeAnd o P → (x : X) × (o ≡ Some x) × P x
and-some P None none = absurd none
and-some P (Some x) holds = (x, refl, holds)

pub at-place : {X : Type 0} (P : X → Type 0) (xs : List X) (i : ℕ) (x : X) → slice_get xs i ≡ Some x → All P xs → P x
at-place {X = X} P xs i x there all = subst (λ (o : Option X). IfSome o P) there (All-found P xs i all)

-- where an element of two lists in a row comes from
in-append : {X : Type 0} (xs ys : List X) (i : ℕ) (x : X) → slice_get (xs ++ ys) i ≡ Some x
    → ((i < length xs) × (slice_get xs i ≡ Some x)) ⊎ ((j : ℕ) × (i ≡ length xs + j) × (slice_get ys j ≡ Some x))
in-append [] ys i x is = inr (i, omega arith, is)
in-append (y ∷ xs) ys zero x is = inl (omega arith, is)
in-append (y ∷ xs) ys (suc i) x is =
    ⊎_elim (λ first. inl (omega (arith, first.0), first.1)) (λ rest. inr (rest.0, omega (arith, rest.1), rest.2)) (in-append xs ys i x is)

-- a controller of these machines as a run begins
pub record Opened (machines : List MachineSetup) (ranges : List (ℕ × ℕ)) (c : ℕ) (x : Ctl) : Type 0 where
  pub machine : ℕ
  pub setup : MachineSetup
  pub of_machine : IsOfMachine ranges machine c
  pub there : slice_get machines machine ≡ Some setup
  pub is : x ≡ opening_ctl setup

pub opened : (machines : List MachineSetup) (ranges : List (ℕ × ℕ)) (first free i : ℕ) (x : Ctl) → AreNumbered first free ranges
    → slice_get (opening_controllers machines ranges) i ≡ Some x → Opened machines ranges (first + i) x
opened [] ranges first free i x numbered is = absurd (cc is)
opened (m ∷ machines) [] first free i x numbered is = absurd (cc is)
opened (m ∷ machines) (r ∷ ranges) first free i x numbered is =
    let own : List Ctl = replicate r.1 (opening_ctl m) in
    let count : length own ≡ r.1 = length-replicate r.1 (opening_ctl m) in
    let begins = numbered.0 in
    ⊎_elim
    (λ here.
    record {
      machine = 0;
      setup = m;
      of_machine = (omega (arith, begins), omega (arith, begins, count, here.0));
      there = refl;
      is = at-place (λ (y : Ctl). y ≡ opening_ctl m) own i x here.1 (All-replicate (λ (y : Ctl). y ≡ opening_ctl m) r.1 (opening_ctl m) refl);
    })
    (λ later.
    let rest = opened machines ranges (first + r.1) free later.0 x numbered.2 later.2 in
    let same : first + r.1 + later.0 ≡ first + i = omega (arith, count, later.1) in
    record {
      machine = suc rest.machine;
      setup = rest.setup;
      of_machine = subst (λ (n : ℕ). IsOfMachine ranges rest.machine n) same rest.of_machine;
      there = rest.there;
      is = rest.is;
    })
    (in-append own (opening_controllers machines ranges) i x is)

pub opened-count : (machines : List MachineSetup) (ranges : List (ℕ × ℕ)) (first free : ℕ) → length ranges ≡ length machines → AreNumbered first free ranges
    → first + length (opening_controllers machines ranges) ≡ free
opened-count [] [] first free same numbered = omega (arith, numbered)
opened-count [] (r ∷ ranges) first free same numbered = absurd (omega (arith, same))
opened-count (m ∷ machines) [] first free same numbered = absurd (omega (arith, same))
opened-count (m ∷ machines) (r ∷ ranges) first free same numbered =
    let own : List Ctl = replicate r.1 (opening_ctl m) in
    let count : length own ≡ r.1 = length-replicate r.1 (opening_ctl m) in
    let rest = opened-count machines ranges (first + r.1) free (omega (arith, same)) numbered.2 in
    omega (arith, count, rest, length-append own (opening_controllers machines ranges))

module _ {D : Type 0} (s : Setting D) where
  -- the machine of a controller
  pub record IsOne (c : ℕ) (m : MachineSetup) : Type 0 where
    pub machine : ℕ
    pub found : machine_of s.ranges c ≡ Some machine
    pub there : slice_get s.machines machine ≡ Some m

  pub one-of : (c : ℕ) (m : MachineSetup) → setup_of s c ≡ Some m → IsOne c m
  one-of c m is = at (machine_of s.ranges c) refl is
    where
      at : (o : Option ℕ) → machine_of s.ranges c ≡ o → option_and_then (λ machine. slice_get s.machines machine) o ≡ Some m → IsOne c m
      at None found none = absurd (cc none)
      at (Some k) found there = record { machine = k; found = found; there = there }

  pub setup-is : (c : ℕ) (m : MachineSetup) → IsOne c m → setup_of s c ≡ Some m
  setup-is c m one = ap (λ (o : Option ℕ). option_and_then (λ machine. slice_get s.machines machine) o) one.found ∙ one.there

  module _ (least : D → ℕ) (is : IsSetting least s) where
    numbered : AreNumbered 0 is.routes.total s.ranges
    numbered = is.routes.numbers.numbered

    pub one-by : (c machine : ℕ) (m : MachineSetup) → IsOfMachine s.ranges machine c → slice_get s.machines machine ≡ Some m → IsOne c m
    one-by c machine m of there = record { machine = machine; found = machine-is 0 is.routes.total s.ranges c machine numbered of; there = there }

    pub count-is : length (opening_controllers s.machines s.ranges) ≡ is.routes.total
    count-is = let whole = opened-count s.machines s.ranges 0 is.routes.total is.routes.numbers.each_machine numbered in omega (arith, whole)

    pub of-one : (c : ℕ) (m : MachineSetup) (one : IsOne c m) → IsOfMachine s.ranges one.machine c
    of-one c m one = machine-says s.ranges c one.machine one.found

    pub below-count : (c machine : ℕ) → IsOfMachine s.ranges machine c → c < length (opening_controllers s.machines s.ranges)
    below-count c machine of = let below = below-free 0 is.routes.total s.ranges machine c numbered of in omega (arith, below, count-is)

    pub lawful-machine : (c : ℕ) (m : MachineSetup) → IsOne c m → IsMachine m
    lawful-machine c m one = at-place IsMachine s.machines one.machine m one.there is.machines

    pub controller-is : (c : ℕ) (m : MachineSetup) → IsOne c m → IsController s.machines s.ranges m (actor_of s c)
    controller-is c m one = record { routes = is.routes; machine = one.machine; of_machine = of-one c m one; is = one.there }
