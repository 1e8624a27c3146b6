-- What the workers' passes are once each has counted, and what the pass is in which all have met.
use Rattle.std.specs.Prelude.{◌≡◌, ℕ, [], false, Contains, Result, IfOk, IsOkAnd}
use Rattle.ruby_base.specs.declared.memory.NoMemory.{NoMemory}
use Rattle.turn_lock_tests.specs.Counts.{counts_of}
use Rattle.turn_lock.specs.Prelude.{LockId, Standing, lists_of}

-- a pass that has never entered
abbrev pub IsNew : {P : Type 0} → LockId → Standing P → Type 0
IsNew id p = (p.lock ≡ id) × (p.inside ≡ false) × (p.met ≡ 1) × (p.mine ≡ []) × (p.others ≡ [])

-- the pass k after n counts, if there was memory
abbrev pub HasCounted : {P : Type 0} → LockId → ℕ → ℕ → Result (Standing P) NoMemory → Type 0
HasCounted id k n r = IfOk r (λ p. (p.lock ≡ id) × (p.inside ≡ false) × (p.met ≡ 1) × (p.number ≡ k) × (p.mine ≡ counts_of k n))

-- a pass that may meet others
abbrev pub IsReady : {P : Type 0} → LockId → Result (Standing P) NoMemory → Type 0
IsReady id r = IfOk r (λ p. (p.lock ≡ id) × (p.inside ≡ false) × (p.met ≡ 1))

-- the pass is there, and the other has its own entries among its lists
abbrev pub IsListed : {P : Type 0} → Standing P → Result (Standing P) NoMemory → Type 0
IsListed whole r = IsOkAnd r (λ p. Contains (lists_of whole) (p.number, p.mine))
