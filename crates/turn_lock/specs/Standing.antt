-- A lock and its passes, as callers see them, and what each call makes of a pass.
use Rattle.std.specs.Prelude.{ℕ, zero, suc, ◌+◌, Bool, true, false, List, [], ◌∷◌, ◌++◌, length, drop}
use Rattle.atomic_table.specs.Seated.{TableId}
use Rattle.turn_lock.specs.Histories.{longer}

-- which lock it is: what no other lock has
abbrev pub LockId : Type 0
LockId = TableId

-- a lock: which one it is, and how many passes were made for it
pub record Gate : Type 0 where
  pub id : LockId
  pub passes : ℕ

-- A pass, of which lock it is and what it knows. It has seen a history, in which `mine` are its own entries, and it stands for
-- `met` passes, itself and those that it met, of which it keeps the number and the own entries. While it is inside, it
-- knows the history with which it entered
pub record Standing (P : Type 0) : Type 0 where
  pub lock : LockId
  pub number : ℕ
  pub met : ℕ
  pub plan : P
  pub seen : List ℕ
  pub mine : List ℕ
  pub others : List (ℕ × List ℕ)
  pub inside : Bool
  pub entered : List ℕ

module _ {P : Type 0} where
  -- pass k, before it enters for the first time
  abbrev pub newcomer : LockId → P → ℕ → Standing P
  newcomer lock p k = record { lock = lock; number = k; met = 1; plan = p; seen = []; mine = []; others = []; inside = false; entered = [] }

  -- the passes 0 to n - 1
  abbrev pub newcomers : LockId → P → ℕ → List (Standing P)
  newcomers lock p zero = []
  newcomers lock p (suc n) = newcomers lock p n ++ newcomer lock p n ∷ []

  -- the pass, inside with a value of this history
  abbrev pub entering : List ℕ → Standing P → Standing P
  entering log v = record v { inside = true; entered = log }

  -- the pass, outside after it left a value of this history
  abbrev pub leaving : List ℕ → Standing P → Standing P
  leaving log v = record v { inside = false; seen = log; mine = v.mine ++ drop (length v.entered) log; entered = [] }

  -- its own entries, and those of all that it met, each beside the number of their pass
  abbrev pub lists_of : Standing P → List (ℕ × List ℕ)
  lists_of v = (v.number, v.mine) ∷ v.others

  -- the pass, after it met another
  abbrev pub meeting : Standing P → Standing P → Standing P
  meeting v w = record v { met = v.met + w.met; seen = longer v.seen w.seen; others = v.others ++ lists_of w }
