-- The front of a list of messages: of those that are ready, the least by arrival, then by number. What a message is, and
-- when it is ready, each crate that has messages says. That the order by arrival is kept up to ties is gem5's; that ties go
-- by number is this project's own. `IsFront` says the same as a relation: the front is ready, and no ready one comes before
-- it.
use Rattle.std.specs.Prelude.{◌≡◌, ◌<◌, ◌⊎◌, ◌==◌, ◌&&◌, ◌||◌, ℕ, Bool, Option, None, Some, List, [], ◌∷◌, Contains, IsTrue, nat_lt, if◌then◌else◌}
use Rattle.std.specs.List.{filter}
use Rattle.ruby_value.specs.declared.message.MsgNo.{MsgNo}
use Rattle.ruby_value.specs.IsBefore.{IsBefore}
use Rattle.ruby_value.specs.NumberBefore.{number_before}

module _ {X : Type 0} (arrival : X → ℕ) (number : X → MsgNo) where
  abbrev pub comes_before : X → X → Bool
  comes_before a b = nat_lt (arrival a) (arrival b) || (arrival a == arrival b && number_before (number a) (number b))

  abbrev pub ComesBefore : X → X → Type 0
  ComesBefore a b = (arrival a < arrival b) ⊎ ((arrival a ≡ arrival b) × IsBefore (number a) (number b))

  abbrev pub earlier : X → Option X → X
  earlier x None = x
  earlier x (Some other) = if comes_before other x then other else x

  abbrev pub least : List X → Option X
  least [] = None
  least (x ∷ xs) = Some (earlier x (least xs))

module _ {X : Type 0} (is_ready : X → Bool) (arrival : X → ℕ) (number : X → MsgNo) where
  abbrev pub front : List X → Option X
  front xs = least arrival number (filter is_ready xs)

  pub record IsFirstReady (xs : List X) (x : X) : Type 0 where
    pub held : Contains xs x
    pub ready : IsTrue (is_ready x)
    pub first : (other : X) → Contains xs other → IsTrue (is_ready other) → ComesBefore arrival number other x → ⊥

  -- a ready one before which no ready one comes; none where none is ready
  abbrev pub IsFront : List X → Option X → Type 0
  IsFront xs None = (x : X) → Contains xs x → IsTrue (is_ready x) → ⊥
  IsFront xs (Some x) = IsFirstReady xs x
