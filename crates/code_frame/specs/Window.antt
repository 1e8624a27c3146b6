-- What a frame is: the stack of the body that runs, from the top down, its locals, and below them the values of the bodies that called
-- it, from the lowest up. They lie in one list, in which a body's part begins at its base and its stack at its floor.
use Rattle.std.specs.Prelude.{◌≡◌, ℕ, ◌+◌, List, [], ◌∷◌, ◌++◌, drop, length, map, reverse, slice_set, take}
use Rattle.ruby_value.specs.declared.kind.Kind.{Kind}
use Rattle.ruby_value.specs.declared.value.Value.{Value}
use Rattle.ruby_value.specs.Prelude.{default_value}
use Rattle.code_frame.specs.declared.mark.Mark.{Mark}
use Rattle.code_frame.specs.Slots.{value_at}

pub record Window : Type 0 where
  pub stack : List Value
  pub locals : List Value
  pub under : List Value

abbrev pub window : List Value → (base floor : ℕ) → Window
window values base floor = record {
  stack = reverse (drop floor values);
  locals = drop base (take floor values);
  under = take base values;
}

-- with a value on top
abbrev pub pushed : Value → Window → Window
pushed v w = record w { stack = v ∷ w.stack }

-- with the value on top in a local
abbrev pub stored : ℕ → Window → Window
stored n w = record w { stack = drop 1 w.stack; locals = slice_set w.locals n (value_at w.stack 0) }

-- as a body begins whose arguments are the n topmost values, and which has other locals of these kinds
abbrev pub begun : ℕ → List Kind → Window → Window
begun n kinds w = record {
  stack = [];
  locals = reverse (take n w.stack) ++ map default_value kinds;
  under = w.under ++ w.locals ++ reverse (drop n w.stack);
}

-- the locals and what is below them are the same
pub record SameRest (old new : Window) : Type 0 where
  pub locals : new.locals ≡ old.locals
  pub under : new.under ≡ old.under

-- where the parts of a frame begin
pub record IsMark (m : Mark) (w : Window) : Type 0 where
  pub base : m.base ≡ length w.under
  pub floor : m.floor ≡ length w.under + length w.locals
