-- Names for parts of what statements do, each of which a function of this crate does. They say nothing of their own: what each is
-- stands in the definition of the whole statement, with these parts written out.
use Rattle.std.specs.Prelude.{ℕ, ◌+◌, Option, List, [], ◌∷◌, codes, cond, length}
use Rattle.std.specs.Str.{bytes_eq}
use Rattle.slicc_ast.specs.declared.tree.expression.Expr.{Expr}
use Rattle.slicc_ast.specs.declared.tree.expression.Suffix.{Suffix}
use Rattle.ruby_value.specs.declared.value.Value.{Value}
use Rattle.acts.specs.declared.body_fault.BodyFault.TheVariants as own
use Rattle.acts.specs.Prelude.{Acting, stops, ◌>>=◌, ◌>>◌, either, found}
use Rattle.built_in_acts.specs.Prelude.{built_in, truth}
use Rattle.body_meaning.specs.declared.frame.Frame.{Frame}
use Rattle.body_meaning.specs.declared.frame.Place.{Place}
use Rattle.body_meaning.specs.declared.thing.Thing.{Thing}
use Rattle.body_meaning.specs.Prelude.{changes_receiver, stall_call, write_callback, Calls, value_call, value, value_behind, values_of, Ended, bind, at_place, before_last, with_place, Reading, called_alone, changed, ends_by, went_on, written_back, value_in}

-- the place with what a call made of its value
abbrev pub put_back : Frame → Place → Option Value → Acting Ended
put_back frame p w = found own.Reference w >>= (λ x. with_place frame p x >>= went_on)

-- the place with what the call of this number makes of these values
abbrev pub remade : Reading → ℕ → Frame → Place → List Value → Acting Ended
remade s n frame p values = built_in s.kept n 0 values >>= put_back frame p

-- the place with what a call of this name makes of its value
abbrev pub remade_by : Reading → List ℕ → Frame → Place → Value → List Value → Acting Ended
remade_by s text frame p v values =
    found own.Reference (value_call v text) >>= (λ n. remade s n frame p (v ∷ values))

-- the place with what a `writeCallback` of this address makes of this block
abbrev pub rewritten : Reading → Frame → Place → Value → Value → List Value → Acting Ended
rewritten s frame p address block others = remade s (write_callback (2 + length others)) frame p (address ∷ block ∷ others)

module _ (s : Reading) (calls : Calls) where
  -- `kind name := value;`
  abbrev pub declared : List ℕ → Expr → Frame → Acting Ended
  declared text e frame = value s calls frame e >>= (λ t. went_on (bind text t frame))

  -- `assert(condition);`
  abbrev pub asserted : Expr → Frame → Acting Ended
  asserted condition frame =
      value s calls frame condition >>= (λ t. either (truth (value_in t)) (went_on frame) (stops own.Assert))

  -- `stall_and_wait` on the port of a buffer
  abbrev pub stalled_on : ℕ → Expr → Frame → Acting Ended
  stalled_on buffer address frame =
      value s calls frame address
      >>= (λ t. built_in s.kept stall_call buffer (value_in t ∷ []) >> went_on frame)

  -- a call that changes what is at a place
  abbrev pub changed_at : List ℕ → List Expr → Frame → Place → Acting Ended
  changed_at text arguments frame p =
      at_place frame p >>= (λ v. values_of s calls frame arguments >>= (λ vs. remade_by s text frame p v vs))

  -- a `writeCallback` of this address with the block at a place
  abbrev pub stored : Thing → List Expr → Frame → Place → Acting Ended
  stored address others frame p =
      at_place frame p
      >>= (λ v. values_of s calls frame others
      >>= (λ vs. rewritten s frame p (value_in address) v vs))

  -- a call of this name
  abbrev pub call_alone : List ℕ → List Expr → Frame → Acting Ended
  call_alone text arguments frame = values_of s calls frame arguments >>= called_alone s calls text frame

  -- a call of this name, which is the last of the suffixes
  abbrev pub method_alone : Expr → List Suffix → List ℕ → List Expr → Frame → Acting Ended
  method_alone inner suffixes text arguments frame =
      cond (changes_receiver text) (changed s calls inner (before_last suffixes) text arguments frame)
      (cond (bytes_eq text (codes "writeCallback")) (written_back s calls arguments frame)
      (ends_by frame (value_behind s calls frame inner suffixes)))
