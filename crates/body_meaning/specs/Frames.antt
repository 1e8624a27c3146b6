-- What a body has of its own: names, the innermost first, and in an action the line that its transition is about. A name that is
-- bound twice is the inner one's. A block's names are gone after it.
use Rattle.std.specs.Prelude.{ℕ, ◌-◌, Bool, Option, None, Some, List, ◌∷◌, codes, cond, drop, find, is_some, length, position, slice_set}
use Rattle.std.specs.Option.{option_map}
use Rattle.std.specs.Str.{bytes_eq}
use Rattle.ruby_value.specs.declared.value.Ref.{Ref}
use Rattle.ruby_value.specs.declared.value.Value.TheVariants as value
use Rattle.ruby_symbols.specs.declared.machine.MachineSymbols.{MachineSymbols}
use Rattle.body_meaning.specs.declared.frame.About.{About}
use Rattle.body_meaning.specs.declared.frame.Bound.{Bound}
use Rattle.body_meaning.specs.declared.frame.Flow.{Flow}
use Rattle.body_meaning.specs.declared.frame.Frame.{Frame}
use Rattle.body_meaning.specs.declared.thing.Thing.{Thing}
use Rattle.body_meaning.specs.declared.thing.Thing.TheVariants as thing

abbrev pub is_named : List ℕ → Bound → Bool
is_named text b = bytes_eq b.name text

abbrev pub thing_bound : List ℕ → List Bound → Option Thing
thing_bound text names = option_map (λ (b : Bound). b.thing) (find (is_named text) names)

abbrev pub bind : List ℕ → Thing → Frame → Frame
bind text t frame = record frame { names = record { name = text; thing = t } ∷ frame.names }

abbrev pub bound_at : List ℕ → Thing → List Bound → Option ℕ → List Bound
bound_at text t names None = names
bound_at text t names (Some i) = slice_set names i (record { name = text; thing = t })

-- with another thing under the name, where it is bound
abbrev pub rebind : List ℕ → Thing → Frame → Frame
rebind text t frame = record frame { names = bound_at text t frame.names (position (is_named text) frame.names) }

-- the outermost n names
unfoldable pub outermost : ℕ → List Bound → List Bound
outermost n names = drop (length names - n) names

-- as it is after a block that began with n names
abbrev pub leave : ℕ → Frame → Frame
leave n frame = record frame { names = outermost n frame.names }

-- In an action `address` is the line's address, and `cache_entry` and `tbe` are references to its entry and its TBE, where the
-- machine has such lines. In a body references are of one sort.
abbrev pub about_named : MachineSymbols → About → List ℕ → Option Thing
about_named m a text =
    cond (bytes_eq text (codes "address")) (Some (thing.Value (value.Addr a.address)))
    (cond (bytes_eq text (codes "cache_entry")) (cond (is_some m.entry) (Some (thing.Value (value.Entry a.entry))) None)
    (cond (bytes_eq text (codes "tbe")) (cond (is_some m.tbe) (Some (thing.Value (value.Entry a.tbe))) None) None))

abbrev pub thing_about : MachineSymbols → Option About → List ℕ → Option Thing
thing_about m None text = None
thing_about m (Some a) text = about_named m a text

abbrev pub with_entry : Option Ref → Option About → Option About
with_entry r about = option_map (λ (a : About). record a { entry = r }) about

abbrev pub with_tbe : Option Ref → Option About → Option About
with_tbe r about = option_map (λ (a : About). record a { tbe = r }) about

-- how a statement ends, and what the body has of its own then
pub record Ended : Type 0 where
  pub flow : Flow
  pub frame : Frame

abbrev pub ended : Frame → Flow → Ended
ended frame flow = record { flow = flow; frame = frame }
