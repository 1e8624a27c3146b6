-- The buffers of a machine, its ports, and what they have to do with each other and with the virtual networks. A buffer is a
-- parameter or an object of type `MessageBuffer`. What `network` says is `To` or `From`; without it a buffer is the machine's
-- own. A buffer of a network that doesn't write which one is of network 0.
use Rattle.std.specs.Prelude.{ℕ, ◌&&◌, Bool, true, false, cond, Option, None, Some, List, [], ◌∷◌, flat_map, unwrap_or, option_and_then, codes}
use Rattle.std.specs.Str.{bytes_eq}
use Rattle.slicc_ast.specs.declared.tree.span.Span.{Span}
use Rattle.slicc_ast.specs.declared.tree.name.Name.{Name}
use Rattle.slicc_ast.specs.declared.tree.item.Tree.{Tree}
use Rattle.slicc_ast.specs.declared.tree.machine.Machine.{Machine}
use Rattle.slicc_ast.specs.declared.tree.declaration.Pairs.{Pairs}
use Rattle.slicc_plan.specs.declared.built_in.BuiltInType.TheVariants.{Buffer}
use Rattle.slicc_plan.specs.Attributes.{Attribute, first_attribute, has_attribute, number_value}
use Rattle.slicc_plan.specs.BuiltIn.{is_same_type}
use Rattle.slicc_plan.specs.Declarations.{Declaration, parameter, object, in_port, out_port, Scope, everywhere, within, first_named, machine_declarations}
use Rattle.slicc_plan.specs.Types.{KnownType, built_in, enumerated, structured, is_built_in, type_in}

-- where a buffer's messages come from or go to
pub data Place : Type 0 where
  own : Place
  to_network : ℕ → Place
  from_network : ℕ → Place

pub record BufferIn : Type 0 where
  pub name : Name
  pub place : Place
  pub span : Span

abbrev pub attribute_number : Option Attribute → Option ℕ
attribute_number None = None
attribute_number (Some a) = number_value a.value

abbrev pub virtual_network : Pairs → ℕ
virtual_network pairs = unwrap_or (attribute_number (first_attribute (codes "virtual_network") pairs)) 0

abbrev pub place_by : Pairs → Place
place_by pairs =
    cond (has_attribute (codes "network") (codes "To") pairs) (to_network (virtual_network pairs))
    (cond (has_attribute (codes "network") (codes "From") pairs) (from_network (virtual_network pairs)) own)

abbrev pub buffer_of : Bool → Name → Pairs → Span → Option BufferIn
buffer_of is_buffer name pairs span = cond is_buffer (Some (record { name = name; place = place_by pairs; span = span })) None

abbrev pub buffer_in : List Tree → Machine → Declaration → Option BufferIn
buffer_in trees m (parameter p) = buffer_of (is_built_in Buffer (type_in trees (within m) p.kind.text)) p.name p.pairs p.span
buffer_in trees m (object o) = buffer_of (is_built_in Buffer (type_in trees (within m) o.kind.text)) o.name o.pairs o.span
buffer_in trees m _ = None

abbrev pub listed : {X : Type 0} → Option X → List X
listed None = []
listed (Some x) = x ∷ []

abbrev pub buffers_of : List Tree → Machine → List BufferIn
buffers_of trees m = flat_map (λ (d : Declaration). listed (buffer_in trees m d)) (machine_declarations m)

-- a port, with the number of its machine, the buffer that it is on and the type of its messages
pub record PortOn : Type 0 where
  pub machine : ℕ
  pub is_in : Bool
  pub buffer : BufferIn
  pub message : KnownType
  pub span : Span

abbrev pub port_on : ℕ → Bool → Span → Option BufferIn → Option KnownType → List PortOn
port_on number is_in span (Some b) (Some t) =
    record { machine = number; is_in = is_in; buffer = b; message = t; span = span } ∷ []
port_on number is_in span _ _ = []

abbrev pub buffer_named : List Tree → Machine → Name → Option BufferIn
buffer_named trees m n = option_and_then (buffer_in trees m) (first_named n.text (machine_declarations m))

abbrev pub port_in : List Tree → ℕ → Machine → Declaration → List PortOn
port_in trees number m (in_port p) =
    port_on number true p.span (buffer_named trees m p.buffer) (type_in trees (within m) p.message.text)
port_in trees number m (out_port p) =
    port_on number false p.span (buffer_named trees m p.buffer) (type_in trees (within m) p.message.text)
port_in trees number m _ = []

-- the ports of a machine, in the order of the text
abbrev pub ports_of : List Tree → ℕ → Machine → List PortOn
ports_of trees number m = flat_map (port_in trees number m) (machine_declarations m)

-- Types are one where they are the same built-in type, or have one name and one scope.

abbrev pub is_same_scope : Scope → Scope → Bool
is_same_scope everywhere everywhere = true
is_same_scope (within m) (within n) = bytes_eq m.name.text n.name.text
is_same_scope _ _ = false

abbrev pub is_same_known : KnownType → KnownType → Bool
is_same_known (built_in b) (built_in c) = is_same_type b c
is_same_known (enumerated scope text members) (enumerated other name symbols) = is_same_scope scope other && bytes_eq text name
is_same_known (structured scope s) (structured other u) = is_same_scope scope other && bytes_eq s.name.text u.name.text
is_same_known _ _ = false
