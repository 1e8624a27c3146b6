-- The buffers of a machine, as symbols and as what they are to its controllers, one by one.
use Rattle.std.proofs.Common.{◌≡◌, ◌∙◌, ◌++◌, ℕ, zero, suc, true, Option, None, Some, List, [], ◌∷◌, ap, refl, sym, subst, flat_map, eqb-true, eq-eqb}
use Rattle.std.specs.Prelude.{option_and_then, slice_get}
use Rattle.ruby_value.specs.declared.setup.BufferPlace.{BufferPlace}
use Rattle.ruby_value.specs.declared.setup.BufferPlace.TheVariants as place
use Rattle.ruby_value.specs.declared.setup.BufferSetup.{BufferSetup}
use Rattle.ruby_value.specs.declared.setup.Sizes.{Sizes}
use Rattle.ruby_value.specs.Prelude.{network_of}
use Rattle.ruby_symbols.specs.declared.machine.BufferSymbol.{BufferSymbol}
use Rattle.slicc_ast.specs.declared.tree.declaration.Pairs.{Pairs}
use Rattle.slicc_ast.specs.declared.tree.item.Tree.{Tree}
use Rattle.slicc_ast.specs.declared.tree.machine.Machine.{Machine}
use Rattle.slicc_plan.specs.Prelude.{BufferIn, buffer_in, Declaration, machine_declarations, attributes_of, buffer_by, buffer_place, buffer_setups, kinds_on, setup_in, buffer_of_place, buffer_symbol, buffer_symbols, machine_symbols, structure_number}
use Rattle.slicc_plan.specs.MessageTypes.{message_type}
use Rattle.ruby_topology.specs.Prelude.{is_from, is_on}

-- both are of this buffer of the machine of this number
pub record IsPair (trees : List Tree) (number : ℕ) (s : BufferSetup) (b : BufferSymbol) : Type 0 where
  pub buffer : BufferIn
  pub name : b.name ≡ buffer.name.text
  pub setup_place : s.place ≡ buffer_place trees buffer.place (message_type trees number buffer)
  pub same_place : b.place ≡ s.place
  pub same_order : b.ordered ≡ s.ordered
  pub kinds : s.kinds ≡ kinds_on trees (message_type trees number buffer)
  pub message : b.message ≡ option_and_then (structure_number trees) (message_type trees number buffer)

abbrev pub ArePaired : List Tree → ℕ → List BufferSetup → List BufferSymbol → Type 0
ArePaired trees number [] [] = Unit {0}
ArePaired trees number [] (b ∷ bs) = ⊥
ArePaired trees number (s ∷ ss) [] = ⊥
ArePaired trees number (s ∷ ss) (b ∷ bs) = IsPair trees number s b × ArePaired trees number ss bs

both_paired : (trees : List Tree) (number : ℕ) (ss us : List BufferSetup) (bs cs : List BufferSymbol) → ArePaired trees number ss bs → ArePaired trees number us cs → ArePaired trees number (ss ++ us) (bs ++ cs)
both_paired trees number [] us [] cs h g = g
both_paired trees number [] us (b ∷ bs) cs h g = absurd h
both_paired trees number (s ∷ ss) us [] cs h g = absurd h
both_paired trees number (s ∷ ss) us (b ∷ bs) cs h g = (h.0, both_paired trees number ss us bs cs h.1 g)

one_paired : (trees : List Tree) (number : ℕ) (pairs : Option Pairs) (b : Option BufferIn) → ArePaired trees number (buffer_by trees number pairs b) (buffer_of_place trees number pairs b)
one_paired trees number pairs None = tt
one_paired trees number pairs (Some b) = (
  record { buffer = b; name = refl; setup_place = refl; same_place = refl; same_order = refl; kinds = refl; message = refl },
  tt,
)

all_paired : (trees : List Tree) (number : ℕ) (m : Machine) (ds : List Declaration) → ArePaired trees number (flat_map (λ (d : Declaration). buffer_by trees number (attributes_of d) (buffer_in trees m d)) ds) (flat_map (buffer_symbol trees number m) ds)
all_paired trees number m [] = tt
all_paired trees number m (d ∷ ds) =
    both_paired trees number (buffer_by trees number (attributes_of d) (buffer_in trees m d))
    (flat_map (λ (e : Declaration). buffer_by trees number (attributes_of e) (buffer_in trees m e)) ds)
    (buffer_symbol trees number m d) (flat_map (buffer_symbol trees number m) ds)
    (one_paired trees number (attributes_of d) (buffer_in trees m d)) (all_paired trees number m ds)

pub symbols_buffers : (trees : List Tree) (number : ℕ) (m : Machine) → (machine_symbols trees number m).buffers ≡ buffer_symbols trees number m
unfolding machine_symbols
symbols_buffers trees number m = refl

pub buffers_paired : (trees : List Tree) (number : ℕ) (sizes : Sizes) (m : Machine) → ArePaired trees number (setup_in trees number sizes m).buffers (machine_symbols trees number m).buffers
buffers_paired trees number sizes m =
    subst (ArePaired trees number (buffer_setups trees number m)) (sym (symbols_buffers trees number m))
    (all_paired trees number m (machine_declarations m))

-- the other one of a pair
pub record HasSymbol (trees : List Tree) (number : ℕ) (bs : List BufferSymbol) (k : ℕ) (s : BufferSetup) : Type 0 where
  pub symbol : BufferSymbol
  pub at : slice_get bs k ≡ Some symbol
  pub pair : IsPair trees number s symbol

pub record HasSetup (trees : List Tree) (number : ℕ) (ss : List BufferSetup) (k : ℕ) (b : BufferSymbol) : Type 0 where
  pub setup : BufferSetup
  pub at : slice_get ss k ≡ Some setup
  pub pair : IsPair trees number setup b

setup_is : (a b : BufferSetup) → Some a ≡ Some b → a ≡ b
setup_is a b e = cc e

symbol_is : (a b : BufferSymbol) → Some a ≡ Some b → a ≡ b
symbol_is a b e = cc e

pub symbol_of : (trees : List Tree) (number : ℕ) (ss : List BufferSetup) (bs : List BufferSymbol) (k : ℕ) (s : BufferSetup) → ArePaired trees number ss bs → slice_get ss k ≡ Some s → HasSymbol trees number bs k s
symbol_of trees number [] [] k s h e = absurd (cc e)
symbol_of trees number [] (b ∷ bs) k s h e = absurd h
symbol_of trees number (t ∷ ss) [] k s h e = absurd h
symbol_of trees number (t ∷ ss) (b ∷ bs) zero s h e =
    record { symbol = b; at = refl; pair = subst (λ z. IsPair trees number z b) (setup_is t s e) h.0 }
symbol_of trees number (t ∷ ss) (b ∷ bs) (suc k) s h e =
    let rest = symbol_of trees number ss bs k s h.1 e in record { symbol = rest.symbol; at = rest.at; pair = rest.pair }

pub setup_of_symbol : (trees : List Tree) (number : ℕ) (ss : List BufferSetup) (bs : List BufferSymbol) (k : ℕ) (b : BufferSymbol) → ArePaired trees number ss bs → slice_get bs k ≡ Some b → HasSetup trees number ss k b
setup_of_symbol trees number [] [] k b h e = absurd (cc e)
setup_of_symbol trees number [] (c ∷ bs) k b h e = absurd h
setup_of_symbol trees number (s ∷ ss) [] k b h e = absurd h
setup_of_symbol trees number (s ∷ ss) (c ∷ bs) zero b h e =
    record { setup = s; at = refl; pair = subst (IsPair trees number s) (symbol_is c b e) h.0 }
setup_of_symbol trees number (s ∷ ss) (c ∷ bs) (suc k) b h e =
    let rest = setup_of_symbol trees number ss bs k b h.1 e in record { setup = rest.setup; at = rest.at; pair = rest.pair }

-- Places of buffers.

pub from_is : (network : ℕ) (p : BufferPlace) → is_from network p ≡ true → p ≡ place.From network
from_is network place.Local e = absurd (cc e)
from_is network (place.To n receivers) e = absurd (cc e)
from_is network (place.From n) e = ap place.From (eqb-true n network e)

pub is_from_it : (network : ℕ) (p : BufferPlace) → p ≡ place.From network → is_from network p ≡ true
is_from_it network p e = ap (is_from network) e ∙ eq-eqb network network refl

pub on_it : (network : ℕ) (p : BufferPlace) → network_of p ≡ Some network → is_on network p ≡ true
on_it network place.Local e = absurd (cc e)
on_it network (place.To n receivers) e = eq-eqb n network (cc e)
on_it network (place.From n) e = eq-eqb n network (cc e)
