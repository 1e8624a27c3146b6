-- The members of enumerations that aren't the machines'.
use Rattle.std.proofs.Common.{◌≡◌, ◌||◌, ℕ, List, [], ◌∷◌, refl, ap}
use Rattle.std.specs.Borrow.{Bor}
use Rattle.std.specs.List.{list_any}
use Rattle.std.specs.Str.{bytes_eq}
use Rattle.slicc_plan.specs.declared.built_in.BuiltInType.{BuiltInType}
use Rattle.slicc_plan.specs.declared.built_in.BuiltInType.TheVariants.{Int, Cycles, Tick, Bool, Address, MachineId, MachineType, NetDest, DataBlock, AccessPermission, RequestType, MessageSize, Request, AbstractEntry, Void, Cache, Directory, TbeTable, Sequencer, Buffer}
use Rattle.slicc_plan.specs.Prelude.{is_among, members_of}
use Rattle.declared_types.specs.Types.{texts_of}

pub among_texts : (text : List ℕ) (names : List (Bor (List ℕ))) → is_among (texts_of names) text ≡ list_any (λ name. bytes_eq name.now text) names
among_texts text [] = refl
among_texts text (name ∷ names) = ap (λ b. bytes_eq name.now text || b) (among_texts text names)

pub members_fixed : (machines : List (List ℕ)) (b : BuiltInType) → (b ≡ MachineType → ⊥) → members_of [] b ≡ members_of machines b
members_fixed machines MachineType h = absurd (h refl)
members_fixed machines Int h = refl
members_fixed machines Cycles h = refl
members_fixed machines Tick h = refl
members_fixed machines Bool h = refl
members_fixed machines Address h = refl
members_fixed machines MachineId h = refl
members_fixed machines NetDest h = refl
members_fixed machines DataBlock h = refl
members_fixed machines AccessPermission h = refl
members_fixed machines RequestType h = refl
members_fixed machines MessageSize h = refl
members_fixed machines Request h = refl
members_fixed machines AbstractEntry h = refl
members_fixed machines Void h = refl
members_fixed machines Cache h = refl
members_fixed machines Directory h = refl
members_fixed machines TbeTable h = refl
members_fixed machines Sequencer h = refl
members_fixed machines Buffer h = refl
