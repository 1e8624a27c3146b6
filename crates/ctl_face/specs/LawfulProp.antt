-- That a local is lawful has one proof at most, so a type may keep it beside its fields, and the trait's law give it as it is.
use Rattle.std.specs.Prelude.{ℕ, Bool, true, false, Option, None, Some, List, [], ◌∷◌}
use Rattle.std.specs.Coded.{Coded, coded_ℕ}
use Rattle.std.specs.FinMap as map
use Rattle.std.specs.Ordering.{nat_cmp}
use Rattle.std.proofs.Props.{props}
use Rattle.ruby_value.specs.Prelude.{AreLinesOf, Cache, Line, HasLawfulSets, Requests}
use Rattle.ruby_value.specs.contracts.value.Value as value
use Rattle.ruby_value.specs.declared.kind.Kind.{Kind}
use Rattle.ruby_value.specs.declared.setup.BufferPlace.TheVariants as place
use Rattle.ruby_value.specs.declared.setup.BufferPlace.{BufferPlace}
use Rattle.ruby_value.specs.declared.setup.TableSetup.{TableSetup}
use Rattle.ruby_value.specs.declared.setup.TableSize.TheVariants as size
use Rattle.ruby_value.specs.declared.setup.TableSize.{TableSize}
use Rattle.ruby_value.specs.declared.value.Value.{Value}
use Rattle.ctl_face.specs.declared.routes.Routes.{Routes}
use Rattle.ctl_face.specs.Fits.{FitsLines, FitsSequencer, FitsTableAt, IsLawful, IsOfSize}
use Rattle.ctl_face.specs.IsMachine.{HasPlaces, SameReceivers}
use Rattle.ctl_face.specs.LocalView.{LocalView}
use Rattle.ctl_face.specs.RoutesFit.{IsNamed}
use Rattle.ctl_face.specs.Table.{Table, CacheTable, DirectoryTable, TbeTable, ParameterTable}

HasPlaces-prop : (s : TableSize) → IsProp (HasPlaces s)
HasPlaces-prop (size.Cache sets ways) = Prim.hlevel props
HasPlaces-prop size.Directory = Prim.hlevel props
HasPlaces-prop (size.Tbe entries) = Prim.hlevel props
HasPlaces-prop size.Parameters = Prim.hlevel props

SameReceivers-prop : (a b : BufferPlace) → IsProp (SameReceivers a b)
SameReceivers-prop (place.To network destination) (place.To other other_destination) = Prim.hlevel props
SameReceivers-prop (place.To network destination) place.Local = Prim.hlevel props
SameReceivers-prop (place.To network destination) (place.From other) = Prim.hlevel props
SameReceivers-prop place.Local b = Prim.hlevel props
SameReceivers-prop (place.From network) b = Prim.hlevel props

IsNamed-prop : (p : BufferPlace) (buffer controller : ℕ) (routes : Routes) → IsProp (IsNamed p buffer controller routes)
IsNamed-prop (place.From network) buffer controller routes = Prim.hlevel props
IsNamed-prop place.Local buffer controller routes = Prim.hlevel props
IsNamed-prop (place.To network destination) buffer controller routes = Prim.hlevel props

FitsLines-prop : (kinds : List Kind) (t : Table) → IsProp (FitsLines kinds t)
FitsLines-prop kinds (CacheTable cache) = Prim.hlevel props
FitsLines-prop kinds (DirectoryTable directory) = Prim.hlevel props
FitsLines-prop kinds (TbeTable tbes) = Prim.hlevel props
FitsLines-prop kinds (ParameterTable values) = Prim.hlevel props

FitsSequencer-prop : (has : Bool) (o : Option Requests) → IsProp (FitsSequencer has o)
FitsSequencer-prop false None = Prim.hlevel props
FitsSequencer-prop true (Some r) = Prim.hlevel props
FitsSequencer-prop false (Some r) = Prim.hlevel props
FitsSequencer-prop true None = Prim.hlevel props

AreLinesOf-prop : (sets place : ℕ) (lines : List Line) → IsProp (AreLinesOf sets place lines)
AreLinesOf-prop sets place [] = Prim.hlevel props
AreLinesOf-prop sets place (l ∷ rest) = Prim.hlevel (props, value.the_row.coded, AreLinesOf-prop sets place rest)

HasLawfulSets-prop : (cache : Cache) → IsProp (HasLawfulSets cache)
unfolding HasLawfulSets
HasLawfulSets-prop cache = Prim.hlevel (props, AreLinesOf-prop)

IsOfSize-prop : (s : TableSize) (initial : List Value) (t : Table) → IsProp (IsOfSize s initial t)
IsOfSize-prop (size.Cache sets ways) initial (CacheTable cache) = Prim.hlevel (props, HasLawfulSets-prop)
IsOfSize-prop (size.Cache sets ways) initial (DirectoryTable directory) = Prim.hlevel props
IsOfSize-prop (size.Cache sets ways) initial (TbeTable tbes) = Prim.hlevel props
IsOfSize-prop (size.Cache sets ways) initial (ParameterTable values) = Prim.hlevel props
IsOfSize-prop size.Directory initial (CacheTable cache) = Prim.hlevel props
IsOfSize-prop size.Directory initial (DirectoryTable directory) = Prim.hlevel props
IsOfSize-prop size.Directory initial (TbeTable tbes) = Prim.hlevel props
IsOfSize-prop size.Directory initial (ParameterTable values) = Prim.hlevel props
IsOfSize-prop (size.Tbe entries) initial (CacheTable cache) = Prim.hlevel props
IsOfSize-prop (size.Tbe entries) initial (DirectoryTable directory) = Prim.hlevel props
IsOfSize-prop (size.Tbe entries) initial (TbeTable tbes) = Prim.hlevel props
IsOfSize-prop (size.Tbe entries) initial (ParameterTable values) = Prim.hlevel props
IsOfSize-prop size.Parameters initial (CacheTable cache) = Prim.hlevel props
IsOfSize-prop size.Parameters initial (DirectoryTable directory) = Prim.hlevel props
IsOfSize-prop size.Parameters initial (TbeTable tbes) = Prim.hlevel props
IsOfSize-prop size.Parameters initial (ParameterTable values) = Prim.hlevel props

FitsTableAt-prop : (s : Option TableSetup) (t : Option Table) → IsProp (FitsTableAt s t)
FitsTableAt-prop None None = Prim.hlevel props
FitsTableAt-prop (Some s) (Some t) = Prim.hlevel (props, IsOfSize-prop, FitsLines-prop)
FitsTableAt-prop None (Some t) = Prim.hlevel props
FitsTableAt-prop (Some s) None = Prim.hlevel props

states_code : Coded (map.FinMap nat_cmp ℕ)
states_code = map.code coded_ℕ coded_ℕ

pub IsLawful-prop : (v : LocalView) → IsProp (IsLawful v)
IsLawful-prop v = Prim.hlevel (props, HasPlaces-prop, SameReceivers-prop, IsNamed-prop, FitsTableAt-prop, FitsSequencer-prop, states_code)
