-- A run from its opening to its record: nobody is held at the opening, and what the record says is of the driver that was given.
use Rattle.std.proofs.Common.{◌≡◌, ℕ, false, List, [], ◌∷◌, map, refl, sym, ◌∙◌, ap, subst}
use Rattle.std.specs.List.{list_any}
use Rattle.std.proofs.lemmas.Option.{same_Some}
use Rattle.slicc_ast.specs.declared.tree.item.Tree.{Tree}
use Rattle.run_journal.specs.declared.entry.Entry.{Entry}
use Rattle.protocol_runs.specs.Prelude.{IsAlone, Rules, IsRun, Ran, World, is_held, opening, opening_place}
use Rattle.ruby_topology.specs.declared.topology.Topology.{Topology}
use Rattle.ruby_world.specs.Prelude.{RunLimits, HasAddedAlone, InWorld, IsNobodyHeld, WorldView, opened, rules_in}
use Rattle.protocol_meaning.specs.declared.record.RunRecord.{RunRecord}
use Rattle.protocol_meaning.specs.Records as records
use Rattle.ruby_world.proofs.Views.{alone-all}
use Rattle.sequencer.specs.Prelude.{Drive, Seat}

none-held : {C : Type 0} (controllers : List C) → list_any is_held (map opening_place controllers) ≡ false
none-held [] = refl
none-held (c ∷ controllers) = none-held controllers

begun-nobody : {C M D : Type 0} (r : Rules C M D) (w : World C D) (journal : List Entry) → IsRun r [] w journal → list_any is_held w.places ≡ false
begun-nobody {C} {M} {D} r w journal is =
    let first : Ran C D = record { world = opening r; journal = [] } in
    let last : Ran C D = record { world = w; journal = journal } in
    let same : opening r ≡ w = ap (λ (x : Ran C D). x.world) (same_Some first last is) in
    ap (λ (x : World C D). list_any is_held x.places) (sym same) ∙ none-held r.controllers

pub opened-nobody : {D : Type 0} (drive : D → List Seat → ℕ → Drive D) (v : WorldView D) → v.history ≡ [] → InWorld drive v (IsNobodyHeld drive v)
opened-nobody drive v none w is =
    begun-nobody (rules_in drive v) w v.journal (subst (λ h. IsRun (rules_in drive v) h w v.journal) none is)

module _ {D : Type 0} (drive : D → List Seat → ℕ → Drive D) (first : WorldView D) (trees : List Tree) (t : Topology) (limits : RunLimits) (driver : D)
    (is : first ≡ opened trees t limits driver) where
  pub begins-nobody : InWorld drive first (IsNobodyHeld drive first)
  begins-nobody = opened-nobody drive first (ap (λ (v : WorldView D). v.history) is)

  pub whole-alone : (ended : WorldView D) → HasAddedAlone drive first ended → (r : RunRecord)
      → (IsAlone (rules_in drive ended) ended.history → IsAlone (records.rules_in drive ended.opening r) r.history)
      → IsAlone (records.rules_in drive driver r) r.history
  whole-alone ended added r leads =
      subst (λ (x : D). IsAlone (records.rules_in drive x r) r.history) (added.opening ∙ ap (λ (v : WorldView D). v.opening) is)
      (leads (alone-all drive first ended added (ap (λ (v : WorldView D). v.history) is)))
