-- What trees mean is framed: messages and marks that come later are nothing to its scans.
use Rattle.std.proofs.Common.{◌≡◌, ◌∙◌, ℕ, List, Option, None, Some, map, refl, ap}
use Rattle.slicc_ast.specs.declared.tree.item.Tree.{Tree}
use Rattle.ruby_value.specs.declared.setup.MachineSetup.{MachineSetup}
use Rattle.protocol_runs.specs.Prelude.{IsFramedMeaning, outcome_with}
use Rattle.ctl_face.specs.Prelude.{Actor, Ctl, IsLawful, LocalView, scan_view}
use Rattle.acts.specs.Added.{Added, AreNew, ctl_with, with_added}
use Rattle.body_meaning.specs.Prelude.{Reading}
use Rattle.body_meaning.specs.declared.frame.RoundEnd.{RoundEnd}
use Rattle.body_meaning.specs.declared.frame.RoundEnd.TheVariants as round
use Rattle.protocol_meaning.specs.Meaning.{lookups_by, lookups_of, meaning_of, outcome_by, outcome_of, scan_by, scan_of, tried_pair}
use Rattle.protocol_meaning.specs.Prelude.{reading_of}
use Rattle.protocol_meaning.proofs.Later.{whole_framed, whole_tried}

outcome_framed : (more : Added) (end : RoundEnd) (w : LocalView) → outcome_by end (with_added more w) ≡ outcome_with (ctl_with more) (outcome_by end w)
outcome_framed more (round.Fired note) w = refl
outcome_framed more round.Idle w = refl
outcome_framed more round.Full w = refl
outcome_framed more (round.Stop at) w = refl

module _ (setup : MachineSetup) (actor : Actor) (now limit : ℕ) (ctl : Ctl) (more : Added) where
  abbrev begun : LocalView
  begun = scan_view setup actor now ctl

  scan_framed : IsLawful begun → AreNew begun more → (o : Option Reading)
      → outcome_of (scan_by o limit ctl.fired (with_added more begun)) ≡ outcome_with (ctl_with more) (outcome_of (scan_by o limit ctl.fired begun))
  scan_framed lawful new None = refl
  scan_framed lawful new (Some s) =
      let left = scan_by (Some s) limit ctl.fired begun in
      ap outcome_of (whole_framed more begun lawful new s limit ctl.fired) ∙ outcome_framed more left.end left.view

  tried_framed : IsLawful begun → AreNew begun more → (o : Option Reading)
      → map tried_pair (lookups_by o limit ctl.fired (with_added more begun)) ≡ map tried_pair (lookups_by o limit ctl.fired begun)
  tried_framed lawful new None = refl
  tried_framed lawful new (Some s) = ap (map tried_pair) (whole_tried more begun lawful new s limit ctl.fired)

pub meanings_framed : (trees : List Tree) → IsFramedMeaning (meaning_of trees)
unfolding scan_of lookups_of
meanings_framed trees machine setup actor now limit ctl more lawful new =
    let reading = reading_of trees machine in
    λ i. record {
      outcome = scan_framed setup actor now limit ctl more lawful new reading i;
      tried = tried_framed setup actor now limit ctl more lawful new reading i;
    }
