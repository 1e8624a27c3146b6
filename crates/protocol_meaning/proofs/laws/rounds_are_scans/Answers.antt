use Rattle.protocol_meaning.specs.Prelude.{scan_of}
use Rattle.protocol_meaning.proofs.Rounds.{round_told}
use Rattle.protocol_meaning.proofs.laws.rounds_are_scans.Goals as goal

pub returns : goal.returns
returns c = λ trees machine limit before after end. round_told (scan_of trees machine limit before.ctl.fired before) end after before
