-- A scan with messages, credits and marks added to the local that it leaves.
use Rattle.acts.specs.Prelude.{Added, with_added}
use Rattle.body_meaning.specs.Prelude.{Scanned}

abbrev pub scanned_with : Added → Scanned → Scanned
scanned_with more r = record { end = r.end; view = with_added more r.view }
