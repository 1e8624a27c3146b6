use Rattle.protocol_meaning.proofs.Later.{whole_framed, whole_tried}
use Rattle.protocol_meaning.proofs.every_scan.what_comes_later_changes_no_scan.Goals as goal

pub returns-clause-scan : goal.returns-clause-scan
returns-clause-scan c = λ s limit fired v more lawful new. whole_framed more v lawful new s limit fired

pub returns-clause-pairs : goal.returns-clause-pairs
returns-clause-pairs c = λ s limit fired v more lawful new. whole_tried more v lawful new s limit fired
