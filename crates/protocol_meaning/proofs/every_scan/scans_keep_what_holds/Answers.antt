use Rattle.acts.proofs.Left.{left_copies, left_counts, left_lawful, left_mailed, left_marked, left_marks, left_scan}
use Rattle.body_meaning.specs.Prelude.{scan}
use Rattle.protocol_meaning.proofs.Left.{left_by_scan}
use Rattle.protocol_meaning.proofs.every_scan.scans_keep_what_holds.Goals as goal

pub returns-clause-left : goal.returns-clause-left
returns-clause-left c = λ s limit fired v. left_by_scan s limit fired v

pub returns-clause-lawful : goal.returns-clause-lawful
returns-clause-lawful c = λ s limit fired v lawful. left_lawful v (scan s limit fired v).view (left_by_scan s limit fired v) lawful

pub returns-clause-same : goal.returns-clause-same
returns-clause-same c = λ s limit fired v. left_scan v (scan s limit fired v).view (left_by_scan s limit fired v)

pub returns-clause-counts : goal.returns-clause-counts
returns-clause-counts c = λ s limit fired v. left_counts v (scan s limit fired v).view (left_by_scan s limit fired v)

pub returns-clause-marks : goal.returns-clause-marks
returns-clause-marks c = λ s limit fired v. left_marks v (scan s limit fired v).view (left_by_scan s limit fired v)

pub returns-clause-marked : goal.returns-clause-marked
returns-clause-marked c = λ s limit fired v marked. left_marked v (scan s limit fired v).view (left_by_scan s limit fired v) marked

pub returns-clause-mailed : goal.returns-clause-mailed
returns-clause-mailed c = λ s limit fired v lawful. left_mailed v (scan s limit fired v).view (left_by_scan s limit fired v) lawful

pub returns-clause-receivers : goal.returns-clause-receivers
returns-clause-receivers c = λ s limit fired machines ranges v is. left_copies v (scan s limit fired v).view (left_by_scan s limit fired v) machines ranges is
