use Rattle.slicc_reading.proofs.Parts.{◌then◌, behind}
use Rattle.slicc_reading.proofs.kept.joined.Goals as goal

pub returns-in-Ok-clause-read : goal.returns-in-Ok-clause-read
returns-in-Ok-clause-read g c room part later parts more start between first h = first then (rw c.in-Ok.is at h)

pub returns-in-Ok-clause-shorter : goal.returns-in-Ok-clause-shorter
returns-in-Ok-clause-shorter g c size h = rw c.in-Ok.is at h

pub returns-in-Err-clause-read : goal.returns-in-Err-clause-read
returns-in-Err-clause-read g c room part later parts more start between first h = behind first (rw c.in-Err.is at h)
