use Rattle.acts.proofs.Instances.{copies_have_receivers, counts_stay, stays_in_run, stays_in_scan, stays_lawful}
use Rattle.acts.proofs.body_laws.bodies_keep_what_holds.Goals as goal

pub returns : goal.returns
returns g c = record { lawful = stays_lawful; scan = stays_in_scan; counts = counts_stay; in_run = λ p machines ranges v. stays_in_run p v machines ranges; receivers = λ p machines ranges v. copies_have_receivers p v machines ranges }
