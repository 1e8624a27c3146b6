-- An act that is done in a local by the call of its name does what it is.
use Rattle.std.proofs.Common.{◌≡◌, true, false, Result, Ok, Err, refl, sym, ap, ◌∙◌}
use Rattle.ruby_value.specs.declared.fault.Fault.{Fault}
use Rattle.ruby_value.specs.declared.fault.Fault.TheVariants.{Reference}
use Rattle.ctl_face.specs.declared.trouble.Trouble.{Trouble}
use Rattle.ctl_face.specs.declared.trouble.Trouble.TheVariants as trouble
use Rattle.ctl_face.specs.Prelude.{DoesWith, Reads, answered, LocalView}
use Rattle.acts.specs.Prelude.{Act, answer, act, ends, follow, run, DoesAs, itself, Done, changes, does, does_served, reads, serves}

pub does-served : (a : Act) (v : LocalView) → serves v.machine a ≡ true → does a v ≡ does_served a v
unfolding does
does-served a v is = rw is refl

pub does-not_served : (a : Act) (v : LocalView) → serves v.machine a ≡ false → does a v ≡ Err Reference
unfolding does
does-not_served a v is = rw is refl

pub answered_reads : {A : Type 0} (want : Result A Fault) (result : Result A Trouble) → result ≡ answered want → Reads want result
answered_reads (Ok a) result is = rw is refl
answered_reads (Err fault) result is = rw is refl

-- what an act does is what it does as a body
run_act : (a : Act) (v : LocalView) → run (act a) v ≡ does a v
unfolding run act
run_act a v = go (does a v)
  where
    go : (r : Result (Done (answer a)) Fault) → follow r (λ x w. run {A = answer a} (ends x) w) ≡ r
    go (Ok d) = refl
    go (Err f) = refl

pub not_served_does : {R : Type 0} (a : Act) (means : R → answer a) (v w : LocalView) → serves v.machine a ≡ false
    → DoesAs means (act a) (Err (trouble.Fault Reference)) v w
unfolding DoesAs
not_served_does a means v w is = run_act a v ∙ does-not_served a v is

module _ (a : Act) (v : LocalView) (served : serves v.machine a ≡ true) where
  served_run : run (act a) v ≡ does_served a v
  served_run = run_act a v ∙ does-served a v served

  pub reads_does : (want : Result (answer a) Fault) (result : Result (answer a) Trouble) → does_served a v ≡ reads v want → Reads want result
      → DoesAs itself (act a) result v v
  unfolding DoesAs
  reads_does want (Ok x) is does = served_run ∙ is ∙ ap (reads v) does
  reads_does want (Err (trouble.Fault f)) is does = served_run ∙ is ∙ ap (reads v) does
  reads_does want (Err trouble.NoMemory) is does = tt

  -- with an answer that stands for what is read
  pub means_does : {R : Type 0} (means : R → answer a) (x : R) (want : Result (answer a) Fault) → does_served a v ≡ reads v want → want ≡ Ok (means x)
      → DoesAs means (act a) (Ok x) v v
  unfolding DoesAs
  means_does means x want is does = served_run ∙ is ∙ ap (reads v) does

  pub faults_does : {R : Type 0} (means : R → answer a) (fault : Fault) (want : Result (answer a) Fault) → does_served a v ≡ reads v want → want ≡ Err fault
      → DoesAs means (act a) (Err (trouble.Fault fault)) v v
  unfolding DoesAs
  faults_does means fault want is does = served_run ∙ is ∙ ap (reads v) does

  pub changes_does : (want : Result LocalView Fault) (x : answer a) (result : Result (answer a) Trouble) (w : LocalView) → does_served a v ≡ changes x want → DoesWith want x result v w
      → DoesAs itself (act a) result v w
  unfolding DoesAs
  changes_does want x (Ok y) w is does = let comes = does.comes in served_run ∙ is ∙ ap (changes x) comes.0 ∙ ap (λ (z : answer a). Ok (record { value = z; view = w })) (sym comes.1)
  changes_does want x (Err (trouble.Fault f)) w is does = let comes = does.comes in served_run ∙ is ∙ ap (changes x) comes.0
  changes_does want x (Err trouble.NoMemory) w is does = tt

-- tied by its name to the call of the local
