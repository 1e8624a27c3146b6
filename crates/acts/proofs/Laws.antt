-- The two laws of all bodies: what each act keeps, each body keeps; and where each act agrees in two locals that are related, so does
-- each body. Both are inductions over what a body does, with one case for acts.
use Rattle.std.proofs.Common.{◌≡◌, Bool, true, false, Result, Ok, Err, refl, ap, subst, ◌∙◌}
use Rattle.std.proofs.lemmas.Bool.{cond_both}
use Rattle.ruby_value.specs.declared.fault.Fault.{Fault}
use Rattle.ruby_value.specs.declared.fault.Fault.TheVariants.{Reference}
use Rattle.ruby_value.specs.declared.setup.MachineSetup.{MachineSetup}
use Rattle.ctl_face.specs.Prelude.{LocalView}
use Rattle.acts.specs.Prelude.{Act, Acting, ends, stops, acts, follow, run, Agrees, HoldsAfter, Done, does, does_served, serves}
use Rattle.acts.proofs.Served.{does-not_served, does-served}

abbrev pub EachActKeeps : (LocalView → Type 0) → Type 0
EachActKeeps I = (a : Act) (v : LocalView) → I v → HoldsAfter I (does a v)

abbrev pub EachActAgrees : (LocalView → LocalView → Type 0) → Type 0
EachActAgrees R = (a : Act) (v w : LocalView) → R v w → Agrees R (does a v) (does a w)

module _ {A B : Type 0} (I : LocalView → Type 0) where
  kept_after : (r : Result (Done A) Fault) (next : A → LocalView → Result (Done B) Fault) → HoldsAfter I r
      → ((x : A) (w : LocalView) → I w → HoldsAfter I (next x w)) → HoldsAfter I (follow r next)
  kept_after (Ok d) next holds keeps = keeps d.value d.view holds
  kept_after (Err f) next holds keeps = tt

pub all_keeps : {A : Type 0} (I : LocalView → Type 0) → EachActKeeps I → (p : Acting A) (v : LocalView) → I v → HoldsAfter I (run p v)
unfolding run
all_keeps I keeps (ends x) v holds = holds
all_keeps I keeps (stops f) v holds = tt
all_keeps I keeps (acts a more) v holds =
    kept_after I (does a v) (λ x w. run (more x) w) (keeps a v holds) (λ x w now. all_keeps I keeps (more x) w now)

module _ {A B : Type 0} (R : LocalView → LocalView → Type 0) (next : A → LocalView → Result (Done B) Fault)
    (agrees : (x : A) (v w : LocalView) → R v w → Agrees R (next x v) (next x w)) where
  agrees_after : (r s : Result (Done A) Fault) → Agrees R r s → Agrees R (follow r next) (follow s next)
  agrees_after (Ok d) (Ok e) (same, related) = subst (λ (x : A). Agrees R (next d.value d.view) (next x e.view)) same (agrees d.value d.view e.view related)
  agrees_after (Ok d) (Err g) wrong = absurd wrong
  agrees_after (Err f) (Ok e) wrong = absurd wrong
  agrees_after (Err f) (Err g) same = same

pub all_agrees : {A : Type 0} (R : LocalView → LocalView → Type 0) → EachActAgrees R → (p : Acting A) (v w : LocalView) → R v w → Agrees R (run p v) (run p w)
unfolding run
all_agrees R agree (ends x) v w related = (refl, related)
all_agrees R agree (stops f) v w related = refl
all_agrees R agree (acts a more) v w related =
    agrees_after R (λ x u. run (more x) u) (λ x u t now. all_agrees R agree (more x) u t now) (does a v) (does a w) (agree a v w related)

-- it is enough to look at what is served
pub keeps_where_served : (I : LocalView → Type 0) → ((a : Act) (v : LocalView) → serves v.machine a ≡ true → I v → HoldsAfter I (does_served a v)) → EachActKeeps I
unfolding does
keeps_where_served I keeps a v holds =
    cond_both (serves v.machine a) (does_served a v) (Err Reference) (HoldsAfter I) (λ served. keeps a v served holds) (λ _. tt)

pub agrees_where_served : (R : LocalView → LocalView → Type 0) → ((v w : LocalView) → R v w → w.machine ≡ v.machine)
    → ((a : Act) (v w : LocalView) → serves v.machine a ≡ true → R v w → Agrees R (does_served a v) (does_served a w)) → EachActAgrees R
agrees_where_served R same agrees a v w related = by (serves v.machine a) refl
  where
    other : serves w.machine a ≡ serves v.machine a
    other = ap (λ (m : MachineSetup). serves m a) (same v w related)

    by : (b : Bool) → serves v.machine a ≡ b → Agrees R (does a v) (does a w)
    by true is = rw (does-served a v is, does-served a w (other ∙ is)) (agrees a v w is related)
    by false is = rw (does-not_served a v is, does-not_served a w (other ∙ is)) refl
