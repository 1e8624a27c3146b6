-- In a run the end of a wake-up says `invalid` exactly where its scan tried a pair without a transition.
use Rattle.std.proofs.Common.{◌≡◌, ◌++◌, ℕ, Bool, true, false, Option, None, Some, List, [], ◌∷◌, length, refl, sym, ◌∙◌, ap, subst, slice_get}
use Rattle.std.specs.Option.{option_to_list}
use Rattle.std.proofs.lemmas.List.{append_assoc}
use Rattle.std.proofs.lemmas.Option.{same_Some}
use Rattle.run_journal.specs.declared.entry.End.{End}
use Rattle.run_journal.specs.declared.entry.End.TheVariants as end
use Rattle.run_journal.specs.declared.entry.Entry.{Entry}
use Rattle.run_journal.specs.declared.entry.Entry.TheVariants.{Ended}
use Rattle.run_journal.specs.declared.entry.StopAt.{StopAt}
use Rattle.run_journal.specs.declared.event.Event.{Event}
use Rattle.run_journal.specs.declared.event.Event.TheVariants.{Take, Fire, Done, Release, Turn}
use Rattle.protocol_runs.specs.Prelude.{Rules, Outcome, Full, Fired, Stop, Idle, Place, World, Stepped, Moved, Ran, IsRun, invalid_at, IsExact, EndsExactly, NeverFires, InvalidExactly, Ends, Idled, Filled, Halted, Move, Taken, FiredBy, EndedBy, Released, Change, Moves, Closes, Turns, IsSound, ReportsInvalid}
use Rattle.protocol_runs.proofs.Runs.{with_step, headed, rest-path, extends}
use Rattle.protocol_runs.proofs.Fitting.{all-fit}

abbrev pub is_fired : {C M : Type 0} → Outcome C M → Bool
is_fired Full = false
is_fired (Fired note acts copies after) = true
is_fired (Stop at) = false
is_fired (Idle after) = false

module _ {C M D : Type 0} (r : Rules C M D) where
  -- the controller whose event it is
  abbrev controller_of : Event → Option ℕ
  controller_of (Take worker c) = Some c
  controller_of (Fire worker c) = Some c
  controller_of (Done worker c) = Some c
  controller_of (Release worker c) = Some c
  controller_of (Turn worker) = None

  of-move : (now c : ℕ) (p : Place C) (e : Event) (m : Moved C M) → Move r now c p e m → controller_of e ≡ Some c
  of-move now c p e m (Taken worker free) = refl
  of-move now c p e m (FiredBy worker note acts copies after holds is) = refl
  of-move now c p e m (EndedBy worker after how holds ends) = refl
  of-move now c p e m (Released worker holds) = refl

  -- a lawful event of a controller moves its place
  change-moves : (n : ℕ) (w : World C D) (c : ℕ) (p : Place C) (e : Event) (st : Stepped C D) → Change r n w e st → controller_of e ≡ Some c
      → slice_get w.places c ≡ Some p → (m : Moved C M) × Move r w.now c p e m × (st.entry ≡ m.entry)
  change-moves n w c p e st (Moves d q f m there move) of here =
      let same : d ≡ c = same_Some d c (sym (of-move w.now d q e m move) ∙ of) in
      let place : q ≡ p = same_Some q p (sym there ∙ ap (λ (i : ℕ). slice_get w.places i) same ∙ here) in
      (m, subst (λ (i : ℕ). Move r w.now i p e m) same (subst (λ (x : Place C). Move r w.now d x e m) place move), refl)
  change-moves n w c p e st (Closes worker d idle least) of here = absurd (cc of)
  change-moves n w c p e st (Turns worker idle least) of here = absurd (cc of)

  done-ends : (now worker c : ℕ) (p : Place C) (e : Event) (m : Moved C M) → Move r now c p e m → e ≡ Done worker c
      → (after : C) × (how : End) × Ends r c now p.controller after how × (m.entry ≡ Some (Ended now c how))
  done-ends now worker c p e m (Taken other free) is = absurd (cc is)
  done-ends now worker c p e m (FiredBy other note acts copies after holds fired) is = absurd (cc is)
  done-ends now worker c p e m (EndedBy other after how holds ends) is = (after, how, ends, refl)
  done-ends now worker c p e m (Released other holds) is = absurd (cc is)

  fire-fires : (now worker c : ℕ) (p : Place C) (e : Event) (m : Moved C M) → Move r now c p e m → e ≡ Fire worker c
      → is_fired (r.scan c p.controller now).outcome ≡ true
  fire-fires now worker c p e m (Taken other free) is = absurd (cc is)
  fire-fires now worker c p e m (FiredBy other note acts copies after holds fired) is = ap (λ (o : Outcome C M). is_fired o) fired
  fire-fires now worker c p e m (EndedBy other after how holds ends) is = absurd (cc is)
  fire-fires now worker c p e m (Released other holds) is = absurd (cc is)

module _ {C M D : Type 0} (r : Rules C M D) (Fits : ℕ → C → ℕ → Type 0) (Suits : ℕ → M → ℕ → Type 0) (Leads : D → ℕ → ℕ → Type 0) (sound : IsSound r Fits Suits Leads) (reports : ReportsInvalid r Fits Suits Leads) where
  exact : (c now : ℕ) (x after : C) (e : End) → Fits c x now → Ends r c now x after e → IsExact r c x now e
  exact c now x after e fits (Idled y is) =
      record {
        caused = λ at stop invalid. absurd (cc stop);
        comes = λ t try. absurd (cc (sym is ∙ reports.comes c now x fits t try));
      }
  exact c now x after e fits (Filled is) =
      record {
        caused = λ at stop invalid. absurd (cc stop);
        comes = λ t try. absurd (cc (sym is ∙ reports.comes c now x fits t try));
      }
  exact c now x after e fits (Halted at is) =
      record {
        caused = λ at' stop invalid.
            let same : at ≡ at' = cc stop in
            reports.caused c now x fits at' (is ∙ ap (λ (a : StopAt). Stop a) same) invalid;
        comes = λ t try.
            let same : at ≡ invalid_at t = cc (sym is ∙ reports.comes c now x fits t try) in
            ap (λ (a : StopAt). end.Stop a) same;
      }

  ends-exactly : (history : List Event) (w : World C D) (journal : List Entry) → IsRun r history w journal → EndsExactly r history journal
  ends-exactly history w journal is =
      λ before after worker c v sofar p split so_far there.
      let whole = subst (λ (h : List Event). IsRun r h w journal) split is in
      let x : Ran C D = record { world = v; journal = sofar } in
      let y : Ran C D = record { world = w; journal = journal } in
      let (st, goes, rest) = headed r x (Done worker c ∷ after) y (rest-path r before (Done worker c ∷ after) v w sofar journal so_far whole) in
      let (m, move, entry_is) = change-moves r (length sofar) v c p (Done worker c) st goes.change refl there in
      let (ended, how, ends, says) = done-ends r v.now worker c p (Done worker c) m move refl in
      let more = extends r (with_step x st) after y rest in
      let entry : sofar ++ option_to_list st.entry ≡ sofar ++ Ended v.now c how ∷ [] = ap (λ (o : Option Entry). sofar ++ option_to_list o) (entry_is ∙ says) in (
        how,
        record {
          later = more.later;
          entry = more.is ∙ ap (λ (j : List Entry). j ++ more.later) entry ∙ append_assoc sofar (Ended v.now c how ∷ []) more.later;
          exact = exact c v.now p.controller ended how (all-fit r Fits Suits Leads sound before v sofar so_far c p there) ends;
        },
      )

  never-fires : (history : List Event) (w : World C D) (journal : List Entry) → IsRun r history w journal → NeverFires r history
  never-fires history w journal is =
      λ before after worker c v sofar p t split so_far there try.
      let whole = subst (λ (h : List Event). IsRun r h w journal) split is in
      let x : Ran C D = record { world = v; journal = sofar } in
      let y : Ran C D = record { world = w; journal = journal } in
      let (st, goes, rest) = headed r x (Fire worker c ∷ after) y (rest-path r before (Fire worker c ∷ after) v w sofar journal so_far whole) in
      let (m, move, entry_is) = change-moves r (length sofar) v c p (Fire worker c) st goes.change refl there in
      let fires = fire-fires r v.now worker c p (Fire worker c) m move refl in
      let stops = reports.comes c v.now p.controller (all-fit r Fits Suits Leads sound before v sofar so_far c p there) t try in
      cc (sym fires ∙ ap (λ (o : Outcome C M). is_fired o) stops)

  pub invalid-exactly : (history : List Event) (w : World C D) (journal : List Entry) → IsRun r history w journal → InvalidExactly r history journal
  invalid-exactly history w journal is =
      record { ends = ends-exactly history w journal is; never_fires = never-fires history w journal is }
