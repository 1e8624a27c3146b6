-- Which locals bodies leave: that in which one begins, the one after an act, what is left of one that is left, and what any body
-- leaves, whatever it answers. So a scan that is made of acts, in whatever form it has them, leaves such a local. And what holds of one.
use Rattle.std.proofs.Common.{◌≡◌, ℕ, List, Result, Ok, Err, All, refl, sym, ap, subst, ◌∙◌}
use Rattle.ruby_value.specs.declared.fault.Fault.{Fault}
use Rattle.ruby_value.specs.declared.setup.MachineSetup.{MachineSetup}
use Rattle.ctl_face.specs.Prelude.{IsLawful, FitsReceiver, IsInRun, LocalView, SameScan, messages_among}
use Rattle.acts.specs.Prelude.{Act, answer, Acting, ends, stops, acts, follow, run, HoldsAfter, Done, does, CountsStay, IsMarked, MarksStay, IsLeft, HasMailed}
use Rattle.acts.proofs.Instances.{copies_have_receivers, counts_stay, mail_moves, marks_stay, stays_in_scan, stays_lawful, stays_marked}

pub left_here : (v : LocalView) → IsLeft v v
unfolding run
left_here v = record { body = ends tt; ends = refl }

pub left_by_act : (a : Act) (v w : LocalView) (d : Done (answer a)) → does a v ≡ Ok d → IsLeft d.view w → IsLeft v w
unfolding run
left_by_act a v w d is rest = record {
  body = acts a (λ x. rest.body);
  ends = ap (λ (r : Result (Done (answer a)) Fault). follow r (λ x u. run rest.body u)) is ∙ rest.ends;
}

module _ {A : Type 0} where
  -- an act's answer, and what the rest leaves
  after_act : (a : Act) (v : LocalView) (more : answer a → Acting A) (r : Result (Done (answer a)) Fault) (d : Done A)
      → does a v ≡ r → ((x : answer a) (u : LocalView) (e : Done A) → run (more x) u ≡ Ok e → IsLeft u e.view)
      → follow r (λ x u. run (more x) u) ≡ Ok d → IsLeft v d.view
  after_act a v more (Ok e) d is rest follows = left_by_act a v d.view e is (rest e.value e.view d follows)
  after_act a v more (Err f) d is rest follows = absurd (cc follows)

  ended : (v : LocalView) (x : A) (d : Done A) → ◌≡◌ {A = Result (Done A) Fault} (Ok (record { value = x; view = v })) (Ok d) → IsLeft v d.view
  ended v x d is = let same : v ≡ d.view = cc is in subst (IsLeft v) same (left_here v)

  -- what any body leaves
  pub left_by : (p : Acting A) (v : LocalView) (d : Done A) → run p v ≡ Ok d → IsLeft v d.view
  unfolding run
  left_by (ends x) v d is = ended v x d is
  left_by (stops f) v d is = absurd (cc is)
  left_by (acts a more) v d is = after_act a v more (does a v) d refl (λ x u e. left_by (more x) u e) is

module _ (u w : LocalView) (second : IsLeft u w) where
  chained_act : (a : Act) (v : LocalView) (more : answer a → Acting (Unit {0})) (r : Result (Done (answer a)) Fault) → does a v ≡ r
      → ((x : answer a) (t : LocalView) → run (more x) t ≡ Ok (record { value = tt; view = u }) → IsLeft t w)
      → follow r (λ x t. run (more x) t) ≡ Ok (record { value = tt; view = u }) → IsLeft v w
  chained_act a v more (Ok e) is rest follows = left_by_act a v w e is (rest e.value e.view follows)
  chained_act a v more (Err f) is rest follows = absurd (cc follows)

  chained : (p : Acting (Unit {0})) (v : LocalView) → run p v ≡ Ok (record { value = tt; view = u }) → IsLeft v w
  unfolding run
  chained (ends x) v is =
      let same : ◌≡◌ {A = Done (Unit {0})} (record { value = x; view = v }) (record { value = tt; view = u }) = cc is in
      subst (λ (t : LocalView). IsLeft t w) (sym (ap (λ (d : Done (Unit {0})). d.view) same)) second
  chained (stops f) v is = absurd (cc is)
  chained (acts a more) v is = chained_act a v more (does a v) refl (λ x t. chained (more x) t) is

pub left_then : (v u w : LocalView) → IsLeft v u → IsLeft u w → IsLeft v w
left_then v u w first second = chained u w second first.body v first.ends

-- what holds after each body holds of what is left
module _ (v w : LocalView) (left : IsLeft v w) where
  holds_of_left : (I : LocalView → Type 0) → HoldsAfter I (run left.body v) → I w
  holds_of_left I holds = subst (HoldsAfter I) left.ends holds

  pub left_scan : SameScan v w
  left_scan = holds_of_left (SameScan v) (stays_in_scan left.body v)

  pub left_counts : CountsStay v w
  left_counts = holds_of_left (CountsStay v) (counts_stay left.body v)

  pub left_lawful : IsLawful v → IsLawful w
  left_lawful l = holds_of_left IsLawful (stays_lawful left.body v l)

  pub left_marks : MarksStay v w
  left_marks = holds_of_left (MarksStay v) (marks_stay left.body v)

  pub left_marked : IsMarked v → IsMarked w
  left_marked m = holds_of_left IsMarked (stays_marked left.body v m)

  pub left_mailed : IsLawful v → HasMailed w
  left_mailed l = holds_of_left HasMailed (mail_moves left.body v l)

  pub left_copies : (machines : List MachineSetup) (ranges : List (ℕ × ℕ)) → IsInRun machines ranges v → All (FitsReceiver machines ranges) (messages_among w.acts.posted)
  left_copies machines ranges is =
      holds_of_left (λ t. All (FitsReceiver machines ranges) (messages_among t.acts.posted)) (copies_have_receivers left.body v machines ranges is)
