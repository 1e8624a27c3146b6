-- What is counted on a buffer that nothing is sent on: nothing.
use Rattle.std.proofs.Common.{◌≡◌, ◌==◌, ℕ, true, false, cond, arith, Option, None, Some, List, [], ◌∷◌, refl, ap}
use Rattle.std.specs.List.{count_by}
use Rattle.std.proofs.lemmas.List.Sums.{sum_by-cons}
use Rattle.ruby_value.specs.declared.setup.BufferPlace.{BufferPlace}
use Rattle.ruby_value.specs.declared.setup.BufferPlace.TheVariants as place
use Rattle.ruby_symbols.specs.declared.machine.MachineSymbols.{MachineSymbols}
use Rattle.ctl_face.specs.Prelude.{sends}
use Rattle.body_meaning.specs.Actions.{Ports}
use Rattle.body_meaning.specs.Prelude.{Reading, action_names, goes_along, is_for_buffer, place_among, port_named, send_count, sends_for}

module _ (m : MachineSymbols) (buffer : ℕ) where
  goes_nowhere : (p : Option BufferPlace) → sends p ≡ false → (other : ℕ) → goes_along m buffer p other ≡ false
  goes_nowhere (Some place.Local) is other = absurd (cc is)
  goes_nowhere (Some (place.To network destination)) is other = absurd (cc is)
  goes_nowhere (Some (place.From network)) is other = refl
  goes_nowhere None is other = refl

  is_for_none : sends (place_among m buffer) ≡ false → (o : Option ℕ) → is_for_buffer m buffer o ≡ false
  is_for_none is None = refl
  is_for_none is (Some other) = goes_nowhere (place_among m buffer) is other

  counts_none : sends (place_among m buffer) ≡ false → (names : List (List ℕ)) → count_by (sends_for m buffer) names ≡ 0
  counts_none is [] = refl
  counts_none is (x ∷ xs) =
      let all = sum_by-cons (λ y. cond (sends_for m buffer y) 1 0) x xs in
      let here : ◌≡◌ {A = ℕ} (cond (sends_for m buffer x) 1 0) 0 = ap (λ b. cond b 1 0) (is_for_none is (port_named m x)) in
      let rest = counts_none is xs in
      omega (arith, all, here, rest)

pub none_sent : (s : Reading) (actions : List ℕ) (buffer : ℕ) → sends (place_among s.machine buffer) ≡ false → (send_count s actions buffer == 0) ≡ true
none_sent s actions buffer is = ap (λ n. n == 0) (counts_none s.machine buffer is (action_names Ports s actions))
