-- Where an instruction leads to a later place with a shape, that place is judged by the same shape.
use Rattle.std.proofs.Common.{◌≡◌, ℕ, zero, suc, ◌+◌, ◌-◌, ◌<◌, ◌≤◌, Bool, true, false, Option, None, Some, List, ◌∷◌, length, slice_get, refl, sym, subst, arith}
use Rattle.action_code.specs.declared.instr.Code.{Code}
use Rattle.action_code.specs.declared.instr.Instr.{Instr}
use Rattle.action_code.specs.declared.program.Program.{Program}
use Rattle.action_code.specs.declared.shape.Shape.{Shape}
use Rattle.action_code.specs.Prelude.{FitsBody, Way, continues, jump_way, next_way, same_shape, shape_after, shape_before, sign, target, ways_before, with_ways}
use Rattle.action_code.proofs.Steps.{there, ways_before_next}

-- a way is among ways
abbrev IsAmong : Way → List Way → Type 0
IsAmong w ways = (k : ℕ) × (slice_get ways k ≡ Some w)

one_more : (w x : Way) (ways : List Way) → IsAmong w ways → IsAmong w (x ∷ ways)
one_more w x ways (k, found) = (suc k, found)

jump_keeps : (o : Option ℕ) (s : Shape) (ways : List Way) (w : Way) → IsAmong w ways → IsAmong w (jump_way o s ways)
jump_keeps None s ways w among = among
jump_keeps (Some to) s ways w among = one_more w _ ways among

next_keeps : (b : Bool) (at : ℕ) (s : Shape) (ways : List Way) (w : Way) → IsAmong w ways → IsAmong w (next_way b at s ways)
next_keeps false at s ways w among = among
next_keeps true at s ways w among = one_more w _ ways among

after_keeps : (at : ℕ) (i : Instr) (s : Shape) (ways : List Way) (w : Way) → IsAmong w ways → IsAmong w (with_ways at i s ways)
after_keeps at i s ways w among = next_keeps (continues i) at s (jump_way (target i) s ways) w (jump_keeps (target i) s ways w among)

next_among : (b : Bool) (at : ℕ) (s : Shape) (ways : List Way) → b ≡ true → IsAmong (record { to = at + 1; shape = s }) (next_way b at s ways)
next_among true at s ways is = (0, refl)
next_among false at s ways is = absurd (cc is)

jump_among : (o : Option ℕ) (to : ℕ) (s : Shape) (ways : List Way) → o ≡ Some to → IsAmong (record { to = to; shape = s }) (jump_way o s ways)
jump_among None to s ways is = absurd (cc is)
jump_among (Some n) to s ways is = let same : n ≡ to = cc is in subst (λ k. IsAmong (record { to = k; shape = s }) (jump_way (Some n) s ways)) same (0, refl)

module _ (p : Program) (body : ℕ) (c : Code) where
  -- it is among the ways to all later places
  stays : (n at to : ℕ) (w : Way) → at + n ≡ to → to ≤ length c.instructions → IsAmong w (ways_before p body c at) → IsAmong w (ways_before p body c to)
  stays zero at to w e le among = let same : at ≡ to = omega arith in subst (λ k. IsAmong w (ways_before p body c k)) same among
  stays (suc n) at to w e le among =
      let i = there c.instructions at (omega arith) in
      stays n (at + 1) to w (omega arith) le
      (subst (IsAmong w) (sym (ways_before_next p body c at i.0 i.1))
      (after_keeps at i.0 (shape_after p c (shape_before p body c at) i.0 (sign p body c (shape_before p body c at) i.0)) (ways_before p body c at) w among))

  module _ (fits : FitsBody p body c) (at : ℕ) (i : Instr) (found : slice_get c.instructions at ≡ Some i) where
    -- the shape after the instruction at this place
    abbrev pub shape_left : Shape
    shape_left = shape_after p c (shape_before p body c at) i (sign p body c (shape_before p body c at) i)

    judged : (to : ℕ) → to < length c.instructions → IsAmong (record { to = to; shape = shape_left }) (ways_before p body c to) → same_shape (shape_before p body c to) shape_left ≡ true
    judged to lt (k, way) = let next = there c.instructions to lt in let kept = fits.each to next.0 next.1 in kept.ways_agree k (record { to = to; shape = shape_left }) way refl

    pub goes_on : continues i ≡ true → (at + 1 < length c.instructions) × (same_shape (shape_before p body c (at + 1)) shape_left ≡ true)
    goes_on goes =
        let kept = fits.each at i found in
        let lt : at + 1 < length c.instructions = kept.stays_within goes in (
          lt,
          judged (at + 1) lt
              (subst (IsAmong (record { to = at + 1; shape = shape_left })) (sym (ways_before_next p body c at i found))
              (next_among (continues i) at shape_left (jump_way (target i) shape_left (ways_before p body c at)) goes)),
        )

    pub jumps : (to : ℕ) → target i ≡ Some to → (at < to) × (to < length c.instructions) × (same_shape (shape_before p body c to) shape_left ≡ true)
    jumps to is =
        let kept = fits.each at i found in
        let forward = kept.jumps_forward to is in
        let here : IsAmong (record { to = to; shape = shape_left }) (ways_before p body c (at + 1)) =
        subst (IsAmong (record { to = to; shape = shape_left })) (sym (ways_before_next p body c at i found))
        (next_keeps (continues i) at shape_left (jump_way (target i) shape_left (ways_before p body c at)) (record { to = to; shape = shape_left }) (jump_among (target i) to shape_left (ways_before p body c at) is)) in
        let after : at < to = forward.0 in
        let within : to < length c.instructions = forward.1 in
        (after, within, judged to within (stays (to - (at + 1)) (at + 1) to (record { to = to; shape = shape_left }) (omega arith) (omega arith) here))
