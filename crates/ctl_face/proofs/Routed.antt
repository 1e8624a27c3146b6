-- A copy is routed where some buffer of the machine has it so.
use Rattle.std.proofs.Common.{◌≡◌, ℕ, zero, suc, Bool, true, false, List, [], ◌∷◌, Contains, refl, ap, ◌∙◌, Option, None, Some, slice_get, IsTrue}
use Rattle.std.proofs.lemmas.Bool.{and_parts, eq-eqb, eqb-true}
use Rattle.std.proofs.lemmas.Map.Keys.{any_passes_from_place}
use Rattle.std.proofs.lemmas.Option.{slice_get-get_or}
use Rattle.std.specs.List.{list_any}
use Rattle.std.specs.Prelude.{◌&&◌, ◌||◌, ◌==◌}
use Rattle.ruby_value.specs.declared.message.Delivery.{Delivery}
use Rattle.ruby_value.specs.declared.message.Message.{Message}
use Rattle.ruby_value.specs.declared.setup.BufferPlace.{BufferPlace}
use Rattle.ruby_value.specs.declared.setup.BufferPlace.TheVariants as place
use Rattle.ruby_value.specs.declared.setup.BufferSetup.{BufferSetup}
use Rattle.ruby_value.specs.declared.setup.MachineSetup.{MachineSetup}
use Rattle.ruby_value.specs.Prelude.{has_kinds, network_of}
use Rattle.ctl_face.specs.Prelude.{IsRouted, is_buffer, is_sent_on, reaches, receiving_buffer, receivers_of}
use Rattle.ctl_face.specs.declared.routes.Routes.{Routes}

both : (a b : Bool) → a ≡ true → b ≡ true → (a && b) ≡ true
both true b first second = second
both false b first second = absurd (cc first)

-- one that passes is at some place
any_at : {X : Type 0} (f : X → Bool) (xs : List X) → list_any f xs ≡ true → (at : ℕ) × (x : X) × (slice_get xs at ≡ Some x) × (f x ≡ true)
any_at f [] is = absurd (cc is)
any_at {X} f (x ∷ xs) is = go (f x) refl is (λ rest. any_at f xs rest)
  where
    go : (b : Bool) → f x ≡ b → (b || list_any f xs) ≡ true → (list_any f xs ≡ true → (at : ℕ) × (y : X) × (slice_get xs at ≡ Some y) × (f y ≡ true))
        → (at : ℕ) × (y : X) × (slice_get (x ∷ xs) at ≡ Some y) × (f y ≡ true)
    go true here is later = (zero, x, refl, here)
    go false here is later = let rest = later is in (suc rest.0, rest.1, rest.2, rest.3)

among : (xs : List ℕ) (x : ℕ) → Contains xs x → list_any (λ r. r == x) xs ≡ true
among xs x there =
    any_passes_from_place (λ r. r == x) xs there.0 x (slice_get-get_or xs there.0 x there.1 ∙ ap (λ (y : ℕ). Some y) there.2) (eq-eqb x x refl)

module _ (machine : MachineSetup) (routes : Routes) (c : Delivery Message) where
  pub routed_on : (network buffer : ℕ) (destination : Option ℕ) (on : BufferSetup) → slice_get machine.buffers buffer ≡ Some on
      → on.place ≡ place.To network destination → IsTrue (has_kinds on.kinds c.message.fields)
      → Contains (receivers_of destination c.message.fields) c.receiver
      → receiving_buffer routes c.receiver network ≡ Some c.message.buffer → c.message.recycled ≡ false
      → IsRouted machine routes c
  routed_on network buffer destination on is at takes named receives not_recycled = record {
    sent = any_passes_from_place (is_sent_on routes c) machine.buffers buffer on is
        (both (has_kinds on.kinds c.message.fields) (reaches routes c on.place) takes
        (ap (reaches routes c) at
        ∙ both (list_any (λ r. r == c.receiver) (receivers_of destination c.message.fields)) (is_buffer c.message.buffer (receiving_buffer routes c.receiver network))
        (among (receivers_of destination c.message.fields) c.receiver named)
        (ap (is_buffer c.message.buffer) receives ∙ eq-eqb c.message.buffer c.message.buffer refl)));
    not_recycled = not_recycled;
  }

  -- the buffer that it was sent on
  pub record SentOn : Type 0 where
    pub buffer : ℕ
    pub on : BufferSetup
    pub network : ℕ
    pub there : slice_get machine.buffers buffer ≡ Some on
    pub takes : IsTrue (has_kinds on.kinds c.message.fields)
    pub to : network_of on.place ≡ Some network
    pub receives : receiving_buffer routes c.receiver network ≡ Some c.message.buffer

  is_it : (o : Option ℕ) (buffer : ℕ) → is_buffer buffer o ≡ true → o ≡ Some buffer
  is_it None buffer is = absurd (cc is)
  is_it (Some b) buffer is = ap (λ (x : ℕ). Some x) (eqb-true b buffer is)

  pub sent_on : IsRouted machine routes c → SentOn
  sent_on routed = go found.1.place refl parts.1
    where
      found : (at : ℕ) × (s : BufferSetup) × (slice_get machine.buffers at ≡ Some s) × (is_sent_on routes c s ≡ true)
      found = any_at (is_sent_on routes c) machine.buffers routed.sent

      parts : (has_kinds found.1.kinds c.message.fields ≡ true) × (reaches routes c found.1.place ≡ true)
      parts = and_parts (has_kinds found.1.kinds c.message.fields) (reaches routes c found.1.place) found.3

      go : (p : BufferPlace) → found.1.place ≡ p → reaches routes c p ≡ true → SentOn
      go place.Local at is = absurd (cc is)
      go (place.To network destination) at is = record {
        buffer = found.0;
        on = found.1;
        network = network;
        there = found.2;
        takes = parts.0;
        to = ap network_of at;
        receives = is_it (receiving_buffer routes c.receiver network) c.message.buffer (and_parts (list_any (λ r. r == c.receiver) (receivers_of destination c.message.fields)) (is_buffer c.message.buffer (receiving_buffer routes c.receiver network)) is).1;
      }
      go (place.From network) at is = absurd (cc is)
