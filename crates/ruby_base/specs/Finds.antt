-- A map by which each name of a list is found with its number there, and no other name is found.
use Rattle.std.specs.Prelude.{◌≡◌, ℕ, List, Vec}
use Rattle.std.specs.Global.{Global}
use Rattle.std.specs.HashMap.{HashMap, get_by}
use Rattle.std.specs.Str.{bytes_eq}
use Rattle.ruby_base.specs.Numbering.{number_among}

unfoldable pub Finds : {S : Type 0} → HashMap (Vec ℕ Global) ℕ S → List (List ℕ) → Type 0
Finds numbers names = (name : List ℕ) → get_by (λ k. bytes_eq name k.items) numbers ≡ number_among names name
