-- The last arrivals of all networks, as they are kept.
use Rattle.std.specs.Prelude.{List, map}
use Rattle.ruby_value.specs.Prelude.{Roomy}
use Rattle.ctl_face.specs.Prelude.{Lasts}

abbrev pub lasts_in : List (Roomy Lasts) → List Lasts
lasts_in networks = map (λ (lasts : Roomy Lasts). lasts.kept) networks
