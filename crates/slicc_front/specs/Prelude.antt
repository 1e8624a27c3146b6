-- The definitions that other files name, from one place.
pub use Rattle.slicc_front.specs.Fronts.{IsFrontAllowed, IsFrontBy, IsFrontFor, IsFrontIfRoom, IsFrontOf, code_of, place_in, place_of, refusal_at}
pub use Rattle.slicc_front.specs.Fronts.IsFrontFor.{breaks_one, keeps_all}
pub use Rattle.slicc_front.specs.Told.{IsToldSo}
