-- The definitions that other files name, from one place.
pub use Rattle.plain_walk.specs.Parts.{asserted, call_alone, changed_at, declared, method_alone, put_back, remade, remade_by, rewritten, stalled_on, stored}
