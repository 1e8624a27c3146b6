-- The definitions that other files name, from one place.
pub use Rattle.scan_steps.specs.TriesAs.{IsEndOf, scanned, told}
unfoldable pub use Rattle.scan_steps.specs.TriesAs.{TriesAs}
