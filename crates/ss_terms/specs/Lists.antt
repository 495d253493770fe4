-- The lists of numbers in forms, as a clause sees them.
pub use Rattle.smallvec.specs.SmallVec.{SmallVec}
