-- Older stores: of a store at the entry of a body everything is still there, as far as no change can take it away.
use Rattle.std.specs.Prelude.{◌≡◌, ℕ, List, length, true, Some, slice_get}
use Rattle.ss_store_rules.specs.Store.{Object}

-- What the object x, which was at the position o, is in the store now.
pub record Remains (now : List Object) (o : ℕ) (x : Object) : Type 0 where
  pub object : Object
  pub there : slice_get now o ≡ Some object
  -- its class and its length never change
  pub class : object.class ≡ x.class
  pub size : length object.elements ≡ length x.elements
  -- once ready it stays so
  pub ready : x.ready ≡ true → object.ready ≡ true

-- each object of the store before is still there
abbrev pub IsOlder : List Object → List Object → Type 0
IsOlder before now = (o : ℕ) (x : Object) → slice_get before o ≡ Some x → Remains now o x
