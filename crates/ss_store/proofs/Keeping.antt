-- What is made keeps a good store good, and so does what isn't made.
use Rattle.std.proofs.Common.{◌≡◌, ◌^◌, ℕ, ℤ, pos, negsuc, List, true, ap, Ok, Err}
use Rattle.std.proofs.lemmas.Bool.{lt-ltb}
use mir.Syntax.{w32}
use mir.Val.{SFits}
use Rattle.std.specs.Prelude.{Result, OnOk, OnErr}
use Rattle.ss_core.specs.Tree.{ClassTree}
use Rattle.ss_core.specs.Chain.{is_declared}
use Rattle.ss_store_rules.specs.Store.{Object}
use Rattle.ss_store_rules.specs.Numbers.{fits}
use Rattle.ss_store_rules.specs.Changes.{is_array, new_object_of, new_array_of}
use Rattle.ss_store_rules.specs.Keeps.{Keeps}
use Rattle.ss_store_rules.proofs.Keeps.{Keeps-same, Keeps-new_object, Keeps-new_array}
use Rattle.ss_store.specs.Shapes.{Contents}

pub keeps_made : {A E : Type 0} (r : Result A E) (cs : List ClassTree) (s s' : Contents) (c : ℕ) → OnOk r (s'.objects ≡ new_object_of cs s.objects c) → OnErr r (s' ≡ s) → is_declared cs c ≡ true → Keeps cs s.objects s'.objects
keeps_made (Ok a) cs s s' c added kept declared = Keeps-new_object cs s.objects s'.objects c added declared
keeps_made (Err e) cs s s' c added kept declared = Keeps-same cs s.objects s'.objects (ap (λ x. x.objects) kept)

-- a number of 32 bits fits
pub fits_bits : (n : ℤ) → SFits w32 n → fits n ≡ true
fits_bits (pos n) h = lt-ltb n (2 ^ 31) h.sfits
fits_bits (negsuc n) h = lt-ltb n (2 ^ 31) h.sfits

pub keeps_array : {A E : Type 0} (r : Result A E) (cs : List ClassTree) (s s' : List Object) (t : ℕ) (n : ℤ) → OnOk r (new_array_of s t n ≡ Ok s') → OnErr r (s' ≡ s) → is_array cs t ≡ true → fits n ≡ true → Keeps cs s s'
keeps_array (Ok a) cs s s' t n added kept array short = Keeps-new_array cs s s' t n added short array
keeps_array (Err e) cs s s' t n added kept array short = Keeps-same cs s s' kept
