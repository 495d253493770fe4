-- What follows of truth values.
use Rattle.std.proofs.Common.{◌≡◌, Bool, true, false, refl}
use Rattle.std.specs.Prelude.{not, ◌&&◌, ◌||◌, if◌then◌else◌}
use Rattle.std.proofs.lemmas.Bool.{false≢true}

pub and_more : (a b c d : Bool) → (a ≡ true → c ≡ true) → (b ≡ true → d ≡ true) → (a && b) ≡ true → (c && d) ≡ true
and_more true true c d f g h = rw (f refl, g refl) refl
and_more true false c d f g h = absurd (false≢true h)
and_more false b c d f g h = absurd (false≢true h)

pub or_more : (a b c d : Bool) → (a ≡ true → c ≡ true) → (b ≡ true → d ≡ true) → (a || b) ≡ true → (c || d) ≡ true
or_more true b c d f g h = rw (f refl) refl
or_more false true true d f g h = refl
or_more false true false d f g h = g refl
or_more false false c d f g h = absurd (false≢true h)

pub either_more : (a b c d e : Bool) → (b ≡ true → d ≡ true) → (c ≡ true → e ≡ true) → (if a then b else c) ≡ true → (if a then d else e) ≡ true
either_more true b c d e f g h = f h
either_more false b c d e f g h = g h

pub of_or : (a b c : Bool) → (a ≡ true → c ≡ true) → (b ≡ true → c ≡ true) → (a || b) ≡ true → c ≡ true
of_or true b c f g h = f refl
of_or false b c f g h = g h

pub or_first : (a c d e : Bool) → (a ≡ true → c ≡ true) → (a || d || e) ≡ true → (c || d || e) ≡ true
or_first a true d e f h = refl
or_first true false d e f h = absurd (false≢true (f refl))
or_first false false d e f h = h
