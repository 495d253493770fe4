-- What has arguments is no value.
use Rattle.std.proofs.Common.{◌≡◌, ◌≤◌, List, [], ◌∷◌, length, false, refl, arith}
use Rattle.ss_logic.specs.Terms.{Symbol, Number, Fixed, Null, ClassName, Constant, Add, Subtract, Multiply, Quotient, Remainder, Field, Element, Length, TypeOf, Level, Owner, Pair, Next, Set, Put, Unpack, Pack, Capture, Join, New, NewArray, MakeReady, Term, App, Terms, term_then, terms_from}
use Rattle.ss_logic_means.specs.Steps.{is_value}
use Rattle.ss_terms.specs.declared.forms.TermId.{TermId}
use Rattle.ss_terms.specs.Forms.{Forms, term_at, terms_at}

applied : (f : Symbol) (t : Term) (ts : Terms) → false ≡ is_value (App f (term_then t ts))
applied (Number n) t ts = refl
applied (Fixed v) t ts = refl
applied Null t ts = refl
applied (ClassName c) t ts = refl
applied (Constant s k) t ts = refl
applied Add t ts = refl
applied Subtract t ts = refl
applied Multiply t ts = refl
applied Quotient t ts = refl
applied Remainder t ts = refl
applied (Field k) t ts = refl
applied (Element s) t ts = refl
applied Length t ts = refl
applied TypeOf t ts = refl
applied Level t ts = refl
applied Owner t ts = refl
applied Pair t ts = refl
applied Next t ts = refl
applied (Set k) t ts = refl
applied Put t ts = refl
applied (Unpack c) t ts = refl
applied (Pack c) t ts = refl
applied (Capture c) t ts = refl
applied Join t ts = refl
applied (New c) t ts = refl
applied (NewArray c) t ts = refl
applied MakeReady t ts = refl

pub no_value : (b : Forms) (f : Symbol) (ts : List TermId) → 1 ≤ length ts → false ≡ is_value (App f (terms_from (terms_at b ts)))
no_value b f [] h = absurd (omega (arith, h))
no_value b f (t ∷ ts) h = applied f (term_at b t) (terms_from (terms_at b ts))
