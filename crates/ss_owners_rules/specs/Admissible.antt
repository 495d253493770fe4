-- Admissible invariants (ECOOP 2004): each speaks of the fields of `this`, and of what `this` owns.
use Rattle.std.specs.Prelude.{ℕ, List, [], ◌∷◌, ◌++◌, Bool, true, false, ◌&&◌, ◌||◌, if◌then◌else◌, is_none, map, unwrap_or, slice_get}
use Rattle.ss_core.specs.declared.names.Place.{Place}
use Rattle.ss_core.specs.declared.names.Mark.{Mark}
use Rattle.ss_core.specs.declared.names.Mark.TheVariants as mark
use Rattle.ss_core.specs.Marks.{is_rep, is_rep_or_peer}
use Rattle.ss_core.specs.Tree.{ClassTree}
use Rattle.ss_core.specs.Chain.{DeclaredField, all_fields}
use Rattle.ss_typed.specs.Tree.{ExprTree, ResultOf, FieldOf, ElementOf, LengthOf, NegateOf, NotOf, BinaryOf, ImpliesOf, IffOf, IsOf, AsOf, CastOf, OldOf, QuantifiedOf, StateOf, OwnersOf, NewOf, NewArrayOf, CallOf, StaticOf, BaseOf, Arguments, NoMore, Argument}
use Rattle.ss_typed.specs.Shapes.{is_this}

-- ---- paths

-- whether each field is `[Rep]`, `[Peer]` or neither, by its number
abbrev pub field_marks : List ClassTree → List Mark
field_marks cs = map (λ (d : DeclaredField). d.field.mark) (all_fields cs)

abbrev pub field_mark : List Mark → ℕ → Mark
field_mark ms f = unwrap_or (slice_get ms f) mark.Plain

-- A path to what `this` owns: first a rep field of `this`, then rep and peer fields, and nothing but fields.
abbrev pub is_owned_path : List Mark → ExprTree → Bool
is_owned_path ms (FieldOf p e f t) = is_this e && is_rep (field_mark ms f) || is_owned_path ms e && is_rep_or_peer (field_mark ms f)
is_owned_path ms e = false

-- ---- reads

-- `result` where there is none, and what is written after it: a field leaves no trace there, and an element is none that is read
abbrev pub is_untyped : ExprTree → Bool
is_untyped (ResultOf p t) = is_none t
is_untyped (ElementOf p a i) = is_untyped a
is_untyped (OldOf p e) = is_untyped e
is_untyped e = false

-- a read is a fault where it isn't admissible and no smaller one within it is at fault
abbrev pub smallest : Bool → Place → List Place → List Place
smallest is_admissible p [] = if is_admissible then [] else p ∷ []
smallest is_admissible p (q ∷ qs) = q ∷ qs

abbrev mutual
  -- The smallest reads in an invariant that aren't admissible, each at its first byte. A field is read of `this` or of what it owns, and
  -- an element of an array that it owns. What `this.f` means is a field of the class or of one above. After a `result` that has no type
  -- nothing is read, so there the word alone is at fault.
  pub inadmissible : List Mark → ExprTree → List Place
  inadmissible ms (FieldOf p e f t) = smallest (is_this e || is_owned_path ms e) p (inadmissible ms e)
  inadmissible ms (ElementOf p a i) = smallest (is_untyped a || is_owned_path ms a) p (inadmissible ms a ++ inadmissible ms i)
  inadmissible ms (LengthOf p e) = inadmissible ms e
  inadmissible ms (NegateOf p e) = inadmissible ms e
  inadmissible ms (NotOf p e) = inadmissible ms e
  inadmissible ms (BinaryOf p o a b) = inadmissible ms a ++ inadmissible ms b
  inadmissible ms (ImpliesOf p a b) = inadmissible ms a ++ inadmissible ms b
  inadmissible ms (IffOf p a b) = inadmissible ms a ++ inadmissible ms b
  inadmissible ms (IsOf p e t) = inadmissible ms e
  inadmissible ms (AsOf p e t) = inadmissible ms e
  inadmissible ms (CastOf p t non_null e) = inadmissible ms e
  inadmissible ms (OldOf p e) = inadmissible ms e
  inadmissible ms (QuantifiedOf p q name low high e) = inadmissible ms low ++ inadmissible ms high ++ inadmissible ms e
  inadmissible ms (StateOf p w e) = inadmissible ms e
  inadmissible ms (OwnersOf p w a b) = inadmissible ms a ++ inadmissible ms b
  inadmissible ms (NewOf p t es) = inadmissible_each ms es
  inadmissible ms (NewArrayOf p t e) = inadmissible ms e
  inadmissible ms (CallOf p e m t es) = inadmissible ms e ++ inadmissible_each ms es
  inadmissible ms (StaticOf p n t es) = inadmissible_each ms es
  inadmissible ms (BaseOf p m t es) = inadmissible_each ms es
  inadmissible ms e = []

  pub inadmissible_each : List Mark → Arguments → List Place
  inadmissible_each ms NoMore = []
  inadmissible_each ms (Argument e es) = inadmissible ms e ++ inadmissible_each ms es
