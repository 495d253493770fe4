-- What an expression without a fault of ownership is elaborated to is admissible, where the fields that it reads of `this` are those of
-- the class or of one above.
use Rattle.std.proofs.Common.{◌≡◌, ℕ, List, [], ◌∷◌, ◌++◌, Bool, true, false, Option, Some, None, refl, sym, ◌∙◌, ap, ⊎_elim}
use Rattle.std.specs.Prelude.{not, ◌&&◌, ◌||◌, slice_get, option_map, unwrap_or}
use Rattle.std.proofs.lemmas.Option.{slice_get-map}
use Rattle.std.proofs.lemmas.Bool.{and_parts, and_from, or_cases, or_left, or_right, false≢true}
use Rattle.ss_core.specs.declared.names.Place.{Place}
use Rattle.ss_core.specs.declared.names.Mark.{Mark}
use Rattle.ss_core.specs.declared.names.Mark.TheVariants as mark
use Rattle.ss_core.specs.Tree.{WordTree, Consistent, Committed, New, Level, Packed, Unowned}
use Rattle.ss_core.specs.Chain.{DeclaredField, all_fields, below}
use Rattle.ss_ast.specs.Programs.{ProgramTree}
use Rattle.ss_typed.specs.Tree.{ExprTree, ThisOf, ResultOf, IffOf, ImpliesOf, BinaryOf, IsOf, AsOf, NegateOf, NotOf, CastOf, FieldOf, ElementOf, LengthOf, OldOf, QuantifiedOf, StateOf, OwnersOf}
use Rattle.ss_typed.specs.Shapes.{is_this}
use Rattle.ss_owners_rules.specs.Words.{NoWord, allows_state, unless, misplaced}
use Rattle.ss_core.specs.Marks.{is_rep, is_rep_or_peer}
use Rattle.ss_owners_rules.specs.Admissible as written
use Rattle.ss_owners_rules.specs.Admissible.{field_marks, smallest, inadmissible}
use Rattle.ss_resolver_rules.specs.Programs.{resolved}
use Rattle.ss_expand_rules.specs.Numbers.{Numbers, plain}
use Rattle.ss_store_rules.specs.Changes.{mark_of_field, field_class, field_mark}
use Rattle.ss_store_rules.specs.Admissible as store
use Rattle.ss_store_rules.specs.Admissible.{is_own_field, is_admissible}
use Rattle.ss_expand_formed.proofs.AdmissibleFacts.{none_of}
use Rattle.ss_expand_formed.proofs.AdmissibleClasses.{classes, fields_stay}
use Rattle.ss_expand_formed.proofs.OwnReads.{own_reads}

-- ---- marks

mark_in : (o : Option DeclaredField) → unwrap_or (option_map (λ (d : DeclaredField). d.field.mark) o) mark.Plain ≡ mark_of_field o
mark_in None = refl
mark_in (Some d) = refl

-- ---- faults

smallest_none : (b : Bool) (p : Place) (ps : List Place) → smallest b p ps ≡ [] → (b ≡ true) × (ps ≡ [])
smallest_none true p [] h = (refl, refl)
smallest_none false p [] h = absurd (let x : ⊥ = cc in x)
smallest_none b p (q ∷ qs) h = absurd (let x : ⊥ = cc in x)

no_state : (w : WordTree) → allows_state NoWord w ≡ false
no_state Consistent = refl
no_state Committed = refl
no_state New = refl
no_state (Level t) = refl
no_state (Packed t) = refl
no_state Unowned = refl

not_allowed : (b : Bool) (p : Place) → b ≡ false → unless b p ≡ [] → ⊥
not_allowed true p e h = false≢true (sym e)
not_allowed false p e h = cc

from_implied : (a b : Bool) → (not a || b) ≡ true → a ≡ true → b ≡ true
from_implied true b h e = h
from_implied false b h e = absurd (false≢true e)

this_stays : (ns : Numbers) (e : ExprTree) → is_this e ≡ true → store.is_this (plain ns e) ≡ true
this_stays ns (ThisOf p t) h = refl
this_stays ns e h = absurd (false≢true h)

-- what stands after a `result` without a type has that word in it
untyped_word : (x : ExprTree) → written.is_untyped x ≡ true → misplaced NoWord x ≡ [] → ⊥
untyped_word (ResultOf q u) h m = cc
untyped_word (ElementOf q a i) h m = untyped_word a h (none_of (misplaced NoWord a) (misplaced NoWord i) m).0
untyped_word (OldOf q e) h m = cc
untyped_word x h m = false≢true h

-- the class t of the elaboration, or one above it, declares the field
abbrev pub is_field_of : ProgramTree → ℕ → ℕ → Bool
is_field_of p t f = below (classes p) t (field_class (classes p) f)

module _ (p : ProgramTree) (t : ℕ) (ns : Numbers) where
  abbrev marks : List Mark
  marks = field_marks (resolved p).classes

  pub mark_stays : (f : ℕ) → written.field_mark marks f ≡ field_mark (classes p) f
  mark_stays f =
      ap (λ o. unwrap_or o mark.Plain) (slice_get-map (λ (d : DeclaredField). d.field.mark) (all_fields (resolved p).classes) f)
      ∙ mark_in (slice_get (all_fields (resolved p).classes) f)
      ∙ ap (λ fs. mark_of_field (slice_get fs f)) (sym (fields_stay p))

  own_field : (e : ExprTree) (f : ℕ) → (not (is_this e) || is_field_of p t f) ≡ true → is_this e ≡ true → is_own_field (classes p) t (plain ns e) f ≡ true
  own_field e f h this = and_from (store.is_this (plain ns e)) (is_field_of p t f) (this_stays ns e this) (from_implied (is_this e) (is_field_of p t f) h this)

  owned_stays : (x : ExprTree) → own_reads (is_field_of p t) x ≡ true → written.is_owned_path marks x ≡ true → store.is_owned_path (classes p) t (plain ns x) ≡ true
  owned_stays (FieldOf q e f u) r h =
      let reads = and_parts (not (is_this e) || is_field_of p t f) (own_reads (is_field_of p t) e) r in
      let own = is_own_field (classes p) t (plain ns e) f && is_rep (field_mark (classes p) f) in
      let path = store.is_owned_path (classes p) t (plain ns e) && is_rep_or_peer (field_mark (classes p) f) in
      ⊎_elim
      (λ first.
      let both = and_parts (is_this e) (is_rep (written.field_mark marks f)) first in
      or_left own path (and_from _ (is_rep (field_mark (classes p) f)) (own_field e f reads.0 both.0) (ap is_rep (sym (mark_stays f)) ∙ both.1)))
      (λ further.
      let both = and_parts (written.is_owned_path marks e) (is_rep_or_peer (written.field_mark marks f)) further in
      or_right own path (and_from _ (is_rep_or_peer (field_mark (classes p) f)) (owned_stays e reads.1 both.0) (ap is_rep_or_peer (sym (mark_stays f)) ∙ both.1)))
      (or_cases (is_this e && is_rep (written.field_mark marks f)) (written.is_owned_path marks e && is_rep_or_peer (written.field_mark marks f)) h)
  owned_stays x r h = absurd (false≢true h)

  -- ---- every expression

  abbrev IsSound : ExprTree → Type 0
  IsSound x = own_reads (is_field_of p t) x ≡ true → misplaced NoWord x ≡ [] → inadmissible marks x ≡ [] → is_admissible (classes p) t (plain ns x) ≡ true

  both_sound : (a b : ExprTree) → IsSound a → IsSound b → (own_reads (is_field_of p t) a && own_reads (is_field_of p t) b) ≡ true → misplaced NoWord a ++ misplaced NoWord b ≡ [] → inadmissible marks a ++ inadmissible marks b ≡ [] →
      (is_admissible (classes p) t (plain ns a) && is_admissible (classes p) t (plain ns b)) ≡ true
  both_sound a b sound other r m i =
      let reads = and_parts (own_reads (is_field_of p t) a) (own_reads (is_field_of p t) b) r in
      let words = none_of (misplaced NoWord a) (misplaced NoWord b) m in
      let places = none_of (inadmissible marks a) (inadmissible marks b) i in
      and_from _ _ (sound reads.0 words.0 places.0) (other reads.1 words.1 places.1)

  pub admissible : (x : ExprTree) → own_reads (is_field_of p t) x ≡ true → misplaced NoWord x ≡ [] → inadmissible marks x ≡ [] → is_admissible (classes p) t (plain ns x) ≡ true
  admissible (FieldOf q e f u) r m i =
      let reads = and_parts (not (is_this e) || is_field_of p t f) (own_reads (is_field_of p t) e) r in
      let small = smallest_none (is_this e || written.is_owned_path marks e) q (inadmissible marks e) i in
      let own = is_own_field (classes p) t (plain ns e) f in
      let path = store.is_owned_path (classes p) t (plain ns e) in
      ⊎_elim
      (λ this. or_left own path (own_field e f reads.0 this))
      (λ owned. or_right own path (owned_stays e reads.1 owned))
      (or_cases (is_this e) (written.is_owned_path marks e) small.0)
  admissible (ElementOf q a k) r m i =
      let reads = and_parts (own_reads (is_field_of p t) a) (own_reads (is_field_of p t) k) r in
      let words = none_of (misplaced NoWord a) (misplaced NoWord k) m in
      let small = smallest_none (written.is_untyped a || written.is_owned_path marks a) q (inadmissible marks a ++ inadmissible marks k) i in
      let places = none_of (inadmissible marks a) (inadmissible marks k) small.1 in
      let owned : written.is_owned_path marks a ≡ true =
      ⊎_elim
      (λ untyped. absurd (untyped_word a untyped words.0))
      (λ path. path)
      (or_cases (written.is_untyped a) (written.is_owned_path marks a) small.0) in
      and_from _ _ (owned_stays a reads.0 owned) (admissible k reads.1 words.1 places.1)
  admissible (LengthOf q e) r m i = admissible e r m i
  admissible (NegateOf q e) r m i = admissible e r m i
  admissible (NotOf q e) r m i = admissible e r m i
  admissible (BinaryOf q o a b) r m i = both_sound a b (admissible a) (admissible b) r m i
  admissible (ImpliesOf q a b) r m i = both_sound a b (admissible a) (admissible b) r m i
  admissible (IffOf q a b) r m i = both_sound a b (admissible a) (admissible b) r m i
  admissible (IsOf q e u) r m i = admissible e r m i
  admissible (AsOf q e u) r m i = admissible e r m i
  admissible (CastOf q u non_null e) r m i = admissible e r m i
  admissible (OldOf q e) r m i = absurd (let x : ⊥ = cc in x)
  admissible (QuantifiedOf q by name low high e) r m i =
      let low_reads = and_parts (own_reads (is_field_of p t) low) (own_reads (is_field_of p t) high && own_reads (is_field_of p t) e) r in
      let words = none_of (misplaced NoWord low ++ misplaced NoWord high) (misplaced NoWord e) m in
      let low_words = none_of (misplaced NoWord low) (misplaced NoWord high) words.0 in
      let places = none_of (inadmissible marks low ++ inadmissible marks high) (inadmissible marks e) i in
      let low_places = none_of (inadmissible marks low) (inadmissible marks high) places.0 in
      let more = and_parts (own_reads (is_field_of p t) high) (own_reads (is_field_of p t) e) low_reads.1 in
      and_from _ _ (admissible low low_reads.0 low_words.0 low_places.0) (and_from _ _ (admissible high more.0 low_words.1 low_places.1) (admissible e more.1 words.1 places.1))
  admissible (StateOf q w e) r m i = absurd (not_allowed (allows_state NoWord w) q (no_state w) (none_of (unless (allows_state NoWord w) q) (misplaced NoWord e) m).0)
  admissible (OwnersOf q w a b) r m i = absurd (let x : ⊥ = cc in x)
  admissible x r m i = refl
