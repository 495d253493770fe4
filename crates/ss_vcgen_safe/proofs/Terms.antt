-- Operands of a change: each gets a term, at positions one after the other.
use Rattle.std.proofs.Common.{◌≡◌, ℕ, List, [], Bool, true, false, Ok, refl, sym, ◌∙◌, ap, subst}
use Rattle.std.specs.Prelude.{Option, Some, is_some}
use Rattle.ss_core.specs.declared.names.Kind.TheVariants as kind
use Rattle.ss_core.specs.declared.names.Place.{Place}
use Rattle.ss_core.specs.declared.names.Ty.{Ty}
use Rattle.ss_core.specs.declared.names.Ty.TheVariants as ty
use Rattle.ss_core.specs.Tree.{ExprTree}
use Rattle.ss_store_rules.specs.declared.Value.{Value as ObjectValue}
use Rattle.ss_store_rules.specs.Store.{Object}
use Rattle.ss_store_rules.specs.Assigned.{reads_assigned}
use Rattle.ss_store_rules.specs.Formed.{IsFormed}
use Rattle.ss_store_rules.specs.Locals.{local_types}
use Rattle.ss_store_rules.specs.NonNull.{is_never_null}
use Rattle.ss_store_rules.specs.Types.{code_type}
use Rattle.ss_store_rules.specs.Values as run
use Rattle.ss_machine_typed.proofs.Sound.{value_sound}
use Rattle.ss_machine_good.proofs.NonNull.{never_null}
use Rattle.ss_machine_good.proofs.Steps.{code_typed}
use Rattle.ss_logic.specs.declared.Sort.{Sort}
use Rattle.ss_logic.specs.Values.{Table, Structure}
use Rattle.ss_logic.specs.Terms.{Term}
use Rattle.ss_logic.specs.Shapes.{null_term, differ}
use Rattle.ss_logic.specs.Express.{choices, element_sort}
use Rattle.ss_logic_means.specs.Means.{standing, Denotes}
use Rattle.ss_logic_means.specs.Sorts.{HaveSort}
use Rattle.ss_vcgen_heaps.specs.Positions.{Position, Walk, site, meant_at, with_term, term_for}
use Rattle.ss_vcgen_heaps.specs.Obligations.{AreValid, check_not_null}
use Rattle.ss_sound_outcomes.specs.Points.{Point, scene}
use Rattle.ss_vcgen_safe.specs.At.{IsAlike, Stays, HasValue, activation, Agrees, IsAt, Rises}
use Rattle.ss_vcgen_safe.proofs.Alike.{alike_self, stays_on}
use Rattle.ss_vcgen_safe.proofs.Keeps.{checked_unless}
use Rattle.ss_vcgen_safe.proofs.Same.{IsLike, at_like, like_with_term}
use Rattle.ss_vcgen_safe.proofs.PositionsTerms.{HasTerm, standing_numbered, term_at}
use Rattle.ss_vcgen_safe.specs.Values.{HasMeaning}
use Rattle.ss_vcgen_safe.proofs.Evaluates.{good_at}
use Rattle.ss_vcgen_safe.proofs.Operands.{IsThere, object_there, differ_true, not_null}

pub typed_some : (o : Option Ty) (t : Ty) → o ≡ Some t → is_some o ≡ true
typed_some o t e = ap (λ u. is_some u) e

pub like_back : (k k' : Position) → IsLike k k' → IsLike k' k
like_back k k' l = record { locals = sym l.locals; store = sym l.store; guard = sym l.guard; known = sym l.known }

-- What the expression means at k gets a term at the later position k'.
pub record IsSettled (w : Walk) (before : List Object) (table : Table) (xs : ℕ → Bool) (m : Structure) (k' : Position) (p : Point) (k : Position) (e : ExprTree) (s : Sort) (v : ObjectValue) : Type 0 where
  pub term : HasTerm w before table m k' (with_term s (meant_at w e k) k') p s (term_for s (meant_at w e k) k') (standing v)
  pub at : IsAt w before table xs term.m' (with_term s (meant_at w e k) k') p

module _ (w : Walk) (before : List Object) (table : Table) (xs : ℕ → Bool) (p : Point) where
  pub settled_later : (k k' : Position) (m m' : Structure) (e : ExprTree) (s : Sort) (v : ObjectValue) → element_sort (code_type w.program.classes w.body e) ≡ s → HasMeaning w m k e v → Rises k.next k'.next → IsAlike k.next m m' → IsAt w before table xs m' k' p →
      IsSettled w before table xs m' k' p k e s v
  settled_later k k' m m' e s v sort h rises alike is =
      let x = meant_at w e k in
      let z = term_at w before table m' k' p s (standing v) (standing_numbered v) (h.of ∙ sort) is.agrees x (subst (λ r. HaveSort w.program.classes [] r (choices x)) sort h.sorted)
      (stays_on (λ m''. Denotes w.program.classes m'' [] x (standing v)) k.next k'.next m m' rises alike h.is) in
      record { term = z; at = at_like w before table xs m' z.m' k' (with_term s x k') p (like_with_term w s x k') z.agrees is }

  -- an object that is checked not to be null
  pub record ObjectChecked (m : Structure) (k : Position) (e : ExprTree) (at : Place) (o : Term) (v : ObjectValue) : Type 0 where
    pub there : IsThere p.store v
    pub agrees : Agrees w before table m (check_not_null w at e o k) p

  pub object_checked : (formed : IsFormed w.program) (m : Structure) (k : Position) → IsAt w before table xs m k p → (e : ExprTree) (at : Place) (o : Term) (v : ObjectValue) (t : ℕ) (n : Bool) →
      reads_assigned w.body xs e ≡ true → code_type w.program.classes w.body e ≡ Some (ty.Ref (record { 0 = t }) n) → run.value_of e (scene (activation w before table) p) ≡ Ok v → Stays k.next m (HasValue w.program.classes o (standing v)) →
      AreValid w.program.classes (check_not_null w at e o k).listed → ObjectChecked m k e at o v
  object_checked formed m k is e at o v t n reads typed has term valid =
      let cs = w.program.classes in
      let S = scene (activation w before table) p in
      let good = good_at w before table formed xs m k p is in
      let e_typed = code_typed cs w.body e (ty.Ref (record { 0 = t }) n) typed in
      let c = checked_unless w before table m p (is_never_null (site w) k.known false e) kind.Null at (differ o null_term) k
      (λ never m' alike. differ_true cs m' o v (term m' alike) (never_null w.body xs k.known e S good is.sound.was_ready is.assigned is.known false refl reads (ty.Ref (record { 0 = t }) n) e_typed never v has)) valid is.agrees in
      let self = alike_self k.next m in
      record {
        there = object_there cs p.store t n v (value_sound e S (local_types w.body) w.body.flags.ctor good (ty.Ref (record { 0 = t }) n) v e_typed has) (not_null cs m o v (term m self) (c.0 m self));
        agrees = c.1;
      }
