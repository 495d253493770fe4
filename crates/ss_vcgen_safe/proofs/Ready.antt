-- `ready this`, from a position at which the run is.
use Rattle.std.proofs.Common.{◌≡◌, ℕ, List, [], ◌∷◌, Bool, true, false, not, ◌&&◌, ⊎_elim, refl, sym, subst}
use Rattle.std.specs.Prelude.{if◌then◌else◌, Some, Result, Ok, slice_get}
use Rattle.std.proofs.lemmas.Bool.{false≢true, true≢false, and_parts, cases_Bool, lt-ltb}
use Rattle.ss_core.specs.declared.names.Kind.{Kind}
use Rattle.ss_core.specs.declared.names.Place.{Place}
use Rattle.ss_core.specs.declared.names.Ty.TheVariants as ty
use Rattle.ss_core.specs.Tree.{ClassTree, ReadyStmt, BodyTree}
use Rattle.ss_core.specs.Chain.{below}
use Rattle.ss_store_rules.specs.declared.Value.{Value as ObjectValue}
use Rattle.ss_store_rules.specs.Store.{Object}
use Rattle.ss_store_rules.specs.Admissible.{invariants_hold}
use Rattle.ss_store_rules.specs.Changes.{field_class}
use Rattle.ss_store_rules.specs.Construction.{has_all_fields}
use Rattle.ss_store_rules.specs.Good.{IsGood}
use Rattle.ss_store_rules.specs.Locals.{argument_count, local_types}
use Rattle.ss_store_rules.specs.NonNull.{Known}
use Rattle.ss_store_rules.proofs.Owners.{not_true}
use Rattle.ss_machine_rules.specs.Frame.{this_of}
use Rattle.ss_machine_rules.specs.Steps.{with_ready}
use Rattle.ss_machine_good.specs.Known.{IsTrueOf}
use Rattle.ss_machine_good.proofs.Frames.{some_argument}
use Rattle.ss_machine_good.specs.Checks.{fields_check}
use Rattle.ss_machine_good.specs.LaterFrames.{HasGiven}
use Rattle.ss_machine_good.proofs.Behind.{constructor_instance}
use Rattle.ss_machine_good.proofs.Statements.{if_true, given_known}
use Rattle.ss_logic.specs.declared.Sort.TheVariants as sort
use Rattle.ss_logic.specs.Values.{Table}
use Rattle.ss_logic.specs.Terms.{MakeReady, Term, app}
use Rattle.ss_logic.specs.Express.{element_sort}
use Rattle.ss_logic_means.specs.Means.{standing}
use Rattle.ss_logic_means.specs.Sorts.{HasSort}
use Rattle.ss_vcgen_heaps.specs.Positions.{Walk, with_store, local_term}
use Rattle.ss_vcgen_heaps.specs.Obligations.{behind}
use Rattle.ss_vcgen_safe.specs.Done.{HasStore}
use Rattle.ss_vcgen_safe.proofs.AfterChanges.{ready_after}
use Rattle.ss_sound_outcomes.specs.Points.{Activation, Point, scene, IsSound, entry_size}
use Rattle.ss_sound_outcomes.specs.Outcomes as outcomes
use Rattle.ss_vcgen_safe.specs.At.{activation}
use Rattle.ss_vcgen_safe.proofs.Alike.{alike_self}
use Rattle.ss_vcgen_safe.specs.Goes.{IsEntered, Goes}
use Rattle.ss_vcgen_safe.proofs.Behind.{later_known}
use Rattle.ss_vcgen_safe.proofs.Puts.{known_agrees}
use Rattle.ss_vcgen_safe.proofs.Later.{given_later}
use Rattle.ss_vcgen_safe.proofs.Operands.{operand}
use Rattle.ss_vcgen_safe.proofs.Stored.{steady_value, steady_two, store_there, store_goes}

if_false : (k a b : Bool) → k ≡ false → (if k then a else b) ≡ true → b ≡ true
if_false true a b e h = absurd (true≢false e)
if_false false a b e h = h

-- the object of a constructor has its fields where it is made ready
pub all_given : (a : Activation) (p : Point) → IsSound a p → (k : Known) → IsTrueOf a.body.flags.ctor k (scene a p) → (at : Place) → (fields_check a.program a.body).statement (ReadyStmt at) k ≡ true →
    (a.body.flags.ctor ≡ true) × ((g : ℕ) → HasGiven a.program p.store (this_of p.locals) g)
all_given a p sound k so at checked = ⊎_elim
    (λ ctor.
    let b = a.body in
    let cs = a.program.classes in
    let asked = if_true b.flags.ctor (not b.flags.delayed && has_all_fields cs b.class k) false ctor checked in
    let q = and_parts (not b.flags.delayed) (has_all_fields cs b.class k) asked in (
      ctor,
      λ g. ⊎_elim
          (λ own. given_known a.program p.store (this_of p.locals) (below cs b.class) k (λ h kh. so.fields ctor h kh) q.1 g own)
          (λ other. sound.given ctor (not_true b.flags.delayed q.0) g other)
          (cases_Bool (below cs b.class (field_class cs g))),
    ))
    (λ plain. absurd (false≢true (if_false a.body.flags.ctor (not a.body.flags.delayed && has_all_fields a.program.classes a.body.class k) false plain checked)))
    (cases_Bool a.body.flags.ctor)

this_type : (b : BodyTree) → b.flags.is_static ≡ false → slice_get (local_types b) 0 ≡ Some (ty.Ref (record { 0 = b.class }) true)
this_type b instance_ = rw instance_ refl

ready_sorted : (cs : List ClassTree) (s o : Term) → HasSort cs [] sort.Store s → HasSort cs [] sort.Rest o → HasSort cs [] sort.Store (app MakeReady (s ∷ o ∷ []))
ready_sorted cs s o x y = (refl, rw (x.0, x.1, y.0, y.1) refl)

module _ (w : Walk) (before : List Object) (table : Table) (arguments : List ObjectValue) (entered : IsEntered w before arguments) where
  pub ready_goes : (at : Place) (Q : Point → Type 0) → Goes w before table arguments (ReadyStmt at) Q
  ready_goes at Q xs m k p coded here valid ends =
      let cs = w.program.classes in
      let a = activation w before table in
      let is = here.at in
      let given = all_given a p is.sound k.known is.known at coded.fields in
      let instance_ = constructor_instance w.body entered.body.flags given.0 in
      let read = here.assigned 0 (lt-ltb 0 (argument_count w.body) (some_argument w.body instance_)) in
      let o = local_term 0 k in
      let term = operand w before table xs m k p is 0 read in
      let v = this_of p.locals in
      let self = alike_self k.next m in
      let has = store_there cs table k.next m k.store p.store is.agrees.table_is is.agrees.store_is m self in
      let z = with_ready p.store v in
      let r : Result (List Object) Kind = Ok z in
      store_goes w before table arguments xs m k p (ReadyStmt at) refl coded here m k (app MakeReady (k.store ∷ o ∷ [])) r Q self is.agrees
      (steady_two cs k.next m MakeReady k.store o (λ m m' vs. refl) (steady_value cs k.next m k.store _ is.agrees.store_is.is) (steady_value cs k.next m o (standing v) term.is))
      (ready_sorted cs k.store o is.agrees.store_is.sorted (subst (λ u. HasSort cs [] (element_sort u) o) (this_type w.body instance_) term.sorted))
      (z, refl)
      (λ y e sound. let same : z ≡ y = cc in subst (λ u. HasStore cs m (app MakeReady (k.store ∷ o ∷ [])) u) same (ready_after cs m k.store p.store has o v (term.is m self) (subst (λ u. IsGood cs (invariants_hold cs) u) (sym same) sound.store)))
      (λ y g. known_agrees w before table m (with_store (app MakeReady (k.store ∷ o ∷ [])) k) (outcomes.with_store y p) (behind w (ReadyStmt at) k).known g)
      (λ y e sound b.
      let n = entry_size a in
      let later = b.reached.later in
      let known = later_known a n p y entered.body.flags is.sound later k.known is.known in
      record { facts = known.facts; sides = λ x u eu. let side = known.sides x u eu in record { facts = side.facts; there = side.there; so = side.so }; fields = λ ctor g h. given_later a p is.sound n y later g (given.1 g) })
      ends
