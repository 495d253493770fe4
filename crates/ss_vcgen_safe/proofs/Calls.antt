-- Calls go on safely from a position at which the run is.
use Rattle.std.proofs.Common.{◌≡◌, ℕ, List, [], ◌∷◌, ◌++◌, map, Bool, true, false, not, ◌&&◌, ◌||◌, ◌==◌, Ok, Result, refl, sym, ◌∙◌, ap, subst}
use Rattle.std.specs.Prelude.{Option, Some, None, is_some, option_map}
use Rattle.std.specs.List.{list_all}
use Rattle.std.proofs.lemmas.Bool.{false≢true, and_parts, and_from}
use Rattle.ss_core.specs.declared.names.Kind.TheVariants as kind
use Rattle.ss_core.specs.declared.names.Place.{Place}
use Rattle.ss_core.specs.declared.names.Ty.{Ty}
use Rattle.ss_core.specs.declared.names.Ty.TheVariants as ty
use Rattle.ss_core.specs.Tree.{ClassTree, ExprTree, CalleeTree, Dispatched, Static, Base, BaseConstructor, StmtTree, CallStmt, BodyTree}
use Rattle.ss_core.specs.Chain.{above}
use Rattle.ss_store_rules.specs.declared.Value.{Value as ObjectValue}
use Rattle.ss_store_rules.specs.declared.Value.TheVariants as value
use Rattle.ss_store_rules.specs.declared.Undefined.{Undefined}
use Rattle.ss_store_rules.specs.Assigned.{assigned_flow, reads_assigned}
use Rattle.ss_store_rules.specs.Good.{has_type}
use Rattle.ss_store_rules.specs.Locals.{local_types, is_argument, is_target, receiver, types_of}
use Rattle.ss_store_rules.specs.NonNull.{is_non_null_type, is_never_null, site_of, with_kept, result_of, known_after}
use Rattle.ss_store_rules.specs.Paths as paths
use Rattle.ss_store_rules.specs.Store.{Object}
use Rattle.ss_store_rules.specs.Typed.{body_at, is_constructor_of, is_instance_method, stands_in_table, callee_of, is_receiver, have_types_in, fits_kept, is_call_of, method_at}
use Rattle.ss_store_rules.specs.Types.{has_class, code_type}
use Rattle.ss_store_rules.specs.Values.{local_value}
use Rattle.ss_store_rules.specs.Values as run
use Rattle.ss_machine_rules.specs.Frame.{this_of}
use Rattle.ss_machine_rules.specs.States.{ToCall}
use Rattle.ss_machine_rules.specs.Steps.{values_of}
use Rattle.ss_machine_typed.proofs.Sound.{class_of_type, value_sound}
use Rattle.ss_machine_good.specs.Known.{IsNotNull, IsTrueOf}
use Rattle.ss_machine_good.proofs.NonNull.{never_null}
use Rattle.ss_machine_good.proofs.Steps.{code_typed}
use Rattle.ss_machine_good.proofs.Bases.{where_some, base_of}
use Rattle.ss_machine_good.proofs.Behind.{constructor_instance}
use Rattle.ss_machine_good.proofs.CallsOfRuns.{method_number}
use Rattle.ss_logic.specs.Values.{null, Table, thing, Structure}
use Rattle.ss_logic.specs.Terms.{Term, value_of}
use Rattle.ss_logic.specs.Shapes.{null_term, differ}
use Rattle.ss_logic.specs.Express.{Meant, One}
use Rattle.ss_logic_means.specs.Means.{standing}
use Rattle.ss_vcgen_heaps.specs.Contracts.{seen, called}
use Rattle.ss_vcgen_heaps.specs.Positions.{Counters, Position, Walk, term_or_null, local_term, evaluate_all}
use Rattle.ss_vcgen_heaps.specs.Obligations.{settle_all, arguments_settled, check_receiver, with_this, call, check_not_null, behind, AreValid}
use Rattle.ss_sound_outcomes.specs.Points.{Activation, Point, scene, entry_size}
use Rattle.ss_sound_outcomes.specs.Outcomes.{Has, IsObject, with_local, with_store, IsReturn, CallsSafely}
use Rattle.ss_sound_runs.proofs.Conditions.{this_argument}
use Rattle.ss_vcgen_safe.specs.At.{IsAlike, activation, Agrees, IsAt, Rises}
use Rattle.ss_vcgen_safe.proofs.Alike.{rises_twice, alike_self, alike_twice, alike_lower}
use Rattle.ss_vcgen_safe.proofs.Keeps.{checked_unless}
use Rattle.ss_vcgen_safe.proofs.Leads.{leads_evaluate_all}
use Rattle.ss_vcgen_safe.proofs.Same.{same_receiver}
use Rattle.ss_vcgen_safe.proofs.PositionsStatements.{leads_settle_all, leads_call, leads_receiver}
use Rattle.ss_vcgen_safe.specs.Goes.{IsCoded, IsEntered, IsHere, EndsIn, Goes}
use Rattle.ss_vcgen_safe.proofs.Evaluates.{good_at}
use Rattle.ss_vcgen_safe.proofs.Puts.{put_arguments, known_agrees}
use Rattle.ss_vcgen_safe.proofs.Behind.{later_known, here_after}
use Rattle.ss_vcgen_safe.proofs.Plain.{has_value}
use Rattle.ss_vcgen_safe.specs.Stated.{IsStatedBody, IsTermFor, AreTermsFor}
use Rattle.ss_vcgen_safe.proofs.Stated.{formed_stated, seen_stated}
use Rattle.ss_vcgen_safe.proofs.Called.{calls_safely}
use Rattle.ss_vcgen_safe.proofs.CallsKnown.{kept_true, base_known}
use Rattle.ss_vcgen_safe.proofs.CallsOperands.{have_some, split_values, HaveTermsFor, operands_given}

-- ---- small things

-- what holds of the values holds where they are the outcome
pub has_values : (o : Result (List ObjectValue) Undefined) (vs : List ObjectValue) (P : List ObjectValue → Type 0) → o ≡ Ok vs → P vs → Has o P
has_values o vs P is h = subst (λ r. Has r P) (sym is) h

pub call_fits : (cs : List ClassTree) (b : BodyTree) (x : Option ℕ) (es : List ExprTree) (o : Option BodyTree) (k : BodyTree) → o ≡ Some k → is_call_of cs b x es o ≡ true → (have_types_in cs b es (types_of k.params) ≡ true) × (fits_kept cs b x k.result ≡ true)
call_fits cs b x es o k is h = and_parts (have_types_in cs b es (types_of k.params)) (fits_kept cs b x k.result) (subst (λ c. is_call_of cs b x es c ≡ true) is h)

pub callee_there : (cs : List ClassTree) (b : BodyTree) (x : Option ℕ) (es : List ExprTree) (o : Option BodyTree) → is_call_of cs b x es o ≡ true → (k : BodyTree) × (o ≡ Some k)
callee_there cs b x es None h = absurd (false≢true h)
callee_there cs b x es (Some k) h = (k, refl)

not_true : (b : Bool) → not b ≡ true → b ≡ false
not_true true h = absurd (false≢true h)
not_true false h = refl

class_is_some : (test : ℕ → Bool) (o : Option Ty) → has_class test o ≡ true → is_some o ≡ true
class_is_some test None h = absurd (false≢true h)
class_is_some test (Some t) h = refl

null_alone : (v : ObjectValue) → standing v ≡ thing null → v ≡ value.Null
null_alone (value.Int n) e = let no : ⊥ = cc in absurd no
null_alone (value.Bool b) e = let no : ⊥ = cc in absurd no
null_alone (value.Obj o) e = let no : ⊥ = cc in absurd no
null_alone value.Null e = refl

-- a reference that isn't null is an object
object_of : (cs : List ClassTree) (s : List Object) (t : ℕ) (n : Bool) (v : ObjectValue) → has_type cs s (ty.Ref (record { 0 = t }) n) v ≡ true → IsNotNull v → IsObject v
object_of cs s t n (value.Int i) h not_null = absurd (false≢true h)
object_of cs s t n (value.Bool b) h not_null = absurd (false≢true h)
object_of cs s t n (value.Obj o) h not_null = tt
object_of cs s t n value.Null h not_null = absurd (not_null refl)

module _ (w : Walk) (before : List Object) (table : Table) (arguments : List ObjectValue) (entry : IsEntered w before arguments) where
  abbrev cs : List ClassTree
  cs = w.program.classes

  abbrev a : Activation
  a = activation w before table

  module _ (at : Place) (x : Option ℕ) (callee : CalleeTree) (es : List ExprTree) (xs : ℕ → Bool) (m : Structure) (k : Position) (p : Point) (coded : IsCoded w xs k.known (CallStmt at x callee es)) (here : IsHere w before table arguments xs m k p)
      (valid : AreValid cs (behind w (CallStmt at x callee es) k).listed) where
    abbrev st : StmtTree
    st = CallStmt at x callee es

    abbrev operands : List ExprTree
    operands = receiver callee ++ es

    abbrev evaluated : Position
    evaluated = evaluate_all w operands k

    abbrev settled : Position
    settled = settle_all w operands evaluated

    abbrev o : Option BodyTree
    o = called w.program w.body callee

    abbrev checked : List Meant → Position
    checked ms = check_receiver w at callee ms settled

    abbrev after_call : List Meant → Position
    after_call ms = call w at x o (with_this w callee ms settled) (checked ms)

    typed : (is_receiver cs w.body callee ≡ true) × (is_call_of cs w.body x es (callee_of w.program w.body callee) ≡ true)
    typed = and_parts (is_receiver cs w.body callee) (is_call_of cs w.body x es (callee_of w.program w.body callee)) coded.typed

    reads : list_all (reads_assigned w.body xs) operands ≡ true
    reads = (and_parts (list_all (reads_assigned w.body xs) operands) true coded.assigned).0

    rises : (ms : List Meant) → Rises k.next (checked ms).next
    rises ms =
        rises_twice k.next settled.next (checked ms).next (rises_twice k.next evaluated.next settled.next (leads_evaluate_all w operands k).rises (leads_settle_all w operands evaluated).rises) (leads_receiver w at callee ms settled).rises

    -- with the terms of the operands in place of what they mean
    module _ (ms : List Meant) (are : arguments_settled w operands evaluated ≡ ms) where
      pub valid_call : AreValid cs (after_call ms).listed
      valid_call = subst (λ ns. AreValid cs (after_call ns).listed) are valid

      pub valid_checked : AreValid cs (checked ms).listed
      valid_checked = (leads_call w at x o (with_this w callee ms settled) (checked ms)).listed valid_call

      pub valid_settled : AreValid cs settled.listed
      valid_settled = (leads_receiver w at callee ms settled).listed valid_checked

      -- the call goes on safely, where its arguments have these terms
      pub call_goes_on : (b : BodyTree) → IsStatedBody cs b → o ≡ Some b → fits_kept cs w.body x b.result ≡ true → (ts : List Term) (vs : List ObjectValue) → with_this w callee ms settled ≡ map One ts →
          (m1 : Structure) → IsAlike k.next m m1 → Agrees w before table m1 (checked ms) p → AreTermsFor cs (checked ms).next m1 ts vs →
          ((z : List Object) (v : ObjectValue) → IsReturn a b (ToCall x) vs p.store z v → IsTrueOf w.body.flags.ctor (known_after w.program w.body st k.known) (scene a (with_local x v (with_store z p)))) →
          (Q : Point → Type 0) → EndsIn w before table arguments (paths.behind assigned_flow st xs) m k (behind w st k) Q → CallsSafely a st Q p x o vs
      call_goes_on b stated is fits ts vs these m1 alike g stand known Q ends =
          calls_safely w before table entry.program.chain entry.program.beside p here.at.sound.store here.at.sound.locals.count b stated ts vs at x (checked ms) m1 g stand st Q fits o is
          (subst (λ ns. AreValid cs (call w at x o ns (checked ms)).listed) these valid_call)
          (λ z v m' r sound b_hind more agrees.
          let q = with_local x v (with_store z p) in
          let agrees1 = subst (λ ns. Agrees w before table m' (call w at x o ns (checked ms)) q) (sym these) agrees in
          let agrees2 = subst (λ ns. Agrees w before table m' (after_call ns) q) (sym are) agrees1 in
          ends (λ y. is_target st y || xs y) m' q refl (alike_twice k.next m m1 m' alike (alike_lower k.next (checked ms).next m1 m' (rises ms) more))
          (here_after w before table arguments xs m k p st refl coded here m' q sound b_hind (put_arguments w.body x v p.locals coded.targets)
          (known_agrees w before table m' (after_call (arguments_settled w operands evaluated)) q (known_after w.program w.body st k.known) agrees2) (known z v r)))

    -- what is known after a call of a method
    pub method_known : (b : BodyTree) → is_non_null_type (result_of (callee_of w.program w.body callee)) ≡ is_non_null_type b.result → fits_kept cs w.body x b.result ≡ true → (vs : List ObjectValue) (z : List Object) (v : ObjectValue) → IsReturn a b (ToCall x) vs p.store z v →
        IsTrueOf w.body.flags.ctor (with_kept x (is_non_null_type (result_of (callee_of w.program w.body callee))) k.known) (scene a (with_local x v (with_store z p)))
    method_known b same fits vs z v r =
        kept_true a p z entry.body.flags here.at.sound.locals.count x v b.result fits coded.targets (is_non_null_type (result_of (callee_of w.program w.body callee))) (λ h. r.answer.non_null (sym same ∙ h)) k.known
        (later_known a (entry_size a) p z entry.body.flags here.at.sound r.later k.known here.at.known)

  -- the term of `this`
  this_term : (xs : ℕ → Bool) (m : Structure) (k : Position) (p : Point) → IsAt w before table xs m k p → ((y : ℕ) → is_argument w.body y ≡ true → xs y ≡ true) → not w.body.flags.is_static ≡ true → IsTermFor cs k.next m (local_term 0 k) (this_of p.locals)
  this_term xs m k p at known instance_ =
      let t = at.terms 0 (known 0 (this_argument w.body instance_)) in
      let l = at.agrees.locals 0 t.0 t.1 in
      let same : t.0 ≡ local_term 0 k = sym (ap term_or_null t.1) in
      subst (λ u. IsTermFor cs k.next m u (this_of p.locals)) same (record { sorted = l.sorted.1; is = l.is })

  -- ---- a static method

  pub static_goes : (at : Place) (x : Option ℕ) (n : ℕ) (es : List ExprTree) (Q : Point → Type 0) → Goes w before table arguments (CallStmt at x (Static n) es) Q
  static_goes at x n es Q xs m k p coded here valid ends =
      let callee = Static n in
      let t = typed at x callee es xs m k p coded here valid in
      let found = callee_there cs w.body x es (callee_of w.program w.body callee) t.1 in
      let b = found.0 in
      let fits = call_fits cs w.body x es (callee_of w.program w.body callee) b found.1 t.1 in
      let body_is = where_some (λ (z : BodyTree). z.flags.is_static) (body_at w.program n) b found.1 in
      let stated = formed_stated w.program b (entry.program.bodies n b body_is.0) in
      let j = settle_all w es (evaluate_all w es k) in
      let given = operands_given w before table entry.program xs m k p es here.at (reads at x callee es xs m k p coded here valid) (have_some cs w.body es (types_of b.params) fits.0)
      (valid_settled at x callee es xs m k p coded here valid (arguments_settled w es (evaluate_all w es k)) refl) in
      has_values (values_of es (scene a p)) given.values (λ vs. CallsSafely a (CallStmt at x callee es) Q p x (called w.program w.body callee) vs) given.are
      (call_goes_on at x callee es xs m k p coded here valid (map One given.have.terms) given.have.are b stated found.1 fits.1 given.have.terms given.values refl given.m' given.alike given.at.agrees given.have.stand
      (λ z v r. method_known at x callee es xs m k p coded here valid b (ap (λ c. is_non_null_type (result_of c)) found.1) fits.1 given.values z v r) Q ends)

  -- ---- a method of the class above

  pub base_goes : (at : Place) (x : Option ℕ) (n : ℕ) (es : List ExprTree) (Q : Point → Type 0) → Goes w before table arguments (CallStmt at x (Base n) es) Q
  base_goes at x n es Q xs m k p coded here valid ends =
      let callee = Base n in
      let t = typed at x callee es xs m k p coded here valid in
      let found = callee_there cs w.body x es (callee_of w.program w.body callee) t.1 in
      let b = found.0 in
      let fits = call_fits cs w.body x es (callee_of w.program w.body callee) b found.1 t.1 in
      let body_is = where_some (λ (z : BodyTree). is_instance_method z && not w.body.flags.is_static && stands_in_table w.program (above cs w.body.class) n) (body_at w.program n) b found.1 in
      let parts = and_parts (is_instance_method b && not w.body.flags.is_static) (stands_in_table w.program (above cs w.body.class) n) body_is.1 in
      let instance_ = (and_parts (is_instance_method b) (not w.body.flags.is_static) parts.0).1 in
      let stated = formed_stated w.program b (entry.program.bodies n b body_is.0) in
      let j = settle_all w es (evaluate_all w es k) in
      let given = operands_given w before table entry.program xs m k p es here.at (reads at x callee es xs m k p coded here valid) (have_some cs w.body es (types_of b.params) fits.0)
      (valid_settled at x callee es xs m k p coded here valid (arguments_settled w es (evaluate_all w es k)) refl) in
      let this = this_term xs given.m' j p given.at here.assigned instance_ in
      has_values (values_of es (scene a p)) given.values (λ vs. CallsSafely a (CallStmt at x callee es) Q p x (called w.program w.body callee) (this_of p.locals ∷ vs)) given.are
      (call_goes_on at x callee es xs m k p coded here valid (map One given.have.terms) given.have.are b stated found.1 fits.1 (local_term 0 j ∷ given.have.terms) (this_of p.locals ∷ given.values) refl given.m' given.alike given.at.agrees
      (this, given.have.stand)
      (λ z v r. method_known at x callee es xs m k p coded here valid b (ap (λ c. is_non_null_type (result_of c)) found.1) fits.1 (this_of p.locals ∷ given.values) z v r) Q ends)

  -- ---- the constructor of the class above

  pub constructor_goes : (at : Place) (x : Option ℕ) (n : ℕ) (es : List ExprTree) (Q : Point → Type 0) → Goes w before table arguments (CallStmt at x (BaseConstructor n) es) Q
  constructor_goes at x n es Q xs m k p coded here valid ends =
      let callee = BaseConstructor n in
      let t = typed at x callee es xs m k p coded here valid in
      let base = base_of w.program entry.program w.body at x n es coded.typed in
      let b = base.body in
      let fits = call_fits cs w.body x es (callee_of w.program w.body callee) b base.is_callee t.1 in
      let body_is = where_some (λ (z : BodyTree). is_constructor_of (above cs w.body.class) z && w.body.flags.ctor) (body_at w.program n) b base.is_callee in
      let ctor = (and_parts (is_constructor_of (above cs w.body.class) b) w.body.flags.ctor body_is.1).1 in
      let instance_ : not w.body.flags.is_static ≡ true = ap not (constructor_instance w.body entry.body.flags ctor) in
      let stated = formed_stated w.program b (entry.program.bodies n b base.at) in
      let j = settle_all w es (evaluate_all w es k) in
      let given = operands_given w before table entry.program xs m k p es here.at (reads at x callee es xs m k p coded here valid) (have_some cs w.body es (types_of b.params) fits.0)
      (valid_settled at x callee es xs m k p coded here valid (arguments_settled w es (evaluate_all w es k)) refl) in
      let this = this_term xs given.m' j p given.at here.assigned instance_ in
      has_values (values_of es (scene a p)) given.values (λ vs. CallsSafely a (CallStmt at x callee es) Q p x (called w.program w.body callee) (this_of p.locals ∷ vs)) given.are
      (call_goes_on at x callee es xs m k p coded here valid (map One given.have.terms) given.have.are b stated base.is_callee fits.1 (local_term 0 j ∷ given.have.terms) (this_of p.locals ∷ given.values) refl given.m' given.alike given.at.agrees
      (this, given.have.stand)
      (λ z v r. base_known a entry.program entry.body p here.at.sound z r.later at x n es k.known coded.typed coded.fields here.at.known v r.answer fits.1 coded.targets) Q ends)

  -- ---- a dispatched one

  -- The first of some operands has a term with its value, and so have the others.
  record StartsWith (n : Counters) (m : Structure) (ms : List Meant) (v : ObjectValue) (vs : List ObjectValue) : Type 0 where
    first : Term
    others : List Term
    are : ms ≡ One first ∷ map One others
    stand : AreTermsFor cs n m (first ∷ others) (v ∷ vs)

  starts_with : (n : Counters) (m : Structure) (ms : List Meant) (us : List ObjectValue) (v : ObjectValue) (vs : List ObjectValue) → HaveTermsFor w before table n m ms us → us ≡ v ∷ vs → StartsWith n m ms v vs
  starts_with n m ms us v vs have is = split have.terms have.are (subst (λ ys. AreTermsFor cs n m have.terms ys) is have.stand)
    where
      split : (ts : List Term) → ms ≡ map One ts → AreTermsFor cs n m ts (v ∷ vs) → StartsWith n m ms v vs
      split [] are h = absurd h
      split (t ∷ ts) are h = record { first = t; others = ts; are = are; stand = h }

  -- the check of the receiver makes no new constant
  still_terms : (at : Place) (callee : CalleeTree) (ms : List Meant) (j : Position) (m : Structure) (ts : List Term) (vs : List ObjectValue) → AreTermsFor cs j.next m ts vs → AreTermsFor cs (check_receiver w at callee ms j).next m ts vs
  still_terms at callee ms j m ts vs h = subst (λ (n : Counters). AreTermsFor cs n m ts vs) (sym (same_receiver w at callee ms j).next) h

  -- a receiver is an object, where it is known not to be null or that is checked
  receiver_checked : (at : Place) (xs : ℕ → Bool) (m : Structure) (j : Position) (p : Point) → IsAt w before table xs m j p → (e : ExprTree) (t : ℕ) (n : Bool) → code_type cs w.body e ≡ Some (ty.Ref (record { 0 = t }) n) → reads_assigned w.body xs e ≡ true →
      (v : ObjectValue) → run.value_of e (scene a p) ≡ Ok v → (o : Term) → IsTermFor cs j.next m o v → AreValid cs (check_not_null w at e o j).listed → IsObject v × Agrees w before table m (check_not_null w at e o j) p
  receiver_checked at xs m j p is e t n typed read v has o o_is valid =
      let good = good_at w before table entry.program xs m j p is in
      let ref = ty.Ref (record { 0 = t }) n in
      let is_typed = code_typed cs w.body e ref typed in
      let known = is_never_null (site_of w.program w.body) j.known false e in
      let never = λ (h : known ≡ true) (m' : Structure) (alike : IsAlike j.next m m') (is_null : value_of cs m' [] o ≡ thing null).
      never_null w.body xs j.known e (scene a p) good is.sound.was_ready is.assigned is.known false refl read ref is_typed h v has (null_alone v (sym (o_is.is m' alike []) ∙ is_null)) in
      let check = checked_unless w before table m p known kind.Null at (differ o null_term) j never valid is.agrees in
      let self = alike_self j.next m in
      (object_of cs p.store t n v (value_sound e (scene a p) (local_types w.body) w.body.flags.ctor good ref v is_typed has) (λ is_null. check.0 m self (o_is.is m self [] ∙ ap standing is_null)), check.1)

  pub dispatched_goes : (at : Place) (x : Option ℕ) (e : ExprTree) (t n : ℕ) (es : List ExprTree) (Q : Point → Type 0) → Goes w before table arguments (CallStmt at x (Dispatched e t n) es) Q
  dispatched_goes at x e t n es Q xs m k p coded here valid ends =
      let callee = Dispatched e t n in
      let s = scene a p in
      let typing = typed at x callee es xs m k p coded here valid in
      let found = callee_there cs w.body x es (callee_of w.program w.body callee) typing.1 in
      let b = found.0 in
      let fits = call_fits cs w.body x es (callee_of w.program w.body callee) b found.1 typing.1 in
      let body_is = where_some is_instance_method (method_at w.program t n) b found.1 in
      let number = method_number w.program t n b body_is.0 in
      let stated = seen_stated cs b (formed_stated w.program b (entry.program.bodies number.0 b number.1)) in
      let class = class_of_type (λ c. c == t) (code_type cs w.body e) typing.0 in
      let read = reads at x callee es xs m k p coded here valid in
      let e_read = (and_parts (reads_assigned w.body xs e) (list_all (reads_assigned w.body xs) es) read).0 in
      let types = and_from (is_some (code_type cs w.body e)) (list_all (λ z. is_some (code_type cs w.body z)) es) (class_is_some (λ c. c == t) (code_type cs w.body e) typing.0) (have_some cs w.body es (types_of b.params) fits.0) in
      let ev = evaluate_all w (e ∷ es) k in
      let j = settle_all w (e ∷ es) ev in
      let given = operands_given w before table entry.program xs m k p (e ∷ es) here.at read types (valid_settled at x callee es xs m k p coded here valid (arguments_settled w (e ∷ es) ev) refl) in
      let values = split_values e es s given.values given.are in
      let v = values.0 in
      let vs = values.1 in
      let term = starts_with j.next given.m' (arguments_settled w (e ∷ es) ev) given.values v vs given.have values.4 in
      let o = term.first in
      let ms = One o ∷ map One term.others in
      let check = receiver_checked at xs given.m' j p given.at e class.0 class.1 class.2 e_read v values.2 o term.stand.0 (valid_checked at x callee es xs m k p coded here valid ms term.are) in
      let stand = still_terms at callee ms j given.m' (o ∷ term.others) (v ∷ vs) term.stand in
      has_value (run.value_of e s) v (λ u. Has (values_of es s) (λ us. IsObject u × CallsSafely a (CallStmt at x callee es) Q p x (called w.program w.body callee) (u ∷ us))) values.2
      (has_values (values_of es s) vs (λ us. IsObject v × CallsSafely a (CallStmt at x callee es) Q p x (called w.program w.body callee) (v ∷ us)) values.3 (
        check.0,
        call_goes_on at x callee es xs m k p coded here valid ms term.are (seen b) stated (ap (option_map seen) found.1) fits.1 (o ∷ term.others) (v ∷ vs) (refl {a = ms}) given.m' given.alike check.1 stand
            (λ z u r. method_known at x callee es xs m k p coded here valid (seen b) (ap (λ c. is_non_null_type (result_of c)) found.1) fits.1 (v ∷ vs) z u r) Q ends,
      ))

  -- Each call goes on safely.
  pub call_goes : (at : Place) (x : Option ℕ) (callee : CalleeTree) (es : List ExprTree) (Q : Point → Type 0) → Goes w before table arguments (CallStmt at x callee es) Q
  call_goes at x (Dispatched e t n) es Q = dispatched_goes at x e t n es Q
  call_goes at x (Static n) es Q = static_goes at x n es Q
  call_goes at x (Base n) es Q = base_goes at x n es Q
  call_goes at x (BaseConstructor n) es Q = constructor_goes at x n es Q
