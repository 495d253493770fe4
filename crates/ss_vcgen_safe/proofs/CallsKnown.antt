-- What is known of null after a call.
use Rattle.std.proofs.Common.{◌≡◌, ℕ, List, length, Bool, true, false, Some, refl, sym, ◌∙◌, ap, subst, arith, inl, inr, ◌⊎◌, ⊎_elim}
use Rattle.std.specs.Prelude.{Option, None, slice_get, not, ◌||◌, ◌==◌, if◌then◌else◌}
use Rattle.std.proofs.lemmas.Bool.{false≢true, true≢false, and_parts, or_cases, cases_Bool, eqb-true, eq-eqb}
use Rattle.std.proofs.lemmas.Option.{slice_get_within}
use Rattle.ss_core.specs.declared.names.Place.{Place}
use Rattle.ss_core.specs.declared.names.Ty.{Ty}
use Rattle.ss_core.specs.Tree.{ExprTree, BaseConstructor, CallStmt, BodyTree, CoreTree}
use Rattle.ss_core.specs.Chain.{above, below}
use Rattle.ss_core.proofs.Chains.{below_up}
use Rattle.ss_store_rules.proofs.Arrays.{declared_not_object}
use Rattle.ss_store_rules.specs.declared.Value.{Value}
use Rattle.ss_store_rules.specs.Store.{Object}
use Rattle.ss_store_rules.specs.Changes.{field_class}
use Rattle.ss_store_rules.specs.Construction.{has_own_fields}
use Rattle.ss_store_rules.specs.Formed.{has_flags, IsFormedBody, IsFormed}
use Rattle.ss_store_rules.specs.Locals.{local_types, is_variable, is_kept_among}
use Rattle.ss_store_rules.specs.NonNull.{Known, no_facts, is_non_null_type, says_nothing, with_kept, result_of, is_field_above, known_after}
use Rattle.ss_store_rules.specs.Typed.{fits_kept, callee_of, is_typed}
use Rattle.ss_machine_rules.specs.Frame.{this_of}
use Rattle.ss_machine_rules.specs.States.{ToCall, put}
use Rattle.ss_machine_good.specs.Known.{IsNotNull, HasItsField, IsTrueOf}
use Rattle.ss_machine_good.proofs.Frames.{declared_some}
use Rattle.ss_machine_good.proofs.Puts.{put_true}
use Rattle.ss_machine_good.specs.Checks.{fields_asked, fields_check}
use Rattle.ss_machine_good.proofs.Bases.{IsBase, base_of}
use Rattle.ss_machine_good.specs.Later.{IsLater}
use Rattle.ss_machine_good.specs.LaterFrames.{HasGiven, IsAnswer}
use Rattle.ss_machine_good.proofs.Behind.{put_this, variable_apart}
use Rattle.ss_machine_good.proofs.Statements.{given_known, if_true}
use Rattle.ss_sound_outcomes.specs.Points.{Activation, Point, scene, IsSound, entry_size}
use Rattle.ss_sound_outcomes.specs.Outcomes.{with_local, with_store}
use Rattle.ss_vcgen_safe.proofs.Behind.{later_known}

not_true : (b : Bool) → not b ≡ true → b ≡ false
not_true true h = absurd (false≢true h)
not_true false h = refl

-- what is known where a local gets a result
pub kept_true : (a : Activation) (p : Point) (z : List Object) → has_flags a.body ≡ true → length p.locals ≡ length (local_types a.body) → (x : Option ℕ) (v : Value) (o : Option Ty) → fits_kept a.program.classes a.body x o ≡ true → is_kept_among (is_variable a.body) x ≡ true →
    (non_null : Bool) → (non_null ≡ true → IsNotNull v) → (k : Known) → IsTrueOf a.body.flags.ctor k (scene a (with_store z p)) → IsTrueOf a.body.flags.ctor (with_kept x non_null k) (scene a (with_local x v (with_store z p)))
kept_true a p z flags count None v o fits among non_null not_null k so = so
kept_true a p z flags count (Some y) v o fits among non_null not_null k so =
    let d = declared_some a.program.classes o (slice_get (local_types a.body) y) fits in
    let there = slice_get_within (local_types a.body) y d.0 d.1 in
    put_true (scene a (with_store z p)) y v (omega (arith, there, count)) a.body.flags.ctor non_null says_nothing k so (variable_apart a.body y flags among) not_null (λ u e w h. absurd (false≢true h))

module _ (a : Activation) (formed : IsFormed a.program) (fb : IsFormedBody a.program a.body) (p : Point) (sound : IsSound a p) (z : List Object) (later : IsLater a.program.classes (entry_size a) p.store z) where
  abbrev c : CoreTree
  c = a.program

  abbrev b : BodyTree
  b = a.body

  abbrev this : Value
  this = this_of p.locals

  -- a field of `this` that had its value has it in a later store
  given_later : b.flags.ctor ≡ true → (g : ℕ) → HasGiven c p.store this g → HasGiven c z this g
  given_later ctor g has = (later_known a (entry_size a) p z fb.flags sound later known so).fields ctor g (eq-eqb g g refl)
    where
      known : Known
      known = record { facts = no_facts; sides = λ x v. Some no_facts; fields = λ f. f == g }

      so : IsTrueOf b.flags.ctor known (scene a p)
      so = record {
        facts = λ x h. absurd (false≢true h);
        sides = λ x v e. record { facts = no_facts; there = refl; so = λ y h. absurd (false≢true h) };
        fields = λ k f h. subst (λ (n : ℕ). HasItsField (scene a p) n) (sym (eqb-true f g h)) has;
      }

  -- ---- `base(..)`

  module _ (at : Place) (x : Option ℕ) (n : ℕ) (es : List ExprTree) (k : Known) (typed : is_typed c b (CallStmt at x (BaseConstructor n) es) ≡ true) (checked : (fields_check c b).statement (CallStmt at x (BaseConstructor n) es) k ≡ true)
      (so : IsTrueOf b.flags.ctor k (scene a p)) where
    abbrev pub base_is : IsBase c b n
    base_is = base_of c formed b at x n es typed

    -- in a constructor alone it stands
    base_ctor : b.flags.ctor ≡ true
    base_ctor = ⊎_elim (λ ctor. ctor)
        (λ plain. absurd (false≢true (if_not b.flags.ctor (fields_asked c b (CallStmt at x (BaseConstructor n) es) k) plain checked)))
        (cases_Bool b.flags.ctor)
      where
        if_not : (i j : Bool) → i ≡ false → (if i then j else false) ≡ true → false ≡ true
        if_not true j e h = absurd (true≢false e)
        if_not false j e h = h

    is_own : (g : ℕ) → b.class ≡ field_class c.classes g → (field_class c.classes g == b.class) ≡ true
    is_own g e = eq-eqb (field_class c.classes g) b.class (sym e)

    -- one that isn't delayed has given the fields of its class
    own_given : b.flags.delayed ≡ false → (g : ℕ) → (field_class c.classes g == b.class) ≡ true → HasGiven c p.store this g
    own_given undelayed g own =
        let asked = if_true b.flags.ctor (b.flags.delayed || has_own_fields c.classes b.class k) false base_ctor checked in
        let has = ⊎_elim (λ delayed. absurd (true≢false (sym delayed ∙ undelayed))) (λ h. h) (or_cases b.flags.delayed (has_own_fields c.classes b.class k) asked) in
        given_known c p.store this (λ u. u == b.class) k (λ h kh. so.fields base_ctor h kh) has g own

    abbrev own_or_up : (g : ℕ) → below c.classes b.class (field_class c.classes g) ≡ true → (b.class ≡ field_class c.classes g) ⊎ (below c.classes base_is.body.class (field_class c.classes g) ≡ true)
    own_or_up g h = ⊎_elim
        (λ own. inl (eqb-true b.class (field_class c.classes g) own))
        (λ up. inr (subst (λ t. below c.classes t (field_class c.classes g) ≡ true) (sym base_is.class) up))
        (or_cases (b.class == field_class c.classes g) (below c.classes (above c.classes b.class) (field_class c.classes g)) (sym (below_up c.classes formed.chain b.class (field_class c.classes g) (declared_not_object c.classes b.class fb.class)) ∙ h))

    -- and all those that no class above declares
    lower_given : b.flags.delayed ≡ false → (g : ℕ) → below c.classes base_is.body.class (field_class c.classes g) ≡ false → HasGiven c p.store this g
    lower_given undelayed g apart = ⊎_elim
        (λ here. ⊎_elim
        (λ own. own_given undelayed g (is_own g own))
        (λ up. absurd (true≢false (sym up ∙ apart)))
        (own_or_up g here))
        (λ other. sound.given base_ctor undelayed g other)
        (cases_Bool (below c.classes b.class (field_class c.classes g)))

    is_above : (g : ℕ) → is_field_above c b g ≡ true → below c.classes base_is.body.class (field_class c.classes g) ≡ true
    is_above g h =
        let r = and_parts (below c.classes b.class (field_class c.classes g)) (not (field_class c.classes g == b.class)) h in
        ⊎_elim
        (λ own. absurd (false≢true (sym (ap not (is_own g own)) ∙ r.1)))
        (λ up. up)
        (own_or_up g r.0)

    -- the fields that are known after it have their values
    answered : (v : Value) → IsAnswer c base_is.body (ToCall x) this z v → (g : ℕ) → (b.flags.delayed ≡ false) ⊎ (is_field_above c b g ≡ true) → HasGiven c z this g
    answered v answer g which = ⊎_elim
        (λ up. answer.fields base_is.ctor g (λ delayed. up))
        (λ apart. given_later base_ctor g (lower_given (⊎_elim (λ undelayed. undelayed) (λ field_above. absurd (true≢false (sym (is_above g field_above) ∙ apart))) which) g apart))
        (cases_Bool (below c.classes base_is.body.class (field_class c.classes g)))

    pub base_known : (v : Value) → IsAnswer c base_is.body (ToCall x) this z v → fits_kept c.classes b x base_is.body.result ≡ true → is_kept_among (is_variable b) x ≡ true →
        IsTrueOf b.flags.ctor (known_after c b (CallStmt at x (BaseConstructor n) es) k) (scene a (with_local x v (with_store z p)))
    base_known v answer fits among =
        let non_null = is_non_null_type (result_of (callee_of c b (BaseConstructor n))) in
        let result : non_null ≡ is_non_null_type base_is.body.result = ap (λ o. is_non_null_type (result_of o)) base_is.is_callee in
        let kept = kept_true a p z fb.flags sound.locals.count x v base_is.body.result fits among non_null (λ h. answer.non_null (sym result ∙ h)) k (later_known a (entry_size a) p z fb.flags sound later k so) in
        let same : this_of (put x v p.locals) ≡ this = put_this p.locals x v (λ y e. variable_apart b y fb.flags (subst (λ (o : Option ℕ). is_kept_among (is_variable b) o ≡ true) e among) base_ctor) in
        record {
          facts = kept.facts;
          sides = λ y u eu. let side = kept.sides y u eu in record { facts = side.facts; there = side.there; so = side.so };
          fields = λ ctor g kg. ⊎_elim
              (λ first. ⊎_elim
              (λ known. kept.fields ctor g known)
              (λ undelayed. subst (λ u. HasGiven c z u g) (sym same) (answered v answer g (inl (not_true b.flags.delayed undelayed))))
              (or_cases ((with_kept x non_null k).fields g) (not b.flags.delayed) first))
              (λ field_above. subst (λ u. HasGiven c z u g) (sym same) (answered v answer g (inr field_above)))
              (or_cases ((with_kept x non_null k).fields g || not b.flags.delayed) (is_field_above c b g) kg);
        }
