-- What is known of null where an expression is read, under bound names and inside `old` too.
use Rattle.std.proofs.Common.{◌≡◌, ℕ, zero, suc, ℤ, List, [], ◌∷◌, ◌++◌, map, Bool, true, false, ◌||◌, Some, None, Ok, refl, sym, ◌∙◌, ap, subst, append-nil, inl, inr, ◌⊎◌, ⊎_elim}
use Rattle.std.specs.Prelude.{slice_get, unwrap_or}
use Rattle.std.proofs.lemmas.Bool.{false≢true, or_cases, or_left, or_right}
use Rattle.ss_core.specs.declared.names.Ty.{Ty}
use Rattle.ss_core.specs.declared.names.Ty.TheVariants as ty
use Rattle.ss_core.specs.Tree.{ExprTree, LocalExpr, FieldExpr, CastExpr, OldExpr, BodyTree}
use Rattle.ss_store_rules.specs.declared.Value.{Value}
use Rattle.ss_store_rules.specs.declared.Value.TheVariants as value
use Rattle.ss_store_rules.specs.Numbers.{fits}
use Rattle.ss_store_rules.specs.Locals.{types_of, local_types, is_bound, reads_only}
use Rattle.ss_store_rules.specs.Types.{type_of}
use Rattle.ss_store_rules.specs.Values.{Setting, local_value, at_entry, with_bound, value_of}
use Rattle.ss_store_rules.specs.NonNull.{Known, Facts, is_non_null_type, is_never_null}
use Rattle.ss_machine_typed.specs.Settings.{IsGoodSetting}
use Rattle.ss_machine_typed.proofs.Sound.{old_setting}
use Rattle.ss_machine_good.specs.Known.{IsNotNull, AreNotNull, IsTrueOf, WasReady}
use Rattle.ss_machine_good.proofs.NonNull.{never_null}
use Rattle.ss_logic_means.proofs.Everywhere.{reads_fewer}
use Rattle.ss_logic_means.proofs.Standing.{bound_good}

-- ---- one more bound name

type_more : (tys : List Ty) (x : ℕ) → is_non_null_type (slice_get (tys ++ ty.Int ∷ []) x) ≡ true → is_non_null_type (slice_get tys x) ≡ true
type_more [] zero h = absurd (false≢true h)
type_more [] (suc x) h = absurd (false≢true h)
type_more (t ∷ tys) zero h = h
type_more (t ∷ tys) (suc x) h = type_more tys x h

more_type : (tys : List Ty) (x : ℕ) → is_non_null_type (slice_get tys x) ≡ true → is_non_null_type (slice_get (tys ++ ty.Int ∷ []) x) ≡ true
more_type [] x h = absurd (false≢true h)
more_type (t ∷ tys) zero h = h
more_type (t ∷ tys) (suc x) h = more_type tys x h

-- a local is what it was, or the new name
value_more : (vs : List Value) (i : ℤ) (x : ℕ) → (unwrap_or (slice_get (vs ++ value.Int i ∷ []) x) value.Null ≡ unwrap_or (slice_get vs x) value.Null) ⊎ (unwrap_or (slice_get (vs ++ value.Int i ∷ []) x) value.Null ≡ value.Int i)
value_more [] i zero = inr refl
value_more [] i (suc x) = inl refl
value_more (v ∷ vs) i zero = inl refl
value_more (v ∷ vs) i (suc x) = value_more vs i x

module _ (c : Setting) (i : ℤ) where
  not_null_more : (x : ℕ) → IsNotNull (local_value c x) → IsNotNull (local_value (with_bound c i) x)
  not_null_more x h = ⊎_elim (λ same. subst IsNotNull (sym same) h) (λ new null. let no : value.Int i ≡ value.Null = sym new ∙ null in absurd (let none : ⊥ = cc in none)) (value_more c.locals i x)

  facts_more : (facts : Facts) → AreNotNull facts c → AreNotNull facts (with_bound c i)
  facts_more facts h x f = not_null_more x (h x f)

  true_more : (constructs : Bool) (k : Known) → IsTrueOf constructs k c → IsTrueOf constructs k (with_bound c i)
  true_more constructs k is = record {
    facts = facts_more k.facts is.facts;
    sides = λ x v e. ⊎_elim
        (λ same. let s = is.sides x v (sym same ∙ e) in record { facts = s.facts; there = s.there; so = facts_more s.facts s.so })
        (λ new. let no : value.Int i ≡ value.Bool v = sym new ∙ e in absurd (let none : ⊥ = cc in none))
        (value_more c.locals i x);
    fields = λ constructing f known o x e there null. ⊎_elim
        (λ same. is.fields constructing f known o x (sym same ∙ e) there null)
        (λ new. let no : value.Int i ≡ value.Obj o = sym new ∙ e in absurd (let none : ⊥ = cc in none))
        (value_more c.locals i 0);
  }

old_true : (constructs : Bool) (k : Known) (c : Setting) → IsTrueOf constructs k c → IsTrueOf constructs k (at_entry c)
old_true constructs k c is = record {
  facts = is.facts;
  sides = λ x v e. let s = is.sides x v e in record { facts = s.facts; there = s.there; so = s.so };
  fields = is.fields;
}

-- ---- what is seen

-- In the setting, whose locals have these types, what is known of null is so, and the locals among these have values. The first types are those
-- of the body.
pub record Sees (first : List Ty) (constructs : Bool) (among : ℕ → Bool) (k : Known) (c : Setting) (tys : List Ty) : Type 0 where
  pub good : IsGoodSetting c tys constructs
  pub was_ready : WasReady constructs c
  pub filled : (x : ℕ) → among x ≡ true → is_non_null_type (slice_get tys x) ≡ true → IsNotNull (local_value c x)
  pub known : IsTrueOf constructs k c
  pub fits : (x : ℕ) → is_non_null_type (slice_get first x) ≡ true → is_non_null_type (slice_get tys x) ≡ true

module _ (b : BodyTree) (first : List Ty) (constructs : Bool) (among : ℕ → Bool) where
  pub sees_old : (k : Known) (c : Setting) (tys : List Ty) → Sees first constructs among k c tys → Sees first constructs among k (at_entry c) tys
  sees_old k c tys s = record { good = old_setting c tys constructs s.good; was_ready = s.was_ready; filled = s.filled; known = old_true constructs k c s.known; fits = s.fits }

  pub sees_bound : (k : Known) (c : Setting) (tys : List Ty) → Sees first constructs among k c tys → (i : ℤ) → fits i ≡ true → Sees first constructs among k (with_bound c i) (tys ++ ty.Int ∷ [])
  sees_bound k c tys s i fit = record {
    good = bound_good c tys constructs s.good i fit;
    was_ready = s.was_ready;
    filled = λ x asked typed. not_null_more c i x (s.filled x asked (type_more tys x typed));
    known = true_more c i constructs k s.known;
    fits = λ x typed. more_type tys x (s.fits x typed);
  }

  pub sees_more : (k l : Known) (c : Setting) (tys : List Ty) → Sees first constructs among k c tys → IsTrueOf constructs l c → Sees first constructs among l c tys
  sees_more k l c tys s is = record { good = s.good; was_ready = s.was_ready; filled = s.filled; known = is; fits = s.fits }

  -- an expression that is never null has no value or one that isn't null
  module _ (k : Known) (c : Setting) (tys : List Ty) (s : Sees first constructs among k c tys) where
    abbrev Wide : BodyTree
    Wide = record b { params = []; locals = map (λ t. record { name = []; ty = t; captured = false }) tys; result = None; flags = record b.flags { is_static = true; ctor = constructs } }

    each_type : (ts : List Ty) → types_of (map (λ t. record { name = []; ty = t; captured = false }) ts) ≡ ts
    each_type [] = refl
    each_type (t ∷ ts) = ap (λ us. t ∷ us) (each_type ts)

    wide_types : local_types Wide ≡ tys
    wide_types = append-nil (types_of Wide.locals) ∙ each_type tys

    wider : (old : Bool) (x : ExprTree) → is_never_null (record { classes = c.classes; locals = first; constructs = constructs }) k old x ≡ true → is_never_null (record { classes = c.classes; locals = local_types Wide; constructs = constructs }) k old x ≡ true
    wider old (LocalExpr p x) h =
        ⊎_elim
        (λ typed. or_left (is_non_null_type (slice_get (local_types Wide) x)) (k.facts x) (subst (λ ts. is_non_null_type (slice_get ts x) ≡ true) (sym wide_types) (s.fits x typed)))
        (λ fact. or_right (is_non_null_type (slice_get (local_types Wide) x)) (k.facts x) fact)
        (or_cases (is_non_null_type (slice_get first x)) (k.facts x) h)
    wider old (FieldExpr p x f) h = h
    wider old (CastExpr p t n x) h = h
    wider old (OldExpr p x) h = wider true x h
    wider old x h = absurd (false≢true h)

    pub seen_not_null : (x : ExprTree) → reads_only among x ≡ true → (t : Ty) → type_of c.classes tys x ≡ Some t → is_never_null (record { classes = c.classes; locals = first; constructs = constructs }) k c.inside_old x ≡ true → (v : Value) → value_of x c ≡ Ok v → IsNotNull v
    seen_not_null x reads t is h v has =
        never_null Wide among k x c (subst (λ ts. IsGoodSetting c ts constructs) (sym wide_types) s.good) s.was_ready
        (λ y asked typed. s.filled y asked (subst (λ ts. is_non_null_type (slice_get ts y) ≡ true) wide_types typed)) s.known c.inside_old refl
        (reads_fewer among (λ y. among y || is_bound Wide y) (λ y asked. or_left (among y) (is_bound Wide y) asked) x reads) t (subst (λ ts. type_of c.classes ts x ≡ Some t) (sym wide_types) is) (wider c.inside_old x h) v has
