-- Places in the bodies of a program, as its phases and its resolved tree have them.
use Rattle.std.proofs.Common.{◌≡◌, ℕ, ◌<◌, List, [], ◌∷◌, length, Bool, true, false, Option, Some, None, refl, sym, ◌∙◌, ap, subst, ⊎_elim}
use Rattle.std.specs.Prelude.{◌&&◌, ◌||◌, not, slice_get, is_some, option_map, unwrap_or, if◌then◌else◌}
use Rattle.std.specs.List.{list_all}
use Rattle.std.proofs.lemmas.Bool.{and_from, or_cases, false≢true}
use Rattle.ss_core.specs.declared.names.Ty.{Ty}
use Rattle.ss_core.specs.declared.names.Ty.TheVariants as ty
use Rattle.ss_core.specs.Tree as core
use Rattle.ss_core.specs.Chain.{is_class, is_type}
use Rattle.ss_ast.specs.Expressions.{NameTree, TypeTree, TypeNameTree, IntType, BoolType, ObjectType, ClassType}
use Rattle.ss_ast.specs.Expressions as text
use Rattle.ss_ast.specs.Programs.{ProgramTree}
use Rattle.ss_tables.specs.Classes.{class_named, class_number, array_number}
use Rattle.ss_tables.specs.Types.{reference, named_type, array_type, written_type}
use Rattle.ss_tables.specs.Scopes.{Scope, Locals}
use Rattle.ss_tables.specs.Statics.{static as static_of}
use Rattle.ss_typed.specs.Types.{class_type, type_of}
use Rattle.ss_resolver_names_rules.specs.Faults.{type_faults}
use Rattle.ss_resolver_names_rules.specs.Programs.{program_faults}
use Rattle.ss_resolver_types_heads.specs.Wants.{Want, AnInt, ABool, AReference, AnArray, is_unsuited, suits, has_no_value, known, wrong}
use Rattle.ss_resolver_types_heads.specs.Wants as wants
use Rattle.ss_resolver_types_heads.specs.Expressions.{AsValue, faults, is_number_name, is_number_type}
use Rattle.ss_resolver_rules.specs.Names.{Known_names, Env}
use Rattle.ss_resolver_rules.specs.declared.known.Known.{Known}
use Rattle.ss_resolver_rules.specs.declared.known.Known.TheVariants.{Variable, BoundName}
use Rattle.ss_resolver_rules.specs.Expressions.{expr}
use Rattle.ss_resolver_rules.specs.Programs.{resolved}
use Rattle.ss_expand_rules.specs.Calls.{has_call}
use Rattle.ss_expand_rules.specs.Lifting.{temporary_type, any_object}
use Rattle.ss_store_rules.specs.Changes.{is_array}
use Rattle.ss_store_rules.specs.Types.{is_int, is_bool, is_reference, has_class}
use Rattle.ss_expand_formed.specs.Laws.{core_of}
use Rattle.ss_expand_formed.proofs.Facts.{or_false, not_false}
use Rattle.ss_expand_formed.proofs.ChainLaw.{type_known}
use Rattle.ss_expand_formed.proofs.Typings.{may_be, may_have, type_may, object_known, temporary_known}
use Rattle.ss_expand_formed.proofs.Written.{Fits, expr_ok}
use Rattle.ss_expand_formed.proofs.Fit.{Context, Fit}
use Rattle.ss_expand_formed.proofs.ExpressionsScopes.{refusing, expr_context, no_fault, static_same}
use Rattle.ss_expand_formed.proofs.Names.{Stands, Alike, AllAlike}
use Rattle.ss_expand_formed.proofs.Classes.{array_known, type_there}

-- ---- where `result` stands

-- each `result` in the expression stands where it is known
abbrev mutual
  pub has_answer : Bool → text.ExprTree → Bool
  has_answer r (text.ResultOf q) = r
  has_answer r (text.IffOf q a b) = has_answer r a && has_answer r b
  has_answer r (text.ImpliesOf q a b) = has_answer r a && has_answer r b
  has_answer r (text.BinaryOf q o a b) = has_answer r a && has_answer r b
  has_answer r (text.IsOf q a t) = has_answer r a
  has_answer r (text.AsOf q a t) = has_answer r a
  has_answer r (text.NegateOf q a) = has_answer r a
  has_answer r (text.NotOf q a) = has_answer r a
  has_answer r (text.CastOf q t a) = has_answer r a
  has_answer r (text.MemberOf q a n) = has_answer r a
  has_answer r (text.ElementOf q a i) = has_answer r a && has_answer r i
  has_answer r (text.CallOf q f es) = has_answer r f && have_answer r es
  has_answer r (text.ParenOf q a) = has_answer r a
  has_answer r (text.OldOf q a) = has_answer r a
  has_answer r (text.NewOf q n es) = have_answer r es
  has_answer r (text.NewArrayOf q s t a) = has_answer r a
  has_answer r (text.QuantifiedOf q s n low high a) = has_answer r low && has_answer r high && has_answer r a
  has_answer r a = true

  pub have_answer : Bool → text.Arguments → Bool
  have_answer r text.NoMore = true
  have_answer r (text.Argument a es) = has_answer r a && have_answer r es

mutual
  pub all_answered : (a : text.ExprTree) → has_answer true a ≡ true
  all_answered (text.IffOf q a b) = and_from _ _ (all_answered a) (all_answered b)
  all_answered (text.ImpliesOf q a b) = and_from _ _ (all_answered a) (all_answered b)
  all_answered (text.BinaryOf q o a b) = and_from _ _ (all_answered a) (all_answered b)
  all_answered (text.IsOf q a t) = all_answered a
  all_answered (text.AsOf q a t) = all_answered a
  all_answered (text.NegateOf q a) = all_answered a
  all_answered (text.NotOf q a) = all_answered a
  all_answered (text.CastOf q t a) = all_answered a
  all_answered (text.MemberOf q a n) = all_answered a
  all_answered (text.ElementOf q a i) = and_from _ _ (all_answered a) (all_answered i)
  all_answered (text.CallOf q f es) = and_from _ _ (all_answered f) (are_answered es)
  all_answered (text.ParenOf q a) = all_answered a
  all_answered (text.OldOf q a) = all_answered a
  all_answered (text.NewOf q n es) = are_answered es
  all_answered (text.NewArrayOf q s t a) = all_answered a
  all_answered (text.QuantifiedOf q s n low high a) = and_from _ _ (and_from _ _ (all_answered low) (all_answered high)) (all_answered a)
  all_answered a = refl

  pub are_answered : (es : text.Arguments) → have_answer true es ≡ true
  are_answered text.NoMore = refl
  are_answered (text.Argument a es) = and_from _ _ (all_answered a) (are_answered es)

-- ---- places

-- what is known at a place of a program
pub record At : Type 0 where
  pub class : ℕ
  pub outcome : Option Ty
  pub names : Locals
  pub more_names : List Locals
  pub numbers : Known_names
  pub more_numbers : List Known_names
  pub next : ℕ
  pub bound : ℕ

module _ (p : ProgramTree) where
  abbrev pub scope_at : At → Scope
  scope_at a = record { classes = p.classes; class = a.class; refuses_members = false; refuses_this = false; outcome = a.outcome; inner = a.names; outer = a.more_names }

  abbrev pub env_at : At → Env
  env_at a = record { scope = scope_at a; inner = a.numbers; outer = a.more_numbers; next = a.next; bound = a.bound }

  abbrev C : List core.ClassTree
  C = (core_of p).classes

  -- the types of the context are of the table
  pub record IsKnown (x : Context) : Type 0 where
    pub locals : (y : ℕ) (t : Ty) → slice_get x.locals y ≡ Some t → is_type C t ≡ true
    pub result : (t : Ty) → x.result ≡ Some t → is_type C t ≡ true

  -- the place is one of the context; `answer` says that the phase of types lets `result` stand there only where it has a type
  pub record IsPlace (x : Context) (static lacks answer : Bool) (a : At) : Type 0 where
    pub class : a.class < length p.classes
    pub this : static ≡ false → slice_get x.locals 0 ≡ Some (class_type (class_number a.class) true)
    pub in_static : static ≡ false → x.is_static ≡ false
    pub in_class : x.class ≡ class_number a.class
    pub outcome : (t : Ty) → a.outcome ≡ Some t → x.result ≡ Some t
    pub answer_is : answer ≡ true → lacks ≡ false → (t : Ty) × (a.outcome ≡ Some t)
    pub inner : Alike x.locals a.bound a.names a.numbers
    pub outer : AllAlike x.locals a.bound a.more_names a.more_numbers

  abbrev known_fits : Known → Bool
  known_fits (Variable y t) = may_be C t
  known_fits (BoundName j) = true

  abbrev names_fit : Known_names → Bool
  names_fit ls = list_all (λ (l : List ℕ × Known). known_fits l.1) ls

  module _ (x : Context) (is_known : IsKnown x) (static lacks answer : Bool) where
    names_known : (k : ℕ) (ls : Locals) (ms : Known_names) → Alike x.locals k ls ms → names_fit ms ≡ true
    names_known k [] [] h = refl
    names_known k [] (m ∷ ms) h = absurd h
    names_known k (l ∷ ls) [] h = absurd h
    names_known k (l ∷ ls) (m ∷ ms) h = and_from _ _ (one m.1 h.1) (names_known k ls ms h.2)
      where
        one : (q : Known) → Stands x.locals k l.1 q → known_fits q ≡ true
        one (Variable y t) g = type_may C t (is_known.locals y t g.1)
        one (BoundName j) g = refl

    all_names_known : (k : ℕ) (ls : List Locals) (ms : List Known_names) → AllAlike x.locals k ls ms → list_all names_fit ms ≡ true
    all_names_known k [] [] h = refl
    all_names_known k [] (m ∷ ms) h = absurd h
    all_names_known k (l ∷ ls) [] h = absurd h
    all_names_known k (l ∷ ls) (m ∷ ms) h = and_from _ _ (names_known k l m h.0) (all_names_known k ls ms h.1)

    pub fits_at : (a : At) → IsPlace x static lacks answer a → Fits p (env_at a)
    fits_at a h = record { classes = refl; class = h.class; outcome = by a.outcome refl; inner = names_known a.bound a.names a.numbers h.inner; outer = all_names_known a.bound a.more_names a.more_numbers h.outer }
      where
        by : (o : Option Ty) → a.outcome ≡ o → may_have C o ≡ true
        by None e = refl
        by (Some t) e = type_may C t (is_known.result t (h.outcome t e))

    -- the class of a value is of the table
    pub class_of_value : (a : At) → IsPlace x static lacks answer a → (y : text.ExprTree) (c : ℕ) (n : Bool) → type_of (expr (env_at a) y) ≡ Some (ty.Ref (record { 0 = c }) n) → is_class C c ≡ true
    class_of_value a h y c n e =
        let known = temporary_known C any_object (expr (env_at a) y) (object_known C) (expr_ok p (env_at a) (fits_at a h) y) in
        subst (λ o. is_type C (temporary_type any_object o) ≡ true) e known

-- ---- types that are written

pub cast_there : (p : ProgramTree) → program_faults p ≡ [] → (t : TypeTree) → type_faults p.classes t ≡ [] → is_number_type t ≡ false → (c : ℕ) × (written_type p.classes t ≡ Some (ty.Ref (record { 0 = c }) t.non_null))
cast_there p faultless t h n = by t.is_array t.name (type_there p faultless t (type_known p faultless t h)) n
  where
    of_class : (m : Bool) (f : ℕ → ℕ) (u : Ty) (o : Option ℕ) → option_map (λ (k : ℕ). reference m (f k)) o ≡ Some u → (c : ℕ) × (option_map (λ (k : ℕ). reference m (f k)) o ≡ Some (ty.Ref (record { 0 = c }) m))
    of_class m f u None e = absurd (let z : ⊥ = cc in z)
    of_class m f u (Some k) e = (f k, refl)

    by : (array : Bool) (name : TypeNameTree) → (if array then array_type p.classes t.non_null name else named_type p.classes t.non_null name) ≡ Some (unwrap_or (if array then array_type p.classes t.non_null name else named_type p.classes t.non_null name) ty.Null) → (not array && is_number_name name) ≡ false →
        (c : ℕ) × ((if array then array_type p.classes t.non_null name else named_type p.classes t.non_null name) ≡ Some (ty.Ref (record { 0 = c }) t.non_null))
    by true IntType e g = (1, refl)
    by true BoolType e g = (2, refl)
    by true ObjectType e g = (3, refl)
    by true (ClassType m) e g = of_class t.non_null array_number _ (class_named p.classes m) e
    by false IntType e g = absurd (false≢true (sym g))
    by false BoolType e g = absurd (false≢true (sym g))
    by false ObjectType e g = (0, refl)
    by false (ClassType m) e g = of_class t.non_null class_number _ (class_named p.classes m) e

-- ---- what is wanted

int_wanted : (t : Ty) → wants.is_int t ≡ true → is_int (Some t) ≡ true
int_wanted ty.Int h = refl
int_wanted ty.Bool h = absurd (false≢true h)
int_wanted ty.Null h = absurd (false≢true h)
int_wanted (ty.Ref c n) h = absurd (false≢true h)

bool_wanted : (t : Ty) → wants.is_bool t ≡ true → is_bool (Some t) ≡ true
bool_wanted ty.Int h = absurd (false≢true h)
bool_wanted ty.Bool h = refl
bool_wanted ty.Null h = absurd (false≢true h)
bool_wanted (ty.Ref c n) h = absurd (false≢true h)

reference_wanted : (t : Ty) → wants.is_reference t ≡ true → is_reference (Some t) ≡ true
reference_wanted ty.Int h = absurd (false≢true h)
reference_wanted ty.Bool h = absurd (false≢true h)
reference_wanted ty.Null h = refl
reference_wanted (ty.Ref c n) h = refl

module _ (p : ProgramTree) (x : Context) (static lacks answer condition : Bool) (a : At) where
  abbrev S : Scope
  S = scope_at p a

  abbrev T : Scope
  T = refusing static static S

  -- an expression without faults at the place
  pub record Sound (y : text.ExprTree) : Type 0 where
    pub typed : (t : Ty) → static_of S y ≡ Some t → type_of (expr (env_at p a) y) ≡ Some t
    pub valued : (is_some (static_of S y) || has_no_value T y) ≡ true
    pub fit : Fit (resolved p) (core_of p).classes x a.bound (expr (env_at p a) y)
    pub calls : condition ≡ true → has_call (expr (env_at p a) y) ≡ false

  -- one that is what is wanted
  pub record IsWanted (w : Want) (y : text.ExprTree) : Type 0 where
    pub sound : Sound y
    pub type : Ty
    pub static_is : static_of S y ≡ Some type
    pub is : type_of (expr (env_at p a) y) ≡ Some type
    pub suits : suits p.classes w type ≡ true

  pub static_at : (y : text.ExprTree) → faults (expr_context static condition lacks S) AsValue y ≡ [] → static_of T y ≡ static_of S y
  static_at y h = by static h
    where
      by : (b : Bool) → faults (expr_context b condition lacks S) AsValue y ≡ [] → static_of (refusing b b S) y ≡ static_of S y
      by true g = static_same condition lacks true true S y g
      by false g = refl

  pub is_wanted : (w : Want) (y : text.ExprTree) → faults (expr_context static condition lacks S) AsValue y ≡ [] → Sound y → wrong T w y ≡ [] → IsWanted w y
  is_wanted w y h s g =
      let none = or_false (has_no_value T y) (is_unsuited p.classes w (static_of T y)) (no_fault _ _ g) in
      let suited : is_unsuited p.classes w (static_of S y) ≡ false = ap (is_unsuited p.classes w) (sym (static_at y h)) ∙ none.1 in
      let some : is_some (static_of S y) ≡ true = ⊎_elim (λ z. z) (λ z. absurd (false≢true (sym none.0 ∙ z))) (or_cases (is_some (static_of S y)) (has_no_value T y) s.valued) in
      by (static_of S y) refl some suited
    where
      by : (o : Option Ty) → static_of S y ≡ o → is_some o ≡ true → is_unsuited p.classes w o ≡ false → IsWanted w y
      by None e some suited = absurd (false≢true some)
      by (Some t) e some suited = record { sound = s; type = t; static_is = e; is = s.typed t e; suits = not_false _ suited }

  pub wanted_int : (y : text.ExprTree) → IsWanted AnInt y → is_int (type_of (expr (env_at p a) y)) ≡ true
  wanted_int y h = ap is_int h.is ∙ int_wanted h.type h.suits

  pub wanted_bool : (y : text.ExprTree) → IsWanted ABool y → is_bool (type_of (expr (env_at p a) y)) ≡ true
  wanted_bool y h = ap is_bool h.is ∙ bool_wanted h.type h.suits

  pub wanted_reference : (y : text.ExprTree) → IsWanted AReference y → is_reference (type_of (expr (env_at p a) y)) ≡ true
  wanted_reference y h = ap is_reference h.is ∙ reference_wanted h.type h.suits

  pub wanted_array : IsKnown p x → IsPlace p x static lacks answer a → (y : text.ExprTree) → IsWanted AnArray y → has_class (is_array (core_of p).classes) (type_of (expr (env_at p a) y)) ≡ true
  wanted_array known place y h = ap (has_class (is_array (core_of p).classes)) h.is ∙ by h.type h.is h.suits
    where
      by : (t : Ty) → type_of (expr (env_at p a) y) ≡ Some t → wants.is_array t ≡ true → has_class (is_array (core_of p).classes) (Some t) ≡ true
      by ty.Int e g = absurd (false≢true g)
      by ty.Bool e g = absurd (false≢true g)
      by ty.Null e g = absurd (false≢true g)
      by (ty.Ref c n) e g = array_known (core_of p).classes c.0 g (class_of_value p x known static lacks answer a place y c.0 n e)
