-- An override has the heading of what it overrides.
use Rattle.std.proofs.Common.{◌≡◌, ℕ, zero, suc, List, [], ◌∷◌, map, Bool, true, false, Option, Some, None, refl, sym, ◌∙◌, ap, subst, ⊎_elim}
use Rattle.std.specs.Prelude.{◌&&◌, slice_get, option_map, unwrap_or, codes, if◌then◌else◌}
use Rattle.std.specs.Bool.{beq}
use Rattle.std.proofs.lemmas.Slice.Eq.{bytes_eq-Decides}
use Rattle.std.proofs.lemmas.Option.{same_Some}
use Rattle.std.proofs.lemmas.Bool.{and_parts, cases_Bool, false≢true}
use Rattle.ss_core.specs.declared.names.Ty.{Ty}
use Rattle.ss_core.specs.declared.names.Ty.TheVariants as ty
use Rattle.ss_ast.specs.declared.class.ModifierWord.{ModifierWord}
use Rattle.ss_ast.specs.declared.class.ModifierWord.TheVariants as word
use Rattle.ss_ast.specs.Expressions.{TypeTree, TypeNameTree, IntType, BoolType, ObjectType, ClassType}
use Rattle.ss_ast.specs.Programs as written
use Rattle.ss_ast.specs.Programs.{ClassTree, ProgramTree}
use Rattle.ss_tables.specs.Members.{MethodTree, is_static_word, is_override_word, is_open_word, word_of, is_static, is_open, is_override, has_attribute}
use Rattle.ss_tables.specs.Classes.{Declared, class_named, class_number, array_number, inherited_method}
use Rattle.ss_tables.specs.Types.{reference, named_type, array_type}
use Rattle.ss_typed.specs.Tree.{ParamTree, BodyTree}
use Rattle.ss_paths.specs.Fields.{is_non_null}
use Rattle.ss_nonnull_rules.specs.NonNull.{is_non_null_type}
use Rattle.ss_nonnull_rules.specs.Overrides as nulls
use Rattle.ss_nonnull_rules.specs.Overrides.{body_named, agrees_with}
use Rattle.ss_core.specs.declared.rules.Rule.TheVariants as rule
use Rattle.ss_resolver_names_rules.specs.Faults.{fault, unless}
use Rattle.ss_resolver_names_rules.specs.Members.{same_type_name, agree, same_type, same_result, same_mark, same_params, same_marks, only_ensures, may_override, fits_inherited, override_faults}
use Rattle.ss_resolver_names_rules.specs.Programs.{program_faults}
use Rattle.ss_resolver_rules.specs.Names.{Env}
use Rattle.ss_resolver_rules.specs.Numbers.{type_id}
use Rattle.ss_resolver_rules.specs.Programs.{param, method_env, method_body}
use Rattle.ss_expand_formed.proofs.Facts.{none_left}
use Rattle.ss_expand_formed.proofs.TypesKnown.{env_of}

-- two bodies are called in the same way, and have the same default contract
pub record SameHeading (b c : BodyTree) : Type 0 where
  pub types : map (λ (q : ParamTree). q.ty) b.params ≡ map (λ (q : ParamTree). q.ty) c.params
  pub captured : map (λ (q : ParamTree). q.captured) b.params ≡ map (λ (q : ParamTree). q.captured) c.params
  pub result : b.result ≡ c.result
  pub static : b.flags.is_static ≡ c.flags.is_static
  pub pure : b.flags.pure ≡ c.flags.pure
  pub undefaulted : b.flags.no_default_contract ≡ c.flags.no_default_contract

pub same_heading : (b : BodyTree) → SameHeading b b
same_heading b = record { types = refl; captured = refl; result = refl; static = refl; pure = refl; undefaulted = refl }

pub heading_through : (b c d : BodyTree) → SameHeading b c → SameHeading c d → SameHeading b d
heading_through b c d x y = record { types = x.types ∙ y.types; captured = x.captured ∙ y.captured; result = x.result ∙ y.result; static = x.static ∙ y.static; pure = x.pure ∙ y.pure; undefaulted = x.undefaulted ∙ y.undefaulted }

pub heading_back : (b c : BodyTree) → SameHeading b c → SameHeading c b
heading_back b c x = record { types = sym x.types; captured = sym x.captured; result = sym x.result; static = sym x.static; pure = sym x.pure; undefaulted = sym x.undefaulted }

-- ---- types

agree_is : (a b : Bool) → agree a b ≡ true → a ≡ b
agree_is true true h = refl
agree_is true false h = absurd (false≢true h)
agree_is false true h = absurd (false≢true h)
agree_is false false h = refl

beq_is : (a b : Bool) → beq a b ≡ true → a ≡ b
beq_is true true h = refl
beq_is true false h = absurd (false≢true h)
beq_is false true h = absurd (false≢true h)
beq_is false false h = refl

same_name : (t u : TypeNameTree) → same_type_name t u ≡ true → t ≡ u
same_name IntType IntType h = refl
same_name BoolType BoolType h = refl
same_name ObjectType ObjectType h = refl
same_name (ClassType m) (ClassType n) h = ap ClassType ((bytes_eq-Decides m n).0 h)
same_name IntType BoolType h = absurd (false≢true h)
same_name IntType ObjectType h = absurd (false≢true h)
same_name IntType (ClassType n) h = absurd (false≢true h)
same_name BoolType IntType h = absurd (false≢true h)
same_name BoolType ObjectType h = absurd (false≢true h)
same_name BoolType (ClassType n) h = absurd (false≢true h)
same_name ObjectType IntType h = absurd (false≢true h)
same_name ObjectType BoolType h = absurd (false≢true h)
same_name ObjectType (ClassType n) h = absurd (false≢true h)
same_name (ClassType m) IntType h = absurd (false≢true h)
same_name (ClassType m) BoolType h = absurd (false≢true h)
same_name (ClassType m) ObjectType h = absurd (false≢true h)

-- the type that such a name means, with or without `!`
abbrev meant_by : List ClassTree → Bool → Bool → TypeNameTree → Ty
meant_by cs array non_null n = unwrap_or (if array then array_type cs non_null n else named_type cs non_null n) ty.Null

class_alike : (f : ℕ → ℕ) (a b : Bool) (o : Option ℕ) → is_non_null (unwrap_or (option_map (λ k. reference a (f k)) o) ty.Null) ≡ is_non_null (unwrap_or (option_map (λ k. reference b (f k)) o) ty.Null) →
    unwrap_or (option_map (λ k. reference a (f k)) o) ty.Null ≡ unwrap_or (option_map (λ k. reference b (f k)) o) ty.Null
class_alike f a b None h = refl
class_alike f a b (Some k) h = ap (λ x. reference x (f k)) h

alike : (cs : List ClassTree) (array a b : Bool) (n : TypeNameTree) → is_non_null (meant_by cs array a n) ≡ is_non_null (meant_by cs array b n) → meant_by cs array a n ≡ meant_by cs array b n
alike cs true a b IntType h = ap (λ x. reference x 1) h
alike cs true a b BoolType h = ap (λ x. reference x 2) h
alike cs true a b ObjectType h = ap (λ x. reference x 3) h
alike cs true a b (ClassType n) h = class_alike array_number a b (class_named cs n) h
alike cs false a b IntType h = refl
alike cs false a b BoolType h = refl
alike cs false a b ObjectType h = ap (λ x. reference x 0) h
alike cs false a b (ClassType n) h = class_alike class_number a b (class_named cs n) h

-- types that are written alike but for `!`, and agree in it
type_alike : (cs : List ClassTree) (t u : TypeTree) → same_type t u ≡ true → is_non_null (type_id cs t) ≡ is_non_null (type_id cs u) → type_id cs t ≡ type_id cs u
type_alike cs t u h g =
    let both = and_parts (same_type_name t.name u.name) (agree t.is_array u.is_array) h in
    let name = same_name t.name u.name both.0 in
    let array = agree_is t.is_array u.is_array both.1 in
    let there : meant_by cs t.is_array u.non_null t.name ≡ type_id cs u = ap (λ a. meant_by cs a u.non_null t.name) array ∙ ap (meant_by cs u.is_array u.non_null) name in
    alike cs t.is_array t.non_null u.non_null t.name (g ∙ sym (ap is_non_null there)) ∙ there

-- ---- parameters and results

params_alike : (cs : List ClassTree) (e f : Env) → e.scope.classes ≡ cs → f.scope.classes ≡ cs → (ps qs : List written.ParamTree) → same_params ps qs ≡ true → nulls.agree (map (param e) ps) (map (param f) qs) ≡ true →
    (map (λ (q : ParamTree). q.ty) (map (param e) ps) ≡ map (λ (q : ParamTree). q.ty) (map (param f) qs)) × (map (λ (q : ParamTree). q.captured) (map (param e) ps) ≡ map (λ (q : ParamTree). q.captured) (map (param f) qs))
params_alike cs e f se sf [] [] h g = (refl, refl)
params_alike cs e f se sf [] (q ∷ qs) h g = absurd (false≢true h)
params_alike cs e f se sf (p ∷ ps) [] h g = absurd (false≢true h)
params_alike cs e f se sf (p ∷ ps) (q ∷ qs) h g =
    let one = and_parts (same_type p.ty q.ty && same_mark (codes "Captured") p.attributes q.attributes) (same_params ps qs) h in
    let two = and_parts (same_type p.ty q.ty) (same_mark (codes "Captured") p.attributes q.attributes) one.0 in
    let three = and_parts (beq (is_non_null (type_id e.scope.classes p.ty)) (is_non_null (type_id f.scope.classes q.ty))) (nulls.agree (map (param e) ps) (map (param f) qs)) g in
    let left : type_id e.scope.classes p.ty ≡ type_id cs p.ty = ap (λ ds. type_id ds p.ty) se in
    let right : type_id f.scope.classes q.ty ≡ type_id cs q.ty = ap (λ ds. type_id ds q.ty) sf in
    let marks : is_non_null (type_id cs p.ty) ≡ is_non_null (type_id cs q.ty) = sym (ap is_non_null left) ∙ beq_is _ _ three.0 ∙ ap is_non_null right in
    let here : type_id e.scope.classes p.ty ≡ type_id f.scope.classes q.ty = left ∙ type_alike cs p.ty q.ty two.0 marks ∙ sym right in
    let capture : has_attribute (codes "Captured") p.attributes ≡ has_attribute (codes "Captured") q.attributes = agree_is _ _ two.1 in
    let rest = params_alike cs e f se sf ps qs one.1 three.1 in (
      ap (λ t. t ∷ map (λ (x : ParamTree). x.ty) (map (param e) ps)) here ∙ ap (λ ts. type_id f.scope.classes q.ty ∷ ts) rest.0,
      ap (λ t. t ∷ map (λ (x : ParamTree). x.captured) (map (param e) ps)) capture ∙ ap (λ ts. has_attribute (codes "Captured") q.attributes ∷ ts) rest.1,
    )

result_alike : (cs : List ClassTree) (r s : Option TypeTree) → same_result r s ≡ true → is_non_null_type (option_map (type_id cs) r) ≡ is_non_null_type (option_map (type_id cs) s) → option_map (type_id cs) r ≡ option_map (type_id cs) s
result_alike cs None None h g = refl
result_alike cs (Some t) (Some u) h g = ap Some (type_alike cs t u h g)
result_alike cs None (Some u) h g = absurd (false≢true h)
result_alike cs (Some t) None h g = absurd (false≢true h)

-- ---- words

open_not_static : (w : Option ModifierWord) → is_open_word w ≡ true → is_static_word w ≡ false
open_not_static None h = absurd (false≢true h)
open_not_static (Some word.Static) h = absurd (false≢true h)
open_not_static (Some word.Virtual) h = refl
open_not_static (Some word.Override) h = refl

override_not_static : (w : Option ModifierWord) → is_override_word w ≡ true → is_static_word w ≡ false
override_not_static None h = absurd (false≢true h)
override_not_static (Some word.Static) h = absurd (false≢true h)
override_not_static (Some word.Virtual) h = absurd (false≢true h)
override_not_static (Some word.Override) h = refl

-- ---- methods

pub record Overrides (m n : MethodTree) : Type 0 where
  pub override : is_override m ≡ true
  pub may : may_override m n ≡ true

fits_is : (m : MethodTree) (n : Declared MethodTree) → fits_inherited m (Some n) ≡ true → Overrides m n.member
fits_is m n h =
    ⊎_elim
    (λ yes. record { override = yes; may = rw yes at h })
    (λ no. absurd (false≢true (rw no at h)))
    (cases_Bool (is_override m))

-- each method of a class without faults fits what is inherited under its name
pub fits_at : (cs : List ClassTree) (k : ℕ) (ms : List MethodTree) (i : ℕ) (m : MethodTree) → override_faults cs k ms ≡ [] → slice_get ms i ≡ Some m → fits_inherited m (inherited_method cs k m.name.text) ≡ true
fits_at cs k [] i m h e = absurd (let z : ⊥ = cc in z)
fits_at cs k (x ∷ ms) zero m h e =
    let both = none_left (unless (fits_inherited x (inherited_method cs k x.name.text)) (fault rule.BadOverride x.name.place)) (override_faults cs k ms) h in
    let here : fits_inherited x (inherited_method cs k x.name.text) ≡ true =
    ⊎_elim
    (λ yes. yes)
    (λ no. absurd (let bad : fault rule.BadOverride x.name.place ≡ [] = rw no at both.0 in let z : ⊥ = cc in z))
    (cases_Bool (fits_inherited x (inherited_method cs k x.name.text))) in
    subst (λ (y : MethodTree). fits_inherited y (inherited_method cs k y.name.text) ≡ true) (same_Some _ _ e) here
fits_at cs k (x ∷ ms) (suc i) m h e = fits_at cs k ms i m (none_left (unless (fits_inherited x (inherited_method cs k x.name.text)) (fault rule.BadOverride x.name.place)) (override_faults cs k ms) h).1 e

pub overrides_of : (cs : List ClassTree) (k : ℕ) (ms : List MethodTree) (i : ℕ) (m : MethodTree) (n : Declared MethodTree) → override_faults cs k ms ≡ [] → slice_get ms i ≡ Some m → inherited_method cs k m.name.text ≡ Some n → Overrides m n.member
overrides_of cs k ms i m n h e is = fits_is m n (subst (λ o. fits_inherited m o ≡ true) is (fits_at cs k ms i m h e))

module _ (p : ProgramTree) (faultless : program_faults p ≡ []) where
  -- an override with the null marks of what it overrides has its heading, and neither is static
  pub override_heading : (k j : ℕ) (m n : MethodTree) → Overrides m n → agrees_with (method_body p.classes k m) (Some (method_body p.classes j n)) ≡ true →
      SameHeading (method_body p.classes k m) (method_body p.classes j n) × (is_static n ≡ false)
  override_heading k j m n o g =
      let b = method_body p.classes k m in
      let c = method_body p.classes j n in
      let h4 = and_parts (is_open n && same_params m.params n.params && same_result m.result n.result && same_marks m.attributes n.attributes) (only_ensures m.clauses) o.may in
      let h3 = and_parts (is_open n && same_params m.params n.params && same_result m.result n.result) (same_marks m.attributes n.attributes) h4.0 in
      let h2 = and_parts (is_open n && same_params m.params n.params) (same_result m.result n.result) h3.0 in
      let h1 = and_parts (is_open n) (same_params m.params n.params) h2.0 in
      let marks = and_parts (same_mark (codes "Pure") m.attributes n.attributes) (same_mark (codes "NoDefaultContract") m.attributes n.attributes) h3.1 in
      let null = and_parts (nulls.agree b.params c.params) (beq (is_non_null_type b.result) (is_non_null_type c.result)) g in
      let params = params_alike p.classes (method_env p.classes k m) (method_env p.classes j n) (env_of p faultless k (is_static m) m.params) (env_of p faultless j (is_static n) n.params) m.params n.params h1.1 null.0 in
      let below = override_not_static (word_of m.modifiers) o.override in
      let over = open_not_static (word_of n.modifiers) h1.0 in (
        record {
          types = params.0;
          captured = params.1;
          result = result_alike p.classes m.result n.result h2.1 (beq_is _ _ null.1);
          static = below ∙ sym over;
          pure = agree_is _ _ marks.0;
          undefaulted = agree_is _ _ marks.1;
        },
        over,
      )
