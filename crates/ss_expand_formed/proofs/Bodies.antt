-- Where the bodies of an elaborated program come from.
use Rattle.std.proofs.Common.{◌≡◌, ℕ, zero, suc, List, [], ◌∷◌, Bool, true, false, Option, Some, None, refl, ◌∙◌, subst, ap}
use Rattle.std.specs.Prelude.{slice_get, filter_map, option_map, option_and_then, if◌then◌else◌}
use Rattle.std.specs.List.{cons_option}
use Rattle.std.proofs.lemmas.Option.{same_Some}
use Rattle.ss_core.specs.Tree as core
use Rattle.ss_core.specs.Chain.{declared}
use Rattle.ss_typed.specs.Tree.{BodyTree, MembersTree, TypedTree}
use Rattle.ss_expand_rules.specs.Program.{method_at, Origin, Constructor, Method, is_declared_by, bodies}
use Rattle.ss_typed.specs.Lookups.{body_at, constructor_in, constructor_of, members_of}
use Rattle.ss_expand_rules.specs.Constructors.{implicit_constructor}
use Rattle.ss_expand_rules.specs.Contracts.{declarations}
use Rattle.ss_expand_rules.specs.Bodies.{written_body, wrapper_body}
use Rattle.ss_expand_rules.specs.Elaborated.{implicit_in, or_implicit, constructor_alone, wrapper_at, method_body, body_of, elaborated}

-- what stands in a list without some elements is what one of them becomes
pub record FromList {A B : Type 0} (f : A → Option B) (xs : List A) (y : B) : Type 0 where
  pub place : ℕ
  pub was : A
  pub there : slice_get xs place ≡ Some was
  pub becomes : f was ≡ Some y

from_after : {A B : Type 0} (f : A → Option B) (x : A) (xs : List A) (y : B) → FromList f xs y → FromList f (x ∷ xs) y
from_after f x xs y w = record { place = suc w.place; was = w.was; there = w.there; becomes = w.becomes }

from_front : {A B : Type 0} (f : A → Option B) (x : A) (xs : List A) (y : B) → ((n : ℕ) → slice_get (filter_map f xs) n ≡ Some y → FromList f xs y) →
    (o : Option B) → f x ≡ o → (n : ℕ) → slice_get (cons_option o (filter_map f xs)) n ≡ Some y → FromList f (x ∷ xs) y
from_front f x xs y rest None e n h = from_after f x xs y (rest n h)
from_front f x xs y rest (Some z) e zero h = record { place = 0; was = x; there = refl; becomes = e ∙ h }
from_front f x xs y rest (Some z) e (suc n) h = from_after f x xs y (rest n h)

pub of_filter_map : {A B : Type 0} (f : A → Option B) (xs : List A) (n : ℕ) (y : B) → slice_get (filter_map f xs) n ≡ Some y → FromList f xs y
of_filter_map f [] n y h = absurd (let x : ⊥ = cc in x)
of_filter_map f (x ∷ xs) n y h = from_front f x xs y (λ k e. of_filter_map f xs k y e) (f x) refl n h

-- a body of the elaboration is a written one, an implicit constructor or a wrapper
pub data IsMade (p : TypedTree) (o : Origin) : core.BodyTree → Type 0 where
  WrittenConstructor : {t n : ℕ} {b : BodyTree} {m : MembersTree} → o ≡ Constructor t → members_of p t ≡ Some m → m.constructor ≡ Some n → body_at p n ≡ Some b → IsMade p o (written_body p b (b ∷ []))
  ImplicitConstructor : {t : ℕ} {c : core.ClassTree} {m : MembersTree} → o ≡ Constructor t → declared p.classes t ≡ Some c → members_of p t ≡ Some m → constructor_of p t ≡ None → IsMade p o (constructor_alone p (implicit_constructor t c.name m.place))
  WrittenMethod : {t m : ℕ} {b : BodyTree} → o ≡ Method t m → method_at p t m ≡ Some b → is_declared_by t (Some b) ≡ true → IsMade p o (written_body p b (declarations p t m))
  Wrapper : {t m : ℕ} {b : BodyTree} {ms : MembersTree} → o ≡ Method t m → method_at p t m ≡ Some b → is_declared_by t (Some b) ≡ false → members_of p t ≡ Some ms → IsMade p o (wrapper_body p ms.place t m b (declarations p t m))

module _ (p : TypedTree) (o : Origin) (y : core.BodyTree) where
  -- ---- constructors

  implicit_made : (t : ℕ) → o ≡ Constructor t → constructor_of p t ≡ None → (c : Option core.ClassTree) → declared p.classes t ≡ c → (m : Option MembersTree) → members_of p t ≡ m →
      option_map (constructor_alone p) (implicit_in t c m) ≡ Some y → IsMade p o y
  implicit_made t is none None ec m em h = absurd (let x : ⊥ = cc in x)
  implicit_made t is none (Some c) ec None em h = absurd (let x : ⊥ = cc in x)
  implicit_made t is none (Some c) ec (Some m) em h = subst (IsMade p o) (same_Some _ _ h) (ImplicitConstructor is ec em none)

  written_made : (t : ℕ) → o ≡ Constructor t → (m : MembersTree) → members_of p t ≡ Some m → (n : Option ℕ) → m.constructor ≡ n → (b : Option BodyTree) → option_and_then (body_at p) n ≡ b →
      option_map (constructor_alone p) (or_implicit p t b) ≡ Some y → IsMade p o y
  written_made t is m em n en None eb h = implicit_made t is (ap (constructor_in p) em ∙ ap (option_and_then (body_at p)) en ∙ eb) (declared p.classes t) refl (members_of p t) refl h
  written_made t is m em None en (Some b) eb h = absurd (let x : ⊥ = cc in x)
  written_made t is m em (Some n) en (Some b) eb h = subst (IsMade p o) (same_Some _ _ h) (WrittenConstructor is em en eb)

  constructor_made : (t : ℕ) → o ≡ Constructor t → (m : Option MembersTree) → members_of p t ≡ m → option_map (constructor_alone p) (or_implicit p t (constructor_in p m)) ≡ Some y → IsMade p o y
  constructor_made t is None em h = implicit_made t is (ap (constructor_in p) em) (declared p.classes t) refl (members_of p t) refl h
  constructor_made t is (Some m) em h = written_made t is m em m.constructor refl (option_and_then (body_at p) m.constructor) refl h

  -- ---- methods

  wrapper_made : (t m : ℕ) → o ≡ Method t m → (b : BodyTree) → method_at p t m ≡ Some b → is_declared_by t (Some b) ≡ false → (ms : Option MembersTree) → members_of p t ≡ ms →
      wrapper_at p t m b ms ≡ Some y → IsMade p o y
  wrapper_made t m is b eb other None em h = absurd (let x : ⊥ = cc in x)
  wrapper_made t m is b eb other (Some ms) em h = subst (IsMade p o) (same_Some _ _ h) (Wrapper is eb other em)

  method_made_if : (t m : ℕ) → o ≡ Method t m → (b : BodyTree) → method_at p t m ≡ Some b → (own : Bool) → is_declared_by t (Some b) ≡ own →
      (if own then Some (written_body p b (declarations p t m)) else wrapper_at p t m b (members_of p t)) ≡ Some y → IsMade p o y
  method_made_if t m is b eb true own h = subst (IsMade p o) (same_Some _ _ h) (WrittenMethod is eb own)
  method_made_if t m is b eb false own h = wrapper_made t m is b eb own (members_of p t) refl h

  method_made : (t m : ℕ) → o ≡ Method t m → (b : Option BodyTree) → method_at p t m ≡ b → option_and_then (method_body p t m) b ≡ Some y → IsMade p o y
  method_made t m is None eb h = absurd (let x : ⊥ = cc in x)
  method_made t m is (Some b) eb h = method_made_if t m is b eb (is_declared_by t (Some b)) refl h

  made_as : (q : Origin) → o ≡ q → body_of p q ≡ Some y → IsMade p o y
  made_as (Constructor t) is h = constructor_made t is (members_of p t) refl h
  made_as (Method t m) is h = method_made t m is (method_at p t m) refl h

  pub made : body_of p o ≡ Some y → IsMade p o y
  made h = made_as o refl h

-- each body of the elaboration is one of these, of an origin that the program has
pub record HasOrigin (p : TypedTree) (b : core.BodyTree) : Type 0 where
  pub place : ℕ
  pub origin : Origin
  pub there : slice_get (bodies p) place ≡ Some origin
  pub made : IsMade p origin b

pub origin_of : (p : TypedTree) (n : ℕ) (b : core.BodyTree) → slice_get (elaborated p).bodies n ≡ Some b → HasOrigin p b
origin_of p n b h =
    let w = of_filter_map (body_of p) (bodies p) n b h in
    record { place = w.place; origin = w.was; there = w.there; made = made p w.was b w.becomes }
