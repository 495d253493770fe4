-- The constructor that `base(..)` enters.
use Rattle.std.proofs.Common.{◌≡◌, ℕ, zero, suc, ◌≤◌, List, [], ◌∷◌, Bool, true, ◌&&◌, ◌+◌, Option, Some, None, refl, sym, ◌∙◌, ap, subst, arith, ⊎_elim}
use Rattle.std.specs.Prelude.{slice_get, if◌then◌else◌, find, count_by}
use Rattle.std.proofs.lemmas.List.Sums.{sum_by-cons}
use Rattle.std.proofs.lemmas.Bool.{false≢true, and_parts, cases_Bool, eqb-true}
use Rattle.ss_core.specs.declared.names.Place.{Place}
use Rattle.ss_core.specs.Tree.{ExprTree, BaseConstructor, CallStmt, BodyTree, CoreTree}
use Rattle.ss_core.specs.Chain.{above}
use Rattle.ss_store_rules.specs.Typed.{is_constructor_of, body_at, constructor_of, where_body, callee_of, is_call_of, is_receiver, is_typed}
use Rattle.ss_store_rules.specs.Formed.{IsFormed}

count_more : {X : Type 0} (p : X → Bool) (x : X) (xs : List X) → count_by p (x ∷ xs) ≡ (if p x then 1 else 0) + count_by p xs
count_more p x xs = sum_by-cons (λ y. if p y then 1 else 0) x xs

counted : {X : Type 0} (p : X → Bool) (xs : List X) (n : ℕ) (y : X) → slice_get xs n ≡ Some y → p y ≡ true → 1 ≤ count_by p xs
counted p [] n y e h = absurd (let no : ⊥ = cc in no)
counted p (x ∷ xs) zero y e h = let same : x ≡ y = cc in let is : p x ≡ true = subst (λ z. p z ≡ true) (sym same) h in let n : count_by p (x ∷ xs) ≡ 1 + count_by p xs = count_more p x xs ∙ ap (λ b. (if b then 1 else 0) + count_by p xs) is in omega (arith, n)
counted p (x ∷ xs) (suc n) y e h = let r = counted p xs n y e h in let m = count_more p x xs in omega (arith, r, m)

-- the first of one is the one
found : {X : Type 0} (p : X → Bool) (xs : List X) (n : ℕ) (y : X) → count_by p xs ≡ 1 → slice_get xs n ≡ Some y → p y ≡ true → find p xs ≡ Some y
found p [] n y one e h = absurd (let no : ⊥ = cc in no)
found p (x ∷ xs) zero y one e h = let same : x ≡ y = cc in let is : p x ≡ true = subst (λ z. p z ≡ true) (sym same) h in rw is (ap (λ z. Some z) same)
found p (x ∷ xs) (suc n) y one e h = ⊎_elim
    (λ yes. absurd (let r = counted p xs n y e h in let m : 1 + count_by p xs ≡ 1 = sym (ap (λ b. (if b then 1 else 0) + count_by p xs) yes) ∙ sym (count_more p x xs) ∙ one in omega (arith, r, m)))
    (λ other. let m : 0 + count_by p xs ≡ 1 = sym (ap (λ b. (if b then 1 else 0) + count_by p xs) other) ∙ sym (count_more p x xs) ∙ one in rw other (found p xs n y (omega (arith, m)) e h))
    (cases_Bool (p x))

-- The body of the number n is the constructor of the class above that of b.
pub record IsBase (c : CoreTree) (b : BodyTree) (n : ℕ) : Type 0 where
  pub body : BodyTree
  pub at : body_at c n ≡ Some body
  pub is_callee : callee_of c b (BaseConstructor n) ≡ Some body
  pub class : body.class ≡ above c.classes b.class
  pub ctor : body.flags.ctor ≡ true
  pub is_the : constructor_of c (above c.classes b.class) ≡ Some body

call_callee : (c : CoreTree) (b : BodyTree) (x : Option ℕ) (es : List ExprTree) (o : Option BodyTree) → is_call_of c.classes b x es o ≡ true → (k : BodyTree) × (o ≡ Some k)
call_callee c b x es None h = absurd (false≢true h)
call_callee c b x es (Some k) h = (k, refl)

pub where_some : (test : BodyTree → Bool) (o : Option BodyTree) (k : BodyTree) → where_body test o ≡ Some k → (o ≡ Some k) × (test k ≡ true)
where_some test None k h = absurd (let no : ⊥ = cc in no)
where_some test (Some b) k h = ⊎_elim
    (λ yes. let is : Some b ≡ Some k = rw yes at h in (is, (let same : b ≡ k = cc in subst (λ z. test z ≡ true) same yes)))
    (λ other. absurd (let is : None ≡ Some k = rw other at h in let no : ⊥ = cc in no))
    (cases_Bool (test b))

pub base_of : (c : CoreTree) → IsFormed c → (b : BodyTree) (p : Place) (x : Option ℕ) (n : ℕ) (es : List ExprTree) → is_typed c b (CallStmt p x (BaseConstructor n) es) ≡ true → IsBase c b n
base_of c formed b p x n es typed =
    let t = and_parts (is_receiver c.classes b (BaseConstructor n)) (is_call_of c.classes b x es (callee_of c b (BaseConstructor n))) typed in
    let k = call_callee c b x es (callee_of c b (BaseConstructor n)) t.1 in
    let w = where_some (λ (z : BodyTree). is_constructor_of (above c.classes b.class) z && b.flags.ctor) (body_at c n) k.0 k.1 in
    let q = and_parts (is_constructor_of (above c.classes b.class) k.0) b.flags.ctor w.1 in
    let r = and_parts k.0.flags.ctor _ q.0 in
    let class = eqb-true k.0.class (above c.classes b.class) r.1 in
    let fb = formed.bodies n k.0 w.0 in
    record {
      body = k.0;
      at = w.0;
      is_callee = k.1;
      class = class;
      ctor = r.0;
      is_the = found (is_constructor_of (above c.classes b.class)) c.bodies n k.0 (subst (λ t. count_by (is_constructor_of t) c.bodies ≡ 1) class (formed.constructors k.0.class fb.class)) w.0 q.0;
    }
