-- The bodies and classes of a resolved program.
use Rattle.std.proofs.Common.{◌≡◌, ℕ, zero, suc, ◌+◌, ◌*◌, ◌<◌, List, [], ◌∷◌, length, map, Bool, true, Option, Some, None, refl, sym, ◌∙◌, ap, subst, arith}
use Rattle.std.specs.Prelude.{slice_get, option_and_then, is_some}
use Rattle.std.specs.List.{list_all}
use Rattle.std.proofs.lemmas.List.Folds.{list_all-append}
use Rattle.std.proofs.lemmas.Option.{slice_get_within}
use Rattle.ss_core.specs.Tree as core
use Rattle.ss_core.specs.Chain.{is_declared, declared}
use Rattle.ss_core.proofs.Declared.{declared_at, is_declared-declared, declared_place}
use Rattle.ss_ast.specs.Programs.{ClassTree}
use Rattle.ss_tables.specs.Members.{MethodTree, ConstructorTree, methods_in, constructors_in}
use Rattle.ss_typed.specs.Tree.{BodyTree, TypedTree}
use Rattle.ss_resolver_rules.specs.Programs.{constructor_body, method_body, bodies_of, bodies_from, each}
use Rattle.ss_expand_rules.specs.Program.{table_of, table, method_at}
use Rattle.ss_typed.specs.Lookups.{body_at}
use Rattle.ss_expand_rules.specs.Elaborated.{classes_from, elaborated}

pub method_is : (p : TypedTree) (e : Option core.EntryTree) (b : BodyTree) → option_and_then (λ (x : core.EntryTree). body_at p x.body) e ≡ Some b → (n : ℕ) × (body_at p n ≡ Some b)
method_is p None b h = absurd (let x : ⊥ = cc in x)
method_is p (Some e) b h = (e.body, h)

-- ---- what holds of each written body

module _ (test : BodyTree → Bool) (all : List ClassTree) where
  constructors_pass : (k : ℕ) → ((d : ConstructorTree) → test (constructor_body all k d) ≡ true) → (ds : List ConstructorTree) → list_all test (map (constructor_body all k) ds) ≡ true
  constructors_pass k h [] = refl
  constructors_pass k h (d ∷ ds) = rw (h d) (constructors_pass k h ds)

  methods_pass : (k : ℕ) → ((m : MethodTree) → test (method_body all k m) ≡ true) → (ms : List MethodTree) → list_all test (map (method_body all k) ms) ≡ true
  methods_pass k h [] = refl
  methods_pass k h (m ∷ ms) = rw (h m) (methods_pass k h ms)

  pub bodies_pass : ((k : ℕ) (d : ConstructorTree) → k < length all → test (constructor_body all k d) ≡ true) → ((k : ℕ) (m : MethodTree) → k < length all → test (method_body all k m) ≡ true) →
      (k : ℕ) (cs : List ClassTree) → k + length cs ≡ length all → list_all test (bodies_from all k cs) ≡ true
  bodies_pass h g k [] n = refl
  bodies_pass h g k (c ∷ cs) n =
      let l : k < length all = omega arith in
      list_all-append test (bodies_of all k c) (bodies_from all (k + 1) cs)
      ∙ rw (
        list_all-append test (map (constructor_body all k) (constructors_in c.members)) (map (method_body all k) (methods_in c.members)),
        constructors_pass k (λ d. h k d l) (constructors_in c.members),
        methods_pass k (λ m. g k m l) (methods_in c.members),
        bodies_pass h g (k + 1) cs (omega arith),
      ) refl

-- ---- declared classes

pub each_length : {A : Type 0} (f : ℕ → ClassTree → A) (k : ℕ) (cs : List ClassTree) → length (each f k cs) ≡ length cs
each_length f k [] = refl
each_length f k (c ∷ cs) = ap suc (each_length f (k + 1) cs)

pub classes_length : (p : TypedTree) (t : ℕ) (cs : List core.ClassTree) → length (classes_from p t cs) ≡ length cs
classes_length p t [] = refl
classes_length p t (c ∷ cs) = ap suc (classes_length p (t + 2) cs)

some_within : {X : Type 0} (xs : List X) (k : ℕ) → k < length xs → is_some (slice_get xs k) ≡ true
some_within [] k l = absurd (omega arith)
some_within (x ∷ xs) zero l = refl
some_within (x ∷ xs) (suc k) l = some_within xs k (omega arith)

pub number_declared : (cs : List core.ClassTree) (k : ℕ) → k < length cs → is_declared cs (4 + 2 * k) ≡ true
number_declared cs k l = is_declared-declared cs (4 + 2 * k) ∙ ap is_some (declared_at cs k) ∙ some_within cs k l

-- what the resolved program declares the elaboration does
pub stays_declared : (p : TypedTree) (t : ℕ) (c : core.ClassTree) → declared p.classes t ≡ Some c → is_declared (elaborated p).classes t ≡ true
stays_declared p t c h =
    let at = declared_place p.classes t c h in
    let l = slice_get_within p.classes at.0 c at.2 in
    let n = classes_length p 4 p.classes in
    subst (λ u. is_declared (elaborated p).classes u ≡ true) (sym at.1) (number_declared (elaborated p).classes at.0 (omega arith))

-- a class with a method is declared
table_declared : (o : Option core.ClassTree) (m : ℕ) (e : core.EntryTree) → slice_get (table_of o) m ≡ Some e → (c : core.ClassTree) × (o ≡ Some c)
table_declared None m e h = absurd (let x : ⊥ = cc in x)
table_declared (Some c) m e h = (c, refl)

pub entry_is : (p : TypedTree) (e : Option core.EntryTree) (b : BodyTree) → option_and_then (λ (x : core.EntryTree). body_at p x.body) e ≡ Some b → (x : core.EntryTree) × (e ≡ Some x)
entry_is p None b h = absurd (let x : ⊥ = cc in x)
entry_is p (Some x) b h = (x, refl)

pub method_declared : (p : TypedTree) (t m : ℕ) (b : BodyTree) → method_at p t m ≡ Some b → (c : core.ClassTree) × (declared p.classes t ≡ Some c)
method_declared p t m b h =
    let e = entry_is p (slice_get (table p t) m) b h in
    table_declared (declared p.classes t) m e.0 e.1
