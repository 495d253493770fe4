-- Where the classes, members and bodies of a resolved program stand.
use Rattle.std.proofs.Common.{◌≡◌, ℕ, zero, suc, ◌+◌, ◌*◌, ◌<◌, List, [], ◌∷◌, ◌++◌, length, map, take, true, Some, refl, sym, ◌∙◌, ap, arith, length-append}
use Rattle.std.specs.Prelude.{slice_get, option_map, option_and_then, sum_by}
use Rattle.std.specs.List.{list_any}
use Rattle.std.specs.Str.{bytes_eq}
use Rattle.std.proofs.lemmas.Option.{same_Some, slice_get_within, slice_get-map}
use Rattle.std.proofs.lemmas.List.{length-map}
use Rattle.std.proofs.lemmas.List.Sums.{sum_by-cons}
use Rattle.ss_core.specs.Tree as core
use Rattle.ss_core.specs.Chain.{declared}
use Rattle.ss_core.proofs.Declared.{declared_at, declared_place}
use Rattle.ss_ast.specs.Programs.{MemberTree, ClassTree, ProgramTree}
use Rattle.ss_tables.specs.Members.{MethodTree, ConstructorTree, methods_in, constructors_in}
use Rattle.ss_tables.specs.Classes.{members_in}
use Rattle.ss_resolver_names_rules.specs.Faults.{is_listed}
use Rattle.ss_resolver_rules.specs.Numbers.{body_count, constructor_id, method_place, method_id, method_names}
use Rattle.ss_resolver_rules.specs.Programs.{constructor_body, method_body, bodies_of, bodies_from, each, class, members, resolved}
use Rattle.ss_typed.specs.Lookups.{class_place, body_at, members_of}
use Rattle.ss_expand_formed.proofs.Searching.{at_front, at_back, place_found, any-map}

-- ---- classes and members

pub each_at : {A : Type 0} (f : ℕ → ClassTree → A) (j : ℕ) (cs : List ClassTree) (i : ℕ) (c : ClassTree) → slice_get cs i ≡ Some c → slice_get (each f j cs) i ≡ Some (f (j + i) c)
each_at f j [] i c h = absurd (let z : ⊥ = cc in z)
each_at f j (x ∷ cs) zero c h = let n : j + 0 ≡ j = omega arith in rw n (ap (λ y. Some (f j y)) (same_Some _ _ h))
each_at f j (x ∷ cs) (suc i) c h = let n : j + suc i ≡ j + 1 + i = omega arith in rw n (each_at f (j + 1) cs i c h)

pub each_is : {A : Type 0} (f : ℕ → ClassTree → A) (j : ℕ) (cs : List ClassTree) (i : ℕ) (y : A) → slice_get (each f j cs) i ≡ Some y → (c : ClassTree) × (slice_get cs i ≡ Some c) × (y ≡ f (j + i) c)
each_is f j [] i y h = absurd (let z : ⊥ = cc in z)
each_is f j (x ∷ cs) zero y h = let n : j + 0 ≡ j = omega arith in (x, refl, rw n (sym (same_Some _ _ h)))
each_is f j (x ∷ cs) (suc i) y h = let n : j + suc i ≡ j + 1 + i = omega arith in let r = each_is f (j + 1) cs i y h in (r.0, r.1, rw n r.2)

module _ (p : ProgramTree) (k : ℕ) (c : ClassTree) (there : slice_get p.classes k ≡ Some c) where
  from_zero : 0 + k ≡ k
  from_zero = omega arith

  pub class_at : declared (resolved p).classes (4 + 2 * k) ≡ Some (class p.classes k c)
  class_at = declared_at (resolved p).classes k ∙ each_at (class p.classes) 0 p.classes k c there ∙ ap (λ n. Some (class p.classes n c)) from_zero

  pub members_at : members_of (resolved p) (4 + 2 * k) ≡ Some (members p.classes k c)
  members_at =
      let place : class_place (4 + 2 * k) ≡ k = omega arith in
      ap (option_and_then (λ (x : core.ClassTree). slice_get (resolved p).members (class_place (4 + 2 * k)))) class_at
      ∙ ap (slice_get (resolved p).members) place
      ∙ each_at (members p.classes) 0 p.classes k c there
      ∙ ap (λ n. Some (members p.classes n c)) from_zero

-- a declared class is one of the source
pub record IsSource (p : ProgramTree) (t : ℕ) (c : core.ClassTree) : Type 0 where
  pub place : ℕ
  pub tree : ClassTree
  pub number : t ≡ 4 + 2 * place
  pub there : slice_get p.classes place ≡ Some tree
  pub is : c ≡ class p.classes place tree

pub source_of : (p : ProgramTree) (t : ℕ) (c : core.ClassTree) → declared (resolved p).classes t ≡ Some c → IsSource p t c
source_of p t c h =
    let at = declared_place (resolved p).classes t c h in
    let r = each_is (class p.classes) 0 p.classes at.0 c at.2 in
    let z : 0 + at.0 ≡ at.0 = omega arith in
    record { place = at.0; tree = r.0; number = at.1; there = r.1; is = r.2 ∙ ap (λ n. class p.classes n r.0) z }

-- ---- bodies

bodies_count : (all : List ClassTree) (k : ℕ) (c : ClassTree) → length (bodies_of all k c) ≡ body_count c
bodies_count all k c =
    let one = length-map (constructors_in c.members) (constructor_body all k) in
    let two = length-map (methods_in c.members) (method_body all k) in
    let both = length-append (map (constructor_body all k) (constructors_in c.members)) (map (method_body all k) (methods_in c.members)) in
    omega arith

bodies_at : (all : List ClassTree) (j : ℕ) (cs : List ClassTree) (i : ℕ) (c : ClassTree) → slice_get cs i ≡ Some c → (n : ℕ) → n < body_count c →
    slice_get (bodies_from all j cs) (sum_by body_count (take i cs) + n) ≡ slice_get (bodies_of all (j + i) c) n
bodies_at all j [] i c h n l = absurd (let z : ⊥ = cc in z)
bodies_at all j (x ∷ cs) zero c h n l =
    let same : x ≡ c = same_Some _ _ h in
    let e : 0 + n ≡ n = omega arith in
    let m : j + 0 ≡ j = omega arith in
    let count = bodies_count all j x in
    let size : body_count x ≡ body_count c = ap body_count same in
    rw (e, m) (at_front (bodies_of all j x) (bodies_from all (j + 1) cs) n (omega arith) ∙ ap (λ y. slice_get (bodies_of all j y) n) same)
bodies_at all j (x ∷ cs) (suc i) c h n l =
    let m : j + suc i ≡ j + 1 + i = omega arith in
    let count = bodies_count all j x in
    let sum = sum_by-cons body_count x (take i cs) in
    let e : sum_by body_count (x ∷ take i cs) + n ≡ length (bodies_of all j x) + (sum_by body_count (take i cs) + n) = omega arith in
    rw (e, m) (at_back (bodies_of all j x) (bodies_from all (j + 1) cs) (sum_by body_count (take i cs) + n) ∙ bodies_at all (j + 1) cs i c h n l)

module _ (p : ProgramTree) (k : ℕ) (c : ClassTree) (there : slice_get p.classes k ≡ Some c) where
  body_in_class : (n : ℕ) → n < body_count c → body_at (resolved p) (constructor_id p.classes k + n) ≡ slice_get (bodies_of p.classes k c) n
  body_in_class n l = let z : 0 + k ≡ k = omega arith in bodies_at p.classes 0 p.classes k c there n l ∙ ap (λ i. slice_get (bodies_of p.classes i c) n) z

  pub constructor_at : (d : ConstructorTree) (ds : List ConstructorTree) → constructors_in c.members ≡ d ∷ ds → body_at (resolved p) (constructor_id p.classes k) ≡ Some (constructor_body p.classes k d)
  constructor_at d ds is =
      let size = ap length is in
      let l : 0 < body_count c = omega arith in
      let e : constructor_id p.classes k + 0 ≡ constructor_id p.classes k = omega arith in
      ap (body_at (resolved p)) (sym e) ∙ body_in_class 0 l ∙ ap (λ (xs : List ConstructorTree). slice_get (map (constructor_body p.classes k) xs ++ map (method_body p.classes k) (methods_in c.members)) 0) is

  pub method_at_place : (q : ℕ) (m : MethodTree) → slice_get (methods_in c.members) q ≡ Some m → body_at (resolved p) (constructor_id p.classes k + (length (constructors_in c.members) + q)) ≡ Some (method_body p.classes k m)
  method_at_place q m is =
      let ds = map (constructor_body p.classes k) (constructors_in c.members) in
      let l = slice_get_within (methods_in c.members) q m is in
      let size : length ds ≡ length (constructors_in c.members) = length-map (constructors_in c.members) (constructor_body p.classes k) in
      body_in_class (length (constructors_in c.members) + q) (omega arith)
      ∙ ap (λ n. slice_get (bodies_of p.classes k c) (n + q)) (sym size)
      ∙ at_back ds (map (method_body p.classes k) (methods_in c.members)) q
      ∙ slice_get-map (method_body p.classes k) (methods_in c.members) q
      ∙ ap (option_map (method_body p.classes k)) is

  -- the method of this name that the class declares
  pub named_method : (n : List ℕ) → list_any (λ (m : MethodTree). bytes_eq n m.name.text) (methods_in c.members) ≡ true →
      (m : MethodTree) × (slice_get (methods_in c.members) (method_place c.members n) ≡ Some m) × (bytes_eq n m.name.text ≡ true) × (body_at (resolved p) (method_id p.classes k n) ≡ Some (method_body p.classes k m))
  named_method n h =
      let f = place_found (λ (m : MethodTree). bytes_eq n m.name.text) (methods_in c.members) h in
      let at = method_at_place (method_place c.members n) f.it f.there in
      (f.it, f.there, f.passes, ap (λ ms. body_at (resolved p) (constructor_id p.classes k + (length (constructors_in ms) + method_place ms n))) (ap members_in there) ∙ at)

-- ---- entries of tables

-- what an entry of a table names
pub record IsMethod (p : ProgramTree) (e : core.EntryTree) : Type 0 where
  pub class : ℕ
  pub tree : ClassTree
  pub method : MethodTree
  pub there : slice_get p.classes class ≡ Some tree
  pub named : bytes_eq e.name method.name.text ≡ true
  pub is : body_at (resolved p) e.body ≡ Some (method_body p.classes class method)

-- the names of the methods of a class
pub listed_methods : (ms : List MemberTree) (n : List ℕ) → is_listed (method_names ms) n ≡ list_any (λ (m : MethodTree). bytes_eq n m.name.text) (methods_in ms)
listed_methods ms n = any-map (bytes_eq n) (λ (m : MethodTree). m.name.text) (methods_in ms)
