-- Each class of an elaborated program has one constructor.
use Rattle.std.proofs.Common.{◌≡◌, ◌≢◌, ℕ, zero, suc, ◌+◌, ◌*◌, ◌<◌, List, [], ◌∷◌, ◌++◌, length, Bool, true, false, Option, Some, None, refl, sym, ◌∙◌, ap, subst, arith, ⊎_elim}
use Rattle.std.specs.Prelude.{◌&&◌, ◌==◌, slice_get, is_some, filter_map, count_by, option_and_then, if◌then◌else◌}
use Rattle.std.proofs.lemmas.Option.{same_Some, slice_get_within}
use Rattle.std.proofs.lemmas.Bool.{cases_Bool, cases_eq, eq-eqb, ne_eqb, false≢true}
use Rattle.std.proofs.lemmas.List.Sums.{sum_by-cons, sum_by-append}
use Rattle.ss_core.specs.Tree as core
use Rattle.ss_core.specs.Chain.{is_declared, declared}
use Rattle.ss_core.proofs.Declared.{is_declared-declared, declared_place}
use Rattle.ss_ast.specs.Programs.{ClassTree, ProgramTree}
use Rattle.ss_tables.specs.Members.{ConstructorTree, constructors_in}
use Rattle.ss_typed.specs.Tree.{BodyTree, MembersTree, TypedTree}
use Rattle.ss_resolver_rules.specs.Programs.{constructor_body, written_constructor, members, resolved}
use Rattle.ss_expand_rules.specs.Program.{table, Origin, Constructor, Method, is_own, methods_from, bodies_of_class, bodies_from, bodies, same_origin}
use Rattle.ss_typed.specs.Lookups.{body_at, members_of}
use Rattle.ss_expand_rules.specs.Elaborated.{body_of}
use Rattle.ss_store_rules.specs.Typed.{is_constructor_of}
use Rattle.ss_expand_formed.specs.Laws.{core_of, HaveConstructors}
use Rattle.ss_expand_formed.proofs.Bodies.{IsMade, WrittenConstructor, ImplicitConstructor, WrittenMethod, Wrapper, made}
use Rattle.ss_expand_formed.proofs.Resolved.{entry_is, classes_length}
use Rattle.ss_expand_formed.proofs.Places.{source_of, members_at, constructor_at}
use Rattle.ss_expand_formed.proofs.Entries.{method_entry}
use Rattle.ss_expand_formed.proofs.Numbered.{IsOrigin, OfClass, OfMethod, origin_is, there}

-- ---- counting

count-cons : {X : Type 0} (test : X → Bool) (x : X) (xs : List X) → count_by test (x ∷ xs) ≡ (if test x then 1 else 0) + count_by test xs
count-cons test x xs = sum_by-cons (λ y. if test y then 1 else 0) x xs

count-append : {X : Type 0} (test : X → Bool) (xs ys : List X) → count_by test (xs ++ ys) ≡ count_by test xs + count_by test ys
count-append test xs ys = sum_by-append (λ y. if test y then 1 else 0) xs ys

-- of what elements become, as many pass as of the elements
count-filter_map : {X Y : Type 0} (f : X → Option Y) (test : Y → Bool) (was : X → Bool) (xs : List X) → ((n : ℕ) (x : X) → slice_get xs n ≡ Some x → (y : Y) × (f x ≡ Some y) × (test y ≡ was x)) → count_by test (filter_map f xs) ≡ count_by was xs
count-filter_map f test was [] all = refl
count-filter_map f test was (x ∷ xs) all =
    let r = all 0 x refl in
    let rest = count-filter_map f test was xs (λ n z h. all (suc n) z h) in
    rw r.1 (count-cons test r.0 (filter_map f xs) ∙ ap (λ b. (if b then 1 else 0) + count_by test (filter_map f xs)) r.2 ∙ ap (λ n. (if was x then 1 else 0) + n) rest ∙ sym (count-cons was x xs))

-- ---- one origin for each class

methods_count : (p : TypedTree) (t u j : ℕ) (es : List core.EntryTree) → count_by (same_origin (Constructor t)) (methods_from p u j es) ≡ 0
methods_count p t u j [] = refl
methods_count p t u j (e ∷ es) =
    ⊎_elim
    (λ yes. rw yes (count-cons (same_origin (Constructor t)) (Method u j) (methods_from p u (j + 1) es) ∙ (let r = methods_count p t u (j + 1) es in omega arith)))
    (λ other. rw other (methods_count p t u (j + 1) es))
    (cases_Bool (is_own u (body_at p e.body)))

class_count : (p : TypedTree) (t u : ℕ) → count_by (same_origin (Constructor t)) (bodies_of_class p u) ≡ (if t == u then 1 else 0)
class_count p t u =
    let r = methods_count p t u 0 (table p u) in
    let c = count-cons (same_origin (Constructor t)) (Constructor u) (methods_from p u 0 (table p u)) in
    let z : (if t == u then 1 else 0) + 0 ≡ (if t == u then 1 else 0) = omega arith in
    c ∙ ap (λ n. (if t == u then 1 else 0) + n) r ∙ z

none_below : (p : TypedTree) (t u : ℕ) (cs : List core.ClassTree) → t < u → count_by (same_origin (Constructor t)) (bodies_from p u cs) ≡ 0
none_below p t u [] l = refl
none_below p t u (c ∷ cs) l =
    let apart : t ≢ u = omega arith in
    let here : count_by (same_origin (Constructor t)) (bodies_of_class p u) ≡ 0 = class_count p t u ∙ rw (ne_eqb t u apart) refl in
    let rest = none_below p t (u + 2) cs (omega arith) in
    count-append (same_origin (Constructor t)) (bodies_of_class p u) (bodies_from p (u + 2) cs) ∙ omega arith

one_of_class : (p : TypedTree) (u : ℕ) (cs : List core.ClassTree) (i : ℕ) (c : core.ClassTree) → slice_get cs i ≡ Some c → count_by (same_origin (Constructor (u + 2 * i))) (bodies_from p u cs) ≡ 1
one_of_class p u [] i c h = absurd (let z : ⊥ = cc in z)
one_of_class p u (x ∷ cs) zero c h =
    let t = u + 2 * 0 in
    let same : t ≡ u = omega arith in
    let here : count_by (same_origin (Constructor t)) (bodies_of_class p u) ≡ 1 = class_count p t u ∙ rw (eq-eqb t u same) refl in
    let rest = none_below p t (u + 2) cs (omega arith) in
    count-append (same_origin (Constructor t)) (bodies_of_class p u) (bodies_from p (u + 2) cs) ∙ omega arith
one_of_class p u (x ∷ cs) (suc i) c h =
    let t = u + 2 * suc i in
    let apart : t ≢ u = omega arith in
    let here : count_by (same_origin (Constructor t)) (bodies_of_class p u) ≡ 0 = class_count p t u ∙ rw (ne_eqb t u apart) refl in
    let n : u + 2 + 2 * i ≡ t = omega arith in
    let rest : count_by (same_origin (Constructor t)) (bodies_from p (u + 2) cs) ≡ 1 = subst (λ k. count_by (same_origin (Constructor k)) (bodies_from p (u + 2) cs) ≡ 1) n (one_of_class p (u + 2) cs i c h) in
    count-append (same_origin (Constructor t)) (bodies_of_class p u) (bodies_from p (u + 2) cs) ∙ omega arith

-- ---- which bodies are constructors

eqb-swap : (a b : ℕ) → (a == b) ≡ (b == a)
eqb-swap a b =
    ⊎_elim
    (λ same. eq-eqb a b same ∙ sym (eq-eqb b a (sym same)))
    (λ other. ne_eqb a b other ∙ sym (ne_eqb b a (λ e. other (sym e))))
    (cases_eq a b)

module _ (p : ProgramTree) (t : ℕ) where
  -- the written constructor of a class is one, of that class
  written_is : (k : ℕ) (c : ClassTree) → slice_get p.classes k ≡ Some c → (ds : List ConstructorTree) → constructors_in c.members ≡ ds → (n : ℕ) (b : BodyTree) → written_constructor p.classes k ds ≡ Some n → body_at (resolved p) n ≡ Some b →
      (b.flags.ctor && b.class == t) ≡ (t == 4 + 2 * k)
  written_is k c h [] is n b w at = absurd (let z : ⊥ = cc in z)
  written_is k c h (d ∷ ds) is n b w at =
      let place = constructor_at p k c h d ds is in
      let same : b ≡ constructor_body p.classes k d = same_Some _ _ (sym at ∙ ap (body_at (resolved p)) (sym (same_Some _ _ w)) ∙ place) in
      ap (λ (x : BodyTree). x.flags.ctor && x.class == t) same ∙ eqb-swap (4 + 2 * k) t

  made_kind : (u : ℕ) (o : Origin) (y : core.BodyTree) → (c : core.ClassTree) → declared (resolved p).classes u ≡ Some c → o ≡ Constructor u → IsMade (resolved p) o y → is_constructor_of t y ≡ (t == u)
  made_kind u o y c d is (WrittenConstructor {t = v} {n = n} {b = b} {m = m} eo em en eb) =
      let s = source_of p u c d in
      let same : v ≡ u = let e : Constructor v ≡ Constructor u = sym eo ∙ is in cc in
      let mem : m ≡ members p.classes s.place s.tree = same_Some _ _ (sym em ∙ ap (members_of (resolved p)) (same ∙ s.number) ∙ members_at p s.place s.tree s.there) in
      let w : written_constructor p.classes s.place (constructors_in s.tree.members) ≡ Some n = ap (λ (x : MembersTree). x.constructor) (sym mem) ∙ en in
      written_is s.place s.tree s.there (constructors_in s.tree.members) refl n b w eb ∙ ap (λ k. t == k) (sym s.number)
  made_kind u o y c d is (ImplicitConstructor {t = v} eo ec em none) =
      let same : v ≡ u = let e : Constructor v ≡ Constructor u = sym eo ∙ is in cc in
      ap (λ k. k == t) same ∙ eqb-swap u t
  made_kind u o y c d is (WrittenMethod eo eb own) = absurd (let e : Method _ _ ≡ Constructor u = sym eo ∙ is in let z : ⊥ = cc in z)
  made_kind u o y c d is (Wrapper eo eb own em) = absurd (let e : Method _ _ ≡ Constructor u = sym eo ∙ is in let z : ⊥ = cc in z)

  -- a method isn't
  made_method : (u m : ℕ) (o : Origin) (y : core.BodyTree) → o ≡ Method u m → IsMade (resolved p) o y → is_constructor_of t y ≡ false
  made_method u m o y is (WrittenConstructor eo em en eb) = absurd (let e : Constructor _ ≡ Method u m = sym eo ∙ is in let z : ⊥ = cc in z)
  made_method u m o y is (ImplicitConstructor eo ec em none) = absurd (let e : Constructor _ ≡ Method u m = sym eo ∙ is in let z : ⊥ = cc in z)
  made_method u m o y is (WrittenMethod {t = v} {m = n} {b = b} eo eb own) =
      let e = entry_is (resolved p) (slice_get (table (resolved p) v) n) b eb in
      let x = method_entry p v n e.0 e.1 in
      let at : body_at (resolved p) e.0.body ≡ Some b = subst (λ (w : Option core.EntryTree). option_and_then (λ (z : core.EntryTree). body_at (resolved p) z.body) w ≡ Some b) e.1 eb in
      let same = same_Some _ _ (sym at ∙ x.is) in
      ap (λ (z : BodyTree). z.flags.ctor && z.class == t) same
  made_method u m o y is (Wrapper eo eb own em) = refl

  kind : (o : Origin) → IsOrigin (resolved p) o → (y : core.BodyTree) → IsMade (resolved p) o y → is_constructor_of t y ≡ same_origin (Constructor t) o
  kind (Constructor u) (OfClass {c = c} d) y m = made_kind u (Constructor u) y c d refl m
  kind (Method u n) (OfMethod d h own) y m = made_method u n (Method u n) y refl m

  pub each_kind : (n : ℕ) (o : Origin) → slice_get (bodies (resolved p)) n ≡ Some o → (y : core.BodyTree) × (body_of (resolved p) o ≡ Some y) × (is_constructor_of t y ≡ same_origin (Constructor t) o)
  each_kind n o h =
      let is = origin_is (resolved p) n o h in
      let y = there p o is in
      (y.0, y.1, kind o is y.0 (made (resolved p) o y.0 y.1))

-- ---- declared classes

some_at : {X : Type 0} (xs : List X) (k : ℕ) → k < length xs → (x : X) × (slice_get xs k ≡ Some x)
some_at [] k l = absurd (omega arith)
some_at (x ∷ xs) zero l = (x, refl)
some_at (x ∷ xs) (suc k) l = some_at xs k (omega arith)

pub place_of_declared : (cs : List core.ClassTree) (t : ℕ) → is_declared cs t ≡ true → (k : ℕ) × (t ≡ 4 + 2 * k) × (k < length cs)
place_of_declared cs t h = look (declared cs t) refl (sym (is_declared-declared cs t) ∙ h)
  where
    look : (o : Option core.ClassTree) → declared cs t ≡ o → is_some o ≡ true → (k : ℕ) × (t ≡ 4 + 2 * k) × (k < length cs)
    look None e s = absurd (false≢true s)
    look (Some c) e s = let at = declared_place cs t c e in (at.0, at.1, slice_get_within cs at.0 c at.2)

pub have_constructors : (p : ProgramTree) → HaveConstructors (core_of p)
have_constructors p t declared_there =
    let counted = count-filter_map (body_of (resolved p)) (is_constructor_of t) (same_origin (Constructor t)) (bodies (resolved p)) (each_kind p t) in
    let at = place_of_declared (core_of p).classes t declared_there in
    let l = at.2 in
    let size : length (core_of p).classes ≡ length (resolved p).classes = classes_length (resolved p) 4 (resolved p).classes in
    let c = some_at (resolved p).classes at.0 (omega arith) in
    counted ∙ ap (λ u. count_by (same_origin (Constructor u)) (bodies (resolved p))) at.1 ∙ one_of_class (resolved p) 4 (resolved p).classes at.0 c.0 c.1
