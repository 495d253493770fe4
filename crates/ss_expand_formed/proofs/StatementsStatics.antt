-- What the calls of elaborated code name: static methods.
use Rattle.std.proofs.Common.{◌≡◌, ℕ, zero, suc, ◌+◌, List, [], ◌∷◌, ◌++◌, length, map, take, true, false, Option, Some, None, refl, sym, ◌∙◌, ap, subst, arith, inl, inr, ◌⊎◌, ⊎_elim, length-append}
use Rattle.std.specs.Prelude.{slice_get, option_map, sum_by, if◌then◌else◌}
use Rattle.std.specs.Str.{bytes_eq}
use Rattle.std.proofs.lemmas.Slice.Eq.{bytes_eq-Decides}
use Rattle.std.proofs.lemmas.Option.{slice_get-map}
use Rattle.std.proofs.lemmas.Bool.{false≢true}
use Rattle.std.proofs.lemmas.List.{length-map}
use Rattle.std.proofs.lemmas.List.Sums.{sum_by-cons}
use Rattle.ss_core.specs.declared.names.Ty.{Ty}
use Rattle.ss_core.specs.Tree as core
use Rattle.ss_core.specs.Tree.{Static}
use Rattle.ss_ast.specs.Programs.{ClassTree, ProgramTree}
use Rattle.ss_tables.specs.Members.{MethodTree, methods_in, constructors_in}
use Rattle.ss_tables.specs.Classes.{members_in}
use Rattle.ss_typed.specs.Tree.{BodyTree, TypedTree}
use Rattle.ss_resolver_names_rules.specs.Programs.{program_faults}
use Rattle.ss_resolver_rules.specs.Numbers.{body_count, constructor_id, method_place, method_id, method_names}
use Rattle.ss_resolver_rules.specs.Programs.{constructor_body, method_body, bodies_of, bodies_from, resolved}
use Rattle.ss_expand_rules.specs.Program.{number_of_written}
use Rattle.ss_typed.specs.Lookups.{body_at, param_types_in}
use Rattle.ss_expand_rules.specs.Bodies.{written_body}
use Rattle.ss_store_rules.specs.Typed.{where_body, callee_of}
use Rattle.ss_expand_formed.specs.Laws.{core_of}
use Rattle.ss_expand_formed.proofs.Searching.{any_at}
use Rattle.ss_expand_formed.proofs.Places.{named_method}
use Rattle.ss_expand_formed.proofs.Entries.{map_from}
use Rattle.ss_expand_formed.proofs.MainBody.{class_faultless, class_once, mains_one, numbered_body}
use Rattle.ss_expand_formed.proofs.Apart.{AreApart, members_apart}
use Rattle.ss_expand_formed.proofs.Numbers.{params_types}
use Rattle.ss_expand_formed.proofs.Fit.{IsCallee}
use Rattle.ss_expand_formed.proofs.Values.{Takes}
use Rattle.ss_expand_formed.proofs.StatementsTables.{not_null}

-- ---- where a body of a resolved program stands

pub append_place : {X : Type 0} (xs ys : List X) (n : ℕ) (x : X) → slice_get (xs ++ ys) n ≡ Some x → (slice_get xs n ≡ Some x) ⊎ ((i : ℕ) × (n ≡ length xs + i) × (slice_get ys i ≡ Some x))
append_place [] ys n x h = inr (n, (let e : n ≡ 0 + n = omega arith in e), h)
append_place (z ∷ xs) ys zero x h = inl h
append_place (z ∷ xs) ys (suc n) x h = ⊎_elim (λ l. inl l) (λ r. let at = r.1 in inr (r.0, (let e : suc n ≡ suc (length xs) + r.0 = omega arith in e), r.2)) (append_place xs ys n x h)

bodies_count : (all : List ClassTree) (k : ℕ) (c : ClassTree) → length (bodies_of all k c) ≡ body_count c
bodies_count all k c =
    let one = length-map (constructors_in c.members) (constructor_body all k) in
    let two = length-map (methods_in c.members) (method_body all k) in
    let both = length-append (map (constructor_body all k) (constructors_in c.members)) (map (method_body all k) (methods_in c.members)) in
    omega arith

-- in one of these classes, after the bodies of those before it
record IsPlaced (all : List ClassTree) (j : ℕ) (cs : List ClassTree) (n : ℕ) (b : BodyTree) : Type 0 where
  class : ℕ
  tree : ClassTree
  inner : ℕ
  there : slice_get cs class ≡ Some tree
  number : n ≡ sum_by body_count (take class cs) + inner
  at : slice_get (bodies_of all (j + class) tree) inner ≡ Some b

placed : (all : List ClassTree) (j : ℕ) (cs : List ClassTree) (n : ℕ) (b : BodyTree) → slice_get (bodies_from all j cs) n ≡ Some b → IsPlaced all j cs n b
placed all j [] n b h = absurd (let z : ⊥ = cc in z)
placed all j (c ∷ cs) n b h =
    ⊎_elim
    (λ l.
    let z : j ≡ j + 0 = omega arith in
    record { class = 0; tree = c; inner = n; there = refl; number = (let e : n ≡ 0 + n = omega arith in e); at = subst (λ i. slice_get (bodies_of all i c) n ≡ Some b) z l })
    (λ r.
    let q = placed all (j + 1) cs r.0 b r.2 in
    let s : j + 1 + q.class ≡ j + suc q.class = omega arith in
    let here = r.1 in
    let count = bodies_count all j c in
    let sum = sum_by-cons body_count c (take q.class cs) in
    let behind = q.number in
    record {
      class = suc q.class;
      tree = q.tree;
      inner = q.inner;
      there = q.there;
      number = (let e : n ≡ sum_by body_count (c ∷ take q.class cs) + q.inner = omega arith in e);
      at = subst (λ i. slice_get (bodies_of all i q.tree) q.inner ≡ Some b) s q.at;
    })
    (append_place (bodies_of all j c) (bodies_from all (j + 1) cs) n b h)

module _ (p : ProgramTree) (faultless : program_faults p ≡ []) where
  abbrev P : TypedTree
  P = resolved p

  abbrev name_of : MethodTree → List ℕ
  name_of m = m.name.text

  -- the name of a method stands at its place alone
  place_is : (k : ℕ) (c : ClassTree) → slice_get p.classes k ≡ Some c → (i : ℕ) (m : MethodTree) → slice_get (methods_in c.members) i ≡ Some m → method_place c.members m.name.text ≡ i
  place_is k c there i m at =
      let n = m.name.text in
      let f = named_method p k c there n (any_at (λ (x : MethodTree). bytes_eq n x.name.text) (methods_in c.members) i m at ((bytes_eq-Decides n n).1 refl)) in
      let same : n ≡ f.0.name.text = (bytes_eq-Decides n f.0.name.text).0 f.2 in
      let one : slice_get (method_names c.members) (method_place c.members n) ≡ Some n = slice_get-map name_of (methods_in c.members) (method_place c.members n) ∙ ap (option_map name_of) f.1 ∙ ap Some (sym same) in
      let two : slice_get (method_names c.members) i ≡ Some n = slice_get-map name_of (methods_in c.members) i ∙ ap (option_map name_of) at in
      let apart : AreApart (method_names c.members) = subst (λ ms. AreApart (method_names ms)) (ap members_in there) (members_apart p faultless k) in
      apart.apart (method_place c.members n) i n one two

  -- a method of the source, with the number of its class and name
  record IsNumbered (n : ℕ) (b : BodyTree) : Type 0 where
    class : ℕ
    tree : ClassTree
    place : ℕ
    method : MethodTree
    there : slice_get p.classes class ≡ Some tree
    at : slice_get (methods_in tree.members) place ≡ Some method
    is : method_body p.classes class method ≡ b
    number : n ≡ method_id p.classes class method.name.text

  numbered_method : (k : ℕ) (c : ClassTree) → slice_get p.classes k ≡ Some c → (i : ℕ) (m : MethodTree) → slice_get (methods_in c.members) i ≡ Some m → method_id p.classes k m.name.text ≡ constructor_id p.classes k + (length (constructors_in c.members) + i)
  numbered_method k c there i m at =
      ap (λ ms. constructor_id p.classes k + (length (constructors_in ms) + method_place ms m.name.text)) (ap members_in there) ∙ ap (λ j. constructor_id p.classes k + (length (constructors_in c.members) + j)) (place_is k c there i m at)

  method_numbered : (n : ℕ) (b : BodyTree) → body_at P n ≡ Some b → b.flags.ctor ≡ false → IsNumbered n b
  method_numbered n b h method =
      let q = placed p.classes 0 p.classes n b h in
      let z : 0 + q.class ≡ q.class = omega arith in
      let here : slice_get (bodies_of p.classes q.class q.tree) q.inner ≡ Some b = subst (λ i. slice_get (bodies_of p.classes i q.tree) q.inner ≡ Some b) z q.at in
      ⊎_elim
      (λ l. let d = map_from (constructor_body p.classes q.class) (constructors_in q.tree.members) q.inner b l in absurd (false≢true (sym method ∙ ap (λ (x : BodyTree). x.flags.ctor) (sym d.2))))
      (λ r.
      let m = map_from (method_body p.classes q.class) (methods_in q.tree.members) r.0 b r.2 in
      let first = length-map (constructors_in q.tree.members) (constructor_body p.classes q.class) in
      let id = numbered_method q.class q.tree q.there r.0 m.0 m.1 in
      let inside = r.1 in
      let behind = q.number in
      record {
        class = q.class;
        tree = q.tree;
        place = r.0;
        method = m.0;
        there = q.there;
        at = m.1;
        is = m.2;
        number = (let e : n ≡ method_id p.classes q.class m.0.name.text = omega arith in e);
      })
      (append_place (map (constructor_body p.classes q.class) (constructors_in q.tree.members)) (map (method_body p.classes q.class) (methods_in q.tree.members)) q.inner b here)

  -- a call of a static method enters one that takes and gives the same
  pub static_takes : (y : core.BodyTree) (n : ℕ) (r : Option Ty) → IsCallee (body_at P n) true r → Takes (callee_of (core_of p) y (Static (number_of_written P n))) (param_types_in (body_at P n)) r
  static_takes y n r callee =
      let q = method_numbered n callee.body callee.is callee.no_constructor in
      let once = class_once p.classes (0 + q.class) q.tree (class_faultless p.classes 0 p.classes q.class q.tree (mains_one p faultless).1 q.there) in
      let w = numbered_body p q.class q.tree q.there q.method q.place q.at once in
      let m = method_body p.classes q.class q.method in
      let x = written_body P m w.0 in
      let stands : slice_get (core_of p).bodies (number_of_written P n) ≡ Some x = ap (λ i. slice_get (core_of p).bodies (number_of_written P i)) q.number ∙ w.1 in
      let static : m.flags.is_static ≡ true = ap (λ (b : BodyTree). b.flags.is_static) q.is ∙ callee.static_as in
      let gives : x.result ≡ r = ap (λ (b : BodyTree). b.result) q.is ∙ callee.result in
      record {
        body = x;
        is = ap (where_body (λ (c : core.BodyTree). c.flags.is_static)) stands ∙ ap (λ c. if c then Some x else None) static;
        params = params_types m.params ∙ ap (λ (b : BodyTree). param_types_in (Some b)) q.is ∙ sym (ap param_types_in callee.is);
        result = gives;
        no_null = λ e. not_null p faultless (number_of_written P n) x stands (gives ∙ e);
      }
