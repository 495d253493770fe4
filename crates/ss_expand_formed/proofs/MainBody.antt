-- Main of an elaborated program.
use Rattle.std.proofs.Common.{◌≡◌, ◌≢◌, ℕ, zero, suc, ◌+◌, ◌*◌, List, [], ◌∷◌, ◌++◌, map, Bool, true, false, Option, Some, None, refl, sym, ◌∙◌, ap, subst, arith, ⊎_elim}
use Rattle.std.specs.Prelude.{not, ◌&&◌, ◌==◌, slice_get, is_some, find, drop, unwrap_or, count_by, option_map, if◌then◌else◌, codes}
use Rattle.std.specs.List.{position_or_len}
use Rattle.std.specs.Str.{bytes_eq}
use Rattle.std.proofs.lemmas.Slice.Eq.{bytes_eq-Decides}
use Rattle.std.proofs.lemmas.Option.{same_Some}
use Rattle.std.proofs.lemmas.Bool.{cases_Bool, or_left, or_right, and_parts, eqb-true, eq-eqb, false≢true}
use Rattle.std.proofs.lemmas.List.Sums.{sum_by-cons}
use Rattle.std.proofs.lemmas.List.Folds.{find_at, list_any-append}
use Rattle.ss_core.specs.declared.names.Ty.{Ty}
use Rattle.ss_core.specs.Tree as core
use Rattle.ss_ast.specs.Expressions.{NameTree, TypeTree, TypeNameTree, IntType, BoolType, ObjectType, ClassType}
use Rattle.ss_ast.specs.Programs.{ParamTree, MemberKindTree, FieldsOf, InvariantOf, MethodOf, ConstructorOf, MemberTree, ClassTree, ProgramTree}
use Rattle.ss_tables.specs.Members.{MethodTree, methods_of_kind, methods_in, is_static}
use Rattle.ss_tables.specs.Types.{array_type}
use Rattle.ss_core.specs.declared.names.Ty.TheVariants as ty
use Rattle.ss_ast.specs.declared.class.Modifier.{Modifier}
use Rattle.ss_typed.specs.Tree.{BodyTree, TypedTree}
use Rattle.ss_core.specs.declared.rules.Rule.TheVariants as rule
use Rattle.ss_resolver_names_rules.specs.Faults.{fault, unless, is_listed, with_name, twice, twice_among}
use Rattle.ss_resolver_names_rules.specs.Members.{kind_names, member_names, faults_at, same_type_name, constructor_faults, override_faults, members_faults}
use Rattle.ss_resolver_names_rules.specs.Programs.{takes_input, is_main, mains_in, class_names, most_classes, depth_faults, above_faults, fields_faults, methods_faults, bodies_faults, class_faults_of, classes_faults, program_faults}
use Rattle.ss_tables.specs.Members as tables
use Rattle.ss_tables.specs.Scopes.{class_scope}
use Rattle.ss_resolver_rules.specs.Names.{Env}
use Rattle.ss_resolver_rules.specs.Numbers.{type_id, method_id, method_names}
use Rattle.ss_resolver_rules.specs.Programs.{param, method_env, method_body, main_from, resolved}
use Rattle.ss_expand_rules.specs.Program.{table, table_of, method_at, Method, is_declared_by, is_own, place_in, number_of, number_of_written}
use Rattle.ss_typed.specs.Lookups.{body_at}
use Rattle.ss_expand_rules.specs.Contracts.{declarations}
use Rattle.ss_expand_rules.specs.Bodies.{param_of, written_body}
use Rattle.ss_expand_rules.specs.Elaborated.{body_of, elaborated}
use Rattle.ss_store_rules.specs.Formed.{are_main_params, IsMain}
use Rattle.ss_expand_formed.specs.Laws.{core_of, HasMain}
use Rattle.ss_expand_formed.proofs.Facts.{none_left}
use Rattle.ss_expand_formed.proofs.Searching.{place_found, any_at}
use Rattle.ss_expand_formed.proofs.Places.{class_at, named_method, listed_methods}
use Rattle.ss_expand_formed.proofs.Entries.{own_entry}
use Rattle.ss_expand_formed.proofs.Numbered.{OfMethod, numbered}

-- ---- names of members stand once

still : (t : List ℕ) (before : List (List ℕ)) (u : List ℕ) → is_listed before t ≡ true → is_listed (with_name before u) t ≡ true
still t before u l =
    ⊎_elim
    (λ yes. rw yes l)
    (λ other. rw other (list_any-append (bytes_eq t) before (u ∷ []) ∙ or_left (is_listed before t) _ l))
    (cases_Bool (is_listed before u))

now_listed : (before : List (List ℕ)) (u : List ℕ) → is_listed (with_name before u) u ≡ true
now_listed before u =
    ⊎_elim
    (λ yes. rw yes yes)
    (λ other. rw other (list_any-append (bytes_eq u) before (u ∷ []) ∙ or_right (is_listed before u) _ (or_left (bytes_eq u u) false ((bytes_eq-Decides u u).1 refl))))
    (cases_Bool (is_listed before u))

-- what is listed before doesn't come again
not_again : (t : List ℕ) (before : List (List ℕ)) (ns : List NameTree) → twice_among before ns ≡ [] → is_listed before t ≡ true → (i : ℕ) (n : NameTree) → slice_get ns i ≡ Some n → n.text ≡ t → ⊥
not_again t before [] h l i n e same = let z : ⊥ = cc in z
not_again t before (x ∷ ns) h l zero n e same =
    let both = none_left (twice before x) (twice_among (with_name before x.text) ns) h in
    let it : x.text ≡ t = ap (λ (y : NameTree). y.text) (same_Some _ _ e) ∙ same in
    let listed : is_listed before x.text ≡ true = subst (λ u. is_listed before u ≡ true) (sym it) l in
    let bad : fault rule.Twice x.place ≡ [] = rw listed at both.0 in
    let z : ⊥ = cc in z
not_again t before (x ∷ ns) h l (suc i) n e same =
    let both = none_left (twice before x) (twice_among (with_name before x.text) ns) h in
    not_again t (with_name before x.text) ns both.1 (still t before x.text l) i n e same

-- after some names
after_names : (before : List (List ℕ)) (xs ys : List NameTree) → twice_among before (xs ++ ys) ≡ [] → (now : List (List ℕ)) × (twice_among now ys ≡ [])
after_names before [] ys h = (before, h)
after_names before (x ∷ xs) ys h =
    let both = none_left (twice before x) (twice_among (with_name before x.text) (xs ++ ys)) h in
    after_names (with_name before x.text) xs ys both.1

place_behind : {X : Type 0} (xs ys : List X) (i : ℕ) (x : X) → slice_get ys i ≡ Some x → (k : ℕ) × (slice_get (xs ++ ys) k ≡ Some x)
place_behind [] ys i x h = (i, h)
place_behind (z ∷ xs) ys i x h = let r = place_behind xs ys i x h in (suc r.0, r.1)

-- each method's name is that of a member
kind_named : (attributes : List NameTree) (words : List Modifier) (kind : MemberKindTree) (ms : List MemberTree) (m : MethodTree) → ((i : ℕ) → slice_get (methods_in ms) i ≡ Some m → (k : ℕ) × (slice_get (member_names ms) k ≡ Some m.name)) →
    (i : ℕ) → slice_get (methods_of_kind attributes words kind ++ methods_in ms) i ≡ Some m → (k : ℕ) × (slice_get (kind_names kind ++ member_names ms) k ≡ Some m.name)
kind_named attributes words (FieldsOf d) ms m rest i h = let r = rest i h in place_behind (kind_names (FieldsOf d)) (member_names ms) r.0 m.name r.1
kind_named attributes words (InvariantOf e) ms m rest i h = rest i h
kind_named attributes words (ConstructorOf n ps base cs b) ms m rest i h = rest i h
kind_named attributes words (MethodOf r n ps cs b) ms m rest zero h = (0, ap (λ (x : MethodTree). Some x.name) (same_Some _ _ h))
kind_named attributes words (MethodOf r n ps cs b) ms m rest (suc i) h = let q = rest i h in (suc q.0, q.1)

method_named : (ms : List MemberTree) (i : ℕ) (m : MethodTree) → slice_get (methods_in ms) i ≡ Some m → (k : ℕ) × (slice_get (member_names ms) k ≡ Some m.name)
method_named [] i m h = absurd (let z : ⊥ = cc in z)
method_named (x ∷ ms) i m h = kind_named x.attributes x.modifiers x.kind ms m (λ n e. method_named ms n m e) i h

-- two methods of one name are one
abbrev pub AreOnce : List MethodTree → Type 0
AreOnce ms = (i j : ℕ) (x y : MethodTree) → slice_get ms i ≡ Some x → slice_get ms j ≡ Some y → x.name.text ≡ y.name.text → x ≡ y

first_once : (m : MethodTree) (before : List (List ℕ)) (ms : List MemberTree) → twice_among (with_name before m.name.text) (member_names ms) ≡ [] → AreOnce (methods_in ms) → AreOnce (m ∷ methods_in ms)
first_once m before ms h rest zero zero x y ex ey same = sym (same_Some _ _ ex) ∙ same_Some _ _ ey
first_once m before ms h rest zero (suc j) x y ex ey same =
    let at = method_named ms j y ey in
    absurd (not_again m.name.text (with_name before m.name.text) (member_names ms) h (now_listed before m.name.text) at.0 y.name at.1 (sym same ∙ sym (ap (λ (z : MethodTree). z.name.text) (same_Some _ _ ex))))
first_once m before ms h rest (suc i) zero x y ex ey same =
    let at = method_named ms i x ex in
    absurd (not_again m.name.text (with_name before m.name.text) (member_names ms) h (now_listed before m.name.text) at.0 x.name at.1 (same ∙ sym (ap (λ (z : MethodTree). z.name.text) (same_Some _ _ ey))))
first_once m before ms h rest (suc i) (suc j) x y ex ey same = rest i j x y ex ey same

kind_once : (attributes : List NameTree) (words : List Modifier) (kind : MemberKindTree) (before : List (List ℕ)) (ms : List MemberTree) → ((now : List (List ℕ)) → twice_among now (member_names ms) ≡ [] → AreOnce (methods_in ms)) →
    twice_among before (kind_names kind ++ member_names ms) ≡ [] → AreOnce (methods_of_kind attributes words kind ++ methods_in ms)
kind_once attributes words (FieldsOf d) before ms rest h = let r = after_names before (kind_names (FieldsOf d)) (member_names ms) h in rest r.0 r.1
kind_once attributes words (InvariantOf e) before ms rest h = rest before h
kind_once attributes words (ConstructorOf n ps base cs b) before ms rest h = rest before h
kind_once attributes words (MethodOf r n ps cs b) before ms rest h =
    let both = none_left (twice before n) (twice_among (with_name before n.text) (member_names ms)) h in
    first_once (record { attributes = attributes; modifiers = words; result = r; name = n; params = ps; clauses = cs; body = b }) before ms both.1 (rest (with_name before n.text) both.1)

methods_once : (before : List (List ℕ)) (ms : List MemberTree) → twice_among before (member_names ms) ≡ [] → AreOnce (methods_in ms)
methods_once before [] h = λ i j x y ex ey same. absurd (let z : ⊥ = cc in z)
methods_once before (m ∷ ms) h = kind_once m.attributes m.modifiers m.kind before ms (λ now k. methods_once now ms k) h

-- ---- faults of names

pub class_faultless : (all : List ClassTree) (k : ℕ) (cs : List ClassTree) (i : ℕ) (c : ClassTree) → classes_faults all k cs ≡ [] → slice_get cs i ≡ Some c → class_faults_of all (k + i) c ≡ []
class_faultless all k [] i c h e = absurd (let z : ⊥ = cc in z)
class_faultless all k (x ∷ cs) zero c h e =
    let z : k + 0 ≡ k = omega arith in
    let both = none_left (class_faults_of all k x) (classes_faults all (k + 1) cs) h in
    rw z (ap (class_faults_of all k) (sym (same_Some _ _ e)) ∙ both.0)
class_faultless all k (x ∷ cs) (suc i) c h e =
    let s : k + suc i ≡ k + 1 + i = omega arith in
    let both = none_left (class_faults_of all k x) (classes_faults all (k + 1) cs) h in
    rw s (class_faultless all (k + 1) cs i c both.1 e)

-- a class without faults has each name once
pub class_once : (all : List ClassTree) (k : ℕ) (c : ClassTree) → class_faults_of all k c ≡ [] → AreOnce (methods_in c.members)
class_once all k c h =
    let one = depth_faults all k c ++ above_faults all k c.above in
    let two = one ++ twice_among [] (member_names c.members) in
    let three = two ++ constructor_faults (tables.constructors_in c.members) in
    let four = three ++ fields_faults all k c in
    let five = four ++ methods_faults (methods_in c.members) in
    let six = five ++ override_faults all k (methods_in c.members) in
    let seven = six ++ members_faults (class_scope all k) c.members in
    let h7 = (none_left seven (bodies_faults all k c) h).0 in
    let h6 = (none_left six (members_faults (class_scope all k) c.members) h7).0 in
    let h5 = (none_left five (override_faults all k (methods_in c.members)) h6).0 in
    let h4 = (none_left four (methods_faults (methods_in c.members)) h5).0 in
    let h3 = (none_left three (fields_faults all k c) h4).0 in
    let h2 = (none_left two (constructor_faults (tables.constructors_in c.members)) h3).0 in
    methods_once [] c.members (none_left one (twice_among [] (member_names c.members)) h2).1

-- there is one Main
pub mains_one : (p : ProgramTree) → program_faults p ≡ [] → (mains_in p.classes ≡ 1) × (classes_faults p.classes 0 p.classes ≡ [])
mains_one p h =
    let one = twice_among [] (class_names p.classes) ++ faults_at rule.Limit (drop most_classes (class_names p.classes)) in
    let both = none_left (one ++ classes_faults p.classes 0 p.classes) (unless (mains_in p.classes == 1) (fault rule.NoMain p.last)) h in
    let counted : (mains_in p.classes == 1) ≡ true = ⊎_elim (λ yes. yes) (λ other. absurd (let bad : fault rule.NoMain p.last ≡ [] = rw other at both.1 in let z : ⊥ = cc in z)) (cases_Bool (mains_in p.classes == 1)) in
    (eqb-true (mains_in p.classes) 1 counted, (none_left one (classes_faults p.classes 0 p.classes) both.0).1)

-- ---- the method that is Main

find_passes : {X : Type 0} (test : X → Bool) (xs : List X) (x : X) → find test xs ≡ Some x → test x ≡ true
find_passes test [] x h = absurd (let z : ⊥ = cc in z)
find_passes test (y ∷ ys) x h =
    ⊎_elim
    (λ yes. ap test (sym (same_Some _ _ (rw yes at h))) ∙ yes)
    (λ other. find_passes test ys x (rw other at h))
    (cases_Bool (test y))

find_none : {X : Type 0} (test : X → Bool) (xs : List X) → find test xs ≡ None → count_by test xs ≡ 0
find_none test [] h = refl
find_none test (y ∷ ys) h =
    ⊎_elim
    (λ yes. absurd (let bad : Some y ≡ None = rw yes at h in let z : ⊥ = cc in z))
    (λ other. sum_by-cons (λ x. if test x then 1 else 0) y ys ∙ rw (other, find_none test ys (rw other at h)) refl)
    (cases_Bool (test y))

record IsFound (all : List ClassTree) (k : ℕ) (cs : List ClassTree) : Type 0 where
  place : ℕ
  tree : ClassTree
  method : MethodTree
  there : slice_get cs place ≡ Some tree
  found : find is_main (methods_in tree.members) ≡ Some method
  number : main_from all k cs ≡ method_id all (k + place) method.name.text

mains_of : ClassTree → ℕ
mains_of c = count_by is_main (methods_in c.members)

further : (all : List ClassTree) (k : ℕ) (c : ClassTree) (cs : List ClassTree) → find is_main (methods_in c.members) ≡ None → IsFound all (k + 1) cs → IsFound all k (c ∷ cs)
further all k c cs e r =
    let s : k + suc r.place ≡ k + 1 + r.place = omega arith in
    record { place = suc r.place; tree = r.tree; method = r.method; there = r.there; found = r.found; number = rw (e, s) r.number }

find_main : (all : List ClassTree) (k : ℕ) (cs : List ClassTree) → mains_in cs ≢ 0 → IsFound all k cs
find_main all k [] some = absurd (some refl)
find_main all k (c ∷ cs) some = look (find is_main (methods_in c.members)) refl (λ n. find_main all (k + 1) cs n)
  where
    look : (o : Option MethodTree) → find is_main (methods_in c.members) ≡ o → (mains_in cs ≢ 0 → IsFound all (k + 1) cs) → IsFound all k (c ∷ cs)
    look None e rest =
        let one = sum_by-cons (λ (x : ClassTree). count_by is_main (methods_in x.members)) c cs in
        let zero_here = find_none is_main (methods_in c.members) e in
        further all k c cs e (rest (λ n. some (one ∙ rw (zero_here, n) refl)))
    look (Some m) e rest = let z : k + 0 ≡ k = omega arith in record { place = 0; tree = c; method = m; there = refl; found = e; number = rw (e, z) refl }

-- ---- its heading

input_type : (cs : List ClassTree) (non_null : Bool) (n : TypeNameTree) → same_type_name IntType n ≡ true → are_main_params (record { name = []; ty = unwrap_or (array_type cs non_null n) ty.Null; captured = false } ∷ []) ≡ true
input_type cs non_null IntType h = refl
input_type cs non_null BoolType h = absurd (false≢true h)
input_type cs non_null ObjectType h = absurd (false≢true h)
input_type cs non_null (ClassType n) h = absurd (false≢true h)

main_params : (e : Env) (ps : List ParamTree) → takes_input ps ≡ true → are_main_params (map param_of (map (param e) ps)) ≡ true
main_params e [] h = refl
main_params e (q ∷ []) h =
    let both = and_parts q.ty.is_array (same_type_name IntType q.ty.name) h in
    rw both.0 (input_type e.scope.classes q.ty.non_null q.ty.name both.1)
main_params e (q ∷ r ∷ qs) h = absurd (false≢true h)

no_result : (r : Option TypeTree) (f : TypeTree → Ty) → not (is_some r) ≡ true → option_map f r ≡ None
no_result None f h = refl
no_result (Some t) f h = absurd (false≢true h)

heading_is_main : (p : TypedTree) (cs : List ClassTree) (k : ℕ) (m : MethodTree) (bs : List BodyTree) → is_main m ≡ true → IsMain (written_body p (method_body cs k m) bs)
heading_is_main p cs k m bs h =
    let three = and_parts (bytes_eq m.name.text (codes "Main") && is_static m && not (is_some m.result)) (takes_input m.params) h in
    let two = and_parts (bytes_eq m.name.text (codes "Main") && is_static m) (not (is_some m.result)) three.0 in
    let one = and_parts (bytes_eq m.name.text (codes "Main")) (is_static m) two.0 in
    record {
      static = one.1;
      params = main_params (method_env cs k m) m.params three.1;
      result = no_result m.result (type_id cs) two.1;
    }

-- ---- its body

module _ (p : ProgramTree) (k : ℕ) (c : ClassTree) (there : slice_get p.classes k ≡ Some c) (m : MethodTree) where
  -- a method that its class names once is its own body's
  own_body : (place : ℕ) → slice_get (methods_in c.members) place ≡ Some m → AreOnce (methods_in c.members) → body_at (resolved p) (method_id p.classes k m.name.text) ≡ Some (method_body p.classes k m)
  own_body place at once =
      let n = m.name.text in
      let self = (bytes_eq-Decides n n).1 refl in
      let f = named_method p k c there n (any_at (λ (x : MethodTree). bytes_eq n x.name.text) (methods_in c.members) place m at self) in
      let same : f.0 ≡ m = once _ place f.0 m f.1 at (sym ((bytes_eq-Decides n f.0.name.text).0 f.2)) in
      f.3 ∙ ap (λ (x : MethodTree). Some (method_body p.classes k x)) same

  -- and stands in the elaboration at its number
  pub numbered_body : (place : ℕ) → slice_get (methods_in c.members) place ≡ Some m → AreOnce (methods_in c.members) → (bs : List BodyTree) × (slice_get (elaborated (resolved p)).bodies (number_of_written (resolved p) (method_id p.classes k m.name.text)) ≡ Some (written_body (resolved p) (method_body p.classes k m) bs))
  numbered_body place at once =
      let n = method_id p.classes k m.name.text in
      let t = 4 + 2 * k in
      let b = method_body p.classes k m in
      let body = own_body place at once in
      let self = (bytes_eq-Decides m.name.text m.name.text).1 refl in
      let listed : is_listed (method_names c.members) m.name.text ≡ true = listed_methods c.members m.name.text ∙ any_at (λ (x : MethodTree). bytes_eq m.name.text x.name.text) (methods_in c.members) place m at self in
      let entry = own_entry p k c there m.name.text listed in
      let d = class_at p k c there in
      let in_table : slice_get (table (resolved p) t) entry.0 ≡ Some entry.1 = ap (λ (o : Option core.ClassTree). slice_get (table_of o) entry.0) d ∙ entry.2 in
      let f = place_found (λ (e : core.EntryTree). e.body == n) (table (resolved p) t) (any_at (λ (e : core.EntryTree). e.body == n) (table (resolved p) t) entry.0 entry.1 in_table (eq-eqb entry.1.body n entry.3)) in
      let q = place_in n (table (resolved p) t) in
      let here : body_at (resolved p) f.it.body ≡ Some b = ap (body_at (resolved p)) (eqb-true f.it.body n f.passes) ∙ body in
      let declared_there : is_declared_by t (Some b) ≡ true = eq-eqb t t refl in
      let own : is_own t (body_at (resolved p) f.it.body) ≡ true = rw here (or_left (is_declared_by t (Some b)) _ declared_there) in
      let method : method_at (resolved p) t q ≡ Some b = rw f.there here in
      let stands = numbered p (Method t q) (OfMethod d f.there own) in
      let made : body_of (resolved p) (Method t q) ≡ Some (written_body (resolved p) b (declarations (resolved p) t q)) = rw (method, declared_there) refl in
      let number : number_of_written (resolved p) n ≡ number_of (resolved p) (Method t q) = rw body refl in
      (declarations (resolved p) t q, ap (slice_get (elaborated (resolved p)).bodies) number ∙ stands ∙ made)

pub has_main : (p : ProgramTree) → program_faults p ≡ [] → HasMain (core_of p)
has_main p h =
    let one = mains_one p h in
    let f = find_main p.classes 0 p.classes (λ z. let e : 1 ≡ 0 = sym one.0 ∙ z in let no : ⊥ = omega arith in no) in
    let zero_more : 0 + f.place ≡ f.place = omega arith in
    let faultless = class_faultless p.classes 0 p.classes f.place f.tree one.1 f.there in
    let once = class_once p.classes (0 + f.place) f.tree faultless in
    let place = position_or_len is_main (methods_in f.tree.members) in
    let at : slice_get (methods_in f.tree.members) place ≡ Some f.method = sym (find_at is_main (methods_in f.tree.members)) ∙ f.found in
    let r = numbered_body p f.place f.tree f.there f.method place at once in
    let number : main_from p.classes 0 p.classes ≡ method_id p.classes f.place f.method.name.text = f.number ∙ ap (λ i. method_id p.classes i f.method.name.text) zero_more in (
      written_body (resolved p) (method_body p.classes f.place f.method) r.0,
      ap (λ n. slice_get (elaborated (resolved p)).bodies (number_of_written (resolved p) n)) number ∙ r.1,
      heading_is_main (resolved p) p.classes f.place f.method r.0 (find_passes is_main (methods_in f.tree.members) f.method f.found),
    )
