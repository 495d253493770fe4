-- Attributes stand on references alone.
use Rattle.std.proofs.Common.{◌≡◌, ℕ, zero, suc, ◌+◌, List, [], ◌∷◌, ◌++◌, map, Bool, true, false, Some, refl, sym, ◌∙◌, ap, subst, arith, ⊎_elim}
use Rattle.std.specs.Prelude.{not, ◌&&◌, ◌||◌, slice_get, codes}
use Rattle.std.specs.List.{list_all}
use Rattle.std.specs.Str.{bytes_eq}
use Rattle.std.proofs.lemmas.Bool.{and_parts, and_from, or_right, cases_Bool, false≢true}
use Rattle.std.proofs.lemmas.Option.{same_Some}
use Rattle.ss_core.specs.declared.names.Place.{Place}
use Rattle.ss_core.specs.declared.names.Ty.{Ty}
use Rattle.ss_core.specs.declared.names.Ty.TheVariants as ty
use Rattle.ss_core.specs.Tree as core
use Rattle.ss_core.specs.Chain.{is_type, is_superclass, is_class, has_numbers, fields_of}
use Rattle.ss_core.specs.Types.{is_class_type}
use Rattle.ss_ast.specs.Expressions.{NameTree}
use Rattle.ss_ast.specs.Programs as written
use Rattle.ss_ast.specs.Programs.{ClassTree, ProgramTree}
use Rattle.ss_faults.specs.declared.Fault.{Fault}
use Rattle.ss_tables.specs.Members.{MethodTree, ConstructorTree, has_attribute, fields_in}
use Rattle.ss_tables.specs.Members as tables
use Rattle.ss_typed.specs.Tree.{ParamTree, MembersTree, BodyTree, TypedTree}
use Rattle.ss_owners_rules.specs.Attributes.{Names, is_mark, on_field, on_param, on_body, bad_after, bad_attributes}
use Rattle.ss_owners_rules.specs.Words.{NoWord, misplaced_if}
use Rattle.ss_owners_rules.specs.Program.{bad_attribute, at, of_words, of_attributes, invariants_faults, field_faults, fields_faults, class_faults, classes_faults, param_faults, params_faults, misplaced_body, body_faults, bodies_faults, ownership_faults}
use Rattle.ss_resolver_names_rules.specs.Programs.{program_faults}
use Rattle.ss_resolver_rules.specs.Names.{Env, class_env}
use Rattle.ss_resolver_rules.specs.Programs.{mark_of, field, class, field_member, members, param, param_env, method_env, resolved}
use Rattle.ss_expand_rules.specs.Program.{table, Origin}
use Rattle.ss_expand_rules.specs.Bodies.{param_of}
use Rattle.ss_store_rules.specs.Locals.{types_of}
use Rattle.ss_store_rules.specs.Typed.{is_plain, is_field, is_local, are_declared}
use Rattle.ss_expand_formed.specs.Laws.{core_of}
use Rattle.ss_expand_formed.proofs.Facts.{none_left, all_at}
use Rattle.ss_expand_formed.proofs.Bodies.{IsMade, WrittenConstructor, ImplicitConstructor, WrittenMethod, Wrapper, origin_of}
use Rattle.ss_expand_formed.proofs.Resolved.{bodies_pass, method_is}
use Rattle.ss_expand_formed.proofs.Places.{each_at}
use Rattle.ss_expand_formed.proofs.ChainLaw.{written_at, all_from, has_chain}
use Rattle.ss_expand_formed.proofs.TypesKnown.{have_param_types}
use Rattle.ss_expand_formed.specs.Members.{HaveFields, HaveParams}

-- ---- attributes

none_of : (f : Place → Fault) (ps : List Place) → map f ps ≡ [] → ps ≡ []
none_of f [] h = refl
none_of f (q ∷ ps) h = absurd (let z : ⊥ = cc in z)

class_type : (t : Ty) → is_class_type t ≡ true → is_class_type t ≡ true
class_type ty.Int h = absurd (false≢true h)
class_type ty.Bool h = absurd (false≢true h)
class_type ty.Null h = absurd (false≢true h)
class_type (ty.Ref t non_null) h = refl

-- the first attribute may stand there
may_stand : (may : Names) (a : NameTree) (more : List NameTree) → bad_attributes may (a ∷ more) ≡ [] → may a.text ≡ true
may_stand may a more h =
    ⊎_elim
    (λ yes. yes)
    (λ no. absurd (let bad : a.place ∷ bad_after may (a ∷ []) more ≡ [] = rw no at h in let z : ⊥ = cc in z))
    (cases_Bool (may a.text))

-- a field without attributes isn't marked
marked : (t : Ty) (attributes : List NameTree) → bad_attributes (on_field t) attributes ≡ [] → (is_plain (mark_of attributes) || is_class_type t) ≡ true
marked t [] h = refl
marked t (a ∷ more) h = or_right (is_plain (mark_of (a ∷ more))) _ (class_type t (and_parts (is_class_type t) (is_mark a.text) (may_stand (on_field t) a more h)).0)

-- ---- fields

module _ (cs : List ClassTree) (e : Env) where
  marked_fields : (fs : List tables.FieldTree) → fields_faults (map (field_member e) fs) (map (field cs) fs) ≡ [] → list_all (λ (f : core.FieldTree). is_plain f.mark || is_class_type f.ty) (map (field cs) fs) ≡ true
  marked_fields [] h = refl
  marked_fields (f ∷ fs) h =
      let both = none_left (field_faults (field_member e f) (field cs f)) (fields_faults (map (field_member e) fs) (map (field cs) fs)) h in
      let mine = none_left (of_attributes (bad_attributes (on_field (field cs f).ty) f.attributes)) (of_words (misplaced_if NoWord (field_member e f).initial)) both.0 in
      and_from _ _ (marked (field cs f).ty f.attributes (none_of (at bad_attribute) (bad_attributes (on_field (field cs f).ty) f.attributes) mine.0)) (marked_fields fs both.1)

class_none : (p : TypedTree) (k : ℕ) (ms : List MembersTree) (i : ℕ) (m : MembersTree) → classes_faults p k ms ≡ [] → slice_get ms i ≡ Some m → class_faults p (k + i) m ≡ []
class_none p k [] i m h e = absurd (let z : ⊥ = cc in z)
class_none p k (x ∷ ms) zero m h e =
    let z : k + 0 ≡ k = omega arith in
    rw z (ap (class_faults p k) (sym (same_Some _ _ e)) ∙ (none_left (class_faults p k x) (classes_faults p (k + 1) ms) h).0)
class_none p k (x ∷ ms) (suc i) m h e =
    let s : k + suc i ≡ k + 1 + i = omega arith in
    rw s (class_none p (k + 1) ms i m (none_left (class_faults p k x) (classes_faults p (k + 1) ms) h).1 e)

are_fields : (cs : List core.ClassTree) (fs : List core.FieldTree) → list_all (λ (f : core.FieldTree). is_type cs f.ty) fs ≡ true → list_all (λ (f : core.FieldTree). is_plain f.mark || is_class_type f.ty) fs ≡ true → list_all (is_field cs) fs ≡ true
are_fields cs [] h g = refl
are_fields cs (f ∷ fs) h g =
    let types = and_parts (is_type cs f.ty) (list_all (λ (x : core.FieldTree). is_type cs x.ty) fs) h in
    let marks = and_parts (is_plain f.mark || is_class_type f.ty) (list_all (λ (x : core.FieldTree). is_plain x.mark || is_class_type x.ty) fs) g in
    and_from _ _ (and_from _ _ types.0 marks.0) (are_fields cs fs types.1 marks.1)

class_fields : (p : ProgramTree) → program_faults p ≡ [] → classes_faults (resolved p) 0 (resolved p).members ≡ [] → (k : ℕ) (y : core.ClassTree) → slice_get (core_of p).classes k ≡ Some y → list_all (is_field (core_of p).classes) y.fields ≡ true
class_fields p names none k y at =
    let cs = (core_of p).classes in
    let w = written_at p k y at in
    let z : 0 + k ≡ k = omega arith in
    let m : slice_get (resolved p).members k ≡ Some (members p.classes k w.tree) = each_at (members p.classes) 0 p.classes k w.tree w.there ∙ ap (λ n. Some (members p.classes n w.tree)) z in
    let c : slice_get (resolved p).classes k ≡ Some (class p.classes k w.tree) = each_at (class p.classes) 0 p.classes k w.tree w.there ∙ ap (λ n. Some (class p.classes n w.tree)) z in
    let faults : class_faults (resolved p) k (members p.classes k w.tree) ≡ [] = subst (λ n. class_faults (resolved p) n (members p.classes k w.tree) ≡ []) z (class_none (resolved p) 0 (resolved p).members k (members p.classes k w.tree) none m) in
    let fs = fields_in w.tree.members in
    let of_fields = (none_left (fields_faults (map (field_member (class_env p.classes k)) fs) (fields_of (slice_get (resolved p).classes k))) (invariants_faults _ (members p.classes k w.tree).invariants) faults).0 in
    let mine = subst (λ o. fields_faults (map (field_member (class_env p.classes k)) fs) (fields_of o) ≡ []) c of_fields in
    let numbers = all_at (has_numbers cs) cs k y (has_chain p names).numbers at in
    let types = (and_parts (is_superclass cs y.above && list_all (is_class cs) y.also) (list_all (λ (f : core.FieldTree). is_type cs f.ty) y.fields) numbers).1 in
    are_fields cs y.fields types (subst (λ xs. list_all (λ (f : core.FieldTree). is_plain f.mark || is_class_type f.ty) xs ≡ true) (sym w.fields) (marked_fields p.classes (class_env p.classes k) fs mine))

pub have_fields : (p : ProgramTree) → program_faults p ≡ [] → ownership_faults (resolved p) ≡ [] → HaveFields (core_of p)
unfolding ownership_faults
have_fields p names owners =
    let none = (none_left (classes_faults (resolved p) 0 (resolved p).members) (bodies_faults (resolved p).bodies) owners).0 in
    all_from (λ (t : core.ClassTree). list_all (is_field (core_of p).classes) t.fields) (core_of p).classes (class_fields p names none)

-- ---- parameters

abbrev has_some : List NameTree → Bool
has_some [] = false
has_some (a ∷ more) = true

-- a captured parameter has an attribute
abbrev are_marked : BodyTree → Bool
are_marked b = list_all (λ (q : ParamTree). not q.captured || has_some q.attributes) b.params

captured : (attributes : List NameTree) → (not (has_attribute (codes "Captured") attributes) || has_some attributes) ≡ true
captured [] = refl
captured (a ∷ more) = or_right (not (has_attribute (codes "Captured") (a ∷ more))) true refl

params_marked : (e : Env) (ps : List written.ParamTree) → list_all (λ (q : ParamTree). not q.captured || has_some q.attributes) (map (param e) ps) ≡ true
params_marked e [] = refl
params_marked e (q ∷ ps) = and_from _ _ (captured q.attributes) (params_marked e ps)

all_marked : (p : ProgramTree) → list_all are_marked (resolved p).bodies ≡ true
all_marked p = bodies_pass are_marked p.classes (λ k d l. params_marked (param_env p.classes k false d.params) d.params) (λ k m l. params_marked (method_env p.classes k m) m.params) 0 p.classes (omega arith)

on_reference : (q : ParamTree) → (not q.captured || has_some q.attributes) ≡ true → bad_attributes (on_param q.ty) q.attributes ≡ [] → (not q.captured || is_class_type q.ty) ≡ true
on_reference q h none = by q.captured q.attributes h none
  where
    by : (c : Bool) (attributes : List NameTree) → (not c || has_some attributes) ≡ true → bad_attributes (on_param q.ty) attributes ≡ [] → (not c || is_class_type q.ty) ≡ true
    by false attributes h none = refl
    by true [] h none = absurd (false≢true h)
    by true (a ∷ more) h none = class_type q.ty (and_parts (is_class_type q.ty) (bytes_eq a.text (codes "Captured")) (may_stand (on_param q.ty) a more none)).0

are_params : (cs : List core.ClassTree) (qs : List ParamTree) → are_declared cs (types_of (map param_of qs)) ≡ true → list_all (λ (q : ParamTree). not q.captured || has_some q.attributes) qs ≡ true → params_faults qs ≡ [] →
    list_all (is_local cs) (map param_of qs) ≡ true
are_params cs [] h g none = refl
are_params cs (q ∷ qs) h g none =
    let types = and_parts (is_type cs q.ty) (are_declared cs (types_of (map param_of qs))) h in
    let marks = and_parts (not q.captured || has_some q.attributes) (list_all (λ (x : ParamTree). not x.captured || has_some x.attributes) qs) g in
    let faults = none_left (param_faults q) (params_faults qs) none in
    and_from _ _ (and_from _ _ types.0 (on_reference q marks.0 (none_of (at bad_attribute) (bad_attributes (on_param q.ty) q.attributes) faults.0))) (are_params cs qs types.1 marks.1 faults.1)

body_none : (bs : List BodyTree) (n : ℕ) (b : BodyTree) → bodies_faults bs ≡ [] → slice_get bs n ≡ Some b → params_faults b.params ≡ []
body_none [] n b h e = absurd (let z : ⊥ = cc in z)
body_none (x ∷ bs) zero b h e =
    let mine : body_faults b ≡ [] = ap body_faults (sym (same_Some _ _ e)) ∙ (none_left (body_faults x) (bodies_faults bs) h).0 in
    let front = of_attributes (bad_attributes (on_body b.flags.ctor) b.attributes) in
    (none_left front (params_faults b.params) (none_left (front ++ params_faults b.params) (of_words (misplaced_body b)) mine).0).1
body_none (x ∷ bs) (suc n) b h e = body_none bs n b (none_left (body_faults x) (bodies_faults bs) h).1 e

pub have_params : (p : ProgramTree) → program_faults p ≡ [] → ownership_faults (resolved p) ≡ [] → HaveParams (core_of p)
unfolding ownership_faults
have_params p names owners n y at =
    let none = (none_left (classes_faults (resolved p) 0 (resolved p).members) (bodies_faults (resolved p).bodies) owners).1 in
    let from = origin_of (resolved p) n y at in
    made_params none from.origin y (have_param_types p names n y at) from.made
  where
    of_body : bodies_faults (resolved p).bodies ≡ [] → (i : ℕ) (b : BodyTree) → slice_get (resolved p).bodies i ≡ Some b → are_declared (core_of p).classes (types_of (map param_of b.params)) ≡ true → list_all (is_local (core_of p).classes) (map param_of b.params) ≡ true
    of_body none i b e types = are_params (core_of p).classes b.params types (all_at are_marked (resolved p).bodies i b (all_marked p) e) (body_none (resolved p).bodies i b none e)

    made_params : bodies_faults (resolved p).bodies ≡ [] → (o : Origin) (z : core.BodyTree) → are_declared (core_of p).classes (types_of z.params) ≡ true → IsMade (resolved p) o z → list_all (is_local (core_of p).classes) z.params ≡ true
    made_params none o z types (WrittenConstructor {n = i} {b = b} is em en eb) = of_body none i b eb types
    made_params none o z types (ImplicitConstructor is ec em empty) = refl
    made_params none o z types (WrittenMethod {t = t} {m = m} {b = b} is eb own) = let r = method_is (resolved p) (slice_get (table (resolved p) t) m) b eb in of_body none r.0 b r.1 types
    made_params none o z types (Wrapper {t = t} {m = m} {b = b} is eb own em) = let r = method_is (resolved p) (slice_get (table (resolved p) t) m) b eb in of_body none r.0 b r.1 types
