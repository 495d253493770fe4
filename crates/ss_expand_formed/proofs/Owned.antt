-- The words of bodies and of what fields begin with, in a program without faults of ownership.
use Rattle.std.proofs.Common.{◌≡◌, ℕ, zero, suc, ◌+◌, List, [], ◌∷◌, ◌++◌, map, Some, refl, sym, ◌∙◌, ap, subst, arith}
use Rattle.std.specs.Prelude.{slice_get}
use Rattle.std.proofs.lemmas.Option.{same_Some}
use Rattle.ss_core.specs.declared.names.Place.{Place}
use Rattle.ss_core.specs.Chain.{fields_of}
use Rattle.ss_ast.specs.Programs.{ClassTree, ProgramTree}
use Rattle.ss_tables.specs.Members.{FieldTree, fields_in}
use Rattle.ss_typed.specs.Tree.{BodyTree, MembersTree, TypedTree}
use Rattle.ss_owners_rules.specs.Words.{NoWord, Questions, EveryWord, misplaced_in_all, misplaced_if, misplaced_in}
use Rattle.ss_owners_rules.specs.Attributes.{on_field, on_body, bad_attributes}
use Rattle.ss_owners_rules.specs.Program.{of_words, of_attributes, field_faults, fields_faults, invariants_faults, class_faults, classes_faults, params_faults, misplaced_modified, misplaced_base, misplaced_body, body_faults, bodies_faults, ownership_faults}
use Rattle.ss_resolver_rules.specs.Names.{Env, class_env}
use Rattle.ss_resolver_rules.specs.Programs.{class, field, members, field_member, resolved}
use Rattle.ss_typed.specs.Lookups.{body_at}
use Rattle.ss_expand_formed.proofs.Facts.{none_left}
use Rattle.ss_expand_formed.proofs.Places.{each_at}

no_words : (ps : List Place) → of_words ps ≡ [] → ps ≡ []
no_words [] h = refl
no_words (q ∷ ps) h = absurd (let z : ⊥ = cc in z)

-- ---- bodies

pub record IsWorded (b : BodyTree) : Type 0 where
  pub base : misplaced_base b.base ≡ []
  pub block : misplaced_in b.block ≡ []

body_worded : (b : BodyTree) → body_faults b ≡ [] → IsWorded b
body_worded b h =
    let words = no_words (misplaced_body b) (none_left (of_attributes (bad_attributes (on_body b.flags.ctor) b.attributes) ++ params_faults b.params) (of_words (misplaced_body b)) h).1 in
    let last = none_left (misplaced_in_all Questions b.entry ++ misplaced_in_all EveryWord b.exit ++ misplaced_modified b.modifies ++ misplaced_base b.base) (misplaced_in b.block) words in
    record { base = (none_left (misplaced_in_all Questions b.entry ++ misplaced_in_all EveryWord b.exit ++ misplaced_modified b.modifies) (misplaced_base b.base) last.0).1; block = last.1 }

bodies_worded : (bs : List BodyTree) (n : ℕ) (b : BodyTree) → bodies_faults bs ≡ [] → slice_get bs n ≡ Some b → IsWorded b
bodies_worded [] n b h e = absurd (let z : ⊥ = cc in z)
bodies_worded (x ∷ bs) zero b h e = subst IsWorded (same_Some _ _ e) (body_worded x (none_left (body_faults x) (bodies_faults bs) h).0)
bodies_worded (x ∷ bs) (suc n) b h e = bodies_worded bs n b (none_left (body_faults x) (bodies_faults bs) h).1 e

pub worded : (p : TypedTree) → ownership_faults p ≡ [] → (n : ℕ) (b : BodyTree) → body_at p n ≡ Some b → IsWorded b
unfolding ownership_faults
worded p owned n b h = bodies_worded p.bodies n b (none_left (classes_faults p 0 p.members) (bodies_faults p.bodies) owned).1 h

-- ---- fields

class_none : (p : TypedTree) (k : ℕ) (ms : List MembersTree) → classes_faults p k ms ≡ [] → (i : ℕ) (m : MembersTree) → slice_get ms i ≡ Some m → class_faults p (k + i) m ≡ []
class_none p k [] h i m e = absurd (let z : ⊥ = cc in z)
class_none p k (x ∷ ms) h zero m e =
    let z : k + 0 ≡ k = omega arith in
    rw z (ap (class_faults p k) (sym (same_Some _ _ e)) ∙ (none_left (class_faults p k x) (classes_faults p (k + 1) ms) h).0)
class_none p k (x ∷ ms) h (suc i) m e =
    let s : k + suc i ≡ k + 1 + i = omega arith in
    rw s (class_none p (k + 1) ms (none_left (class_faults p k x) (classes_faults p (k + 1) ms) h).1 i m e)

fields_worded : (cs : List ClassTree) (e : Env) (fs : List FieldTree) → fields_faults (map (field_member e) fs) (map (field cs) fs) ≡ [] → (i : ℕ) (f : FieldTree) → slice_get fs i ≡ Some f → misplaced_if NoWord (field_member e f).initial ≡ []
fields_worded cs e [] h i f g = absurd (let z : ⊥ = cc in z)
fields_worded cs e (x ∷ fs) h zero f g =
    let mine = (none_left (field_faults (field_member e x) (field cs x)) (fields_faults (map (field_member e) fs) (map (field cs) fs)) h).0 in
    let words = no_words (misplaced_if NoWord (field_member e x).initial) (none_left (of_attributes (bad_attributes (on_field (field cs x).ty) x.attributes)) (of_words (misplaced_if NoWord (field_member e x).initial)) mine).1 in
    subst (λ (z : FieldTree). misplaced_if NoWord (field_member e z).initial ≡ []) (same_Some _ _ g) words
fields_worded cs e (x ∷ fs) h (suc i) f g = fields_worded cs e fs (none_left (field_faults (field_member e x) (field cs x)) (fields_faults (map (field_member e) fs) (map (field cs) fs)) h).1 i f g

pub field_worded : (p : ProgramTree) → ownership_faults (resolved p) ≡ [] → (k : ℕ) (c : ClassTree) → slice_get p.classes k ≡ Some c → (i : ℕ) (f : FieldTree) → slice_get (fields_in c.members) i ≡ Some f → misplaced_if NoWord (field_member (class_env p.classes k) f).initial ≡ []
unfolding ownership_faults
field_worded p owned k c there i f g =
    let none = (none_left (classes_faults (resolved p) 0 (resolved p).members) (bodies_faults (resolved p).bodies) owned).0 in
    let z : 0 + k ≡ k = omega arith in
    let m : slice_get (resolved p).members k ≡ Some (members p.classes k c) = each_at (members p.classes) 0 p.classes k c there ∙ ap (λ n. Some (members p.classes n c)) z in
    let d : slice_get (resolved p).classes k ≡ Some (class p.classes k c) = each_at (class p.classes) 0 p.classes k c there ∙ ap (λ n. Some (class p.classes n c)) z in
    let faults : class_faults (resolved p) k (members p.classes k c) ≡ [] = subst (λ n. class_faults (resolved p) n (members p.classes k c) ≡ []) z (class_none (resolved p) 0 (resolved p).members none k (members p.classes k c) m) in
    let fs = fields_in c.members in
    let of_fields = (none_left (fields_faults (map (field_member (class_env p.classes k)) fs) (fields_of (slice_get (resolved p).classes k))) (invariants_faults _ (members p.classes k c).invariants) faults).0 in
    fields_worded p.classes (class_env p.classes k) fs (subst (λ o. fields_faults (map (field_member (class_env p.classes k)) fs) (fields_of o) ≡ []) d of_fields) i f g
