-- Formed bodies are typed as a frame condition asks, and so is what their callers see.
use Rattle.std.proofs.Common.{◌≡◌, ℕ, List, [], ◌∷◌, ◌++◌, map, Bool, true, false, not, ◌&&◌, ◌||◌, eqb, Option, Some, None, refl, sym, subst}
use Rattle.std.specs.Prelude.{slice_get, if◌then◌else◌, is_some, is_none, option_map}
use Rattle.std.specs.List.{list_all}
use Rattle.std.proofs.lemmas.Bool.{false≢true, true≢false, and_parts, and_from, eqb-true}
use Rattle.ss_core.specs.declared.names.Ty.{Ty}
use Rattle.ss_core.specs.declared.names.Ty.TheVariants as ty
use Rattle.ss_core.specs.Tree.{ClassTree, ExprTree, IntExpr, BoolExpr, NullExpr, LocalExpr, FieldExpr, ElementExpr, LengthExpr, NegateExpr, NotExpr, BinaryExpr, ImpliesExpr, IffExpr, IsExpr, AsExpr, CastExpr, OldExpr, QuantifiedExpr, StateExpr, OwnersExpr, DefaultExpr, NamedTree, FieldOf, AllOf, ElementsOf, UptoOf, BodyTree, CoreTree}
use Rattle.ss_core.specs.Chain.{below, DeclaredField, all_fields}
use Rattle.ss_core.specs.Types.{nullable}
use Rattle.ss_store_rules.specs.Changes.{is_array}
use Rattle.ss_store_rules.specs.Locals.{local_types, is_argument, is_bound, reads_only, everywhere}
use Rattle.ss_store_rules.specs.Types.{has_class, is_reference, field_read_type, type_of, in_code, is_allowed, code_type}
use Rattle.ss_store_rules.specs.Admissible.{is_this}
use Rattle.ss_store_rules.specs.Typed.{is_named}
use Rattle.ss_store_rules.specs.Formed.{IsFormedBody}
use Rattle.ss_logic_means.specs.Scenes.{has_no_default}
use Rattle.ss_logic_means.proofs.Contracts.{typed_without}
use Rattle.ss_vcgen_heaps.specs.Contracts.{seen_name, seen}
use Rattle.ss_logic_tables.specs.Spans.{is_typed_name, IsTypedBody}

class_reference : (test : ℕ → Bool) (a : Option Ty) → has_class test a ≡ true → is_reference a ≡ true
class_reference test None h = absurd (false≢true h)
class_reference test (Some ty.Int) h = absurd (false≢true h)
class_reference test (Some ty.Bool) h = absurd (false≢true h)
class_reference test (Some ty.Null) h = absurd (false≢true h)
class_reference test (Some (ty.Ref t n)) h = refl

field_reference : (cs : List ClassTree) (a : Option Ty) (d : Option DeclaredField) → is_some (field_read_type cs a d) ≡ true → is_reference a ≡ true
field_reference cs a None h = absurd (false≢true h)
field_reference cs a (Some d) h = class_reference (λ c. below cs c d.class) a (typed (has_class (λ c. below cs c d.class) a) h)
  where
    typed : (c : Bool) → is_some (if c then Some (nullable d.field.ty) else None) ≡ true → c ≡ true
    typed true h = refl
    typed false h = absurd (false≢true h)

reference_some : (a : Option Ty) → is_reference a ≡ true → is_some a ≡ true
reference_some None h = absurd (false≢true h)
reference_some (Some t) h = refl

module _ (cs : List ClassTree) (b : BodyTree) where
  typed_reference : (x : ExprTree) → is_reference (code_type cs b x) ≡ true → (has_no_default x && is_reference (type_of cs (local_types b) x)) ≡ true
  typed_reference x h =
      and_from (has_no_default x) (is_reference (type_of cs (local_types b) x))
      (typed_without cs b in_code x (reference_some (code_type cs b x) h)).0
      (chosen (everywhere (is_allowed b in_code) x) h)
    where
      chosen : (c : Bool) → is_reference (if c then type_of cs (local_types b) x else None) ≡ true → is_reference (type_of cs (local_types b) x) ≡ true
      chosen true h = h
      chosen false h = absurd (false≢true h)

  -- the type of a `this`
  first_type : (static : Bool) (t : ℕ) (xs ys zs : List Ty) → static ≡ false → is_reference (option_map nullable (slice_get ((((if static then [] else ty.Ref (record { 0 = t }) true ∷ []) ++ xs) ++ ys) ++ zs) 0)) ≡ true
  first_type true t xs ys zs h = absurd (true≢false h)
  first_type false t xs ys zs h = refl

  this_reference : (x : ExprTree) → is_this x ≡ true → not b.flags.is_static ≡ true → (has_no_default x && is_reference (type_of cs (local_types b) x)) ≡ true
  this_reference (LocalExpr p x) h s = subst (λ k. is_reference (option_map nullable (slice_get (local_types b) k)) ≡ true) (sym (eqb-true x 0 h)) (first_type b.flags.is_static b.class _ _ _ (off b.flags.is_static s))
    where
      off : (c : Bool) → not c ≡ true → c ≡ false
      off true h = absurd (false≢true h)
      off false h = refl
  this_reference (IntExpr p i) h s = absurd (false≢true h)
  this_reference (BoolExpr p i) h s = absurd (false≢true h)
  this_reference (NullExpr p) h s = absurd (false≢true h)
  this_reference (FieldExpr p e f) h s = absurd (false≢true h)
  this_reference (ElementExpr p a i) h s = absurd (false≢true h)
  this_reference (LengthExpr p e) h s = absurd (false≢true h)
  this_reference (NegateExpr p e) h s = absurd (false≢true h)
  this_reference (NotExpr p e) h s = absurd (false≢true h)
  this_reference (BinaryExpr p o x y) h s = absurd (false≢true h)
  this_reference (ImpliesExpr p x y) h s = absurd (false≢true h)
  this_reference (IffExpr p x y) h s = absurd (false≢true h)
  this_reference (IsExpr p e t) h s = absurd (false≢true h)
  this_reference (AsExpr p e t) h s = absurd (false≢true h)
  this_reference (CastExpr p t n e) h s = absurd (false≢true h)
  this_reference (OldExpr p e) h s = absurd (false≢true h)
  this_reference (QuantifiedExpr p q n l k e) h s = absurd (false≢true h)
  this_reference (StateExpr p w e) h s = absurd (false≢true h)
  this_reference (OwnersExpr p w x y) h s = absurd (false≢true h)
  this_reference (DefaultExpr p d) h s = absurd (false≢true h)

  named_typed : (n : NamedTree) → is_named cs b n ≡ true → is_typed_name cs b n ≡ true
  named_typed (FieldOf e f) h = typed_reference e (field_reference cs (code_type cs b e) (slice_get (all_fields cs) f) (and_parts (is_some (field_read_type cs (code_type cs b e) (slice_get (all_fields cs) f))) (reads_only (λ x. is_argument b x || is_bound b x) e) h).0)
  named_typed (AllOf e) h = typed_reference e (and_parts (is_reference (code_type cs b e)) (reads_only (λ x. is_argument b x || is_bound b x) e) h).0
  named_typed (ElementsOf e) h = typed_reference e (class_reference (is_array cs) (code_type cs b e) (and_parts (has_class (is_array cs) (code_type cs b e)) (reads_only (λ x. is_argument b x || is_bound b x) e) h).0)
  named_typed (UptoOf e t) h =
      let p = and_parts (is_this e && not b.flags.is_static) (eqb t b.class) h in
      let q = and_parts (is_this e) (not b.flags.is_static) p.0 in
      this_reference e q.0 q.1

  all_named_typed : (ns : List NamedTree) → list_all (is_named cs b) ns ≡ true → list_all (is_typed_name cs b) ns ≡ true
  all_named_typed [] h = refl
  all_named_typed (n ∷ ns) h =
      let p = and_parts (is_named cs b n) (list_all (is_named cs b) ns) h in
      and_from (is_typed_name cs b n) (list_all (is_typed_name cs b) ns) (named_typed n p.0) (all_named_typed ns p.1)

  -- what callers see of a name
  seen_typed_name : (n : NamedTree) → is_typed_name cs b n ≡ true → is_typed_name cs (seen b) (seen_name n) ≡ true
  seen_typed_name (FieldOf e f) h = h
  seen_typed_name (AllOf e) h = h
  seen_typed_name (ElementsOf e) h = h
  seen_typed_name (UptoOf e t) h = h

  all_seen : (ns : List NamedTree) → list_all (is_typed_name cs b) ns ≡ true → list_all (is_typed_name cs (seen b)) (map seen_name ns) ≡ true
  all_seen [] h = refl
  all_seen (n ∷ ns) h =
      let p = and_parts (is_typed_name cs b n) (list_all (is_typed_name cs b) ns) h in
      and_from (is_typed_name cs (seen b) (seen_name n)) (list_all (is_typed_name cs (seen b)) (map seen_name ns)) (seen_typed_name n p.0) (all_seen ns p.1)

  pub seen_typed : IsTypedBody cs b → IsTypedBody cs (seen b)
  seen_typed is = record { named = all_seen b.named is.named; params = is.params; constructs = is.constructs }

pub formed_typed : (c : CoreTree) (b : BodyTree) → IsFormedBody c b → IsTypedBody c.classes b
formed_typed c b formed = record {
  named = all_named_typed c.classes b b.named formed.named;
  params = formed.params;
  constructs = λ h. not_static b.flags.ctor b.flags.is_static (is_none b.result) h (and_parts (not b.flags.ctor || not b.flags.is_static && is_none b.result) (not b.flags.delayed || b.flags.ctor) formed.flags).0;
}
  where
    not_static : (k s r : Bool) → k ≡ true → (not k || not s && r) ≡ true → s ≡ false
    not_static true true r h e = absurd (false≢true e)
    not_static true false r h e = refl
    not_static false s r h e = absurd (false≢true h)
