-- What a body names and frees rests on its arguments alone.
use Rattle.std.proofs.Common.{◌≡◌, ℕ, zero, suc, ◌+◌, ◌<◌, List, [], ◌∷◌, ◌++◌, length, drop, Bool, true, false, not, ◌&&◌, ◌||◌, Option, Some, None, Ok, eqb, refl, sym, ◌∙◌, ap, arith, ⊎_elim}
use Rattle.std.specs.Prelude.{slice_get, unwrap_or, flat_map, is_some, is_none, if◌then◌else◌}
use Rattle.std.specs.List.{list_all, list_any}
use Rattle.std.proofs.lemmas.Bool.{false≢true, true≢false, and_parts, cases_Bool, ltb-true, lt-ltb, eqb-true}
use Rattle.std.proofs.lemmas.List.{length-append, length-map}
use Rattle.std.proofs.lemmas.List.Concat.{flat_map-cons}
use Rattle.ss_core.specs.declared.names.Ty.{Ty}
use Rattle.ss_core.specs.Tree.{ClassTree, ExprTree, LocalExpr, LocalTree, NamedTree, FieldOf, AllOf, ElementsOf, UptoOf, BodyTree}
use Rattle.ss_core.specs.Chain.{DeclaredField, all_fields}
use Rattle.ss_store_rules.specs.declared.Value.{Value}
use Rattle.ss_store_rules.specs.declared.Value.TheVariants as value
use Rattle.ss_store_rules.specs.Store.{Object}
use Rattle.ss_store_rules.specs.Reads.{is_object_with, is_pair_upto}
use Rattle.ss_store_rules.specs.Values.{value_of}
use Rattle.ss_store_rules.specs.Changes.{is_array}
use Rattle.ss_store_rules.specs.Admissible.{is_this}
use Rattle.ss_store_rules.specs.Locals.{types_of, this_types, local_types, argument_count, everywhere, reads_only, is_argument, is_bound}
use Rattle.ss_store_rules.specs.Types.{has_class, is_reference, field_read_type, type_of, is_allowed, in_code, code_type}
use Rattle.ss_store_rules.specs.Typed.{is_named_by, is_named}
use Rattle.ss_store_rules.specs.Tables.{normal_condition, normal_named, captures}
use Rattle.ss_store_rules.specs.Formed.{has_flags}
use Rattle.ss_machine_rules.specs.Frame.{defined_value, value_at_entry, subject_of, named_by, all_named, captured_among, captured_values, is_in_group_with, is_owned_by_new, is_free}
use Rattle.ss_sound_runs.proofs.Reading.{local_in, read_at}
use Rattle.ss_sound_runs.proofs.Locals.{get_left, AreRead, reads_outside, argument_in}
use Rattle.ss_sound_runs.proofs.Conditions.{this_argument, plain_value}
use Rattle.ss_sound_runs.proofs.Follows.{span_of}

-- ---- what is named

-- a test that no expression without a type passes
allowed_by : (t : Bool) (o : Option Ty) (test : Option Ty → Bool) → test None ≡ false → test (if t then o else None) ≡ true → t ≡ true
allowed_by true o test no_type h = refl
allowed_by false o test no_type h = absurd (true≢false (sym h ∙ no_type))

no_field_read : (cs : List ClassTree) (d : Option DeclaredField) → is_some (field_read_type cs None d) ≡ false
no_field_read cs None = refl
no_field_read cs (Some d) = refl

this_value : (e : ExprTree) → is_this e ≡ true → (cs : List ClassTree) (s entry : List Object) (old : Bool) (L : List Value) → value_of e (read_at cs s entry old L) ≡ Ok (local_in L 0)
this_value (LocalExpr p x) h cs s entry old L = ap (λ n. Ok (local_in L n)) (eqb-true x 0 h)
this_value e h cs s entry old L = absurd (false≢true h)

module _ (cs : List ClassTree) (s z : List Object) (outside : List Value) (b : BodyTree) (arguments rest L : List Value) (are : AreRead b arguments rest L) where
  -- the subject of a name, in normal form
  abbrev pub normal_subject : NamedTree → Value
  normal_subject n = defined_value (value_of (subject_of n) (read_at cs z s true (arguments ++ rest)))

  by_expression : (test : Option Ty → Bool) → test None ≡ false → (e : ExprTree) → is_named_by cs b test e ≡ true → value_at_entry (span_of cs s z outside b L) e ≡ defined_value (value_of (normal_condition b e) (read_at cs z s true (arguments ++ rest)))
  by_expression test no_type e h =
      let p = and_parts (test (code_type cs b e)) (reads_only (λ x. is_argument b x || is_bound b x) e) h in
      ap defined_value
      (plain_value cs z s b in_code (λ x. is_argument b x || is_bound b x) L (arguments ++ rest) (reads_outside b arguments rest L are) true e
      (allowed_by (everywhere (is_allowed b in_code) e) (type_of cs (local_types b) e) test no_type p.0) p.1)

  this_normal : not b.flags.is_static ≡ true → local_in L 0 ≡ local_in (arguments ++ rest) 0
  this_normal h =
      let first = this_argument b h in
      let n = ltb-true 0 (argument_count b) first in
      argument_in b arguments rest L are 0 first ∙ ap (λ o. unwrap_or o value.Null) (sym (get_left arguments rest 0 (omega (arith, n, are.passed))))

  pub subject_normal : (n : NamedTree) → is_named cs b n ≡ true → value_at_entry (span_of cs s z outside b L) (subject_of n) ≡ normal_subject (normal_named b n)
  subject_normal (FieldOf e f) h = by_expression (λ a. is_some (field_read_type cs a (slice_get (all_fields cs) f))) (no_field_read cs (slice_get (all_fields cs) f)) e h
  subject_normal (AllOf e) h = by_expression is_reference refl e h
  subject_normal (ElementsOf e) h = by_expression (has_class (is_array cs)) refl e h
  subject_normal (UptoOf e t) h =
      let p = and_parts (is_this e && not b.flags.is_static) (eqb t b.class) h in
      let q = and_parts (is_this e) (not b.flags.is_static) p.0 in
      ap defined_value (this_value e q.0 cs z s true L) ∙ this_normal q.1

-- ---- what is captured

pub drop_get : {X : Type 0} (n : ℕ) (xs : List X) (i : ℕ) → slice_get (drop n xs) i ≡ slice_get xs (n + i)
drop_get zero xs i = let e : 0 + i ≡ i = omega arith in ap (slice_get xs) (sym e)
drop_get (suc n) [] i = refl
drop_get (suc n) (x ∷ xs) i = let e : suc n + i ≡ suc (n + i) = omega arith in drop_get n xs i ∙ ap (slice_get (x ∷ xs)) (sym e)

if_same : (t u : Bool) (x y : Value) (xs ys : List Value) → t ≡ u → x ≡ y → xs ≡ ys → (if t then x ∷ xs else xs) ≡ (if u then y ∷ ys else ys)
if_same t u x y xs ys e f g = rw (e, f, g) refl

pub captured_same : (ps qs : List LocalTree) (vs ws : List Value) → captures ps ≡ captures qs → ((i : ℕ) → i < length ps → slice_get vs i ≡ slice_get ws i) → captured_among ps vs ≡ captured_among qs ws
captured_same [] [] vs ws e h = refl
captured_same [] (q ∷ qs) vs ws e h = absurd (let no : ⊥ = cc in no)
captured_same (p ∷ ps) [] vs ws e h = absurd (let no : ⊥ = cc in no)
captured_same (p ∷ ps) (q ∷ qs) [] [] e h = refl
captured_same (p ∷ ps) (q ∷ qs) [] (w ∷ ws) e h = let k : ◌≡◌ {A = Option Value} None (Some w) = h 0 (omega arith) in absurd (let no : ⊥ = cc in no)
captured_same (p ∷ ps) (q ∷ qs) (v ∷ vs) [] e h = let k : ◌≡◌ {A = Option Value} (Some v) None = h 0 (omega arith) in absurd (let no : ⊥ = cc in no)
captured_same (p ∷ ps) (q ∷ qs) (v ∷ vs) (w ∷ ws) e h =
    let k : ◌≡◌ {A = Option Value} (Some v) (Some w) = h 0 (omega arith) in
    let same : v ≡ w = cc in
    let mark : p.captured ≡ q.captured = cc in
    let others : captures ps ≡ captures qs = cc in
    if_same p.captured q.captured v w (captured_among ps vs) (captured_among qs ws) mark same (captured_same ps qs vs ws others (λ i l. h (suc i) (omega (arith, l))))

pub count_arguments : (b : BodyTree) → argument_count b ≡ length (this_types b) + length b.params
count_arguments b = length-append (this_types b) (types_of b.params) ∙ ap (λ n. length (this_types b) + n) (length-map b.params (λ (l : LocalTree). l.ty))

-- the captured values, read in the arguments
pub captured_in : (cs : List ClassTree) (s z : List Object) (outside : List Value) (b : BodyTree) (arguments rest L : List Value) → AreRead b arguments rest L → captured_values (span_of cs s z outside b L) ≡ captured_among b.params (drop (length (this_types b)) arguments)
captured_in cs s z outside b arguments rest L are =
    let k = length (this_types b) in
    let n = count_arguments b in
    captured_same b.params b.params (drop k L) (drop k arguments) refl
    (λ i l. drop_get k L i ∙ are.same (k + i) (lt-ltb (k + i) (argument_count b) (omega (arith, l, n))) ∙ sym (drop_get k arguments i))

-- ---- what is constructed

pub constructor_instance : (ctor static none rest : Bool) → ((not ctor || not static && none) && rest) ≡ true → ctor ≡ true → not static ≡ true
constructor_instance true true none rest h e = absurd (false≢true h)
constructor_instance true false none rest h e = refl
constructor_instance false static none rest h e = absurd (false≢true e)

pub free_same : (t : Bool) (f : Value → Bool) (xs ys : List Value) (u w : Bool) → xs ≡ ys → u ≡ w → (t || list_any f xs || u) ≡ (t || list_any f ys || w)
free_same t f xs ys u w e g = rw (e, g) refl

-- ---- one body, whose locals are read twice
module _ (cs : List ClassTree) (s z : List Object) (outside : List Value) (b : BodyTree) (arguments rest L M : List Value) (one : AreRead b arguments rest L) (other : AreRead b arguments rest M) where
  named_same : (ns : List NamedTree) → list_all (is_named cs b) ns ≡ true →
      flat_map (λ n. named_by n (value_at_entry (span_of cs s z outside b L) (subject_of n))) ns ≡ flat_map (λ n. named_by n (value_at_entry (span_of cs s z outside b M) (subject_of n))) ns
  named_same [] h = refl
  named_same (n ∷ ns) h =
      let p = and_parts (is_named cs b n) (list_all (is_named cs b) ns) h in
      let value_ = subject_normal cs s z outside b arguments rest L one n p.0 ∙ sym (subject_normal cs s z outside b arguments rest M other n p.0) in
      flat_map-cons (λ m. named_by m (value_at_entry (span_of cs s z outside b L) (subject_of m))) n ns
      ∙ ap (λ v. named_by n v ++ flat_map (λ m. named_by m (value_at_entry (span_of cs s z outside b L) (subject_of m))) ns) value_
      ∙ ap (λ xs. named_by n (value_at_entry (span_of cs s z outside b M) (subject_of n)) ++ xs) (named_same ns p.1)
      ∙ sym (flat_map-cons (λ m. named_by m (value_at_entry (span_of cs s z outside b M) (subject_of m))) n ns)

  owned_same : has_flags b ≡ true → (x : Object) → is_owned_by_new (span_of cs s z outside b L) x ≡ is_owned_by_new (span_of cs s z outside b M) x
  owned_same flags x =
      ⊎_elim
      (λ yes.
      let first = this_argument b (constructor_instance b.flags.ctor b.flags.is_static (is_none b.result) _ flags yes) in
      ap (λ v. b.flags.ctor && is_object_with v (λ o. is_pair_upto cs o b.class x.owner)) (argument_in b arguments rest L one 0 first ∙ sym (argument_in b arguments rest M other 0 first)))
      (λ no_. ap (λ t. t && is_object_with (local_in L 0) (λ o. is_pair_upto cs o b.class x.owner)) no_ ∙ sym (ap (λ t. t && is_object_with (local_in M 0) (λ o. is_pair_upto cs o b.class x.owner)) no_))
      (cases_Bool b.flags.ctor)

  pub all_named_same : list_all (is_named cs b) b.named ≡ true → all_named (span_of cs s z outside b L) ≡ all_named (span_of cs s z outside b M)
  all_named_same h = named_same b.named h

  pub free_of_same : has_flags b ≡ true → (x : Object) → is_free (span_of cs s z outside b L) x ≡ is_free (span_of cs s z outside b M) x
  free_of_same flags x =
      free_same x.committed (is_in_group_with (span_of cs s z outside b L) x) (captured_values (span_of cs s z outside b L)) (captured_values (span_of cs s z outside b M)) (is_owned_by_new (span_of cs s z outside b L) x) (is_owned_by_new (span_of cs s z outside b M) x)
      (captured_in cs s z outside b arguments rest L one ∙ sym (captured_in cs s z outside b arguments rest M other))
      (owned_same flags x)
