-- Contracts over terms of the sorts of their types: their conditions are well formed, and the terms of the frame condition well sorted.
use Rattle.std.proofs.Common.{◌≡◌, ℕ, zero, suc, List, [], ◌∷◌, ◌++◌, length, drop, map, Bool, true, false, ◌&&◌, refl, sym, ap, subst}
use Rattle.std.specs.Prelude.{Option, Some, None, is_some, slice_get, flat_map, option_to_list, if◌then◌else◌}
use Rattle.std.specs.List.{list_all}
use Rattle.std.proofs.lemmas.Bool.{false≢true, and_parts, and_from}
use Rattle.ss_core.specs.declared.names.Ty.{Ty}
use Rattle.ss_core.specs.declared.names.Ty.TheVariants as ty
use Rattle.ss_core.specs.Tree.{ClassTree, ExprTree, LocalTree, NamedTree, FieldOf, AllOf, ElementsOf, UptoOf, BodyTree}
use Rattle.ss_core.specs.Chain.{levels}
use Rattle.ss_core.specs.Types.{is_class_type}
use Rattle.ss_store_rules.specs.Locals.{types_of, argument_types, local_types}
use Rattle.ss_store_rules.specs.Types.{is_reference, type_of}
use Rattle.ss_store_rules.specs.Typed.{is_local}
use Rattle.ss_machine_rules.specs.Frame.{subject_of}
use Rattle.ss_logic.specs.declared.Sort.{Sort}
use Rattle.ss_logic.specs.declared.Sort.TheVariants as sort
use Rattle.ss_logic.specs.Terms.{Term, sort_of_type, same_sort, sort_of, is_well_sorted, have_sorts}
use Rattle.ss_logic.specs.Formulas.{Formula, is_well_formed}
use Rattle.ss_logic.proofs.Truth.{same_sort_refl}
use Rattle.ss_logic.specs.Express.{and_of, Choice, Meant, One, Either, Says, choices, Context, default_of_sort, meant_or_null, local_meant, meant, defined, not_null}
use Rattle.ss_logic.specs.Frames.{OwnerTerm, kept}
use Rattle.ss_logic.specs.Sorted.{is_object, is_name, AreSorted}
use Rattle.ss_logic_means.specs.Scenes.{has_no_default, is_stated}
use Rattle.ss_logic_means.specs.Sorts.{HasSort, AreWellFormed, HaveSort, IsWellExpressed, IsSorted}
use Rattle.ss_logic_means.proofs.Everywhere.{all_locals, plainly_all, speaks_all}
use Rattle.ss_logic_means.proofs.Expressed.{expressed}
use Rattle.ss_logic_means.proofs.Forming.{one_sorted}
use Rattle.ss_logic_means.proofs.Operating.{reference_sort, not_null_formed}
use Rattle.ss_logic_means.proofs.Contexts.{sorted_among}
use Rattle.ss_logic_means.proofs.Sorting.{all_formed, more_formed, sort_more}
use Rattle.ss_logic_means.proofs.Stated.{condition_formed}
use Rattle.ss_logic_tables.specs.Spans.{is_typed_name, IsTypedBody}
use Rattle.ss_logic_tables.proofs.Freeing.{class_if_captured}
use Rattle.ss_vcgen_heaps.specs.Contracts.{defaults_meant, contract_context, no_result, conditions, named_term, naming_parts, named_as, named_terms, term_of_one, captured_terms, pairs_of, owned_terms, frame_terms}
use Rattle.ss_vcgen_safe.specs.Places.{IsTerm, AreTerms}
use Rattle.ss_vcgen_safe.proofs.Kept.{kept_formed}

-- ---- terms for locals

module _ (cs : List ClassTree) where
  pub term_at : (ts : List Ty) (ms : List Meant) → AreTerms cs ts ms → (x : ℕ) (a : Ty) → slice_get ts x ≡ Some a → IsTerm cs a (meant_or_null (slice_get ms x))
  term_at [] [] h x a e = absurd (let no : ⊥ = cc in no)
  term_at (t ∷ ts) (m ∷ ms) h zero a e = let same : t ≡ a = cc in subst (λ u. IsTerm cs u m) same h.0
  term_at (t ∷ ts) (m ∷ ms) h (suc x) a e = term_at ts ms h.1 x a e
  term_at ts ms h x a e = absurd h

  terms_count : (ts : List Ty) (ms : List Meant) → AreTerms cs ts ms → length ms ≡ length ts
  terms_count [] [] h = refl
  terms_count (t ∷ ts) (m ∷ ms) h = ap suc (terms_count ts ms h.1)
  terms_count ts ms h = absurd h

  terms_more : (ts us : List Ty) (ms ns : List Meant) → AreTerms cs ts ms → AreTerms cs us ns → AreTerms cs (ts ++ us) (ms ++ ns)
  terms_more [] us [] ns h k = k
  terms_more (t ∷ ts) us (m ∷ ms) ns h k = (h.0, terms_more ts us ms ns h.1 k)
  terms_more ts us ms ns h k = absurd h

  default_sorted : (t : Ty) → HasSort cs [] (sort_of_type t) (default_of_sort (sort_of_type t))
  default_sorted ty.Int = (refl, refl)
  default_sorted ty.Bool = (refl, refl)
  default_sorted ty.Null = (refl, refl)
  default_sorted (ty.Ref t n) = (refl, refl)

  pub default_terms : (ts : List Ty) → AreTerms cs ts (defaults_meant ts)
  default_terms [] = tt
  default_terms (t ∷ ts) = (record { term = default_of_sort (sort_of_type t); is = refl; sorted = default_sorted t }, default_terms ts)

  meant_sorted : (a : Ty) (m : Meant) → IsTerm cs a m → (more : List Sort) → HaveSort cs more (sort_of_type a) (choices m)
  meant_sorted a m i more = subst (λ y. HaveSort cs more (sort_of_type a) (choices y)) (sym i.is) (one_sorted cs more (sort_of_type a) i.term (sort_more cs [] more (sort_of_type a) i.term i.sorted))

-- a context of two stores and of terms of the sorts of the types
pub context_sorted : (c : Context) → HasSort c.classes [] sort.Store c.now → HasSort c.classes [] sort.Store c.entry → AreTerms c.classes c.types c.locals → IsSorted c []
context_sorted c now entry are = record {
  now = now;
  entry = entry;
  count = terms_count c.classes c.types c.locals are;
  locals = λ x a is more. meant_sorted c.classes a (local_meant c x) (term_at c.classes c.types c.locals are x a is) more;
}

-- ---- small things

same_if : (s r : Sort) → s ≡ r → same_sort s r ≡ true
same_if s r e = subst (λ q. same_sort s q ≡ true) e (same_sort_refl s)

one_more : (cs : List ClassTree) (s : Sort) (ss : List Sort) (u : Term) (us : List Term) → HasSort cs [] s u → have_sorts cs ss us ≡ true → have_sorts cs (s ∷ ss) (u ∷ us) ≡ true
one_more cs s ss u us h k =
    and_from (same_sort (sort_of cs [] u) s && is_well_sorted cs [] u) (have_sorts cs ss us) (and_from (same_sort (sort_of cs [] u) s) (is_well_sorted cs [] u) (same_if (sort_of cs [] u) s h.0) h.1) k

pub object_sorted : (cs : List ClassTree) (u : Term) → HasSort cs [] sort.Rest u → is_object cs u ≡ true
object_sorted cs u h = one_more cs sort.Rest [] u [] h refl

pub store_and_object : (cs : List ClassTree) (s o : Term) → HasSort cs [] sort.Store s → HasSort cs [] sort.Rest o → have_sorts cs (sort.Store ∷ sort.Rest ∷ []) (s ∷ o ∷ []) ≡ true
store_and_object cs s o h k = one_more cs sort.Store (sort.Rest ∷ []) s (o ∷ []) h (one_more cs sort.Rest [] o [] k refl)

all_more : {X : Type 0} (p : X → Bool) (xs ys : List X) → list_all p xs ≡ true → list_all p ys ≡ true → list_all p (xs ++ ys) ≡ true
all_more p [] ys h k = k
all_more p (x ∷ xs) ys h k = let both = and_parts (p x) (list_all p xs) h in and_from (p x) (list_all p (xs ++ ys)) both.0 (all_more p xs ys both.1 k)

reference_some : (a : Option Ty) → is_reference a ≡ true → is_some a ≡ true
reference_some None h = absurd (false≢true h)
reference_some (Some t) h = refl

class_sort : (t : Ty) → is_class_type t ≡ true → sort_of_type t ≡ sort.Rest
class_sort ty.Int h = absurd (false≢true h)
class_sort ty.Bool h = absurd (false≢true h)
class_sort ty.Null h = absurd (false≢true h)
class_sort (ty.Ref t n) h = refl

pub this_type : (b : BodyTree) → b.flags.is_static ≡ false → slice_get (local_types b) 0 ≡ Some (ty.Ref (record { 0 = b.class }) true)
this_type b instance_ = rw instance_ refl

-- ---- what is named, captured and owned

module _ (cs : List ClassTree) where
  name_sorted : (n : NamedTree) (g : Formula) (u : Term) → is_well_formed cs [] g ≡ true → HasSort cs [] sort.Rest u → is_name cs (named_term n g u) ≡ true
  name_sorted (FieldOf e f) g u h k = and_from (is_well_formed cs [] g) (is_object cs u) h (object_sorted cs u k)
  name_sorted (AllOf e) g u h k = and_from (is_well_formed cs [] g) (is_object cs u) h (object_sorted cs u k)
  name_sorted (ElementsOf e) g u h k = and_from (is_well_formed cs [] g) (is_object cs u) h (object_sorted cs u k)
  name_sorted (UptoOf e c) g u h k = and_from (is_well_formed cs [] g) (is_object cs u) h (object_sorted cs u k)

  module _ (n : NamedTree) (guards : List Formula) (formed : AreWellFormed cs [] guards) where
    choices_sorted : (xs : List Choice) → HaveSort cs [] sort.Rest xs → list_all (is_name cs) (map (λ (y : Choice). named_term n (and_of (guards ++ y.condition ∷ [])) y.value) xs) ≡ true
    choices_sorted [] h = refl
    choices_sorted (y ∷ xs) h =
        and_from (is_name cs (named_term n (and_of (guards ++ y.condition ∷ [])) y.value)) (list_all (is_name cs) (map (λ (y : Choice). named_term n (and_of (guards ++ y.condition ∷ [])) y.value) xs))
        (name_sorted n (and_of (guards ++ y.condition ∷ [])) y.value (all_formed cs [] (guards ++ y.condition ∷ []) (more_formed cs [] guards (y.condition ∷ []) formed (h.0, tt))) h.1)
        (choices_sorted xs h.2)

    named_sorted : (x : Meant) → HaveSort cs [] sort.Rest (choices x) → list_all (is_name cs) (named_as n guards x) ≡ true
    named_sorted (One u) h = and_from (is_name cs (named_term n (and_of guards) u)) true (name_sorted n (and_of guards) u (all_formed cs [] guards formed) h.1) refl
    named_sorted (Either xs) h = choices_sorted xs h
    named_sorted (Says f) h = refl

  captured_one : (p : LocalTree) (m : Meant) (ts : List Term) → is_local cs p ≡ true → IsTerm cs p.ty m → list_all (is_object cs) ts ≡ true → list_all (is_object cs) (if p.captured then term_of_one m ++ ts else ts) ≡ true
  captured_one p m ts local i h = one_of p.captured (class_if_captured cs p local)
    where
      one_of : (c : Bool) → (c ≡ true → is_class_type p.ty ≡ true) → list_all (is_object cs) (if c then term_of_one m ++ ts else ts) ≡ true
      one_of false class = h
      one_of true class =
          subst (λ z. list_all (is_object cs) (term_of_one z ++ ts) ≡ true) (sym i.is)
          (and_from (is_object cs i.term) (list_all (is_object cs) ts) (object_sorted cs i.term (subst (λ s. HasSort cs [] s i.term) (class_sort p.ty (class refl)) i.sorted)) h)

  captured_sorted : (ps : List LocalTree) (ms : List Meant) → AreTerms cs (types_of ps) ms → list_all (is_local cs) ps ≡ true → list_all (is_object cs) (captured_terms ps ms) ≡ true
  captured_sorted [] ms a h = refl
  captured_sorted (p ∷ ps) (m ∷ ms) a h =
      let both = and_parts (is_local cs p) (list_all (is_local cs) ps) h in
      captured_one p m (captured_terms ps ms) both.0 a.0 (captured_sorted ps ms a.1 both.1)
  captured_sorted (p ∷ ps) [] a h = absurd a

  params_sorted : (static : Bool) (c : ℕ) (ps : List LocalTree) (ms : List Meant) → AreTerms cs ((if static then [] else ty.Ref (record { 0 = c }) true ∷ []) ++ types_of ps) ms → list_all (is_local cs) ps ≡ true →
      list_all (is_object cs) (captured_terms ps (drop (length (if static then [] else ty.Ref (record { 0 = c }) true ∷ [])) ms)) ≡ true
  params_sorted true c ps ms a h = captured_sorted ps ms a h
  params_sorted false c ps (m ∷ ms) a h = captured_sorted ps ms a.1 h
  params_sorted false c ps [] a h = absurd a

  pairs_sorted : (u : Term) → HasSort cs [] sort.Rest u → (ks : List ℕ) → list_all (λ (w : OwnerTerm). is_object cs w.object) (map (λ k. record { object = u; class = k }) ks) ≡ true
  pairs_sorted u h [] = refl
  pairs_sorted u h (k ∷ ks) = and_from (is_object cs u) (list_all (λ (w : OwnerTerm). is_object cs w.object) (map (λ k. record { object = u; class = k }) ks)) (object_sorted cs u h) (pairs_sorted u h ks)

-- ---- a contract

module _ (cs : List ClassTree) (b : BodyTree) where
  -- the arguments, the other locals at their defaults, and the result
  contract_terms : (ms ns : List Meant) → AreTerms cs (argument_types b) ms → AreTerms cs (option_to_list b.result) ns → AreTerms cs (local_types b) (ms ++ defaults_meant (types_of b.locals) ++ ns)
  contract_terms ms ns h k =
      let L = types_of b.locals in
      terms_more cs (argument_types b ++ L) (option_to_list b.result) (ms ++ defaults_meant L) ns (terms_more cs (argument_types b) L ms (defaults_meant L) h (default_terms cs L)) k

  pub no_result_terms : AreTerms cs (option_to_list b.result) (no_result b)
  no_result_terms = default_terms cs (option_to_list b.result)

  module _ (now entry : Term) (is_now : HasSort cs [] sort.Store now) (is_entry : HasSort cs [] sort.Store entry) (ms ns : List Meant) (h : AreTerms cs (argument_types b) ms) (k : AreTerms cs (option_to_list b.result) ns) where
    abbrev C : Context
    C = contract_context cs b now entry ms ns

    pub conditions_formed : (es : List ExprTree) → list_all (is_stated cs (local_types b)) es ≡ true → AreWellFormed cs [] (conditions es C)
    conditions_formed [] is = tt
    conditions_formed (e ∷ es) is =
        let p = and_parts (is_stated cs (local_types b) e) (list_all (is_stated cs (local_types b)) es) is in
        (condition_formed all_locals C [] (sorted_among all_locals C [] (context_sorted C is_now is_entry (contract_terms ms ns h k))) refl e (speaks_all e) p.0, conditions_formed es p.1)

  module _ (typed : IsTypedBody cs b) (before after : Term) (is_before : HasSort cs [] sort.Store before) (is_after : HasSort cs [] sort.Store after) (ms : List Meant) (h : AreTerms cs (argument_types b) ms) where
    abbrev S : Context
    S = record (contract_context cs b before before ms (no_result b)) { inside_old = true }

    terms_there : AreTerms cs (local_types b) S.locals
    terms_there = contract_terms ms (no_result b) h no_result_terms

    subject_expressed : (x : ExprTree) → has_no_default x ≡ true → is_reference (type_of cs (local_types b) x) ≡ true → IsWellExpressed cs [] sort.Rest (defined x S) (meant x S)
    subject_expressed x none is =
        subst (λ s. IsWellExpressed cs [] s (defined x S) (meant x S)) (reference_sort (type_of cs (local_types b) x) is)
        (expressed all_locals x S [] (sorted_among all_locals S [] (context_sorted S is_before is_before terms_there)) (plainly_all x none) (reference_some (type_of cs (local_types b) x) is) (λ _. refl))

    names_sorted : (ns : List NamedTree) → list_all (is_typed_name cs b) ns ≡ true → list_all (is_name cs) (named_terms ns S) ≡ true
    names_sorted [] is = refl
    names_sorted (n ∷ ns) is =
        let p = and_parts (is_typed_name cs b n) (list_all (is_typed_name cs b) ns) is in
        let q = and_parts (has_no_default (subject_of n)) (is_reference (type_of cs (local_types b) (subject_of n))) p.0 in
        let x = meant (subject_of n) S in
        let e = subject_expressed (subject_of n) q.0 q.1 in
        all_more (is_name cs) (named_as n (naming_parts (subject_of n) S) x) (named_terms ns S)
        (named_sorted cs n (naming_parts (subject_of n) S) (more_formed cs [] (defined (subject_of n) S) (not_null x ∷ []) e.0 (not_null_formed cs [] x e.1, tt)) x e.1)
        (names_sorted ns p.1)

    owned_sorted : list_all (λ (w : OwnerTerm). is_object cs w.object) (owned_terms cs b S) ≡ true
    owned_sorted = one_of b.flags.ctor (λ e. term_at cs (local_types b) S.locals terms_there 0 (ty.Ref (record { 0 = b.class }) true) (this_type b (typed.constructs e)))
      where
        one_of : (c : Bool) → (c ≡ true → IsTerm cs (ty.Ref (record { 0 = b.class }) true) (local_meant S 0)) → list_all (λ (w : OwnerTerm). is_object cs w.object) (if c then flat_map (pairs_of cs b.class) (term_of_one (local_meant S 0)) else []) ≡ true
        one_of false first = refl
        one_of true first =
            let i = first refl in
            subst (λ x. list_all (λ (w : OwnerTerm). is_object cs w.object) (flat_map (pairs_of cs b.class) (term_of_one x)) ≡ true) (sym i.is)
            (all_more (λ (w : OwnerTerm). is_object cs w.object) (pairs_of cs b.class i.term) [] (pairs_sorted cs i.term i.sorted (levels cs b.class)) refl)

    module _ (outside : List Term) (objects : list_all (is_object cs) outside ≡ true) where
      frame_terms_sorted : AreSorted cs (frame_terms cs b before after ms outside)
      frame_terms_sorted = record {
        stores = one_more cs sort.Store (sort.Store ∷ []) before (after ∷ []) is_before (one_more cs sort.Store [] after [] is_after refl);
        named = names_sorted b.named typed.named;
        captured = params_sorted cs b.flags.is_static b.class b.params ms h typed.params;
        owned = owned_sorted;
        outside = objects;
      }

      -- the frame condition is well formed
      pub frame_formed : is_well_formed cs [] (kept cs (frame_terms cs b before after ms outside)) ≡ true
      frame_formed = kept_formed cs (frame_terms cs b before after ms outside) frame_terms_sorted
