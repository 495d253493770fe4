-- The terms of a frame condition are well sorted.
use Rattle.std.proofs.Common.{◌≡◌, ℕ, List, [], ◌∷◌, ◌++◌, length, drop, map, Bool, true, false, ◌&&◌, refl, sym, subst}
use Rattle.std.specs.Prelude.{flat_map, if◌then◌else◌}
use Rattle.std.specs.List.{list_all}
use Rattle.std.proofs.lemmas.Bool.{and_parts, and_from}
use Rattle.ss_core.specs.declared.names.Ty.{Ty}
use Rattle.ss_core.specs.declared.names.Ty.TheVariants as ty
use Rattle.ss_core.specs.Tree.{ClassTree, LocalTree, NamedTree, FieldOf, AllOf, ElementsOf, UptoOf, BodyTree}
use Rattle.ss_core.specs.Chain.{levels}
use Rattle.ss_core.specs.Types.{is_class_type}
use Rattle.ss_store_rules.specs.declared.Value.{Value as ObjectValue}
use Rattle.ss_store_rules.specs.Locals.{types_of, local_types}
use Rattle.ss_store_rules.specs.Types.{is_reference, type_of}
use Rattle.ss_store_rules.specs.Typed.{is_local}
use Rattle.ss_machine_rules.specs.Frame.{subject_of}
use Rattle.ss_logic.specs.declared.Sort.{Sort}
use Rattle.ss_logic.specs.declared.Sort.TheVariants as sort
use Rattle.ss_logic.specs.Values.{Structure}
use Rattle.ss_logic.specs.Terms.{Term, same_sort, sort_of, is_well_sorted, have_sorts}
use Rattle.ss_logic.specs.Formulas.{Formula, is_well_formed}
use Rattle.ss_logic.proofs.Truth.{same_sort_refl}
use Rattle.ss_logic.specs.Express.{and_of, Choice, Meant, One, Either, Says, choices, Context, local_meant, meant, defined, not_null}
use Rattle.ss_logic.specs.Frames.{OwnerTerm}
use Rattle.ss_logic.specs.Sorted.{is_object, is_name, AreSorted}
use Rattle.ss_logic_means.specs.Scenes.{has_no_default}
use Rattle.ss_logic_means.specs.Sorts.{HasSort, AreWellFormed, HaveSort}
use Rattle.ss_logic_means.proofs.Sorting.{all_formed, more_formed}
use Rattle.ss_logic_means.proofs.Everywhere.{all_locals}
use Rattle.ss_logic_means.proofs.Contexts.{sorted_among, readable_formed}
use Rattle.ss_vcgen_heaps.specs.Contracts.{named_term, naming_parts, named_as, named_terms, term_of_one, captured_terms, pairs_of, owned_terms}
use Rattle.ss_logic_tables.specs.Spans.{IsArgument, AreArguments, AreReferences, is_typed_name, SpanTerms, SpanValues, IsSpan, terms_of}
use Rattle.ss_logic_tables.proofs.Standing.{ContextOf, context_sorted, stores_sorted, entry_expressed}
use Rattle.ss_logic_tables.proofs.Freeing.{one_term, class_if_captured, the_first, this_term}

same_if : (s r : Sort) → s ≡ r → same_sort s r ≡ true
same_if s r e = subst (λ q. same_sort s q ≡ true) e (same_sort_refl s)

pub one_more : (cs : List ClassTree) (s : Sort) (ss : List Sort) (u : Term) (us : List Term) → HasSort cs [] s u → have_sorts cs ss us ≡ true → have_sorts cs (s ∷ ss) (u ∷ us) ≡ true
one_more cs s ss u us h k =
    and_from (same_sort (sort_of cs [] u) s && is_well_sorted cs [] u) (have_sorts cs ss us) (and_from (same_sort (sort_of cs [] u) s) (is_well_sorted cs [] u) (same_if (sort_of cs [] u) s h.0) h.1) k

object_sorted : (cs : List ClassTree) (u : Term) → HasSort cs [] sort.Rest u → is_object cs u ≡ true
object_sorted cs u h = one_more cs sort.Rest [] u [] h refl

all_more : {X : Type 0} (p : X → Bool) (xs ys : List X) → list_all p xs ≡ true → list_all p ys ≡ true → list_all p (xs ++ ys) ≡ true
all_more p [] ys h k = k
all_more p (x ∷ xs) ys h k = let both = and_parts (p x) (list_all p xs) h in and_from (p x) (list_all p (xs ++ ys)) both.0 (all_more p xs ys both.1 k)

-- ---- what is named

module _ (cs : List ClassTree) where
  name_sorted : (n : NamedTree) (g : Formula) (u : Term) → is_well_formed cs [] g ≡ true → HasSort cs [] sort.Rest u → is_name cs (named_term n g u) ≡ true
  name_sorted (FieldOf e f) g u h k = and_from (is_well_formed cs [] g) (is_object cs u) h (object_sorted cs u k)
  name_sorted (AllOf e) g u h k = and_from (is_well_formed cs [] g) (is_object cs u) h (object_sorted cs u k)
  name_sorted (ElementsOf e) g u h k = and_from (is_well_formed cs [] g) (is_object cs u) h (object_sorted cs u k)
  name_sorted (UptoOf e c) g u h k = and_from (is_well_formed cs [] g) (is_object cs u) h (object_sorted cs u k)

  module _ (n : NamedTree) (guards : List Formula) (formed : AreWellFormed cs [] guards) where
    choices_sorted : (xs : List Choice) → HaveSort cs [] sort.Rest xs → list_all (is_name cs) (map (λ (y : Choice). named_term n (and_of (guards ++ y.condition ∷ [])) y.value) xs) ≡ true
    choices_sorted [] h = refl
    choices_sorted (y ∷ xs) h =
        and_from (is_name cs (named_term n (and_of (guards ++ y.condition ∷ [])) y.value)) (list_all (is_name cs) (map (λ (y : Choice). named_term n (and_of (guards ++ y.condition ∷ [])) y.value) xs))
        (name_sorted n (and_of (guards ++ y.condition ∷ [])) y.value (all_formed cs [] (guards ++ y.condition ∷ []) (more_formed cs [] guards (y.condition ∷ []) formed (h.0, tt))) h.1)
        (choices_sorted xs h.2)

    named_sorted : (x : Meant) → HaveSort cs [] sort.Rest (choices x) → list_all (is_name cs) (named_as n guards x) ≡ true
    named_sorted (One u) h = and_from (is_name cs (named_term n (and_of guards) u)) true (name_sorted n (and_of guards) u (all_formed cs [] guards formed) h.1) refl
    named_sorted (Either xs) h = choices_sorted xs h
    named_sorted (Says f) h = refl

-- ---- what is captured

module _ (cs : List ClassTree) (m : Structure) where
  captured_one : (c : Bool) (a : Ty) (x : Meant) (u : ObjectValue) (ts : List Term) → (c ≡ true → is_class_type a ≡ true) → IsArgument cs m a x u → list_all (is_object cs) ts ≡ true → list_all (is_object cs) (if c then term_of_one x ++ ts else ts) ≡ true
  captured_one false a x u ts k i h = h
  captured_one true a x u ts k i h =
      let y = one_term cs m a x u (k refl) i in
      subst (λ z. list_all (is_object cs) (term_of_one z ++ ts) ≡ true) (sym y.1) (and_from (is_object cs y.0) (list_all (is_object cs) ts) (object_sorted cs y.0 y.2) h)

  captured_sorted : (ps : List LocalTree) (xs : List Meant) (vs : List ObjectValue) → AreArguments cs m (types_of ps) xs vs → list_all (is_local cs) ps ≡ true → list_all (is_object cs) (captured_terms ps xs) ≡ true
  captured_sorted [] xs vs a h = refl
  captured_sorted (p ∷ ps) (x ∷ xs) (u ∷ vs) a h =
      let both = and_parts (is_local cs p) (list_all (is_local cs) ps) h in
      captured_one p.captured p.ty x u (captured_terms ps xs) (class_if_captured cs p both.0) a.0 (captured_sorted ps xs vs a.1 both.1)
  captured_sorted (p ∷ ps) [] vs a h = absurd a
  captured_sorted (p ∷ ps) (x ∷ xs) [] a h = absurd a

  params_sorted : (static : Bool) (c : ℕ) (ps : List LocalTree) (xs : List Meant) (vs : List ObjectValue) → AreArguments cs m ((if static then [] else ty.Ref (record { 0 = c }) true ∷ []) ++ types_of ps) xs vs → list_all (is_local cs) ps ≡ true →
      list_all (is_object cs) (captured_terms ps (drop (length (if static then [] else ty.Ref (record { 0 = c }) true ∷ [])) xs)) ≡ true
  params_sorted true c ps xs vs a h = captured_sorted ps xs vs a h
  params_sorted false c ps (x ∷ xs) (u ∷ vs) a h = captured_sorted ps xs vs a.1 h
  params_sorted false c ps [] vs a h = absurd a
  params_sorted false c ps (x ∷ xs) [] a h = absurd a

  pairs_sorted : (u : Term) → HasSort cs [] sort.Rest u → (ks : List ℕ) → list_all (λ (w : OwnerTerm). is_object cs w.object) (map (λ k. record { object = u; class = k }) ks) ≡ true
  pairs_sorted u h [] = refl
  pairs_sorted u h (k ∷ ks) = and_from (is_object cs u) (list_all (λ (w : OwnerTerm). is_object cs w.object) (map (λ k. record { object = u; class = k }) ks)) (object_sorted cs u h) (pairs_sorted u h ks)

  references_sorted : (us : List Term) (ys : List ObjectValue) → AreReferences cs m us ys → list_all (is_object cs) us ≡ true
  references_sorted [] [] a = refl
  references_sorted (u ∷ us) (y ∷ ys) a = and_from (is_object cs u) (list_all (is_object cs) us) (object_sorted cs u a.0) (references_sorted us ys a.2)
  references_sorted [] (y ∷ ys) a = absurd a
  references_sorted (u ∷ us) [] a = absurd a

-- ---- spans

module _ (cs : List ClassTree) (m : Structure) (b : BodyTree) (t : SpanTerms) (v : SpanValues) (sp : IsSpan cs m b t v) where
  abbrev S : Context
  S = ContextOf cs m b t v sp t.before

  names_sorted : (ns : List NamedTree) → list_all (is_typed_name cs b) ns ≡ true → list_all (is_name cs) (named_terms ns S) ≡ true
  names_sorted [] h = refl
  names_sorted (n ∷ ns) h =
      let p = and_parts (is_typed_name cs b n) (list_all (is_typed_name cs b) ns) h in
      let q = and_parts (has_no_default (subject_of n)) (is_reference (type_of cs (local_types b) (subject_of n))) p.0 in
      let e = entry_expressed cs m b t v sp (subject_of n) q.0 q.1 in
      let there = readable_formed all_locals S [] (sorted_among all_locals S [] (context_sorted cs m b t v sp)) (meant (subject_of n) S) e.1 in
      all_more (is_name cs) (named_as n (naming_parts (subject_of n) S) (meant (subject_of n) S)) (named_terms ns S)
      (named_sorted cs n (naming_parts (subject_of n) S) (more_formed cs [] (defined (subject_of n) S) (not_null (meant (subject_of n) S) ∷ []) e.0 (there.0, tt)) (meant (subject_of n) S) e.1)
      (names_sorted ns p.1)

  owned_sorted : list_all (λ (w : OwnerTerm). is_object cs w.object) (owned_terms cs b S) ≡ true
  owned_sorted = by b.flags.ctor refl
    where
      by : (c : Bool) → b.flags.ctor ≡ c → list_all (λ (w : OwnerTerm). is_object cs w.object) (if c then flat_map (pairs_of cs b.class) (term_of_one (local_meant S 0)) else []) ≡ true
      by false e = refl
      by true e =
          let f = the_first cs m b t v sp e in
          subst (λ x. list_all (λ (w : OwnerTerm). is_object cs w.object) (flat_map (pairs_of cs b.class) (term_of_one x)) ≡ true) (sym (this_term cs m b t v sp e))
          (all_more (λ (w : OwnerTerm). is_object cs w.object) (pairs_of cs b.class f.0) [] (pairs_sorted cs m f.0 f.4 (levels cs b.class)) refl)

  pub terms_sorted : AreSorted cs (terms_of cs b t)
  terms_sorted =
      let stores = stores_sorted cs m b t v sp in
      record {
        stores = one_more cs sort.Store (sort.Store ∷ []) t.before (t.after ∷ []) stores.0 (one_more cs sort.Store [] t.after [] stores.1 refl);
        named = names_sorted b.named sp.body.named;
        captured = params_sorted cs m b.flags.is_static b.class b.params t.arguments v.arguments sp.arguments sp.body.params;
        owned = owned_sorted;
        outside = references_sorted cs m t.outside v.outside sp.outside;
      }
