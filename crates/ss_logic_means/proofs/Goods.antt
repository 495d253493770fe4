-- Each instance of a rule on good stores is well formed.
use Rattle.std.proofs.Common.{◌≡◌, ℕ, pos, negsuc, List, [], ◌∷◌, ◌++◌, Bool, true, false, ◌&&◌, eqb, map, Option, Some, None, refl, ◌∙◌, ap}
use Rattle.std.specs.Prelude.{if◌then◌else◌, ◌^◌, ◌-◌}
use Rattle.std.proofs.lemmas.Bool.{false≢true, and_parts}
use Rattle.ss_core.specs.declared.names.Mark.{Mark}
use Rattle.ss_core.specs.declared.names.Mark.TheVariants as mark
use Rattle.ss_core.specs.declared.names.Ty.{Ty}
use Rattle.ss_core.specs.declared.names.Ty.TheVariants as ty
use Rattle.ss_core.specs.Tree.{ClassTree}
use Rattle.ss_core.specs.Types.{is_class_type}
use Rattle.ss_store_rules.specs.Changes.{field_class, field_mark, field_type}
use Rattle.ss_logic.specs.declared.Sort.{Sort}
use Rattle.ss_logic.specs.declared.Sort.TheVariants as sort
use Rattle.ss_logic.specs.Terms.{Element, Length, Term, app, sort_of_type, has_field, have_sorts}
use Rattle.ss_logic.specs.Formulas.{Formula, neg}
use Rattle.ss_logic.specs.Objects.{element_class}
use Rattle.ss_logic.specs.declared.GoodRule.{GoodRule}
use Rattle.ss_logic.specs.declared.GoodRule.TheVariants as rule
use Rattle.ss_logic.specs.Shapes.{number, null_term, class_term, level_of, owner_of, type_of, pair_of, equal, differ, at_most, sub_atom, allocated, committed, ready, group, given, all_of, natural_of, class_of_term}
use Rattle.ss_logic.specs.Reads.{Look, FieldLook, ElementLook, LevelLook, OwnerLook, NextLook, AllocatedLook, CommittedLook, ReadyLook, LengthLook, is_look, look_from}
use Rattle.ss_logic.specs.Good.{full_level, full_of, owned_committed, grouped_uncommitted, owned_by_number, owned_of, has_its_field, field_term, marked, marked_field, marks_of, in_range, arrays_of_references, element_typed, typed_field, typed_element, level_typed, length_typed, typed_look, typed_read, level_at, typed_level, owner_allocated, is_number, typed_of, not_null, ready_field, ready_look, ready_read, ready_of}
use Rattle.ss_logic.specs.GoodRules.{good_sentence, good_instance_of}
use Rattle.ss_logic.proofs.Options.{if_some, and_then_some}
use Rattle.ss_logic_means.proofs.Sorting.{sorted_one, equal_formed, more_formed}
use Rattle.ss_logic_means.proofs.Forming.{negation}
use Rattle.ss_logic_means.proofs.Operating.{number_sorted, null_sorted, at_most_formed}
use Rattle.ss_logic_means.proofs.Contexts.{class_sorted, type_sorted, pair_sorted, sub_formed, group_formed, level_sorted, owner_sorted, allocated_formed, committed_formed, full_formed}
use Rattle.ss_logic_means.proofs.Sentences.{none_some, F, All, S, sorted_from, rest_sorted, field_sorted, element_sorted, ready_formed, given_formed, all_of_formed, some_formed, when_formed}
use Rattle.ss_logic_means.proofs.ReadingInstances.{IsRead, is_read}

reference_sort : (y : Ty) → is_class_type y ≡ true → sort_of_type y ≡ sort.Rest
reference_sort (ty.Ref t n) h = refl
reference_sort ty.Int h = absurd (false≢true h)
reference_sort ty.Bool h = absurd (false≢true h)
reference_sort ty.Null h = absurd (false≢true h)

module _ (cs : List ClassTree) (s : Term) (store : S cs sort.Store s) where
  three_rest : (p o t : Term) → have_sorts cs (sort.Rest ∷ sort.Rest ∷ sort.Rest ∷ []) (p ∷ o ∷ t ∷ []) ≡ true → S cs sort.Rest p × S cs sort.Rest o × S cs sort.Rest t
  three_rest p o t h = let a = sorted_from cs (sort.Rest ∷ sort.Rest ∷ sort.Rest ∷ []) (p ∷ o ∷ t ∷ []) h in (a.0, a.1.0, a.1.1.0)

  there : (o : Term) → S cs sort.Rest o → F cs (allocated s o)
  there o h = allocated_formed cs [] s store o h

  in_place : (o : Term) → S cs sort.Rest o → F cs (committed s o)
  in_place o h = committed_formed cs [] s store o h

  level : (o : Term) → S cs sort.Rest o → S cs sort.Rest (level_of s o)
  level o h = level_sorted cs [] s store o h

  owner : (o : Term) → S cs sort.Rest o → S cs sort.Rest (owner_of s o)
  owner o h = owner_sorted cs [] s store o h

  not_null_formed : (x : Term) → S cs sort.Rest x → F cs (differ x null_term)
  not_null_formed x h = equal_formed cs [] false sort.Rest x null_term h (null_sorted cs [])

  -- the class of an object counts as this
  typed_formed : (x t : Term) → S cs sort.Rest x → S cs sort.Rest t → F cs (sub_atom (type_of x) t)
  typed_formed x t h k = sub_formed cs [] (type_of x) t (type_sorted cs [] x h) k

  classed_formed : (x : Term) (t : ℕ) → S cs sort.Rest x → F cs (sub_atom (type_of x) (class_term t))
  classed_formed x t h = typed_formed x (class_term t) h (class_sorted cs [] t)

  owner_is_pair : (p o t : Term) → S cs sort.Rest p → S cs sort.Rest o → S cs sort.Rest t → F cs (equal (owner_of s p) (pair_of o t))
  owner_is_pair p o t hp ho ht = equal_formed cs [] true sort.Rest (owner_of s p) (pair_of o t) (owner p hp) (pair_sorted cs [] o t ho ht)

  -- ---- levels and owners

  full_level_formed : (o : Term) → S cs sort.Rest o → F cs (full_level s o)
  full_level_formed o h = given_formed cs (allocated s o ∷ committed s o ∷ []) (equal (level_of s o) (type_of o)) (there o h, (in_place o h, tt)) (full_formed cs [] s store o h)

  full_of_formed : (ts : List Term) (f : Formula) → full_of cs s ts ≡ Some f → F cs f
  full_of_formed (o ∷ []) f e = when_formed cs (have_sorts cs (sort.Rest ∷ []) (o ∷ [])) (full_level s o) f e (λ h. full_level_formed o (rest_sorted cs o h))
  full_of_formed [] f e = none_some f e
  full_of_formed (o ∷ p ∷ ts) f e = none_some f e

  owned_committed_formed : (p o t : Term) → S cs sort.Rest p → S cs sort.Rest o → S cs sort.Rest t → F cs (owned_committed s p o t)
  owned_committed_formed p o t hp ho ht =
      let packed = sub_atom (level_of s o) t in
      let is_packed = sub_formed cs [] (level_of s o) t (level o ho) ht in
      let owned = equal (owner_of s p) (pair_of o t) in
      let is_owned = owner_is_pair p o t hp ho ht in
      all_of_formed cs (given (allocated s p ∷ owned ∷ committed s p ∷ []) packed ∷ given (allocated s p ∷ owned ∷ neg (committed s p) ∷ []) (neg packed) ∷ []) (
        given_formed cs (allocated s p ∷ owned ∷ committed s p ∷ []) packed (there p hp, (is_owned, (in_place p hp, tt))) is_packed,
        (
          given_formed cs (allocated s p ∷ owned ∷ neg (committed s p) ∷ []) (neg packed) (there p hp, (is_owned, (negation cs [] (committed s p) (in_place p hp), tt))) (negation cs [] packed is_packed),
          tt,
        ),
      )

  grouped_formed : (p : Term) → S cs sort.Rest p → F cs (grouped_uncommitted s p)
  grouped_formed p h =
      given_formed cs (allocated s p ∷ group (owner_of s p) ∷ []) (neg (committed s p)) (there p h, (group_formed cs [] (owner_of s p) (owner p h), tt)) (negation cs [] (committed s p) (in_place p h))

  owned_number_formed : (n : ℕ) (ts : List Term) (f : Formula) → owned_by_number cs s n ts ≡ Some f → F cs f
  owned_number_formed n (p ∷ []) f e =
      when_formed cs (eqb n 1 && have_sorts cs (sort.Rest ∷ []) (p ∷ [])) (grouped_uncommitted s p) f e (λ h. grouped_formed p (rest_sorted cs p (and_parts (eqb n 1) (have_sorts cs (sort.Rest ∷ []) (p ∷ [])) h).1))
  owned_number_formed n (p ∷ o ∷ t ∷ []) f e =
      when_formed cs (eqb n 0 && have_sorts cs (sort.Rest ∷ sort.Rest ∷ sort.Rest ∷ []) (p ∷ o ∷ t ∷ [])) (owned_committed s p o t) f e (λ h.
      let a = three_rest p o t (and_parts (eqb n 0) (have_sorts cs (sort.Rest ∷ sort.Rest ∷ sort.Rest ∷ []) (p ∷ o ∷ t ∷ [])) h).1 in
      owned_committed_formed p o t a.0 a.1 a.2)
  owned_number_formed n [] f e = none_some f e
  owned_number_formed n (p ∷ o ∷ []) f e = none_some f e
  owned_number_formed n (p ∷ o ∷ t ∷ u ∷ ts) f e = none_some f e

  owned_of_formed : (ts : List Term) (f : Formula) → owned_of cs s ts ≡ Some f → F cs f
  owned_of_formed [] f e = none_some f e
  owned_of_formed (n ∷ ts) f e = let p = and_then_some (λ k. owned_by_number cs s k ts) (natural_of n) f e in owned_number_formed p.0 ts f p.2

  -- ---- fields

  module _ (o : Term) (f : ℕ) (has : has_field cs f ≡ true) (ho : S cs sort.Rest o) where
    abbrev x : Term
    x = field_term s o f

    field_has : (y : Ty) → field_type cs f ≡ y → S cs (sort_of_type y) x
    field_has y e = let k = field_sorted cs f has s o store ho in (k.0 ∙ ap sort_of_type e, k.1)

    its_field : All cs (has_its_field cs s o f)
    its_field = (there o ho, (classed_formed o (field_class cs f) ho, tt))

    module _ (hx : S cs sort.Rest x) where
      abbrev ps : List Formula
      ps = has_its_field cs s o f ++ differ x null_term ∷ []

      refers : All cs ps
      refers = more_formed cs [] (has_its_field cs s o f) (differ x null_term ∷ []) its_field (not_null_formed x hx, tt)

      marked_formed : (k : Mark) (g : Formula) → marked cs s o f k ≡ Some g → F cs g
      marked_formed mark.Plain g e = none_some g e
      marked_formed mark.Rep g e =
          let pair = pair_of o (class_term (field_class cs f)) in
          some_formed cs (given ps (equal (owner_of s x) pair)) g e (given_formed cs ps (equal (owner_of s x) pair) refers (owner_is_pair x o (class_term (field_class cs f)) hx ho (class_sorted cs [] (field_class cs f))))
      marked_formed mark.Peer g e =
          some_formed cs (given ps (equal (owner_of s x) (owner_of s o))) g e (given_formed cs ps (equal (owner_of s x) (owner_of s o)) refers (equal_formed cs [] true sort.Rest (owner_of s x) (owner_of s o) (owner x hx) (owner o ho)))

      reference_typed : (t : ℕ) → F cs (all_of (given ps (allocated s x) ∷ given ps (sub_atom (type_of x) (class_term t)) ∷ []))
      reference_typed t =
          all_of_formed cs (given ps (allocated s x) ∷ given ps (sub_atom (type_of x) (class_term t)) ∷ [])
          (given_formed cs ps (allocated s x) refers (there x hx), (given_formed cs ps (sub_atom (type_of x) (class_term t)) refers (classed_formed x t hx), tt))

      not_null_where_ready : (b : Bool) → All cs (not_null b (has_its_field cs s o f) s o x)
      not_null_where_ready true = (
        given_formed cs (has_its_field cs s o f ++ ready s o ∷ []) (differ x null_term) (more_formed cs [] (has_its_field cs s o f) (ready s o ∷ []) its_field (ready_formed cs s o store ho, tt)) (not_null_formed x hx),
        tt,
      )
      not_null_where_ready false = tt

      reference_ready : (b : Bool) → F cs (all_of (given ps (ready s x) ∷ not_null b (has_its_field cs s o f) s o x))
      reference_ready b = all_of_formed cs (given ps (ready s x) ∷ not_null b (has_its_field cs s o f) s o x) (given_formed cs ps (ready s x) refers (ready_formed cs s x store hx), not_null_where_ready b)

  marked_field_formed : (o : Term) (j : Option ℕ) (g : Formula) → marked_field cs s o j ≡ Some g → F cs g
  marked_field_formed o None g e = none_some g e
  marked_field_formed o (Some f) g e =
      let p = if_some (has_field cs f && is_class_type (field_type cs f) && have_sorts cs (sort.Rest ∷ []) (o ∷ [])) (marked cs s o f (field_mark cs f)) g e in
      let q = and_parts (has_field cs f && is_class_type (field_type cs f)) (have_sorts cs (sort.Rest ∷ []) (o ∷ [])) p.0 in
      let r = and_parts (has_field cs f) (is_class_type (field_type cs f)) q.0 in
      let ho = rest_sorted cs o q.1 in
      let k = field_has o f r.0 ho (field_type cs f) refl in
      marked_formed o f r.0 ho (k.0 ∙ reference_sort (field_type cs f) r.1, k.1) (field_mark cs f) g p.1

  marks_of_formed : (ts : List Term) (g : Formula) → marks_of cs s ts ≡ Some g → F cs g
  marks_of_formed (o ∷ f ∷ []) g e = marked_field_formed o (natural_of f) g e
  marks_of_formed [] g e = none_some g e
  marks_of_formed (o ∷ []) g e = none_some g e
  marks_of_formed (o ∷ f ∷ t ∷ ts) g e = none_some g e

  -- ---- typed

  range_formed : (ps : List Formula) (x : Term) → All cs ps → S cs sort.Whole x → All cs (in_range ps x)
  range_formed ps x h k =
      let least = number (negsuc (2 ^ 31 - 1)) in
      let most = number (pos (2 ^ 31 - 1)) in (
        given_formed cs ps (at_most least x) h (at_most_formed cs [] least x (number_sorted cs [] (negsuc (2 ^ 31 - 1))) k),
        (given_formed cs ps (at_most x most) h (at_most_formed cs [] x most k (number_sorted cs [] (pos (2 ^ 31 - 1)))), tt),
      )

  typed_field_formed : (o : Term) (f : ℕ) → has_field cs f ≡ true → S cs sort.Rest o → (y : Ty) → field_type cs f ≡ y → (g : Formula) → typed_field cs s o f y ≡ Some g → F cs g
  typed_field_formed o f has ho ty.Int is g e =
      let x = field_term s o f in
      some_formed cs (all_of (in_range (has_its_field cs s o f) x)) g e (all_of_formed cs (in_range (has_its_field cs s o f) x) (range_formed (has_its_field cs s o f) x (its_field o f has ho) (field_has o f has ho ty.Int is)))
  typed_field_formed o f has ho ty.Bool is g e = none_some g e
  typed_field_formed o f has ho ty.Null is g e = none_some g e
  typed_field_formed o f has ho (ty.Ref t n) is g e = some_formed cs _ g e (reference_typed o f has ho (field_has o f has ho (ty.Ref t n) is) t.0)

  module _ (a i : Term) (ha : S cs sort.Rest a) (hi : S cs sort.Whole i) where
    abbrev y : Term
    y = app (Element sort.Rest) (s ∷ a ∷ i ∷ [])

    element_rest : S cs sort.Rest y
    element_rest = element_sorted cs sort.Rest refl s a i store ha hi

    element_there : All cs (allocated s a ∷ differ y null_term ∷ [])
    element_there = (there a ha, (not_null_formed y element_rest, tt))

    element_typed_formed : (t : ℕ) → F cs (element_typed s a y t)
    element_typed_formed t =
        let is = equal_formed cs [] true sort.Rest (type_of a) (class_term t) (type_sorted cs [] a ha) (class_sorted cs [] t) in
        given_formed cs (allocated s a ∷ equal (type_of a) (class_term t) ∷ differ y null_term ∷ []) (sub_atom (type_of y) (class_term (element_class t)))
        (there a ha, (is, (not_null_formed y element_rest, tt))) (classed_formed y (element_class t) element_rest)

    elements_typed_formed : (ts : List ℕ) → All cs (map (element_typed s a y) ts)
    elements_typed_formed [] = tt
    elements_typed_formed (t ∷ ts) = (element_typed_formed t, elements_typed_formed ts)

    typed_element_formed : (r : Sort) (g : Formula) → typed_element cs s a i r ≡ Some g → F cs g
    typed_element_formed sort.Whole g e =
        let z = app (Element sort.Whole) (s ∷ a ∷ i ∷ []) in
        some_formed cs (all_of (in_range (allocated s a ∷ []) z)) g e (all_of_formed cs (in_range (allocated s a ∷ []) z) (range_formed (allocated s a ∷ []) z (there a ha, tt) (element_sorted cs sort.Whole refl s a i store ha hi)))
    typed_element_formed sort.Truth g e = none_some g e
    typed_element_formed sort.Store g e = none_some g e
    typed_element_formed sort.Rest g e =
        let all = given (allocated s a ∷ differ y null_term ∷ []) (allocated s y) ∷ map (element_typed s a y) (arrays_of_references cs) in
        some_formed cs (all_of all) g e (all_of_formed cs all (given_formed cs (allocated s a ∷ differ y null_term ∷ []) (allocated s y) element_there (there y element_rest), elements_typed_formed (arrays_of_references cs)))

    element_ready : F cs (given (allocated s a ∷ differ y null_term ∷ []) (ready s y))
    element_ready = given_formed cs (allocated s a ∷ differ y null_term ∷ []) (ready s y) element_there (ready_formed cs s y store element_rest)

  level_typed_formed : (o : Term) → S cs sort.Rest o → F cs (level_typed s o)
  level_typed_formed o h = given_formed cs (allocated s o ∷ []) (sub_atom (type_of o) (level_of s o)) (there o h, tt) (typed_formed o (level_of s o) h (level o h))

  length_typed_formed : (a : Term) → S cs sort.Rest a → F cs (length_typed s a)
  length_typed_formed a h =
      let x = app Length (a ∷ []) in
      let hx = sorted_one cs [] Length sort.Rest a refl h in
      let none = number (pos 0) in
      let most = number (pos (2 ^ 31 - 1)) in
      all_of_formed cs (given (allocated s a ∷ []) (at_most none x) ∷ given (allocated s a ∷ []) (at_most x most) ∷ []) (
        given_formed cs (allocated s a ∷ []) (at_most none x) (there a h, tt) (at_most_formed cs [] none x (number_sorted cs [] (pos 0)) hx),
        (given_formed cs (allocated s a ∷ []) (at_most x most) (there a h, tt) (at_most_formed cs [] x most hx (number_sorted cs [] (pos (2 ^ 31 - 1)))), tt),
      )

  typed_look_formed : (look : Look) → IsRead cs look → (g : Formula) → typed_look cs s look ≡ Some g → F cs g
  typed_look_formed (FieldLook o f) k g e = typed_field_formed o f k.0 k.1 (field_type cs f) refl g e
  typed_look_formed (ElementLook r a i) k g e = typed_element_formed a i k.1 k.2 r g e
  typed_look_formed (LevelLook o) k g e = some_formed cs (level_typed s o) g e (level_typed_formed o k)
  typed_look_formed (LengthLook a) k g e = some_formed cs (length_typed s a) g e (length_typed_formed a k)
  typed_look_formed (OwnerLook o) k g e = none_some g e
  typed_look_formed NextLook k g e = none_some g e
  typed_look_formed (AllocatedLook o) k g e = none_some g e
  typed_look_formed (CommittedLook o) k g e = none_some g e
  typed_look_formed (ReadyLook o) k g e = none_some g e

  typed_read_formed : (j : Option Look) (g : Formula) → typed_read cs s j ≡ Some g → F cs g
  typed_read_formed (Some look) g e = let p = if_some (is_look cs look) (typed_look cs s look) g e in typed_look_formed look (is_read cs look p.0) g p.1
  typed_read_formed None g e = none_some g e

  level_at_formed : (o : Term) (t : ℕ) → S cs sort.Rest o → F cs (level_at s o t)
  level_at_formed o t h =
      given_formed cs (allocated s o ∷ equal (level_of s o) (class_term t) ∷ []) (sub_atom (type_of o) (class_term t))
      (there o h, (equal_formed cs [] true sort.Rest (level_of s o) (class_term t) (level o h) (class_sorted cs [] t), tt)) (classed_formed o t h)

  typed_level_formed : (o : Term) → S cs sort.Rest o → (j : Option ℕ) (g : Formula) → typed_level s o j ≡ Some g → F cs g
  typed_level_formed o h (Some t) g e = some_formed cs (level_at s o t) g e (level_at_formed o t h)
  typed_level_formed o h None g e = none_some g e

  owner_allocated_formed : (p o t : Term) → S cs sort.Rest p → S cs sort.Rest o → S cs sort.Rest t → F cs (owner_allocated s p o t)
  owner_allocated_formed p o t hp ho ht = given_formed cs (allocated s p ∷ equal (owner_of s p) (pair_of o t) ∷ []) (allocated s o) (there p hp, (owner_is_pair p o t hp ho ht, tt)) (there o ho)

  typed_two : (b : Bool) (kind o t : Term) (g : Formula) → (b ≡ true → S cs sort.Rest o) → (if b then typed_level s o (class_of_term t) else typed_read cs s (look_from kind (o ∷ t ∷ []))) ≡ Some g → F cs g
  typed_two true kind o t g h e = typed_level_formed o (h refl) (class_of_term t) g e
  typed_two false kind o t g h e = typed_read_formed (look_from kind (o ∷ t ∷ [])) g e

  typed_of_formed : (ts : List Term) (g : Formula) → typed_of cs s ts ≡ Some g → F cs g
  typed_of_formed [] g e = none_some g e
  typed_of_formed (kind ∷ o ∷ t ∷ []) g e =
      typed_two (is_number 2 kind && have_sorts cs (sort.Rest ∷ []) (o ∷ [])) kind o t g (λ h. rest_sorted cs o (and_parts (is_number 2 kind) (have_sorts cs (sort.Rest ∷ []) (o ∷ [])) h).1) e
  typed_of_formed (kind ∷ p ∷ o ∷ t ∷ []) g e =
      when_formed cs (is_number 3 kind && have_sorts cs (sort.Rest ∷ sort.Rest ∷ sort.Rest ∷ []) (p ∷ o ∷ t ∷ [])) (owner_allocated s p o t) g e (λ h.
      let a = three_rest p o t (and_parts (is_number 3 kind) (have_sorts cs (sort.Rest ∷ sort.Rest ∷ sort.Rest ∷ []) (p ∷ o ∷ t ∷ [])) h).1 in
      owner_allocated_formed p o t a.0 a.1 a.2)
  typed_of_formed (kind ∷ []) g e = typed_read_formed (look_from kind []) g e
  typed_of_formed (kind ∷ o ∷ []) g e = typed_read_formed (look_from kind (o ∷ [])) g e
  typed_of_formed (kind ∷ o ∷ p ∷ t ∷ u ∷ ts) g e = typed_read_formed (look_from kind (o ∷ p ∷ t ∷ u ∷ ts)) g e

  -- ---- ready

  ready_field_formed : (o : Term) (f : ℕ) → has_field cs f ≡ true → S cs sort.Rest o → (y : Ty) → field_type cs f ≡ y → (g : Formula) → ready_field cs s o f y ≡ Some g → F cs g
  ready_field_formed o f has ho (ty.Ref t n) is g e = some_formed cs _ g e (reference_ready o f has ho (field_has o f has ho (ty.Ref t n) is) n)
  ready_field_formed o f has ho ty.Int is g e = none_some g e
  ready_field_formed o f has ho ty.Bool is g e = none_some g e
  ready_field_formed o f has ho ty.Null is g e = none_some g e

  ready_look_formed : (look : Look) → IsRead cs look → (g : Formula) → ready_look cs s look ≡ Some g → F cs g
  ready_look_formed (FieldLook o f) k g e = ready_field_formed o f k.0 k.1 (field_type cs f) refl g e
  ready_look_formed (ElementLook sort.Rest a i) k g e = some_formed cs _ g e (element_ready a i k.1 k.2)
  ready_look_formed look k g e = none_some g e

  ready_read_formed : (j : Option Look) (g : Formula) → ready_read cs s j ≡ Some g → F cs g
  ready_read_formed (Some look) g e = let p = if_some (is_look cs look) (ready_look cs s look) g e in ready_look_formed look (is_read cs look p.0) g p.1
  ready_read_formed None g e = none_some g e

  ready_of_formed : (ts : List Term) (g : Formula) → ready_of cs s ts ≡ Some g → F cs g
  ready_of_formed [] g e = none_some g e
  ready_of_formed (kind ∷ ts) g e = ready_read_formed (look_from kind ts) g e

  sentence_formed : (name : GoodRule) (ts : List Term) (g : Formula) → good_sentence cs name s ts ≡ Some g → F cs g
  sentence_formed rule.Full ts g e = full_of_formed ts g e
  sentence_formed rule.Owned ts g e = owned_of_formed ts g e
  sentence_formed rule.Marks ts g e = marks_of_formed ts g e
  sentence_formed rule.Typed ts g e = typed_of_formed ts g e
  sentence_formed rule.Ready ts g e = ready_of_formed ts g e

pub good_instance_formed : (cs : List ClassTree) (name : GoodRule) (s : Term) (ts : List Term) (f : Formula) → good_instance_of cs name s ts ≡ Some f → F cs f
good_instance_formed cs name s ts f e =
    let p = if_some (have_sorts cs (sort.Store ∷ []) (s ∷ [])) (good_sentence cs name s ts) f e in
    sentence_formed cs s (sorted_from cs (sort.Store ∷ []) (s ∷ []) p.0).0 name ts f p.1
