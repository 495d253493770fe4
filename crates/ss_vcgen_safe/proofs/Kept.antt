-- The frame condition and growth are well formed, of terms that are well sorted in their places.
use Rattle.std.proofs.Common.{◌≡◌, ℕ, zero, suc, ◌+◌, List, [], ◌∷◌, ◌++◌, length, map, Bool, true, false, ◌&&◌, refl, sym, ◌∙◌, ap, subst, append_assoc, length-append, arith}
use Rattle.std.specs.Prelude.{slice_get, unwrap_or, nat_lt, ◌==◌, if◌then◌else◌}
use Rattle.std.specs.List.{list_all}
use Rattle.std.proofs.lemmas.Bool.{and_parts, and_from, lt-ltb, ltb-true}
use Rattle.ss_core.specs.Tree.{ClassTree}
use Rattle.ss_core.specs.Chain.{sub, all_fields}
use Rattle.ss_store_rules.specs.Changes.{field_class}
use Rattle.ss_logic.specs.declared.Sort.{Sort}
use Rattle.ss_logic.specs.declared.Sort.TheVariants as sort
use Rattle.ss_logic.specs.Terms.{Field, Element, Term, Bound, App, Terms, no_terms, term_then, app, same_sort, takes, field_sort, has_field, sort_of, sorts_of, is_well_sorted, are_well_sorted, have_sorts}
use Rattle.ss_logic.specs.Formulas.{Ready, Formula, Formulas, Literal, And, Or, Forall, Exists, no_formulas, formula_then, takes_sorts, are_bound_sorts, is_well_formed, are_well_formed, neg}
use Rattle.ss_logic.proofs.Truth.{equal_sorts}
use Rattle.ss_logic.specs.Shapes.{class_term, level_of, owner_of, type_of, pair_of, equal, allocated, committed, ready, group}
use Rattle.ss_logic.specs.Frames.{NamedTerm, NamesField, NamesAll, NamesUpto, NamesElements, OwnerTerm, CallTerms, lifted_term, lifted_terms, lifted, all_lifted, unless, iff, the_object, the_index, in_group_of, owned_by, is_free, is_outside, is_named, names_field, names_level, names_elements, all_named, field_kept, fields_kept, level_kept, object_kept, objects_kept, element_kept, array_kept, elements_kept, others_full, kept, object_grown, grown}
use Rattle.ss_logic.specs.Express.{and_of}
use Rattle.ss_logic.specs.Sorted.{is_object, is_name, AreSorted}
use Rattle.ss_logic_means.specs.Sorts.{HasSort, AreWellFormed}
use Rattle.ss_logic_means.proofs.Sorting.{sorted_two, sorted_three, formed_two, equal_formed, all_formed, more_formed, each_formed, neg_formed, sort_more}
use Rattle.ss_logic_means.proofs.Forming.{F, and_two, or_two, negation}
use Rattle.ss_logic_means.proofs.Contexts.{class_sorted, type_sorted, pair_sorted, group_formed, level_sorted, owner_sorted, allocated_formed, committed_formed}

-- ---- under more bound names

past : {A : Type 0} (xs ys : List A) (k : ℕ) → slice_get (xs ++ ys) (length xs + k) ≡ slice_get ys k
past [] ys k = let n : 0 + k ≡ k = omega arith in ap (slice_get ys) n
past (x ∷ xs) ys k = let n : suc (length xs) + k ≡ suc (length xs + k) = omega arith in ap (slice_get (x ∷ xs ++ ys)) n ∙ past xs ys k

module _ (cs : List ClassTree) (more : List Sort) where
  bound_lifted : (bound : List Sort) (k : ℕ) → nat_lt k (length bound) ≡ true → HasSort cs (more ++ bound) (sort_of cs bound (Bound k)) (Bound (length more + k))
  bound_lifted bound k h =
      let l = ltb-true k (length bound) h in
      let n = length-append more bound in
      (ap (λ o. unwrap_or o sort.Rest) (past more bound k), lt-ltb (length more + k) (length (more ++ bound)) (omega (arith, l, n)))

  mutual
    term_lifted : (bound : List Sort) (t : Term) → is_well_sorted cs bound t ≡ true → HasSort cs (more ++ bound) (sort_of cs bound t) (lifted_term (length more) t)
    term_lifted bound (Bound k) h = bound_lifted bound k h
    term_lifted bound (App f ts) h =
        let p = and_parts (takes cs f (sorts_of cs bound ts)) (are_well_sorted cs bound ts) h in
        let rest = terms_lifted bound ts p.1 in
        (refl, and_from (takes cs f (sorts_of cs (more ++ bound) (lifted_terms (length more) ts))) (are_well_sorted cs (more ++ bound) (lifted_terms (length more) ts)) (ap (takes cs f) rest.0 ∙ p.0) rest.1)

    terms_lifted : (bound : List Sort) (ts : Terms) → are_well_sorted cs bound ts ≡ true →
        (sorts_of cs (more ++ bound) (lifted_terms (length more) ts) ≡ sorts_of cs bound ts) × (are_well_sorted cs (more ++ bound) (lifted_terms (length more) ts) ≡ true)
    terms_lifted bound no_terms h = (refl, refl)
    terms_lifted bound (term_then t ts) h =
        let p = and_parts (is_well_sorted cs bound t) (are_well_sorted cs bound ts) h in
        let first = term_lifted bound t p.0 in
        let rest = terms_lifted bound ts p.1 in (
          ap (λ s. s ∷ sorts_of cs (more ++ bound) (lifted_terms (length more) ts)) first.0 ∙ ap (λ ss. sort_of cs bound t ∷ ss) rest.0,
          and_from (is_well_sorted cs (more ++ bound) (lifted_term (length more) t)) (are_well_sorted cs (more ++ bound) (lifted_terms (length more) ts)) first.1 rest.1,
        )

  mutual
    formed_lifted : (bound : List Sort) (f : Formula) → is_well_formed cs bound f ≡ true → is_well_formed cs (more ++ bound) (lifted (length more) f) ≡ true
    formed_lifted bound (Literal sign p ts) h =
        let q = and_parts (takes_sorts p (sorts_of cs bound ts)) (are_well_sorted cs bound ts) h in
        let r = terms_lifted bound ts q.1 in
        and_from (takes_sorts p (sorts_of cs (more ++ bound) (lifted_terms (length more) ts))) (are_well_sorted cs (more ++ bound) (lifted_terms (length more) ts)) (ap (takes_sorts p) r.0 ∙ q.0) r.1
    formed_lifted bound (And fs) h = all_formed_lifted bound fs h
    formed_lifted bound (Or fs) h = all_formed_lifted bound fs h
    formed_lifted bound (Forall ss f) h =
        let q = and_parts (are_bound_sorts ss) (is_well_formed cs (bound ++ ss) f) h in
        and_from (are_bound_sorts ss) (is_well_formed cs ((more ++ bound) ++ ss) (lifted (length more) f)) q.0
        (subst (λ bs. is_well_formed cs bs (lifted (length more) f) ≡ true) (sym (append_assoc more bound ss)) (formed_lifted (bound ++ ss) f q.1))
    formed_lifted bound (Exists ss f) h =
        let q = and_parts (are_bound_sorts ss) (is_well_formed cs (bound ++ ss) f) h in
        and_from (are_bound_sorts ss) (is_well_formed cs ((more ++ bound) ++ ss) (lifted (length more) f)) q.0
        (subst (λ bs. is_well_formed cs bs (lifted (length more) f) ≡ true) (sym (append_assoc more bound ss)) (formed_lifted (bound ++ ss) f q.1))

    all_formed_lifted : (bound : List Sort) (fs : Formulas) → are_well_formed cs bound fs ≡ true → are_well_formed cs (more ++ bound) (all_lifted (length more) fs) ≡ true
    all_formed_lifted bound no_formulas h = refl
    all_formed_lifted bound (formula_then f fs) h =
        let q = and_parts (is_well_formed cs bound f) (are_well_formed cs bound fs) h in
        and_from (is_well_formed cs (more ++ bound) (lifted (length more) f)) (are_well_formed cs (more ++ bound) (all_lifted (length more) fs)) (formed_lifted bound f q.0) (all_formed_lifted bound fs q.1)

-- ---- shapes

term_sorted : (cs : List ClassTree) (s : Sort) (t : Term) → (same_sort (sort_of cs [] t) s && is_well_sorted cs [] t) ≡ true → HasSort cs [] s t
term_sorted cs s t h = let p = and_parts (same_sort (sort_of cs [] t) s) (is_well_sorted cs [] t) h in (equal_sorts (sort_of cs [] t) s p.0, p.1)

module _ (cs : List ClassTree) (bs : List Sort) where
  unless_formed : (fs : List Formula) (f : Formula) → AreWellFormed cs bs fs → F cs bs f → F cs bs (unless fs f)
  unless_formed [] f h k = k
  unless_formed (g ∷ gs) f h k = all_formed cs bs (g ∷ gs ++ f ∷ []) (more_formed cs bs (g ∷ gs) (f ∷ []) h (k, tt))

  alike_formed : (f g : Formula) → F cs bs f → F cs bs g → F cs bs (iff f g)
  alike_formed f g h k =
      or_two cs bs (and_of (f ∷ g ∷ [])) (and_of (neg f ∷ neg g ∷ [])) (and_two cs bs f g h k) (and_two cs bs (neg f) (neg g) (negation cs bs f h) (negation cs bs g k))

  if_formed : (b : Bool) (f : Formula) → F cs bs f → AreWellFormed cs bs (if b then f ∷ [] else [])
  if_formed true f h = (h, tt)
  if_formed false f h = tt

  pub ready_formed : (s o : Term) → HasSort cs bs sort.Store s → HasSort cs bs sort.Rest o → F cs bs (ready s o)
  ready_formed s o h k = formed_two cs bs true Ready sort.Store sort.Rest s o refl h k

  all_names_formed : (names : NamedTerm → List Formula) → ((n : NamedTerm) → is_name cs n ≡ true → AreWellFormed cs bs (names n)) → (ns : List NamedTerm) → list_all (is_name cs) ns ≡ true → AreWellFormed cs bs (all_named names ns)
  all_names_formed names each [] h = tt
  all_names_formed names each (n ∷ ns) h =
      let p = and_parts (is_name cs n) (list_all (is_name cs) ns) h in
      more_formed cs bs (names n) (all_named names ns) (each n p.0) (all_names_formed names each ns p.1)

-- an object, and an array with an index
abbrev Object : List Sort
Object = sort.Rest ∷ []

abbrev Place : List Sort
Place = sort.Rest ∷ sort.Whole ∷ []

-- ---- what is kept

module _ (cs : List ClassTree) (c : CallTerms) (sorted : AreSorted cs c) where
  stores : HasSort cs [] sort.Store c.before × HasSort cs [] sort.Store c.after
  stores =
      let p = and_parts (same_sort (sort_of cs [] c.before) sort.Store && is_well_sorted cs [] c.before) (have_sorts cs (sort.Store ∷ []) (c.after ∷ [])) sorted.stores in
      let q = and_parts (same_sort (sort_of cs [] c.after) sort.Store && is_well_sorted cs [] c.after) true p.1 in
      (term_sorted cs sort.Store c.before p.0, term_sorted cs sort.Store c.after q.0)

  module _ (bs : List Sort) (there : HasSort cs bs sort.Rest the_object) where
    before : HasSort cs bs sort.Store c.before
    before = sort_more cs [] bs sort.Store c.before stores.0

    after : HasSort cs bs sort.Store c.after
    after = sort_more cs [] bs sort.Store c.after stores.1

    object_sorted : (o : Term) → is_object cs o ≡ true → HasSort cs bs sort.Rest o
    object_sorted o h = sort_more cs [] bs sort.Rest o (term_sorted cs sort.Rest o (and_parts (same_sort (sort_of cs [] o) sort.Rest && is_well_sorted cs [] o) true h).0)

    owner : (o : Term) → HasSort cs bs sort.Rest o → HasSort cs bs sort.Rest (owner_of c.before o)
    owner o h = owner_sorted cs bs c.before before o h

    group_of_formed : (e : Term) → is_object cs e ≡ true → F cs bs (in_group_of c.before e)
    group_of_formed e i =
        let h = owner e (object_sorted e i) in
        and_two cs bs (group (owner_of c.before e)) (equal (owner_of c.before the_object) (owner_of c.before e)) (group_formed cs bs (owner_of c.before e) h)
        (equal_formed cs bs true sort.Rest (owner_of c.before the_object) (owner_of c.before e) (owner the_object there) h)

    groups_formed : (es : List Term) → list_all (is_object cs) es ≡ true → AreWellFormed cs bs (map (in_group_of c.before) es)
    groups_formed [] h = tt
    groups_formed (e ∷ es) h = let p = and_parts (is_object cs e) (list_all (is_object cs) es) h in (group_of_formed e p.0, groups_formed es p.1)

    owned_formed : (w : OwnerTerm) → is_object cs w.object ≡ true → F cs bs (owned_by c.before w)
    owned_formed w i =
        equal_formed cs bs true sort.Rest (owner_of c.before the_object) (pair_of w.object (class_term w.class)) (owner the_object there)
        (pair_sorted cs bs w.object (class_term w.class) (object_sorted w.object i) (class_sorted cs bs w.class))

    all_owned_formed : (ws : List OwnerTerm) → list_all (λ (w : OwnerTerm). is_object cs w.object) ws ≡ true → AreWellFormed cs bs (map (owned_by c.before) ws)
    all_owned_formed [] h = tt
    all_owned_formed (w ∷ ws) h = let p = and_parts (is_object cs w.object) (list_all (λ (w : OwnerTerm). is_object cs w.object) ws) h in (owned_formed w p.0, all_owned_formed ws p.1)

    free_formed : AreWellFormed cs bs (is_free c)
    free_formed =
        more_formed cs bs (committed c.before the_object ∷ map (in_group_of c.before) c.captured) (map (owned_by c.before) c.owned)
        (committed_formed cs bs c.before before the_object there, groups_formed c.captured sorted.captured) (all_owned_formed c.owned sorted.owned)

    all_outside_formed : (os : List Term) → list_all (is_object cs) os ≡ true → AreWellFormed cs bs (map (equal the_object) os)
    all_outside_formed [] h = tt
    all_outside_formed (o ∷ os) h =
        let p = and_parts (is_object cs o) (list_all (is_object cs) os) h in
        (equal_formed cs bs true sort.Rest the_object o there (object_sorted o p.0), all_outside_formed os p.1)

    outside_formed : AreWellFormed cs bs (is_outside c)
    outside_formed = all_outside_formed c.outside sorted.outside

    -- the object wasn't allocated before
    new_formed : F cs bs (neg (allocated c.before the_object))
    new_formed = negation cs bs (allocated c.before the_object) (allocated_formed cs bs c.before before the_object there)

  -- ---- of an object

  object_there : HasSort cs Object sort.Rest the_object
  object_there = (refl, refl)

  named_formed : (g : Formula) (o : Term) → (is_well_formed cs [] g && is_object cs o) ≡ true → F cs Object (is_named 1 g o)
  named_formed g o h =
      let p = and_parts (is_well_formed cs [] g) (is_object cs o) h in
      and_two cs Object (lifted 1 g) (equal the_object o) (formed_lifted cs Object [] g p.0) (equal_formed cs Object true sort.Rest the_object o object_there (object_sorted Object object_there o p.1))

  field_names_formed : (f : ℕ) (n : NamedTerm) → is_name cs n ≡ true → AreWellFormed cs Object (names_field cs f n)
  field_names_formed f (NamesField g o e) h = if_formed cs Object (e == f) (is_named 1 g o) (named_formed g o h)
  field_names_formed f (NamesAll g o) h = (named_formed g o h, tt)
  field_names_formed f (NamesUpto g o t) h = if_formed cs Object (sub cs t (field_class cs f)) (is_named 1 g o) (named_formed g o h)
  field_names_formed f (NamesElements g a) h = tt

  level_names_formed : (n : NamedTerm) → is_name cs n ≡ true → AreWellFormed cs Object (names_level n)
  level_names_formed (NamesField g o e) h = tt
  level_names_formed (NamesAll g o) h = (named_formed g o h, tt)
  level_names_formed (NamesUpto g o t) h = (named_formed g o h, tt)
  level_names_formed (NamesElements g a) h = tt

  field_formed : (f : ℕ) → has_field cs f ≡ true → F cs Object (field_kept cs c f)
  field_formed f h =
      let takes_it : takes cs (Field f) (sort.Store ∷ sort.Rest ∷ []) ≡ true = and_from (has_field cs f) true h refl in
      unless_formed cs Object (all_named (names_field cs f) c.named) (equal (app (Field f) (c.after ∷ the_object ∷ [])) (app (Field f) (c.before ∷ the_object ∷ [])))
      (all_names_formed cs Object (names_field cs f) (field_names_formed f) c.named sorted.named)
      (equal_formed cs Object true (field_sort cs f) (app (Field f) (c.after ∷ the_object ∷ [])) (app (Field f) (c.before ∷ the_object ∷ []))
      (sorted_two cs Object (Field f) sort.Store sort.Rest c.after the_object takes_it (after Object object_there) object_there)
      (sorted_two cs Object (Field f) sort.Store sort.Rest c.before the_object takes_it (before Object object_there) object_there))

  fields_formed : (f n : ℕ) → f + n ≡ length (all_fields cs) → AreWellFormed cs Object (fields_kept cs c f n)
  fields_formed f zero e = tt
  fields_formed f (suc n) e = (field_formed f (lt-ltb f (length (all_fields cs)) (omega (arith, e))), fields_formed (f + 1) n (omega (arith, e)))

  level_formed : F cs Object (level_kept c)
  level_formed =
      unless_formed cs Object (is_outside c ++ all_named names_level c.named) (equal (level_of c.after the_object) (level_of c.before the_object))
      (more_formed cs Object (is_outside c) (all_named names_level c.named) (outside_formed Object object_there) (all_names_formed cs Object names_level level_names_formed c.named sorted.named))
      (equal_formed cs Object true sort.Rest (level_of c.after the_object) (level_of c.before the_object) (level_sorted cs Object c.after (after Object object_there) the_object object_there)
      (level_sorted cs Object c.before (before Object object_there) the_object object_there))

  object_formed : F cs Object (object_kept cs c)
  object_formed =
      let a = after Object object_there in
      let b = before Object object_there in
      let bits = alike_formed cs Object (committed c.after the_object) (committed c.before the_object) (committed_formed cs Object c.after a the_object object_there) (committed_formed cs Object c.before b the_object object_there) in
      let owners =
      equal_formed cs Object true sort.Rest (owner_of c.after the_object) (owner_of c.before the_object) (owner_sorted cs Object c.after a the_object object_there) (owner_sorted cs Object c.before b the_object object_there) in
      all_formed cs Object
      (level_kept c ∷ iff (committed c.after the_object) (committed c.before the_object) ∷ equal (owner_of c.after the_object) (owner_of c.before the_object) ∷ fields_kept cs c 0 (length (all_fields cs)))
      (level_formed, (bits, (owners, fields_formed 0 (length (all_fields cs)) (omega arith))))

  objects_formed : F cs [] (objects_kept cs c)
  objects_formed = unless_formed cs Object (neg (allocated c.before the_object) ∷ is_free c) (object_kept cs c) (new_formed Object object_there, free_formed Object object_there) object_formed

  others_formed : F cs [] (others_full c)
  others_formed =
      let a = after Object object_there in
      let b = before Object object_there in
      let none = negation cs Object (allocated c.after the_object) (allocated_formed cs Object c.after a the_object object_there) in
      let bound = all_formed cs Object (allocated c.before the_object ∷ map neg (is_free c)) (
        allocated_formed cs Object c.before b the_object object_there,
        each_formed cs Object neg (is_free c) (λ f h. neg_formed cs Object f h) (free_formed Object object_there),
      ) in
      unless_formed cs Object (neg (allocated c.after the_object) ∷ and_of (allocated c.before the_object ∷ map neg (is_free c)) ∷ is_outside c) (equal (level_of c.after the_object) (type_of the_object))
      (none, (bound, outside_formed Object object_there))
      (equal_formed cs Object true sort.Rest (level_of c.after the_object) (type_of the_object) (level_sorted cs Object c.after a the_object object_there) (type_sorted cs Object the_object object_there))

  -- ---- of an array

  array_there : HasSort cs Place sort.Rest the_object
  array_there = (refl, refl)

  index_there : HasSort cs Place sort.Whole the_index
  index_there = (refl, refl)

  array_named_formed : (g : Formula) (o : Term) → (is_well_formed cs [] g && is_object cs o) ≡ true → F cs Place (is_named 2 g o)
  array_named_formed g o h =
      let p = and_parts (is_well_formed cs [] g) (is_object cs o) h in
      and_two cs Place (lifted 2 g) (equal the_object o) (formed_lifted cs Place [] g p.0) (equal_formed cs Place true sort.Rest the_object o array_there (object_sorted Place array_there o p.1))

  element_names_formed : (n : NamedTerm) → is_name cs n ≡ true → AreWellFormed cs Place (names_elements n)
  element_names_formed (NamesField g o e) h = tt
  element_names_formed (NamesAll g o) h = tt
  element_names_formed (NamesUpto g o t) h = tt
  element_names_formed (NamesElements g a) h = (array_named_formed g a h, tt)

  element_formed : (s : Sort) → takes cs (Element s) (sort.Store ∷ sort.Rest ∷ sort.Whole ∷ []) ≡ true → F cs Place (element_kept c (Element s))
  element_formed s h =
      equal_formed cs Place true s (app (Element s) (c.after ∷ the_object ∷ the_index ∷ [])) (app (Element s) (c.before ∷ the_object ∷ the_index ∷ []))
      (sorted_three cs Place (Element s) sort.Store sort.Rest sort.Whole c.after the_object the_index h (after Place array_there) array_there index_there)
      (sorted_three cs Place (Element s) sort.Store sort.Rest sort.Whole c.before the_object the_index h (before Place array_there) array_there index_there)

  array_formed : F cs Place (array_kept c)
  array_formed =
      all_formed cs Place (element_kept c (Element sort.Rest) ∷ element_kept c (Element sort.Whole) ∷ element_kept c (Element sort.Truth) ∷ [])
      (element_formed sort.Rest refl, (element_formed sort.Whole refl, (element_formed sort.Truth refl, tt)))

  elements_formed : F cs [] (elements_kept c)
  elements_formed =
      unless_formed cs Place (neg (allocated c.before the_object) ∷ is_free c ++ all_named names_elements c.named) (array_kept c) (
        new_formed Place array_there,
        more_formed cs Place (is_free c) (all_named names_elements c.named) (free_formed Place array_there) (all_names_formed cs Place names_elements element_names_formed c.named sorted.named),
      ) array_formed

  pub kept_formed : F cs [] (kept cs c)
  kept_formed = all_formed cs [] (objects_kept cs c ∷ elements_kept c ∷ others_full c ∷ []) (objects_formed, (elements_formed, (others_formed, tt)))

-- ---- growth

module _ (cs : List ClassTree) (s r : Term) (first : HasSort cs [] sort.Store s) (last : HasSort cs [] sort.Store r) where
  earlier : HasSort cs Object sort.Store s
  earlier = sort_more cs [] Object sort.Store s first

  later : HasSort cs Object sort.Store r
  later = sort_more cs [] Object sort.Store r last

  it : HasSort cs Object sort.Rest the_object
  it = (refl, refl)

  still_ready : F cs Object (unless (neg (ready s the_object) ∷ []) (ready r the_object))
  still_ready = unless_formed cs Object (neg (ready s the_object) ∷ []) (ready r the_object) (negation cs Object (ready s the_object) (ready_formed cs Object s the_object earlier it), tt) (ready_formed cs Object r the_object later it)

  same_owner : F cs Object (unless (group (owner_of s the_object) ∷ []) (equal (owner_of r the_object) (owner_of s the_object)))
  same_owner =
      let before = owner_sorted cs Object s earlier the_object it in
      unless_formed cs Object (group (owner_of s the_object) ∷ []) (equal (owner_of r the_object) (owner_of s the_object)) (group_formed cs Object (owner_of s the_object) before, tt)
      (equal_formed cs Object true sort.Rest (owner_of r the_object) (owner_of s the_object) (owner_sorted cs Object r later the_object it) before)

  pub grown_formed : F cs [] (grown s r)
  grown_formed =
      unless_formed cs Object (neg (allocated s the_object) ∷ []) (object_grown s r) (negation cs Object (allocated s the_object) (allocated_formed cs Object s earlier the_object it), tt)
      (all_formed cs Object
      (allocated r the_object ∷ unless (neg (ready s the_object) ∷ []) (ready r the_object) ∷ unless (group (owner_of s the_object) ∷ []) (equal (owner_of r the_object) (owner_of s the_object)) ∷ [])
      (allocated_formed cs Object r later the_object it, (still_ready, (same_owner, tt))))
