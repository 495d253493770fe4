-- What each change does to each read is well formed.
use Rattle.std.proofs.Common.{◌≡◌, ℕ, List, [], ◌∷◌, ◌++◌, Bool, true, false, not, ◌&&◌, ◌||◌, eqb, Option, Some, None, refl, sym, ap, subst, ⊎_elim}
use Rattle.std.specs.Prelude.{if◌then◌else◌, option_map, option_and_then}
use Rattle.std.proofs.lemmas.Bool.{false≢true, and_parts, or_cases, eqb-true}
use Rattle.ss_core.specs.Tree.{ClassTree}
use Rattle.ss_core.specs.Chain.{above}
use Rattle.ss_store_rules.specs.Changes.{field_type}
use Rattle.ss_logic.specs.declared.Sort.{Sort}
use Rattle.ss_logic.specs.declared.Sort.TheVariants as sort
use Rattle.ss_logic.specs.Terms.{Symbol, Field, Element, Set, Put, Unpack, Pack, Capture, Join, New, NewArray, MakeReady, Term, Bound, App, Terms, no_terms, term_then, terms_from, term_list, app, field_sort, has_field, same_sort, same_sorts, takes, sort_of, is_well_sorted, are_well_sorted, have_sorts}
use Rattle.ss_logic.specs.Formulas.{Formula, neg}
use Rattle.ss_logic.proofs.Truth.{equal_sorts, type_sort}
use Rattle.ss_logic.specs.Shapes.{null_term, class_term, level_of, owner_of, pair_of, next_of, equal, allocated, committed, ready, group, given, all_of, where_equal, where_different}
use Rattle.ss_logic.specs.Reads.{Look, FieldLook, ElementLook, LevelLook, OwnerLook, NextLook, AllocatedLook, CommittedLook, ReadyLook, LengthLook, is_look, Looked, TermLooked, AtomLooked, NoneLooked, look_at, agreeing, same_over, over_set, over_put, leveled, owned_at, over_unpack, over_pack, captured_owners, over_capture, joined_owners, kept_owners, over_join, default_term, over_new, over_ready, over_change, reads_a_store, read_over, read_moved, is_constant_store, without_last, last_of, look_from, read_instance}
use Rattle.ss_logic.proofs.Options.{mapped_some, if_some, and_then_some}
use Rattle.ss_logic_means.proofs.Sorting.{equal_formed, more_formed}
use Rattle.ss_logic_means.proofs.Forming.{negation}
use Rattle.ss_logic_means.proofs.Operating.{null_sorted}
use Rattle.ss_logic_means.proofs.Contexts.{class_sorted, pair_sorted, group_formed, level_sorted, owner_sorted, allocated_formed, committed_formed}
use Rattle.ss_logic_means.proofs.Sentences.{none_some, F, All, S, sorted_from, rest_sorted, sorted_terms, arguments_sorted, field_sorted, element_sorted, next_sorted, ready_formed, given_formed, all_of_formed, by_test, where_equal_formed, where_different_formed, is_formed, when_formed}

module _ (cs : List ClassTree) where
  -- ---- reads

  -- the arguments of a read have their sorts
  abbrev pub IsRead : Look → Type 0
  IsRead (FieldLook o f) = (has_field cs f ≡ true) × S cs sort.Rest o
  IsRead (ElementLook r a i) = (not (same_sort r sort.Store) ≡ true) × S cs sort.Rest a × S cs sort.Whole i
  IsRead (LevelLook o) = S cs sort.Rest o
  IsRead (OwnerLook o) = S cs sort.Rest o
  IsRead NextLook = Unit {0}
  IsRead (AllocatedLook o) = S cs sort.Rest o
  IsRead (CommittedLook o) = S cs sort.Rest o
  IsRead (ReadyLook o) = S cs sort.Rest o
  IsRead (LengthLook a) = S cs sort.Rest a

  pub is_read : (look : Look) → is_look cs look ≡ true → IsRead look
  is_read (FieldLook o f) h = let p = and_parts (has_field cs f) (have_sorts cs (sort.Rest ∷ []) (o ∷ [])) h in (p.0, rest_sorted cs o p.1)
  is_read (ElementLook r a i) h =
      let p = and_parts (not (same_sort r sort.Store)) (have_sorts cs (sort.Rest ∷ sort.Whole ∷ []) (a ∷ i ∷ [])) h in
      let q = sorted_from cs (sort.Rest ∷ sort.Whole ∷ []) (a ∷ i ∷ []) p.1 in
      (p.0, q.0, q.1.0)
  is_read (LevelLook o) h = rest_sorted cs o h
  is_read (OwnerLook o) h = rest_sorted cs o h
  is_read NextLook h = tt
  is_read (AllocatedLook o) h = rest_sorted cs o h
  is_read (CommittedLook o) h = rest_sorted cs o h
  is_read (ReadyLook o) h = rest_sorted cs o h
  is_read (LengthLook a) h = rest_sorted cs a h

  -- the sort of what is read
  abbrev read_sort : Look → Sort
  read_sort (FieldLook o f) = field_sort cs f
  read_sort (ElementLook r a i) = r
  read_sort look = sort.Rest

  -- what stands for a read is a term of the sort, or a well formed atom
  abbrev IsLooked : Sort → Looked → Type 0
  IsLooked r (TermLooked x) = S cs r x
  IsLooked r (AtomLooked f) = F cs f
  IsLooked r NoneLooked = Unit {0}

  looked : (look : Look) → IsRead look → (s : Term) → S cs sort.Store s → IsLooked (read_sort look) (look_at look s)
  looked (FieldLook o f) k s h = field_sorted cs f k.0 s o h k.1
  looked (ElementLook r a i) k s h = element_sorted cs r k.0 s a i h k.1 k.2
  looked (LevelLook o) k s h = level_sorted cs [] s h o k
  looked (OwnerLook o) k s h = owner_sorted cs [] s h o k
  looked NextLook k s h = next_sorted cs s h
  looked (AllocatedLook o) k s h = allocated_formed cs [] s h o k
  looked (CommittedLook o) k s h = committed_formed cs [] s h o k
  looked (ReadyLook o) k s h = ready_formed cs s o h k
  looked (LengthLook a) k s h = tt

  agreeing_formed : (r : Sort) (ps : List Formula) (x y : Looked) → All cs ps → IsLooked r x → IsLooked r y → All cs (agreeing ps x y)
  agreeing_formed r ps (TermLooked x) (TermLooked y) p h k = (given_formed cs ps (equal x y) p (equal_formed cs [] true r x y h k), tt)
  agreeing_formed r ps (AtomLooked f) (AtomLooked g) p h k = (
    given_formed cs (ps ++ f ∷ []) g (more_formed cs [] ps (f ∷ []) p (h, tt)) k,
    (given_formed cs (ps ++ neg f ∷ []) (neg g) (more_formed cs [] ps (neg f ∷ []) p (negation cs [] f h, tt)) (negation cs [] g k), tt),
  )
  agreeing_formed r ps x y p h k = tt

  same_formed : (look : Look) → IsRead look → (s t : Term) → S cs sort.Store s → S cs sort.Store t → (ps : List Formula) → All cs ps → All cs (same_over look s t ps)
  same_formed look k s t h l ps p = agreeing_formed (read_sort look) ps (look_at look s) (look_at look t) p (looked look k s h) (looked look k t l)

  default_sorted : (r : Sort) → not (same_sort r sort.Store) ≡ true → S cs r (default_term r)
  default_sorted sort.Whole h = (refl, refl)
  default_sorted sort.Truth h = (refl, refl)
  default_sorted sort.Rest h = (refl, refl)
  default_sorted sort.Store h = absurd (false≢true h)

  -- ---- over a changed store

  module _ (after s : Term) (changed : S cs sort.Store after) (before : S cs sort.Store s) where
    same : (look : Look) → IsRead look → (ps : List Formula) → All cs ps → All cs (same_over look after s ps)
    same look k ps p = same_formed look k after s changed before ps p

    set_formed : (f : ℕ) (o v : Term) → S cs sort.Rest o → S cs (field_sort cs f) v → (look : Look) → IsRead look → All cs (over_set after f s o v look)
    set_formed f o v ho hv (FieldLook p g) k =
        by_test cs (eqb g f)
        (given (where_equal p o) (equal (app (Field g) (after ∷ p ∷ [])) v) ∷ where_different p o (same_over (FieldLook p g) after s))
        (same_over (FieldLook p g) after s [])
        (λ is. let e : g ≡ f = eqb-true g f is in (
          given_formed cs (where_equal p o) (equal (app (Field g) (after ∷ p ∷ [])) v) (where_equal_formed cs sort.Rest p o k.1 ho)
              (equal_formed cs [] true (field_sort cs g) (app (Field g) (after ∷ p ∷ [])) v (field_sorted cs g k.0 after p changed k.1) (subst (λ x. S cs (field_sort cs x) v) (sym e) hv)),
          where_different_formed cs sort.Rest p o (same_over (FieldLook p g) after s) k.1 ho (same (FieldLook p g) k),
        ))
        (same (FieldLook p g) k [] tt)
    set_formed f o v ho hv look k = same look k [] tt

    put_formed : (a i v : Term) → S cs sort.Rest a → S cs sort.Whole i → is_well_sorted cs [] v ≡ true → (look : Look) → IsRead look → All cs (over_put cs after s a i v look)
    put_formed a i v ha hi hv (ElementLook r b j) k =
        let elsewhere = same_over (ElementLook r b j) after s in
        by_test cs (same_sort (sort_of cs [] v) r)
        (given (where_equal b a ++ where_equal j i) (equal (app (Element r) (after ∷ b ∷ j ∷ [])) v) ∷ where_different b a (same_over (ElementLook r b j) after s) ++ where_different j i (same_over (ElementLook r b j) after s))
        (same_over (ElementLook r b j) after s [])
        (λ is. (
          given_formed cs (where_equal b a ++ where_equal j i) (equal (app (Element r) (after ∷ b ∷ j ∷ [])) v)
              (more_formed cs [] (where_equal b a) (where_equal j i) (where_equal_formed cs sort.Rest b a k.1 ha) (where_equal_formed cs sort.Whole j i k.2 hi))
              (equal_formed cs [] true r (app (Element r) (after ∷ b ∷ j ∷ [])) v (element_sorted cs r k.0 after b j changed k.1 k.2) (equal_sorts (sort_of cs [] v) r is, hv)),
          more_formed cs [] (where_different b a elsewhere) (where_different j i elsewhere)
              (where_different_formed cs sort.Rest b a elsewhere k.1 ha (same (ElementLook r b j) k))
              (where_different_formed cs sort.Whole j i elsewhere k.2 hi (same (ElementLook r b j) k)),
        ))
        (same (ElementLook r b j) k [] tt)
    put_formed a i v ha hi hv look k = same look k [] tt

    -- ---- levels and committed bits

    module _ (o : Term) (ho : S cs sort.Rest o) (t : ℕ) where
      leveled_formed : (u : ℕ) (p : Term) → S cs sort.Rest p → All cs (leveled after u s o p)
      leveled_formed u p hp = (
        given_formed cs (where_equal p o) (equal (level_of after p) (class_term u)) (where_equal_formed cs sort.Rest p o hp ho)
            (equal_formed cs [] true sort.Rest (level_of after p) (class_term u) (level_sorted cs [] after changed p hp) (class_sorted cs [] u)),
        where_different_formed cs sort.Rest p o (same_over (LevelLook p) after s) hp ho (same (LevelLook p) hp),
      )

      module _ (p : Term) (hp : S cs sort.Rest p) where
        owned : F cs (owned_at s p o t)
        owned = equal_formed cs [] true sort.Rest (owner_of s p) (pair_of o (class_term t)) (owner_sorted cs [] s before p hp) (pair_sorted cs [] o (class_term t) ho (class_sorted cs [] t))

        not_owned : F cs (neg (owned_at s p o t))
        not_owned = negation cs [] (owned_at s p o t) owned

        was : F cs (committed s p)
        was = committed_formed cs [] s before p hp

        was_not : F cs (neg (committed s p))
        was_not = negation cs [] (committed s p) was

        becomes : F cs (committed after p)
        becomes = committed_formed cs [] after changed p hp

        becomes_not : F cs (neg (committed after p))
        becomes_not = negation cs [] (committed after p) becomes

      unpack_formed : (look : Look) → IsRead look → All cs (over_unpack cs after t s o look)
      unpack_formed (LevelLook p) k = leveled_formed (above cs t) p k
      unpack_formed (CommittedLook p) k = (
        given_formed cs (owned_at s p o t ∷ []) (neg (committed after p)) (owned p k, tt) (becomes_not p k),
        (
          given_formed cs (neg (owned_at s p o t) ∷ committed s p ∷ []) (committed after p) (not_owned p k, (was p k, tt)) (becomes p k),
          (given_formed cs (neg (committed s p) ∷ []) (neg (committed after p)) (was_not p k, tt) (becomes_not p k), tt),
        ),
      )
      unpack_formed look k = same look k [] tt

      pack_formed : (look : Look) → IsRead look → All cs (over_pack after t s o look)
      pack_formed (LevelLook p) k = leveled_formed t p k
      pack_formed (CommittedLook p) k = (
        given_formed cs (owned_at s p o t ∷ []) (committed after p) (owned p k, tt) (becomes p k),
        (
          given_formed cs (committed s p ∷ []) (committed after p) (was p k, tt) (becomes p k),
          (given_formed cs (neg (owned_at s p o t) ∷ neg (committed s p) ∷ []) (neg (committed after p)) (not_owned p k, (was_not p k, tt)) (becomes_not p k), tt),
        ),
      )
      pack_formed look k = same look k [] tt

    -- ---- owners

    module _ (o e : Term) (ho : S cs sort.Rest o) (he : S cs sort.Rest e) where
      owner : (p : Term) → S cs sort.Rest p → S cs sort.Rest (owner_of s p)
      owner p hp = owner_sorted cs [] s before p hp

      grouped : (p : Term) → S cs sort.Rest p → F cs (group (owner_of s p))
      grouped p hp = group_formed cs [] (owner_of s p) (owner p hp)

      not_grouped : (p : Term) → S cs sort.Rest p → F cs (neg (group (owner_of s p)))
      not_grouped p hp = negation cs [] (group (owner_of s p)) (grouped p hp)

      same_owner : (p q : Term) → S cs sort.Rest p → S cs sort.Rest q → All cs (where_equal (owner_of s p) (owner_of s q))
      same_owner p q hp hq = where_equal_formed cs sort.Rest (owner_of s p) (owner_of s q) (owner p hp) (owner q hq)

      module _ (p : Term) (hp : S cs sort.Rest p) where
        becomes_owner : (x : Term) → S cs sort.Rest x → F cs (equal (owner_of after p) x)
        becomes_owner x hx = equal_formed cs [] true sort.Rest (owner_of after p) x (owner_sorted cs [] after changed p hp) hx

        keeps_owner : F cs (equal (owner_of after p) (owner_of s p))
        keeps_owner = becomes_owner (owner_of s p) (owner p hp)

        null_keeps : F cs (given (where_equal e null_term) (equal (owner_of after p) (owner_of s p)))
        null_keeps = given_formed cs (where_equal e null_term) (equal (owner_of after p) (owner_of s p)) (where_equal_formed cs sort.Rest e null_term he (null_sorted cs [])) keeps_owner

        captured_formed : (t : ℕ) (ps : List Formula) → All cs ps → All cs (captured_owners after t s o e p ps)
        captured_formed t ps h = (
          given_formed cs (ps ++ group (owner_of s e) ∷ where_equal (owner_of s p) (owner_of s e)) (equal (owner_of after p) (pair_of o (class_term t)))
              (more_formed cs [] ps (group (owner_of s e) ∷ where_equal (owner_of s p) (owner_of s e)) h (grouped e he, same_owner p e hp he))
              (becomes_owner (pair_of o (class_term t)) (pair_sorted cs [] o (class_term t) ho (class_sorted cs [] t))),
          tt,
        )

        joined_formed : (ps : List Formula) → All cs ps → All cs (joined_owners after s o e p ps)
        joined_formed ps h = (
          given_formed cs (ps ++ group (owner_of s e) ∷ where_equal (owner_of s p) (owner_of s e)) (equal (owner_of after p) (owner_of s o))
              (more_formed cs [] ps (group (owner_of s e) ∷ where_equal (owner_of s p) (owner_of s e)) h (grouped e he, same_owner p e hp he))
              (becomes_owner (owner_of s o) (owner o ho)),
          (
            given_formed cs (ps ++ neg (group (owner_of s e)) ∷ group (owner_of s o) ∷ where_equal (owner_of s p) (owner_of s o)) (equal (owner_of after p) (owner_of s e))
                (more_formed cs [] ps (neg (group (owner_of s e)) ∷ group (owner_of s o) ∷ where_equal (owner_of s p) (owner_of s o)) h (not_grouped e he, (grouped o ho, same_owner p o hp ho)))
                (becomes_owner (owner_of s e) (owner e he)),
            tt,
          ),
        )

        -- under a premise and that the owner is another one
        kept_under : (f : Formula) → F cs f → (ps : List Formula) → All cs ps → All cs (given (f ∷ ps) (equal (owner_of after p) (owner_of s p)) ∷ [])
        kept_under f h ps k = (given_formed cs (f ∷ ps) (equal (owner_of after p) (owner_of s p)) (h, k) keeps_owner, tt)

        kept_formed : All cs (kept_owners after s o e p)
        kept_formed =
            let apart = where_different (owner_of s p) (owner_of s e) (λ ps. given (group (owner_of s e) ∷ ps) (equal (owner_of after p) (owner_of s p)) ∷ []) in
            let other = where_different (owner_of s p) (owner_of s o) (λ ps. given (neg (group (owner_of s e)) ∷ ps) (equal (owner_of after p) (owner_of s p)) ∷ []) in
            more_formed cs [] (apart ++ other) (given (neg (group (owner_of s e)) ∷ neg (group (owner_of s o)) ∷ []) (equal (owner_of after p) (owner_of s p)) ∷ [])
            (more_formed cs [] apart other
            (where_different_formed cs sort.Rest (owner_of s p) (owner_of s e) (λ ps. given (group (owner_of s e) ∷ ps) (equal (owner_of after p) (owner_of s p)) ∷ []) (owner p hp) (owner e he) (kept_under (group (owner_of s e)) (grouped e he)))
            (where_different_formed cs sort.Rest (owner_of s p) (owner_of s o) (λ ps. given (neg (group (owner_of s e)) ∷ ps) (equal (owner_of after p) (owner_of s p)) ∷ []) (owner p hp) (owner o ho) (kept_under (neg (group (owner_of s e))) (not_grouped e he))))
            (kept_under (neg (group (owner_of s e))) (not_grouped e he) (neg (group (owner_of s o)) ∷ []) (not_grouped o ho, tt))

      capture_formed : (t : ℕ) (look : Look) → IsRead look → All cs (over_capture after t s o e look)
      capture_formed t (OwnerLook p) k = (
        null_keeps p k,
        more_formed cs [] (where_different e null_term (captured_owners after t s o e p)) (given (neg (group (owner_of s e)) ∷ []) (equal (owner_of after p) (owner_of s p)) ∷ where_different (owner_of s p) (owner_of s e) (same_over (OwnerLook p) after s))
            (where_different_formed cs sort.Rest e null_term (captured_owners after t s o e p) he (null_sorted cs []) (captured_formed p k t)) (
              given_formed cs (neg (group (owner_of s e)) ∷ []) (equal (owner_of after p) (owner_of s p)) (not_grouped e he, tt) (keeps_owner p k),
              where_different_formed cs sort.Rest (owner_of s p) (owner_of s e) (same_over (OwnerLook p) after s) (owner p k) (owner e he) (same (OwnerLook p) k),
            ),
      )
      capture_formed t look k = same look k [] tt

      join_formed : (look : Look) → IsRead look → All cs (over_join after s o e look)
      join_formed (OwnerLook p) k = (
        null_keeps p k,
        more_formed cs [] (where_different e null_term (joined_owners after s o e p)) (kept_owners after s o e p)
            (where_different_formed cs sort.Rest e null_term (joined_owners after s o e p) he (null_sorted cs []) (joined_formed p k))
            (kept_formed p k),
      )
      join_formed look k = same look k [] tt

    -- ---- new objects

    next : S cs sort.Rest (next_of s)
    next = next_sorted cs s before

    -- under the premise that p is the new object
    at_next : (p : Term) → S cs sort.Rest p → (f : Formula) → F cs f → F cs (given (where_equal p (next_of s)) f)
    at_next p hp f h = given_formed cs (where_equal p (next_of s)) f (where_equal_formed cs sort.Rest p (next_of s) hp next) h

    not_next : (p : Term) → S cs sort.Rest p → (look : Look) → IsRead look → All cs (where_different p (next_of s) (same_over look after s))
    not_next p hp look k = where_different_formed cs sort.Rest p (next_of s) (same_over look after s) hp next (same look k)

    -- the bit is off where it was, under more premises
    stays_off : (f g : Formula) → F cs f → F cs g → (ps : List Formula) → All cs ps → All cs (given (ps ++ neg f ∷ []) (neg g) ∷ [])
    stays_off f g h k ps p = (given_formed cs (ps ++ neg f ∷ []) (neg g) (more_formed cs [] ps (neg f ∷ []) p (negation cs [] f h, tt)) (negation cs [] g k), tt)

    new_formed : (t : ℕ) (is_ready : Formula → Formula) → ((f : Formula) → F cs f → F cs (is_ready f)) → (look : Look) → IsRead look → All cs (over_new cs after t is_ready s look)
    new_formed t is_ready each (FieldLook p f) k = (
      at_next p k.1 (equal (app (Field f) (after ∷ p ∷ [])) (default_term (field_sort cs f)))
          (equal_formed cs [] true (field_sort cs f) (app (Field f) (after ∷ p ∷ [])) (default_term (field_sort cs f)) (field_sorted cs f k.0 after p changed k.1) (default_sorted (field_sort cs f) (ap not (type_sort (field_type cs f))))),
      not_next p k.1 (FieldLook p f) k,
    )
    new_formed t is_ready each (ElementLook r a i) k = (
      at_next a k.1 (equal (app (Element r) (after ∷ a ∷ i ∷ [])) (default_term r))
          (equal_formed cs [] true r (app (Element r) (after ∷ a ∷ i ∷ [])) (default_term r) (element_sorted cs r k.0 after a i changed k.1 k.2) (default_sorted r k.0)),
      not_next a k.1 (ElementLook r a i) k,
    )
    new_formed t is_ready each (LevelLook p) k = (
      at_next p k (equal (level_of after p) (class_term t)) (equal_formed cs [] true sort.Rest (level_of after p) (class_term t) (level_sorted cs [] after changed p k) (class_sorted cs [] t)),
      not_next p k (LevelLook p) k,
    )
    new_formed t is_ready each (OwnerLook p) k = not_next p k (OwnerLook p) k
    new_formed t is_ready each NextLook k = (equal_formed cs [] false sort.Rest (next_of after) (next_of s) (next_sorted cs after changed) next, tt)
    new_formed t is_ready each (AllocatedLook p) k =
        let now = allocated_formed cs [] after changed p k in
        let past = allocated_formed cs [] s before p k in (
          at_next p k (allocated after p) now,
          (
            given_formed cs (allocated s p ∷ []) (allocated after p) (past, tt) now,
            where_different_formed cs sort.Rest p (next_of s) (λ ps. given (ps ++ neg (allocated s p) ∷ []) (neg (allocated after p)) ∷ []) k next (stays_off (allocated s p) (allocated after p) past now),
          ),
        )
    new_formed t is_ready each (CommittedLook p) k = (at_next p k (neg (committed after p)) (negation cs [] (committed after p) (committed_formed cs [] after changed p k)), not_next p k (CommittedLook p) k)
    new_formed t is_ready each (ReadyLook p) k = (at_next p k (is_ready (ready after p)) (each (ready after p) (ready_formed cs after p changed k)), not_next p k (ReadyLook p) k)
    new_formed t is_ready each (LengthLook a) k = tt

    made_ready_formed : (o : Term) → S cs sort.Rest o → (look : Look) → IsRead look → All cs (over_ready after s o look)
    made_ready_formed o ho (ReadyLook p) k =
        let now = ready_formed cs after p changed k in
        let past = ready_formed cs s p before k in (
          given_formed cs (where_equal p o) (ready after p) (where_equal_formed cs sort.Rest p o k ho) now,
          (
            given_formed cs (ready s p ∷ []) (ready after p) (past, tt) now,
            where_different_formed cs sort.Rest p o (λ ps. given (ps ++ neg (ready s p) ∷ []) (neg (ready after p)) ∷ []) k ho (stays_off (ready s p) (ready after p) past now),
          ),
        )
    made_ready_formed o ho look k = same look k [] tt

  -- ---- every change

  -- the arguments of `put`: the value has a sort of its own
  put_sorted : (s a i v : Term) → is_well_sorted cs [] (app Put (s ∷ a ∷ i ∷ v ∷ [])) ≡ true → S cs sort.Store s × S cs sort.Rest a × S cs sort.Whole i × (is_well_sorted cs [] v ≡ true)
  put_sorted s a i v h =
      let ss = sort_of cs [] s ∷ sort_of cs [] a ∷ sort_of cs [] i ∷ sort_of cs [] v ∷ [] in
      let p = and_parts (takes cs Put ss) (are_well_sorted cs [] (terms_from (s ∷ a ∷ i ∷ v ∷ []))) h in
      let whole = same_sorts ss (sort.Store ∷ sort.Rest ∷ sort.Whole ∷ sort.Whole ∷ []) in
      let truth = same_sorts ss (sort.Store ∷ sort.Rest ∷ sort.Whole ∷ sort.Truth ∷ []) in
      let rest = same_sorts ss (sort.Store ∷ sort.Rest ∷ sort.Whole ∷ sort.Rest ∷ []) in
      ⊎_elim
      (λ x. ⊎_elim (λ y. with_sort sort.Whole p.1 y) (λ y. with_sort sort.Truth p.1 y) (or_cases whole truth x))
      (λ y. with_sort sort.Rest p.1 y)
      (or_cases (whole || truth) rest p.0)
    where
      with_sort : (r : Sort) → are_well_sorted cs [] (terms_from (s ∷ a ∷ i ∷ v ∷ [])) ≡ true → same_sorts (sort_of cs [] s ∷ sort_of cs [] a ∷ sort_of cs [] i ∷ sort_of cs [] v ∷ []) (sort.Store ∷ sort.Rest ∷ sort.Whole ∷ r ∷ []) ≡ true →
          S cs sort.Store s × S cs sort.Rest a × S cs sort.Whole i × (is_well_sorted cs [] v ≡ true)
      with_sort r h e = let k = sorted_terms cs (sort.Store ∷ sort.Rest ∷ sort.Whole ∷ r ∷ []) (terms_from (s ∷ a ∷ i ∷ v ∷ [])) e h in (k.0, k.1.0, k.1.1.0, k.1.1.1.0.1)

  list_formed : (fs gs : List Formula) → Some fs ≡ Some gs → All cs fs → All cs gs
  list_formed fs gs e h = let same : fs ≡ gs = cc in subst (λ x. All cs x) same h

  change_formed : (look : Look) (f : Symbol) (ts : Terms) (fs : List Formula) → IsRead look → is_well_sorted cs [] (App f ts) ≡ true → over_change cs look f (term_list ts) ≡ Some fs → All cs fs
  change_formed look (Set f) (term_then s (term_then o (term_then v no_terms))) fs k h e =
      let a = arguments_sorted cs (sort.Store ∷ sort.Rest ∷ field_sort cs f ∷ []) (Set f) (terms_from (s ∷ o ∷ v ∷ [])) (λ x. (and_parts (has_field cs f) _ x).1) h in
      list_formed _ fs e (set_formed (app (Set f) (s ∷ o ∷ v ∷ [])) s (refl, h) a.0 f o v a.1.0 a.1.1.0 look k)
  change_formed look Put (term_then s (term_then a (term_then i (term_then v no_terms)))) fs k h e =
      let p = put_sorted s a i v h in
      list_formed _ fs e (put_formed (app Put (s ∷ a ∷ i ∷ v ∷ [])) s (refl, h) p.0 a i v p.1 p.2 p.3 look k)
  change_formed look (Unpack t) (term_then s (term_then o no_terms)) fs k h e =
      let a = arguments_sorted cs (sort.Store ∷ sort.Rest ∷ []) (Unpack t) (terms_from (s ∷ o ∷ [])) (λ x. x) h in
      list_formed _ fs e (unpack_formed (app (Unpack t) (s ∷ o ∷ [])) s (refl, h) a.0 o a.1.0 t look k)
  change_formed look (Pack t) (term_then s (term_then o no_terms)) fs k h e =
      let a = arguments_sorted cs (sort.Store ∷ sort.Rest ∷ []) (Pack t) (terms_from (s ∷ o ∷ [])) (λ x. x) h in
      list_formed _ fs e (pack_formed (app (Pack t) (s ∷ o ∷ [])) s (refl, h) a.0 o a.1.0 t look k)
  change_formed look (Capture t) (term_then s (term_then o (term_then x no_terms))) fs k h e =
      let a = arguments_sorted cs (sort.Store ∷ sort.Rest ∷ sort.Rest ∷ []) (Capture t) (terms_from (s ∷ o ∷ x ∷ [])) (λ y. y) h in
      list_formed _ fs e (capture_formed (app (Capture t) (s ∷ o ∷ x ∷ [])) s (refl, h) a.0 o x a.1.0 a.1.1.0 t look k)
  change_formed look Join (term_then s (term_then o (term_then x no_terms))) fs k h e =
      let a = arguments_sorted cs (sort.Store ∷ sort.Rest ∷ sort.Rest ∷ []) Join (terms_from (s ∷ o ∷ x ∷ [])) (λ y. y) h in
      list_formed _ fs e (join_formed (app Join (s ∷ o ∷ x ∷ [])) s (refl, h) a.0 o x a.1.0 a.1.1.0 look k)
  change_formed look (New t) (term_then s no_terms) fs k h e =
      let a = arguments_sorted cs (sort.Store ∷ []) (New t) (terms_from (s ∷ [])) (λ x. x) h in
      list_formed _ fs e (new_formed (app (New t) (s ∷ [])) s (refl, h) a.0 0 neg (λ f i. negation cs [] f i) look k)
  change_formed look (NewArray t) (term_then s (term_then n no_terms)) fs k h e =
      let a = arguments_sorted cs (sort.Store ∷ sort.Whole ∷ []) (NewArray t) (terms_from (s ∷ n ∷ [])) (λ x. x) h in
      list_formed _ fs e (new_formed (app (NewArray t) (s ∷ n ∷ [])) s (refl, h) a.0 t (λ f. f) (λ f i. i) look k)
  change_formed look MakeReady (term_then s (term_then o no_terms)) fs k h e =
      let a = arguments_sorted cs (sort.Store ∷ sort.Rest ∷ []) MakeReady (terms_from (s ∷ o ∷ [])) (λ x. x) h in
      list_formed _ fs e (made_ready_formed (app MakeReady (s ∷ o ∷ [])) s (refl, h) a.0 o a.1.0 look k)
  change_formed look f ts fs k h e = none_some fs e

  -- ---- the rule

  over_formed : (s : Term) (o : Option Look) (f : Formula) → read_over cs s o ≡ Some f → F cs f
  over_formed (App g ts) (Some look) f e =
      let p = if_some (reads_a_store look && is_look cs look && is_well_sorted cs [] (App g ts)) (option_map all_of (over_change cs look g (term_list ts))) f e in
      let a = and_parts (reads_a_store look && is_look cs look) (is_well_sorted cs [] (App g ts)) p.0 in
      let k = is_read look (and_parts (reads_a_store look) (is_look cs look) a.0).1 in
      let q = mapped_some all_of (over_change cs look g (term_list ts)) f p.1 in
      is_formed cs (all_of q.0) f q.2 (all_of_formed cs q.0 (change_formed look g ts q.0 k a.1 q.1))
  over_formed (App g ts) None f e = none_some f e
  over_formed (Bound k) o f e = none_some f e

  moved_formed : (s t : Term) (o : Option Look) (f : Formula) → read_moved cs s t o ≡ Some f → F cs f
  moved_formed s t (Some look) f e =
      when_formed cs (reads_a_store look && is_look cs look && have_sorts cs (sort.Store ∷ sort.Store ∷ []) (s ∷ t ∷ [])) (all_of (same_over look s t (where_equal s t))) f e (λ h.
      let p = and_parts (reads_a_store look && is_look cs look) (have_sorts cs (sort.Store ∷ sort.Store ∷ []) (s ∷ t ∷ [])) h in
      let a = sorted_from cs (sort.Store ∷ sort.Store ∷ []) (s ∷ t ∷ []) p.1 in
      let k = is_read look (and_parts (reads_a_store look) (is_look cs look) p.0).1 in
      all_of_formed cs (same_over look s t (where_equal s t)) (same_formed look k s t a.0 a.1.0 (where_equal s t) (where_equal_formed cs sort.Store s t a.0 a.1.0)))
  moved_formed s t None f e = none_some f e

  read_here : (b : Bool) (kind s : Term) (ts : List Term) (f : Formula) →
      (if b then option_and_then (λ t. read_moved cs s t (look_from kind (without_last ts))) (last_of ts) else read_over cs s (look_from kind ts)) ≡ Some f → F cs f
  read_here true kind s ts f e = let p = and_then_some (λ t. read_moved cs s t (look_from kind (without_last ts))) (last_of ts) f e in moved_formed s p.0 (look_from kind (without_last ts)) f p.2
  read_here false kind s ts f e = over_formed s (look_from kind ts) f e

  pub read_formed : (ts : List Term) (f : Formula) → read_instance cs ts ≡ Some f → F cs f
  read_formed [] f e = none_some f e
  read_formed (kind ∷ []) f e = none_some f e
  read_formed (kind ∷ s ∷ ts) f e = read_here (is_constant_store s) kind s ts f e
