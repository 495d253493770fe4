-- What the rule on reads says is true in every structure.
use Rattle.std.proofs.Common.{◌≡◌, ℕ, suc, ℤ, List, [], ◌∷◌, ◌++◌, Bool, true, false, not, ◌&&◌, ◌||◌, eqb, map, Option, Some, None, refl, sym, ◌∙◌, ap, subst, ⊎_elim, arith}
use Rattle.std.specs.Prelude.{if◌then◌else◌, nat_lt, option_map, option_and_then}
use Rattle.std.specs.Ordering.{int_eq}
use Rattle.std.proofs.lemmas.Bool.Decides.{Decides-int_eq}
use Rattle.std.proofs.lemmas.Bool.{false≢true, true≢false, and_parts, or_cases, eqb-true, eq-eqb, cases_eq, ltb-true, lt-ltb, false_from_ne_true}
use Rattle.ss_core.specs.Tree.{ClassTree}
use Rattle.ss_core.specs.Chain.{above}
use Rattle.ss_logic.specs.declared.Sort.{Sort}
use Rattle.ss_logic.specs.declared.Sort.TheVariants as sort
use Rattle.ss_logic.specs.Values.{Thing, null, reference, class_name, owner_pair, same_thing, is_group, Cells, Entry, Heap, Value, whole, truth, thing, store, sort_of_value, as_thing, as_whole, as_store, no_cells, is_allocated, Structure}
use Rattle.ss_logic.specs.Changes.{put_cell, with_new, new_object, new_array, moved, shared_owner, joined_owner}
use Rattle.ss_logic.specs.Terms.{Symbol, Field, Element, Set, Put, Unpack, Pack, Capture, Join, New, NewArray, MakeReady, Term, Bound, App, Terms, no_terms, term_then, term_list, app, field_sort, has_field, same_sort, same_sorts, is_store_sort, takes, sort_of, is_well_sorted, are_well_sorted, have_sorts, cell}
use Rattle.ss_logic.specs.Formulas.{Formula, AreOf, Hold, neg}
use Rattle.ss_logic.proofs.Stable.{equal_things, same_thing_refl}
use Rattle.ss_logic.proofs.Truth.{value_sorted, values, AllClosed, AreOf-values, equal_sorts, type_sort}
use Rattle.ss_logic.specs.Shapes.{null_term, class_term, level_of, owner_of, pair_of, next_of, equal, differ, allocated, committed, ready, group, given, all_of, where_equal, where_different}
use Rattle.ss_logic.specs.Reads.{Look, FieldLook, ElementLook, LevelLook, OwnerLook, NextLook, AllocatedLook, CommittedLook, ReadyLook, LengthLook, is_look, look_at, same_over, over_set, over_put, leveled, owned_at, over_unpack, over_pack, captured_owners, over_capture, joined_owners, kept_owners, over_join, default_term, over_new, over_ready, over_change, reads_a_store, read_over, read_moved, is_constant_store, without_last, last_of, look_from, read_instance}
use Rattle.ss_logic.proofs.Options.{mapped_some, if_some, when_some, and_then_some}
use Rattle.ss_logic.proofs.Sentences.{T, V, given_true, all_true, Hold-append, Hold-parts, equal_values, different_true, SameLooked, same_true}

-- ---- cells

put_here_sort : {P : Type 0} (here : P → Bool) (v : Value) (c : Cells P) (i : P) → is_store_sort (sort_of_value v) ≡ false → here i ≡ true → cell (sort_of_value v) (put_cell here v c) i ≡ v
put_here_sort here (whole n) c i s h = rw h refl
put_here_sort here (truth b) c i s h = rw h refl
put_here_sort here (thing w) c i s h = rw h refl
put_here_sort here (store x) c i s h = absurd (true≢false s)

put_here : {P : Type 0} (here : P → Bool) (v : Value) (c : Cells P) (i : P) (s : Sort) → sort_of_value v ≡ s → is_store_sort s ≡ false → here i ≡ true → cell s (put_cell here v c) i ≡ v
put_here here v c i s e n h = subst (λ r. cell r (put_cell here v c) i ≡ v) e (put_here_sort here v c i (subst (λ r. is_store_sort r ≡ false) (sym e) n) h)

put_apart : {P : Type 0} (here : P → Bool) (v : Value) (c : Cells P) (i : P) (s : Sort) → here i ≡ false → cell s (put_cell here v c) i ≡ cell s c i
put_apart here (whole n) c i sort.Whole h = rw h refl
put_apart here (truth b) c i sort.Truth h = rw h refl
put_apart here (thing w) c i sort.Rest h = rw h refl
put_apart here v c i s h = refl

put_else : {P : Type 0} (here : P → Bool) (v : Value) (c : Cells P) (i : P) (s : Sort) → same_sort (sort_of_value v) s ≡ false → cell s (put_cell here v c) i ≡ cell s c i
put_else here (whole n) c i sort.Whole h = absurd (true≢false h)
put_else here (truth b) c i sort.Truth h = absurd (true≢false h)
put_else here (thing w) c i sort.Rest h = absurd (true≢false h)
put_else here v c i s h = refl

-- ---- values of a sort

pub thing_value : (v : Value) → sort_of_value v ≡ sort.Rest → v ≡ thing (as_thing v)
thing_value (thing w) e = refl
thing_value (whole n) e = let no : ⊥ = cc in absurd no
thing_value (truth n) e = let no : ⊥ = cc in absurd no
thing_value (store n) e = let no : ⊥ = cc in absurd no

pub whole_value : (v : Value) → sort_of_value v ≡ sort.Whole → v ≡ whole (as_whole v)
whole_value (whole n) e = refl
whole_value (thing n) e = let no : ⊥ = cc in absurd no
whole_value (truth n) e = let no : ⊥ = cc in absurd no
whole_value (store n) e = let no : ⊥ = cc in absurd no

pub things_same : (v w : Value) → v ≡ w → same_thing (as_thing v) (as_thing w) ≡ true
things_same v w e = rw e (same_thing_refl (as_thing w))

pub things_differ : (v w : Value) → sort_of_value v ≡ sort.Rest → sort_of_value w ≡ sort.Rest → (v ≡ w → ⊥) → same_thing (as_thing v) (as_thing w) ≡ false
things_differ v w r s n = false_from_ne_true (same_thing (as_thing v) (as_thing w)) (λ t. n (thing_value v r ∙ ap thing (equal_things (as_thing v) (as_thing w) t) ∙ sym (thing_value w s)))

equal_wholes : (a b : ℤ) → int_eq a b ≡ true → a ≡ b
equal_wholes a b h = (Decides-int_eq a b).0 h

int_eq_refl : (a b : ℤ) → a ≡ b → int_eq a b ≡ true
int_eq_refl a b e = (Decides-int_eq a b).1 e

wholes_same : (v w : Value) → v ≡ w → int_eq (as_whole v) (as_whole w) ≡ true
wholes_same v w e = int_eq_refl (as_whole v) (as_whole w) (ap as_whole e)

wholes_differ : (v w : Value) → sort_of_value v ≡ sort.Whole → sort_of_value w ≡ sort.Whole → (v ≡ w → ⊥) → int_eq (as_whole v) (as_whole w) ≡ false
wholes_differ v w r s n = false_from_ne_true (int_eq (as_whole v) (as_whole w)) (λ t. n (whole_value v r ∙ ap whole (equal_wholes (as_whole v) (as_whole w) t) ∙ sym (whole_value w s)))

alloc_equal : (h i : Heap) (w : Thing) → h.next ≡ i.next → is_allocated h w ≡ is_allocated i w
alloc_equal h i (reference o) e = ap (nat_lt o) e
alloc_equal h i w e = refl

alloc_same : (h i : Heap) (w : Thing) → h.next ≡ i.next → (is_allocated h w ≡ true → is_allocated i w ≡ true) × (is_allocated i w ≡ true → is_allocated h w ≡ true)
alloc_same h i w e = (λ t. sym (alloc_equal h i w e) ∙ t, λ t. alloc_equal h i w e ∙ t)

and_false : (a b : Bool) → b ≡ false → (a && b) ≡ false
and_false true b h = h
and_false false b h = refl

not_first : (a b : Bool) → a ≡ false → (a && b) ≡ false
not_first true b h = absurd (true≢false h)
not_first false b h = refl

yes_both : (a b : Bool) → a ≡ true → b ≡ true → (a && b) ≡ true
yes_both true b h k = k
yes_both false b h k = absurd (false≢true h)

-- by a test
pub by_test : {P : Type 0} (b : Bool) → (b ≡ true → P) → (b ≡ false → P) → P
by_test true t f = t refl
by_test false t f = f refl

hold_if : (cs : List ClassTree) (m : Structure) (b : Bool) (fs gs : List Formula) → (b ≡ true → Hold cs m fs) → (b ≡ false → Hold cs m gs) → Hold cs m (if b then fs else gs)
hold_if cs m true fs gs t f = t refl
hold_if cs m false fs gs t f = f refl

if_yes : {A : Type 0} (b : Bool) (x y : A) → b ≡ true → (if b then x else y) ≡ x
if_yes true x y h = refl
if_yes false x y h = absurd (false≢true h)

if_no : {A : Type 0} (b : Bool) (x y : A) → b ≡ false → (if b then x else y) ≡ y
if_no true x y h = absurd (true≢false h)
if_no false x y h = refl

module _ (cs : List ClassTree) (m : Structure) where
  abbrev IsRest : Term → Type 0
  IsRest t = sort_of_value (V cs m t) ≡ sort.Rest

  abbrev IsWhole : Term → Type 0
  IsWhole t = sort_of_value (V cs m t) ≡ sort.Whole

  abbrev Things : Term → Term → Bool
  Things p o = same_thing (as_thing (V cs m p)) (as_thing (V cs m o))

  -- a term of the rest
  rest_of : (p : Term) → have_sorts cs (sort.Rest ∷ []) (p ∷ []) ≡ true → IsRest p
  rest_of p h = (AreOf-values cs m (sort.Rest ∷ []) (p ∷ []) h).0

  -- ---- writes

  set_true : (f : ℕ) (s o v : Term) → IsRest o → sort_of_value (V cs m v) ≡ field_sort cs f → (look : Look) → is_look cs look ≡ true →
      Hold cs m (over_set (app (Set f) (s ∷ o ∷ v ∷ [])) f s o v look)
  set_true f s o v ro sv (FieldLook p g) k =
      let rp = rest_of p (and_parts (has_field cs g) (have_sorts cs (sort.Rest ∷ []) (p ∷ [])) k).1 in
      let after = app (Set f) (s ∷ o ∷ v ∷ []) in
      let here : ℕ → Bool = λ j. same_thing (as_thing (V cs m p)) (as_thing (V cs m o)) && eqb j f in
      hold_if cs m (eqb g f) _ _
      (λ same. let e : g ≡ f = eqb-true g f same in (
        given_true cs m (where_equal p o) (equal (app (Field g) (after ∷ p ∷ [])) v) (λ h.
            put_here here (V cs m v) ((as_store (V cs m s)).at (as_thing (V cs m p))).fields g (field_sort cs g) (sv ∙ ap (field_sort cs) (sym e)) (type_sort _)
            (yes_both _ _ (things_same _ _ (equal_values cs m p o h)) same)),
        different_true cs m p o (same_over (FieldLook p g) after s) (same_true cs m (FieldLook p g) after s (differ p o ∷ []) (λ h.
            put_apart here (V cs m v) ((as_store (V cs m s)).at (as_thing (V cs m p))).fields g (field_sort cs g) (not_first _ _ (things_differ _ _ rp ro h.0)))),
      ))
      (λ other. same_true cs m (FieldLook p g) after s [] (λ h.
      put_apart here (V cs m v) ((as_store (V cs m s)).at (as_thing (V cs m p))).fields g (field_sort cs g) (and_false _ _ other)))
  set_true f s o v ro sv (ElementLook r b j) k = same_true cs m (ElementLook r b j) (app (Set f) (s ∷ o ∷ v ∷ [])) s [] (λ _. refl)
  set_true f s o v ro sv (LevelLook p) k = same_true cs m (LevelLook p) (app (Set f) (s ∷ o ∷ v ∷ [])) s [] (λ _. refl)
  set_true f s o v ro sv (OwnerLook p) k = same_true cs m (OwnerLook p) (app (Set f) (s ∷ o ∷ v ∷ [])) s [] (λ _. refl)
  set_true f s o v ro sv NextLook k = same_true cs m NextLook (app (Set f) (s ∷ o ∷ v ∷ [])) s [] (λ _. refl)
  set_true f s o v ro sv (AllocatedLook p) k = same_true cs m (AllocatedLook p) (app (Set f) (s ∷ o ∷ v ∷ [])) s [] (λ _. alloc_same (as_store (V cs m (app (Set f) (s ∷ o ∷ v ∷ [])))) (as_store (V cs m s)) (as_thing (V cs m p)) refl)
  set_true f s o v ro sv (CommittedLook p) k = same_true cs m (CommittedLook p) (app (Set f) (s ∷ o ∷ v ∷ [])) s [] (λ _. ((λ t. t), (λ t. t)))
  set_true f s o v ro sv (ReadyLook p) k = same_true cs m (ReadyLook p) (app (Set f) (s ∷ o ∷ v ∷ [])) s [] (λ _. ((λ t. t), (λ t. t)))
  set_true f s o v ro sv (LengthLook a0) k = same_true cs m (LengthLook a0) (app (Set f) (s ∷ o ∷ v ∷ [])) s [] (λ _. tt)

  put_true : (s a i v : Term) → IsRest a → IsWhole i → sort_of_value (V cs m v) ≡ sort_of cs [] v → is_store_sort (sort_of cs [] v) ≡ false → (look : Look) → is_look cs look ≡ true →
      Hold cs m (over_put cs (app Put (s ∷ a ∷ i ∷ v ∷ [])) s a i v look)
  put_true s a i v ra wi sv nv (ElementLook r b j) k =
      let q = (and_parts (not (same_sort r sort.Store)) (have_sorts cs (sort.Rest ∷ sort.Whole ∷ []) (b ∷ j ∷ [])) k).1 in
      let o = AreOf-values cs m (sort.Rest ∷ sort.Whole ∷ []) (b ∷ j ∷ []) q in
      let after = app Put (s ∷ a ∷ i ∷ v ∷ []) in
      let here : ℤ → Bool = λ x. same_thing (as_thing (V cs m b)) (as_thing (V cs m a)) && int_eq x (as_whole (V cs m i)) in
      let cells = ((as_store (V cs m s)).at (as_thing (V cs m b))).elements in
      hold_if cs m (same_sort (sort_of cs [] v) r) _ _
      (λ same. let e : sort_of cs [] v ≡ r = equal_sorts _ _ same in (
        given_true cs m (where_equal b a ++ where_equal j i) (equal (app (Element r) (after ∷ b ∷ j ∷ [])) v) (λ h.
            let p = Hold-parts cs m (where_equal b a) (where_equal j i) h in
            put_here here (V cs m v) cells (as_whole (V cs m j)) r (sv ∙ e) (subst (λ x. is_store_sort x ≡ false) e nv)
            (yes_both _ _ (things_same _ _ (equal_values cs m b a p.0)) (wholes_same _ _ (equal_values cs m j i p.1)))),
        Hold-append cs m (where_different b a (same_over (ElementLook r b j) after s)) (where_different j i (same_over (ElementLook r b j) after s))
            (different_true cs m b a (same_over (ElementLook r b j) after s) (same_true cs m (ElementLook r b j) after s (differ b a ∷ []) (λ h.
            put_apart here (V cs m v) cells (as_whole (V cs m j)) r (not_first _ _ (things_differ _ _ o.0 ra h.0)))))
            (different_true cs m j i (same_over (ElementLook r b j) after s) (same_true cs m (ElementLook r b j) after s (differ j i ∷ []) (λ h.
            put_apart here (V cs m v) cells (as_whole (V cs m j)) r (and_false _ _ (wholes_differ _ _ o.1.0 wi h.0))))),
      ))
      (λ other. same_true cs m (ElementLook r b j) after s [] (λ h.
      put_else here (V cs m v) cells (as_whole (V cs m j)) r (subst (λ x. same_sort x r ≡ false) (sym sv) other)))
  put_true s a i v ra wi sv nv (FieldLook p g) k = same_true cs m (FieldLook p g) (app Put (s ∷ a ∷ i ∷ v ∷ [])) s [] (λ _. refl)
  put_true s a i v ra wi sv nv (LevelLook p) k = same_true cs m (LevelLook p) (app Put (s ∷ a ∷ i ∷ v ∷ [])) s [] (λ _. refl)
  put_true s a i v ra wi sv nv (OwnerLook p) k = same_true cs m (OwnerLook p) (app Put (s ∷ a ∷ i ∷ v ∷ [])) s [] (λ _. refl)
  put_true s a i v ra wi sv nv NextLook k = same_true cs m NextLook (app Put (s ∷ a ∷ i ∷ v ∷ [])) s [] (λ _. refl)
  put_true s a i v ra wi sv nv (AllocatedLook p) k = same_true cs m (AllocatedLook p) (app Put (s ∷ a ∷ i ∷ v ∷ [])) s [] (λ _. alloc_same (as_store (V cs m (app Put (s ∷ a ∷ i ∷ v ∷ [])))) (as_store (V cs m s)) (as_thing (V cs m p)) refl)
  put_true s a i v ra wi sv nv (CommittedLook p) k = same_true cs m (CommittedLook p) (app Put (s ∷ a ∷ i ∷ v ∷ [])) s [] (λ _. ((λ t. t), (λ t. t)))
  put_true s a i v ra wi sv nv (ReadyLook p) k = same_true cs m (ReadyLook p) (app Put (s ∷ a ∷ i ∷ v ∷ [])) s [] (λ _. ((λ t. t), (λ t. t)))
  put_true s a i v ra wi sv nv (LengthLook a0) k = same_true cs m (LengthLook a0) (app Put (s ∷ a ∷ i ∷ v ∷ [])) s [] (λ _. tt)

  -- ---- levels

  leveled_true : (after s o p : Term) (t : ℕ) (change : Entry → ℕ) → IsRest o → IsRest p →
      V cs m (level_of after p) ≡ thing (class_name (if Things p o then t else ((as_store (V cs m s)).at (as_thing (V cs m p))).level)) →
      Hold cs m (leveled after t s o p)
  leveled_true after s o p t change ro rp e = (
    given_true cs m (where_equal p o) (equal (level_of after p) (class_term t)) (λ h. e ∙ ap (λ n. thing (class_name n)) (if_yes _ _ _ (things_same _ _ (equal_values cs m p o h)))),
    different_true cs m p o (same_over (LevelLook p) after s) (same_true cs m (LevelLook p) after s (differ p o ∷ []) (λ h.
        e ∙ ap (λ n. thing (class_name n)) (if_no _ _ _ (things_differ _ _ rp ro h.0)))),
  )

  owned_test : (s p o : Term) (t : ℕ) → T cs m (owned_at s p o t) → same_thing ((as_store (V cs m s)).at (as_thing (V cs m p))).owner (owner_pair (as_thing (V cs m o)) (class_name t)) ≡ true
  owned_test s p o t h = things_same _ _ h

  not_owned_test : (s p o : Term) (t : ℕ) → (T cs m (owned_at s p o t) → ⊥) → same_thing ((as_store (V cs m s)).at (as_thing (V cs m p))).owner (owner_pair (as_thing (V cs m o)) (class_name t)) ≡ false
  not_owned_test s p o t h = things_differ _ _ refl refl h

  -- the members of `committed && not owned`, and of `committed || owned`
  cleared : (c w : Bool) → w ≡ true → (c && not w) ≡ true → ⊥
  cleared true true h k = false≢true k
  cleared false true h k = false≢true k
  cleared c false h k = false≢true h

  uncleared : (c w : Bool) → c ≡ true → w ≡ false → (c && not w) ≡ true
  uncleared true false h k = refl
  uncleared false w h k = absurd (false≢true h)
  uncleared true true h k = absurd (true≢false k)

  never : (c w : Bool) → (c ≡ true → ⊥) → (c && not w) ≡ true → ⊥
  never true w h k = h refl
  never false w h k = false≢true k

  either_one : (c w : Bool) → w ≡ true → (c || w) ≡ true
  either_one true w h = refl
  either_one false w h = h

  either_first : (c w : Bool) → c ≡ true → (c || w) ≡ true
  either_first true w h = refl
  either_first false w h = absurd (false≢true h)

  neither : (c w : Bool) → (c ≡ true → ⊥) → w ≡ false → (c || w) ≡ true → ⊥
  neither true w h k e = h refl
  neither false w h k e = true≢false (sym e ∙ k)

  unpack_true : (t : ℕ) (s o : Term) → IsRest o → (look : Look) → is_look cs look ≡ true → Hold cs m (over_unpack cs (app (Unpack t) (s ∷ o ∷ [])) t s o look)
  unpack_true t s o ro (LevelLook p) k = leveled_true (app (Unpack t) (s ∷ o ∷ [])) s o p (above cs t) (λ x. x.level) ro (rest_of p k) refl
  unpack_true t s o ro (CommittedLook p) k =
      let after = app (Unpack t) (s ∷ o ∷ []) in (
        given_true cs m (owned_at s p o t ∷ []) (neg (committed after p)) (λ h. cleared _ _ (owned_test s p o t h.0)),
        (
          given_true cs m (neg (owned_at s p o t) ∷ committed s p ∷ []) (committed after p) (λ h. uncleared _ _ h.1.0 (not_owned_test s p o t h.0)),
          (
            given_true cs m (neg (committed s p) ∷ []) (neg (committed after p)) (λ h. never _ _ h.0),
            tt,
          ),
        ),
      )
  unpack_true t s o ro (FieldLook p g) k = same_true cs m (FieldLook p g) (app (Unpack t) (s ∷ o ∷ [])) s [] (λ _. refl)
  unpack_true t s o ro (ElementLook r b j) k = same_true cs m (ElementLook r b j) (app (Unpack t) (s ∷ o ∷ [])) s [] (λ _. refl)
  unpack_true t s o ro (OwnerLook p) k = same_true cs m (OwnerLook p) (app (Unpack t) (s ∷ o ∷ [])) s [] (λ _. refl)
  unpack_true t s o ro NextLook k = same_true cs m NextLook (app (Unpack t) (s ∷ o ∷ [])) s [] (λ _. refl)
  unpack_true t s o ro (AllocatedLook p) k = same_true cs m (AllocatedLook p) (app (Unpack t) (s ∷ o ∷ [])) s [] (λ _. alloc_same (as_store (V cs m (app (Unpack t) (s ∷ o ∷ [])))) (as_store (V cs m s)) (as_thing (V cs m p)) refl)
  unpack_true t s o ro (ReadyLook p) k = same_true cs m (ReadyLook p) (app (Unpack t) (s ∷ o ∷ [])) s [] (λ _. ((λ t. t), (λ t. t)))
  unpack_true t s o ro (LengthLook a0) k = same_true cs m (LengthLook a0) (app (Unpack t) (s ∷ o ∷ [])) s [] (λ _. tt)

  pack_true : (t : ℕ) (s o : Term) → IsRest o → (look : Look) → is_look cs look ≡ true → Hold cs m (over_pack (app (Pack t) (s ∷ o ∷ [])) t s o look)
  pack_true t s o ro (LevelLook p) k = leveled_true (app (Pack t) (s ∷ o ∷ [])) s o p t (λ x. x.level) ro (rest_of p k) refl
  pack_true t s o ro (CommittedLook p) k =
      let after = app (Pack t) (s ∷ o ∷ []) in (
        given_true cs m (owned_at s p o t ∷ []) (committed after p) (λ h. either_one _ _ (owned_test s p o t h.0)),
        (
          given_true cs m (committed s p ∷ []) (committed after p) (λ h. either_first _ _ h.0),
          (
            given_true cs m (neg (owned_at s p o t) ∷ neg (committed s p) ∷ []) (neg (committed after p)) (λ h. neither _ _ h.1.0 (not_owned_test s p o t h.0)),
            tt,
          ),
        ),
      )
  pack_true t s o ro (FieldLook p g) k = same_true cs m (FieldLook p g) (app (Pack t) (s ∷ o ∷ [])) s [] (λ _. refl)
  pack_true t s o ro (ElementLook r b j) k = same_true cs m (ElementLook r b j) (app (Pack t) (s ∷ o ∷ [])) s [] (λ _. refl)
  pack_true t s o ro (OwnerLook p) k = same_true cs m (OwnerLook p) (app (Pack t) (s ∷ o ∷ [])) s [] (λ _. refl)
  pack_true t s o ro NextLook k = same_true cs m NextLook (app (Pack t) (s ∷ o ∷ [])) s [] (λ _. refl)
  pack_true t s o ro (AllocatedLook p) k = same_true cs m (AllocatedLook p) (app (Pack t) (s ∷ o ∷ [])) s [] (λ _. alloc_same (as_store (V cs m (app (Pack t) (s ∷ o ∷ [])))) (as_store (V cs m s)) (as_thing (V cs m p)) refl)
  pack_true t s o ro (ReadyLook p) k = same_true cs m (ReadyLook p) (app (Pack t) (s ∷ o ∷ [])) s [] (λ _. ((λ t. t), (λ t. t)))
  pack_true t s o ro (LengthLook a0) k = same_true cs m (LengthLook a0) (app (Pack t) (s ∷ o ∷ [])) s [] (λ _. tt)

  -- ---- owners

  abbrev OwnerAt : Term → Term → Thing
  OwnerAt s p = ((as_store (V cs m s)).at (as_thing (V cs m p))).owner

  same_owners : (s p e : Term) → Hold cs m (where_equal (owner_of s p) (owner_of s e)) → same_thing (OwnerAt s p) (OwnerAt s e) ≡ true
  same_owners s p e h = things_same _ _ (equal_values cs m (owner_of s p) (owner_of s e) h)

  other_owners : (s p e : Term) → T cs m (differ (owner_of s p) (owner_of s e)) → same_thing (OwnerAt s p) (OwnerAt s e) ≡ false
  other_owners s p e h = things_differ _ _ refl refl h

  moved_yes : (group new owner : Thing) → is_group group ≡ true → same_thing owner group ≡ true → moved group new owner ≡ new
  moved_yes group_ new owner g e = if_yes _ new owner (yes_both _ _ g e)

  moved_other : (group new owner : Thing) → same_thing owner group ≡ false → moved group new owner ≡ owner
  moved_other group_ new owner e = if_no _ new owner (and_false _ _ e)

  moved_none : (group new owner : Thing) → (is_group group ≡ true → ⊥) → moved group new owner ≡ owner
  moved_none group_ new owner n = if_no _ new owner (not_first _ _ (false_from_ne_true (is_group group_) n))

  captured_null : (h : Heap) (e new owner : Thing) → same_thing e null ≡ true → moved (shared_owner h e) new owner ≡ owner
  captured_null h e new owner n = ap (λ v. moved v new owner) (if_yes _ null (h.at e).owner n)

  captured_some : (h : Heap) (e new owner : Thing) → same_thing e null ≡ false → moved (shared_owner h e) new owner ≡ moved (h.at e).owner new owner
  captured_some h e new owner n = ap (λ v. moved v new owner) (if_no _ null (h.at e).owner n)

  -- what the owner of p is after a capture where this is its owner if e isn't null
  captured_or_null : (h : Heap) (e new owner : Thing) → moved (h.at e).owner new owner ≡ owner → moved (shared_owner h e) new owner ≡ owner
  captured_or_null h e new owner same = by_test (same_thing e null) (captured_null h e new owner) (λ n. captured_some h e new owner n ∙ same)

  capture_true : (t : ℕ) (s o e : Term) → IsRest e → (look : Look) → is_look cs look ≡ true → Hold cs m (over_capture (app (Capture t) (s ∷ o ∷ e ∷ [])) t s o e look)
  capture_true t s o e re (OwnerLook p) k =
      let after = app (Capture t) (s ∷ o ∷ e ∷ []) in
      let before = as_store (V cs m s) in
      let captured = as_thing (V cs m e) in
      let pair = owner_pair (as_thing (V cs m o)) (class_name t) in
      let not_null : T cs m (differ e null_term) → same_thing captured null ≡ false = λ n. things_differ _ (thing null) re refl n in
      let kept : moved (OwnerAt s e) pair (OwnerAt s p) ≡ OwnerAt s p → moved (shared_owner before captured) pair (OwnerAt s p) ≡ OwnerAt s p = captured_or_null before captured pair (OwnerAt s p) in (
        given_true cs m (where_equal e null_term) (equal (owner_of after p) (owner_of s p)) (λ h. ap thing (captured_null before captured pair (OwnerAt s p) (things_same _ _ (equal_values cs m e null_term h)))),
        Hold-append cs m (where_different e null_term (captured_owners after t s o e p)) (given (neg (group (owner_of s e)) ∷ []) (equal (owner_of after p) (owner_of s p)) ∷ where_different (owner_of s p) (owner_of s e) (same_over (OwnerLook p) after s))
            (different_true cs m e null_term (captured_owners after t s o e p) (
              given_true cs m (differ e null_term ∷ group (owner_of s e) ∷ where_equal (owner_of s p) (owner_of s e)) (equal (owner_of after p) (pair_of o (class_term t))) (λ h.
                  ap thing (captured_some before captured pair (OwnerAt s p) (not_null h.0) ∙ moved_yes (OwnerAt s e) pair (OwnerAt s p) h.1.0 (same_owners s p e h.1.1))),
              tt,
            )) (
              given_true cs m (neg (group (owner_of s e)) ∷ []) (equal (owner_of after p) (owner_of s p)) (λ h. ap thing (kept (moved_none (OwnerAt s e) pair (OwnerAt s p) h.0))),
              different_true cs m (owner_of s p) (owner_of s e) (same_over (OwnerLook p) after s) (same_true cs m (OwnerLook p) after s (differ (owner_of s p) (owner_of s e) ∷ []) (λ h.
                  ap thing (kept (moved_other (OwnerAt s e) pair (OwnerAt s p) (other_owners s p e h.0))))),
            ),
      )
  capture_true t s o e re (FieldLook p g) k = same_true cs m (FieldLook p g) (app (Capture t) (s ∷ o ∷ e ∷ [])) s [] (λ _. refl)
  capture_true t s o e re (ElementLook r b j) k = same_true cs m (ElementLook r b j) (app (Capture t) (s ∷ o ∷ e ∷ [])) s [] (λ _. refl)
  capture_true t s o e re (LevelLook p) k = same_true cs m (LevelLook p) (app (Capture t) (s ∷ o ∷ e ∷ [])) s [] (λ _. refl)
  capture_true t s o e re NextLook k = same_true cs m NextLook (app (Capture t) (s ∷ o ∷ e ∷ [])) s [] (λ _. refl)
  capture_true t s o e re (AllocatedLook p) k = same_true cs m (AllocatedLook p) (app (Capture t) (s ∷ o ∷ e ∷ [])) s [] (λ _. alloc_same (as_store (V cs m (app (Capture t) (s ∷ o ∷ e ∷ [])))) (as_store (V cs m s)) (as_thing (V cs m p)) refl)
  capture_true t s o e re (CommittedLook p) k = same_true cs m (CommittedLook p) (app (Capture t) (s ∷ o ∷ e ∷ [])) s [] (λ _. ((λ t. t), (λ t. t)))
  capture_true t s o e re (ReadyLook p) k = same_true cs m (ReadyLook p) (app (Capture t) (s ∷ o ∷ e ∷ [])) s [] (λ _. ((λ t. t), (λ t. t)))
  capture_true t s o e re (LengthLook a0) k = same_true cs m (LengthLook a0) (app (Capture t) (s ∷ o ∷ e ∷ [])) s [] (λ _. tt)

  join_null : (e w v u : Thing) → same_thing e null ≡ true → joined_owner e w v u ≡ u
  join_null e w v u n = if_yes _ _ _ n

  join_group : (e w v u : Thing) → same_thing e null ≡ false → is_group v ≡ true → joined_owner e w v u ≡ moved v w u
  join_group e w v u n g = if_no _ _ _ n ∙ if_yes _ _ _ g

  join_back : (e w v u : Thing) → same_thing e null ≡ false → is_group v ≡ false → joined_owner e w v u ≡ moved w v u
  join_back e w v u n g = if_no _ _ _ n ∙ if_no _ _ _ g

  -- what the owner of p is after a join where this is its owner if e isn't null
  join_or_null : (e w v u : Thing) → (same_thing e null ≡ false → joined_owner e w v u ≡ u) → joined_owner e w v u ≡ u
  join_or_null e w v u h = by_test (same_thing e null) (join_null e w v u) h

  join_true : (s o e : Term) → IsRest e → (look : Look) → is_look cs look ≡ true → Hold cs m (over_join (app Join (s ∷ o ∷ e ∷ [])) s o e look)
  join_true s o e re (OwnerLook p) k =
      let after = app Join (s ∷ o ∷ e ∷ []) in
      let no_group : (x : Thing) → (is_group x ≡ true → ⊥) → is_group x ≡ false = λ x n. false_from_ne_true (is_group x) n in
      let not_null : T cs m (differ e null_term) → same_thing (as_thing (V cs m e)) null ≡ false = λ n. things_differ _ (thing null) re refl n in (
        given_true cs m (where_equal e null_term) (equal (owner_of after p) (owner_of s p)) (λ h. ap thing (join_null _ _ _ _ (things_same _ _ (equal_values cs m e null_term h)))),
        Hold-append cs m (where_different e null_term (joined_owners after s o e p)) (kept_owners after s o e p)
            (different_true cs m e null_term (joined_owners after s o e p) (
              given_true cs m (differ e null_term ∷ group (owner_of s e) ∷ where_equal (owner_of s p) (owner_of s e)) (equal (owner_of after p) (owner_of s o)) (λ h.
                  ap thing (join_group _ _ _ _ (not_null h.0) h.1.0 ∙ moved_yes _ _ _ h.1.0 (same_owners s p e h.1.1))),
              (
                given_true cs m (differ e null_term ∷ neg (group (owner_of s e)) ∷ group (owner_of s o) ∷ where_equal (owner_of s p) (owner_of s o)) (equal (owner_of after p) (owner_of s e)) (λ h.
                    ap thing (join_back _ _ _ _ (not_null h.0) (no_group _ h.1.0) ∙ moved_yes _ _ _ h.1.1.0 (same_owners s p o h.1.1.1))),
                tt,
              ),
            ))
            (Hold-append cs m (where_different (owner_of s p) (owner_of s e) (λ ps. given (group (owner_of s e) ∷ ps) (equal (owner_of after p) (owner_of s p)) ∷ []) ++ where_different (owner_of s p) (owner_of s o) (λ ps. given (neg (group (owner_of s e)) ∷ ps) (equal (owner_of after p) (owner_of s p)) ∷ [])) (given (neg (group (owner_of s e)) ∷ neg (group (owner_of s o)) ∷ []) (equal (owner_of after p) (owner_of s p)) ∷ [])
            (Hold-append cs m (where_different (owner_of s p) (owner_of s e) (λ ps. given (group (owner_of s e) ∷ ps) (equal (owner_of after p) (owner_of s p)) ∷ [])) (where_different (owner_of s p) (owner_of s o) (λ ps. given (neg (group (owner_of s e)) ∷ ps) (equal (owner_of after p) (owner_of s p)) ∷ []))
            (different_true cs m (owner_of s p) (owner_of s e) (λ ps. given (group (owner_of s e) ∷ ps) (equal (owner_of after p) (owner_of s p)) ∷ []) (
              given_true cs m (group (owner_of s e) ∷ differ (owner_of s p) (owner_of s e) ∷ []) (equal (owner_of after p) (owner_of s p)) (λ h.
                  ap thing (join_or_null _ _ _ _ (λ n. join_group _ _ _ _ n h.0 ∙ moved_other _ _ _ (other_owners s p e h.1.0)))),
              tt,
            ))
            (different_true cs m (owner_of s p) (owner_of s o) (λ ps. given (neg (group (owner_of s e)) ∷ ps) (equal (owner_of after p) (owner_of s p)) ∷ []) (
              given_true cs m (neg (group (owner_of s e)) ∷ differ (owner_of s p) (owner_of s o) ∷ []) (equal (owner_of after p) (owner_of s p)) (λ h.
                  ap thing (join_or_null _ _ _ _ (λ n. join_back _ _ _ _ n (no_group _ h.0) ∙ moved_other _ _ _ (other_owners s p o h.1.0)))),
              tt,
            ))) (
              given_true cs m (neg (group (owner_of s e)) ∷ neg (group (owner_of s o)) ∷ []) (equal (owner_of after p) (owner_of s p)) (λ h.
                  ap thing (join_or_null _ _ _ _ (λ n. join_back _ _ _ _ n (no_group _ h.0) ∙ moved_none _ _ _ h.1.0))),
              tt,
            )),
      )
  join_true s o e re (FieldLook p g) k = same_true cs m (FieldLook p g) (app Join (s ∷ o ∷ e ∷ [])) s [] (λ _. refl)
  join_true s o e re (ElementLook r b j) k = same_true cs m (ElementLook r b j) (app Join (s ∷ o ∷ e ∷ [])) s [] (λ _. refl)
  join_true s o e re (LevelLook p) k = same_true cs m (LevelLook p) (app Join (s ∷ o ∷ e ∷ [])) s [] (λ _. refl)
  join_true s o e re NextLook k = same_true cs m NextLook (app Join (s ∷ o ∷ e ∷ [])) s [] (λ _. refl)
  join_true s o e re (AllocatedLook p) k = same_true cs m (AllocatedLook p) (app Join (s ∷ o ∷ e ∷ [])) s [] (λ _. alloc_same (as_store (V cs m (app Join (s ∷ o ∷ e ∷ [])))) (as_store (V cs m s)) (as_thing (V cs m p)) refl)
  join_true s o e re (CommittedLook p) k = same_true cs m (CommittedLook p) (app Join (s ∷ o ∷ e ∷ [])) s [] (λ _. ((λ t. t), (λ t. t)))
  join_true s o e re (ReadyLook p) k = same_true cs m (ReadyLook p) (app Join (s ∷ o ∷ e ∷ [])) s [] (λ _. ((λ t. t), (λ t. t)))
  join_true s o e re (LengthLook a0) k = same_true cs m (LengthLook a0) (app Join (s ∷ o ∷ e ∷ [])) s [] (λ _. tt)

  -- ---- ready

  ready_true : (s o : Term) → IsRest o → (look : Look) → is_look cs look ≡ true → Hold cs m (over_ready (app MakeReady (s ∷ o ∷ [])) s o look)
  ready_true s o ro (ReadyLook p) k =
      let after = app MakeReady (s ∷ o ∷ []) in (
        given_true cs m (where_equal p o) (ready after p) (λ h. either_one _ _ (things_same _ _ (equal_values cs m p o h))),
        (
          given_true cs m (ready s p ∷ []) (ready after p) (λ h. either_first _ _ h.0),
          different_true cs m p o (λ ps. given (ps ++ neg (ready s p) ∷ []) (neg (ready after p)) ∷ [])
              (given_true cs m (differ p o ∷ neg (ready s p) ∷ []) (neg (ready after p)) (λ h. neither _ _ h.1.0 (things_differ _ _ (rest_of p k) ro h.0)), tt),
        ),
      )
  ready_true s o ro (FieldLook p g) k = same_true cs m (FieldLook p g) (app MakeReady (s ∷ o ∷ [])) s [] (λ _. refl)
  ready_true s o ro (ElementLook r b j) k = same_true cs m (ElementLook r b j) (app MakeReady (s ∷ o ∷ [])) s [] (λ _. refl)
  ready_true s o ro (LevelLook p) k = same_true cs m (LevelLook p) (app MakeReady (s ∷ o ∷ [])) s [] (λ _. refl)
  ready_true s o ro (OwnerLook p) k = same_true cs m (OwnerLook p) (app MakeReady (s ∷ o ∷ [])) s [] (λ _. refl)
  ready_true s o ro NextLook k = same_true cs m NextLook (app MakeReady (s ∷ o ∷ [])) s [] (λ _. refl)
  ready_true s o ro (AllocatedLook p) k = same_true cs m (AllocatedLook p) (app MakeReady (s ∷ o ∷ [])) s [] (λ _. alloc_same (as_store (V cs m (app MakeReady (s ∷ o ∷ [])))) (as_store (V cs m s)) (as_thing (V cs m p)) refl)
  ready_true s o ro (CommittedLook p) k = same_true cs m (CommittedLook p) (app MakeReady (s ∷ o ∷ [])) s [] (λ _. ((λ t. t), (λ t. t)))
  ready_true s o ro (LengthLook a0) k = same_true cs m (LengthLook a0) (app MakeReady (s ∷ o ∷ [])) s [] (λ _. tt)

  -- ---- new objects

  same_bits : (a b : Bool) → a ≡ b → (a ≡ true → b ≡ true) × (b ≡ true → a ≡ true)
  same_bits a b e = (λ t. sym e ∙ t, λ t. e ∙ t)

  no_bit : (a : Bool) → a ≡ false → a ≡ true → ⊥
  no_bit a e t = false≢true (sym e ∙ t)

  default_cell : {P : Type 0} (r : Sort) (i : P) → cell r no_cells i ≡ V cs m (default_term r)
  default_cell sort.Whole i = refl
  default_cell sort.Truth i = refl
  default_cell sort.Rest i = refl
  default_cell sort.Store i = refl

  allocated_more : (new : Entry) (h : Heap) (w : Thing) → is_allocated h w ≡ true → is_allocated (with_new new h) w ≡ true
  allocated_more new h (reference o) a = let l = ltb-true o h.next a in lt-ltb o (suc h.next) (omega (arith, l))
  allocated_more new h w a = absurd (false≢true a)

  allocated_next : (new : Entry) (h : Heap) (w : Thing) → w ≡ reference h.next → is_allocated (with_new new h) w ≡ true
  allocated_next new h w e = subst (λ x. is_allocated (with_new new h) x ≡ true) (sym e) (lt-ltb h.next (suc h.next) (omega arith))

  allocated_before : (new : Entry) (h : Heap) (w : Thing) → same_thing w (reference h.next) ≡ false → is_allocated (with_new new h) w ≡ true → is_allocated h w ≡ true
  allocated_before new h (reference o) d a =
      let l = ltb-true o (suc h.next) a in
      ⊎_elim
      (λ e. absurd (true≢false (sym (eq-eqb o h.next e) ∙ d)))
      (λ n. lt-ltb o h.next (omega (arith, l, n)))
      (cases_eq o h.next)
  allocated_before new h w d a = absurd (false≢true a)

  next_other : (n : ℕ) → thing (reference (suc n)) ≡ thing (reference n) → ⊥
  next_other n e = let same : suc n ≡ n = cc in omega (arith, same)

  new_true : (t : ℕ) (s : Term) → (look : Look) → is_look cs look ≡ true → Hold cs m (over_new cs (app (New t) (s ∷ [])) 0 (neg) s look)
  new_true t s (FieldLook p f) k =
      let after = (app (New t) (s ∷ [])) in
      let rp = rest_of p (and_parts (has_field cs f) (have_sorts cs (sort.Rest ∷ []) (p ∷ [])) k).1 in (
        given_true cs m (where_equal p (next_of s)) (equal (app (Field f) (after ∷ p ∷ [])) (default_term (field_sort cs f))) (λ e.
            ap (λ x. cell (field_sort cs f) x.fields f) (if_yes _ (new_object (as_store (V cs m s)).next) ((as_store (V cs m s)).at (as_thing (V cs m p))) (things_same (V cs m p) (thing (reference (as_store (V cs m s)).next)) (equal_values cs m p (next_of s) e))) ∙ default_cell (field_sort cs f) f),
        different_true cs m p (next_of s) (same_over (FieldLook p f) after s) (same_true cs m (FieldLook p f) after s (differ p (next_of s) ∷ []) (λ e.
            ap (λ x. cell (field_sort cs f) x.fields f) (if_no _ (new_object (as_store (V cs m s)).next) ((as_store (V cs m s)).at (as_thing (V cs m p))) (things_differ (V cs m p) (thing (reference (as_store (V cs m s)).next)) rp refl e.0)))),
      )
  new_true t s (ElementLook r a i) k =
      let after = (app (New t) (s ∷ [])) in
      let q = (and_parts (not (same_sort r sort.Store)) (have_sorts cs (sort.Rest ∷ sort.Whole ∷ []) (a ∷ i ∷ [])) k).1 in
      let ra = (AreOf-values cs m (sort.Rest ∷ sort.Whole ∷ []) (a ∷ i ∷ []) q).0 in (
        given_true cs m (where_equal a (next_of s)) (equal (app (Element r) (after ∷ a ∷ i ∷ [])) (default_term r)) (λ e.
            ap (λ x. cell r x.elements (as_whole (V cs m i))) (if_yes _ (new_object (as_store (V cs m s)).next) ((as_store (V cs m s)).at (as_thing (V cs m a))) (things_same (V cs m a) (thing (reference (as_store (V cs m s)).next)) (equal_values cs m a (next_of s) e))) ∙ default_cell r (as_whole (V cs m i))),
        different_true cs m a (next_of s) (same_over (ElementLook r a i) after s) (same_true cs m (ElementLook r a i) after s (differ a (next_of s) ∷ []) (λ e.
            ap (λ x. cell r x.elements (as_whole (V cs m i))) (if_no _ (new_object (as_store (V cs m s)).next) ((as_store (V cs m s)).at (as_thing (V cs m a))) (things_differ (V cs m a) (thing (reference (as_store (V cs m s)).next)) ra refl e.0)))),
      )
  new_true t s (LevelLook p) k =
      let after = (app (New t) (s ∷ [])) in
      let rp = rest_of p k in (
        given_true cs m (where_equal p (next_of s)) (equal (level_of after p) (class_term 0)) (λ e. ap (λ x. thing (class_name x.level)) (if_yes _ (new_object (as_store (V cs m s)).next) ((as_store (V cs m s)).at (as_thing (V cs m p))) (things_same (V cs m p) (thing (reference (as_store (V cs m s)).next)) (equal_values cs m p (next_of s) e)))),
        different_true cs m p (next_of s) (same_over (LevelLook p) after s) (same_true cs m (LevelLook p) after s (differ p (next_of s) ∷ []) (λ e.
            ap (λ x. thing (class_name x.level)) (if_no _ (new_object (as_store (V cs m s)).next) ((as_store (V cs m s)).at (as_thing (V cs m p))) (things_differ (V cs m p) (thing (reference (as_store (V cs m s)).next)) rp refl e.0)))),
      )
  new_true t s (OwnerLook p) k =
      let after = (app (New t) (s ∷ [])) in
      let rp = rest_of p k in
      different_true cs m p (next_of s) (same_over (OwnerLook p) after s) (same_true cs m (OwnerLook p) after s (differ p (next_of s) ∷ []) (λ e.
      ap (λ x. thing x.owner) (if_no _ (new_object (as_store (V cs m s)).next) ((as_store (V cs m s)).at (as_thing (V cs m p))) (things_differ (V cs m p) (thing (reference (as_store (V cs m s)).next)) rp refl e.0))))
  new_true t s NextLook k = (next_other _, tt)
  new_true t s (AllocatedLook p) k =
      let after = (app (New t) (s ∷ [])) in
      let rp = rest_of p k in (
        given_true cs m (where_equal p (next_of s)) (allocated after p) (λ e. allocated_next (new_object (as_store (V cs m s)).next) (as_store (V cs m s)) (as_thing (V cs m p)) (ap as_thing (equal_values cs m p (next_of s) e))),
        (
          given_true cs m (allocated s p ∷ []) (allocated after p) (λ e. allocated_more (new_object (as_store (V cs m s)).next) (as_store (V cs m s)) (as_thing (V cs m p)) e.0),
          different_true cs m p (next_of s) (λ ps. given (ps ++ neg (allocated s p) ∷ []) (neg (allocated after p)) ∷ []) (
            given_true cs m (differ p (next_of s) ∷ neg (allocated s p) ∷ []) (neg (allocated after p)) (λ e z.
                e.1.0 (allocated_before (new_object (as_store (V cs m s)).next) (as_store (V cs m s)) (as_thing (V cs m p)) (things_differ (V cs m p) (thing (reference (as_store (V cs m s)).next)) rp refl e.0) z)),
            tt,
          ),
        ),
      )
  new_true t s (CommittedLook p) k =
      let after = (app (New t) (s ∷ [])) in
      let rp = rest_of p k in (
        given_true cs m (where_equal p (next_of s)) (neg (committed after p)) (λ e. no_bit _ (ap (λ x. x.committed) (if_yes _ (new_object (as_store (V cs m s)).next) ((as_store (V cs m s)).at (as_thing (V cs m p))) (things_same (V cs m p) (thing (reference (as_store (V cs m s)).next)) (equal_values cs m p (next_of s) e))))),
        different_true cs m p (next_of s) (same_over (CommittedLook p) after s) (same_true cs m (CommittedLook p) after s (differ p (next_of s) ∷ []) (λ e.
            same_bits _ _ (ap (λ x. x.committed) (if_no _ (new_object (as_store (V cs m s)).next) ((as_store (V cs m s)).at (as_thing (V cs m p))) (things_differ (V cs m p) (thing (reference (as_store (V cs m s)).next)) rp refl e.0))))),
      )
  new_true t s (ReadyLook p) k =
      let after = (app (New t) (s ∷ [])) in
      let rp = rest_of p k in (
        given_true cs m (where_equal p (next_of s)) (neg (ready after p)) (λ e. no_bit _ (ap (λ x. x.ready) (if_yes _ (new_object (as_store (V cs m s)).next) ((as_store (V cs m s)).at (as_thing (V cs m p))) (things_same (V cs m p) (thing (reference (as_store (V cs m s)).next)) (equal_values cs m p (next_of s) e))))),
        different_true cs m p (next_of s) (same_over (ReadyLook p) after s) (same_true cs m (ReadyLook p) after s (differ p (next_of s) ∷ []) (λ e.
            same_bits _ _ (ap (λ x. x.ready) (if_no _ (new_object (as_store (V cs m s)).next) ((as_store (V cs m s)).at (as_thing (V cs m p))) (things_differ (V cs m p) (thing (reference (as_store (V cs m s)).next)) rp refl e.0))))),
      )
  new_true t s (LengthLook a) k = tt

  array_true : (t : ℕ) (s n : Term) → (look : Look) → is_look cs look ≡ true → Hold cs m (over_new cs (app (NewArray t) (s ∷ n ∷ [])) t (λ f. f) s look)
  array_true t s n (FieldLook p f) k =
      let after = (app (NewArray t) (s ∷ n ∷ [])) in
      let rp = rest_of p (and_parts (has_field cs f) (have_sorts cs (sort.Rest ∷ []) (p ∷ [])) k).1 in (
        given_true cs m (where_equal p (next_of s)) (equal (app (Field f) (after ∷ p ∷ [])) (default_term (field_sort cs f))) (λ e.
            ap (λ x. cell (field_sort cs f) x.fields f) (if_yes _ (new_array t (as_store (V cs m s)).next) ((as_store (V cs m s)).at (as_thing (V cs m p))) (things_same (V cs m p) (thing (reference (as_store (V cs m s)).next)) (equal_values cs m p (next_of s) e))) ∙ default_cell (field_sort cs f) f),
        different_true cs m p (next_of s) (same_over (FieldLook p f) after s) (same_true cs m (FieldLook p f) after s (differ p (next_of s) ∷ []) (λ e.
            ap (λ x. cell (field_sort cs f) x.fields f) (if_no _ (new_array t (as_store (V cs m s)).next) ((as_store (V cs m s)).at (as_thing (V cs m p))) (things_differ (V cs m p) (thing (reference (as_store (V cs m s)).next)) rp refl e.0)))),
      )
  array_true t s n (ElementLook r a i) k =
      let after = (app (NewArray t) (s ∷ n ∷ [])) in
      let q = (and_parts (not (same_sort r sort.Store)) (have_sorts cs (sort.Rest ∷ sort.Whole ∷ []) (a ∷ i ∷ [])) k).1 in
      let ra = (AreOf-values cs m (sort.Rest ∷ sort.Whole ∷ []) (a ∷ i ∷ []) q).0 in (
        given_true cs m (where_equal a (next_of s)) (equal (app (Element r) (after ∷ a ∷ i ∷ [])) (default_term r)) (λ e.
            ap (λ x. cell r x.elements (as_whole (V cs m i))) (if_yes _ (new_array t (as_store (V cs m s)).next) ((as_store (V cs m s)).at (as_thing (V cs m a))) (things_same (V cs m a) (thing (reference (as_store (V cs m s)).next)) (equal_values cs m a (next_of s) e))) ∙ default_cell r (as_whole (V cs m i))),
        different_true cs m a (next_of s) (same_over (ElementLook r a i) after s) (same_true cs m (ElementLook r a i) after s (differ a (next_of s) ∷ []) (λ e.
            ap (λ x. cell r x.elements (as_whole (V cs m i))) (if_no _ (new_array t (as_store (V cs m s)).next) ((as_store (V cs m s)).at (as_thing (V cs m a))) (things_differ (V cs m a) (thing (reference (as_store (V cs m s)).next)) ra refl e.0)))),
      )
  array_true t s n (LevelLook p) k =
      let after = (app (NewArray t) (s ∷ n ∷ [])) in
      let rp = rest_of p k in (
        given_true cs m (where_equal p (next_of s)) (equal (level_of after p) (class_term t)) (λ e. ap (λ x. thing (class_name x.level)) (if_yes _ (new_array t (as_store (V cs m s)).next) ((as_store (V cs m s)).at (as_thing (V cs m p))) (things_same (V cs m p) (thing (reference (as_store (V cs m s)).next)) (equal_values cs m p (next_of s) e)))),
        different_true cs m p (next_of s) (same_over (LevelLook p) after s) (same_true cs m (LevelLook p) after s (differ p (next_of s) ∷ []) (λ e.
            ap (λ x. thing (class_name x.level)) (if_no _ (new_array t (as_store (V cs m s)).next) ((as_store (V cs m s)).at (as_thing (V cs m p))) (things_differ (V cs m p) (thing (reference (as_store (V cs m s)).next)) rp refl e.0)))),
      )
  array_true t s n (OwnerLook p) k =
      let after = (app (NewArray t) (s ∷ n ∷ [])) in
      let rp = rest_of p k in
      different_true cs m p (next_of s) (same_over (OwnerLook p) after s) (same_true cs m (OwnerLook p) after s (differ p (next_of s) ∷ []) (λ e.
      ap (λ x. thing x.owner) (if_no _ (new_array t (as_store (V cs m s)).next) ((as_store (V cs m s)).at (as_thing (V cs m p))) (things_differ (V cs m p) (thing (reference (as_store (V cs m s)).next)) rp refl e.0))))
  array_true t s n NextLook k = (next_other _, tt)
  array_true t s n (AllocatedLook p) k =
      let after = (app (NewArray t) (s ∷ n ∷ [])) in
      let rp = rest_of p k in (
        given_true cs m (where_equal p (next_of s)) (allocated after p) (λ e. allocated_next (new_array t (as_store (V cs m s)).next) (as_store (V cs m s)) (as_thing (V cs m p)) (ap as_thing (equal_values cs m p (next_of s) e))),
        (
          given_true cs m (allocated s p ∷ []) (allocated after p) (λ e. allocated_more (new_array t (as_store (V cs m s)).next) (as_store (V cs m s)) (as_thing (V cs m p)) e.0),
          different_true cs m p (next_of s) (λ ps. given (ps ++ neg (allocated s p) ∷ []) (neg (allocated after p)) ∷ []) (
            given_true cs m (differ p (next_of s) ∷ neg (allocated s p) ∷ []) (neg (allocated after p)) (λ e z.
                e.1.0 (allocated_before (new_array t (as_store (V cs m s)).next) (as_store (V cs m s)) (as_thing (V cs m p)) (things_differ (V cs m p) (thing (reference (as_store (V cs m s)).next)) rp refl e.0) z)),
            tt,
          ),
        ),
      )
  array_true t s n (CommittedLook p) k =
      let after = (app (NewArray t) (s ∷ n ∷ [])) in
      let rp = rest_of p k in (
        given_true cs m (where_equal p (next_of s)) (neg (committed after p)) (λ e. no_bit _ (ap (λ x. x.committed) (if_yes _ (new_array t (as_store (V cs m s)).next) ((as_store (V cs m s)).at (as_thing (V cs m p))) (things_same (V cs m p) (thing (reference (as_store (V cs m s)).next)) (equal_values cs m p (next_of s) e))))),
        different_true cs m p (next_of s) (same_over (CommittedLook p) after s) (same_true cs m (CommittedLook p) after s (differ p (next_of s) ∷ []) (λ e.
            same_bits _ _ (ap (λ x. x.committed) (if_no _ (new_array t (as_store (V cs m s)).next) ((as_store (V cs m s)).at (as_thing (V cs m p))) (things_differ (V cs m p) (thing (reference (as_store (V cs m s)).next)) rp refl e.0))))),
      )
  array_true t s n (ReadyLook p) k =
      let after = (app (NewArray t) (s ∷ n ∷ [])) in
      let rp = rest_of p k in (
        given_true cs m (where_equal p (next_of s)) (ready after p) (λ e. ap (λ x. x.ready) (if_yes _ (new_array t (as_store (V cs m s)).next) ((as_store (V cs m s)).at (as_thing (V cs m p))) (things_same (V cs m p) (thing (reference (as_store (V cs m s)).next)) (equal_values cs m p (next_of s) e)))),
        different_true cs m p (next_of s) (same_over (ReadyLook p) after s) (same_true cs m (ReadyLook p) after s (differ p (next_of s) ∷ []) (λ e.
            same_bits _ _ (ap (λ x. x.ready) (if_no _ (new_array t (as_store (V cs m s)).next) ((as_store (V cs m s)).at (as_thing (V cs m p))) (things_differ (V cs m p) (thing (reference (as_store (V cs m s)).next)) rp refl e.0))))),
      )
  array_true t s n (LengthLook a) k = tt

  -- ---- every change

  pub closed_list : (ts : Terms) → are_well_sorted cs [] ts ≡ true → AllClosed cs (term_list ts)
  closed_list no_terms h = tt
  closed_list (term_then t ts) h = let p = and_parts (is_well_sorted cs [] t) (are_well_sorted cs [] ts) h in (p.0, closed_list ts p.1)

  pub sorts_values : (ss : List Sort) (ts : List Term) → same_sorts (map (sort_of cs []) ts) ss ≡ true → AllClosed cs ts → AreOf ss (values cs m ts)
  sorts_values [] [] h c = tt
  sorts_values [] (t ∷ ts) h c = false≢true h
  sorts_values (s ∷ ss) [] h c = false≢true h
  sorts_values (s ∷ ss) (t ∷ ts) h c =
      let p = and_parts (same_sort (sort_of cs [] t) s) (same_sorts (map (sort_of cs []) ts) ss) h in
      (value_sorted cs m t c.0 ∙ equal_sorts _ s p.0, sorts_values ss ts p.1 c.1)

  -- the sorts of the arguments of `put`
  put_sorts : (a b c d : Sort) → takes cs Put (a ∷ b ∷ c ∷ d ∷ []) ≡ true → (b ≡ sort.Rest) × (c ≡ sort.Whole) × (is_store_sort d ≡ false)
  put_sorts a b c d h =
      ⊎_elim
      (λ l. ⊎_elim (λ x. of_sorts sort.Whole refl x) (λ x. of_sorts sort.Truth refl x)
      (or_cases (same_sorts (a ∷ b ∷ c ∷ d ∷ []) (sort.Store ∷ sort.Rest ∷ sort.Whole ∷ sort.Whole ∷ [])) (same_sorts (a ∷ b ∷ c ∷ d ∷ []) (sort.Store ∷ sort.Rest ∷ sort.Whole ∷ sort.Truth ∷ [])) l))
      (λ x. of_sorts sort.Rest refl x)
      (or_cases (same_sorts (a ∷ b ∷ c ∷ d ∷ []) (sort.Store ∷ sort.Rest ∷ sort.Whole ∷ sort.Whole ∷ []) || same_sorts (a ∷ b ∷ c ∷ d ∷ []) (sort.Store ∷ sort.Rest ∷ sort.Whole ∷ sort.Truth ∷ [])) (same_sorts (a ∷ b ∷ c ∷ d ∷ []) (sort.Store ∷ sort.Rest ∷ sort.Whole ∷ sort.Rest ∷ [])) h)
    where
      of_sorts : (r : Sort) → is_store_sort r ≡ false → same_sorts (a ∷ b ∷ c ∷ d ∷ []) (sort.Store ∷ sort.Rest ∷ sort.Whole ∷ r ∷ []) ≡ true → (b ≡ sort.Rest) × (c ≡ sort.Whole) × (is_store_sort d ≡ false)
      of_sorts r n x =
          let p = and_parts (same_sort a sort.Store) (same_sorts (b ∷ c ∷ d ∷ []) (sort.Rest ∷ sort.Whole ∷ r ∷ [])) x in
          let q = and_parts (same_sort b sort.Rest) (same_sorts (c ∷ d ∷ []) (sort.Whole ∷ r ∷ [])) p.1 in
          let u = and_parts (same_sort c sort.Whole) (same_sorts (d ∷ []) (r ∷ [])) q.1 in
          let v = and_parts (same_sort d r) true u.1 in
          (equal_sorts b sort.Rest q.0, equal_sorts c sort.Whole u.0, subst (λ z. is_store_sort z ≡ false) (sym (equal_sorts d r v.0)) n)

  given_list : (fs gs : List Formula) → Some fs ≡ Some gs → Hold cs m fs → Hold cs m gs
  given_list fs gs e h = let same : fs ≡ gs = cc in subst (λ x. Hold cs m x) same h

  change_true : (look : Look) (f : Symbol) (ts : List Term) (fs : List Formula) → is_look cs look ≡ true → takes cs f (map (sort_of cs []) ts) ≡ true → AllClosed cs ts →
      over_change cs look f ts ≡ Some fs → Hold cs m fs
  change_true look (Set f) (s ∷ o ∷ v ∷ []) fs k h c e =
      let a = sorts_values (sort.Store ∷ sort.Rest ∷ field_sort cs f ∷ []) (s ∷ o ∷ v ∷ []) (and_parts (has_field cs f) _ h).1 c in
      given_list _ fs e (set_true f s o v a.1.0 a.1.1.0 look k)
  change_true look Put (s ∷ a ∷ i ∷ v ∷ []) fs k h c e =
      let p = put_sorts (sort_of cs [] s) (sort_of cs [] a) (sort_of cs [] i) (sort_of cs [] v) h in
      given_list _ fs e (put_true s a i v (value_sorted cs m a c.1.0 ∙ p.0) (value_sorted cs m i c.1.1.0 ∙ p.1) (value_sorted cs m v c.1.1.1.0) p.2 look k)
  change_true look (Unpack t) (s ∷ o ∷ []) fs k h c e = given_list _ fs e (unpack_true t s o (sorts_values (sort.Store ∷ sort.Rest ∷ []) (s ∷ o ∷ []) h c).1.0 look k)
  change_true look (Pack t) (s ∷ o ∷ []) fs k h c e = given_list _ fs e (pack_true t s o (sorts_values (sort.Store ∷ sort.Rest ∷ []) (s ∷ o ∷ []) h c).1.0 look k)
  change_true look (Capture t) (s ∷ o ∷ x ∷ []) fs k h c e = given_list _ fs e (capture_true t s o x (sorts_values (sort.Store ∷ sort.Rest ∷ sort.Rest ∷ []) (s ∷ o ∷ x ∷ []) h c).1.1.0 look k)
  change_true look Join (s ∷ o ∷ x ∷ []) fs k h c e = given_list _ fs e (join_true s o x (sorts_values (sort.Store ∷ sort.Rest ∷ sort.Rest ∷ []) (s ∷ o ∷ x ∷ []) h c).1.1.0 look k)
  change_true look (New t) (s ∷ []) fs k h c e = given_list _ fs e (new_true t s look k)
  change_true look (NewArray t) (s ∷ n ∷ []) fs k h c e = given_list _ fs e (array_true t s n look k)
  change_true look MakeReady (s ∷ o ∷ []) fs k h c e = given_list _ fs e (ready_true s o (sorts_values (sort.Store ∷ sort.Rest ∷ []) (s ∷ o ∷ []) h c).1.0 look k)
  change_true look f ts fs k h c e = let no : ⊥ = cc in absurd no

  -- ---- the rule

  over_true : (s : Term) (o : Option Look) (f : Formula) → read_over cs s o ≡ Some f → T cs m f
  over_true (App g ts) (Some look) f e =
      let p = if_some _ (option_map all_of (over_change cs look g (term_list ts))) f e in
      let a = and_parts (reads_a_store look && is_look cs look) (is_well_sorted cs [] (App g ts)) p.0 in
      let k = (and_parts (reads_a_store look) (is_look cs look) a.0).1 in
      let w = and_parts (takes cs g (map (sort_of cs []) (term_list ts))) (are_well_sorted cs [] ts) a.1 in
      let q = mapped_some all_of (over_change cs look g (term_list ts)) f p.1 in
      subst (λ x. T cs m x) q.2 (all_true cs m q.0 (change_true look g (term_list ts) q.0 k w.0 (closed_list ts w.1) q.1))
  over_true (App g ts) None f e = let no : ⊥ = cc in absurd no
  over_true (Bound k) o f e = let no : ⊥ = cc in absurd no

  -- equal stores give the same
  moved_look : (look : Look) (s t : Term) → V cs m s ≡ V cs m t → SameLooked cs m (look_at look s) (look_at look t)
  moved_look (FieldLook o f) s t e = ap (λ v. cell (field_sort cs f) ((as_store v).at (as_thing (V cs m o))).fields f) e
  moved_look (ElementLook r a i) s t e = ap (λ v. cell r ((as_store v).at (as_thing (V cs m a))).elements (as_whole (V cs m i))) e
  moved_look (LevelLook o) s t e = ap (λ v. thing (class_name ((as_store v).at (as_thing (V cs m o))).level)) e
  moved_look (OwnerLook o) s t e = ap (λ v. thing ((as_store v).at (as_thing (V cs m o))).owner) e
  moved_look NextLook s t e = ap (λ v. thing (reference (as_store v).next)) e
  moved_look (AllocatedLook o) s t e = same_bits _ _ (ap (λ v. is_allocated (as_store v) (as_thing (V cs m o))) e)
  moved_look (CommittedLook o) s t e = same_bits _ _ (ap (λ v. ((as_store v).at (as_thing (V cs m o))).committed) e)
  moved_look (ReadyLook o) s t e = same_bits _ _ (ap (λ v. ((as_store v).at (as_thing (V cs m o))).ready) e)
  moved_look (LengthLook a) s t e = tt

  moved_true : (s t : Term) (o : Option Look) (f : Formula) → read_moved cs s t o ≡ Some f → T cs m f
  moved_true s t (Some look) f e =
      let w = when_some _ (all_of (same_over look s t (where_equal s t))) f e in
      subst (λ x. T cs m x) w.1 (all_true cs m _ (same_true cs m look s t (where_equal s t) (λ h. moved_look look s t (equal_values cs m s t h))))
  moved_true s t None f e = let no : ⊥ = cc in absurd no

  read_here : (b : Bool) (kind s : Term) (ts : List Term) (f : Formula) →
      (if b then option_and_then (λ t. read_moved cs s t (look_from kind (without_last ts))) (last_of ts) else read_over cs s (look_from kind ts)) ≡ Some f → T cs m f
  read_here true kind s ts f e = let p = and_then_some _ (last_of ts) f e in moved_true s p.0 (look_from kind (without_last ts)) f p.2
  read_here false kind s ts f e = over_true s (look_from kind ts) f e

  pub read_true : (ts : List Term) (f : Formula) → read_instance cs ts ≡ Some f → T cs m f
  read_true [] f e = let no : ⊥ = cc in absurd no
  read_true (kind ∷ []) f e = let no : ⊥ = cc in absurd no
  read_true (kind ∷ s ∷ ts) f e = read_here (is_constant_store s) kind s ts f e
