-- Where two sides meet: the constants of the join get the values of the side that was run.
use Rattle.std.proofs.Common.{◌≡◌, ℕ, zero, suc, ◌<◌, List, [], ◌∷◌, ◌++◌, length, Bool, true, false, ◌⊎◌, inl, inr, refl, sym, ◌∙◌, ap, subst, arith}
use Rattle.std.specs.Prelude.{Option, Some, None, slice_get, unwrap_or, if◌then◌else◌}
use Rattle.std.proofs.lemmas.Bool.{false≢true}
use Rattle.ss_core.specs.declared.names.Ty.{Ty}
use Rattle.ss_core.specs.declared.names.Ty.TheVariants as ty
use Rattle.ss_core.specs.Tree.{ClassTree}
use Rattle.ss_store_rules.specs.declared.Value.{Value as ObjectValue}
use Rattle.ss_store_rules.specs.declared.Value.TheVariants as value
use Rattle.ss_store_rules.specs.Store.{Object}
use Rattle.ss_store_rules.specs.Good.{has_type}
use Rattle.ss_store_rules.specs.Locals.{local_types}
use Rattle.ss_store_rules.specs.Values.{local_value}
use Rattle.ss_logic.specs.declared.Sort.{Sort}
use Rattle.ss_logic.specs.Values.{IsNumbered, Table, Value, as_store, sort_of_value, Structure}
use Rattle.ss_logic.specs.Terms.{Term, sort_of_type}
use Rattle.ss_logic.specs.Formulas.{Hold}
use Rattle.ss_logic.specs.Equal.{same_term, equal_terms}
use Rattle.ss_logic.specs.Shapes.{equal}
use Rattle.ss_logic.specs.Express.{element_sort}
use Rattle.ss_logic_means.specs.Means.{standing}
use Rattle.ss_logic_means.specs.Sorts.{HasSort}
use Rattle.ss_logic_means.proofs.Standing.{get_found}
use Rattle.ss_vcgen_heaps.specs.Positions.{Guard, Counters, Position, Walk, raised, under, new_term, with_new, join_term, joined_term, join_locals}
use Rattle.ss_sound_outcomes.specs.Points.{Point, scene, IsSound}
use Rattle.ss_vcgen_safe.specs.At.{IsAlike, Stays, HasValue, HoldIn, IsOn, IsOff, Rises, activation}
use Rattle.ss_vcgen_safe.proofs.Alike.{rises_new, alike_self, alike_twice, alike_lower, stays_on, new_constant}
use Rattle.ss_vcgen_safe.proofs.Guards.{hold_more, under_on, under_off}
use Rattle.ss_vcgen_safe.proofs.Leads.{leads_join_term, leads_join_locals}

-- ---- values of locals

pub typed_sort : (cs : List ClassTree) (s : List Object) (t : Ty) (v : ObjectValue) → has_type cs s t v ≡ true → sort_of_value (standing v) ≡ sort_of_type t
typed_sort cs s ty.Int (value.Int n) h = refl
typed_sort cs s ty.Bool (value.Bool b) h = refl
typed_sort cs s ty.Null value.Null h = refl
typed_sort cs s (ty.Ref t non_null) value.Null h = refl
typed_sort cs s (ty.Ref t non_null) (value.Obj o) h = refl
typed_sort cs s t v h = absurd (false≢true h)

pub get_below : {A : Type 0} (xs : List A) (i : ℕ) (x : A) → slice_get xs i ≡ Some x → i < length xs
get_below [] i x e = let no : ⊥ = cc in absurd no
get_below (y ∷ xs) zero x e = omega arith
get_below (y ∷ xs) (suc i) x e = let l = get_below xs i x e in omega (arith, l)

-- each local has a value of the sort of its type
pub local_sorted : (w : Walk) (before : List Object) (table : Table) (p : Point) → IsSound (activation w before table) p → (x : ℕ) (t : Ty) → slice_get (local_types w.body) x ≡ Some t →
    sort_of_value (standing (local_value (scene (activation w before table) p) x)) ≡ sort_of_type t
local_sorted w before table p sound x t there =
    let found = get_found p.locals x (let l = get_below (local_types w.body) x t there in let c = sound.locals.count in omega (arith, l, c)) in
    ap (λ o. sort_of_value (standing (unwrap_or o value.Null))) found.1 ∙ typed_sort w.program.classes p.store t found.0 (sound.locals.types x t found.0 there found.1)

-- ---- one term

-- one of two sides was run
abbrev pub Ran : Counters → Structure → Guard → Guard → Type 0 → Type 0 → Type 0
Ran n m g h P Q = (Stays n m (IsOn g) × Stays n m (IsOff h) × P) ⊎ (Stays n m (IsOff g) × Stays n m (IsOn h) × Q)

pub ran_on : (n n' : Counters) (m m' : Structure) (g h : Guard) (P Q P' Q' : Type 0) → Rises n n' → IsAlike n m m' → (P → P') → (Q → Q') → Ran n m g h P Q → Ran n' m' g h P' Q'
ran_on n n' m m' g h P Q P' Q' r a f b (inl x) = inl (stays_on (IsOn g) n n' m m' r a x.0, stays_on (IsOff h) n n' m m' r a x.1, f x.2)
ran_on n n' m m' g h P Q P' Q' r a f b (inr x) = inr (stays_on (IsOff g) n n' m m' r a x.0, stays_on (IsOn h) n n' m m' r a x.1, b x.2)

-- the term has the sort, and the value
abbrev pub IsTerm : List ClassTree → Counters → Structure → Sort → Value → Term → Type 0
IsTerm cs n m s v t = Stays n m (HasValue cs t v) × HasSort cs [] s t

pub term_on : (cs : List ClassTree) (n n' : Counters) (m m' : Structure) (s : Sort) (v : Value) (t : Term) → Rises n n' → IsAlike n m m' → IsTerm cs n m s v t → IsTerm cs n' m' s v t
term_on cs n n' m m' s v t r a h = (stays_on (HasValue cs t v) n n' m m' r a h.0, h.1)

-- a position that is reached
pub record IsReached (cs : List ClassTree) (m : Structure) (k : Position) : Type 0 where
  pub guard : Stays k.next m (IsOn k.guard)
  pub premises : Stays k.next m (HoldIn cs k.premises)

pub record TermJoined (cs : List ClassTree) (m : Structure) (k k' : Position) (s : Sort) (v : Value) (t : Term) : Type 0 where
  pub m' : Structure
  pub alike : IsAlike k.next m m'
  pub reached : IsReached cs m' k'
  pub is : IsTerm cs k'.next m' s v t

module _ (cs : List ClassTree) (g h : Guard) where
  join_true : (n : Counters) (m : Structure) (s : Sort) (c x y : Term) (v : Value) → Ran n m g h (IsTerm cs n m s v x) (IsTerm cs n m s v y) → (m' : Structure) → IsAlike n m m' → HasValue cs c v m' →
      Hold cs m' (under g (equal c x) ∷ under h (equal c y) ∷ [])
  join_true n m s c x y v (inl r) m' a now = (under_on cs m' g (equal c x) (now [] ∙ sym (r.2.0 m' a [])), (under_off cs m' h (equal c y) (r.1 m' a), tt))
  join_true n m s c x y v (inr r) m' a now = (under_off cs m' g (equal c x) (r.0 m' a), (under_on cs m' h (equal c y) (now [] ∙ sym (r.2.0 m' a [])), tt))

  same_is : (n : Counters) (m : Structure) (s : Sort) (x y : Term) (v : Value) → x ≡ y → Ran n m g h (IsTerm cs n m s v x) (IsTerm cs n m s v y) → IsTerm cs n m s v x
  same_is n m s x y v e (inl r) = r.2
  same_is n m s x y v e (inr r) = subst (λ t. IsTerm cs n m s v t) (sym e) r.2

  pub term_joined : (m : Structure) (k : Position) (s : Sort) (x y : Term) (v : Value) → IsNumbered (as_store v) → sort_of_value v ≡ s → IsReached cs m k → Ran k.next m g h (IsTerm cs k.next m s v x) (IsTerm cs k.next m s v y) →
      TermJoined cs m k (join_term g h s x y k) s v (joined_term s x y k)
  term_joined m k s x y v numbered of reached ran = one_of (same_term x y) refl
    where
      one_of : (d : Bool) → same_term x y ≡ d →
          TermJoined cs m k (if d then k else record (with_new s k) { premises = k.premises ++ under g (equal (new_term s k) x) ∷ under h (equal (new_term s k) y) ∷ [] }) s v (if d then x else new_term s k)
      one_of true e = record { m' = m; alike = alike_self k.next m; reached = reached; is = same_is k.next m s x y v (equal_terms x y e) ran }
      one_of false e =
          let z = new_constant cs m s k v numbered of in
          let n' = raised s k.next in
          let back : (m'' : Structure) → IsAlike n' z.m' m'' → IsAlike k.next m m'' = λ m'' a. alike_twice k.next m z.m' m'' z.alike (alike_lower k.next n' z.m' m'' (rises_new s k.next) a) in
          record {
            m' = z.m';
            alike = z.alike;
            reached = record {
              guard = stays_on (IsOn k.guard) k.next n' m z.m' (rises_new s k.next) z.alike reached.guard;
              premises =
                  λ m'' a. hold_more cs m'' k.premises (under g (equal (new_term s k) x) ∷ under h (equal (new_term s k) y) ∷ []) (reached.premises m'' (back m'' a))
                  (join_true k.next m s (new_term s k) x y v ran m'' (back m'' a) (z.is m'' a));
            };
            is = (z.is, (refl, refl));
          }

  -- ---- all locals

  -- each term among these has its value, and the sort of its type
  abbrev pub AreTerms : Counters → Structure → List Ty → (ℕ → Value) → List (Option Term) → Type 0
  AreTerms n m ts vals xs = (i : ℕ) (t : Term) → slice_get xs i ≡ Some (Some t) → IsTerm cs n m (element_sort (slice_get ts i)) (vals i) t

  pub terms_on : (n n' : Counters) (m m' : Structure) (ts : List Ty) (vals : ℕ → Value) (xs : List (Option Term)) → Rises n n' → IsAlike n m m' → AreTerms n m ts vals xs → AreTerms n' m' ts vals xs
  terms_on n n' m m' ts vals xs r a h i t there = term_on cs n n' m m' (element_sort (slice_get ts i)) (vals i) t r a (h i t there)

  pub record AllJoined (m : Structure) (k k' : Position) (ts : List Ty) (vals : ℕ → Value) (xs : List (Option Term)) : Type 0 where
    pub m' : Structure
    pub alike : IsAlike k.next m m'
    pub reached : IsReached cs m' k'
    pub are : AreTerms k'.next m' ts vals xs

  none_joined : (m : Structure) (k : Position) (ts : List Ty) (vals : ℕ → Value) → IsReached cs m k → AllJoined m k k ts vals []
  none_joined m k ts vals reached = record { m' = m; alike = alike_self k.next m; reached = reached; are = λ i t there. let no : ⊥ = cc in absurd no }

  -- one more local, without a term
  none_more : (m : Structure) (k k' : Position) (t : Ty) (ts : List Ty) (vals : ℕ → Value) (xs : List (Option Term)) → AllJoined m k k' ts (λ i. vals (suc i)) xs → AllJoined m k k' (t ∷ ts) vals (None ∷ xs)
  none_more m k k' t ts vals xs z = record { m' = z.m'; alike = z.alike; reached = z.reached; are = are }
    where
      are : AreTerms k'.next z.m' (t ∷ ts) vals (None ∷ xs)
      are zero u there = let no : ⊥ = cc in absurd no
      are (suc i) u there = z.are i u there

  term_more : (n : Counters) (m : Structure) (t : Ty) (ts : List Ty) (vals : ℕ → Value) (x : Term) (xs : List (Option Term)) → IsTerm cs n m (sort_of_type t) (vals 0) x → AreTerms n m ts (λ i. vals (suc i)) xs → AreTerms n m (t ∷ ts) vals (Some x ∷ xs)
  term_more n m t ts vals x xs h rest zero u there = let same : x ≡ u = cc in subst (λ y. IsTerm cs n m (sort_of_type t) (vals 0) y) same h
  term_more n m t ts vals x xs h rest (suc i) u there = rest i u there

  -- values of the sorts of their types
  abbrev pub AreSorted : List Ty → (ℕ → Value) → Type 0
  AreSorted ts vals = (i : ℕ) (t : Ty) → slice_get ts i ≡ Some t → sort_of_value (vals i) ≡ sort_of_type t

  abbrev pub AreNumbered : (ℕ → Value) → Type 0
  AreNumbered vals = (i : ℕ) → IsNumbered (as_store (vals i))

  tail_ran : (n : Counters) (m : Structure) (t : Ty) (ts : List Ty) (vals : ℕ → Value) (a b : Option Term) (xs ys : List (Option Term)) → Ran n m g h (AreTerms n m (t ∷ ts) vals (a ∷ xs)) (AreTerms n m (t ∷ ts) vals (b ∷ ys)) →
      Ran n m g h (AreTerms n m ts (λ i. vals (suc i)) xs) (AreTerms n m ts (λ i. vals (suc i)) ys)
  tail_ran n m t ts vals a b xs ys (inl r) = inl (r.0, r.1, λ i u there. r.2 (suc i) u there)
  tail_ran n m t ts vals a b xs ys (inr r) = inr (r.0, r.1, λ i u there. r.2 (suc i) u there)

  head_ran : (n : Counters) (m : Structure) (t : Ty) (ts : List Ty) (vals : ℕ → Value) (x y : Term) (xs ys : List (Option Term)) → Ran n m g h (AreTerms n m (t ∷ ts) vals (Some x ∷ xs)) (AreTerms n m (t ∷ ts) vals (Some y ∷ ys)) →
      Ran n m g h (IsTerm cs n m (sort_of_type t) (vals 0) x) (IsTerm cs n m (sort_of_type t) (vals 0) y)
  head_ran n m t ts vals x y xs ys (inl r) = inl (r.0, r.1, r.2 0 x refl)
  head_ran n m t ts vals x y xs ys (inr r) = inr (r.0, r.1, r.2 0 y refl)

  pub all_joined : (w : Walk) (m : Structure) (ts : List Ty) (vals : ℕ → Value) (xs ys : List (Option Term)) (k : Position) → AreSorted ts vals → AreNumbered vals → IsReached cs m k →
      Ran k.next m g h (AreTerms k.next m ts vals xs) (AreTerms k.next m ts vals ys) → AllJoined m k (join_locals g h ts xs ys k).1 ts vals (join_locals g h ts xs ys k).0
  all_joined w m [] vals xs ys k s n reached ran = none_joined m k [] vals reached
  all_joined w m (t ∷ ts) vals [] ys k s n reached ran = none_joined m k (t ∷ ts) vals reached
  all_joined w m (t ∷ ts) vals (None ∷ xs) [] k s n reached ran = none_joined m k (t ∷ ts) vals reached
  all_joined w m (t ∷ ts) vals (Some x ∷ xs) [] k s n reached ran = none_joined m k (t ∷ ts) vals reached
  all_joined w m (t ∷ ts) vals (None ∷ xs) (b ∷ ys) k s n reached ran =
      none_more m k (join_locals g h ts xs ys k).1 t ts vals (join_locals g h ts xs ys k).0
      (all_joined w m ts (λ i. vals (suc i)) xs ys k (λ i u there. s (suc i) u there) (λ i. n (suc i)) reached (tail_ran k.next m t ts vals None b xs ys ran))
  all_joined w m (t ∷ ts) vals (Some x ∷ xs) (None ∷ ys) k s n reached ran =
      none_more m k (join_locals g h ts xs ys k).1 t ts vals (join_locals g h ts xs ys k).0
      (all_joined w m ts (λ i. vals (suc i)) xs ys k (λ i u there. s (suc i) u there) (λ i. n (suc i)) reached (tail_ran k.next m t ts vals (Some x) None xs ys ran))
  all_joined w m (t ∷ ts) vals (Some x ∷ xs) (Some y ∷ ys) k s n reached ran =
      let r = sort_of_type t in
      let k' = join_term g h r x y k in
      let later : ℕ → Value = λ i. vals (suc i) in
      let a = term_joined m k r x y (vals 0) (n 0) (s 0 t refl) reached (head_ran k.next m t ts vals x y xs ys ran) in
      let rises = (leads_join_term w g h r x y k).rises in
      let z = all_joined w a.m' ts later xs ys k' (λ i u there. s (suc i) u there) (λ i. n (suc i)) a.reached
      (ran_on k.next k'.next m a.m' g h (AreTerms k.next m ts later xs) (AreTerms k.next m ts later ys) (AreTerms k'.next a.m' ts later xs) (AreTerms k'.next a.m' ts later ys) rises a.alike
      (terms_on k.next k'.next m a.m' ts later xs rises a.alike) (terms_on k.next k'.next m a.m' ts later ys rises a.alike) (tail_ran k.next m t ts vals (Some x) (Some y) xs ys ran)) in
      let k'' = (join_locals g h ts xs ys k').1 in
      let over = (leads_join_locals w g h ts xs ys k').rises in
      record {
        m' = z.m';
        alike = alike_twice k.next m a.m' z.m' a.alike (alike_lower k.next k'.next a.m' z.m' rises z.alike);
        reached = z.reached;
        are = term_more k''.next z.m' t ts vals (joined_term r x y k) (join_locals g h ts xs ys k').0 (term_on cs k'.next k''.next a.m' z.m' r (vals 0) (joined_term r x y k) over z.alike a.is) z.are;
      }
