-- At the head of a loop: the new constants get the values of a turn, and the new store is its store.
use Rattle.std.proofs.Common.{◌≡◌, ℕ, zero, suc, ◌<◌, ◌+◌, List, [], ◌∷◌, length, Bool, true, false, ◌⊎◌, inl, inr, ⊎_elim, refl, sym, ◌∙◌, ap, subst, arith}
use Rattle.std.specs.Prelude.{Option, Some, slice_get, slice_set, if◌then◌else◌}
use Rattle.std.proofs.lemmas.Bool.{cases_eq}
use Rattle.ss_core.specs.declared.names.Ty.{Ty}
use Rattle.ss_core.specs.Tree.{StmtTree}
use Rattle.ss_store_rules.specs.Store.{Object}
use Rattle.ss_store_rules.specs.Locals.{local_types, assigns}
use Rattle.ss_store_rules.specs.Values.{local_value}
use Rattle.ss_logic.specs.declared.Sort.TheVariants as sort
use Rattle.ss_logic.specs.Values.{Heap, IsNumbered, Table, store, Structure}
use Rattle.ss_logic.specs.Terms.{Term, sort_of_type}
use Rattle.ss_logic.specs.Objects.{IsGoodStore, objects_of}
use Rattle.ss_logic.specs.Express.{element_sort}
use Rattle.ss_logic_means.specs.Means.{standing}
use Rattle.ss_vcgen_heaps.specs.Positions.{Counters, Position, Walk, raised, new_term, with_new, set_local}
use Rattle.ss_vcgen_heaps.specs.Obligations.{renew_from, renewed}
use Rattle.ss_sound_outcomes.specs.Points.{Point, scene, IsSound}
use Rattle.ss_vcgen_safe.specs.At.{IsAlike, Stays, HasValue, HoldIn, IsOn, IsStore, activation, IsLocal, Agrees}
use Rattle.ss_vcgen_safe.proofs.Alike.{rises_new, alike_self, alike_twice, alike_lower, table_on, stays_on, new_constant, store_on, local_on}
use Rattle.ss_vcgen_safe.proofs.Leads.{length_set}
use Rattle.ss_vcgen_safe.proofs.PositionsStatements.{leads_renew_one, leads_renew}
use Rattle.ss_vcgen_safe.proofs.PositionsTerms.{standing_numbered}
use Rattle.ss_vcgen_safe.proofs.PositionsJoins.{get_below, local_sorted}

-- a list of locals with one set
set_here : (xs : List (Option Term)) (x : ℕ) (t u : Term) → slice_get (slice_set xs x (Some t)) x ≡ Some (Some u) → t ≡ u
set_here [] x t u e = let no : ⊥ = cc in absurd no
set_here (y ∷ xs) zero t u e = cc
set_here (y ∷ xs) (suc x) t u e = set_here xs x t u e

set_other : (xs : List (Option Term)) (x : ℕ) (t : Term) (y : ℕ) → (x ≡ y → ⊥) → slice_get (slice_set xs x (Some t)) y ≡ slice_get xs y
set_other [] x t y n = refl
set_other (z ∷ xs) zero t zero n = absurd (n refl)
set_other (z ∷ xs) zero t (suc y) n = refl
set_other (z ∷ xs) (suc x) t zero n = refl
set_other (z ∷ xs) (suc x) t (suc y) n = set_other xs x t y (λ e. n (ap suc e))

-- what is left of a list after a place
abbrev IsRest : List Ty → ℕ → List Ty → Type 0
IsRest all x rest = (i : ℕ) → slice_get rest i ≡ slice_get all (i + x)

module _ (w : Walk) (before : List Object) (table : Table) (s : StmtTree) (q : Point) (sound : IsSound (activation w before table) q) where
  -- The locals before the number x, and those that the statement doesn't assign, have their values at q.
  pub record IsRenewed (n : Counters) (m : Structure) (x : ℕ) (k : Position) : Type 0 where
    pub table_is : m.table ≡ table
    pub entry : IsStore w.program.classes table n m w.entry before
    pub count : length k.locals ≡ length (local_types w.body)
    pub guard : Stays n m (IsOn k.guard)
    pub premises : Stays n m (HoldIn w.program.classes k.premises)
    pub locals : (y : ℕ) (t : Term) → slice_get k.locals y ≡ Some (Some t) → (assigns s y ≡ false) ⊎ (y < x) → IsLocal w before table n m q y t

  pub record RenewedTo (m : Structure) (k : Position) (x : ℕ) (k' : Position) : Type 0 where
    pub m' : Structure
    pub alike : IsAlike k.next m m'
    pub is : IsRenewed k'.next m' x k'

  one_kept : (m : Structure) (k : Position) (x : ℕ) → assigns s x ≡ false → IsRenewed k.next m x k → RenewedTo m k (x + 1) k
  one_kept m k x off r = record {
    m' = m;
    alike = alike_self k.next m;
    is = record {
      table_is = r.table_is;
      entry = r.entry;
      count = r.count;
      guard = r.guard;
      premises = r.premises;
      locals = λ y t there which. r.locals y t there (⊎_elim inl (λ l. ⊎_elim (λ e. inl (subst (λ z. assigns s z ≡ false) e off)) (λ n. inr (omega (arith, l, n))) (cases_eq x y)) which);
    };
  }

  one_new : (m : Structure) (k : Position) (x : ℕ) (t : Ty) → slice_get (local_types w.body) x ≡ Some t → IsRenewed k.next m x k → RenewedTo m k (x + 1) (set_local x (new_term (sort_of_type t) k) (with_new (sort_of_type t) k))
  one_new m k x t typed r =
      let cs = w.program.classes in
      let v = local_value (scene (activation w before table) q) x in
      let z = new_constant cs m (sort_of_type t) k (standing v) (standing_numbered v) (local_sorted w before table q sound x t typed) in
      let n' = raised (sort_of_type t) k.next in
      let rises = rises_new (sort_of_type t) k.next in
      record {
        m' = z.m';
        alike = z.alike;
        is = record {
          table_is = table_on k.next m z.m' table z.alike r.table_is;
          entry = store_on cs table k.next n' m z.m' w.entry before rises z.alike r.entry;
          count = length_set k.locals x (Some (new_term (sort_of_type t) k)) ∙ r.count;
          guard = stays_on (IsOn k.guard) k.next n' m z.m' rises z.alike r.guard;
          premises = stays_on (HoldIn cs k.premises) k.next n' m z.m' rises z.alike r.premises;
          locals =
              λ y u there which. ⊎_elim (λ e. here z.m' z.is y u e there)
              (λ n. local_on w before table k.next n' m z.m' q y u rises z.alike (r.locals y u (sym (set_other k.locals x (new_term (sort_of_type t) k) y n) ∙ there) (⊎_elim inl (λ l. inr (omega (arith, l, n))) which)))
              (cases_eq x y);
        };
      }
    where
      here : (m' : Structure) → Stays (raised (sort_of_type t) k.next) m' (HasValue w.program.classes (new_term (sort_of_type t) k) (standing (local_value (scene (activation w before table) q) x))) → (y : ℕ) (u : Term) → x ≡ y →
          slice_get (slice_set k.locals x (Some (new_term (sort_of_type t) k))) y ≡ Some (Some u) → IsLocal w before table (raised (sort_of_type t) k.next) m' q y u
      here m' is y u e there =
          let same : new_term (sort_of_type t) k ≡ u = set_here k.locals x (new_term (sort_of_type t) k) u (subst (λ z. slice_get (slice_set k.locals x (Some (new_term (sort_of_type t) k))) z ≡ Some (Some u)) (sym e) there) in
          subst (λ z. IsLocal w before table (raised (sort_of_type t) k.next) m' q z u) e
          (subst (λ c. IsLocal w before table (raised (sort_of_type t) k.next) m' q x c) same (record { is = is; sorted = (ap element_sort (sym typed), refl) }))

  one_renewed : (m : Structure) (k : Position) (x : ℕ) (t : Ty) → slice_get (local_types w.body) x ≡ Some t → IsRenewed k.next m x k →
      (b : Bool) → assigns s x ≡ b → RenewedTo m k (x + 1) (if b then set_local x (new_term (element_sort (Some t)) k) (with_new (element_sort (Some t)) k) else k)
  one_renewed m k x t typed r true e = one_new m k x t typed r
  one_renewed m k x t typed r false e = one_kept m k x e r

  all_renewed : (x : ℕ) (ts : List Ty) (k : Position) (m : Structure) → IsRest (local_types w.body) x ts → IsRenewed k.next m x k → RenewedTo m k (x + length ts) (renew_from s x ts k)
  all_renewed x [] k m rest r = record { m' = m; alike = alike_self k.next m; is = subst (λ z. IsRenewed k.next m z k) (omega arith) r }
  all_renewed x (t ∷ ts) k m rest r =
      let k' = if assigns s x then set_local x (new_term (element_sort (Some t)) k) (with_new (element_sort (Some t)) k) else k in
      let a = one_renewed m k x t (sym (rest 0 ∙ ap (slice_get (local_types w.body)) (omega arith))) r (assigns s x) refl in
      let z = all_renewed (x + 1) ts k' a.m' (λ i. rest (suc i) ∙ ap (slice_get (local_types w.body)) (omega arith)) a.is in
      let k'' = renew_from s (x + 1) ts k' in
      record {
        m' = z.m';
        alike = alike_twice k.next m a.m' z.m' a.alike (alike_lower k.next k'.next a.m' z.m' (leads_renew_one w x t k (assigns s x)).rises z.alike);
        is = subst (λ i. IsRenewed k''.next z.m' i k'') (omega arith) z.is;
      }

  pub record HeadAgrees (m : Structure) (k : Position) (h : Heap) : Type 0 where
    pub m' : Structure
    pub alike : IsAlike k.next m m'
    pub agrees : Agrees w before table m' (renewed w s k) q
    pub heap : agrees.store_is.heap ≡ h

  -- The locals that the statement doesn't assign are as they were, and the store is that of this heap.
  pub renewed_agrees : (m : Structure) (k : Position) (p : Point) (h : Heap) → IsNumbered h → IsGoodStore w.program.classes table h → objects_of w.program.classes table h ≡ q.store →
      ((x : ℕ) → assigns s x ≡ false → local_value (scene (activation w before table) q) x ≡ local_value (scene (activation w before table) p) x) → Agrees w before table m k p → HeadAgrees m k h
  renewed_agrees m k p h numbered good objects same g =
      let cs = w.program.classes in
      let ts = local_types w.body in
      let begin : IsRenewed k.next m 0 k = record {
        table_is = g.table_is;
        entry = g.entry;
        count = g.count;
        guard = g.guard;
        premises = g.premises;
        locals = λ y t there which. ⊎_elim (λ off. unassigned y t off (g.locals y t there)) (λ l. absurd (omega (arith, l))) which;
      } in
      let a = all_renewed 0 ts k m (λ i. ap (slice_get ts) (omega arith)) begin in
      let k' = renew_from s 0 ts k in
      let z = new_constant cs a.m' sort.Store k' (store h) numbered refl in
      let n' = raised sort.Store k'.next in
      let rises = rises_new sort.Store k'.next in
      record {
        m' = z.m';
        alike = alike_twice k.next m a.m' z.m' a.alike (alike_lower k.next k'.next a.m' z.m' (leads_renew w s 0 ts k).rises z.alike);
        agrees = record {
          table_is = table_on k'.next a.m' z.m' table z.alike a.is.table_is;
          entry = store_on cs table k'.next n' a.m' z.m' w.entry before rises z.alike a.is.entry;
          store_is = record { heap = h; is = z.is; sorted = (refl, refl); good = good; objects = objects };
          count = a.is.count;
          locals =
              λ y t there. local_on w before table k'.next n' a.m' z.m' q y t rises z.alike (a.is.locals y t there (inr (let l = get_below k'.locals y (Some t) there in let c = a.is.count in omega (arith, l, c))));
          guard = stays_on (IsOn k'.guard) k'.next n' a.m' z.m' rises z.alike a.is.guard;
          premises = stays_on (HoldIn cs k'.premises) k'.next n' a.m' z.m' rises z.alike a.is.premises;
        };
        heap = refl;
      }
    where
      unassigned : (y : ℕ) (t : Term) → assigns s y ≡ false → IsLocal w before table k.next m p y t → IsLocal w before table k.next m q y t
      unassigned y t off l = record { is = subst (λ v. Stays k.next m (HasValue w.program.classes t (standing v))) (sym (same y off)) l.is; sorted = l.sorted }
