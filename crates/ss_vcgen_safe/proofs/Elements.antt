-- Writes of elements, from a position at which the run is.
use Rattle.std.proofs.Common.{◌≡◌, ℕ, List, [], ◌∷◌, Bool, true, refl, sym, ◌∙◌, ap, subst}
use Rattle.std.specs.Prelude.{Option, Some, None}
use Rattle.std.specs.List.{list_all}
use Rattle.std.proofs.lemmas.Bool.{false≢true, and_parts}
use Rattle.ss_core.specs.declared.names.Kind.TheVariants as kind
use Rattle.ss_core.specs.declared.names.Place.{Place}
use Rattle.ss_core.specs.declared.names.Ty.{Ty}
use Rattle.ss_core.specs.declared.names.Ty.TheVariants as ty
use Rattle.ss_core.specs.Tree.{ClassTree, ExprTree, WriteElementStmt, BodyTree}
use Rattle.ss_core.proofs.Chains.{sub-below}
use Rattle.ss_store_rules.specs.declared.Value.{Value as ObjectValue}
use Rattle.ss_store_rules.specs.Store.{Object}
use Rattle.ss_store_rules.specs.Reads.{as_int}
use Rattle.ss_store_rules.specs.Assigned.{reads_assigned}
use Rattle.ss_store_rules.specs.Changes.{is_array, element_type, write_element_of}
use Rattle.ss_store_rules.specs.Good.{has_type}
use Rattle.ss_store_rules.specs.Locals.{local_types}
use Rattle.ss_store_rules.specs.Typed.{has_type_in, is_element_write}
use Rattle.ss_store_rules.specs.Types.{is_int, element_of, code_type}
use Rattle.ss_store_rules.specs.Values as run
use Rattle.ss_store_rules.proofs.Objects.{same_object}
use Rattle.ss_machine_typed.proofs.Outcomes.{where_typed_some, is_int_type}
use Rattle.ss_machine_typed.proofs.Slots.{of_array}
use Rattle.ss_machine_typed.proofs.Sound.{object_typed, value_sound}
use Rattle.ss_machine_good.proofs.Steps.{code_typed, fitting_some}
use Rattle.ss_logic.specs.declared.Sort.TheVariants as sort
use Rattle.ss_logic.specs.Values.{Table}
use Rattle.ss_logic.specs.Terms.{Put, Term, app, sort_of_type}
use Rattle.ss_logic.specs.Formulas.{neg}
use Rattle.ss_logic.specs.Shapes.{committed}
use Rattle.ss_logic.specs.Express.{element_sort}
use Rattle.ss_logic_means.specs.Means.{standing}
use Rattle.ss_logic_means.specs.Sorts.{HasSort}
use Rattle.ss_vcgen_heaps.specs.Positions.{Position, Walk, check, meant_at, evaluate, with_term, term_for}
use Rattle.ss_vcgen_heaps.specs.Positions as positions
use Rattle.ss_vcgen_heaps.specs.Obligations.{check_not_null, is_index, behind}
use Rattle.ss_vcgen_safe.specs.Done.{IsDone}
use Rattle.ss_vcgen_safe.proofs.AfterChanges.{put_after}
use Rattle.ss_vcgen_safe.proofs.Checked.{element_done}
use Rattle.ss_sound_outcomes.specs.Points.{Point, scene, entry_size}
use Rattle.ss_sound_outcomes.specs.Outcomes.{Has, Changes, with_store}
use Rattle.ss_vcgen_safe.specs.At.{IsAlike, Stays, HasValue, Rises, activation}
use Rattle.ss_vcgen_safe.proofs.Alike.{rises_self, rises_twice, alike_self, alike_twice, alike_lower, stays_on}
use Rattle.ss_vcgen_safe.proofs.Keeps.{checked}
use Rattle.ss_vcgen_safe.proofs.Leads.{leads_check, leads_evaluate, leads_with_term}
use Rattle.ss_vcgen_safe.proofs.Same.{like_twice, same_evaluate, same_not_null}
use Rattle.ss_vcgen_safe.proofs.PositionsStatements.{leads_not_null}
use Rattle.ss_vcgen_safe.specs.Goes.{IsEntered, Goes}
use Rattle.ss_vcgen_safe.proofs.Behind.{later_known}
use Rattle.ss_vcgen_safe.proofs.Evaluates.{meaning_on, good_at, evaluated}
use Rattle.ss_vcgen_safe.proofs.Plain.{has_value}
use Rattle.ss_vcgen_safe.proofs.Puts.{known_agrees}
use Rattle.ss_vcgen_safe.proofs.Settles.{fitting_sort}
use Rattle.ss_vcgen_safe.proofs.Arrays.{int_is, int_some}
use Rattle.ss_vcgen_safe.proofs.Stored.{IsSteady, steady_value, steady_four, store_there, store_goes}
use Rattle.ss_vcgen_safe.proofs.Terms.{like_back, typed_some, settled_later, object_checked}

-- what the elements of an array expression are
record IsArrayOf (cs : List ClassTree) (o : Option Ty) (t : Ty) : Type 0 where
  class : ℕ
  non_null : Bool
  is : o ≡ Some (ty.Ref (record { 0 = class }) non_null)
  array : is_array cs class ≡ true
  elements : element_type class ≡ t

array_of : (cs : List ClassTree) (o : Option Ty) (t : Ty) → element_of cs o ≡ Some t → IsArrayOf cs o t
array_of cs None t h = absurd (let none : ⊥ = cc in none)
array_of cs (Some ty.Int) t h = absurd (let none : ⊥ = cc in none)
array_of cs (Some ty.Bool) t h = absurd (let none : ⊥ = cc in none)
array_of cs (Some ty.Null) t h = absurd (let none : ⊥ = cc in none)
array_of cs (Some (ty.Ref u n)) t h = let w = where_typed_some (is_array cs u.0) (element_type u.0) t h in record { class = u.0; non_null = n; is = refl; array = w.0; elements = w.1 }

-- an element that is written has the type of the elements
element_is : (cs : List ClassTree) (b : BodyTree) (e : ExprTree) (o : Option Ty) → is_element_write cs b e o ≡ true → (t : Ty) × (o ≡ Some t) × (has_type_in cs b e t ≡ true)
element_is cs b e None h = absurd (false≢true h)
element_is cs b e (Some t) h = (t, refl, h)

put_sorted : (cs : List ClassTree) (t : Ty) (s a i v : Term) → HasSort cs [] sort.Store s → HasSort cs [] sort.Rest a → HasSort cs [] sort.Whole i → HasSort cs [] (sort_of_type t) v → HasSort cs [] sort.Store (app Put (s ∷ a ∷ i ∷ v ∷ []))
put_sorted cs ty.Int s a i v x y z u = (refl, rw (x.0, x.1, y.0, y.1, z.0, z.1, u.0, u.1) refl)
put_sorted cs ty.Bool s a i v x y z u = (refl, rw (x.0, x.1, y.0, y.1, z.0, z.1, u.0, u.1) refl)
put_sorted cs ty.Null s a i v x y z u = (refl, rw (x.0, x.1, y.0, y.1, z.0, z.1, u.0, u.1) refl)
put_sorted cs (ty.Ref t n) s a i v x y z u = (refl, rw (x.0, x.1, y.0, y.1, z.0, z.1, u.0, u.1) refl)

module _ (w : Walk) (before : List Object) (table : Table) (arguments : List ObjectValue) (entered : IsEntered w before arguments) where
  pub element_goes : (at : Place) (e i u : ExprTree) (Q : Point → Type 0) → Goes w before table arguments (WriteElementStmt at e i u) Q
  element_goes at e i u Q xs m k p coded here valid ends =
      let cs = w.program.classes in
      let a = activation w before table in
      let b = w.body in
      let S = scene a p in
      let st = WriteElementStmt at e i u in
      let formed = entered.program in
      -- static
      let read = and_parts (reads_assigned b xs e) (list_all (reads_assigned b xs) (i ∷ u ∷ [])) (and_parts (list_all (reads_assigned b xs) (e ∷ i ∷ u ∷ [])) true coded.assigned).0 in
      let read_i = and_parts (reads_assigned b xs i) (list_all (reads_assigned b xs) (u ∷ [])) read.1 in
      let read_u = (and_parts (reads_assigned b xs u) true read_i.1).0 in
      let typed = and_parts (is_int (code_type cs b i)) (is_element_write cs b u (element_of cs (code_type cs b e))) coded.typed in
      let int = is_int_type (code_type cs b i) typed.0 in
      let element = element_is cs b u (element_of cs (code_type cs b e)) typed.1 in
      let array = array_of cs (code_type cs b e) element.0 element.1 in
      let fits = fitting_some cs (code_type cs b u) element.0 element.2 in
      -- positions
      let x_e = meant_at w e k in
      let x_i = meant_at w i k in
      let x_u = meant_at w u k in
      let s = element_sort (element_of cs (code_type cs b e)) in
      let k1 = evaluate w e k in
      let k2 = evaluate w i k1 in
      let k3 = evaluate w u k2 in
      let o = term_for sort.Rest x_e k3 in
      let k4 = with_term sort.Rest x_e k3 in
      let j = term_for sort.Whole x_i k4 in
      let k5 = with_term sort.Whole x_i k4 in
      let v = term_for s x_u k5 in
      let k6 = with_term s x_u k5 in
      let k7 = check_not_null w at e o k6 in
      let index = is_index o j in
      let k8 = check w kind.Index at index k7 in
      let free = neg (committed k6.store o) in
      let k9 = check w kind.WriteCommitted at free k8 in
      let new = app Put (k6.store ∷ o ∷ j ∷ v ∷ []) in
      -- what is valid
      let v8 = (leads_check w kind.WriteCommitted at free k8).listed valid in
      let v7 = (leads_check w kind.Index at index k7).listed v8 in
      let v6 = (leads_not_null w at e o k6).listed v7 in
      let v5 = (leads_with_term w s x_u k5).listed v6 in
      let v4 = (leads_with_term w sort.Whole x_i k4).listed v5 in
      let v3 = (leads_with_term w sort.Rest x_e k3).listed v4 in
      let v2 = (leads_evaluate w u k2).listed v3 in
      let v1 = (leads_evaluate w i k1).listed v2 in
      -- values
      let ev_e = evaluated w before table formed xs m k p here.at e read.0 (typed_some (code_type cs b e) (ty.Ref (record { 0 = array.class }) array.non_null) array.is) v1 in
      let ev_i = evaluated w before table formed xs m k1 p ev_e.at i read_i.0 (int_some (code_type cs b i) typed.0) v2 in
      let ev_u = evaluated w before table formed xs m k2 p ev_i.at u read_u (typed_some (code_type cs b u) fits.0 fits.1) v3 in
      let e1 = same_evaluate w e k in
      let e2 = same_evaluate w i k1 in
      let e3 = same_evaluate w u k2 in
      let next1 : k1.next ≡ k.next = e1.next in
      let next2 : k2.next ≡ k.next = e2.next ∙ e1.next in
      let next3 : k3.next ≡ k.next = e3.next ∙ next2 in
      let self = alike_self k.next m in
      let mean_i = meaning_on w m m k1 k i ev_i.value (like_back k k1 e1.like) (subst (λ n. Rises n k.next) (sym next1) (rises_self k.next)) (alike_self k1.next m) ev_i.means in
      let mean_u = meaning_on w m m k2 k u ev_u.value (like_back k k2 (like_twice k k1 k2 e1.like e2.like)) (subst (λ n. Rises n k.next) (sym next2) (rises_self k.next)) (alike_self k2.next m) ev_u.means in
      -- terms
      let r3 : Rises k.next k3.next = subst (λ n. Rises k.next n) (sym next3) (rises_self k.next) in
      let t_e = settled_later w before table xs p k k3 m m e sort.Rest ev_e.value (ap element_sort array.is) ev_e.means r3 self ev_u.at in
      let m4 = t_e.term.m' in
      let alike4 : IsAlike k.next m m4 = subst (λ n. IsAlike n m m4) next3 t_e.term.alike in
      let r4 : Rises k.next k4.next = rises_twice k.next k3.next k4.next r3 (leads_with_term w sort.Rest x_e k3).rises in
      let t_i = settled_later w before table xs p k k4 m m4 i sort.Whole ev_i.value (ap element_sort int) mean_i r4 alike4 t_e.at in
      let m5 = t_i.term.m' in
      let rise5 = (leads_with_term w sort.Whole x_i k4).rises in
      let alike5 : IsAlike k.next m m5 = alike_twice k.next m m4 m5 alike4 (alike_lower k.next k4.next m4 m5 r4 t_i.term.alike) in
      let r5 : Rises k.next k5.next = rises_twice k.next k4.next k5.next r4 rise5 in
      let sort_u : element_sort (code_type cs b u) ≡ s = fitting_sort cs (code_type cs b u) element.0 element.2 ∙ ap element_sort (sym element.1) in
      let t_u = settled_later w before table xs p k k5 m m5 u s ev_u.value sort_u mean_u r5 alike5 t_i.at in
      let m6 = t_u.term.m' in
      let rise6 = (leads_with_term w s x_u k5).rises in
      let alike6 : IsAlike k.next m m6 = alike_twice k.next m m5 m6 alike5 (alike_lower k.next k5.next m5 m6 r5 t_u.term.alike) in
      let is_j : Stays k6.next m6 (HasValue cs j (standing ev_i.value)) = stays_on (HasValue cs j (standing ev_i.value)) k5.next k6.next m5 m6 rise6 t_u.term.alike t_i.term.is in
      let is_o : Stays k6.next m6 (HasValue cs o (standing ev_e.value)) =
      stays_on (HasValue cs o (standing ev_e.value)) k5.next k6.next m5 m6 rise6 t_u.term.alike (stays_on (HasValue cs o (standing ev_e.value)) k4.next k5.next m4 m5 rise5 t_i.term.alike t_e.term.is) in
      -- checks
      let is = t_u.at.agrees in
      let c7 = object_checked w before table xs p formed m6 k6 t_u.at e at o ev_e.value array.class array.non_null read.0 array.is ev_e.is is_o v7 in
      let c8 = checked w before table m6 p kind.Index at index k7 v8 c7.agrees in
      let c9 = checked w before table m6 p kind.WriteCommitted at free k8 valid c8.1 in
      let here6 = alike_self k6.next m6 in
      let has = store_there cs table k6.next m6 k6.store p.store is.table_is is.store_is m6 here6 in
      let there = c7.there in
      let good = good_at w before table formed xs m k p here.at in
      let e_typed = value_sound e S (local_types b) b.flags.ctor good (ty.Ref (record { 0 = array.class }) array.non_null) ev_e.value (code_typed cs b e (ty.Ref (record { 0 = array.class }) array.non_null) array.is) ev_e.is in
      let y = object_typed cs p.store array.class array.non_null there.position (subst (λ q. has_type cs p.store (ty.Ref (record { 0 = array.class }) array.non_null) q ≡ true) there.is e_typed) in
      let class = of_array cs good.chain y.0.class array.class (good.store there.position y.0 y.1).values.class array.array (sym (sub-below cs good.beside y.0.class array.class) ∙ y.2) in
      let is_array_there : is_array cs there.object.class ≡ true =
      subst (λ (q : Object). is_array cs q.class ≡ true) (same_object p.store there.position y.0 there.object y.1 there.there) (ap (is_array cs) class ∙ array.array) in
      let number = int_is cs p.store ev_i.value (value_sound i S (local_types b) b.flags.ctor good ty.Int ev_i.value (code_typed cs b i ty.Int int) ev_i.is) in
      let n = as_int ev_i.value in
      let done0 = element_done cs m6 k6.store p.store has o there.position there.object there.there (λ d. is_o m6 here6 d ∙ ap standing there.is) j n ev_u.value is_array_there (λ d. is_j m6 here6 d ∙ ap standing number)
      (c8.0 m6 (alike_self k7.next m6)) (c9.0 m6 (alike_self k8.next m6)) in
      let done = subst (λ q. IsDone (write_element_of p.store q n ev_u.value)) (sym there.is) done0 in
      let same7 = same_not_null w at e o k6 in
      has_value (run.value_of e S) ev_e.value (λ q. Has (run.value_of i S) (λ l. Has (run.value_of u S) (λ z. Changes a st Q p (write_element_of p.store q (as_int l) z)))) ev_e.is
      (has_value (run.value_of i S) ev_i.value (λ l. Has (run.value_of u S) (λ z. Changes a st Q p (write_element_of p.store ev_e.value (as_int l) z))) ev_i.is
      (has_value (run.value_of u S) ev_u.value (λ z. Changes a st Q p (write_element_of p.store ev_e.value n z)) ev_u.is
      (store_goes w before table arguments xs m k p st refl coded here m6 k9 new (write_element_of p.store ev_e.value n ev_u.value) Q alike6 c9.1
      (subst (λ r. IsSteady cs r m6 new) (sym same7.next)
      (steady_four cs k6.next m6 Put k6.store o j v (λ m m' vs. refl) (steady_value cs k6.next m6 k6.store _ is.store_is.is) (steady_value cs k6.next m6 o (standing ev_e.value) is_o) (steady_value cs k6.next m6 j (standing ev_i.value) is_j)
      (steady_value cs k6.next m6 v (standing ev_u.value) t_u.term.is)))
      (put_sorted cs element.0 k6.store o j v is.store_is.sorted t_e.term.sorted t_i.term.sorted (subst (λ r. HasSort cs [] r v) (ap element_sort element.1) t_u.term.sorted))
      done
      (λ z d sound. put_after cs m6 k6.store p.store has o j v ev_e.value n ev_u.value z (is_o m6 here6) (λ d. is_j m6 here6 d ∙ ap standing number) (t_u.term.is m6 here6) d sound.store)
      (λ z g. known_agrees w before table m6 (positions.with_store new k9) (with_store z p) (behind w st k).known g)
      (λ z d sound b. later_known a (entry_size a) p z entered.body.flags here.at.sound b.reached.later k.known here.at.known)
      ends)))
