-- Writes of fields, from a position at which the run is.
use Rattle.std.proofs.Common.{◌≡◌, ℕ, List, [], ◌∷◌, true, false, not, ⊎_elim, refl, sym, ◌∙◌, ap, subst}
use Rattle.std.specs.List.{list_all}
use Rattle.std.proofs.lemmas.Bool.{true≢false, and_parts, or_cases}
use Rattle.ss_core.specs.declared.names.Kind.TheVariants as kind
use Rattle.ss_core.specs.declared.names.Mark.{Mark}
use Rattle.ss_core.specs.declared.names.Place.{Place}
use Rattle.ss_core.specs.declared.names.Ty.TheVariants as ty
use Rattle.ss_core.specs.Tree.{ExprTree, WriteStmt}
use Rattle.ss_store_rules.specs.declared.Value.{Value as ObjectValue}
use Rattle.ss_store_rules.specs.declared.Value.TheVariants as value
use Rattle.ss_store_rules.specs.Store.{Object}
use Rattle.ss_store_rules.specs.Assigned.{reads_assigned}
use Rattle.ss_store_rules.specs.Changes.{field_class, field_mark, field_type, with_owners, write_of}
use Rattle.ss_store_rules.specs.Good.{has_type, is_non_null}
use Rattle.ss_store_rules.specs.NonNull.{site_of, is_never_null}
use Rattle.ss_store_rules.specs.Typed.{is_plain}
use Rattle.ss_store_rules.specs.Types.{code_type}
use Rattle.ss_store_rules.specs.Values as run
use Rattle.ss_store_rules.proofs.Owners.{not_true}
use Rattle.ss_machine_good.specs.Known.{IsNotNull}
use Rattle.ss_machine_good.proofs.NonNull.{never_null}
use Rattle.ss_machine_good.proofs.Steps.{value_fits, code_typed, fitting_some}
use Rattle.ss_logic.specs.declared.Sort.TheVariants as sort
use Rattle.ss_logic.specs.Values.{Table}
use Rattle.ss_logic.specs.Terms.{Set, app, field_sort}
use Rattle.ss_logic.specs.Formulas.{neg}
use Rattle.ss_logic.specs.Shapes.{class_term, level_of, sub_atom}
use Rattle.ss_logic.specs.Express.{element_sort}
use Rattle.ss_logic_means.specs.Means.{standing}
use Rattle.ss_logic_means.proofs.Typed.{field_not_null, field_has}
use Rattle.ss_vcgen_heaps.specs.Positions.{Position, Walk, check, meant_at, evaluate, with_term, term_for}
use Rattle.ss_vcgen_heaps.specs.Positions as positions
use Rattle.ss_vcgen_heaps.specs.Obligations.{check_not_null, check_owners, owned_store, behind}
use Rattle.ss_vcgen_safe.specs.Done.{HasStore, IsDone}
use Rattle.ss_vcgen_safe.proofs.AfterChanges.{write_after}
use Rattle.ss_vcgen_safe.proofs.Checked.{write_done}
use Rattle.ss_sound_outcomes.specs.Points.{Point, scene, entry_size}
use Rattle.ss_sound_outcomes.specs.Outcomes.{Has, Changes, with_store}
use Rattle.ss_vcgen_safe.specs.At.{IsAlike, Stays, HasValue, IsTrueIn, Rises, activation}
use Rattle.ss_vcgen_safe.proofs.Alike.{rises_self, rises_twice, alike_self, alike_twice, alike_lower, stays_on}
use Rattle.ss_vcgen_safe.proofs.Keeps.{checked}
use Rattle.ss_vcgen_safe.proofs.Leads.{leads_check, leads_evaluate, leads_with_term}
use Rattle.ss_vcgen_safe.proofs.Same.{same_twice, same_evaluate, same_check, same_not_null, same_owners}
use Rattle.ss_vcgen_safe.proofs.PositionsStatements.{leads_not_null, leads_owners}
use Rattle.ss_vcgen_safe.specs.Goes.{IsEntered, Goes}
use Rattle.ss_vcgen_safe.proofs.Behind.{later_known}
use Rattle.ss_vcgen_safe.proofs.Evaluates.{meaning_on, good_at, evaluated}
use Rattle.ss_vcgen_safe.proofs.Plain.{has_value}
use Rattle.ss_vcgen_safe.proofs.Puts.{known_agrees}
use Rattle.ss_vcgen_safe.proofs.Settles.{fitting_sort}
use Rattle.ss_vcgen_safe.proofs.Fields.{field_write, marked_sort, write_sorted, steady_write, owners_checked, known_written}
use Rattle.ss_vcgen_safe.proofs.Later.{typed_there}
use Rattle.ss_vcgen_safe.proofs.Stored.{IsSteady, steady_value, store_there, store_goes}
use Rattle.ss_vcgen_safe.proofs.Terms.{like_back, typed_some, settled_later, object_checked}

module _ (w : Walk) (before : List Object) (table : Table) (arguments : List ObjectValue) (entered : IsEntered w before arguments) where
  pub write_goes : (at : Place) (e : ExprTree) (f : ℕ) (mk : Mark) (t : ℕ) (u : ExprTree) (Q : Point → Type 0) → Goes w before table arguments (WriteStmt at e f mk t u) Q
  write_goes at e f mk t u Q xs m k p coded here valid ends =
      let cs = w.program.classes in
      let a = activation w before table in
      let b = w.body in
      let S = scene a p in
      let st = WriteStmt at e f mk t u in
      let formed = entered.program in
      -- static
      let read = and_parts (reads_assigned b xs e) (list_all (reads_assigned b xs) (u ∷ [])) (and_parts (list_all (reads_assigned b xs) (e ∷ u ∷ [])) true coded.assigned).0 in
      let read_u = (and_parts (reads_assigned b xs u) true read.1).0 in
      let field = field_write cs b e mk t u f coded.typed in
      let fits = fitting_some cs (code_type cs b u) (field_type cs f) field.fits in
      let object_type = ty.Ref (record { 0 = field.of }) field.non_null in
      -- positions
      let x_e = meant_at w e k in
      let x_u = meant_at w u k in
      let s = field_sort cs f in
      let k1 = evaluate w e k in
      let k2 = evaluate w u k1 in
      let o = term_for sort.Rest x_e k2 in
      let k3 = with_term sort.Rest x_e k2 in
      let v = term_for s x_u k3 in
      let k4 = with_term s x_u k3 in
      let k5 = check_not_null w at e o k4 in
      let level = neg (sub_atom (level_of k4.store o) (class_term t)) in
      let k6 = check w kind.WriteLevel at level k5 in
      let k7 = check_owners mk w at o t v k6 in
      let new = app (Set f) (owned_store mk k4.store o t v ∷ o ∷ v ∷ []) in
      -- what is valid
      let v6 = (leads_owners w mk at o t v k6).listed valid in
      let v5 = (leads_check w kind.WriteLevel at level k5).listed v6 in
      let v4 = (leads_not_null w at e o k4).listed v5 in
      let v3 = (leads_with_term w s x_u k3).listed v4 in
      let v2 = (leads_with_term w sort.Rest x_e k2).listed v3 in
      let v1 = (leads_evaluate w u k1).listed v2 in
      -- values
      let ev_e = evaluated w before table formed xs m k p here.at e read.0 (typed_some (code_type cs b e) object_type field.object) v1 in
      let ev_u = evaluated w before table formed xs m k1 p ev_e.at u read_u (typed_some (code_type cs b u) fits.0 fits.1) v2 in
      let e1 = same_evaluate w e k in
      let next2 : k2.next ≡ k.next = (same_evaluate w u k1).next ∙ e1.next in
      let self = alike_self k.next m in
      let mean_u = meaning_on w m m k1 k u ev_u.value (like_back k k1 e1.like) (subst (λ n. Rises n k.next) (sym e1.next) (rises_self k.next)) (alike_self k1.next m) ev_u.means in
      -- terms
      let r2 : Rises k.next k2.next = subst (λ n. Rises k.next n) (sym next2) (rises_self k.next) in
      let t_e = settled_later w before table xs p k k2 m m e sort.Rest ev_e.value (ap element_sort field.object) ev_e.means r2 self ev_u.at in
      let m3 = t_e.term.m' in
      let alike3 : IsAlike k.next m m3 = subst (λ n. IsAlike n m m3) next2 t_e.term.alike in
      let r3 : Rises k.next k3.next = rises_twice k.next k2.next k3.next r2 (leads_with_term w sort.Rest x_e k2).rises in
      let t_u = settled_later w before table xs p k k3 m m3 u s ev_u.value (fitting_sort cs (code_type cs b u) (field_type cs f) field.fits) mean_u r3 alike3 t_e.at in
      let m4 = t_u.term.m' in
      let alike4 : IsAlike k.next m m4 = alike_twice k.next m m3 m4 alike3 (alike_lower k.next k3.next m3 m4 r3 t_u.term.alike) in
      let is_o : Stays k4.next m4 (HasValue cs o (standing ev_e.value)) = stays_on (HasValue cs o (standing ev_e.value)) k3.next k4.next m3 m4 (leads_with_term w s x_u k3).rises t_u.term.alike t_e.term.is in
      let is_v : Stays k4.next m4 (HasValue cs v (standing ev_u.value)) = t_u.term.is in
      -- checks
      let is = t_u.at.agrees in
      let c5 = object_checked w before table xs p formed m4 k4 t_u.at e at o ev_e.value field.of field.non_null read.0 field.object ev_e.is is_o v5 in
      let there = c5.there in
      let q = there.position in
      let c6 = checked w before table m4 p kind.WriteLevel at level k5 v6 c5.agrees in
      let good = good_at w before table formed xs m k p here.at in
      let typed_u : has_type cs p.store (field_type cs f) ev_u.value ≡ true = value_fits S b b.flags.ctor good u (field_type cs f) ev_u.value field.fits ev_u.is in
      let same6 = same_twice k4 k5 k6 (same_not_null w at e o k4) (same_check w kind.WriteLevel at level k5) in
      let is_o6 = subst (λ n. Stays n m4 (HasValue cs o (standing (value.Obj q)))) (sym same6.next) (λ m' d l. is_o m' d l ∙ ap standing there.is) in
      let is_v6 = subst (λ n. Stays n m4 (HasValue cs v (standing ev_u.value))) (sym same6.next) is_v in
      let c7 = owners_checked w before table m4 p mk at o t v k6 q there.object ev_u.value there.there is_o6 is_v6
      (λ i d. typed_there cs p.store (field_type cs f) i (subst (λ r. has_type cs p.store (field_type cs f) r ≡ true) d typed_u)) c6.1 valid in
      let here4 = alike_self k4.next m4 in
      let has = store_there cs table k4.next m4 k4.store p.store is.table_is is.store_is m4 here4 in
      let owners = subst (λ n. IsDone (with_owners n p.store q (field_class cs f) ev_u.value)) (sym field.mark_is) (subst (λ n. IsDone (with_owners mk p.store q n ev_u.value)) (sym field.class_is) c7.done) in
      let open_ = subst (λ n. IsTrueIn cs (neg (sub_atom (level_of k4.store o) (class_term n))) m4) (sym field.class_is) (c6.0 m4 (alike_self k5.next m4)) in
      let done0 = write_done cs m4 k4.store p.store has o q there.object there.there (λ d. is_o m4 here4 d ∙ ap standing there.is) formed.beside f ev_u.value open_ owners in
      let done = subst (λ r. IsDone (write_of cs p.store r f ev_u.value)) (sym there.is) done0 in
      let same7 = same_twice k4 k6 k7 same6 (same_owners w mk at o t v k6) in
      -- null
      let not_null : is_non_null (field_type cs f) ≡ true → IsNotNull ev_u.value = λ wanted.
      ⊎_elim
      (λ no. absurd (true≢false (sym wanted ∙ not_true (is_non_null (field_type cs f)) no)))
      (λ never. never_null b xs k.known u S good here.at.sound.was_ready here.at.assigned here.at.known false refl read_u fits.0 (code_typed cs b u fits.0 fits.1) never ev_u.value ev_u.is)
      (or_cases (not (is_non_null (field_type cs f))) (is_never_null (site_of w.program b) k.known false u) coded.nulls) in
      has_value (run.value_of e S) ev_e.value (λ r. Has (run.value_of u S) (λ z. Changes a st Q p (write_of cs p.store r f z))) ev_e.is
      (has_value (run.value_of u S) ev_u.value (λ z. Changes a st Q p (write_of cs p.store ev_e.value f z)) ev_u.is
      (store_goes w before table arguments xs m k p st refl coded here m4 k7 new (write_of cs p.store ev_e.value f ev_u.value) Q alike4 c7.agrees
      (subst (λ r. IsSteady cs r m4 new) (sym same7.next)
      (steady_write cs k4.next m4 f mk t k4.store o v (steady_value cs k4.next m4 k4.store _ is.store_is.is) (steady_value cs k4.next m4 o (standing ev_e.value) is_o) (steady_value cs k4.next m4 v (standing ev_u.value) is_v)))
      (write_sorted cs f mk t k4.store o v (field_has cs f field.field field.there) (λ no. marked_sort cs formed.fields f field.field field.there (ap is_plain field.mark_is ∙ no)) is.store_is.sorted t_e.term.sorted t_u.term.sorted)
      done
      (λ z d sound.
      subst (λ n. HasStore cs m4 (app (Set f) (owned_store n k4.store o t v ∷ o ∷ v ∷ [])) z) field.mark_is
      (subst (λ n. HasStore cs m4 (app (Set f) (owned_store (field_mark cs f) k4.store o n v ∷ o ∷ v ∷ [])) z) field.class_is
      (write_after cs m4 k4.store p.store has o v ev_e.value f ev_u.value z (is_o m4 here4) (is_v m4 here4) d (field_not_null cs formed.chain f field.field field.there) typed_u sound.store)))
      (λ z g. known_agrees w before table m4 (positions.with_store new k7) (with_store z p) (behind w st k).known g)
      (λ z d sound l. known_written a p e f ev_e.value ev_u.value z k.known ev_e.is d not_null (later_known a (entry_size a) p z entered.body.flags here.at.sound l.reached.later k.known here.at.known))
      ends))
