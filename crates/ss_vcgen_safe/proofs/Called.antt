-- A call at a position: the conditions at entry hold, and after it the position agrees, with the result in its local.
use Rattle.std.proofs.Common.{◌≡◌, ℕ, List, [], ◌∷◌, length, map, true, Some, sym, ◌∙◌, ap, subst}
use Rattle.std.specs.Prelude.{Option, None, slice_get}
use Rattle.std.proofs.lemmas.Bool.{false≢true}
use Rattle.std.proofs.lemmas.Option.{slice_get_within}
use Rattle.ss_core.specs.declared.names.Place.{Place}
use Rattle.ss_core.specs.declared.names.Ty.{Ty}
use Rattle.ss_core.specs.Tree.{ClassTree, StmtTree, BodyTree}
use Rattle.ss_core.specs.Chain.{IsChain, NoAlso}
use Rattle.ss_store_rules.specs.declared.Value.{Value as ObjectValue}
use Rattle.ss_store_rules.specs.Store.{Object}
use Rattle.ss_store_rules.specs.Locals.{local_types}
use Rattle.ss_store_rules.specs.Typed.{fits_kept}
use Rattle.ss_machine_rules.specs.States.{ToCall}
use Rattle.ss_machine_rules.specs.Good as machine
use Rattle.ss_machine_good.proofs.Frames.{declared_some}
use Rattle.ss_logic.specs.declared.Sort.{Sort}
use Rattle.ss_logic.specs.declared.Sort.TheVariants as sort
use Rattle.ss_logic.specs.Values.{Table, Structure}
use Rattle.ss_logic.specs.Terms.{Term}
use Rattle.ss_logic.specs.Express.{Meant, One, element_sort}
use Rattle.ss_logic_means.specs.Sorts.{HasSort}
use Rattle.ss_vcgen_heaps.specs.Positions.{Counters, Position, Walk, with_new}
use Rattle.ss_vcgen_heaps.specs.Obligations.{check_entry, result_term, returned, keep, call, AreValid}
use Rattle.ss_sound_outcomes.specs.Points.{Activation, Point, Fits, IsSound, IsAfter, ArePassed}
use Rattle.ss_sound_outcomes.specs.Outcomes.{with_local, with_store, IsReturn, Enters, CallsSafely}
use Rattle.ss_vcgen_safe.specs.At.{IsAlike, activation, Agrees}
use Rattle.ss_vcgen_safe.proofs.PositionsStatements.{leads_returned, leads_keep}
use Rattle.ss_vcgen_safe.proofs.Same.{same_entry}
use Rattle.ss_vcgen_safe.proofs.Puts.{put_agrees}
use Rattle.ss_vcgen_safe.proofs.Settles.{fitting_sort}
use Rattle.ss_vcgen_safe.specs.Stated.{IsStatedBody, AreTermsFor, IsResult}
use Rattle.ss_vcgen_safe.proofs.Returned.{entered, call_returned}

module _ (w : Walk) (before : List Object) (table : Table) where
  abbrev cs : List ClassTree
  cs = w.program.classes

  abbrev a : Activation
  a = activation w before table

  -- the local that keeps a result gets its term
  pub kept_agrees : (m : Structure) (j : Position) (q : Point) (x : Option ℕ) (v : ObjectValue) (o : Option Ty) → fits_kept cs w.body x o ≡ true → length q.locals ≡ length (local_types w.body) → (rs : List Term) → IsResult cs j.next m o rs v →
      Agrees w before table m j q → Agrees w before table m (keep x rs j) (with_local x v q)
  kept_agrees m j q None v o fits count rs r g = g
  kept_agrees m j q (Some y) v None fits count rs r g = let d = declared_some cs None (slice_get (local_types w.body) y) fits in absurd (false≢true d.2)
  kept_agrees m j q (Some y) v (Some t) fits count [] r g = absurd r
  kept_agrees m j q (Some y) v (Some t) fits count (u ∷ []) r g =
      let d = declared_some cs (Some t) (slice_get (local_types w.body) y) fits in
      let same = fitting_sort cs (Some t) d.0 d.2 ∙ ap element_sort (sym d.1) in
      put_agrees w before table m j q y u v (slice_get_within (local_types w.body) y d.0 d.1) count r.0.is (subst (λ (s : Sort). HasSort cs [] s u) same r.1) g
  kept_agrees m j q (Some y) v (Some t) fits count (u ∷ (z ∷ rs)) r g = absurd r

  -- In some structure that is alike the position k' agrees after the call.
  pub record HasCalled (m : Structure) (k k' : Position) (q : Point) : Type 0 where
    pub m' : Structure
    pub alike : IsAlike k.next m m'
    pub agrees : Agrees w before table m' k' q

  module _ (chain : IsChain cs) (beside : NoAlso cs) (p : Point) (good : machine.IsGoodStore w.program p.store) (count : length p.locals ≡ length (local_types w.body)) (b : BodyTree) (stated : IsStatedBody cs b) (ts : List Term) (vs : List ObjectValue)
      (at : Place) (x : Option ℕ) (k : Position) (m : Structure) (g : Agrees w before table m k p) (are : AreTermsFor cs k.next m ts vs) where
    abbrev ms : List Meant
    ms = map One ts

    abbrev there : Position
    there = check_entry w at b ms k

    terms_there : AreTermsFor cs there.next m ts vs
    terms_there = subst (λ (n : Counters). AreTermsFor cs n m ts vs) (sym (same_entry w at b ms k).next) are

    -- what its contract says of a call, and of what it gives back
    pub called_at : AreValid cs (returned w b ms there).listed → ArePassed w.program b p.store vs →
        Enters a b vs p.store
        × ((z : List Object) (v : ObjectValue) → Fits cs table z → IsReturn a b (ToCall x) vs p.store z v →
        (m' : Structure) × IsAlike k.next m m' × Agrees w before table m' (returned w b ms there) (with_store z p) × IsResult cs (returned w b ms there).next m' b.result (result_term b.result (with_new sort.Store there)) v)
    called_at valid passed =
        let e = entered w before table chain beside p good b stated ts vs passed k m g are at ((leads_returned w b ms there).listed valid) in (
          e.0,
          λ z v fits r.
              let h = call_returned w before table chain beside p good b stated ts vs passed there m e.1 terms_there x z v fits r in
              (h.m', subst (λ (n : Counters). IsAlike n m h.m') (same_entry w at b ms k).next h.alike, h.agrees, h.result),
        )

    -- The call goes on safely.
    pub calls_safely : (u : StmtTree) (Q : Point → Type 0) → fits_kept cs w.body x b.result ≡ true → (o : Option BodyTree) → o ≡ Some b → AreValid cs (call w at x o ms k).listed →
        ((z : List Object) (v : ObjectValue) (m' : Structure) → IsReturn a b (ToCall x) vs p.store z v → IsSound a (with_local x v (with_store z p)) → IsAfter a u p (with_local x v (with_store z p)) → IsAlike k.next m m' →
        Agrees w before table m' (call w at x o ms k) (with_local x v (with_store z p)) → Q (with_local x v (with_store z p))) →
        CallsSafely a u Q p x o vs
    calls_safely u Q fits o is =
        subst (λ (c : Option BodyTree). AreValid cs (call w at x c ms k).listed →
        ((z : List Object) (v : ObjectValue) (m' : Structure) → IsReturn a b (ToCall x) vs p.store z v → IsSound a (with_local x v (with_store z p)) → IsAfter a u p (with_local x v (with_store z p)) → IsAlike k.next m m' →
        Agrees w before table m' (call w at x c ms k) (with_local x v (with_store z p)) → Q (with_local x v (with_store z p))) →
        CallsSafely a u Q p x c vs) (sym is)
        (λ valid ends passed.
        let rs = result_term b.result (with_new sort.Store there) in
        let c = called_at ((leads_keep w x rs (returned w b ms there)).listed valid) passed in (
          c.0,
          λ z v r sound behind.
              let h = c.1 z v sound.fits r in
              ends z v h.0 r sound behind h.1 (kept_agrees h.0 (returned w b ms there) (with_store z p) x v b.result fits count rs h.3 h.2),
        ))
