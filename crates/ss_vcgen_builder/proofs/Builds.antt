-- What a step of the construction leaves, and what it adds.
use Rattle.std.proofs.Common.{◌≡◌, ℕ, ◌+◌, List, [], ◌∷◌, ◌++◌, length, take, drop, refl, sym, ◌∙◌, ap, arith, Option, Some, Result, Ok, Err, Vec, Global}
use Rattle.std.specs.Prelude.{slice_set, IfOk, OnOk}
use Rattle.std.proofs.lemmas.List.{length_push, map_push, map-set, take_all, take-append-le, drop-append-le}
use Rattle.ss_core.specs.declared.names.Kind.{Kind}
use Rattle.ss_core.specs.declared.names.Place.{Place}
use Rattle.ss_core.specs.View as view
use Rattle.ss_store_rules.specs.NonNull as NonNull
use Rattle.ss_logic.specs.declared.Sort.{Sort}
use Rattle.ss_logic.specs.Terms as tree
use Rattle.ss_logic.specs.Formulas as logic
use Rattle.ss_logic.specs.Shapes.{equal}
use Rattle.ss_logic.specs.Express as express
use Rattle.ss_terms.specs.declared.forms.TermId.{TermId}
use Rattle.ss_terms.specs.declared.forms.FormulaId.{FormulaId}
use Rattle.ss_terms.specs.Forms.{Forms, term_at, formula_at, formulas_at, HasTerm, HasFormula, IsGrown}
use Rattle.ss_terms.proofs.Grown.{IsGrown-refl, IsGrown-then, HasTerm-grown, HasFormula-grown, HasFormulas-grown, IsBankOf-grown}
use Rattle.ss_vcgen_express.specs.Numbers.{IsTerm, IsFormula}
use Rattle.ss_terms.proofs.Longer.{HasFormulas-push}
use Rattle.ss_vcgen_known.specs.declared.known.Known.{Known}
use Rattle.ss_vcgen_known.specs.Views.{known_of}
use Rattle.ss_vcgen_heaps.specs.Positions as spec
use Rattle.ss_vcgen_heaps.specs.Positions.{Position}
use Rattle.ss_vcgen_builder.specs.declared.guard.Guard.{Guard}
use Rattle.ss_vcgen_builder.specs.declared.builder.Builder.{Builder}
use Rattle.ss_vcgen_builder.specs.declared.builder.Counters.{Counters}
use Rattle.ss_vcgen_builder.specs.declared.builder.Listed.{Listed}
use Rattle.ss_vcgen_builder.specs.declared.builder.Walk.{Walk}
use Rattle.ss_vcgen_builder.specs.declared.branches.Spot.{Spot}
use Rattle.ss_vcgen_builder.specs.Builder.{guard_of, counters_of, local_at, locals_at, obligation_at, obligations_at, position_at, HasLocals, AreWithin, IsFine, Becomes, listing, IsWalk, HasSpot, at_spot, IsSpot}
use Rattle.ss_terms.specs.Numbered.{HasTermOf}
use Rattle.ss_vcgen_builder.proofs.Held.{HasLocals-grown, HasLocals-set, HasLocals-push, AreWithin-grown, AreWithin-push, AreWithin-longer}

-- ---- one step and then another

pub becomes_then : (s t u : Builder) (before : Forms → Position) (step : Forms → Position → Position) → Becomes s t before → Becomes t u (λ b. step b (position_at b t)) → Becomes s u (λ b. step b (before b))
becomes_then s t u before step p q = record {
  fine = q.fine;
  grown = IsGrown-then s.bank t.bank u.bank p.grown q.grown;
  is = λ b k. q.is b k ∙ ap (step b) (p.is b (IsGrown-then t.bank u.bank b q.grown k));
  first = q.first ∙ p.first;
  before = ap (λ n. take n u.trail.items) (sym p.first) ∙ q.before ∙ ap (λ n. take n t.trail.items) p.first ∙ p.before;
}

pub becomes_so : (s t : Builder) (says others : Forms → Position) → Becomes s t says → ((b : Forms) → IsGrown t.bank b → says b ≡ others b) → Becomes s t others
becomes_so s t says others p same = record { fine = p.fine; grown = p.grown; is = λ b k. p.is b k ∙ same b k; first = p.first; before = p.before }

pub becomes_self : (s : Builder) → IsFine s → Becomes s s (λ b. position_at b s)
becomes_self s fine = record { fine = fine; grown = IsGrown-refl s.bank; is = λ b k. refl; first = refl; before = refl }

-- what is so of a result
pub on_ok : {V E P Q : Type 0} (r : Result V E) → (P → Q) → OnOk r P → OnOk r Q
on_ok (Ok v) f h = f h
on_ok (Err e) f h = tt

pub if_ok : {V E : Type 0} {P Q : V → Type 0} (r : Result V E) → ((v : V) → P v → Q v) → IfOk r P → IfOk r Q
if_ok (Ok v) f h = f v h
if_ok (Err e) f h = tt

-- ---- a walk over a list: what is left of it, from where the builder is, comes to this

pub record Going (old new : Builder) (rest : Forms → Position → Position) (says : Forms → Position) : Type 0 where
  pub fine : IsFine new
  pub grown : IsGrown old.bank new.bank
  pub is : (b : Forms) → IsGrown new.bank b → rest b (position_at b new) ≡ says b
  pub first : new.first ≡ old.first
  pub before : take old.first new.trail.items ≡ take old.first old.trail.items

pub going_start : (s : Builder) (rest : Forms → Position → Position) → IsFine s → Going s s rest (λ b. rest b (position_at b s))
going_start s rest fine = record { fine = fine; grown = IsGrown-refl s.bank; is = λ b k. refl; first = refl; before = refl }

pub going_on : (s t u : Builder) (rest step after : Forms → Position → Position) (says : Forms → Position) → Going s t rest says → Becomes t u (λ b. step b (position_at b t)) →
    ((b : Forms) (k : Position) → rest b k ≡ after b (step b k)) → Going s u after says
going_on s t u rest step after says g p same = record {
  fine = p.fine;
  grown = IsGrown-then s.bank t.bank u.bank g.grown p.grown;
  is = λ b k. ap (after b) (p.is b k) ∙ sym (same b (position_at b t)) ∙ g.is b (IsGrown-then t.bank u.bank b p.grown k);
  first = p.first ∙ g.first;
  before = ap (λ n. take n u.trail.items) (sym g.first) ∙ p.before ∙ ap (λ n. take n t.trail.items) g.first ∙ g.before;
}

pub going_end : (s t : Builder) (rest : Forms → Position → Position) (says : Forms → Position) → Going s t rest says → ((b : Forms) (k : Position) → rest b k ≡ k) → Becomes s t says
going_end s t rest says g same = record { fine = g.fine; grown = g.grown; is = λ b k. sym (same b (position_at b t)) ∙ g.is b k; first = g.first; before = g.before }

-- ---- the bank grows

pub becomes_bank : (s : Builder) (b : Forms) → IsFine s → IsGrown s.bank b → Becomes s (record s { bank = b }) (λ c. position_at c s)
becomes_bank s b fine g = record {
  fine = record {
    locals = HasLocals-grown s.bank b g s.locals.items fine.locals;
    store = HasTerm-grown s.bank b g s.store fine.store;
    trail = HasFormulas-grown s.bank b g s.trail.items fine.trail;
    list = AreWithin-grown s.bank b g (length s.trail.items) s.list.items fine.list;
    first = fine.first;
  };
  grown = g;
  is = λ c k. refl;
  first = refl;
  before = refl;
}

module _ (s : Builder) (fine : IsFine s) where
  -- ---- one premise more

  module _ (f : FormulaId) where
    list_stays : (b : Forms) (os : List Listed) → AreWithin s.bank (length s.trail.items) os → obligations_at b (s.trail.items ++ f ∷ []) os ≡ obligations_at b s.trail.items os
    list_stays b [] h = refl
    list_stays b (o ∷ os) h =
        ap (λ fs. record (obligation_at b s.trail.items o) { premises = formulas_at b (drop o.first fs) } ∷ obligations_at b (s.trail.items ++ f ∷ []) os) (take-append-le o.end s.trail.items (f ∷ []) h.0.end)
        ∙ ap (λ os. obligation_at b s.trail.items o ∷ os) (list_stays b os h.1)

    pub becomes_pushed : (t : Vec FormulaId Global) → HasFormula s.bank f → t.items ≡ s.trail.items ++ f ∷ [] → Becomes s (record s { trail = t }) (λ b. spec.with_premise (formula_at b f) (position_at b s))
    becomes_pushed t within e = record {
      fine = record {
        locals = fine.locals;
        store = fine.store;
        trail = rw e (HasFormulas-push s.bank s.trail.items f fine.trail within);
        list = rw (e, length_push) (AreWithin-longer s.bank (length s.trail.items) s.list.items fine.list);
        first = rw (e, length_push) (let l = fine.first in omega arith);
      };
      grown = IsGrown-refl s.bank;
      is = λ b k.
          let at = λ (fs : List logic.Formula) (os : List spec.Obligation). record (position_at b s) { premises = fs; listed = os } in
          ap (λ ts. at (formulas_at b (drop s.first ts)) (obligations_at b ts s.list.items)) e
          ∙ ap (λ fs. at (formulas_at b fs) (obligations_at b (s.trail.items ++ f ∷ []) s.list.items)) (drop-append-le s.first s.trail.items (f ∷ []) fine.first)
          ∙ ap (λ fs. at fs (obligations_at b (s.trail.items ++ f ∷ []) s.list.items)) (map_push (formula_at b) (drop s.first s.trail.items) f)
          ∙ ap (at (formulas_at b (drop s.first s.trail.items) ++ formula_at b f ∷ [])) (list_stays b s.list.items fine.list);
      first = refl;
      before = ap (take s.first) e ∙ take-append-le s.first s.trail.items (f ∷ []) fine.first;
    }

  -- ---- one obligation more

  pub becomes_listed : (o : Listed) (t : Vec Listed Global) → t.items ≡ s.list.items ++ o ∷ [] → HasFormula s.bank o.goal → o.first ≡ s.first → o.end ≡ length s.trail.items →
      Becomes s (record s { list = t }) (λ b. record (position_at b s) { listed = (position_at b s).listed ++ record { premises = (position_at b s).premises; goal = formula_at b o.goal; kind = o.kind; place = o.place; body = o.body.0 } ∷ [] })
  becomes_listed o t e within is_first is_end = record {
    fine = record {
      locals = fine.locals;
      store = fine.store;
      trail = fine.trail;
      list = rw e (AreWithin-push s.bank (length s.trail.items) s.list.items o fine.list (record { goal = within; first = rw (is_first, is_end) fine.first; end = rw is_end (omega arith) }));
      first = fine.first;
    };
    grown = IsGrown-refl s.bank;
    is = λ b k.
        ap (λ os. record (position_at b s) { listed = obligations_at b s.trail.items os }) e
        ∙ ap (λ os. record (position_at b s) { listed = os }) (map_push (obligation_at b s.trail.items) s.list.items o)
        ∙ ap (λ fs. record (position_at b s) { listed = obligations_at b s.trail.items s.list.items ++ record (obligation_at b s.trail.items o) { premises = formulas_at b fs } ∷ [] })
        (ap (λ n. drop n (take o.end s.trail.items)) is_first ∙ ap (drop s.first) (take_all o.end s.trail.items (rw is_end (omega arith))));
    first = refl;
    before = refl;
  }

-- ---- a step by a formula that was made before

pub becomes_said : (word : logic.Formula → Position → Position) (s t u : Builder) (f : FormulaId) (before : Forms → Position) (says : Forms → logic.Formula) → Becomes s t before → IsFormula t.bank f says →
    Becomes t u (λ b. word (formula_at b f) (position_at b t)) → Becomes s u (λ b. word (says b) (before b))
becomes_said word s t u f before says p is q =
    becomes_so s u (λ b. word (formula_at b f) (before b)) (λ b. word (says b) (before b)) (becomes_then s t u before (λ b k. word (formula_at b f) k) p q)
    (λ b k. ap (λ g. word g (before b)) (is.is b (IsGrown-then t.bank u.bank b q.grown k)))

-- it is listed, and then becomes a premise
pub becomes_checked : (s t u v : Builder) (w : Forms → spec.Walk) (kind : Kind) (at : Place) (f : FormulaId) (says : Forms → logic.Formula) → Becomes s t (λ b. position_at b s) → IsFormula t.bank f says →
    Becomes t u (λ b. listing (w b) kind at (formula_at b f) (position_at b t)) → Becomes u v (λ b. spec.with_premise (formula_at b f) (position_at b u)) →
    Becomes s v (λ b. spec.with_premise (says b) (listing (w b) kind at (says b) (position_at b s)))
becomes_checked s t u v w kind at f says p is q r =
    let one = becomes_then t u v (λ b. listing (w b) kind at (formula_at b f) (position_at b t)) (λ b k. spec.with_premise (formula_at b f) k) q r in
    becomes_so s v (λ b. spec.with_premise (formula_at b f) (listing (w b) kind at (formula_at b f) (position_at b s))) (λ b. spec.with_premise (says b) (listing (w b) kind at (says b) (position_at b s)))
    (becomes_then s t v (λ b. position_at b s) (λ b k. spec.with_premise (formula_at b f) (listing (w b) kind at (formula_at b f) k)) p one)
    (λ b k. ap (λ g. spec.with_premise g (listing (w b) kind at g (position_at b s))) (is.is b (IsGrown-then t.bank v.bank b one.grown k)))

-- ---- the locals, the store, the guard and what is known are others

pub becomes_spot : (s : Builder) (p : Spot) → IsFine s → HasSpot s.bank p → Becomes s (record s { locals = p.locals; store = p.store; guard = p.guard; known = p.known }) (λ b. at_spot b p (position_at b s))
becomes_spot s p fine has = record {
  fine = record { locals = has.locals; store = has.store; trail = fine.trail; list = fine.list; first = fine.first };
  grown = IsGrown-refl s.bank;
  is = λ b k. refl;
  first = refl;
  before = refl;
}

pub becomes_locals : (s : Builder) (t : Vec (Option TermId) Global) → IsFine s → HasLocals s.bank t.items → Becomes s (record s { locals = t }) (λ b. record (position_at b s) { locals = locals_at b t.items })
becomes_locals s t fine has = becomes_spot s (record { locals = t; store = s.store; guard = s.guard; known = s.known }) fine (record { locals = has; store = fine.store })

-- ---- other numbers come next, and another guard stands

pub becomes_counted : (s : Builder) (g : Guard) (n : Counters) → IsFine s → Becomes s (record s { guard = g; next = n }) (λ b. record (position_at b s) { guard = guard_of g; next = counters_of n })
becomes_counted s g n fine = record {
  fine = record { locals = fine.locals; store = fine.store; trail = fine.trail; list = fine.list; first = fine.first };
  grown = IsGrown-refl s.bank;
  is = λ b k. refl;
  first = refl;
  before = refl;
}

pub becomes_new : (s : Builder) (b : Forms) (n : Counters) (sort : Sort) → IsFine s → IsGrown s.bank b → counters_of n ≡ spec.raised sort (counters_of s.next) → Becomes s (record s { bank = b; next = n }) (λ c. spec.with_new sort (position_at c s))
becomes_new s b n sort fine g e =
    let p = becomes_bank s b fine g in
    becomes_so s (record s { bank = b; next = n }) (λ c. record (position_at c s) { next = counters_of n }) (λ c. spec.with_new sort (position_at c s))
    (becomes_then s (record s { bank = b }) (record s { bank = b; next = n }) (λ c. position_at c s) (λ c k. record k { guard = guard_of s.guard; next = counters_of n }) p (becomes_counted (record s { bank = b }) s.guard n p.fine))
    (λ c k. ap (λ (m : spec.Counters). record (position_at c s) { next = m }) e)

pub becomes_added : (s : Builder) (l : Option TermId) (t : Vec (Option TermId) Global) → IsFine s → HasTermOf s.bank l → t.items ≡ s.locals.items ++ l ∷ [] →
    Becomes s (record s { locals = t }) (λ b. record (position_at b s) { locals = (position_at b s).locals ++ local_at b l ∷ [] })
becomes_added s l t fine has e =
    becomes_so s (record s { locals = t }) (λ b. record (position_at b s) { locals = locals_at b t.items }) (λ b. record (position_at b s) { locals = (position_at b s).locals ++ local_at b l ∷ [] })
    (becomes_locals s t fine (rw e (HasLocals-push s.bank s.locals.items l fine.locals has)))
    (λ b k. ap (λ ls. record (position_at b s) { locals = ls }) (ap (locals_at b) e ∙ map_push (local_at b) s.locals.items l))

pub becomes_set : (s : Builder) (x : ℕ) (t : TermId) (v : Vec (Option TermId) Global) → IsFine s → HasTerm s.bank t → v.items ≡ slice_set s.locals.items x (Some t) → Becomes s (record s { locals = v }) (λ b. spec.set_local x (term_at b t) (position_at b s))
becomes_set s x t v fine has e =
    becomes_so s (record s { locals = v }) (λ b. record (position_at b s) { locals = locals_at b v.items }) (λ b. spec.set_local x (term_at b t) (position_at b s))
    (becomes_locals s v fine (rw e (HasLocals-set s.bank s.locals.items x (Some t) fine.locals has)))
    (λ b k. ap (λ ls. record (position_at b s) { locals = ls }) (ap (locals_at b) e ∙ map-set (local_at b) s.locals.items x (Some t)))

-- a new constant has the value
pub becomes_defined : (s t u v : Builder) (sort : Sort) (x : TermId) (m : Forms → express.Meant) (f : FormulaId) → Becomes s t (λ b. spec.with_new sort (position_at b s)) → IsTerm t.bank x (λ b. spec.new_term sort (position_at b s)) → Becomes t u (λ b. position_at b t) →
    IsFormula u.bank f (λ b. spec.has_value sort (term_at b x) (m b)) → Becomes u v (λ b. spec.assume (formula_at b f) (position_at b u)) → Becomes s v (λ b. spec.define sort (m b) (position_at b s))
becomes_defined s t u v sort x m f p at q is r =
    let one = becomes_said (λ g k. spec.assume g k) s u v f (λ b. spec.with_new sort (position_at b s)) (λ b. spec.has_value sort (term_at b x) (m b)) (becomes_then s t u (λ b. spec.with_new sort (position_at b s)) (λ b k. k) p q) is r in
    becomes_so s v (λ b. spec.assume (spec.has_value sort (term_at b x) (m b)) (spec.with_new sort (position_at b s))) (λ b. spec.define sort (m b) (position_at b s)) one
    (λ b k. ap (λ y. spec.assume (spec.has_value sort y (m b)) (spec.with_new sort (position_at b s))) (at.is b (IsGrown-then t.bank v.bank b (IsGrown-then t.bank u.bank v.bank q.grown r.grown) k)))

-- it is each side's term where that side is reached
pub becomes_differing : (s t u v : Builder) (g h : spec.Guard) (sort : Sort) (z x y : TermId) → Becomes s t (λ b. spec.with_new sort (position_at b s)) → IsTerm t.bank z (λ b. spec.new_term sort (position_at b s)) →
    Becomes t u (λ b. spec.with_premise (spec.under g (equal (term_at b z) (term_at b x))) (position_at b t)) → Becomes u v (λ b. spec.with_premise (spec.under h (equal (term_at b z) (term_at b y))) (position_at b u)) →
    Becomes s v (λ b. spec.with_premise (spec.under h (equal (spec.new_term sort (position_at b s)) (term_at b y))) (spec.with_premise (spec.under g (equal (spec.new_term sort (position_at b s)) (term_at b x))) (spec.with_new sort (position_at b s))))
becomes_differing s t u v g h sort z x y p at q r =
    let whole = λ (b : Forms) (c : tree.Term). spec.with_premise (spec.under h (equal c (term_at b y))) (spec.with_premise (spec.under g (equal c (term_at b x))) (spec.with_new sort (position_at b s))) in
    let two = becomes_then t u v (λ b. spec.with_premise (spec.under g (equal (term_at b z) (term_at b x))) (position_at b t)) (λ b k. spec.with_premise (spec.under h (equal (term_at b z) (term_at b y))) k) q r in
    becomes_so s v (λ b. whole b (term_at b z)) (λ b. whole b (spec.new_term sort (position_at b s)))
    (becomes_then s t v (λ b. spec.with_new sort (position_at b s)) (λ b k. spec.with_premise (spec.under h (equal (term_at b z) (term_at b y))) (spec.with_premise (spec.under g (equal (term_at b z) (term_at b x))) k)) p two)
    (λ b k. ap (whole b) (at.is b (IsGrown-then t.bank v.bank b two.grown k)))

-- ---- what stays as the bank grows

pub term_so : (a : Forms) (t : TermId) (says others : Forms → tree.Term) → ((b : Forms) → IsGrown a b → says b ≡ others b) → IsTerm a t says → IsTerm a t others
term_so a t says others same h = record { has = h.has; is = λ b k. h.is b k ∙ same b k }

module _ (a c : Forms) (g : IsGrown a c) where
  pub IsTerm-grown : (t : TermId) (says : Forms → tree.Term) → IsTerm a t says → IsTerm c t says
  IsTerm-grown t says h = record { has = HasTerm-grown a c g t h.has; is = λ b k. h.is b (IsGrown-then a c b g k) }

  pub IsFormula-grown : (f : FormulaId) (says : Forms → logic.Formula) → IsFormula a f says → IsFormula c f says
  IsFormula-grown f says h = record { has = HasFormula-grown a c g f h.has; is = λ b k. h.is b (IsGrown-then a c b g k) }

  pub HasSpot-grown : (p : Spot) → HasSpot a p → HasSpot c p
  HasSpot-grown p h = record { locals = HasLocals-grown a c g p.locals.items h.locals; store = HasTerm-grown a c g p.store h.store }

  pub IsSpot-grown : (p : Spot) (says : Forms → Position) → IsSpot a p says → IsSpot c p says
  IsSpot-grown p says h = record { has = HasSpot-grown p h.has; is = λ b k. h.is b (IsGrown-then a c b g k) }

  pub IsWalk-grown : (w : Walk) → IsWalk a w → IsWalk c w
  IsWalk-grown w h = record { entry = HasTerm-grown a c g w.entry h.entry; types = h.types; bank = IsBankOf-grown (view.classes w.core.now.classes) a c g h.bank; limits = h.limits }

-- ---- both sides

-- the second side is that of the spot that was left, with its guard and what is known there
pub second_side_spot : (a : Forms) (p : Spot) (says : Forms → Position) (g : Guard) (known : Known) → IsSpot a p says → (b : Forms) → IsGrown a b → (k : Position) →
    at_spot b (record p { guard = g; known = known }) k ≡ spec.second_side (guard_of g) (known_of known) (says b) k
second_side_spot a p says g known h b grown k = ap (λ (l : Position). spec.second_side (guard_of g) (known_of known) l k) (h.is b grown)

-- what is after both sides tells only that of the first
join_from_spot : (b : Forms) (p : Spot) (w : spec.Walk) (meet : NonNull.Known → NonNull.Known → NonNull.Known) (g h : spec.Guard) (k l : Position) → at_spot b p l ≡ l → spec.join_from g h w meet (at_spot b p k) k ≡ spec.join_from g h w meet l k
join_from_spot b p w meet spec.Never h k l e = refl
join_from_spot b p w meet spec.Always spec.Never k l e = ap (λ (m : Position). record k { locals = m.locals; store = m.store; guard = m.guard; known = m.known }) e
join_from_spot b p w meet (spec.When m) spec.Never k l e = ap (λ (m : Position). record k { locals = m.locals; store = m.store; guard = m.guard; known = m.known }) e
join_from_spot b p w meet spec.Always spec.Always k l e = ap (λ (m : Position). spec.join_both w meet m k) e
join_from_spot b p w meet spec.Always (spec.When n) k l e = ap (λ (m : Position). spec.join_both w meet m k) e
join_from_spot b p w meet (spec.When m) spec.Always k l e = ap (λ (m : Position). spec.join_both w meet m k) e
join_from_spot b p w meet (spec.When m) (spec.When n) k l e = ap (λ (m : Position). spec.join_both w meet m k) e

pub join_spot : (a : Forms) (p : Spot) (says : Forms → Position) (w : spec.Walk) (meet : NonNull.Known → NonNull.Known → NonNull.Known) → IsSpot a p says → (b : Forms) → IsGrown a b → (k : Position) →
    spec.join w meet (at_spot b p k) k ≡ spec.join w meet (says b) k
join_spot a p says w meet h b grown k =
    ap (λ (g : spec.Guard). spec.join_from g k.guard w meet (at_spot b p k) k) (ap (λ (l : Position). l.guard) (h.is b grown))
    ∙ join_from_spot b p w meet (says b).guard k.guard k (says b) (h.is b grown)
