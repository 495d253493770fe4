-- Premises and checks: what is assumed is true, and what is checked is so where its obligation is valid.
use Rattle.std.proofs.Common.{◌≡◌, List, [], ◌∷◌, map, Bool, true, false, refl}
use Rattle.std.proofs.lemmas.Bool.{and_parts, and_from}
use Rattle.ss_core.specs.declared.names.Kind.{Kind}
use Rattle.ss_core.specs.declared.names.Place.{Place}
use Rattle.ss_core.specs.Tree.{ClassTree, ExprTree}
use Rattle.ss_store_rules.specs.Store.{Object}
use Rattle.ss_store_rules.specs.Values.{Setting, holds}
use Rattle.ss_machine_rules.specs.Steps.{all_hold}
use Rattle.ss_logic.specs.Values.{Table, Structure}
use Rattle.ss_logic.specs.Formulas.{Formula, Hold}
use Rattle.ss_logic.specs.Express.{Context, holds_formula}
use Rattle.ss_logic_means.specs.Means.{Means}
use Rattle.ss_vcgen_heaps.specs.Parts.{Part}
use Rattle.ss_vcgen_heaps.specs.Positions.{Position, Walk, under, assume, assume_all, check, check_all, check_unless, check_parts}
use Rattle.ss_vcgen_heaps.specs.Obligations.{AreValid}
use Rattle.ss_vcgen_heaps.specs.Contracts.{conditions}
use Rattle.ss_sound_outcomes.specs.Points.{Point}
use Rattle.ss_vcgen_safe.specs.At.{IsAlike, Stays, IsTrueIn, HoldIn, Agrees}
use Rattle.ss_vcgen_safe.proofs.Guards.{hold_more, under_on, from_under}
use Rattle.ss_vcgen_safe.proofs.Leads.{valid_last, leads_check_all, leads_check_parts}

-- ---- conditions

-- each of these conditions is true exactly where it holds
abbrev pub AllMean : List ClassTree → Structure → List ExprTree → Context → Setting → Type 0
AllMean cs m [] c s = Unit {0}
AllMean cs m (e ∷ es) c s = Means cs m [] (holds_formula e c) (holds e s) × AllMean cs m es c s

pub conditions_hold : (cs : List ClassTree) (m : Structure) (es : List ExprTree) (c : Context) (s : Setting) → AllMean cs m es c s → Hold cs m (conditions es c) → all_hold es s ≡ true
conditions_hold cs m [] c s a t = refl
conditions_hold cs m (e ∷ es) c s a t = and_from (holds e s) (all_hold es s) (a.0.0 t.0) (conditions_hold cs m es c s a.1 t.1)

pub conditions_true : (cs : List ClassTree) (m : Structure) (es : List ExprTree) (c : Context) (s : Setting) → AllMean cs m es c s → all_hold es s ≡ true → Hold cs m (conditions es c)
conditions_true cs m [] c s a h = tt
conditions_true cs m (e ∷ es) c s a h = let p = and_parts (holds e s) (all_hold es s) h in (a.0.1 p.0, conditions_true cs m es c s a.1 p.1)

-- ---- at a position

module _ (w : Walk) (before : List Object) (table : Table) (m : Structure) (p : Point) where
  abbrev pub At : Position → Type 0
  At k = Agrees w before table m k p

  abbrev pub StayTrue : Position → Formula → Type 0
  StayTrue k f = Stays k.next m (IsTrueIn w.program.classes f)

  abbrev pub StayHeld : Position → List Formula → Type 0
  StayHeld k fs = Stays k.next m (HoldIn w.program.classes fs)

  pub assumed : (f : Formula) (k : Position) → StayTrue k f → At k → At (assume f k)
  assumed f k t g = record {
    table_is = g.table_is;
    entry = g.entry;
    store_is = g.store_is;
    count = g.count;
    locals = g.locals;
    guard = g.guard;
    premises = λ m' a. hold_more w.program.classes m' k.premises (under k.guard f ∷ []) (g.premises m' a) (under_on w.program.classes m' k.guard f (t m' a), tt);
  }

  pub assumed_all : (fs : List Formula) (k : Position) → StayHeld k fs → At k → At (assume_all fs k)
  assumed_all [] k t g = g
  assumed_all (f ∷ fs) k t g = assumed_all fs (assume f k) (λ m' a. (t m' a).1) (assumed f k (λ m' a. (t m' a).0) g)

  -- the goal of a valid obligation is true
  pub goal_true : (kind : Kind) (at : Place) (f : Formula) (k : Position) → AreValid w.program.classes (check w kind at f k).listed → At k → StayTrue k f
  goal_true kind at f k v g m' a = from_under w.program.classes m' k.guard f (g.guard m' a) (valid_last w.program.classes k.listed _ v m' (g.premises m' a))

  pub checked : (kind : Kind) (at : Place) (f : Formula) (k : Position) → AreValid w.program.classes (check w kind at f k).listed → At k → StayTrue k f × At (check w kind at f k)
  checked kind at f k v g =
      let t = goal_true kind at f k v g in
      let z = assumed f k t g in
      (t, record { table_is = z.table_is; entry = z.entry; store_is = z.store_is; count = z.count; locals = z.locals; guard = z.guard; premises = z.premises })

  pub checked_all : (kind : Kind) (at : Place) (fs : List Formula) (k : Position) → AreValid w.program.classes (check_all w kind at fs k).listed → At k → StayHeld k fs × At (check_all w kind at fs k)
  checked_all kind at [] k v g = (λ m' a. tt, g)
  checked_all kind at (f ∷ fs) k v g =
      let k' = check w kind at f k in
      let c = checked kind at f k ((leads_check_all w kind at fs k').listed v) g in
      let z = checked_all kind at fs k' v c.1 in
      (λ m' a. (c.0 m' a, z.0 m' a), z.1)

  -- a check that isn't listed where it is known
  pub checked_unless : (known : Bool) (kind : Kind) (at : Place) (f : Formula) (k : Position) → (known ≡ true → StayTrue k f) → AreValid w.program.classes (check_unless known w kind at f k).listed → At k →
      StayTrue k f × At (check_unless known w kind at f k)
  checked_unless true kind at f k t v g = (t refl, g)
  checked_unless false kind at f k t v g = checked kind at f k v g

  pub checked_parts : (ps : List Part) (k : Position) → AreValid w.program.classes (check_parts w ps k).listed → At k → StayHeld k (map (λ x. x.formula) ps) × At (check_parts w ps k)
  checked_parts [] k v g = (λ m' a. tt, g)
  checked_parts (x ∷ ps) k v g =
      let k' = check w x.kind x.place x.formula k in
      let c = checked x.kind x.place x.formula k ((leads_check_parts w ps k').listed v) g in
      let z = checked_parts ps k' v c.1 in
      (λ m' a. (c.0 m' a, z.0 m' a), z.1)

  -- conditions whose obligations are valid hold
  pub conditions_checked : (kind : Kind) (at : Place) (es : List ExprTree) (c : Context) (s : Setting) (k : Position) → Stays k.next m (λ m'. AllMean w.program.classes m' es c s) →
      AreValid w.program.classes (check_all w kind at (conditions es c) k).listed → At k → (all_hold es s ≡ true) × At (check_all w kind at (conditions es c) k)
  conditions_checked kind at es c s k mean v g =
      let z = checked_all kind at (conditions es c) k v g in
      let self : IsAlike k.next m m = record { table = refl; constants = λ r i l. refl } in
      (conditions_hold w.program.classes m es c s (mean m self) (z.0 m self), z.1)

  -- conditions that hold are true premises
  pub conditions_assumed : (es : List ExprTree) (c : Context) (s : Setting) (k : Position) → Stays k.next m (λ m'. AllMean w.program.classes m' es c s) → all_hold es s ≡ true → At k → At (assume_all (conditions es c) k)
  conditions_assumed es c s k mean h g = assumed_all (conditions es c) k (λ m' a. conditions_true w.program.classes m' es c s (mean m' a) h) g
