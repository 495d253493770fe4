-- What a list of obligations under construction stands for, and what a step of the construction does.
use Rattle.std.specs.Prelude.{◌≡◌, ◌≤◌, ℕ, List, [], ◌∷◌, ◌++◌, map, length, take, drop, Option, Some, None, option_map}
use Rattle.ss_core.specs.declared.names.Kind.{Kind}
use Rattle.ss_core.specs.declared.names.Place.{Place}
use Rattle.ss_core.specs.Chain.{IsWithinLimits}
use Rattle.ss_core.specs.View as view
use Rattle.ss_store_rules.specs.Locals.{local_types}
use Rattle.ss_logic.specs.declared.Sort.{Sort}
use Rattle.ss_logic.specs.Terms as tree
use Rattle.ss_logic.specs.Formulas.{Formula}
use Rattle.ss_logic.specs.Express.{and_of, or_of}
use Rattle.ss_terms.specs.declared.forms.TermId.{TermId}
use Rattle.ss_terms.specs.declared.forms.FormulaId.{FormulaId}
use Rattle.ss_terms.specs.Forms.{Forms, term_at, formula_at, formulas_at, HasTerm, HasFormula, HasFormulas, IsGrown, IsBankOf}
use Rattle.ss_terms.specs.Numbered.{HasTermOf}
use Rattle.ss_vcgen_heaps.specs.Positions as spec
use Rattle.ss_vcgen_known.specs.Views.{known_of}
use Rattle.ss_vcgen_builder.specs.declared.guard.Guard.{Guard}
use Rattle.ss_vcgen_builder.specs.declared.guard.Guard.TheVariants as guard
use Rattle.ss_vcgen_builder.specs.declared.builder.Counters.{Counters}
use Rattle.ss_vcgen_builder.specs.declared.builder.Listed.{Listed}
use Rattle.ss_vcgen_builder.specs.declared.builder.Builder.{Builder}
use Rattle.ss_vcgen_builder.specs.declared.builder.Walk.{Walk}
use Rattle.ss_vcgen_builder.specs.declared.branches.Spot.{Spot}

-- ---- what the parts stand for

abbrev pub guard_of : Guard → spec.Guard
guard_of guard.Always = spec.Always
guard_of (guard.When n) = spec.When n
guard_of guard.Never = spec.Never

abbrev pub counters_of : Counters → spec.Counters
counters_of n = record { stores = n.stores; wholes = n.wholes; truths = n.truths; things = n.things }

abbrev pub local_at : Forms → Option TermId → Option tree.Term
local_at b l = option_map (term_at b) l

abbrev pub locals_at : Forms → List (Option TermId) → List (Option tree.Term)
locals_at b ls = map (local_at b) ls

-- an obligation, whose premises are a part of the trail
abbrev pub obligation_at : Forms → List FormulaId → Listed → spec.Obligation
obligation_at b trail o = record {
  premises = formulas_at b (drop o.first (take o.end trail));
  goal = formula_at b o.goal;
  kind = o.kind;
  place = o.place;
  body = o.body.0;
}

abbrev pub obligations_at : Forms → List FormulaId → List Listed → List spec.Obligation
obligations_at b trail os = map (obligation_at b trail) os

-- ---- what a builder stands for

-- the position that was come to
abbrev pub position_at : Forms → Builder → spec.Position
position_at b s = record {
  locals = locals_at b s.locals.items;
  store = term_at b s.store;
  guard = guard_of s.guard;
  known = known_of s.known;
  next = counters_of s.next;
  premises = formulas_at b (drop s.first s.trail.items);
  listed = obligations_at b s.trail.items s.list.items;
}

abbrev pub HasLocals : Forms → List (Option TermId) → Type 0
HasLocals b [] = Unit {0}
HasLocals b (l ∷ ls) = HasTermOf b l × HasLocals b ls

-- the bank has them, and in it and in each bank that it grows to they stand for these
pub record IsLocal (a : Forms) (l : Option TermId) (says : Forms → Option tree.Term) : Type 0 where
  pub has : HasTermOf a l
  pub is : (b : Forms) → IsGrown a b → local_at b l ≡ says b

pub record AreLocals (a : Forms) (ls : List (Option TermId)) (say : Forms → List (Option tree.Term)) : Type 0 where
  pub has : HasLocals a ls
  pub are : (b : Forms) → IsGrown a b → locals_at b ls ≡ say b

-- the goal is in the bank, and the premises are a part of a trail of this length
pub record IsPlaced (b : Forms) (n : ℕ) (o : Listed) : Type 0 where
  pub goal : HasFormula b o.goal
  pub first : o.first ≤ o.end
  pub end : o.end ≤ n

abbrev pub AreWithin : Forms → ℕ → List Listed → Type 0
AreWithin b n [] = Unit {0}
AreWithin b n (o ∷ os) = IsPlaced b n o × AreWithin b n os

-- every number is one of the bank, and the premises of the body begin in the trail
pub record IsFine (s : Builder) : Type 0 where
  pub locals : HasLocals s.bank s.locals.items
  pub store : HasTerm s.bank s.store
  pub trail : HasFormulas s.bank s.trail.items
  pub list : AreWithin s.bank (length s.trail.items) s.list.items
  pub first : s.first ≤ length s.trail.items

-- The old builder has become the new one, which stands for this position. What stood in the trail before the body stays.
pub record Becomes (old new : Builder) (says : Forms → spec.Position) : Type 0 where
  pub fine : IsFine new
  pub grown : IsGrown old.bank new.bank
  pub is : (b : Forms) → IsGrown new.bank b → position_at b new ≡ says b
  pub first : new.first ≡ old.first
  pub before : take old.first new.trail.items ≡ take old.first old.trail.items

-- ---- parts of the steps

-- what holds where a side of a test is reached: the position with the guard is reached, and there the formula holds
abbrev pub there : spec.Guard → Formula → Formula
there spec.Always f = f
there (spec.When n) f = and_of (spec.is_true (spec.guard_term n) ∷ f ∷ [])
there spec.Never f = or_of []

-- the goal is listed, with the premises so far
abbrev pub listing : spec.Walk → Kind → Place → Formula → spec.Position → spec.Position
listing w kind at goal k = record k { listed = k.listed ++ record { premises = k.premises; goal = goal; kind = kind; place = at; body = w.number } ∷ [] }

-- one local of two sides, and after it
abbrev pub join_local : spec.Guard → spec.Guard → Sort → Option tree.Term → Option tree.Term → spec.Position → Option tree.Term × spec.Position
join_local g h s (Some x) (Some y) k = (Some (spec.joined_term s x y k), spec.join_term g h s x y k)
join_local g h s a b k = (None, k)

-- ---- the body that is walked over

abbrev pub walk_at : Forms → Walk → spec.Walk
walk_at b w = record { program = view.core w.core.now; body = view.body w.body.now; number = w.number.0; entry = term_at b w.entry }

pub record IsWalk (b : Forms) (w : Walk) : Type 0 where
  pub entry : HasTerm b w.entry
  pub types : w.types.now ≡ local_types (view.body w.body.now)
  pub bank : IsBankOf (view.classes w.core.now.classes) b
  pub limits : IsWithinLimits (view.classes w.core.now.classes)

-- ---- spots that are left and come back to

pub record HasSpot (b : Forms) (p : Spot) : Type 0 where
  pub locals : HasLocals b p.locals.items
  pub store : HasTerm b p.store

-- the position, moved to the spot; its premises, its obligations and its next new constants stay
abbrev pub at_spot : Forms → Spot → spec.Position → spec.Position
at_spot b p k = record k { locals = locals_at b p.locals.items; store = term_at b p.store; guard = guard_of p.guard; known = known_of p.known }

-- the bank has the spot, and in it and in each bank that it grows to the spot is that of this position
pub record IsSpot (a : Forms) (p : Spot) (says : Forms → spec.Position) : Type 0 where
  pub has : HasSpot a p
  pub is : (b : Forms) → IsGrown a b → at_spot b p (says b) ≡ says b
