-- Contexts at positions, and the checks of parts, one after the other.
use Rattle.std.proofs.Common.{◌≡◌, ℕ, ◌+◌, ◌<◌, List, [], ◌∷◌, length, map, drop, ◌++◌, get_or, refl, sym, subst, ◌≤◌, ◌∙◌, ap, Bool, true, false, Option, Some, None}
use Rattle.std.specs.Prelude.{if◌then◌else◌}
use Rattle.std.proofs.lemmas.List.{drop_more}
use Rattle.ss_core.specs.declared.class.Classes.{Classes}
use Rattle.ss_core.specs.declared.names.Ty.{Ty}
use Rattle.ss_core.specs.Tree.{ClassTree, ExprTree}
use Rattle.ss_core.specs.Chain.{most_classes}
use Rattle.ss_core.specs.View as view
use Rattle.ss_store_rules.specs.Locals.{local_types}
use Rattle.ss_store_rules.specs.NonNull as rules
use Rattle.ss_logic.specs.Terms as tree
use Rattle.ss_logic.specs.Shapes.{null_term}
use Rattle.ss_logic.specs.Express as spec
use Rattle.ss_terms.specs.declared.forms.TermId.{TermId}
use Rattle.ss_terms.specs.Forms.{Forms, term_at, HasTerm, HasTerms, IsGrown}
use Rattle.ss_terms.proofs.Grown.{HasTerm-grown, IsGrown-refl, IsGrown-then}
use Rattle.ss_vcgen_heaps.specs.Parts as heaps
use Rattle.ss_vcgen_heaps.specs.Positions as positions
use Rattle.ss_vcgen_heaps.specs.Positions.{Position}
use Rattle.ss_vcgen_express.specs.declared.context.Context.{Context}
use Rattle.ss_vcgen_express.specs.Marked.{Marked, marked, checked_of}
use Rattle.ss_vcgen_express.specs.declared.meant.Meant.{Meant}
use Rattle.ss_vcgen_express.specs.Numbers.{IsMeant}
use Rattle.ss_vcgen_express.specs.Contexts as contexts
use Rattle.ss_vcgen_express.proofs.Grown.{HasMeant-grown}
use Rattle.ss_vcgen_express.proofs.Marking.{checked_are_parts}
use Rattle.ss_vcgen_walk.specs.declared.parts.Part.{Part}
use Rattle.ss_vcgen_known.specs.declared.tests.Tests.TheVariants as tests
use Rattle.ss_vcgen_known.specs.declared.tests.Tests.TheOpen as shape
use Rattle.ss_vcgen_known.specs.declared.tests.Tests.TheFolds.{fold-roll-Tests}
use Rattle.ss_vcgen_known.specs.Views.{known_of, tested, tests_step}
use Rattle.ss_vcgen_walk.specs.Parts.{parts_at, AreParts}
use Rattle.ss_vcgen_walk.specs.Reading.{Expressed}
use Rattle.ss_vcgen_builder.specs.declared.builder.Builder.{Builder}
use Rattle.ss_vcgen_builder.specs.declared.builder.Walk.{Walk}
use Rattle.ss_vcgen_builder.specs.Builder.{locals_at, position_at, walk_at, HasLocals, IsFine, IsWalk, Becomes}
use Rattle.ss_vcgen_builder.proofs.Held.{HasLocals-grown}
use Rattle.ss_vcgen_builder.proofs.Builds.{becomes_then, becomes_so}
use Rattle.ss_vcgen_statements.specs.Contexts.{or_else}
use Rattle.ss_vcgen_express.specs.Contexts.{IsContext}

-- ---- the terms of locals

pub or_else_meant : (b : Forms) (null : TermId) (ls : List (Option TermId)) → term_at b null ≡ null_term → map (contexts.local_at b) (map (or_else null) ls) ≡ map positions.meant_of (locals_at b ls)
or_else_meant b null [] e = refl
or_else_meant b null (None ∷ ls) e = ap (λ t. spec.One t ∷ map (contexts.local_at b) (map (or_else null) ls)) e ∙ ap (λ ms. spec.One null_term ∷ ms) (or_else_meant b null ls e)
or_else_meant b null (Some t ∷ ls) e = ap (λ ms. spec.One (term_at b t) ∷ ms) (or_else_meant b null ls e)

pub HasTerms-or_else : (b : Forms) (null : TermId) (ls : List (Option TermId)) → HasTerm b null → HasLocals b ls → HasTerms b (map (or_else null) ls)
HasTerms-or_else b null [] h l = tt
HasTerms-or_else b null (None ∷ ls) h l = (h, HasTerms-or_else b null ls h l.1)
HasTerms-or_else b null (Some t ∷ ls) h l = (l.0, HasTerms-or_else b null ls h l.1)

abbrev context_from : List ClassTree → tree.Term → tree.Term → Bool → List Ty → List spec.Meant → ℕ → spec.Context
context_from cs n e i ts ms m = record { classes = cs; now = n; entry = e; inside_old = i; types = ts; locals = ms; bound = m }

-- a context with the terms of the builder is that of its position
pub context_stands : (s : Builder) (w : Walk) (a : Forms) (c : Context) (null : TermId) → IsFine s → IsWalk s.bank w → IsGrown s.bank a → HasTerm a null → term_at a null ≡ null_term →
    c.classes.now ≡ w.core.now.classes → c.now ≡ s.store → c.entry ≡ w.entry → c.inside_old ≡ false → c.types.items ≡ w.types.now → c.locals.items ≡ map (or_else null) s.locals.items → c.bound ≡ 0 →
    IsContext a c (λ b. positions.context_at (walk_at b w) (position_at b s))
context_stands s w a c null fine walk g has is classes now entry inside types locals bound = record {
  has = record {
    now = subst (λ (t : TermId). HasTerm a t) (sym now) (HasTerm-grown s.bank a g s.store fine.store);
    entry = subst (λ (t : TermId). HasTerm a t) (sym entry) (HasTerm-grown s.bank a g w.entry walk.entry);
    locals = subst (λ (ts : List TermId). HasTerms a ts) (sym locals) (HasTerms-or_else a null s.locals.items has (HasLocals-grown s.bank a g s.locals.items fine.locals));
    classes = subst (λ (x : Classes). length (view.classes x) ≤ most_classes) (sym classes) walk.limits.classes;
  };
  is = λ b k.
      ap (λ (x : Classes). context_from (view.classes x) (term_at b c.now) (term_at b c.entry) c.inside_old c.types.items (map (contexts.local_at b) c.locals.items) c.bound) classes
      ∙ ap (λ x. context_from (view.classes w.core.now.classes) (term_at b x) (term_at b c.entry) c.inside_old c.types.items (map (contexts.local_at b) c.locals.items) c.bound) now
      ∙ ap (λ x. context_from (view.classes w.core.now.classes) (term_at b s.store) (term_at b x) c.inside_old c.types.items (map (contexts.local_at b) c.locals.items) c.bound) entry
      ∙ ap (λ x. context_from (view.classes w.core.now.classes) (term_at b s.store) (term_at b w.entry) x c.types.items (map (contexts.local_at b) c.locals.items) c.bound) inside
      ∙ ap (λ x. context_from (view.classes w.core.now.classes) (term_at b s.store) (term_at b w.entry) false x (map (contexts.local_at b) c.locals.items) c.bound) (types ∙ walk.types)
      ∙ ap (λ x. context_from (view.classes w.core.now.classes) (term_at b s.store) (term_at b w.entry) false (local_types (view.body w.body.now)) (map (contexts.local_at b) x) c.bound) locals
      ∙ ap (λ x. context_from (view.classes w.core.now.classes) (term_at b s.store) (term_at b w.entry) false (local_types (view.body w.body.now)) x c.bound) (or_else_meant b null s.locals.items (k.same_terms null has ∙ is))
      ∙ ap (λ x. context_from (view.classes w.core.now.classes) (term_at b s.store) (term_at b w.entry) false (local_types (view.body w.body.now)) (map positions.meant_of (locals_at b s.locals.items)) x) bound;
}

abbrev pub site_from : List ClassTree → List Ty → Bool → rules.Site
site_from cs ts f = record { classes = cs; locals = ts; constructs = f }

-- ---- expressions, one after the other

-- the items from one on begin with it
pub drop_next : {X : Type 0} (xs : List X) (i : ℕ) (x : X) → i < length xs → x ≡ get_or xs i x → drop i xs ≡ x ∷ drop (i + 1) xs
drop_next xs i x lt is = drop_more xs i x lt ∙ ap (λ y. y ∷ drop (i + 1) xs) (sym is)

-- ---- parts

module _ (w : positions.Walk) where
  -- the first, and then the others
  pub check_parts_step : (m : Marked) (ms : List Marked) (k : Position) → positions.check_parts w (checked_of (m ∷ ms)) k ≡ positions.check_parts w (checked_of ms) (positions.check_parts w (checked_of (m ∷ [])) k)
  check_parts_step m ms k = by m.checked
    where
      by : (v : Bool) → positions.check_parts w (if v then m.part ∷ checked_of ms else checked_of ms) k ≡ positions.check_parts w (checked_of ms) (positions.check_parts w (if v then m.part ∷ [] else []) k)
      by true = refl
      by false = refl

  -- the checks leave the context as it is
  pub context-checked : (ps : List heaps.Part) (k : Position) → positions.context_at w (positions.check_parts w ps k) ≡ positions.context_at w k
  context-checked [] k = refl
  context-checked (p ∷ ps) k = context-checked ps (positions.check w p.kind p.place p.formula k)

  pub context-evaluated : (e : ExprTree) (k : Position) → positions.context_at w (positions.evaluate w e k) ≡ positions.context_at w k
  context-evaluated e k = context-checked (heaps.parts e (positions.site w) k.known (positions.context_at w k)) k

  pub context-evaluated_all : (es : List ExprTree) (k : Position) → positions.context_at w (positions.evaluate_all w es k) ≡ positions.context_at w k
  context-evaluated_all [] k = refl
  context-evaluated_all (e ∷ es) k = context-evaluated_all es (positions.evaluate w e k) ∙ context-evaluated e k

-- ---- an expression, and the checks of its parts

pub IsMeant-grown : (a c : Forms) → IsGrown a c → (m : Meant) (says : Forms → spec.Meant) → IsMeant a m says → IsMeant c m says
IsMeant-grown a c g m says h = record { has = HasMeant-grown g m h.has; is = λ b k. h.is b (IsGrown-then a c b g k) }

pub evaluated_becomes : (s t u : Builder) (w : Walk) (e : ExprTree) (ps : List Part) → Becomes s t (λ b. position_at b s) →
    AreParts t.bank ps (λ b. marked e (positions.site (walk_at b w)) (position_at b s).known (positions.context_at (walk_at b w) (position_at b s))) →
    Becomes t u (λ b. positions.check_parts (walk_at b w) (checked_of (parts_at b ps)) (position_at b t)) → Becomes s u (λ b. positions.evaluate (walk_at b w) e (position_at b s))
evaluated_becomes s t u w e ps p is q =
    becomes_so s u (λ b. positions.check_parts (walk_at b w) (checked_of (parts_at b ps)) (position_at b s)) (λ b. positions.evaluate (walk_at b w) e (position_at b s))
    (becomes_then s t u (λ b. position_at b s) (λ b k. positions.check_parts (walk_at b w) (checked_of (parts_at b ps)) k) p q)
    (λ b k.
    ap (λ ms. positions.check_parts (walk_at b w) (checked_of ms) (position_at b s)) (is.are b (IsGrown-then t.bank u.bank b q.grown k))
    ∙ ap (λ qs. positions.check_parts (walk_at b w) qs (position_at b s)) (checked_are_parts (positions.site (walk_at b w)) e (position_at b s).known (positions.context_at (walk_at b w) (position_at b s))))

-- ---- what the walk over an expression gives at a position

-- what the walk gives in the context, from where the builder is
abbrev pub Walked : Builder → Walk → Forms → Context → Meant → List Part → List Part → ExprTree → Type 0
Walked t w d c m ps before e =
    Expressed d m ps (λ b. spec.meant e (contexts.context_at b c)) (λ b. parts_at b before ++ marked e (site_from (view.classes w.core.now.classes) w.types.now (view.body w.body.now).flags.ctor) (tested tests.Nothing (known_of t.known)) (contexts.context_at b c))

-- with no tests it is what is known
pub tested_nothing : (k : rules.Known) → tested tests.Nothing k ≡ k
tested_nothing k = ap (λ x. tested x k) (sym tests.rolls-Nothing) ∙ ap (λ (f : rules.Known → rules.Known). f k) (fold-roll-Tests (rules.Known → rules.Known) tests_step shape.Nothing)

module _ (s t : Builder) (w : Walk) (d : Forms) (c : Context) (m : Meant) (ps before : List Part) (e : ExprTree) where
  pub walked_meant : IsContext t.bank c (λ b. positions.context_at (walk_at b w) (position_at b s)) → IsGrown t.bank d → Walked t w d c m ps before e → IsMeant d m (λ b. positions.meant_at (walk_at b w) e (position_at b s))
  walked_meant at g r = record { has = r.meant.has; is = λ b k. r.meant.is b k ∙ ap (spec.meant e) (at.is b (IsGrown-then t.bank d b g k)) }

  pub walked_parts : w.types.now ≡ local_types (view.body w.body.now) → Becomes s t (λ b. position_at b s) → IsContext t.bank c (λ b. positions.context_at (walk_at b w) (position_at b s)) → IsGrown t.bank d → before ≡ [] →
      Walked t w d c m ps before e → AreParts d ps (λ b. marked e (positions.site (walk_at b w)) (position_at b s).known (positions.context_at (walk_at b w) (position_at b s)))
  walked_parts types p at g none r = record {
    has = r.parts.has;
    are = λ b k.
        r.parts.are b k
        ∙ ap (λ (qs : List Part). parts_at b qs ++ marked e (site_from (view.classes w.core.now.classes) w.types.now (view.body w.body.now).flags.ctor) (tested tests.Nothing (known_of t.known)) (contexts.context_at b c)) none
        ∙ ap (λ ts. marked e (site_from (view.classes w.core.now.classes) ts (view.body w.body.now).flags.ctor) (tested tests.Nothing (known_of t.known)) (contexts.context_at b c)) types
        ∙ ap (λ k. marked e (positions.site (walk_at b w)) k (contexts.context_at b c)) (tested_nothing (known_of t.known))
        ∙ ap (λ (x : Position). marked e (positions.site (walk_at b w)) x.known (contexts.context_at b c)) (p.is t.bank (IsGrown-refl t.bank))
        ∙ ap (marked e (positions.site (walk_at b w)) (known_of s.known)) (at.is b (IsGrown-then t.bank d b g k));
  }
