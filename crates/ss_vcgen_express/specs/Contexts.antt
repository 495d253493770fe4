-- Contexts over the numbers of a bank.
use Rattle.std.specs.Prelude.{◌≡◌, ◌≤◌, List, [], ◌∷◌, ◌++◌, length, map, if◌then◌else◌}
use Rattle.ss_core.specs.declared.expr.Quantifier.{Quantifier}
use Rattle.ss_core.specs.declared.expr.Quantifier.TheVariants as quantifier
use Rattle.ss_core.specs.Chain.{most_classes}
use Rattle.ss_core.specs.View as view
use Rattle.ss_logic.specs.declared.Sort.TheVariants as sort
use Rattle.ss_logic.specs.Formulas.{Formula, Forall, Exists, neg}
use Rattle.ss_logic.specs.Express as spec
use Rattle.ss_logic.specs.Express.{and_of, or_of}
use Rattle.ss_terms.specs.declared.forms.TermId.{TermId}
use Rattle.ss_terms.specs.Forms.{Forms, term_at, HasTerm, HasTerms, IsGrown}
use Rattle.ss_vcgen_express.specs.declared.context.Context.{Context}

abbrev pub local_at : Forms → TermId → spec.Meant
local_at b t = spec.One (term_at b t)

abbrev pub context_at : Forms → Context → spec.Context
context_at b c = record {
  classes = view.classes c.classes.now;
  now = term_at b c.now;
  entry = term_at b c.entry;
  inside_old = c.inside_old;
  types = c.types.items;
  locals = map (local_at b) c.locals.items;
  bound = c.bound;
}

-- the store that is spoken of
abbrev pub state_of : Context → TermId
state_of c = if c.inside_old then c.entry else c.now

-- the bank has its terms, and there are not too many classes
pub record HasContext (b : Forms) (c : Context) : Type 0 where
  pub now : HasTerm b c.now
  pub entry : HasTerm b c.entry
  pub locals : HasTerms b c.locals.items
  pub classes : length (view.classes c.classes.now) ≤ most_classes

-- the bank has the terms of the context, and in it and in each that it grows to they stand for this
pub record IsContext (a : Forms) (c : Context) (says : Forms → spec.Context) : Type 0 where
  pub has : HasContext a c
  pub is : (b : Forms) → IsGrown a b → context_at b c ≡ says b

-- ---- bound names

-- for each value of the bound name, unless one of these is so of it
abbrev pub for_each : List Formula → Formula → Formula
for_each out f = Forall (sort.Whole ∷ []) (or_of (out ++ f ∷ []))

-- for some value of the bound name, of which none of these is so
abbrev pub for_some : List Formula → Formula → Formula
for_some out f = Exists (sort.Whole ∷ []) (and_of (map neg out ++ f ∷ []))

abbrev pub quantified_over : Quantifier → List Formula → Formula → Formula
quantified_over quantifier.Forall out f = for_each out f
quantified_over quantifier.Exists out f = for_some out f
