-- Contexts stay as the bank grows; locals by their terms.
use Rattle.std.proofs.Common.{◌≡◌, ℕ, zero, suc, subst, List, [], ◌∷◌, refl, sym, ◌∙◌, ap, Some, None}
use Rattle.std.specs.Prelude.{option_map, slice_get}
use Rattle.std.proofs.lemmas.Option.{slice_get-map}
use Rattle.ss_core.specs.declared.expr.Quantifier.{Quantifier}
use Rattle.ss_core.specs.declared.expr.Quantifier.TheVariants as quantifier
use Rattle.ss_logic.specs.Formulas.{Formula}
use Rattle.ss_logic.specs.Shapes.{null_term}
use Rattle.ss_logic.specs.Express as spec
use Rattle.ss_terms.specs.declared.forms.TermId.{TermId}
use Rattle.ss_terms.specs.Forms.{Forms, term_at, HasTerm, HasTerms, IsGrown}
use Rattle.ss_terms.proofs.Grown.{HasTerm-grown, HasTerms-grown}
use Rattle.ss_vcgen_express.specs.declared.meant.Meant.TheVariants as meant
use Rattle.ss_vcgen_express.specs.declared.context.Context.{Context}
use Rattle.ss_vcgen_express.specs.Numbers.{meant_at}
use Rattle.ss_vcgen_express.specs.Contexts.{local_at, context_at, HasContext, quantified_over}

pub HasContext-grown : {a b : Forms} → IsGrown a b → (c : Context) → HasContext a c → HasContext b c
HasContext-grown {a} {b} g c h = record { now = HasTerm-grown a b g c.now h.now; entry = HasTerm-grown a b g c.entry h.entry; locals = HasTerms-grown a b g c.locals.items h.locals; classes = h.classes }

pub quantified_said-over : (c : spec.Context) (q : Quantifier) (low high : spec.Meant) (f : Formula) → quantified_over q (spec.out_of_range c low high) f ≡ spec.quantified_said c q low high f
quantified_said-over c quantifier.Forall low high f = refl
quantified_said-over c quantifier.Exists low high f = refl

-- ---- locals

pub HasTerms-get : (b : Forms) (ts : List TermId) (x : ℕ) (t : TermId) → HasTerms b ts → slice_get ts x ≡ Some t → HasTerm b t
HasTerms-get b [] x t h e = cc
HasTerms-get b (u ∷ us) zero t h e = let p : u ≡ t = cc in subst (HasTerm b) p h.0
HasTerms-get b (u ∷ us) (suc x) t h e = HasTerms-get b us x t h.1 e

-- the local has this term
pub local_found : (b : Forms) (c : Context) (x : ℕ) (t : TermId) → slice_get c.locals.items x ≡ Some t → meant_at b (meant.One t) ≡ spec.local_meant (context_at b c) x
local_found b c x t e = sym (ap (λ o. spec.meant_or_null o) (slice_get-map (local_at b) c.locals.items x ∙ ap (option_map (local_at b)) e))

-- there is no such local
pub local_past : (b : Forms) (c : Context) (x : ℕ) (t : TermId) → slice_get c.locals.items x ≡ None → term_at b t ≡ null_term → meant_at b (meant.One t) ≡ spec.local_meant (context_at b c) x
local_past b c x t e is = ap (λ u. spec.One u) is ∙ sym (ap (λ o. spec.meant_or_null o) (slice_get-map (local_at b) c.locals.items x ∙ ap (option_map (local_at b)) e))
