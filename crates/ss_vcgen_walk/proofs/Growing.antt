-- Parts and contexts as the bank grows.
use Rattle.std.proofs.Common.{◌≡◌, ℕ, zero, suc, ◌<◌, List, [], ◌∷◌, ◌++◌, length, map, get_or, Bool, true, false, refl, ◌∙◌, ap, arith, Result, Ok, Err}
use Rattle.std.specs.Prelude.{if◌then◌else◌, IfOk}
use Rattle.std.proofs.lemmas.List.{map_push}
use Rattle.ss_core.specs.declared.names.Kind.TheVariants as kind
use Rattle.ss_logic.specs.Terms.{Bound}
use Rattle.ss_logic.specs.Express as spec
use Rattle.ss_terms.specs.declared.forms.TermId.{TermId}
use Rattle.ss_terms.specs.Forms.{Forms, term_at, HasTerm, HasTerms, HasFormula, IsGrown}
use Rattle.ss_terms.proofs.Grown.{HasFormula-grown}
use Rattle.ss_terms.proofs.Longer.{HasTerms-push}
use Rattle.ss_vcgen_walk.specs.declared.parts.Part.{Part}
use Rattle.ss_vcgen_express.specs.declared.context.Context.{Context}
use Rattle.ss_vcgen_express.specs.Contexts.{local_at, context_at, state_of, HasContext, IsContext}
use Rattle.ss_vcgen_express.proofs.Contexts.{HasContext-grown}
use Rattle.ss_vcgen_walk.specs.Reading.{IsWithName}
use Rattle.ss_vcgen_walk.specs.Parts.{marked_at, parts_at, HasParts}

module _ {a b : Forms} (g : IsGrown a b) where
  pub HasParts-grown : (ps : List Part) → HasParts a ps → HasParts b ps
  HasParts-grown [] h = tt
  HasParts-grown (p ∷ ps) h = (HasFormula-grown a b g p.formula h.0, HasParts-grown ps h.1)

  marked_at-grown : (p : Part) → HasFormula a p.formula → marked_at b p ≡ marked_at a p
  marked_at-grown p h = ap (λ f. record (marked_at b p) { part = record { kind = p.kind; place = p.place; formula = f } }) (g.same_formulas p.formula h)

  pub parts_at-grown : (ps : List Part) → HasParts a ps → parts_at b ps ≡ parts_at a ps
  parts_at-grown [] h = refl
  parts_at-grown (p ∷ ps) h = ap (λ m. m ∷ parts_at b ps) (marked_at-grown p h.0) ∙ ap (λ ms. marked_at a p ∷ ms) (parts_at-grown ps h.1)

pub HasParts-push : (b : Forms) (ps : List Part) (p : Part) → HasParts b ps → HasFormula b p.formula → HasParts b (ps ++ p ∷ [])
HasParts-push b [] p h at = (at, tt)
HasParts-push b (q ∷ ps) p h at = (h.0, HasParts-push b ps p h.1 at)

-- what stands where a list has no part
abbrev pub no_part : Part
no_part = record { formula = record { 0 = 0 }; kind = kind.Null; place = record { line = 0; column = 0 }; checked = false }

pub HasParts-get : (b : Forms) (ps : List Part) (i : ℕ) (d : Part) → HasParts b ps → i < length ps → HasFormula b (get_or ps i d).formula
HasParts-get b [] i d h at = absurd (omega arith)
HasParts-get b (p ∷ ps) zero d h at = h.0
HasParts-get b (p ∷ ps) (suc i) d h at = HasParts-get b ps i d h.1 (omega arith)

-- ---- contexts

state_if : (b : Forms) (old : Bool) (x y : TermId) → term_at b (if old then x else y) ≡ (if old then term_at b x else term_at b y)
state_if b true x y = refl
state_if b false x y = refl

-- the store that is spoken of
pub state_is : (b : Forms) (c : Context) → term_at b (state_of c) ≡ spec.state (context_at b c)
state_is b c = state_if b c.inside_old c.entry c.now

-- one more local, which is a bound name
pub with_name_is : {E : Type 0} (r : Result Context E) (a d : Forms) (old : Context) (name : TermId) → IsGrown a d → HasContext a old → HasTerm d name → term_at d name ≡ Bound old.bound → IfOk r (λ c. IsWithName old name c) →
    IfOk r (λ c. IsContext d c (λ b. spec.with_bound (context_at b old)))
with_name_is (Ok c) a d old name g h at is w =
    let there = HasContext-grown g old h in
    record {
      has = record {
        now = rw w.now there.now;
        entry = rw w.entry there.entry;
        locals = rw w.locals (HasTerms-push d old.locals.items name there.locals at);
        classes = rw w.classes there.classes;
      };
      is = λ b k.
          let o = context_at b old in
          let named : term_at b name ≡ Bound old.bound = k.same_terms name at ∙ is in
          let all : map (local_at b) c.locals.items ≡ o.locals ++ spec.One (Bound old.bound) ∷ [] =
          ap (map (local_at b)) w.locals ∙ map_push (local_at b) old.locals.items name ∙ ap (λ t. o.locals ++ spec.One t ∷ []) named in
          ap (λ x. record (context_at b c) { classes = x }) w.classes
          ∙ ap (λ x. record (context_at b c) { classes = o.classes; now = term_at b x }) w.now
          ∙ ap (λ x. record (context_at b c) { classes = o.classes; now = o.now; entry = term_at b x }) w.entry
          ∙ ap (λ x. record (context_at b c) { classes = o.classes; now = o.now; entry = o.entry; inside_old = x }) w.inside_old
          ∙ ap (λ x. record o { types = x; locals = map (local_at b) c.locals.items; bound = c.bound }) w.types
          ∙ ap (λ x. record (spec.with_bound o) { locals = x; bound = c.bound }) all
          ∙ ap (λ x. record (spec.with_bound o) { bound = x }) w.bound;
    }
with_name_is (Err z) a d old name g h at is w = tt
