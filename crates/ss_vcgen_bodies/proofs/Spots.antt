-- Spots that are left, and what becomes of them.
use Rattle.std.proofs.Common.{◌≡◌, Bool, true, false, sym, ap, ◌∙◌}
use Rattle.std.specs.Prelude.{if◌then◌else◌}
use Rattle.ss_core.specs.Tree.{ExprTree}
use Rattle.ss_store_rules.specs.NonNull as rules
use Rattle.ss_store_rules.specs.Paths.{is_literal_true}
use Rattle.ss_terms.specs.Forms.{Forms, IsGrown}
use Rattle.ss_vcgen_heaps.specs.Positions.{Position}
use Rattle.ss_vcgen_heaps.specs.Positions as spec
use Rattle.ss_vcgen_known.specs.declared.known.Known.{Known}
use Rattle.ss_vcgen_known.specs.Views.{known_of}
use Rattle.ss_vcgen_builder.specs.declared.guard.Guard.TheVariants as guard
use Rattle.ss_vcgen_builder.specs.declared.branches.Spot.{Spot}
use Rattle.ss_vcgen_builder.specs.Builder.{at_spot, IsSpot}
use Rattle.ss_vcgen_bodies.specs.Words.{exit_side}

module _ (a : Forms) (p : Spot) (says : Forms → Position) (h : IsSpot a p says) where
  -- it is that of an equal position
  pub spot_so : (others : Forms → Position) → ((b : Forms) → IsGrown a b → says b ≡ others b) → IsSpot a p others
  spot_so others e = record { has = h.has; is = λ b k. ap (at_spot b p) (sym (e b k)) ∙ h.is b k ∙ e b k }

  -- other things are known there
  pub spot_known : (n : Known) (f : rules.Known → rules.Known) → known_of n ≡ f (known_of p.known) → IsSpot a (record p { known = n }) (λ b. record (says b) { known = f (says b).known })
  spot_known n f e = record {
    has = record { locals = h.has.locals; store = h.has.store };
    is = λ b k.
        ap (λ (l : Position). record l { known = known_of n }) (h.is b k)
        ∙ ap (λ (m : rules.Known). record (says b) { known = m }) (e ∙ ap (λ (l : Position). f l.known) (h.is b k));
  }

  pub spot_never : (e : ExprTree) → is_literal_true e ≡ true → IsSpot a (record p { guard = guard.Never }) (λ b. exit_side e (says b))
  spot_never e is = record {
    has = record { locals = h.has.locals; store = h.has.store };
    is = λ b k.
        ap (λ (l : Position). record l { guard = spec.Never }) (h.is b k)
        ∙ ap (λ (v : Bool). record (says b) { guard = if v then spec.Never else (says b).guard }) (sym is);
  }

  pub spot_there : (e : ExprTree) → is_literal_true e ≡ false → IsSpot a p (λ b. exit_side e (says b))
  spot_there e is = record {
    has = h.has;
    is = λ b k. h.is b k ∙ ap (λ (v : Bool). record (says b) { guard = if v then spec.Never else (says b).guard }) (sym is);
  }

  -- going there, from another position
  pub spot_gone : (b : Forms) → IsGrown a b → (k : Position) → at_spot b p k ≡ record k { locals = (says b).locals; store = (says b).store; guard = (says b).guard; known = (says b).known }
  spot_gone b g k = ap (λ (l : Position). record k { locals = l.locals; store = l.store; guard = l.guard; known = l.known }) (h.is b g)
