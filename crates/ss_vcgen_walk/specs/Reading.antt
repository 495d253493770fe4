-- What the walk over an expression gives.
use Rattle.std.specs.Prelude.{◌≡◌, ◌+◌, List, [], ◌∷◌, ◌++◌}
use Rattle.ss_core.specs.Tree.{ExprTree}
use Rattle.ss_core.specs.View as view
use Rattle.ss_core.specs.declared.names.Ty.TheVariants as ty
use Rattle.ss_logic.specs.Express as spec
use Rattle.ss_terms.specs.declared.forms.TermId.{TermId}
use Rattle.ss_terms.specs.Forms.{Forms, IsGrown}
use Rattle.ss_vcgen_express.specs.declared.meant.Meant.{Meant}
use Rattle.ss_vcgen_express.specs.declared.context.Context.{Context}
use Rattle.ss_vcgen_express.specs.Marked.{Marked, formulas_of}
use Rattle.ss_vcgen_express.specs.Numbers.{IsMeant}
use Rattle.ss_vcgen_express.specs.Contexts.{context_at}
use Rattle.ss_vcgen_walk.specs.declared.parts.Part.{Part}
use Rattle.ss_vcgen_walk.specs.Parts.{parts_at, HasParts, AreParts}

-- the value means this, and these are the parts
pub record Expressed (a : Forms) (m : Meant) (ps : List Part) (says : Forms → spec.Meant) (say : Forms → List Marked) : Type 0 where
  pub meant : IsMeant a m says
  pub parts : AreParts a ps say

-- it has one more local, a bound name
pub record IsWithName (old : Context) (name : TermId) (new : Context) : Type 0 where
  pub classes : view.classes new.classes.now ≡ view.classes old.classes.now
  pub now : new.now ≡ old.now
  pub entry : new.entry ≡ old.entry
  pub inside_old : new.inside_old ≡ old.inside_old
  pub types : new.types.items ≡ old.types.items ++ ty.Int ∷ []
  pub locals : new.locals.items ≡ old.locals.items ++ name ∷ []
  pub bound : new.bound ≡ old.bound + 1

-- the expression means it, and it is defined where it was before and all this holds
pub record Defines (a : Forms) (m : Meant) (ps before : List Part) (t : ExprTree) (c : Context) : Type 0 where
  pub meant : IsMeant a m (λ b. spec.meant t (context_at b c))
  pub has : HasParts a ps
  pub defined : (b : Forms) → IsGrown a b → formulas_of (parts_at b ps) ≡ formulas_of (parts_at b before) ++ spec.defined t (context_at b c)
