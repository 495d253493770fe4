-- Expressions whose meanings get terms.
use Rattle.std.proofs.Common.{◌≡◌, ℕ, List, [], ◌∷◌, Bool, true, refl, ◌∙◌, subst}
use Rattle.std.specs.Prelude.{Option, Some, None}
use Rattle.std.proofs.lemmas.Bool.{false≢true}
use Rattle.ss_core.specs.declared.names.Ty.{Ty}
use Rattle.ss_core.specs.declared.names.Ty.TheVariants as ty
use Rattle.ss_core.specs.Tree.{ClassTree, ExprTree}
use Rattle.ss_store_rules.specs.declared.Value.{Value as ObjectValue}
use Rattle.ss_store_rules.specs.Store.{Object}
use Rattle.ss_store_rules.specs.Types.{fits_type, has_fitting, code_type}
use Rattle.ss_logic.specs.declared.Sort.{Sort}
use Rattle.ss_logic.specs.Values.{Table, Structure}
use Rattle.ss_logic.specs.Terms.{sort_of_type}
use Rattle.ss_logic.specs.Express.{choices, element_sort}
use Rattle.ss_logic_means.specs.Means.{standing}
use Rattle.ss_logic_means.specs.Sorts.{HaveSort}
use Rattle.ss_vcgen_heaps.specs.Positions.{Position, Walk, context_at, meant_at, with_term, term_for}
use Rattle.ss_vcgen_heaps.specs.Obligations.{settle_all, arguments_settled}
use Rattle.ss_sound_outcomes.specs.Points.{Point}
use Rattle.ss_vcgen_safe.specs.At.{IsAlike, IsAt}
use Rattle.ss_vcgen_safe.proofs.PositionsTerms.{HasTerm, standing_numbered, term_at}
use Rattle.ss_vcgen_safe.proofs.PositionsArguments.{AreDenoted, AreArguments, settled_at}
use Rattle.ss_vcgen_safe.proofs.Same.{at_like, like_with_term, like_settle_all}
use Rattle.ss_vcgen_safe.specs.Values.{HasMeaning, HaveMeanings}

-- a type that fits another is of one sort with it
pub fits_sort : (cs : List ClassTree) (a t : Ty) → fits_type cs a t ≡ true → sort_of_type a ≡ sort_of_type t
fits_sort cs ty.Int ty.Int h = refl
fits_sort cs ty.Bool ty.Bool h = refl
fits_sort cs ty.Null (ty.Ref t n) h = refl
fits_sort cs (ty.Ref c m) (ty.Ref t n) h = refl
fits_sort cs a t h = absurd (false≢true h)

pub fitting_sort : (cs : List ClassTree) (o : Option Ty) (t : Ty) → has_fitting cs o t ≡ true → element_sort o ≡ sort_of_type t
fitting_sort cs None t h = absurd (false≢true h)
fitting_sort cs (Some a) t h = fits_sort cs a t h

module _ (w : Walk) (before : List Object) (table : Table) (xs : ℕ → Bool) (m : Structure) (p : Point) where
  denoted : (k : Position) (es : List ExprTree) (vs : List ObjectValue) → HaveMeanings w m k es vs → AreDenoted w before table p k.next m (context_at w k) es vs
  denoted k [] [] h = tt
  denoted k [] (v ∷ vs) h = h
  denoted k (e ∷ es) [] h = h
  denoted k (e ∷ es) (v ∷ vs) h = (record { sorted = h.0.sorted; denotes = h.0.is; of = h.0.of }, denoted k es vs h.1)

  -- In some structure that is alike the run is after the position at which each of these has a term with its value.
  pub record AreSettled (k : Position) (es : List ExprTree) (vs : List ObjectValue) : Type 0 where
    pub m' : Structure
    pub alike : IsAlike k.next m m'
    pub at : IsAt w before table xs m' (settle_all w es k) p
    pub are : AreArguments w before table p (settle_all w es k).next m' es (arguments_settled w es k) vs

  pub settled_all : (k : Position) (es : List ExprTree) (vs : List ObjectValue) → IsAt w before table xs m k p → HaveMeanings w m k es vs → AreSettled k es vs
  settled_all k es vs is mean =
      let z = settled_at w before table p es vs k m is.agrees (denoted k es vs mean) in
      record { m' = z.m'; alike = z.alike; at = at_like w before table xs m z.m' k (settle_all w es k) p (like_settle_all w es k) z.agrees is; are = z.are }

  -- The meaning has a term with the value in some structure that is alike, and there the run is after.
  pub record IsSettled (k : Position) (e : ExprTree) (s : Sort) (v : ObjectValue) : Type 0 where
    pub term : HasTerm w before table m k (with_term s (meant_at w e k) k) p s (term_for s (meant_at w e k) k) (standing v)
    pub at : IsAt w before table xs term.m' (with_term s (meant_at w e k) k) p

  pub settled_one : (k : Position) (e : ExprTree) (s : Sort) (v : ObjectValue) → element_sort (code_type w.program.classes w.body e) ≡ s → IsAt w before table xs m k p → HasMeaning w m k e v → IsSettled k e s v
  settled_one k e s v sort is h =
      let x = meant_at w e k in
      let z = term_at w before table m k p s (standing v) (standing_numbered v) (h.of ∙ sort) is.agrees x (subst (λ r. HaveSort w.program.classes [] r (choices x)) sort h.sorted) h.is in
      record { term = z; at = at_like w before table xs m z.m' k (with_term s x k) p (like_with_term w s x k) z.agrees is }
