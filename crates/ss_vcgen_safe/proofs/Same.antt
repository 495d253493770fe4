-- What checks and premises leave as it was: the locals, the store, the guard, what is known of null, and the counters.
use Rattle.std.proofs.Common.{◌≡◌, ℕ, List, [], ◌∷◌, Bool, true, false, refl, sym, ◌∙◌, subst}
use Rattle.std.specs.Prelude.{Option, Some, None}
use Rattle.ss_core.specs.declared.names.Kind.{Kind}
use Rattle.ss_core.specs.declared.names.Mark.{Mark}
use Rattle.ss_core.specs.declared.names.Mark.TheVariants as mark
use Rattle.ss_core.specs.declared.names.Place.{Place}
use Rattle.ss_core.specs.Tree.{ExprTree, CalleeTree, Dispatched, Static, Base, BaseConstructor, BodyTree}
use Rattle.ss_store_rules.specs.Store.{Object}
use Rattle.ss_store_rules.specs.NonNull.{Known, is_never_null}
use Rattle.ss_store_rules.specs.Types.{code_type}
use Rattle.ss_core.specs.declared.names.Kind.TheVariants as kind
use Rattle.ss_machine_good.specs.Known.{IsTrueOf}
use Rattle.ss_logic.specs.declared.Sort.{Sort}
use Rattle.ss_logic.specs.Values.{Table, Structure}
use Rattle.ss_logic.specs.Terms.{Term}
use Rattle.ss_logic.specs.Formulas.{Formula}
use Rattle.ss_logic.specs.Shapes.{null_term, differ}
use Rattle.ss_logic.specs.Express.{Meant, One, Either, Says, element_sort}
use Rattle.ss_vcgen_heaps.specs.Parts.{Part, parts}
use Rattle.ss_vcgen_heaps.specs.Positions.{Position, Walk, assume, assume_all, check, check_all, check_unless, check_parts, local_term, site, context_at, meant_at, evaluate, evaluate_all, with_term, settled}
use Rattle.ss_vcgen_heaps.specs.Contracts.{contract_context, no_result, conditions}
use Rattle.ss_vcgen_heaps.specs.Obligations.{classes_of, check_not_null, is_known_local, check_local, may_be_owned, may_be_joined, check_owners, settle_all, check_entry, check_receiver, settle_result, evaluate_result}
use Rattle.ss_sound_outcomes.specs.Points.{Point, scene}
use Rattle.ss_vcgen_safe.specs.At.{activation, Agrees, HaveTerms, IsAt}

-- The locals, the store, the guard and what is known are the same.
pub record IsLike (k k' : Position) : Type 0 where
  pub locals : k'.locals ≡ k.locals
  pub store : k'.store ≡ k.store
  pub guard : k'.guard ≡ k.guard
  pub known : k'.known ≡ k.known

-- And there are no new constants.
pub record IsSame (k k' : Position) : Type 0 where
  pub like : IsLike k k'
  pub next : k'.next ≡ k.next

pub like_self : (k : Position) → IsLike k k
like_self k = record { locals = refl; store = refl; guard = refl; known = refl }

pub like_twice : (a b c : Position) → IsLike a b → IsLike b c → IsLike a c
like_twice a b c x y = record { locals = y.locals ∙ x.locals; store = y.store ∙ x.store; guard = y.guard ∙ x.guard; known = y.known ∙ x.known }

pub same_self : (k : Position) → IsSame k k
same_self k = record { like = like_self k; next = refl }

pub same_twice : (a b c : Position) → IsSame a b → IsSame b c → IsSame a c
same_twice a b c x y = record { like = like_twice a b c x.like y.like; next = y.next ∙ x.next }

pub same_assume : (f : Formula) (k : Position) → IsSame k (assume f k)
same_assume f k = record { like = record { locals = refl; store = refl; guard = refl; known = refl }; next = refl }

pub same_assume_all : (fs : List Formula) (k : Position) → IsSame k (assume_all fs k)
same_assume_all [] k = same_self k
same_assume_all (f ∷ fs) k = same_twice k (assume f k) (assume_all fs (assume f k)) (same_assume f k) (same_assume_all fs (assume f k))

module _ (w : Walk) where
  pub same_check : (kind : Kind) (at : Place) (f : Formula) (k : Position) → IsSame k (check w kind at f k)
  same_check kind at f k = record { like = record { locals = refl; store = refl; guard = refl; known = refl }; next = refl }

  pub same_check_all : (kind : Kind) (at : Place) (fs : List Formula) (k : Position) → IsSame k (check_all w kind at fs k)
  same_check_all kind at [] k = same_self k
  same_check_all kind at (f ∷ fs) k = let k' = check w kind at f k in same_twice k k' (check_all w kind at fs k') (same_check kind at f k) (same_check_all kind at fs k')

  pub same_check_unless : (known : Bool) (kind : Kind) (at : Place) (f : Formula) (k : Position) → IsSame k (check_unless known w kind at f k)
  same_check_unless true kind at f k = same_self k
  same_check_unless false kind at f k = same_check kind at f k

  pub same_check_parts : (ps : List Part) (k : Position) → IsSame k (check_parts w ps k)
  same_check_parts [] k = same_self k
  same_check_parts (p ∷ ps) k = let k' = check w p.kind p.place p.formula k in same_twice k k' (check_parts w ps k') (same_check p.kind p.place p.formula k) (same_check_parts ps k')

  pub same_evaluate : (e : ExprTree) (k : Position) → IsSame k (evaluate w e k)
  same_evaluate e k = same_check_parts (parts e (site w) k.known (context_at w k)) k

  pub same_evaluate_all : (es : List ExprTree) (k : Position) → IsSame k (evaluate_all w es k)
  same_evaluate_all [] k = same_self k
  same_evaluate_all (e ∷ es) k = same_twice k (evaluate w e k) (evaluate_all w es (evaluate w e k)) (same_evaluate e k) (same_evaluate_all es (evaluate w e k))

  pub same_evaluate_result : (e : Option ExprTree) (k : Position) → IsSame k (evaluate_result w e k)
  same_evaluate_result None k = same_self k
  same_evaluate_result (Some e) k = same_evaluate e k

  pub same_not_null : (at : Place) (e : ExprTree) (o : Term) (k : Position) → IsSame k (check_not_null w at e o k)
  same_not_null at e o k = same_check_unless (is_never_null (site w) k.known false e) kind.Null at (differ o null_term) k

  pub same_local : (at : Place) (x : ℕ) (k : Position) → IsSame k (check_local w at x k)
  same_local at x k = same_check_unless (is_known_local w k x) kind.Null at (differ (local_term x k) null_term) k

  pub same_owners : (m : Mark) (at : Place) (o : Term) (t : ℕ) (v : Term) (k : Position) → IsSame k (check_owners m w at o t v k)
  same_owners mark.Plain at o t v k = same_self k
  same_owners mark.Rep at o t v k = same_check kind.RepOwner at (may_be_owned k.store o t v) k
  same_owners mark.Peer at o t v k = same_check kind.PeerOwner at (may_be_joined k.store o v) k

  pub same_entry : (at : Place) (callee : BodyTree) (ms : List Meant) (k : Position) → IsSame k (check_entry w at callee ms k)
  same_entry at callee ms k = same_check_all kind.Precondition at (conditions callee.entry (contract_context (classes_of w) callee k.store k.store ms (no_result callee))) k

  pub same_receiver : (at : Place) (callee : CalleeTree) (ms : List Meant) (k : Position) → IsSame k (check_receiver w at callee ms k)
  same_receiver at (Dispatched e t m) [] k = same_self k
  same_receiver at (Dispatched e t m) (One o ∷ ms) k = same_not_null at e o k
  same_receiver at (Dispatched e t m) (Either xs ∷ ms) k = same_self k
  same_receiver at (Dispatched e t m) (Says f ∷ ms) k = same_self k
  same_receiver at (Static n) ms k = same_self k
  same_receiver at (Base n) ms k = same_self k
  same_receiver at (BaseConstructor n) ms k = same_self k

  -- ---- terms

  pub like_with_term : (s : Sort) (x : Meant) (k : Position) → IsLike k (with_term s x k)
  like_with_term s (One t) k = like_self k
  like_with_term s (Either xs) k = record { locals = refl; store = refl; guard = refl; known = refl }
  like_with_term s (Says f) k = record { locals = refl; store = refl; guard = refl; known = refl }

  pub like_settle_all : (es : List ExprTree) (k : Position) → IsLike k (settle_all w es k)
  like_settle_all [] k = like_self k
  like_settle_all (e ∷ es) k =
      let s = element_sort (code_type (classes_of w) w.body e) in
      let k' = settled (meant_at w e k) s k in
      like_twice k k' (settle_all w es k') (like_with_term s (meant_at w e k) k) (like_settle_all es k')

  pub like_settle_result : (e : Option ExprTree) (k : Position) → IsLike k (settle_result w e k)
  like_settle_result None k = like_self k
  like_settle_result (Some e) k = like_with_term (element_sort w.body.result) (meant_at w e k) k

  -- ---- the run is at the position

  -- It is so in a structure in which such a position agrees.
  pub at_like : (before : List Object) (table : Table) (xs : ℕ → Bool) (m m' : Structure) (k k' : Position) (p : Point) → IsLike k k' → Agrees w before table m' k' p → IsAt w before table xs m k p → IsAt w before table xs m' k' p
  at_like before table xs m m' k k' p l g i = record {
    agrees = g;
    known = subst (λ (known : Known). IsTrueOf w.body.flags.ctor known (scene (activation w before table) p)) (sym l.known) i.known;
    assigned = i.assigned;
    terms = subst (HaveTerms xs) (sym l.locals) i.terms;
    sound = i.sound;
  }
