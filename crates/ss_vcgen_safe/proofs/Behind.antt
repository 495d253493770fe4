-- What holds after a statement: of assigned locals, of what is known of null, and of the arguments.
use Rattle.std.proofs.Common.{◌≡◌, ℕ, List, [], ◌∷◌, ◌++◌, Bool, true, false, ◌||◌, refl, ◌∙◌, ap, subst, ⊎_elim}
use Rattle.std.specs.Prelude.{Option, Some, None, slice_get, unwrap_or, if◌then◌else◌, option_to_list}
use Rattle.std.proofs.lemmas.Bool.{false≢true, or_cases, or_right}
use Rattle.ss_core.specs.declared.names.Ty.TheVariants as ty
use Rattle.ss_core.specs.Tree.{StmtTree, IfStmt, LoopStmt, ReturnStmt, BodyTree}
use Rattle.ss_store_rules.specs.declared.Value.{Value as ObjectValue}
use Rattle.ss_store_rules.specs.declared.Value.TheVariants as value
use Rattle.ss_store_rules.specs.Store.{Object}
use Rattle.ss_store_rules.specs.Assigned.{assigned_flow}
use Rattle.ss_store_rules.specs.Formed.{has_flags}
use Rattle.ss_store_rules.specs.Locals.{local_types, types_of, is_argument, is_target}
use Rattle.ss_store_rules.specs.NonNull.{Known}
use Rattle.ss_store_rules.specs.Paths as paths
use Rattle.ss_store_rules.specs.Values.{local_value}
use Rattle.ss_machine_typed.proofs.Sound.{object_typed}
use Rattle.ss_machine_good.specs.Flows.{is_simple}
use Rattle.ss_machine_good.specs.Known.{IsTrueOf, AreAssigned, HasItsField}
use Rattle.ss_machine_good.specs.Later.{IsLater}
use Rattle.ss_machine_good.proofs.Behind.{constructor_instance, later_given}
use Rattle.ss_logic.specs.Values.{Table, Structure}
use Rattle.ss_vcgen_heaps.specs.Positions.{Guard, Always, When, Never, Position, Walk}
use Rattle.ss_vcgen_heaps.specs.Obligations.{behind}
use Rattle.ss_sound_outcomes.specs.Points.{Activation, Point, scene, IsSound, IsAfter}
use Rattle.ss_vcgen_safe.specs.At.{IsOn, activation, Agrees, HaveTerms}
use Rattle.ss_vcgen_safe.proofs.Alike.{alike_self}
use Rattle.ss_vcgen_safe.proofs.Paths.{IsReachable, IsPlaced, placed}
use Rattle.ss_vcgen_safe.specs.Goes.{IsCoded, IsHere}

-- ---- assigned locals

pub assigned_after : (a : Activation) (s : StmtTree) (p q : Point) (xs : ℕ → Bool) → IsAfter a s p q → AreAssigned a.body xs (scene a p) → AreAssigned a.body (λ x. is_target s x || xs x) (scene a q)
assigned_after a s p q xs b so x asked typed = ⊎_elim (λ t. b.assigned x t typed) (λ o. b.reached.stays x typed (so x o typed)) (or_cases (is_target s x) (xs x) asked)

-- ---- what is known of null

this_type : (b : BodyTree) → b.flags.is_static ≡ false → slice_get (local_types b) 0 ≡ Some (ty.Ref (record { 0 = b.class }) true)
this_type b e = ap (λ (s : Bool). slice_get (((if s then [] else ty.Ref (record { 0 = b.class }) true ∷ []) ++ types_of b.params) ++ types_of b.locals ++ option_to_list b.result) 0) e

there_of : (o : Option ObjectValue) (n : ℕ) → unwrap_or o value.Null ≡ value.Obj n → o ≡ Some (value.Obj n)
there_of None n h = absurd (let no : ⊥ = cc in no)
there_of (Some v) n h = ap (λ (u : ObjectValue). Some u) h

-- The `this` of a constructor is an object that is there, where it isn't null.
this_object : (a : Activation) (p : Point) → has_flags a.body ≡ true → IsSound a p → a.body.flags.ctor ≡ true → (o : ℕ) → local_value (scene a p) 0 ≡ value.Obj o → (x : Object) × (slice_get p.store o ≡ Some x)
this_object a p flags sound ctor o is =
    let t = object_typed a.program.classes p.store a.body.class true o
    (sound.locals.types 0 (ty.Ref (record { 0 = a.body.class }) true) (value.Obj o) (this_type a.body (constructor_instance a.body flags ctor)) (there_of (slice_get p.locals 0) o is)) in
    (t.0, t.1)

-- what is known stays so in a later store
pub later_known : (a : Activation) (n : ℕ) (p : Point) (z : List Object) → has_flags a.body ≡ true → IsSound a p → IsLater a.program.classes n p.store z → (k : Known) → IsTrueOf a.body.flags.ctor k (scene a p) → IsTrueOf a.body.flags.ctor k (scene a (record p { store = z }))
later_known a n p z flags sound later k so = record {
  facts = so.facts;
  sides = λ x v e. let side = so.sides x v e in record { facts = side.facts; there = side.there; so = side.so };
  fields = λ ctor f h. kept ctor f (so.fields ctor f h);
}
  where
    kept : a.body.flags.ctor ≡ true → (f : ℕ) → HasItsField (scene a p) f → HasItsField (scene a (record p { store = z })) f
    kept ctor f has o x is there null =
        let y = this_object a p flags sound ctor o is in
        later_given a.program n p.store z later (local_value (scene a p) 0) o y.0 is y.1 f has o x is there null

-- ---- paths

pub path_simple : (s : StmtTree) (xs : ℕ → Bool) → is_simple s ≡ true → paths.behind assigned_flow s xs ≡ Some (λ x. is_target s x || xs x)
path_simple (IfStmt p e a b) xs h = absurd (false≢true h)
path_simple (LoopStmt p invariants prelude e body exposes) xs h = absurd (false≢true h)
path_simple (ReturnStmt p e) xs h = absurd (false≢true h)
path_simple s xs h = refl

reachable : (g : Guard) (m : Structure) → IsOn g m → IsReachable g
reachable Always m h = tt
reachable (When n) m h = tt
reachable Never m h = h

-- ---- the run after a statement

module _ (w : Walk) (before : List Object) (table : Table) (arguments : List ObjectValue) (xs : ℕ → Bool) (m : Structure) (k : Position) (p : Point) (s : StmtTree) (simple : is_simple s ≡ true) (coded : IsCoded w xs k.known s)
    (here : IsHere w before table arguments xs m k p) where
  terms_after : HaveTerms (λ x. is_target s x || xs x) (behind w s k).locals
  terms_after =
      let at = placed w s xs k coded.typed here.at.agrees.count (reachable k.guard m (here.at.agrees.guard m (alike_self k.next m)), here.at.terms) in
      (subst (λ o. IsPlaced o (behind w s k)) (path_simple s xs simple) at).1

  -- Where the position after agrees, the run is at it.
  pub here_after : (m' : Structure) (q : Point) → IsSound (activation w before table) q → IsAfter (activation w before table) s p q → ((x : ℕ) → is_argument w.body x ≡ true → slice_get q.locals x ≡ slice_get p.locals x) →
      Agrees w before table m' (behind w s k) q → IsTrueOf w.body.flags.ctor (behind w s k).known (scene (activation w before table) q) → IsHere w before table arguments (λ x. is_target s x || xs x) m' (behind w s k) q
  here_after m' q sound b same agrees known = record {
    at = record { agrees = agrees; known = known; assigned = assigned_after (activation w before table) s p q xs b here.at.assigned; terms = terms_after; sound = sound };
    assigned = λ x h. or_right (is_target s x) (xs x) (here.assigned x h);
    same = λ x h. same x h ∙ here.same x h;
  }
