-- The assignments of fields with which a constructor begins.
use Rattle.std.proofs.Common.{◌≡◌, ℕ, List, [], ◌∷◌, Bool, true, false, refl}
use Rattle.std.specs.Prelude.{not, ◌&&◌, is_some}
use Rattle.std.proofs.lemmas.Bool.{and_parts, and_from, or_left, or_right, false≢true}
use Rattle.ss_core.specs.declared.names.Place.{Place}
use Rattle.ss_core.specs.declared.names.Ty.{Ty}
use Rattle.ss_core.specs.Tree as core
use Rattle.ss_ast.specs.declared.stmt.AssignOperator.TheVariants as operator
use Rattle.ss_typed.specs.Tree.{ThisOf, FieldOf, AssignOf, StepOf, SimpleOf, StmtTrees, NoMore, Before, BodyTree, TypedTree}
use Rattle.ss_typed.specs.Types.{type_of}
use Rattle.ss_paths.specs.Fields as fields
use Rattle.ss_delayed_rules.specs.Escapes.{NotAtAll}
use Rattle.ss_expand_rules.specs.Program.{field_at}
use Rattle.ss_store_rules.specs.Changes.{field_type}
use Rattle.ss_store_rules.specs.Good.{is_non_null}
use Rattle.ss_expand_formed.proofs.ConstructionStatements.{Along}
use Rattle.ss_expand_formed.proofs.Bases.{OnlySimple}
use Rattle.ss_expand_formed.proofs.Numbering.{is_declared_in}
use Rattle.ss_expand_formed.proofs.OwnFields.{OnlyOwn}
use Rattle.ss_expand_formed.proofs.Uses.{Fine}
use Rattle.ss_expand_formed.proofs.Fine.{FineSimple}
use Rattle.ss_expand_formed.proofs.Fit.{Context}
use Rattle.ss_expand_formed.specs.Fitting.{implied, reads_set, fits, target_fits, assigned_fits, simple_fits, all_fitting}
use Rattle.ss_expand_formed.proofs.Refit.{free, held, refit}

-- `this.f = e` alone, of these fields and with values without `this`
abbrev pub OnlyInitial : (ℕ → Bool) → StmtTrees → Type 0
OnlyInitial own NoMore = Unit {0}
OnlyInitial own (Before (SimpleOf (AssignOf (FieldOf q (ThisOf r v) f t) operator.Set e)) ss) = (own f ≡ true) × Fine NotAtAll e × OnlyInitial own ss
OnlyInitial own (Before s ss) = ⊥

this_is_used : {X : Type 0} (q r : Place) (v f : ℕ) (u : Ty) → Fine NotAtAll (FieldOf q (ThisOf r v) f u) → X
this_is_used q r v f u h = let e : r ∷ [] ≡ [] = h.unused in absurd (let z : ⊥ = cc in z)

pub initial_of : (p : TypedTree) (t : ℕ) (own : ℕ → Bool) → ((f : ℕ) → is_declared_in t (field_at p f) ≡ true → own f ≡ true) → (ss : StmtTrees) → OnlyOwn p t ss → Along (FineSimple NotAtAll) (Fine NotAtAll) ss → OnlyInitial own ss
initial_of p t own has NoMore h g = tt
initial_of p t own has (Before (SimpleOf (AssignOf (FieldOf q (ThisOf r v) f u) operator.Set e)) ss) h g = (has f h.0, g.0.1, initial_of p t own has ss h.1 g.1)
initial_of p t own has (Before (SimpleOf (AssignOf (FieldOf q (ThisOf r v) f u) operator.Add e)) ss) h g = this_is_used q r v f u g.0.1
initial_of p t own has (Before (SimpleOf (AssignOf (FieldOf q (ThisOf r v) f u) operator.Subtract e)) ss) h g = this_is_used q r v f u g.0.1
initial_of p t own has (Before (SimpleOf (AssignOf (FieldOf q (ThisOf r v) f u) operator.Multiply e)) ss) h g = this_is_used q r v f u g.0.1
initial_of p t own has (Before (SimpleOf (StepOf (FieldOf q (ThisOf r v) f u) o)) ss) h g = this_is_used q r v f u g.0.1
initial_of p t own has (Before (SimpleOf x) ss) h g = absurd (false≢true h.0)
initial_of p t own has (Before x ss) h g = absurd h

pub initial_simple : (own : ℕ → Bool) (ss : StmtTrees) → OnlyInitial own ss → OnlySimple ss
initial_simple own NoMore h = tt
initial_simple own (Before (SimpleOf (AssignOf (FieldOf q (ThisOf r v) f t) operator.Set e)) ss) h = (refl, initial_simple own ss h.2)
initial_simple own (Before s ss) h = absurd h

module _ (c : core.CoreTree) (p : TypedTree) (b : BodyTree) (bs : List BodyTree) (own : ℕ → Bool) (static : b.flags.is_static ≡ false) (C : List core.ClassTree) (x : Context) where
  -- they fit where no other field has its value
  pub initial_fit : (ss : StmtTrees) → OnlyInitial own ss → all_fitting (free c p b bs own static NotAtAll C x) ss ≡ true → all_fitting (held c p b bs own static NotAtAll C x) ss ≡ true
  initial_fit NoMore h g = refl
  initial_fit (Before (SimpleOf (AssignOf (FieldOf q (ThisOf r v) f t) operator.Set e)) ss) h g =
      let z = free c p b bs own static NotAtAll C x in
      let w = held c p b bs own static NotAtAll C x in
      let l = FieldOf q (ThisOf r v) f t in
      let all = and_parts (simple_fits z (AssignOf l operator.Set e)) (all_fitting z ss) g in
      let one = and_parts (target_fits z l && fits z l && fits z e && is_some (type_of e)) (assigned_fits z l operator.Set e) all.0 in
      let two = and_parts (target_fits z l && fits z l && fits z e) (is_some (type_of e)) one.0 in
      let three = and_parts (target_fits z l && fits z l) (fits z e) two.0 in
      let four = and_parts (target_fits z l) (fits z l) three.0 in
      let kind = and_parts (implied (fields.is_non_null t) (is_non_null (field_type c.classes f))) (reads_set z (ThisOf r v) f && fits z (ThisOf r v)) four.1 in
      let this = and_parts (reads_set z (ThisOf r v) f) (fits z (ThisOf r v)) kind.1 in
      let reads : reads_set w (ThisOf r v) f ≡ true = or_left _ _ (or_left _ _ (or_right (not w.body.flags.ctor) _ h.0)) in
      let left : fits w l ≡ true = and_from _ _ kind.0 (and_from _ _ reads this.1) in
      let right : fits w e ≡ true = refit c p b bs own static NotAtAll C x (λ a d k m y i. absurd (false≢true i)) e h.1 (λ i. absurd (false≢true i)) three.1 in
      and_from _ _ (and_from _ _ (and_from _ _ (and_from _ _ (and_from _ _ four.0 left) right) two.1) one.1) (initial_fit ss h.2 all.1)
  initial_fit (Before s ss) h g = absurd h
