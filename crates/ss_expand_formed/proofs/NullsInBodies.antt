-- Written methods and wrappers keep nulls out, where the statements of methods fit.
use Rattle.std.proofs.Common.{◌≡◌, ℕ, ◌+◌, List, [], ◌∷◌, length, true, false, Option, Some, None, refl, sym, ap, subst}
use Rattle.std.specs.Prelude.{slice_get, if◌then◌else◌}
use Rattle.std.proofs.lemmas.Bool.{false≢true}
use Rattle.ss_core.specs.declared.names.Place.{Place}
use Rattle.ss_core.specs.declared.names.Ty.{Ty}
use Rattle.ss_core.specs.Tree as core
use Rattle.ss_ast.specs.Programs.{ProgramTree}
use Rattle.ss_typed.specs.Tree.{BlockTree, BlockOf, ReturnOf, StmtTrees, NoMore, Before, BodyTree, TypedTree}
use Rattle.ss_nonnull_rules.specs.Program.{null_faults}
use Rattle.ss_resolver_names_rules.specs.Programs.{program_faults}
use Rattle.ss_resolver_rules.specs.Programs.{resolved}
use Rattle.ss_expand_rules.specs.Program.{above_of, method_at, table, Origin, Method, is_declared_by, number_in_table}
use Rattle.ss_typed.specs.Lookups.{body_at}
use Rattle.ss_expand_rules.specs.Contracts.{first_param, declarations}
use Rattle.ss_expand_rules.specs.Bodies.{with_return, statements, written_body, wrapper_body}
use Rattle.ss_expand_rules.specs.Constructors.{before_all, constructor_stmts}
use Rattle.ss_typed.specs.Shapes.{closing_brace, in_block}
use Rattle.ss_store_rules.specs.Typed as store
use Rattle.ss_store_rules.specs.NonNull.{keeps_nulls_out}
use Rattle.ss_expand_formed.specs.Laws.{core_of}
use Rattle.ss_expand_formed.proofs.Bodies.{IsMade, WrittenConstructor, ImplicitConstructor, WrittenMethod, Wrapper, origin_of}
use Rattle.ss_expand_formed.proofs.Resolved.{method_is}
use Rattle.ss_expand_formed.proofs.Numbered.{IsOrigin, origin_is}
use Rattle.ss_expand_formed.proofs.Environments.{context_of}
use Rattle.ss_expand_formed.specs.Fitting.{block_fits}
use Rattle.ss_expand_formed.specs.Bodies.{method_frame, Wraps}
use Rattle.ss_expand_formed.proofs.NullsFound.{methods_keep}
use Rattle.ss_expand_formed.proofs.NullsWrappers.{wrappers_keep}
use Rattle.ss_expand_formed.proofs.Fits.{FitBlock}
use Rattle.ss_expand_formed.proofs.StatementsBodies.{InBody}
use Rattle.ss_expand_formed.proofs.Inherits.{inherited_takes}
use Rattle.ss_expand_formed.proofs.NullsInStatements.{block_fit}
use Rattle.ss_expand_formed.proofs.NullsInSources.{block_others, has_names}

-- ---- the block of a method

module _ (P : TypedTree) (C : List core.ClassTree) (w : BodyTree) where
  abbrev Fitting : StmtTrees → Type 0
  Fitting ss = InBody P C w ss

  without_return : (q : Place) (ss : StmtTrees) → Fitting (before_all ss (Before (ReturnOf q None) NoMore)) → Fitting ss
  without_return q NoMore h = tt
  without_return q (Before s ss) h = (h.0, without_return q ss h.1)

  before_return : (r : Option Ty) (ss : StmtTrees) → Fitting (with_return w r ss) → Fitting ss
  before_return None ss h = without_return (closing_brace w.block) ss h
  before_return (Some t) ss h = h

  of_block : (b : BlockTree) → Fitting (in_block b) → FitBlock P C (context_of w) w.flags.ctor (first_param w + length w.params) b
  of_block (BlockOf q ss end) h = h

  fit_block : w.flags.ctor ≡ false → Fitting (statements P w) → FitBlock P C (context_of w) w.flags.ctor (first_param w + length w.params) w.block
  fit_block method h =
      let is : statements P w ≡ with_return w w.result (in_block w.block) = ap (λ d. with_return w w.result (if d then constructor_stmts P w else in_block w.block)) method in
      of_block w.block (before_return w.result (in_block w.block) (subst Fitting is h))

-- ---- methods and wrappers

module _ (p : ProgramTree) (faultless : program_faults p ≡ []) where
  abbrev P : TypedTree
  P = resolved p

  -- a wrapper calls what takes and gives the same as the method
  pub wraps : (q : Place) (t m : ℕ) (b : BodyTree) (bs : List BodyTree) → IsOrigin P (Method t m) → method_at P t m ≡ Some b → is_declared_by t (Some b) ≡ false → Wraps (core_of p) (wrapper_body P q t m b bs) (number_in_table P (above_of P t) m) b
  wraps q t m b bs origin at other =
      let takes = inherited_takes p faultless t m b origin at other (wrapper_body P q t m b bs) refl refl in
      record { callee = takes.body; there = takes.is; params = takes.params; result = takes.result }

  -- the statements of each written body fit
  abbrev pub HasFitBodies : Type 0
  HasFitBodies = (n : ℕ) (w : BodyTree) → body_at P n ≡ Some w → InBody P (core_of p).classes w (statements P w)

  module _ (fits : HasFitBodies) where
    -- names in a method mean in its elaboration what they mean in the source
    pub method_fits : (n : ℕ) (w : BodyTree) (bs : List BodyTree) → body_at P n ≡ Some w → w.flags.ctor ≡ false → block_fits (method_frame (core_of p) P w bs) w.block ≡ true
    method_fits n w bs at method = block_fit (core_of p) P w bs (has_names p faultless n w bs at) w.block (fit_block P (core_of p).classes w method (fits n w at)) (λ moving. block_others p n w at moving)

    module _ (nulls : null_faults P ≡ []) where
      written_keeps : (n : ℕ) (w : BodyTree) (bs : List BodyTree) → body_at P n ≡ Some w → w.flags.ctor ≡ false → keeps_nulls_out (core_of p) (written_body P w bs) ≡ true
      written_keeps n w bs at method = methods_keep (core_of p) P n w bs nulls at method (method_fits n w bs at method)

      made_keeps : (o : Origin) → IsOrigin P o → (y : core.BodyTree) → IsMade P o y → y.flags.ctor ≡ false → keeps_nulls_out (core_of p) y ≡ true
      made_keeps o origin y (WrittenConstructor {n = n} {b = b} eo em en eb) method = written_keeps n b (b ∷ []) eb method
      made_keeps o origin y (ImplicitConstructor eo ec em none) method = absurd (false≢true (sym method))
      made_keeps o origin y (WrittenMethod {t = t} {m = m} {b = b} eo eb own) method = let at = method_is P (slice_get (table P t) m) b eb in written_keeps at.0 b (declarations P t m) at.1 method
      made_keeps o origin y (Wrapper {t = t} {m = m} {b = b} {ms = ms} eo eb own em) method =
          wrappers_keep (core_of p) P ms.place t m b (declarations P t m) (wraps ms.place t m b (declarations P t m) (subst (IsOrigin P) eo origin) eb own)

      -- each body that is no constructor keeps nulls out
      pub methods_keep_out : (n : ℕ) (y : core.BodyTree) → store.body_at (core_of p) n ≡ Some y → y.flags.ctor ≡ false → keeps_nulls_out (core_of p) y ≡ true
      methods_keep_out n y at method = let from = origin_of P n y at in made_keeps from.origin (origin_is P from.place from.origin from.there) y from.made method
