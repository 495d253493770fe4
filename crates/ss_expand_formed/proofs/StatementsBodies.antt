-- The statements of a written body fit, where its parts do.
use Rattle.std.proofs.Common.{◌≡◌, ℕ, ◌+◌, List, length, true, false, Option, Some, None, refl, sym, subst}
use Rattle.std.specs.Prelude.{if◌then◌else◌}
use Rattle.ss_core.specs.declared.names.Ty.{Ty}
use Rattle.ss_core.specs.Tree as core
use Rattle.ss_typed.specs.Tree.{BlockTree, BlockOf, StmtTree, ReturnOf, StmtTrees, NoMore, Before, BaseTree, BodyTree, TypedTree}
use Rattle.ss_typed.specs.Tree as typed
use Rattle.ss_expand_rules.specs.Program.{above_of}
use Rattle.ss_typed.specs.Lookups.{constructor_of, param_types_in}
use Rattle.ss_paths.specs.Opening.{is_first}
use Rattle.ss_expand_rules.specs.Constructors.{before_all, initializers, after_initial, base_alone, with_base, constructor_stmts}
use Rattle.ss_typed.specs.Shapes.{closing_brace, in_block, has_base}
use Rattle.ss_expand_rules.specs.Contracts.{first_param}
use Rattle.ss_expand_rules.specs.Bodies.{with_return, statements}
use Rattle.ss_expand_formed.proofs.Choices.{where_chosen}
use Rattle.ss_expand_formed.proofs.Environments.{context_of}
use Rattle.ss_expand_formed.proofs.Fits.{FitArguments, FitReturn, FitStmt, FitBlock, FitAll}

module _ (p : TypedTree) (C : List core.ClassTree) (b : BodyTree) where
  -- in the context of the body
  abbrev pub InBody : StmtTrees → Type 0
  InBody ss = FitAll p C (context_of b) b.flags.ctor (first_param b + length b.params) ss

  abbrev OneInBody : StmtTree → Type 0
  OneInBody s = FitStmt p C (context_of b) b.flags.ctor (first_param b + length b.params) s

  -- arguments of the constructor of the class above
  abbrev pub GivenAbove : typed.Arguments → Type 0
  GivenAbove es = FitArguments p C (context_of b) b.flags.ctor (first_param b + length b.params) es (param_types_in (constructor_of p (above_of p b.class)))

  both_in : (xs ys : StmtTrees) → InBody xs → InBody ys → InBody (before_all xs ys)
  both_in NoMore ys h g = g
  both_in (Before x xs) ys h g = (h.0, both_in xs ys h.1 g)

  block_in : (c : BlockTree) → FitBlock p C (context_of b) b.flags.ctor (first_param b + length b.params) c → InBody (in_block c)
  block_in (BlockOf q ss end) h = h

  behind_in : (t : ℕ) (s : StmtTree) (ss : StmtTrees) → OneInBody s → InBody ss → InBody (after_initial p t s ss)
  behind_in t s NoMore h g = (h, tt)
  behind_in t s (Before x xs) h g = where_chosen InBody (is_first p t x) (Before x (after_initial p t s xs)) (Before s (Before x xs)) (λ yes. (g.0, behind_in t s xs h g.1)) (λ no. (h, g))

  base_in : (base : Option BaseTree) (ss : StmtTrees) → b.flags.ctor ≡ true → ((x : BaseTree) → base ≡ Some x → GivenAbove x.arguments) → (base ≡ None → has_base ss ≡ false → GivenAbove typed.Arguments.NoMore) → InBody ss → InBody (with_base p b base ss)
  base_in (Some x) ss ctor given none h = ((ctor, given x refl), h)
  base_in None ss ctor given none h =
      where_chosen InBody (has_base ss) ss (if b.flags.delayed then Before (base_alone b) ss else after_initial p b.class (base_alone b) ss) (λ yes. h)
      (λ no. where_chosen InBody b.flags.delayed (Before (base_alone b) ss) (after_initial p b.class (base_alone b) ss) (λ late. ((ctor, none refl no), h)) (λ early. behind_in b.class (base_alone b) ss (ctor, none refl no) h))

  abbrev OneReturn : Option Ty → Type 0
  OneReturn r = FitReturn p C (context_of b) b.flags.ctor (first_param b + length b.params) r None

  return_in : (r : Option Ty) → b.result ≡ r → (ss : StmtTrees) → InBody ss → InBody (with_return b r ss)
  return_in None e ss h = both_in ss (Before (ReturnOf (closing_brace b.block) None) NoMore) h (returns b.result e, tt)
    where
      returns : (r : Option Ty) → r ≡ None → OneReturn r
      returns None e = tt
      returns (Some t) e = absurd (let z : ⊥ = cc in z)
  return_in (Some t) e ss h = h

  pub method_in : b.flags.ctor ≡ false → FitBlock p C (context_of b) b.flags.ctor (first_param b + length b.params) b.block → InBody (statements p b)
  method_in method f =
      subst (λ d. InBody (with_return b b.result (if d then constructor_stmts p b else in_block b.block))) (sym method) (return_in b.result refl (in_block b.block) (block_in b.block f))

  pub constructor_in : b.flags.ctor ≡ true → InBody (initializers p b.class) → ((x : BaseTree) → b.base ≡ Some x → GivenAbove x.arguments) → (b.base ≡ None → has_base (in_block b.block) ≡ false → GivenAbove typed.Arguments.NoMore) →
      FitBlock p C (context_of b) b.flags.ctor (first_param b + length b.params) b.block → InBody (statements p b)
  constructor_in ctor first given none f =
      let inner = both_in (initializers p b.class) (with_base p b b.base (in_block b.block)) first (base_in b.base (in_block b.block) ctor given none (block_in b.block f)) in
      subst (λ d. InBody (with_return b b.result (if d then constructor_stmts p b else in_block b.block))) (sym ctor) (return_in b.result refl (constructor_stmts p b) inner)
