-- What a written body of an elaborated program calls is there.
use Rattle.std.proofs.Common.{◌≡◌, ℕ, ◌+◌, ◌*◌, List, [], true, false, Option, Some, None, sym, ◌∙◌, ap, subst, refl, arith}
use Rattle.std.specs.Prelude.{◌==◌, slice_get}
use Rattle.std.proofs.lemmas.Bool.{eq-eqb, false≢true}
use Rattle.ss_core.specs.Tree as core
use Rattle.ss_core.specs.Tree.{BaseConstructor}
use Rattle.ss_core.specs.Chain.{is_declared}
use Rattle.ss_ast.specs.Programs.{ClassTree, ProgramTree}
use Rattle.ss_tables.specs.Classes.{above}
use Rattle.ss_typed.specs.Tree.{BodyTree, TypedTree}
use Rattle.ss_resolver_names_rules.specs.Programs.{program_faults}
use Rattle.ss_resolver_rules.specs.Numbers.{number_or_object}
use Rattle.ss_resolver_rules.specs.Programs.{resolved}
use Rattle.ss_expand_rules.specs.Program.{above_of, Constructor, number_of}
use Rattle.ss_typed.specs.Lookups.{constructor_of, param_types_in}
use Rattle.ss_expand_rules.specs.Bodies.{written_body}
use Rattle.ss_store_rules.specs.Typed.{callee_of}
use Rattle.ss_expand_formed.specs.Laws.{core_of}
use Rattle.ss_expand_formed.proofs.ChainLaw.{size}
use Rattle.ss_expand_formed.proofs.ClassConstructors.{place_of_declared}
use Rattle.ss_expand_formed.proofs.Cycles.{above_within}
use Rattle.ss_expand_formed.proofs.Levels.{above_at, above_stays}
use Rattle.ss_expand_formed.proofs.Values.{Takes, HasCalls}
use Rattle.ss_expand_formed.proofs.StatementsWritten.{frame}
use Rattle.ss_expand_formed.proofs.Callees.{tree_at, constructor_takes, base_constructor_takes}
use Rattle.ss_expand_formed.proofs.StatementsTables.{method_takes, base_takes}
use Rattle.ss_expand_formed.proofs.StatementsStatics.{static_takes}

module _ (p : ProgramTree) (faultless : program_faults p ≡ []) where
  abbrev P : TypedTree
  P = resolved p

  abbrev C : List core.ClassTree
  C = (core_of p).classes

  -- the class above is one of the source
  pub record HasAbove (t : ℕ) : Type 0 where
    pub place : ℕ
    pub tree : ClassTree
    pub there : slice_get p.classes place ≡ Some tree
    pub number : above_of P t ≡ 4 + 2 * place

  above_by : (t k : ℕ) (o : Option ℕ) → above p.classes k ≡ o → above_of P t ≡ number_or_object o → (above_of P t == 0) ≡ false → HasAbove t
  above_by t k None e over some = absurd (false≢true (sym some ∙ eq-eqb (above_of P t) 0 over))
  above_by t k (Some j) e over some = let c = tree_at p.classes j (above_within p.classes k j e) in record { place = j; tree = c.0; there = c.1; number = over }

  pub has_above : (t : ℕ) → is_declared C t ≡ true → (above_of P t == 0) ≡ false → HasAbove t
  has_above t class some =
      let at = place_of_declared C t class in
      let s = size p in
      let l = at.2 in
      let over : above_of P t ≡ number_or_object (above p.classes at.0) = ap (above_of P) at.1 ∙ above_at p faultless at.0 (omega arith) in
      above_by t at.0 (above p.classes at.0) refl over some

  module _ (b : BodyTree) (bs : List BodyTree) (class : is_declared C b.class ≡ true) where
    abbrev y : core.BodyTree
    y = written_body P b bs

    abbrev BaseTakes : ℕ → Type 0
    BaseTakes u = Takes (callee_of (core_of p) y (BaseConstructor (number_of P (Constructor u)))) (param_types_in (constructor_of P u)) None

    base_there : b.flags.ctor ≡ true → HasAbove b.class → BaseTakes (above_of P b.class)
    base_there ctor a = subst BaseTakes (sym a.number) (base_constructor_takes p y a.place a.tree a.there (sym (above_stays p faultless b.class) ∙ a.number) ctor)

    pub has_calls : HasCalls (frame (core_of p) P b bs)
    has_calls = record {
      constructor = constructor_takes p;
      method = method_takes p faultless;
      static = static_takes p faultless y;
      base = λ m r moving callee. base_takes p faultless y (above_of P b.class) m r (sym (above_stays p faultless b.class)) moving callee;
      base_constructor = λ ctor some. base_there ctor (has_above b.class class some);
    }
