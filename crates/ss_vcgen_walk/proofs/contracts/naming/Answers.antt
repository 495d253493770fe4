use Rattle.std.proofs.Common.{[], ◌∷◌, ◌++◌, ap, ◌∙◌}
use Rattle.ss_core.specs.View.{expr}
use Rattle.ss_logic.specs.Express as spec
use Rattle.ss_terms.proofs.Grown.{IsGrown-then}
use Rattle.ss_vcgen_express.specs.Marked.{formulas_of}
use Rattle.ss_vcgen_express.specs.Numbers.{meant_at}
use Rattle.ss_vcgen_express.specs.Contexts.{context_at}
use Rattle.ss_vcgen_express.proofs.Grown.{HasMeant-grown}
use Rattle.ss_vcgen_walk.specs.Parts.{parts_at}
use Rattle.ss_vcgen_walk.proofs.contracts.naming.Goals as goal

pub guards-requires-clause-parts : goal.guards-requires-clause-parts
guards-requires-clause-parts c = rw c.deref.ensures.value c.in_ok-m.ensures.expressed.has

pub guards-requires-clause-meant : goal.guards-requires-clause-meant
guards-requires-clause-meant c = c.in_ok-m.ensures.expressed.meant.has

pub returns-clause-parts : goal.returns-clause-parts
returns-clause-parts c =
    let a = c.args in
    let read = c.in_ok-m.ensures.expressed in
    record {
      has = c.in_ok-list.ensures.at.has;
      are = λ b k.
          let g = IsGrown-then c.read.new.bank c.guards.new.bank b c.guards.ensures.grown k in
          c.in_ok-list.ensures.at.are b k
          ∙ ap (λ l. formulas_of (parts_at b l) ++ spec.not_null (meant_at b c.in_ok-m.m) ∷ []) c.deref.ensures.value
          ∙ ap (λ l. l ++ spec.not_null (meant_at b c.in_ok-m.m) ∷ []) (read.defined b g)
          ∙ ap (λ l. (formulas_of (parts_at b l) ++ spec.defined (expr a.e.now) (context_at b a.context.now)) ++ spec.not_null (meant_at b c.in_ok-m.m) ∷ []) c.new-parts.ensures.items
          ∙ ap (λ x. spec.defined (expr a.e.now) (context_at b a.context.now) ++ spec.not_null x ∷ []) (read.meant.is b g);
    }

pub returns-clause-meant : goal.returns-clause-meant
returns-clause-meant c =
    let read = c.in_ok-m.ensures.expressed in
    record {
      has = HasMeant-grown c.guards.ensures.grown c.in_ok-m.m read.meant.has;
      is = λ b k. read.meant.is b (IsGrown-then c.read.new.bank c.guards.new.bank b c.guards.ensures.grown k);
    }
