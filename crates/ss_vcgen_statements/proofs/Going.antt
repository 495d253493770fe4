-- Statements, one after the other.
use Rattle.std.proofs.Common.{◌≡◌, ℕ, refl, sym, ap}
use Rattle.ss_core.specs.Tree.{StmtTree, CodeTree, NoCode, Then}
use Rattle.ss_terms.specs.Forms.{Forms, IsGrown}
use Rattle.ss_vcgen_heaps.specs.Positions.{Position, Walk, Guard, Always, When, Never, if_reached}
use Rattle.ss_vcgen_heaps.specs.Obligations.{behind, behind_all}
use Rattle.ss_vcgen_builder.specs.declared.builder.Builder.{Builder}
use Rattle.ss_vcgen_builder.specs.Builder.{position_at, guard_of, IsFine, Becomes}
use Rattle.ss_vcgen_statements.proofs.Steps.{Along, none_along, along_on, all_along, along_end}

-- a position that is reached
abbrev pub IsReached : Guard → Type 0
IsReached Always = Unit {0}
IsReached (When n) = Unit {0}
IsReached Never = ⊥

pub here : (g : Guard) (x y : Position) → IsReached g → if_reached g x y ≡ x
here Always x y h = refl
here (When n) x y h = refl
here Never x y h = absurd h

module _ (w : Forms → Walk) (s : Builder) (all : CodeTree) where
  pub none_gone : IsFine s → Along s s (λ b k. behind_all (w b) all k) (λ b k. behind_all (w b) all k)
  none_gone fine = none_along s (λ b k. behind_all (w b) all k) fine

  pub gone_on : (t u : Builder) (st : StmtTree) (rest : CodeTree) → IsReached (guard_of t.guard) → Along s t (λ b k. behind_all (w b) all k) (λ b k. behind_all (w b) (Then st rest) k) →
      Becomes t u (λ b. behind (w b) st (position_at b t)) → Along s u (λ b k. behind_all (w b) all k) (λ b k. behind_all (w b) rest k)
  gone_on t u st rest reached a q =
      along_on s t u (λ b k. behind_all (w b) all k) (λ b k. behind_all (w b) (Then st rest) k) (λ b k. behind_all (w b) rest k) (λ b. behind (w b) st (position_at b t)) a q
      (λ b k. sym (here (guard_of t.guard) (behind_all (w b) rest (behind (w b) st (position_at b t))) (position_at b t) reached))

  pub all_gone : (t : Builder) → Along s t (λ b k. behind_all (w b) all k) (λ b k. behind_all (w b) NoCode k) → Becomes s t (λ b. behind_all (w b) all (position_at b s))
  all_gone t a = all_along s t (λ b k. behind_all (w b) all k) (λ b k. behind_all (w b) NoCode k) (λ b k. refl) a

  -- after a position that isn't reached nothing is told
  never_after : (v : Walk) (rest : CodeTree) (k : Position) → k.guard ≡ Never → behind_all v rest k ≡ k
  never_after v NoCode k h = refl
  never_after v (Then st rest) k h = ap (λ g. if_reached g (behind_all v rest (behind v st k)) k) h

  pub never_gone : (t : Builder) (rest : CodeTree) → guard_of t.guard ≡ Never → Along s t (λ b k. behind_all (w b) all k) (λ b k. behind_all (w b) rest k) → Becomes s t (λ b. behind_all (w b) all (position_at b s))
  never_gone t rest h a = along_end s t (λ b k. behind_all (w b) all k) (λ b k. behind_all (w b) rest k) (λ b k. never_after (w b) rest (position_at b t) h) a
