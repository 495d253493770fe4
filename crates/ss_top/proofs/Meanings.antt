-- A source means one program, or it has a fault.
use Rattle.std.proofs.Common.{◌≡◌, List, ℕ, sym, ap, ◌∙◌}
use Rattle.ss_core.specs.declared.names.Place.{Place}
use Rattle.ss_core.specs.Tree.{CoreTree}
use Rattle.ss_expand_rules.specs.Elaborated.{elaborated}
use Rattle.ss_top_sources.specs.Sources.{IsRefused}
use Rattle.ss_top_sources.proofs.Meanings as front
use Rattle.ss_top_sources.specs.CoreSources.{Means}

pub one_core : (source : List ℕ) (c d : CoreTree) → Means source c → Means source d → c ≡ d
one_core source c d m n =
    sym m.core ∙ ap elaborated (front.one_meaning source m.tokens n.tokens m.program n.program m.accepted n.accepted).1 ∙ n.core

pub no_fault : (source : List ℕ) (c : CoreTree) (rule : ℕ) (at : Place) → Means source c → IsRefused source rule at → ⊥
no_fault source c rule at m h = front.no_fault source m.tokens m.program rule at m.accepted h
