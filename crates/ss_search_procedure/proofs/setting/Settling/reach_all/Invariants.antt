use Rattle.std.proofs.Common.{List}
use Rattle.ss_core.specs.Tree.{ClassTree}
use Rattle.ss_search_path.specs.Paths.{IsSame}
use Rattle.ss_search_path.specs.Standing.{AreStanding}
use Rattle.ss_search_reaching.specs.Reaching.{facts_of, Shows}
use Rattle.ss_search_procedure.specs.Decisions.{settled_ones}
use Rattle.ss_search_procedure.specs.Ground.{AreFirst}
use Rattle.ss_search_procedure.proofs.setting.Settling.reach_all.Given as goal

abbrev pub invariant-loop-k : goal.invariant-loop-k
invariant-loop-k l = record {
  first : AreFirst l.self l.k l.reaching;
  path : IsSame l.initial.reaching.path l.reaching.path;
  shown : (cs : List ClassTree) → Shows cs l.self.given l.initial.reaching → AreStanding cs l.self.given (facts_of l.self.given l.initial.reaching) (settled_ones l.self) l.standings → Shows cs l.self.given l.reaching;
}
