use Rattle.ss_terms.specs.Forms.{IsGrown}
use Rattle.ss_search_engine.proofs.engine.Engine.make_all.Given as goal

abbrev pub invariant-loop-turn : goal.invariant-loop-turn
invariant-loop-turn l = IsGrown l.initial.bank l.bank
