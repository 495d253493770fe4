use Rattle.ss_terms.specs.Forms.{IsGrown}
use Rattle.ss_search_engine.proofs.engine.Engine.learn_front.Given as goal

abbrev pub invariant-loop-number : goal.invariant-loop-number
invariant-loop-number l = IsGrown l.initial.bank l.bank
