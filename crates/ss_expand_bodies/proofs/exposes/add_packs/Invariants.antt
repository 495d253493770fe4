use Rattle.std.proofs.Common.{◌≡◌, ◌++◌, length, map, reverse}
use Rattle.ss_expand_rules.specs.Statements as statements
use Rattle.ss_expand_expressions.specs.Sources.{stmts_of}
use Rattle.ss_expand_bodies.specs.Exposes.{opened_of}
use Rattle.ss_expand_bodies.proofs.exposes.add_packs.Given as goal

abbrev pub decreases-loop-last : goal.decreases-loop-last
decreases-loop-last l = length l.rest

abbrev pub invariant-loop-last : goal.invariant-loop-last
invariant-loop-last l = stmts_of l.code ++ map statements.pack_of (reverse (map opened_of l.rest)) ≡ stmts_of l.fn.code ++ map statements.pack_of (reverse (map opened_of l.exposes))
