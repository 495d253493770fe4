use Rattle.std.proofs.Common.{◌≡◌, List, ◌++◌, take, length}
use Rattle.ss_core.specs.declared.names.Place.{Place}
use Rattle.ss_core.specs.Tree.{ExprTree}
use Rattle.ss_core.specs.Parts.{chain_front}
use Rattle.ss_vcgen_types.specs.declared.told.Told.{Told}
use Rattle.ss_vcgen_types.specs.Told.{local_of, told_by}
use Rattle.ss_vcgen_types.proofs.told.+told.Given as goal

abbrev pub invariant-tell_links-loop-link : goal.invariant-tell_links-loop-link
invariant-tell_links-loop-link l =
    (p : Place) (e : ExprTree) (before : List Told) → l.mark ≡ length before → l.fn.first ≡ local_of e → l.fn.found.items ≡ before ++ told_by e l.outcome →
    (l.found.items ≡ before ++ told_by (chain_front p e (take l.link-index l.links)) l.outcome)
    × (l.local ≡ local_of (chain_front p e (take l.link-index l.links)))
