use Rattle.std.proofs.Common.{◌≡◌, take}
use Rattle.ss_core.specs.declared.names.Place.{Place}
use Rattle.ss_core.specs.Tree.{ExprTree}
use Rattle.ss_core.specs.Parts.{chain_front}
use Rattle.ss_store_rules.specs.NonNull.{is_this_object}
use Rattle.ss_vcgen_known.proofs.never_null.are_casts.Given as goal

abbrev pub invariant-loop-link : goal.invariant-loop-link
invariant-loop-link l = (p : Place) (e : ExprTree) → is_this_object (chain_front p e (take l.link-index l.links)) ≡ is_this_object e
