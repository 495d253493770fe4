use Rattle.std.proofs.Common.{arith}
use Rattle.std.proofs.lemmas.Int.{ints}
use Rattle.ss_linear_paths.proofs.reached.Reached.over.Goals as goal

pub overflow_add-result : goal.overflow_add-result
overflow_add-result c = let n = c.number.ensures in let w = c.requires.within in omega (arith, ints, w.0, w.1)
