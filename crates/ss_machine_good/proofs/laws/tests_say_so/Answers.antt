use Rattle.std.proofs.Common.{refl}
use Rattle.ss_store_rules.specs.Reads.{as_bool}
use Rattle.ss_machine_good.proofs.Tests.{tested_true}
use Rattle.ss_machine_good.proofs.laws.tests_say_so.Goals as goal

pub returns : goal.returns
returns c = λ s tys constructs good k true_ e w t h. tested_true s tys constructs good k true_ e (as_bool w) t (w, h, refl)
