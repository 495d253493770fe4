use Rattle.ss_logic_means.proofs.Invariants.{invariants_true}
use Rattle.ss_logic_means.proofs.laws.a_good_store_meets_its_invariants.Goals as goal

pub returns : goal.returns
returns c = λ cs chain beside are m s ts f is good. invariants_true cs chain beside are m s f ts is good
