-- Faults that come after others.
use Rattle.std.proofs.Common.{◌≡◌, ◌++◌, sym, ap, ◌∙◌, append_assoc}
use Rattle.ss_resolver_names_rules.specs.Faults.{Faults}

pub one_more : (found old new a b : Faults) → old ≡ found ++ a → new ≡ old ++ b → new ≡ found ++ (a ++ b)
one_more found old new a b o n = n ∙ ap (λ f. f ++ b) o ∙ append_assoc found a b

pub two_more : (found old mid new a b c : Faults) → old ≡ found ++ a → mid ≡ old ++ b → new ≡ mid ++ c → new ≡ found ++ (a ++ b ++ c)
two_more found old mid new a b c o m n = one_more found mid new (a ++ b) c (one_more found old mid a b o m) n

pub three_more : (found old mid last new a b c d : Faults) → old ≡ found ++ a → mid ≡ old ++ b → last ≡ mid ++ c → new ≡ last ++ d → new ≡ found ++ (a ++ b ++ c ++ d)
three_more found old mid last new a b c d o m l n = one_more found last new (a ++ b ++ c) d (two_more found old mid last a b c o m l) n
