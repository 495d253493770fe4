-- Pairs of terms of a bank.
use Rattle.std.proofs.Common.{List, [], ◌∷◌, ◌++◌}
use Rattle.ss_terms.specs.declared.forms.TermId.{TermId}
use Rattle.ss_terms.specs.Forms.{Forms, HasTerm}
use Rattle.ss_linear.specs.Contradictions.{HasPairs}

pub HasPairs-push : (b : Forms) (ps : List (TermId × TermId)) (p : TermId × TermId) → HasPairs b ps → HasTerm b p.0 → HasTerm b p.1 → HasPairs b (ps ++ p ∷ [])
HasPairs-push b [] p h s t = ((s, t), tt)
HasPairs-push b (q ∷ ps) p h s t = (h.0, HasPairs-push b ps p h.1 s t)
