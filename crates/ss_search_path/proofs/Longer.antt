-- Merges that are known by some facts are known by more of them.
use Rattle.std.proofs.Common.{◌≡◌, List, length, take, refl, inl, inr, ⊎_elim}
use Rattle.ss_core.specs.Tree.{ClassTree}
use Rattle.ss_logic.specs.Formulas.{Formula}
use Rattle.ss_terms.specs.Forms.{Forms}
use Rattle.ss_equality_rules.specs.declared.Merge.{Merge}
use Rattle.ss_search_clashes.specs.Said.{IsKnown, AreKnown}
use Rattle.ss_search_path.proofs.StandingFacts.{stays_at}

module _ (cs : List ClassTree) (b : Forms) (old new : List Formula) (kept : take (length old) new ≡ old) where
  merge_longer : (m : Merge) → IsKnown cs b old m → IsKnown cs b new m
  merge_longer m h = record { at = stays_at old new kept m.because _ h.at; formed = h.formed }

  pub merges_longer : (ms : List Merge) → AreKnown cs b ms (length old) old → AreKnown cs b ms (length new) new
  merges_longer ms h = record { many = refl; merges = λ k m at. ⊎_elim (λ known. inl (merge_longer m known)) (λ names. inr names) (h.merges k m at) }
