-- Terms that are walked with a stack.
use Rattle.std.specs.Prelude.{◌≡◌, ℕ, suc, ◌+◌, ◌<◌, List, ◌∷◌, [], ◌++◌, reverse}
use Rattle.ss_logic.specs.Terms.{Term, Bound, App, Terms, no_terms, term_then, terms_from}
use Rattle.ss_logic.specs.Occurring.{with_arguments}
use Rattle.ss_terms.specs.declared.forms.TermId.{TermId}
use Rattle.ss_terms.specs.Forms.{Forms, term_at, terms_at, HasTerms}
use Rattle.ss_rules_occurring.specs.declared.found.TermList.{TermList}
use Rattle.ss_rules_occurring.specs.Found.{terms_of, HasFoundTerms}

-- how many symbols and bound names a term has
abbrev mutual
  pub term_size : Term → ℕ
  term_size (Bound k) = 1
  term_size (App f ts) = suc (terms_size ts)

  pub terms_size : Terms → ℕ
  terms_size no_terms = 0
  terms_size (term_then t ts) = term_size t + terms_size ts

abbrev pub stack_size : Forms → List TermId → ℕ
stack_size b [] = 0
stack_size b (t ∷ ts) = term_size (term_at b t) + stack_size b ts

-- the list when all that waits on the stack has been added: the last comes off first
abbrev pub awaited : Forms → TermList → List TermId → List Term
awaited b found stack = with_arguments (terms_of b found) (terms_from (terms_at b (reverse stack)))

-- after the term, which has come off the stack
pub record IsStep (b : Forms) (found : TermList) (stack : List TermId) (t : TermId) (found_after : TermList) (after : List TermId) : Type 0 where
  pub has : HasFoundTerms b found_after
  pub in_bank : HasTerms b after
  pub same : awaited b found_after after ≡ awaited b found (stack ++ t ∷ [])
  pub smaller : stack_size b after < stack_size b (stack ++ t ∷ [])
