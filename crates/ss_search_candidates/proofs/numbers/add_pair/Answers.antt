use Rattle.std.proofs.Common.{subst, sym, List}
use Rattle.ss_terms.specs.declared.forms.TermId.{TermId}
use Rattle.ss_linear.specs.Contradictions.{HasPairs}
use Rattle.ss_search_candidates.proofs.Pairs.{HasPairs-push}
use Rattle.ss_search_candidates.proofs.numbers.add_pair.Goals as goal

pub returns : goal.returns
returns c =
    subst (λ (ps : List (TermId × TermId)). HasPairs c.args.bank.now ps) (sym c.in_ok-push.ensures.items)
    (HasPairs-push c.args.bank.now c.args.list.now.items (c.args.first, c.args.term) c.requires.pairs (c.has_term.ensures.0 c.if-not-has_term.false) c.requires.term)
