use Rattle.std.proofs.Common.{◌≡◌, ◌++◌, length, sym, subst, List, Option, arith}
use Rattle.std.proofs.lemmas.List.{length-map}
use Rattle.ss_terms.specs.Forms.{formula_at, formulas_at}
use Rattle.ss_linear_sums.specs.declared.forms.SumFact.{SumFact}
use Rattle.ss_linear_network.specs.Made.{numbers_at}
use Rattle.ss_linear.specs.Contradictions.{equalities_at}
use Rattle.ss_linear.specs.Results.{AreFacts}
use Rattle.ss_linear.proofs.Glue.{facts_length}
use Rattle.ss_linear.proofs.Seen.{are_met}
use Rattle.ss_linear.proofs.met.are_met.Goals as goal

pub all_seen-requires-clause-nodes : goal.all_seen-requires-clause-nodes
all_seen-requires-clause-nodes c = rw c.in-Met.is at c.in_ok-solved.ensures.nodes

pub returns-in-Met : goal.returns-in-Met
returns-in-Met c = λ cs of yes.
    let b = c.args.bank.now in
    let fs = formulas_at b c.args.facts.now in
    let es = equalities_at b c.args.equalities.now in
    let read = subst (λ (vs : List (Option SumFact)). AreFacts cs b (fs ++ es) vs) (sym c.as_slice-list.ensures.value) (c.in_ok-read.ensures.read cs of) in
    let long : length c.as_slice-list.result.now ≡ length (fs ++ es) = facts_length cs b (fs ++ es) c.as_slice-list.result.now read in
    let own : length fs ≡ length c.args.facts.now = length-map c.args.facts.now (formula_at b) in
    are_met cs (numbers_at b c.in-Met.numbers) fs es
    (λ k l. c.all_seen.ensures.met cs (fs ++ es) read yes k (omega arith))
    (λ k l m. c.all_seen.ensures.said cs (fs ++ es) read yes k (omega arith) (omega arith))
