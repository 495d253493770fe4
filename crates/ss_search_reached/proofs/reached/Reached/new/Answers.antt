use Rattle.std.proofs.Common.{inl, subst, sym, ◌∙◌, ap}
use Rattle.ss_equality_rules.specs.Equal.{Equations, AreFormsOf}
use Rattle.ss_search_reached.proofs.More.{new_reached}
use Rattle.ss_search_reached.proofs.Names.{none_of_names}
use Rattle.ss_search_reached.proofs.reached.Reached.new.Goals as goal

pub ready-requires : goal.ready-requires
ready-requires c = inl c.new-congruence.ensures

pub returns-clause-reached : goal.returns-clause-reached
returns-clause-reached c =
    let b = c.args.bank.now in
    let forms = subst (AreFormsOf b) (sym c.in_ok-merge_names.ensures.terms) c.in_ok-ready.ensures.terms in
    new_reached b (record { known = c.new.result; numbers = c.new-2.result; congruence = c.merge_names.new.congruence; merges = c.new-3.result; classes = c.new-4.result }) c.new.ensures.items c.new-2.ensures c.new-3.ensures.items forms c.in_ok-merge_names.ensures.names

pub returns-clause-names : goal.returns-clause-names
returns-clause-names c = c.in_ok-merge_names.ensures.of_names (none_of_names c.args.bank.now c.ready.new.self.merges (c.ready.ensures.merges ∙ ap (λ (s : Equations). s.merges) c.new-congruence.ensures))
