use Rattle.std.proofs.lemmas.Result.{IfOk-weaker}
use Rattle.ss_search_clashes.specs.Cases.{IsAt, AreAt, CloseCase}
use Rattle.ss_search_clashes.proofs.Placed.{weaker_case}
use Rattle.ss_search_reaching.specs.Refuting.{bank_of, CloseBeside}
use Rattle.ss_search_reaching.proofs.basic.Refuting.by_clash.Goals as goal

pub returns : goal.returns
returns c =
    let s = c.args.self.now in
    let b = bank_of s in
    let ms = c.args.congruence.now.merges in
    IfOk-weaker c.close.result (λ v. CloseCase b ms c.args.count (λ cs fs. AreAt cs b fs s.known.now s.places.now) v.items) (λ v. CloseBeside s ms c.args.count c.args.fact v.items)
    (λ v h. weaker_case b ms c.args.count (λ cs fs. AreAt cs b fs s.known.now s.places.now) (λ cs fs. AreAt cs b fs s.known.now s.places.now × IsAt cs b fs c.args.fact) v.items (λ cs fs given. given.0) h)
    c.close.ensures
