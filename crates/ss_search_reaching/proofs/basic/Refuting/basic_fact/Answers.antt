use Rattle.std.proofs.Common.{ℕ, sym, ◌∙◌}
use Rattle.std.proofs.lemmas.List.{length-map}
use Rattle.std.proofs.lemmas.Option.{IfSome_then}
use Rattle.std.proofs.lemmas.Result.{IfOk-weaker}
use Rattle.std.specs.Prelude.{IfSome}
use Rattle.ss_terms.specs.Forms.{formula_at}
use Rattle.ss_search_path.specs.Paths.{known_on}
use Rattle.ss_search_reaching.specs.Refuting.{bank_of, CloseBeside, ClosesFrom}
use Rattle.ss_search_reaching.proofs.Shown.{basic_closes}
use Rattle.ss_search_reaching.proofs.basic.Refuting.basic_fact.Goals as goal

pub returns-clause-closes : goal.returns-clause-closes
returns-clause-closes c =
    let s = c.args.self.now in
    let b = bank_of s in
    let ms = c.args.congruence.now.merges in
    let p = c.args.path.now in
    let many = c.len-count.ensures ∙ p.known.ok.0 ∙ sym (length-map p.known.items (formula_at b)) in
    IfOk-weaker c.basic.result (λ o. IfSome o (λ v. CloseBeside s ms c.len-count.result (record { formula = c.args.f; place = c.args.place }) v.items)) (λ o. IfSome o (λ v. (from : ℕ) → ClosesFrom s ms p c.args.place from (formula_at b c.args.f) p v.items))
    (λ o h. IfSome_then o h (λ v k from cs premises goal shown. basic_closes cs s ms premises goal c.len-count.result c.args.f c.args.place from (known_on b p) v.items c.requires.basic many k shown))
    c.basic.ensures.some
