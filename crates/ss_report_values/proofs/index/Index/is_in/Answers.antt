use Rattle.std.proofs.Common.{Some, sym, ◌∙◌, ap}
use Rattle.std.proofs.lemmas.Bool.{eqb-true}
use Rattle.ss_report_values.proofs.index.Index.is_in.Goals as goal

pub returns-in-Some : goal.returns-in-Some
returns-in-Some c = λ h. sym c.class_of.ensures ∙ c.in-Some.is ∙ ap Some (eqb-true c.in-Some.found c.args.class h)
