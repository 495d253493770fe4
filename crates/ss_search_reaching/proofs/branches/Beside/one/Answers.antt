use Rattle.std.proofs.Common.{ℕ, [], ◌∷◌, get_or, sym, ◌∙◌, subst}
use Rattle.std.proofs.lemmas.Option.{slice_get-get_or}
use Rattle.ss_terms.specs.declared.forms.FormulaId.{FormulaId}
use Rattle.ss_search_reached.proofs.Fronts.{front_push, front_trans}
use Rattle.ss_search_reached.proofs.Lists.{contains_get}
use Rattle.ss_search_reached.proofs.Branches.{one_branch}
use Rattle.ss_search_path.specs.Paths.{known_on}
use Rattle.ss_search_path.specs.Standing.{IsFact}
use Rattle.ss_search_reaching.specs.Refuting.{bank_of}
use Rattle.ss_search_reaching.proofs.Resolving.{one_part}
use Rattle.ss_search_reaching.proofs.branches.Beside.one.Goals as goal

pub returns-clause-kept : goal.returns-clause-kept
returns-clause-kept c =
    let old = c.args.path.now in
    let split = c.unit.new.self in
    front_trans old.known.items split.known.items c.open.new.path.known.items (front_push old.known.items split.known.items (c.part_at-f.result ∷ []) c.in_ok-unit.ensures.known) c.in_ok-at.ensures.kept

pub returns-clause-branch : goal.returns-clause-branch
returns-clause-branch c =
    let ps = c.args.whole.now.parts.now in
    let d : FormulaId = record { 0 = 0 } in
    one_branch c.args.self.now.looking ps (get_or ps c.args.part d) c.requires.has (contains_get ps c.args.part d c.requires.part)

pub returns-clause-leads : goal.returns-clause-leads
returns-clause-leads c = λ ms in_front in_back.
    let p = c.args.self.now in
    let old = c.args.path.now in
    let ps = c.args.whole.now.parts.now in
    let d : FormulaId = record { 0 = 0 } in
    one_part p ms old c.unit.new.self c.open.new.path c.args.whole.now.place c.args.whole.now.from c.in_ok-at.at c.in_ok-at.opened ps c.args.part c.part_at-f.result c.args.front.items c.args.back.items c.part_at-f.ensures c.in_ok-unit.ensures.known c.in_ok-unit.ensures.goes_on c.in_ok-at.ensures.goes_on
    (λ cs f chosen fact. c.in_ok-at.ensures.opened cs f chosen (subst (λ (n : ℕ). IsFact cs p.refuting.given (known_on (bank_of p.refuting) c.unit.new.self) n c.args.whole.now.from f) (sym (c.len-last.ensures ∙ old.known.ok.0)) fact))
    (get_or ps c.args.part d) (slice_get-get_or ps c.args.part d c.requires.part) in_front in_back
