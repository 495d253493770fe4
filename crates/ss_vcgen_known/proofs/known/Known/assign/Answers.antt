use Rattle.std.proofs.Common.{◌≡◌, Bool, true, false, List, sym, ap, ◌∙◌}
use Rattle.ss_bit_set.specs.Marked.{marked}
use Rattle.ss_core.specs.View as view
use Rattle.ss_core.specs.declared.names.Ty.{Ty}
use Rattle.ss_store_rules.specs.NonNull.{Facts, Known, site_of, is_never_null, learned}
use Rattle.ss_vcgen_known.specs.declared.tests.Tests.{Tests}
use Rattle.ss_vcgen_known.specs.declared.tests.Tests.TheFolds.{fold-roll-Tests}
use Rattle.ss_vcgen_known.specs.declared.tests.Tests.TheOpen as shape
use Rattle.ss_vcgen_known.specs.declared.tests.Tests.TheVariants as tests
use Rattle.ss_vcgen_known.specs.Steps.{with_sides}
use Rattle.ss_vcgen_known.specs.Views.{known_of, tested, tests_step}
use Rattle.ss_vcgen_known.proofs.Setting.{says_learned}
use Rattle.ss_vcgen_known.proofs.known.Known.assign.Goals as goal

nothing_tested : (k : Known) → tested tests.Nothing k ≡ k
nothing_tested k = ap (λ (t : Tests). tested t k) (sym tests.rolls-Nothing) ∙ ap (λ (f : Known → Known). f k) (fold-roll-Tests (Known → Known) tests_step shape.Nothing)

pub returns : goal.returns
returns c =
    let k = known_of c.args.self.now in
    let x = c.args.x in
    let e = view.expr c.args.e.now in
    let b = view.body c.args.context.body.now in
    let site = site_of (view.core c.args.context.core.now) b in
    let never = is_never_null site k false e in
    let at_types = λ (ts : List Ty). is_never_null (record { classes = site.classes; locals = ts; constructs = b.flags.ctor }) k false e in
    let here = λ (j : Known). is_never_null (record { classes = site.classes; locals = c.args.context.types.now; constructs = b.flags.ctor }) j false e in
    let is : c.is_never_null-non_null.result ≡ never = c.is_never_null-non_null.ensures ∙ ap here (nothing_tested k) ∙ ap at_types c.requires.types in
    c.in_ok-set_local.ensures
    ∙ ap (λ (n : Bool). with_sides x n (marked c.in_ok-holds.holds) (marked c.in_ok-fails.fails) k) is
    ∙ ap (λ (f : Facts). with_sides x never f (marked c.in_ok-fails.fails) k) c.in_ok-holds.ensures
    ∙ ap (λ (f : Facts). with_sides x never (learned k e true) f k) c.in_ok-fails.ensures
    ∙ says_learned x never k (learned k e)
