use Rattle.std.proofs.Common.{ℕ, [], ◌+◌, ap}
use Rattle.ss_core.specs.View as view
use Rattle.ss_logic.specs.declared.Sort.TheVariants as sort
use Rattle.ss_logic.specs.Terms.{Constant, app}
use Rattle.ss_terms.specs.Forms.{Forms, term_at}
use Rattle.ss_terms.proofs.Grown.{IsGrown-refl}
use Rattle.ss_vcgen_heaps.specs.Positions.{Position}
use Rattle.ss_vcgen_builder.specs.Builder.{counters_of}
use Rattle.ss_vcgen_statements.proofs.Steps.{term_is}
use Rattle.ss_vcgen.specs.Bodies.{blank}
use Rattle.ss_vcgen.proofs.Building.{begins_on}
use Rattle.ss_vcgen.proofs.bodies.begin.Goals as goal

pub returns-clause-at : goal.returns-clause-at
returns-clause-at c =
    let s = c.args.builder.now in
    let t = c.clear.new.builder in
    let u = c.new_store.new.builder in
    let same = ap (λ (k : Position). k.next.stores) (c.clear.ensures.is t.bank (IsGrown-refl t.bank)) in
    term_is u.bank c.in_ok-store.store (λ b. app (Constant sort.Store t.next.stores) []) (λ b. app (Constant sort.Store s.next.stores) []) (λ b k. ap (λ (n : ℕ). app (Constant sort.Store n) []) same) c.in_ok-store.ensures.at

pub returns-clause-begins : goal.returns-clause-begins
returns-clause-begins c =
    let s = c.args.builder.now in
    begins_on s c.clear.new.builder c.new_store.new.builder (λ (b : Forms). blank (view.body c.args.body.now) (term_at b s.store) (counters_of s.next))
    (λ b k. record k { store = app (Constant sort.Store k.next.stores) []; next = record k.next { stores = k.next.stores + 1 } }) c.clear.ensures c.in_ok-store.ensures.becomes
