use Rattle.std.proofs.Common.{◌≡◌, ℕ, not, Some, sym, ◌∙◌, ap}
use Rattle.ss_terms.specs.Forms.{formula_at}
use Rattle.ss_search_clashes.specs.declared.says.Saying.{Saying}
use Rattle.ss_search_clashes.specs.Numbered.{class_of, differs}
use Rattle.ss_search_clashes.specs.Says.{key_of, Says, said_of}
use Rattle.ss_search_clashes.specs.Tables.{Table}
use Rattle.ss_search_clashes.proofs.Tables.{at_some, looked_up, one_more, says_only, is_against}
use Rattle.ss_search_clashes.proofs.known.Known.against.Goals as goal

pub returns-then-differs-clause-some : goal.returns-then-differs-clause-some
returns-then-differs-clause-some c = λ known is.
    let b = c.args.bank.now in
    sym (looked_up b c.numbers_are_apart.ensures c.deref.result.now c.args.self.now.classes (c.deref.ensures.value ∙ ap (λ (t : Table). t.classes) c.self.view_is) (λ class. c.differs.result ≡ differs class (formula_at b c.args.f)) c.differs.ensures)
    ∙ c.if-differs.true

pub returns-in_default-clause-none : goal.returns-in_default-clause-none
returns-in_default-clause-none c = λ e known is.
    let b = c.args.bank.now in
    let f = formula_at b c.args.f in
    one_more b known c.args.self.now is c.numbers_are_apart.ensures c.args.f c.requires
    (sym (looked_up b c.numbers_are_apart.ensures c.deref.result.now c.args.self.now.classes (c.deref.ensures.value ∙ ap (λ (t : Table). t.classes) c.self.view_is) (λ class. c.differs.result ≡ differs class f) c.differs.ensures)
    ∙ c.if-differs.false)
    (λ k holds says said. c.in_ok-saying.ensures.none (class_of b c.args.self.now.classes) c.in_default.is k holds says)

pub returns-in-Some-opposite-clause-some : goal.returns-in-Some-opposite-clause-some
returns-in-Some-opposite-clause-some c = λ known is.
    let b = c.args.bank.now in
    let f = formula_at b c.args.f in
    let s = c.in-Some.saying in
    is_against b known c.args.self.now is c.numbers_are_apart.ensures c.args.f c.requires (key_of s.signature) s.holds c.in-Some-opposite.place
    (looked_up b c.numbers_are_apart.ensures c.deref-2.result.now c.args.self.now.classes (c.deref-2.ensures.value ∙ ap (λ (t : Table). t.classes) c.self.view_is) (λ class. Says b class f (key_of s.signature) s.holds)
    (λ class k. at_some (λ (x : Saying). Says b class f (key_of x.signature) x.holds) c.in_ok-saying.field-0 s c.in-Some.is (c.in_ok-saying.ensures.some class k)))
    (at_some (λ (i : ℕ). said_of c.args.self.now.said (key_of s.signature) ≡ Some (record { place = i; holds = not s.holds })) c.opposite.result c.in-Some-opposite.place c.in-Some-opposite.is c.opposite.ensures.some)

pub returns-clause-none : goal.returns-clause-none
returns-clause-none c = λ e known is.
    let b = c.args.bank.now in
    let f = formula_at b c.args.f in
    let s = c.in-Some.saying in
    one_more b known c.args.self.now is c.numbers_are_apart.ensures c.args.f c.requires
    (sym (looked_up b c.numbers_are_apart.ensures c.deref.result.now c.args.self.now.classes (c.deref.ensures.value ∙ ap (λ (t : Table). t.classes) c.self.view_is) (λ class. c.differs.result ≡ differs class f) c.differs.ensures)
    ∙ c.if-differs.false)
    (says_only b known c.args.self.now is c.numbers_are_apart.ensures c.args.f c.requires (key_of s.signature) s.holds
    (looked_up b c.numbers_are_apart.ensures c.deref-2.result.now c.args.self.now.classes (c.deref-2.ensures.value ∙ ap (λ (t : Table). t.classes) c.self.view_is) (λ class. Says b class f (key_of s.signature) s.holds)
    (λ class k. at_some (λ (x : Saying). Says b class f (key_of x.signature) x.holds) c.in_ok-saying.field-0 s c.in-Some.is (c.in_ok-saying.ensures.some class k)))
    (c.opposite.ensures.none c.in-None.is))
