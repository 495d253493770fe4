use Rattle.std.proofs.Common.{◌≡◌, ℕ, not, Some, sym, subst, ◌∙◌}
use Rattle.std.specs.List.{slice_index_or}
use Rattle.std.proofs.lemmas.Option.{slice_get-get_or}
use Rattle.ss_terms.specs.declared.forms.FormulaId.{FormulaId}
use Rattle.ss_terms.specs.Forms.{formula_at}
use Rattle.ss_terms.proofs.Tested.{AreBelow-get}
use Rattle.ss_search_clashes.specs.declared.says.Saying.{Saying}
use Rattle.ss_search_clashes.specs.Says.{key_of, Says, said_of}
use Rattle.ss_search_clashes.specs.Found.{IsClash}
use Rattle.ss_search_clashes.proofs.Tables.{at_some, says_nothing, says_this, says_opposite}
use Rattle.ss_search_clashes.proofs.clashes.enter.Goals as goal

pub differs-requires : goal.differs-requires
differs-requires c = AreBelow-get _ c.args.known.now c.args.place (record { 0 = 0 }) c.requires.known c.requires.place

pub said_by-requires : goal.said_by-requires
said_by-requires c = AreBelow-get _ c.args.known.now c.args.place (record { 0 = 0 }) c.requires.known c.requires.place

pub returns-then-differs-clause-some : goal.returns-then-differs-clause-some
returns-then-differs-clause-some c = λ class k t.
    let f : FormulaId = slice_index_or c.args.known.now c.args.place (record { 0 = 0 }) in
    (f, slice_get-get_or c.args.known.now c.args.place (record { 0 = 0 }) c.requires.place, sym (c.differs.ensures class k) ∙ c.if-differs.true)

pub returns-in_default-clause-none : goal.returns-in_default-clause-none
returns-in_default-clause-none c = λ class k t e.
    let f : FormulaId = slice_index_or c.args.known.now c.args.place (record { 0 = 0 }) in
    says_nothing c.args.bank.now class c.args.known.now c.args.place f (slice_get-get_or c.args.known.now c.args.place (record { 0 = 0 }) c.requires.place) c.args.said.now t
    (sym (c.differs.ensures class k) ∙ c.if-differs.false) (c.in_ok-saying.ensures.none class c.in_default.is)

pub returns-in-Some-2-clause-some : goal.returns-in-Some-2-clause-some
returns-in-Some-2-clause-some c = λ class k t.
    let b = c.args.bank.now in
    let f : FormulaId = slice_index_or c.args.known.now c.args.place (record { 0 = 0 }) in
    let s = c.in-Some.saying in
    subst (IsClash b class c.args.known.now) (sym c.opposed.ensures)
    (says_opposite b class c.args.known.now c.args.place f (slice_get-get_or c.args.known.now c.args.place (record { 0 = 0 }) c.requires.place) c.args.said.now t (key_of s.signature) s.holds c.in-Some-2.other
    (at_some (λ (x : Saying). Says b class (formula_at b f) (key_of x.signature) x.holds) c.in_ok-saying.field-0 s c.in-Some.is (c.in_ok-saying.ensures.some class k))
    (at_some (λ (i : ℕ). said_of c.args.said.now (key_of s.signature) ≡ Some (record { place = i; holds = not s.holds })) c.in_ok-other.field-0 c.in-Some-2.other c.in-Some-2.is c.in_ok-other.ensures.opposite))

pub returns-in-None-clause-none : goal.returns-in-None-clause-none
returns-in-None-clause-none c = λ class k t e.
    let b = c.args.bank.now in
    let f : FormulaId = slice_index_or c.args.known.now c.args.place (record { 0 = 0 }) in
    let s = c.in-Some.saying in
    says_this b class c.args.known.now c.args.place f (slice_get-get_or c.args.known.now c.args.place (record { 0 = 0 }) c.requires.place) c.args.said.now t c.numbers_are_apart.ensures c.say.new.self (key_of s.signature) s.holds
    (sym (c.differs.ensures class k) ∙ c.if-differs.false)
    (at_some (λ (x : Saying). Says b class (formula_at b f) (key_of x.signature) x.holds) c.in_ok-saying.field-0 s c.in-Some.is (c.in_ok-saying.ensures.some class k))
    c.in_ok-other.ensures.step (c.in_ok-other.ensures.said c.in-None.is)
