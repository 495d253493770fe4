-- The class and the flags of each body of an elaborated program.
use Rattle.std.proofs.Common.{◌≡◌, ℕ, List, length, Bool, true, false, refl, ◌∙◌, arith}
use Rattle.std.specs.Prelude.{not, ◌&&◌, ◌||◌, is_none, slice_get}
use Rattle.std.specs.List.{list_all}
use Rattle.ss_core.specs.Tree as core
use Rattle.ss_core.specs.Chain.{is_declared}
use Rattle.ss_ast.specs.Programs.{ProgramTree}
use Rattle.ss_tables.specs.Members.{ConstructorTree}
use Rattle.ss_typed.specs.Tree.{BodyTree, TypedTree}
use Rattle.ss_resolver_rules.specs.Programs.{constructor_body, constructor_flags, class, resolved}
use Rattle.ss_expand_rules.specs.Program.{table, Origin}
use Rattle.ss_expand_rules.specs.Elaborated.{elaborated}
use Rattle.ss_store_rules.specs.Formed.{has_flags}
use Rattle.ss_expand_formed.specs.Laws.{core_of, HaveClasses, HaveFlags}
use Rattle.ss_expand_formed.proofs.Bodies.{IsMade, WrittenConstructor, ImplicitConstructor, WrittenMethod, Wrapper, origin_of}
use Rattle.ss_expand_formed.proofs.Facts.{all_at}
use Rattle.ss_expand_formed.proofs.Resolved.{method_is, method_declared, bodies_pass, each_length, classes_length, number_declared, stays_declared}

-- ---- flags

abbrev is_flagged : BodyTree → Bool
is_flagged b = (not b.flags.ctor || not b.flags.is_static && is_none b.result) && (not b.flags.delayed || b.flags.ctor)

either : (a : Bool) → (a || true) ≡ true
either true = refl
either false = refl

constructor_flagged : (p : ProgramTree) (k : ℕ) (d : ConstructorTree) → is_flagged (constructor_body p.classes k d) ≡ true
constructor_flagged p k d = either (not (constructor_flags d).delayed)

made_flagged : (p : TypedTree) → list_all is_flagged p.bodies ≡ true → (o : Origin) (y : core.BodyTree) → IsMade p o y → has_flags y ≡ true
made_flagged p all o y (WrittenConstructor {n = n} {b = b} is em en eb) = all_at is_flagged p.bodies n b all eb
made_flagged p all o y (ImplicitConstructor is ec em none) = refl
made_flagged p all o y (WrittenMethod {t = t} {m = m} {b = b} is eb own) = let at = method_is p (slice_get (table p t) m) b eb in all_at is_flagged p.bodies at.0 b all at.1
made_flagged p all o y (Wrapper is eb own em) = refl

pub have_flags : (p : ProgramTree) → HaveFlags (core_of p)
have_flags p n b at =
    let from = origin_of (resolved p) n b at in
    made_flagged (resolved p) (bodies_pass is_flagged p.classes (λ k d l. constructor_flagged p k d) (λ k m l. refl) 0 p.classes (omega arith)) from.origin b from.made

-- ---- classes

abbrev is_of_class : List core.ClassTree → BodyTree → Bool
is_of_class cs b = is_declared cs b.class

made_of_class : (p : TypedTree) → list_all (is_of_class (elaborated p).classes) p.bodies ≡ true → (o : Origin) (y : core.BodyTree) → IsMade p o y → is_declared (elaborated p).classes y.class ≡ true
made_of_class p all o y (WrittenConstructor {n = n} {b = b} is em en eb) = all_at (is_of_class (elaborated p).classes) p.bodies n b all eb
made_of_class p all o y (ImplicitConstructor {t = t} {c = c} is ec em none) = stays_declared p t c ec
made_of_class p all o y (WrittenMethod {t = t} {m = m} {b = b} is eb own) = let at = method_is p (slice_get (table p t) m) b eb in all_at (is_of_class (elaborated p).classes) p.bodies at.0 b all at.1
made_of_class p all o y (Wrapper {t = t} {m = m} {b = b} is eb own em) = let c = method_declared p t m b eb in stays_declared p t c.0 c.1

pub have_classes : (p : ProgramTree) → HaveClasses (core_of p)
have_classes p n b at =
    let from = origin_of (resolved p) n b at in
    let cs = (core_of p).classes in
    let size : length cs ≡ length p.classes = classes_length (resolved p) 4 (resolved p).classes ∙ each_length (class p.classes) 0 p.classes in
    made_of_class (resolved p) (bodies_pass (is_of_class cs) p.classes (λ k d l. number_declared cs k (omega arith)) (λ k m l. number_declared cs k (omega arith)) 0 p.classes (omega arith)) from.origin b from.made
