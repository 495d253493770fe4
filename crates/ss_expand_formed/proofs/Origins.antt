-- What each body of an elaborated program has the contract of.
use Rattle.std.proofs.Common.{◌≡◌, ℕ, List, [], ◌∷◌, true, false, Some, None, refl, sym, ◌∙◌, ap, subst}
use Rattle.std.specs.Prelude.{not, ◌&&◌, option_and_then}
use Rattle.std.proofs.lemmas.Bool.{and_parts, eqb-true}
use Rattle.ss_core.specs.Tree as core
use Rattle.ss_core.specs.Chain.{declared}
use Rattle.ss_ast.specs.Programs.{ProgramTree}
use Rattle.ss_typed.specs.Tree.{BodyTree, MembersTree, TypedTree}
use Rattle.ss_resolver_rules.specs.Programs.{resolved}
use Rattle.ss_expand_rules.specs.Program.{method_at, Origin, Constructor, Method, is_declared_by, is_wrapped, is_own}
use Rattle.ss_typed.specs.Lookups.{body_at, constructor_of, members_of}
use Rattle.ss_expand_rules.specs.Constructors.{implicit_constructor}
use Rattle.ss_expand_rules.specs.Contracts.{declarations}
use Rattle.ss_store_rules.specs.Typed as store
use Rattle.ss_expand_formed.specs.Laws.{core_of}
use Rattle.ss_expand_formed.proofs.Facts.{not_true}
use Rattle.ss_expand_formed.proofs.Bodies.{IsMade, WrittenConstructor, ImplicitConstructor, WrittenMethod, Wrapper, origin_of}
use Rattle.ss_expand_formed.proofs.Numbered.{IsOrigin, OfClass, OfMethod, origin_is}
use Rattle.ss_expand_formed.proofs.Normal.{HasContract}
use Rattle.ss_expand_formed.proofs.Contracts.{written_contract, wrapper_contract}

-- where the body b in the class t with these declarations comes from: a constructor, or the method at a place of the table of the class
pub data Declares (p : TypedTree) (b : BodyTree) (t : ℕ) : List BodyTree → Type 0 where
  OfConstructor : (u n : ℕ) (m : MembersTree) → members_of p u ≡ Some m → m.constructor ≡ Some n → body_at p n ≡ Some b → b.class ≡ t → Declares p b t (b ∷ [])
  OfImplicit : (c : core.ClassTree) (m : MembersTree) → declared p.classes t ≡ Some c → members_of p t ≡ Some m → constructor_of p t ≡ None → b ≡ implicit_constructor t c.name m.place → Declares p b t (b ∷ [])
  OfTable : (m : ℕ) → method_at p t m ≡ Some b → Declares p b t (declarations p t m)

pub record Contracted (p : TypedTree) (y : core.BodyTree) : Type 0 where
  pub body : BodyTree
  pub declarations : List BodyTree
  pub contract : HasContract y body y.class declarations
  pub declares : Declares p body y.class declarations

-- the method that an origin names has a wrapper unless its class declares it
wrapped : (p : TypedTree) (t m : ℕ) (b : BodyTree) → method_at p t m ≡ Some b → is_declared_by t (Some b) ≡ false → (o : Origin) → o ≡ Method t m → IsOrigin p o → is_wrapped (Some b) ≡ true
wrapped p t m b h other o is (OfClass {t = u} d) = absurd (let e : Constructor u ≡ Method t m = is in let z : ⊥ = cc in z)
wrapped p t m b h other o is (OfMethod {t = u} {m = n} {e = e} d there own) =
    let same : Method u n ≡ Method t m = is in
    let tu : u ≡ t = cc in
    let mn : n ≡ m = cc in
    let at : method_at p u n ≡ body_at p e.body = ap (option_and_then (λ (x : core.EntryTree). body_at p x.body)) there in
    let body : body_at p e.body ≡ Some b = sym at ∙ ap (λ k. method_at p k n) tu ∙ ap (method_at p t) mn ∙ h in
    let owned : is_own t (Some b) ≡ true = ap (is_own t) (sym body) ∙ ap (λ k. is_own k (body_at p e.body)) (sym tu) ∙ own in
    rw other at owned

of_made : (p : TypedTree) (o : Origin) (y : core.BodyTree) → IsOrigin p o → IsMade p o y → Contracted p y
of_made p o y from (WrittenConstructor {t = t} {n = n} {b = b} {m = m} eo em en eb) = record { body = b; declarations = b ∷ []; contract = written_contract p b (b ∷ []); declares = OfConstructor t n m em en eb refl }
of_made p o y from (ImplicitConstructor {t = t} {c = c} {m = m} eo ec em none) =
    let b = implicit_constructor t c.name m.place in
    record { body = b; declarations = b ∷ []; contract = written_contract p b (b ∷ []); declares = OfImplicit c m ec em none refl }
of_made p o y from (WrittenMethod {t = t} {m = m} {b = b} eo eb own) =
    let class : t ≡ b.class = sym (eqb-true b.class t own) in
    record { body = b; declarations = declarations p t m; contract = written_contract p b (declarations p t m); declares = subst (λ u. Declares p b u (declarations p t m)) class (OfTable m eb) }
of_made p o y from (Wrapper {t = t} {m = m} {b = b} {ms = ms} eo eb other em) =
    let w = wrapped p t m b eb other o eo from in
    let three = and_parts (not b.flags.is_static && not b.flags.pure) (not b.flags.no_default_contract) w in
    let two = and_parts (not b.flags.is_static) (not b.flags.pure) three.0 in
    record { body = b; declarations = declarations p t m; contract = wrapper_contract p ms.place t m b (declarations p t m) (not_true b.flags.is_static two.0) (not_true b.flags.pure two.1); declares = OfTable m eb }

pub contract_of : (p : ProgramTree) (n : ℕ) (y : core.BodyTree) → store.body_at (core_of p) n ≡ Some y → Contracted (resolved p) y
contract_of p n y at =
    let from = origin_of (resolved p) n y at in
    of_made (resolved p) from.origin y (origin_is (resolved p) from.place from.origin from.there) from.made
