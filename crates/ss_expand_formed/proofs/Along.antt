-- What is known along code that stands one after the other.
use Rattle.std.proofs.Common.{◌≡◌, [], ◌∷◌, ◌++◌, true, Option, Some, None, refl, sym}
use Rattle.std.proofs.lemmas.Bool.{and_parts, and_from}
use Rattle.ss_core.specs.Tree.{CodeTree, NoCode, Then}
use Rattle.ss_core.specs.View.{code_of}
use Rattle.ss_store_rules.specs.Paths.{Flow, behind, at_end, Check, holds_at, holds_along}
use Rattle.ss_expand_formed.proofs.Shape.{Code}

module _ {S : Type 0} (f : Flow S) where
  pub at_none : (code : CodeTree) → at_end f code None ≡ None
  at_none NoCode = refl
  at_none (Then s code) = refl

  pub holds_none : (c : Check S) (code : CodeTree) → holds_along f c code None ≡ true
  holds_none c NoCode = refl
  holds_none c (Then s code) = refl

  pub at_end-append : (xs ys : Code) (k : Option S) → at_end f (code_of (xs ++ ys)) k ≡ at_end f (code_of ys) (at_end f (code_of xs) k)
  at_end-append [] ys k = refl
  at_end-append (x ∷ xs) ys None = sym (at_none (code_of ys))
  at_end-append (x ∷ xs) ys (Some k) = at_end-append xs ys (behind f x k)

  pub holds-append : (c : Check S) (xs ys : Code) (k : Option S) → holds_along f c (code_of xs) k ≡ true → holds_along f c (code_of ys) (at_end f (code_of xs) k) ≡ true → holds_along f c (code_of (xs ++ ys)) k ≡ true
  holds-append c [] ys k h g = g
  holds-append c (x ∷ xs) ys None h g = refl
  holds-append c (x ∷ xs) ys (Some k) h g =
      let both = and_parts (holds_at f c x k) (holds_along f c (code_of xs) (behind f x k)) h in
      and_from _ _ both.0 (holds-append c xs ys (behind f x k) both.1 g)
