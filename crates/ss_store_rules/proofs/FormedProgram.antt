-- A whole program that is formed: one class with its constructor and a Main, both of which do nothing.
use Rattle.std.proofs.Common.{◌≡◌, refl, sym, ◌∙◌, subst, ap, ◌+◌, ◌*◌, arith, ℕ, zero, suc, List, [], ◌∷◌, length, Bool, true, false, Option, Some, None}
use Rattle.std.proofs.lemmas.Bool.{false≢true}
use Rattle.std.specs.Prelude.{slice_get, unwrap_or, is_some, sum_by}
use Rattle.std.specs.List.{list_all}
use Rattle.ss_core.specs.declared.names.Place.{Place}
use Rattle.ss_core.specs.declared.body.BodyFlags.{BodyFlags}
use Rattle.ss_core.specs.Tree.{ClassTree, PackStmt, ReturnStmt, CodeTree, NoCode, Then, BodyTree, CoreTree}
use Rattle.ss_core.specs.Chain.{is_declared, declared, fields_of, below, levels, most_levels, field_count, IsChain, NoAlso, IsWithinLimits}
use Rattle.ss_core.proofs.Declared.{declared_place, is_declared-declared}
use Rattle.ss_core.proofs.Chains.{ends_if_declared}
use Rattle.ss_store_rules.specs.Admissible.{is_admissible}
use Rattle.ss_store_rules.specs.Typed.{is_invariant, body_at}
use Rattle.ss_store_rules.specs.Tables.{IsTable}
use Rattle.ss_store_rules.specs.Formed.{IsFormedBody, IsFormed}

abbrev at : Place
at = record { line = 1; column = 1 }

abbrev flags : Bool → Bool → BodyFlags
flags is_static is_constructor = record {
  is_static = is_static;
  pure = false;
  ctor = is_constructor;
  delayed = is_constructor;
  wrapper = false;
}

abbrev a_body : BodyFlags → CodeTree → BodyTree
a_body f code = record {
  class = 4;
  name = [];
  params = [];
  locals = [];
  result = None;
  entry = [];
  exit = [];
  named = [];
  flags = f;
  code = code;
  place = at;
}

abbrev constructor : BodyTree
constructor = a_body (flags false true) (Then (PackStmt at 0 4) (Then (ReturnStmt at None) NoCode))

abbrev main : BodyTree
main = a_body (flags true false) (Then (ReturnStmt at None) NoCode)

abbrev the_class : ClassTree
the_class = record {
  name = [];
  above = 0;
  also = [];
  fields = [];
  invariants = [];
  table = record { name = []; body = 1 } ∷ [];
}

abbrev classes : List ClassTree
classes = the_class ∷ []

abbrev program : CoreTree
program = record { classes = classes; bodies = constructor ∷ main ∷ []; main = 1 }

-- ---- the one class

only_class : (k : ℕ) (c : ClassTree) → slice_get classes k ≡ Some c → the_class ≡ c
only_class zero c h = ap (λ o. unwrap_or o the_class) h
only_class (suc k) c h = ap (λ o. unwrap_or o the_class) h

-- what is the same of no class and of this one is the same everywhere
of_each : {X : Type 0} (f : Option ClassTree → X) → f (Some the_class) ≡ f None → (t : ℕ) → f (declared classes t) ≡ f None
of_each f same t = look (declared classes t) refl
  where
    look : (o : Option ClassTree) → declared classes t ≡ o → f o ≡ f None
    look None h = refl
    look (Some c) h = let p = declared_place classes t c h in subst (λ x. f (Some x) ≡ f None) (only_class p.0 c p.2) same

only_number : (t : ℕ) → is_declared classes t ≡ true → t ≡ 4
only_number t h = look (declared classes t) refl
  where
    first : (k : ℕ) (c : ClassTree) → slice_get classes k ≡ Some c → 4 + 2 * k ≡ 4
    first zero c e = refl
    first (suc k) c e = let no : ⊥ = cc in absurd no

    look : (o : Option ClassTree) → declared classes t ≡ o → t ≡ 4
    look None e = let no : false ≡ true = sym (is_declared-declared classes t ∙ ap (λ o. is_some o) e) ∙ h in absurd (false≢true no)
    look (Some c) e = let p = declared_place classes t c e in p.1 ∙ first p.0 c p.2

ends_at : (k : ℕ) (c : ClassTree) → slice_get classes k ≡ Some c → below classes (4 + 2 * k) 0 ≡ true
unfolding below levels most_levels
ends_at zero c e = refl
ends_at (suc k) c e = cc

chain : IsChain classes
chain = record {
  numbers = refl;
  ends = ends_if_declared classes ends_at;
}

beside : NoAlso classes
beside t = of_each (λ o. elim o [ None ↦ [] | Some c ↦ c.also ]) refl t

no_fields : (ts : List ℕ) → sum_by (λ level. length (fields_of (declared classes level))) ts ≡ 0
no_fields [] = refl
no_fields (t ∷ ts) = rw (of_each (λ o. length (fields_of o)) refl t, no_fields ts) refl

limits : IsWithinLimits classes
unfolding field_count
limits = record {
  classes = omega arith;
  fields = λ t. rw (no_fields (levels classes t)) (omega arith);
}

-- ---- the two bodies

formed_constructor : IsFormedBody program constructor
unfolding below levels most_levels
formed_constructor = record {
  class = refl;
  flags = refl;
  params = refl;
  locals = refl;
  result = refl;
  entry = refl;
  exit = refl;
  named = refl;
  typed = refl;
  exposed = refl;
  targets = refl;
  returns = refl;
  assigned = refl;
  exposes = refl;
  nulls = refl;
  requires_of_this = refl;
  order = refl;
  opening = refl;
  delayed_base = refl;
  delayed_this = refl;
  delayed_pack = refl;
  delayed_fields = refl;
  undelayed_this = refl;
  undelayed_fields = refl;
}

formed_main : IsFormedBody program main
formed_main = record {
  class = refl;
  flags = refl;
  params = refl;
  locals = refl;
  result = refl;
  entry = refl;
  exit = refl;
  named = refl;
  typed = refl;
  exposed = refl;
  targets = refl;
  returns = refl;
  assigned = refl;
  exposes = refl;
  nulls = refl;
  requires_of_this = refl;
  order = refl;
  opening = refl;
  delayed_base = refl;
  delayed_this = refl;
  delayed_pack = refl;
  delayed_fields = refl;
  undelayed_this = refl;
  undelayed_fields = refl;
}

formed_body : (n : ℕ) (b : BodyTree) → body_at program n ≡ Some b → IsFormedBody program b
formed_body zero b h = subst (IsFormedBody program) (ap (λ o. unwrap_or o constructor) h) formed_constructor
formed_body (suc n) b h = subst (IsFormedBody program) (rest n b h) formed_main
  where
    rest : (n : ℕ) (b : BodyTree) → body_at program (suc n) ≡ Some b → main ≡ b
    rest zero b h = ap (λ o. unwrap_or o main) h
    rest (suc n) b h = ap (λ o. unwrap_or o main) h

table_of_4 : IsTable program 4
unfolding below levels most_levels
table_of_4 = record {
  methods = refl;
  names = refl;
  own = refl;
  inherited = λ m old new from to h. let no : ⊥ = cc in absurd no;
}

formed : IsFormed program
formed = record {
  chain = chain;
  beside = beside;
  limits = limits;
  fields = refl;
  invariants = λ t. of_each (λ o. list_all (is_invariant classes t) (elim o [ None ↦ [] | Some c ↦ c.invariants ])) refl t;
  admissible = λ t. of_each (λ o. list_all (is_admissible classes t) (elim o [ None ↦ [] | Some c ↦ c.invariants ])) refl t;
  constructors = λ t h. rw (only_number t h) refl;
  tables = λ t h. rw (only_number t h) table_of_4;
  bodies = formed_body;
  main = (main, refl, record { static = refl; params = refl; result = refl });
}
