-- The names that are in scope in the source and those of the resolved program mean the same locals.
use Rattle.std.proofs.Common.{◌≡◌, ℕ, suc, ◌<◌, List, [], ◌∷◌, Bool, true, false, Option, Some, None, subst, arith}
use Rattle.std.specs.Prelude.{slice_get, if◌then◌else◌}
use Rattle.std.specs.Str.{bytes_eq}
use Rattle.std.specs.Option.{option_or}
use Rattle.ss_core.specs.declared.names.Ty.{Ty}
use Rattle.ss_core.specs.declared.names.Ty.TheVariants as ty
use Rattle.ss_tables.specs.Scopes.{Local, Locals}
use Rattle.ss_tables.specs.Named.{named_in, named_among}
use Rattle.ss_resolver_rules.specs.Names.{Known_names}
use Rattle.ss_resolver_rules.specs.declared.known.Known.{Known}
use Rattle.ss_resolver_rules.specs.declared.known.Known.TheVariants.{Variable, BoundName}

-- the locals of a body by number have these types
module _ (types : List Ty) where
  -- both mean one local, or a name that so many quantifiers around bind
  abbrev pub Stands : ℕ → Local → Known → Type 0
  Stands k l (Variable y t) = (l.ty ≡ Some t) × (slice_get types y ≡ Some t)
  Stands k l (BoundName j) = (l.ty ≡ Some ty.Int) × (j < k)

  abbrev pub Alike : ℕ → Locals → Known_names → Type 0
  Alike k [] [] = Unit {0}
  Alike k [] (m ∷ ms) = ⊥
  Alike k (l ∷ ls) [] = ⊥
  Alike k (l ∷ ls) (m ∷ ms) = (l.0 ≡ m.0) × Stands k l.1 m.1 × Alike k ls ms

  abbrev pub AllAlike : ℕ → List Locals → List Known_names → Type 0
  AllAlike k [] [] = Unit {0}
  AllAlike k [] (m ∷ ms) = ⊥
  AllAlike k (l ∷ ls) [] = ⊥
  AllAlike k (l ∷ ls) (m ∷ ms) = Alike k l m × AllAlike k ls ms

  abbrev pub Meets : ℕ → Option Local → Option Known → Type 0
  Meets k None None = Unit {0}
  Meets k None (Some m) = ⊥
  Meets k (Some l) None = ⊥
  Meets k (Some l) (Some m) = Stands k l m

  -- ---- more bound names

  stands_more : (k : ℕ) (l : Local) (m : Known) → Stands k l m → Stands (suc k) l m
  stands_more k l (Variable y t) h = h
  stands_more k l (BoundName j) h = (h.0, (let n = h.1 in omega arith))

  pub alike_more : (k : ℕ) (ls : Locals) (ms : Known_names) → Alike k ls ms → Alike (suc k) ls ms
  alike_more k [] [] h = tt
  alike_more k [] (m ∷ ms) h = h
  alike_more k (l ∷ ls) [] h = h
  alike_more k (l ∷ ls) (m ∷ ms) h = (h.0, stands_more k l.1 m.1 h.1, alike_more k ls ms h.2)

  pub all_alike_more : (k : ℕ) (ls : List Locals) (ms : List Known_names) → AllAlike k ls ms → AllAlike (suc k) ls ms
  all_alike_more k [] [] h = tt
  all_alike_more k [] (m ∷ ms) h = h
  all_alike_more k (l ∷ ls) [] h = h
  all_alike_more k (l ∷ ls) (m ∷ ms) h = (alike_more k l m h.0, all_alike_more k ls ms h.1)

  -- ---- what a name means

  meets_if : (k : ℕ) (b : Bool) (l : Local) (m : Known) (o : Option Local) (q : Option Known) → Stands k l m → Meets k o q → Meets k (if b then Some l else o) (if b then Some m else q)
  meets_if k true l m o q h g = h
  meets_if k false l m o q h g = g

  pub meets_in : (k : ℕ) (ls : Locals) (ms : Known_names) (n : List ℕ) → Alike k ls ms → Meets k (named_in ls n) (named_in ms n)
  meets_in k [] [] n h = tt
  meets_in k [] (m ∷ ms) n h = absurd h
  meets_in k (l ∷ ls) [] n h = absurd h
  meets_in k (l ∷ ls) (m ∷ ms) n h =
      subst (λ z. Meets k (if bytes_eq n l.0 then Some l.1 else named_in ls n) (if bytes_eq n z then Some m.1 else named_in ms n)) h.0
      (meets_if k (bytes_eq n l.0) l.1 m.1 (named_in ls n) (named_in ms n) h.1 (meets_in k ls ms n h.2))

  pub meets_else : (k : ℕ) (l o : Option Local) (m q : Option Known) → Meets k l m → Meets k o q → Meets k (option_or l o) (option_or m q)
  meets_else k None o None q h g = g
  meets_else k None o (Some m) q h g = absurd h
  meets_else k (Some l) o None q h g = absurd h
  meets_else k (Some l) o (Some m) q h g = h

  pub meets_among : (k : ℕ) (ls : List Locals) (ms : List Known_names) (n : List ℕ) → AllAlike k ls ms → Meets k (named_among ls n) (named_among ms n)
  meets_among k [] [] n h = tt
  meets_among k [] (m ∷ ms) n h = absurd h
  meets_among k (l ∷ ls) [] n h = absurd h
  meets_among k (l ∷ ls) (m ∷ ms) n h = meets_else k (named_in l n) (named_among ls n) (named_in m n) (named_among ms n) (meets_in k l m n h.0) (meets_among k ls ms n h.1)
