-- The terms at which a `forall` has instances.
use Rattle.std.specs.Prelude.{ℕ, zero, suc, List, [], ◌∷◌, ◌++◌, map, filter, flat_map, filter_map, length, replicate, Bool, true, false, ◌==◌, ◌&&◌, Option, Some, None, option_and_then, option_map, slice_get, slice_set, if◌then◌else◌}
use Rattle.std.specs.List.{list_any}
use Rattle.ss_logic.specs.declared.Sort.{Sort}
use Rattle.ss_logic.specs.declared.Sort.TheVariants as sort
use Rattle.ss_logic.specs.Terms.{Symbol, Number, Constant, Field, Element, Length, Level, Owner, Next, Term, Bound, App, Terms, no_terms, term_then, term_list, same_sort}
use Rattle.ss_logic.specs.Formulas.{Predicate, Allocated, Committed, Ready, Formula, Literal, Or, Forall, formulas_from, neg, put}
use Rattle.ss_logic.specs.Equal.{same_term, same_symbol, same_predicate}
use Rattle.ss_logic.specs.Occurring.{atoms, terms, all_atoms, all_terms}
use Rattle.ss_logic.specs.Asked.{is_empty}

-- ---- reads

abbrev pub is_read : Symbol → Bool
is_read (Field f) = true
is_read (Element s) = true
is_read Length = true
is_read Level = true
is_read Owner = true
is_read Next = true
is_read f = false

abbrev pub is_read_atom : Predicate → Bool
is_read_atom Allocated = true
is_read_atom Committed = true
is_read_atom Ready = true
is_read_atom p = false

-- one of the arguments is this bound name
abbrev pub is_bound : ℕ → Term → Bool
is_bound k (Bound j) = j == k
is_bound k t = false

-- each of the first n bound names is an argument
abbrev pub has_bound : ℕ → Terms → Bool
has_bound zero ts = true
has_bound (suc n) ts = list_any (is_bound n) (term_list ts) && has_bound n ts

-- the reads of a body that have its n bound names as arguments
abbrev pub is_trigger : ℕ → Term → Bool
is_trigger n (App f ts) = is_read f && has_bound n ts
is_trigger n t = false

abbrev pub is_trigger_atom : ℕ → Formula → Bool
is_trigger_atom n (Literal sign p ts) = is_read_atom p && has_bound n ts
is_trigger_atom n f = false

abbrev pub term_triggers : ℕ → Formula → List Term
term_triggers n f = filter (is_trigger n) (all_terms (f ∷ []))

abbrev pub atom_triggers : ℕ → Formula → List Formula
atom_triggers n f = filter (is_trigger_atom n) (all_atoms (f ∷ []))

-- ---- matching by form: what stands for the bound names so far

-- the bound name stands for this term, if it stood for nothing or for the same
abbrev pub with_found : List (Option Term) → ℕ → Term → Option (Option Term) → Option (List (Option Term))
with_found found k t (Some None) = Some (slice_set found k (Some t))
with_found found k t (Some (Some u)) = if same_term t u then Some found else None
with_found found k t None = None

abbrev mutual
  pub matched : List (Option Term) → Term → Term → Option (List (Option Term))
  matched found (Bound k) t = with_found found k t (slice_get found k)
  matched found (App f ts) (App g us) = if same_symbol f g then all_matched found ts us else None
  matched found (App f ts) (Bound k) = None

  pub all_matched : List (Option Term) → Terms → Terms → Option (List (Option Term))
  all_matched found no_terms no_terms = Some found
  all_matched found (term_then t ts) (term_then u us) = option_and_then (λ more. all_matched more ts us) (matched found t u)
  all_matched found no_terms (term_then u us) = None
  all_matched found (term_then t ts) no_terms = None

-- the terms, where each bound name stands for one
abbrev pub all_found : List (Option Term) → Option (List Term)
all_found [] = Some []
all_found (Some t ∷ found) = option_map (λ ts. t ∷ ts) (all_found found)
all_found (None ∷ found) = None

abbrev pub match_term : ℕ → Term → Term → Option (List Term)
match_term n pattern t = option_and_then all_found (matched (replicate n None) pattern t)

abbrev pub match_atom : ℕ → Formula → Formula → Option (List Term)
match_atom n (Literal sign p ts) (Literal other q us) = if same_predicate p q then option_and_then all_found (all_matched (replicate n None) ts us) else None
match_atom n f g = None

-- ---- instances

-- there is nothing for which the body is false, or it is true of these terms
abbrev pub instance_at : Formula → List Sort → Formula → List Term → Formula
instance_at whole ss f ts = Or (formulas_from (neg whole ∷ put ts f ∷ []))

-- a literal or a constant for whole numbers
abbrev pub is_plain_whole : Term → Bool
is_plain_whole (App (Number n) ts) = true
is_plain_whole (App (Constant r k) ts) = same_sort r sort.Whole
is_plain_whole t = false

abbrev pub is_one_whole : List Sort → Bool
is_one_whole (s ∷ []) = same_sort s sort.Whole
is_one_whole ss = false

-- A `forall` has instances at the terms that match one of its triggers; one over whole numbers that has none, at each whole-number literal
-- and constant of the list.
abbrev pub instances_at : List Formula → Formula → List Sort → Formula → List Formula
instances_at fs whole ss f =
    let n = length ss in
    let for_terms = term_triggers n f in
    let for_atoms = atom_triggers n f in
    if is_empty for_terms && is_empty for_atoms && is_one_whole ss
    then map (λ t. instance_at whole ss f (t ∷ [])) (filter is_plain_whole (all_terms fs))
    else map (instance_at whole ss f)
    (flat_map (λ t. filter_map (λ pattern. match_term n pattern t) for_terms) (terms fs) ++ flat_map (λ a. filter_map (λ pattern. match_atom n pattern a) for_atoms) (atoms fs))

abbrev pub forall_instances : List Formula → Formula → List Formula
forall_instances fs (Forall ss f) = instances_at fs (Forall ss f) ss f
forall_instances fs f = []
