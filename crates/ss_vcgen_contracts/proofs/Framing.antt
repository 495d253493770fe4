-- Contracts as they stand, and as callers see them, put together from their parts.
use Rattle.std.proofs.Common.{◌≡◌, Bool, true, false, List, ◌++◌, map, drop, length, refl, ap, ◌∙◌}
use Rattle.std.specs.Prelude.{if◌then◌else◌}
use Rattle.ss_core.specs.declared.names.Ty.{Ty}
use Rattle.ss_core.specs.Tree.{ClassTree, BodyTree}
use Rattle.ss_store_rules.specs.Locals.{types_of, this_types, local_types}
use Rattle.ss_logic.specs.Terms.{Term}
use Rattle.ss_logic.specs.Express.{Meant, Context, at_entry}
use Rattle.ss_logic.specs.Frames.{NamedTerm, OwnerTerm, CallTerms}
use Rattle.ss_vcgen_heaps.specs.Contracts as heaps
use Rattle.ss_vcgen_contracts.specs.Seen.{condition_of}
use Rattle.ss_vcgen_contracts.specs.Names.{name_seen, names_context}
use Rattle.ss_vcgen_contracts.proofs.Seeing.{unseen}
use Rattle.ss_vcgen_contracts.proofs.Naming.{unseen_names, seen_names}

abbrev pub context_with : List ClassTree → Term → Term → List Ty → List Meant → Context
context_with cs now entry types locals = record { classes = cs; now = now; entry = entry; inside_old = false; types = types; locals = locals; bound = 0 }

-- the body as it is written or as a caller sees it
abbrev pub seen_if : Bool → BodyTree → BodyTree
seen_if seen b = if seen then heaps.seen b else b

pub context_is : (cs : List ClassTree) (seen : Bool) (b : BodyTree) (now entry : Term) (arguments results : List Meant) (types : List Ty) (locals : List Meant) →
    types ≡ local_types b → locals ≡ arguments ++ heaps.defaults_meant (types_of b.locals) ++ results →
    context_with cs now entry types locals ≡ heaps.contract_context cs (seen_if seen b) now entry arguments results
context_is cs false b now entry arguments results types locals t l = ap (λ ts. context_with cs now entry ts locals) t ∙ ap (context_with cs now entry (local_types b)) l
context_is cs true b now entry arguments results types locals t l = ap (λ ts. context_with cs now entry ts locals) t ∙ ap (context_with cs now entry (local_types b)) l

-- the conditions at entry, of a contract as it is seen
pub entry_is : (cs : List ClassTree) (seen : Bool) (b : BodyTree) (store : Term) (arguments results : List Meant) → results ≡ heaps.no_result b →
    heaps.conditions (map (condition_of seen) b.entry) (heaps.contract_context cs (seen_if seen b) store store arguments results)
    ≡ heaps.conditions (seen_if seen b).entry (heaps.contract_context cs (seen_if seen b) store store arguments (heaps.no_result (seen_if seen b)))
entry_is cs false b store arguments results r =
    ap (λ es. heaps.conditions es (heaps.contract_context cs b store store arguments results)) (unseen b.entry)
    ∙ ap (λ rs. heaps.conditions b.entry (heaps.contract_context cs b store store arguments rs)) r
entry_is cs true b store arguments results r = ap (λ rs. heaps.conditions (heaps.seen b).entry (heaps.contract_context cs (heaps.seen b) store store arguments rs)) r

-- and those at exit
pub exit_is : (seen : Bool) (b : BodyTree) (c : Context) → heaps.conditions (map (condition_of seen) b.exit) c ≡ heaps.conditions (seen_if seen b).exit c
exit_is false b c = ap (λ es. heaps.conditions es c) (unseen b.exit)
exit_is true b c = refl

-- ---- what may change

abbrev pub call_of : Term → Term → List NamedTerm → List Term → List OwnerTerm → List Term → CallTerms
call_of before after named captured owned outside = record { before = before; after = after; named = named; captured = captured; owned = owned; outside = outside }

pub names_context_is : (cs : List ClassTree) (seen : Bool) (b : BodyTree) (before : Term) (arguments results : List Meant) → results ≡ heaps.no_result b →
    at_entry (heaps.contract_context cs (seen_if seen b) before before arguments results) ≡ names_context cs (seen_if seen b) before arguments
names_context_is cs false b before arguments results r = ap (λ rs. at_entry (heaps.contract_context cs b before before arguments rs)) r
names_context_is cs true b before arguments results r = ap (λ rs. at_entry (heaps.contract_context cs (heaps.seen b) before before arguments rs)) r

pub frame_is : (cs : List ClassTree) (seen : Bool) (b : BodyTree) (before after : Term) (arguments : List Meant) (named : List NamedTerm) (captured : List Term) (owned : List OwnerTerm) (outside : List Term) →
    named ≡ heaps.named_terms (map (name_seen seen) b.named) (names_context cs (seen_if seen b) before arguments) →
    captured ≡ heaps.captured_terms b.params (drop (length (this_types b)) arguments) →
    owned ≡ heaps.owned_terms cs b (names_context cs (seen_if seen b) before arguments) →
    call_of before after named captured owned outside ≡ heaps.frame_terms cs (seen_if seen b) before after arguments outside
frame_is cs false b before after arguments named captured owned outside n c o =
    ap (λ x. call_of before after x captured owned outside) (n ∙ ap (λ ns. heaps.named_terms ns (names_context cs b before arguments)) (unseen_names b.named))
    ∙ ap (λ x. call_of before after (heaps.named_terms b.named (names_context cs b before arguments)) x owned outside) c
    ∙ ap (λ x. call_of before after (heaps.named_terms b.named (names_context cs b before arguments)) (heaps.captured_terms b.params (drop (length (this_types b)) arguments)) x outside) o
frame_is cs true b before after arguments named captured owned outside n c o =
    ap (λ x. call_of before after x captured owned outside) (n ∙ ap (λ ns. heaps.named_terms ns (names_context cs (heaps.seen b) before arguments)) (seen_names b.named))
    ∙ ap (λ x. call_of before after (heaps.named_terms (heaps.seen b).named (names_context cs (heaps.seen b) before arguments)) x owned outside) c
    ∙ ap (λ x. call_of before after (heaps.named_terms (heaps.seen b).named (names_context cs (heaps.seen b) before arguments)) (heaps.captured_terms b.params (drop (length (this_types b)) arguments)) x outside) o
