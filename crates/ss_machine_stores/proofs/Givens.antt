-- The lists of unkept locations, item by item.
use Rattle.std.proofs.Common.{ℕ, refl}
use Rattle.std.specs.Prelude.{flat_map}
use Rattle.ss_store_rules.specs.Reads.{same_value, object_at, element_read}
use Rattle.ss_machine_rules.specs.declared.Location.TheVariants as location
use Rattle.ss_machine_rules.specs.Frame.{Span, unless, unkept_field, unkept_elements_from, unkept_at, unkept_from}
use Rattle.ss_machine_stores.proofs.Firsts.{IsGiven}

pub fields_given : (c : Span) (o : ℕ) → IsGiven (λ _ xs. flat_map (unkept_field c o) xs) (λ _ y. unkept_field c o y)
fields_given c o = record { none = λ i. refl; more = λ i x xs. refl }

pub elements_given : (c : Span) (o : ℕ) → IsGiven (unkept_elements_from c o) (λ i v. unless (same_value v (element_read (object_at c.entry o) i)) (location.Element o i))
elements_given c o = record { none = λ i. refl; more = λ i x xs. refl }

pub objects_given : (c : Span) → IsGiven (unkept_from c) (unkept_at c)
objects_given c = record { none = λ i. refl; more = λ i x xs. refl }
