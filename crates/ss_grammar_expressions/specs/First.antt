-- What is read depends on the first token, which isn't taken away.
use Rattle.std.specs.Prelude.{Bool, true, false, List, [], ◌∷◌, Option, Some, None, Result, Err}
use Rattle.ss_grammar.specs.declared.fault.Fault.{Fault}
use Rattle.ss_grammar.specs.declared.fault.Fault.TheVariants.{Expected}

-- where t is first, S t; where nothing is left, M
abbrev pub ByFirst : {T A : Type 0} → (T → List T → A → Type 0) → (List T → A → Type 0) → List T → A → Type 0
ByFirst S M [] v = M [] v
ByFirst S M (t ∷ ts) v = S t (t ∷ ts) v

abbrev pub Nothing : {T A : Type 0} → List T → A → Type 0
Nothing ts v = ⊥

abbrev pub Chosen : {T A : Type 0} → Bool → (List T → A → Type 0) → (List T → A → Type 0) → List T → A → Type 0
Chosen true L M = L
Chosen false L M = M

-- L where the first token is one of f, and otherwise M
abbrev pub Choose : {T A : Type 0} → (T → Bool) → (List T → A → Type 0) → (List T → A → Type 0) → List T → A → Type 0
Choose f L M = ByFirst (λ t. Chosen (f t) L M) M

-- L, but only where the first token is one of f
abbrev pub Only : {T A : Type 0} → (T → Bool) → (List T → A → Type 0) → List T → A → Type 0
Only f L = ByFirst (λ t. Chosen (f t) L Nothing) Nothing

-- something of the first token, such as its place
abbrev pub Here : {T P A : Type 0} → (T → P) → (P → List T → A → Type 0) → List T → A → Type 0
Here f L = ByFirst (λ t. L (f t)) Nothing

-- ---- the same, read

abbrev pub by_first : {T A : Type 0} → (T → List T → Result (A × List T) (Fault × List T)) → Result (A × List T) (Fault × List T) → List T → Result (A × List T) (Fault × List T)
by_first s m [] = m
by_first s m (t ∷ ts) = s t (t ∷ ts)

abbrev pub chosen : {T A : Type 0} → Bool → (List T → Result (A × List T) (Fault × List T)) → (List T → Result (A × List T) (Fault × List T)) → List T → Result (A × List T) (Fault × List T)
chosen true l m ts = l ts
chosen false l m ts = m ts

abbrev pub choose : {T A : Type 0} → (T → Bool) → (List T → Result (A × List T) (Fault × List T)) → (List T → Result (A × List T) (Fault × List T)) → List T → Result (A × List T) (Fault × List T)
choose f l m ts = by_first (λ t. chosen (f t) l m) (m []) ts

abbrev pub refuse : {T A : Type 0} → List T → Result (A × List T) (Fault × List T)
refuse ts = Err (Expected, ts)

abbrev pub only : {T A : Type 0} → (T → Bool) → (List T → Result (A × List T) (Fault × List T)) → List T → Result (A × List T) (Fault × List T)
only f l ts = by_first (λ t. chosen (f t) l refuse) (Err (Expected, [])) ts

abbrev pub here : {T P A : Type 0} → (T → P) → (P → List T → Result (A × List T) (Fault × List T)) → List T → Result (A × List T) (Fault × List T)
here f l ts = by_first (λ t. l (f t)) (Err (Expected, [])) ts

-- what f says of a token, with the token itself
abbrev pub tokened_as : {T B : Type 0} → Option B → T → Option (B × T)
tokened_as None t = None
tokened_as (Some b) t = Some (b, t)

abbrev pub tokened : {T B : Type 0} → (T → Option B) → T → Option (B × T)
tokened f t = tokened_as (f t) t
