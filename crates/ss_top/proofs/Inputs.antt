-- The input that words ask for has numbers of 32 bits, and not too many.
use Rattle.std.proofs.Common.{ℕ, zero, suc, ℤ, pos, negsuc, neg_ℤ, ◌≡◌, ◌≤◌, ◌<◌, ◌^◌, List, [], ◌∷◌, ◌++◌, length, Bool, true, false, ◌==◌, ◌&&◌, nat_le, nat_lt, if◌then◌else◌, Option, Some, None, is_some, refl, sym, ap, ◌∙◌, subst, arith}
use Rattle.std.specs.List.{list_all}
use Rattle.std.proofs.lemmas.Bool.{and_from, leb-true, lt-ltb}
use Rattle.std.proofs.lemmas.Grind.{common_steps}
use Rattle.ss_store_rules.specs.Numbers.{fits}
use Rattle.ss_machine_typed.specs.Inputs.{IsInput}
use Rattle.ss_top_words.specs.declared.Command.{Command}
use Rattle.ss_top_words.specs.declared.Command.TheVariants as command
use Rattle.ss_top_words.specs.Numbers.{is_digit, number_after, within, natural, negated, positive, whole}
use Rattle.ss_top_words.specs.Words.{Reading, Asked, and_number, numbers_after, most_numbers, with_input, takes, of_file, of_run, asked_by, command_named, complete, first_reading, read_all, asked}

-- ---- numbers of 32 bits

within_limit : (b : Bool) (m n limit : ℕ) → b ≡ nat_le m limit → (if b then Some m else None) ≡ Some n → n ≤ limit
within_limit true m n limit e h = let same : Some m ≡ Some n = h in leb-true n limit (ap (λ k. nat_le k limit) (let one : n ≡ m = cc in one) ∙ sym e)
within_limit false m n limit e h = absurd (let none : None ≡ Some n = h in cc)

natural_limit : (b : Bool) (m n limit : ℕ) → (if b then within limit m else None) ≡ Some n → n ≤ limit
natural_limit true m n limit h = within_limit (nat_le m limit) m n limit refl h
natural_limit false m n limit h = absurd (let none : None ≡ Some n = h in cc)

number_limit : (limit : ℕ) (bytes : List ℕ) (n : ℕ) → natural limit bytes ≡ Some n → n ≤ limit
number_limit limit bytes n h = natural_limit (nat_le 1 (length bytes) && nat_le (length bytes) 10 && list_all is_digit bytes) (number_after 0 bytes) n limit h

negative_fits : (n : ℕ) → n ≤ 2 ^ 31 → fits (neg_ℤ (pos n)) ≡ true
negative_fits zero l = refl
negative_fits (suc n) l = lt-ltb n (2 ^ 31) (omega arith)

negated_fits : (found : Option ℕ) (z : ℤ) → ((n : ℕ) → found ≡ Some n → n ≤ 2 ^ 31) → negated found ≡ Some z → fits z ≡ true
negated_fits None z below h = absurd (let none : None ≡ Some z = h in cc)
negated_fits (Some n) z below h = let one : Some (neg_ℤ (pos n)) ≡ Some z = h in ap fits (let same : z ≡ neg_ℤ (pos n) = cc in same) ∙ negative_fits n (below n refl)

positive_fits : (found : Option ℕ) (z : ℤ) → ((n : ℕ) → found ≡ Some n → n ≤ 2147483647) → positive found ≡ Some z → fits z ≡ true
positive_fits None z below h = absurd (let none : None ≡ Some z = h in cc)
positive_fits (Some n) z below h = let one : Some (pos n) ≡ Some z = h in let l = below n refl in ap fits (let same : z ≡ pos n = cc in same) ∙ lt-ltb n (2 ^ 31) (omega arith)

signed_fits : (b : Bool) (minus plus : Option ℕ) (z : ℤ) → ((n : ℕ) → minus ≡ Some n → n ≤ 2 ^ 31) → ((n : ℕ) → plus ≡ Some n → n ≤ 2147483647) → (if b then negated minus else positive plus) ≡ Some z → fits z ≡ true
signed_fits true minus plus z low high h = negated_fits minus z low h
signed_fits false minus plus z low high h = positive_fits plus z high h

whole_fits : (word : List ℕ) (z : ℤ) → whole word ≡ Some z → fits z ≡ true
whole_fits [] z h = absurd (let none : None ≡ Some z = h in cc)
whole_fits (b ∷ bytes) z h = signed_fits (b == 45) (natural (2 ^ 31) bytes) (natural 2147483647 (b ∷ bytes)) z (number_limit (2 ^ 31) bytes) (number_limit 2147483647 (b ∷ bytes)) h

-- ---- the numbers of the words

abbrev AllFit : Option (List ℤ) → Type 0
AllFit None = Unit {0}
AllFit (Some ns) = list_all fits ns ≡ true

push_fits : (ns : List ℤ) (n : ℤ) → list_all fits ns ≡ true → fits n ≡ true → list_all fits (ns ++ n ∷ []) ≡ true
push_fits [] n h g = and_from _ _ g refl
push_fits (m ∷ ns) n h g = rest (fits m) (list_all fits ns) (list_all fits (ns ++ n ∷ [])) h (push_fits ns n)
  where
    rest : (a b c : Bool) → (a && b) ≡ true → (b ≡ true → fits n ≡ true → c ≡ true) → (a && c) ≡ true
    rest true b c h more = more h g
    rest false b c h more = h

number_fits : (ns : Option (List ℤ)) (n : Option ℤ) → AllFit ns → ((z : ℤ) → n ≡ Some z → fits z ≡ true) → AllFit (and_number ns n)
number_fits None n h g = tt
number_fits (Some ns) None h g = tt
number_fits (Some ns) (Some n) h g = push_fits ns n h (g n refl)

numbers_fit : (words : List (List ℕ)) (ns : Option (List ℤ)) → AllFit ns → AllFit (numbers_after ns words)
numbers_fit [] ns h = h
numbers_fit (word ∷ words) ns h = numbers_fit words (and_number ns (whole word)) (number_fits ns (whole word) h (whole_fits word))

-- ---- what is asked

some_of_if : {A : Type 0} (b : Bool) (o : Option A) (a : A) → (if b then None else o) ≡ Some a → o ≡ Some a
some_of_if true o a h = absurd (let none : None ≡ Some a = h in cc)
some_of_if false o a h = h

has_input : (b : Bool) (x a : Asked) → (if b then Some x else None) ≡ Some a → (b ≡ true → IsInput x.input) → IsInput a.input
has_input true x a h g = subst (λ (y : Asked). IsInput y.input) (let one : Some x ≡ Some a = h in let same : x ≡ a = cc in same) (g refl)
has_input false x a h g = absurd (let none : None ≡ Some a = h in cc)

file_has_input : (c : Command) (r : Reading) (words : List (List ℕ)) (a : Asked) → of_file c r words ≡ Some a → IsInput a.input
file_has_input c r [] a h = absurd (let none : None ≡ Some a = h in cc)
file_has_input c r (file ∷ []) a h = has_input (takes c r.options) _ a h (λ e. record { numbers = refl; short = refl })
file_has_input c r (file ∷ word ∷ words) a h = absurd (let none : None ≡ Some a = h in cc)

short_input : (n : ℕ) → nat_le n most_numbers ≡ true → nat_lt n (2 ^ 31) ≡ true
short_input n e = let l = leb-true n most_numbers e in lt-ltb n (2 ^ 31) (omega arith)

with_input_has : (r : Reading) (file : List ℕ) (found : Option (List ℤ)) (a : Asked) → AllFit found → with_input r file found ≡ Some a → IsInput a.input
with_input_has r file None a fit h = absurd (let none : None ≡ Some a = h in cc)
with_input_has r file (Some ns) a fit h = has_input (nat_le (length ns) most_numbers) _ a h (λ e. record { numbers = fit; short = short_input (length ns) e })

run_has_input : (r : Reading) (words : List (List ℕ)) (a : Asked) → of_run r words ≡ Some a → IsInput a.input
run_has_input r [] a h = absurd (let none : None ≡ Some a = h in cc)
run_has_input r (file ∷ words) a h = with_input_has r file (numbers_after (Some []) words) a (numbers_fit words (Some []) refl) h

command_has_input : (c : Command) (r : Reading) (a : Asked) → asked_by c r ≡ Some a → IsInput a.input
command_has_input command.Verify r a h = file_has_input command.Verify r r.positional a h
command_has_input command.Run r a h = run_has_input r r.positional a h
command_has_input command.RunUnverified r a h = run_has_input r r.positional a h
command_has_input command.Expand r a h = file_has_input command.Expand r r.positional a h

complete_has_input : (c : Option Command) (r : Option Reading) (a : Asked) → complete c r ≡ Some a → IsInput a.input
complete_has_input None r a h = absurd (let none : None ≡ Some a = h in cc)
complete_has_input (Some c) None a h = absurd (let none : None ≡ Some a = h in cc)
complete_has_input (Some c) (Some r) a h = command_has_input c r a (some_of_if (is_some r.options.wants) (asked_by c r) a h)

pub asked_has_input : (words : List (List ℕ)) (a : Asked) → asked words ≡ Some a → IsInput a.input
asked_has_input [] a h = absurd (let none : None ≡ Some a = h in cc)
asked_has_input (word ∷ words) a h = complete_has_input (command_named word) (read_all (Some first_reading) words) a h
