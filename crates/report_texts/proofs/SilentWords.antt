-- Words of a verdict line, none of which ends a line.
use Rattle.std.proofs.Common.{◌≡◌, ℕ, zero, suc, ◌+◌, ◌/◌, ◌%◌, true, false, cond, nat_lt, nat_eq, unwrap_or, slice_get, List, [], ◌∷◌, ◌++◌, replicate, refl, ◌∙◌, arith}
use Rattle.std.proofs.lemmas.Bool.Decides.{nat_tests}
use Rattle.std.specs.Fmt.{decimal, digits, digits_onto, digit_glyph}
use Rattle.std.specs.List.{AllByRecursion}
use Rattle.fw_rule.specs.Names.{unreach_names}
use Rattle.rule_text.specs.Canonical.{five_digits, code_word}
use Rattle.eval_engine.specs.declared.judgement.Cause.{Cause}
use Rattle.eval_engine.specs.declared.judgement.Cause.TheVariants.{Rule, Limit, Full}
use Rattle.eval_engine.specs.declared.judgement.Verdict.{Verdict}
use Rattle.eval_engine.specs.declared.judgement.Verdict.TheVariants.{Allow, Deny, Reset, Unreach}
use Rattle.report_texts.specs.DocketText.{verdict_word, verdict_code, cause_word, cause_count}
use Rattle.report_texts.specs.Lines.{lines_in}

-- the lines of a text are those of its parts
pub lines-append : (xs ys : List ℕ) → lines_in (xs ++ ys) ≡ lines_in xs + lines_in ys
unfolding lines_in
lines-append [] ys = omega arith
lines-append (x ∷ xs) ys =
    let rest = lines-append xs ys in
    elim (nat_eq x 10) as (λ b. cond b (1 + lines_in (xs ++ ys)) (lines_in (xs ++ ys)) ≡ cond b (1 + lines_in xs) (lines_in xs) + lines_in ys) [ true ↦ omega (arith, rest) | false ↦ rest ]

-- a digit ends no line
pub glyph_is_silent : (d : ℕ) → nat_eq (digit_glyph false d) 10 ≡ false
glyph_is_silent d =
    elim (nat_lt d 10) as (λ b. nat_eq (cond b (48 + d) (87 + d)) 10 ≡ false) [ true ↦ grind (arith, nat_tests) | false ↦ grind (arith, nat_tests) ]

-- digits in front of bytes end no line
pub onto_is_silent : (k n : ℕ) (acc : List ℕ) → lines_in (digits_onto k 10 false n acc) ≡ lines_in acc
unfolding lines_in
onto_is_silent zero n acc = refl
onto_is_silent (suc k) n acc =
    let first : lines_in (digit_glyph false (n % 10) ∷ acc) ≡ lines_in acc = rw (glyph_is_silent (n % 10)) refl in
    elim (nat_eq (n / 10) 0) as (λ b. lines_in (cond b (digit_glyph false (n % 10) ∷ acc) (digits_onto k 10 false (n / 10) (digit_glyph false (n % 10) ∷ acc))) ≡ lines_in acc) [
      | true ↦ first
      | false ↦ onto_is_silent k (n / 10) (digit_glyph false (n % 10) ∷ acc) ∙ first
    ]

-- a number ends no line
pub number_is_silent : (n : ℕ) → lines_in (decimal n) ≡ 0
unfolding digits lines_in
number_is_silent n = onto_is_silent 64 n []

-- zeros in front end no line
pub zeros_are_silent : (k : ℕ) → lines_in (replicate k 48) ≡ 0
unfolding lines_in
zeros_are_silent zero = refl
zeros_are_silent (suc k) = zeros_are_silent k

-- a rule's number ends no line
pub five_digits_are_silent : (n : ℕ) → lines_in (five_digits n) ≡ 0
unfolding five_digits
five_digits_are_silent n = lines-append _ (decimal n) ∙ rw (zeros_are_silent _, number_is_silent n) refl

-- a name of a table without line ends has none
pub named_is_silent : (names : List (List ℕ)) (i : ℕ) (d : List ℕ) → AllByRecursion (λ name. lines_in name ≡ 0) names → lines_in d ≡ 0 → lines_in (unwrap_or (slice_get names i) d) ≡ 0
named_is_silent [] i d all none = none
named_is_silent (name ∷ names) zero d all none = all.0
named_is_silent (name ∷ names) (suc i) d all none = named_is_silent names i d all.1 none

-- the word of an `unreach` ends no line
pub code_is_silent : (n : ℕ) → lines_in (code_word n) ≡ 0
unfolding code_word unreach_names lines_in
code_is_silent n = named_is_silent unreach_names n (decimal n) (refl, (refl, (refl, (refl, (refl, (refl, (refl, (refl, (refl, (refl, (refl, (refl, (refl, (refl, (refl, (refl, tt)))))))))))))))) (number_is_silent n)

-- a verdict's word ends no line
pub verdict_is_silent : (verdict : Verdict) → lines_in (verdict_word verdict) ≡ 0
unfolding lines_in
verdict_is_silent Allow = refl
verdict_is_silent Deny = refl
verdict_is_silent Reset = refl
verdict_is_silent (Unreach n) = refl

-- what stands behind it ends no line
pub verdict_code_is_silent : (verdict : Verdict) → lines_in (verdict_code verdict) ≡ 0
unfolding lines_in
verdict_code_is_silent Allow = refl
verdict_code_is_silent Deny = refl
verdict_code_is_silent Reset = refl
verdict_code_is_silent (Unreach n) = code_is_silent n

-- a cause's word ends no line
pub cause_is_silent : (c : Cause) → lines_in (cause_word c) ≡ 0
unfolding lines_in
cause_is_silent Rule = refl
cause_is_silent (Limit n) = refl
cause_is_silent (Full n) = refl

-- a cause's count ends no line
pub cause_count_is_silent : (c : Cause) → lines_in (cause_count c) ≡ 0
unfolding lines_in
cause_count_is_silent Rule = refl
cause_count_is_silent (Limit n) = number_is_silent n
cause_count_is_silent (Full n) = number_is_silent n
