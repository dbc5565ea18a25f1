-- Flow names by the bits of a mask.
use Rattle.std.proofs.Common.{◌≡◌, ◌≢◌, ℕ, ◌<◌, ◌*◌, ◌^◌, ◌%◌, Bool, true, false, ◌||◌, max, nat_eq, refl, ap, ◌∙◌, arith, bit_or}
use Rattle.std.specs.Int.{bit_at}
use Rattle.std.proofs.lemmas.Nat.Bits.{bit_at_or, bit_at-lt, bit_at-pow_same, bit_at-pow_other}
use Rattle.std.proofs.lemmas.Nat.{one_shl}
use Rattle.fw_rule.specs.Bits.{has_bit}
use Rattle.state_asks.specs.declared.op.FlowName.{FlowName}
use Rattle.state_asks.specs.declared.op.FlowName.TheVariants.{Any, Named}
use Rattle.eval_engine.specs.Standing.{is_searched, seen_by}
use Rattle.eval_engine.specs.Trace.{Names, with_seen, is_same_name}

same_bit : (a b : ℕ) → a < 2 → b ≡ 1 → nat_eq (max a b) 1 ≡ (nat_eq a 1 || true)
same_bit a b lt one = grind arith

other_bit : (a b : ℕ) → b ≡ 0 → nat_eq (max a b) 1 ≡ (nat_eq a 1 || false)
other_bit a b zero = grind arith

-- a bit that is set joins the others
pub has_bit-set : (mask number other : ℕ) → has_bit (bit_or mask (2 ^ number)) other ≡ (has_bit mask other || nat_eq number other)
has_bit-set mask number other =
    ap (λ b. nat_eq b 1) (bit_at_or mask (2 ^ number) other) ∙ go (nat_eq number other) refl
  where
    go : (b : Bool) → nat_eq number other ≡ b → nat_eq (max (bit_at mask other) (bit_at (2 ^ number) other)) 1 ≡ (has_bit mask other || b)
    go true is =
        let same : other ≡ number = grind arith in
        same_bit (bit_at mask other) (bit_at (2 ^ number) other) (bit_at-lt mask other) (ap (λ i. bit_at (2 ^ number) i) same ∙ bit_at-pow_same number)
    go false is =
        let apart : other ≢ number = grind arith in
        other_bit (bit_at mask other) (bit_at (2 ^ number) other) (bit_at-pow_other number other apart)

-- functions with the same values are the same
pub same_values : {A B : Type 0} (f g : A → B) → ((x : A) → f x ≡ g x) → f ≡ g
same_values f g h = λ i x. h x i

bool_or-false : (b : Bool) → b ≡ (b || false)
bool_or-false true = refl
bool_or-false false = refl

bool_or-true : (b : Bool) → true ≡ (b || true)
bool_or-true true = refl
bool_or-true false = refl

joins : (named number : ℕ) (any : Bool) (set : ℕ) → set ≡ 2 ^ number → (name : FlowName)
    → is_searched (record { named = bit_or named set; any = any; found = false }) name ≡ (is_searched (record { named = named; any = any; found = false }) name || is_same_name (Named number) name)
joins named number any set is Any = bool_or-false any
joins named number any set is (Named other) = rw is (has_bit-set named number other)

-- a name that is looked up joins the others
pub with_name : (named number : ℕ) (any found : Bool) → number < 64
    → seen_by (record { named = bit_or named (1 * 2 ^ number % 2 ^ 64); any = any; found = found }) ≡ with_seen (seen_by (record { named = named; any = any; found = found })) (Named number)
with_name named number any true lt = refl
with_name named number any false lt = ap (λ (names : FlowName → Bool). Names names) (same_values _ _ (joins named number any _ (one_shl number 64 lt)))
