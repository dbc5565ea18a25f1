-- The options of a rule are read one after another to the line's end.
use Rattle.std.proofs.Common.{◌≡◌, ℕ, ◌+◌, ◌≤◌, zero, suc, Bool, true, false, if◌then◌else◌, Some, None, Option, Result, Ok, Err, List, ◌∷◌, [], length, refl, arith, codes}
use Rattle.std.specs.Prelude.{IfOk, ⊤}
use Rattle.fw_rule.specs.FlowName.{default_flow}
use Rattle.fw_rule.specs.declared.test.Test.{Test}
use Rattle.fw_rule.specs.declared.test.Test.TheVariants.{Lookup}
use Rattle.fw_rule.specs.declared.state_opt.StateOpt.TheVariants.{Keep, Limit}
use Rattle.ipfw_parser.specs.declared.kind.Kind.TheVariants.{UnknownWord, Misplaced}
use Rattle.ipfw_parser.specs.Reading.{Word, Fault, fault_at, ◌>>=◌, same, first}
use Rattle.ipfw_parser.specs.Names.{is_any_flow, named_flow, starts_with_colon, table_name}
use Rattle.ipfw_parser.specs.Numbers.{number}
use Rattle.ipfw_parser.specs.Options.{field, has_argument, is_state, limit_behind, limit_mask, lookup, made_flow, option, options, plain_test, state, test_by, test_from, test_of, with_option, with_state}
use Rattle.ipfw_parser.specs.Laws.{OptionsAreReadInTurn}
use Rattle.ipfw_parser.proofs.Forms.Following.{on_bind, on_if, any_on}

-- two readings are one, where the second steps are one on whatever the first step may read
bind_same : {X Y : Type 0} (r : Result X Fault) (f g : X → Result Y Fault) (P : X → Type 0) → IfOk r P → ((x : X) → P x → f x ≡ g x) → (r >>= f) ≡ (r >>= g)
bind_same (Ok x) f g P p step = step x p
bind_same (Err e) f g P p step = refl

-- two readings are one, where they are on either branch
if_same : {X : Type 0} (b : Bool) (x y v w : X) → x ≡ v → y ≡ w → (if b then x else y) ≡ (if b then v else w)
if_same true x y v w p q = p
if_same false x y v w p q = q

-- behind the next word there is a word less
first_leaves : (end : ℕ) (words : List Word) → IfOk (first end words) (λ r. length r.1 + 1 ≤ length words)
unfolding first
first_leaves end [] = tt
first_leaves end (word ∷ words) = omega arith

flow_leaves : (words : List Word) → IfOk (made_flow words) (λ r. length r.1 ≤ length words)
unfolding made_flow
flow_leaves [] = omega arith
flow_leaves (word ∷ words) =
    on_if (starts_with_colon word.text) _ (Ok (default_flow, word ∷ words)) (λ r. length r.1 ≤ length (word ∷ words))
    (λ _. on_if (is_any_flow word.text) (fault_at word.column Misplaced) _ (λ r. length r.1 ≤ length (word ∷ words)) (λ _. tt)
    (λ _. on_bind (named_flow word) (λ name. Ok (name, words)) (λ _. ⊤) (λ r. length r.1 ≤ length (word ∷ words)) (any_on (named_flow word)) (λ name _. omega arith)))
    (λ _. omega arith)

limit_leaves : (end : ℕ) (words : List Word) → IfOk (limit_behind end words) (λ r. length r.1 ≤ length words)
unfolding limit_behind
limit_leaves end words =
    on_bind (first end words) _ (λ r. length r.1 + 1 ≤ length words) (λ r. length r.1 ≤ length words) (first_leaves end words) (λ mask a.
    on_bind (limit_mask mask.0) _ (λ _. ⊤) (λ r. length r.1 ≤ length words) (any_on (limit_mask mask.0)) (λ wanted _.
    on_bind (first end mask.1) _ (λ r. length r.1 + 1 ≤ length mask.1) (λ r. length r.1 ≤ length words) (first_leaves end mask.1) (λ most b.
    on_bind (number 1 65535 most.0) _ (λ _. ⊤) (λ r. length r.1 ≤ length words) (any_on (number 1 65535 most.0)) (λ n _.
    on_bind (made_flow most.1) (λ flow. Ok (Limit wanted n flow.0, flow.1)) (λ r. length r.1 ≤ length most.1) (λ r. length r.1 ≤ length words) (flow_leaves most.1) (λ flow c. omega (arith, a, b, c))))))

state_leaves : (end : ℕ) (word : Word) (words : List Word) → IfOk (state end word words) (λ r. length r.1 ≤ length words)
unfolding state
state_leaves end word words =
    on_if (same word.text (codes "keep-state")) _ _ (λ r. length r.1 ≤ length words)
    (λ _. on_bind (made_flow words) (λ flow. Ok (Keep flow.0, flow.1)) (λ r. length r.1 ≤ length words) (λ r. length r.1 ≤ length words) (flow_leaves words) (λ flow p. p))
    (λ _. on_if (same word.text (codes "limit")) (limit_behind end words) (fault_at word.column UnknownWord) (λ r. length r.1 ≤ length words) (λ _. limit_leaves end words) (λ _. tt))

lookup_leaves : (end : ℕ) (words : List Word) → IfOk (lookup end words) (λ r. length r.1 ≤ length words)
unfolding lookup
lookup_leaves end words =
    on_bind (first end words) _ (λ r. length r.1 + 1 ≤ length words) (λ r. length r.1 ≤ length words) (first_leaves end words) (λ which a.
    on_bind (field which.0) _ (λ _. ⊤) (λ r. length r.1 ≤ length words) (any_on (field which.0)) (λ found _.
    on_bind (first end which.1) _ (λ r. length r.1 + 1 ≤ length which.1) (λ r. length r.1 ≤ length words) (first_leaves end which.1) (λ table b.
    on_bind (table_name table.0) (λ name. Ok (Lookup found name, table.1)) (λ _. ⊤) (λ r. length r.1 ≤ length words) (any_on (table_name table.0)) (λ name _. omega (arith, a, b)))))

test_leaves : (end : ℕ) (word : Word) (words : List Word) (plain : Option Test) → IfOk (test_by end word words plain) (λ r. length r.1 ≤ length words)
test_leaves end word words (Some test) = omega arith
test_leaves end word words None =
    on_if (same word.text (codes "lookup")) (lookup end words) _ (λ r. length r.1 ≤ length words) (λ _. lookup_leaves end words)
    (λ _. on_if (has_argument word.text) _ (fault_at word.column UnknownWord) (λ r. length r.1 ≤ length words)
    (λ _. on_bind (first end words) _ (λ r. length r.1 + 1 ≤ length words) (λ r. length r.1 ≤ length words) (first_leaves end words) (λ next a.
    on_bind (test_of word next.0) (λ test. Ok (test, next.1)) (λ _. ⊤) (λ r. length r.1 ≤ length words) (any_on (test_of word next.0)) (λ test _. omega (arith, a))))
    (λ _. tt))

test_from_leaves : (end : ℕ) (word : Word) (words : List Word) → IfOk (test_from end word words) (λ r. length r.1 ≤ length words)
unfolding test_from
test_from_leaves end word words = test_leaves end word words (plain_test word.text)

option_leaves : (end : ℕ) (word : Word) (words : List Word) → IfOk (option end word words) (λ r. length r.1 ≤ length words)
unfolding option
option_leaves end word words =
    on_if (same word.text (codes "not")) _ _ (λ r. length r.1 ≤ length words)
    (λ _. on_bind (first end words) _ (λ r. length r.1 + 1 ≤ length words) (λ r. length r.1 ≤ length words) (first_leaves end words) (λ next a.
    on_if (is_state next.0.text) (fault_at word.column Misplaced) _ (λ r. length r.1 ≤ length words) (λ _. tt)
    (λ _. on_bind (test_from end next.0 next.1) (λ found. Ok (record { negated = true; test = found.0 }, found.1)) (λ r. length r.1 ≤ length next.1) (λ r. length r.1 ≤ length words) (test_from_leaves end next.0 next.1) (λ found b. omega (arith, a, b)))))
    (λ _. on_bind (test_from end word words) (λ found. Ok (record { negated = false; test = found.0 }, found.1)) (λ r. length r.1 ≤ length words) (λ r. length r.1 ≤ length words) (test_from_leaves end word words) (λ found b. b))

-- what is made of one reading is made of the same reading
same_rest : {X Y : Type 0} (r s : Result X Fault) (f : X → Result Y Fault) → r ≡ s → (r >>= f) ≡ (s >>= f)
same_rest r s f e = rw e refl

-- any two bounds that the words don't pass give the same
bounds_same : (a b end : ℕ) (seen : Bool) (words : List Word) → length words ≤ a → length words ≤ b → options a end seen words ≡ options b end seen words
unfolding options
bounds_same zero zero end seen words p q = refl
bounds_same zero (suc b) end seen [] p q = refl
bounds_same zero (suc b) end seen (word ∷ words) p q = absurd (omega (arith, p))
bounds_same (suc a) zero end seen [] p q = refl
bounds_same (suc a) zero end seen (word ∷ words) p q = absurd (omega (arith, q))
bounds_same (suc a) (suc b) end seen [] p q = refl
bounds_same (suc a) (suc b) end seen (word ∷ words) p q =
    if_same (is_state word.text) _ _ _ _
    (if_same seen _ _ _ _ refl
    (bind_same (state end word words) _ _ (λ r. length r.1 ≤ length words) (state_leaves end word words) (λ made few.
    same_rest (options a end true made.1) (options b end true made.1) (λ rest. Ok (with_state made.0 rest)) (bounds_same a b end true made.1 (omega (arith, p, few)) (omega (arith, q, few))))))
    (bind_same (option end word words) _ _ (λ r. length r.1 ≤ length words) (option_leaves end word words) (λ made few.
    same_rest (options a end seen made.1) (options b end seen made.1) (λ rest. Ok (with_option made.0 rest)) (bounds_same a b end seen made.1 (omega (arith, p, few)) (omega (arith, q, few)))))

-- the options of the words behind the first one are read with a bound of their own
pub read_in_turn : OptionsAreReadInTurn
unfolding options
read_in_turn end seen word words =
    if_same (is_state word.text) _ _ _ _
    (if_same seen _ _ _ _ refl
    (bind_same (state end word words) _ _ (λ r. length r.1 ≤ length words) (state_leaves end word words) (λ made few.
    same_rest (options (length words) end true made.1) (options (length made.1) end true made.1) (λ rest. Ok (with_state made.0 rest)) (bounds_same (length words) (length made.1) end true made.1 few (omega arith)))))
    (bind_same (option end word words) _ _ (λ r. length r.1 ≤ length words) (option_leaves end word words) (λ made few.
    same_rest (options (length words) end seen made.1) (options (length made.1) end seen made.1) (λ rest. Ok (with_option made.0 rest)) (bounds_same (length words) (length made.1) end seen made.1 few (omega arith))))
