-- The sections on the last edition and on the states tell nothing.
use Rattle.std.proofs.Common.{◌≡◌, ℕ, zero, suc, ◌+◌, ◌%◌, ◌^◌, ◌<◌, ◌≤◌, ◌==◌, Bool, true, false, List, [], ◌∷◌, ◌++◌, length, codes, refl, sym, ap, subst, ◌∙◌, inl, inr, arith, append_assoc}
use Rattle.std.specs.Fmt.{decimal}
use Rattle.std.specs.List.{flat_map, AllByRecursion}
use Rattle.std.specs.Prelude.{◌⊎◌, slice_index_or}
use Rattle.std.proofs.lemmas.Bool.{cases_Bool}
use Rattle.std.proofs.lemmas.Nat.{mod_below}
use Rattle.counter_book.specs.declared.tally.Count.{Count}
use Rattle.dyn_states.specs.StateObject.{StateObject}
use Rattle.dyn_states.specs.declared.state.State.{State}
use Rattle.fw_base.specs.Addr.{address_text}
use Rattle.report_texts.proofs.SilentWords.{number_is_silent}
use Rattle.report_texts.specs.AnswerText.{count_line}
use Rattle.report_texts.specs.Lines.{lines_in}
use Rattle.report_texts.specs.Report.{last_text}
use Rattle.report_texts.specs.RulesText.{counted_line, disabled_line, disabled_text, rules_text, set_text, sets_text}
use Rattle.fw_rule.specs.Bits.{has_bit}
use Rattle.fw_rule.specs.declared.rule.Rule.{Rule}
use Rattle.packet_headers.specs.declared.flows.Flow.{Flow}
use Rattle.rule_chain.specs.Configuration.{Configuration}
use Rattle.rule_round_trip.proofs.Masks.Bits.{low_clear}
use Rattle.rule_text.specs.Canonical.{five_digits, protocol_word, spaced_text}
use Rattle.state_texts.specs.StateTexts.{expiry_text, flow_text, name_end, state_line, states_heading, states_text}
use Rattle.run_audit.proofs.SilentParts.{flow_is_silent}
use Rattle.run_audit.proofs.ToldTexts.{silent_both}
use Rattle.audit_laws.proofs.Configs.{names_are_silent, rules_in_range}
use Rattle.audit_laws.proofs.HeadLines.{IsTail, clock_head, disabled_head, nothing_of_count, nothing_of_tail, states_head, tail_behind, tail_behind_number, tail_of_end}
use Rattle.audit_laws.proofs.RuleLines.{IsRuleInRange, nothing_of_counted, nothing_of_number, tail_is_silent}
use Rattle.audit_laws.proofs.ToldNothing.{TellsNothing, nothing_of_both, nothing_of_each, nothing_of_none}
use Rattle.audit_laws.specs.Printable.{IsPrintableConfig}

-- ---- the disabled sets

-- the sets from this one on begin with a space, or the mask has none of their bits
first_set : (mask sets set : ℕ) → ((tail : List ℕ) × (sets_text mask sets set ≡ 32 ∷ tail)) ⊎ (mask % 2 ^ (set + sets) ≡ mask % 2 ^ set)
unfolding sets_text
first_set mask zero set =
    let same : set + 0 ≡ set = omega arith in
    inr (ap (λ n. mask % 2 ^ n) same)
first_set mask (suc sets) set = elim (cases_Bool (has_bit mask set)) [
  | inl some ↦ inl (decimal set ++ sets_text mask sets (set + 1), rw some refl)
  | inr none ↦ elim (first_set mask sets (set + 1)) [
    | inl more ↦ inl (more.0, rw none more.1)
    | inr clear ↦
        let same : set + suc sets ≡ set + 1 + sets = omega arith in
        inr (ap (λ n. mask % 2 ^ n) same ∙ clear ∙ sym (low_clear mask set none))
  ]
]

sets_are_silent : (mask sets set : ℕ) → lines_in (sets_text mask sets set) ≡ 0
unfolding sets_text lines_in
sets_are_silent mask zero set = refl
sets_are_silent mask (suc sets) set = silent_both (set_text mask set) (sets_text mask sets (set + 1)) (one (has_bit mask set) refl) (sets_are_silent mask sets (set + 1))
  where
    one : (b : Bool) → has_bit mask set ≡ b → lines_in (set_text mask set) ≡ 0
    one true is = rw is (number_is_silent set)
    one false is = rw is refl

some_set : (mask : ℕ) → mask < 2 ^ 32 → (mask == 0) ≡ false → (tail : List ℕ) × (sets_text mask 32 0 ≡ 32 ∷ tail)
some_set mask small other = elim (first_set mask 32 0) [
  | inl some ↦ some
  | inr clear ↦ absurd (not_none mask (none_left mask small clear) other)
]
  where
    none_left : (m : ℕ) → m < 2 ^ 32 → m % 2 ^ (0 + 32) ≡ m % 2 ^ 0 → m ≡ 0
    none_left m little clear =
        let whole : m % 2 ^ 32 ≡ m = omega (arith, little) in
        let nothing : m % 2 ^ 0 < 1 = mod_below m 1 (omega arith) in
        omega (arith, whole, nothing, clear)

    not_none : (m : ℕ) → m ≡ 0 → (m == 0) ≡ false → ⊥
    not_none m is other = let wrong : true ≡ false = ap (λ n. n == 0) (sym is) ∙ other in absurd (cc)

-- the disabled sets
nothing_of_disabled : (disabled : ℕ) → disabled < 2 ^ 32 → TellsNothing (disabled_text disabled)
unfolding disabled_line
nothing_of_disabled disabled small = elim (cases_Bool (disabled == 0)) [
  | inl null ↦ rw null nothing_of_none
  | inr other ↦
      let (tail, is) = some_set disabled small other in
      let silent = tail_is_silent tail (sets_text disabled 32 0) is (sets_are_silent disabled 32 0) in
      let there : TellsNothing (codes "disabled" ++ ((32 ∷ tail) ++ codes "\n")) =
      nothing_of_tail (codes "disabled ") (tail ++ codes "\n") disabled_head (tail_behind tail (codes "\n") silent tail_of_end) in
      rw other (subst (λ (text : List ℕ). TellsNothing (codes "disabled" ++ (text ++ codes "\n"))) (sym is) there)
]

-- ---- rules

rules_tell : (tallies : List (List Count)) (rules : List Rule) → AllByRecursion IsRuleInRange rules → AllByRecursion (λ rule. TellsNothing (counted_line tallies rule)) rules
rules_tell tallies [] all = tt
rules_tell tallies (rule ∷ rules) all = (nothing_of_counted tallies rule all.0, rules_tell tallies rules all.1)

nothing_of_rules : (tallies : List (List Count)) (rules : List Rule) → AllByRecursion IsRuleInRange rules → TellsNothing (rules_text tallies rules)
unfolding rules_text
nothing_of_rules tallies rules all =
    nothing_of_both (count_line (length rules)) (flat_map (counted_line tallies) rules) (nothing_of_count (length rules))
    (nothing_of_each (counted_line tallies) rules (rules_tell tallies rules all))

-- ---- states

heading_words : lines_in (codes " expires ") ≡ 0
unfolding lines_in
heading_words = refl

nothing_of_heading : (object : StateObject) → TellsNothing (states_heading object)
unfolding states_heading
nothing_of_heading object =
    let states : List ℕ = codes "states " ++ (decimal (length object.states) ++ codes "\n") in
    let clock : List ℕ = decimal object.clock ++ codes "\n" in
    let same : (codes "clock " ++ clock) ++ states ≡ codes "clock " ++ (decimal object.clock ++ (codes "\n" ++ states)) =
    ap (λ (text : List ℕ). codes "clock " ++ text) (append_assoc (decimal object.clock) (codes "\n") states) in
    subst (λ (text : List ℕ). TellsNothing text) same
    (nothing_of_both (codes "clock " ++ clock) states
    (nothing_of_tail (codes "clock ") clock clock_head (tail_behind_number object.clock (codes "\n") tail_of_end))
    (nothing_of_tail (codes "states ") (decimal (length object.states) ++ codes "\n") states_head (tail_behind_number (length object.states) (codes "\n") tail_of_end)))

name_is_silent : (names : List (List ℕ)) (name : ℕ) → AllByRecursion (λ one. lines_in one ≡ 0) names → lines_in (slice_index_or names name []) ≡ 0
unfolding lines_in
name_is_silent [] name all = refl
name_is_silent (first ∷ names) zero all = all.0
name_is_silent (first ∷ names) (suc name) all = name_is_silent names name all.1

name_tail : (names : List (List ℕ)) (name : ℕ) (b : Bool) → (name == 0) ≡ b → AllByRecursion (λ one. lines_in one ≡ 0) names → IsTail (name_end names name)
unfolding lines_in
name_tail names name true is all = rw is tail_of_end
name_tail names name false is all =
    rw is (tail_behind (codes " :") _ refl (tail_behind (slice_index_or names name []) (codes "\n") (name_is_silent names name all) tail_of_end))

expiry_tail : (names : List (List ℕ)) (state : State) → AllByRecursion (λ one. lines_in one ≡ 0) names → IsTail (expiry_text names state)
unfolding expiry_text
expiry_tail names state all = tail_behind (codes " expires ") _ heading_words (tail_behind_number state.expiry _ (name_tail names state.name (state.name == 0) refl all))

-- the text of a flow begins with a space
flow_tail : Flow → List ℕ
flow_tail flow =
    protocol_word flow.protocol
    ++ spaced_text (address_text flow.source.0 ∷ decimal flow.source_port ∷ address_text flow.destination.0 ∷ decimal flow.destination_port ∷ [])

flow_spaced : (flow : Flow) → flow_text flow ≡ 32 ∷ flow_tail flow
unfolding flow_tail
flow_spaced flow = refl

nothing_of_state : (names : List (List ℕ)) (state : State) → AllByRecursion (λ one. lines_in one ≡ 0) names → state.rule.number ≤ 65535 → TellsNothing (state_line names state)
unfolding state_line
nothing_of_state names state all low =
    let expiry : List ℕ = expiry_text names state in
    let silent = tail_is_silent (flow_tail state.flow) (flow_text state.flow) (flow_spaced state.flow) (flow_is_silent state.flow) in
    let tail : IsTail (flow_tail state.flow ++ expiry) = tail_behind (flow_tail state.flow) expiry silent (expiry_tail names state all) in
    subst (λ (text : List ℕ). TellsNothing (five_digits state.rule.number ++ (text ++ expiry))) (sym (flow_spaced state.flow))
    (nothing_of_number state.rule.number (flow_tail state.flow ++ expiry) low tail.line tail.ends)

states_tell : (names : List (List ℕ)) (states : List State) → AllByRecursion (λ one. lines_in one ≡ 0) names → AllByRecursion (λ state. state.rule.number ≤ 65535) states
    → AllByRecursion (λ state. TellsNothing (state_line names state)) states
states_tell names [] silent all = tt
states_tell names (state ∷ states) silent all = (nothing_of_state names state silent all.0, states_tell names states silent all.1)

nothing_of_states : (names : List (List ℕ)) (object : StateObject) → AllByRecursion (λ one. lines_in one ≡ 0) names → AllByRecursion (λ state. state.rule.number ≤ 65535) object.states
    → TellsNothing (states_text names object)
nothing_of_states names object silent all =
    nothing_of_both (states_heading object) (flat_map (state_line names) object.states) (nothing_of_heading object)
    (nothing_of_each (state_line names) object.states (states_tell names object.states silent all))

-- disabled sets, rules and states
pub nothing_of_last : (config : Configuration) (tallies : List (List Count)) (object : StateObject) → IsPrintableConfig config → AllByRecursion (λ state. state.rule.number ≤ 65535) object.states
    → TellsNothing (last_text config tallies object)
unfolding last_text
nothing_of_last config tallies object is all =
    let few = is.lawful.disabled in
    nothing_of_both (disabled_text config.disabled) (rules_text tallies config.rules ++ states_text config.names object) (nothing_of_disabled config.disabled (omega (arith, few)))
    (nothing_of_both (rules_text tallies config.rules) (states_text config.names object) (nothing_of_rules tallies config.rules (rules_in_range config is))
    (nothing_of_states config.names object (names_are_silent config.names is.names) all))
