-- The names of flows in their canonical words are read again.
use Rattle.std.proofs.Common.{◌≡◌, ◌≢◌, ◌⊎◌, ℕ, Bool, true, false, if◌then◌else◌, nat_eq, Some, None, Option, Ok, List, ◌∷◌, ◌++◌, codes, refl, sym, ap, ◌∙◌, inl, inr, []}
use Rattle.std.specs.Prelude.{IfSome, ⊤}
use Rattle.std.specs.Cmp.Lexicographic.{pointwise, bytes_decides}
use Rattle.rule_text.specs.Canonical.{WordTexts, flow_words, looked_up_words}
use Rattle.fw_rule.specs.FlowName.{default_flow}
use Rattle.ipfw_parser.specs.Reading.{WordReading, same}
use Rattle.ipfw_parser.specs.Names.{starts_with_colon, is_any_flow, named_flow}
use Rattle.ipfw_parser.specs.Options.{made_flow}
use Rattle.ipfw_parser.specs.Rules.{looked_up_flow}
use Rattle.ipfw_parser.specs.Forms.{IsFlowForm}
use Rattle.rule_round_trip.proofs.Words.Columns.{at_columns}

-- two texts that differ aren't the same
pub not_same_texts : (text name : List ℕ) → text ≢ name → same text name ≡ false
unfolding same
not_same_texts text name other = by (pointwise nat_eq text name) (bytes_decides text name).0
  where
    by : (b : Bool) → (b ≡ true → text ≡ name) → b ≡ false
    by true e = absurd (other (e refl))
    by false e = refl

-- the words begin with no colon, so with no name of a flow
abbrev pub BeginPlain : WordTexts → Type 0
BeginPlain [] = ⊤
BeginPlain (word ∷ words) = starts_with_colon word ≡ false

made_default : (c : List (List ℕ) → ℕ) (rest : WordTexts) → BeginPlain rest → made_flow (at_columns c rest) ≡ Ok (default_flow, at_columns c rest)
unfolding made_flow
made_default c [] plain = refl
made_default c (word ∷ rest) plain = rw plain refl

made_named : (c : List (List ℕ) → ℕ) (name : List ℕ) (rest : WordTexts) → IsFlowForm name → made_flow (at_columns c ((58 ∷ name) ∷ rest)) ≡ Ok (name, at_columns c rest)
unfolding made_flow starts_with_colon is_any_flow named_flow
made_named c name rest form = rw (not_same_texts name (codes "any") form.one, form.bytes) refl

-- the default's name isn't written, each other is
named_or : (name : List ℕ) → ((flow_words name ≡ []) × (name ≡ default_flow)) ⊎ (flow_words name ≡ (58 ∷ name) ∷ [])
named_or name = by (pointwise nat_eq name default_flow) refl
  where
    by : (b : Bool) → pointwise nat_eq name default_flow ≡ b → ((flow_words name ≡ []) × (name ≡ default_flow)) ⊎ (flow_words name ≡ (58 ∷ name) ∷ [])
    by true e = inl (ap (λ t. if t then [] else (58 ∷ name) ∷ []) e, (bytes_decides name default_flow).0 e)
    by false e = inr (ap (λ t. if t then [] else (58 ∷ name) ∷ []) e)

-- the name of the flow that states are of
pub flow_again : (c : List (List ℕ) → ℕ) (name : List ℕ) (rest : WordTexts) → IsFlowForm name → BeginPlain rest → made_flow (at_columns c (flow_words name ++ rest)) ≡ Ok (name, at_columns c rest)
flow_again c name rest form plain = elim (named_or name) [
  | inl h ↦
      ap (λ ws. made_flow (at_columns c (ws ++ rest))) h.0 ∙ made_default c rest plain
      ∙ ap (λ n. let r : WordReading (List ℕ) = Ok (n, at_columns c rest) in r) (sym h.1)
  | inr h ↦ ap (λ ws. made_flow (at_columns c (ws ++ rest))) h ∙ made_named c name rest form
]

looked_default : (c : List (List ℕ) → ℕ) → looked_up_flow (at_columns c []) ≡ Ok (Some default_flow, [])
unfolding looked_up_flow
looked_default c = refl

looked_named : (c : List (List ℕ) → ℕ) (name : List ℕ) → IsFlowForm name → looked_up_flow (at_columns c ((58 ∷ name) ∷ [])) ≡ Ok (Some name, [])
unfolding looked_up_flow starts_with_colon is_any_flow named_flow
looked_named c name form = rw (not_same_texts name (codes "any") form.one, form.bytes) refl

looked_any : (c : List (List ℕ) → ℕ) → looked_up_flow (at_columns c (codes ":any" ∷ [])) ≡ Ok (None, [])
unfolding looked_up_flow starts_with_colon is_any_flow same
looked_any c = refl

-- the flow that is looked up
pub looked_up_again : (c : List (List ℕ) → ℕ) (flow : Option (List ℕ)) → IfSome flow IsFlowForm → looked_up_flow (at_columns c (looked_up_words flow)) ≡ Ok (flow, [])
looked_up_again c None form = looked_any c
looked_up_again c (Some name) form = elim (named_or name) [
  | inl h ↦
      ap (λ ws. looked_up_flow (at_columns c ws)) h.0 ∙ looked_default c ∙ ap (λ n. let r : WordReading (Option (List ℕ)) = Ok (Some n, []) in r) (sym h.1)
  | inr h ↦ ap (λ ws. looked_up_flow (at_columns c ws)) h ∙ looked_named c name form
]
