-- What a line tells of an ask under its edition: the ask itself.
use Rattle.std.proofs.Common.{◌≡◌, ◌≢◌, ℕ, zero, suc, ◌+◌, ◌<◌, ◌==◌, ◌&&◌, not, nat_eq, nat_lt, Bool, true, false, Some, List, [], ◌∷◌, ◌++◌, length, refl, sym, ap, ◌∙◌, inl, inr, arith}
use Rattle.std.specs.Cmp.Lexicographic.{pointwise}
use Rattle.std.specs.List.{list_any, position, position_or_len}
use Rattle.std.specs.Prelude.{slice_get, slice_index_or}
use Rattle.std.proofs.Math.ListN.{get_or-append}
use Rattle.std.proofs.lemmas.Bool.{cases_Bool, and_parts, eqb-true}
use Rattle.std.proofs.lemmas.Bool.Decides.{nat_tests}
use Rattle.std.proofs.lemmas.Option.{get_or_from_slice_get, slice_get_within}
use Rattle.eval_engine.specs.Encounter.{is_disabled}
use Rattle.eval_engine.specs.Question.{Question}
use Rattle.evaluation_laws.specs.Laws.{is_installed, is_ref}
use Rattle.report_texts.specs.AskText.{asked_name}
use Rattle.report_texts.specs.JournalText.{name_numbered}
use Rattle.fw_rule.specs.declared.rule.Rule.{Rule}
use Rattle.generation_store.specs.Published.{is_identity, place_of_rule}
use Rattle.report_reading.specs.AskLines.{printed_op}
use Rattle.rule_chain.specs.Chain.{HaveOwnIds, IsConfiguration}
use Rattle.rule_chain.specs.Names.{AreNames}
use Rattle.rule_edits.proofs.FlowNames.{name_same}
use Rattle.state_asks.specs.declared.op.FlowName.TheVariants.{Any, Named}
use Rattle.state_asks.specs.declared.op.Op.{Op}
use Rattle.state_asks.specs.declared.op.Op.TheVariants.{Lookup, Install}
use Rattle.state_asks.specs.declared.rule_ref.RuleRef.{RuleRef}
use Rattle.run_audit.proofs.LaneAsks.{some_within}
use Rattle.run_audit.specs.ToldAsks.{number_among, op_under, rule_among}
use Rattle.audit_laws.proofs.AskedNames.{IsAskedBelow}
use Rattle.audit_laws.proofs.Lists.{in_place, other_number}

-- ---- the first that passes

length_or_less : {X : Type 0} (p : X → Bool) (xs : List X) (k : ℕ) (x : X) → slice_get xs k ≡ Some x → p x ≡ true → ((j : ℕ) (y : X) → j < k → slice_get xs j ≡ Some y → p y ≡ false) → position_or_len p xs ≡ k
length_or_less p [] k x is passes before = absurd (cc)
length_or_less p (y ∷ xs) zero x is passes before =
    let same : y ≡ x = cc in
    let first : p y ≡ true = ap p same ∙ passes in
    rw first refl
length_or_less p (y ∷ xs) (suc k) x is passes before =
    let first : p y ≡ false = before 0 y (omega arith) refl in
    let more : position_or_len p xs ≡ k = length_or_less p xs k x is passes (λ j z less there. before (suc j) z (omega (arith, less)) there) in
    rw first (rw more (one_more k))
  where
    one_more : (n : ℕ) → 1 + n ≡ suc n
    one_more n = omega arith

-- the place of the first that passes
first_place : {X : Type 0} (p : X → Bool) (xs : List X) (k : ℕ) (x : X) → slice_get xs k ≡ Some x → p x ≡ true → ((j : ℕ) (y : X) → j < k → slice_get xs j ≡ Some y → p y ≡ false) → position p xs ≡ Some k
first_place p xs k x is passes before =
    let place = length_or_less p xs k x is passes before in
    let within : k < length xs = slice_get_within xs k x is in
    let test : nat_lt k (length xs) ≡ true = grind (arith, nat_tests, within) in
    rw (place, test) refl

-- ---- names

-- a name that an edition has a number for is found again by its text, which all later editions keep
name_again : (own more : List (List ℕ)) (number : ℕ) → AreNames own → number < length own → number_among own (name_numbered (own ++ more) number) ≡ Some number
name_again own more number lawful less =
    let name : List ℕ = slice_index_or (own ++ more) number [] in
    let here : name ≡ slice_index_or own number [] = get_or-append own more [] number less in
    let (found, is) = some_within own number less in
    let same : slice_index_or own number [] ≡ found = get_or_from_slice_get own number found [] is in
    let passes : pointwise nat_eq found name ≡ true = (name_same found name).1 (sym same ∙ sym here) in
    first_place (λ other. pointwise nat_eq other name) own number found is passes
    (λ j other before there. unlike j other name (here) before there)
  where
    unlike : (j : ℕ) (other name : List ℕ) → name ≡ slice_index_or own number [] → j < number → slice_get own j ≡ Some other → pointwise nat_eq other name ≡ false
    unlike j other name here before there = elim (cases_Bool (pointwise nat_eq other name)) [
      | inl same ↦
          let bytes : other ≡ name = (name_same other name).0 same in
          let at : slice_index_or own j [] ≡ other = get_or_from_slice_get own j other [] there in
          absurd (lawful.distinct j number before less (at ∙ bytes ∙ here))
      | inr apart ↦ apart
    ]

-- ---- rules

-- the rule in a place, and that no rule before it has its identity
record StandsFirst (rules : List Rule) (ref : RuleRef) : Type 0 where
  place : ℕ
  rule : Rule
  found : slice_get rules place ≡ Some rule
  own : is_ref ref rule ≡ true
  before : (j : ℕ) (other : Rule) → j < place → slice_get rules j ≡ Some other → is_identity ref.id other ≡ false

identity_of : (ref : RuleRef) (rule : Rule) → is_ref ref rule ≡ true → rule.id ≡ ref.id
identity_of ref rule is = eqb-true rule.id ref.id (and_parts (rule.id == ref.id) (rule.number == ref.number) is).0

number_of : (ref : RuleRef) (rule : Rule) → is_ref ref rule ≡ true → rule.number ≡ ref.number
number_of ref rule is = eqb-true rule.number ref.number (and_parts (rule.id == ref.id) (rule.number == ref.number) is).1

stands_first : (q : Question) (ref : RuleRef) (rules : List Rule) → HaveOwnIds rules → list_any (λ r. is_ref ref r && not (is_disabled q r)) rules ≡ true → StandsFirst rules ref
stands_first q ref [] own is = absurd (cc)
stands_first q ref (rule ∷ rules) own is = elim (cases_Bool (is_ref ref rule && not (is_disabled q rule))) [
  | inl here ↦ record {
    place = 0;
    rule = rule;
    found = refl;
    own = (and_parts (is_ref ref rule) (not (is_disabled q rule)) here).0;
    before = λ j other less there. absurd (omega (arith, less));
  }
  | inr apart ↦
      let rest : list_any (λ r. is_ref ref r && not (is_disabled q r)) rules ≡ true = rw apart at is in
      let more = stands_first q ref rules own.1 rest in
      let other_id : more.rule.id ≢ rule.id = in_place (λ (other : Rule). other.id ≢ rule.id) rules more.place more.rule own.0 more.found in
      let same = identity_of ref more.rule more.own in
      record {
        place = suc more.place;
        rule = more.rule;
        found = more.found;
        own = more.own;
        before = behind (other_number rule.id ref.id (λ is_same. other_id (same ∙ sym is_same))) more.place more.before;
      }
]
  where
    behind : is_identity ref.id rule ≡ false → (place : ℕ) → ((j : ℕ) (other : Rule) → j < place → slice_get rules j ≡ Some other → is_identity ref.id other ≡ false)
        → (j : ℕ) (other : Rule) → j < suc place → slice_get (rule ∷ rules) j ≡ Some other → is_identity ref.id other ≡ false
    behind first place rest zero other less there =
        let same : rule ≡ other = cc in
        ap (is_identity ref.id) (sym same) ∙ first
    behind first place rest (suc j) other less there = rest j other (omega (arith, less)) there

-- a rule of an edition is found again by its identity
rule_again : (q : Question) (ref : RuleRef) (rules : List Rule) → HaveOwnIds rules → list_any (λ r. is_ref ref r && not (is_disabled q r)) rules ≡ true → rule_among rules ref.id ≡ Some ref
rule_again q ref rules own is =
    let first = stands_first q ref rules own is in
    let identity : is_identity ref.id first.rule ≡ true = (and_parts (first.rule.id == ref.id) (first.rule.number == ref.number) first.own).0 in
    let place : place_of_rule ref.id rules ≡ Some first.place = first_place (is_identity ref.id) rules first.place first.rule first.found identity first.before in
    let found = first.found in
    let number : first.rule.number ≡ ref.number = number_of ref first.rule first.own in
    rw (place, found) (ap (λ (n : ℕ). Some (record { id = ref.id; number = n })) number)

-- ---- asks

-- the line of an ask that an evaluation makes tells the ask, whatever names later editions have besides
pub ask_again : (q : Question) (more : List (List ℕ)) (op : Op) → IsConfiguration q.edition.config → IsAskedBelow (length q.edition.config.names) op → is_installed q op ≡ true
    → op_under q.edition (printed_op op) (asked_name (q.edition.config.names ++ more) op) ≡ Some op
unfolding op_under
ask_again q more (Lookup flags flow second Any) lawful below installed = refl
ask_again q more (Lookup flags flow second (Named number)) lawful below installed = rw (name_again q.edition.config.names more number lawful.names below) refl
ask_again q more (Install flags flow second rule limit number) lawful below installed =
    rw (rule_again q rule q.edition.config.rules lawful.distinct installed, name_again q.edition.config.names more number lawful.names below.0) refl
