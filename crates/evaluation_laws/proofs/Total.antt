-- The manual's sentences lead each evaluation to an end: between two asks a call goes deeper, or fewer rules are left.
use Rattle.std.proofs.Common.{◌≡◌, ℕ, zero, suc, ◌+◌, ◌-◌, ◌≤◌, ◌<◌, Bool, true, false, max, nat_lt, Option, Some, None, List, [], ◌∷◌, length, get_or, drop, refl, ap, sym, ◌∙◌, subst, arith}
use Rattle.std.specs.Prelude.{⊤}
use Rattle.std.specs.List.{list_any, position_or_len}
use Rattle.std.proofs.lemmas.List.{drop-drop}
use Rattle.state_asks.specs.declared.reply.Reply.{Reply}
use Rattle.state_asks.specs.declared.reply.Reply.TheVariants.{Found, NotFound, Created, Exists, LimitReached, TableFull}
use Rattle.fw_rule.specs.declared.action.Action.{Action}
use Rattle.fw_rule.specs.declared.action.Action.TheVariants.{Allow, Deny, Reset, Unreach, Count, SkipTo, Call, Return, CheckState}
use Rattle.fw_rule.specs.declared.rule.Rule.{Rule}
use Rattle.fw_rule.specs.declared.state_opt.StateOpt.{StateOpt}
use Rattle.generation_store.specs.Jumps.{first_from, is_from}
use Rattle.generation_store.specs.Published.{is_identity, has_identity}
use Rattle.packet_headers.specs.declared.flows.Flow.{Flow}
use Rattle.rule_chain.specs.Chain.{AscendsFrom}
use Rattle.eval_engine.specs.Encounter.{is_disabled, is_check_state, is_rule_met, state_of, any_flow_of, rule_ref, name_at, lookup_by, install_by}
use Rattle.eval_engine.specs.Evaluation.{is_reply_to}
use Rattle.eval_engine.specs.Laws.{verdict_of}
use Rattle.eval_engine.specs.Question.{Question}
use Rattle.eval_engine.specs.Trace.{Seen, Done, with_seen, no_names}
use Rattle.eval_engine.specs.Walk.{lookup_flow}
use Rattle.eval_engine.specs.declared.judgement.Cause.TheVariants as cause
use Rattle.eval_engine.specs.declared.judgement.Verdict.{Verdict}
use Rattle.eval_engine.specs.declared.judgement.Verdict.TheVariants as verdict
use Rattle.eval_engine.proofs.Configured.{rule_read}
use Rattle.eval_engine.proofs.Places.{behind, first_behind_place}
use Rattle.evaluation_laws.specs.Story.{Ending, Ends, OpensAt, Mistakes, Returns, Story, plain_story, story_with_ask, story_with_hit}
use Rattle.evaluation_laws.specs.Story as story
use Rattle.evaluation_laws.specs.Runs.{Moment, Meets, Tests, Acts, rules_from, judgement_under, last_judgement, HasEnded, Runs, BehindAll, IsDisabled, IsUnasked, IsUnanswered, IsFound, IsNotFound, IsMistaken, IsCheckState, IsUnheld, IsFlowless, IsStateless, IsWaiting, IsMade, IsThere, IsLimited, IsFull, IsMisread, IsDecided, IsCounted, IsChecked, IsSkipped, IsDeepest, IsEnded, IsReturned, IsOutside, IsWithin}
use Rattle.evaluation_laws.proofs.Sound.{IsSuffix, rest_suffix, rest_there, within}

-- a `return` leaves no more replies than there were
abbrev IsFewer : Ending → ℕ → Type 0
IsFewer (Ends judgement left) most = ⊤
IsFewer (OpensAt op) most = ⊤
IsFewer Mistakes most = ⊤
IsFewer (Returns seen left) most = length left ≤ most

no_more : (ending : Ending) (most more : ℕ) → most ≤ more → IsFewer ending most → IsFewer ending more
no_more (Ends judgement left) most more le is = tt
no_more (OpensAt op) most more le is = tt
no_more Mistakes most more le is = tt
no_more (Returns seen left) most more le is = omega arith

-- a run to some end
pub record Reached (q : Question) (depth : ℕ) (seen : Seen) (moment : Moment) (replies : List Reply) : Type 0 where
  pub story : Story
  pub runs : Runs q depth seen moment replies story
  pub fewer : IsFewer story.ending (length replies)

from_zero : (rules : List Rule) → rules_from 0 rules ≡ rules
from_zero [] = refl
from_zero (rule ∷ rules) = let is : is_from 0 rule ≡ true = grind arith in rw is refl

-- a leading rule that is numbered below, and one that isn't
from_below : (number : ℕ) (rule : Rule) (rules : List Rule) → is_from number rule ≡ false → rules_from number (rule ∷ rules) ≡ rules_from number rules
from_below number rule rules is = let one : 1 + first_from number rules ≡ suc (first_from number rules) = omega arith in rw (is, one) refl

from_here : (number : ℕ) (rule : Rule) (rules : List Rule) → is_from number rule ≡ true → rules_from number (rule ∷ rules) ≡ rule ∷ rules
from_here number rule rules is = rw is refl

-- behind a rule's own place, and behind all of its number, stands the same
from_behind : (all : List Rule) (rule : Rule) (rest : List Rule) → AscendsFrom 1 all → (suffix : IsSuffix all (rule ∷ rest)) → rules_from (rule.number + 1) rest ≡ rules_from (rule.number + 1) all
from_behind all rule rest h suffix =
    let place : ℕ = suffix.place in
    let number : ℕ = rule.number + 1 in
    let inside = within all place rule rest suffix.is in
    let read : get_or all place rule ≡ rule = rule_read all place rule rest suffix.is in
    let later : place < first_from ((get_or all place rule).number + 1) all = behind 1 all place rule h inside in
    let same : first_from ((get_or all place rule).number + 1) all ≡ first_from number all = ap (λ (r : Rule). first_from (r.number + 1) all) read in
    let most : max (suc place) (first_from number all) ≡ first_from number all = omega arith in
    ap (λ (rules : List Rule). rules_from number rules) (sym (rest_there all place rule rest suffix.is))
    ∙ drop-drop (first_from number (drop (suc place) all)) (suc place) all
    ∙ ap (λ k. drop k all) (first_behind_place 1 number all (suc place) rule h (omega arith) ∙ most)

-- the rules from the first one that passes on
record Leads (p : Rule → Bool) (rules : List Rule) : Type 0 where
  first : Rule
  after : List Rule
  is : drop (position_or_len p rules) rules ≡ first ∷ after

any_other : (p : Rule → Bool) (rule : Rule) (rules : List Rule) → p rule ≡ false → list_any p (rule ∷ rules) ≡ true → list_any p rules ≡ true
any_other p rule rules here is = let same : list_any p (rule ∷ rules) ≡ list_any p rules = rw here refl in sym same ∙ is

leads : (p : Rule → Bool) (rules : List Rule) → list_any p rules ≡ true → Leads p rules
leads p [] is = absurd (grind arith)
leads p (rule ∷ rules) is = go (leads p rules) (p rule) refl
  where
    later : p rule ≡ false → Leads p rules → Leads p (rule ∷ rules)
    later here next =
        let one : 1 + position_or_len p rules ≡ suc (position_or_len p rules) = omega arith in
        record { first = next.first; after = next.after; is = rw (here, one) next.is }

    go : (list_any p rules ≡ true → Leads p rules) → (b : Bool) → p rule ≡ b → Leads p (rule ∷ rules)
    go on true here = record { first = rule; after = rules; is = rw here refl }
    go on false here = later here (on (any_other p rule rules here is))

module _ (q : Question) (ascends : AscendsFrom 1 q.edition.config.rules) where
  abbrev all : List Rule
  all = q.edition.config.rules

  -- from the first of these rules numbered so on, with so many replies at most
  abbrev Goes : ℕ → ℕ → List Rule → Type 0
  Goes fuel depth rest = (seen : Seen) (number : ℕ) (replies : List Reply) → length replies ≤ fuel → Reached q depth seen (Meets (rules_from number rest)) replies

  module _ (fuel depth : ℕ) (deeper : depth < 16 → Goes fuel (suc depth) all) (rule : Rule) (rest : List Rule) (suffix : IsSuffix all (rule ∷ rest)) (on : Goes fuel depth rest) where
    next : (seen : Seen) (replies : List Reply) → length replies ≤ fuel → Reached q depth seen (Meets rest) replies
    next seen replies le = subst (λ (rules : List Rule). Reached q depth seen (Meets rules) replies) (from_zero rest) (on seen 0 replies le)

    -- `call`, and what comes of it
    calls : (seen : Seen) (number : ℕ) (replies : List Reply) → length replies ≤ fuel → rule.action ≡ Call number → Reached q depth seen (Acts rule rest) replies
    calls seen number replies le is = go (nat_lt depth 16) refl
      where
        returned : (lt : depth < 16) (inner : Reached q (suc depth) seen (Meets (rules_from number all)) replies) (ending : Ending) → inner.story.ending ≡ ending → IsFewer ending (length replies) → Reached q depth seen (Acts rule rest) replies
        returned lt inner (Ends judgement left) ends few =
            record { story = story_with_hit rule.counter inner.story; runs = IsEnded depth seen rule rest number replies inner.story is lt inner.runs (subst HasEnded (sym ends) tt); fewer = inner.fewer }
        returned lt inner (OpensAt op) ends few =
            record { story = story_with_hit rule.counter inner.story; runs = IsEnded depth seen rule rest number replies inner.story is lt inner.runs (subst HasEnded (sym ends) tt); fewer = inner.fewer }
        returned lt inner Mistakes ends few =
            record { story = story_with_hit rule.counter inner.story; runs = IsEnded depth seen rule rest number replies inner.story is lt inner.runs (subst HasEnded (sym ends) tt); fewer = inner.fewer }
        returned lt inner (Returns later left) ends few =
            let then_on : Reached q depth later (Meets (rules_from (rule.number + 1) all)) left =
            subst (λ (rules : List Rule). Reached q depth later (Meets rules) left) (from_behind all rule rest ascends suffix) (on later (rule.number + 1) left (omega arith)) in
            record {
              story = story_with_hit rule.counter (story.stories_in_turn inner.story then_on.story);
              runs = IsReturned depth seen rule rest number replies inner.story later left then_on.story is lt inner.runs ends then_on.runs;
              fewer = no_more then_on.story.ending (length left) (length replies) few then_on.fewer;
            }

        go : (b : Bool) → nat_lt depth 16 ≡ b → Reached q depth seen (Acts rule rest) replies
        go true deep =
            let lt : depth < 16 = grind arith in
            let inner = deeper lt seen number replies le in
            returned lt inner inner.story.ending refl inner.fewer
        go false deep =
            let last : 16 ≤ depth = grind arith in
            let later = next seen replies le in
            record { story = story_with_hit rule.counter later.story; runs = IsDeepest depth seen rule rest number replies later.story is last later.runs; fewer = later.fewer }

    decided : (seen : Seen) (replies : List Reply) (verdict : Verdict) → verdict_of rule.action ≡ Some verdict → Reached q depth seen (Acts rule rest) replies
    decided seen replies verdict is = record {
      story = story_with_hit rule.counter (plain_story (Ends (judgement_under q verdict (rule_ref rule) cause.Rule) replies));
      runs = IsDecided depth seen rule rest verdict replies is;
      fewer = tt;
    }

    acts : (returns : (seen : Seen) (replies : List Reply) → length replies ≤ fuel → rule.action ≡ Return → Reached q depth seen (Acts rule rest) replies)
        → (seen : Seen) (replies : List Reply) → length replies ≤ fuel → (action : Action) → rule.action ≡ action → Reached q depth seen (Acts rule rest) replies
    acts returns seen replies le Allow is = decided seen replies verdict.Allow (ap verdict_of is)
    acts returns seen replies le Deny is = decided seen replies verdict.Deny (ap verdict_of is)
    acts returns seen replies le Reset is = decided seen replies verdict.Reset (ap verdict_of is)
    acts returns seen replies le (Unreach code) is = decided seen replies (verdict.Unreach code) (ap verdict_of is)
    acts returns seen replies le Count is =
        let later = next seen replies le in record { story = story_with_hit rule.counter later.story; runs = IsCounted depth seen rule rest replies later.story is later.runs; fewer = later.fewer }
    acts returns seen replies le (SkipTo number) is =
        let later = on seen number replies le in record { story = story_with_hit rule.counter later.story; runs = IsSkipped depth seen rule rest number replies later.story is later.runs; fewer = later.fewer }
    acts returns seen replies le (Call number) is = calls seen number replies le is
    acts returns seen replies le Return is = returns seen replies le is
    acts returns seen replies le (CheckState name) is =
        let later = next seen replies le in record { story = story_with_hit rule.counter later.story; runs = IsChecked depth seen rule rest name replies later.story is later.runs; fewer = later.fewer }

  -- `return`, outside of calls and within
  returns : (fuel depth : ℕ) (rule : Rule) (rest : List Rule) → Goes fuel depth rest → (seen : Seen) (replies : List Reply) → length replies ≤ fuel → rule.action ≡ Return → Reached q depth seen (Acts rule rest) replies
  returns fuel zero rule rest on seen replies le is =
      let later = subst (λ (rules : List Rule). Reached q 0 seen (Meets rules) replies) (from_zero rest) (on seen 0 replies le) in
      record { story = story_with_hit rule.counter later.story; runs = IsOutside seen rule rest replies later.story is later.runs; fewer = later.fewer }
  returns fuel (suc depth) rule rest on seen replies le is = record { story = story_with_hit rule.counter (plain_story (Returns seen replies)); runs = IsWithin depth seen rule rest replies is; fewer = omega arith }

  module _ (fuel depth : ℕ) (deeper : depth < 16 → Goes fuel (suc depth) all) (rule : Rule) (rest : List Rule) (suffix : IsSuffix all (rule ∷ rest)) (on : Goes fuel depth rest) where
    -- the rule acts
    pub acted : (seen : Seen) (replies : List Reply) → length replies ≤ fuel → Reached q depth seen (Acts rule rest) replies
    acted seen replies le = acts fuel depth deeper rule rest suffix on (returns fuel depth rule rest on) seen replies le rule.action refl

    past : (seen : Seen) (replies : List Reply) → length replies ≤ fuel → Reached q depth seen (Meets rest) replies
    past seen replies le = next fuel depth deeper rule rest suffix on seen replies le

    -- the rule asks for a state of its own
    installed : (seen : Seen) (state : StateOpt) (flow : Flow) (replies : List Reply) → length replies ≤ fuel → is_check_state rule.action ≡ false → is_rule_met q rule ≡ true → state_of rule ≡ Some state → any_flow_of q.packet ≡ Some flow
        → Reached q depth seen (Tests rule rest) replies
    installed seen state flow [] le plain held made is =
        record { story = story_with_ask (install_by q rule state flow) (plain_story (OpensAt (install_by q rule state flow))); runs = IsWaiting depth seen rule rest state flow plain held made is; fewer = tt }
    installed seen state flow (Found way maker ∷ replies) le plain held made is =
        record { story = story_with_ask (install_by q rule state flow) (plain_story Mistakes); runs = IsMisread depth seen rule rest state flow (Found way maker) replies plain held made is refl; fewer = tt }
    installed seen state flow (NotFound ∷ replies) le plain held made is =
        record { story = story_with_ask (install_by q rule state flow) (plain_story Mistakes); runs = IsMisread depth seen rule rest state flow NotFound replies plain held made is refl; fewer = tt }
    installed seen state flow (Created ∷ replies) le plain held made is =
        let later = acted seen replies (omega arith) in
        record { story = story_with_ask (install_by q rule state flow) later.story; runs = IsMade depth seen rule rest state flow replies later.story plain held made is later.runs; fewer = no_more later.story.ending (length replies) (suc (length replies)) (omega arith) later.fewer }
    installed seen state flow (Exists ∷ replies) le plain held made is =
        let later = acted seen replies (omega arith) in
        record { story = story_with_ask (install_by q rule state flow) later.story; runs = IsThere depth seen rule rest state flow replies later.story plain held made is later.runs; fewer = no_more later.story.ending (length replies) (suc (length replies)) (omega arith) later.fewer }
    installed seen state flow (LimitReached count ∷ replies) le plain held made is =
        record { story = story_with_ask (install_by q rule state flow) (plain_story (Ends (judgement_under q verdict.Deny (rule_ref rule) (cause.Limit count)) replies)); runs = IsLimited depth seen rule rest state flow count replies plain held made is; fewer = tt }
    installed seen state flow (TableFull count ∷ replies) le plain held made is =
        record { story = story_with_ask (install_by q rule state flow) (plain_story (Ends (judgement_under q verdict.Deny (rule_ref rule) (cause.Full count)) replies)); runs = IsFull depth seen rule rest state flow count replies plain held made is; fewer = tt }

    -- the rule is tested
    tested : (seen : Seen) (replies : List Reply) → length replies ≤ fuel → Reached q depth seen (Tests rule rest) replies
    tested seen replies le = go (is_check_state rule.action) (is_rule_met q rule) (state_of rule) (any_flow_of q.packet) refl refl refl refl
      where
        go : (check held : Bool) (state : Option StateOpt) (flow : Option Flow) → is_check_state rule.action ≡ check → is_rule_met q rule ≡ held → state_of rule ≡ state → any_flow_of q.packet ≡ flow → Reached q depth seen (Tests rule rest) replies
        go true held state flow c h s f =
            let later = past seen replies le in record { story = later.story; runs = IsCheckState depth seen rule rest replies later.story c later.runs; fewer = later.fewer }
        go false false state flow c h s f =
            let later = past seen replies le in record { story = later.story; runs = IsUnheld depth seen rule rest replies later.story c h later.runs; fewer = later.fewer }
        go false true None flow c h s f =
            let later = acted seen replies le in record { story = later.story; runs = IsStateless depth seen rule rest replies later.story c h s later.runs; fewer = later.fewer }
        go false true (Some state) None c h s f =
            let later = past seen replies le in record { story = later.story; runs = IsFlowless depth seen rule rest state replies later.story c h s f later.runs; fewer = later.fewer }
        go false true (Some state) (Some flow) c h s f = installed seen state flow replies le c h s f

    -- the rule of a found state acts, with fewer replies
    abbrev Jumps : Type 0
    Jumps = (found : Rule) (after : List Rule) → IsSuffix all (found ∷ after) → (replies : List Reply) → suc (length replies) ≤ fuel → Reached q depth Done (Acts found after) replies

    mistaken : (seen : Seen) (flow : Flow) (reply : Reply) (replies : List Reply) → is_disabled q rule ≡ false → lookup_flow q seen rule ≡ Some flow → is_reply_to all (lookup_by q rule flow) reply ≡ false → Reached q depth seen (Meets (rule ∷ rest)) (reply ∷ replies)
    mistaken seen flow reply replies enabled due unfit =
        record { story = story_with_ask (lookup_by q rule flow) (plain_story Mistakes); runs = IsMistaken depth seen rule rest flow reply replies enabled due unfit; fewer = tt }

    -- the rule is looked up
    looked : Jumps → (seen : Seen) (flow : Flow) (replies : List Reply) → length replies ≤ fuel → is_disabled q rule ≡ false → lookup_flow q seen rule ≡ Some flow → Reached q depth seen (Meets (rule ∷ rest)) replies
    looked jump seen flow [] le enabled due =
        record { story = story_with_ask (lookup_by q rule flow) (plain_story (OpensAt (lookup_by q rule flow))); runs = IsUnanswered depth seen rule rest flow enabled due; fewer = tt }
    looked jump seen flow (Found way maker ∷ replies) le enabled due = go (has_identity all maker.id) refl
      where
        go : (b : Bool) → has_identity all maker.id ≡ b → Reached q depth seen (Meets (rule ∷ rest)) (Found way maker ∷ replies)
        go true fits =
            let there = leads (is_identity maker.id) all fits in
            let later = jump there.first there.after (record { place = position_or_len (is_identity maker.id) all; is = there.is }) replies (omega arith) in
            record { story = story_with_ask (lookup_by q rule flow) later.story; runs = IsFound depth seen rule rest flow maker way there.first there.after replies later.story enabled due fits there.is later.runs; fewer = no_more later.story.ending (length replies) (suc (length replies)) (omega arith) later.fewer }
        go false unfit = mistaken seen flow (Found way maker) replies enabled due unfit
    looked jump seen flow (NotFound ∷ replies) le enabled due =
        let later = tested (with_seen seen (name_at q rule)) replies (omega arith) in
        record { story = story_with_ask (lookup_by q rule flow) later.story; runs = IsNotFound depth seen rule rest flow replies later.story enabled due later.runs; fewer = no_more later.story.ending (length replies) (suc (length replies)) (omega arith) later.fewer }
    looked jump seen flow (Created ∷ replies) le enabled due = mistaken seen flow Created replies enabled due refl
    looked jump seen flow (Exists ∷ replies) le enabled due = mistaken seen flow Exists replies enabled due refl
    looked jump seen flow (LimitReached count ∷ replies) le enabled due = mistaken seen flow (LimitReached count) replies enabled due refl
    looked jump seen flow (TableFull count ∷ replies) le enabled due = mistaken seen flow (TableFull count) replies enabled due refl

    -- the rule is met
    met : Jumps → (seen : Seen) (replies : List Reply) → length replies ≤ fuel → Reached q depth seen (Meets (rule ∷ rest)) replies
    met jump seen replies le = go (is_disabled q rule) (lookup_flow q seen rule) refl refl
      where
        go : (disabled : Bool) (flow : Option Flow) → is_disabled q rule ≡ disabled → lookup_flow q seen rule ≡ flow → Reached q depth seen (Meets (rule ∷ rest)) replies
        go true flow d f =
            let later = past seen replies le in record { story = later.story; runs = IsDisabled depth seen rule rest replies later.story d later.runs; fewer = later.fewer }
        go false None d f =
            let later = tested seen replies le in record { story = later.story; runs = IsUnasked depth seen rule rest replies later.story d f later.runs; fewer = later.fewer }
        go false (Some flow) d f = looked jump seen flow replies le d f

  abbrev AllJumps : ℕ → ℕ → Type 0
  AllJumps fuel depth = (found : Rule) (after : List Rule) → IsSuffix all (found ∷ after) → (replies : List Reply) → suc (length replies) ≤ fuel → Reached q depth Done (Acts found after) replies

  -- fewer rules are left
  by_rules : (fuel depth : ℕ) → (depth < 16 → Goes fuel (suc depth) all) → AllJumps fuel depth → (rest : List Rule) → IsSuffix all rest → Goes fuel depth rest
  by_rules fuel depth deeper jump [] suffix = λ seen number replies le. record { story = plain_story (Ends (last_judgement q) replies); runs = BehindAll depth seen replies; fewer = tt }
  by_rules fuel depth deeper jump (rule ∷ rest) suffix = λ seen number replies le. go (by_rules fuel depth deeper jump rest (rest_suffix all rule rest suffix)) seen number replies le (is_from number rule) refl
    where
      go : Goes fuel depth rest → (seen : Seen) (number : ℕ) (replies : List Reply) → length replies ≤ fuel → (b : Bool) → is_from number rule ≡ b → Reached q depth seen (Meets (rules_from number (rule ∷ rest))) replies
      go on seen number replies le false is = subst (λ (rules : List Rule). Reached q depth seen (Meets rules) replies) (sym (from_below number rule rest is)) (on seen number replies le)
      go on seen number replies le true is = subst (λ (rules : List Rule). Reached q depth seen (Meets rules) replies) (sym (from_here number rule rest is)) (met fuel depth deeper rule rest suffix on jump seen replies le)

  -- fewer calls are left
  by_calls : (fuel : ℕ) → ((depth : ℕ) → depth ≤ 16 → AllJumps fuel depth) → (left depth : ℕ) → depth + left ≡ 16 → (rest : List Rule) → IsSuffix all rest → Goes fuel depth rest
  by_calls fuel jump zero depth sum rest suffix = by_rules fuel depth (λ lt. absurd (omega arith)) (jump depth (omega arith)) rest suffix
  by_calls fuel jump (suc left) depth sum rest suffix =
      by_rules fuel depth (λ lt. by_calls fuel jump left (suc depth) (omega arith) all (record { place = 0; is = refl })) (jump depth (omega arith)) rest suffix

  -- fewer replies are left
  jumps : (fuel : ℕ) → ((left depth : ℕ) → depth + left ≡ 16 → (rest : List Rule) → IsSuffix all rest → Goes fuel depth rest) → (depth : ℕ) → depth ≤ 16 → AllJumps (suc fuel) depth
  jumps fuel on depth few found after there replies le =
      acted fuel depth (λ lt. on (16 - suc depth) (suc depth) (omega arith) all (record { place = 0; is = refl })) found after there
      (on (16 - depth) depth (omega arith) after (rest_suffix all found after there)) Done replies (omega arith)

  by_replies : (fuel left depth : ℕ) → depth + left ≡ 16 → (rest : List Rule) → IsSuffix all rest → Goes fuel depth rest
  by_replies zero left depth sum rest suffix = by_calls zero (λ other few found after there replies le. absurd (omega arith)) left depth sum rest suffix
  by_replies (suc fuel) left depth sum rest suffix = by_calls (suc fuel) (jumps fuel (by_replies fuel)) left depth sum rest suffix

-- from the first rule on, outside of calls
pub each_reaches : (q : Question) (replies : List Reply) → AscendsFrom 1 q.edition.config.rules → Reached q 0 no_names (Meets q.edition.config.rules) replies
each_reaches q replies ascends =
    subst (λ (rules : List Rule). Reached q 0 no_names (Meets rules) replies) (from_zero q.edition.config.rules)
    (by_replies q ascends (length replies) 16 0 (omega arith) q.edition.config.rules (record { place = 0; is = refl }) no_names 0 replies (omega arith))
