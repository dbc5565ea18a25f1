-- What the plain evaluator's functions promise of one rule, sentence by sentence.
use Rattle.std.proofs.Common.{◌≡◌, ℕ, suc, ◌+◌, ◌<◌, ◌≤◌, true, false, Option, Some, None, Result, Ok, Err, IfOk, List, [], ◌∷◌, length, drop, refl, ap, sym, subst, arith}
use Rattle.state_asks.specs.declared.op.Op.{Op}
use Rattle.state_asks.specs.declared.reply.Reply.{Reply}
use Rattle.state_asks.specs.declared.reply.Reply.TheVariants.{Found, NotFound, Created, Exists, LimitReached, TableFull}
use Rattle.state_asks.specs.declared.rule_ref.RuleRef.{RuleRef}
use Rattle.state_asks.specs.declared.reply.Way.{Way}
use Rattle.fw_rule.specs.declared.action.Action.TheVariants.{Count, SkipTo, Call, Return, CheckState}
use Rattle.fw_rule.specs.declared.rule.Rule.{Rule}
use Rattle.fw_rule.specs.declared.state_opt.StateOpt.{StateOpt}
use Rattle.packet_headers.specs.declared.flows.Flow.{Flow}
use Rattle.eval_engine.specs.Encounter.{is_disabled, is_rule_met, is_check_state, state_of, any_flow_of, name_at, rule_ref, lookup_by, install_by}
use Rattle.eval_engine.specs.Evaluation.{is_reply_to}
use Rattle.eval_engine.specs.Laws.{verdict_of}
use Rattle.eval_engine.specs.Place.{IsRuleAt}
use Rattle.eval_engine.specs.Question.{Question}
use Rattle.eval_engine.specs.Trace.{Seen, Done, with_seen}
use Rattle.eval_engine.specs.Walk.{lookup_flow}
use Rattle.eval_engine.specs.declared.judgement.Cause.TheVariants as cause
use Rattle.eval_engine.specs.declared.judgement.Verdict.{Verdict}
use Rattle.eval_engine.specs.declared.judgement.Verdict.TheVariants as verdicts
use Rattle.evaluation_laws.specs.Story.{Ending, Ends, OpensAt, Mistakes, Returns, Story, plain_story, story_with_ask, story_with_hit}
use Rattle.evaluation_laws.specs.Story as story
use Rattle.evaluation_laws.specs.Runs.{Meets, Tests, Acts, rules_from, judgement_under, last_judgement, HasEnded, Runs, BehindAll, IsDisabled, IsUnasked, IsUnanswered, IsFound, IsNotFound, IsMistaken, IsCheckState, IsUnheld, IsFlowless, IsStateless, IsWaiting, IsMade, IsThere, IsLimited, IsFull, IsMisread, IsDecided, IsCounted, IsChecked, IsSkipped, IsDeepest, IsEnded, IsReturned, IsOutside, IsWithin}
use Rattle.evaluation_laws.specs.Running.{left_of, IsRun, IsMaker}

-- what holds of the value of an answer
pub each : {T E : Type 0} (P Q : T → Type 0) (r : Result T E) → IfOk r P → ((x : T) → P x → Q x) → IfOk r Q
each P Q (Ok x) p on = on x p
each P Q (Err e) p on = tt

-- an answer whose story is this one
pub told_so : {T E : Type 0} (view : T → Story) (told : Story) (P : Story → Type 0) (r : Result T E) → IfOk r (λ x. view x ≡ told) → P told → IfOk r (λ x. P (view x))
told_so view told P (Ok x) is p = subst P (sym is) p
told_so view told P (Err e) is p = tt

-- no reply is left
pub none_left : (replies : List Reply) → length replies ≡ 0 → replies ≡ []
none_left [] is = refl
none_left (reply ∷ replies) is = absurd (omega (arith, is))

-- a run with one reply more
fewer_by_one : (ending : Ending) (left replies : List Reply) (reply : Reply) → replies ≡ reply ∷ left → left_of ending ≤ length left → left_of ending ≤ length replies
fewer_by_one ending left replies reply is le = let size : length replies ≡ suc (length left) = ap (λ (rs : List Reply). length rs) is in omega (arith, size, le)

-- behind all rules
pub behind_all : (q : Question) (depth : ℕ) (seen : Seen) (rules : List Rule) (replies : List Reply) → rules ≡ [] → IsRun q depth seen (Meets rules) replies (plain_story (Ends (last_judgement q) replies))
behind_all q depth seen rules replies is =
    subst (λ (rs : List Rule). IsRun q depth seen (Meets rs) replies (plain_story (Ends (last_judgement q) replies))) (sym is) (record { runs = BehindAll depth seen replies; fewer = omega arith })

module _ (q : Question) (depth : ℕ) (seen : Seen) (place : ℕ) (rule : Rule) (at : IsRuleAt q place rule) (replies : List Reply) where
  abbrev all : List Rule
  all = q.edition.config.rules

  abbrev rest : List Rule
  rest = drop (place + 1) all

  abbrev IsMet : Story → Type 0
  IsMet told = IsRun q depth seen (Meets (drop place all)) replies told

  here : (told : Story) → IsRun q depth seen (Meets (rule ∷ rest)) replies told → IsMet told
  here told run = subst (λ (rs : List Rule). IsRun q depth seen (Meets rs) replies told) (sym at.there) run

  -- a rule of a disabled set is passed over
  pub disabled : (told : Story) → is_disabled q rule ≡ true → IsRun q depth seen (Meets rest) replies told → IsMet told
  disabled told is on = here told (record { runs = IsDisabled depth seen rule rest replies told is on.runs; fewer = on.fewer })

  -- a rule without a lookup that is due is tested at once
  pub unasked : (told : Story) → is_disabled q rule ≡ false → lookup_flow q seen rule ≡ None → IsRun q depth seen (Tests rule rest) replies told → IsMet told
  unasked told enabled undue on = here told (record { runs = IsUnasked depth seen rule rest replies told enabled undue on.runs; fewer = on.fewer })

  -- replies to the lookup
  module _ (flow : Flow) (enabled : is_disabled q rule ≡ false) (due : lookup_flow q seen rule ≡ Some flow) where
    abbrev lookup : Op
    lookup = lookup_by q rule flow

    -- without a reply the run is open at the lookup
    pub unanswered : replies ≡ [] → IsMet (story_with_ask lookup (plain_story (OpensAt lookup)))
    unanswered none =
        here _ (record { runs = subst (λ (rs : List Reply). Runs q depth seen (Meets (rule ∷ rest)) rs (story_with_ask lookup (plain_story (OpensAt lookup)))) (sym none) (IsUnanswered depth seen rule rest flow enabled due); fewer = omega arith })

    -- a reply that isn't one to the lookup is a mistake, which ends the run
    pub mistaken : (reply : Reply) (left : List Reply) → replies ≡ reply ∷ left → is_reply_to all lookup reply ≡ false → IsMet (story_with_ask lookup (plain_story Mistakes))
    mistaken reply left is unfit =
        here _ (record { runs = subst (λ (rs : List Reply). Runs q depth seen (Meets (rule ∷ rest)) rs (story_with_ask lookup (plain_story Mistakes))) (sym is) (IsMistaken depth seen rule rest flow reply left enabled due unfit); fewer = omega arith })

    -- where a state is found the rule that made it acts, in its own place, and nothing more is looked up
    pub found : (maker : RuleRef) (way : Way) (left : List Reply) (there : ℕ) (other : Rule) (told : Story) → replies ≡ Found way maker ∷ left → IsMaker q maker.id there other
        → IsRun q depth Done (Acts other (drop (there + 1) all)) left told → IsMet (story_with_ask lookup told)
    found maker way left there other told is made on =
        here (story_with_ask lookup told) (record {
          runs = subst (λ (rs : List Reply). Runs q depth seen (Meets (rule ∷ rest)) rs (story_with_ask lookup told)) (sym is)
              (IsFound depth seen rule rest flow maker way other (drop (there + 1) all) left told enabled due made.known made.suffix on.runs);
          fewer = fewer_by_one told.ending left replies (Found way maker) is on.fewer;
        })

    -- where no state is found the name is no more due, and the rule is tested
    pub not_found : (left : List Reply) (told : Story) → replies ≡ NotFound ∷ left → IsRun q depth (with_seen seen (name_at q rule)) (Tests rule rest) left told → IsMet (story_with_ask lookup told)
    not_found left told is on =
        here (story_with_ask lookup told) (record {
          runs = subst (λ (rs : List Reply). Runs q depth seen (Meets (rule ∷ rest)) rs (story_with_ask lookup told)) (sym is) (IsNotFound depth seen rule rest flow left told enabled due on.runs);
          fewer = fewer_by_one told.ending left replies NotFound is on.fewer;
        })

  abbrev IsTested : Story → Type 0
  IsTested told = IsRun q depth seen (Tests rule rest) replies told

  -- the test of a `check-state` goes on with the next rule
  pub checked_only : (told : Story) → is_check_state rule.action ≡ true → IsRun q depth seen (Meets rest) replies told → IsTested told
  checked_only told is on = record { runs = IsCheckState depth seen rule rest replies told is on.runs; fewer = on.fewer }

  -- a rule whose body doesn't hold goes on with the next rule
  pub unheld : (told : Story) → is_check_state rule.action ≡ false → is_rule_met q rule ≡ false → IsRun q depth seen (Meets rest) replies told → IsTested told
  unheld told plain is on = record { runs = IsUnheld depth seen rule rest replies told plain is on.runs; fewer = on.fewer }

  -- a rule that would make a state goes on with the next rule at a packet without a flow
  pub flowless : (told : Story) (state : StateOpt) → is_check_state rule.action ≡ false → is_rule_met q rule ≡ true → state_of rule ≡ Some state → any_flow_of q.packet ≡ None → IsRun q depth seen (Meets rest) replies told → IsTested told
  flowless told state plain held made none on = record { runs = IsFlowless depth seen rule rest state replies told plain held made none on.runs; fewer = on.fewer }

  -- a rule whose body holds acts, where it makes no state
  pub stateless : (told : Story) → is_check_state rule.action ≡ false → is_rule_met q rule ≡ true → state_of rule ≡ None → IsRun q depth seen (Acts rule rest) replies told → IsTested told
  stateless told plain held none on = record { runs = IsStateless depth seen rule rest replies told plain held none on.runs; fewer = on.fewer }

  -- replies to the install
  module _ (state : StateOpt) (flow : Flow) (plain : is_check_state rule.action ≡ false) (held : is_rule_met q rule ≡ true) (made : state_of rule ≡ Some state) (flowing : any_flow_of q.packet ≡ Some flow) where
    abbrev install : Op
    install = install_by q rule state flow

    by_replies : (rs : List Reply) (told : Story) → replies ≡ rs → Runs q depth seen (Tests rule rest) rs told → Runs q depth seen (Tests rule rest) replies told
    by_replies rs told is runs = subst (λ (some : List Reply). Runs q depth seen (Tests rule rest) some told) (sym is) runs

    -- without a reply the run is open at the install
    pub waiting : replies ≡ [] → IsTested (story_with_ask install (plain_story (OpensAt install)))
    waiting none = record { runs = by_replies [] _ none (IsWaiting depth seen rule rest state flow plain held made flowing); fewer = omega arith }

    -- a rule acts once its state is made
    pub made_now : (left : List Reply) (told : Story) → replies ≡ Created ∷ left → IsRun q depth seen (Acts rule rest) left told → IsTested (story_with_ask install told)
    made_now left told is on =
        record { runs = by_replies (Created ∷ left) _ is (IsMade depth seen rule rest state flow left told plain held made flowing on.runs); fewer = fewer_by_one told.ending left replies Created is on.fewer }

    -- a rule acts where its state was there already
    pub made_before : (left : List Reply) (told : Story) → replies ≡ Exists ∷ left → IsRun q depth seen (Acts rule rest) left told → IsTested (story_with_ask install told)
    made_before left told is on =
        record { runs = by_replies (Exists ∷ left) _ is (IsThere depth seen rule rest state flow left told plain held made flowing on.runs); fewer = fewer_by_one told.ending left replies Exists is on.fewer }

    -- where the limit is reached the rule denies the packet, without a hit
    pub limited : (count : ℕ) (left : List Reply) → replies ≡ LimitReached count ∷ left → IsTested (story_with_ask install (plain_story (Ends (judgement_under q verdicts.Deny (rule_ref rule) (cause.Limit count)) left)))
    limited count left is = record { runs = by_replies (LimitReached count ∷ left) _ is (IsLimited depth seen rule rest state flow count left plain held made flowing); fewer = omega arith }

    -- where the states are full the rule denies the packet, without a hit
    pub full : (count : ℕ) (left : List Reply) → replies ≡ TableFull count ∷ left → IsTested (story_with_ask install (plain_story (Ends (judgement_under q verdicts.Deny (rule_ref rule) (cause.Full count)) left)))
    full count left is = record { runs = by_replies (TableFull count ∷ left) _ is (IsFull depth seen rule rest state flow count left plain held made flowing); fewer = omega arith }

    -- a reply that isn't one to the install is a mistake, which ends the run
    pub misread : (reply : Reply) (left : List Reply) → replies ≡ reply ∷ left → is_reply_to all install reply ≡ false → IsTested (story_with_ask install (plain_story Mistakes))
    misread reply left is unfit = record { runs = by_replies (reply ∷ left) _ is (IsMisread depth seen rule rest state flow reply left plain held made flowing unfit); fewer = omega arith }

  abbrev IsActed : Story → Type 0
  IsActed told = IsRun q depth seen (Acts rule rest) replies told

  -- an action with a verdict is counted and ends the search
  pub decided : (verdict : Verdict) → verdict_of rule.action ≡ Some verdict → IsActed (story_with_hit rule.counter (plain_story (Ends (judgement_under q verdict (rule_ref rule) cause.Rule) replies)))
  decided verdict is = record { runs = IsDecided depth seen rule rest verdict replies is; fewer = omega arith }

  -- `count` is counted and goes on with the next rule
  pub counts : (told : Story) → rule.action ≡ Count → IsRun q depth seen (Meets rest) replies told → IsActed (story_with_hit rule.counter told)
  counts told is on = record { runs = IsCounted depth seen rule rest replies told is on.runs; fewer = on.fewer }

  -- a `check-state` that acts is counted and goes on with the next rule
  pub checks : (told : Story) (name : Option (List ℕ)) → rule.action ≡ CheckState name → IsRun q depth seen (Meets rest) replies told → IsActed (story_with_hit rule.counter told)
  checks told name is on = record { runs = IsChecked depth seen rule rest name replies told is on.runs; fewer = on.fewer }

  -- `skipto` is counted and goes on with the first rule behind it that is numbered so or higher
  pub skips : (told : Story) (number next : ℕ) → rule.action ≡ SkipTo number → drop next all ≡ rules_from number rest → IsRun q depth seen (Meets (drop next all)) replies told → IsActed (story_with_hit rule.counter told)
  skips told number next is there on =
      let later = subst (λ (rs : List Rule). IsRun q depth seen (Meets rs) replies told) there on in record { runs = IsSkipped depth seen rule rest number replies told is later.runs; fewer = later.fewer }

  -- `call` is counted and goes on with the next rule, where sixteen calls are open
  pub deepest : (told : Story) (number : ℕ) → rule.action ≡ Call number → 16 ≤ depth → IsRun q depth seen (Meets rest) replies told → IsActed (story_with_hit rule.counter told)
  deepest told number is last on = record { runs = IsDeepest depth seen rule rest number replies told is last on.runs; fewer = on.fewer }

  inside : (told : Story) (number start deeper : ℕ) → deeper ≡ suc depth → drop start all ≡ rules_from number all → IsRun q deeper seen (Meets (drop start all)) replies told → IsRun q (suc depth) seen (Meets (rules_from number all)) replies told
  inside told number start deeper more there on =
      subst (λ (n : ℕ). IsRun q n seen (Meets (rules_from number all)) replies told) more (subst (λ (rs : List Rule). IsRun q deeper seen (Meets rs) replies told) there on)

  -- where the run of the called rules ends, so does the run of the `call`
  pub ended : (told : Story) (number start deeper : ℕ) → rule.action ≡ Call number → depth < 16 → deeper ≡ suc depth → drop start all ≡ rules_from number all → HasEnded told.ending → IsRun q deeper seen (Meets (drop start all)) replies told → IsActed (story_with_hit rule.counter told)
  ended told number start deeper is lt more there last on =
      let inner = inside told number start deeper more there on in record { runs = IsEnded depth seen rule rest number replies told is lt inner.runs last; fewer = inner.fewer }

  -- where the called rules return, the run goes on behind all rules of the number of the `call`
  pub returned : (told then : Story) (number start deeper next : ℕ) (later : Seen) (left : List Reply) → rule.action ≡ Call number → depth < 16 → deeper ≡ suc depth → drop start all ≡ rules_from number all
      → told.ending ≡ Returns later left → drop next all ≡ rules_from (rule.number + 1) all
      → IsRun q deeper seen (Meets (drop start all)) replies told → IsRun q depth later (Meets (drop next all)) left then → IsActed (story_with_hit rule.counter (story.stories_in_turn told then))
  returned told then number start deeper next later left is lt more there returns behind on also =
      let inner = inside told number start deeper more there on in
      let outer = subst (λ (rs : List Rule). IsRun q depth later (Meets rs) left then) behind also in
      let size : left_of told.ending ≡ length left = ap left_of returns in
      let fewer = inner.fewer in
      let least = outer.fewer in
      record { runs = IsReturned depth seen rule rest number replies told later left then is lt inner.runs returns outer.runs; fewer = omega (arith, size, fewer, least) }

  -- `return` within a call is counted and returns, with the names and the replies that it has then
  pub returns_in : rule.action ≡ Return → (outer : ℕ) → depth ≡ suc outer → IsActed (story_with_hit rule.counter (plain_story (Returns seen replies)))
  returns_in is outer more =
      subst (λ (n : ℕ). IsRun q n seen (Acts rule rest) replies (story_with_hit rule.counter (plain_story (Returns seen replies)))) (sym more) (record { runs = IsWithin outer seen rule rest replies is; fewer = omega arith })

  -- `return` outside of calls is counted and goes on with the next rule
  pub returns_none : (told : Story) → rule.action ≡ Return → depth ≡ 0 → IsRun q depth seen (Meets rest) replies told → IsActed (story_with_hit rule.counter told)
  returns_none told is none on =
      subst (λ (n : ℕ). IsRun q n seen (Acts rule rest) replies (story_with_hit rule.counter told)) (sym none) (let on0 = subst (λ (n : ℕ). IsRun q n seen (Meets rest) replies told) none on in record { runs = IsOutside seen rule rest replies told is on0.runs; fewer = on0.fewer })
