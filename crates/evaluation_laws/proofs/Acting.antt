-- Which rules act: those of a disabled set never do but where a state that they made was found.
use Rattle.std.proofs.Common.{◌≡◌, ℕ, ◌+◌, Bool, true, false, not, ◌&&◌, ◌==◌, List, [], ◌∷◌, ◌++◌, refl, ap, sym, ◌∙◌, subst, arith}
use Rattle.std.specs.Prelude.{⊤}
use Rattle.std.specs.List.{AllByRecursion, list_any, position_or_len}
use Rattle.std.proofs.lemmas.List.Folds.{list_any_at}
use Rattle.std.proofs.lemmas.List.Sums.{passes_at_first}
use Rattle.std.proofs.lemmas.Bool.{or_right, and_from}
use Rattle.state_asks.specs.declared.reply.Reply.{Reply}
use Rattle.state_asks.specs.declared.reply.Reply.TheVariants.{Found, NotFound, Created, Exists, LimitReached, TableFull}
use Rattle.fw_rule.specs.declared.rule.Rule.{Rule}
use Rattle.fw_rule.specs.declared.state_opt.StateOpt.{StateOpt}
use Rattle.generation_store.specs.Jumps.{first_from}
use Rattle.generation_store.specs.Published.{is_identity}
use Rattle.packet_headers.specs.declared.flows.Flow.{Flow}
use Rattle.rule_chain.specs.Chain.{IsConfiguration}
use Rattle.eval_engine.specs.Encounter.{is_disabled, rule_ref, install_by}
use Rattle.eval_engine.specs.Evaluated.{Evaluated, Whole}
use Rattle.eval_engine.specs.Evaluation.{evaluate}
use Rattle.eval_engine.specs.Question.{Question}
use Rattle.eval_engine.specs.Trace.{Seen}
use Rattle.eval_engine.specs.Walk.{suffix_of}
use Rattle.eval_engine.specs.declared.judgement.Judgement.{Judgement}
use Rattle.eval_engine.proofs.Configured.{rule_read}
use Rattle.evaluation_laws.specs.Laws.{is_ref, is_found, may_act, is_installed, is_hit, is_judge, InstallsAreOfRules, HitsAreOfActing, JudgesAreActing}
use Rattle.evaluation_laws.specs.Story.{Ending, Ends, OpensAt, Mistakes, Returns, Story, story_with_hit, told_by, outcome_by}
use Rattle.evaluation_laws.specs.Runs.{Moment, Meets, Tests, Acts, Runs, BehindAll, IsDisabled, IsUnasked, IsUnanswered, IsFound, IsNotFound, IsMistaken, IsCheckState, IsUnheld, IsFlowless, IsStateless, IsWaiting, IsMade, IsThere, IsLimited, IsFull, IsMisread, IsDecided, IsCounted, IsChecked, IsSkipped, IsDeepest, IsEnded, IsReturned, IsOutside, IsWithin}
use Rattle.evaluation_laws.proofs.Sound.{IsSuffix, rest_suffix, from_suffix, rules_at, within, runs_are_evaluations}
use Rattle.evaluation_laws.proofs.Total.{each_reaches}

itself : (n : ℕ) → (n == n) ≡ true
itself n = grind arith

-- the state's rule is known where the state was found among these replies
abbrev IsKnown : List Reply → Reply → Type 0
IsKnown every (Found way maker) = list_any (is_found maker.id) every ≡ true
IsKnown every NotFound = ⊤
IsKnown every Created = ⊤
IsKnown every Exists = ⊤
IsKnown every (LimitReached count) = ⊤
IsKnown every (TableFull count) = ⊤

known_more : (first : Reply) (every : List Reply) (reply : Reply) → IsKnown every reply → IsKnown (first ∷ every) reply
known_more first every (Found way maker) is = or_right (is_found maker.id first) (list_any (is_found maker.id) every) is
known_more first every NotFound is = tt
known_more first every Created is = tt
known_more first every Exists is = tt
known_more first every (LimitReached count) is = tt
known_more first every (TableFull count) is = tt

all_more : (first : Reply) (every replies : List Reply) → AllByRecursion (IsKnown every) replies → AllByRecursion (IsKnown (first ∷ every)) replies
all_more first every [] are = tt
all_more first every (reply ∷ replies) are = (known_more first every reply are.0, all_more first every replies are.1)

known_first : (every : List Reply) (reply : Reply) → IsKnown (reply ∷ every) reply
known_first every (Found way maker) = let same : is_found maker.id (Found way maker) ≡ true = itself maker.id in rw same refl
known_first every NotFound = tt
known_first every Created = tt
known_first every Exists = tt
known_first every (LimitReached count) = tt
known_first every (TableFull count) = tt

all_known : (every : List Reply) → AllByRecursion (IsKnown every) every
all_known [] = tt
all_known (reply ∷ every) = (known_first every reply, all_more reply every every (all_known every))

module _ (q : Question) (every : List Reply) where
  abbrev all : List Rule
  all = q.edition.config.rules

  -- the rule that is tested is of an enabled set, and the one that acts may act
  abbrev IsAllowed : Moment → Type 0
  IsAllowed (Meets suffix) = ⊤
  IsAllowed (Tests rule rest) = is_disabled q rule ≡ false
  IsAllowed (Acts rule rest) = may_act q every rule ≡ true

  abbrev IsLawful : Ending → Type 0
  IsLawful (Ends judgement left) = is_judge q every judgement.rule ≡ true
  IsLawful (OpensAt op) = ⊤
  IsLawful Mistakes = ⊤
  IsLawful (Returns seen left) = AllByRecursion (IsKnown every) left

  -- what a story tells is of the question's edition
  pub record Tells (story : Story) : Type 0 where
    pub asks : AllByRecursion (λ op. is_installed q op ≡ true) story.asks
    pub hits : AllByRecursion (λ counter. is_hit q every counter ≡ true) story.hits
    pub ending : IsLawful story.ending

  listed : (p : Rule → Bool) (rule : Rule) (rest : List Rule) → IsSuffix all (rule ∷ rest) → p rule ≡ true → list_any p all ≡ true
  listed p rule rest suffix is =
      list_any_at p all suffix.place rule (within all suffix.place rule rest suffix.is) (ap p (rule_read all suffix.place rule rest suffix.is) ∙ is)

  enabled_acts : (rule : Rule) → is_disabled q rule ≡ false → may_act q every rule ≡ true
  enabled_acts rule enabled = rw enabled refl

  found_acts : (id : ℕ) (found : Rule) (after : List Rule) → suffix_of id all ≡ found ∷ after → list_any (is_found id) every ≡ true → may_act q every found ≡ true
  found_acts id found after there known =
      let place : ℕ = position_or_len (is_identity id) all in
      let passes = passes_at_first (is_identity id) all found (within all place found after there) in
      let own : is_identity id found ≡ true = ap (is_identity id) (sym (rule_read all place found after there)) ∙ passes in
      let same : id ≡ found.id = grind arith in
      or_right (not (is_disabled q found)) (list_any (is_found found.id) every) (subst (λ (n : ℕ). list_any (is_found n) every ≡ true) same known)

  hit_of : (rule : Rule) (rest : List Rule) → IsSuffix all (rule ∷ rest) → may_act q every rule ≡ true → is_hit q every rule.counter ≡ true
  hit_of rule rest suffix may = listed (λ r. r.counter == rule.counter && may_act q every r) rule rest suffix (and_from (rule.counter == rule.counter) (may_act q every rule) (itself rule.counter) may)

  own_ref : (rule : Rule) → is_ref (rule_ref rule) rule ≡ true
  own_ref rule = and_from (rule.id == rule.id) (rule.number == rule.number) (itself rule.id) (itself rule.number)

  judge_of : (rule : Rule) (rest : List Rule) → IsSuffix all (rule ∷ rest) → may_act q every rule ≡ true → is_judge q every (rule_ref rule) ≡ true
  judge_of rule rest suffix may =
      or_right _ _ (listed (λ r. is_ref (rule_ref rule) r && may_act q every r) rule rest suffix (and_from (is_ref (rule_ref rule) rule) (may_act q every rule) (own_ref rule) may))

  install_of : (rule : Rule) (rest : List Rule) (state : StateOpt) (flow : Flow) → IsSuffix all (rule ∷ rest) → is_disabled q rule ≡ false → is_installed q (install_by q rule state flow) ≡ true
  install_of rule rest state flow suffix enabled =
      let on : not (is_disabled q rule) ≡ true = ap not enabled in
      listed (λ r. is_ref (rule_ref rule) r && not (is_disabled q r)) rule rest suffix (and_from (is_ref (rule_ref rule) rule) (not (is_disabled q rule)) (own_ref rule) on)

  both : {X : Type 0} (P : X → Type 0) (xs ys : List X) → AllByRecursion P xs → AllByRecursion P ys → AllByRecursion P (xs ++ ys)
  both P [] ys h k = k
  both P (x ∷ xs) ys h k = (h.0, both P xs ys h.1 k)

  -- the rule acts, and then the rest
  acts : (rule : Rule) (rest : List Rule) (story : Story) → IsSuffix all (rule ∷ rest) → may_act q every rule ≡ true → Tells story → Tells (story_with_hit rule.counter story)
  acts rule rest story suffix may later = record { asks = later.asks; hits = (hit_of rule rest suffix may, later.hits); ending = later.ending }

  pub tells : {depth : ℕ} {seen : Seen} {moment : Moment} {replies : List Reply} {story : Story} → Runs q depth seen moment replies story
      → IsSuffix all (rules_at moment) → IsAllowed moment → AllByRecursion (IsKnown every) replies → Tells story
  tells (BehindAll depth seen replies) = λ suffix may known. record { asks = tt; hits = tt; ending = refl }
  tells (IsDisabled depth seen rule rest replies story disabled on) = λ suffix may known. tells on (rest_suffix all rule rest suffix) tt known
  tells (IsUnasked depth seen rule rest replies story enabled undue on) = λ suffix may known. tells on suffix enabled known
  tells (IsUnanswered depth seen rule rest flow enabled due) = λ suffix may known. record { asks = (refl, tt); hits = tt; ending = tt }
  tells (IsFound depth seen rule rest flow maker way found after replies story enabled due fits there on) = λ suffix may known.
      let later = tells on (record { place = position_or_len (is_identity maker.id) all; is = there }) (found_acts maker.id found after there known.0) known.1 in
      record { asks = (refl, later.asks); hits = later.hits; ending = later.ending }
  tells (IsNotFound depth seen rule rest flow replies story enabled due on) = λ suffix may known.
      let later = tells on suffix enabled known.1 in record { asks = (refl, later.asks); hits = later.hits; ending = later.ending }
  tells (IsMistaken depth seen rule rest flow reply replies enabled due unfit) = λ suffix may known. record { asks = (refl, tt); hits = tt; ending = tt }
  tells (IsCheckState depth seen rule rest replies story check on) = λ suffix may known. tells on (rest_suffix all rule rest suffix) tt known
  tells (IsUnheld depth seen rule rest replies story plain unheld on) = λ suffix may known. tells on (rest_suffix all rule rest suffix) tt known
  tells (IsFlowless depth seen rule rest state replies story plain held made none on) = λ suffix may known. tells on (rest_suffix all rule rest suffix) tt known
  tells (IsStateless depth seen rule rest replies story plain held made on) = λ suffix may known. tells on suffix (enabled_acts rule may) known
  tells (IsWaiting depth seen rule rest state flow plain held made is) = λ suffix may known. record { asks = (install_of rule rest state flow suffix may, tt); hits = tt; ending = tt }
  tells (IsMade depth seen rule rest state flow replies story plain held made is on) = λ suffix may known.
      let later = tells on suffix (enabled_acts rule may) known.1 in record { asks = (install_of rule rest state flow suffix may, later.asks); hits = later.hits; ending = later.ending }
  tells (IsThere depth seen rule rest state flow replies story plain held made is on) = λ suffix may known.
      let later = tells on suffix (enabled_acts rule may) known.1 in record { asks = (install_of rule rest state flow suffix may, later.asks); hits = later.hits; ending = later.ending }
  tells (IsLimited depth seen rule rest state flow count replies plain held made is) = λ suffix may known.
      record { asks = (install_of rule rest state flow suffix may, tt); hits = tt; ending = judge_of rule rest suffix (enabled_acts rule may) }
  tells (IsFull depth seen rule rest state flow count replies plain held made is) = λ suffix may known.
      record { asks = (install_of rule rest state flow suffix may, tt); hits = tt; ending = judge_of rule rest suffix (enabled_acts rule may) }
  tells (IsMisread depth seen rule rest state flow reply replies plain held made is unfit) = λ suffix may known. record { asks = (install_of rule rest state flow suffix may, tt); hits = tt; ending = tt }
  tells (IsDecided depth seen rule rest verdict replies decided) = λ suffix may known. record { asks = tt; hits = (hit_of rule rest suffix may, tt); ending = judge_of rule rest suffix may }
  tells (IsCounted depth seen rule rest replies story is on) = λ suffix may known. acts rule rest story suffix may (tells on (rest_suffix all rule rest suffix) tt known)
  tells (IsChecked depth seen rule rest name replies story is on) = λ suffix may known. acts rule rest story suffix may (tells on (rest_suffix all rule rest suffix) tt known)
  tells (IsSkipped depth seen rule rest number replies story is on) = λ suffix may known. acts rule rest story suffix may (tells on (from_suffix all rest number (rest_suffix all rule rest suffix)) tt known)
  tells (IsDeepest depth seen rule rest number replies story is full on) = λ suffix may known. acts rule rest story suffix may (tells on (rest_suffix all rule rest suffix) tt known)
  tells (IsEnded depth seen rule rest number replies inner is lt on last) = λ suffix may known. acts rule rest inner suffix may (tells on (record { place = first_from number all; is = refl }) tt known)
  tells (IsReturned depth seen rule rest number replies inner later left story is lt on returned then_on) = λ suffix may known.
      let first = tells on (record { place = first_from number all; is = refl }) tt known in
      let next = tells then_on (record { place = first_from (rule.number + 1) all; is = refl }) tt (subst IsLawful returned first.ending) in
      record { asks = both _ inner.asks story.asks first.asks next.asks; hits = (hit_of rule rest suffix may, both _ inner.hits story.hits first.hits next.hits); ending = next.ending }
  tells (IsOutside seen rule rest replies story is on) = λ suffix may known. acts rule rest story suffix may (tells on (rest_suffix all rule rest suffix) tt known)
  tells (IsWithin depth seen rule rest replies is) = λ suffix may known. record { asks = tt; hits = (hit_of rule rest suffix may, tt); ending = known }

-- the whole run, as the evaluation
record Told (q : Question) (replies : List Reply) : Type 0 where
  story : Story
  told : told_by story ≡ evaluate q replies
  tells_all : Tells q replies story

told : (q : Question) (replies : List Reply) → IsConfiguration q.edition.config → Told q replies
told q replies lawful =
    let reached = each_reaches q replies lawful.ordered in
    record {
      story = reached.story;
      told = runs_are_evaluations q replies reached.story lawful.ordered reached.runs;
      tells_all = tells q replies reached.runs (record { place = 0; is = refl }) tt (all_known replies);
    }

-- each install is by a rule of the edition whose set isn't disabled
pub installs_are_of_rules : InstallsAreOfRules
installs_are_of_rules q replies lawful =
    let is = told q replies lawful in subst (λ (e : Evaluated). AllByRecursion (λ op. is_installed q op ≡ true) e.asks) is.told is.tells_all.asks

-- each hit is of a rule that isn't disabled, or whose state was found
pub hits_are_of_acting : HitsAreOfActing
hits_are_of_acting q replies lawful =
    let is = told q replies lawful in subst (λ (e : Evaluated). AllByRecursion (λ counter. is_hit q replies counter ≡ true) e.hits) is.told is.tells_all.hits

judge_by : (q : Question) (replies : List Reply) (ending : Ending) (judgement : Judgement) → IsLawful q replies ending → outcome_by ending ≡ Whole judgement → is_judge q replies judgement.rule ≡ true
judge_by q replies (Ends judgement []) other lawful is = let same : judgement ≡ other = grind arith in subst (λ (j : Judgement). is_judge q replies j.rule ≡ true) same lawful
judge_by q replies (Ends judgement (reply ∷ left)) other lawful is = absurd (grind arith)
judge_by q replies (OpensAt op) other lawful is = absurd (grind arith)
judge_by q replies Mistakes other lawful is = absurd (grind arith)
judge_by q replies (Returns seen left) other lawful is = absurd (grind arith)

-- the rule that decides is rule 65535, or one that isn't disabled or whose state was found
pub judges_are_acting : JudgesAreActing
judges_are_acting q replies judgement lawful whole =
    let is = told q replies lawful in
    judge_by q replies is.story.ending judgement is.tells_all.ending (ap (λ (e : Evaluated). e.outcome) is.told ∙ whole)
