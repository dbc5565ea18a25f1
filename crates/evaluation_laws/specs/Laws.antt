-- Laws of every evaluation under the rules of a configuration (ipfw(8), "SETS OF RULES", "STATEFUL FIREWALL").
use Rattle.std.specs.Prelude.{◌≡◌, ℕ, suc, ◌<◌, ⊤, Bool, true, false, not, ◌&&◌, ◌||◌, ◌==◌, List, [], ◌∷◌, ◌++◌, length}
use Rattle.std.specs.List.{AllByRecursion, list_any}
use Rattle.state_asks.specs.declared.op.Op.{Op}
use Rattle.state_asks.specs.declared.op.Op.TheVariants.{Lookup, Install}
use Rattle.state_asks.specs.declared.reply.Reply.{Reply}
use Rattle.state_asks.specs.declared.reply.Reply.TheVariants.{Found, NotFound, Created, Exists, LimitReached, TableFull}
use Rattle.state_asks.specs.declared.rule_ref.RuleRef.{RuleRef}
use Rattle.fw_rule.specs.declared.rule.Rule.{Rule}
use Rattle.rule_chain.specs.Chain.{IsConfiguration}
use Rattle.eval_engine.specs.Encounter.{is_disabled}
use Rattle.eval_engine.specs.Evaluated.{Outcome, Whole, OpenAt, Neither}
use Rattle.eval_engine.specs.Evaluation.{evaluate, is_reply_to}
use Rattle.eval_engine.specs.Question.{Question}
use Rattle.eval_engine.specs.declared.judgement.Judgement.{Judgement}

-- a whole evaluation has as many asks as replies, an open one has one more
abbrev pub AsksMatchReplies : Outcome → ℕ → ℕ → Type 0
AsksMatchReplies (Whole judgement) asks replies = asks ≡ replies
AsksMatchReplies (OpenAt op) asks replies = asks ≡ suc replies
AsksMatchReplies Neither asks replies = ⊤

-- Each reply is one to an ask.
abbrev pub AsksAreAnswered : Type 0
AsksAreAnswered = (q : Question) (replies : List Reply) → AsksMatchReplies (evaluate q replies).outcome (length (evaluate q replies).asks) (length replies)

-- More replies than asks are never whole, nor open.
abbrev pub RepliesAreAsked : Type 0
RepliesAreAsked = (q : Question) (replies : List Reply) → length (evaluate q replies).asks < length replies → (evaluate q replies).outcome ≡ Neither

-- the evaluation is open at an ask that this is a reply to
pub record IsOpenFor (q : Question) (replies : List Reply) (reply : Reply) : Type 0 where
  pub op : Op
  pub open_at : (evaluate q replies).outcome ≡ OpenAt op
  pub fits : is_reply_to q.edition.config.rules op reply ≡ true

-- Before each of its replies a whole evaluation was open at an ask, and the reply is one to it.
abbrev pub OpensBeforeItEnds : Type 0
OpensBeforeItEnds = (q : Question) (replies : List Reply) (reply : Reply) (more : List Reply) (judgement : Judgement)
    → (evaluate q (replies ++ reply ∷ more)).outcome ≡ Whole judgement → IsOpenFor q replies reply

-- Of the beginnings of a list of replies one at most is whole: a whole evaluation has one outcome.
abbrev pub HasOneOutcome : Type 0
HasOneOutcome = (q : Question) (replies more : List Reply) (judgement other : Judgement)
    → (evaluate q replies).outcome ≡ Whole judgement → (evaluate q (replies ++ more)).outcome ≡ Whole other → (more ≡ []) × (judgement ≡ other)

-- the rule has this name
abbrev pub is_ref : RuleRef → Rule → Bool
is_ref ref rule = rule.id == ref.id && rule.number == ref.number

-- a state that the rule of this identity made was found
abbrev pub is_found : ℕ → Reply → Bool
is_found id (Found way maker) = maker.id == id
is_found id NotFound = false
is_found id Created = false
is_found id Exists = false
is_found id (LimitReached count) = false
is_found id (TableFull count) = false

-- the rule's set isn't disabled, or a state that it made was found
abbrev pub may_act : Question → List Reply → Rule → Bool
may_act q replies rule = not (is_disabled q rule) || list_any (is_found rule.id) replies

-- an install is by a rule of the edition whose set isn't disabled
abbrev pub is_installed : Question → Op → Bool
is_installed q (Lookup flags flow second name) = true
is_installed q (Install flags flow second rule limit name) = list_any (λ r. is_ref rule r && not (is_disabled q r)) q.edition.config.rules

-- Every install names a rule of the edition, of a set that isn't disabled.
abbrev pub InstallsAreOfRules : Type 0
InstallsAreOfRules = (q : Question) (replies : List Reply) → IsConfiguration q.edition.config → AllByRecursion (λ op. is_installed q op ≡ true) (evaluate q replies).asks

-- the counter number is that of a rule of the edition that may act
abbrev pub is_hit : Question → List Reply → ℕ → Bool
is_hit q replies counter = list_any (λ rule. rule.counter == counter && may_act q replies rule) q.edition.config.rules

-- Each hit is of such a rule: a rule of a disabled set never acts but as a found state's rule.
abbrev pub HitsAreOfActing : Type 0
HitsAreOfActing = (q : Question) (replies : List Reply) → IsConfiguration q.edition.config → AllByRecursion (λ counter. is_hit q replies counter ≡ true) (evaluate q replies).hits

-- rule 65535, or a rule of the edition that may act
abbrev pub is_judge : Question → List Reply → RuleRef → Bool
is_judge q replies ref = (ref.id == 0 && ref.number == 65535) || list_any (λ rule. is_ref ref rule && may_act q replies rule) q.edition.config.rules

-- So is the rule that decides.
abbrev pub JudgesAreActing : Type 0
JudgesAreActing = (q : Question) (replies : List Reply) (judgement : Judgement) → IsConfiguration q.edition.config
    → (evaluate q replies).outcome ≡ Whole judgement → is_judge q replies judgement.rule ≡ true
