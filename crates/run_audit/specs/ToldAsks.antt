-- What a line tells of an ask, under an edition: the rule that it names by its identity, and the name of flows, by its
-- number there.
use Rattle.std.specs.Prelude.{ℕ, Bool, ◌&&◌, ◌==◌, nat_eq, Option, Some, List, slice_get, position}
use Rattle.std.specs.Cmp.Lexicographic.{pointwise}
use Rattle.fw_rule.specs.declared.rule.Rule.{Rule}
use Rattle.generation_store.specs.Published.{Published, place_of_rule}
use Rattle.state_asks.specs.declared.rule_ref.RuleRef.{RuleRef}
use Rattle.state_asks.specs.declared.op.FlowName.{FlowName}
use Rattle.state_asks.specs.declared.op.FlowName.TheVariants.{Any, Named}
use Rattle.state_asks.specs.declared.op.Op.{Op}
use Rattle.state_asks.specs.declared.op.Op.TheVariants.{Lookup, Install}
use Rattle.state_asks.specs.declared.reply.Reply.{Reply}
use Rattle.state_asks.specs.declared.reply.Reply.TheVariants.{Found, NotFound, Created, Exists, LimitReached, TableFull}
use Rattle.state_asks.specs.declared.reply.Way.TheVariants.{Forward, Reverse}
use Rattle.fw_base.specs.Chain.{◌>>=◌}

-- the number of a name, where it is one of these
abbrev pub number_among : List (List ℕ) → List ℕ → Option ℕ
number_among names name = position (λ other. pointwise nat_eq other name) names

-- the rule of this identity with its number, where it is one of these
abbrev pub rule_among : List Rule → ℕ → Option RuleRef
rule_among rules id = do
  place ← place_of_rule id rules
  rule ← slice_get rules place
  Some (record { id = id; number = rule.number })

-- the name that a lookup asks for, by its number where it has one
abbrev pub flow_name_under : List (List ℕ) → FlowName → List ℕ → Option FlowName
flow_name_under names Any name = Some Any
flow_name_under names (Named number) name = number_among names name >>= λ numbered. Some (Named numbered)

-- what is asked, with the rule and the name of this edition; nothing where it has no such rule, or no such name
unfoldable pub op_under : Published → Op → List ℕ → Option Op
op_under edition (Lookup flags flow second asked) name =
    flow_name_under edition.config.names asked name >>= λ named. Some (Lookup flags flow second named)
op_under edition (Install flags flow second rule limit number) name = do
  made ← rule_among edition.config.rules rule.id
  numbered ← number_among edition.config.names name
  Some (Install flags flow second made limit numbered)

-- which kind of reply it is, and the number that a line tells with it: an identity or a count
abbrev pub reply_mark : Reply → ℕ × ℕ
reply_mark (Found Forward rule) = (0, rule.id)
reply_mark (Found Reverse rule) = (1, rule.id)
reply_mark NotFound = (2, 0)
reply_mark Created = (3, 0)
reply_mark Exists = (4, 0)
reply_mark (LimitReached count) = (5, count)
reply_mark (TableFull count) = (6, count)

-- a line that tells the one reply tells the other
abbrev pub are_told_alike : Reply → Reply → Bool
are_told_alike reply told = (reply_mark reply).0 == (reply_mark told).0 && (reply_mark reply).1 == (reply_mark told).1
