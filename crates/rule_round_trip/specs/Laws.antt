-- What is written in canonical form is read again.
use Rattle.std.specs.Prelude.{◌≡◌, ℕ, Bool, ◌^◌, ◌<◌, ◌≤◌, false, ◌==◌, Ok, Some, None, List, ◌∷◌, ◌++◌, length, map, codes}
use Rattle.std.specs.List.{AllByRecursion, join_with_byte}
use Rattle.std.specs.Fmt.{decimal}
use Rattle.fw_lex.specs.Words.{is_blank, tokens_of, before_comment, first_bad}
use Rattle.ipfw_parser.specs.Reading.{word_at}
use Rattle.ipfw_parser.specs.Numbers.{number}
use Rattle.ipfw_parser.specs.Ports.{ranges}
use Rattle.fw_base.specs.PortRange.{Ports}
use Rattle.rule_text.specs.Canonical.{range_text, network_text}
use Rattle.fw_base.specs.Prefix.{Network, IsNetwork}
use Rattle.ipfw_parser.specs.Addresses.{prefix}
use Rattle.fw_rule.specs.WellFormed.{IsRange}
use Rattle.fw_rule.specs.declared.addr_item.AddrItem.{AddrItem}
use Rattle.fw_rule.specs.Names.{flag_names, option_names}
use Rattle.rule_text.specs.Canonical.{item_text, signed_names, numbers_where}
use Rattle.fw_base.specs.Prefix6.{Network6, IsNetwork6}
use Rattle.rule_text.specs.Address6Text.{groups_text, network6_text}
use Rattle.fw_rule.specs.Bits.{has_bit}
use Rattle.fw_rule.specs.TypeSet.{has_type}
use Rattle.fw_rule.specs.declared.type_set.TypeSet.{TypeSet}
use Rattle.ipfw_parser.specs.Addresses6.{eight_groups, prefix6}
use Rattle.ipfw_parser.specs.Lists.{signs, types, types6}
use Rattle.ipfw_parser.specs.Addresses.{items}
use Rattle.ipfw_parser.specs.Forms.{IsItemForm, AreSigns, IsTypesForm, IsRuleForm}
use Rattle.rule_text.specs.Canonical.{rule_text, rule_words}
use Rattle.fw_rule.specs.declared.rule.Rule.{Rule}
use Rattle.fw_rule.specs.declared.rule_draft.RuleDraft.{RuleDraft}
use Rattle.fw_lex.specs.declared.token.Token.{Token}
use Rattle.ipfw_parser.specs.Rules.{rule_in}
use Rattle.fw_command.specs.Statements.{says}
use Rattle.fw_command.specs.declared.statement.Statement.TheVariants.{Order}
use Rattle.fw_rule.specs.declared.command.Command.TheVariants.{Add}

-- a number in its range, written in decimal digits, is read as that number
abbrev pub NumbersAreReadAgain : Type 0
NumbersAreReadAgain = (least most n column : ℕ) → least ≤ n → n ≤ most → n < 2 ^ 32 → number least most (record { column = column; text = decimal n }) ≡ Ok n

-- a byte of a word: not blank, and no comment begins there
pub record IsSolid (byte : ℕ) : Type 0 where
  pub solid : is_blank byte ≡ false
  pub plain : byte == 35 ≡ false

-- the text of a word
pub record IsWordText (text : List ℕ) : Type 0 where
  pub some : 0 < length text
  pub bytes : AllByRecursion IsSolid text

-- texts of words, written with one space between them, are read as these words
abbrev pub WordsAreReadAgain : Type 0
WordsAreReadAgain = (texts : List (List ℕ)) → AllByRecursion IsWordText texts
    → map (λ token. (word_at (join_with_byte 32 texts) token).text) (tokens_of (join_with_byte 32 texts)) ≡ texts

-- a list of port ranges in its canonical text is read as these ranges
abbrev pub PortListsAreReadAgain : Type 0
PortListsAreReadAgain = (first : Ports) (others : List Ports) (column : ℕ) → AllByRecursion IsRange (first ∷ others)
    → ranges (record { column = column; text = join_with_byte 44 (map range_text (first ∷ others)) }) ≡ Ok (first ∷ others)

-- a prefix in its canonical text is read as this prefix
abbrev pub PrefixesAreReadAgain : Type 0
PrefixesAreReadAgain = (n : Network) (column : ℕ) → IsNetwork n → n.address < 2 ^ 32 → prefix (record { column = column; text = network_text n }) ≡ Ok n

-- eight groups in their canonical text are read as these groups
abbrev pub GroupsAreReadAgain : Type 0
GroupsAreReadAgain = (groups : List ℕ) → AllByRecursion (λ group. group < 2 ^ 16) groups → length groups ≡ 8 → eight_groups (groups_text groups) ≡ Some groups

-- an IPv6 prefix in its canonical text is read as this prefix
abbrev pub Prefixes6AreReadAgain : Type 0
Prefixes6AreReadAgain = (n : Network6) (column : ℕ) → IsNetwork6 n → n.address < 2 ^ 128 → prefix6 (record { column = column; text = network6_text n }) ≡ Ok n

-- a list of addresses, tables among them, in its canonical text is read as this list
abbrev pub AddressListsAreReadAgain : Type 0
AddressListsAreReadAgain = (first : AddrItem) (others : List AddrItem) (column : ℕ) → AllByRecursion IsItemForm (first ∷ others)
    → items (record { column = column; text = join_with_byte 44 (map item_text (first ∷ others)) }) ≡ Ok (first ∷ others)

-- TCP flags, IP options and types of ICMP and ICMPv6 in their canonical text are read as the same masks and sets
pub record MasksAreReadAgain : Type 0 where
  pub flags : (set clear column : ℕ) → AreSigns 6 set clear → signs flag_names (record { column = column; text = join_with_byte 44 (signed_names flag_names 0 set clear) }) ≡ Ok (record { set = set; clear = clear })
  pub options : (set clear column : ℕ) → AreSigns 4 set clear → signs option_names (record { column = column; text = join_with_byte 44 (signed_names option_names 0 set clear) }) ≡ Ok (record { set = set; clear = clear })
  pub icmp_types : (mask column : ℕ) → 0 < mask → mask < 2 ^ 32 → types (record { column = column; text = join_with_byte 44 (numbers_where (has_bit mask) 32 0) }) ≡ Ok mask
  pub icmp6_types : (set : TypeSet) (column : ℕ) → IsTypesForm set → types6 (record { column = column; text = join_with_byte 44 (numbers_where (has_type set) 256 0) }) ≡ Ok set

-- the draft that names the rule, identity and counter aside
abbrev pub draft_of : Rule → RuleDraft
draft_of rule = record { number = Some rule.number; set = rule.set; action = rule.action; log = rule.log; body = rule.body }

-- a rule's canonical words behind other words
abbrev pub line_behind : List (List ℕ) → Rule → List ℕ
line_behind front rule = join_with_byte 32 (front ++ rule_words rule)

-- a rule in its form is read again from its canonical words, whatever words stand before them
abbrev pub RulesInFormAreReadAgain : Type 0
RulesInFormAreReadAgain = (rule : Rule) (front : List (List ℕ)) → IsRuleForm rule → AllByRecursion IsWordText front
    → rule_in (line_behind front rule) (tokens_of (line_behind front rule)) (length front) ≡ Ok (draft_of rule)

-- two rules in their form with one canonical text are one rule, identity and counter aside
abbrev pub TextsTellRulesApart : Type 0
TextsTellRulesApart = (rule other : Rule) → IsRuleForm rule → IsRuleForm other → rule_text rule ≡ rule_text other → draft_of rule ≡ draft_of other

-- the rule is the draft's, with a number, identity and counter of its own
pub record IsRuleOf (draft : RuleDraft) (rule : Rule) : Type 0 where
  pub number : rule.number ≤ 65535
  pub set : rule.set ≡ draft.set
  pub action : rule.action ≡ draft.action
  pub log : rule.log ≡ draft.log
  pub body : rule.body ≡ draft.body

-- a rule's canonical text as a command
abbrev pub add_line : Rule → List ℕ
add_line rule = codes "add " ++ rule_text rule

-- each rule that the grammar yields, whatever its line, is read again from its canonical text behind `add`
abbrev pub RulesAreReadAgain : Type 0
RulesAreReadAgain = (line : List ℕ) (tokens : List Token) (skipped : ℕ) (draft : RuleDraft) (rule : Rule)
    → rule_in line tokens skipped ≡ Ok draft → IsRuleOf draft rule → rule_in (add_line rule) (tokens_of (add_line rule)) 1 ≡ Ok (draft_of rule)

-- no byte of it is one that may not stand in a script
abbrev pub CanonicalTextsAreReadable : Type 0
CanonicalTextsAreReadable = (rule : Rule) → IsRuleForm rule → first_bad (before_comment (add_line rule)) ≡ None

-- the words of it are `add` and the rule's canonical words
abbrev pub CanonicalTextsKeepTheirWords : Type 0
CanonicalTextsKeepTheirWords = (rule : Rule) → IsRuleForm rule
    → map (λ token. (word_at (add_line rule) token).text) (tokens_of (add_line rule)) ≡ codes "add" ∷ rule_words rule

-- wherever the line `add` with a rule's canonical text stands in a script, it is the command that adds this rule
abbrev pub AddLinesAreReadAgain : Type 0
AddLinesAreReadAgain = (live : Bool) (rule : Rule) → IsRuleForm rule → says live (add_line rule) ≡ Ok (Order (Add (draft_of rule)))
