-- The parts of an ask's line, read back: what is asked, with which flags, and what was answered.
use Rattle.std.specs.Prelude.{ℕ, Option, Some, None, List, [], ◌∷◌, map, codes}
use Rattle.fw_rule.specs.declared.state_opt.LimitMask.{LimitMask}
use Rattle.fw_rule.specs.declared.state_opt.LimitMask.TheVariants.{SrcAddr, SrcPort, DstAddr, DstPort}
use Rattle.state_asks.specs.declared.reply.Reply.{Reply}
use Rattle.state_asks.specs.declared.reply.Reply.TheVariants.{Found, NotFound, Created, Exists, LimitReached, TableFull}
use Rattle.state_asks.specs.declared.reply.Way.TheVariants.{Forward, Reverse}
use Rattle.report_texts.specs.JournalText.{flags_word}
use Rattle.fw_base.specs.Chain.{◌>>=◌, or_else}
use Rattle.report_reading.specs.Parts.{Part, behind, told_by, told_where, number_at, positive_at}
use Rattle.report_reading.specs.RecordLines.{named_code_at, count_in}
use Rattle.report_reading.specs.declared.ask_parts.Question.{Question}
use Rattle.report_reading.specs.declared.ask_parts.Question.TheVariants.{Lookup, Install}

-- the part of a flow that a limit counts by, and the space behind it
unfoldable pub mask_at : List ℕ → Part LimitMask
mask_at bytes =
    or_else (told_by (codes "src-addr ") SrcAddr bytes)
    (or_else (told_by (codes "src-port ") SrcPort bytes)
    (or_else (told_by (codes "dst-addr ") DstAddr bytes) (told_by (codes "dst-port ") DstPort bytes)))

-- a limit's mask and number, as far as the name
unfoldable pub counted_limit_at : List ℕ → Part (Option (LimitMask × ℕ))
counted_limit_at bytes = do
  mask ← mask_at bytes
  most ← positive_at 65535 mask.1
  rest ← behind (codes " :") most.1
  Some (Some (mask.0, most.0), rest)

-- whether and by what a state is limited, as far as the name
unfoldable pub limit_at : List ℕ → Part (Option (LimitMask × ℕ))
limit_at bytes = or_else (told_by (codes " keep :") None bytes) (behind (codes " limit ") bytes >>= counted_limit_at)

-- an install of the rule of this identity, as far as the name
unfoldable pub install_at : List ℕ → Part Question
install_at bytes = do
  id ← number_at 4294967295 bytes
  limit ← limit_at id.1
  Some (Install id.0 limit.0, limit.1)

-- what is asked, as far as the name
unfoldable pub question_at : List ℕ → Part Question
question_at bytes = or_else (told_by (codes " lookup :") Lookup bytes) (behind (codes " install ") bytes >>= install_at)

-- the words of the flags 0 to 7
unfoldable pub flag_words : List (List ℕ)
flag_words = map flags_word (0 ∷ 1 ∷ 2 ∷ 3 ∷ 4 ∷ 5 ∷ 6 ∷ 7 ∷ [])

-- the flags between their spaces
unfoldable pub flags_at : List ℕ → Part ℕ
flags_at bytes = behind (codes " ") bytes >>= named_code_at flag_words 0

-- in which direction the state of the rule of this identity was found, to the line's end
unfoldable pub way_in : ℕ → List ℕ → Option Reply
way_in id bytes =
    or_else (told_where (codes " forward\n") (Found Forward (record { id = id; number = 0 })) bytes)
    (told_where (codes " reverse\n") (Found Reverse (record { id = id; number = 0 })) bytes)

-- that a state was found, to the line's end
unfoldable pub found_in : List ℕ → Option Reply
found_in bytes = do
  front ← behind (codes "found ") bytes
  id ← number_at 4294967295 front
  way_in id.0 id.1

-- a reply with a count of states, to the line's end
unfoldable pub counted_reply_in : List ℕ → Option Reply
counted_reply_in bytes =
    or_else (count_in (codes "limit ") bytes >>= λ count. Some (LimitReached count)) (count_in (codes "full ") bytes >>= λ count. Some (TableFull count))

-- what was answered, to the line's end
unfoldable pub reply_in : List ℕ → Option Reply
reply_in bytes =
    or_else (told_where (codes "notfound\n") NotFound bytes)
    (or_else (told_where (codes "created\n") Created bytes)
    (or_else (told_where (codes "exists\n") Exists bytes) (or_else (found_in bytes) (counted_reply_in bytes))))
