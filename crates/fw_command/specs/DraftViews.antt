-- The script of the lines that were read, as contracts see it.
use Rattle.fw_command.specs.Drafts.{Draft}
use Rattle.fw_command.specs.declared.script_draft.ScriptDraft.{ScriptDraft}

-- the lists of a draft
abbrev pub draft_view : ScriptDraft → Draft
draft_view draft = record { before = draft.before.items; live = draft.live.items }
