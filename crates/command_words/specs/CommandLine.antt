-- The command line, as the library that reads the words is told it.
use Rattle.std.specs.Prelude.{Some, true, [], ◌∷◌, codes}
use Rattle.clap.specs.Lexer.{usize_max}
use Rattle.clap.specs.Walk.{Rule}
use Rattle.clap.specs.Simple.{App, new_app, new_rule, on_top, with_rule}
use Rattle.clap.specs.declared.builder.action.ArgAction.TheVariants.{Append, SetTrue}

-- the option `--journal`, which has no value
abbrev pub journal_rule : Rule
journal_rule = record (new_rule (codes "journal")) { long = Some (codes "journal"); action = Some SetTrue }

-- the option `--cache`, which has one value, or an empty one where none is there, and may be used more than once:
-- what its values come to is for whoever reads them
abbrev pub cache_rule : Rule
cache_rule = record (new_rule (codes "cache")) {
  long = Some (codes "cache");
  action = Some Append;
  range = Some (record { start_inclusive = 0; end_inclusive = 1 });
  missing = [] ∷ [];
}

-- positional words, as many as there are
abbrev pub positional_rule : Rule
positional_rule = record (new_rule (codes "positional")) {
  range = Some (record { start_inclusive = 0; end_inclusive = usize_max });
}

-- these alone, with no help of the library's own
abbrev pub command_app : App
command_app = with_rule (with_rule (with_rule (on_top (λ s. record s { disable_help_flag = true }) (new_app (codes "ipfw_replay"))) journal_rule) cache_rule) positional_rule
