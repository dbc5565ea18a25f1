use Rattle.std.proofs.Common.{rules, ◌≡◌, ◌≤◌, ◌∙◌, ℕ, Bool, ap, ap₂, sym, subst, codes, map, length, string_bytes, Some, None, Option, List, [], unwrap_or, option_map, inl, inr}
use Rattle.clap.specs.Lexer.{usize_max}
use Rattle.clap.specs.Kinds.{IsAmong}
use Rattle.clap.specs.Matches.{found_of}
use Rattle.clap.specs.Walk.{Row, rows_of, all_of, one_of}
use Rattle.clap.specs.Simple.{App, is_simple, matches_of}
use Rattle.clap.specs.Faults.{fault_of, is_simple_and_free}
use Rattle.clap.proofs.WalkLemmas.{one_text-rows}
use Rattle.fw_base.specs.Chain.{◌>>=◌}
use Rattle.command_words.specs.CommandLine.{command_app}
use Rattle.command_words.specs.Words.{Arguments, Given, arguments_from, cache_of}
use Rattle.command_words.proofs.Ends.{refused_words, taken_words, flag_is}
use Rattle.command_words.proofs.Walks.{shown_is}
use Rattle.command_words.proofs.arguments.arguments_in.Goals as goal

-- where the values of `--cache` come to this, so do all the options and operands
from_cache : (given : Given) (cache : Option (Option ℕ)) → cache ≡ cache_of given.caches → option_map (λ cache. record { journal = given.journal; cache = cache; positional = given.positional }) cache ≡ arguments_from given
from_cache given cache is = ap (option_map (λ cache. let a : Arguments = record { journal = given.journal; cache = cache; positional = given.positional } in a)) is

pub returns-in_default : goal.returns-in_default
returns-in_default c =
    let app_is = c.in_ok-command_line.ensures in
    let words = map string_bytes c.args.words.now in
    let few : length c.args.words.now ≤ usize_max = search rules in
    elim (c.in-Err.ensures.kinds (ap is_simple_and_free app_is)) [
      | inl memory ↦ absurd (c.in_default.not-OutOfMemory (c.kind.ensures ∙ memory))
      | inr among ↦ record {
        named = ap (λ (o : Option Given). o >>= arguments_from) (sym (refused_words c.args.words.now few c.in-Err.error.kind (subst (λ (a : App). IsAmong c.in-Err.error.kind (fault_of a words)) app_is among)));
        within = tt;
      }
    ]

pub returns-in_default-cache_in-clause-named : goal.returns-in_default-cache_in-clause-named
returns-in_default-cache_in-clause-named c =
    let app_is = c.in_ok-command_line.ensures in
    let words = map string_bytes c.args.words.now in
    let few : length c.args.words.now ≤ usize_max = search rules in
    let (given, are, matches) = taken_words c.args.words.now few (ap (λ (a : App). fault_of a words) (sym app_is) ∙ c.in-Ok.ensures.kinds (ap is_simple_and_free app_is)) in
    let rows : rows_of (found_of c.in-Ok.matches) ≡ matches_of command_app words = (c.in-Ok.ensures.matches (ap is_simple app_is)).0 ∙ ap (λ (a : App). matches_of a words) app_is in
    let cache = c.in_default-cache_in.ensures.value ∙ ap (λ (rs : List Row). cache_of (unwrap_or (all_of (codes "cache") rs) [])) rows ∙ ap (λ (o : Option (List (List ℕ))). cache_of (unwrap_or o [])) matches.caches ∙ ap cache_of (shown_is given.caches) in
    from_cache given None cache ∙ ap (λ (o : Option Given). o >>= arguments_from) (sym are)

pub returns-clause-named : goal.returns-clause-named
returns-clause-named c =
    let app_is = c.in_ok-command_line.ensures in
    let words = map string_bytes c.args.words.now in
    let few : length c.args.words.now ≤ usize_max = search rules in
    let (given, are, matches) = taken_words c.args.words.now few (ap (λ (a : App). fault_of a words) (sym app_is) ∙ c.in-Ok.ensures.kinds (ap is_simple_and_free app_is)) in
    let rows : rows_of (found_of c.in-Ok.matches) ≡ matches_of command_app words = (c.in-Ok.ensures.matches (ap is_simple app_is)).0 ∙ ap (λ (a : App). matches_of a words) app_is in
    let positional = c.in_ok-positional_in.ensures ∙ ap (λ (rs : List Row). unwrap_or (all_of (codes "positional") rs) []) rows ∙ ap (λ (o : Option (List (List ℕ))). unwrap_or o []) matches.positional ∙ shown_is given.positional in
    let text = one_text-rows (found_of c.in-Ok.matches) (codes "journal") ∙ ap (one_of (codes "journal")) rows ∙ matches.journal in
    let journal = flag_is _ c.get_flag.result given.journal text c.get_flag.ensures.value c.get_flag.ensures.other in
    let cache = c.in-Some.ensures.value ∙ ap (λ (rs : List Row). cache_of (unwrap_or (all_of (codes "cache") rs) [])) rows ∙ ap (λ (o : Option (List (List ℕ))). cache_of (unwrap_or o [])) matches.caches ∙ ap cache_of (shown_is given.caches) in
    ap₂ (λ (j : Bool) (ps : List (List ℕ)). let a : Arguments = record { journal = j; cache = c.in-Some.cache; positional = ps } in Some a) journal positional
    ∙ from_cache given (Some c.in-Some.cache) cache ∙ ap (λ (o : Option Given). o >>= arguments_from) (sym are)
