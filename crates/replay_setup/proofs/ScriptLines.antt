-- The lines of a script one after another.
use Rattle.std.proofs.Common.{◌≡◌, ℕ, ◌+◌, ◌<◌, ◌≤◌, suc, List, [], ◌∷◌, ◌++◌, Option, None, Some, Result, Ok, Err, length, drop, get_or, drop-cons, drop_of_length-le, refl, ap, sym, ◌∙◌, arith, append_assoc, append-nil}
use Rattle.fw_command.specs.declared.script.Line.{Line}
use Rattle.rule_chain.specs.Configuration.{Configuration}
use Rattle.capture_tracks.specs.Commands.{listing_of}
use Rattle.replay_setup.specs.FirstEdition.{◌>>=◌, GivesView, configured_line, configuration_behind, listed_first, with_answer, listings_of}
use Rattle.report_texts.specs.declared.ends.LineAnswer.{LineAnswer}
use Rattle.replay_setup.specs.declared.script_error.ScriptError.{ScriptError}
use Rattle.replay_setup.specs.declared.script_error.ScriptError.TheVariants.{Fault, Refused, OutOfMemory}

-- the line at i, and those behind it
pub line_at : (lines : List Line) (i : ℕ) (x : Line) → i < length lines → x ≡ get_or lines i x → drop i lines ≡ x ∷ drop (i + 1) lines
line_at lines i x within is =
    let next : i + 1 ≡ suc i = omega arith in
    rw next (drop-cons lines i x within ∙ ap (λ (y : Line). y ∷ drop (suc i) lines) (sym is))

-- one part of an answer that failed fails the whole
pub passed_on : {X Y Z W : Type 0} (part : X → Y) (whole : Z → W) (error : ScriptError) (a : Result Y ScriptError) (b : Result W ScriptError)
    → ((e : ScriptError) → a ≡ Err e → b ≡ Err e) → GivesView part (Err error) a → GivesView whole (Err error) b
passed_on part whole OutOfMemory a b f h = tt
passed_on part whole (Fault fault) a b f h = f (Fault fault) h
passed_on part whole (Refused refused) a b f h = f (Refused refused) h

-- a line that is accepted: the lines behind it are carried out on the configuration that it makes
pub configured_on : (config next : Configuration) (x : Line) (rest : List Line) → configured_line config x ≡ Ok next → configuration_behind config (x ∷ rest) ≡ configuration_behind next rest
unfolding configuration_behind
configured_on config next x rest ok = ap (λ (r : Result Configuration ScriptError). r >>= λ (c : Configuration). configuration_behind c rest) ok

-- the first line that is refused gives the error of all
pub configured_stops : (config : Configuration) (x : Line) (rest : List Line) (e : ScriptError) → configured_line config x ≡ Err e → configuration_behind config (x ∷ rest) ≡ Err e
unfolding configuration_behind
configured_stops config x rest e stop = ap (λ (r : Result Configuration ScriptError). r >>= λ (c : Configuration). configuration_behind c rest) stop

-- where no line is left, the configuration stands as it is
pub configured_none : (config : Configuration) (lines : List Line) (i : ℕ) → length lines ≤ i → configuration_behind config (drop i lines) ≡ Ok config
unfolding configuration_behind
configured_none config lines i past = ap (configuration_behind config) (drop_of_length-le lines {i = i} past)

-- the answers so far before those to the lines behind
abbrev pub behind : Configuration → List LineAnswer → List Line → Result (List LineAnswer) ScriptError
behind config answers rest = listings_of config rest >>= λ others. Ok (answers ++ others)

-- where no line is left, the answers so far are all of them
pub listings_none : (config : Configuration) (answers : List LineAnswer) (lines : List Line) (i : ℕ) → length lines ≤ i → behind config answers (drop i lines) ≡ Ok answers
unfolding listings_of
listings_none config answers lines i past =
    ap (behind config answers) (drop_of_length-le lines {i = i} past) ∙ ap (λ (l : List LineAnswer). let r : Result (List LineAnswer) ScriptError = Ok l in r) (append-nil answers)

-- the first listing that is refused gives the error of all
pub listings_stops : (config : Configuration) (answers : List LineAnswer) (x : Line) (rest : List Line) (e : ScriptError) → listed_first config x.line (listing_of x.command) ≡ Err e → behind config answers (x ∷ rest) ≡ Err e
unfolding listings_of
listings_stops config answers x rest e stop =
    ap (λ (r : Result (Option LineAnswer) ScriptError). (r >>= λ (a : Option LineAnswer). listings_of config rest >>= λ (others : List LineAnswer). Ok (with_answer a others)) >>= λ (others : List LineAnswer). Ok (answers ++ others)) stop

joined : (answer : Option LineAnswer) (answers others : List LineAnswer) → answers ++ with_answer answer others ≡ (answers ++ with_answer answer []) ++ others
joined None answers others = ap (λ (l : List LineAnswer). l ++ others) (sym (append-nil answers))
joined (Some a) answers others = sym (append_assoc answers (a ∷ []) others)

-- a line's answer, where it has one, stands behind the answers so far
pub listings_on : (config : Configuration) (answers now : List LineAnswer) (x : Line) (rest : List Line) (answer : Option LineAnswer) → listed_first config x.line (listing_of x.command) ≡ Ok answer
    → now ≡ answers ++ with_answer answer [] → behind config answers (x ∷ rest) ≡ behind config now rest
unfolding listings_of
listings_on config answers now x rest answer ok pushed =
    ap (λ (r : Result (Option LineAnswer) ScriptError). (r >>= λ (a : Option LineAnswer). listings_of config rest >>= λ (others : List LineAnswer). Ok (with_answer a others)) >>= λ (others : List LineAnswer). Ok (answers ++ others)) ok
    ∙ go (listings_of config rest)
    ∙ ap (λ (l : List LineAnswer). behind config l rest) (sym pushed)
  where
    go : (r : Result (List LineAnswer) ScriptError) → ((r >>= λ (others : List LineAnswer). let q : Result (List LineAnswer) ScriptError = Ok (with_answer answer others) in q) >>= λ (others : List LineAnswer). let q : Result (List LineAnswer) ScriptError = Ok (answers ++ others) in q)
        ≡ (r >>= λ (others : List LineAnswer). Ok ((answers ++ with_answer answer []) ++ others))
    go (Ok others) = ap (λ (l : List LineAnswer). let r : Result (List LineAnswer) ScriptError = Ok l in r) (joined answer answers others)
    go (Err e) = refl
