-- What the words give behind others, as the definition says it.
use Rattle.std.proofs.Common.{◌≡◌, Bool, true, false, ◌&&◌, ◌||◌, if◌then◌else◌, Some, None, Option, List, [], ◌∷◌, ◌++◌, refl, sym, ap, ◌∙◌, append_assoc, option_map}
use Rattle.std.proofs.lemmas.List.{append-nil}
use Rattle.clap.specs.Walk.{Text}
use Rattle.fw_base.specs.Chain.{◌>>=◌}
use Rattle.command_words.specs.Words.{Given, operands, with_journal, with_value, with_operand, without_value, by_option, given_by, is_option, is_divider}
use Rattle.command_words.proofs.Walks.{Pending, words, wants, has, awaits, more_operands, more_values, closed, pending_plain}

-- what was given so far, and then that
abbrev pub joined : Given → Given → Given
joined before given = record {
  journal = given.journal || before.journal;
  caches = before.caches ++ given.caches;
  positional = before.positional ++ given.positional;
}

-- the same, unless something was given twice
abbrev pub both : Bool → Given → Given → Option Given
both twice before given = if twice then None else Some (joined before given)

-- the journal isn't asked for twice
abbrev pub merged : Given → Option Given → Option Given
merged before None = None
merged before (Some given) = both (given.journal && before.journal) before given

-- what was given so far, with what is pending; a value that is awaited isn't there yet
abbrev pub told : Given → Pending → Given
told given (words vs) = more_operands given vs
told given wants = given
told given (has value) = more_values given (value ∷ [])

-- what all the words give, where these come next
abbrev pub after : Given → Pending → List Text → Option Given
after given pending next = merged (told given pending) (given_by (awaits pending) next)

same_given : (journal : Bool) (caches values us vs : List Text) → caches ≡ values → us ≡ vs → ◌≡◌ {A = Given} (record { journal = journal; caches = caches; positional = us }) (record { journal = journal; caches = values; positional = vs })
same_given journal caches values us vs c p = λ i. record { journal = journal; caches = c i; positional = p i }

value_joined : (before given : Given) (value : Text) → joined before (with_value value given) ≡ joined (more_values before (value ∷ [])) given
value_joined before given value = same_given (given.journal || before.journal) _ _ _ _ (sym (append_assoc before.caches (value ∷ []) given.caches)) refl

-- a value comes before what follows
pub value_merged : (before : Given) (given : Option Given) (value : Text) → merged before (option_map (with_value value) given) ≡ merged (more_values before (value ∷ [])) given
value_merged before None value = refl
value_merged before (Some given) value = ap (λ (g : Given). if given.journal && before.journal then None else Some g) (value_joined before given value)

operand_joined : (before given : Given) (word : Text) → joined before (with_operand word given) ≡ joined (more_operands before (word ∷ [])) given
operand_joined before given word = same_given (given.journal || before.journal) _ _ _ _ refl (sym (append_assoc before.positional (word ∷ []) given.positional))

operand_merged : (before : Given) (given : Option Given) (word : Text) → merged before (option_map (with_operand word) given) ≡ merged (more_operands before (word ∷ [])) given
operand_merged before None word = refl
operand_merged before (Some given) word = ap (λ (g : Given). if given.journal && before.journal then None else Some g) (operand_joined before given word)

-- what was given so far, where an operand comes
abbrev pub behind_plain : Given → Pending → Given
behind_plain before (words vs) = before
behind_plain before wants = before
behind_plain before (has value) = more_values before (value ∷ [])

-- an operand is the value that is awaited, or comes behind those that are pending
pub plain_merged : (before : Given) (pending : Pending) (word : Text) (given : Option Given)
    → merged (told before pending) (if awaits pending then option_map (with_value word) given else option_map (with_operand word) given) ≡ merged (told (behind_plain before pending) (pending_plain pending word)) given
plain_merged before (words vs) word given =
    operand_merged (more_operands before vs) given word
    ∙ ap (λ (us : List Text). merged (record before { positional = us }) given) (append_assoc before.positional vs (word ∷ []))
plain_merged before wants word given = value_merged before given word
plain_merged before (has value) word given = operand_merged (more_values before (value ∷ [])) given word

-- where no operand comes, what is pending is used
pub closed_merged : (before : Given) (pending : Pending) (given : Option Given) → merged (told before pending) (option_map (without_value (awaits pending)) given) ≡ merged (closed before pending) given
closed_merged before (words vs) None = refl
closed_merged before (words vs) (Some given) = refl
closed_merged before wants given = value_merged before given []
closed_merged before (has value) None = refl
closed_merged before (has value) (Some given) = refl

-- the first `--journal`
pub journal_merged : (before : Given) (given : Option Given) → before.journal ≡ false → merged before (given >>= with_journal) ≡ merged (record before { journal = true }) given
journal_merged before None unseen = refl
journal_merged before (Some given) unseen = by_flag given.journal
  where
    by_flag : (flag : Bool) → merged before (with_journal (record given { journal = flag })) ≡ merged (record before { journal = true }) (Some (record given { journal = flag }))
    by_flag true = refl
    by_flag false = ap (λ b. both b before (record given { journal = true })) unseen

-- and a second one
pub second_merged : (before : Given) (given : Option Given) → before.journal ≡ true → merged before (given >>= with_journal) ≡ None
second_merged before None seen = refl
second_merged before (Some given) seen = by_flag given.journal
  where
    by_flag : (flag : Bool) → merged before (with_journal (record given { journal = flag })) ≡ None
    by_flag true = refl
    by_flag false = ap (λ b. both b before (record given { journal = true })) seen

-- ---- word by word

given_divider : (awaited : Bool) (word : Text) (next : List Text) → is_divider word ≡ true → given_by awaited (word ∷ next) ≡ Some (without_value awaited (operands next))
unfolding given_by
given_divider awaited word next same =
    ap (λ t. let o : Option Given = if t then Some (without_value awaited (operands next))
    else if is_option word then option_map (without_value awaited) (by_option word (given_by false next) (given_by true next))
    else if awaited then option_map (with_value word) (given_by false next)
    else option_map (with_operand word) (given_by false next) in o) same

given_option : (awaited : Bool) (word : Text) (next : List Text) → is_divider word ≡ false → is_option word ≡ true
    → given_by awaited (word ∷ next) ≡ option_map (without_value awaited) (by_option word (given_by false next) (given_by true next))
unfolding given_by
given_option awaited word next other is =
    ap (λ t. let o : Option Given = if t then Some (without_value awaited (operands next))
    else if is_option word then option_map (without_value awaited) (by_option word (given_by false next) (given_by true next))
    else if awaited then option_map (with_value word) (given_by false next)
    else option_map (with_operand word) (given_by false next) in o) other
    ∙ ap (λ t. let o : Option Given = if t then option_map (without_value awaited) (by_option word (given_by false next) (given_by true next))
    else if awaited then option_map (with_value word) (given_by false next)
    else option_map (with_operand word) (given_by false next) in o) is

given_plain : (awaited : Bool) (word : Text) (next : List Text) → is_divider word ≡ false → is_option word ≡ false
    → given_by awaited (word ∷ next) ≡ (if awaited then option_map (with_value word) (given_by false next) else option_map (with_operand word) (given_by false next))
unfolding given_by
given_plain awaited word next other plain =
    ap (λ t. let o : Option Given = if t then Some (without_value awaited (operands next))
    else if is_option word then option_map (without_value awaited) (by_option word (given_by false next) (given_by true next))
    else if awaited then option_map (with_value word) (given_by false next)
    else option_map (with_operand word) (given_by false next) in o) other
    ∙ ap (λ t. let o : Option Given = if t then option_map (without_value awaited) (by_option word (given_by false next) (given_by true next))
    else if awaited then option_map (with_value word) (given_by false next)
    else option_map (with_operand word) (given_by false next) in o) plain

-- behind `--`
pub after_divider : (before : Given) (pending : Pending) (word : Text) (next : List Text) → is_divider word ≡ true → after before pending (word ∷ next) ≡ Some (more_operands (closed before pending) next)
after_divider before pending word next same =
    ap (merged (told before pending)) (given_divider (awaits pending) word next same)
    ∙ closed_merged before pending (Some (operands next))
    ∙ ap Some (same_given (closed before pending).journal _ _ _ _ (append-nil (closed before pending).caches) refl)

-- behind the last word
pub after_none : (before : Given) (pending : Pending) → after before pending [] ≡ Some (closed before pending)
unfolding given_by
after_none before pending =
    closed_merged before pending (Some (operands []))
    ∙ ap Some (same_given (closed before pending).journal _ _ _ _ (append-nil (closed before pending).caches) (append-nil (closed before pending).positional))

-- behind an option
pub after_option : (before : Given) (pending : Pending) (word : Text) (next : List Text) → is_divider word ≡ false → is_option word ≡ true
    → after before pending (word ∷ next) ≡ merged (closed before pending) (by_option word (given_by false next) (given_by true next))
after_option before pending word next other is = ap (merged (told before pending)) (given_option (awaits pending) word next other is) ∙ closed_merged before pending (by_option word (given_by false next) (given_by true next))

not_awaited : (pending : Pending) (word : Text) → awaits (pending_plain pending word) ≡ false
not_awaited (words vs) word = refl
not_awaited wants word = refl
not_awaited (has value) word = refl

-- behind an operand
pub after_plain : (before : Given) (pending : Pending) (word : Text) (next : List Text) → is_divider word ≡ false → is_option word ≡ false → after before pending (word ∷ next) ≡ after (behind_plain before pending) (pending_plain pending word) next
after_plain before pending word next other plain =
    ap (merged (told before pending)) (given_plain (awaits pending) word next other plain)
    ∙ plain_merged before pending word (given_by false next)
    ∙ ap (λ b. merged (told (behind_plain before pending) (pending_plain pending word)) (given_by b next)) (sym (not_awaited pending word))
