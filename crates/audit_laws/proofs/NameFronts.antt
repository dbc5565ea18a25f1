-- The flow names of an edition stand at the front of those of each later one.
use Rattle.std.proofs.Common.{◌≡◌, ℕ, ◌+◌, Bool, true, false, Option, Some, None, Ok, Err, List, [], ◌∷◌, ◌++◌, length, not, nat_le, refl, sym, ap, subst, ◌∙◌, append_assoc}
use Rattle.std.specs.List.{AllByRecursion}
use Rattle.std.specs.Prelude.{⊤, ◌==◌, ◌||◌, if◌then◌else◌}
use Rattle.std.proofs.lemmas.List.{append-nil}
use Rattle.report_texts.specs.Report.{last_edition}
use Rattle.fw_rule.specs.Bits.{has_bit}
use Rattle.fw_rule.specs.declared.command.Command.{Command}
use Rattle.fw_rule.specs.declared.command.Command.TheVariants.{Add, Delete, DeleteSet, Flush, Zero, ListRules, SetMask, MoveSet, MoveRule, SwapSets, Table, Sysctl, Local}
use Rattle.fw_rule.specs.declared.rule_draft.RuleDraft.{RuleDraft}
use Rattle.fw_world.specs.Editions.{AreEditionsFrom}
use Rattle.generation_store.specs.Published.{Published}
use Rattle.lookup_tables.specs.Tables.{NamedTables}
use Rattle.rule_chain.specs.Configuration.{Configuration}
use Rattle.rule_chain.specs.Names.{name_of}
use Rattle.rule_edits.specs.Answers.{Answer, ◌>>=◌, first_fault, unless_refused}
use Rattle.rule_edits.specs.Apply.{add_locals, add_rule, apply, change_table, delete_rules, delete_set, deletion_fault, flush_rules, has_counters, mask_after, move_rule, move_set, set_mask, swap_sets, with_fresh_counters, with_rule, zero_counters, zeroing_fault}
use Rattle.rule_edits.specs.Lookups.{change_tables, with_uses}
use Rattle.rule_edits.specs.NewNames.{is_listed, with_name, with_name_of}
use Rattle.rule_edits.specs.Rules.{chosen_number, count_of, has_rule, is_zeroed, move_rules, set_moved, set_of_number, set_swapped, without_numbers}
use Rattle.rule_edits.specs.Uses.{uses_of}
use Rattle.rule_edits.specs.declared.apply_fault.ApplyFault.{ApplyFault}
use Rattle.rule_edits.specs.declared.apply_fault.ApplyFault.TheVariants.{NoSuchRule, ReservedRule, ReservedSet, TooManyRules, TooManyCounters}
use Rattle.audit_laws.specs.Printable.{names_of}

-- the names stand at the front of the others
pub record IsFront (own all : List (List ℕ)) : Type 0 where
  pub more : List (List ℕ)
  pub is : all ≡ own ++ more

all_front : (names : List (List ℕ)) → IsFront names names
all_front names = record { more = []; is = sym (append-nil names) }

front_of_front : (a b c : List (List ℕ)) → IsFront a b → IsFront b c → IsFront a c
front_of_front a b c one other = record {
  more = one.more ++ other.more;
  is = other.is ∙ ap (λ (names : List (List ℕ)). names ++ other.more) one.is ∙ append_assoc a one.more other.more;
}

-- ---- a command

-- what is answered keeps the names at the front
abbrev Keeps : Configuration → Answer Configuration → Type 0
Keeps c (Ok made) = IsFront c.names made.names
Keeps c (Err fault) = ⊤

kept_if : (c : Configuration) (b : Bool) (fault : ApplyFault) (answer : Answer Configuration) → Keeps c answer → Keeps c (if b then Err fault else answer)
kept_if c true fault answer keeps = tt
kept_if c false fault answer keeps = keeps

kept_unless : (c : Configuration) (refused : Option ApplyFault) (answer : Answer Configuration) → Keeps c answer → Keeps c (unless_refused refused answer)
kept_unless c None answer keeps = keeps
kept_unless c (Some fault) answer keeps = tt

kept_where : (c : Configuration) (b : Bool) (fault : ApplyFault) (answer : Answer Configuration) → Keeps c answer → Keeps c (if b then answer else Err fault)
kept_where c true fault answer keeps = keeps
kept_where c false fault answer keeps = tt

kept_then : {X : Type 0} (c : Configuration) (answer : Answer X) (step : X → Answer Configuration) → ((x : X) → answer ≡ Ok x → Keeps c (step x)) → Keeps c (answer >>= step)
kept_then c (Ok x) step keeps = keeps x refl
kept_then c (Err fault) step keeps = tt

same_ok : (a b : List (List ℕ)) → ◌≡◌ {A = Answer (List (List ℕ))} (Ok a) (Ok b) → a ≡ b
same_ok a b is = cc

named_front : (names made : List (List ℕ)) (name : List ℕ) (listed full : Bool) → is_listed names name ≡ listed → nat_le 64 (length names) ≡ full → with_name names name ≡ Ok made → IsFront names made
named_front names made name true full known room is =
    let there : Ok names ≡ Ok made = rw known at is in
    subst (λ (all : List (List ℕ)). IsFront names all) (same_ok names made there) (all_front names)
named_front names made name false true known room is = let no = rw (known, room) at is in absurd (cc)
named_front names made name false false known room is =
    let there : Ok (names ++ name ∷ []) ≡ Ok made = rw (known, room) at is in
    record { more = name ∷ []; is = sym (same_ok (names ++ name ∷ []) made there) }

new_names : (names made : List (List ℕ)) (name : Option (List ℕ)) → with_name_of names name ≡ Ok made → IsFront names made
unfolding with_name_of
new_names names made None is = subst (λ (all : List (List ℕ)). IsFront names all) (same_ok names made is) (all_front names)
new_names names made (Some name) is = named_front names made name (is_listed names name) (nat_le 64 (length names)) refl refl is

added : (c : Configuration) (draft : RuleDraft) → Keeps c (add_rule c draft)
unfolding add_rule
added c draft =
    let name : Option (List ℕ) = name_of draft.action draft.body in
    let with_tables : List (List ℕ) → NamedTables → Answer Configuration = λ names made. Ok (record (with_rule c draft) { names = names; tables = made }) in
    let with_names : List (List ℕ) → Answer Configuration = λ names. with_uses c.tables (uses_of draft.body) >>= with_tables names in
    let named : Answer Configuration = with_name_of c.names name >>= with_names in
    let counted : Answer Configuration = if not (has_counters c 1) then Err TooManyCounters else named in
    let room : Answer Configuration = if nat_le 65535 (length c.rules) then Err TooManyRules else counted in
    kept_if c (chosen_number c.rules draft.number == 65535) ReservedRule room
    (kept_if c (nat_le 65535 (length c.rules)) TooManyRules counted
    (kept_if c (not (has_counters c 1)) TooManyCounters named
    (kept_then c (with_name_of c.names name) with_names (λ names made.
    kept_then c (with_uses c.tables (uses_of draft.body)) (with_tables names) (λ tables used. new_names c.names names name made)))))

kept : (c : Configuration) (command : Command) → Keeps c (apply c command)
unfolding delete_rules delete_set flush_rules zero_counters set_mask move_set move_rule swap_sets change_table add_locals
kept c (Add draft) = added c draft
kept c (Delete numbers) = kept_unless c (first_fault (deletion_fault c.rules) numbers) (Ok (record c { rules = without_numbers numbers c.rules })) (all_front c.names)
kept c (DeleteSet set) = all_front c.names
kept c Flush = all_front c.names
kept c (Zero numbers) =
    let counted : Bool = has_counters c (count_of (is_zeroed numbers) c.rules) in
    kept_unless c (first_fault (zeroing_fault c.rules) numbers) (if counted then Ok (with_fresh_counters c numbers) else Err TooManyCounters)
    (kept_where c counted TooManyCounters (Ok (with_fresh_counters c numbers)) (all_front c.names))
kept c ListRules = all_front c.names
kept c (SetMask disable enable) = kept_if c (has_bit disable 31) ReservedSet (Ok (record c { disabled = mask_after c.disabled disable enable })) (all_front c.names)
kept c (MoveSet from to) = kept_if c (from == 31 || to == 31) ReservedSet (Ok (record c { rules = move_rules (set_moved from to) c.rules })) (all_front c.names)
kept c (MoveRule number to) =
    let moved : Answer Configuration = Ok (record c { rules = move_rules (set_of_number number to) c.rules }) in
    let there : Answer Configuration = if has_rule c.rules number then moved else Err NoSuchRule in
    let free : Answer Configuration = if number == 65535 then Err ReservedRule else there in
    kept_if c (to == 31) ReservedSet free (kept_if c (number == 65535) ReservedRule there (kept_where c (has_rule c.rules number) NoSuchRule moved (all_front c.names)))
kept c (SwapSets first second) = kept_if c (first == 31 || second == 31) ReservedSet (Ok (record c { rules = move_rules (set_swapped first second) c.rules })) (all_front c.names)
kept c (Table name command) =
    kept_then c (change_tables c.tables c.rules name command) (λ (tables : NamedTables). Ok (record c { tables = tables })) (λ tables changed. all_front c.names)
kept c (Sysctl setting value) = all_front c.names
kept c (Local addresses) = all_front c.names

-- ---- editions

made_front : (c made : Configuration) (command : Command) → apply c command ≡ Ok made → IsFront c.names made.names
made_front c made command is = subst (λ (answer : Answer Configuration). Keeps c answer) is (kept c command)

-- so it is with each edition and the last one
abbrev pub AreFronts : List (List ℕ) → List Published → Type 0
AreFronts names editions = AllByRecursion (λ edition. IsFront edition.config.names names) editions

-- the flow names of each edition stand at the front of those of the last one
pub editions_front : (number : ℕ) (config : Configuration) (commands : List Command) (editions : List Published) → AreEditionsFrom number config commands editions
    → IsFront config.names (names_of (last_edition editions)) × AreFronts (names_of (last_edition editions)) editions
editions_front number config commands [] are = absurd are
editions_front number config [] (edition ∷ []) are =
    let own = all_front edition.config.names in
    (subst (λ (c : Configuration). IsFront c.names edition.config.names) are.configured own, (own, tt))
editions_front number config [] (edition ∷ next ∷ editions) are = absurd are
editions_front number config (command ∷ commands) (edition ∷ []) are = absurd are.3
editions_front number config (command ∷ commands) (edition ∷ next ∷ editions) are =
    let (first, others) = editions_front (number + 1) are.1 commands (next ∷ editions) are.3 in
    let last : List (List ℕ) = names_of (last_edition (next ∷ editions)) in
    let here : IsFront config.names last = front_of_front config.names are.1.names last (made_front config are.1 command are.2) first in
    (here, (subst (λ (c : Configuration). IsFront c.names last) (sym are.0.configured) here, others))
